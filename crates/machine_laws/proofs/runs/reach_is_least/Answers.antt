use Rattle.std.proofs.Common.{◌≡◌, true}
use Rattle.machine_laws.specs.RunLaws.{ReachIsLeast}
use Rattle.napi_types.proofs.parts.Reaching.{reach-roots, reach-closed, reach-least}
use Rattle.machine_laws.proofs.runs.reach_is_least.Goals as goal

law : ReachIsLeast
law vs roots = record {
  rooted = reach-roots vs roots;
  closed = reach-closed vs roots;
  least = λ p rooted closed. reach-least vs roots (λ n. p n ≡ true) rooted closed;
}

pub returns : goal.returns
returns c = law
