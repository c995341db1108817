use Rattle.std.proofs.Common.{map}
use Rattle.napi_types.specs.plain.Lists.{has_number}
use Rattle.napi_reference.proofs.Emptying.{rows-emptied}
use Rattle.napi_reference.proofs.refs.Refs.empty_of.Goals as goal

pub returns : goal.returns
returns c = record {
  emptied = rw c.empty_weak.ensures (rows-emptied (λ v. has_number v (map (λ f. f.0) c.args.freed.now)) c.self.inside.rows c.args.self.now c.self.view_is c.requires);
}
