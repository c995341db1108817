use Rattle.std.proofs.Common.{rules}
use Rattle.std.proofs.lemmas.Fn.{filter_same}
use Rattle.env_core.specs.declared.tsfn_roots.RootRow.{RootRow}
use Rattle.env_core.proofs.tsfn_roots.close_up.Goals as goal

pub returns : goal.returns
returns c = record { items = filter_same _ (λ (r : RootRow). r.kept) _ (λ x b f' k. search rules) _ _ c.retain.ensures.filtered }
