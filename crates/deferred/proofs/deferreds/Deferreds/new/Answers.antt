use Rattle.std.proofs.Common.{◌∙◌, [], ap}
use Rattle.deferred.specs.PromiseRows.{promises_of}
use Rattle.deferred.proofs.Views.{promises_of-none}
use Rattle.deferred.proofs.deferreds.Deferreds.new.Goals as goal

pub returns : goal.returns
returns c = ap (λ rows. promises_of rows c.new-2.result.entries 0) c.new.ensures.empty ∙ ap (λ ds. promises_of [] ds 0) c.new-2.ensures.empty ∙ promises_of-none
