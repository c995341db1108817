use Rattle.std.proofs.Common.{◌∙◌, [], option_map, ap}
use Rattle.deferred.specs.PromiseRows.{seen_row}
use Rattle.deferred.proofs.Views.{seen, view-same}
use Rattle.deferred.proofs.deferreds.Deferreds.reserve.Goals as goal

pub returns-in_err-reserve-2-clause-same : goal.returns-in_err-reserve-2-clause-same
returns-in_err-reserve-2-clause-same c =
    view-same c.self.inside.promises.entries c.reserve.new.self.entries c.self.inside.deferreds.entries c.reserve-2.new.self.entries _ [] c.self.inside.made c.self.invariant 0
    (λ w. ap (option_map seen_row) (c.reserve.ensures.entries.2 w)) c.reserve-2.ensures.entries.2 ∙ seen c.self.view_is

pub returns-clause-same : goal.returns-clause-same
returns-clause-same c =
    view-same c.self.inside.promises.entries c.reserve.new.self.entries c.self.inside.deferreds.entries c.reserve-2.new.self.entries _ [] c.self.inside.made c.self.invariant 0
    (λ w. ap (option_map seen_row) (c.reserve.ensures.entries.2 w)) c.reserve-2.ensures.entries.2 ∙ seen c.self.view_is
