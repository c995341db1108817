use Rattle.std.proofs.Common.{◌≡◌, ◌∙◌, ℕ, List, sym, ap}
use Rattle.deferred.specs.PromiseRows.{RowOf, seen_row}
use Rattle.deferred.proofs.Numbers.{first-out}
use Rattle.deferred.proofs.row.take_out.Goals as goal

same-row : (r : RowOf) (ns ms : List ℕ) → ns ≡ ms → record r { reactions = ns } ≡ record r { reactions = ms }
same-row r ns ms is = ap (λ ks. record r { reactions = ks }) is

pub returns-then-is_first : goal.returns-then-is_first
returns-then-is_first c =
    same-row (seen_row c.args.row.now) _ _ (c.pop_front.ensures.rest ∙ sym (first-out c.args.ticket c.args.row.now.reactions.items _ (c.is_first.ensures c.if-is_first.true) c.requires))
