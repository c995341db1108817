use Rattle.std.proofs.Common.{◌∙◌, get_or, sym, ap, arith}
use Rattle.std.proofs.lemmas.Bool.{ltb-true, ltb-false}
use Rattle.napi_types.specs.parts.Book.{is_registered}
use Rattle.finalizer_queue.specs.TicketRows.{row_state}
use Rattle.finalizer_queue.proofs.KeptBook.{other-state}
use Rattle.finalizer_queue.proofs.RowMoves.{IsTicketRow, is_at-row, is_at-past}
use Rattle.finalizer_queue.proofs.rows.is_registered.Goals as goal
use Rattle.finalizer_queue.proofs.rows.is_registered.Goals.{In-Some-get}

row : (c : In-Some-get) → IsTicketRow c.args.rows.now c.args.ticket c.in-Some-get.row.now
row c = record {
  here = c.in-Some-get.ensures.lookup.1 ∙ ap (λ p. get_or c.args.rows.now p c.in-Some-get.row.now) c.in-Some.ensures.1;
  above = c.in-Some.ensures.0;
  within = let inside = ltb-true _ _ (sym c.in-Some-get.ensures.lookup.0) in omega (arith, inside, c.in-Some.ensures.0, c.in-Some.ensures.1);
}

pub returns-in-Registered : goal.returns-in-Registered
returns-in-Registered c = sym (is_at-row is_registered _ _ _ (row (goal.at.returns-in-Registered c).In-Some-get) ∙ ap (λ s. is_registered (row_state s)) c.in-Registered.is)

pub returns-in_default-matches : goal.returns-in_default-matches
returns-in_default-matches c =
    sym (is_at-row is_registered _ _ _ (row (goal.at.returns-in_default-matches c).In-Some-get) ∙ other-state c.in-Some-get.row.now.state c.in_default-matches.not-Registered)

pub returns-in-None : goal.returns-in-None
returns-in-None c =
    let past = ltb-false _ _ (sym c.in-None.ensures.lookup.0) in
    sym (is_at-past is_registered c.args.rows.now c.args.ticket (omega (arith, past, c.in-Some.ensures.0, c.in-Some.ensures.1)))
