use Rattle.std.proofs.Common.{◌≡◌, ◌∙◌, Some, refl, ap, sym}
use Rattle.napi_types.specs.hub.HubMoves.{Delivers, first_move}
use Rattle.tsfn.specs.FunctionMoves.{move_of}
use Rattle.tsfn.specs.declared.function.Moved.{Moved}
use Rattle.shared_hub.specs.HubParts.{HubParts}
use Rattle.shared_hub.specs.HubTries.{polled_move}
use Rattle.shared_hub.proofs.FunctionsMove.{delivers-no-job, works-stay}
use Rattle.shared_hub.proofs.parts.SharedParts.take_tsfn_move.Goals as goal
use Rattle.shared_hub.proofs.parts.SharedParts.take_tsfn_move.Goals.{in-Some-Delivers, in-Some-Closes, in-Some-Finishes, in-None}

pub returns-clause-left : goal.returns-clause-left
returns-clause-left g c = λ h.
    let old : HubParts = record { pool = c.self.inside.pool; functions = c.self.inside.functions } in
    let same : polled_move c.match-take_move.result ≡ first_move c.self.inside.functions = elim c.match-take_move.branch [
      | in-Some-Delivers w ↦ rw w.result-is (sym (ap (λ (m : Moved). Some (move_of m)) w.in-Some-Delivers.field-0-is) ∙ w.in-Some-Delivers.ensures.told)
      | in-Some-Closes w ↦ rw w.result-is (sym (ap (λ (m : Moved). Some (move_of m)) w.in-Some-Closes.field-0-is) ∙ w.in-Some-Closes.ensures.told)
      | in-Some-Finishes w ↦ rw w.result-is (sym (ap (λ (m : Moved). Some (move_of m)) w.in-Some-Finishes.field-0-is) ∙ w.in-Some-Finishes.ensures.told)
      | in-None w ↦ rw w.result-is w.in-None.ensures.told
    ] in
    rw (← c.self.view_is, c.take_move.ensures.left, same) (works-stay old h (first_move c.self.inside.functions) refl)

pub returns-clause-unspent : goal.returns-clause-unspent
returns-clause-unspent g c = elim c.match-take_move.branch [
  | in-Some-Delivers w ↦
      let first : first_move c.self.inside.functions ≡ Some (Delivers w.in-Some-Delivers.due) =
      sym w.in-Some-Delivers.ensures.told ∙ ap (λ (m : Moved). Some (move_of m)) w.in-Some-Delivers.field-0-is in
      rw w.result-is (sym (delivers-no-job c.self.inside.functions w.in-Some-Delivers.due c.args.self.now.pool first))
  | in-Some-Closes w ↦ rw w.result-is tt
  | in-Some-Finishes w ↦ rw w.result-is tt
  | in-None w ↦ rw w.result-is tt
]
