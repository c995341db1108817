use Rattle.std.proofs.Common.{◌∙◌, ◌<◌, ◌≤◌, ℕ, ap, sym, arith, inl, inr}
use Rattle.tsfn.specs.FunctionList.{function_numbered}
use Rattle.tsfn.proofs.NumberedFunctions.{numbered-none}
use Rattle.tsfn.proofs.functions.Functions.place_of.Goals as goal

pub returns-in_err-place-clause-none : goal.returns-in_err-place-clause-none
returns-in_err-place-clause-none c =
    rw c.from_residual.ensures
    (ap (function_numbered c.args.id.0) (sym c.self.view_is) ∙ numbered-none 1 c.args.id.0 c.self.inside.list.items c.self.invariant.numbered (inl (below c.args.id.0 c.in_err-place.ensures)))
  where
    below : (n : ℕ) → (1 ≤ n → ⊥) → n < 1
    below n never = grind arith

pub returns-else-place-count-clause-none : goal.returns-else-place-count-clause-none
returns-else-place-count-clause-none c =
    let past = c.if-place-count.false in
    ap (function_numbered c.args.id.0) (sym c.self.view_is)
    ∙ numbered-none 1 c.args.id.0 c.self.inside.list.items c.self.invariant.numbered
    (inr (omega (arith, past, c.len-count.ensures, c.self.inside.list.ok.0, c.in_ok-place.ensures.0, c.in_ok-place.ensures.1)))
