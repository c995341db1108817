-- What is told of the function of a number, and changed in its place.
use Rattle.std.proofs.Common.{◌≡◌, ◌∙◌, ◌<◌, ℕ, ◌+◌, List, length, set, get_or, ap, sym, arith, Option, Some}
use Rattle.napi_types.specs.declared.status.Status.{Status}
use Rattle.napi_types.specs.parts.Functions.{FunctionState}
use Rattle.tsfn.specs.FunctionList.{function_numbered, status_there, changed_there}
use Rattle.tsfn.specs.KeptFunctions.{AreNumberedFrom}
use Rattle.tsfn.proofs.NumberedFunctions.{numbered-at, id-at, changed-at}

module _ (fs : List FunctionState) (numbered : AreNumberedFrom 1 fs) (i n : ℕ) (f : FunctionState) (within : i < length fs) (at : i + 1 ≡ n) (here : f ≡ get_or fs i f) where
  pub there : function_numbered n fs ≡ Some f
  there = numbered-at 1 i n fs f numbered within (omega (arith, at)) ∙ ap Some (sym here)

  -- what a call answers there
  pub status-at : (answer : FunctionState → Status) → answer f ≡ status_there answer (function_numbered n fs)
  status-at answer = sym (ap (status_there answer) there)

  -- and what it leaves
  pub changed-in-place : (change : FunctionState → FunctionState → FunctionState) → set fs i (change f f) ≡ changed_there change (function_numbered n fs) fs
  changed-in-place change =
      ap (λ (g : FunctionState). set fs i (change f g)) here
      ∙ sym (changed-at (change f) 1 i f.id fs f numbered within (sym (ap (λ (g : FunctionState). g.id) here ∙ id-at 1 i fs f numbered within)))
      ∙ sym (ap (λ (o : Option FunctionState). changed_there change o fs) there)
