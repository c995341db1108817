-- What a function delivers is an item of it or its finalizer, and no completion of a work.
use Rattle.std.proofs.Common.{◌≡◌, ◌==◌, Bool, true, false, cond, List, [], ◌∷◌, ℕ, Option, Some, None, IfSome, refl, subst}
use Rattle.std.specs.Option.{option_or}
use Rattle.napi_types.specs.declared.duties.DueInfo.{DueInfo}
use Rattle.napi_types.specs.declared.entry.Duty.{Duty}
use Rattle.napi_types.specs.declared.entry.Duty.TheVariants as duty
use Rattle.napi_types.specs.declared.entry.TsfnState.{TsfnState}
use Rattle.napi_types.specs.declared.entry.TsfnState.TheVariants.{Open, Closing, Finished, Done}
use Rattle.napi_types.specs.parts.Functions.{FunctionState}
use Rattle.napi_types.specs.parts.Pool.{WorkPool}
use Rattle.napi_types.specs.hub.Hub.{Hub}
use Rattle.napi_types.specs.hub.HubMoves.{HubMove, Delivers, Closes, Finishes, tsfn_move_in, tsfn_move, first_move}
use Rattle.tsfn.specs.FunctionList.{functions_after_move}
use Rattle.shared_hub.specs.HubParts.{HubParts, hub_with, after_move}
use Rattle.shared_hub.specs.HubTries.{unspent_of_duty, unspent_job}

abbrev IsOfFunction : Duty → Type 0
IsOfFunction (duty.Item f n) = Unit {0}
IsOfFunction (duty.Function f) = Unit {0}
IsOfFunction _ = ⊥

abbrev DeliversOwn : HubMove → Type 0
DeliversOwn (Delivers d) = IsOfFunction d.duty
DeliversOwn _ = Unit {0}

function-delivers : (f : FunctionState) (s : TsfnState) (items : List ℕ) → IfSome (tsfn_move_in f s items) DeliversOwn
function-delivers f Open [] = by (f.count == 0)
  where
    by : (b : Bool) → IfSome (cond b (Some (Closes f.id)) None) DeliversOwn
    by true = tt
    by false = tt
function-delivers f Open (payload ∷ later) = tt
function-delivers f Closing [] = tt
function-delivers f Closing (payload ∷ later) = tt
function-delivers f Finished items = tt
function-delivers f Done items = tt

first-delivers : (fs : List FunctionState) → IfSome (first_move fs) DeliversOwn
first-delivers [] = tt
first-delivers (f ∷ fs) = by (tsfn_move f) (function-delivers f f.state f.items) (first-delivers fs)
  where
    by : (o : Option HubMove) → IfSome o DeliversOwn → IfSome (first_move fs) DeliversOwn → IfSome (option_or o (first_move fs)) DeliversOwn
    by None here later = later
    by (Some move) here later = here

-- so no job is left of it
pub delivers-no-job : (fs : List FunctionState) (d : DueInfo) (p : WorkPool) → first_move fs ≡ Some (Delivers d) → unspent_job p d ≡ None
delivers-no-job fs d p first = by d.duty (subst (λ o. IfSome o DeliversOwn) first (first-delivers fs))
  where
    by : (k : Duty) → IsOfFunction k → unspent_of_duty p d k ≡ None
    by (duty.Item f n) own = refl
    by (duty.Function f) own = refl
    by (duty.Work n) own = absurd own
    by (duty.Ticket t) own = absurd own

-- and the works stay as they are
pub works-stay : (p : HubParts) (h : Hub) (o : Option HubMove) → first_move p.functions ≡ o
    → hub_with (record p { functions = functions_after_move o p.functions }) h ≡ after_move o (hub_with p h)
works-stay p h o first = by o (subst (λ m. IfSome m DeliversOwn) first (first-delivers p.functions))
  where
    by : (m : Option HubMove) → IfSome m DeliversOwn → hub_with (record p { functions = functions_after_move m p.functions }) h ≡ after_move m (hub_with p h)
    by None own = refl
    by (Some (Closes f)) own = refl
    by (Some (Finishes f)) own = refl
    by (Some (Delivers d)) own = delivered d d.duty own
      where
        delivered : (d : DueInfo) (k : Duty) → IsOfFunction k → hub_with (record p { functions = functions_after_move (Some (Delivers (record d { duty = k }))) p.functions }) h ≡ after_move (Some (Delivers (record d { duty = k }))) (hub_with p h)
        delivered d (duty.Item f n) own = refl
        delivered d (duty.Function f) own = refl
        delivered d (duty.Work n) own = absurd own
        delivered d (duty.Ticket t) own = absurd own
