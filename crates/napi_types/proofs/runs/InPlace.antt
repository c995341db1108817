-- The entries of a run stand in their places still as it grows at its end.
use Rattle.std.proofs.Common.{◌≡◌, ◌∙◌, ◌&&◌, ◌||◌, Bool, true, false, IsTrue, List, [], ◌∷◌, ◌++◌, refl, ap, Option, Some}
use Rattle.napi_types.specs.declared.call.Ask.{Ask}
use Rattle.napi_types.specs.declared.entry.Actor.{Actor}
use Rattle.napi_types.specs.declared.entry.Entry.{Entry}
use Rattle.napi_types.specs.declared.entry.Out.{Out}
use Rattle.napi_types.specs.plain.Weave.{Side, Journal, History}
use Rattle.napi_types.specs.runs.InPlace.{is_behind_own, asks_hub, is_stopped, stands_in_place, last_actor, StandInPlace}
use Rattle.napi_types.specs.runs.Machine.{Machine}
use Rattle.napi_types.specs.runs.Run.{after, IsRunBy, final}
use Rattle.napi_types.specs.runs.Step.{step}

-- ONE ENTRY
-- an entry of the history stands in its place anywhere, ..
pub shared-placed : (side : Side) (before : Option Actor) (a : Ask) (o : Out) → side ≡ History → IsTrue (stands_in_place side before a o)
shared-placed side before a o is = ap (λ t. stands_in_place t before a o) is

-- .. each does behind one of the environment, ..
pub own-placed : (side : Side) (before : Option Actor) (a : Ask) (o : Out) → IsTrue (is_behind_own before) → IsTrue (stands_in_place side before a o)
own-placed History before a o own = refl
own-placed Journal before a o own = ap (λ b. b || (asks_hub a && is_stopped o)) own

-- .. and so does the end of a frame that was cut at a shared call
pub stopped-placed : (side : Side) (before : Option Actor) (a : Ask) (o : Out) → IsTrue (asks_hub a && is_stopped o) → IsTrue (stands_in_place side before a o)
stopped-placed History before a o stopped = refl
stopped-placed Journal before a o stopped = ap (λ b. is_behind_own before || b) stopped ∙ either (is_behind_own before)
  where
    either : (b : Bool) → (b || true) ≡ true
    either true = refl
    either false = refl

-- A RUN
-- who made its last entry
pub last-more : (before : Option Actor) (xs : List Entry) (x : Entry) → last_actor before (xs ++ x ∷ []) ≡ Some x.actor
last-more before [] x = refl
last-more before (y ∷ ys) x = last-more (Some y.actor) ys x

-- one more entry in its place
pub placed-more : (m : Machine) (before : Option Actor) (bs : List Ask) (xs : List Entry) (a : Ask) (x : Entry) → IsRunBy m bs xs → StandInPlace m before bs xs
    → IsTrue (stands_in_place (step (final m bs xs) a x).side (last_actor before xs) a x.reply.out) → StandInPlace m before (bs ++ a ∷ []) (xs ++ x ∷ [])
placed-more m before [] [] a x run placed here = (here, tt)
placed-more m before (b ∷ bs) (y ∷ ys) a x run placed here = (placed.0, placed-more (after m b y) (Some y.actor) bs ys a x run.1 placed.1 here)
placed-more m before [] (y ∷ ys) a x run placed here = absurd run
placed-more m before (b ∷ bs) [] a x run placed here = absurd run
