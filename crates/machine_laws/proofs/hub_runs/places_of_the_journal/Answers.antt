use Rattle.std.proofs.Common.{◌≡◌, Bool, true, false, ◌&&◌, List, ◌∷◌, IsTrue, refl, Option, Some, None}
use Rattle.napi_types.specs.declared.call.Ask.{Ask}
use Rattle.napi_types.specs.declared.entry.Actor.{Actor}
use Rattle.napi_types.specs.declared.entry.Entry.{Entry}
use Rattle.napi_types.specs.plain.Weave.{weave}
use Rattle.napi_types.specs.runs.InPlace.{stands_in_place, StandInPlace}
use Rattle.napi_types.specs.runs.Machine.{Machine}
use Rattle.napi_types.specs.runs.Run.{after}
use Rattle.napi_types.specs.runs.Setting.{opening_of}
use Rattle.napi_types.specs.runs.Step.{step}
use Rattle.napi_types.proofs.plain.Conditions.{and-left, and-right}
use Rattle.machine_laws.specs.LegalRuns.{told_asks}
use Rattle.machine_laws.specs.PlaceMisses.{setting, history, journal, moved, StandsAs}
use Rattle.machine_laws.proofs.RowLists.{ends-on-lists}
use Rattle.machine_laws.proofs.hub_runs.places_of_the_journal.Goals as goal

-- whether each entry stands in its place, which computes
abbrev stand_in_place : Machine → Option Actor → List Ask → List Entry → Bool
stand_in_place m before (a ∷ bs) (x ∷ xs) = stands_in_place (step m a x).side before a x.reply.out && stand_in_place (after m a x) (Some x.actor) bs xs
stand_in_place m before _ _ = true

in-place : (m : Machine) (before : Option Actor) (bs : List Ask) (xs : List Entry) → IsTrue (stand_in_place m before bs xs) → StandInPlace m before bs xs
in-place m before (a ∷ bs) (x ∷ xs) h =
    let here : Bool = stands_in_place (step m a x).side before a x.reply.out in
    let rest : Bool = stand_in_place (after m a x) (Some x.actor) bs xs in
    (and-left here rest h, in-place (after m a x) (Some x.actor) bs xs (and-right here rest h))
in-place m before _ _ h = tt

no : false ≡ true → ⊥
no h = cc

not-in-place : StandsAs moved → ⊥
not-in-place s = no s.1.1.1.1.1.1.1.1.0

pub returns : goal.returns
returns c = record {
  run = ends-on-lists setting journal history (refl, refl) refl refl refl;
  other = ends-on-lists setting moved history (refl, refl) refl refl refl;
  placed = in-place (opening_of setting) None (told_asks setting (weave journal history)) (weave journal history) refl;
  misplaced = not-in-place;
}
