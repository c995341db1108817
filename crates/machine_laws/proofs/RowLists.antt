-- A run that is written out is shown to be one, and to come to its end, by computing.
use Rattle.std.proofs.Common.{◌≡◌, List}
use Rattle.napi_types.specs.declared.call.Ask.{Ask}
use Rattle.napi_types.specs.declared.entry.Entry.{Entry}
use Rattle.napi_types.specs.declared.entry.Local.{Local}
use Rattle.napi_types.specs.declared.entry.Phase.TheVariants as phase
use Rattle.machine_laws.specs.Computing.{ComputesBy}
use Rattle.machine_laws.specs.LegalRuns.{IsRun, told_asks, EndsOnItsLists}
use Rattle.napi_types.specs.plain.Weave.{weave}
use Rattle.napi_types.specs.runs.Parting.{IsParted}
use Rattle.napi_types.specs.runs.Setting.{Setting, opening_of, final_of, planned_asks, EndsBy}
use Rattle.machine_laws.proofs.Computing.{run-of}

pub ends-of : (s : Setting) (bs : List Ask) (xs : List Entry) → ComputesBy (opening_of s) bs xs → bs ≡ planned_asks s bs xs → (final_of s bs xs).env.phase ≡ phase.Gone
    → EndsBy s bs xs
ends-of s bs xs computes asked gone = record { run = record { steps = run-of (opening_of s) bs xs computes; asked = asked }; gone = gone }

pub ends-on-lists : (s : Setting) (journal : List Local) (history : List Entry) → ComputesBy (opening_of s) (told_asks s (weave journal history)) (weave journal history)
    → told_asks s (weave journal history) ≡ planned_asks s (told_asks s (weave journal history)) (weave journal history)
    → (final_of s (told_asks s (weave journal history)) (weave journal history)).env.phase ≡ phase.Gone
    → IsParted (opening_of s) (told_asks s (weave journal history)) journal history → EndsOnItsLists s journal history
ends-on-lists s journal history computes asked gone parted =
    record { ends = ends-of s (told_asks s (weave journal history)) (weave journal history) computes asked gone; parted = parted }

-- the same where it does not come to its end
pub runs-as-told : (s : Setting) (xs : List Entry) → ComputesBy (opening_of s) (told_asks s xs) xs → told_asks s xs ≡ planned_asks s (told_asks s xs) xs → IsRun s xs
runs-as-told s xs computes asked = (told_asks s xs, record { steps = run-of (opening_of s) (told_asks s xs) xs computes; asked = asked })
