use Rattle.std.proofs.Common.{[], ◌∷◌, ◌++◌, refl}
use Rattle.napi_types.specs.declared.entry.Out.TheVariants as out
use Rattle.napi_types.specs.declared.entry.Why.TheVariants as why
use Rattle.machine_laws.specs.FrameCutForMemory.{setting, prefix, taken}
use Rattle.machine_laws.specs.RunWords.{frame_ends}
use Rattle.machine_laws.specs.LegalRuns.{IsRun}
use Rattle.machine_laws.proofs.Misses.{told-may}
use Rattle.machine_laws.proofs.RowLists.{runs-as-told}
use Rattle.machine_laws.proofs.room_runs.frame_cut_for_memory.Goals as goal

has-room : IsRun setting (prefix ++ frame_ends (out.Cut why.Memory) ∷ [])
has-room = runs-as-told setting (prefix ++ frame_ends (out.Cut why.Memory) ∷ []) (refl, refl) refl

not-full : IsRun setting (prefix ++ frame_ends (out.Cut why.Full) ∷ []) → ⊥
not-full r = let z : _ = told-may setting _ refl r in cc

later : IsRun setting (taken ++ frame_ends (out.Cut why.Memory) ∷ [])
later = runs-as-told setting (taken ++ frame_ends (out.Cut why.Memory) ∷ []) (refl, refl) refl

is-taken : IsRun setting (taken ++ frame_ends (out.Cut why.Full) ∷ [])
is-taken = runs-as-told setting (taken ++ frame_ends (out.Cut why.Full) ∷ []) (refl, refl) refl

pub returns : goal.returns
returns c = record { room = has-room; full = not-full; later = later; taken = is-taken }
