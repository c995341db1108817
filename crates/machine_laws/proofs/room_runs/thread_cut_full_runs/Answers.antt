use Rattle.std.proofs.Common.{◌≡◌, ap, refl}
use Rattle.std.specs.Fmt.{digits}
use Rattle.napi_types.specs.declared.entry.LoopEnd.{LoopEnd}
use Rattle.napi_types.specs.declared.entry.LoopEnd.TheVariants as loop_end
use Rattle.machine_laws.specs.ThreadCutFull.{setting_within, setting, second_call, release_next, operations, history, journal, trace}
use Rattle.napi_types.specs.declared.call.Mode.TheVariants as mode
use Rattle.napi_types.specs.declared.call.Release.TheVariants as release
use Rattle.napi_types.specs.declared.entry.Out.{Out}
use Rattle.napi_types.specs.declared.entry.Out.TheVariants as out
use Rattle.napi_types.specs.declared.entry.Why.TheVariants as why
use Rattle.napi_types.specs.all_runs.HubLaws.{KeepsScript}
use Rattle.machine_laws.specs.HubWords.{next_after, thread_ends, releases, calls_function}
use Rattle.machine_laws.proofs.KeptScripts.{one-keeps}
use Rattle.machine_laws.specs.RunWords.{loop_ended}
use Rattle.machine_laws.specs.LegalRuns.{IsRun}
use Rattle.machine_laws.proofs.Misses.{told_reason, told-entry, told-may}
use Rattle.machine_laws.proofs.RowLists.{ends-on-lists, runs-as-told}
use Rattle.machine_laws.proofs.room_runs.thread_cut_full_runs.Goals as goal

pub returns-clause-ends : goal.returns-clause-ends
returns-clause-ends c = ends-on-lists setting journal history (refl, refl) refl refl refl

pub returns-clause-threads : goal.returns-clause-threads
returns-clause-threads c = one-keeps setting operations history refl refl refl

pub returns-clause-prints : goal.returns-clause-prints
unfolding digits
returns-clause-prints c = refl

is-full : IsRun setting (next_after 7 trace second_call) → ⊥
is-full r = let z : _ = told-may setting _ refl r in cc

has-room : IsRun (setting_within 15) (next_after 7 trace second_call)
has-room = runs-as-told (setting_within 15) (next_after 7 trace second_call) (refl, refl) refl

is-cut : (o : Out) → KeepsScript setting 0 operations (next_after 4 history (thread_ends 0 o)) → o ≡ out.Cut why.Full
is-cut o k = (k.1.1.1.1.0 refl).0

not-full : (o : Out) → KeepsScript (setting_within 15) 0 operations (next_after 4 history (thread_ends 0 o)) → o ≡ out.Cut why.Memory
not-full o k = (k.1.1.1.1.0 refl).0

release-has-room : IsRun setting (next_after 7 trace release_next)
release-has-room = runs-as-told setting (next_after 7 trace release_next) (refl, refl) refl

not-release : KeepsScript setting 0 operations (next_after 4 history release_next) → ⊥
not-release k = let z : releases release.Release ≡ calls_function 2 mode.Blocking = (k.1.1.1.1.0 refl).0 in cc

no-other-reason : (e : LoopEnd) → IsRun setting (next_after 9 trace (loop_ended e)) → e ≡ loop_end.Quiet
no-other-reason e r = ap (λ x. told_reason e x.reply.out) (told-entry setting _ 9 refl r)

pub returns-clause-strict : goal.returns-clause-strict
returns-clause-strict c = record {
  full = is-full;
  room = has-room;
  cut = is-cut;
  memory = not-full;
  release = release-has-room;
  order = not-release;
  reason = no-other-reason;
}
