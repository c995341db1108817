use Rattle.std.proofs.Common.{◌≡◌, ℕ, ap, refl, Option, None}
use Rattle.std.specs.Fmt.{digits}
use Rattle.napi_types.specs.declared.entry.Cause.TheVariants as cause
use Rattle.napi_types.specs.declared.entry.Duty.{Duty}
use Rattle.napi_types.specs.declared.status.Status.{Status}
use Rattle.napi_types.specs.declared.status.Status.TheVariants as status
use Rattle.machine_laws.specs.FullQueue.{operations, setting, journal, history, trace, second_call, third_call, thread_call}
use Rattle.napi_types.specs.declared.call.Mode.TheVariants as mode
use Rattle.napi_types.specs.declared.call.Release.TheVariants as release
use Rattle.napi_types.specs.declared.entry.Out.{Out}
use Rattle.napi_types.specs.declared.entry.Out.TheVariants as out
use Rattle.napi_types.specs.all_runs.HubLaws.{KeepsScript}
use Rattle.machine_laws.specs.HubWords.{next_after, item_begins, by_thread, thread_ends, releases, calls_function}
use Rattle.machine_laws.specs.LegalRuns.{IsRun}
use Rattle.machine_laws.proofs.KeptScripts.{one-keeps}
use Rattle.machine_laws.proofs.Misses.{told_item, told-entry, told-may}
use Rattle.machine_laws.proofs.RowLists.{ends-on-lists, runs-as-told}
use Rattle.machine_laws.proofs.hub_runs.full_queue_runs.Goals as goal

pub returns-clause-ends : goal.returns-clause-ends
returns-clause-ends c = ends-on-lists setting journal history (refl, refl) refl refl refl

pub returns-clause-threads : goal.returns-clause-threads
returns-clause-threads c = one-keeps setting operations history refl refl refl

pub returns-clause-prints : goal.returns-clause-prints
unfolding digits
returns-clause-prints c = refl

pub returns-clause-sums : goal.returns-clause-sums
unfolding digits
returns-clause-sums c = refl

is-full : (s : Status) (d : Option Duty) → IsRun setting (next_after 4 trace (second_call s d)) → (s ≡ status.QueueFull) × (d ≡ None)
is-full s d r = let same : second_call s d ≡ _ = told-entry setting _ 4 refl r in (ap (λ x. x.reply.status) same, ap (λ x. x.reply.made) same)

would-deadlock : (s : Status) (d : Option Duty) → IsRun setting (next_after 5 trace (third_call s d)) → (s ≡ status.WouldDeadlock) × (d ≡ None)
would-deadlock s d r = let same : third_call s d ≡ _ = told-entry setting _ 5 refl r in (ap (λ x. x.reply.status) same, ap (λ x. x.reply.made) same)

not-again : (n : ℕ) → IsRun setting (next_after 12 trace (item_begins cause.Item n)) → n ≡ 2
not-again n r = ap (λ x. told_item n x.reply.out) (told-entry setting _ 12 refl r)

waits : (s : Status) (d : Option Duty) → IsRun setting (next_after 8 trace (thread_call s d)) → ⊥
waits s d r = let z : _ = told-may setting _ refl r in cc

not-before : (s : Status) (d : Option Duty) → IsRun setting (next_after 3 trace (thread_call s d)) → ⊥
not-before s d r = let z : _ = told-may setting _ refl r in cc

call-first : KeepsScript setting 0 operations (next_after 6 history (by_thread 0 0 (releases release.Release) status.Ok None)) → ⊥
call-first k = let z : releases release.Release ≡ calls_function 10 mode.Blocking = (k.1.1.1.1.1.1.0 refl).0 in cc

not-without : (o : Out) → KeepsScript setting 0 operations (next_after 8 history (thread_ends 0 o)) → ⊥
not-without o k = let z : _ = (k.1.1.1.1.1.1.1.1.0 refl).1 in cc

may-end : IsRun setting (next_after 11 trace (thread_ends 0 out.Nothing))
may-end = runs-as-told setting (next_after 11 trace (thread_ends 0 out.Nothing)) (refl, refl) refl

pub returns-clause-strict : goal.returns-clause-strict
returns-clause-strict c = record {
  full = is-full;
  deadlock = would-deadlock;
  again = not-again;
  waits = waits;
  blocked = refl;
  woken = refl;
  before = not-before;
  first = call-first;
  release = not-without;
  hub = may-end;
}
