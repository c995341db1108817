use Rattle.std.proofs.Common.{◌≡◌, ◌∙◌, ◌∷◌, ◌++◌, ℕ, arith, ap, refl, subst, sym, slice_index_or, take, drop, List, Some, None}
use Rattle.std.specs.Option.{unwrap_or}
use Rattle.napi_types.specs.declared.call.Call.TheVariants as call
use Rattle.napi_types.specs.declared.entry.Duty.TheVariants as duty
use Rattle.napi_types.specs.declared.entry.Entry.{Entry}
use Rattle.napi_types.specs.declared.entry.What.TheVariants as what
use Rattle.napi_types.specs.declared.ids.WorkId.{WorkId}
use Rattle.napi_types.specs.declared.status.Status.TheVariants as status
use Rattle.napi_types.specs.all_runs.Counts.{Once, TellsStarts}
use Rattle.napi_types.specs.all_runs.ItemOrder.{CountItems}
use Rattle.napi_types.specs.all_runs.Cancels.{IsCancelledOnce, last_queued, CancelsLastQueued, CancelsHold}
use Rattle.napi_types.proofs.all_runs.NamedWorks.{cancels-told}
use Rattle.napi_types.proofs.all_runs.OncePlaces.{each-once}
use Rattle.machine_laws.specs.Abort as abort
use Rattle.machine_laws.specs.CancelBeforeStart as cancel_before_start
use Rattle.machine_laws.specs.DutyMisses.{first_twice, second_first, unfinalized, started_and_cancelled, never_started_but_done, cancelled_but_done, cancelled_and_started, another_cancelled, cancelled_first}
use Rattle.machine_laws.specs.HubWords.{function, shared_at, work}
use Rattle.machine_laws.specs.ReleaseToZero as release_to_zero
use Rattle.machine_laws.specs.LegalRuns.{EndsAsTold, told_asks}
use Rattle.machine_laws.proofs.RowLists.{ends-of}
use Rattle.machine_laws.proofs.hub_runs.duties_of_the_hub.Goals as goal

-- ONCE
released : EndsAsTold release_to_zero.setting release_to_zero.trace
released = ends-of release_to_zero.setting (told_asks release_to_zero.setting release_to_zero.trace) release_to_zero.trace (refl, refl) refl refl

aborted : EndsAsTold abort.setting abort.trace
aborted = ends-of abort.setting (told_asks abort.setting abort.trace) abort.trace (refl, refl) refl refl

not-twice : Once first_twice → ⊥
not-twice o = let z : 2 ≡ 1 = (o.each (duty.Item function 1)).kept refl refl in absurd (omega (arith, z))

not-never : Once unfinalized → ⊥
not-never o = let z : 0 ≡ 1 = (o.each (duty.Function function)).kept refl refl in absurd (omega (arith, z))

pub returns-clause-once : goal.returns-clause-once
returns-clause-once c = record {
  items = each-once release_to_zero.setting (told_asks release_to_zero.setting release_to_zero.trace) release_to_zero.trace released;
  finalizer = each-once abort.setting (told_asks abort.setting abort.trace) abort.trace aborted;
  twice = not-twice;
  never = not-never;
}

-- ITEMS
not-earlier : CountItems 1 second_first → ⊥
not-earlier c = let z : 2 ≡ 1 = ap (λ l. slice_index_or l 0 0) c.begun in absurd (omega (arith, z))

not-again : CountItems 1 first_twice → ⊥
not-again c = let z : 1 ≡ 2 = ap (λ l. slice_index_or l 1 0) c.begun in absurd (omega (arith, z))

pub returns-clause-items : goal.returns-clause-items
returns-clause-items c = record { run = record { made = refl; begun = refl }; earlier = not-earlier; twice = not-again }

-- COMPLETIONS
not-eleven : TellsStarts (duty.Work 1) started_and_cancelled → ⊥
not-eleven t = let z : 0 ≡ 1 = t.uncancelled in absurd (omega (arith, z))

not-zero : TellsStarts (duty.Work 1) never_started_but_done → ⊥
not-zero t = let z : 1 ≡ 0 = t.uncancelled in absurd (omega (arith, z))

not-accepted : IsCancelledOnce 1 cancelled_but_done → ⊥
not-accepted i = let z : 0 ≡ 1 = i.cancelled in absurd (omega (arith, z))

not-late : IsCancelledOnce 1 cancelled_and_started → ⊥
not-late i = let z : 1 ≡ 0 = i.never in absurd (omega (arith, z))

pub returns-clause-completions : goal.returns-clause-completions
returns-clause-completions c = record {
  started = record { uncancelled = refl; cancelled = refl };
  cancelled = record { never = refl; cancelled = refl };
  drained = record { never = refl; cancelled = refl };
  eleven = not-eleven;
  zero = not-zero;
  accepted = not-accepted;
  late = not-late;
}

-- CANCELS
cancelled : EndsAsTold cancel_before_start.setting cancel_before_start.trace
cancelled = ends-of cancel_before_start.setting (told_asks cancel_before_start.setting cancel_before_start.trace) cancel_before_start.trace (refl, refl) refl refl

-- no entries keep the rule that do not cancel the work that was queued last before an accepted cancel, ..
not-cancelled : (n : ℕ) (whole before later : List Entry) (x : Entry) (w : WorkId) → whole ≡ before ++ x ∷ later → x.what ≡ what.Call (call.CancelAsyncWork w)
    → x.reply.status ≡ status.Ok → last_queued w.0 before ≡ Some n → (IsCancelledOnce n whole → ⊥) → CancelsHold whole → ⊥
not-cancelled n whole before later x w parts asks accepted queued not h =
    let k : CancelsLastQueued w before whole = h before later x w parts asks accepted in
    let same : k.number ≡ n = ap (λ o. unwrap_or o 0) (sym k.queued ∙ queued) in
    not (subst (λ m. IsCancelledOnce m whole) same k.once)

-- .. nor any with an accepted cancel before which none was queued
not-queued : (whole before later : List Entry) (x : Entry) (w : WorkId) → whole ≡ before ++ x ∷ later → x.what ≡ what.Call (call.CancelAsyncWork w)
    → x.reply.status ≡ status.Ok → last_queued w.0 before ≡ None → CancelsHold whole → ⊥
not-queued whole before later x w parts asks accepted unqueued h =
    let k : CancelsLastQueued w before whole = h before later x w parts asks accepted in
    let z : None ≡ Some k.number = sym unqueued ∙ k.queued in cc

abbrev cancel : Entry
cancel = shared_at 2 (call.CancelAsyncWork (work 1)) status.Ok

pub returns-clause-cancels : goal.returns-clause-cancels
returns-clause-cancels c = record {
  run = cancels-told cancel_before_start.setting (told_asks cancel_before_start.setting cancel_before_start.trace) cancel_before_start.trace cancelled;
  done = not-cancelled 1 cancelled_but_done (take 4 cancelled_but_done) (drop 5 cancelled_but_done) cancel (work 1) refl refl refl refl not-accepted;
  late = not-cancelled 1 cancelled_and_started (take 4 cancelled_and_started) (drop 5 cancelled_and_started) cancel (work 1) refl refl refl refl not-late;
  another = not-queued another_cancelled (take 4 another_cancelled) (drop 5 another_cancelled) (shared_at 2 (call.CancelAsyncWork (work 2)) status.Ok) (work 2) refl refl refl refl;
  first = not-queued cancelled_first (take 3 cancelled_first) (drop 4 cancelled_first) (shared_at 1 (call.CancelAsyncWork (work 1)) status.Ok) (work 1) refl refl refl refl;
}
