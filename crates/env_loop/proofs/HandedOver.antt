-- The call that is awaited is handed over as the hub wants it.
use Rattle.std.proofs.Common.{◌≡◌, ◌≢◌, ◌<◌, ◌&&◌, ◌||◌, ℕ, Bool, true, false, not, IsTrue, refl, ap, subst, sym, ◌∙◌, arith, Some, None, []}
use Rattle.std.specs.Option.{unwrap_or}
use Rattle.napi_types.specs.declared.call.Call.{Call}
use Rattle.napi_types.specs.declared.call.Call.TheVariants as call
use Rattle.napi_types.specs.declared.entry.Phase.{Phase}
use Rattle.napi_types.specs.declared.entry.Phase.TheVariants as phase
use Rattle.napi_types.specs.declared.entry.SharedCall.{SharedCall}
use Rattle.napi_types.specs.declared.status.Status.TheVariants as status
use Rattle.napi_types.specs.plain.Guards.{is_shared, is_registering}
use Rattle.napi_types.specs.parts.Bodies.{is_function}
use Rattle.napi_types.specs.parts.Heap.{handle_body}
use Rattle.napi_types.specs.parts.HeapRefusals.{row_refusal}
use Rattle.napi_types.specs.parts.Frames.{caller_of}
use Rattle.napi_types.specs.environment.Environment.{Environment}
use Rattle.napi_types.specs.environment.Moments.{is_tearing}
use Rattle.napi_types.specs.environment.Owners.{IsOwned}
use Rattle.napi_types.specs.environment.Refusals.{refusal}
use Rattle.napi_types.specs.environment.SharedCalls.{target_of, target_unless}
use Rattle.napi_types.specs.hub.GivenSteps.{has_loop_ended, is_failure, fits_stage}
use Rattle.napi_types.specs.hub.Hub.{Stage, IsStageOf}
use Rattle.napi_types.specs.hub.HubCalls.{no_target}
use Rattle.napi_types.proofs.plain.Lists.{none-first, not-unless}
use Rattle.napi_types.proofs.environment.Handed.{shared-refusals}
use Rattle.napi_types.proofs.environment.Owners.{body-owned, caller-owned, row-unrefused}
use Rattle.napi_types.proofs.hub.HubOwners.{is_creating_call, GivesOwned}
use Rattle.shared_hub.specs.SharedTries.{given_by, IsOwnRefusal}
use Rattle.env_loop.specs.RecordedRuns.{IsAwaited}

-- the environment refuses it with 1 or with 9, where it refuses it
pub own-refusal : (e : Environment) (c : SharedCall) → IsAwaited e c → IsOwnRefusal c.refused
own-refusal e c w = subst (λ (s : SharedCall). IsOwnRefusal s.refused) (sym w.handed) (shared-refusals e c.call w.shared)

-- THE MOMENT
-- once the loop has ended the environment is in its teardown
torn : (p : Phase) (s : Stage) → IsStageOf p s → has_loop_ended s ≡ true → is_tearing p ≡ true
torn phase.Init s shows looped = let no : false ≡ true = sym (ap has_loop_ended shows) ∙ looped in cc
torn phase.Live s shows looped = let no : false ≡ true = sym (ap has_loop_ended shows) ∙ looped in cc
torn phase.Hooks s shows looped = refl
torn phase.Drain s shows looped = refl
torn phase.Finals s shows looped = refl
torn phase.Gone s shows looped = refl

-- where it refuses each call that registers with 9
torn-refused : (e : Environment) (c : Call) → is_shared c ≡ true → is_registering c ≡ true → is_tearing e.phase ≡ true → is_failure (refusal e c) ≡ true
torn-refused e (call.CreateAsyncWork job entry payload) shared registers tearing = rw tearing refl
torn-refused e (call.DeleteAsyncWork w) shared registers tearing = cc
torn-refused e (call.CancelAsyncWork w) shared registers tearing = cc
torn-refused e (call.QueueAsyncWork w) shared registers tearing = rw tearing refl
torn-refused e (call.CreateThreadsafeFunction f entry maximum count finalizer context) shared registers tearing = rw tearing refl
torn-refused e (call.CallThreadsafeFunction f payload m) shared registers tearing = rw tearing refl
torn-refused e (call.AcquireThreadsafeFunction f) shared registers tearing = cc
torn-refused e (call.ReleaseThreadsafeFunction f m) shared registers tearing = cc
torn-refused e (call.RefThreadsafeFunction f) shared registers tearing = cc
torn-refused e (call.UnrefThreadsafeFunction f) shared registers tearing = cc
torn-refused e (call.GetThreadsafeFunctionContext f) shared registers tearing = cc
torn-refused e _ shared registers tearing = cc

allows : (looped registers failed : Bool) → (looped ≡ true → registers ≡ true → failed ≡ true) → IsTrue (not (looped && registers) || failed)
allows true true failed fails = fails refl refl
allows true false failed fails = refl
allows false registers failed fails = refl

pub is-timely : (e : Environment) (s : Stage) (c : SharedCall) → IsAwaited e c → IsStageOf e.phase s → IsTrue (fits_stage s c.call c.refused)
is-timely e s c w shows =
    subst (λ (x : SharedCall). IsTrue (fits_stage s c.call x.refused)) (sym w.handed)
    (allows (has_loop_ended s) (is_registering c.call) (is_failure (refusal e c.call))
    (λ looped registers. torn-refused e c.call w.shared registers (torn e.phase s shows looped)))

-- WHOSE IT IS
-- a call that its row allows names addons that are there
target-below : (n : ℕ) (e : Environment) (c : Call) → row_refusal e.heap c ≡ None → e.frames ≢ [] → IsOwned n e → is_creating_call c ≡ true
    → (unwrap_or (target_of e c) no_target).addon < n
target-below n e (call.CreateAsyncWork job entry payload) row stands o creates = zero-below (caller_of e.frames) n (caller-owned n e.frames stands o.frames)
  where
    zero-below : (a n : ℕ) → a < n → 0 < n
    zero-below a n h = omega (arith, h)
target-below n e (call.CreateThreadsafeFunction f (Some entry) maximum count finalizer context) row stands o creates = caller-owned n e.frames stands o.frames
target-below n e (call.CreateThreadsafeFunction (Some f) None maximum count finalizer context) row stands o creates =
    body-owned n _ e.heap.values o.functions (not-unless (is_function (handle_body e.heap f.0)) status.InvalidArg (none-first _ _ row))
target-below n e (call.CreateThreadsafeFunction None None maximum count finalizer context) row stands o creates = cc
target-below n e c row stands o creates = cc

-- what is handed over with it names addons that are there
pub hands-owned : (n : ℕ) (e : Environment) (c : SharedCall) → IsOwned n e → IsAwaited e c → c.refused ≡ None → is_creating_call c.call ≡ true
    → GivesOwned n c.call (given_by c)
hands-owned n e c o w free creates =
    let unrefused : refusal e c.call ≡ None = sym (ap (λ (s : SharedCall). s.refused) w.handed) ∙ free in
    record {
      addon = subst (λ (s : SharedCall). s.addon < n) (sym w.handed) (caller-owned n e.frames w.stands o.frames);
      target = subst (λ (s : SharedCall). (unwrap_or s.target no_target).addon < n) (sym w.handed)
          (subst (λ s. (unwrap_or (target_unless s (target_of e c.call)) no_target).addon < n) (sym unrefused)
          (target-below n e c.call (row-unrefused e c.call unrefused) w.stands o creates));
    }
