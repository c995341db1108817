-- What the environment hands to the hub with a shared call.
use Rattle.std.proofs.Common.{◌≡◌, ℕ, Bool, true, false, ◌&&◌, ◌||◌, ◌==◌, refl, Option, Some, None, is_none, ◌⊎◌, inl, inr}
use Rattle.std.specs.Option.{option_or}
use Rattle.napi_types.specs.declared.call.Call.{Call}
use Rattle.napi_types.specs.declared.call.Call.TheVariants as call
use Rattle.napi_types.specs.declared.entry.Out.{Out}
use Rattle.napi_types.specs.declared.ids.HandleId.{HandleId}
use Rattle.napi_types.specs.declared.status.Status.{Status}
use Rattle.napi_types.specs.declared.status.Status.TheVariants as status
use Rattle.napi_types.specs.plain.Lists.{when, unless}
use Rattle.napi_types.specs.plain.Replies.{plain}
use Rattle.napi_types.specs.parts.Bodies.{is_function}
use Rattle.napi_types.specs.parts.Heap.{handle_body}
use Rattle.napi_types.specs.parts.HeapRefusals.{row_refusal}
use Rattle.napi_types.specs.parts.NamedNumbers.{is_known}
use Rattle.napi_types.specs.environment.Environment.{Environment}
use Rattle.napi_types.specs.environment.Moments.{is_tearing, refusal_by_moment}
use Rattle.napi_types.specs.environment.Refusals.{refusal}
use Rattle.napi_types.specs.environment.SharedCalls.{shared_entry, shared_call_of, handed_entry, SharedRefusals}

pub same-entry : (e : Environment) (c : Call) (o : Out) → shared_entry e c o ≡ handed_entry (shared_call_of e c) (plain status.Ok o)
same-entry e c o = refl

abbrev IsOfThree : Option Status → Type 0
IsOfThree o = (o ≡ None) ⊎ (o ≡ Some status.InvalidArg) ⊎ (o ≡ Some status.GenericFailure)

or-three : (a b : Option Status) → IsOfThree a → IsOfThree b → IsOfThree (option_or a b)
or-three None b first second = second
or-three (Some s) b first second = first

failed : (b : Bool) → IsOfThree (when b status.GenericFailure)
failed true = inr (inr refl)
failed false = inl refl

invalid : (b : Bool) → IsOfThree (when b status.InvalidArg)
invalid true = inr (inl refl)
invalid false = inl refl

unless-invalid : (b : Bool) → IsOfThree (unless b status.InvalidArg)
unless-invalid true = inl refl
unless-invalid false = inr (inl refl)

none : IsOfThree None
none = inl refl

-- one that registers is refused in the teardown
late : (e : Environment) → IsOfThree (option_or (option_or (when (is_tearing e.phase) status.GenericFailure) None) None)
late e = or-three _ None (or-three _ None (failed (is_tearing e.phase)) none) none

row-three : (e : Environment) (f : Option HandleId) (entry : Option ℕ) (maximum count : ℕ) (finalizer : Option ℕ) (context : ℕ)
    → IsOfThree (row_refusal e.heap (call.CreateThreadsafeFunction f entry maximum count finalizer context))
row-three e None entry maximum count finalizer context = invalid ((true && is_none entry) || (count == 0))
row-three e (Some h) entry maximum count finalizer context =
    or-three (unless (is_function (handle_body e.heap h.0)) status.InvalidArg) (when ((false && is_none entry) || (count == 0)) status.InvalidArg)
    (unless-invalid (is_function (handle_body e.heap h.0))) (invalid ((false && is_none entry) || (count == 0)))

created : (e : Environment) (f : Option HandleId) (entry : Option ℕ) (maximum count : ℕ) (finalizer : Option ℕ) (context : ℕ)
    → IsOfThree (refusal e (call.CreateThreadsafeFunction f entry maximum count finalizer context))
created e f entry maximum count finalizer context =
    let c : Call = call.CreateThreadsafeFunction f entry maximum count finalizer context in
    let known : Option Status = unless (is_known e.texts e.heap c) status.InvalidArg in
    let row : Option Status = row_refusal e.heap c in
    or-three (option_or (refusal_by_moment e c) (option_or (option_or known row) None)) None
    (or-three (refusal_by_moment e c) (option_or (option_or known row) None) (failed (is_tearing e.phase))
    (or-three (option_or known row) None (or-three known row (unless-invalid (is_known e.texts e.heap c)) (row-three e f entry maximum count finalizer context)) none)) none

pub shared-refusals : SharedRefusals
shared-refusals e (call.CreateAsyncWork job entry payload) is = late e
shared-refusals e (call.DeleteAsyncWork w) is = none
shared-refusals e (call.CancelAsyncWork w) is = none
shared-refusals e (call.QueueAsyncWork w) is = late e
shared-refusals e (call.CreateThreadsafeFunction f entry maximum count finalizer context) is = created e f entry maximum count finalizer context
shared-refusals e (call.CallThreadsafeFunction f payload m) is = late e
shared-refusals e (call.AcquireThreadsafeFunction f) is = none
shared-refusals e (call.ReleaseThreadsafeFunction f m) is = none
shared-refusals e (call.RefThreadsafeFunction f) is = none
shared-refusals e (call.UnrefThreadsafeFunction f) is = none
shared-refusals e (call.GetThreadsafeFunctionContext f) is = none
shared-refusals e _ is = cc
