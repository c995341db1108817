-- The cases of an answer, of a call and of the end of a frame: what holds in each of them holds.
use Rattle.std.proofs.Common.{◌≡◌, ℕ, refl, Option, Some, None}
use Rattle.napi_types.specs.declared.call.Args.{Args}
use Rattle.napi_types.specs.declared.call.Call.{Call}
use Rattle.napi_types.specs.declared.call.Call.TheVariants as call
use Rattle.napi_types.specs.declared.entry.Cause.{Cause}
use Rattle.napi_types.specs.declared.entry.Cause.TheVariants as cause
use Rattle.napi_types.specs.declared.entry.Out.TheVariants as out
use Rattle.napi_types.specs.declared.entry.Why.{Why}
use Rattle.napi_types.specs.declared.ids.HandleId.{HandleId}
use Rattle.napi_types.specs.declared.status.Status.{Status}
use Rattle.napi_types.specs.declared.status.Status.TheVariants as status
use Rattle.napi_types.specs.plain.Replies.{Answer, refuses}
use Rattle.napi_types.specs.parts.Frames.{cause_of}
use Rattle.napi_types.specs.parts.HeapChanges.{without_frame}
use Rattle.napi_types.specs.environment.Calls.{effect, answer_unless_deep, with_depth_error, answer}
use Rattle.napi_types.specs.environment.Changes.{Change, call_change}
use Rattle.napi_types.specs.environment.Ends.{call_end_with, uncut_call_end, outermost_end_change, end_change_by, end_change}
use Rattle.napi_types.specs.environment.Entering.{enter_change, function_change, asked_change}
use Rattle.napi_types.specs.environment.Environment.{Environment}
use Rattle.napi_types.specs.environment.Refusals.{refusal_before_depth, depth_refusal, refusal}

-- a call is refused, refused at the depth limit, or has its effect
pub answer-by : (e : Environment) (c : Call) (n : ℕ) (P : Answer Environment → Type 0) → ((s : Status) → P (refuses s e))
    → ((s : Status) → P (refuses s (with_depth_error e))) → (refusal_before_depth e c ≡ None → P (effect e c n)) → P (answer e c n)
answer-by e c n P refused deep taken = at (refusal_before_depth e c) (depth_refusal e.frames c) refl
  where
    at : (early limit : Option Status) → refusal_before_depth e c ≡ early → P (answer_unless_deep e c n early limit)
    at None None is = taken is
    at (Some s) None is = refused s
    at (Some s) (Some t) is = refused s
    at None (Some t) is = deep t

-- a call answers at once, or it is one of a function, which enters a frame
pub asked-by : (e : Environment) (c : Call) (n : ℕ) (P : Change → Type 0) → P (call_change e c n)
    → ((receiver : Option HandleId) (f : HandleId) (args : Args) → refusal e (call.CallFunction receiver f args) ≡ None → P (enter_change receiver f args e))
    → P (asked_change e c n)
asked-by e (call.CallFunction receiver f args) n P answers enters = at (refusal e (call.CallFunction receiver f args)) refl
  where
    at : (s : Option Status) → refusal e (call.CallFunction receiver f args) ≡ s → P (function_change receiver f args n e s)
    at None is = enters receiver f args is
    at (Some s) is = answers
asked-by e c n P answers enters = answers

-- the frame of a call was cut, has an exception pending or leaves a value; or the frame is an outermost one
pub ended-by : (v : Option HandleId) (cut : Option Why) (e : Environment) (P : Option Why → Change → Type 0)
    → ((w : Why) → P (Some w) (call_end_with status.GenericFailure (out.Cut w) (without_frame e.heap) e)) → ((p : ℕ) → P None (uncut_call_end v e (Some p)))
    → P None (uncut_call_end v e None) → P cut (outermost_end_change cut e) → P cut (end_change v cut e)
ended-by v cut e P failed threw left outermost = by cut (cause_of e.frames) outermost
  where
    called : (p : Option ℕ) → P None (uncut_call_end v e p)
    called (Some p) = threw p
    called None = left

    by : (cut : Option Why) (c : Cause) → P cut (outermost_end_change cut e) → P cut (end_change_by v cut e c)
    by (Some w) cause.Call ends = failed w
    by None cause.Call ends = called e.pending
    by cut _ ends = ends
