-- What the hub answers to a call that queues an item of a function, by what the function answers.
use Rattle.std.proofs.Common.{◌≡◌, ◌∙◌, ℕ, ◌+◌, Option, Some, None, Ok, option_map, refl, ap, sym, subst}
use Rattle.std.specs.Option.{option_and_then}
use Rattle.napi_types.specs.declared.call.Call.TheVariants as call
use Rattle.napi_types.specs.declared.call.Mode.{Mode}
use Rattle.napi_types.specs.declared.entry.Actor.{Actor}
use Rattle.napi_types.specs.declared.entry.Duty.{Duty}
use Rattle.napi_types.specs.declared.entry.Duty.TheVariants as duty
use Rattle.napi_types.specs.declared.entry.Given.{Given}
use Rattle.napi_types.specs.declared.entry.Out.TheVariants as out
use Rattle.napi_types.specs.declared.ids.TsfnId.{TsfnId}
use Rattle.napi_types.specs.declared.status.Status.{Status}
use Rattle.napi_types.specs.declared.status.Status.TheVariants as status
use Rattle.napi_types.specs.plain.Replies.{plain}
use Rattle.napi_types.specs.parts.Functions.{FunctionState, accepted_items, call_status, called}
use Rattle.napi_types.specs.hub.Hub.{Hub}
use Rattle.napi_types.specs.hub.HubCalls.{hub_answer, call_answer, called_answer, item_made}
use Rattle.napi_types.specs.hub.HubMoves.{in_tsfn}
use Rattle.napi_types.proofs.plain.Found.{found-number}
use Rattle.tsfn.specs.FunctionList.{function_numbered, with_function_changed, changed_there, tried_there}
use Rattle.tsfn.specs.Trials.{tried_of}
use Rattle.tsfn.specs.declared.function.Tried.{Tried}
use Rattle.tsfn.specs.declared.function.Tried.TheVariants.{Wait}
use Rattle.shared_hub.specs.FunctionReplies.{call_told}
use Rattle.shared_hub.specs.HubParts.{HubParts, hub_with, AnswersOrWaits, IsAcceptance, WouldAccept}

module _ (old new : HubParts) (who : Actor) (g : Given) (id : TsfnId) (payload : ℕ) (m : Mode) where
  -- where no function has the number
  missing : (t : Tried) → function_numbered id.0 old.functions ≡ None → t ≡ tried_there who m None → new ≡ old → AnswersOrWaits old who g (call.CallThreadsafeFunction id payload m) (call_told id t) new
  missing t there told left = subst (λ (u : Tried). AnswersOrWaits old who g (call.CallThreadsafeFunction id payload m) (call_told id u) new) (sym told) (record {
    answer = λ h. ap (call_answer (hub_with old h) who payload m) there
        ∙ ap (λ (p : HubParts). Some (record { reply = plain status.InvalidArg out.Nothing; after = hub_with p h })) (sym left);
    fresh = λ h. refl;
  })

  module _ (f : FunctionState) (there : function_numbered id.0 old.functions ≡ Some f) where
    -- the call has this status
    answers : (s : Status) (h : Hub) → call_status who m f ≡ Some s
        → new ≡ record old { functions = with_function_changed f.id (called (Some s) payload) old.functions } → (made : Option Duty) → item_made s f ≡ made
        → hub_answer (hub_with old h) who g (call.CallThreadsafeFunction id payload m) 0
        ≡ Some (record { reply = record { status = s; out = out.Nothing; dropped = None; made = made }; after = hub_with new h })
    answers s h is left made same =
        ap (call_answer (hub_with old h) who payload m) there ∙ ap (option_map (called_answer (hub_with old h) payload f)) is
        ∙ ap (λ d. Some (record {
          reply = record { status = s; out = out.Nothing; dropped = None; made = d };
          after = in_tsfn f.id (called (Some s) payload)
              (hub_with old h);
        })) same
        ∙ ap (λ (p : HubParts). Some (record { reply = record { status = s; out = out.Nothing; dropped = None; made = made }; after = hub_with p h })) (sym left)

    numbered : (duty.Item (record { 0 = f.id }) (accepted_items f + 1)) ≡ duty.Item id (accepted_items f + 1)
    numbered = ap (λ n. duty.Item (record { 0 = n }) (accepted_items f + 1)) (found-number (λ (x : FunctionState). x.id) id.0 old.functions f there)

    -- each status
    by : (s : Status) (t : Tried) → call_status who m f ≡ Some s → t ≡ tried_of (Some s) (accepted_items f + 1)
        → new ≡ record old { functions = with_function_changed f.id (called (Some s) payload) old.functions } → AnswersOrWaits old who g (call.CallThreadsafeFunction id payload m) (call_told id t) new
    by status.Ok t is told left = subst (λ (u : Tried). AnswersOrWaits old who g (call.CallThreadsafeFunction id payload m) (call_told id u) new) (sym told)
        (record { answer = λ h. answers status.Ok h is left (Some (duty.Item id (accepted_items f + 1))) (ap (λ d. Some d) numbered); fresh = λ h. refl })
    by _ t is told left = subst (λ (u : Tried). AnswersOrWaits old who g (call.CallThreadsafeFunction id payload m) (call_told id u) new) (sym told)
        (record { answer = λ h. answers _ h is left None refl; fresh = λ h. refl })

    there-answers : (s : Option Status) (t : Tried) → call_status who m f ≡ s → t ≡ tried_of s (accepted_items f + 1)
        → new ≡ record old { functions = with_function_changed f.id (called s payload) old.functions } → (t ≡ Wait → new ≡ old) → AnswersOrWaits old who g (call.CallThreadsafeFunction id payload m) (call_told id t) new
    there-answers None t is told left waits = subst (λ (u : Tried). AnswersOrWaits old who g (call.CallThreadsafeFunction id payload m) (call_told id u) new) (sym told) (record {
      none = λ h. ap (call_answer (hub_with old h) who payload m) there ∙ ap (option_map (called_answer (hub_with old h) payload f)) is;
      same = waits told;
    })
    there-answers (Some s) t is told left waits = by s t is told left

  pub call-answers : (t : Tried) → t ≡ tried_there who m (function_numbered id.0 old.functions)
      → new ≡ record old { functions = changed_there (λ f. called (call_status who m f) payload) (function_numbered id.0 old.functions) old.functions }
      → (t ≡ Wait → new ≡ old) → AnswersOrWaits old who g (call.CallThreadsafeFunction id payload m) (call_told id t) new
  call-answers t told left waits = on (function_numbered id.0 old.functions) refl told left
    where
      on : (o : Option FunctionState) → function_numbered id.0 old.functions ≡ o → t ≡ tried_there who m o
          → new ≡ record old { functions = changed_there (λ f. called (call_status who m f) payload) o old.functions } → AnswersOrWaits old who g (call.CallThreadsafeFunction id payload m) (call_told id t) new
      on None there told left = missing t there told left
      on (Some f) there told left = there-answers f there (call_status who m f) t refl told left waits

-- it would be accepted where its function accepts it
pub call-accepted : (old : HubParts) (who : Actor) (g : Given) (id : TsfnId) (payload : ℕ) (m : Mode)
    → option_and_then (call_status who m) (function_numbered id.0 old.functions) ≡ Some status.Ok
    → (h : Hub) → WouldAccept (hub_with old h) who g (call.CallThreadsafeFunction id payload m)
call-accepted old who g id payload m accepts h = λ n. by (function_numbered id.0 old.functions) accepts
  where
    on : (f : FunctionState) (s : Option Status) → s ≡ Some status.Ok → IsAcceptance (option_map (called_answer (hub_with old h) payload f) s)
    on f None is = cc
    on f (Some s) is = let ok : s ≡ status.Ok = cc in ok

    by : (o : Option FunctionState) → option_and_then (call_status who m) o ≡ Some status.Ok → IsAcceptance (call_answer (hub_with old h) who payload m o)
    by None is = cc
    by (Some f) is = on f (call_status who m f) is
