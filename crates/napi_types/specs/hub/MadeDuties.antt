-- The hub's answer to a call makes the call's duty where it accepts it, and no refusal of the hub's is 0.
use Rattle.std.specs.Prelude.{◌≡◌, ◌≢◌, ℕ, ◌+◌, Bool, Option, Some, None, option_map}
use Rattle.napi_types.specs.declared.call.Call.{Call}
use Rattle.napi_types.specs.declared.call.Call.TheVariants as call
use Rattle.napi_types.specs.declared.entry.Actor.{Actor}
use Rattle.napi_types.specs.declared.entry.Duty.{Duty}
use Rattle.napi_types.specs.declared.entry.Duty.TheVariants as duty
use Rattle.napi_types.specs.declared.entry.Given.{Given}
use Rattle.napi_types.specs.declared.status.Status.TheVariants as status
use Rattle.napi_types.specs.plain.Replies.{Answer}
use Rattle.napi_types.specs.parts.Functions.{accepted_items}
use Rattle.napi_types.specs.parts.Pool.{WorkPool, work_refusal, new_number}
use Rattle.napi_types.specs.parts.Works.{WorkState}
use Rattle.napi_types.specs.hub.Hub.{Hub}
use Rattle.napi_types.specs.hub.HubCalls.{tsfn_at, new_function_number, finalizer_duty, hub_answer}

-- the duty that a call makes where the hub accepts it: the next number of a work, the next item of a function that is there, or the finalizer of the next
-- function, where it has one
abbrev pub duty_of_call : Hub → Call → Option Duty
duty_of_call h (call.QueueAsyncWork w) = Some (duty.Work (new_number h.pool))
duty_of_call h (call.CreateThreadsafeFunction f entry maximum count finalizer context) = finalizer_duty (new_function_number h) finalizer
duty_of_call h (call.CallThreadsafeFunction f payload m) = option_map (λ g. duty.Item (record { 0 = g.id }) (accepted_items g + 1)) (tsfn_at h f.0)
duty_of_call h _ = None

-- the answer makes that duty where its status is 0, and none where it is another
pub record MakesAsAnswered (h : Hub) (c : Call) (a : Answer Hub) : Type 0 where
  pub accepted : a.reply.status ≡ status.Ok → a.reply.made ≡ duty_of_call h c
  pub refused : a.reply.status ≢ status.Ok → a.reply.made ≡ None

abbrev pub AnswersMakeTheirDuty : Type 0
AnswersMakeTheirDuty = (h : Hub) (who : Actor) (g : Given) (c : Call) (n : ℕ) (a : Answer Hub) → hub_answer h who g c n ≡ Some a → MakesAsAnswered h c a

-- no refusal of a call on a work is the status of an accepted one
abbrev pub NoWorkRefusalAccepts : Type 0
NoWorkRefusalAccepts = (test : WorkState → Bool) (p : WorkPool) (id : ℕ) → work_refusal test p id ≢ Some status.Ok
