-- The hub's step at a shared call of the environment, with what the environment handed to it.
use Rattle.std.specs.Prelude.{ℕ, Bool, true, false, not, ◌&&◌, ◌||◌, ◌∷◌, Option, Some, None}
use Rattle.napi_types.specs.declared.call.Call.{Call}
use Rattle.napi_types.specs.declared.entry.Actor.TheVariants as actor
use Rattle.napi_types.specs.declared.entry.Entry.{Entry}
use Rattle.napi_types.specs.declared.entry.Given.{Given}
use Rattle.napi_types.specs.declared.entry.Out.{Out}
use Rattle.napi_types.specs.declared.entry.Out.TheVariants as out
use Rattle.napi_types.specs.declared.status.Status.{Status}
use Rattle.napi_types.specs.declared.status.Status.TheVariants as status
use Rattle.napi_types.specs.plain.Guards.{is_shared, is_registering}
use Rattle.napi_types.specs.plain.Lists.{has_number}
use Rattle.napi_types.specs.plain.Replies.{Answer, refuses}
use Rattle.napi_types.specs.hub.Hub.{Hub, Stage, LoopEnded, HooksAbandoned, Drained, Final}
use Rattle.napi_types.specs.hub.HubCalls.{hub_answer}
use Rattle.napi_types.specs.hub.HubStep.{HubStep, no_hub_step, answered_step}

-- from `loop_end` on
abbrev pub has_loop_ended : Stage → Bool
has_loop_ended LoopEnded = true
has_loop_ended HooksAbandoned = true
has_loop_ended Drained = true
has_loop_ended Final = true
has_loop_ended _ = false

-- refused with 9
abbrev pub is_failure : Option Status → Bool
is_failure (Some status.GenericFailure) = true
is_failure _ = false

-- from `loop_end` on the environment refuses each call that registers with 9
abbrev pub fits_stage : Stage → Call → Option Status → Bool
fits_stage s c refused = not (has_loop_ended s && is_registering c) || is_failure refused

-- the number of a work that a result newly gives; 0 where it gives none
abbrev pub work_number : Out → ℕ
work_number (out.Work w) = w.0
work_number _ = 0

-- such a number is above 0 and was never issued
abbrev pub is_fresh_work : Hub → Out → Bool
is_fresh_work h (out.Work w) = not (has_number w.0 (0 ∷ h.pool.issued))
is_fresh_work h _ = true

-- what the hub answers to a call of the environment, given the environment's own refusal, if one applies
abbrev pub answer_unless_given : Hub → Given → Call → ℕ → Option Status → Option (Answer Hub)
answer_unless_given h g c n (Some s) = Some (refuses s h)
answer_unless_given h g c n None = hub_answer h actor.Env g c n

-- a shared call of the environment, with what the environment handed to the hub
abbrev pub given_step : Hub → Entry → Call → Option Given → HubStep
given_step h x c None = no_hub_step h x
given_step h x c (Some g) =
    answered_step h x (is_shared c && fits_stage h.stage c g.refused && is_fresh_work h x.reply.out)
    (answer_unless_given h g c (work_number x.reply.out) g.refused)
