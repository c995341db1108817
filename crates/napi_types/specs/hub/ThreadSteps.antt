-- The hub's step at an entry of a thread: a call, or its end.
use Rattle.std.specs.Prelude.{ℕ, Bool, true, false, ◌&&◌, None}
use Rattle.napi_types.specs.declared.call.Call.{Call}
use Rattle.napi_types.specs.declared.entry.Actor.TheVariants as actor
use Rattle.napi_types.specs.declared.entry.Entry.{Entry}
use Rattle.napi_types.specs.declared.entry.Given.{Given}
use Rattle.napi_types.specs.declared.entry.HostStep.{HostStep}
use Rattle.napi_types.specs.declared.entry.HostStep.TheVariants as host
use Rattle.napi_types.specs.declared.entry.Out.{Out}
use Rattle.napi_types.specs.declared.entry.Out.TheVariants as out
use Rattle.napi_types.specs.declared.entry.What.{What}
use Rattle.napi_types.specs.declared.entry.What.TheVariants as what
use Rattle.napi_types.specs.declared.entry.Why.TheVariants as why
use Rattle.napi_types.specs.plain.Lists.{has_number, with_number}
use Rattle.napi_types.specs.hub.Hub.{Hub, Stage, Before, threads_left}
use Rattle.napi_types.specs.hub.HubCalls.{hub_answer, is_thread_call}
use Rattle.napi_types.specs.hub.HubStep.{HubStep, no_hub_step, answered_step, actor_told}

-- a thread makes its entries after `go`, until it ends
abbrev pub is_gone_on : Stage → Bool
is_gone_on Before = false
is_gone_on _ = true

abbrev pub is_thread_there : Hub → ℕ → Bool
is_thread_there h t = is_gone_on h.stage && has_number t (threads_left h)

-- a thread hands nothing to the hub
abbrev pub nothing_given : Given
nothing_given = record { addon = 0; target = None; refused = None }

-- its calls stand in no frame
abbrev pub thread_call_step : Hub → ℕ → Entry → Call → HubStep
thread_call_step h t x c =
    answered_step h (record x { depth = 0; given = None }) (is_thread_there h t && is_thread_call c) (hub_answer h (actor.Thread t) nothing_given c 0)

-- how a thread ends: after its last operation, or cut at one
abbrev pub is_thread_end : Out → Bool
is_thread_end out.Nothing = true
is_thread_end (out.Cut why.Memory) = true
is_thread_end (out.Cut why.Full) = true
is_thread_end _ = false

abbrev pub thread_event : Hub → ℕ → Entry → HostStep → HubStep
thread_event h t x host.ActorEnd = record {
  entry = actor_told (actor.Thread t) host.ActorEnd x.reply.out;
  after = record h { ended_threads = with_number t h.ended_threads };
  may = is_thread_there h t && is_thread_end x.reply.out;
}
thread_event h t x _ = no_hub_step h x

abbrev pub thread_step : Hub → ℕ → Entry → What → HubStep
thread_step h t x (what.Call c) = thread_call_step h t x c
thread_step h t x (what.Host event) = thread_event h t x event
