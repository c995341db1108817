-- A step of the hub: what it is, where nothing may come, the entry of a call, and that of an event of a thread or a worker.
use Rattle.std.specs.Prelude.{Bool, false, Option, Some, None}
use Rattle.napi_types.specs.declared.entry.Actor.{Actor}
use Rattle.napi_types.specs.declared.entry.Entry.{Entry}
use Rattle.napi_types.specs.declared.entry.HostStep.{HostStep}
use Rattle.napi_types.specs.declared.entry.Out.{Out}
use Rattle.napi_types.specs.declared.entry.What.TheVariants as what
use Rattle.napi_types.specs.declared.status.Status.TheVariants as status
use Rattle.napi_types.specs.plain.Replies.{Answer, plain}
use Rattle.napi_types.specs.hub.Hub.{Hub}

pub record HubStep : Type 0 where
  pub entry : Entry
  pub after : Hub
  pub may : Bool

-- nothing may come
abbrev pub no_hub_step : Hub → Entry → HubStep
no_hub_step h x = record { entry = x; after = h; may = false }

-- the entry of a call has the answer's reply; where the call waits, nothing may come
abbrev pub answered_step : Hub → Entry → Bool → Option (Answer Hub) → HubStep
answered_step h x may None = no_hub_step h x
answered_step h x may (Some a) = record { entry = record x { reply = a.reply }; after = a.after; may = may }

-- an event of an actor that is no call
abbrev pub actor_told : Actor → HostStep → Out → Entry
actor_told who event o = record { actor = who; depth = 0; step = 0; what = what.Host event; reply = plain status.Ok o; given = None }
