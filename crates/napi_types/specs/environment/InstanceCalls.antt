-- What the calls on instance data answer and leave where nothing refuses them.
use Rattle.std.specs.Prelude.{ℕ, Option, Some, None}
use Rattle.napi_types.specs.declared.call.Call.{Call}
use Rattle.napi_types.specs.declared.call.Call.TheVariants as call
use Rattle.napi_types.specs.declared.entry.Out.TheVariants as out
use Rattle.napi_types.specs.plain.Replies.{Answer, accepts}
use Rattle.napi_types.specs.parts.Frames.{caller_of}
use Rattle.napi_types.specs.parts.InstanceData.{instance_number, instance_ticket, with_instance}
use Rattle.napi_types.specs.environment.Environment.{Environment}
use Rattle.napi_types.specs.environment.Group.{Group, answering}
use Rattle.napi_types.specs.environment.Registering.{finalizer_if, ticket_if, registering_if, registered_only, withdrawing}

-- `set_instance_data` gives this addon other instance data. The finalizer of what was set before is withdrawn, where it is still registered, and one is registered
-- where the call names it
abbrev pub setting_instance : Environment → ℕ → ℕ → Option ℕ → ℕ → Answer Environment
setting_instance e addon payload entry hint =
    registering_if (finalizer_if e payload entry hint)
    (withdrawing (registered_only e.book (instance_ticket e.instances addon))
    (accepts out.Nothing (record e { instances = with_instance addon (record { payload = payload; ticket = ticket_if e.book entry }) e.instances })))

-- `get_instance_data` tells that of the addon that makes the call
abbrev pub on_instances : Environment → Call → Option (Answer Environment)
on_instances e (call.SetInstanceData payload entry hint) = Some (setting_instance e (caller_of e.frames) payload entry hint)
on_instances e call.GetInstanceData = Some (accepts (out.Unsigned (instance_number e.instances (caller_of e.frames))) e)
on_instances e _ = None

-- what the environment tells of these calls
abbrev pub instance_calls : Group
instance_calls = answering (λ e c n. on_instances e c)
