-- What the hub replies to the calls that make duties of thread-safe functions.
use Rattle.std.specs.Prelude.{ℕ, Option, Some, None}
use Rattle.napi_types.specs.declared.entry.Duty.{Duty}
use Rattle.napi_types.specs.declared.entry.Duty.TheVariants as duty
use Rattle.napi_types.specs.declared.entry.Out.TheVariants as out
use Rattle.napi_types.specs.declared.entry.Reply.{Reply}
use Rattle.napi_types.specs.declared.ids.TsfnId.{TsfnId}
use Rattle.napi_types.specs.declared.status.Status.TheVariants as status
use Rattle.napi_types.specs.hub.HubCalls.{finalizer_duty}
use Rattle.tsfn.specs.declared.function.Tried.{Tried}
use Rattle.tsfn.specs.declared.function.Tried.TheVariants as tried

-- the creation of the function of this number, with its finalizer where it has one
abbrev pub creation_told : TsfnId → Option ℕ → Reply
creation_told id finalizer = record { status = status.Ok; out = out.Function id; dropped = None; made = finalizer_duty id.0 finalizer }

-- the duty of an item, where there is one
abbrev pub item_told : TsfnId → Option ℕ → Option Duty
item_told id None = None
item_told id (Some n) = Some (duty.Item id n)

-- a call that queues an item; none where it waits
abbrev pub call_told : TsfnId → Tried → Option Reply
call_told id (tried.Answer s item) = Some (record { status = s; out = out.Nothing; dropped = None; made = item_told id item })
call_told id tried.Wait = None
