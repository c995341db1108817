-- The first refusal of a call that applies: a table for each point of their order.
use Rattle.std.specs.Prelude.{List, length, nat_le, Option, None}
use Rattle.std.specs.Option.{option_or}
use Rattle.napi_types.specs.declared.call.Call.{Call}
use Rattle.napi_types.specs.declared.status.Status.{Status}
use Rattle.napi_types.specs.declared.call.Call.TheVariants as call
use Rattle.napi_types.specs.declared.status.Status.TheVariants as status
use Rattle.napi_types.specs.plain.Lists.{when}
use Rattle.napi_types.specs.parts.Frames.{Frame, most_frames}
use Rattle.napi_types.specs.parts.HeapRefusals.{refusal_in}
use Rattle.napi_types.specs.environment.Environment.{Environment}
use Rattle.napi_types.specs.environment.Groups.{call_group_of}
use Rattle.napi_types.specs.environment.Moments.{refusal_by_moment}

-- why the group of a call refuses it beside what the heap tells: for a reference, for what is attached to a value, or for a hook
abbrev pub group_refusal : Environment → Call → Option Status
group_refusal e c = (call_group_of c).refuses e c

-- the first refusal that applies to a call that comes at a right moment: the first that the heap tells, or else its group's
abbrev pub refusal_by_state : Environment → Call → Option Status
refusal_by_state e c = option_or (refusal_in e.texts e.heap c) (group_refusal e c)

-- THE DEPTH LIMIT
-- no function is called where as many frames stand as may
abbrev pub depth_refusal : List Frame → Call → Option Status
depth_refusal fs (call.CallFunction _ _ _) = when (nat_le most_frames (length fs)) status.PendingException
depth_refusal fs _ = None

-- the first of the points before the depth limit that applies: whether the call comes at a wrong moment is asked first
abbrev pub refusal_before_depth : Environment → Call → Option Status
refusal_before_depth e c = option_or (refusal_by_moment e c) (refusal_by_state e c)

-- the first of all points that applies
abbrev pub refusal : Environment → Call → Option Status
refusal e c = option_or (refusal_before_depth e c) (depth_refusal e.frames c)
