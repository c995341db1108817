-- What a call of the environment answers and leaves.
use Rattle.std.specs.Prelude.{ℕ, Option, Some, None}
use Rattle.std.specs.Option.{unwrap_or}
use Rattle.napi_types.specs.declared.call.Call.{Call}
use Rattle.napi_types.specs.declared.status.Status.{Status}
use Rattle.napi_types.specs.declared.entry.Out.TheVariants as out
use Rattle.napi_types.specs.plain.Replies.{Answer, accepts, refuses}
use Rattle.napi_types.specs.plain.Texts.{depth_text}
use Rattle.napi_types.specs.environment.Environment.{Environment}
use Rattle.napi_types.specs.environment.ExceptionCalls.{with_thrown_error}
use Rattle.napi_types.specs.environment.Groups.{call_group_of}
use Rattle.napi_types.specs.environment.Refusals.{refusal_before_depth, depth_refusal}

-- what an accepted call answers and leaves, as its group tells it
abbrev pub effect : Environment → Call → ℕ → Answer Environment
effect e c n = unwrap_or ((call_group_of c).answers e c n) (accepts out.Nothing e)

-- what a call of the environment answers and leaves, given the refusal that applies, if one does
abbrev pub answer_unless : Environment → Call → ℕ → Option Status → Answer Environment
answer_unless e c n (Some s) = refuses s e
answer_unless e c n None = effect e c n

-- at the depth limit an error with the message `stack depth` is pending: the one thing that a refusal changes
abbrev pub with_depth_error : Environment → Environment
with_depth_error e = with_thrown_error None (record { 0 = depth_text }) e

-- the same, given the refusal before the depth limit that applies, and that of the depth limit
abbrev pub answer_unless_deep : Environment → Call → ℕ → Option Status → Option Status → Answer Environment
answer_unless_deep e c n early None = answer_unless e c n early
answer_unless_deep e c n (Some s) (Some deep) = refuses s e
answer_unless_deep e c n None (Some deep) = refuses deep (with_depth_error e)

-- a call of the environment that is refused answers the first refusal that applies, every other one its result; an accepted call of a function has none
-- here, since it enters a frame, whose end has its reply
abbrev pub answer : Environment → Call → ℕ → Answer Environment
answer e c n = answer_unless_deep e c n (refusal_before_depth e c) (depth_refusal e.frames c)
