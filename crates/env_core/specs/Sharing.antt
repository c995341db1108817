-- Shared calls: what a core hands to the hub, what it keeps until the hub has answered, and what the answer makes of it.
use Rattle.std.specs.Prelude.{◌≡◌, ◌≢◌, ℕ, ◌<◌, Bool, true, false, ◌&&◌, [], Option, Some, None, is_none, IfSome}
use Rattle.napi_types.specs.declared.call.Call.{Call}
use Rattle.napi_types.specs.declared.call.Call.TheVariants as call
use Rattle.napi_types.specs.declared.duties.DueInfo.{DueInfo}
use Rattle.napi_types.specs.declared.entry.Out.{Out}
use Rattle.napi_types.specs.declared.entry.Out.TheVariants as out
use Rattle.napi_types.specs.declared.entry.Reply.{Reply}
use Rattle.napi_types.specs.declared.entry.SharedCall.{SharedCall}
use Rattle.napi_types.specs.declared.entry.Why.{Why}
use Rattle.napi_types.specs.plain.Replies.{plain}
use Rattle.napi_types.specs.parts.Frames.{asks_made, most_asks}
use Rattle.napi_types.specs.environment.Ends.{end_change}
use Rattle.napi_types.specs.environment.Environment.{Environment}
use Rattle.napi_types.specs.environment.SharedCalls.{after_shared, after_delivery, without_root}
use Rattle.env_core.specs.Core.{Core}
use Rattle.env_core.specs.TsfnRooting.{HasRootPlace}

-- ROOTS
-- a thread-safe function is to be created that is made of a function, whose value it will keep alive
abbrev pub names_function : Call → Bool
names_function (call.CreateThreadsafeFunction (Some f) _ _ _ _ _) = true
names_function _ = false

-- the same, and the environment does not refuse it: there has to be memory for the root
abbrev pub wants_root : SharedCall → Bool
wants_root s = names_function s.call && is_none s.refused

-- the answer to the call gives the thread-safe function
abbrev pub is_rooting : Call → Out → Bool
is_rooting c (out.Function n) = names_function c
is_rooting c _ = false

-- AWAITING
-- the environment can take in the answer to the call: a frame stands, which may make an ask more, and there is room for a root that is wanted
pub record IsAwaitedIn (e : Environment) (room : ℕ) (s : SharedCall) : Type 0 where
  pub standing : e.frames ≢ []
  pub within : asks_made e.frames < most_asks
  pub place : wants_root s ≡ true → HasRootPlace room e

-- the same, where a call is awaited
abbrev pub MayAwait : Environment → ℕ → Option SharedCall → Type 0
MayAwait e room awaited = IfSome awaited (IsAwaitedIn e room)

-- the answer of a call that the environment refused itself is that refusal
abbrev pub IsAnswer : SharedCall → Reply → Type 0
IsAnswer s r = IfSome s.refused (λ t. r ≡ plain t out.Nothing)

-- WHAT IS NOTED, WHERE THE HISTORY HAS THIS LENGTH
-- a core that awaits the hub's answer
abbrev pub awaiting : SharedCall → Core → Core
awaiting s core = record core { awaited = Some s }

-- the hub answered, and the environment took the answer in
abbrev pub after_answer : SharedCall → Reply → ℕ → Core → Core
after_answer s r position core = record core { env = after_shared s.call r core.env; position = position; awaited = None }

-- the hub could not answer, and the call is as if it had not been made
abbrev pub after_no_answer : ℕ → Core → Core
after_no_answer position core = record core { position = position; awaited = None }

-- the frame of a duty of the hub began
abbrev pub after_hub_begin : DueInfo → ℕ → Core → Core
after_hub_begin d position core = record core { env = after_delivery d core.env; position = position }

-- it ended
abbrev pub after_hub_end : Option Why → ℕ → Core → Core
after_hub_end cut position core = record core { env = (end_change None cut core.env).after; position = position }

-- a thread-safe function has finished
abbrev pub after_finish : ℕ → ℕ → Core → Core
after_finish n position core = record core { env = without_root n core.env; position = position }
