-- What the plans of addons ask along a run, and the registers that they leave.
use Rattle.std.specs.Prelude.{ℕ, cond, List, [], ◌∷◌, set, Option, Some, None}
use Rattle.napi_types.specs.declared.call.Ask.{Ask}
use Rattle.napi_types.specs.declared.call.Ask.TheVariants as ask
use Rattle.napi_types.specs.declared.call.Call.TheVariants as call
use Rattle.napi_types.specs.declared.duties.DueInfo.{DueInfo}
use Rattle.napi_types.specs.declared.entry.Actor.{Actor}
use Rattle.napi_types.specs.declared.entry.Actor.TheVariants as actor
use Rattle.napi_types.specs.declared.entry.Entry.{Entry}
use Rattle.napi_types.specs.declared.entry.HostStep.{HostStep}
use Rattle.napi_types.specs.declared.entry.HostStep.TheVariants as host
use Rattle.napi_types.specs.declared.entry.Reply.{Reply}
use Rattle.napi_types.specs.declared.entry.What.{What}
use Rattle.napi_types.specs.declared.entry.What.TheVariants as what
use Rattle.napi_types.specs.plain.Lists.{tail}
use Rattle.napi_types.specs.parts.Frames.{Frame, at_last_ask}
use Rattle.napi_types.specs.parts.FunctionCalls.{callee_of, call_gifts}
use Rattle.napi_types.specs.parts.Heap.{Heap}
use Rattle.napi_types.specs.scripts.Plans.{Plan, plan_of, Registers, registers_of}
use Rattle.napi_types.specs.scripts.Registers.{plan_ask, registers_after_reply, with_gifts}
use Rattle.napi_types.specs.runs.Begins.{told_at}
use Rattle.napi_types.specs.runs.Machine.{Machine}
use Rattle.napi_types.specs.runs.Run.{after}

-- WHAT IS ASKED
-- what a frame asks: its plan's next operation, filled from its addon's registers; where no plan is told, the ask that is there
abbrev pub frame_ask : Plan → List ℕ → Frame → Ask → Ask
frame_ask None rs f a = a
frame_ask (Some p) rs f a = plan_ask p rs f.entry f.asks

-- what it is taken to ask: a frame that makes no asks leaves at once
abbrev pub taken_ask : Plan → List ℕ → Frame → Ask → Ask
taken_ask p rs f a = cond f.makes_asks (frame_ask p rs f a) (ask.Leave None)

-- the ask of the innermost frame; an event with no frame has `Leave None` in the place of its ask
abbrev pub frames_ask : List Plan → Registers → List Frame → Ask → Ask
frames_ask ps rss [] a = ask.Leave None
frames_ask ps rss (f ∷ fs) a = taken_ask (plan_of ps f.addon) (registers_of rss f.addon) f a

-- what is asked at an entry of this actor: by the environment what its innermost frame asks; threads and workers ask nothing of an addon
abbrev pub asked : List Plan → Registers → Machine → Ask → Actor → Ask
asked ps rss m a actor.Env = frames_ask ps rss m.env.frames a
asked ps rss m a _ = ask.Leave None

-- WHAT THE REGISTERS KEEP
-- the registers of a frame's addon after a reply; where no plan is told they stay as they are, and nothing is said of them
abbrev pub addon_after_reply : Plan → List ℕ → Frame → Reply → List ℕ
addon_after_reply None rs f r = rs
addon_after_reply (Some p) rs f r = registers_after_reply p rs f.entry f.asks r

-- the result of a call of the innermost frame in its register
abbrev pub caller_after_reply : List Plan → Registers → List Frame → Reply → Registers
caller_after_reply ps rss [] r = rss
caller_after_reply ps rss (f ∷ fs) r = set rss f.addon (addon_after_reply (plan_of ps f.addon) (registers_of rss f.addon) f r)

-- the gifts of a frame go to registers 24 to 31 of its addon
abbrev pub with_addon_gifts : Registers → ℕ → List ℕ → Registers
with_addon_gifts rss addon gifts = set rss addon (with_gifts gifts (registers_of rss addon))

-- the gifts of the frame that a call of a function enters
abbrev pub with_callee_gifts : Registers → Heap → Ask → Registers
with_callee_gifts rss heap (ask.Do (call.CallFunction receiver f args)) = with_addon_gifts rss (callee_of heap f).addon (call_gifts heap receiver f args)
with_callee_gifts rss heap _ = rss

-- the gifts of a frame that begins: what its duty tells, where a duty began it, or else those of the call; an init frame is given nothing, and its registers stay
abbrev pub with_begun_gifts : Registers → Heap → Ask → Option DueInfo → Registers
with_begun_gifts rss heap a (Some d) = with_addon_gifts rss d.addon d.gifts
with_begun_gifts rss heap a None = with_callee_gifts rss heap a

-- a call's result goes to its register, that of a call of a function at the end of its frame: it is then the last ask that the caller made
abbrev pub after_host_event : List Plan → Registers → Machine → Ask → Reply → HostStep → Registers
after_host_event ps rss m a r host.Begin = with_begun_gifts rss m.env.heap a (told_at m r.out)
after_host_event ps rss m a r host.End = caller_after_reply ps rss (at_last_ask (tail m.env.frames)) r
after_host_event ps rss m a r _ = rss

-- what happened is a call, or an event of the host
abbrev pub after_event : List Plan → Registers → Machine → Ask → Reply → What → Registers
after_event ps rss m a r (what.Call c) = caller_after_reply ps rss m.env.frames r
after_event ps rss m a r (what.Host h) = after_host_event ps rss m a r h

-- an entry of the environment changes them so; one of a thread or a worker changes none, whatever it tells
abbrev pub after_entry : List Plan → Registers → Machine → Ask → Entry → Actor → Registers
after_entry ps rss m a x actor.Env = after_event ps rss m a x.reply x.what
after_entry ps rss m a x _ = rss

-- the registers after an entry, at this ask
abbrev pub registers_after : List Plan → Registers → Machine → Ask → Entry → Registers
registers_after ps rss m a x = after_entry ps rss m a x x.actor

-- the registers after entries
abbrev pub registers_along : List Plan → Registers → Machine → List Ask → List Entry → Registers
registers_along ps rss m (a ∷ bs) (x ∷ xs) = registers_along ps (registers_after ps rss m a x) (after m a x) bs xs
registers_along ps rss m _ _ = rss

-- the asks that the plans give along entries
abbrev pub asked_along : List Plan → Registers → Machine → List Ask → List Entry → List Ask
asked_along ps rss m (a ∷ bs) (x ∷ xs) = asked ps rss m a x.actor ∷ asked_along ps (registers_after ps rss m a x) (after m a x) bs xs
asked_along ps rss m _ _ = []
