-- Words that small runs are written by.
use Rattle.std.specs.Prelude.{ℕ, ◌+◌, List, [], ◌∷◌, ◌++◌, take, drop, Option, Some, None, codes}
use Rattle.napi_types.specs.declared.call.Call.{Call}
use Rattle.napi_types.specs.declared.op.Op.{Op}
use Rattle.napi_types.specs.declared.status.Status.{Status}
use Rattle.napi_types.specs.declared.entry.Actor.TheVariants as actor
use Rattle.napi_types.specs.declared.entry.Cause.TheVariants as cause
use Rattle.napi_types.specs.declared.entry.Entry.{Entry}
use Rattle.napi_types.specs.declared.entry.HostStep.TheVariants as host
use Rattle.napi_types.specs.declared.entry.LoopEnd.{LoopEnd}
use Rattle.napi_types.specs.declared.entry.LoopEnd.TheVariants as loop_end
use Rattle.napi_types.specs.declared.entry.Out.{Out}
use Rattle.napi_types.specs.declared.entry.Out.TheVariants as out
use Rattle.napi_types.specs.declared.entry.What.TheVariants as what
use Rattle.napi_types.specs.declared.entry.Duty.{Duty}
use Rattle.napi_types.specs.declared.entry.Reply.{Reply}
use Rattle.napi_types.specs.declared.ids.AsyncHookId.{AsyncHookId}
use Rattle.napi_types.specs.declared.ids.HandleId.{HandleId}
use Rattle.napi_types.specs.declared.ids.RefId.{RefId}
use Rattle.napi_types.specs.plain.Entries.{host_told, host_entry}
use Rattle.napi_types.specs.plain.Replies.{plain}
use Rattle.napi_types.specs.plain.Room.{most_entries}
use Rattle.napi_types.specs.parts.Book.{ticket_duty}
use Rattle.napi_types.specs.scripts.Plans.{Plan}
use Rattle.napi_types.specs.runs.Setting.{Setting}

-- a script of version 9 of addons with these plans, without threads and workers, with the three texts that every script has and room for the most entries in
-- each list
abbrev pub script_of_plans : List Plan → Setting
script_of_plans plans = record {
  version = 9;
  plans = plans;
  texts = 3;
  threads = 0;
  workers = 0;
  limits = record { journal = most_entries; history = most_entries };
}

-- one of one addon with these entries
abbrev pub script_of_entries : List (List Op) → Setting
script_of_entries entries = script_of_plans (Some entries ∷ [])

-- one with one entry
abbrev pub script_of : List Op → Setting
script_of operations = script_of_entries (operations ∷ [])

-- a call where so many frames stand: the number of the ask, the call and its reply
abbrev pub call_replied : ℕ → ℕ → Call → Reply → Entry
call_replied depth n c r = record { actor = actor.Env; depth = depth; step = n; what = what.Call c; reply = r; given = None }

-- one that makes no duty and withdraws none, with its status and its result
abbrev pub call_in : ℕ → ℕ → Call → Status → Out → Entry
call_in depth n c s o = call_replied depth n c (plain s o)

-- a call in the only frame
abbrev pub call_at : ℕ → Call → Status → Out → Entry
call_at n c s o = call_in 1 n c s o

-- the same of a call that makes a duty, where it makes one, ..
abbrev pub call_making : ℕ → Call → Status → Out → Option Duty → Entry
call_making n c s o d = call_replied 1 n c (record (plain s o) { made = d })

-- .. of one that withdraws a duty, where it withdraws one, ..
abbrev pub call_dropping : ℕ → Call → Status → Out → Option Duty → Entry
call_dropping n c s o d = call_replied 1 n c (record (plain s o) { dropped = d })

-- .. and of one that withdraws a duty and makes another, where it does
abbrev pub call_swapping : ℕ → Call → Status → Out → Option Duty → Option Duty → Entry
call_swapping n c s o withdrawn made = call_replied 1 n c (record (plain s o) { made = made; dropped = withdrawn })

-- the duty of a ticket that a call makes or withdraws
abbrev pub ticket : ℕ → Option Duty
ticket n = Some (ticket_duty n)

-- the begin of a call's frame, of this entry of the only addon
abbrev pub call_begins : ℕ → Entry
call_begins entry = host_entry host.Begin (out.Begin cause.Call 0 entry None)

-- its end, with the call's status and result
abbrev pub call_ends : Status → Out → Entry
call_ends s o = host_told host.End s o

-- the end of an init frame, with its result
abbrev pub frame_ends : Out → Entry
frame_ends o = host_entry host.End o

-- the begin of the init frame of an addon
abbrev pub init_begins : ℕ → Entry
init_begins addon = host_entry host.Begin (out.Begin cause.Init addon 0 None)

-- the events around the calls of one init frame: what comes before them, ..
abbrev pub opening_entries : List Entry
opening_entries = host_entry host.Opened (out.Unsigned 9) ∷ init_begins 0 ∷ []

-- .. the end of the frame, ..
abbrev pub frame_end : Entry
frame_end = host_entry host.End out.Nothing

-- the end of the loop, with its reason
abbrev pub loop_ended : LoopEnd → Entry
loop_ended reason = host_entry host.LoopEnd (out.Ended reason)

-- .. the history's four, that after which the loop begins, ..
abbrev pub go_entry : Entry
go_entry = host_entry host.Go out.Nothing

-- .. that which comes once no hook is left, ..
abbrev pub drain_entry : Entry
drain_entry = host_entry host.Drain (out.Unsigned 0)

-- .. and those from the end of the loop on, which has this reason, with these frames of hooks, ..
abbrev pub ending_with_hooks : LoopEnd → List Entry → List Entry
ending_with_hooks reason in_hooks = loop_ended reason ∷ in_hooks ++ drain_entry ∷ host_entry host.Finals out.Nothing ∷ []

-- .. and without any, ..
abbrev pub ending_events : LoopEnd → List Entry
ending_events reason = ending_with_hooks reason []

abbrev pub great_events : List Entry
great_events = go_entry ∷ ending_events loop_end.Idle

-- .. and the end of the run
abbrev pub gone_entry : Entry
gone_entry = host_entry host.Gone out.Nothing

-- a whole run of one init frame without shared calls: its calls among these events
abbrev pub run_of_calls : List Entry → List Entry
run_of_calls calls = opening_entries ++ calls ++ frame_end ∷ great_events ++ gone_entry ∷ []

-- the begin of the frame of a finalizer of this ticket, which runs entry 1 of this addon, and of one of the only addon
abbrev pub finalizer_begins_at : ℕ → ℕ → Entry
finalizer_begins_at addon n = host_entry host.Begin (out.Begin cause.Finalize addon 1 (ticket n))

abbrev pub finalizer_begins : ℕ → Entry
finalizer_begins n = finalizer_begins_at 0 n

-- its frame, with these calls
abbrev pub finalizer_runs : ℕ → List Entry → List Entry
finalizer_runs n calls = finalizer_begins n ∷ calls ++ frame_end ∷ []

-- a whole run of one init frame and of finalizers or reactions: why its loop ends, its calls, the frames that begin in the loop, and those that begin after
-- `finals`
abbrev pub run_ended_by : LoopEnd → List Entry → List Entry → List Entry → List Entry
run_ended_by reason calls in_loop at_end = opening_entries ++ calls ++ frame_end ∷ go_entry ∷ in_loop ++ ending_events reason ++ at_end ++ gone_entry ∷ []

-- one whose loop ends as nothing is left to do
abbrev pub run_of_finalizers : List Entry → List Entry → List Entry → List Entry
run_of_finalizers calls in_loop at_end = run_ended_by loop_end.Idle calls in_loop at_end

-- the begin of the frame of a reaction of this ticket, which runs entry 1 of the only addon, and its frame, with these calls
abbrev pub reaction_begins : ℕ → Entry
reaction_begins n = host_entry host.Begin (out.Begin cause.Reaction 0 1 (ticket n))

abbrev pub reaction_runs : ℕ → List Entry → List Entry
reaction_runs n calls = reaction_begins n ∷ calls ++ frame_end ∷ []

-- the begin of the frame of a hook of this ticket, which runs entry 1 of the only addon, and its frame, with these calls
abbrev pub hook_begins : ℕ → Entry
hook_begins n = host_entry host.Begin (out.Begin cause.Hook 0 1 (ticket n))

abbrev pub hook_runs : ℕ → List Entry → List Entry
hook_runs n calls = hook_begins n ∷ calls ++ frame_end ∷ []

-- a whole run of one init frame and of hooks: why its loop ends, its calls, and the frames of hooks
abbrev pub run_of_hooks : LoopEnd → List Entry → List Entry → List Entry
run_of_hooks reason calls in_hooks = opening_entries ++ calls ++ frame_end ∷ go_entry ∷ ending_with_hooks reason in_hooks ++ gone_entry ∷ []

-- the entries without the one at this place, counted from 0
abbrev pub left_out : ℕ → List Entry → List Entry
left_out n xs = take n xs ++ drop (n + 1) xs

-- the lines of the opening entries
abbrev pub opening_lines : List ℕ
opening_lines = codes "1 env opened 0 9\n" ++ codes "2 env begin 0 init:0.0\n"

-- the asynchronous hook of a number
abbrev pub hook_id : ℕ → AsyncHookId
hook_id n = record { 0 = n }

-- the handle of a number, and the reference of a number
abbrev pub handle : ℕ → HandleId
handle n = record { 0 = n }

abbrev pub reference : ℕ → RefId
reference n = record { 0 = n }
