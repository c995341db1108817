-- Laws of `exit` over all runs.
use Rattle.std.specs.Prelude.{◌≡◌, ◌<◌, ℕ, Bool, true, false, cond, List, [], Some, None, ◌⊎◌}
use Rattle.std.specs.List.{list_any}
use Rattle.napi_types.specs.declared.call.Ask.{Ask}
use Rattle.napi_types.specs.declared.entry.Cause.{Cause}
use Rattle.napi_types.specs.declared.entry.Duty.{Duty}
use Rattle.napi_types.specs.declared.entry.Entry.{Entry}
use Rattle.napi_types.specs.declared.entry.HostStep.TheVariants as host
use Rattle.napi_types.specs.declared.entry.LoopEnd.{LoopEnd}
use Rattle.napi_types.specs.declared.entry.LoopEnd.TheVariants as loop_end
use Rattle.napi_types.specs.declared.entry.Out.TheVariants as out
use Rattle.napi_types.specs.declared.entry.Phase.TheVariants as phase
use Rattle.napi_types.specs.declared.entry.What.{What}
use Rattle.napi_types.specs.declared.entry.What.TheVariants as what
use Rattle.napi_types.specs.plain.CallKinds.{is_exiting}
use Rattle.napi_types.specs.plain.Guards.{is_shared}
use Rattle.napi_types.specs.parts.Book.{lowest_due}
use Rattle.napi_types.specs.hub.HubMoves.{hub_move, is_idle, is_quiet}
use Rattle.napi_types.specs.runs.Choice.{waiting_hooks}
use Rattle.napi_types.specs.runs.Machine.{Machine}
use Rattle.napi_types.specs.runs.Run.{IsNext, IsRunBy}
use Rattle.napi_types.specs.runs.Setting.{Setting, opening_of, final_of}
use Rattle.machine_laws.specs.Choices.{BeginsLastHook, BeginsOfHub}

-- a call that asks to exit
abbrev pub asks_exit : What → Bool
asks_exit (what.Call c) = is_exiting c
asks_exit _ = false

-- such a call stands among the entries
abbrev pub has_exit : List Entry → Bool
has_exit xs = list_any (λ (x : Entry). asks_exit x.what) xs

-- at every moment of a run the environment knows that exit was asked exactly where such a call stands in the run
abbrev pub ExitIsAskedByItsCall : Type 0
ExitIsAskedByItsCall = (s : Setting) (bs : List Ask) (xs : List Entry) → IsRunBy (opening_of s) bs xs → (final_of s bs xs).env.exit_asked ≡ has_exit xs

-- why the loop ends: that exit was asked, or else that nothing is left to do, or else that nobody is left who could give it something to do
abbrev pub reason_of : Bool → Bool → LoopEnd
reason_of exit idle = cond exit loop_end.Exit (cond idle loop_end.Idle loop_end.Quiet)

-- the loop ends for the first reason that holds; but for `exit` it does so only where no ticket is due and the hub has no move, and it is idle or quiet
pub record EndsByReason (m : Machine) (exit : Bool) (x : Entry) : Type 0 where
  pub reason : x.reply.out ≡ out.Ended (reason_of exit (is_idle m.hub))
  pub none_due : exit ≡ false → lowest_due m.env.book ≡ None
  pub unmoved : exit ≡ false → hub_move m.hub ≡ None
  pub quiet : exit ≡ false → is_idle m.hub ≡ false → is_quiet m.hub ≡ true

-- in a run `loop_end` tells `exit` exactly where a call of `exit` stands before it
abbrev pub TheLoopEndsByItsReason : Type 0
TheLoopEndsByItsReason = (s : Setting) (bs : List Ask) (xs : List Entry) (a : Ask) (x : Entry) → IsRunBy (opening_of s) bs xs
    → IsNext (final_of s bs xs) a x → x.what ≡ what.Host host.LoopEnd → EndsByReason (final_of s bs xs) (has_exit xs) x

-- a call on a work or on a thread-safe function, whoever makes it
abbrev pub is_shared_call : What → Bool
is_shared_call (what.Call c) = is_shared c
is_shared_call _ = false

-- such a call stands among the entries
abbrev pub has_shared : List Entry → Bool
has_shared xs = list_any (λ (x : Entry). is_shared_call x.what) xs

-- without one the hub never has anything to do: `loop_end` then tells `exit` or else `idle`
abbrev pub TheLoopEndsByExitOrIdle : Type 0
TheLoopEndsByExitOrIdle = (s : Setting) (bs : List Ask) (xs : List Entry) (a : Ask) (x : Entry) → IsRunBy (opening_of s) bs xs → has_shared xs ≡ false
    → IsNext (final_of s bs xs) a x → x.what ≡ what.Host host.LoopEnd → x.reply.out ≡ out.Ended (cond (has_exit xs) loop_end.Exit loop_end.Idle)

-- the hub delivers behind the loop: between `drain` and `finals`, or before `drain` where no hook is left to begin and an asynchronous one waits
abbrev pub DeliversBehindLoop : Machine → Type 0
DeliversBehindLoop m = (m.env.phase ≡ phase.Drain) ⊎ (m.env.phase ≡ phase.Hooks) × (m.env.hooks ≡ []) × (0 < waiting_hooks m.env)

-- in a run in which a call of `exit` stands a ticket begins a frame after `finals` alone, but that of a hook, which begins as in every other run. A duty of the
-- hub begins one behind the loop alone: between `drain` and `finals`, and before `drain` only while an asynchronous hook waits
abbrev pub WhatIsDueWaitsForFinalsOnceExitWasAsked : Type 0
WhatIsDueWaitsForFinalsOnceExitWasAsked = (s : Setting) (bs : List Ask) (xs : List Entry) (a : Ask) (x : Entry) (c : Cause) (addon entry : ℕ) (d : Duty)
    → IsRunBy (opening_of s) bs xs → has_exit xs ≡ true → IsNext (final_of s bs xs) a x → x.what ≡ what.Host host.Begin
    → x.reply.out ≡ out.Begin c addon entry (Some d)
    → ((final_of s bs xs).env.phase ≡ phase.Finals) ⊎ BeginsLastHook (final_of s bs xs) d
    ⊎ DeliversBehindLoop (final_of s bs xs) × BeginsOfHub (final_of s bs xs) d x
