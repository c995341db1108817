-- What holds of finalizers and hooks at every moment of a run.
use Rattle.std.specs.Prelude.{◌≡◌, ℕ, true, false, List, Some, ◌⊎◌}
use Rattle.napi_types.specs.declared.call.Ask.{Ask}
use Rattle.napi_types.specs.declared.entry.Cause.TheVariants as cause
use Rattle.napi_types.specs.declared.entry.Duty.{Duty}
use Rattle.napi_types.specs.declared.entry.Entry.{Entry}
use Rattle.napi_types.specs.declared.entry.HostStep.TheVariants as host
use Rattle.napi_types.specs.declared.entry.Out.TheVariants as out
use Rattle.napi_types.specs.declared.entry.What.TheVariants as what
use Rattle.napi_types.specs.parts.Book.{is_registered, is_at}
use Rattle.napi_types.specs.parts.Duties.{AreNested}
use Rattle.napi_types.specs.environment.Hooked.{is_from_finals_on}
use Rattle.napi_types.specs.runs.Run.{IsNext, IsRunBy}
use Rattle.napi_types.specs.runs.Setting.{Setting, opening_of, final_of}
use Rattle.machine_laws.specs.Choices.{BeginsLowest, BeginsLastHook, BeginsOfHub}

-- only the outermost frame is one that no call began, so only it is one that a duty began: no duty runs inside another frame
abbrev pub OnlyTheOutermostFrameHasADuty : Type 0
OnlyTheOutermostFrameHasADuty = (s : Setting) (bs : List Ask) (xs : List Entry) → IsRunBy (opening_of s) bs xs → AreNested (final_of s bs xs).env.frames

-- from `finals` on no ticket is registered: each is due, has begun, has ended or was withdrawn
abbrev pub NoneIsRegisteredFromFinalsOn : Type 0
NoneIsRegisteredFromFinalsOn =
    (s : Setting) (bs : List Ask) (xs : List Entry) (n : ℕ) → IsRunBy (opening_of s) bs xs → is_from_finals_on (final_of s bs xs).env.phase ≡ true
    → is_at is_registered (final_of s bs xs).env.book n ≡ false

-- a finalizer begins in the loop until exit is asked, or after `finals`, and is the lowest that is due: it waits while hooks begin. That of a thread-safe
-- function, which is no ticket, begins as the hub's other duties do
abbrev pub FinalizersBeginInTheLoopOrAtTheEnd : Type 0
FinalizersBeginInTheLoopOrAtTheEnd = (s : Setting) (bs : List Ask) (xs : List Entry) (a : Ask) (x : Entry) (addon entry : ℕ) (d : Duty) → IsRunBy (opening_of s) bs xs
    → IsNext (final_of s bs xs) a x → x.what ≡ what.Host host.Begin → x.reply.out ≡ out.Begin cause.Finalize addon entry (Some d)
    → BeginsLowest (final_of s bs xs) d ⊎ BeginsOfHub (final_of s bs xs) d x

-- a hook begins between the end of the loop and `drain`, and is the one that was added last
abbrev pub HooksBeginAfterTheLoop : Type 0
HooksBeginAfterTheLoop = (s : Setting) (bs : List Ask) (xs : List Entry) (a : Ask) (x : Entry) (addon entry : ℕ) (d : Duty) → IsRunBy (opening_of s) bs xs
    → IsNext (final_of s bs xs) a x → x.what ≡ what.Host host.Begin → x.reply.out ≡ out.Begin cause.Hook addon entry (Some d) → BeginsLastHook (final_of s bs xs) d
