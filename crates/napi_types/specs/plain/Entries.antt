-- Words on the entries of a run.
use Rattle.std.specs.Prelude.{None, Bool, true, false, Option, Some}
use Rattle.napi_types.specs.declared.entry.Actor.{Actor}
use Rattle.napi_types.specs.declared.entry.Actor.TheVariants as actor
use Rattle.napi_types.specs.declared.entry.Duty.{Duty}
use Rattle.napi_types.specs.declared.entry.Entry.{Entry}
use Rattle.napi_types.specs.declared.entry.HostStep.{HostStep}
use Rattle.napi_types.specs.declared.entry.HostStep.TheVariants as host
use Rattle.napi_types.specs.declared.entry.Out.{Out}
use Rattle.napi_types.specs.declared.entry.Out.TheVariants as out
use Rattle.napi_types.specs.declared.entry.What.{What}
use Rattle.napi_types.specs.declared.entry.What.TheVariants as what
use Rattle.napi_types.specs.declared.entry.Why.{Why}
use Rattle.napi_types.specs.declared.status.Status.{Status}
use Rattle.napi_types.specs.declared.status.Status.TheVariants as status
use Rattle.napi_types.specs.plain.Replies.{plain}

-- an event of the environment that is no call, with a status
abbrev pub host_told : HostStep → Status → Out → Entry
host_told h s o = record { actor = actor.Env; depth = 0; step = 0; what = what.Host h; reply = plain s o; given = None }

-- the same with status 0, as of all but the end of a call's frame
abbrev pub host_entry : HostStep → Out → Entry
host_entry h o = host_told h status.Ok o

-- the environment itself
abbrev pub is_environment : Actor → Bool
is_environment actor.Env = true
is_environment _ = false

-- the cut that a result tells, if it tells one
abbrev pub cut_of : Out → Option Why
cut_of (out.Cut w) = Some w
cut_of _ = None

-- whether the entry is a frame's begin, and whether it is `finals`
abbrev pub is_begin : What → Bool
is_begin (what.Host host.Begin) = true
is_begin _ = false

abbrev pub is_finals : What → Bool
is_finals (what.Host host.Finals) = true
is_finals _ = false

-- the duty whose frame begins with this result, where it is a begin's
abbrev pub told_duty : Out → Option Duty
told_duty (out.Begin cause addon entry d) = d
told_duty _ = None

abbrev pub begun_duty : What → Out → Option Duty
begun_duty (what.Host host.Begin) o = told_duty o
begun_duty _ o = None

-- the duty of the work that starts with this result, where it is a start's
abbrev pub told_start : Out → Option Duty
told_start (out.Duty d) = Some d
told_start _ = None

abbrev pub started_duty : What → Out → Option Duty
started_duty (what.Host host.Start) o = told_start o
started_duty _ o = None
