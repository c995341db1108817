-- The call that has its effect on the course of the run.
use Rattle.std.specs.Prelude.{true, Option, Some, None}
use Rattle.napi_types.specs.declared.call.Call.{Call}
use Rattle.napi_types.specs.declared.call.Call.TheVariants as call
use Rattle.napi_types.specs.declared.entry.Out.TheVariants as out
use Rattle.napi_types.specs.plain.Replies.{Answer, accepts}
use Rattle.napi_types.specs.environment.Environment.{Environment}
use Rattle.napi_types.specs.environment.Group.{Group, answering}

-- `exit` asks that the loop ends, and changes nothing else: the frame that asks goes on, and init frames that are still to come begin
abbrev pub on_run : Environment → Call → Option (Answer Environment)
on_run e call.Exit = Some (accepts out.Nothing (record e { exit_asked = true }))
on_run e _ = None

-- what the environment tells of this call
abbrev pub run_calls : Group
run_calls = answering (λ e c n. on_run e c)
