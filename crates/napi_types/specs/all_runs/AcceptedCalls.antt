-- An accepted call that registers tells its duty.
use Rattle.std.specs.Prelude.{◌≡◌, true, List, is_some}
use Rattle.std.specs.List.{All}
use Rattle.napi_types.specs.declared.call.Ask.{Ask}
use Rattle.napi_types.specs.declared.call.Call.{Call}
use Rattle.napi_types.specs.declared.entry.Entry.{Entry}
use Rattle.napi_types.specs.declared.entry.What.TheVariants as what
use Rattle.napi_types.specs.declared.status.Status.TheVariants as status
use Rattle.napi_types.specs.plain.DutyCalls.{makes_duty}
use Rattle.napi_types.specs.runs.Run.{IsRunBy}
use Rattle.napi_types.specs.runs.Setting.{Setting, opening_of}

-- the entry of a call that makes a duty tells it, where its status is 0
abbrev pub TellsItsDuty : Entry → Type 0
TellsItsDuty x = (c : Call) → x.what ≡ what.Call c → makes_duty c ≡ true → x.reply.status ≡ status.Ok → is_some x.reply.made ≡ true

-- so do all entries of a run
abbrev pub AcceptedCallsTellTheirDuty : Type 0
AcceptedCallsTellTheirDuty = (s : Setting) (bs : List Ask) (xs : List Entry) → IsRunBy (opening_of s) bs xs → All TellsItsDuty xs
