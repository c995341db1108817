-- Which line stands for which status, and why.
use Rattle.std.proofs.Common.{◌≡◌, ◌<◌, ◌∙◌, ℕ, true, false, List, [], length, Option, Some, None, refl, ap, sym, arith}
use Rattle.std.proofs.Common.{◌⊎◌, inl, inr}
use Rattle.napi_types.specs.declared.script.Mistake.{Mistake}
use Rattle.napi_types.specs.declared.script.Mistake.TheVariants as wrong
use Rattle.napi_types.specs.scripts.Script.{IsWrong}
use Rattle.napi_types.specs.scripts.ScriptReading.{IsNoJson}
use Rattle.outside.specs.Ends.{Input}
use Rattle.outside.specs.Given.{is_met, Gave, CausesOfReading}
use Rattle.outside.specs.Words.{line_status}
use Rattle.outside.specs.Written.{IsStatus}
use Rattle.outside.specs.declared.commands.Command.{Command}
use Rattle.outside.specs.declared.commands.Command.TheVariants as command
use Rattle.outside.specs.declared.message.Message.{Message}
use Rattle.outside.specs.declared.message.Message.TheVariants as line
use Rattle.outside.specs.declared.scripts.Demand.{Demand}
use Rattle.outside.specs.declared.scripts.Demand.TheVariants as demand
use Rattle.script_run.specs.Load.{load_script}
use Rattle.script_host.specs.Host.{HasTooManyAddons, LacksSchedule, AreRefused, CameRefused, Causes, CausesOfLoad}

-- a line's status is one of the statuses
pub line-known : (l : Message) → IsStatus (line_status l)
line-known line.Usage = refl
line-known line.NotJson = refl
line-known (line.Shape path) = refl
line-known (line.Limit which) = refl
line-known line.TooManyAddons = refl
line-known line.Schedule = refl
line-known line.NoMemory = refl
line-known line.ReadFault = refl
line-known line.TooLong = refl

-- a source gave bytes that are refused
record GaveRefused (d : Demand) (input : Input) (handed : ℕ) : Type 0 where
  pub bytes : List ℕ
  pub gave : Gave input bytes
  pub are_refused : AreRefused d bytes handed

-- bytes that a source gave are not too long
refused : (d : Demand) (input : Input) (bytes : List ℕ) (handed : ℕ) → Gave input bytes
    → IsNoJson bytes ⊎ (((w : Mistake) × IsWrong bytes w) ⊎ (HasTooManyAddons bytes handed ⊎ LacksSchedule d bytes handed)) → GaveRefused d input handed
refused d input bytes handed gave why = record { bytes = bytes; gave = gave; are_refused = record { short = gave.within; why = why } }

-- a line with the status of a refusal has a refusal as its cause: where the source was read
read-refused : (d : Demand) (l : Message) (input : Input) (handed : ℕ) → CausesOfReading d l input handed → line_status l ≡ 3 → GaveRefused d input handed
read-refused d line.Usage input handed cause e = absurd cause
read-refused d line.NotJson input handed cause e = refused d input cause.bytes handed cause.gave (inl cause.is_no_json)
read-refused d (line.Shape path) input handed cause e =
    refused d input cause.bytes handed cause.gave (inr (inl (wrong.Shape cause.has_wrong_shape.0, cause.has_wrong_shape.2)))
read-refused d (line.Limit which) input handed cause e =
    refused d input cause.bytes handed cause.gave (inr (inl (wrong.Limit which, cause.is_wrong)))
read-refused d line.TooManyAddons input handed cause e =
    refused d input cause.gave.bytes handed cause.gave.gave
    (inr (inr (inl (record { script = cause.script; is_script = cause.gave.is_script; more = cause.more }))))
read-refused d line.Schedule input handed cause e =
    refused d input cause.gave.bytes handed cause.gave.gave
    (inr (inr (inr (record { script = cause.script; is_script = cause.gave.is_script; enough = cause.enough; unmet = cause.unmet }))))
read-refused d line.NoMemory input handed cause e = absurd (omega arith)
read-refused d line.ReadFault input handed cause e = absurd (omega arith)
read-refused d line.TooLong input handed cause e = absurd (omega arith)

-- and where the load script was to run
load-refused : (d : Demand) (l : Message) (n handed : ℕ) → CausesOfLoad d l (load_script n) handed → line_status l ≡ 3
    → (is_met d (load_script n) ≡ false) ⊎ (handed < length (load_script n).addons)
load-refused demand.Schedule l n handed cause e = inl refl
load-refused demand.Nothing line.Usage n handed cause e = absurd cause
load-refused demand.Nothing line.NotJson n handed cause e = absurd cause
load-refused demand.Nothing (line.Shape path) n handed cause e = absurd cause
load-refused demand.Nothing (line.Limit which) n handed cause e = absurd cause
load-refused demand.Nothing line.TooManyAddons n handed cause e = inr cause
load-refused demand.Nothing line.Schedule n handed cause e = absurd cause
load-refused demand.Nothing line.NoMemory n handed cause e = absurd (omega arith)
load-refused demand.Nothing line.ReadFault n handed cause e = absurd cause
load-refused demand.Nothing line.TooLong n handed cause e = absurd cause

-- a line with the status of a refusal stands where the words ask for a command that is refused
pub refused-of : (d : Demand) (l : Message) (o : Option Command) (input : Input) (handed : ℕ)
    → Causes d l o input handed → line_status l ≡ 3 → (c : Command) × (o ≡ Some c) × CameRefused d c input handed
refused-of d l None input handed cause e = let no : 2 ≡ 3 = sym (ap line_status cause) ∙ e in absurd (omega (arith, no))
refused-of d l (Some command.Run) input handed cause e =
    let r : GaveRefused d input handed = read-refused d l input handed cause e in
    (command.Run, refl, record { bytes = r.bytes; gave = λ reading. r.gave; is_refused = r.are_refused })
refused-of d l (Some command.Summary) input handed cause e =
    let r : GaveRefused d input handed = read-refused d l input handed cause e in
    (command.Summary, refl, record { bytes = r.bytes; gave = λ reading. r.gave; is_refused = r.are_refused })
refused-of d l (Some (command.Load n)) input handed cause e =
    (command.Load n, refl, record { bytes = []; gave = λ reading. (let no : true ≡ false = sym reading in cc); is_refused = load-refused d l n handed cause e })

-- where a fault of the source was counted, the line tells it
pub fault-told : (l : Message) (faults risen : ℕ) → ((l ≡ line.ReadFault → ⊥) → risen ≡ faults) → (risen ≡ faults → ⊥) → line_status l ≡ 4
fault-told line.Usage faults risen same differs = absurd (differs (same (λ e. cc)))
fault-told line.NotJson faults risen same differs = absurd (differs (same (λ e. cc)))
fault-told (line.Shape path) faults risen same differs = absurd (differs (same (λ e. cc)))
fault-told (line.Limit which) faults risen same differs = absurd (differs (same (λ e. cc)))
fault-told line.TooManyAddons faults risen same differs = absurd (differs (same (λ e. cc)))
fault-told line.Schedule faults risen same differs = absurd (differs (same (λ e. cc)))
fault-told line.NoMemory faults risen same differs = absurd (differs (same (λ e. cc)))
fault-told line.ReadFault faults risen same differs = refl
fault-told line.TooLong faults risen same differs = absurd (differs (same (λ e. cc)))
