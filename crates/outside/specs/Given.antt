-- What a source gave: a script that is what is demanded, or why there is none.
use Rattle.std.specs.Prelude.{◌≡◌, ◌≤◌, ◌<◌, ◌^◌, ℕ, Bool, true, false, List, length, is_some, IfSome, Result, Ok, Err, ⊤}
use Rattle.std.specs.Io.KnownBytes.{prepend_known, IsAtEnd}
use Rattle.napi_types.specs.declared.script.Script.{Script}
use Rattle.napi_types.specs.declared.script.Mistake.{Mistake}
use Rattle.napi_types.specs.declared.script.Mistake.TheVariants as wrong
use Rattle.napi_types.specs.plain.Edge.{HasRisen}
use Rattle.napi_types.specs.scripts.Script.{IsScript, IsWrong, HasWrongShape}
use Rattle.napi_types.specs.scripts.ScriptReading.{IsNoJson}
use Rattle.outside.specs.Ends.{Input}
use Rattle.outside.specs.Reading.{longest_source, GavePrefix, GaveTooMany}
use Rattle.outside.specs.declared.message.Message.{Message}
use Rattle.outside.specs.declared.message.Message.TheVariants as line
use Rattle.outside.specs.declared.scripts.Demand.{Demand}
use Rattle.outside.specs.declared.scripts.Demand.TheVariants as demand

-- THE DEMAND
-- whether a script is what a top call demands: one that demands a schedule runs no script without one
abbrev pub is_met : Demand → Script → Bool
is_met demand.Nothing script = true
is_met demand.Schedule script = is_some script.schedule

-- why a script of the right form does not run: more addons than were handed in, or else no schedule that is demanded
abbrev pub Misses : Demand → Script → ℕ → Message → Type 0
Misses d script handed line.TooManyAddons = handed < length script.addons
Misses d script handed line.Schedule = (length script.addons ≤ handed) × (is_met d script ≡ false)
Misses d script handed _ = ⊥

-- THE INPUT
-- the source gave these bytes and no more, up to its end
pub record Gave (input : Input) (bytes : List ℕ) : Type 0 where
  pub whole : input.before ≡ prepend_known bytes input.after
  pub ended : IsAtEnd input.after
  pub all : IfSome input.before (λ given. bytes ≡ given)
  pub within : length bytes ≤ longest_source

-- the script that the source gave
pub record GaveScript (input : Input) (script : Script) : Type 0 where
  pub bytes : List ℕ
  pub gave : Gave input bytes
  pub is_script : IsScript bytes script

-- the source gave bytes that are no JSON text
pub record GaveNoJson (input : Input) : Type 0 where
  pub bytes : List ℕ
  pub gave : Gave input bytes
  pub is_no_json : IsNoJson bytes

-- the source gave a JSON text that is no script, and this is the first thing that is wrong
pub record GaveWrong (input : Input) (w : Mistake) : Type 0 where
  pub bytes : List ℕ
  pub gave : Gave input bytes
  pub is_wrong : IsWrong bytes w

-- the source gave a JSON text in which the part at this path has the wrong form, before anything else is wrong
pub record GaveWrongShape (input : Input) (path : List ℕ) : Type 0 where
  pub bytes : List ℕ
  pub gave : Gave input bytes
  pub has_wrong_shape : HasWrongShape bytes path

-- the source gave a script with more addons than were handed in
pub record GaveTooManyAddons (input : Input) (handed : ℕ) : Type 0 where
  pub script : Script
  pub gave : GaveScript input script
  pub more : handed < length script.addons

-- the source gave a script with no more addons than were handed in, which has not the schedule that is demanded
pub record GaveNoSchedule (d : Demand) (input : Input) (handed : ℕ) : Type 0 where
  pub script : Script
  pub gave : GaveScript input script
  pub enough : length script.addons ≤ handed
  pub unmet : is_met d script ≡ false

-- the source gave more bytes than a source may
pub record GaveTooMuch (input : Input) : Type 0 where
  pub more : GaveTooMany input.before input.after
  pub told : IfSome input.before (λ given. longest_source < length given)

-- THE ANSWER
-- why a line stands in place of a text, where the source is read. The schedule comes last: it is missed only where all else is right
abbrev pub CausesOfReading : Demand → Message → Input → ℕ → Type 0
CausesOfReading d line.Usage input handed = ⊥
CausesOfReading d line.NotJson input handed = GaveNoJson input
CausesOfReading d (line.Shape path) input handed = GaveWrongShape input path
CausesOfReading d (line.Limit which) input handed = GaveWrong input (wrong.Limit which)
CausesOfReading d line.TooManyAddons input handed = GaveTooManyAddons input handed
CausesOfReading d line.Schedule input handed = GaveNoSchedule d input handed
CausesOfReading d line.NoMemory input handed = ⊤
CausesOfReading d line.ReadFault input handed = HasRisen input.faults input.faults_after
CausesOfReading d line.TooLong input handed = GaveTooMuch input

-- the source gave this script, its texts can be counted in 32 bits, so many addons are enough for it, and it is what is demanded
pub record GaveDemanded (d : Demand) (input : Input) (handed : ℕ) (script : Script) : Type 0 where
  pub gave : GaveScript input script
  pub texts : length script.texts < 2 ^ 32
  pub enough : length script.addons ≤ handed
  pub met : is_met d script ≡ true

-- it did, or this line tells why not
abbrev pub GaveOrRefused : Demand → Input → ℕ → Result Script Message → Type 0
GaveOrRefused d input handed (Ok script) = GaveDemanded d input handed script
GaveOrRefused d input handed (Err l) = CausesOfReading d l input handed

-- what became of the source for this answer: it gave a prefix of what it had left, and a read that failed was counted only where the answer tells one
pub record ReadFor {A : Type 0} (answer : Result A Message) (input : Input) : Type 0 where
  pub prefix : GavePrefix input.before input.after
  pub rises : input.faults ≤ input.faults_after
  pub counted : (answer ≡ Err line.ReadFault → ⊥) → input.faults_after ≡ input.faults
