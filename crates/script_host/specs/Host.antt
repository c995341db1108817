-- What the top calls do: the script that they run, and why they write a line in place of a text.
use Rattle.std.specs.Prelude.{◌≡◌, ◌≢◌, ◌≤◌, ◌<◌, ◌↔◌, ℕ, true, false, List, length, Some, Option, None, Result, Ok, Err, ◌⊎◌, ⊤}
use Rattle.napi_types.specs.declared.lists.Record.{Record}
use Rattle.napi_types.specs.declared.script.Script.{Script}
use Rattle.napi_types.specs.declared.script.Mistake.{Mistake}
use Rattle.napi_types.specs.plain.Edge.{HasRisen}
use Rattle.napi_types.specs.scripts.Script.{IsScript, IsWrong}
use Rattle.napi_types.specs.scripts.ScriptReading.{IsNoJson}
use Rattle.outside.specs.Ends.{Input, Output}
use Rattle.outside.specs.Given.{is_met, Gave, GaveScript, GaveTooMuch, CausesOfReading}
use Rattle.outside.specs.Reading.{longest_source, GavePrefix}
use Rattle.outside.specs.Words.{command_of, reads, line_status, line_text}
use Rattle.outside.specs.Written.{IsStatus, IsRunStatus, WroteLine}
use Rattle.outside.specs.declared.commands.Command.{Command}
use Rattle.outside.specs.declared.commands.Command.TheVariants as command
use Rattle.outside.specs.declared.message.Message.{Message}
use Rattle.outside.specs.declared.message.Message.TheVariants as line
use Rattle.outside.specs.declared.scripts.Demand.{Demand}
use Rattle.outside.specs.declared.scripts.Demand.TheVariants as demand
use Rattle.script_run.specs.Load.{load_script}
use Rattle.script_run.specs.Runs.{Handed, HasRun, IsSmall}

-- THE BYTES
-- the bytes are more than a source may give
abbrev pub AreTooLong : List ℕ → Type 0
AreTooLong bytes = longest_source < length bytes

-- the bytes are a script with more addons than were handed in
pub record HasTooManyAddons (bytes : List ℕ) (handed : ℕ) : Type 0 where
  pub script : Script
  pub is_script : IsScript bytes script
  pub more : handed < length script.addons

-- the bytes are a script with no more addons than were handed in, which has not the schedule that is demanded
pub record LacksSchedule (d : Demand) (bytes : List ℕ) (handed : ℕ) : Type 0 where
  pub script : Script
  pub is_script : IsScript bytes script
  pub enough : length script.addons ≤ handed
  pub unmet : is_met d script ≡ false

-- the bytes are not too long, and they are no JSON text, or one in which something is wrong, or a script with too many addons, or one without the schedule that
-- is demanded
pub record AreRefused (d : Demand) (bytes : List ℕ) (handed : ℕ) : Type 0 where
  pub short : length bytes ≤ longest_source
  pub why : IsNoJson bytes ⊎ (((w : Mistake) × IsWrong bytes w) ⊎ (HasTooManyAddons bytes handed ⊎ LacksSchedule d bytes handed))

-- the bytes are not too long, and they are a script with no more addons than were handed in, and with the schedule, where one is demanded
pub record AreRunnable (d : Demand) (bytes : List ℕ) (handed : ℕ) : Type 0 where
  pub short : length bytes ≤ longest_source
  pub script : Script
  pub is_script : IsScript bytes script
  pub enough : length script.addons ≤ handed
  pub met : is_met d script ≡ true

-- THE COMMAND
-- the script that a command runs: what the source gave, or the load script of its number
abbrev pub IsScriptOf : Command → Input → Script → Type 0
IsScriptOf command.Run input script = GaveScript input script
IsScriptOf command.Summary input script = GaveScript input script
IsScriptOf (command.Load number) input script = script ≡ load_script number

-- the command reads the source, and these bytes of it are too many
abbrev pub IsTooLong : Command → List ℕ → Type 0
IsTooLong c bytes = (reads (Some c) ≡ true) × AreTooLong bytes

-- the command with these bytes of the source is refused. A load script has no schedule
abbrev pub IsRefused : Demand → Command → List ℕ → ℕ → Type 0
IsRefused d command.Run bytes handed = AreRefused d bytes handed
IsRefused d command.Summary bytes handed = AreRefused d bytes handed
IsRefused d (command.Load number) bytes handed = (is_met d (load_script number) ≡ false) ⊎ (handed < length (load_script number).addons)

-- the command with these bytes of the source can be run
abbrev pub IsRunnable : Demand → Command → List ℕ → ℕ → Type 0
IsRunnable d command.Run bytes handed = AreRunnable d bytes handed
IsRunnable d command.Summary bytes handed = AreRunnable d bytes handed
IsRunnable d (command.Load number) bytes handed = (is_met d (load_script number) ≡ true) × (length (load_script number).addons ≤ handed)

-- the command is refused, where it reads the source then with the bytes that the source gave
pub record CameRefused (d : Demand) (c : Command) (input : Input) (handed : ℕ) : Type 0 where
  pub bytes : List ℕ
  pub gave : reads (Some c) ≡ true → Gave input bytes
  pub is_refused : IsRefused d c bytes handed

-- THE REFUSALS
-- why it does where the load script is to run: where a schedule is demanded, always for want of one
abbrev pub CausesOfLoad : Demand → Message → Script → ℕ → Type 0
CausesOfLoad demand.Schedule l script handed = l ≡ line.Schedule
CausesOfLoad demand.Nothing line.TooManyAddons script handed = handed < length script.addons
CausesOfLoad demand.Nothing line.NoMemory script handed = ⊤
CausesOfLoad demand.Nothing _ script handed = ⊥

-- why it does, by what the words ask for
abbrev pub Causes : Demand → Message → Option Command → Input → ℕ → Type 0
Causes d l None input handed = l ≡ line.Usage
Causes d l (Some command.Run) input handed = CausesOfReading d l input handed
Causes d l (Some command.Summary) input handed = CausesOfReading d l input handed
Causes d l (Some (command.Load number)) input handed = CausesOfLoad d l (load_script number) handed

-- the words ask for this command, and where it reads the source, these are the source's bytes, and no read failed
pub record IsAskedFor (words : List (List ℕ)) (input : Input) (c : Command) (bytes : List ℕ) : Type 0 where
  pub asked : command_of words ≡ Some c
  pub told : reads (Some c) ≡ true → input.before ≡ Some bytes
  pub readable : reads (Some c) ≡ true → ¬ HasRisen input.faults input.faults_after

-- THE ANSWER
-- what a top call says of its status, of the line that stands in place of a text, and of faults. `handed` addons were handed in
pub record Concluded (d : Demand) (words : List (List ℕ)) (input : Input) (output : Output) (handed : ℕ) (status : ℕ) : Type 0 where
  pub known : IsStatus status
  -- at every other status than those of a run a line has its cause, and stands in place of the text
  pub refused : ¬ IsRunStatus status → (l : Message) × (status ≡ line_status l) × Causes d l (command_of words) input handed × WroteLine output (line_text l)
  -- the same, status by status
  pub usage : (status ≡ 2) ↔ (command_of words ≡ None)
  pub no_script : status ≡ 3 → (c : Command) × (command_of words ≡ Some c) × CameRefused d c input handed
  pub read_fault : status ≡ 4 → HasRisen input.faults input.faults_after
  pub write_fault : status ≡ 5 → HasRisen output.faults output.faults_after
  pub too_long : status ≡ 7 → GaveTooMuch input
  -- each fault is told: of a read always, of a write where a text was written
  pub read_fault_told : input.faults_after ≢ input.faults → status ≡ 4
  pub write_fault_told : IsRunStatus status → output.faults_after ≢ output.faults → status ≡ 5
  -- where no read failed, the words and the bytes that the source has say the status, or there was no memory: 7, else 3, else 0 or 5
  pub too_long_told : (c : Command) (bytes : List ℕ) → IsAskedFor words input c bytes → IsTooLong c bytes → (status ≡ 7) ⊎ (status ≡ 6)
  pub refused_told : (c : Command) (bytes : List ℕ) → IsAskedFor words input c bytes → IsRefused d c bytes handed → (status ≡ 3) ⊎ (status ≡ 6)
  pub complete : (c : Command) (bytes : List ℕ) → IsAskedFor words input c bytes → IsRunnable d c bytes handed → IsRunStatus status ⊎ (status ≡ 6)

-- what a top call says of the source: it reads nothing where the words are no command line or ask for a load, and else no more than a prefix of what is left
pub record ReadAsAsked (words : List (List ℕ)) (input : Input) : Type 0 where
  pub unread : reads (command_of words) ≡ false → input.after ≡ input.before
  pub uncounted : reads (command_of words) ≡ false → input.faults_after ≡ input.faults
  pub prefix : GavePrefix input.before input.after
  pub rises : input.faults ≤ input.faults_after

-- WHAT CAME OF THE WORDS
-- this is the load script of a number, which so many addons are enough for, and which is what is demanded
pub record IsLoaded (d : Demand) (number handed : ℕ) (script : Script) : Type 0 where
  pub of : script ≡ load_script number
  pub small : IsSmall script
  pub enough : length script.addons ≤ handed
  pub met : is_met d script ≡ true

-- it is, or why there is none
abbrev pub LoadedOrRefused : Demand → ℕ → ℕ → Result Script Message → Type 0
LoadedOrRefused d number handed (Ok script) = IsLoaded d number handed script
LoadedOrRefused d number handed (Err l) = CausesOfLoad d l (load_script number) handed

-- this command is asked for, and this is its script, which so many addons are enough for, and which is what is demanded
pub record IsChosen (d : Demand) (words : List (List ℕ)) (input : Input) (handed : ℕ) (c : Command) (script : Script) : Type 0 where
  pub asked : command_of words ≡ Some c
  pub of : IsScriptOf c input script
  pub small : IsSmall script
  pub enough : length script.addons ≤ handed
  pub met : is_met d script ≡ true

-- a command and its script, or why there is none
abbrev pub Chose : Demand → List (List ℕ) → Input → ℕ → Result (Command × Script) Message → Type 0
Chose d words input handed (Ok chosen) = IsChosen d words input handed chosen.0 chosen.1
Chose d words input handed (Err l) = Causes d l (command_of words) input handed

-- the chosen script has run with the addons that were handed in, and these are its texts
pub record HasRunChosen (d : Demand) (words : List (List ℕ)) (input : Input) (before : Handed) (handed : ℕ) (left : Record) (after : Handed) (c : Command) (texts : List (List ℕ)) : Type 0 where
  pub script : Script
  pub chosen : IsChosen d words input handed c script
  pub run : HasRun script before left after
  pub texts_are : texts ≡ script.texts

-- it has, or why there was no run
abbrev pub RanOrRefused : Demand → List (List ℕ) → Input → Handed → ℕ → Record → Handed → Result (Command × List (List ℕ)) Message → Type 0
RanOrRefused d words input before handed left after (Ok ran) = HasRunChosen d words input before handed left after ran.0 ran.1
RanOrRefused d words input before handed left after (Err l) = Causes d l (command_of words) input handed
