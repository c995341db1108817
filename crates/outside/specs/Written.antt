-- What is written of a run or of a refusal, and the status that tells it.
use Rattle.std.specs.Prelude.{◌≡◌, ◌≢◌, ◌≤◌, ℕ, Bool, true, false, List, [], ◌∷◌, length, IsTrue, ◌==◌, ◌⊎◌, Result, Ok, Err}
use Rattle.std.specs.List.{list_any}
use Rattle.std.specs.Io.KnownBytes.{append_known}
use Rattle.napi_types.specs.declared.lists.Record.{Record}
use Rattle.napi_types.specs.plain.Edge.{HasRisen, TookPrefix}
use Rattle.napi_types.specs.plain.Room.{most_entries}
use Rattle.napi_types.specs.plain.Weave.{weave, RisesBetween}
use Rattle.napi_types.specs.scripts.Summary.{summary}
use Rattle.napi_types.specs.scripts.Text.{text}
use Rattle.outside.specs.Ends.{Output}
use Rattle.outside.specs.Words.{line_status, line_text}
use Rattle.outside.specs.declared.commands.Command.{Command}
use Rattle.outside.specs.declared.commands.Command.TheVariants as command
use Rattle.outside.specs.declared.message.Message.{Message}

-- THE TEXT
-- what a command writes of a run with these texts: its trace, or the summary of that
abbrev pub text_written : Command → List (List ℕ) → Record → List ℕ
text_written command.Run texts left = text texts (weave left.journal left.history)
text_written command.Summary texts left = summary (weave left.journal left.history)
text_written (command.Load number) texts left = summary (weave left.journal left.history)

-- the sink took the whole line, or its faults rose and it took a prefix of it
abbrev pub WroteLine : Output → List ℕ → Type 0
WroteLine output line =
    (output.after ≡ append_known output.before line) ⊎ (HasRisen output.faults output.faults_after × TookPrefix output.before line output.after)

-- the sink took the whole text; or, where the text was cut off, its faults rose and it took a prefix of the text
abbrev pub WroteText : Bool → Output → List ℕ → Type 0
WroteText true output written = output.after ≡ append_known output.before written
WroteText false output written = HasRisen output.faults output.faults_after × TookPrefix output.before written output.after

-- THE STATUSES
-- the statuses with which the top call ends
abbrev pub IsStatus : ℕ → Type 0
IsStatus status = IsTrue (list_any (λ known. known == status) (0 ∷ 2 ∷ 3 ∷ 4 ∷ 5 ∷ 6 ∷ 7 ∷ []))

-- the statuses after a run
abbrev pub IsRunStatus : ℕ → Type 0
IsRunStatus status = (status ≡ 0) ⊎ (status ≡ 5)

-- THE OUTCOME
-- the two lists of a run can be written as a text: the journal stands in the order of its places, and each has no more entries than a list may have
pub record IsCounted (left : Record) : Type 0 where
  pub rises : RisesBetween 0 (length left.history) left.journal
  pub journal : length left.journal ≤ most_entries
  pub history : length left.history ≤ most_entries

-- this text of a run was written, and the status tells whether it was whole: 0, or 5 where a write failed, and each fault of a write is told so
pub record WroteRun (written : List ℕ) (output : Output) (status : ℕ) : Type 0 where
  pub run : IsRunStatus status
  pub text : WroteText (status == 0) output written
  pub fault : status ≡ 5 → HasRisen output.faults output.faults_after
  pub told : output.faults_after ≢ output.faults → status ≡ 5

-- this line was written in place of a text, and its status is the answer
pub record WroteRefusal (l : Message) (output : Output) (status : ℕ) : Type 0 where
  pub status_is : status ≡ line_status l
  pub line : WroteLine output (line_text l)

-- what came of the words was written: a run of a script with these texts as its command wants it, or the line
abbrev pub WroteOutcome : Result (Command × List (List ℕ)) Message → Record → Output → ℕ → Type 0
WroteOutcome (Ok ran) left output status = WroteRun (text_written ran.0 ran.1 left) output status
WroteOutcome (Err l) left output status = WroteRefusal l output status
