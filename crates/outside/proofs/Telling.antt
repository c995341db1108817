-- What a command writes of a run, where that is not its trace.
use Rattle.std.proofs.Common.{◌≡◌, ℕ, List, refl}
use Rattle.napi_types.specs.declared.entry.Entry.{Entry}
use Rattle.napi_types.specs.declared.entry.Local.{Local}
use Rattle.napi_types.specs.declared.lists.Record.{Record}
use Rattle.napi_types.specs.plain.Weave.{weave}
use Rattle.napi_types.specs.scripts.Summary.{summary}
use Rattle.outside.specs.Written.{text_written}
use Rattle.outside.specs.declared.commands.Command.{Command}
use Rattle.outside.specs.declared.commands.Command.TheVariants as command

-- the summary of the two lists of the run
pub summary-told : (c : Command) (texts : List (List ℕ)) (left : Record) (journal : List Local) (history : List Entry) → (c ≡ command.Run → ⊥)
    → journal ≡ left.journal → history ≡ left.history → summary (weave journal history) ≡ text_written c texts left
summary-told command.Run texts left journal history other same_journal same_history = absurd (other refl)
summary-told command.Summary texts left journal history other same_journal same_history = cc
summary-told (command.Load n) texts left journal history other same_journal same_history = cc
