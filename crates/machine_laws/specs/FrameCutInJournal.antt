-- The journal has no room for a local call in an item's frame: the frame is cut, and its end stands in the history.
use Rattle.std.specs.Prelude.{◌≡◌, ℕ, List, [], ◌∷◌, ◌++◌, Some, None, codes}
use Rattle.napi_types.specs.declared.call.Call.TheVariants as call
use Rattle.napi_types.specs.declared.call.Mode.TheVariants as mode
use Rattle.napi_types.specs.declared.entry.Cause.TheVariants as cause
use Rattle.napi_types.specs.declared.entry.Entry.{Entry}
use Rattle.napi_types.specs.declared.entry.Local.{Local}
use Rattle.napi_types.specs.declared.entry.LoopEnd.TheVariants as loop_end
use Rattle.napi_types.specs.declared.entry.Out.TheVariants as out
use Rattle.napi_types.specs.declared.entry.Why.TheVariants as why
use Rattle.napi_types.specs.declared.op.Op.TheVariants as op
use Rattle.napi_types.specs.declared.status.Status.TheVariants as status
use Rattle.napi_types.specs.plain.Texts.{fixed_texts}
use Rattle.napi_types.specs.plain.Weave.{weave}
use Rattle.napi_types.specs.scripts.Text.{text}
use Rattle.napi_types.specs.runs.Parting.{IsParted}
use Rattle.napi_types.specs.runs.Setting.{Setting, opening_of}
use Rattle.machine_laws.specs.HubWords.{function_lines, script_for, within, at_length, next_after, item, shared_making, target_at, function_created, calls_function, item_begins, function_finishes, drains, finals}
use Rattle.machine_laws.specs.RunWords.{call_at, frame_ends, opening_entries, frame_end, loop_ended, go_entry, gone_entry}
use Rattle.machine_laws.specs.LegalRuns.{IsRun, told_asks}

-- the script: a function is called once, and the item's frame asks the version four times; with room for so many entries in the journal
abbrev pub setting_within : ℕ → Setting
setting_within places = within places 100 (script_for 0 0 (
    (op.CreateThreadsafeFunction None (Some 1) 0 1 None 0 0 ∷ op.CallThreadsafeFunction 0 1 mode.Nonblocking ∷ [])
    ∷ (op.GetVersion 3 ∷ op.GetVersion 3 ∷ op.GetVersion 3 ∷ op.GetVersion 3 ∷ [])
    ∷ []
    ))

-- two of them have their places
abbrev pub setting : Setting
setting = setting_within 6

-- the call of the version
abbrev pub version_told : ℕ → Entry
version_told n = call_at n call.GetVersion status.Ok (out.Unsigned 10)

-- the end of the frame, which is cut
abbrev pub cut_full : Entry
cut_full = frame_ends (out.Cut why.Full)

-- the history up to the begin of the item's frame, and behind its end
abbrev pub history_prefix : List Entry
history_prefix =
    function_created 0 (call.CreateThreadsafeFunction None (Some 1) 0 1 None 0) (target_at 1) None
    ∷ shared_making 1 (calls_function 1 mode.Nonblocking) status.Ok (item 1)
    ∷ go_entry
    ∷ item_begins cause.Item 1
    ∷ []

abbrev pub history_end : List Entry
history_end = loop_ended loop_end.Quiet ∷ drains 0 ∷ function_finishes ∷ finals ∷ []

abbrev pub history : List Entry
history = history_prefix ++ cut_full ∷ history_end

-- the journal up to the calls of the item's frame
abbrev pub journal_prefix : List Local
journal_prefix = at_length 0 opening_entries ++ at_length 2 (frame_end ∷ []) ++ at_length 4 (version_told 0 ∷ version_told 1 ∷ [])

abbrev pub journal : List Local
journal = journal_prefix ++ at_length 9 (gone_entry ∷ [])

-- the whole run
abbrev pub trace : List Entry
trace = weave journal history

-- its text is these 15 lines
abbrev pub Prints : Type 0
Prints = text fixed_texts trace ≡
    function_lines
    ++ codes "4 env call_threadsafe_function 0 - +f1.1\n"
    ++ codes "5 env end 0 -\n"
    ++ codes "6 env go 0 -\n"
    ++ codes "7 env begin 0 item:0.1:f1.1\n"
    ++ codes "8 env get_version 0 10\n"
    ++ codes "9 env get_version 0 10\n"
    ++ codes "10 env end 0 cut:full\n"
    ++ codes "11 env loop_end 0 quiet\n"
    ++ codes "12 env drain 0 0\n"
    ++ codes "13 env finish_tsfn 0 f1\n"
    ++ codes "14 env finals 0 -\n"
    ++ codes "15 env gone 0 -\n"

-- the same entries, where the end of the item's frame stands in the journal
abbrev pub journal_with_end : List Local
journal_with_end = journal_prefix ++ at_length 4 (cut_full ∷ []) ++ at_length 8 (gone_entry ∷ [])

-- NEAR MISSES
pub record IsStrict : Type 0 where
  -- the third call is not accepted; with one place more it would be
  pub full : IsRun setting (next_after 9 trace (version_told 2)) → ⊥
  pub room : IsRun (setting_within 7) (next_after 9 trace (version_told 2))
  -- the end of the frame does not stand in the journal, though the weave is the same
  pub same : weave journal_with_end (history_prefix ++ history_end) ≡ trace
  pub end : IsParted (opening_of setting) (told_asks setting trace) journal_with_end (history_prefix ++ history_end) → ⊥
