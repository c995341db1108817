-- The history has no room for a call in an item's frame: the frame ends there, cut, and its end stands in the history.
use Rattle.std.specs.Prelude.{◌≡◌, ℕ, List, [], ◌∷◌, ◌++◌, Some, None, codes}
use Rattle.napi_types.specs.declared.call.Call.TheVariants as call
use Rattle.napi_types.specs.declared.call.Mode.TheVariants as mode
use Rattle.napi_types.specs.declared.entry.Cause.TheVariants as cause
use Rattle.napi_types.specs.declared.entry.Entry.{Entry}
use Rattle.napi_types.specs.declared.entry.Local.{Local}
use Rattle.napi_types.specs.declared.entry.LoopEnd.TheVariants as loop_end
use Rattle.napi_types.specs.declared.entry.Out.TheVariants as out
use Rattle.napi_types.specs.declared.entry.Why.TheVariants as why
use Rattle.napi_types.specs.declared.op.Op.TheVariants as op
use Rattle.napi_types.specs.declared.status.Status.TheVariants as status
use Rattle.napi_types.specs.plain.Texts.{fixed_texts}
use Rattle.napi_types.specs.plain.Weave.{weave}
use Rattle.napi_types.specs.scripts.Text.{text}
use Rattle.napi_types.specs.runs.Setting.{Setting}
use Rattle.machine_laws.specs.HubWords.{function_lines, shared_journal, script_for, within, next_after, item, shared_making, target_at, function_created, calls_function, item_begins, function_finishes, drains, finals}
use Rattle.machine_laws.specs.RunWords.{frame_ends, frame_end, loop_ended, go_entry}
use Rattle.machine_laws.specs.LegalRuns.{IsRun}

-- the script: a function without a maximum is called once, and each item's frame calls it three times; with room for so many entries in the history
abbrev pub setting_within : ℕ → Setting
setting_within places = within 100 places (script_for 0 0 (
    (op.CreateThreadsafeFunction None (Some 1) 0 1 None 0 0 ∷ op.CallThreadsafeFunction 0 1 mode.Nonblocking ∷ [])
    ∷ (op.CallThreadsafeFunction 0 2 mode.Nonblocking ∷ op.CallThreadsafeFunction 0 3 mode.Nonblocking ∷ op.CallThreadsafeFunction 0 4 mode.Nonblocking ∷ [])
    ∷ []
    ))

-- two of them have their places
abbrev pub setting : Setting
setting = setting_within 18

-- a call of an item's frame, which makes this item
abbrev pub frame_call : ℕ → ℕ → Entry
frame_call n made = shared_making n (calls_function made mode.Nonblocking) status.Ok (item made)

-- the end of a frame that is cut so
abbrev pub cut_full : Entry
cut_full = frame_ends (out.Cut why.Full)

-- the history
abbrev pub history : List Entry
history =
    function_created 0 (call.CreateThreadsafeFunction None (Some 1) 0 1 None 0) (target_at 1) None
    ∷ shared_making 1 (calls_function 1 mode.Nonblocking) status.Ok (item 1)
    ∷ go_entry
    ∷ item_begins cause.Item 1
    ∷ frame_call 0 2
    ∷ frame_call 1 3
    ∷ cut_full
    ∷ item_begins cause.Item 2
    ∷ cut_full
    ∷ item_begins cause.Item 3
    ∷ cut_full
    ∷ loop_ended loop_end.Quiet
    ∷ drains 0
    ∷ function_finishes
    ∷ finals
    ∷ []

-- the journal
abbrev pub journal : List Local
journal = shared_journal 2 15

-- the whole run
abbrev pub trace : List Entry
trace = weave journal history

-- its text is these 19 lines
abbrev pub Prints : Type 0
Prints = text fixed_texts trace ≡
    function_lines
    ++ codes "4 env call_threadsafe_function 0 - +f1.1\n"
    ++ codes "5 env end 0 -\n"
    ++ codes "6 env go 0 -\n"
    ++ codes "7 env begin 0 item:0.1:f1.1\n"
    ++ codes "8 env call_threadsafe_function 0 - +f1.2\n"
    ++ codes "9 env call_threadsafe_function 0 - +f1.3\n"
    ++ codes "10 env end 0 cut:full\n"
    ++ codes "11 env begin 0 item:0.1:f1.2\n"
    ++ codes "12 env end 0 cut:full\n"
    ++ codes "13 env begin 0 item:0.1:f1.3\n"
    ++ codes "14 env end 0 cut:full\n"
    ++ codes "15 env loop_end 0 quiet\n"
    ++ codes "16 env drain 0 0\n"
    ++ codes "17 env finish_tsfn 0 f1\n"
    ++ codes "18 env finals 0 -\n"
    ++ codes "19 env gone 0 -\n"

-- NEAR MISSES
pub record IsStrict : Type 0 where
  -- the third call is not accepted; with two places more it would be
  pub full : IsRun setting (next_after 9 trace (frame_call 2 4)) → ⊥
  pub room : IsRun (setting_within 20) (next_after 9 trace (frame_call 2 4))
  -- the frame does not end there uncut, nor is it cut at the second call
  pub uncut : IsRun setting (next_after 9 trace frame_end) → ⊥
  pub early : IsRun setting (next_after 8 trace cut_full) → ⊥
