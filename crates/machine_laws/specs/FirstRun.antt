-- The first run: an addon opens a scope, makes an object in it, asks for its kind and closes the scope.
use Rattle.std.specs.Prelude.{◌≡◌, ℕ, List, [], ◌∷◌, ◌++◌, map, set, take, drop, replicate, codes}
use Rattle.napi_types.specs.declared.call.Ask.{Ask}
use Rattle.napi_types.specs.declared.call.Call.TheVariants as call
use Rattle.napi_types.specs.declared.op.Op.TheVariants as op
use Rattle.napi_types.specs.declared.entry.Actor.TheVariants as actor
use Rattle.napi_types.specs.declared.entry.Entry.{Entry}
use Rattle.napi_types.specs.declared.entry.Local.{Local}
use Rattle.napi_types.specs.declared.entry.LoopEnd.{LoopEnd}
use Rattle.napi_types.specs.declared.entry.LoopEnd.TheVariants as loop_end
use Rattle.napi_types.specs.declared.entry.Out.TheVariants as out
use Rattle.napi_types.specs.declared.status.Kind.{Kind}
use Rattle.napi_types.specs.declared.status.Kind.TheVariants as kind
use Rattle.napi_types.specs.declared.status.Status.TheVariants as status
use Rattle.napi_types.specs.plain.Texts.{fixed_texts}
use Rattle.napi_types.specs.plain.Weave.{weave}
use Rattle.napi_types.specs.scripts.Plans.{registers_of}
use Rattle.napi_types.specs.scripts.Text.{text}
use Rattle.napi_types.specs.runs.Parting.{IsParted}
use Rattle.napi_types.specs.runs.Setting.{Setting, opening_of, final_registers}
use Rattle.machine_laws.specs.RunWords.{script_of, call_at, opening_entries, frame_end, great_events, gone_entry, loop_ended, left_out, opening_lines}
use Rattle.machine_laws.specs.LegalRuns.{IsRun, told_asks}

-- the script: the scope's number goes to register 0, the handle's to register 1, the kind's to register 2
abbrev pub setting : Setting
setting = script_of (op.OpenHandleScope 0 ∷ op.CreateObject 1 ∷ op.Typeof 1 2 ∷ op.CloseHandleScope 0 ∷ [])

-- the call of `typeof`, with this kind as its result
abbrev pub typeof_entry : Kind → Entry
typeof_entry k = call_at 2 (call.Typeof (record { 0 = 1 })) status.Ok (out.Kind k)

-- the four calls
abbrev pub four_calls : List Entry
four_calls =
    call_at 0 call.OpenHandleScope status.Ok (out.Scope (record { 0 = 1 }))
    ∷ call_at 1 call.CreateObject status.Ok (out.Handle (record { 0 = 1 }))
    ∷ typeof_entry kind.Object
    ∷ call_at 3 (call.CloseHandleScope (record { 0 = 1 })) status.Ok out.Nothing
    ∷ []

-- an entry of the journal at this length of the history
abbrev pub local_entry : ℕ → Entry → Local
local_entry n x = record { at = n; entry = x }

-- a journal with these entries before the history's first, and the end of the run at this length of the history
abbrev pub journal_of : List Entry → ℕ → List Local
journal_of xs n = map (λ x. local_entry 0 x) xs ++ local_entry n gone_entry ∷ []

-- the journal: all entries up to the frame's end, and the end of the run behind the history's last
abbrev pub journal : List Local
journal = journal_of (opening_entries ++ four_calls ++ frame_end ∷ []) 4

-- the history: the four events of the hub
abbrev pub history : List Entry
history = great_events

-- the whole run
abbrev pub trace : List Entry
trace = weave journal history

-- what the script asks along it
abbrev pub asks : List Ask
asks = told_asks setting trace

-- its text is these twelve lines
abbrev pub Prints : Type 0
Prints = text fixed_texts trace ≡
    opening_lines
    ++ codes "3 env open_handle_scope 0 scope\n"
    ++ codes "4 env create_object 0 handle\n"
    ++ codes "5 env typeof 0 object\n"
    ++ codes "6 env close_handle_scope 0 -\n"
    ++ codes "7 env end 0 -\n"
    ++ codes "8 env go 0 -\n"
    ++ codes "9 env loop_end 0 idle\n"
    ++ codes "10 env drain 0 0\n"
    ++ codes "11 env finals 0 -\n"
    ++ codes "12 env gone 0 -\n"

-- the addon keeps the scope's number, the handle's, and 6, the number of the kind of an object; its other registers stay 0
abbrev pub Keeps : Type 0
Keeps = registers_of (final_registers setting asks trace) 0 ≡ 1 ∷ 1 ∷ 6 ∷ replicate 29 0

-- the same entries on other lists: `go` in the journal, ..
abbrev pub journal_with_go : List Local
journal_with_go = journal_of (opening_entries ++ four_calls ++ frame_end ∷ take 1 great_events) 3

-- .. or the end of the init frame in the history
abbrev pub journal_without_end : List Local
journal_without_end = journal_of (opening_entries ++ four_calls) 5

-- each entry stands on its list, and on no other, though the weave has the same entries in the same order
pub record IsPartedSo : Type 0 where
  pub parted : IsParted (opening_of setting) asks journal history
  pub go_same : weave journal_with_go (drop 1 history) ≡ trace
  pub go : IsParted (opening_of setting) asks journal_with_go (drop 1 history) → ⊥
  pub end_same : weave journal_without_end (frame_end ∷ history) ≡ trace
  pub end : IsParted (opening_of setting) asks journal_without_end (frame_end ∷ history) → ⊥

-- the addon's registers after the first four entries and this one
abbrev pub registers_with : Entry → List ℕ
registers_with x = registers_of (final_registers setting asks (take 4 trace ++ x ∷ [])) 0

-- the reply to `typeof` goes to a register, and the same reply in an entry of a thread to none
pub record KeepsOwnReplies : Type 0 where
  pub own : registers_with (typeof_entry kind.Object) ≡ 1 ∷ 1 ∷ 6 ∷ replicate 29 0
  pub of_thread : (n : ℕ) → registers_with (record (typeof_entry kind.Object) { actor = actor.Thread n }) ≡ 1 ∷ 1 ∷ replicate 30 0

-- NEAR MISSES, whatever is asked along them
pub record IsStrict : Type 0 where
  -- `typeof` can tell no kind but that of an object
  pub kind : (k : Kind) → IsRun setting (set trace 4 (typeof_entry k)) → k ≡ kind.Object
  -- no call is left out
  pub close : IsRun setting (left_out 5 trace) → ⊥
  -- the loop ends for no other reason
  pub reason : (e : LoopEnd) → IsRun setting (set trace 8 (loop_ended e)) → e ≡ loop_end.Idle
  -- nothing comes after the end of the run
  pub last : (x : Entry) → IsRun setting (trace ++ x ∷ []) → ⊥
