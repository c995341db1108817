-- A buffer has two views. What one of them writes the other reads, a byte at a time, until the buffer is detached.
use Rattle.std.specs.Prelude.{◌≡◌, ℕ, Bool, true, List, [], ◌∷◌, ◌++◌, replicate, set, codes}
use Rattle.napi_types.specs.declared.call.Call.TheVariants as call
use Rattle.napi_types.specs.declared.op.Op.TheVariants as op
use Rattle.napi_types.specs.declared.entry.Entry.{Entry}
use Rattle.napi_types.specs.declared.entry.Out.{Out}
use Rattle.napi_types.specs.declared.entry.Out.TheVariants as out
use Rattle.napi_types.specs.declared.status.Status.{Status}
use Rattle.napi_types.specs.declared.status.Status.TheVariants as status
use Rattle.napi_types.specs.plain.Texts.{fixed_texts}
use Rattle.napi_types.specs.scripts.Plans.{registers_of}
use Rattle.napi_types.specs.scripts.Text.{text}
use Rattle.napi_types.specs.runs.Setting.{Setting, final_registers}
use Rattle.machine_laws.specs.RunWords.{script_of, call_at, run_of_calls, opening_lines, handle}
use Rattle.machine_laws.specs.LegalRuns.{IsRun, told_asks}

-- the script makes a buffer of eight bytes, a view of its last four as one number, and a view of all of them. It writes 258 through the first, reads the two
-- lowest bytes of that through the second, and one element past the first. Then it detaches the buffer, asks for its size, reads a byte, detaches it again, and
-- asks whether it is detached
abbrev pub setting : Setting
setting = script_of (
    op.CreateArraybuffer 8 0
    ∷ op.CreateTypedarray 6 0 4 1 1
    ∷ op.CreateTypedarray 1 0 0 8 2
    ∷ op.SetView 1 0 258
    ∷ op.GetView 2 4 3
    ∷ op.GetView 2 5 3
    ∷ op.GetView 1 1 3
    ∷ op.DetachArraybuffer 0
    ∷ op.GetArraybufferInfo 0 4
    ∷ op.GetView 2 4 3
    ∷ op.DetachArraybuffer 0
    ∷ op.IsDetachedArraybuffer 0 5
    ∷ []
    )

-- the two bytes that are read, the least one first
abbrev pub low_read : ℕ → Entry
low_read n = call_at 4 (call.GetView (handle 3) 4) status.Ok (out.Unsigned n)

abbrev pub high_read : ℕ → Entry
high_read n = call_at 5 (call.GetView (handle 3) 5) status.Ok (out.Unsigned n)

-- what is read past the end of the first view
abbrev pub past_read : Status → Out → Entry
past_read s o = call_at 6 (call.GetView (handle 2) 1) s o

-- the size of the detached buffer, and what is read of it
abbrev pub size_told : ℕ → Entry
size_told n = call_at 8 (call.GetArraybufferInfo (handle 1)) status.Ok (out.Unsigned n)

abbrev pub late_read : Status → Out → Entry
late_read s o = call_at 9 (call.GetView (handle 3) 4) s o

-- the second detaching, and whether the buffer is detached
abbrev pub detached_again : Status → Entry
detached_again s = call_at 10 (call.DetachArraybuffer (handle 1)) s out.Nothing

abbrev pub detached_told : Bool → Entry
detached_told b = call_at 11 (call.IsDetachedArraybuffer (handle 1)) status.Ok (out.Flag b)

-- the whole run
abbrev pub trace : List Entry
trace = run_of_calls (
    call_at 0 (call.CreateArraybuffer 8) status.Ok (out.Handle (handle 1))
    ∷ call_at 1 (call.CreateTypedarray 6 (handle 1) 4 1) status.Ok (out.Handle (handle 2))
    ∷ call_at 2 (call.CreateTypedarray 1 (handle 1) 0 8) status.Ok (out.Handle (handle 3))
    ∷ call_at 3 (call.SetView (handle 2) 0 258) status.Ok out.Nothing
    ∷ low_read 2
    ∷ high_read 1
    ∷ past_read status.InvalidArg out.Nothing
    ∷ call_at 7 (call.DetachArraybuffer (handle 1)) status.Ok out.Nothing
    ∷ size_told 0
    ∷ late_read status.InvalidArg out.Nothing
    ∷ detached_again status.DetachableArraybufferExpected
    ∷ detached_told true
    ∷ []
    )

-- their text is these twenty lines
abbrev pub Prints : Type 0
Prints = text fixed_texts trace ≡
    opening_lines
    ++ codes "3 env create_arraybuffer 0 handle\n"
    ++ codes "4 env create_typedarray 0 handle\n"
    ++ codes "5 env create_typedarray 0 handle\n"
    ++ codes "6 env set_view 0 -\n"
    ++ codes "7 env get_view 0 2\n"
    ++ codes "8 env get_view 0 1\n"
    ++ codes "9 env get_view 1 -\n"
    ++ codes "10 env detach_arraybuffer 0 -\n"
    ++ codes "11 env get_arraybuffer_info 0 0\n"
    ++ codes "12 env get_view 1 -\n"
    ++ codes "13 env detach_arraybuffer 20 -\n"
    ++ codes "14 env is_detached_arraybuffer 0 true\n"
    ++ codes "15 env end 0 -\n"
    ++ codes "16 env go 0 -\n"
    ++ codes "17 env loop_end 0 idle\n"
    ++ codes "18 env drain 0 0\n"
    ++ codes "19 env finals 0 -\n"
    ++ codes "20 env gone 0 -\n"

-- the addon keeps the handles of the buffer and of its views, the byte that was read last, the size, and that the buffer is detached. Its other registers
-- stay 0
abbrev pub Keeps : Type 0
Keeps = registers_of (final_registers setting (told_asks setting trace) trace) 0 ≡ 1 ∷ 2 ∷ 3 ∷ 1 ∷ 0 ∷ 1 ∷ replicate 26 0

-- near misses are no runs
pub record IsStrict : Type 0 where
  -- the number's least byte lies first: the bytes are read as 2 and 1, and as no other numbers
  pub low : (n : ℕ) → IsRun setting (set trace 6 (low_read n)) → n ≡ 2
  pub high : (n : ℕ) → IsRun setting (set trace 7 (high_read n)) → n ≡ 1
  -- nothing is read past the end of a view, whatever its buffer has there
  pub past : (s : Status) → IsRun setting (set trace 8 (past_read s out.Nothing)) → s ≡ status.InvalidArg
  pub past_number : (s : Status) (n : ℕ) → IsRun setting (set trace 8 (past_read s (out.Unsigned n))) → ⊥
  -- a detached buffer has no bytes, nothing is read of it, it is not detached again, and it is told as one
  pub size : (n : ℕ) → IsRun setting (set trace 10 (size_told n)) → n ≡ 0
  pub late_number : (s : Status) (n : ℕ) → IsRun setting (set trace 11 (late_read s (out.Unsigned n))) → ⊥
  pub again : (s : Status) → IsRun setting (set trace 12 (detached_again s)) → s ≡ status.DetachableArraybufferExpected
  pub detached : (b : Bool) → IsRun setting (set trace 13 (detached_told b)) → b ≡ true
