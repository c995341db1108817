-- A promise with two reactions is resolved with a number, and rejected, which is refused. The reactions begin in the loop, in the order of adding, and each is
-- told the number.
use Rattle.std.specs.Prelude.{◌≡◌, ℕ, pos, true, List, [], ◌∷◌, ◌++◌, map, replicate, set, Option, codes}
use Rattle.napi_types.specs.declared.call.Call.TheVariants as call
use Rattle.napi_types.specs.declared.op.Op.TheVariants as op
use Rattle.napi_types.specs.declared.entry.Duty.{Duty}
use Rattle.napi_types.specs.declared.entry.Entry.{Entry}
use Rattle.napi_types.specs.declared.entry.LoopEnd.{LoopEnd}
use Rattle.napi_types.specs.declared.entry.Out.TheVariants as out
use Rattle.napi_types.specs.declared.status.Status.{Status}
use Rattle.napi_types.specs.declared.status.Status.TheVariants as status
use Rattle.napi_types.specs.plain.Texts.{fixed_texts}
use Rattle.napi_types.specs.scripts.Plans.{registers_of}
use Rattle.napi_types.specs.scripts.Text.{text}
use Rattle.napi_types.specs.runs.Begins.{begun_along}
use Rattle.napi_types.specs.runs.Setting.{Setting, opening_of, final_registers}
use Rattle.machine_laws.specs.HubWords.{next_after}
use Rattle.machine_laws.specs.PromiseRun.{deferred}
use Rattle.machine_laws.specs.RunWords.{script_of_entries, call_at, call_making, ticket, loop_ended, reaction_begins, reaction_runs, run_of_finalizers, opening_lines, handle}
use Rattle.machine_laws.specs.LegalRuns.{IsRun, told_asks}

-- the script: the deferred's number goes to register 0, the promise's handle to register 1, and the handle of 5 to register 2. The reactions have the data 7
-- and 8. They run the second entry, which keeps the handle of what settled the promise in register 4, and its number in register 5
abbrev pub setting : Setting
setting = script_of_entries (
    (op.CreatePromise 0 1
    ∷ op.AddReaction 1 1 7
    ∷ op.AddReaction 1 1 8
    ∷ op.CreateInt64 (pos 5) 2
    ∷ op.ResolveDeferred 0 2
    ∷ op.RejectDeferred 0 2
    ∷ op.IsPromise 1 3
    ∷ [])
    ∷ (op.GetReactionValue 4 ∷ op.GetValueInt64 4 5 ∷ [])
    ∷ []
    )

-- the addition of the first reaction, with this status and the duty that it makes, where it makes one, ..
abbrev pub adds_first : Status → Option Duty → Entry
adds_first s d = call_making 1 (call.AddReaction (handle 1) 1 7) s out.Nothing d

-- .. and that of the second one
abbrev pub adds_second : Status → Option Duty → Entry
adds_second s d = call_making 2 (call.AddReaction (handle 1) 1 8) s out.Nothing d

-- the first settling, and the second one, each with this status
abbrev pub resolves : Status → Entry
resolves s = call_at 4 (call.ResolveDeferred (deferred 3) (handle 2)) s out.Nothing

abbrev pub rejects : Status → Entry
rejects s = call_at 5 (call.RejectDeferred (deferred 3) (handle 2)) s out.Nothing

-- a reaction asks for what settled its promise, which gives a handle of this number, ..
abbrev pub asks_value : ℕ → Entry
asks_value h = call_at 0 call.GetReactionValue status.Ok (out.Handle (handle h))

-- .. and reads this number from it
abbrev pub reads : ℕ → ℕ → Entry
reads h n = call_at 1 (call.GetValueInt64 (handle h)) status.Ok (out.Signed (pos n))

-- the whole run: the reactions have the tickets 1 and 2, and the environment chose the number 3 for the deferred
abbrev pub trace : List Entry
trace = run_of_finalizers (
    call_at 0 call.CreatePromise status.Ok (out.Promise (deferred 3) (handle 1))
    ∷ adds_first status.Ok (ticket 1)
    ∷ adds_second status.Ok (ticket 2)
    ∷ call_at 3 (call.CreateInt64 (pos 5)) status.Ok (out.Handle (handle 2))
    ∷ resolves status.Ok
    ∷ rejects status.InvalidArg
    ∷ call_at 6 (call.IsPromise (handle 1)) status.Ok (out.Flag true)
    ∷ []
    ) (reaction_runs 1 (asks_value 3 ∷ reads 3 5 ∷ []) ++ reaction_runs 2 (asks_value 4 ∷ reads 4 5 ∷ [])) []

-- its text is these 23 lines
abbrev pub Prints : Type 0
Prints = text fixed_texts trace ≡
    opening_lines
    ++ codes "3 env create_promise 0 promise\n"
    ++ codes "4 env add_reaction 0 - +#1\n"
    ++ codes "5 env add_reaction 0 - +#2\n"
    ++ codes "6 env create_int64 0 handle\n"
    ++ codes "7 env resolve_deferred 0 -\n"
    ++ codes "8 env reject_deferred 1 -\n"
    ++ codes "9 env is_promise 0 true\n"
    ++ codes "10 env end 0 -\n"
    ++ codes "11 env go 0 -\n"
    ++ codes "12 env begin 0 reaction:0.1:#1\n"
    ++ codes "13 env get_reaction_value 0 handle\n"
    ++ codes "14 env get_value_int64 0 5\n"
    ++ codes "15 env end 0 -\n"
    ++ codes "16 env begin 0 reaction:0.1:#2\n"
    ++ codes "17 env get_reaction_value 0 handle\n"
    ++ codes "18 env get_value_int64 0 5\n"
    ++ codes "19 env end 0 -\n"
    ++ codes "20 env loop_end 0 idle\n"
    ++ codes "21 env drain 0 0\n"
    ++ codes "22 env finals 0 -\n"
    ++ codes "23 env gone 0 -\n"

-- each reaction is given its own data, and that its promise was resolved
abbrev pub Gives : Type 0
Gives = map (λ d. d.gifts) (begun_along (opening_of setting) (told_asks setting trace) trace) ≡ (7 ∷ 1 ∷ replicate 6 0) ∷ (8 ∷ 1 ∷ replicate 6 0) ∷ []

-- the addon keeps the deferred's number, the promise's handle, that of 5, that the promise is one, and what the second reaction was told; its other registers
-- stay 0, but those of the second reaction's gifts
abbrev pub Keeps : Type 0
Keeps = registers_of (final_registers setting (told_asks setting trace) trace) 0 ≡
    3 ∷ 1 ∷ 2 ∷ 1 ∷ 4 ∷ 5 ∷ replicate 18 0 ++ 8 ∷ 1 ∷ replicate 6 0

-- near misses are no runs
pub record IsStrict : Type 0 where
  -- each addition registers a reaction of its own
  pub first_added : (s : Status) (d : Option Duty) → IsRun setting (set trace 3 (adds_first s d)) → (s ≡ status.Ok) × (d ≡ ticket 1)
  pub second_added : (s : Status) (d : Option Duty) → IsRun setting (set trace 4 (adds_second s d)) → (s ≡ status.Ok) × (d ≡ ticket 2)
  -- no reaction begins at once: neither as it is added, ..
  pub at_once : (n : ℕ) → IsRun setting (next_after 4 trace (reaction_begins n)) → ⊥
  -- .. nor before the promise is resolved, nor as it is, inside the frame that resolves it, nor behind that, before the loop
  pub before : (n : ℕ) → IsRun setting (next_after 6 trace (reaction_begins n)) → ⊥
  pub within : (n : ℕ) → IsRun setting (next_after 7 trace (reaction_begins n)) → ⊥
  pub early : (n : ℕ) → IsRun setting (next_after 10 trace (reaction_begins n)) → ⊥
  -- the first settling is not refused, and the second one is
  pub resolved : (s : Status) → IsRun setting (set trace 6 (resolves s)) → s ≡ status.Ok
  pub rejected : (s : Status) → IsRun setting (set trace 7 (rejects s)) → s ≡ status.InvalidArg
  -- the reaction that was added first begins first, then the other one, and no third time one of them
  pub first : (n : ℕ) → IsRun setting (next_after 11 trace (reaction_begins n)) → n ≡ 1
  pub second : (n : ℕ) → IsRun setting (next_after 15 trace (reaction_begins n)) → n ≡ 2
  pub again : (n : ℕ) → IsRun setting (next_after 19 trace (reaction_begins n)) → ⊥
  -- the loop does not end, for whatever reason, before both have begun
  pub loop : (r : LoopEnd) → IsRun setting (next_after 15 trace (loop_ended r)) → ⊥
  -- what settled the promise has a new handle in each of their frames, and is 5
  pub first_handle : (h : ℕ) → IsRun setting (set trace 12 (asks_value h)) → h ≡ 3
  pub first_number : (n : ℕ) → IsRun setting (set trace 13 (reads 3 n)) → n ≡ 5
  pub second_handle : (h : ℕ) → IsRun setting (set trace 16 (asks_value h)) → h ≡ 4
  pub second_number : (n : ℕ) → IsRun setting (set trace 17 (reads 4 n)) → n ≡ 5
