-- A promise with a reaction is never settled: the reaction begins after `finals`, is given that the promise is pending, and is told no value.
use Rattle.std.specs.Prelude.{◌≡◌, ℕ, List, [], ◌∷◌, ◌++◌, map, replicate, set, codes}
use Rattle.napi_types.specs.declared.call.Call.TheVariants as call
use Rattle.napi_types.specs.declared.op.Op.TheVariants as op
use Rattle.napi_types.specs.declared.entry.Entry.{Entry}
use Rattle.napi_types.specs.declared.entry.Out.{Out}
use Rattle.napi_types.specs.declared.entry.Out.TheVariants as out
use Rattle.napi_types.specs.declared.status.Status.{Status}
use Rattle.napi_types.specs.declared.status.Status.TheVariants as status
use Rattle.napi_types.specs.plain.Texts.{fixed_texts}
use Rattle.napi_types.specs.scripts.Plans.{registers_of}
use Rattle.napi_types.specs.scripts.Text.{text}
use Rattle.napi_types.specs.runs.Begins.{begun_along}
use Rattle.napi_types.specs.runs.Setting.{Setting, opening_of, final_registers}
use Rattle.machine_laws.specs.HubWords.{next_after}
use Rattle.machine_laws.specs.PromiseRun.{deferred}
use Rattle.machine_laws.specs.RunWords.{script_of_entries, call_at, call_making, ticket, reaction_begins, reaction_runs, run_of_finalizers, opening_lines, handle}
use Rattle.machine_laws.specs.LegalRuns.{IsRun, told_asks}

-- the script: the reaction has the data 7, and runs the second entry, which asks for what settled the promise
abbrev pub setting : Setting
setting = script_of_entries ((op.CreatePromise 0 1 ∷ op.AddReaction 1 1 7 ∷ []) ∷ (op.GetReactionValue 4 ∷ []) ∷ [])

-- the reaction asks for it, with this status and this result
abbrev pub asks_value : Status → Out → Entry
asks_value s o = call_at 0 call.GetReactionValue s o

-- the run whose reaction has these frames in the loop, and these after `finals`
abbrev pub trace_with : List Entry → List Entry → List Entry
trace_with in_loop at_end = run_of_finalizers (
    call_at 0 call.CreatePromise status.Ok (out.Promise (deferred 3) (handle 1))
    ∷ call_making 1 (call.AddReaction (handle 1) 1 7) status.Ok out.Nothing (ticket 1)
    ∷ []
    ) in_loop at_end

-- the frame of the reaction, of this ticket
abbrev pub reacts : ℕ → List Entry
reacts n = reaction_runs n (asks_value status.InvalidArg out.Nothing ∷ [])

-- the whole run
abbrev pub trace : List Entry
trace = trace_with [] (reacts 1)

-- its text is these 13 lines
abbrev pub Prints : Type 0
Prints = text fixed_texts trace ≡
    opening_lines
    ++ codes "3 env create_promise 0 promise\n"
    ++ codes "4 env add_reaction 0 - +#1\n"
    ++ codes "5 env end 0 -\n"
    ++ codes "6 env go 0 -\n"
    ++ codes "7 env loop_end 0 idle\n"
    ++ codes "8 env drain 0 0\n"
    ++ codes "9 env finals 0 -\n"
    ++ codes "10 env begin 0 reaction:0.1:#1\n"
    ++ codes "11 env get_reaction_value 1 -\n"
    ++ codes "12 env end 0 -\n"
    ++ codes "13 env gone 0 -\n"

-- the reaction is given its data, and that its promise is pending
abbrev pub Gives : Type 0
Gives = map (λ d. d.gifts) (begun_along (opening_of setting) (told_asks setting trace) trace) ≡ (7 ∷ 0 ∷ replicate 6 0) ∷ []

-- the addon keeps the deferred's number and the promise's handle; its other registers stay 0, but that of the reaction's data
abbrev pub Keeps : Type 0
Keeps = registers_of (final_registers setting (told_asks setting trace) trace) 0 ≡ 3 ∷ 1 ∷ replicate 22 0 ++ 7 ∷ replicate 7 0

-- near misses are no runs
pub record IsStrict : Type 0 where
  -- the reaction does not begin before `finals`: neither as it is added, nor in the loop, once or twice, nor before or after the drain
  pub at_once : (n : ℕ) → IsRun setting (next_after 4 trace (reaction_begins n)) → ⊥
  pub early : (n : ℕ) → IsRun setting (next_after 6 trace (reaction_begins n)) → ⊥
  pub in_loop : (n : ℕ) (at_end : List Entry) → IsRun setting (trace_with (reacts n) at_end) → ⊥
  pub undrained : (n : ℕ) → IsRun setting (next_after 7 trace (reaction_begins n)) → ⊥
  pub drained : (n : ℕ) → IsRun setting (next_after 8 trace (reaction_begins n)) → ⊥
  -- then it begins, once, and the environment is not gone before
  pub first : (n : ℕ) → IsRun setting (next_after 9 trace (reaction_begins n)) → n ≡ 1
  pub never : IsRun setting (trace_with [] []) → ⊥
  pub again : (n : ℕ) → IsRun setting (next_after 12 trace (reaction_begins n)) → ⊥
  -- what it asks is refused, and it gets no handle, whatever the status
  pub refused : (s : Status) → IsRun setting (set trace 10 (asks_value s out.Nothing)) → s ≡ status.InvalidArg
  pub untold : (s : Status) (h : ℕ) → IsRun setting (set trace 10 (asks_value s (out.Handle (handle h)))) → ⊥
