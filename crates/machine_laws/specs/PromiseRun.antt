-- A promise is made, its deferred is settled with a number, and settled again, which is refused.
use Rattle.std.specs.Prelude.{◌≡◌, ℕ, pos, Bool, true, List, [], ◌∷◌, ◌++◌, replicate, set, codes}
use Rattle.napi_types.specs.declared.call.Call.TheVariants as call
use Rattle.napi_types.specs.declared.op.Op.TheVariants as op
use Rattle.napi_types.specs.declared.entry.Entry.{Entry}
use Rattle.napi_types.specs.declared.entry.Out.TheVariants as out
use Rattle.napi_types.specs.declared.ids.DeferredId.{DeferredId}
use Rattle.napi_types.specs.declared.status.Status.{Status}
use Rattle.napi_types.specs.declared.status.Status.TheVariants as status
use Rattle.napi_types.specs.plain.Texts.{fixed_texts}
use Rattle.napi_types.specs.scripts.Plans.{registers_of}
use Rattle.napi_types.specs.scripts.Text.{text}
use Rattle.napi_types.specs.runs.Setting.{Setting, final_registers}
use Rattle.machine_laws.specs.RunWords.{script_of, call_at, run_of_calls, opening_lines, handle}
use Rattle.machine_laws.specs.LegalRuns.{IsRun, told_asks}

-- the script: the deferred's number goes to register 0, the promise's handle to register 1, the handle of 5 to register 2, and whether the promise is one to
-- register 3
abbrev pub setting : Setting
setting = script_of (op.CreatePromise 0 1 ∷ op.CreateInt64 (pos 5) 2 ∷ op.ResolveDeferred 0 2 ∷ op.RejectDeferred 0 2 ∷ op.IsPromise 1 3 ∷ [])

-- the deferred of a number
abbrev pub deferred : ℕ → DeferredId
deferred n = record { 0 = n }

-- the making of the promise, with a deferred and a handle of these numbers
abbrev pub promise_made : ℕ → ℕ → Entry
promise_made d h = call_at 0 call.CreatePromise status.Ok (out.Promise (deferred d) (handle h))

-- the first settling, of the deferred of this number, and the second one, each with this status
abbrev pub resolves : ℕ → Status → Entry
resolves d s = call_at 2 (call.ResolveDeferred (deferred d) (handle 2)) s out.Nothing

abbrev pub rejects : ℕ → Status → Entry
rejects d s = call_at 3 (call.RejectDeferred (deferred d) (handle 2)) s out.Nothing

-- whether the handle that register 1 keeps is one of a promise
abbrev pub asks_promise : Bool → Entry
asks_promise b = call_at 4 (call.IsPromise (handle 1)) status.Ok (out.Flag b)

-- the run whose deferred has this number: the environment chooses it
abbrev pub trace_of : ℕ → List Entry
trace_of d = run_of_calls (
    promise_made d 1
    ∷ call_at 1 (call.CreateInt64 (pos 5)) status.Ok (out.Handle (handle 2))
    ∷ resolves d status.Ok
    ∷ rejects d status.InvalidArg
    ∷ asks_promise true
    ∷ []
    )

-- the whole run, where it chose 3
abbrev pub trace : List Entry
trace = trace_of 3

-- their text is these thirteen lines
abbrev pub Prints : Type 0
Prints = text fixed_texts trace ≡
    opening_lines
    ++ codes "3 env create_promise 0 promise\n"
    ++ codes "4 env create_int64 0 handle\n"
    ++ codes "5 env resolve_deferred 0 -\n"
    ++ codes "6 env reject_deferred 1 -\n"
    ++ codes "7 env is_promise 0 true\n"
    ++ codes "8 env end 0 -\n"
    ++ codes "9 env go 0 -\n"
    ++ codes "10 env loop_end 0 idle\n"
    ++ codes "11 env drain 0 0\n"
    ++ codes "12 env finals 0 -\n"
    ++ codes "13 env gone 0 -\n"

-- the addon keeps the deferred's number, the promise's handle, that of 5, and that the promise is one; its other registers stay 0
abbrev pub Keeps : Type 0
Keeps = registers_of (final_registers setting (told_asks setting trace) trace) 0 ≡ 3 ∷ 1 ∷ 2 ∷ 1 ∷ replicate 28 0

-- near misses are no runs
pub record IsStrict : Type 0 where
  -- the first settling is not refused, and the second one is
  pub first : (s : Status) → IsRun setting (set trace 4 (resolves 3 s)) → s ≡ status.Ok
  pub second : (s : Status) → IsRun setting (set trace 5 (rejects 3 s)) → s ≡ status.InvalidArg
  -- 0 is no deferred, whatever comes of it
  pub nought : IsRun setting (trace_of 0) → ⊥
  -- the promise has a new handle
  pub fresh : (h : ℕ) → IsRun setting (set trace 2 (promise_made 3 h)) → h ≡ 1
  -- it is a promise
  pub promise : (b : Bool) → IsRun setting (set trace 6 (asks_promise b)) → b ≡ true
  -- register 0 keeps the deferred, and not the handle: both settlings name it
  pub resolved : (d : ℕ) (s : Status) → IsRun setting (set trace 4 (resolves d s)) → d ≡ 3
  pub rejected : (d : ℕ) (s : Status) → IsRun setting (set trace 5 (rejects d s)) → d ≡ 3
