-- What thread-safe functions keep alive, over all runs.
use Rattle.std.specs.Prelude.{◌≡◌, ℕ, ◌==◌, Bool, true, false, List, [], ◌++◌, map, filter, Option, Some}
use Rattle.std.specs.List.{All}
use Rattle.napi_types.specs.declared.call.Ask.{Ask}
use Rattle.napi_types.specs.declared.call.Call.TheVariants as call
use Rattle.napi_types.specs.declared.entry.Entry.{Entry}
use Rattle.napi_types.specs.declared.entry.HostStep.TheVariants as host
use Rattle.napi_types.specs.declared.entry.Out.{Out}
use Rattle.napi_types.specs.declared.entry.Out.TheVariants as out
use Rattle.napi_types.specs.declared.entry.What.{What}
use Rattle.napi_types.specs.declared.entry.What.TheVariants as what
use Rattle.napi_types.specs.declared.ids.HandleId.{HandleId}
use Rattle.napi_types.specs.declared.ids.TsfnId.{TsfnId}
use Rattle.napi_types.specs.plain.Lists.{singleton}
use Rattle.napi_types.specs.parts.Heap.{handle_value}
use Rattle.napi_types.specs.environment.Environment.{Environment}
use Rattle.napi_types.specs.runs.Machine.{Machine}
use Rattle.napi_types.specs.runs.Run.{IsNext, IsRunBy, after, final}

-- the values that the thread-safe function of this number keeps alive. They are roots
abbrev pub kept_by : ℕ → Environment → List ℕ
kept_by n e = map (λ r. r.value) (filter (λ r. r.function == n) e.tsfn_roots)

-- a new one keeps the value of its function, as the handle gave it before the call
abbrev pub NewFunctionsKeepTheirValue : Type 0
NewFunctionsKeepTheirValue = (m : Machine) (a : Ask) (x : Entry) (f : HandleId) (entry : Option ℕ) (maximum count : ℕ) (finalizer : Option ℕ) (context : ℕ) (n : TsfnId)
    → IsNext m a x → x.what ≡ what.Call (call.CreateThreadsafeFunction (Some f) entry maximum count finalizer context) → x.reply.out ≡ out.Function n
    → kept_by n.0 (after m a x).env ≡ kept_by n.0 m.env ++ singleton (handle_value m.env.heap f.0)

-- the entry tells that the function of this number finishes
abbrev pub tells_finish : ℕ → What → Out → Bool
tells_finish n (what.Host host.FinishTsfn) (out.Function f) = f.0 == n
tells_finish n _ _ = false

abbrev pub is_finish_of : ℕ → Entry → Bool
is_finish_of n x = tells_finish n x.what x.reply.out

-- what it kept before it keeps after
pub record KeepsOn (n : ℕ) (old new : Environment) : Type 0 where
  pub more : List ℕ
  pub kept : kept_by n new ≡ kept_by n old ++ more

-- it keeps that along every run in which its finish does not stand
abbrev pub FunctionsKeepUntilTheyFinish : Type 0
FunctionsKeepUntilTheyFinish = (m : Machine) (bs : List Ask) (xs : List Entry) (n : ℕ) → IsRunBy m bs xs → All (λ x. is_finish_of n x ≡ false) xs
    → KeepsOn n m.env (final m bs xs).env

-- from then on it keeps none
abbrev pub FinishedFunctionsKeepNone : Type 0
FinishedFunctionsKeepNone = (m : Machine) (a : Ask) (x : Entry) (n : ℕ) → IsNext m a x → is_finish_of n x ≡ true → kept_by n (after m a x).env ≡ []
