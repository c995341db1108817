use Rattle.std.proofs.Common.{refl, ◌≡◌, ℕ, Bool, true, ap, set}
use Rattle.std.specs.Fmt.{digits}
use Rattle.napi_types.specs.declared.status.Status.{Status}
use Rattle.napi_types.specs.declared.status.Status.TheVariants as status
use Rattle.machine_laws.specs.LegalRuns.{told_asks, IsRun}
use Rattle.machine_laws.specs.PromiseRun.{setting, trace, trace_of, promise_made, resolves, rejects, asks_promise}
use Rattle.machine_laws.proofs.RowLists.{ends-of}
use Rattle.machine_laws.proofs.AskLists.{told-run}
use Rattle.machine_laws.proofs.Misses.{entry_in_place, told_flag, told_promise, settled_deferred, told-may}
use Rattle.machine_laws.proofs.promise_runs.promise_run.Goals as goal

pub returns-clause-ends : goal.returns-clause-ends
returns-clause-ends c = ends-of setting (told_asks setting trace) trace (refl, refl) refl refl

pub returns-clause-prints : goal.returns-clause-prints
unfolding digits
returns-clause-prints c = refl

pub returns-clause-registers : goal.returns-clause-registers
returns-clause-registers c = refl

first-accepted : (s : Status) → IsRun setting (set trace 4 (resolves 3 s)) → s ≡ status.Ok
first-accepted s r = ap (λ xs. (entry_in_place 4 xs).reply.status) (told-run setting (set trace 4 (resolves 3 s)) refl r)

second-refused : (s : Status) → IsRun setting (set trace 5 (rejects 3 s)) → s ≡ status.InvalidArg
second-refused s r = ap (λ xs. (entry_in_place 5 xs).reply.status) (told-run setting (set trace 5 (rejects 3 s)) refl r)

not-nought : IsRun setting (trace_of 0) → ⊥
not-nought r = let z : _ = told-may setting (trace_of 0) refl r in cc

new-handle : (h : ℕ) → IsRun setting (set trace 2 (promise_made 3 h)) → h ≡ 1
new-handle h r = ap (λ xs. told_promise h (entry_in_place 2 xs).reply.out) (told-run setting (set trace 2 (promise_made 3 h)) refl r)

is-promise : (b : Bool) → IsRun setting (set trace 6 (asks_promise b)) → b ≡ true
is-promise b r = ap (λ xs. told_flag b (entry_in_place 6 xs).reply.out) (told-run setting (set trace 6 (asks_promise b)) refl r)

own-resolved : (d : ℕ) (s : Status) → IsRun setting (set trace 4 (resolves d s)) → d ≡ 3
own-resolved d s r = ap (λ xs. settled_deferred d (entry_in_place 4 xs).what) (told-run setting (set trace 4 (resolves d s)) refl r)

own-rejected : (d : ℕ) (s : Status) → IsRun setting (set trace 5 (rejects d s)) → d ≡ 3
own-rejected d s r = ap (λ xs. settled_deferred d (entry_in_place 5 xs).what) (told-run setting (set trace 5 (rejects d s)) refl r)

pub returns-clause-strict : goal.returns-clause-strict
returns-clause-strict c = record {
  first = first-accepted;
  second = second-refused;
  nought = not-nought;
  fresh = new-handle;
  promise = is-promise;
  resolved = own-resolved;
  rejected = own-rejected;
}
