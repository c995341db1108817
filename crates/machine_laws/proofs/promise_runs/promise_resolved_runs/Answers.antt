use Rattle.std.proofs.Common.{refl, ◌≡◌, ℕ, ap, set, Option}
use Rattle.std.specs.Fmt.{digits}
use Rattle.napi_types.specs.declared.call.Call.TheVariants as call
use Rattle.napi_types.specs.declared.entry.Duty.{Duty}
use Rattle.napi_types.specs.declared.entry.HostStep.TheVariants as host
use Rattle.napi_types.specs.declared.entry.LoopEnd.{LoopEnd}
use Rattle.napi_types.specs.declared.entry.What.TheVariants as what
use Rattle.napi_types.specs.declared.status.Status.{Status}
use Rattle.napi_types.specs.declared.status.Status.TheVariants as status
use Rattle.machine_laws.specs.HubWords.{next_after}
use Rattle.machine_laws.specs.LegalRuns.{told_asks, IsRun}
use Rattle.machine_laws.specs.PromiseResolved.{setting, trace, adds_first, adds_second, resolves, rejects, asks_value, reads}
use Rattle.machine_laws.specs.RunWords.{ticket, loop_ended, reaction_begins, handle}
use Rattle.machine_laws.proofs.RowLists.{ends-of}
use Rattle.machine_laws.proofs.Misses.{told_handle, told_signed, ticket_told, told-entry}
use Rattle.machine_laws.proofs.promise_runs.promise_resolved_runs.Goals as goal

pub returns-clause-ends : goal.returns-clause-ends
returns-clause-ends c = ends-of setting (told_asks setting trace) trace (refl, refl) refl refl

pub returns-clause-prints : goal.returns-clause-prints
unfolding digits
returns-clause-prints c = refl

pub returns-clause-gives : goal.returns-clause-gives
returns-clause-gives c = refl

pub returns-clause-registers : goal.returns-clause-registers
returns-clause-registers c = refl

-- ADDING AND SETTLING
adds-one : (s : Status) (d : Option Duty) → IsRun setting (set trace 3 (adds_first s d)) → (s ≡ status.Ok) × (d ≡ ticket 1)
adds-one s d r = let same : adds_first s d ≡ _ = told-entry setting _ 3 refl r in (ap (λ x. x.reply.status) same, ap (λ x. x.reply.made) same)

adds-two : (s : Status) (d : Option Duty) → IsRun setting (set trace 4 (adds_second s d)) → (s ≡ status.Ok) × (d ≡ ticket 2)
adds-two s d r = let same : adds_second s d ≡ _ = told-entry setting _ 4 refl r in (ap (λ x. x.reply.status) same, ap (λ x. x.reply.made) same)

is-resolved : (s : Status) → IsRun setting (set trace 6 (resolves s)) → s ≡ status.Ok
is-resolved s r = ap (λ x. x.reply.status) (told-entry setting _ 6 refl r)

not-rejected : (s : Status) → IsRun setting (set trace 7 (rejects s)) → s ≡ status.InvalidArg
not-rejected s r = ap (λ x. x.reply.status) (told-entry setting _ 7 refl r)

-- THE BEGINS
not-at-once : (n : ℕ) → IsRun setting (next_after 4 trace (reaction_begins n)) → ⊥
not-at-once n r = let w : what.Host host.Begin ≡ what.Call (call.AddReaction (handle 1) 1 8) = ap (λ x. x.what) (told-entry setting _ 4 refl r) in cc

not-before : (n : ℕ) → IsRun setting (next_after 6 trace (reaction_begins n)) → ⊥
not-before n r = let w : what.Host host.Begin ≡ (resolves status.Ok).what = ap (λ x. x.what) (told-entry setting _ 6 refl r) in cc

not-within : (n : ℕ) → IsRun setting (next_after 7 trace (reaction_begins n)) → ⊥
not-within n r = let w : what.Host host.Begin ≡ (rejects status.Ok).what = ap (λ x. x.what) (told-entry setting _ 7 refl r) in cc

not-early : (n : ℕ) → IsRun setting (next_after 10 trace (reaction_begins n)) → ⊥
not-early n r = let w : what.Host host.Begin ≡ what.Host host.Go = ap (λ x. x.what) (told-entry setting _ 10 refl r) in cc

first-first : (n : ℕ) → IsRun setting (next_after 11 trace (reaction_begins n)) → n ≡ 1
first-first n r = ap (λ x. ticket_told n x.reply.out) (told-entry setting _ 11 refl r)

second-then : (n : ℕ) → IsRun setting (next_after 15 trace (reaction_begins n)) → n ≡ 2
second-then n r = ap (λ x. ticket_told n x.reply.out) (told-entry setting _ 15 refl r)

not-again : (n : ℕ) → IsRun setting (next_after 19 trace (reaction_begins n)) → ⊥
not-again n r = let w : what.Host host.Begin ≡ what.Host host.LoopEnd = ap (λ x. x.what) (told-entry setting _ 19 refl r) in cc

not-ended : (e : LoopEnd) → IsRun setting (next_after 15 trace (loop_ended e)) → ⊥
not-ended e r = let w : what.Host host.LoopEnd ≡ what.Host host.Begin = ap (λ x. x.what) (told-entry setting _ 15 refl r) in cc

-- WHAT SETTLED THE PROMISE
handle-first : (h : ℕ) → IsRun setting (set trace 12 (asks_value h)) → h ≡ 3
handle-first h r = ap (λ x. told_handle h x.reply.out) (told-entry setting _ 12 refl r)

number-first : (n : ℕ) → IsRun setting (set trace 13 (reads 3 n)) → n ≡ 5
number-first n r = ap (λ x. told_signed n x.reply.out) (told-entry setting _ 13 refl r)

handle-second : (h : ℕ) → IsRun setting (set trace 16 (asks_value h)) → h ≡ 4
handle-second h r = ap (λ x. told_handle h x.reply.out) (told-entry setting _ 16 refl r)

number-second : (n : ℕ) → IsRun setting (set trace 17 (reads 4 n)) → n ≡ 5
number-second n r = ap (λ x. told_signed n x.reply.out) (told-entry setting _ 17 refl r)

pub returns-clause-strict : goal.returns-clause-strict
returns-clause-strict c = record {
  first_added = adds-one;
  second_added = adds-two;
  at_once = not-at-once;
  before = not-before;
  within = not-within;
  early = not-early;
  resolved = is-resolved;
  rejected = not-rejected;
  first = first-first;
  second = second-then;
  again = not-again;
  loop = not-ended;
  first_handle = handle-first;
  first_number = number-first;
  second_handle = handle-second;
  second_number = number-second;
}
