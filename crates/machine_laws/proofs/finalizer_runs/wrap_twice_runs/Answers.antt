use Rattle.std.proofs.Common.{refl, ◌≡◌, ℕ, [], ◌++◌, ap, set, Option, None, arith, ◌≤◌, true, false}
use Rattle.std.specs.Fmt.{digits}
use Rattle.napi_types.specs.declared.entry.Duty.{Duty}
use Rattle.napi_types.specs.declared.entry.HostStep.TheVariants as host
use Rattle.napi_types.specs.declared.entry.What.TheVariants as what
use Rattle.napi_types.specs.declared.status.Status.{Status}
use Rattle.napi_types.specs.declared.status.Status.TheVariants as status
use Rattle.napi_types.specs.parts.Book.{ticket_duty}
use Rattle.napi_types.specs.all_runs.Counts.{Once}
use Rattle.napi_types.proofs.all_runs.OncePlaces.{each-once}
use Rattle.machine_laws.specs.LegalRuns.{told_asks, IsRun, EndsAsTold}
use Rattle.machine_laws.specs.WrapTwice.{setting, trace, trace_with, wrapped_again, removed, wrapped_anew, unwrapped, runs}
use Rattle.machine_laws.specs.RunWords.{ticket, gone_entry}
use Rattle.machine_laws.specs.OnceMisses.{withdrawn_elsewhere, withdrawn_where_refused}
use Rattle.machine_laws.proofs.RowLists.{ends-of}
use Rattle.machine_laws.proofs.AskLists.{told-run}
use Rattle.machine_laws.proofs.Misses.{entry_in_place, told_number, ticket_told}
use Rattle.machine_laws.proofs.finalizer_runs.wrap_twice_runs.Goals as goal

ends : EndsAsTold setting trace
ends = ends-of setting (told_asks setting trace) trace (refl, refl) refl refl

pub returns-clause-ends : goal.returns-clause-ends
returns-clause-ends c = ends

pub returns-clause-prints : goal.returns-clause-prints
unfolding digits
returns-clause-prints c = refl

no-second : (s : Status) (d : Option Duty) → IsRun setting (set trace 5 (wrapped_again s d)) → (s ≡ status.InvalidArg) × (d ≡ None)
no-second s d r =
    let same : set trace 5 (wrapped_again s d) ≡ _ = told-run setting (set trace 5 (wrapped_again s d)) refl r in (
      ap (λ xs. (entry_in_place 5 xs).reply.status) same,
      ap (λ xs. (entry_in_place 5 xs).reply.made) same,
    )

withdraws : (d : Option Duty) → IsRun setting (set trace 6 (removed d)) → d ≡ ticket 1
withdraws d r = ap (λ xs. (entry_in_place 6 xs).reply.dropped) (told-run setting (set trace 6 (removed d)) refl r)

registers : (d : Option Duty) → IsRun setting (set trace 7 (wrapped_anew d)) → d ≡ ticket 2
registers d r = ap (λ xs. (entry_in_place 7 xs).reply.made) (told-run setting (set trace 7 (wrapped_anew d)) refl r)

no-other-payload : (n : ℕ) → IsRun setting (set trace 8 (unwrapped n)) → n ≡ 7
no-other-payload n r = ap (λ xs. told_number n (entry_in_place 8 xs).reply.out) (told-run setting (set trace 8 (unwrapped n)) refl r)

no-other : (n : ℕ) → IsRun setting (trace_with (runs n)) → n ≡ 2
no-other n r = ap (λ xs. ticket_told n (entry_in_place 13 xs).reply.out) (told-run setting (trace_with (runs n)) refl r)

not-before : IsRun setting (trace_with (runs 1 ++ runs 2)) → ⊥
not-before r = let z : 1 ≡ 2 = ap (λ xs. ticket_told 0 (entry_in_place 13 xs).reply.out) (told-run setting (trace_with (runs 1 ++ runs 2)) refl r) in absurd (omega (arith, z))

not-after : IsRun setting (trace_with (runs 2 ++ runs 1)) → ⊥
not-after r =
    let w : what.Host host.Begin ≡ what.Host host.LoopEnd = ap (λ xs. (entry_in_place 15 xs).what) (told-run setting (trace_with (runs 2 ++ runs 1)) refl r) in cc

not-twice : IsRun setting (trace_with (runs 2 ++ runs 2)) → ⊥
not-twice r =
    let w : what.Host host.Begin ≡ what.Host host.LoopEnd = ap (λ xs. (entry_in_place 15 xs).what) (told-run setting (trace_with (runs 2 ++ runs 2)) refl r) in cc

not-never : IsRun setting (trace_with []) → ⊥
not-never r = let w : what.Host host.LoopEnd ≡ what.Host host.Begin = ap (λ xs. (entry_in_place 13 xs).what) (told-run setting (trace_with []) refl r) in cc

pub returns-clause-strict : goal.returns-clause-strict
returns-clause-strict c = record {
  once = no-second;
  removed = withdraws;
  anew = registers;
  payload = no-other-payload;
  alone = no-other;
  before = not-before;
  after = not-after;
  twice = not-twice;
  never = not-never;
}

once-not-twice : Once (trace_with (runs 2 ++ runs 2)) → ⊥
once-not-twice once = let z : 2 ≡ 1 = (once.each (ticket_duty 2)).kept refl refl in absurd (omega (arith, z))

once-not-never : Once (trace_with []) → ⊥
once-not-never once = let z : 0 ≡ 1 = (once.each (ticket_duty 2)).kept refl refl in absurd (omega (arith, z))

not-withdrawn : Once (trace_with (runs 1 ++ runs 2)) → ⊥
not-withdrawn once = let z : 1 ≡ 0 = ((once.each (ticket_duty 1)).withdrawn (omega arith)).1 in absurd (omega (arith, z))

not-unmade : Once (trace_with (runs 2 ++ runs 3)) → ⊥
not-unmade once = let z : 1 ≡ 0 = (once.each (ticket_duty 3)).others refl in absurd (omega (arith, z))

not-remade : Once (set trace 5 (wrapped_again status.Ok (ticket 2))) → ⊥
not-remade once = let z : 2 ≤ 1 = (once.each (ticket_duty 2)).singly in absurd (omega (arith, z))

not-elsewhere : Once withdrawn_elsewhere → ⊥
not-elsewhere once = let z : false ≡ true = (once.withdrawals 8 gone_entry (omega arith)).call refl in cc

not-refused : Once withdrawn_where_refused → ⊥
not-refused once = let z : status.InvalidArg ≡ status.Ok = (once.withdrawals 6 gone_entry (omega arith)).accepted refl in cc

pub returns-clause-once : goal.returns-clause-once
returns-clause-once c = record {
  run = each-once setting (told_asks setting trace) trace ends;
  twice = once-not-twice;
  never = once-not-never;
  withdrawn = not-withdrawn;
  unmade = not-unmade;
  remade = not-remade;
  elsewhere = not-elsewhere;
  refused = not-refused;
}
