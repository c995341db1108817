use Rattle.std.proofs.Common.{refl, ◌≡◌, ℕ, ap, set, Option, None}
use Rattle.std.specs.Fmt.{digits}
use Rattle.napi_types.specs.declared.entry.Duty.{Duty}
use Rattle.napi_types.specs.declared.entry.HostStep.TheVariants as host
use Rattle.napi_types.specs.declared.entry.Out.TheVariants as out
use Rattle.napi_types.specs.declared.entry.What.TheVariants as what
use Rattle.napi_types.specs.declared.status.Status.{Status}
use Rattle.napi_types.specs.declared.status.Status.TheVariants as status
use Rattle.machine_laws.specs.HookAbandoned.{setting, trace, added_again, refused_again, removed, removed_again}
use Rattle.machine_laws.specs.HubWords.{next_after, abandons, drains}
use Rattle.machine_laws.specs.LegalRuns.{told_asks, IsRun}
use Rattle.machine_laws.specs.RunWords.{ticket, hook_id, hook_begins, left_out}
use Rattle.machine_laws.proofs.RowLists.{ends-of}
use Rattle.machine_laws.proofs.AskLists.{told-run}
use Rattle.machine_laws.proofs.Misses.{entry_in_place, told_number, ticket_told, told-may}
use Rattle.machine_laws.proofs.hook_runs.hook_abandoned_runs.Goals as goal

pub returns-clause-ends : goal.returns-clause-ends
returns-clause-ends c = ends-of setting (told_asks setting trace) trace (refl, refl) refl refl

pub returns-clause-prints : goal.returns-clause-prints
unfolding digits
returns-clause-prints c = refl

pub returns-clause-sums : goal.returns-clause-sums
unfolding digits
returns-clause-sums c = refl

not-doubled : (s : Status) → IsRun setting (set trace 3 (refused_again s)) → ⊥
not-doubled s r =
    let o : out.Nothing ≡ out.AsyncHook (hook_id 0) = ap (λ xs. (entry_in_place 3 xs).reply.out) (told-run setting (set trace 3 (refused_again s)) refl r) in cc

not-same : IsRun setting (next_after 3 trace (added_again 5 (ticket 2))) → ⊥
not-same r = let z : _ = told-may setting _ refl r in cc

not-zero : IsRun setting (next_after 3 trace (added_again 0 (ticket 2))) → ⊥
not-zero r = let z : _ = told-may setting _ refl r in cc

is-registered : (d : Option Duty) → IsRun setting (set trace 3 (added_again 6 d)) → d ≡ ticket 2
is-registered d r = ap (λ xs. (entry_in_place 3 xs).reply.made) (told-run setting (set trace 3 (added_again 6 d)) refl r)

withdraws : (s : Status) (d : Option Duty) → IsRun setting (set trace 4 (removed s d)) → (s ≡ status.Ok) × (d ≡ ticket 2)
withdraws s d r =
    let same : set trace 4 (removed s d) ≡ _ = told-run setting (set trace 4 (removed s d)) refl r in (
      ap (λ xs. (entry_in_place 4 xs).reply.status) same,
      ap (λ xs. (entry_in_place 4 xs).reply.dropped) same,
    )

is-gone : (s : Status) (d : Option Duty) → IsRun setting (set trace 5 (removed_again s d)) → (s ≡ status.InvalidArg) × (d ≡ None)
is-gone s d r =
    let same : set trace 5 (removed_again s d) ≡ _ = told-run setting (set trace 5 (removed_again s d)) refl r in (
      ap (λ xs. (entry_in_place 5 xs).reply.status) same,
      ap (λ xs. (entry_in_place 5 xs).reply.dropped) same,
    )

not-early : (n : ℕ) → IsRun setting (set trace 9 (abandons n)) → ⊥
not-early n r =
    let w : what.Host host.Abandon ≡ what.Host host.Begin = ap (λ xs. (entry_in_place 9 xs).what) (told-run setting (set trace 9 (abandons n)) refl r) in cc

no-other : (n : ℕ) → IsRun setting (set trace 9 (hook_begins n)) → n ≡ 1
no-other n r = ap (λ xs. ticket_told n (entry_in_place 9 xs).reply.out) (told-run setting (set trace 9 (hook_begins n)) refl r)

not-again : (n : ℕ) → IsRun setting (set trace 11 (hook_begins n)) → ⊥
not-again n r =
    let w : what.Host host.Begin ≡ what.Host host.Abandon =
    ap (λ xs. (entry_in_place 11 xs).what) (told-run setting (set trace 11 (hook_begins n)) refl r) in cc

no-drain : (n : ℕ) → IsRun setting (set trace 11 (drains n)) → ⊥
no-drain n r =
    let w : what.Host host.Drain ≡ what.Host host.Abandon = ap (λ xs. (entry_in_place 11 xs).what) (told-run setting (set trace 11 (drains n)) refl r) in cc

not-never : IsRun setting (left_out 11 trace) → ⊥
not-never r = let w : what.Host host.Drain ≡ what.Host host.Abandon = ap (λ xs. (entry_in_place 11 xs).what) (told-run setting (left_out 11 trace) refl r) in cc

tells-one : (n : ℕ) → IsRun setting (set trace 11 (abandons n)) → n ≡ 1
tells-one n r = ap (λ xs. told_number n (entry_in_place 11 xs).reply.out) (told-run setting (set trace 11 (abandons n)) refl r)

not-twice : (n : ℕ) → IsRun setting (set trace 12 (abandons n)) → ⊥
not-twice n r =
    let w : what.Host host.Abandon ≡ what.Host host.Drain = ap (λ xs. (entry_in_place 12 xs).what) (told-run setting (set trace 12 (abandons n)) refl r) in cc

not-later : (n : ℕ) → IsRun setting (set trace 13 (abandons n)) → ⊥
not-later n r =
    let w : what.Host host.Abandon ≡ what.Host host.Finals = ap (λ xs. (entry_in_place 13 xs).what) (told-run setting (set trace 13 (abandons n)) refl r) in cc

pub returns-clause-strict : goal.returns-clause-strict
returns-clause-strict c = record {
  doubled = not-doubled;
  same = not-same;
  zero = not-zero;
  registers = is-registered;
  removed = withdraws;
  gone = is-gone;
  early = not-early;
  alone = no-other;
  once = not-again;
  drain = no-drain;
  never = not-never;
  told = tells-one;
  twice = not-twice;
  later = not-later;
}
