use Rattle.std.proofs.Common.{◌≡◌, ℕ, ap, refl, Option, None, arith}
use Rattle.std.specs.Fmt.{digits}
use Rattle.napi_types.specs.declared.call.Call.TheVariants as call
use Rattle.napi_types.specs.declared.entry.Cause.{Cause}
use Rattle.napi_types.specs.declared.entry.Cause.TheVariants as cause
use Rattle.napi_types.specs.declared.entry.Duty.{Duty}
use Rattle.napi_types.specs.declared.entry.HostStep.TheVariants as host
use Rattle.napi_types.specs.declared.entry.Out.{Out}
use Rattle.napi_types.specs.declared.entry.Out.TheVariants as out
use Rattle.napi_types.specs.declared.entry.What.{What}
use Rattle.napi_types.specs.declared.entry.What.TheVariants as what
use Rattle.napi_types.specs.declared.status.Status.{Status}
use Rattle.napi_types.specs.declared.status.Status.TheVariants as status
use Rattle.machine_laws.specs.HookRemovedByCompletion.{setting, history, journal, trace, removed}
use Rattle.machine_laws.specs.HubWords.{next_after, begins, completion_begins, abandons, drains}
use Rattle.machine_laws.specs.LegalRuns.{IsRun}
use Rattle.machine_laws.specs.RunWords.{ticket, hook_begins}
use Rattle.machine_laws.proofs.Misses.{told_number, told_completed, ticket_told, told-entry, told-may}
use Rattle.machine_laws.proofs.RowLists.{ends-on-lists}
use Rattle.machine_laws.proofs.hook_runs.hook_removed_by_completion_runs.Goals as goal

pub returns-clause-ends : goal.returns-clause-ends
returns-clause-ends c = ends-on-lists setting journal history (refl, refl) refl refl refl

pub returns-clause-prints : goal.returns-clause-prints
unfolding digits
returns-clause-prints c = refl

-- the entry of a frame that begins, and the hook that a call removes
abbrev entry_told : Out → ℕ
entry_told (out.Begin cause addon entry due) = entry
entry_told _ = 0

abbrev hook_named : ℕ → What → ℕ
hook_named d (what.Call (call.RemoveAsyncCleanupHook h)) = h.0
hook_named d _ = d

no-other-entry : (n : ℕ) → IsRun setting (next_after 10 trace (hook_begins n)) → ⊥
no-other-entry n r = let z : 1 ≡ 3 = ap (λ x. entry_told x.reply.out) (told-entry setting _ 10 refl r) in absurd (omega (arith, z))

is-last : (n : ℕ) → IsRun setting (next_after 10 trace (begins cause.Hook 3 (ticket n))) → n ≡ 2
is-last n r = ap (λ x. ticket_told n x.reply.out) (told-entry setting _ 10 refl r)

removes-itself : (n : ℕ) (s : Status) (d : Option Duty) → IsRun setting (next_after 11 trace (removed n s d)) → (n ≡ 6) × (s ≡ status.Ok) × (d ≡ None)
removes-itself n s d r =
    let same : removed n s d ≡ _ = told-entry setting _ 11 refl r in (
      ap (λ x. hook_named n x.what) same,
      ap (λ x. x.reply.status) same,
      ap (λ x. x.reply.dropped) same,
    )

not-before : (n : ℕ) → IsRun setting (next_after 13 trace (abandons n)) → ⊥
not-before n r = let w : what.Host host.Abandon ≡ what.Host host.Begin = ap (λ x. x.what) (told-entry setting _ 13 refl r) in cc

not-undrained : (n : ℕ) → IsRun setting (next_after 13 trace (drains n)) → ⊥
not-undrained n r = let w : what.Host host.Drain ≡ what.Host host.Begin = ap (λ x. x.what) (told-entry setting _ 13 refl r) in cc

not-queued : (n : ℕ) → IsRun setting (next_after 15 trace (abandons n)) → ⊥
not-queued n r = let z : _ = told-may setting _ refl r in cc

is-waited : (n : ℕ) → IsRun setting (next_after 15 trace (drains n)) → ⊥
is-waited n r = let z : _ = told-may setting _ refl r in cc

not-running : (n : ℕ) → IsRun setting (next_after 16 trace (abandons n)) → ⊥
not-running n r = let z : _ = told-may setting _ refl r in cc

is-waited_on : (n : ℕ) → IsRun setting (next_after 16 trace (drains n)) → ⊥
is-waited_on n r = let z : _ = told-may setting _ refl r in cc

not-finished : (n : ℕ) → IsRun setting (next_after 17 trace (abandons n)) → ⊥
not-finished n r = let w : what.Host host.Abandon ≡ what.Host host.Begin = ap (λ x. x.what) (told-entry setting _ 17 refl r) in cc

is-waited_still : (n : ℕ) → IsRun setting (next_after 17 trace (drains n)) → ⊥
is-waited_still n r = let w : what.Host host.Drain ≡ what.Host host.Begin = ap (λ x. x.what) (told-entry setting _ 17 refl r) in cc

is-completed : (s : Status) (n : ℕ) → IsRun setting (next_after 17 trace (completion_begins 2 s n)) → (s ≡ status.Ok) × (n ≡ 1)
is-completed s n r =
    let same : completion_begins 2 s n ≡ _ = told-entry setting _ 17 refl r in (ap (λ x. x.reply.status) same, ap (λ x. told_completed n x.reply.out) same)

removes-other : (n : ℕ) (s : Status) (d : Option Duty) → IsRun setting (next_after 18 trace (removed n s d)) → (n ≡ 5) × (s ≡ status.Ok) × (d ≡ None)
removes-other n s d r =
    let same : removed n s d ≡ _ = told-entry setting _ 18 refl r in (
      ap (λ x. hook_named n x.what) same,
      ap (λ x. x.reply.status) same,
      ap (λ x. x.reply.dropped) same,
    )

not-again : (c : Cause) (entry n : ℕ) → IsRun setting (next_after 20 trace (begins c entry (ticket n))) → ⊥
not-again c entry n r = let w : what.Host host.Begin ≡ what.Host host.Drain = ap (λ x. x.what) (told-entry setting _ 20 refl r) in cc

not-abandoned : (n : ℕ) → IsRun setting (next_after 20 trace (abandons n)) → ⊥
not-abandoned n r = let w : what.Host host.Abandon ≡ what.Host host.Drain = ap (λ x. x.what) (told-entry setting _ 20 refl r) in cc

drains-none : (n : ℕ) → IsRun setting (next_after 20 trace (drains n)) → n ≡ 0
drains-none n r = ap (λ x. told_number n x.reply.out) (told-entry setting _ 20 refl r)

pub returns-clause-strict : goal.returns-clause-strict
returns-clause-strict c = record {
  order = no-other-entry;
  last = is-last;
  given = removes-itself;
  before = not-before;
  undrained = not-undrained;
  queued = not-queued;
  waited = is-waited;
  running = not-running;
  waited_on = is-waited_on;
  finished = not-finished;
  waited_still = is-waited_still;
  completed = is-completed;
  removes = removes-other;
  again = not-again;
  unabandoned = not-abandoned;
  drained = drains-none;
}
