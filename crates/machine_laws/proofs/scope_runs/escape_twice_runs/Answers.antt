use Rattle.std.proofs.Common.{refl, ◌≡◌, ℕ, ap, set}
use Rattle.std.specs.Fmt.{digits}
use Rattle.napi_types.specs.declared.entry.Out.TheVariants as out
use Rattle.napi_types.specs.declared.status.Kind.TheVariants as kind
use Rattle.napi_types.specs.declared.status.Status.{Status}
use Rattle.napi_types.specs.declared.status.Status.TheVariants as status
use Rattle.machine_laws.specs.LegalRuns.{told_asks, IsRun}
use Rattle.machine_laws.specs.EscapeTwice.{setting, trace, escape, escape_again, outside, entry_within}
use Rattle.machine_laws.proofs.RowLists.{ends-of}
use Rattle.machine_laws.proofs.AskLists.{told-run}
use Rattle.machine_laws.proofs.Misses.{entry_in_place, told_handle}
use Rattle.machine_laws.proofs.scope_runs.escape_twice_runs.Goals as goal

pub returns-clause-ends : goal.returns-clause-ends
returns-clause-ends c = ends-of setting (told_asks setting trace) trace (refl, refl) refl refl

pub returns-clause-prints : goal.returns-clause-prints
unfolding digits
returns-clause-prints c = refl

next-handle : (h : ℕ) → IsRun setting (set trace 4 (escape h)) → h ≡ 2
next-handle h r = ap (λ xs. told_handle h (entry_in_place 4 xs).reply.out) (told-run setting (set trace 4 (escape h)) refl r)

no-handle : (s : Status) (h : ℕ) → IsRun setting (set trace 5 (escape_again s (out.Handle (record { 0 = h })))) → ⊥
no-handle s h r =
    let told : out.Handle (record { 0 = h }) ≡ out.Nothing = ap (λ xs. (entry_in_place 5 xs).reply.out) (told-run setting (set trace 5 (escape_again s (out.Handle (record { 0 = h })))) refl r) in
    cc

escaped-twice : (s : Status) → IsRun setting (set trace 5 (escape_again s out.Nothing)) → s ≡ status.EscapeCalledTwice
escaped-twice s r = ap (λ xs. (entry_in_place 5 xs).reply.status) (told-run setting (set trace 5 (escape_again s out.Nothing)) refl r)

good-outside : (s : Status) → IsRun setting (set trace 7 (outside s out.Nothing)) → ⊥
good-outside s r =
    let told : out.Nothing ≡ out.Kind kind.Object = ap (λ xs. (entry_in_place 7 xs).reply.out) (told-run setting (set trace 7 (outside s out.Nothing)) refl r) in
    cc

stale-within : (s : Status) → IsRun setting (set trace 8 (entry_within s out.Nothing)) → s ≡ status.InvalidArg
stale-within s r = ap (λ xs. (entry_in_place 8 xs).reply.status) (told-run setting (set trace 8 (entry_within s out.Nothing)) refl r)

pub returns-clause-strict : goal.returns-clause-strict
returns-clause-strict c = record { next = next-handle; handle = no-handle; again = escaped-twice; outside = good-outside; within = stale-within }
