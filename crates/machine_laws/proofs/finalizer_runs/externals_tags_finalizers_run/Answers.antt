use Rattle.std.proofs.Common.{refl, ◌≡◌, ℕ, Bool, false, [], ◌++◌, ap, set}
use Rattle.std.specs.Fmt.{digits}
use Rattle.napi_types.specs.declared.call.Call.TheVariants as call
use Rattle.napi_types.specs.declared.entry.HostStep.TheVariants as host
use Rattle.napi_types.specs.declared.entry.Out.TheVariants as out
use Rattle.napi_types.specs.declared.entry.What.{What}
use Rattle.napi_types.specs.declared.entry.What.TheVariants as what
use Rattle.napi_types.specs.declared.status.Status.{Status}
use Rattle.napi_types.specs.declared.status.Status.TheVariants as status
use Rattle.machine_laws.specs.LegalRuns.{told_asks, IsRun}
use Rattle.machine_laws.specs.ExternalsTagsFinalizers.{setting, trace, trace_with, checked, compared, compared_so, runs}
use Rattle.machine_laws.specs.RunWords.{finalizer_begins}
use Rattle.machine_laws.proofs.RowLists.{ends-of}
use Rattle.machine_laws.proofs.AskLists.{told-run}
use Rattle.machine_laws.proofs.Misses.{entry_in_place, told_flag, ticket_told}
use Rattle.machine_laws.proofs.finalizer_runs.externals_tags_finalizers_run.Goals as goal

pub returns-clause-ends : goal.returns-clause-ends
returns-clause-ends c = ends-of setting (told_asks setting trace) trace (refl, refl) refl refl

pub returns-clause-prints : goal.returns-clause-prints
unfolding digits
returns-clause-prints c = refl

-- the number of the first handle that a comparison names
abbrev compared_handle : What → ℕ
compared_handle (what.Call (call.StrictEquals g h)) = g.0
compared_handle _ = 0

no-other-tag : (b : Bool) → IsRun setting (set trace 9 (checked b)) → b ≡ false
no-other-tag b r = ap (λ xs. told_flag b (entry_in_place 9 xs).reply.out) (told-run setting (set trace 9 (checked b)) refl r)

not-early : (n : ℕ) → IsRun setting (trace_with (runs n 9) (runs 2 4 ++ runs 3 5)) → ⊥
not-early n r =
    let w : what.Host host.Begin ≡ what.Host host.LoopEnd =
    ap (λ xs. (entry_in_place 17 xs).what) (told-run setting (trace_with (runs n 9) (runs 2 4 ++ runs 3 5)) refl r) in
    cc

no-other-first : (n : ℕ) → IsRun setting (set trace 20 (finalizer_begins n)) → n ≡ 1
no-other-first n r = ap (λ xs. ticket_told n (entry_in_place 20 xs).reply.out) (told-run setting (set trace 20 (finalizer_begins n)) refl r)

no-other-second : (n : ℕ) → IsRun setting (set trace 23 (finalizer_begins n)) → n ≡ 2
no-other-second n r = ap (λ xs. ticket_told n (entry_in_place 23 xs).reply.out) (told-run setting (set trace 23 (finalizer_begins n)) refl r)

no-other-third : (n : ℕ) → IsRun setting (set trace 26 (finalizer_begins n)) → n ≡ 3
no-other-third n r = ap (λ xs. ticket_told n (entry_in_place 26 xs).reply.out) (told-run setting (set trace 26 (finalizer_begins n)) refl r)

not-gone : IsRun setting (trace_with [] (runs 1 9 ++ runs 2 4)) → ⊥
not-gone r =
    let w : what.Host host.Gone ≡ what.Host host.Begin =
    ap (λ xs. (entry_in_place 26 xs).what) (told-run setting (trace_with [] (runs 1 9 ++ runs 2 4)) refl r) in
    cc

no-other-data : (n : ℕ) → IsRun setting (set trace 21 (compared n status.PendingException)) → n ≡ 9
no-other-data n r = ap (λ xs. compared_handle (entry_in_place 21 xs).what) (told-run setting (set trace 21 (compared n status.PendingException)) refl r)

no-other-status : (s : Status) → IsRun setting (set trace 21 (compared 9 s)) → s ≡ status.PendingException
no-other-status s r = ap (λ xs. (entry_in_place 21 xs).reply.status) (told-run setting (set trace 21 (compared 9 s)) refl r)

no-flag : (b : Bool) → IsRun setting (set trace 21 (compared_so 9 b)) → ⊥
no-flag b r =
    let told : out.Flag b ≡ out.Nothing = ap (λ xs. (entry_in_place 21 xs).reply.out) (told-run setting (set trace 21 (compared_so 9 b)) refl r) in
    cc

pub returns-clause-strict : goal.returns-clause-strict
returns-clause-strict c = record {
  tag = no-other-tag;
  early = not-early;
  first = no-other-first;
  second = no-other-second;
  third = no-other-third;
  last = not-gone;
  payload = no-other-data;
  guarded = no-other-status;
  untold = no-flag;
}
