use Rattle.std.proofs.Common.{refl, ◌≡◌, ℕ, ap, set}
use Rattle.std.specs.Fmt.{digits}
use Rattle.machine_laws.specs.NextHandle.{setting, trace, made_again}
use Rattle.machine_laws.specs.LegalRuns.{IsRun}
use Rattle.machine_laws.proofs.AskLists.{told-run}
use Rattle.machine_laws.proofs.Misses.{entry_in_place, told_handle}
use Rattle.machine_laws.proofs.scope_runs.next_handle_runs.Goals as goal

pub returns-clause-prints : goal.returns-clause-prints
unfolding digits
returns-clause-prints c = refl

next-number : (h : ℕ) → IsRun setting (set trace 5 (made_again h)) → h ≡ 2
next-number h r = ap (λ xs. told_handle h (entry_in_place 5 xs).reply.out) (told-run setting (set trace 5 (made_again h)) refl r)

pub returns-clause-strict : goal.returns-clause-strict
returns-clause-strict c = next-number
