use Rattle.std.proofs.Common.{◌≡◌, ℕ, ap, refl, Option}
use Rattle.std.specs.Fmt.{digits}
use Rattle.napi_types.specs.declared.entry.Cause.TheVariants as cause
use Rattle.napi_types.specs.declared.entry.Duty.{Duty}
use Rattle.napi_types.specs.declared.entry.Out.{Out}
use Rattle.napi_types.specs.declared.status.Status.{Status}
use Rattle.machine_laws.specs.RealisticAddon.{operations, setting, thread_call, call_behind_end, history, journal, trace}
use Rattle.machine_laws.specs.HubWords.{next_after, item, item_begins, thread_ends, worker_finishes}
use Rattle.machine_laws.specs.LegalRuns.{IsRun}
use Rattle.machine_laws.proofs.KeptScripts.{two-keep}
use Rattle.machine_laws.proofs.Misses.{told_number, told_item, told_cause, told-entry, told-may}
use Rattle.machine_laws.proofs.RowLists.{ends-on-lists}
use Rattle.machine_laws.proofs.hub_runs.realistic_addon_runs.Goals as goal

pub returns-clause-ends : goal.returns-clause-ends
returns-clause-ends c = ends-on-lists setting journal history (refl, refl) refl refl refl

pub returns-clause-actors : goal.returns-clause-actors
returns-clause-actors c = record { threads = two-keep setting (operations 0) (operations 1) history refl (refl, refl) (refl, refl); worker = refl }

pub returns-clause-prints : goal.returns-clause-prints
unfolding digits
returns-clause-prints c = refl

pub returns-clause-sums : goal.returns-clause-sums
unfolding digits
returns-clause-sums c = refl

no-other-value : (n : ℕ) → IsRun setting (next_after 10 trace (worker_finishes 0 n)) → n ≡ 55
no-other-value n r = ap (λ x. told_number n x.reply.out) (told-entry setting _ 10 refl r)

is-second : (d : Option Duty) → IsRun setting (next_after 13 trace (thread_call 1 d)) → d ≡ item 2
is-second d r = ap (λ x. x.reply.made) (told-entry setting _ 13 refl r)

works-first : (n : ℕ) → IsRun setting (next_after 14 trace (item_begins cause.Item n)) → ⊥
works-first n r = let w : cause.Item ≡ cause.Complete = ap (λ x. told_cause cause.Item x.reply.out) (told-entry setting _ 14 refl r) in cc

first-first : (n : ℕ) → IsRun setting (next_after 21 trace (item_begins cause.Item n)) → n ≡ 1
first-first n r = ap (λ x. told_item n x.reply.out) (told-entry setting _ 21 refl r)

no-call : (s : Status) (d : Option Duty) → IsRun setting (next_after 19 trace (call_behind_end s d)) → ⊥
no-call s d r = let z : _ = told-may setting _ refl r in cc

not-twice : (o : Out) → IsRun setting (next_after 19 trace (thread_ends 0 o)) → ⊥
not-twice o r = let z : _ = told-may setting _ refl r in cc

pub returns-clause-strict : goal.returns-clause-strict
returns-clause-strict c = record { value = no-other-value; second = is-second; works = works-first; order = first-first; call = no-call; twice = not-twice }
