use Rattle.std.proofs.Common.{refl, ◌≡◌, ◌∷◌, ap, drop, slice_index_or, [], ◌++◌, set, None}
use Rattle.std.specs.Fmt.{digits}
use Rattle.napi_types.specs.declared.call.Ask.TheVariants as ask
use Rattle.napi_types.specs.declared.entry.Entry.{Entry}
use Rattle.napi_types.specs.declared.entry.LoopEnd.{LoopEnd}
use Rattle.napi_types.specs.declared.entry.LoopEnd.TheVariants as loop_end
use Rattle.napi_types.specs.declared.status.Kind.{Kind}
use Rattle.napi_types.specs.declared.status.Kind.TheVariants as kind
use Rattle.napi_types.specs.plain.Weave.{Journal, History}
use Rattle.napi_types.specs.runs.Parting.{IsParted}
use Rattle.napi_types.specs.runs.Setting.{opening_of, final_of}
use Rattle.machine_laws.specs.FirstRun.{setting, asks, history, journal_with_go, journal_without_end, trace, typeof_entry}
use Rattle.machine_laws.specs.RunWords.{frame_end, loop_ended, left_out}
use Rattle.machine_laws.specs.LegalRuns.{IsRun}
use Rattle.machine_laws.proofs.AskLists.{told-run}
use Rattle.machine_laws.proofs.Misses.{entry_in_place, told_kind, told_reason, told-steps, IsOver, gone-is-last}
use Rattle.machine_laws.proofs.scope_runs.first_run_runs.Goals as goal

pub returns-clause-prints : goal.returns-clause-prints
unfolding digits
returns-clause-prints c = refl

no-go : IsParted (opening_of setting) asks journal_with_go (drop 1 history) → ⊥
no-go p = let z : History ≡ Journal = ap (λ l. slice_index_or l 7 Journal) p in cc

no-end : IsParted (opening_of setting) asks journal_without_end (frame_end ∷ history) → ⊥
no-end p = let z : Journal ≡ History = ap (λ l. slice_index_or l 6 Journal) p in cc

pub returns-clause-parted : goal.returns-clause-parted
returns-clause-parted c = record { parted = refl; go_same = refl; go = no-go; end_same = refl; end = no-end }

pub returns-clause-replies : goal.returns-clause-replies
returns-clause-replies c = record { own = refl; of_thread = λ n. refl }

no-other-kind : (k : Kind) → IsRun setting (set trace 4 (typeof_entry k)) → k ≡ kind.Object
no-other-kind k r = ap (λ xs. told_kind k (entry_in_place 4 xs).reply.out) (told-run setting (set trace 4 (typeof_entry k)) refl r)

no-other-reason : (e : LoopEnd) → IsRun setting (set trace 8 (loop_ended e)) → e ≡ loop_end.Idle
no-other-reason e r = ap (λ xs. told_reason e (entry_in_place 8 xs).reply.out) (told-run setting (set trace 8 (loop_ended e)) refl r)

no-close : IsRun setting (left_out 5 trace) → ⊥
no-close r = let w : (entry_in_place 5 (left_out 5 trace)).what ≡ _ = ap (λ xs. (entry_in_place 5 xs).what) (told-run setting (left_out 5 trace) refl r) in cc

over : IsOver (final_of setting asks trace)
over = record { phase = refl; stage = refl; frames = refl; threads = refl; workers = refl }

nothing-after : (x : Entry) → IsRun setting (trace ++ x ∷ []) → ⊥
nothing-after x r = gone-is-last (final_of setting asks trace) (ask.Leave None) x over (told-steps setting (trace ++ x ∷ []) refl r).1.1.1.1.1.1.1.1.1.1.1.1.0

pub returns-clause-strict : goal.returns-clause-strict
returns-clause-strict c = record { kind = no-other-kind; close = no-close; reason = no-other-reason; last = nothing-after }
