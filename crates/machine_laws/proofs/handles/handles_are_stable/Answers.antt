use Rattle.std.proofs.Common.{◌≡◌, ℕ, ◌==◌, Bool, true, false, List, [], ◌∷◌, Option, None, refl, subst, is_some}
use Rattle.std.specs.List.{list_all}
use Rattle.std.specs.Option.{option_or}
use Rattle.std.proofs.lemmas.Bool.{eqb-true, and_parts}
use Rattle.napi_types.specs.declared.status.Status.{Status}
use Rattle.napi_types.specs.declared.status.Status.TheVariants as status
use Rattle.napi_types.specs.plain.Lists.{has_number}
use Rattle.napi_types.specs.parts.HeapRefusals.{kind_refusal, row_refusal, refusal_in}
use Rattle.napi_types.specs.parts.NamedNumbers.{handles_of, is_known, unknown_refusal}
use Rattle.napi_types.specs.parts.Scopes.{gives}
use Rattle.napi_types.specs.environment.Moments.{refusal_by_moment}
use Rattle.napi_types.specs.environment.Refusals.{group_refusal, refusal_by_state, refusal_before_depth, depth_refusal}
use Rattle.napi_types.proofs.plain.Lists.{none-first, none-last, not-unless}
use Rattle.machine_laws.specs.HandleLaws.{AcceptedHandlesAreOpen}
use Rattle.machine_laws.proofs.StableHandles.{handles-are-stable}
use Rattle.machine_laws.proofs.handles.handles_are_stable.Goals as goal

-- what is true of all numbers of a list is true of each that it has
of-all : (p : ℕ → Bool) (n : ℕ) (ns : List ℕ) → list_all p ns ≡ true → has_number n ns ≡ true → p n ≡ true
of-all p n [] all there = cc
of-all p n (m ∷ ns) all there = by (m == n) refl there (of-all p n ns (and_parts (p m) (list_all p ns) all).1)
  where
    by : (b : Bool) → (m == n) ≡ b → has_number n (m ∷ ns) ≡ true → (has_number n ns ≡ true → p n ≡ true) → p n ≡ true
    by true same h later = subst (λ k. p k ≡ true) (eqb-true m n same) (and_parts (p m) (list_all p ns) all).0
    by false other h later = later (rw other at h)

law : AcceptedHandlesAreOpen
law e c h accepted there =
    let early : refusal_before_depth e c ≡ None = none-first (refusal_before_depth e c) (depth_refusal e.frames c) accepted in
    let timely : refusal_by_state e c ≡ None = none-last (refusal_by_moment e c) (refusal_by_state e c) early in
    let within : refusal_in e.texts e.heap c ≡ None = none-first (refusal_in e.texts e.heap c) (group_refusal e c) timely in
    let own : Option Status = option_or (kind_refusal e.heap c) (row_refusal e.heap c) in
    let unknown : unknown_refusal e.texts e.heap c ≡ None = none-first (unknown_refusal e.texts e.heap c) own within in
    let known : is_known e.texts e.heap c ≡ true = not-unless (is_known e.texts e.heap c) status.InvalidArg unknown in
    of-all (λ k. is_some (gives e.heap.scopes k)) h (handles_of c) (and_parts (list_all (λ k. is_some (gives e.heap.scopes k)) (handles_of c)) _ known).0 there

pub returns-clause-open : goal.returns-clause-open
returns-clause-open c = law

pub returns-clause-stable : goal.returns-clause-stable
returns-clause-stable c = handles-are-stable
