-- The environment is consistent as it opens, and so at every moment of a run.
use Rattle.std.proofs.Common.{◌≡◌, arith, ℕ, ◌+◌, true, List, [], ◌∷◌, ◌++◌, take, refl}
use Rattle.std.specs.List.{All, list_all}
use Rattle.std.proofs.lemmas.Bool.{and_parts}
use Rattle.std.proofs.lemmas.List.Elements.{All-nil, All-cons}
use Rattle.napi_types.specs.parts.Heap.{new_heap}
use Rattle.napi_types.specs.parts.Reach.{numbers}
use Rattle.napi_types.specs.parts.Values.{Value, children, starting_values}
use Rattle.napi_types.specs.environment.Environment.{Environment, OpenedWith, new_environment}
use Rattle.napi_types.specs.runs.Setting.{opens_with, opening_of}
use Rattle.napi_types.specs.plain.Lists.{is_empty}
use Rattle.machine_laws.specs.Consistency.{AreIssued, IsConsistent, IsLiveAmong}
use Rattle.machine_laws.specs.HandleLaws.{EnvironmentsAreConsistent}
use Rattle.napi_types.proofs.all_runs.Orderly.{orderly-opens}
use Rattle.napi_types.proofs.plain.Tallies.{tally-append}
use Rattle.machine_laws.proofs.BuffersFit.{no-buffers-fit}
use Rattle.machine_laws.proofs.Children.{OfChildren}
use Rattle.machine_laws.proofs.Counting.{none-issued, issued-next}
use Rattle.machine_laws.proofs.ConsistentAnswers.{whole-of}
use Rattle.machine_laws.proofs.ConsistentHeaps.{IsConsistentHeap}
use Rattle.machine_laws.proofs.ConsistentSteps.{run-follows}
use Rattle.machine_laws.proofs.Prefixes.{steps-prefix}
use Rattle.machine_laws.proofs.LiveNumbers.{all-there}
use Rattle.machine_laws.proofs.PromiseMaps.{none-promised}
use Rattle.machine_laws.proofs.Rising.{none-map}
use Rattle.machine_laws.proofs.SoundBuffers.{none-sound}

-- THE OPENING
issued-pushed : (last : ℕ) (ns : List ℕ) → AreIssued last ns → AreIssued (last + 1) (ns ++ (last + 1) ∷ [])
issued-pushed last ns a = issued-next last (ns ++ (last + 1) ∷ []) ns (λ p. omega (arith, tally-append p ns ((last + 1) ∷ []))) a

starting-issued : AreIssued 5 (numbers starting_values)
starting-issued =
    let two : AreIssued 2 (1 ∷ 2 ∷ []) = issued-pushed 1 (1 ∷ []) (issued-pushed 0 [] (none-issued 0)) in
    issued-pushed 4 (1 ∷ 2 ∷ 3 ∷ 4 ∷ []) (issued-pushed 3 (1 ∷ 2 ∷ 3 ∷ []) (issued-pushed 2 (1 ∷ 2 ∷ []) two))

all-of-none : (P : ℕ → Type 0) (ns : List ℕ) → is_empty ns ≡ true → All P ns
all-of-none P [] h = All-nil P
all-of-none P (n ∷ ns) h = cc

no-children : (P : ℕ → Type 0) (vs : List Value) → list_all (λ v. is_empty (children v)) vs ≡ true → All (OfChildren P) vs
no-children P [] h = All-nil (OfChildren P)
no-children P (v ∷ vs) h =
    let both = and_parts (is_empty (children v)) (list_all (λ w. is_empty (children w)) vs) h in
    All-cons (OfChildren P) v vs (all-of-none P (children v) both.0) (no-children P vs both.1)

pub new-heap-good : IsConsistentHeap new_heap
new-heap-good = record {
  handles = none-issued 0;
  values = starting-issued;
  held = All-nil (IsLiveAmong starting_values);
  children = no-children (IsLiveAmong starting_values) starting_values refl;
  starting = all-there (numbers starting_values);
}

pub opening-consistent : (given : OpenedWith) → IsConsistent (new_environment given)
opening-consistent given =
    let e : Environment = new_environment given in
    whole-of e
    (record {
      heap = new-heap-good;
      referred = λ k d below. absurd (omega (arith, below));
      references = none-map;
      pending = tt;
      rooted = λ k d below. absurd (omega (arith, below));
      promises = none-promised starting_values;
      buffers = no-buffers-fit starting_values;
    }) (none-sound e.attachments) refl (omega arith)

-- RUNS
pub environments-are-consistent : EnvironmentsAreConsistent
environments-are-consistent s bs xs n run =
    (run-follows (opening_of s) (take n bs) (take n xs) (steps-prefix (opening_of s) bs xs n run) (orderly-opens s)
    (opening-consistent (opens_with s))).good
