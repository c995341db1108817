-- At any two moments of a run a handle gives the same value.
use Rattle.std.proofs.Common.{◌≡◌, ◌<◌, ◌≤◌, arith, ℕ, ◌==◌, nat_eq, Bool, true, false, ◌&&◌, List, [], ◌∷◌, map, take, refl, sym, ◌∙◌, ap, inl, inr, Some}
use Rattle.std.specs.List.{IsDistinct, count_by}
use Rattle.std.proofs.lemmas.Bool.{and_left, cases_lt}
use Rattle.std.proofs.lemmas.Map.Keys.{IsDistinct-tail}
use Rattle.napi_types.specs.parts.Scopes.{OpenHandle, held_by_frames, gives}
use Rattle.napi_types.specs.environment.Environment.{Environment}
use Rattle.napi_types.specs.runs.Setting.{opens_with, opening_of, final_of}
use Rattle.napi_types.proofs.all_runs.Orderly.{orderly-opens}
use Rattle.machine_laws.specs.Consistency.{IsConsistent}
use Rattle.machine_laws.specs.HandleLaws.{HandlesAreStable}
use Rattle.machine_laws.proofs.ConsistentAnswers.{LeadsToConsistent}
use Rattle.machine_laws.proofs.ConsistentRuns.{opening-consistent}
use Rattle.machine_laws.proofs.ConsistentSteps.{run-follows, later-follows}
use Rattle.machine_laws.proofs.Counting.{one_when, count-cons, times, distinct-times}
use Rattle.machine_laws.proofs.Prefixes.{steps-prefix}
use Rattle.machine_laws.proofs.Holding.{is_held_as, gives-held, held-all, held-handle, held-value}

-- ONE MOMENT
-- a number is held to values no more often than it is held
times-held : (h v : ℕ) (hs : List OpenHandle) → count_by (is_held_as h v) hs ≤ times h (map (λ x. x.handle) hs)
times-held h v [] = omega arith
times-held h v (x ∷ hs) =
    omega (
      arith,
      times-held h v hs,
      count-cons (is_held_as h v) x hs,
      count-cons (λ n. n == h) x.handle (map (λ y. y.handle) hs),
      less (x.handle == h) (x.value == v),
    )
  where
    less : (a b : Bool) → one_when (a && b) ≤ one_when a
    less true true = omega arith
    less true false = omega arith
    less false b = omega arith

held-first : (h v : ℕ) (x : OpenHandle) (hs : List OpenHandle) → times h (map (λ y. y.handle) hs) ≡ 0 → 0 < count_by (is_held_as h v) (x ∷ hs) → x.value ≡ v
held-first h v x hs none some = by (is_held_as h v x) refl
  where
    by : (b : Bool) → is_held_as h v x ≡ b → x.value ≡ v
    by true e = held-value h v x e
    by false e = absurd (omega (arith, some, none, times-held h v hs, count-cons (is_held_as h v) x hs, ap one_when e))

held-later : (h v : ℕ) (x : OpenHandle) (hs : List OpenHandle) → (x.handle == h) ≡ false → 0 < count_by (is_held_as h v) (x ∷ hs) → 0 < count_by (is_held_as h v) hs
held-later h v x hs other some = omega (arith, some, count-cons (is_held_as h v) x hs, ap one_when (and_left (x.handle == h) (x.value == v) other))

-- where no handle stands twice, one number is not held to two values
same-value : (h v w : ℕ) (hs : List OpenHandle) → IsDistinct nat_eq (map (λ x. x.handle) hs)
    → 0 < count_by (is_held_as h v) hs → 0 < count_by (is_held_as h w) hs → v ≡ w
same-value h v w [] apart one two = absurd (omega (arith, one))
same-value h v w (x ∷ hs) apart one two =
    here (x.handle == h) refl (same-value h v w hs (IsDistinct-tail nat_eq x.handle (map (λ y. y.handle) hs) apart))
  where
    here : (b : Bool) → (x.handle == h) ≡ b → (0 < count_by (is_held_as h v) hs → 0 < count_by (is_held_as h w) hs → v ≡ w) → v ≡ w
    here true e later =
        let none : times h (map (λ y. y.handle) hs) ≡ 0 =
        omega (arith, distinct-times h (map (λ y. y.handle) (x ∷ hs)) apart, count-cons (λ n. n == h) x.handle (map (λ y. y.handle) hs), ap one_when e) in
        sym (held-first h v x hs none one) ∙ held-first h w x hs none two
    here false e later = later (held-later h v x hs e one) (held-later h w x hs e two)

-- TWO MOMENTS
-- a handle that is held later, and was issued before, was held before, to the same value
same-later : (old new : Environment) (h v w : ℕ) → IsConsistent old → LeadsToConsistent old new
    → gives old.heap.scopes h ≡ Some v → gives new.heap.scopes h ≡ Some w → v ≡ w
same-later old new h v w c follows before later =
    let held : List OpenHandle = held_by_frames old.heap.scopes in
    let here : 0 < count_by (is_held_as h v) held = gives-held old.heap.scopes h v before in
    let issued = held-all (λ n. (0 < n) × (n ≤ old.heap.handles)) (λ (x : OpenHandle). x.handle) h v h (held-handle h v) held c.handles.within here in
    let there : 0 < count_by (is_held_as h w) held = omega (arith, gives-held new.heap.scopes h w later, follows.stay.held h w issued.1) in
    same-value h v w held c.handles.apart here there

pub handles-are-stable : HandlesAreStable
handles-are-stable s bs xs i j h v w run one two =
    let opening : IsConsistent (opening_of s).env = opening-consistent (opens_with s) in
    let at : ℕ → Environment = λ n. (final_of s (take n bs) (take n xs)).env in
    let good : (n : ℕ) → IsConsistent (at n) =
    λ n. (run-follows (opening_of s) (take n bs) (take n xs) (steps-prefix (opening_of s) bs xs n run) (orderly-opens s) opening).good in
    elim (cases_lt i j) [
      | inl before ↦
          same-later (at i) (at j) h v w (good i) (later-follows (opening_of s) bs xs i j (omega (arith, before)) run (orderly-opens s) opening) one two
      | inr after ↦ sym (same-later (at j) (at i) h w v (good j) (later-follows (opening_of s) bs xs j i after run (orderly-opens s) opening) two one)
    ]
