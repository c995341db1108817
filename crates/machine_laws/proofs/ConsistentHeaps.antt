-- Good heaps, and how heaps change.
use Rattle.std.proofs.Common.{◌≡◌, ◌≤◌, arith, ℕ, ◌+◌, ◌==◌, false, List, [], ◌∷◌, ap}
use Rattle.std.specs.List.{All, count_by}
use Rattle.std.proofs.lemmas.Bool.{ne_eqb, and_left}
use Rattle.std.proofs.lemmas.List.Elements.{All-nil, All-cons}
use Rattle.napi_types.specs.plain.Lists.{singleton, tail, first_changed}
use Rattle.napi_types.specs.parts.Heap.{Heap}
use Rattle.napi_types.specs.parts.HeapChanges.{with_handle, with_frame, without_frame}
use Rattle.napi_types.specs.parts.Reach.{numbers}
use Rattle.napi_types.specs.parts.ScopeChanges.{hold_in}
use Rattle.napi_types.specs.parts.Scopes.{OpenHandle, FrameScopes, no_handles, held_by_frames}
use Rattle.napi_types.specs.parts.Values.{starting_values}
use Rattle.machine_laws.specs.Consistency.{AreIssued, held_handles, values_of_handles, IsLiveAmong}
use Rattle.machine_laws.proofs.Children.{OfChildren}
use Rattle.machine_laws.proofs.Counting.{Within, one_when, within-all, count-cons, issued-fewer, issued-next}
use Rattle.machine_laws.proofs.Holding.{is_held_as, within-handles, within-values, holds-in, holds-first, holds-entered, holds-left}

-- what holds of a heap
pub record IsConsistentHeap (heap : Heap) : Type 0 where
  pub handles : AreIssued heap.handles (held_handles heap.scopes)
  pub values : AreIssued heap.made (numbers heap.values)
  pub held : All (IsLiveAmong heap.values) (values_of_handles heap.scopes)
  pub children : All (OfChildren (IsLiveAmong heap.values)) heap.values
  pub starting : All (IsLiveAmong heap.values) (numbers starting_values)

-- a number that was issued before is held after only if it was held before, to the same value
pub record HandlesStay (old new : Heap) : Type 0 where
  pub rises : old.handles ≤ new.handles
  pub held : (h v : ℕ) → h ≤ old.handles → count_by (is_held_as h v) (held_by_frames new.scopes) ≤ count_by (is_held_as h v) (held_by_frames old.scopes)

-- one heap comes to another, which is good: what was live is
pub record ComesTo (old new : Heap) : Type 0 where
  pub good : IsConsistentHeap new
  pub live : (n : ℕ) → IsLiveAmong old.values n → IsLiveAmong new.values n
  pub stay : HandlesStay old new

pub stays : (heap : Heap) → HandlesStay heap heap
stays heap = record { rises = omega arith; held = λ h v below. omega arith }

pub stays-then : (a b c : Heap) → HandlesStay a b → HandlesStay b c → HandlesStay a c
stays-then a b c one two = record {
  rises = omega (arith, one.rises, two.rises);
  held = λ h v below. omega (arith, one.held h v below, two.held h v (omega (arith, below, one.rises)));
}

pub unchanged : (heap : Heap) → IsConsistentHeap heap → ComesTo heap heap
unchanged heap g = record { good = g; live = λ n h. h; stay = stays heap }

pub and-then : (a b c : Heap) → ComesTo a b → ComesTo b c → ComesTo a c
and-then a b c one two = record { good = two.good; live = λ n h. two.live n (one.live n h); stay = stays-then a b c one.stay two.stay }

-- SCOPES
-- other scopes, which hold no more
pub with-scopes : (heap : Heap) (fs : List FrameScopes) (ns : List ℕ) → IsConsistentHeap heap → Within (held_by_frames fs) (held_by_frames heap.scopes) []
    → ComesTo heap (record heap { scopes = fs; scope_numbers = ns })
with-scopes heap fs ns g w = record {
  good = record {
    handles = issued-fewer heap.handles (held_handles fs) (held_handles heap.scopes) (within-handles fs heap.scopes [] w) g.handles;
    values = g.values;
    held =
        within-all (IsLiveAmong heap.values) (values_of_handles fs) (values_of_handles heap.scopes) [] (within-values fs heap.scopes [] w) g.held (All-nil (IsLiveAmong heap.values));
    children = g.children;
    starting = g.starting;
  };
  live = λ n h. h;
  stay = record { rises = omega arith; held = λ h v below. omega (arith, w (is_held_as h v)) };
}

-- scopes that hold the next handle beside
abbrev next_held : Heap → ℕ → OpenHandle
next_held heap v = record { handle = heap.handles + 1; value = v }

pub with-held : (heap : Heap) (fs : List FrameScopes) (v : ℕ) → IsConsistentHeap heap → IsLiveAmong heap.values v
    → Within (held_by_frames fs) (held_by_frames heap.scopes) (singleton (next_held heap v)) → ComesTo heap
    (record heap { scopes = fs; handles = heap.handles + 1 })
with-held heap fs v g live w = record {
  good = record {
    handles = issued-next heap.handles (held_handles fs) (held_handles heap.scopes) (within-handles fs heap.scopes (singleton (next_held heap v)) w) g.handles;
    values = g.values;
    held =
        within-all (IsLiveAmong heap.values) (values_of_handles fs) (values_of_handles heap.scopes) (singleton v)
        (within-values fs heap.scopes (singleton (next_held heap v)) w) g.held
        (All-cons (IsLiveAmong heap.values) v [] live (All-nil (IsLiveAmong heap.values)));
    children = g.children;
    starting = g.starting;
  };
  live = λ n h. h;
  stay = record { rises = omega arith; held = older };
}
  where
    older : (h k : ℕ) → h ≤ heap.handles → count_by (is_held_as h k) (held_by_frames fs) ≤ count_by (is_held_as h k) (held_by_frames heap.scopes)
    older h k below =
        let other : (heap.handles + 1 == h) ≡ false = ne_eqb (heap.handles + 1) h (λ same. omega (arith, below, same)) in
        let new : is_held_as h k (next_held heap v) ≡ false = and_left (heap.handles + 1 == h) (v == k) other in
        omega (arith, w (is_held_as h k), count-cons (is_held_as h k) (next_held heap v) [], ap one_when new)

pub with-handle : (heap : Heap) (v : ℕ) → IsConsistentHeap heap → IsLiveAmong heap.values v → ComesTo heap (with_handle v heap)
with-handle heap v g live =
    with-held heap (first_changed (hold_in (next_held heap v)) heap.scopes) v g live
    (holds-first (singleton (next_held heap v)) (hold_in (next_held heap v)) heap.scopes (holds-in (next_held heap v)))

pub with-frame : (heap : Heap) → IsConsistentHeap heap → ComesTo heap (with_frame heap)
with-frame heap g = with-scopes heap (no_handles ∷ heap.scopes) heap.scope_numbers g (holds-entered heap.scopes)

pub without-frame : (heap : Heap) → IsConsistentHeap heap → ComesTo heap (without_frame heap)
without-frame heap g = with-scopes heap (tail heap.scopes) heap.scope_numbers g (holds-left heap.scopes)
