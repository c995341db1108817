-- Good heaps stay good as values are made and changed.
use Rattle.std.proofs.Common.{◌≡◌, arith, ℕ, ◌+◌, true, List, [], ◌∷◌, ◌++◌, length, refl, sym, subst, Option, Some, None, option_map, option_to_list}
use Rattle.std.specs.List.{All, range_with_len}
use Rattle.std.specs.Option.{IfSome}
use Rattle.std.proofs.lemmas.List.{append-nil, append_assoc}
use Rattle.std.proofs.lemmas.List.Elements.{All-nil, All-cons, All-head, All-tail, All-push, All-weaker}
use Rattle.napi_types.specs.declared.body.Body.{Body}
use Rattle.napi_types.specs.declared.ids.TextNo.{TextNo}
use Rattle.napi_types.specs.plain.Lists.{has_number}
use Rattle.napi_types.specs.parts.Heap.{Heap, handle_value}
use Rattle.napi_types.specs.parts.HeapChanges.{with_handle, with_value, with_linked, with_error, with_thrown, with_list, with_changed, thrown_number}
use Rattle.napi_types.specs.parts.NewValues.{made_after, array_of, list_of, error_of, code_property, thrown_of, thrown_strings}
use Rattle.napi_types.specs.parts.Reach.{numbers}
use Rattle.napi_types.specs.parts.Values.{Value, fresh_value, linked_value, starting_values, value_changed}
use Rattle.napi_types.proofs.parts.ChildParts.{children-of}
use Rattle.machine_laws.specs.Consistency.{AreIssued, values_of_handles, IsLiveAmong}
use Rattle.machine_laws.proofs.Children.{OfChildren, KeepsChildren, named_values}
use Rattle.machine_laws.proofs.Counting.{issued-next}
use Rattle.machine_laws.proofs.ConsistentHeaps.{IsConsistentHeap, ComesTo, unchanged, and-then, with-handle}
use Rattle.machine_laws.proofs.LiveNumbers.{live-more, live-made, live-pushed, within-pushed, all-made, numbers-changed, children-changed, filter_map-Some}

-- the values are others, and so is how many were made
abbrev with_values : Heap → List Value → ℕ → Heap
with_values heap vs n = record heap { values = vs; made = n }

-- one value more
pub with-pushed : (heap : Heap) (x : Value) → x.number ≡ heap.made + 1 → OfChildren (IsLiveAmong (heap.values ++ x ∷ [])) x → IsConsistentHeap heap
    → ComesTo heap (with_values heap (heap.values ++ x ∷ []) (heap.made + 1))
with-pushed heap x number own g =
    let P : ℕ → Type 0 = IsLiveAmong heap.values in
    let Q : ℕ → Type 0 = IsLiveAmong (heap.values ++ x ∷ []) in
    let wider : (n : ℕ) → P n → Q n = λ n h. live-more n heap.values (x ∷ []) h in
    record {
      good = record {
        handles = g.handles;
        values = issued-next heap.made (numbers (heap.values ++ x ∷ [])) (numbers heap.values) (within-pushed heap.values x (heap.made + 1) number) g.values;
        held = All-weaker P Q wider (values_of_handles heap.scopes) g.held;
        children =
            All-push (OfChildren Q) heap.values x (All-weaker (OfChildren P) (OfChildren Q) (λ v all. All-weaker P Q wider _ all) heap.values g.children) own;
        starting = All-weaker P Q wider (numbers starting_values) g.starting;
      };
      live = wider;
      stay = record { rises = omega arith; held = λ h v below. omega arith };
    }

pub with-value : (heap : Heap) (b : Body) → IsConsistentHeap heap → ComesTo heap (with_value b heap)
with-value heap b g = with-pushed heap (fresh_value (heap.made + 1) b) refl (All-nil (IsLiveAmong (with_value b heap).values)) g

-- a new value and its handle
pub with-new : (heap : Heap) (b : Body) → IsConsistentHeap heap → ComesTo heap (with_handle (heap.made + 1) (with_value b heap))
with-new heap b g =
    let made : ComesTo heap (with_value b heap) = with-value heap b g in
    and-then heap (with_value b heap) (with_handle (heap.made + 1) (with_value b heap)) made
    (with-handle (with_value b heap) (heap.made + 1) made.good (live-pushed heap.values (fresh_value (heap.made + 1) b)))

-- a new linked value, whose child is live where it has one, ..
pub with-linked-value : (heap : Heap) (tag : ℕ) (to : Option ℕ) → IfSome to (IsLiveAmong heap.values) → IsConsistentHeap heap
    → ComesTo heap (with_linked tag to heap)
with-linked-value heap tag to known g = with-pushed heap (linked_value (heap.made + 1) tag to) refl (of-child to known) g
  where
    of-child : (o : Option ℕ) → IfSome o (IsLiveAmong heap.values)
        → All (IsLiveAmong (heap.values ++ linked_value (heap.made + 1) tag to ∷ [])) (option_to_list o)
    of-child None h = All-nil (IsLiveAmong (with_linked tag to heap).values)
    of-child (Some n) h =
        All-cons (IsLiveAmong (with_linked tag to heap).values) n [] (live-more n heap.values (linked_value (heap.made + 1) tag to ∷ []) h)
        (All-nil (IsLiveAmong (with_linked tag to heap).values))

-- .. and its handle
pub with-new-linked : (heap : Heap) (tag : ℕ) (to : Option ℕ) → IfSome to (IsLiveAmong heap.values) → IsConsistentHeap heap
    → ComesTo heap (with_handle (heap.made + 1) (with_linked tag to heap))
with-new-linked heap tag to known g =
    let x : Value = linked_value (heap.made + 1) tag to in
    let made : ComesTo heap (with_linked tag to heap) = with-linked-value heap tag to known g in
    and-then heap (with_linked tag to heap) (with_handle (heap.made + 1) (with_linked tag to heap)) made
    (with-handle (with_linked tag to heap) (heap.made + 1) made.good (live-pushed heap.values x))

-- a value that is changed
pub with-one-changed : (heap : Heap) (n : ℕ) (change : Value → Value) → KeepsChildren (IsLiveAmong heap.values) change → IsConsistentHeap heap
    → ComesTo heap (with_values heap (value_changed n change heap.values) heap.made)
with-one-changed heap n change keeps g =
    let P : ℕ → Type 0 = IsLiveAmong heap.values in
    let new : List Value = value_changed n change heap.values in
    let own : All (OfChildren P) new = children-changed P n change heap.values keeps g.children in
    let same : numbers heap.values ≡ numbers new = sym (numbers-changed P n change heap.values keeps) in
    record {
      good = record {
        handles = g.handles;
        values = subst (λ ns. AreIssued heap.made ns) same g.values;
        held = subst (λ ns. All (λ n. has_number n ns ≡ true) (values_of_handles heap.scopes)) same g.held;
        children = subst (λ ns. All (OfChildren (λ n. has_number n ns ≡ true)) new) same own;
        starting = subst (λ ns. All (λ n. has_number n ns ≡ true) (numbers starting_values)) same g.starting;
      };
      live = λ n. subst (λ ns. IsLiveAmong heap.values n → has_number n ns ≡ true) same (λ k. k);
      stay = record { rises = omega arith; held = λ k v below. omega arith };
    }

pub with-changed : (heap : Heap) (h : ℕ) (change : Value → Value) → KeepsChildren (IsLiveAmong heap.values) change → IsConsistentHeap heap
    → ComesTo heap (with_changed h change heap)
with-changed heap h change keeps g = with-one-changed heap (handle_value heap h) change keeps g

-- values of these bodies, one after another
pub with-made : (heap : Heap) (bs : List Body) → IsConsistentHeap heap
    → ComesTo heap (with_values heap (heap.values ++ made_after heap.made bs) (heap.made + length bs))
with-made heap [] g =
    let zero : heap.made ≡ heap.made + 0 = omega arith in
    subst (λ vs. ComesTo heap (with_values heap vs (heap.made + 0))) (sym (append-nil heap.values))
    (subst (λ n. ComesTo heap (with_values heap heap.values n)) zero (unchanged heap g))
with-made heap (b ∷ bs) g =
    let made : ComesTo heap (with_value b heap) = with-value heap b g in
    let next : Heap = with_value b heap in
    let vs : List Value = next.values ++ made_after next.made bs in
    let later : ComesTo heap (with_values next vs (next.made + length bs)) =
    and-then heap next (with_values next vs (next.made + length bs)) made (with-made next bs made.good) in
    let count : next.made + length bs ≡ heap.made + length (b ∷ bs) = omega arith in
    let row : List Value = fresh_value (heap.made + 1) b ∷ [] in
    subst (λ ws. ComesTo heap (with_values heap ws (heap.made + length (b ∷ bs)))) (append_assoc heap.values row (made_after next.made bs))
    (subst (λ n. ComesTo heap (with_values heap vs n)) count later)

-- new values of these bodies, and an array of them, and its handle
with-list : (heap : Heap) (bs : List Body) → IsConsistentHeap heap → ComesTo heap (with_list bs heap)
with-list heap bs g =
    let ws : List Value = made_after heap.made bs in
    let one : Heap = with_values heap (heap.values ++ ws) (heap.made + length bs) in
    let made : ComesTo heap one = with-made heap bs g in
    let ns : List ℕ = range_with_len (heap.made + 1) (length bs) in
    let x : Value = array_of (heap.made + length bs + 1) ns in
    let Q : ℕ → Type 0 = IsLiveAmong (one.values ++ x ∷ []) in
    let all : All Q ns = All-weaker (IsLiveAmong one.values) Q (λ n h. live-more n one.values (x ∷ []) h) ns (all-made heap.values heap.made bs) in
    let own : OfChildren Q x = children-of Q x (All-nil Q) (subst (λ ms. All Q ms) (sym (filter_map-Some ns)) all) (All-nil Q) in
    let two : Heap = with_values one (one.values ++ x ∷ []) (one.made + 1) in
    subst (λ vs. ComesTo heap (with_values heap vs (heap.made + length bs + 1))) (append_assoc heap.values ws (x ∷ []))
    (and-then heap one two made (with-pushed one x refl own made.good))

pub with-new-list : (heap : Heap) (bs : List Body) → IsConsistentHeap heap → ComesTo heap (with_handle (heap.made + length bs + 1) (with_list bs heap))
with-new-list heap bs g =
    let made : ComesTo heap (with_list bs heap) = with-list heap bs g in
    and-then heap (with_list bs heap) (with_handle (heap.made + length bs + 1) (with_list bs heap)) made
    (with-handle (with_list bs heap) (heap.made + length bs + 1) made.good (listed heap.values))
  where
    listed : (vs : List Value) → IsLiveAmong (vs ++ list_of heap.made bs) (heap.made + length bs + 1)
    listed vs =
        let x : Value = array_of (heap.made + length bs + 1) (range_with_len (heap.made + 1) (length bs)) in
        live-made (heap.made + length bs + 1) vs (list_of heap.made bs) (live-pushed (made_after heap.made bs) x)

-- ERRORS
-- an error of live values
pub with-error : (heap : Heap) (code : Option ℕ) (message : ℕ) → IfSome code (IsLiveAmong heap.values) → IsLiveAmong heap.values message → IsConsistentHeap heap
    → ComesTo heap (with_error code message heap)
with-error heap code message known live g =
    let x : Value = error_of (heap.made + 1) code message in
    let P : ℕ → Type 0 = IsLiveAmong heap.values in
    let Q : ℕ → Type 0 = IsLiveAmong (heap.values ++ x ∷ []) in
    let wider : (n : ℕ) → P n → Q n = λ n h. live-more n heap.values (x ∷ []) h in
    let codes : List ℕ = named_values (code_property code) in
    let rest : All Q codes = All-weaker P Q wider codes (of-code P code known) in
    let own : OfChildren Q x = children-of Q x (All-cons Q message codes (wider message live) rest) (All-nil Q) (All-nil Q) in
    with-pushed heap x refl own g
  where
    of-code : (P : ℕ → Type 0) (c : Option ℕ) → IfSome c P → All P (named_values (code_property c))
    of-code P None h = All-nil P
    of-code P (Some n) h = All-cons P n [] h (All-nil P)

pub with-new-error : (heap : Heap) (code : Option ℕ) (message : ℕ) → IfSome code (IsLiveAmong heap.values) → IsLiveAmong heap.values message → IsConsistentHeap heap
    → ComesTo heap (with_handle (heap.made + 1) (with_error code message heap))
with-new-error heap code message known live g =
    let made : ComesTo heap (with_error code message heap) = with-error heap code message known live g in
    and-then heap (with_error code message heap) (with_handle (heap.made + 1) (with_error code message heap)) made
    (with-handle (with_error code message heap) (heap.made + 1) made.good (live-pushed heap.values (error_of (heap.made + 1) code message)))

-- an error of new strings
strings-live : (P : ℕ → Type 0) (n : ℕ) (code : Option TextNo) (message : TextNo) → All P (range_with_len (n + 1) (length (thrown_strings code message)))
    → P (n + 1) × IfSome (option_map (λ c. n + 2) code) P
strings-live P n None message all = (All-head P (n + 1) [] all, tt)
strings-live P n (Some c) message all =
    let two : n + 1 + 1 ≡ n + 2 = omega arith in
    (All-head P (n + 1) ((n + 1 + 1) ∷ []) all, subst P two (All-head P (n + 1 + 1) [] (All-tail P (n + 1) ((n + 1 + 1) ∷ []) all)))

pub with-thrown : (heap : Heap) (code : Option TextNo) (message : TextNo) → IsConsistentHeap heap → ComesTo heap (with_thrown code message heap)
with-thrown heap code message g =
    let bs : List Body = thrown_strings code message in
    let ws : List Value = made_after heap.made bs in
    let one : Heap = with_values heap (heap.values ++ ws) (heap.made + length bs) in
    let made : ComesTo heap one = with-made heap bs g in
    let live = strings-live (IsLiveAmong one.values) heap.made code message (all-made heap.values heap.made bs) in
    let two : Heap = with_error (option_map (λ c. heap.made + 2) code) (heap.made + 1) one in
    subst (λ vs. ComesTo heap (with_values heap vs (thrown_number code message heap)))
    (append_assoc heap.values ws (error_of (heap.made + length bs + 1) (option_map (λ c. heap.made + 2) code) (heap.made + 1) ∷ []))
    (and-then heap one two made (with-error one (option_map (λ c. heap.made + 2) code) (heap.made + 1) live.1 live.0 made.good))

pub thrown-live : (heap : Heap) (code : Option TextNo) (message : TextNo) → IsLiveAmong (with_thrown code message heap).values (thrown_number code message heap)
thrown-live heap code message =
    let bs : List Body = thrown_strings code message in
    live-made (thrown_number code message heap) heap.values (thrown_of heap.made code message)
    (live-pushed (made_after heap.made bs) (error_of (heap.made + length bs + 1) (option_map (λ c. heap.made + 2) code) (heap.made + 1)))
