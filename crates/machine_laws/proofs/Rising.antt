-- References stay a finite map.
use Rattle.std.proofs.Common.{◌≡◌, ◌∙◌, ℕ, ◌==◌, Bool, true, false, not, cond, [], map, refl, Some, slice_index_or}
use Rattle.std.specs.List.{All}
use Rattle.std.proofs.lemmas.List.Elements.{All-filter, All-map, All-nil, All-weaker}
use Rattle.std.proofs.lemmas.Bool.{or_left, or_right}
use Rattle.napi_types.specs.plain.Lists.{has_number, with_number}
use Rattle.napi_types.specs.parts.References.{Reference, ReferenceMap, no_references, with_reference, without_reference, with_count, emptied, value_left}
use Rattle.napi_types.proofs.plain.Maps.{All-with_record}
use Rattle.napi_types.proofs.plain.Found.{rising-with_record, rising-filter, rising-changed, has-with_number, same-self}
use Rattle.machine_laws.specs.Consistency.{IsMap}

-- REFERENCES
pub none-map : IsMap no_references
none-map = record { rows = tt; numbers = tt; issued = All-nil (λ r. has_number r.number [] ≡ true) }

pub more-map : (n value count : ℕ) (m : ReferenceMap) → IsMap m → IsMap (with_reference n value count m)
more-map n value count m h =
    let number : Reference → ℕ = λ r. r.number in
    let r : Reference = record { number = n; value = Some value; count = count } in
    let P : Reference → Type 0 = λ q. has_number q.number m.issued ≡ true in
    let Q : Reference → Type 0 = λ q. has_number q.number (with_number n m.issued) ≡ true in
    let old : All Q m.rows =
    All-weaker P Q (λ q there. has-with_number q.number n m.issued ∙ or_right (n == q.number) (has_number q.number m.issued) there) m.rows h.issued in
    record {
      rows = rising-with_record number r m.rows h.rows;
      numbers = rising-with_record (λ k. k) n m.issued h.numbers;
      issued = All-with_record number r Q m.rows (has-with_number n n m.issued ∙ or_left (n == n) (has_number n m.issued) (same-self n)) old;
    }

pub fewer-map : (n : ℕ) (m : ReferenceMap) → IsMap m → IsMap (without_reference n m)
fewer-map n m h = record {
  rows = rising-filter (λ (r : Reference). r.number) (λ r. not (r.number == n)) m.rows h.rows;
  numbers = h.numbers;
  issued = All-filter (λ (r : Reference). not (r.number == n)) (λ r. has_number r.number m.issued ≡ true) m.rows h.issued;
}

-- references that are changed and keep their numbers
changed-map : (f : Reference → Reference) → ((r : Reference) → (f r).number ≡ r.number) → (m : ReferenceMap) → IsMap m
    → IsMap (record m { rows = map f m.rows })
changed-map f same m h = record {
  rows = rising-changed (λ (r : Reference). r.number) f same m.rows h.rows;
  numbers = h.numbers;
  issued = All-map (λ (r : Reference). has_number r.number m.issued ≡ true) f m.rows (λ k d below. rw (same (slice_index_or m.rows k d)) (h.issued k d below));
}

counted-number : (r : Reference) (count : ℕ) (b : Bool) → (cond b (record r { count = count }) r).number ≡ r.number
counted-number r count true = refl
counted-number r count false = refl

pub counted-map : (n count : ℕ) (m : ReferenceMap) → IsMap m → IsMap (with_count n count m)
counted-map n count m h = changed-map _ (λ r. counted-number r count (r.number == n)) m h

pub emptied-map : (collected : ℕ → Bool) (m : ReferenceMap) → IsMap m → IsMap (emptied collected m)
emptied-map collected m h = changed-map (λ (r : Reference). record r { value = value_left collected r.value }) (λ r. refl) m h
