-- The marks of a slab's slots: each is set exactly where nothing is held.
use Rattle.std.proofs.Common.{◌≡◌, ◌∙◌, ℕ, ◌<◌, ◌≤◌, ◌⊎◌, inl, inr, Bool, true, false, not, List, length, map, take, set, Option, Some, None, is_some, slice_index_or, refl, ap, sym, arith}
use Rattle.std.proofs.lemmas.Bool.{cases_eq, cases_lt}
use Rattle.std.proofs.lemmas.List.{same_lists, get_or-map, get_or-take, get_or-set_same, get_or-set_other, get_or_past, get_or_default, length-map, length-set, length-take-le}
use Rattle.slab.specs.Slab.{Slab}
use Rattle.generation_slab.specs.HeldPlaces.{HeldPlaces}
use Rattle.generation_slab.specs.SlotNumbers.{generation_in, standing_in, live_at, places_of, HaveGenerations, IsInOrder, IsKept, MarksVacant}
use Rattle.generation_slab.proofs.Changing.{Changes}
use Rattle.generation_slab.proofs.SlotReading.{long, place-seen}

module _ {T : Type 0} where
  -- a slot that holds something has a mark
  pub marked-within : (live : ℕ → Option T) (marks : List Bool) (k : ℕ) (v : T) → MarksVacant live marks → live k ≡ Some v → k < length marks
  marked-within live marks k v vacant is = by (cases_lt k (length marks))
    where
      by : (k < length marks) ⊎ (length marks ≤ k) → k < length marks
      by (inl less) = less
      by (inr past) =
          let no : true ≡ false = sym (get_or_past marks k true past) ∙ vacant k ∙ ap (λ o. not (is_some o)) is in
          let none : ⊥ = cc in absurd none

  -- one slot is taken or freed, and its mark is written
  pub marks-written : (old new : ℕ → Option T) (marks : List Bool) (k : ℕ) (o : Option T) → MarksVacant old marks → Changes old new k o → k < length marks
      → MarksVacant new (set marks k (not (is_some o)))
  marks-written old new marks k o vacant changes within = λ j. by j (cases_eq j k)
    where
      by : (j : ℕ) → (j ≡ k) ⊎ (j ≡ k → ⊥) → slice_index_or (set marks k (not (is_some o))) j true ≡ not (is_some (new j))
      by j (inl same) =
          ap (λ i. slice_index_or (set marks k (not (is_some o))) i true) same ∙ get_or-set_same marks k (not (is_some o)) true within
          ∙ sym (ap (λ i. not (is_some (new i))) same ∙ ap (λ p. not (is_some p)) changes.changed)
      by j (inr apart) = get_or-set_other marks k j (not (is_some o)) true apart ∙ vacant j ∙ sym (ap (λ p. not (is_some p)) (changes.others j apart))

  -- a value is written where one was, and the marks stay
  pub marks-kept : (old new : ℕ → Option T) (marks : List Bool) (k : ℕ) (v w : T) → MarksVacant old marks → Changes old new k (Some w) → old k ≡ Some v → MarksVacant new marks
  marks-kept old new marks k v w vacant changes is = λ j. by j (cases_eq j k)
    where
      by : (j : ℕ) → (j ≡ k) ⊎ (j ≡ k → ⊥) → slice_index_or marks j true ≡ not (is_some (new j))
      by j (inl same) =
          vacant j ∙ ap (λ i. not (is_some (old i))) same ∙ ap (λ p. not (is_some p)) (is ∙ ap Some refl)
          ∙ sym (ap (λ i. not (is_some (new i))) same ∙ ap (λ p. not (is_some p)) changes.changed)
      by j (inr apart) = vacant j ∙ sym (ap (λ p. not (is_some p)) (changes.others j apart))

  module _ (slots : Slab T) (gs : List ℕ) (last c w r : ℕ) (marks : List Bool) (kept : IsKept slots gs last c w r marks) where
    -- a slot is taken or freed
    pub kept-written : (new : Slab T) (news : List ℕ) (d q k : ℕ) (o : Option T) → Changes (live_at slots gs last) (live_at new news last) k o → k < length marks → IsInOrder new news last d w q
        → new.capacity ≡ slots.capacity → (0 < q → 0 < r) → length news ≤ length marks → IsKept new news last d w q (set marks k (not (is_some o)))
    kept-written new news d q k o changes within order capacity reserved short =
        let size : length (set marks k (not (is_some o))) ≡ length marks = length-set marks k (not (is_some o)) in
        record {
          order = order;
          vacant = marks-written (live_at slots gs last) (live_at new news last) marks k o kept.vacant changes within;
          long = omega (arith, size, short);
          marked = λ some. omega (arith, size, capacity, kept.marked (reserved some));
          whole = omega (arith, size, kept.whole);
        }

    -- a value is written where one was
    pub kept-put : (new : Slab T) (k : ℕ) (v x : T) → Changes (live_at slots gs last) (live_at new gs last) k (Some x) → live_at slots gs last k ≡ Some v → IsInOrder new gs last c w r
        → new.capacity ≡ slots.capacity → IsKept new gs last c w r marks
    kept-put new k v x changes is order capacity = record {
      order = order;
      vacant = marks-kept (live_at slots gs last) (live_at new gs last) marks k v x kept.vacant changes is;
      long = kept.long;
      marked = λ some. omega (arith, capacity, kept.marked some);
      whole = kept.whole;
    }

  -- of the places, the marks tell which are vacant
  pub vacant-marks : (live : ℕ → Option T) (gs : List ℕ) (r : ℕ) (sound : HaveGenerations live gs) (s : HeldPlaces T) (view : places_of live gs r ≡ s) (marks : List Bool) → MarksVacant live marks → length gs ≤ length marks
      → take (length gs) marks ≡ map (λ place. not (is_some place)) s.places
  vacant-marks live gs r sound s view marks vacant short =
      same_lists (take (length gs) marks) (map (λ place. not (is_some place)) s.places)
      (size ∙ sym (long live gs r sound s view) ∙ sym (length-map s.places (λ place. not (is_some place))))
      (λ k d below. by k d (omega (arith, below, size)))
    where
      size : length (take (length gs) marks) ≡ length gs
      size = length-take-le (length gs) marks short

      stands : (g k : ℕ) (o : Option T) → is_some (standing_in g k o) ≡ is_some o
      stands g k None = refl
      stands g k (Some v) = refl

      by : (k : ℕ) (d : Bool) → k < length gs → slice_index_or (take (length gs) marks) k d ≡ slice_index_or (map (λ place. not (is_some place)) s.places) k d
      by k d less =
          let within : k < length s.places = omega (arith, less, long live gs r sound s view) in
          get_or-take (length gs) marks k d less ∙ get_or_default marks k d true (omega (arith, less, short)) ∙ vacant k
          ∙ sym (get_or-map (λ place. not (is_some place)) s.places k None d within
          ∙ ap (λ place. not (is_some place)) (place-seen live gs r sound s view k within) ∙ ap not (stands (generation_in gs k) k (live k)))
