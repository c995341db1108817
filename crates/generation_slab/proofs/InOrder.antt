-- What the calls of a slab with generations leave of it.
use Rattle.std.proofs.Common.{◌≡◌, ◌≢◌, ◌∙◌, ℕ, ◌+◌, ◌-◌, ◌<◌, ◌≤◌, ◌%◌, ◌==◌, Bool, true, false, cond, List, length, map, set, Option, Some, None, IsSome, is_some, option_map, slice_index_or, refl, ap, sym, arith}
use Rattle.std.proofs.lemmas.List.{length-set, get_or-set_same, get_or-set_other, get_or_default}
use Rattle.std.proofs.lemmas.List.Sums.{sum_by-set}
use Rattle.slab.specs.Slab.{Slab, get, slab_len, Updates, with_value as with_slot}
use Rattle.slab.proofs.SlabLemmas.{Updates-with_value, ContainsKey-within}
use Rattle.napi_types.proofs.plain.Found.{same-tells}
use Rattle.generation_slab.specs.HeldPlaces.{HeldPlaces, held, value_of, without_held, with_held_value, with_value, with_value_at}
use Rattle.generation_slab.specs.SlotNumbers.{number_of_slot, generation_in, live_at, given_in, places_from, places_of, HaveGenerations, IsInOrder}
use Rattle.generation_slab.proofs.SlotNumbers.{tests-apart, issued-same}
use Rattle.generation_slab.proofs.Changing.{Changes, Stands, Results, Makes, Widened, stands, replaces, frees, makes, issued-none}
use Rattle.generation_slab.proofs.HeldCounts.{counted-more, counted-less, counted-same}
use Rattle.generation_slab.proofs.LiveSlots.{live-there, live-vacant, have-generations, written, taken, given-free, retired-slot, vacant-other}
use Rattle.generation_slab.proofs.SlotReading.{places-changed, place-taken, place-put, within-places, long}

module _ {T : Type 0} where
  abbrev written_in : Slab T → ℕ → T → Slab T
  written_in slots k v = with_slot slots k v

  -- a write where a value is leaves as many as before
  same-many : (slots : Slab T) (k : ℕ) (v w : T) → get slots k ≡ Some v → slab_len (written_in slots k w) ≡ slab_len slots
  same-many slots k v w is =
      let one : Option T → ℕ = λ o. cond (is_some o) 1 0 in
      same (slab_len (written_in slots k w)) (slab_len slots) (one (get slots k)) (ap one is) (sum_by-set one slots.slots k (Some w) None (ContainsKey-within slots k (ap is_some is)))
    where
      same : (m n a : ℕ) → a ≡ 1 → m + a ≡ n + 1 → m ≡ n
      same m n a one two = omega (arith, one, two)

  -- where a number stands, what is there is found
  pub record Found (slots : Slab T) (gs : List ℕ) (last n k : ℕ) : Type 0 where
    pub at : Stands (live_at slots gs last) gs n k
    pub there : get slots k ≡ Some at.value
    pub short : generation_in gs k ≤ last

  module _ (slots : Slab T) (gs : List ℕ) (last c w r : ℕ) (order : IsInOrder slots gs last c w r) (s : HeldPlaces T) (view : places_of (live_at slots gs last) gs r ≡ s) where
    generations : HaveGenerations (live_at slots gs last) gs
    generations = have-generations slots gs last c w r order

    pub found-in : (n k : ℕ) → k ≡ (n - 1) % 281474976710656 → IsSome (value_of s n) → Found slots gs last n k
    found-in n k is some =
        let at = stands (live_at slots gs last) gs r generations s view n k is some in
        let there = live-there slots gs last k at.value at.there in
        record { at = at; there = there.0; short = there.1 }

    pub read-in : (n k g : ℕ) → Found slots gs last n k → g ≡ slice_index_or gs k g → g ≡ generation_in gs k
    read-in n k g found is = is ∙ get_or_default gs k g 0 found.at.within

    -- A VALUE IS WRITTEN
    module _ (n k : ℕ) (found : Found slots gs last n k) (v : T) where
      pub writes : Changes (live_at slots gs last) (live_at (written_in slots k v) gs last) k (Some v)
      writes = written slots (written_in slots k v) gs last k v found.short (Updates-with_value slots k v (ap is_some found.there))

      pub write-order : IsInOrder (written_in slots k v) gs last c w r
      write-order =
          let updates = Updates-with_value slots k v (ap is_some found.there) in record {
            few = order.few;
            low = order.low;
            empty = λ j past. updates.others j (λ same. omega (arith, same, past, found.at.within)) ∙ order.empty j past;
            retired = λ j vacant. order.retired j (vacant-other slots (written_in slots k v) k j v updates vacant);
            counted = counted-same (live_at slots gs last) (live_at (written_in slots k v) gs last) gs k c found.at.value v found.at.within found.at.there writes.changed writes.others order.counted;
            reserved = record { fits = omega (arith, order.reserved.fits, same-many slots k found.at.value v found.there); wide = order.reserved.wide; few = order.reserved.few };
          }

      pub write-results : Results s (places_of (live_at (written_in slots k v) gs last) gs r) (with_held_value n v (held s))
      write-results = replaces (live_at slots gs last) (live_at (written_in slots k v) gs last) gs r r generations s view n k found.at v writes

      pub write-places : places_of (live_at (written_in slots k v) gs last) gs r ≡ with_value_at n s v
      write-places =
          let new = live_at (written_in slots k v) gs last in
          ap (λ ps. record { places = ps; issued = (places_of new gs r).issued; room = r }) (places-changed (live_at slots gs last) gs r generations s view new n k v found.at writes)
          ∙ ap (λ is. record { places = map (option_map (λ h. cond (h.number == n) (with_value v h) h)) (places_from (live_at slots gs last) 0 gs); issued = is; room = r })
          (write-results.issued ∙ ap (λ (t : HeldPlaces T). t.issued) (sym view))
          ∙ ap (λ t. with_value_at n t v) view

    -- A NUMBER IS FREED
    next-long : (k h : ℕ) → length (set gs k h) ≡ length gs
    next-long k h = length-set gs k h

    -- the slot is given back, in the next generation
    module _ (n k h : ℕ) (found : Found slots gs last n k) (is : h ≡ generation_in gs k) (new : Slab T) (updates : Updates slots new k None) (len : slab_len new + 1 ≡ slab_len slots)
        (capacity : new.capacity ≡ slots.capacity) (more : h + 1 ≤ last) where
      pub gives : Changes (live_at slots gs last) (live_at new (set gs k (h + 1)) last) k None
      gives = given-free slots new gs last k (h + 1) updates

      pub given-count : 1 ≤ c
      given-count = omega (arith, counted-less (live_at slots gs last) (live_at new (set gs k (h + 1)) last) gs (set gs k (h + 1)) k c found.at.value found.at.within (next-long k (h + 1)) found.at.there gives.changed gives.others order.counted)

      pub given-order : IsInOrder new (set gs k (h + 1)) last (c - 1) w r
      given-order = record {
        few = omega (arith, order.few, next-long k (h + 1));
        low = order.low;
        empty = λ j past. updates.others j (λ same. omega (arith, same, past, found.at.within, next-long k (h + 1))) ∙ order.empty j (omega (arith, past, next-long k (h + 1)));
        retired = λ j vacant. by j vacant (j == k) refl;
        counted = omega (arith, counted-less (live_at slots gs last) (live_at new (set gs k (h + 1)) last) gs (set gs k (h + 1)) k c found.at.value found.at.within (next-long k (h + 1)) found.at.there gives.changed gives.others order.counted);
        reserved = record {
          fits = omega (arith, order.reserved.fits, len, capacity);
          wide = λ some. omega (arith, order.reserved.wide some, capacity);
          few = λ some. omega (arith, order.reserved.few some, capacity);
        };
      }
        where
          by : (j : ℕ) → get new j ≡ None → (b : Bool) → (j == k) ≡ b → generation_in (set gs k (h + 1)) j ≤ last
          by j vacant true same =
              let here : generation_in (set gs k (h + 1)) j ≡ h + 1 = ap (generation_in (set gs k (h + 1))) (same-tells j k same) ∙ get_or-set_same gs k (h + 1) 0 found.at.within in
              omega (arith, here, more)
          by j vacant false other =
              let apart : j ≢ k = (tests-apart j k).0 other in
              let stays : generation_in (set gs k (h + 1)) j ≡ generation_in gs j = get_or-set_other gs k j (h + 1) 0 apart in
              omega (arith, stays, order.retired j (sym (updates.others j apart) ∙ vacant))

      pub given-results : Results s (places_of (live_at new (set gs k (h + 1)) last) (set gs k (h + 1)) r) (without_held n (held s))
      given-results = frees (live_at slots gs last) (live_at new (set gs k (h + 1)) last) gs r r generations s view n k found.at h is gives

    -- the slot is never used again
    module _ (n k h : ℕ) (found : Found slots gs last n k) (is : h ≡ generation_in gs k) (over : last ≤ h) where
      pub retires : Changes (live_at slots gs last) (live_at slots (set gs k (h + 1)) last) k None
      retires = retired-slot slots gs last k (h + 1) found.at.within (omega (arith, over))

      pub retired-order : IsInOrder slots (set gs k (h + 1)) last (c - 1) w r
      retired-order = record {
        few = omega (arith, order.few, next-long k (h + 1));
        low = order.low;
        empty = λ j past. order.empty j (omega (arith, past, next-long k (h + 1)));
        retired = λ j vacant. by j vacant (j == k) refl;
        counted = omega (arith, counted-less (live_at slots gs last) (live_at slots (set gs k (h + 1)) last) gs (set gs k (h + 1)) k c found.at.value found.at.within (next-long k (h + 1)) found.at.there retires.changed retires.others order.counted);
        reserved = order.reserved;
      }
        where
          taken-here : (j : ℕ) → get slots j ≡ None → j ≡ k → ⊥
          taken-here j vacant same = let no : Some found.at.value ≡ None = sym found.there ∙ ap (get slots) (sym same) ∙ vacant in cc

          by : (j : ℕ) → get slots j ≡ None → (b : Bool) → (j == k) ≡ b → generation_in (set gs k (h + 1)) j ≤ last
          by j vacant true same = absurd (taken-here j vacant (same-tells j k same))
          by j vacant false other =
              let apart : j ≢ k = (tests-apart j k).0 other in
              let stays : generation_in (set gs k (h + 1)) j ≡ generation_in gs j = get_or-set_other gs k j (h + 1) 0 apart in
              omega (arith, stays, order.retired j vacant)

      pub retired-results : Results s (places_of (live_at slots (set gs k (h + 1)) last) (set gs k (h + 1)) r) (without_held n (held s))
      retired-results = frees (live_at slots gs last) (live_at slots (set gs k (h + 1)) last) gs r r generations s view n k found.at h is retires

    -- A SLOT IS TAKEN
    module _ (k : ℕ) (v : T) (news : List ℕ) (wide : Widened gs news k) (new : Slab T) (vacant : get slots k ≡ None) (updates : Updates slots new k (Some v))
        (len : slab_len new ≡ slab_len slots + 1) (capacity : new.capacity ≡ slots.capacity) (some : 0 < r) where
      pub vacant-short : generation_in news k ≤ last
      vacant-short = omega (arith, wide.kept k, order.retired k vacant)

      pub takes : Changes (live_at slots gs last) (live_at new news last) k (Some v)
      takes = taken slots new gs news last k v wide.kept (order.retired k vacant) updates

      pub taken-order : IsInOrder new news last (c + 1) w (r - 1)
      taken-order = record {
        few = wide.few;
        low = order.low;
        empty = λ j past. updates.others j (λ same. omega (arith, same, past, wide.there)) ∙ order.empty j (omega (arith, past, wide.longer));
        retired = λ j empty. omega (arith, wide.kept j, order.retired j (vacant-other slots new k j v updates empty));
        counted =
            counted-more (live_at slots gs last) (live_at new news last) gs news k c v wide.there wide.longer (λ j past. live-vacant slots gs last j (order.empty j past))
            (live-vacant slots gs last k vacant) takes.changed takes.others order.counted;
        reserved = record {
          fits = omega (arith, order.reserved.fits, len, capacity, some);
          wide = λ left. omega (arith, order.reserved.wide some, capacity);
          few = λ left. omega (arith, order.reserved.few some, capacity);
        };
      }

      pub taken-makes : (g q : ℕ) → g ≡ generation_in news k → Makes s (places_of (live_at new news last) news q) (number_of_slot g k) v
      taken-makes g q is =
          makes (live_at slots gs last) (live_at new news last) gs news r q k g v generations wide (live-vacant slots gs last k vacant) takes is s view

    -- AT A PLACE
    pub record FoundAt (at : ℕ) : Type 0 where
      pub value : T
      pub live : live_at slots gs last at ≡ Some value
      pub there : get slots at ≡ Some value
      pub short : generation_in gs at ≤ last
      pub within : at < length gs

    pub found-at : (at : ℕ) → IsSome (slice_index_or s.places at None) → FoundAt at
    found-at at some =
        let v = place-taken (live_at slots gs last) gs r generations s view at some in
        let there = live-there slots gs last at v.0 v.1 in
        record {
          value = v.0;
          live = v.1;
          there = there.0;
          short = there.1;
          within = omega (arith, within-places (live_at slots gs last) gs r generations s view at some, long (live_at slots gs last) gs r generations s view);
        }

    module _ (at : ℕ) (some : IsSome (slice_index_or s.places at None)) (v : T) where
      pub puts : Changes (live_at slots gs last) (live_at (written_in slots at v) gs last) at (Some v)
      puts = let found = found-at at some in written slots (written_in slots at v) gs last at v found.short (Updates-with_value slots at v (ap is_some found.there))

      pub put-order : IsInOrder (written_in slots at v) gs last c w r
      put-order =
          let found = found-at at some in
          let updates = Updates-with_value slots at v (ap is_some found.there) in record {
            few = order.few;
            low = order.low;
            empty = λ j past. updates.others j (λ same. omega (arith, same, past, found.within)) ∙ order.empty j past;
            retired = λ j vacant. order.retired j (vacant-other slots (written_in slots at v) at j v updates vacant);
            counted = counted-same (live_at slots gs last) (live_at (written_in slots at v) gs last) gs at c found.value v found.within found.live puts.changed puts.others order.counted;
            reserved = record { fits = omega (arith, order.reserved.fits, same-many slots at found.value v found.there); wide = order.reserved.wide; few = order.reserved.few };
          }

      pub put-places : places_from (live_at (written_in slots at v) gs last) 0 gs ≡ set s.places at (option_map (with_value v) (slice_index_or s.places at None))
      put-places = place-put (live_at slots gs last) gs r generations s view (live_at (written_in slots at v) gs last) at v some puts

      pub put-issued : (places_of (live_at (written_in slots at v) gs last) gs r).issued ≡ s.issued
      put-issued =
          let found = found-at at some in
          let new = live_at (written_in slots at v) gs last in
          let after : HaveGenerations new gs = have-generations (written_in slots at v) gs last c w r put-order in
          issued-none (live_at slots gs last) new gs gs r r generations after 0
          (issued-same (live_at slots gs last) new gs gs at (generation_in gs at) (omega (arith, found.within, order.few)) puts.others (λ j apart. refl) refl
          (λ a. ap (λ o. given_in o (generation_in gs at) a) puts.changed ∙ sym (ap (λ o. given_in o (generation_in gs at) a) found.live)))
          ∙ ap (λ (t : HeldPlaces T). t.issued) view
