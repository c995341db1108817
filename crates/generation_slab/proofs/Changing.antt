-- What is held, and what was issued, once a slot has changed.
use Rattle.std.proofs.Common.{◌≡◌, ◌≢◌, ◌∙◌, ℕ, zero, suc, ◌+◌, ◌-◌, ◌*◌, ◌<◌, ◌≤◌, ◌/◌, ◌%◌, ◌==◌, ◌||◌, Bool, true, false, not, nat_lt, cond, List, ◌∷◌, length, set, Option, Some, None, IsSome, is_some, option_map, slice_index_or, refl, ap, sym, subst, arith}
use Rattle.std.proofs.lemmas.Bool.Decides.{nat_tests}
use Rattle.std.proofs.lemmas.List.{length-set, get_or-set_same, get_or-set_other}
use Rattle.napi_types.specs.plain.Lists.{has_number, with_number}
use Rattle.napi_types.proofs.plain.Found.{found-same, found-with_record, found-filter, found-changed, rising-as_map, rising-with_record, rising-filter, rising-changed, same-tells, turned}
use Rattle.generation_slab.specs.HeldPlaces.{HeldValue, HeldPlaces, standing, held, value_of, with_held, without_held, with_value, with_held_value, EachStandsOnce}
use Rattle.generation_slab.specs.SlotNumbers.{number_of_slot, generation_in, places_from, issued_from, places_of, value_in, given_in, value_at, is_issued, HaveGenerations}
use Rattle.generation_slab.proofs.SlotNumbers.{tests-apart, parted, slot-below, slot-of, generation-of, value-changed, issued-more, issued-same, put-value, taken-value, other-generation, given-taken, given-back}
use Rattle.generation_slab.proofs.HeldPlaces.{held-at, value-held, numbers-once}
use Rattle.generation_slab.proofs.Issuing.{issued-at, numbers-more, numbers-kept}

-- each slot up to this one has a generation, which is 0 where it had none
pub record Widened (olds news : List ℕ) (k : ℕ) : Type 0 where
  pub kept : (j : ℕ) → slice_index_or news j 0 ≡ slice_index_or olds j 0
  pub there : k < length news
  pub longer : length olds ≤ length news
  pub few : length news < 281474976710656

module _ {T : Type 0} where
  abbrev number : HeldValue T → ℕ
  number h = h.number

  abbrev at_number : ℕ → T → HeldValue T
  at_number n v = record { number = n; value = v }

  abbrev changing : ℕ → T → HeldValue T → HeldValue T
  changing n v h = cond (h.number == n) (with_value v h) h

  -- BY NUMBERS
  module _ (old new : ℕ → Option T) (olds news : List ℕ) (r q : ℕ) (before : HaveGenerations old olds) (after : HaveGenerations new news) (id : ℕ) where
    pub held-more : (v : T) → ((n : ℕ) → value_at new news n ≡ cond (id == n) (Some v) (value_at old olds n))
        → held (places_of new news q) ≡ with_held id v (held (places_of old olds r))
    held-more v changed =
        found-same number (held (places_of new news q)) (with_held id v (held (places_of old olds r)))
        (rising-as_map number (standing (places_from new 0 news))) (rising-with_record number (at_number id v) (held (places_of old olds r)) (rising-as_map number (standing (places_from old 0 olds))))
        (λ n. held-at new news q after n ∙ ap (option_map (at_number n)) (changed n) ∙ by n (id == n) refl (value_at old olds n)
        ∙ ap (λ o. cond (id == n) (Some (at_number id v)) o) (sym (held-at old olds r before n)) ∙ sym (found-with_record number n (at_number id v) (held (places_of old olds r))))
      where
        by : (n : ℕ) (b : Bool) → (id == n) ≡ b → (o : Option T) → option_map (at_number n) (cond b (Some v) o) ≡ cond b (Some (at_number id v)) (option_map (at_number n) o)
        by n true is o = ap (λ m. Some (at_number m v)) (sym (same-tells id n is))
        by n false is o = refl

    pub held-less : ((n : ℕ) → value_at new news n ≡ cond (id == n) None (value_at old olds n)) → held (places_of new news q) ≡ without_held id (held (places_of old olds r))
    held-less changed =
        found-same number (held (places_of new news q)) (without_held id (held (places_of old olds r)))
        (rising-as_map number (standing (places_from new 0 news))) (rising-filter number (λ h. not (h.number == id)) (held (places_of old olds r)) (rising-as_map number (standing (places_from old 0 olds))))
        (λ n. held-at new news q after n ∙ ap (option_map (at_number n)) (changed n) ∙ by n (id == n) (value_at old olds n)
        ∙ ap (λ b. cond (not b) (option_map (at_number n) (value_at old olds n)) None) (turned id n)
        ∙ ap (λ o. cond (not (n == id)) o None) (sym (held-at old olds r before n)) ∙ sym (found-filter number (λ m. not (m == id)) n (held (places_of old olds r))))
      where
        by : (n : ℕ) (b : Bool) (o : Option T) → option_map (at_number n) (cond b None o) ≡ cond (not b) (option_map (at_number n) o) None
        by n true o = refl
        by n false o = refl

    pub held-other : (v : T) → IsSome (value_at old olds id) → ((n : ℕ) → value_at new news n ≡ cond (id == n) (Some v) (value_at old olds n))
        → held (places_of new news q) ≡ with_held_value id v (held (places_of old olds r))
    held-other v there changed =
        found-same number (held (places_of new news q)) (with_held_value id v (held (places_of old olds r)))
        (rising-as_map number (standing (places_from new 0 news))) (rising-changed number (changing id v) keeps (held (places_of old olds r)) (rising-as_map number (standing (places_from old 0 olds))))
        (λ n. held-at new news q after n ∙ ap (option_map (at_number n)) (changed n) ∙ by n (id == n) refl (value_at old olds n) refl
        ∙ ap (option_map (changing id v)) (sym (held-at old olds r before n)) ∙ sym (found-changed number (changing id v) keeps n (held (places_of old olds r))))
      where
        keeps : (h : HeldValue T) → let q : HeldValue T = changing id v h in q.number ≡ h.number
        keeps h = each (h.number == id)
          where
            each : (b : Bool) → let q : HeldValue T = cond b (with_value v h) h in q.number ≡ h.number
            each true = refl
            each false = refl

        by : (n : ℕ) (b : Bool) → (id == n) ≡ b → (o : Option T) → value_at old olds n ≡ o
            → option_map (at_number n) (cond b (Some v) o) ≡ option_map (changing id v) (option_map (at_number n) o)
        by n true is None at =
            let none : IsSome (value_at old olds n) = subst (λ m. IsSome (value_at old olds m)) (same-tells id n is) there in
            let no : ⊥ = let told = ap is_some at in cc in absurd no
        by n true is (Some w) at = ap (λ b. Some (cond b (at_number n v) (at_number n w))) (sym (turned n id ∙ is))
        by n false is None at = refl
        by n false is (Some w) at = ap (λ b. Some (cond b (at_number n v) (at_number n w))) (sym (turned n id ∙ is))

    pub issued-one : ((n : ℕ) → is_issued new news n ≡ ((id == n) || is_issued old olds n)) → (places_of new news q).issued ≡ with_number id (places_of old olds r).issued
    issued-one more =
        numbers-more id (issued_from new 0 news) (issued_from old 0 olds)
        (λ n. issued-at new news q after n ∙ more n ∙ ap (λ b. (id == n) || b) (sym (issued-at old olds r before n)))

    pub issued-none : ((n : ℕ) → is_issued new news n ≡ is_issued old olds n) → (places_of new news q).issued ≡ (places_of old olds r).issued
    issued-none same =
        numbers-kept (issued_from new 0 news) (issued_from old 0 olds) (λ n. issued-at new news q after n ∙ same n ∙ sym (issued-at old olds r before n))

  -- WHERE A NUMBER STANDS
  pub record Stands (live : ℕ → Option T) (gs : List ℕ) (n k : ℕ) : Type 0 where
    pub value : T
    pub positive : 1 ≤ n
    pub there : live k ≡ Some value
    pub is : number_of_slot (generation_in gs k) k ≡ n
    pub within : k < length gs
    pub small : k < 281474976710656
    pub told : value_at live gs n ≡ Some value

  pub stands : (live : ℕ → Option T) (gs : List ℕ) (r : ℕ) → HaveGenerations live gs → (s : HeldPlaces T) → places_of live gs r ≡ s → (n k : ℕ)
      → k ≡ (n - 1) % 281474976710656 → IsSome (value_of s n) → Stands live gs n k
  stands live gs r sound s view n k is_slot some = subst (Stands live gs n) (sym is_slot) (by n refl (subst (λ (o : Option T). IsSome o) (ap (λ t. value_of t n) (sym view) ∙ value-held live gs r sound n) some))
    where
      minus : (at : ℕ) → suc at - 1 ≡ at
      minus at = omega arith

      inside : (k : ℕ) (v : T) → live k ≡ Some v → k < length gs
      inside k v at = less (nat_lt k (length gs)) refl
        where
          past : (b : Bool) → nat_lt k (length gs) ≡ b → b ≡ false → length gs ≤ k
          past b is over = grind (arith, nat_tests)

          less : (b : Bool) → nat_lt k (length gs) ≡ b → k < length gs
          less true is = grind (arith, nat_tests)
          less false is = let none : live k ≡ None = sound.empty k (past false is refl) in let no : ⊥ = cc in absurd no

      by : (m : ℕ) → m ≡ n → IsSome (value_at live gs m) → Stands live gs m ((m - 1) % 281474976710656)
      by zero is there = let no : ⊥ = cc in absurd no
      by (suc at) is there = slotted (live (at % 281474976710656)) refl there
        where
          made : (v : T) → live (at % 281474976710656) ≡ Some v → (generation_in gs (at % 281474976710656) == at / 281474976710656) ≡ true → Stands live gs (suc at) ((suc at - 1) % 281474976710656)
          made v at_slot same = record {
            value = v;
            positive = omega arith;
            there = ap (λ m. live (m % 281474976710656)) (minus at) ∙ at_slot;
            is =
                ap (λ m. number_of_slot (generation_in gs (m % 281474976710656)) (m % 281474976710656)) (minus at)
                ∙ ap (λ g. number_of_slot g (at % 281474976710656)) (same-tells _ _ same) ∙ sym (parted at);
            within = subst (λ m. m % 281474976710656 < length gs) (sym (minus at)) (inside (at % 281474976710656) v at_slot);
            small = slot-below (suc at - 1);
            told = ap (λ o. value_in o (generation_in gs (at % 281474976710656)) (at / 281474976710656)) at_slot ∙ ap (λ b. cond b (Some v) None) same;
          }

          generation : (v : T) (b : Bool) → live (at % 281474976710656) ≡ Some v → (generation_in gs (at % 281474976710656) == at / 281474976710656) ≡ b
              → IsSome (cond b (Some v) None) → Stands live gs (suc at) ((suc at - 1) % 281474976710656)
          generation v true at_slot same there = made v at_slot same
          generation v false at_slot same there = let no : ⊥ = cc in absurd no

          slotted : (o : Option T) → live (at % 281474976710656) ≡ o
              → IsSome (value_in o (generation_in gs (at % 281474976710656)) (at / 281474976710656)) → Stands live gs (suc at) ((suc at - 1) % 281474976710656)
          slotted None at_slot there = let no : ⊥ = cc in absurd no
          slotted (Some v) at_slot there = generation v (generation_in gs (at % 281474976710656) == at / 281474976710656) at_slot refl there

  -- A SLOT CHANGES
  -- one slot holds this now, and the others hold what they held
  pub record Changes (old new : ℕ → Option T) (k : ℕ) (o : Option T) : Type 0 where
    pub changed : new k ≡ o
    pub others : (j : ℕ) → j ≢ k → new j ≡ old j

  -- what has a generation goes on having one
  pub sound-changed : (old new : ℕ → Option T) (gs news : List ℕ) (k : ℕ) (o : Option T) → HaveGenerations old gs → k < length news → length gs ≤ length news → length news < 281474976710656
      → Changes old new k o → HaveGenerations new news
  sound-changed old new gs news k o sound within longer few changes = record {
    few = few;
    empty = λ j past. changes.others j (λ same. omega (arith, same, past, within)) ∙ sound.empty j (omega (arith, past, longer));
  }

  -- WHAT A CALL MAKES OF IT
  pub record Results (s t : HeldPlaces T) (hs : List (HeldValue T)) : Type 0 where
    pub holds : held t ≡ hs
    pub issued : t.issued ≡ s.issued
    pub once : EachStandsOnce t

  module _ (old new : ℕ → Option T) (gs : List ℕ) (r q : ℕ) (sound : HaveGenerations old gs) (s : HeldPlaces T) (view : places_of old gs r ≡ s) (n k : ℕ) (at : Stands old gs n k) where
    abbrev g : ℕ
    g = generation_in gs k

    -- another value is put there
    pub replaces : (v : T) → Changes old new k (Some v) → Results s (places_of new gs q) (with_held_value n v (held s))
    replaces v changes =
        let after = sound-changed old new gs gs k (Some v) sound at.within (omega arith) sound.few changes in
        let change = value-changed old new gs gs k g at.small changes.others (λ j apart. refl) refl (Some v)
        (λ a. ap (λ o. value_in o g a) changes.changed ∙ put-value (old k) v (other-generation (old k)) g a) in
        let given = issued-same old new gs gs k g at.small changes.others (λ j apart. refl) refl (λ a. ap (λ o. given_in o g a) changes.changed ∙ sym (ap (λ o. given_in o g a) at.there)) in
        subst (λ (t : HeldPlaces T). Results t (places_of new gs q) (with_held_value n v (held t))) view (record {
          holds = held-other old new gs gs r q sound after n v (ap is_some at.told) (λ m. change m ∙ ap (λ j. cond (j == m) (Some v) (value_at old gs m)) at.is);
          issued = issued-none old new gs gs r q sound after n given;
          once = numbers-once new 0 gs (omega (arith, sound.few));
        })

    -- the slot holds nothing, and has the next generation
    pub frees : (h : ℕ) → h ≡ g → Changes old new k None → Results s (places_of new (set gs k (h + 1)) q) (without_held n (held s))
    frees h same changes =
        let long : length (set gs k (h + 1)) ≡ length gs = length-set gs k (h + 1) in
        let after = sound-changed old new gs (set gs k (h + 1)) k None sound (omega (arith, at.within, long)) (omega (arith, long)) (omega (arith, long, sound.few)) changes in
        let next : generation_in (set gs k (h + 1)) k ≡ g + 1 = get_or-set_same gs k (h + 1) 0 at.within ∙ ap (λ m. m + 1) same in
        let others : (j : ℕ) → j ≢ k → generation_in (set gs k (h + 1)) j ≡ generation_in gs j = λ j apart. get_or-set_other gs k j (h + 1) 0 apart in
        let change = value-changed old new gs (set gs k (h + 1)) k g at.small changes.others others refl None
        (λ a. ap (λ o. value_in o (generation_in (set gs k (h + 1)) k) a) changes.changed ∙ taken-value (old k) (other-generation (old k)) g a) in
        let given = issued-same old new gs (set gs k (h + 1)) k g at.small changes.others others refl
        (λ a. ap (λ o. given_in o (generation_in (set gs k (h + 1)) k) a) changes.changed ∙ ap (λ m. nat_lt a m) next ∙ given-back g a ∙ sym (ap (λ o. given_in o g a) at.there)) in
        subst (λ (t : HeldPlaces T). Results t (places_of new (set gs k (h + 1)) q) (without_held n (held t))) view (record {
          holds = held-less old new gs (set gs k (h + 1)) r q sound after n (λ m. change m ∙ ap (λ j. cond (j == m) None (value_at old gs m)) at.is);
          issued = issued-none old new gs (set gs k (h + 1)) r q sound after n given;
          once = numbers-once new 0 (set gs k (h + 1)) (omega (arith, after.few));
        })

  -- A SLOT IS TAKEN
  pub record Makes (s t : HeldPlaces T) (id : ℕ) (v : T) : Type 0 where
    pub fresh : has_number id (0 ∷ s.issued) ≡ false
    pub holds : held t ≡ with_held id v (held s)
    pub issued : t.issued ≡ with_number id s.issued
    pub once : EachStandsOnce t

  pub makes : (old new : ℕ → Option T) (olds news : List ℕ) (r q k g : ℕ) (v : T) → HaveGenerations old olds → Widened olds news k → old k ≡ None
      → Changes old new k (Some v) → g ≡ generation_in news k → (s : HeldPlaces T) → places_of old olds r ≡ s
      → Makes s (places_of new news q) (number_of_slot g k) v
  makes old new olds news r q k g v sound wide vacant changes is s view =
      let small : k < 281474976710656 = omega (arith, wide.there, wide.few) in
      let after = sound-changed old new olds news k (Some v) sound wide.there wide.longer wide.few changes in
      let here : generation_in olds k ≡ g = sym (wide.kept k) ∙ sym is in
      let change = value-changed old new olds news k g small changes.others (λ j apart. wide.kept j) here (Some v)
      (λ a. ap (λ o. value_in o (generation_in news k) a) changes.changed ∙ ap (λ m. value_in (Some v) m a) (sym is)
      ∙ put-value (old k) v (other-generation (old k)) g a) in
      let given = issued-more old new olds news k g small changes.others (λ j apart. wide.kept j) here
      (λ a. ap (λ o. given_in o (generation_in news k) a) changes.changed ∙ ap (λ m. not (nat_lt m a)) (sym is) ∙ given-taken g a
      ∙ ap (λ o. (g == a) || given_in o g a) (sym vacant)) in
      let unissued : is_issued old olds (number_of_slot g k) ≡ false =
      ap (is_issued old olds) (next (g * 281474976710656 + k))
      ∙ ap (λ j. given_in (old j) (generation_in olds j) ((g * 281474976710656 + k) / 281474976710656)) (slot-of g k small)
      ∙ ap (λ o. given_in o (generation_in olds k) ((g * 281474976710656 + k) / 281474976710656)) vacant
      ∙ ap (λ m. nat_lt ((g * 281474976710656 + k) / 281474976710656) m) here
      ∙ ap (λ m. nat_lt m g) (generation-of g k small) ∙ itself g in
      subst (λ (t : HeldPlaces T). Makes t (places_of new news q) (number_of_slot g k) v) view (record {
        fresh = ap (λ b. b || has_number (number_of_slot g k) (places_of old olds r).issued) (none g k) ∙ issued-at old olds r sound (number_of_slot g k) ∙ unissued;
        holds = held-more old new olds news r q sound after (number_of_slot g k) v change;
        issued = issued-one old new olds news r q sound after (number_of_slot g k) given;
        once = numbers-once new 0 news (omega (arith, wide.few));
      })
    where
      next : (n : ℕ) → n + 1 ≡ suc n
      next n = omega arith

      itself : (g : ℕ) → nat_lt g g ≡ false
      itself g = grind (arith, nat_tests)

      none : (g k : ℕ) → (0 == number_of_slot g k) ≡ false
      none g k = (tests-apart 0 (number_of_slot g k)).1 (λ same. omega (arith, same))
