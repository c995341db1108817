-- The works by their ids.
use Rattle.std.proofs.Common.{◌≡◌, ◌∙◌, ℕ, ◌+◌, ◌==◌, ◌||◌, ◌∷◌, Bool, true, false, not, cond, List, length, map, filter, get_or, find, Option, Some, None, IsSome, option_map, refl, ap, sym, Bor}
use Rattle.std.specs.Option.{option_copied}
use Rattle.std.proofs.lemmas.List.Elements.{All-map}
use Rattle.std.proofs.lemmas.Bool.{or_parts}
use Rattle.generation_slab.specs.HeldPlaces.{HeldValue, HeldPlaces, held, standing, value_of, with_held, without_held, with_value, with_held_value}
use Rattle.napi_types.specs.declared.call.JobSpec.{JobSpec}
use Rattle.napi_types.specs.plain.Lists.{found, has_number, with_record, with_number}
use Rattle.napi_types.specs.parts.Works.{Work, is_this_number, has_work_number}
use Rattle.napi_types.proofs.plain.Found.{IsRising, same-self, same-tells, turned, found-number, found-filter, found-changed, found-with_record, rising-as_map, has-with_number}
use Rattle.async_work.specs.declared.place.WorkPlace.{WorkPlace}
use Rattle.async_work.specs.declared.place.Standing.{Standing}
use Rattle.async_work.specs.declared.place.Standing.TheVariants as standing
use Rattle.async_work.specs.WorkPlaces.{Placed, standing_number, place_seen, held_seen, places_seen, place_at, with_place_number, with_number_at, work_of, work_held, works_of}
use Rattle.async_work.specs.KeptPool.{HaveIssuedIds}
use Rattle.async_work.proofs.CountingWorks.{find-only}
use Rattle.async_work.proofs.Mapped.{map-more, map-less, map-changed, map-found, map-rises, found-each, changed-alike, length-more}

pub seen_of : {X Y : Type 0} (f : X → Y) (o : Option (Bor X)) → option_map (λ p. f p.now) o ≡ option_map f (option_copied o)
seen_of f None = refl
seen_of f (Some p) = refl

chosen : {A B : Type 0} (f : A → B) (b : Bool) (x y : A) → f (cond b x y) ≡ cond b (f x) (f y)
chosen f true x y = refl
chosen f false x y = refl

-- what is held under an id is there
pub held-at : (places : List (HeldValue Placed)) (id : ℕ) (p : Placed) → place_at places id ≡ Some p
    → found (λ h. h.number) id places ≡ Some (record { number = id; value = p })
held-at places id p is = by (found (λ h. h.number) id places) refl is
  where
    by : (o : Option (HeldValue Placed)) → found (λ h. h.number) id places ≡ o → option_map (λ (h : HeldValue Placed). h.value) o ≡ Some p
        → o ≡ Some (record { number = id; value = p })
    by None at told = let no : ⊥ = cc in absurd no
    by (Some h) at told =
        let its : h.number ≡ id = found-number (λ (h : HeldValue Placed). h.number) id places h at in
        let it : h.value ≡ p = cc in
        ap (λ n. Some (record { number = n; value = h.value })) its ∙ ap (λ v. Some (record { number = id; value = v })) it

pub none-held : (places : List (HeldValue Placed)) (id : ℕ) → place_at places id ≡ None → found (λ h. h.number) id places ≡ None
none-held places id is = by (found (λ h. h.number) id places) is
  where
    by : (o : Option (HeldValue Placed)) → option_map (λ (h : HeldValue Placed). h.value) o ≡ None → o ≡ None
    by None told = refl
    by (Some h) told = let no : ⊥ = cc in absurd no

-- AS THE SLAB HOLDS THEM
module _ {J : Type 0} (spec : J → JobSpec) where
  pub places-rise : (s : HeldPlaces (WorkPlace J)) → IsRising (λ h. h.number) (places_seen spec s)
  places-rise s =
      map-rises (λ (h : HeldValue (WorkPlace J)). h.number) (λ (h : HeldValue Placed). h.number) (held_seen spec) (λ h. refl) (held s)
      (rising-as_map (λ (h : HeldValue (WorkPlace J)). h.number) (standing s.places))

  pub place_at-seen : (s : HeldPlaces (WorkPlace J)) (id : ℕ) → place_at (places_seen spec s) id ≡ option_map (place_seen spec) (value_of s id)
  place_at-seen s id =
      ap (option_map (λ (h : HeldValue Placed). h.value))
      (map-found (λ (h : HeldValue (WorkPlace J)). h.number) (λ (h : HeldValue Placed). h.number) (held_seen spec) (λ h. refl) id (held s))
      ∙ by (found (λ h. h.number) id (held s))
    where
      by : (o : Option (HeldValue (WorkPlace J))) → option_map (λ (h : HeldValue Placed). h.value) (option_map (held_seen spec) o)
          ≡ option_map (place_seen spec) (option_map (λ (h : HeldValue (WorkPlace J)). h.value) o)
      by None = refl
      by (Some h) = refl

  pub seen-made : (old new : HeldPlaces (WorkPlace J)) (id : ℕ) (v : WorkPlace J) → held new ≡ with_held id v (held old)
      → places_seen spec new ≡ with_held id (place_seen spec v) (places_seen spec old)
  seen-made old new id v is =
      ap (map (held_seen spec)) is
      ∙ map-more (λ (h : HeldValue (WorkPlace J)). h.number) (λ (h : HeldValue Placed). h.number) (held_seen spec) (λ h. refl) (record { number = id; value = v }) (held old)

  pub seen-freed : (old new : HeldPlaces (WorkPlace J)) (id : ℕ) → held new ≡ without_held id (held old)
      → places_seen spec new ≡ without_held id (places_seen spec old)
  seen-freed old new id is =
      ap (map (held_seen spec)) is
      ∙ map-less (λ (h : HeldValue (WorkPlace J)). h.number) (λ (h : HeldValue Placed). h.number) (held_seen spec) (λ h. refl) id (held old)

  pub seen-numbered : (old new : HeldPlaces (WorkPlace J)) (id n : ℕ) (v w : WorkPlace J) → value_of old id ≡ Some w
      → held new ≡ with_held_value id v (held old) → place_seen spec v ≡ with_place_number n (place_seen spec w)
      → places_seen spec new ≡ with_number_at id n (places_seen spec old)
  seen-numbered old new id n v w there is same =
      ap (map (held_seen spec)) is
      ∙ map-changed (λ (h : HeldValue (WorkPlace J)). h.number) (λ (h : HeldValue Placed). h.number) (held_seen spec) (λ h. refl) id (with_value v)
      (with_value (place_seen spec v)) (λ h. refl) (held old)
      ∙ changed-alike (λ (h : HeldValue Placed). h.number) id (with_value (place_seen spec v)) (λ h. with_value (with_place_number n h.value) h) (λ h. refl) (λ h. refl)
      (places_seen spec old) (places-rise old) (record { number = id; value = place_seen spec w })
      (held-at (places_seen spec old) id (place_seen spec w) (place_at-seen old id ∙ ap (option_map (place_seen spec)) there))
      (ap (λ p. record { number = id; value = p }) same)

  -- the place that is read is that of the id
  pub place-read : (s : HeldPlaces (WorkPlace J)) (id : ℕ) (o : Option (Bor (WorkPlace J))) (x : Bor (WorkPlace J)) → option_copied o ≡ value_of s id → o ≡ Some x
      → value_of s id ≡ Some x.now
  place-read s id o x told is = sym told ∙ ap option_copied is

  pub none-read : (s : HeldPlaces (WorkPlace J)) (id : ℕ) (o : Option (Bor (WorkPlace J))) → option_copied o ≡ value_of s id → o ≡ None
      → place_at (places_seen spec s) id ≡ None
  none-read s id o told is = place_at-seen s id ∙ ap (option_map (place_seen spec)) (sym told ∙ ap option_copied is)

  pub held-there : (s : HeldPlaces (WorkPlace J)) (id : ℕ) (p : Placed) → place_at (places_seen spec s) id ≡ Some p → IsSome (value_of s id)
  held-there s id p is = by (value_of s id) (sym (place_at-seen s id) ∙ is)
    where
      by : (o : Option (WorkPlace J)) → option_map (place_seen spec) o ≡ Some p → IsSome o
      by None told = let no : ⊥ = cc in absurd no
      by (Some w) told = refl

  pub unnumbered : (s : Standing J) → ((n : ℕ) → s ≡ standing.Numbered n → ⊥) → standing_number spec s ≡ None
  unnumbered (standing.Created job slip) never = refl
  unnumbered (standing.Numbered n) never = absurd (never n refl)

-- the places are the same but for that of one id
pub record ReplacedPlace (places others : List (HeldValue Placed)) (id : ℕ) (place : Option Placed) : Type 0 where
  pub at : (m : ℕ) → place_at others m ≡ cond (id == m) place (place_at places m)

pub replaced-made : (places : List (HeldValue Placed)) (id : ℕ) (p : Placed) → ReplacedPlace places (with_held id p places) id (Some p)
replaced-made places id p = record {
  at = λ m. ap (option_map (λ (h : HeldValue Placed). h.value)) (found-with_record (λ (h : HeldValue Placed). h.number) m (record { number = id; value = p }) places)
      ∙ chosen (option_map (λ (h : HeldValue Placed). h.value)) (id == m) (Some (record { number = id; value = p })) (found (λ h. h.number) m places);
}

pub replaced-freed : (places : List (HeldValue Placed)) (id : ℕ) → ReplacedPlace places (without_held id places) id None
replaced-freed places id = record {
  at = λ m. ap (option_map (λ (h : HeldValue Placed). h.value)) (found-filter (λ (h : HeldValue Placed). h.number) (λ k. not (k == id)) m places)
      ∙ ap (λ b. option_map (λ (h : HeldValue Placed). h.value) (cond (not b) (found (λ h. h.number) m places) None)) (turned m id) ∙ by m (id == m);
}
  where
    by : (m : ℕ) (b : Bool) → option_map (λ (h : HeldValue Placed). h.value) (cond (not b) (found (λ h. h.number) m places) None) ≡ cond b None (place_at places m)
    by m true = refl
    by m false = refl

numbering-keeps : (id n : ℕ) (h : HeldValue Placed) → let g : HeldValue Placed = cond (h.number == id) (with_value (with_place_number n h.value) h) h in g.number ≡ h.number
numbering-keeps id n h = by (h.number == id)
  where
    by : (b : Bool) → let g : HeldValue Placed = cond b (with_value (with_place_number n h.value) h) h in g.number ≡ h.number
    by true = refl
    by false = refl

pub replaced-numbered : (places : List (HeldValue Placed)) (id n : ℕ) (p : Placed) → place_at places id ≡ Some p
    → ReplacedPlace places (with_number_at id n places) id (Some (with_place_number n p))
replaced-numbered places id n p is = record {
  at = λ m. ap (option_map (λ (h : HeldValue Placed). h.value))
      (found-changed (λ (h : HeldValue Placed). h.number) (λ h. cond (h.number == id) (with_value (with_place_number n h.value) h) h) (numbering-keeps id n) m places)
      ∙ by m (found (λ h. h.number) m places) refl;
}
  where
    by : (m : ℕ) (o : Option (HeldValue Placed)) → found (λ h. h.number) m places ≡ o
        → option_map (λ (h : HeldValue Placed). h.value) (option_map (λ (h : HeldValue Placed). cond (h.number == id) (with_value (with_place_number n h.value) h) h) o)
        ≡ cond (id == m) (Some (with_place_number n p)) (option_map (λ (h : HeldValue Placed). h.value) o)
    by m None at = none (id == m) refl
      where
        none : (b : Bool) → (id == m) ≡ b → None ≡ cond b (Some (with_place_number n p)) None
        none true same =
            let it : None ≡ Some p = ap (option_map (λ (h : HeldValue Placed). h.value)) (sym at) ∙ ap (place_at places) (sym (same-tells id m same)) ∙ is in
            let no : ⊥ = cc in absurd no
        none false same = refl
    by m (Some h) at =
        ap (λ k. option_map (λ (g : HeldValue Placed). g.value) (Some (cond (k == id) (with_value (with_place_number n h.value) h) h)))
        (found-number (λ (g : HeldValue Placed). g.number) m places h at)
        ∙ ap (λ b. option_map (λ (g : HeldValue Placed). g.value) (Some (cond b (with_value (with_place_number n h.value) h) h))) (turned m id) ∙ some (id == m) refl
      where
        some : (b : Bool) → (id == m) ≡ b
            → option_map (λ (g : HeldValue Placed). g.value) (Some (cond b (with_value (with_place_number n h.value) h) h)) ≡ cond b (Some (with_place_number n p)) (Some h.value)
        some true same =
            let it : Some h.value ≡ Some p = ap (option_map (λ (g : HeldValue Placed). g.value)) (sym at) ∙ ap (place_at places) (sym (same-tells id m same)) ∙ is in
            let one : h.value ≡ p = cc in
            ap (λ q. Some (with_place_number n q)) one
        some false same = refl

-- WORKS
pub found-works : (places : List (HeldValue Placed)) (id : ℕ) → found (λ (w : Work). w.id) id (works_of places) ≡ option_map (work_of id) (place_at places id)
found-works places id =
    map-found (λ (h : HeldValue Placed). h.number) (λ (w : Work). w.id) work_held (λ h. refl) id places ∙ by (found (λ h. h.number) id places) refl
  where
    by : (o : Option (HeldValue Placed)) → found (λ h. h.number) id places ≡ o
        → option_map work_held o ≡ option_map (work_of id) (option_map (λ (h : HeldValue Placed). h.value) o)
    by None at = refl
    by (Some h) at = ap (λ n. Some (work_of n h.value)) (found-number (λ (g : HeldValue Placed). g.number) id places h at)

-- one is created
pub works-made : (places : List (HeldValue Placed)) (id : ℕ) (p : Placed) → works_of (with_held id p places) ≡ with_record (λ (w : Work). w.id) (work_of id p) (works_of places)
works-made places id p = map-more (λ (h : HeldValue Placed). h.number) (λ (w : Work). w.id) work_held (λ h. refl) (record { number = id; value = p }) places

-- one is deleted
pub works-deleted : (places : List (HeldValue Placed)) (id : ℕ) → works_of (without_held id places) ≡ filter (λ w. not (w.id == id)) (works_of places)
works-deleted places id = map-less (λ (h : HeldValue Placed). h.number) (λ (w : Work). w.id) work_held (λ h. refl) id places

-- one is queued
pub works-queued : (places : List (HeldValue Placed)) (id n : ℕ)
    → works_of (with_number_at id n places) ≡ map (λ (w : Work). cond (w.id == id) (record w { number = Some n }) w) (works_of places)
works-queued places id n =
    map-changed (λ (h : HeldValue Placed). h.number) (λ (w : Work). w.id) work_held (λ h. refl) id (λ h. with_value (with_place_number n h.value) h)
    (λ (w : Work). record w { number = Some n }) (λ h. refl) places

-- the work of a number, which no other work has
pub numbered-work : (places : List (HeldValue Placed)) (id n : ℕ) (p : Placed) → IsRising (λ h. h.number) places → place_at places id ≡ Some p → p.number ≡ Some n
    → ((m : ℕ) (q : Placed) → place_at places m ≡ Some q → q.number ≡ Some n → m ≡ id) → find (has_work_number n) (works_of places) ≡ Some (work_of id p)
numbered-work places id n p rises is number only =
    find-only (λ (w : Work). w.id) (has_work_number n) id (works_of places) (work_of id p) (found-works places id
    ∙ ap (option_map (work_of id)) is) (rw number (same-self n))
    (All-map (λ w. has_work_number n w ≡ true → w.id ≡ id) work_held places
    (λ k d inside. alone (get_or places k d) (found-each (λ (h : HeldValue Placed). h.number) places rises k d inside)))
  where
    number-is : (o : Option ℕ) → is_this_number n o ≡ true → o ≡ Some n
    number-is None told = let no : ⊥ = cc in absurd no
    number-is (Some m) told = ap (λ k. Some k) (same-tells m n told)

    alone : (h : HeldValue Placed) → found (λ g. g.number) h.number places ≡ Some h → has_work_number n (work_held h) ≡ true → h.number ≡ id
    alone h at passes = only h.number h.value (ap (option_map (λ (g : HeldValue Placed). g.value)) at) (number-is h.value.number passes)

-- ISSUED IDS
-- one that is new is no work's
pub new-absent : (places : List (HeldValue Placed)) (issued : List ℕ) (id : ℕ) → HaveIssuedIds places issued → has_number id (0 ∷ issued) ≡ false → place_at places id ≡ None
new-absent places issued id known new = by (place_at places id) refl
  where
    never : (a : Bool) → (a || true) ≡ false → ⊥
    never true is = cc
    never false is = cc

    by : (o : Option Placed) → place_at places id ≡ o → o ≡ None
    by None at = refl
    by (Some p) at = absurd (never (0 == id) (ap (λ b. (0 == id) || b) (sym (known id p at)) ∙ new))

pub issued-made : (places others : List (HeldValue Placed)) (issued : List ℕ) (id : ℕ) (p : Placed) → ReplacedPlace places others id (Some p) → HaveIssuedIds places issued
    → HaveIssuedIds others (with_number id issued)
issued-made places others issued id p change known m q is = has-with_number m id issued ∙ by (id == m) (sym (change.at m) ∙ is)
  where
    by : (b : Bool) → cond b (Some p) (place_at places m) ≡ Some q → (b || has_number m issued) ≡ true
    by true told = refl
    by false told = known m q told

pub issued-freed : (places others : List (HeldValue Placed)) (issued : List ℕ) (id : ℕ) → ReplacedPlace places others id None → HaveIssuedIds places issued → HaveIssuedIds others issued
issued-freed places others issued id change known m q is = by (id == m) (sym (change.at m) ∙ is)
  where
    by : (b : Bool) → cond b None (place_at places m) ≡ Some q → has_number m issued ≡ true
    by true told = let no : ⊥ = cc in absurd no
    by false told = known m q told

pub issued-kept : (places others : List (HeldValue Placed)) (issued : List ℕ) (id : ℕ) (p place : Placed) → place_at places id ≡ Some p
    → ReplacedPlace places others id (Some place) → HaveIssuedIds places issued → HaveIssuedIds others issued
issued-kept places others issued id p place there change known m q is = by (id == m) refl (sym (change.at m) ∙ is)
  where
    by : (b : Bool) → (id == m) ≡ b → cond b (Some place) (place_at places m) ≡ Some q → has_number m issued ≡ true
    by true same told = ap (λ k. has_number k issued) (sym (same-tells id m same)) ∙ known id p there
    by false same told = known m q told

pub length-issued : (issued : List ℕ) (id : ℕ) → has_number id (0 ∷ issued) ≡ false → length (with_number id issued) ≡ length issued + 1
length-issued issued id new = length-more (λ m. m) id issued (or_parts (0 == id) (has_number id issued) new).1
