-- What the slots hold as they and their generations change.
use Rattle.std.proofs.Common.{◌≡◌, ◌∙◌, ℕ, ◌<◌, ◌≤◌, Bool, true, false, nat_lt, cond, List, length, set, Option, Some, None, slice_index_or, refl, ap, sym, arith}
use Rattle.std.proofs.lemmas.Bool.Decides.{nat_tests}
use Rattle.std.proofs.lemmas.List.{get_or-set_same, get_or-set_other}
use Rattle.slab.specs.Slab.{Slab, get, Updates}
use Rattle.generation_slab.specs.SlotNumbers.{generation_in, live_in, live_at, HaveGenerations, IsInOrder}
use Rattle.generation_slab.proofs.Changing.{Changes}

above-last : (last g : ℕ) → last < g → nat_lt last g ≡ true
above-last last g less = grind (arith, nat_tests)

up-to-last : (last g : ℕ) → g ≤ last → nat_lt last g ≡ false
up-to-last last g short = grind (arith, nat_tests)

short-of : (last g : ℕ) → nat_lt last g ≡ false → g ≤ last
short-of last g is = grind (arith, nat_tests)

module _ {T : Type 0} where
  nothing : (b : Bool) (o : Option T) → o ≡ None → cond b None o ≡ None
  nothing true o is = refl
  nothing false o is = is

  -- what is held in a slot is there, and its generation is none above the last
  pub live-there : (slots : Slab T) (gs : List ℕ) (last k : ℕ) (v : T) → live_at slots gs last k ≡ Some v → (get slots k ≡ Some v) × (generation_in gs k ≤ last)
  live-there slots gs last k v is = by (nat_lt last (generation_in gs k)) refl is
    where
      by : (b : Bool) → nat_lt last (generation_in gs k) ≡ b → cond b None (get slots k) ≡ Some v → (get slots k ≡ Some v) × (generation_in gs k ≤ last)
      by true over here = let no : ⊥ = cc in absurd no
      by false over here = (here, short-of last (generation_in gs k) over)

  pub held-short : (last g : ℕ) (o : Option T) (v : T) → Some v ≡ live_in last g o → g ≤ last
  held-short last g o v is = by (nat_lt last g) refl is
    where
      by : (b : Bool) → nat_lt last g ≡ b → Some v ≡ cond b None o → g ≤ last
      by true over here = let no : ⊥ = cc in absurd no
      by false over here = short-of last g over

  pub live-vacant : (slots : Slab T) (gs : List ℕ) (last k : ℕ) → get slots k ≡ None → live_at slots gs last k ≡ None
  live-vacant slots gs last k is = nothing (nat_lt last (generation_in gs k)) (get slots k) is

  live-up-to : (slots : Slab T) (gs : List ℕ) (last k : ℕ) → generation_in gs k ≤ last → live_at slots gs last k ≡ get slots k
  live-up-to slots gs last k short = ap (λ b. cond b None (get slots k)) (up-to-last last (generation_in gs k) short)

  pub have-generations : (slots : Slab T) (gs : List ℕ) (last c w r : ℕ) → IsInOrder slots gs last c w r → HaveGenerations (live_at slots gs last) gs
  have-generations slots gs last c w r order = record { few = order.few; empty = λ k past. live-vacant slots gs last k (order.empty k past) }

  -- a value is written where one was
  pub written : (old new : Slab T) (gs : List ℕ) (last k : ℕ) (v : T) → generation_in gs k ≤ last → Updates old new k (Some v) → Changes (live_at old gs last) (live_at new gs last) k (Some v)
  written old new gs last k v short updates = record {
    changed = live-up-to new gs last k short ∙ updates.changed;
    others = λ j apart. ap (live_in last (generation_in gs j)) (updates.others j apart);
  }

  -- a slot is taken
  pub taken : (old new : Slab T) (olds news : List ℕ) (last k : ℕ) (v : T) → ((j : ℕ) → slice_index_or news j 0 ≡ slice_index_or olds j 0) → generation_in olds k ≤ last
      → Updates old new k (Some v) → Changes (live_at old olds last) (live_at new news last) k (Some v)
  taken old new olds news last k v kept short updates = record {
    changed = ap (λ g. live_in last g (get new k)) (kept k) ∙ live-up-to new olds last k short ∙ updates.changed;
    others = λ j apart. ap (λ g. live_in last g (get new j)) (kept j) ∙ ap (live_in last (generation_in olds j)) (updates.others j apart);
  }

  -- a slot is given back
  pub given-free : (old new : Slab T) (gs : List ℕ) (last k g : ℕ) → Updates old new k None → Changes (live_at old gs last) (live_at new (set gs k g) last) k None
  given-free old new gs last k g updates = record {
    changed = live-vacant new (set gs k g) last k updates.changed;
    others = λ j apart. ap (λ h. live_in last h (get new j)) (get_or-set_other gs k j g 0 apart) ∙ ap (live_in last (generation_in gs j)) (updates.others j apart);
  }

  -- a slot is retired
  pub retired-slot : (slots : Slab T) (gs : List ℕ) (last k g : ℕ) → k < length gs → last < g → Changes (live_at slots gs last) (live_at slots (set gs k g) last) k None
  retired-slot slots gs last k g within over = record {
    changed = ap (λ h. live_in last h (get slots k)) (get_or-set_same gs k g 0 within) ∙ ap (λ b. cond b None (get slots k)) (above-last last g over);
    others = λ j apart. ap (λ h. live_in last h (get slots j)) (get_or-set_other gs k j g 0 apart);
  }

  -- WHAT STAYS IN ORDER
  some-none : (o : Option T) (v : T) → o ≡ Some v → o ≡ None → ⊥
  some-none o v one two = let no : Some v ≡ None = sym one ∙ two in cc

  pub vacant-other : (old new : Slab T) (k j : ℕ) (v : T) → Updates old new k (Some v) → get new j ≡ None → get old j ≡ None
  vacant-other old new k j v updates is = sym (updates.others j (λ same. some-none (get new j) v (ap (get new) same ∙ updates.changed) is)) ∙ is
