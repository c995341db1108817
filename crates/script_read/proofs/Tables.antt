-- What the table of texts knows of a text that it gets.
use Rattle.std.proofs.Common.{◌≡◌, ◌+◌, ◌<◌, ◌^◌, ℕ, zero, suc, List, [], ◌∷◌, ◌++◌, length, take, refl, sym, ap, subst, ◌∙◌, cond, true, false, Bool, Option, Some, None, bytes_eq, slice_get, arith, is_some, ◌⊎◌, inl, inr, Result, Ok, Err, OnOk, OnErr, length-append}
use Rattle.std.proofs.lemmas.Slice.Eq.{bytes_eq-Decides}
use Rattle.std.proofs.lemmas.Grind.{common_steps}
use Rattle.std.specs.List.{position_from}
use Rattle.std.specs.Map.{update}
use Rattle.napi_types.specs.plain.Texts.{IsTextTable, place_of, fixed_texts}
use Rattle.script_read.specs.Table.{IsTable}

-- a text that has no place stands nowhere
stands-nowhere : (text : List ℕ) (texts : List (List ℕ)) (n i : ℕ) → position_from (λ known. bytes_eq text known) n texts ≡ None → slice_get texts i ≡ Some text → ⊥
stands-nowhere text [] n i none here = cc
stands-nowhere text (known ∷ texts) n zero none here = grind (arith, common_steps, bytes_eq-Decides text known)
stands-nowhere text (known ∷ texts) n (suc i) none here =
    let P : Bool → Type 0 = λ b. cond b (Some n) (position_from (λ k. bytes_eq text k) (n + 1) texts) ≡ None → position_from (λ k. bytes_eq text k) (n + 1) texts ≡ None in
    let rest : P (bytes_eq text known) = elim (bytes_eq text known) as P [ true ↦ λ h. cc | false ↦ λ h. h ] in
    stands-nowhere text texts (n + 1) i (rest none) here

-- a text that comes last, looked for alone
last-alone : (text other : List ℕ) (n : ℕ) → cond (bytes_eq other text) (Some n) None ≡ cond (bytes_eq text other) (Some (n + 0)) None
last-alone text other n = grind (arith, common_steps, bytes_eq-Decides text other, bytes_eq-Decides other text)

-- one text more in front of a table that got one more
place-step : (text other known : List ℕ) (n count : ℕ) (old new without : Option ℕ) → cond (bytes_eq text known) (Some n) without ≡ None
    → (without ≡ None → new ≡ cond (bytes_eq text other) (Some (n + 1 + count)) old)
    → cond (bytes_eq other known) (Some n) new ≡ cond (bytes_eq text other) (Some (n + suc count)) (cond (bytes_eq other known) (Some n) old)
place-step text other known n count old new without none more =
    grind (arith, common_steps, bytes_eq-Decides text known, bytes_eq-Decides text other, bytes_eq-Decides other known)

-- the place of a text in a table that got one more
pub place-pushed : (text other : List ℕ) (texts : List (List ℕ)) (n : ℕ) → position_from (λ known. bytes_eq text known) n texts ≡ None
    → position_from (λ known. bytes_eq other known) n (texts ++ text ∷ []) ≡ cond (bytes_eq text other) (Some (n + length texts)) (position_from (λ known. bytes_eq other known) n texts)
place-pushed text other [] n none = last-alone text other n
place-pushed text other (known ∷ texts) n none =
    place-step text other known n (length texts) (position_from (bytes_eq other) (n + 1) texts) (position_from (bytes_eq other) (n + 1) (texts ++ text ∷ []))
    (position_from (bytes_eq text) (n + 1) texts) none (λ rest. place-pushed text other texts (n + 1) rest)

-- the map after a text was put at the table's end finds every place
found-pushed : (texts : List (List ℕ)) (text other : List ℕ) (number : List ℕ → Option ℕ) (count : ℕ) → place_of texts text ≡ None → count ≡ 0 + length texts
    → number other ≡ place_of texts other → cond (bytes_eq text other) (Some count) (number other) ≡ place_of (texts ++ text ∷ []) other
found-pushed texts text other number count none same found = rw (same, found) (sym (place-pushed text other texts 0 none))

-- the same, as the steps that put the text tell it
pub put-found : (texts reserved new : List (List ℕ)) (text name copied other : List ℕ) (count : ℕ) (number : List ℕ → Option ℕ) (now : Option ℕ)
    → place_of texts text ≡ None → ((o : List ℕ) → number o ≡ place_of texts o) → count ≡ length texts → name ≡ text → copied ≡ text → reserved ≡ texts
    → new ≡ reserved ++ copied ∷ [] → now ≡ update bytes_eq number name (Some count) other → now ≡ place_of new other
put-found texts reserved new text name copied other count number now none found same named copy room grown refusal_of =
    let grown_by : new ≡ texts ++ text ∷ [] = grown ∙ rw (room, copy) refl in
    let count_is : count ≡ 0 + length texts = omega (arith, same) in
    let P : List (List ℕ) → Type 0 = λ x. now ≡ place_of x other in
    let N : List ℕ → Type 0 = λ x. now ≡ update bytes_eq number x (Some count) other in
    subst P (sym grown_by) (subst N named refusal_of ∙ found-pushed texts text other number count none count_is (found other))

-- what stands in a table that got one more
pushed-get : (texts : List (List ℕ)) (text other : List ℕ) (i : ℕ) → slice_get (texts ++ text ∷ []) i ≡ Some other
    → (slice_get texts i ≡ Some other) ⊎ ((i ≡ length texts) × (text ≡ other))
pushed-get [] text other zero h = inr (refl, cc)
pushed-get [] text other (suc i) h = cc
pushed-get (known ∷ texts) text other zero h = inl h
pushed-get (known ∷ texts) text other (suc i) h = elim (pushed-get texts text other i h) [ inl g ↦ inl g | inr g ↦ inr (ap suc g.0, g.1) ]

-- a table of texts that got a further one
table-fixed : (texts : List (List ℕ)) (text : List ℕ) → take 3 texts ≡ fixed_texts → take 3 (texts ++ text ∷ []) ≡ fixed_texts
table-fixed [] text h = absurd (cc)
table-fixed (a ∷ []) text h = absurd (cc)
table-fixed (a ∷ b ∷ []) text h = absurd (cc)
table-fixed (a ∷ b ∷ c ∷ rest) text h = h

table-distinct : (texts : List (List ℕ)) (text : List ℕ) → IsTextTable texts → place_of texts text ≡ None → (i j : ℕ) (other : List ℕ)
    → ((slice_get texts i ≡ Some other) ⊎ ((i ≡ length texts) × (text ≡ other))) → ((slice_get texts j ≡ Some other) ⊎ ((j ≡ length texts) × (text ≡ other))) → i ≡ j
table-distinct texts text t none i j other (inl g) (inl h) = t.distinct i j other g h
table-distinct texts text t none i j other (inl g) (inr h) = absurd (stands-nowhere text texts 0 i none (g ∙ ap Some (sym h.1)))
table-distinct texts text t none i j other (inr g) (inl h) = absurd (stands-nowhere text texts 0 j none (h ∙ ap Some (sym g.1)))
table-distinct texts text t none i j other (inr g) (inr h) = g.0 ∙ sym h.0

table-pushed : (texts : List (List ℕ)) (text : List ℕ) → IsTextTable texts → place_of texts text ≡ None → IsTextTable (texts ++ text ∷ [])
table-pushed texts text t none = record {
  fixed = table-fixed texts text t.fixed;
  distinct = λ i j other g h. table-distinct texts text t none i j other (pushed-get texts text other i g) (pushed-get texts text other j h);
}

-- the table after a try to put a text at its end
pub kept : {E : Type 0} (r : Result (Unit {0}) E) (texts new : List (List ℕ)) (text : List ℕ) (number now : List ℕ → Option ℕ)
    → IsTable texts number → place_of texts text ≡ None → length texts + 1 < 2 ^ 32
    → OnOk r (new ≡ texts ++ text ∷ []) → OnOk r ((other : List ℕ) → now other ≡ place_of new other)
    → OnErr r (new ≡ texts) → OnErr r ((other : List ℕ) → now other ≡ number other) → IsTable new now
kept (Ok u) texts new text number now t none few e found stay same =
    let T : List (List ℕ) → Type 0 = λ x. IsTextTable x in
    let L : List (List ℕ) → Type 0 = λ x. length x < 2 ^ 32 in
    let longer : L (texts ++ text ∷ []) = simp length-append (few) in
    record { is_table = subst T (sym e) (table-pushed texts text t.is_table none); numbers = found; few = subst L (sym e) longer }
kept (Err u) texts new text number now t none few e found stay same =
    let T : List (List ℕ) → Type 0 = λ x. IsTextTable x in
    let L : List (List ℕ) → Type 0 = λ x. length x < 2 ^ 32 in
    record { is_table = subst T (sym stay) t.is_table; numbers = λ other. same other ∙ (t.numbers other ∙ ap (λ x. place_of x other) (sym stay)); few = subst L (sym stay) t.few }

-- a text that the map does not find has no place
pub not-found : (found : Option ℕ) (place : Option ℕ) → found ≡ place → false ≡ is_some found → place ≡ None
not-found None place e h = sym e
not-found (Some n) place e h = absurd (cc)
