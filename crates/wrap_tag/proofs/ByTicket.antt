-- What the rows of values stand for, by the numbers of tickets: the values that finalizers are attached to.
use Rattle.std.proofs.Common.{◌≡◌, ◌∙◌, ℕ, ◌==◌, nat_eq, ◌||◌, ◌&&◌, Bool, true, false, not, cond, List, [], ◌∷◌, map, filter, Option, Some, None, refl, ap, sym, subst}
use Rattle.std.specs.List.{IsDistinct, flat_map}
use Rattle.std.specs.Map.{keys_of}
use Rattle.std.specs.Option.{option_and_then, option_or, MatchOption}
use Rattle.std.proofs.lemmas.Map.Keys.{IsDistinct-tail}
use Rattle.napi_types.specs.plain.Lists.{found, has_number, with_record, as_map}
use Rattle.napi_types.specs.parts.Attachments.{Attached}
use Rattle.napi_types.proofs.plain.Found.{same-tells, same-self, found-append, found-with_record, found-kept, found-as_map, found-same, rising-with_record, rising-filter, rising-as_map, equal-tests}
use Rattle.wrap_tag.specs.declared.row.ValueRow.{ValueRow}
use Rattle.wrap_tag.specs.ValueRows.{tickets_of_chain, tickets_beside, attached_in, value_row, is_attached, AreRows}
use Rattle.wrap_tag.proofs.ByValue.{value_row-later}

abbrev pub attached_ticket : Attached → ℕ
attached_ticket t = t.ticket

abbrev pub attached : List (ℕ × ValueRow) → List Attached
attached rows = flat_map (λ e. attached_in e.0 e.1) rows

-- the finalizers of one value
found-here : (n v : ℕ) (ns : List ℕ) → found attached_ticket n (map (λ m. record { value = v; ticket = m }) ns) ≡ cond (has_number n ns) (Some (record { value = v; ticket = n })) None
found-here n v [] = refl
found-here n v (m ∷ ms) = by (m == n) (same-tells m n) (found-here n v ms)
  where
    by : (b : Bool) → (b ≡ true → m ≡ n) → found attached_ticket n (map (λ k. record { value = v; ticket = k }) ms) ≡ cond (has_number n ms) (Some (record { value = v; ticket = n })) None
        → cond b (Some (record { value = v; ticket = m })) (found attached_ticket n (map (λ k. record { value = v; ticket = k }) ms)) ≡ cond (b || has_number n ms) (Some (record { value = v; ticket = n })) None
    by true same rest = ap (λ k. Some (record { value = v; ticket = k })) (same refl)
    by false same rest = rest

-- whether one is attached tells what the first row and the rest tell
first-row : (n v : ℕ) (e : ℕ × ValueRow) (es : List (ℕ × ValueRow)) (b : Bool) → nat_eq v e.0 ≡ b → is_attached n v (e ∷ es) ≡ cond b (has_number n (tickets_of_chain e.1.tickets)) (is_attached n v es)
first-row n v e es true is = ap (λ b. has_number n (tickets_beside (cond b (Some e.1) (value_row v es)))) is
first-row n v e es false is = ap (λ b. has_number n (tickets_beside (cond b (Some e.1) (value_row v es)))) is

-- WHO A TICKET IS ATTACHED TO
-- the ticket is attached to this one, or to none
abbrev pub IsOwner : ℕ → List (ℕ × ValueRow) → Option Attached → Type 0
IsOwner n rows o = MatchOption o ((v : ℕ) → is_attached n v rows ≡ false) (λ t. (t.ticket ≡ n) × (is_attached n t.value rows ≡ true))

owner-attached : (n : ℕ) (rows : List (ℕ × ValueRow)) → IsDistinct nat_eq (keys_of rows) → IsOwner n rows (found attached_ticket n (attached rows))
owner-attached n [] distinct = λ v. refl
owner-attached n (e ∷ es) distinct =
    let P : Option Attached → Type 0 = IsOwner n (e ∷ es) in
    subst P (sym (found-append attached_ticket n (attached_in e.0 e.1) (attached es) ∙ ap (λ o. option_or o (found attached_ticket n (attached es))) (found-here n e.0 (tickets_of_chain e.1.tickets))))
    (by (has_number n (tickets_of_chain e.1.tickets)) refl (found attached_ticket n (attached es)) (owner-attached n es (IsDistinct-tail nat_eq e.0 (keys_of es) distinct)))
  where
    self : (m : ℕ) → nat_eq m m ≡ true
    self m = sym (equal-tests m m) ∙ same-self m

    by : (b : Bool) → has_number n (tickets_of_chain e.1.tickets) ≡ b → (o : Option Attached) → IsOwner n es o → IsOwner n (e ∷ es) (option_or (cond b (Some (record { value = e.0; ticket = n })) None) o)
    by true is o rest = (refl, first-row n e.0 e es true (self e.0) ∙ is)
    by false is None rest = λ v. case v (nat_eq v e.0) refl
      where
        case : (v : ℕ) (b : Bool) → nat_eq v e.0 ≡ b → is_attached n v (e ∷ es) ≡ false
        case v true here = first-row n v e es true here ∙ is
        case v false apart = first-row n v e es false apart ∙ rest v
    by false is (Some t) rest = (rest.0, case (nat_eq t.value e.0) refl)
      where
        case : (b : Bool) → nat_eq t.value e.0 ≡ b → is_attached n t.value (e ∷ es) ≡ true
        case true here =
            let none : is_attached n t.value es ≡ false = ap (λ o. has_number n (tickets_beside o)) (value_row-later t.value e es distinct here) in
            let no : ⊥ = let yes : is_attached n t.value es ≡ true = rest.1 in cc in
            absurd no
        case false apart = first-row n t.value e es false apart ∙ rest.1

-- there is one at most
pub owner-one : (n : ℕ) (rows : List (ℕ × ValueRow)) → ((v w : ℕ) → is_attached n v rows ≡ true → is_attached n w rows ≡ true → v ≡ w) → (o p : Option Attached) → IsOwner n rows o → IsOwner n rows p → o ≡ p
owner-one n rows apart None None left right = refl
owner-one n rows apart None (Some t) left right = let no : ⊥ = let none : is_attached n t.value rows ≡ false = left t.value in let yes : is_attached n t.value rows ≡ true = right.1 in cc in absurd no
owner-one n rows apart (Some t) None left right = let no : ⊥ = let none : is_attached n t.value rows ≡ false = right t.value in let yes : is_attached n t.value rows ≡ true = left.1 in cc in absurd no
owner-one n rows apart (Some t) (Some u) left right = one t u (apart t.value u.value left.1 right.1) (left.0 ∙ sym right.0)
  where
    one : (t u : Attached) → t.value ≡ u.value → t.ticket ≡ u.ticket → Some t ≡ Some u
    one t u value same = ap (λ v. Some (record { value = v; ticket = t.ticket })) value ∙ ap (λ n. Some (record { value = u.value; ticket = n })) same

pub owner-mapped : (n : ℕ) (rows : List (ℕ × ValueRow)) → IsDistinct nat_eq (keys_of rows) → IsOwner n rows (found attached_ticket n (as_map attached_ticket (attached rows)))
owner-mapped n rows distinct = let P : Option Attached → Type 0 = IsOwner n rows in subst P (sym (found-as_map attached_ticket n (attached rows))) (owner-attached n rows distinct)

-- a ticket that is found nowhere is attached to no value, and one that is attached to a value is found with it
pub absent-attached : (n v : ℕ) (rows : List (ℕ × ValueRow)) → IsDistinct nat_eq (keys_of rows) → found attached_ticket n (as_map attached_ticket (attached rows)) ≡ None → is_attached n v rows ≡ false
absent-attached n v rows distinct none = let P : Option Attached → Type 0 = IsOwner n rows in subst P none (owner-mapped n rows distinct) v

-- a value gets another row, or tickets are attached as a test says
module _ (old new : List (ℕ × ValueRow)) (are : AreRows old) (distinct : IsDistinct nat_eq (keys_of new))
    (apart : (n v w : ℕ) → is_attached n v new ≡ true → is_attached n w new ≡ true → v ≡ w) where
  found-by_owner : (n : ℕ) (o : Option Attached) → IsOwner n new o → found attached_ticket n (as_map attached_ticket (attached new)) ≡ o
  found-by_owner n o owns = owner-one n new (apart n) (found attached_ticket n (as_map attached_ticket (attached new))) o (owner-mapped n new distinct) owns

  -- the same ones
  pub attached-same : ((n v : ℕ) → is_attached n v new ≡ is_attached n v old) → as_map attached_ticket (attached new) ≡ as_map attached_ticket (attached old)
  attached-same same =
      found-same attached_ticket _ _ (rising-as_map attached_ticket (attached new)) (rising-as_map attached_ticket (attached old))
      (λ n. found-by_owner n (found attached_ticket n (as_map attached_ticket (attached old))) (by n (found attached_ticket n (as_map attached_ticket (attached old))) (owner-mapped n old are.values)))
    where
      by : (n : ℕ) (o : Option Attached) → IsOwner n old o → IsOwner n new o
      by n None none = λ v. same n v ∙ none v
      by n (Some t) owns = (owns.0, same n t.value ∙ owns.1)

  -- one more
  pub attached-with : (v t : ℕ) → ((n w : ℕ) → is_attached n w new ≡ (((v == w) && (t == n)) || is_attached n w old))
      → as_map attached_ticket (attached new) ≡ with_record attached_ticket (record { value = v; ticket = t }) (as_map attached_ticket (attached old))
  attached-with v t more =
      found-same attached_ticket _ _ (rising-as_map attached_ticket (attached new)) (rising-with_record attached_ticket (record { value = v; ticket = t }) (as_map attached_ticket (attached old)) (rising-as_map attached_ticket (attached old)))
      (λ n. found-by_owner n _ (by n (t == n) refl (found attached_ticket n (as_map attached_ticket (attached old))) (owner-mapped n old are.values))
      ∙ sym (found-with_record attached_ticket n (record { value = v; ticket = t }) (as_map attached_ticket (attached old))))
    where
      and_false : (a b : Bool) → ((a && false) || b) ≡ b
      and_false true b = refl
      and_false false b = refl

      other : (n w : ℕ) → (t == n) ≡ false → (((v == w) && (t == n)) || is_attached n w old) ≡ is_attached n w old
      other n w is = ap (λ b. ((v == w) && b) || is_attached n w old) is ∙ and_false (v == w) (is_attached n w old)

      by : (n : ℕ) (b : Bool) → (t == n) ≡ b → (o : Option Attached) → IsOwner n old o → IsOwner n new (cond b (Some (record { value = v; ticket = t })) o)
      by n true is o owns = (same-tells t n is, more n v ∙ ap (λ b. (b && (t == n)) || is_attached n v old) (same-self v) ∙ ap (λ b. b || is_attached n v old) is)
      by n false is None none = λ w. more n w ∙ other n w is ∙ none w
      by n false is (Some u) owns = (owns.0, more n u.value ∙ other n u.value is ∙ owns.1)

  -- those of other values
  pub attached-without : (v : ℕ) → ((n w : ℕ) → is_attached n w new ≡ cond (w == v) false (is_attached n w old))
      → as_map attached_ticket (attached new) ≡ filter (λ t. not (t.value == v)) (as_map attached_ticket (attached old))
  attached-without v less =
      found-same attached_ticket _ _ (rising-as_map attached_ticket (attached new)) (rising-filter attached_ticket (λ t. not (t.value == v)) (as_map attached_ticket (attached old)) (rising-as_map attached_ticket (attached old)))
      (λ n. found-by_owner n _ (by n (found attached_ticket n (as_map attached_ticket (attached old))) (owner-mapped n old are.values))
      ∙ sym (found-kept attached_ticket (λ t. not (t.value == v)) n (as_map attached_ticket (attached old)) (rising-as_map attached_ticket (attached old))))
    where
      by : (n : ℕ) (o : Option Attached) → IsOwner n old o → IsOwner n new (option_and_then (λ t. cond (not (t.value == v)) (Some t) None) o)
      by n None none = λ w. less n w ∙ ap (λ b. cond (w == v) false b) (none w) ∙ none_left (w == v)
        where
          none_left : (b : Bool) → cond b false false ≡ false
          none_left true = refl
          none_left false = refl
      by n (Some t) owns = case (t.value == v) refl
        where
          case : (b : Bool) → (t.value == v) ≡ b → IsOwner n new (cond (not b) (Some t) None)
          case false is = (owns.0, less n t.value ∙ ap (λ b. cond b false (is_attached n t.value old)) is ∙ owns.1)
          case true is = λ w. less n w ∙ gone w (w == v) (is_attached n w old) refl refl
            where
              gone : (w : ℕ) (a b : Bool) → (w == v) ≡ a → is_attached n w old ≡ b → cond a false b ≡ false
              gone w true b here there = refl
              gone w false false here there = refl
              gone w false true here there =
                  let value : w ≡ t.value = are.tickets n w t.value there owns.1 in
                  let no : ⊥ = let yes : (w == v) ≡ true = ap (λ m. m == v) value ∙ is in cc in absurd no
