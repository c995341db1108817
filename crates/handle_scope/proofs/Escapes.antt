-- The handles that escaped from scopes which are still open, and what finds them.
use Rattle.std.proofs.Common.{◌≡◌, ◌≢◌, ◌∙◌, ℕ, zero, suc, ◌+◌, ◌<◌, ◌≤◌, ◌==◌, nat_eq, ◌&&◌, ◌||◌, Bool, true, false, cond, List, [], ◌∷◌, ◌++◌, length, map, reverse, take, get_or, slice_get, refl, ap, sym, subst, arith, inl, inr, Option, Some, None, option_map, option_and_then, sum_by}
use Rattle.std.specs.Option.{is_some, option_or, option_to_list}
use Rattle.std.specs.List.{All, IsDistinct, list_any, filter}
use Rattle.std.proofs.Math.ListN.{set}
use Rattle.std.proofs.lemmas.Bool.{cases_lt, cases_eq, eqb-true, ne_eqb, true≢false}
use Rattle.std.proofs.lemmas.Bool.Decides.{nat_tests}
use Rattle.std.proofs.lemmas.Map.Keys.{IsDistinct-from_apart}
use Rattle.std.proofs.lemmas.Map.Steps.{length-le_from_distinct_below}
use Rattle.std.proofs.lemmas.Map.Views.{any-filter_same, Contains-from_any}
use Rattle.std.proofs.lemmas.List.Elements.{All-map, All-contains, filter_passes}
use Rattle.std.proofs.lemmas.List.Folds.{list_any-append}
use Rattle.std.proofs.lemmas.List.Sums.{sum_by-cons}
use Rattle.std.proofs.lemmas.List.{get_or_append_left, get_or-append-add, get_or-take, get_or-set_same, get_or-set_other, get_or-map, length-map, length-set, length-append, length-reverse, length-take, reverse-reverse}
use Rattle.std.proofs.lemmas.Option.{slice_get-get_or, slice_get_past}
use Rattle.napi_types.specs.declared.ids.ScopeKind.TheVariants as kind
use Rattle.napi_types.specs.parts.Scopes.{value_in}
use Rattle.napi_types.proofs.plain.Lists.{option_or-none}
use Rattle.handle_scope.specs.declared.scopes.HeldHandle.{HeldHandle}
use Rattle.handle_scope.specs.declared.scopes.ScopeMark.{ScopeMark}
use Rattle.handle_scope.specs.declared.scopes.Escape.{Escape}
use Rattle.handle_scope.specs.Marks.{held_of, waiting_handle, all_waiting, waiting_value, free_escapes, Rises, AreAtMost, IsTracked}
use Rattle.handle_scope.proofs.HandleNumbers.{Rises-push, Rises-tail, Rises-filter, Lacks, Lacks-tail, HasAt, HasAt-tail}
use Rattle.handle_scope.proofs.Lookups.{value_in-append}
use Rattle.handle_scope.proofs.Marks.{escaped_mark, opened_mark}
use Rattle.handle_scope.proofs.HandlePlaces.{reverse-cons}

-- the escapes list a handle for a place of the marks
abbrev is_listed : List Escape → ℕ → ℕ → Bool
is_listed es h at = list_any (λ e. (e.handle == h) && (e.scope == at)) es

-- WHAT FINDS A HANDLE
-- a handle that is listed is one of the escapes'
listed-lacks : (es : List Escape) (h at : ℕ) → Lacks (λ e. e.handle) es h → is_listed es h at ≡ false
listed-lacks [] h at l = refl
listed-lacks (e ∷ es) h at l = grind (arith, nat_tests, l.at 0 e (omega arith), listed-lacks es h at (Lacks-tail (λ (x : Escape). x.handle) e es h l))

-- a handle above the first is none of the others
first-lacks : (e : Escape) (es : List Escape) → Rises (λ x. x.handle) (e ∷ es) → Lacks (λ x. x.handle) es e.handle
first-lacks e es r = record { at = λ i d inside same. let up : e.handle < (get_or es i d).handle = r.rise 0 (suc i) d (omega arith) (omega arith) in omega arith }

-- the escapes rise, so they list a handle for the one place that stands beside it
listed-sole : (es : List Escape) (h k at : ℕ) (d : Escape) → Rises (λ e. e.handle) es → HasAt (λ e. e.handle) es h k → is_listed es h at ≡ true
    → (get_or es k d).scope ≡ at
listed-sole [] h k at d r has listed = absurd (omega (arith, has.inside))
listed-sole (e ∷ es) h zero at d r has listed =
    let here : e.handle ≡ h = has.same d in
    let rest : is_listed es h at ≡ false = listed-lacks es h at (subst (λ n. Lacks (λ (x : Escape). x.handle) es n) here (first-lacks e es r)) in
    grind (arith, nat_tests)
listed-sole (e ∷ es) h (suc k) at d r has listed =
    let up : e.handle < (get_or es k d).handle = r.rise 0 (suc k) d (omega arith) (omega (arith, has.inside)) in
    let there : (get_or es k d).handle ≡ h = has.same d in
    let rest : is_listed es h at ≡ true = grind (arith, nat_tests) in
    listed-sole es h k at d (Rises-tail (λ (x : Escape). x.handle) e es r) (HasAt-tail (λ (x : Escape). x.handle) e es h k has) rest

-- A HANDLE THAT WAITS
waiting-one : (e : HeldHandle) (h : ℕ) (b : Bool) → (e.handle == h) ≡ b → value_in (held_of e ∷ []) h ≡ cond b (Some e.value.0) None
waiting-one e h true s = rw s refl
waiting-one e h false s = rw s refl

-- a mark in which another handle waits, or none, does not give the value
waiting-none : (o : Option HeldHandle) (h : ℕ) → ((e : HeldHandle) → o ≡ Some e → e.handle ≢ h) → value_in (map held_of (option_to_list o)) h ≡ None
waiting-none None h other = refl
waiting-none (Some e) h other = waiting-one e h false (grind (arith, nat_tests, other e refl))

-- no handle that waits in these marks has the number
pub record NoneWaits (ss : List ScopeMark) (h : ℕ) : Type 0 where
  pub at : (i : ℕ) (d : ScopeMark) (e : HeldHandle) → i < length ss → (get_or ss i d).escaped ≡ Some e → e.handle ≢ h

-- of the handles that wait in these marks, that at a place alone can have the number
pub record WaitsAlone (ss : List ScopeMark) (h place : ℕ) : Type 0 where
  pub at : (i : ℕ) (d : ScopeMark) (e : HeldHandle) → i < length ss → (get_or ss i d).escaped ≡ Some e → e.handle ≡ h → place ≡ i

get-front : (m : ScopeMark) (ms : List ScopeMark) (i : ℕ) (d : ScopeMark) → i < length ms → get_or (reverse (m ∷ ms)) i d ≡ get_or (reverse ms) i d
get-front m ms i d inside =
    ap (λ l. get_or l i d) (reverse-cons m ms) ∙ get_or_append_left (reverse ms) (m ∷ []) d i (omega (arith, length-reverse ms))

get-last : (m : ScopeMark) (ms : List ScopeMark) (i : ℕ) (d : ScopeMark) → i ≡ length ms → get_or (reverse (m ∷ ms)) i d ≡ m
get-last m ms i d e =
    let index : i ≡ length (reverse ms) + 0 = omega (arith, length-reverse ms) in
    ap (λ l. get_or l i d) (reverse-cons m ms) ∙ ap (λ k. get_or (reverse ms ++ m ∷ []) k d) index ∙ get_or-append-add (reverse ms) (m ∷ []) 0 d

none-outer : (m : ScopeMark) (ms : List ScopeMark) (h : ℕ) → NoneWaits (reverse (m ∷ ms)) h → NoneWaits (reverse ms) h
none-outer m ms h n = record {
  at = λ i d e inside waits.
      let here : i < length ms = omega (arith, length-reverse ms) in
      n.at i d e (omega (arith, length-reverse (m ∷ ms))) (ap (λ (s : ScopeMark). s.escaped) (get-front m ms i d here) ∙ waits);
}

none-last : (m : ScopeMark) (ms : List ScopeMark) (h : ℕ) → NoneWaits (reverse (m ∷ ms)) h → value_in (waiting_handle m) h ≡ None
none-last m ms h n =
    waiting-none m.escaped h
    (λ e waits. n.at (length ms) m e (omega (arith, length-reverse (m ∷ ms))) (ap (λ (s : ScopeMark). s.escaped) (get-last m ms (length ms) m refl) ∙ waits))

-- where no such handle waits, no mark gives a value
all-none : (ms : List ScopeMark) (h : ℕ) → NoneWaits (reverse ms) h → value_in (all_waiting ms) h ≡ None
all-none [] h n = refl
all-none (m ∷ ms) h n =
    value_in-append (waiting_handle m) (all_waiting ms) h
    ∙ ap (λ o. option_or o (value_in (all_waiting ms) h)) (none-last m ms h n)
    ∙ all-none ms h (none-outer m ms h n)

-- where a handle of that number can wait at one place alone, the marks give what that mark gives
all-sole : (ms : List ScopeMark) (h at : ℕ) (d : ScopeMark) → at < length ms → WaitsAlone (reverse ms) h at
    → value_in (waiting_handle (get_or (reverse ms) at d)) h ≡ value_in (all_waiting ms) h
all-sole [] h at d inside w = absurd (omega arith)
all-sole (m ∷ ms) h at d inside w = elim (cases_lt at (length ms)) [
  | inl first ↦
      let nothing : value_in (waiting_handle m) h ≡ None =
      waiting-none m.escaped h
      (λ e waits same.
      let last : at ≡ length ms = w.at (length ms) m e (omega (arith, length-reverse (m ∷ ms))) (ap (λ (s : ScopeMark). s.escaped) (get-last m ms (length ms) m refl) ∙ waits) same in
      omega arith) in
      let outer : WaitsAlone (reverse ms) h at = record {
        at = λ i x e within waits same.
            let here : i < length ms = omega (arith, length-reverse ms) in
            w.at i x e (omega (arith, length-reverse (m ∷ ms))) (ap (λ (s : ScopeMark). s.escaped) (get-front m ms i x here) ∙ waits) same;
      } in
      ap (λ s. value_in (waiting_handle s) h) (get-front m ms at d first)
      ∙ all-sole ms h at d first outer
      ∙ sym (value_in-append (waiting_handle m) (all_waiting ms) h ∙ ap (λ o. option_or o (value_in (all_waiting ms) h)) nothing)
  | inr past ↦
      let index : at ≡ length ms = omega arith in
      let outer : NoneWaits (reverse ms) h = record {
        at = λ i x e within waits same.
            let here : i < length ms = omega (arith, length-reverse ms) in
            let there : at ≡ i = w.at i x e (omega (arith, length-reverse (m ∷ ms))) (ap (λ (s : ScopeMark). s.escaped) (get-front m ms i x here) ∙ waits) same in
            omega arith;
      } in
      ap (λ s. value_in (waiting_handle s) h) (get-last m ms at d index)
      ∙ sym (value_in-append (waiting_handle m) (all_waiting ms) h ∙ ap (option_or (value_in (waiting_handle m) h)) (all-none ms h outer) ∙ option_or-none (value_in (waiting_handle m) h))
]

-- what is found where the escapes have the handle
found-value : (ss : List ScopeMark) (e : Escape) (h : ℕ) → e.handle ≡ h → WaitsAlone ss h e.scope → (d : ScopeMark) → e.scope < length ss
    → waiting_value ss e ≡ value_in (waiting_handle (get_or ss e.scope d)) h
found-value ss e h same w d inside =
    ap (option_and_then (λ (s : ScopeMark). value_in (waiting_handle s) e.handle)) (slice_get-get_or ss e.scope d inside)
    ∙ ap (value_in (waiting_handle (get_or ss e.scope d))) same

pub escape-found : (ss : List ScopeMark) (es : List Escape) (h k : ℕ) (y : Escape) → IsTracked ss es → HasAt (λ x. x.handle) es h k
    → waiting_value ss (get_or es k y) ≡ value_in (all_waiting (reverse ss)) h
escape-found ss es h k y t has =
    let e : Escape = get_or es k y in
    let same : e.handle ≡ h = has.same y in
    let alone : WaitsAlone ss h e.scope = record {
      at = λ i d x inside waits equal.
          let listed : is_listed es h i ≡ true = ap (λ n. is_listed es n i) (sym equal) ∙ t.found i d x inside waits in
          listed-sole es h k i y t.rise has listed;
    } in
    let W : List ScopeMark → Type 0 = λ l. WaitsAlone l h e.scope in
    let back : reverse (reverse ss) ≡ ss = reverse-reverse ss in
    elim (cases_lt e.scope (length ss)) [
      | inl inside ↦
          let d : ScopeMark = opened_mark 0 kind.Plain 0 0 in
          found-value ss e h same alone d inside
          ∙ ap (λ l. value_in (waiting_handle (get_or l e.scope d)) h) (sym back)
          ∙ all-sole (reverse ss) h e.scope d (omega (arith, length-reverse ss)) (subst W (sym back) alone)
      | inr past ↦
          let none : NoneWaits (reverse (reverse ss)) h = record {
            at = λ i d x inside waits equal.
                let there : e.scope ≡ i = (subst W (sym back) alone).at i d x inside waits equal in
                omega (arith, length-reverse (reverse ss), length-reverse ss);
          } in
          ap (option_and_then (λ (s : ScopeMark). value_in (waiting_handle s) e.handle)) (slice_get_past ss e.scope past)
          ∙ sym (all-none (reverse ss) h none)
    ]

-- a handle that the escapes lack waits in no mark
pub escape-lacks : (ss : List ScopeMark) (es : List Escape) (h : ℕ) → IsTracked ss es → Lacks (λ x. x.handle) es h → None ≡ value_in (all_waiting (reverse ss)) h
escape-lacks ss es h t l =
    let N : List ScopeMark → Type 0 = λ s. NoneWaits s h in
    let none : NoneWaits ss h = record {
      at = λ i d x inside waits equal.
          let listed : is_listed es h i ≡ true = ap (λ n. is_listed es n i) (sym equal) ∙ t.found i d x inside waits in
          let missing : is_listed es h i ≡ false = listed-lacks es h i l in
          cc;
    } in
    sym (all-none (reverse ss) h (subst N (sym (reverse-reverse ss)) none))

-- WHAT KEEPS THEM FOUND
-- marks that go take their handles with them
pub tracked-take : (k : ℕ) (ss : List ScopeMark) (es : List Escape) → IsTracked ss es → IsTracked (take k ss) es
tracked-take k ss es t = record {
  rise = t.rise;
  found = λ at d h inside waits.
      let first : at < k = omega (arith, inside, length-take k ss) in
      t.found at d h (omega (arith, inside, length-take k ss)) (ap (λ (s : ScopeMark). s.escaped) (sym (get_or-take k ss at d first)) ∙ waits);
}

pub tracked-front : (ss : List ScopeMark) (m : ScopeMark) (es : List Escape) → IsTracked (ss ++ m ∷ []) es → IsTracked ss es
tracked-front ss m es t = record {
  rise = t.rise;
  found = λ at d h inside waits.
      t.found at d h (omega (arith, inside, length-append ss (m ∷ []))) (ap (λ (s : ScopeMark). s.escaped) (get_or_append_left ss (m ∷ []) d at inside) ∙ waits);
}

-- no handle waits in the mark of a scope that opens
pub tracked-open : (ss : List ScopeMark) (m : ScopeMark) (es : List Escape) → m.escaped ≡ None → IsTracked ss es → IsTracked (ss ++ m ∷ []) es
tracked-open ss m es none t = record {
  rise = t.rise;
  found = λ at d h inside waits. elim (cases_lt at (length ss)) [
    | inl first ↦ t.found at d h first (ap (λ (s : ScopeMark). s.escaped) (sym (get_or_append_left ss (m ∷ []) d at first)) ∙ waits)
    | inr past ↦
        let index : at ≡ length ss + 0 = omega (arith, inside, length-append ss (m ∷ [])) in
        let last : get_or (ss ++ m ∷ []) at d ≡ m = ap (λ k. get_or (ss ++ m ∷ []) k d) index ∙ get_or-append-add ss (m ∷ []) 0 d in
        let empty : (get_or (ss ++ m ∷ []) at d).escaped ≡ None = ap (λ (s : ScopeMark). s.escaped) last ∙ none in
        absurd cc
  ];
}

-- an escape is listed where it is put
listed-push : (es : List Escape) (x : Escape) → is_listed (es ++ x ∷ []) x.handle x.scope ≡ true
listed-push es x =
    list_any-append (λ (e : Escape). (e.handle == x.handle) && (e.scope == x.scope)) es (x ∷ []) ∙ grind (arith, nat_tests)

listed-more : (es : List Escape) (x : Escape) (h at : ℕ) → is_listed es h at ≡ true → is_listed (es ++ x ∷ []) h at ≡ true
listed-more es x h at listed =
    list_any-append (λ (e : Escape). (e.handle == h) && (e.scope == at)) es (x ∷ []) ∙ ap (λ b. b || is_listed (x ∷ []) h at) listed

pub tracked-escape : (ss : List ScopeMark) (at : ℕ) (d : ScopeMark) (x : HeldHandle) (es : List Escape) (most : ℕ) → at < length ss → AreAtMost (λ e. e.handle) es most → most < x.handle
    → IsTracked ss es → IsTracked (set ss at (escaped_mark (get_or ss at d) x)) (es ++ record { handle = x.handle; scope = at } ∷ [])
tracked-escape ss at d x es most inside issued above t =
    let m : ScopeMark = escaped_mark (get_or ss at d) x in
    let e : Escape = record { handle = x.handle; scope = at } in
    record {
      rise = Rises-push (λ (y : Escape). y.handle) es e most t.rise issued above;
      found = λ i z h within waits. elim (cases_eq i at) [
        | inl same ↦
            let here : get_or (set ss at m) i z ≡ m = ap (λ k. get_or (set ss at m) k z) same ∙ get_or-set_same ss at m z inside in
            let stands : Some x ≡ Some h = sym (ap (λ (s : ScopeMark). s.escaped) here) ∙ waits in
            let equal : x ≡ h = cc in
            ap (λ k. is_listed (es ++ e ∷ []) h.handle k) same ∙ ap (λ (y : HeldHandle). is_listed (es ++ e ∷ []) y.handle at) (sym equal) ∙ listed-push es e
        | inr other ↦
            listed-more es e h.handle i (t.found i z h (omega (arith, within, length-set ss at m)) (ap (λ (s : ScopeMark). s.escaped) (sym (get_or-set_other ss at i m z other)) ∙ waits))
      ];
    }

-- an escape whose handle waits is kept
waits-still : (ss : List ScopeMark) (at : ℕ) (d : ScopeMark) (h : HeldHandle) (e : Escape) → at < length ss → (get_or ss at d).escaped ≡ Some h
    → ((e.handle == h.handle) && (e.scope == at)) ≡ true → is_some (waiting_value ss e) ≡ true
waits-still ss at d h e inside waits test =
    let place : e.scope ≡ at = grind (arith, nat_tests) in
    let same : (h.handle == e.handle) ≡ true = grind (arith, nat_tests) in
    ap (λ k. is_some (option_and_then (λ (s : ScopeMark). value_in (waiting_handle s) e.handle) (slice_get ss k))) place
    ∙ ap (λ o. is_some (option_and_then (λ (s : ScopeMark). value_in (waiting_handle s) e.handle) o)) (slice_get-get_or ss at d inside)
    ∙ ap (λ o. is_some (value_in (map held_of (option_to_list o)) e.handle)) waits
    ∙ ap is_some (waiting-one h e.handle true same)

pub tracked-filter : (ss : List ScopeMark) (es : List Escape) → IsTracked ss es → IsTracked ss (filter (λ e. is_some (waiting_value ss e)) es)
tracked-filter ss es t = record {
  rise = Rises-filter (λ (e : Escape). e.handle) (λ e. is_some (waiting_value ss e)) es t.rise;
  found = λ at d h inside waits.
      any-filter_same (λ (e : Escape). (e.handle == h.handle) && (e.scope == at)) (λ e. is_some (waiting_value ss e)) true
      (λ e test. waits-still ss at d h e inside waits test) es
      ∙ t.found at d h inside waits;
}

-- THE MEMORY FOR THEM
free-one : (o : Option HeldHandle) → cond (is_some o) 0 1 ≤ 1
free-one None = omega arith
free-one (Some h) = omega arith

-- a scope lets one handle escape at most
pub free-most : (ss : List ScopeMark) → sum_by free_escapes ss ≤ length ss
free-most [] = omega arith
free-most (s ∷ ss) = let one : free_escapes s ≤ 1 = free-one s.escaped in omega (arith, sum_by-cons free_escapes s ss, free-most ss)

-- EACH WAITS IN A MARK OF ITS OWN
-- the handle of an escape waits in the mark that it names
record WaitsThere (ss : List ScopeMark) (e : Escape) : Type 0 where
  pub inside : e.scope < length ss
  pub handle : (d : ScopeMark) → option_map (λ h. h.handle) (get_or ss e.scope d).escaped ≡ Some e.handle

waits-handle : (o : Option HeldHandle) (h : ℕ) → is_some (value_in (map held_of (option_to_list o)) h) ≡ true → option_map (λ e. e.handle) o ≡ Some h
waits-handle None h some = cc
waits-handle (Some e) h some = by (e.handle == h) refl
  where
    by : (b : Bool) → (e.handle == h) ≡ b → option_map (λ (x : HeldHandle). x.handle) (Some e) ≡ Some h
    by true same = let equal : e.handle ≡ h = eqb-true e.handle h same in ap Some equal
    by false other =
        let none : is_some (value_in (held_of e ∷ []) h) ≡ false = ap is_some (waiting-one e h false other) in
        absurd (true≢false (sym some ∙ none))

waits-there : (ss : List ScopeMark) (e : Escape) → is_some (waiting_value ss e) ≡ true → WaitsThere ss e
waits-there ss e some = elim (cases_lt e.scope (length ss)) [
  | inl inside ↦
      record {
        inside = inside;
        handle = λ d.
            waits-handle (get_or ss e.scope d).escaped e.handle
            (ap (λ o. is_some (option_and_then (λ (s : ScopeMark). value_in (waiting_handle s) e.handle) o)) (sym (slice_get-get_or ss e.scope d inside)) ∙ some);
      }
  | inr past ↦
      let none : is_some (waiting_value ss e) ≡ false =
      ap (λ o. is_some (option_and_then (λ (s : ScopeMark). value_in (waiting_handle s) e.handle) o)) (slice_get_past ss e.scope past) in
      absurd (true≢false (sym some ∙ none))
]

-- two handles that wait in one mark are the same
same-mark : (ss : List ScopeMark) (e f : Escape) (d : ScopeMark) → WaitsThere ss e → WaitsThere ss f → e.scope ≡ f.scope → e.handle ≡ f.handle
same-mark ss e f d there here same =
    let equal : Some e.handle ≡ Some f.handle =
    sym (there.handle d) ∙ ap (λ k. option_map (λ (h : HeldHandle). h.handle) (get_or ss k d).escaped) same ∙ here.handle d in
    cc

-- so escapes that wait name marks that differ, and are at most as many as the marks
module _ (ss : List ScopeMark) (es : List Escape) (rise : Rises (λ e. e.handle) es) (there : All (λ e. is_some (waiting_value ss e) ≡ true) es) where
  abbrev marks : List ℕ
  marks = map (λ e. e.scope) es

  apart-at : (i j : ℕ) (x : Escape) → i < j → j < length es → (get_or es i x).scope ≢ (get_or es j x).scope
  apart-at i j x before inside same =
      let first : i < length es = omega arith in
      let up : (get_or es i x).handle < (get_or es j x).handle = rise.rise i j x before inside in
      let equal : (get_or es i x).handle ≡ (get_or es j x).handle =
      same-mark ss (get_or es i x) (get_or es j x) (opened_mark 0 kind.Plain 0 0) (waits-there ss (get_or es i x) (there i x first)) (waits-there ss (get_or es j x) (there j x inside)) same in
      omega arith

  marks-apart : IsDistinct nat_eq marks
  marks-apart =
      let x : Escape = record { handle = 0; scope = 0 } in
      IsDistinct-from_apart nat_eq marks
      (λ i j d before inside.
      let last : j < length es = omega (arith, inside, length-map es (λ (e : Escape). e.scope)) in
      let first : i < length es = omega arith in
      rw (get_or-map (λ (e : Escape). e.scope) es i x d first, get_or-map (λ (e : Escape). e.scope) es j x d last) (ne_eqb _ _ (apart-at i j x before last)))

  marks-inside : All (λ k. k < length ss) marks
  marks-inside = All-map (λ k. k < length ss) (λ (e : Escape). e.scope) es (λ i d inside. (waits-there ss (get_or es i d) (there i d inside)).inside)

  as-many : length es ≤ length ss
  as-many =
      let few : length marks ≤ length ss =
      length-le_from_distinct_below marks (length ss) marks-apart
      (λ q has. All-contains (λ k. k < length ss) marks q marks-inside (Contains-from_any (λ a b s. eqb-true a b s) q marks has)) in
      omega (arith, few, length-map es (λ (e : Escape). e.scope))

pub waiting-few : (ss : List ScopeMark) (es : List Escape) → Rises (λ e. e.handle) es → length (filter (λ e. is_some (waiting_value ss e)) es) ≤ length ss
waiting-few ss es r =
    as-many ss (filter (λ e. is_some (waiting_value ss e)) es) (Rises-filter (λ (e : Escape). e.handle) (λ e. is_some (waiting_value ss e)) es r)
    (filter_passes (λ e. is_some (waiting_value ss e)) es)
