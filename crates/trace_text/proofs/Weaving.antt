-- The lines of a weave, place by place.
use Rattle.std.proofs.Common.{◌≡◌, ℕ, ◌+◌, ◌<◌, ◌==◌, false, cond, refl, List, [], ◌∷◌, ◌++◌, length, get_or, take, drop, map, append_assoc, subst, sym, ◌∙◌, ap, arith, eq-eqb, length-append}
use Rattle.std.proofs.lemmas.List.{append-nil, take_more, drop_more, map-append}
use Rattle.std.proofs.Math.Seq.{drop-length}
use Rattle.std.proofs.lemmas.List.Elements.{filter-append}
use Rattle.std.specs.List.{filter}
use Rattle.napi_types.specs.declared.entry.Entry.{Entry}
use Rattle.napi_types.specs.declared.entry.Local.{Local}
use Rattle.napi_types.specs.plain.Weave.{local_at, weave_from}
use Rattle.napi_types.specs.scripts.Text.{line, lines_from}
use Rattle.trace_text.specs.Writing.{Adds, Owes, Stand}
use Rattle.trace_text.proofs.Adding.{adds_none, adds_then}

-- an entry of the journal at its place
pub local_at-here : (p : ℕ) (local : Local) → local.at ≡ p → local_at p (local ∷ []) ≡ local.entry ∷ []
local_at-here p local here =
    ap (λ test. map (λ (l : Local). l.entry) (cond test (local ∷ []) [])) (eq-eqb local.at p here)

-- and at another
pub local_at-elsewhere : (p : ℕ) (local : Local) → (local.at ≡ p → ⊥) → local_at p (local ∷ []) ≡ []
local_at-elsewhere p local other = let apart : (local.at == p) ≡ false = grind arith in rw apart refl

pub lines_from-one : (texts : List (List ℕ)) (n : ℕ) (x : Entry) → lines_from texts n (x ∷ []) ≡ line texts n x
lines_from-one texts n x = append-nil (line texts n x)

-- the lines of some entries, and then of more
pub lines_from-append : (texts : List (List ℕ)) (n : ℕ) (xs ys : List Entry) →
    lines_from texts n (xs ++ ys) ≡ lines_from texts n xs ++ lines_from texts (n + length xs) ys
lines_from-append texts n [] ys = ap (λ m. lines_from texts m ys) (let e : n ≡ n + 0 = omega arith in e)
lines_from-append texts n (x ∷ xs) ys =
    ap (λ bytes. line texts n x ++ bytes) (lines_from-append texts (n + 1) xs ys) ∙
    sym (append_assoc (line texts n x) (lines_from texts (n + 1) xs) (lines_from texts (n + 1 + length xs) ys)) ∙
    ap (λ m. line texts n x ++ lines_from texts (n + 1) xs ++ lines_from texts m ys)
    (let e : n + 1 + length xs ≡ n + length (x ∷ xs) = omega arith in e)

pub local_at-append : (p : ℕ) (xs ys : List Local) → local_at p (xs ++ ys) ≡ local_at p xs ++ local_at p ys
local_at-append p xs ys =
    ap (map (λ (l : Local). l.entry)) (filter-append (λ (l : Local). l.at == p) xs ys) ∙
    map-append (λ (l : Local). l.entry) (filter (λ (l : Local). l.at == p) xs) (filter (λ (l : Local). l.at == p) ys)

-- one entry of the journal more
pub local_at-more : (p : ℕ) (journal : List Local) (i : ℕ) (d : Local) → i < length journal →
    local_at p (take (i + 1) journal) ≡ local_at p (take i journal) ++ local_at p (get_or journal i d ∷ [])
local_at-more p journal i d within =
    ap (local_at p) (take_more journal i d within) ∙ local_at-append p (take i journal) (get_or journal i d ∷ [])

-- the line of an entry of the journal at its place
pub adds_here : {a b : Stand} (texts : List (List ℕ)) (n p : ℕ) (local : Local) → local.at ≡ p →
    Adds a (line texts n local.entry) b → Adds a (lines_from texts n (local_at p (local ∷ []))) b
adds_here {a = a} {b = b} texts n p local here one =
    let P : List ℕ → Type 0 = λ bytes. Adds a bytes b in
    subst P (sym (ap (lines_from texts n) (local_at-here p local here) ∙ lines_from-one texts n local.entry)) one

-- no line for an entry of the journal elsewhere
pub adds_elsewhere : (a : Stand) (texts : List (List ℕ)) (n p : ℕ) (local : Local) → (local.at ≡ p → ⊥) →
    Adds a (lines_from texts n (local_at p (local ∷ []))) a
adds_elsewhere a texts n p local other =
    let P : List Entry → Type 0 = λ entries. Adds a (lines_from texts n entries) a in
    subst P (sym (local_at-elsewhere p local other)) (adds_none a)

-- the lines of some entries, and then of more
pub lines_then : {a b c : Stand} (texts : List (List ℕ)) (first n : ℕ) (xs ys : List Entry) → n ≡ first + length xs →
    Adds a (lines_from texts first xs) b → Adds b (lines_from texts n ys) c → Adds a (lines_from texts first (xs ++ ys)) c
lines_then {a = a} {b = b} {c = c} texts first n xs ys count before more =
    let P : List ℕ → Type 0 = λ bytes. Adds a bytes c in
    let Q : ℕ → Type 0 = λ m. Adds b (lines_from texts m ys) c in
    subst P (sym (lines_from-append texts first xs ys)) (adds_then before (subst Q count more))

-- the lines of some entries, and then of one more
pub line_then : {a b c : Stand} (texts : List (List ℕ)) (first n : ℕ) (xs : List Entry) (x : Entry) → n ≡ first + length xs →
    Adds a (lines_from texts first xs) b → Adds b (line texts n x) c → Adds a (lines_from texts first (xs ++ x ∷ [])) c
line_then {b = b} {c = c} texts first n xs x count before one =
    let P : List ℕ → Type 0 = λ bytes. Adds b bytes c in
    lines_then texts first n xs (x ∷ []) count before (subst P (sym (lines_from-one texts n x)) one)

-- the lines of the journal's entries at a place, one entry of the journal more
pub locals_more : {a b c : Stand} (texts : List (List ℕ)) (first p : ℕ) (journal : List Local) (i n : ℕ) (d : Local) →
    i < length journal → n ≡ first + length (local_at p (take i journal)) →
    Adds a (lines_from texts first (local_at p (take i journal))) b →
    Adds b (lines_from texts n (local_at p (get_or journal i d ∷ []))) c →
    Adds a (lines_from texts first (local_at p (take (i + 1) journal))) c
locals_more {a = a} {c = c} texts first p journal i n d within count before one =
    let P : List Entry → Type 0 = λ entries. Adds a (lines_from texts first entries) c in
    subst P (sym (local_at-more p journal i d within))
    (lines_then texts first n (local_at p (take i journal)) (local_at p (get_or journal i d ∷ [])) count before one)

-- how many they are
pub locals_count : (p : ℕ) (journal : List Local) (first i n m : ℕ) (d : Local) → i < length journal →
    n ≡ first + length (local_at p (take i journal)) → m ≡ n + length (local_at p (get_or journal i d ∷ [])) →
    m ≡ first + length (local_at p (take (i + 1) journal))
locals_count p journal first i n m d within before one =
    let long : length (local_at p (take (i + 1) journal)) ≡
    length (local_at p (take i journal)) + length (local_at p (get_or journal i d ∷ [])) =
    ap length (local_at-more p journal i d within) ∙
    length-append (local_at p (take i journal)) (local_at p (get_or journal i d ∷ [])) in
    omega arith

-- a place of the weave was added
pub owes_place : {start now next : Stand} (whole : List ℕ) (texts : List (List ℕ)) (first n p : ℕ) (journal : List Local)
    (history : List Entry) (d : Entry) → p < length history →
    n ≡ first + length (local_at p journal ++ get_or history p d ∷ []) →
    Owes start whole now (lines_from texts first (weave_from p journal (drop p history))) →
    Adds now (lines_from texts first (local_at p journal ++ get_or history p d ∷ [])) next →
    Owes start whole next (lines_from texts n (weave_from (p + 1) journal (drop (p + 1) history)))
owes_place {now = now} whole texts first n p journal history d within count owes place = record {
  finishes = λ end rest.
      let P : List Entry → Type 0 = λ entries. Adds now (lines_from texts first entries) end in
      let later = weave_from (p + 1) journal (drop (p + 1) history) in
      let all : weave_from p journal (drop p history) ≡ (local_at p journal ++ get_or history p d ∷ []) ++ later =
      ap (weave_from p journal) (drop_more history p d within) ∙
      sym (append_assoc (local_at p journal) (get_or history p d ∷ []) later) in
      owes.finishes end (subst P (sym all)
      (lines_then texts first n (local_at p journal ++ get_or history p d ∷ []) later count place rest));
}

-- the place after the last entry of the history was added
pub owes_end : {start now end : Stand} (whole : List ℕ) (texts : List (List ℕ)) (n p : ℕ) (journal : List Local)
    (history : List Entry) → p ≡ length history →
    Owes start whole now (lines_from texts n (weave_from p journal (drop p history))) →
    Adds now (lines_from texts n (local_at (length history) journal)) end → Adds start whole end
owes_end {now = now} {end = end} whole texts n p journal history ends owes place =
    let P : ℕ → Type 0 = λ q. Adds now (lines_from texts n (weave_from q journal (drop q history))) end in
    let Q : List Entry → Type 0 = λ entries. Adds now (lines_from texts n (weave_from (length history) journal entries)) end in
    owes.finishes end (subst P (sym ends) (subst Q (sym (drop-length history)) place))
