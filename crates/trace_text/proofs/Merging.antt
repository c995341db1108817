-- A journal whose places never fall is woven with a history in one pass.
use Rattle.std.proofs.Common.{◌≡◌, ℕ, zero, suc, ◌+◌, ◌<◌, ◌≤◌, ◌==◌, true, false, List, [], ◌∷◌, ◌++◌, length, get_or, drop, refl, ap, subst, sym, ◌∙◌, arith, length-drop}
use Rattle.std.proofs.lemmas.List.{drop_more}
use Rattle.std.proofs.Math.Seq.{drop-length}
use Rattle.napi_types.specs.declared.entry.Entry.{Entry}
use Rattle.napi_types.specs.declared.entry.Local.{Local}
use Rattle.napi_types.specs.plain.Weave.{local_at, weave_from, RisesBetween}
use Rattle.napi_types.specs.scripts.Text.{line, lines_from}
use Rattle.napi_types.proofs.plain.Weaves.{bounds-rise}
use Rattle.trace_text.specs.Merging.{BeginsAt, unwoven}
use Rattle.trace_text.specs.Writing.{Adds, Owes, Stand}
use Rattle.trace_text.proofs.Adding.{adds_none, adds_then}

-- the first entry of a journal is at its place
first-here : (p : ℕ) (l : Local) (ls : List Local) → l.at ≡ p → local_at p (l ∷ ls) ≡ l.entry ∷ local_at p ls
first-here p l ls here = let same : (l.at == p) ≡ true = grind arith in rw same refl

-- and at no other
first-elsewhere : (p : ℕ) (l : Local) (ls : List Local) → (l.at ≡ p → ⊥) → local_at p (l ∷ ls) ≡ local_at p ls
first-elsewhere p l ls other = let apart : (l.at == p) ≡ false = grind arith in rw apart refl

-- an entry of the journal before a place is no part of the weave from there on
passed-from : (p : ℕ) (l : Local) (ls : List Local) (ks : List Entry) → l.at < p → weave_from p (l ∷ ls) ks ≡ weave_from p ls ks
passed-from p l ls [] before = first-elsewhere p l ls (λ here. omega arith)
passed-from p l ls (k ∷ ks) before =
    ap (λ xs. xs ++ k ∷ weave_from (p + 1) (l ∷ ls) ks) (first-elsewhere p l ls (λ here. omega arith)) ∙
    ap (λ xs. local_at p ls ++ k ∷ xs) (passed-from (p + 1) l ls ks (omega arith))

-- an entry of the journal at its place is the first of the weave from there on
pub local-first : (p : ℕ) (l : Local) (ls : List Local) (ks : List Entry) → l.at ≡ p →
    weave_from p (l ∷ ls) ks ≡ l.entry ∷ weave_from p ls ks
local-first p l ls [] here = first-here p l ls here
local-first p l ls (k ∷ ks) here =
    ap (λ xs. xs ++ k ∷ weave_from (p + 1) (l ∷ ls) ks) (first-here p l ls here) ∙
    ap (λ xs. l.entry ∷ (local_at p ls ++ k ∷ xs)) (passed-from (p + 1) l ls ks (omega arith))

-- no entry of a journal is below the place from which it rises
none-below : (p least last : ℕ) (ls : List Local) → p < least → RisesBetween least last ls → local_at p ls ≡ []
none-below p least last [] below rises = refl
none-below p least last (l ∷ ls) below rises =
    let from = rises.0 in
    first-elsewhere p l ls (λ here. omega arith) ∙ none-below p l.at last ls (omega arith) rises.1

-- where the journal rises from the next place on, the history's entry is the first of the weave
pub shared-first : (p last : ℕ) (ls : List Local) (k : Entry) (ks : List Entry) → RisesBetween (p + 1) last ls →
    weave_from p ls (k ∷ ks) ≡ k ∷ weave_from (p + 1) ls ks
shared-first p last ls k ks rises =
    ap (λ xs. xs ++ k ∷ weave_from (p + 1) ls ks) (none-below p (p + 1) last ls (omega arith) rises)

-- a journal with no entry at the place from which it rises
pub rises-later : (p last : ℕ) (ls : List Local) → RisesBetween p last ls → (BeginsAt p ls → ⊥) → p < length ls + last →
    RisesBetween (p + 1) last ls
rises-later p last [] rises none more = omega arith
rises-later p last (l ∷ ls) rises none more =
    let from = rises.0 in
    let apart : l.at ≡ p → ⊥ = none in
    (omega (arith, apart), rises.1)

-- a journal without its first entry
rises-tail : (p last : ℕ) (l : Local) (ls : List Local) → RisesBetween p last (l ∷ ls) → l.at ≡ p → RisesBetween p last ls
rises-tail p last l ls rises here = let P : ℕ → Type 0 = λ q. RisesBetween q last ls in subst P here rises.1

-- the journal's next entry is at its place
pub begins-next : (p i : ℕ) (ls : List Local) (d : Local) → i < length ls → BeginsAt p (drop i ls) → (get_or ls i d).at ≡ p
begins-next p i ls d within begins = let P : List Local → Type 0 = λ xs. BeginsAt p xs in subst P (drop_more ls i d within) begins

-- there is one
begins-within : (p i : ℕ) (ls : List Local) → BeginsAt p (drop i ls) → i < length ls
begins-within p zero [] begins = absurd begins
begins-within p zero (l ∷ ls) begins = omega arith
begins-within p (suc i) [] begins = absurd begins
begins-within p (suc i) (l ∷ ls) begins = let within = begins-within p i ls begins in omega arith

-- the journal's next entry is the next of the weave
pub unwoven-local : (ls : List Local) (ks : List Entry) (i p : ℕ) (d : Local) → BeginsAt p (drop i ls) →
    unwoven ls ks i p ≡ (get_or ls i d).entry ∷ unwoven ls ks (i + 1) p
unwoven-local ls ks i p d begins =
    let within = begins-within p i ls begins in
    ap (λ xs. weave_from p xs (drop p ks)) (drop_more ls i d within) ∙
    local-first p (get_or ls i d) (drop (i + 1) ls) (drop p ks) (begins-next p i ls d within begins)

-- and it rises on behind that entry
pub rises-local : (ls : List Local) (i p last : ℕ) → BeginsAt p (drop i ls) → RisesBetween p last (drop i ls) →
    RisesBetween p last (drop (i + 1) ls)
rises-local [] i p last begins rises = let within = begins-within p i [] begins in absurd (omega arith)
rises-local (l ∷ ls) i p last begins rises =
    let within = begins-within p i (l ∷ ls) begins in
    let P : List Local → Type 0 = λ xs. RisesBetween p last xs in
    rises-tail p last (get_or (l ∷ ls) i l) (drop (i + 1) (l ∷ ls)) (subst P (drop_more (l ∷ ls) i l within) rises)
    (begins-next p i (l ∷ ls) l within begins)

-- the history's next entry is the next of the weave
pub unwoven-shared : (ls : List Local) (ks : List Entry) (i p : ℕ) (d : Entry) →
    RisesBetween (p + 1) (length ks) (drop i ls) → unwoven ls ks i p ≡ get_or ks p d ∷ unwoven ls ks i (p + 1)
unwoven-shared ls ks i p d rises =
    let bound = bounds-rise (p + 1) (length ks) (drop i ls) rises in
    let within : p < length ks = omega arith in
    ap (weave_from p (drop i ls)) (drop_more ks p d within) ∙
    shared-first p (length ks) (drop i ls) (get_or ks p d) (drop (p + 1) ks) rises

pub rises-shared : (ls : List Local) (i p last : ℕ) → RisesBetween p last (drop i ls) → (BeginsAt p (drop i ls) → ⊥) →
    i ≤ length ls → i + p < length ls + last → RisesBetween (p + 1) last (drop i ls)
rises-shared ls i p last rises none within more =
    rises-later p last (drop i ls) rises none (let long = length-drop i ls in omega arith)

-- nothing is left where all is passed
pub unwoven-end : (ls : List Local) (ks : List Entry) (i p : ℕ) → i ≤ length ls → p ≤ length ks →
    i + p ≡ length ls + length ks → unwoven ls ks i p ≡ []
unwoven-end ls ks i p one two all =
    let locals : i ≡ length ls = omega arith in
    let shared : p ≡ length ks = omega arith in
    ap (λ n. unwoven ls ks n p) locals ∙ ap (λ n. unwoven ls ks (length ls) n) shared ∙
    ap (λ xs. weave_from (length ks) xs (drop (length ks) ks)) (drop-length ls) ∙
    ap (weave_from (length ks) []) (drop-length ks)

-- a line more was added
pub owes_line : {start now next : Stand} (whole : List ℕ) (texts : List (List ℕ)) (n : ℕ) (x : Entry) (entries rest : List Entry) →
    entries ≡ x ∷ rest → Owes start whole now (lines_from texts n entries) → Adds now (line texts n x) next →
    Owes start whole next (lines_from texts (n + 1) rest)
owes_line {now = now} whole texts n x entries rest next owes one = record {
  finishes = λ end more.
      let P : List Entry → Type 0 = λ es. Adds now (lines_from texts n es) end in
      owes.finishes end (subst P (sym next) (adds_then one more));
}

-- the last line was added
pub owes_none : {start now : Stand} (whole : List ℕ) (texts : List (List ℕ)) (n : ℕ) (entries : List Entry) → entries ≡ [] →
    Owes start whole now (lines_from texts n entries) → Adds start whole now
owes_none {now = now} whole texts n entries none owes =
    let P : List Entry → Type 0 = λ es. Adds now (lines_from texts n es) now in
    owes.finishes now (subst P (sym none) (adds_none now))

-- an entry of the journal below the place from which it rises
pub falls-below : (least last : ℕ) (ls : List Local) (i : ℕ) (d : Local) → i < length ls → (get_or ls i d).at < least →
    RisesBetween least last (drop i ls) → ⊥
falls-below least last ls i d within below rises =
    let P : List Local → Type 0 = λ xs. RisesBetween least last xs in
    let cut = subst P (drop_more ls i d within) rises in
    let from = cut.0 in omega arith

-- and one above the last place
pub falls-above : (least last : ℕ) (ls : List Local) (i : ℕ) (d : Local) → i < length ls → last < (get_or ls i d).at →
    RisesBetween least last (drop i ls) → ⊥
falls-above least last ls i d within above rises =
    let P : List Local → Type 0 = λ xs. RisesBetween least last xs in
    let cut = subst P (drop_more ls i d within) rises in
    let to = bounds-rise (get_or ls i d).at last (drop (i + 1) ls) cut.1 in omega arith
