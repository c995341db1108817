-- What the readings of lists know of a list of values, and of one value more.
use Rattle.std.proofs.Common.{◌≡◌, ◌+◌, ◌<◌, ◌≤◌, ℕ, suc, List, [], ◌∷◌, ◌++◌, length, drop, get_or, String, Global, Ok, Err, refl, sym, ap, subst, ◌∙◌, append_assoc, add-one, drop-cons}
use Rattle.std.proofs.lemmas.List.{append-nil, drop_all}
use Rattle.serde_json.specs.Data.{Data}
use Rattle.serde_json.specs.Events.{items_len, members_len}
use Rattle.serde_json.specs.View.{view, items_view, members_view}
use Rattle.serde_json.specs.declared.value.Value.{Value}
use Rattle.serde_json.proofs.Views.{items_len-items_view, members_len-members_view}
use Rattle.napi_types.specs.declared.script.Mistake.{Mistake}
use Rattle.napi_types.specs.scripts.ScriptReading.{Table, Reading, Read, read_with, each, every, ◌>>=◌}
use Rattle.script_read.specs.ReadLists.{onto, before}
use Rattle.script_read.specs.Reads.{Stops}
use Rattle.script_read.specs.declared.json.ReadingStop.{ReadingStop}
use Rattle.script_read.specs.declared.json.ReadingStop.TheVariants as stop

pub items_len_of : (vs : List Value) → items_len (items_view vs) ≡ length vs
items_len_of vs = items_len-items_view vs

pub members_len_of : (ms : List (String Global × Value)) → members_len (members_view ms) ≡ length ms
members_len_of ms = members_len-members_view ms

-- from one place on
from-here : (vs : List Value) (n : ℕ) (v : Value) → n < length vs → v ≡ get_or vs n v → drop n vs ≡ v ∷ drop (n + 1) vs
from-here vs n v within here = rw add-one (drop-cons vs n v within ∙ ap (λ x. x ∷ drop (suc n) vs) (sym here))

-- LISTS THAT TAKE TEXTS
-- a member that was read, and behind it what the rest reads
onto-more : {A : Type 0} (xs : List A) (a : A) (r : Reading (Read (List A))) (whole : Reading (Read (List A)))
    → onto xs (onto (a ∷ []) r) ≡ whole → onto (xs ++ a ∷ []) r ≡ whole
onto-more xs a (Ok r) whole h = ap (λ ys. Ok (read_with r.texts ys)) (append_assoc xs (a ∷ []) r.found) ∙ h
onto-more xs a (Err w) whole h = h

onto-first : {A : Type 0} (a : A) (r : Reading (Read (List A))) → (r >>= λ rest. Ok (read_with rest.texts (a ∷ rest.found))) ≡ onto (a ∷ []) r
onto-first a (Ok r) = refl
onto-first a (Err w) = refl

onto-none : {A : Type 0} (xs : List A) (t : Table) → onto xs (Ok (read_with t [])) ≡ Ok (read_with t xs)
onto-none xs t = ap (λ ys. Ok (read_with t ys)) (append-nil xs)

each-more : {A : Type 0} (f : ℕ → Table → Data → Reading (Read A)) (n : ℕ) (t u : Table) (v : Value) (vs : List Value) (a : A)
    → f n t (view v) ≡ Ok (read_with u a) → each f n t (items_view (v ∷ vs)) ≡ onto (a ∷ []) (each f (n + 1) u (items_view vs))
unfolding each
each-more f n t u v vs a e = rw e (onto-first a (each f (n + 1) u (items_view vs)))

each-wrong : {A : Type 0} (f : ℕ → Table → Data → Reading (Read A)) (n : ℕ) (t : Table) (v : Value) (vs : List Value) (w : Mistake)
    → f n t (view v) ≡ Err w → each f n t (items_view (v ∷ vs)) ≡ Err w
unfolding each
each-wrong f n t v vs w e = rw e refl

each-empty : {A : Type 0} (f : ℕ → Table → Data → Reading (Read A)) (n : ℕ) (t : Table) → each f n t (items_view []) ≡ Ok (read_with t [])
unfolding each
each-empty f n t = refl

pub each-next : {A : Type 0} (f : ℕ → Table → Data → Reading (Read A)) (xs ys : List A) (t u : Table) (vs : List Value) (n : ℕ) (v : Value) (a : A) (whole : Reading (Read (List A)))
    → n < length vs → v ≡ get_or vs n v → f n t (view v) ≡ Ok (read_with u a) → ys ≡ xs ++ a ∷ []
    → onto xs (each f n t (items_view (drop n vs))) ≡ whole → onto ys (each f (n + 1) u (items_view (drop (n + 1) vs))) ≡ whole
each-next {A} f xs ys t u vs n v a whole within here e grown h =
    let P : List Value → Type 0 = λ l. onto xs (each f n t (items_view l)) ≡ whole in
    let Q : List A → Type 0 = λ l. onto l (each f (n + 1) u (items_view (drop (n + 1) vs))) ≡ whole in
    subst Q (sym grown) (onto-more xs a _ whole (ap (onto xs) (sym (each-more f n t u v (drop (n + 1) vs) a e)) ∙ subst P (from-here vs n v within here) h))

each-stops : {A : Type 0} (f : ℕ → Table → Data → Reading (Read A)) (xs : List A) (t : Table) (vs : List Value) (n : ℕ) (v : Value) (w : Mistake) (whole : Reading (Read (List A)))
    → n < length vs → v ≡ get_or vs n v → f n t (view v) ≡ Err w
    → onto xs (each f n t (items_view (drop n vs))) ≡ whole → whole ≡ Err w
each-stops f xs t vs n v w whole within here e h =
    let P : List Value → Type 0 = λ l. onto xs (each f n t (items_view l)) ≡ whole in
    sym (subst P (from-here vs n v within here) h) ∙ ap (onto xs) (each-wrong f n t v (drop (n + 1) vs) w e)

pub each-stopped : {A : Type 0} (f : ℕ → Table → Data → Reading (Read A)) (xs : List A) (t : Table) (vs : List Value) (n : ℕ) (v : Value) (s : ReadingStop) (whole : Reading (Read (List A)))
    → n < length vs → v ≡ get_or vs n v → Stops s (f n t (view v)) → onto xs (each f n t (items_view (drop n vs))) ≡ whole → Stops s whole
each-stopped f xs t vs n v (stop.Mistake w) whole within here e h = each-stops f xs t vs n v w whole within here e h
each-stopped f xs t vs n v stop.NoMemory whole within here e h = tt
each-stopped f xs t vs n v stop.NotJson whole within here e h = absurd e

pub each-ends : {A : Type 0} (f : ℕ → Table → Data → Reading (Read A)) (xs : List A) (t : Table) (vs : List Value) (n : ℕ) (whole : Reading (Read (List A)))
    → length vs ≤ n → onto xs (each f n t (items_view (drop n vs))) ≡ whole → whole ≡ Ok (read_with t xs)
each-ends f xs t vs n whole past h =
    let P : List Value → Type 0 = λ l. onto xs (each f n t (items_view l)) ≡ whole in
    sym (subst P (drop_all n vs past) h) ∙ (ap (onto xs) (each-empty f n t) ∙ onto-none xs t)

-- LISTS WITHOUT TEXTS
before-more : {A : Type 0} (xs : List A) (a : A) (r : Reading (List A)) (whole : Reading (List A)) → before xs (before (a ∷ []) r) ≡ whole → before (xs ++ a ∷ []) r ≡ whole
before-more xs a (Ok r) whole h = ap Ok (append_assoc xs (a ∷ []) r) ∙ h
before-more xs a (Err w) whole h = h

before-first : {A : Type 0} (a : A) (r : Reading (List A)) → (r >>= λ rest. Ok (a ∷ rest)) ≡ before (a ∷ []) r
before-first a (Ok r) = refl
before-first a (Err w) = refl

before-none : {A : Type 0} (xs : List A) → before xs (Ok []) ≡ Ok xs
before-none xs = ap Ok (append-nil xs)

every-more : {A : Type 0} (f : ℕ → Data → Reading A) (n : ℕ) (v : Value) (vs : List Value) (a : A)
    → f n (view v) ≡ Ok a → every f n (items_view (v ∷ vs)) ≡ before (a ∷ []) (every f (n + 1) (items_view vs))
unfolding every
every-more f n v vs a e = rw e (before-first a (every f (n + 1) (items_view vs)))

every-wrong : {A : Type 0} (f : ℕ → Data → Reading A) (n : ℕ) (v : Value) (vs : List Value) (w : Mistake) → f n (view v) ≡ Err w
    → every f n (items_view (v ∷ vs)) ≡ Err w
unfolding every
every-wrong f n v vs w e = rw e refl

every-empty : {A : Type 0} (f : ℕ → Data → Reading A) (n : ℕ) → every f n (items_view []) ≡ Ok []
unfolding every
every-empty f n = refl

pub every-next : {A : Type 0} (f : ℕ → Data → Reading A) (xs ys : List A) (vs : List Value) (n : ℕ) (v : Value) (a : A) (whole : Reading (List A))
    → n < length vs → v ≡ get_or vs n v → f n (view v) ≡ Ok a → ys ≡ xs ++ a ∷ []
    → before xs (every f n (items_view (drop n vs))) ≡ whole → before ys (every f (n + 1) (items_view (drop (n + 1) vs))) ≡ whole
every-next {A} f xs ys vs n v a whole within here e grown h =
    let P : List Value → Type 0 = λ l. before xs (every f n (items_view l)) ≡ whole in
    let Q : List A → Type 0 = λ l. before l (every f (n + 1) (items_view (drop (n + 1) vs))) ≡ whole in
    subst Q (sym grown) (before-more xs a _ whole (ap (before xs) (sym (every-more f n v (drop (n + 1) vs) a e)) ∙ subst P (from-here vs n v within here) h))

every-stops : {A : Type 0} (f : ℕ → Data → Reading A) (xs : List A) (vs : List Value) (n : ℕ) (v : Value) (w : Mistake) (whole : Reading (List A))
    → n < length vs → v ≡ get_or vs n v → f n (view v) ≡ Err w → before xs (every f n (items_view (drop n vs))) ≡ whole → whole ≡ Err w
every-stops f xs vs n v w whole within here e h =
    let P : List Value → Type 0 = λ l. before xs (every f n (items_view l)) ≡ whole in
    sym (subst P (from-here vs n v within here) h) ∙ ap (before xs) (every-wrong f n v (drop (n + 1) vs) w e)

pub every-stopped : {A : Type 0} (f : ℕ → Data → Reading A) (xs : List A) (vs : List Value) (n : ℕ) (v : Value) (s : ReadingStop) (whole : Reading (List A))
    → n < length vs → v ≡ get_or vs n v → Stops s (f n (view v)) → before xs (every f n (items_view (drop n vs))) ≡ whole → Stops s whole
every-stopped f xs vs n v (stop.Mistake w) whole within here e h = every-stops f xs vs n v w whole within here e h
every-stopped f xs vs n v stop.NoMemory whole within here e h = tt
every-stopped f xs vs n v stop.NotJson whole within here e h = absurd e

pub every-ends : {A : Type 0} (f : ℕ → Data → Reading A) (xs : List A) (vs : List Value) (n : ℕ) (whole : Reading (List A))
    → length vs ≤ n → before xs (every f n (items_view (drop n vs))) ≡ whole → whole ≡ Ok xs
every-ends f xs vs n whole past h =
    let P : List Value → Type 0 = λ l. before xs (every f n (items_view l)) ≡ whole in
    sym (subst P (drop_all n vs past) h) ∙ (ap (before xs) (every-empty f n) ∙ before-none xs)
