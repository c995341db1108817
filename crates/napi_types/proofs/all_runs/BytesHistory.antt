-- What was told of buffers and views, as lists, and what one thing more makes of them; and the byte at a place.
use Rattle.std.proofs.Common.{◌≡◌, ◌∙◌, ℕ, zero, suc, ◌+◌, ◌-◌, ◌%◌, ◌/◌, ◌^◌, ◌==◌, ◌<◌, Bool, true, false, ◌&&◌, cond, List, [], ◌∷◌, ◌++◌, flat_map, Option, Some, None, refl, ap, sym, subst, arith}
use Rattle.std.specs.Int.{byte_at}
use Rattle.std.specs.List.{All, last_or}
use Rattle.std.specs.Option.{unwrap_or}
use Rattle.std.proofs.lemmas.List.{append-nil, flat_map_more}
use Rattle.std.proofs.lemmas.List.Elements.{All-head, All-tail}
use Rattle.napi_types.specs.plain.Lists.{found, has}
use Rattle.napi_types.specs.all_runs.SharedBytes as told
use Rattle.napi_types.specs.all_runs.SharedBytes.{BufferFact, MadeBuffer, MadeView, WrittenElement, buffer_in_fact, view_in_fact, written_in_fact, detached_in_fact, all_buffers, all_views, all_written, all_detached, lies_on, element_place, put_through, bytes_put}
use Rattle.napi_types.proofs.all_runs.PromiseHistory.{found-of, found-still}

-- what was told so far
pub record BytesHistory : Type 0 where
  pub made : List MadeBuffer
  pub views : List MadeView
  pub written : List WrittenElement
  pub detached : List ℕ

abbrev pub bytes_history : List BufferFact → BytesHistory
bytes_history ts = record { made = all_buffers ts; views = all_views ts; written = all_written ts; detached = all_detached ts }

-- ONE THING MORE
abbrev of_four : List MadeBuffer → List MadeView → List WrittenElement → List ℕ → BytesHistory
of_four m v w d = record { made = m; views = v; written = w; detached = d }

same-four : (m n : List MadeBuffer) (v w : List MadeView) (a b : List WrittenElement) (d e : List ℕ) → m ≡ n → v ≡ w → a ≡ b → d ≡ e → of_four m v a d ≡ of_four n w b e
same-four m n v w a b d e one two three four = rw (one, two, three, four) refl

module _ (ts : List BufferFact) where
  with-more : {A : Type 0} (f : BufferFact → List A) (x : BufferFact) → flat_map f (ts ++ x ∷ []) ≡ flat_map f ts ++ f x
  with-more f x = sym (flat_map_more f [] ts x)

  with-none : {A : Type 0} (f : BufferFact → List A) (x : BufferFact) → f x ≡ [] → flat_map f (ts ++ x ∷ []) ≡ flat_map f ts
  with-none f x is = with-more f x ∙ ap (λ ys. flat_map f ts ++ ys) is ∙ append-nil (flat_map f ts)

  pub past-buffer : (b n : ℕ) → bytes_history (ts ++ told.MakesBuffer b n ∷ [])
      ≡ record (bytes_history ts) { made = all_buffers ts ++ record { buffer = b; length = n } ∷ [] }
  past-buffer b n =
      let x : BufferFact = told.MakesBuffer b n in
      same-four _ _ _ _ _ _ _ _ (with-more buffer_in_fact x) (with-none view_in_fact x refl) (with-none written_in_fact x refl) (with-none detached_in_fact x refl)

  pub past-view : (w : MadeView) → bytes_history (ts ++ told.MakesView w ∷ []) ≡ record (bytes_history ts) { views = all_views ts ++ w ∷ [] }
  past-view w =
      let x : BufferFact = told.MakesView w in
      same-four _ _ _ _ _ _ _ _ (with-none buffer_in_fact x refl) (with-more view_in_fact x) (with-none written_in_fact x refl) (with-none detached_in_fact x refl)

  pub past-written : (v at n : ℕ) → bytes_history (ts ++ told.Writes v at n ∷ [])
      ≡ record (bytes_history ts) { written = all_written ts ++ record { view = v; at = at; number = n } ∷ [] }
  past-written v at n =
      let x : BufferFact = told.Writes v at n in
      same-four _ _ _ _ _ _ _ _ (with-none buffer_in_fact x refl) (with-none view_in_fact x refl) (with-more written_in_fact x) (with-none detached_in_fact x refl)

  pub past-read : (v at n : ℕ) → bytes_history (ts ++ told.Reads v at n ∷ []) ≡ bytes_history ts
  past-read v at n =
      let x : BufferFact = told.Reads v at n in
      same-four _ _ _ _ _ _ _ _ (with-none buffer_in_fact x refl) (with-none view_in_fact x refl) (with-none written_in_fact x refl) (with-none detached_in_fact x refl)

  pub past-detached : (b : ℕ) → bytes_history (ts ++ told.Detaches b ∷ []) ≡ record (bytes_history ts) { detached = all_detached ts ++ b ∷ [] }
  past-detached b =
      let x : BufferFact = told.Detaches b in
      same-four _ _ _ _ _ _ _ _ (with-none buffer_in_fact x refl) (with-none view_in_fact x refl) (with-none written_in_fact x refl) (with-more detached_in_fact x)

  pub past-measured : (b n : ℕ) → bytes_history (ts ++ told.Measures b n ∷ []) ≡ bytes_history ts
  past-measured b n =
      let x : BufferFact = told.Measures b n in
      same-four _ _ _ _ _ _ _ _ (with-none buffer_in_fact x refl) (with-none view_in_fact x refl) (with-none written_in_fact x refl) (with-none detached_in_fact x refl)

-- THE BYTE AT A PLACE
-- the last byte that was put there, 0 where none was
abbrev pub byte_of : List MadeView → List WrittenElement → ℕ → ℕ → ℕ
byte_of views written b place = unwrap_or (last_or None (bytes_put views written b place)) 0

-- what a write puts there
abbrev pub put_by : List MadeView → ℕ → ℕ → WrittenElement → List ℕ
put_by views b place e = put_through b place e (found (λ (w : MadeView). w.view) e.view views)

last-joined : (o : Option ℕ) (xs ys : List ℕ) → last_or o (xs ++ ys) ≡ last_or (last_or o xs) ys
last-joined o [] ys = refl
last-joined o (x ∷ xs) ys = last-joined (Some x) xs ys

-- where more views are made nothing is put elsewhere
abbrev pub IsThroughOne : List MadeView → WrittenElement → Type 0
IsThroughOne views e = has (λ (w : MadeView). w.view) e.view views ≡ true

same-put : (views more : List MadeView) (b place : ℕ) (e : WrittenElement) → IsThroughOne views e → put_by (views ++ more) b place e ≡ put_by views b place e
same-put views more b place e through =
    let it = found-of (λ (w : MadeView). w.view) e.view views through in
    ap (put_through b place e) (found-still (λ (w : MadeView). w.view) e.view views more it.0 it.1 ∙ sym it.1)

same-puts : (views more : List MadeView) (written : List WrittenElement) (b place : ℕ) → All (IsThroughOne views) written
    → bytes_put (views ++ more) written b place ≡ bytes_put views written b place
same-puts views more [] b place all = refl
same-puts views more (e ∷ written) b place all =
    ap (λ xs. xs ++ bytes_put (views ++ more) written b place) (same-put views more b place e (All-head (IsThroughOne views) e written all))
    ∙ ap (λ xs. put_by views b place e ++ xs) (same-puts views more written b place (All-tail (IsThroughOne views) e written all))

pub byte-still : (views more : List MadeView) (written : List WrittenElement) (b place : ℕ) → All (IsThroughOne views) written
    → byte_of (views ++ more) written b place ≡ byte_of views written b place
byte-still views more written b place all = ap (λ xs. unwrap_or (last_or None xs) 0) (same-puts views more written b place all)

-- where nothing was put the byte is 0
pub byte-none : (views : List MadeView) (written : List WrittenElement) (b place : ℕ) → All (λ e. put_by views b place e ≡ []) written → byte_of views written b place ≡ 0
byte-none views written b place all = ap (λ xs. unwrap_or (last_or None xs) 0) (none written all)
  where
    none : (written : List WrittenElement) → All (λ e. put_by views b place e ≡ []) written → bytes_put views written b place ≡ []
    none [] all = refl
    none (e ∷ written) all =
        ap (λ xs. xs ++ bytes_put views written b place) (All-head (λ e. put_by views b place e ≡ []) e written all)
        ∙ none written (All-tail (λ e. put_by views b place e ≡ []) e written all)

-- one write more puts its byte, or leaves the one that was there
pub byte-more : (views : List MadeView) (written : List WrittenElement) (e : WrittenElement) (b place : ℕ)
    → byte_of views (written ++ e ∷ []) b place ≡ unwrap_or (last_or None (put_by views b place e)) (byte_of views written b place)
byte-more views written e b place =
    ap (λ xs. unwrap_or (last_or None xs) 0) (sym (flat_map_more (put_by views b place) [] written e))
    ∙ ap (λ o. unwrap_or o 0) (last-joined None (bytes_put views written b place) (put_by views b place e))
    ∙ by (found (λ (w : MadeView). w.view) e.view views) (last_or None (bytes_put views written b place))
  where
    each : (c : Bool) (x : ℕ) (o : Option ℕ) → unwrap_or (last_or o (cond c (x ∷ []) [])) 0 ≡ unwrap_or (last_or None (cond c (x ∷ []) [])) (unwrap_or o 0)
    each true x o = refl
    each false x o = refl

    by : (w : Option MadeView) (o : Option ℕ) → unwrap_or (last_or o (put_through b place e w)) 0 ≡ unwrap_or (last_or None (put_through b place e w)) (unwrap_or o 0)
    by None o = refl
    by (Some w) o = each ((w.buffer == b) && lies_on w e.at place) (byte_at (place - element_place w e.at) e.number) o

-- it is a byte
byte_at-small : (k n : ℕ) → byte_at k n < 256
byte_at-small zero n = omega arith
byte_at-small (suc k) n = let m : ℕ = n / 256 ^ suc k in omega arith

pub byte-small : (views : List MadeView) (written : List WrittenElement) (b place : ℕ) → byte_of views written b place < 256
byte-small views written b place = at None written (omega arith)
  where
    each : (c : Bool) (x : ℕ) (o : Option ℕ) → x < 256 → unwrap_or o 0 < 256 → unwrap_or (last_or o (cond c (x ∷ []) [])) 0 < 256
    each true x o below was = below
    each false x o below was = was

    by : (e : WrittenElement) (w : Option MadeView) (o : Option ℕ) → unwrap_or o 0 < 256 → unwrap_or (last_or o (put_through b place e w)) 0 < 256
    by e None o was = was
    by e (Some w) o was =
        each ((w.buffer == b) && lies_on w e.at place) (byte_at (place - element_place w e.at) e.number) o (byte_at-small (place - element_place w e.at) e.number) was

    at : (o : Option ℕ) (written : List WrittenElement) → unwrap_or o 0 < 256 → unwrap_or (last_or o (bytes_put views written b place)) 0 < 256
    at o [] was = was
    at o (e ∷ written) was =
        subst (λ p. unwrap_or p 0 < 256) (sym (last-joined o (put_by views b place e) (bytes_put views written b place)))
        (at (last_or o (put_by views b place e)) written (by e (found (λ (w : MadeView). w.view) e.view views) o was))
