-- The limits, as buffers and views change.
use Rattle.std.proofs.Common.{◌≡◌, ◌∙◌, ℕ, ◌+◌, ◌≤◌, ◌==◌, Bool, true, false, not, cond, List, [], ◌∷◌, length, replicate, Option, Some, None, IsSomeAnd, option_map, refl, ap, sym, subst, arith}
use Rattle.std.specs.Option.{option_and_then, option_map_or}
use Rattle.std.proofs.lemmas.Bool.{or_parts}
use Rattle.std.proofs.lemmas.List.{length-replicate}
use Rattle.napi_types.specs.plain.Lists.{found, has}
use Rattle.napi_types.proofs.plain.Found.{IsRising, same-tells, same-self, turned, found-number, found-with_record, found-filter, found-map}
use Rattle.napi_types.specs.declared.view.ViewInfo.{ViewInfo}
use Rattle.napi_types.specs.parts.Buffers.{ArrayBuffer, BufferView, Buffers, most_buffer_bytes, most_bytes_together, IsElementSize, buffer_at, view_at, is_viewed, buffer_bytes, buffer_length, total_bytes, live_bytes, view_end, with_buffer, with_view, buffer_changed_at, without_buffer, LiesInBuffer, AreWithinLimits}
use Rattle.array_buffers.proofs.BufferSums.{sum-with_record, sum-without, sum-changed}

-- LENGTHS
live-length : (bs : List ℕ) (o : Option ArrayBuffer) → option_and_then (λ r. r.bytes) o ≡ Some bs → option_map buffer_bytes o ≡ Some (length bs)
live-length bs None is = let no : ⊥ = cc in absurd no
live-length bs (Some r) is = ap (λ p. Some (option_map_or length p 0)) is

bounded : (most n : ℕ) (o : Option ArrayBuffer) → ((bs : List ℕ) → option_and_then (λ r. r.bytes) o ≡ Some bs → length bs ≤ most) → option_map buffer_bytes o ≡ Some n → n ≤ most
bounded most n None each is = let no : ⊥ = cc in absurd no
bounded most n (Some r) each is = at r.bytes refl
  where
    here : buffer_bytes r ≡ n
    here = cc

    at : (p : Option (List ℕ)) → r.bytes ≡ p → n ≤ most
    at None none = omega (arith, here, ap (λ p. option_map_or length p 0) none)
    at (Some bs) some = omega (arith, here, ap (λ p. option_map_or length p 0) some, each bs some)

-- no view lies in a buffer that none is said to lie in
unviewed : (v u : ℕ) (about : ViewInfo) (ws : List BufferView) → has (λ w. w.about.buffer.0) v ws ≡ false → option_map (λ w. w.about) (found (λ w. w.value) u ws) ≡ Some about → (about.buffer.0 == v) ≡ false
unviewed v u about [] none is = let no : ⊥ = cc in absurd no
unviewed v u about (w ∷ ws) none is =
    let parts = or_parts (w.about.buffer.0 == v) (has (λ x. x.about.buffer.0) v ws) none in
    by (w.value == u) is parts.0 (unviewed v u about ws parts.1)
  where
    by : (c : Bool) → option_map (λ x. x.about) (cond c (Some w) (found (λ x. x.value) u ws)) ≡ Some about → (w.about.buffer.0 == v) ≡ false
        → (option_map (λ x. x.about) (found (λ x. x.value) u ws) ≡ Some about → (about.buffer.0 == v) ≡ false) → (about.buffer.0 == v) ≡ false
    by true here apart rest = let same : w.about ≡ about = cc in ap (λ (x : ViewInfo). x.buffer.0 == v) (sym same) ∙ apart
    by false later apart rest = rest later

-- NOTHING GROWS
-- each buffer that has bytes had as many, each view was there, and the sum is no higher
pub record Shrinks (b c : Buffers) : Type 0 where
  pub bytes : (v : ℕ) (bs : List ℕ) → live_bytes c v ≡ Some bs → (ds : List ℕ) × (live_bytes b v ≡ Some ds) × (length ds ≡ length bs)
  pub views : (v : ℕ) (about : ViewInfo) → view_at c v ≡ Some about → view_at b v ≡ Some about
  pub together : total_bytes c ≤ total_bytes b

pub limits-shrunk : (b c : Buffers) → Shrinks b c → AreWithinLimits b → AreWithinLimits c
limits-shrunk b c shrinks limits = record {
  each = λ v n is. bounded most_buffer_bytes n (buffer_at c v)
      (λ bs live. let was = shrinks.bytes v bs live in omega (arith, was.2, limits.each v (length was.0) (live-length was.0 (buffer_at b v) was.1))) is;
  together = omega (arith, shrinks.together, limits.together);
  views = λ v about is.
      let lies = limits.views v about (shrinks.views v about is) in
      record {
        size = lies.size;
        within = λ bs live. let was = shrinks.bytes about.buffer.0 bs live in omega (arith, was.2, lies.within was.0 was.1);
      };
}

-- A BUFFER COMES
module _ (b : Buffers) (rises : IsRising (λ r. r.value) b.buffers) (v size : ℕ) (ticket : Option ℕ) (none : buffer_at b v ≡ None) where
  abbrev made : Buffers
  made = with_buffer v size ticket b

  abbrev new : ArrayBuffer
  new = record { value = v; bytes = Some (replicate size 0); ticket = ticket }

  pub total-made : total_bytes made ≡ total_bytes b + size
  total-made = sum-with_record (λ r. r.value) buffer_bytes new b.buffers rises none ∙ ap (λ n. total_bytes b + n) (length-replicate size 0)

  live-made : (w : ℕ) → live_bytes made w ≡ cond (v == w) (Some (replicate size 0)) (live_bytes b w)
  live-made w = ap (option_and_then (λ r. r.bytes)) (found-with_record (λ r. r.value) w new b.buffers) ∙ by (v == w)
    where
      by : (c : Bool) → option_and_then (λ r. r.bytes) (cond c (Some new) (buffer_at b w)) ≡ cond c (Some (replicate size 0)) (live_bytes b w)
      by true = refl
      by false = refl

  pub limits-made : AreWithinLimits b → size ≤ most_buffer_bytes → total_bytes b + size ≤ most_bytes_together → is_viewed b v ≡ false → AreWithinLimits made
  limits-made limits few together unseen = record {
    each = λ w n is. bounded most_buffer_bytes n (buffer_at made w) (λ bs live. few-bytes w bs (v == w) (sym (live-made w) ∙ live)) is;
    together = omega (arith, total-made, together);
    views = λ w about is. record {
      size = (limits.views w about is).size;
      within = λ bs live. (limits.views w about is).within bs
          (sym (ap (λ c. cond c (Some (replicate size 0)) (live_bytes b about.buffer.0)) (turned-apart about (unviewed v w about b.views unseen is))) ∙ sym (live-made about.buffer.0) ∙ live);
    };
  }
    where
      few-bytes : (w : ℕ) (bs : List ℕ) (c : Bool) → cond c (Some (replicate size 0)) (live_bytes b w) ≡ Some bs → length bs ≤ most_buffer_bytes
      few-bytes w bs true is = let zeros : replicate size 0 ≡ bs = cc in subst (λ ns. length ns ≤ most_buffer_bytes) zeros (omega (arith, few, length-replicate {A = ℕ} size 0))
      few-bytes w bs false is = limits.each w (length bs) (live-length bs (buffer_at b w) is)

      turned-apart : (about : ViewInfo) → (about.buffer.0 == v) ≡ false → (v == about.buffer.0) ≡ false
      turned-apart about apart = turned v about.buffer.0 ∙ apart

-- A VIEW COMES
pub limits-viewed : (b : Buffers) (v : ℕ) (about : ViewInfo) → AreWithinLimits b → IsElementSize about.size → IsSomeAnd (buffer_length b about.buffer.0) (λ end. view_end about ≤ end) → AreWithinLimits (with_view v about b)
limits-viewed b v about limits size lies = record {
  each = limits.each;
  together = limits.together;
  views = λ w x is. let it = each w x (v == w) (sym (seen w) ∙ is) in record { size = it.size; within = it.within };
}
  where
    seen : (w : ℕ) → view_at (with_view v about b) w ≡ cond (v == w) (Some about) (view_at b w)
    seen w = ap (option_map (λ u. u.about)) (found-with_record (λ u. u.value) w (record { value = v; about = about }) b.views) ∙ by (v == w)
      where
        by : (c : Bool) → option_map (λ (u : BufferView). u.about) (cond c (Some (record { value = v; about = about })) (found (λ u. u.value) w b.views)) ≡ cond c (Some about) (view_at b w)
        by true = refl
        by false = refl

    new : (bs : List ℕ) → live_bytes b about.buffer.0 ≡ Some bs → view_end about ≤ length bs
    new bs live = subst (λ o. IsSomeAnd o (λ end. view_end about ≤ end)) (live-length bs (buffer_at b about.buffer.0) live) lies

    each : (w : ℕ) (x : ViewInfo) (c : Bool) → cond c (Some about) (view_at b w) ≡ Some x → LiesInBuffer x b
    each w x true is = let same : about ≡ x = cc in subst (λ y. LiesInBuffer y b) same (record { size = size; within = new })
    each w x false is = limits.views w x is

-- A BUFFER GETS OTHER BYTES
module _ (b : Buffers) (rises : IsRising (λ r. r.value) b.buffers) (v : ℕ) (change : Option (List ℕ) → Option (List ℕ)) where
  abbrev changed : Buffers
  changed = buffer_changed_at change v b

  abbrev at_value : ArrayBuffer → ArrayBuffer
  at_value r = cond (r.value == v) (record r { bytes = change r.bytes }) r

  keeps : (r : ArrayBuffer) → (at_value r).value ≡ r.value
  keeps r = by (r.value == v)
    where
      by : (c : Bool) → (cond c (record r { bytes = change r.bytes }) r).value ≡ r.value
      by true = refl
      by false = refl

  pub total-changed : total_bytes changed + option_map_or buffer_bytes (buffer_at b v) 0 ≡ total_bytes b + option_map_or (λ r. option_map_or length (change r.bytes) 0) (buffer_at b v) 0
  total-changed = sum-changed (λ r. r.value) buffer_bytes (λ r. record r { bytes = change r.bytes }) v b.buffers rises

  live-at : (w : ℕ) → live_bytes changed w ≡ option_and_then (λ r. (at_value r).bytes) (buffer_at b w)
  live-at w = ap (option_and_then (λ r. r.bytes)) (found-map (λ r. r.value) at_value keeps w b.buffers) ∙ by (buffer_at b w)
    where
      by : (o : Option ArrayBuffer) → option_and_then (λ r. r.bytes) (option_map at_value o) ≡ option_and_then (λ r. (at_value r).bytes) o
      by None = refl
      by (Some r) = refl

  pub live-changed : live_bytes changed v ≡ option_and_then (λ r. change r.bytes) (buffer_at b v)
  live-changed = live-at v ∙ by (buffer_at b v) (λ r there. found-number (λ q. q.value) v b.buffers r there)
    where
      by : (o : Option ArrayBuffer) → ((r : ArrayBuffer) → o ≡ Some r → r.value ≡ v) → option_and_then (λ r. (at_value r).bytes) o ≡ option_and_then (λ r. change r.bytes) o
      by None value = refl
      by (Some r) value = ap (λ c. (cond c (record r { bytes = change r.bytes }) r).bytes) (ap (λ n. n == v) (value r refl) ∙ same-self v)

  -- to as many
  pub shrinks-changed : ((r : ArrayBuffer) (bs : List ℕ) → buffer_at b v ≡ Some r → change r.bytes ≡ Some bs → (ds : List ℕ) × (r.bytes ≡ Some ds) × (length ds ≡ length bs))
      → option_map_or (λ r. option_map_or length (change r.bytes) 0) (buffer_at b v) 0 ≤ option_map_or buffer_bytes (buffer_at b v) 0 → Shrinks b changed
  shrinks-changed same less = record {
    bytes = λ w bs live. one w bs (buffer_at b w) refl (sym (live-at w) ∙ live);
    views = λ w about is. is;
    together = omega (arith, total-changed, less);
  }
    where
      one : (w : ℕ) (bs : List ℕ) (o : Option ArrayBuffer) → buffer_at b w ≡ o → option_and_then (λ r. (at_value r).bytes) o ≡ Some bs
          → (ds : List ℕ) × (live_bytes b w ≡ Some ds) × (length ds ≡ length bs)
      one w bs None is live = let no : ⊥ = cc in absurd no
      one w bs (Some r) is live = at (r.value == v) (same-tells r.value v) live
        where
          at : (c : Bool) → (c ≡ true → r.value ≡ v) → (cond c (record r { bytes = change r.bytes }) r).bytes ≡ Some bs → (ds : List ℕ) × (live_bytes b w ≡ Some ds) × (length ds ≡ length bs)
          at true value told =
              let here : w ≡ v = sym (found-number (λ q. q.value) w b.buffers r is) ∙ value refl in
              let it = same r bs (ap (buffer_at b) (sym here) ∙ is) told in
              (it.0, ap (option_and_then (λ q. q.bytes)) is ∙ it.1, it.2)
          at false value told = (bs, ap (option_and_then (λ q. q.bytes)) is ∙ told, refl)

-- A VALUE GOES
module _ (b : Buffers) (rises : IsRising (λ r. r.value) b.buffers) (v : ℕ) where
  pub total-gone : total_bytes (without_buffer v b) + option_map_or buffer_bytes (buffer_at b v) 0 ≡ total_bytes b
  total-gone = sum-without (λ r. r.value) buffer_bytes v b.buffers rises

  pub shrinks-gone : Shrinks b (without_buffer v b)
  shrinks-gone = record {
    bytes = λ w bs live. (bs, one w bs (not (w == v)) (sym (ap (option_and_then (λ r. r.bytes)) (found-filter (λ r. r.value) (λ n. not (n == v)) w b.buffers)) ∙ live), refl);
    views = λ w about is. other w about (not (w == v)) (sym (ap (option_map (λ u. u.about)) (found-filter (λ u. u.value) (λ n. not (n == v)) w b.views)) ∙ is);
    together = omega (arith, total-gone);
  }
    where
      one : (w : ℕ) (bs : List ℕ) (c : Bool) → option_and_then (λ r. r.bytes) (cond c (buffer_at b w) None) ≡ Some bs → live_bytes b w ≡ Some bs
      one w bs true is = is
      one w bs false is = let no : ⊥ = cc in absurd no

      other : (w : ℕ) (about : ViewInfo) (c : Bool) → option_map (λ u. u.about) (cond c (found (λ u. u.value) w b.views) None) ≡ Some about → view_at b w ≡ Some about
      other w about true is = is
      other w about false is = let no : ⊥ = cc in absurd no
