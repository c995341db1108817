-- What was told of buffers and views is what an environment holds of them: every change keeps it.
use Rattle.std.proofs.Common.{◌≡◌, ◌∙◌, ◌<◌, ◌≤◌, ℕ, zero, suc, ◌+◌, ◌-◌, ◌*◌, ◌==◌, nat_lt, nat_le, Bool, true, false, not, ◌&&◌, ◌||◌, cond, List, [], ◌∷◌, ◌++◌, map, filter, length, replicate, slice_index, Option, Some, None, is_none, is_some, option_map, IfSome, refl, ap, sym, subst, arith}
use Rattle.std.specs.Int.{byte_at, bytes_low_first}
use Rattle.std.specs.List.{All, last_or}
use Rattle.std.specs.Option.{unwrap_or}
use Rattle.std.proofs.lemmas.Bool.{eqb-true}
use Rattle.std.proofs.lemmas.Bool.Decides.{nat_tests}
use Rattle.std.proofs.lemmas.List.{length-replicate}
use Rattle.std.proofs.lemmas.List.Elements.{All-push, All-weaker, All-filter, All-map}
use Rattle.std.proofs.lemmas.List.Folds.{list_any-append}
use Rattle.std.proofs.lemmas.Option.{same_Some}
use Rattle.napi_types.specs.plain.Lists.{found, has, has_number, with_record}
use Rattle.napi_types.specs.parts.Buffers.{ArrayBuffer, BufferView, Buffers, IsElementSize, element_start, overwritten, with_buffer, with_view, buffer_changed_at, with_detached, buffers_left}
use Rattle.napi_types.specs.environment.Environment.{Environment}
use Rattle.napi_types.specs.all_runs.SharedBytes as told
use Rattle.napi_types.specs.all_runs.SharedBytes.{MadeBuffer, MadeView, WrittenElement, lies_on, element_place}
use Rattle.napi_types.proofs.parts.PlacedBytes.{low-byte, how-many, overwritten-at, length-over}
use Rattle.napi_types.proofs.plain.Found.{found-number, found-All, apart-below, same-self}
use Rattle.napi_types.proofs.plain.Maps.{All-with_record}
use Rattle.napi_types.proofs.all_runs.BytesHistory.{BytesHistory, byte_of, put_by, IsThroughOne, byte-still, byte-none, byte-more}
use Rattle.napi_types.proofs.all_runs.PromiseHistory.{found-of, has-of, found-still, found-push}
use Rattle.napi_types.proofs.all_runs.PromiseStates.{has-none}

-- WHAT IS HELD
-- what of an environment has to do with buffers
pub record StoredBytes : Type 0 where
  pub made : ℕ
  pub buffers : Buffers

abbrev pub stored : Environment → StoredBytes
stored e = record { made = e.heap.made; buffers = e.buffers }

abbrev pub buffer_of : ℕ → ℕ → MadeBuffer
buffer_of b n = record { buffer = b; length = n }

abbrev pub view_of : BufferView → MadeView
view_of w = record { view = w.value; buffer = w.about.buffer.0; size = w.about.size; offset = w.about.offset; length = w.about.length }

-- a buffer has as many bytes as were made, and they are those that were put there
pub record HoldsBytes (h : BytesHistory) (b n : ℕ) (bytes : List ℕ) : Type 0 where
  pub length : length bytes ≡ n
  pub each : (k : ℕ) → slice_index bytes k ≡ byte_of h.views h.written b k

pub record IsHeldBuffer (h : BytesHistory) (r : ArrayBuffer) : Type 0 where
  pub length : ℕ
  pub made : found (λ (m : MadeBuffer). m.buffer) r.value h.made ≡ Some (buffer_of r.value length)
  pub detached : has_number r.value h.detached ≡ is_none r.bytes
  pub bytes : IfSome r.bytes (HoldsBytes h r.value length)

abbrev pub IsHeldView : BytesHistory → BufferView → Type 0
IsHeldView h w = found (λ (m : MadeView). m.view) w.value h.views ≡ Some (view_of w)

-- a view that was made lies in its buffer
pub record LiesIn (made : List MadeBuffer) (w : MadeView) : Type 0 where
  pub size : IsElementSize w.size
  pub length : ℕ
  pub buffer : found (λ (m : MadeBuffer). m.buffer) w.buffer made ≡ Some (buffer_of w.buffer length)
  pub within : element_place w w.length ≤ length

pub record IsBytesOf (h : BytesHistory) (v : StoredBytes) : Type 0 where
  -- what was made and what was detached; each view lies in its buffer, and each element was written through a view
  pub below : All (λ m. m.buffer ≤ v.made) h.made
  pub viewed : All (λ w. w.view ≤ v.made) h.views
  pub detached : All (λ b. b ≤ v.made) h.detached
  pub lies : All (LiesIn h.made) h.views
  pub through : All (IsThroughOne h.views) h.written
  -- the buffers and the views that are held
  pub buffers : All (IsHeldBuffer h) v.buffers.buffers
  pub views : All (IsHeldView h) v.buffers.views

-- NOTHING IS TOLD
-- more values were made, and some buffers and views are gone
pub kept-grown : (h : BytesHistory) (v : StoredBytes) (made : ℕ) → v.made ≤ made → IsBytesOf h v → IsBytesOf h (record v { made = made })
kept-grown h v made grows k = record {
  below = All-weaker (λ (m : MadeBuffer). m.buffer ≤ v.made) (λ m. m.buffer ≤ made) (λ m is. omega (arith, is, grows)) h.made k.below;
  viewed = All-weaker (λ (w : MadeView). w.view ≤ v.made) (λ w. w.view ≤ made) (λ w is. omega (arith, is, grows)) h.views k.viewed;
  detached = All-weaker (λ (b : ℕ). b ≤ v.made) (λ b. b ≤ made) (λ b is. omega (arith, is, grows)) h.detached k.detached;
  lies = k.lies;
  through = k.through;
  buffers = k.buffers;
  views = k.views;
}

pub kept-left : (h : BytesHistory) (v : StoredBytes) (gone : ℕ → Bool) → IsBytesOf h v → IsBytesOf h (record v { buffers = buffers_left gone v.buffers })
kept-left h v gone k = record {
  below = k.below;
  viewed = k.viewed;
  detached = k.detached;
  lies = k.lies;
  through = k.through;
  buffers = All-filter (λ (r : ArrayBuffer). not (gone r.value)) (IsHeldBuffer h) v.buffers.buffers k.buffers;
  views = All-filter (λ (w : BufferView). not (gone w.value)) (IsHeldView h) v.buffers.views k.views;
}

-- A NEW VALUE
module _ (h : BytesHistory) (v : StoredBytes) (k : IsBytesOf h v) where
  abbrev p : ℕ
  p = v.made + 1

  below-none : {A : Type 0} (number : A → ℕ) (xs : List A) → All (λ x. number x ≤ v.made) xs → has number p xs ≡ false
  below-none number xs all =
      has-none number p xs (All-weaker (λ x. number x ≤ v.made) (λ x. (number x == p) ≡ false) (λ x is. apart-below (number x) p (omega (arith, is))) xs all)

  -- neither a buffer nor a view, and not detached
  pub new-among-buffers : has (λ (m : MadeBuffer). m.buffer) p h.made ≡ false
  new-among-buffers = below-none (λ (m : MadeBuffer). m.buffer) h.made k.below

  pub new-among-views : has (λ (w : MadeView). w.view) p h.views ≡ false
  new-among-views = below-none (λ (w : MadeView). w.view) h.views k.viewed

  new-live : has_number p h.detached ≡ false
  new-live = below-none (λ (b : ℕ). b) h.detached k.detached

  -- nothing was put there
  untouched : (place : ℕ) → byte_of h.views h.written p place ≡ 0
  untouched place =
      byte-none h.views h.written p place
      (All-weaker (IsThroughOne h.views) (λ e. put_by h.views p place e ≡ []) (λ e through. none e (found-of (λ (w : MadeView). w.view) e.view h.views through)) h.written k.through)
    where
      buffer-below : (w : MadeView) → LiesIn h.made w → w.buffer ≤ v.made
      buffer-below w lies = found-All (λ (m : MadeBuffer). m.buffer) (λ (m : MadeBuffer). m.buffer ≤ v.made) w.buffer h.made (buffer_of w.buffer lies.length) k.below lies.buffer

      none : (e : WrittenElement) → (w : MadeView) × (found (λ (w : MadeView). w.view) e.view h.views ≡ Some w) → put_by h.views p place e ≡ []
      none e it =
          let w : MadeView = it.0 in
          let lies : LiesIn h.made w = found-All (λ (w : MadeView). w.view) (LiesIn h.made) e.view h.views w k.lies it.1 in
          let apart : (w.buffer == p) ≡ false = apart-below w.buffer p (omega (arith, buffer-below w lies)) in
          ap (λ o. told.put_through p place e o) it.1
          ∙ ap (λ c. cond (c && lies_on w e.at place) (byte_at (place - element_place w e.at) e.number ∷ []) []) apart

  -- A BUFFER IS MADE
  module _ (n : ℕ) (t : Option ℕ) where
    abbrev history_with_buffer : BytesHistory
    history_with_buffer = record h { made = h.made ++ buffer_of p n ∷ [] }

    abbrev new_row : ArrayBuffer
    new_row = record { value = p; bytes = Some (replicate n 0); ticket = t }

    zeros : (m i : ℕ) → slice_index (replicate m 0) i ≡ 0
    zeros zero i = refl
    zeros (suc m) zero = refl
    zeros (suc m) (suc i) = zeros m i

    new-held : IsHeldBuffer history_with_buffer new_row
    new-held = record {
      length = n;
      made = found-push (λ (m : MadeBuffer). m.buffer) h.made (buffer_of p n) new-among-buffers;
      detached = new-live;
      bytes = record { length = length-replicate n 0; each = λ i. zeros n i ∙ sym (untouched i) };
    }

    still-held : (r : ArrayBuffer) → IsHeldBuffer h r → IsHeldBuffer history_with_buffer r
    still-held r it = record {
      length = it.length;
      made = found-still (λ (m : MadeBuffer). m.buffer) r.value h.made (buffer_of p n ∷ []) (buffer_of r.value it.length) it.made;
      detached = it.detached;
      bytes = by r.bytes it.bytes;
    }
      where
        by : (o : Option (List ℕ)) → IfSome o (HoldsBytes h r.value it.length) → IfSome o (HoldsBytes history_with_buffer r.value it.length)
        by None is = tt
        by (Some bytes) is = record { length = is.length; each = is.each }

    still-lies : (w : MadeView) → LiesIn h.made w → LiesIn history_with_buffer.made w
    still-lies w lies = record {
      size = lies.size;
      length = lies.length;
      buffer = found-still (λ (m : MadeBuffer). m.buffer) w.buffer h.made (buffer_of p n ∷ []) (buffer_of w.buffer lies.length) lies.buffer;
      within = lies.within;
    }

    pub kept-buffer : IsBytesOf history_with_buffer (record { made = p; buffers = with_buffer p n t v.buffers })
    kept-buffer = record {
      below = All-push (λ (m : MadeBuffer). m.buffer ≤ p) h.made (buffer_of p n) (kept-grown h v p (omega arith) k).below (omega arith);
      viewed = (kept-grown h v p (omega arith) k).viewed;
      detached = (kept-grown h v p (omega arith) k).detached;
      lies = All-weaker (LiesIn h.made) (LiesIn history_with_buffer.made) still-lies h.views k.lies;
      through = k.through;
      buffers = All-with_record (λ (r : ArrayBuffer). r.value) new_row (IsHeldBuffer history_with_buffer) v.buffers.buffers new-held
          (All-weaker (IsHeldBuffer h) (IsHeldBuffer history_with_buffer) still-held v.buffers.buffers k.buffers);
      views = k.views;
    }

  -- A VIEW IS MADE
  module _ (w : BufferView) (here : w.value ≡ p) (lies : LiesIn h.made (view_of w)) where
    abbrev history_with_view : BytesHistory
    history_with_view = record h { views = h.views ++ view_of w ∷ [] }

    viewed-held : (r : ArrayBuffer) → IsHeldBuffer h r → IsHeldBuffer history_with_view r
    viewed-held r it = record { length = it.length; made = it.made; detached = it.detached; bytes = by r.bytes it.bytes }
      where
        by : (o : Option (List ℕ)) → IfSome o (HoldsBytes h r.value it.length) → IfSome o (HoldsBytes history_with_view r.value it.length)
        by None is = tt
        by (Some bytes) is = record {
          length = is.length;
          each = λ i. is.each i ∙ sym (byte-still h.views (view_of w ∷ []) h.written r.value i k.through);
        }

    pub kept-view : IsBytesOf history_with_view (record { made = p; buffers = record (v.buffers) { views = with_record (λ (x : BufferView). x.value) w v.buffers.views } })
    kept-view = record {
      below = (kept-grown h v p (omega arith) k).below;
      viewed = All-push (λ (x : MadeView). x.view ≤ p) h.views (view_of w) (kept-grown h v p (omega arith) k).viewed (omega (arith, here));
      detached = (kept-grown h v p (omega arith) k).detached;
      lies = All-push (LiesIn h.made) h.views (view_of w) k.lies lies;
      through = All-weaker (IsThroughOne h.views) (IsThroughOne history_with_view.views) (λ e is.
          let it = found-of (λ (x : MadeView). x.view) e.view h.views is in
          has-of (λ (x : MadeView). x.view) e.view history_with_view.views it.0
          (found-still (λ (x : MadeView). x.view) e.view h.views (view_of w ∷ []) it.0 it.1)) h.written k.through;
      buffers = All-weaker (IsHeldBuffer h) (IsHeldBuffer history_with_view) viewed-held v.buffers.buffers k.buffers;
      views = All-with_record (λ (x : BufferView). x.value) w (IsHeldView history_with_view) v.buffers.views
          (found-push (λ (x : MadeView). x.view) h.views (view_of w) (ap (λ m. has (λ (x : MadeView). x.view) m h.views) here ∙ new-among-views))
          (All-weaker (IsHeldView h) (IsHeldView history_with_view)
          (λ x is. found-still (λ (y : MadeView). y.view) x.value h.views (view_of w ∷ []) (view_of x) is) v.buffers.views k.views);
    }

-- AN ELEMENT IS WRITTEN
module _ (h : BytesHistory) (v : StoredBytes) (k : IsBytesOf h v) (w : BufferView) (at number : ℕ) (seen : IsHeldView h w) (below : at < w.about.length) where
  abbrev written_now : WrittenElement
  written_now = record { view = w.value; at = at; number = number }

  abbrev history_written : BytesHistory
  history_written = record h { written = h.written ++ written_now ∷ [] }

  abbrev low_bytes : List ℕ
  low_bytes = bytes_low_first 0 w.about.size number

  its-view : LiesIn h.made (view_of w)
  its-view = found-All (λ (x : MadeView). x.view) (LiesIn h.made) w.value h.views (view_of w) k.lies seen

  puts : (b place : ℕ) → put_by h.views b place written_now
      ≡ cond ((w.about.buffer.0 == b) && lies_on (view_of w) at place) (byte_at (place - element_start w.about at) number ∷ []) []
  puts b place = ap (told.put_through b place written_now) seen

  -- the element lies in the bytes
  fits-in : (bytes : List ℕ) → length bytes ≡ its-view.length → element_start w.about at + length low_bytes ≤ length bytes
  fits-in bytes same = grind (arith, same, how-many 0 w.about.size number, its-view.within, below)

  -- the bytes of its buffer
  own-bytes : (b n : ℕ) (bytes : List ℕ) → (w.about.buffer.0 == b) ≡ true → n ≡ its-view.length → HoldsBytes h b n bytes
      → HoldsBytes history_written b n (overwritten (element_start w.about at) low_bytes bytes)
  own-bytes b n bytes own same it = record {
    length = length-over (element_start w.about at) low_bytes bytes (fits-in bytes (it.length ∙ same)) ∙ it.length;
    each = λ i.
        overwritten-at (element_start w.about at) low_bytes bytes i (fits-in bytes (it.length ∙ same))
        ∙ ap (λ m. cond (nat_le (element_start w.about at) i && nat_lt i (element_start w.about at + m)) (slice_index low_bytes (i - element_start w.about at)) (slice_index bytes i))
        (how-many 0 w.about.size number)
        ∙ by i (lies_on (view_of w) at i) refl (it.each i)
        ∙ sym (byte-more h.views h.written written_now b i ∙ ap (λ xs. unwrap_or (last_or None xs) (byte_of h.views h.written b i)) (puts b i
        ∙ ap (λ c. cond (c && lies_on (view_of w) at i) (byte_at (i - element_start w.about at) number ∷ []) []) own));
  }
    where
      by : (i : ℕ) (c : Bool) → lies_on (view_of w) at i ≡ c → slice_index bytes i ≡ byte_of h.views h.written b i
          → cond c (slice_index low_bytes (i - element_start w.about at)) (slice_index bytes i)
          ≡ unwrap_or (last_or None (cond c (byte_at (i - element_start w.about at) number ∷ []) [])) (byte_of h.views h.written b i)
      by i true is was =
          let first : 0 + (i - element_start w.about at) ≡ i - element_start w.about at = omega arith in
          low-byte 0 w.about.size number (i - element_start w.about at) (inside-below i is) ∙ ap (λ m. byte_at m number) first
        where
          inside-below : (i : ℕ) → (nat_le (element_start w.about at) i && nat_lt i (element_start w.about at + w.about.size)) ≡ true → i - element_start w.about at < w.about.size
          inside-below i is = grind (arith, nat_tests, is)
      by i false is was = was

  other-bytes : (b n : ℕ) (bytes : List ℕ) → (w.about.buffer.0 == b) ≡ false → HoldsBytes h b n bytes → HoldsBytes history_written b n bytes
  other-bytes b n bytes other it = record {
    length = it.length;
    each = λ i. it.each i
        ∙ sym (byte-more h.views h.written written_now b i ∙ ap (λ xs. unwrap_or (last_or None xs) (byte_of h.views h.written b i)) (puts b i
        ∙ ap (λ c. cond (c && lies_on (view_of w) at i) (byte_at (i - element_start w.about at) number ∷ []) []) other));
  }

  abbrev over : List ℕ → List ℕ
  over bytes = overwritten (element_start w.about at) low_bytes bytes

  abbrev changed_row : ArrayBuffer → ArrayBuffer
  changed_row r = cond (r.value == w.about.buffer.0) (record r { bytes = option_map over r.bytes }) r

  written-held : (r : ArrayBuffer) → IsHeldBuffer h r → (c : Bool) → (r.value == w.about.buffer.0) ≡ c
      → IsHeldBuffer history_written (cond c (record r { bytes = option_map over r.bytes }) r)
  written-held r it true own =
      let same : r.value ≡ w.about.buffer.0 = eqb-true r.value w.about.buffer.0 own in
      let back : (w.about.buffer.0 == r.value) ≡ true = ap (λ m. w.about.buffer.0 == m) same ∙ same-self w.about.buffer.0 in
      let lengths : it.length ≡ its-view.length =
      ap (λ (m : MadeBuffer). m.length) (same_Some (buffer_of r.value it.length) (buffer_of w.about.buffer.0 its-view.length)
      (sym it.made ∙ ap (λ m. found (λ (m : MadeBuffer). m.buffer) m h.made) same ∙ its-view.buffer)) in
      record {
        length = it.length;
        made = it.made;
        detached = it.detached ∙ none r.bytes;
        bytes = by back lengths r.bytes it.bytes;
      }
    where
      none : (o : Option (List ℕ)) → is_none o ≡ is_none (option_map over o)
      none None = refl
      none (Some bytes) = refl

      by : (w.about.buffer.0 == r.value) ≡ true → it.length ≡ its-view.length → (o : Option (List ℕ)) → IfSome o (HoldsBytes h r.value it.length)
          → IfSome (option_map over o) (HoldsBytes history_written r.value it.length)
      by back lengths None is = tt
      by back lengths (Some bytes) is = own-bytes r.value it.length bytes back lengths is
  written-held r it false other = record { length = it.length; made = it.made; detached = it.detached; bytes = by r.bytes it.bytes }
    where
      turned : (w.about.buffer.0 == r.value) ≡ false
      turned = grind (arith, other)

      by : (o : Option (List ℕ)) → IfSome o (HoldsBytes h r.value it.length) → IfSome o (HoldsBytes history_written r.value it.length)
      by None is = tt
      by (Some bytes) is = other-bytes r.value it.length bytes turned is

  pub kept-written : IsBytesOf history_written (record v { buffers = buffer_changed_at (option_map over) w.about.buffer.0 v.buffers })
  kept-written = record {
    below = k.below;
    viewed = k.viewed;
    detached = k.detached;
    lies = k.lies;
    through = All-push (IsThroughOne h.views) h.written written_now k.through (has-of (λ (x : MadeView). x.view) w.value h.views (view_of w) seen);
    buffers = All-map (IsHeldBuffer history_written) changed_row v.buffers.buffers
        (All-weaker (IsHeldBuffer h) (λ r. IsHeldBuffer history_written (changed_row r)) (λ r it. written-held r it (r.value == w.about.buffer.0) refl) v.buffers.buffers k.buffers);
    views = k.views;
  }

-- A BUFFER IS DETACHED
module _ (h : BytesHistory) (v : StoredBytes) (k : IsBytesOf h v) (b : ℕ) (old : b ≤ v.made) where
  abbrev history_detached : BytesHistory
  history_detached = record h { detached = h.detached ++ b ∷ [] }

  detached-more : (m : ℕ) → has_number m history_detached.detached ≡ cond (m == b) true (has_number m h.detached)
  detached-more m = list_any-append (λ n. n == m) h.detached (b ∷ []) ∙ by (has_number m h.detached) (m == b) (b == m) (turned)
    where
      turned : (b == m) ≡ (m == b)
      turned = grind arith

      by : (x c d : Bool) → d ≡ c → (x || (d || false)) ≡ cond c true x
      by true true d is = refl
      by true false d is = refl
      by false true d is = rw is refl
      by false false d is = rw is refl

  row-held : (r : ArrayBuffer) → IsHeldBuffer h r → (c : Bool) → (r.value == b) ≡ c → IsHeldBuffer history_detached (cond c (record r { bytes = None }) r)
  row-held r it true own =
      record { length = it.length; made = it.made; detached = detached-more r.value ∙ ap (λ c. cond c true (has_number r.value h.detached)) own; bytes = tt }
  row-held r it false other = record {
    length = it.length;
    made = it.made;
    detached = detached-more r.value ∙ ap (λ c. cond c true (has_number r.value h.detached)) other ∙ it.detached;
    bytes = by r.bytes it.bytes;
  }
    where
      by : (o : Option (List ℕ)) → IfSome o (HoldsBytes h r.value it.length) → IfSome o (HoldsBytes history_detached r.value it.length)
      by None is = tt
      by (Some bytes) is = record { length = is.length; each = is.each }

  pub kept-detached : IsBytesOf history_detached (record v { buffers = with_detached b v.buffers })
  kept-detached = record {
    below = k.below;
    viewed = k.viewed;
    detached = All-push (λ (m : ℕ). m ≤ v.made) h.detached b k.detached old;
    lies = k.lies;
    through = k.through;
    buffers = All-map (IsHeldBuffer history_detached) (λ (r : ArrayBuffer). cond (r.value == b) (record r { bytes = None }) r) v.buffers.buffers
        (All-weaker (IsHeldBuffer h) (λ r. IsHeldBuffer history_detached (cond (r.value == b) (record r { bytes = None }) r)) (λ r it. row-held r it (r.value == b) refl)
        v.buffers.buffers k.buffers);
    views = k.views;
  }
