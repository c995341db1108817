-- What a call tells of buffers may be told, and what was told is what the environment then holds.
use Rattle.std.proofs.Common.{◌≡◌, ◌≢◌, ◌∙◌, ◌<◌, ◌≤◌, ℕ, ◌+◌, ◌*◌, ◌%◌, ◌^◌, ◌==◌, nat_lt, nat_le, Bool, true, false, ◌&&◌, cond, List, [], ◌∷◌, ◌++◌, length, take, drop, slice_index, Option, Some, None, is_some, is_none, option_map, inl, inr, IfSome, refl, ap, sym, subst, arith}
use Rattle.std.specs.Int.{w64, byte_at, bytes_low_first, from_le_bytes}
use Rattle.std.specs.Option.{option_and_then, option_map_or, option_or, unwrap_or}
use Rattle.std.proofs.lemmas.Bool.{cases_lt, eqb-true, leb-true, ltb-true}
use Rattle.std.proofs.lemmas.Bool.Decides.{nat_tests}
use Rattle.std.proofs.lemmas.List.{get_or-drop, get_or-take, get_or_past, length-take}
use Rattle.std.proofs.lemmas.Option.{same_Some}
use Rattle.napi_types.specs.declared.call.Call.{Call}
use Rattle.napi_types.specs.declared.call.Call.TheVariants as call
use Rattle.napi_types.specs.declared.status.Status.{Status}
use Rattle.napi_types.specs.declared.status.Status.TheVariants as status
use Rattle.napi_types.specs.declared.view.ViewInfo.{ViewInfo}
use Rattle.napi_types.specs.plain.Lists.{found, has, has_number}
use Rattle.napi_types.specs.plain.Replies.{Answer, refuses, if_accepted}
use Rattle.napi_types.specs.parts.Bodies.{buffer_tag, view_tag}
use Rattle.napi_types.specs.parts.Buffers.{ArrayBuffer, BufferView, Buffers, IsElementSize, buffer_at, buffer_length, buffer_bytes, is_detached_buffer, view_end, element_start, element_in, element_read, live_bytes, view_at, with_element_in, with_buffer, overwritten, buffer_changed_at, with_element_written, with_detached}
use Rattle.napi_types.specs.parts.Book.{new_ticket}
use Rattle.napi_types.specs.parts.Heap.{handle_value}
use Rattle.napi_types.specs.parts.HeapChanges.{with_linked}
use Rattle.napi_types.specs.environment.BufferCalls.{element_size, view_of_elements, may_lie, view_asked, making_buffer, making_external_buffer, making_view, with_buffers, no_buffer_refusal}
use Rattle.napi_types.specs.environment.Calls.{effect, answer, answer_unless_deep, with_depth_error}
use Rattle.napi_types.specs.environment.Changes.{with_noted_status}
use Rattle.napi_types.specs.environment.Collection.{is_freed}
use Rattle.napi_types.specs.environment.Environment.{Environment}
use Rattle.napi_types.specs.environment.Hooked.{IsHooked}
use Rattle.napi_types.specs.environment.Refusals.{refusal_before_depth, depth_refusal, group_refusal}
use Rattle.napi_types.specs.environment.Roots.{reach}
use Rattle.napi_types.specs.runs.Machine.{Machine}
use Rattle.napi_types.specs.all_runs.SharedBytes as told
use Rattle.napi_types.specs.all_runs.SharedBytes.{BufferFact, MadeBuffer, MadeView, told_view, told_of_buffers, told_byte, told_length, was_detached, all_buffers, element_place, HasElement, HasTheBytes, LiesWithin, FollowsBytes}
use Rattle.napi_types.proofs.parts.PlacedBytes.{number-byte, number-small}
use Rattle.napi_types.proofs.plain.Conditions.{and-left, and-right}
use Rattle.napi_types.proofs.plain.Found.{found-number, found-All}
use Rattle.napi_types.proofs.plain.Lists.{none-first, none-last, not-when, not-unless}
use Rattle.napi_types.proofs.plain.Options.{some-of}
use Rattle.napi_types.proofs.all_runs.BytesHistory.{BytesHistory, bytes_history, byte_of, byte-small, past-buffer, past-view, past-written, past-read, past-detached, past-measured}
use Rattle.napi_types.proofs.all_runs.BytesKept.{StoredBytes, stored, buffer_of, view_of, HoldsBytes, IsHeldBuffer, IsHeldView, LiesIn, IsBytesOf, kept-grown, kept-left, new-among-buffers, new-among-views, kept-buffer, kept-view, kept-written, kept-detached}
use Rattle.napi_types.proofs.all_runs.BytesQuiet.{quiet-stored, only-grows}
use Rattle.napi_types.proofs.all_runs.HeldHandles.{HeapFits, new-handle}
use Rattle.napi_types.proofs.all_runs.NoRefusals.{no-refusal-accepts}
use Rattle.napi_types.proofs.all_runs.PromiseHistory.{has-of}
use Rattle.napi_types.proofs.all_runs.PromiseTells.{if-none, refused-none, own-none}

-- what is told after what was told before: nothing, or one thing that may be; and what the environment holds then
pub data KeepsBytes (ts : List BufferFact) : List BufferFact → StoredBytes → Type 0 where
  bytes_none : (v : StoredBytes) → IsBytesOf (bytes_history ts) v → KeepsBytes ts [] v
  bytes_one : (x : BufferFact) (v : StoredBytes) → FollowsBytes ts x → IsBytesOf (bytes_history (ts ++ x ∷ [])) v → KeepsBytes ts (x ∷ []) v

pub no-bytes-told : (ts news : List BufferFact) (v w : StoredBytes) → news ≡ [] → w ≡ v → IsBytesOf (bytes_history ts) v → KeepsBytes ts news w
no-bytes-told ts news v w none same k = rw (none, same) (bytes_none v k)

-- ELEMENTS
-- a view has the element, and its buffer has bytes, of which this is the number
record IsRead (b : Buffers) (v at n : ℕ) : Type 0 where
  pub view : BufferView
  pub seen : found (λ (w : BufferView). w.value) v b.views ≡ Some view
  pub row : ArrayBuffer
  pub there : buffer_at b view.about.buffer.0 ≡ Some row
  pub bytes : List ℕ
  pub live : row.bytes ≡ Some bytes
  pub below : at < view.about.length
  pub number : n ≡ from_le_bytes w64 (take view.about.size (drop (element_start view.about at) bytes))

read-of : (b : Buffers) (v at n : ℕ) → element_read b v at ≡ Some n → IsRead b v at n
read-of b v at n is = by (found (λ (w : BufferView). w.value) v b.views) refl is
  where
    within : (w : BufferView) → found (λ (w : BufferView). w.value) v b.views ≡ Some w → (r : ArrayBuffer) → buffer_at b w.about.buffer.0 ≡ Some r
        → (bs : List ℕ) → r.bytes ≡ Some bs → (c : Bool) → nat_lt at w.about.length ≡ c
        → cond c (Some (from_le_bytes w64 (take w.about.size (drop (element_start w.about at) bs)))) None ≡ Some n → IsRead b v at n
    within w seen r there bs live true below is = record {
      view = w;
      seen = seen;
      row = r;
      there = there;
      bytes = bs;
      live = live;
      below = ltb-true at w.about.length below;
      number = sym (same_Some (from_le_bytes w64 (take w.about.size (drop (element_start w.about at) bs))) n is);
    }
    within w seen r there bs live false below is = let no : ⊥ = cc in absurd no

    of-row : (w : BufferView) → found (λ (w : BufferView). w.value) v b.views ≡ Some w → (r : ArrayBuffer) → buffer_at b w.about.buffer.0 ≡ Some r
        → (o : Option (List ℕ)) → r.bytes ≡ o → option_and_then (element_in w.about at) o ≡ Some n → IsRead b v at n
    of-row w seen r there None live is = let no : ⊥ = cc in absurd no
    of-row w seen r there (Some bs) live is = within w seen r there bs live (nat_lt at w.about.length) refl is

    of-view : (w : BufferView) → found (λ (w : BufferView). w.value) v b.views ≡ Some w → (o : Option ArrayBuffer) → buffer_at b w.about.buffer.0 ≡ o
        → option_and_then (element_in w.about at) (option_and_then (λ (r : ArrayBuffer). r.bytes) o) ≡ Some n → IsRead b v at n
    of-view w seen None there is = let no : ⊥ = cc in absurd no
    of-view w seen (Some r) there is = of-row w seen r there r.bytes refl is

    by : (o : Option BufferView) → found (λ (w : BufferView). w.value) v b.views ≡ o
        → option_and_then (λ (about : ViewInfo). option_and_then (element_in about at) (live_bytes b about.buffer.0)) (option_map (λ (w : BufferView). w.about) o) ≡ Some n
        → IsRead b v at n
    by None seen is = let no : ⊥ = cc in absurd no
    by (Some w) seen is = of-view w seen (buffer_at b w.about.buffer.0) refl is

size-most : (size : ℕ) → IsElementSize size → size ≤ 8
size-most size (inl is) = omega (arith, is)
size-most size (inr (inl is)) = omega (arith, is)
size-most size (inr (inr (inl is))) = omega (arith, is)
size-most size (inr (inr (inr is))) = omega (arith, is)

-- the sizes that elements have
pub size-known : (kind size : ℕ) → element_size kind ≡ Some size → IsElementSize size
size-known kind size is = by (kind == 1) (kind == 4) (kind == 6) (kind == 10) is
  where
    by : (a b c d : Bool) → cond a (Some 1) (cond b (Some 2) (cond c (Some 4) (cond d (Some 8) None))) ≡ Some size → IsElementSize size
    by true b c d is = inl (sym (same_Some 1 size is))
    by false true c d is = inr (inl (sym (same_Some 2 size is)))
    by false false true d is = inr (inr (inl (sym (same_Some 4 size is))))
    by false false false true is = inr (inr (inr (sym (same_Some 8 size is))))
    by false false false false is = let no : ⊥ = cc in absurd no

-- EACH CALL THAT TELLS
module _ (ts : List BufferFact) (e : Environment) (k : IsBytesOf (bytes_history ts) (stored e)) where
  abbrev h : BytesHistory
  h = bytes_history ts

  -- a buffer that is held
  held-at : (b : ℕ) (r : ArrayBuffer) → buffer_at e.buffers b ≡ Some r → IsHeldBuffer h r
  held-at b r there = found-All (λ (r : ArrayBuffer). r.value) (IsHeldBuffer h) b e.buffers.buffers r k.buffers there

  number-at : (b : ℕ) (r : ArrayBuffer) → buffer_at e.buffers b ≡ Some r → r.value ≡ b
  number-at b r there = found-number (λ (r : ArrayBuffer). r.value) b e.buffers.buffers r there

  made-at : (b : ℕ) (r : ArrayBuffer) (there : buffer_at e.buffers b ≡ Some r)
      → found (λ (m : MadeBuffer). m.buffer) b h.made ≡ Some (buffer_of b (held-at b r there).length)
  made-at b r there = subst (λ n. found (λ (m : MadeBuffer). m.buffer) n h.made ≡ Some (buffer_of n (held-at b r there).length)) (number-at b r there) (held-at b r there).made

  detached-at : (b : ℕ) (r : ArrayBuffer) → buffer_at e.buffers b ≡ Some r → was_detached ts b ≡ is_none r.bytes
  detached-at b r there = ap (was_detached ts) (sym (number-at b r there)) ∙ (held-at b r there).detached

  -- a buffer is made
  buffer-told : (size v : ℕ) (t : Option ℕ) → v ≡ e.heap.made + 1
      → KeepsBytes ts (told.MakesBuffer v size ∷ []) (record { made = e.heap.made + 1; buffers = with_buffer (e.heap.made + 1) size t e.buffers })
  buffer-told size v t same =
      let p : ℕ = e.heap.made + 1 in
      let now : StoredBytes = record { made = p; buffers = with_buffer p size t e.buffers } in
      subst (λ w. KeepsBytes ts (told.MakesBuffer w size ∷ []) now) (sym same)
      (bytes_one (told.MakesBuffer p size) now (told.makes_bytes p size (new-among-buffers h (stored e) k) (new-among-views h (stored e) k))
      (subst (λ g. IsBytesOf g now) (sym (past-buffer ts p size)) (kept-buffer h (stored e) k size t)))

  -- the element that is read or written
  element-held : (v at n : ℕ) (it : IsRead e.buffers v at n) → IsHeldView h it.view
  element-held v at n it = found-All (λ (w : BufferView). w.value) (IsHeldView h) v e.buffers.views it.view k.views it.seen

  element-lies : (v at n : ℕ) (it : IsRead e.buffers v at n) → LiesIn h.made (view_of it.view)
  element-lies v at n it = found-All (λ (x : MadeView). x.view) (LiesIn h.made) it.view.value h.views (view_of it.view) k.lies (element-held v at n it)

  has-element : (v at n : ℕ) (it : IsRead e.buffers v at n) → HasElement ts (view_of it.view) v at
  has-element v at n it = record {
    made = ap (λ m. found (λ (w : MadeView). w.view) m h.views) (sym (found-number (λ (w : BufferView). w.value) v e.buffers.views it.view it.seen)) ∙ element-held v at n it;
    below = it.below;
    live = detached-at it.view.about.buffer.0 it.row it.there ∙ ap is_none it.live;
  }

  has-bytes : (v at n : ℕ) (it : IsRead e.buffers v at n) → HasTheBytes ts (view_of it.view) at n
  has-bytes v at n it = record {
    small = subst (λ m. m < 256 ^ size) (sym it.number) (number-small size part sizes (omega (arith, length-take size (drop start it.bytes))) all);
    bytes = λ i below. ap (byte_at i) it.number ∙ number-byte part all i (omega (arith, below, size-most size sizes)) ∙ each i below;
  }
    where
      size : ℕ
      size = it.view.about.size

      start : ℕ
      start = element_start it.view.about at

      part : List ℕ
      part = take size (drop start it.bytes)

      sizes : IsElementSize size
      sizes = (element-lies v at n it).size

      holds : HoldsBytes h it.row.value (held-at it.view.about.buffer.0 it.row it.there).length it.bytes
      holds = subst (λ o. IfSome o (HoldsBytes h it.row.value (held-at it.view.about.buffer.0 it.row it.there).length)) it.live (held-at it.view.about.buffer.0 it.row it.there).bytes

      each : (i : ℕ) → i < size → slice_index part i ≡ byte_of h.views h.written it.view.about.buffer.0 (start + i)
      each i below =
          get_or-take size (drop start it.bytes) i 0 below ∙ get_or-drop start it.bytes i 0 ∙ holds.each (start + i)
          ∙ ap (λ b. byte_of h.views h.written b (start + i)) (number-at it.view.about.buffer.0 it.row it.there)

      all : (i : ℕ) → slice_index part i < 256
      all i =
          elim (cases_lt i size) [
            | inl below ↦ subst (λ m. m < 256) (sym (each i below)) (byte-small h.views h.written it.view.about.buffer.0 (start + i))
            | inr far ↦ subst (λ m. m < 256) (sym (get_or_past part i 0 (omega (arith, far, length-take size (drop start it.bytes))))) (omega arith)
          ]

  -- an element is read
  reads-told : (v at n : ℕ) → IsRead e.buffers v at n → KeepsBytes ts (told.Reads v at n ∷ []) (stored e)
  reads-told v at n it =
      bytes_one (told.Reads v at n) (stored e) (told.reads_element v at n (view_of it.view) (has-element v at n it) (has-bytes v at n it))
      (subst (λ g. IsBytesOf g (stored e)) (sym (past-read ts v at n)) k)

  reading-tells : (v at : ℕ) (o : Option ℕ) → element_read e.buffers v at ≡ o → is_some o ≡ true → KeepsBytes ts (told.Reads v at (unwrap_or o 0) ∷ []) (stored e)
  reading-tells v at None read is = let no : ⊥ = cc in absurd no
  reading-tells v at (Some n) read is = reads-told v at n (read-of e.buffers v at n read)

  -- an element is written
  same-written : (v at n number : ℕ) (it : IsRead e.buffers v at n) → it.view.value ≡ v
      → with_element_written v at number e.buffers
      ≡ buffer_changed_at (option_map (λ bytes. overwritten (element_start it.view.about at) (bytes_low_first 0 it.view.about.size number) bytes)) it.view.about.buffer.0 e.buffers
  same-written v at n number it own =
      let short : nat_lt at it.view.about.length ≡ true = grind (arith, nat_tests, it.below) in
      ap (λ o. option_map_or (λ (about : ViewInfo). buffer_changed_at (option_map (with_element_in about at number)) about.buffer.0 e.buffers) (option_map (λ (w : BufferView). w.about) o) e.buffers) it.seen
      ∙ ap (λ c. buffer_changed_at (option_map (λ bytes. cond c (overwritten (element_start it.view.about at) (bytes_low_first 0 it.view.about.size number) bytes) bytes)) it.view.about.buffer.0 e.buffers)
      short

  writes-told : (v at n number : ℕ) → IsRead e.buffers v at n → KeepsBytes ts (told.Writes v at number ∷ []) (stored (with_buffers (with_element_written v at number e.buffers) e))
  writes-told v at n number it =
      let own : it.view.value ≡ v = found-number (λ (w : BufferView). w.value) v e.buffers.views it.view it.seen in
      let now : StoredBytes = stored (with_buffers (with_element_written v at number e.buffers) e) in
      bytes_one (told.Writes v at number) now (told.writes_element v at number (view_of it.view) (has-element v at n it))
      (subst (λ g. IsBytesOf g now) (sym (past-written ts v at number))
      (subst (λ m. IsBytesOf (record h { written = h.written ++ record { view = m; at = at; number = number } ∷ [] }) now) own
      (subst (λ b. IsBytesOf (record h { written = h.written ++ record { view = it.view.value; at = at; number = number } ∷ [] }) (record (stored e) { buffers = b }))
      (sym (same-written v at n number it own))
      (kept-written h (stored e) k it.view at number (element-held v at n it) it.below))))

  writing-tells : (v at number : ℕ) (o : Option ℕ) → element_read e.buffers v at ≡ o → is_some o ≡ true
      → KeepsBytes ts (told.Writes v at number ∷ []) (stored (with_buffers (with_element_written v at number e.buffers) e))
  writing-tells v at number None read is = let no : ⊥ = cc in absurd no
  writing-tells v at number (Some n) read is = writes-told v at n number (read-of e.buffers v at n read)

  -- a buffer is detached
  detaches-told : (b : ℕ) (r : ArrayBuffer) → buffer_at e.buffers b ≡ Some r → is_none r.bytes ≡ false
      → KeepsBytes ts (told.Detaches b ∷ []) (stored (with_buffers (with_detached b e.buffers) e))
  detaches-told b r there live =
      let now : StoredBytes = stored (with_buffers (with_detached b e.buffers) e) in
      let m : MadeBuffer = buffer_of b (held-at b r there).length in
      bytes_one (told.Detaches b) now
      (told.detaches_bytes b (has-of (λ (m : MadeBuffer). m.buffer) b h.made m (made-at b r there)) (detached-at b r there ∙ live))
      (subst (λ g. IsBytesOf g now) (sym (past-detached ts b))
      (kept-detached h (stored e) k b (found-All (λ (m : MadeBuffer). m.buffer) (λ (m : MadeBuffer). m.buffer ≤ e.heap.made) b h.made m k.below (made-at b r there))))

  detaching-tells : (b : ℕ) (o : Option ArrayBuffer) → buffer_at e.buffers b ≡ o → is_some (option_map buffer_bytes o) ≡ true
      → option_map_or (λ (r : ArrayBuffer). is_none r.bytes) o false ≡ false → KeepsBytes ts (told.Detaches b ∷ []) (stored (with_buffers (with_detached b e.buffers) e))
  detaching-tells b None there is live = let no : ⊥ = cc in absurd no
  detaching-tells b (Some r) there is live = detaches-told b r there live

  -- A VIEW IS MADE
  -- a buffer has the length that was told, and once it is detached none
  record HasLength (b n : ℕ) : Type 0 where
    pub told : told_length ts b ≡ Some n
    pub made : ℕ
    pub there : found (λ (m : MadeBuffer). m.buffer) b h.made ≡ Some (buffer_of b made)
    pub most : n ≤ made

  length-at : (b n : ℕ) → buffer_length e.buffers b ≡ Some n → HasLength b n
  length-at b n is = by (buffer_at e.buffers b) refl is
    where
      bytes : (r : ArrayBuffer) → buffer_at e.buffers b ≡ Some r → (made : ℕ) → found (λ (m : MadeBuffer). m.buffer) b h.made ≡ Some (buffer_of b made)
          → (o : Option (List ℕ)) → r.bytes ≡ o → IfSome o (HoldsBytes h r.value made) → option_map_or length o 0 ≡ n → HasLength b n
      bytes r there made found None live holds is = record {
        told = ap (option_map (λ (m : MadeBuffer). cond (was_detached ts b) 0 m.length)) found
            ∙ ap (λ c. Some (cond c 0 made)) (detached-at b r there ∙ ap is_none live) ∙ ap Some is;
        made = made;
        there = found;
        most = omega (arith, is);
      }
      bytes r there made found (Some bs) live holds is = record {
        told = ap (option_map (λ (m : MadeBuffer). cond (was_detached ts b) 0 m.length)) found
            ∙ ap (λ c. Some (cond c 0 made)) (detached-at b r there ∙ ap is_none live) ∙ ap Some (sym holds.length ∙ is);
        made = made;
        there = found;
        most = omega (arith, is, holds.length);
      }

      by : (o : Option ArrayBuffer) → buffer_at e.buffers b ≡ o → option_map buffer_bytes o ≡ Some n → HasLength b n
      by None there is = let no : ⊥ = cc in absurd no
      by (Some r) there is =
          bytes r there (held-at b r there).length (made-at b r there) r.bytes refl (held-at b r there).bytes (same_Some (buffer_bytes r) n is)

  -- a buffer is told to have so many bytes
  measuring-tells : (b : ℕ) (o : Option ℕ) → buffer_length e.buffers b ≡ o → is_some o ≡ true → KeepsBytes ts (told.Measures b (unwrap_or o 0) ∷ []) (stored e)
  measuring-tells b None long is = let no : ⊥ = cc in absurd no
  measuring-tells b (Some n) long is =
      bytes_one (told.Measures b n) (stored e) (told.measures_bytes b n (length-at b n long).told) (subst (λ g. IsBytesOf g (stored e)) (sym (past-measured ts b n)) k)

  -- a view that may lie so
  view-told : (kind b offset count size n v : ℕ) → element_size kind ≡ Some size → buffer_length e.buffers b ≡ Some n → may_lie n (view_of_elements b size offset count) ≡ true
      → v ≡ e.heap.made + 1
      → KeepsBytes ts (told.MakesView (record { view = v; buffer = b; size = size; offset = offset; length = count }) ∷ [])
      (stored (making_view e (Some (view_of_elements b size offset count))).after)
  view-told kind b offset count size n v sized long may same =
      let about : ViewInfo = view_of_elements b size offset count in
      let p : ℕ = e.heap.made + 1 in
      let w : BufferView = record { value = p; about = about } in
      let now : StoredBytes = stored (making_view e (Some about)).after in
      let it : HasLength b n = length-at b n long in
      let ends : view_end about ≤ n = leb-true (view_end about) n (and-right (offset % size == 0) (nat_le (view_end about) n) may) in
      subst (λ m. KeepsBytes ts (told.MakesView (record { view = m; buffer = b; size = size; offset = offset; length = count }) ∷ []) now) (sym same)
      (bytes_one (told.MakesView (view_of w)) now
      (told.makes_window (view_of w) (new-among-buffers h (stored e) k) (new-among-views h (stored e) k) (record {
        size = size-known kind size sized;
        aligned = eqb-true (offset % size) 0 (and-left (offset % size == 0) (nat_le (view_end about) n) may);
        length = n;
        has = it.told;
        within = ends;
      }))
      (subst (λ g. IsBytesOf g now) (sym (past-view ts (view_of w)))
      (kept-view h (stored e) k w refl (record { size = size-known kind size sized; length = it.made; buffer = it.there; within = omega (arith, ends, it.most) }))))

-- EACH CALL
module _ (ts : List BufferFact) (m : Machine) (k : IsBytesOf (bytes_history ts) (stored m.env)) (hooked : IsHooked m.env) (fits : HeapFits m.env.heap)
    (stands : m.env.heap.scopes ≢ []) where
  -- the machine after a call
  abbrev machine_then : Call → Answer Environment → Machine
  machine_then c a = record m { env = with_noted_status c a.reply.status a.after; journal_length = m.journal_length + 1 }

  abbrev CallKeepsBytes : Call → Answer Environment → Type 0
  CallKeepsBytes c a = KeepsBytes ts (if_accepted a.reply.status (told_of_buffers m c a.reply (machine_then c a))) (stored a.after)

  viewing-tells : (kind b offset count : ℕ) (size length : Option ℕ) → element_size kind ≡ size → buffer_length m.env.buffers b ≡ length
      → (asked : Option ViewInfo)
      → option_and_then (λ s. option_and_then (λ n. cond (may_lie n (view_of_elements b s offset count)) (Some (view_of_elements b s offset count)) None) length) size ≡ asked
      → is_some asked ≡ true
      → KeepsBytes ts (if_accepted (making_view m.env asked).reply.status (told_view size b offset count (making_view m.env asked).after.heap (making_view m.env asked).reply.out))
      (stored (making_view m.env asked).after)
  viewing-tells kind b offset count None length sized long asked is some = let no : ⊥ = cc in absurd no
  viewing-tells kind b offset count (Some s) None sized long asked is some = let no : ⊥ = cc in absurd no
  viewing-tells kind b offset count (Some s) (Some n) sized long asked is some = by (may_lie n (view_of_elements b s offset count)) refl asked is some
    where
      by : (c : Bool) → may_lie n (view_of_elements b s offset count) ≡ c → (asked : Option ViewInfo) → cond c (Some (view_of_elements b s offset count)) None ≡ asked
          → is_some asked ≡ true
          → KeepsBytes ts (if_accepted (making_view m.env asked).reply.status
          (told_view (Some s) b offset count (making_view m.env asked).after.heap (making_view m.env asked).reply.out)) (stored (making_view m.env asked).after)
      by false may asked is some = let no : ⊥ = cc in absurd no
      by true may asked is some =
          subst (λ o. KeepsBytes ts (if_accepted (making_view m.env o).reply.status
          (told_view (Some s) b offset count (making_view m.env o).after.heap (making_view m.env o).reply.out)) (stored (making_view m.env o).after)) is
          (view-told ts m.env k kind b offset count s n _ sized long may
          (new-handle (with_linked view_tag (Some b) m.env.heap) (m.env.heap.made + 1) stands fits))

  effect-keeps-bytes : (c : Call) (n : ℕ) → refusal_before_depth m.env c ≡ None → CallKeepsBytes c (effect m.env c n)
  effect-keeps-bytes (call.CreateArraybuffer size) n none =
      buffer-told ts m.env k size _ None (new-handle (with_linked buffer_tag None m.env.heap) (m.env.heap.made + 1) stands fits)
  effect-keeps-bytes (call.CreateExternalArraybuffer size payload entry hint) n none =
      buffer-told ts m.env k size _ (Some (new_ticket m.env.book)) (new-handle (with_linked buffer_tag None m.env.heap) (m.env.heap.made + 1) stands fits)
  effect-keeps-bytes (call.CreateTypedarray kind x offset count) n none =
      let b : ℕ = handle_value m.env.heap x.0 in
      let own : group_refusal m.env (call.CreateTypedarray kind x offset count) ≡ None = own-none m.env (call.CreateTypedarray kind x offset count) none in
      viewing-tells kind b offset count (element_size kind) (buffer_length m.env.buffers b) refl refl (view_asked m.env.buffers kind b offset count) refl
      (not-unless (is_some (view_asked m.env.buffers kind b offset count)) status.InvalidArg (none-last (no_buffer_refusal m.env.buffers b) _ own))
  effect-keeps-bytes (call.GetView x at) n none =
      let v : ℕ = handle_value m.env.heap x.0 in
      reading-tells ts m.env k v at (element_read m.env.buffers v at) refl
      (not-unless (is_some (element_read m.env.buffers v at)) status.InvalidArg (own-none m.env (call.GetView x at) none))
  effect-keeps-bytes (call.SetView x at number) n none =
      let v : ℕ = handle_value m.env.heap x.0 in
      writing-tells ts m.env k v at number (element_read m.env.buffers v at) refl
      (not-unless (is_some (element_read m.env.buffers v at)) status.InvalidArg (own-none m.env (call.SetView x at number) none))
  effect-keeps-bytes (call.DetachArraybuffer x) n none =
      let b : ℕ = handle_value m.env.heap x.0 in
      let own : group_refusal m.env (call.DetachArraybuffer x) ≡ None = own-none m.env (call.DetachArraybuffer x) none in
      detaching-tells ts m.env k b (buffer_at m.env.buffers b) refl
      (not-unless (is_some (buffer_length m.env.buffers b)) status.ArraybufferExpected (none-first (no_buffer_refusal m.env.buffers b) _ own))
      (not-when (is_detached_buffer m.env.buffers b) status.DetachableArraybufferExpected (none-last (no_buffer_refusal m.env.buffers b) _ own))
  effect-keeps-bytes (call.GetArraybufferInfo x) n none =
      let b : ℕ = handle_value m.env.heap x.0 in
      measuring-tells ts m.env k b (buffer_length m.env.buffers b) refl
      (not-unless (is_some (buffer_length m.env.buffers b)) status.ArraybufferExpected (own-none m.env (call.GetArraybufferInfo x) none))
  effect-keeps-bytes call.Collect n none = bytes_none _ (kept-left (bytes_history ts) (stored m.env) (is_freed (reach m.env)) k)
  effect-keeps-bytes c n none =
      no-bytes-told ts _ _ _ (if-none (effect m.env c n).reply.status) (quiet-stored m.env c n refl)
      (kept-grown (bytes_history ts) (stored m.env) (effect m.env c n).after.heap.made (only-grows m.env c n hooked) k)

  refused-keeps-bytes : (c : Call) (s : Status) (e : Environment) → s ≢ status.Ok → e.buffers ≡ m.env.buffers → m.env.heap.made ≤ e.heap.made → CallKeepsBytes c (refuses s e)
  refused-keeps-bytes c s e never same grows =
      no-bytes-told ts _ (record (stored m.env) { made = e.heap.made }) (stored e) (refused-none s _ never) (ap (λ b. let v : StoredBytes = record { made = e.heap.made; buffers = b } in v) same)
      (kept-grown (bytes_history ts) (stored m.env) e.heap.made grows k)

  pub call-keeps-bytes : (c : Call) (n : ℕ) → CallKeepsBytes c (answer m.env c n)
  call-keeps-bytes c n = at (refusal_before_depth m.env c) (depth_refusal m.env.frames c) refl refl
    where
      never : (s : Status) (early deep : Option Status) → refusal_before_depth m.env c ≡ early → depth_refusal m.env.frames c ≡ deep → option_or early deep ≡ Some s
          → s ≢ status.Ok
      never s early deep is its told ok =
          no-refusal-accepts m.env c (ap (λ o. option_or o (depth_refusal m.env.frames c)) is ∙ ap (λ o. option_or early o) its ∙ told ∙ ap (λ r. Some r) ok)

      at : (early deep : Option Status) → refusal_before_depth m.env c ≡ early → depth_refusal m.env.frames c ≡ deep → CallKeepsBytes c (answer_unless_deep m.env c n early deep)
      at None None is its = effect-keeps-bytes c n is
      at (Some s) None is its = refused-keeps-bytes c s m.env (never s (Some s) None is its refl) refl (omega arith)
      at (Some s) (Some u) is its = refused-keeps-bytes c s m.env (never s (Some s) (Some u) is its refl) refl (omega arith)
      at None (Some s) is its = refused-keeps-bytes c s (with_depth_error m.env) (never s None (Some s) is its refl) refl (omega arith)
