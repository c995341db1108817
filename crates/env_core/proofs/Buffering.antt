-- Array buffers and their views as the machine sees them.
use Rattle.std.proofs.Common.{◌≡◌, ◌∙◌, ℕ, ◌+◌, ◌==◌, ◌||◌, ◌++◌, Bool, true, false, cond, not, List, [], ◌∷◌, map, length, get_or, filter_map, Option, Some, None, IsSome, is_some, is_none, option_map, refl, ap, sym, subst, arith}
use Rattle.std.specs.List.{All, list_any, sum_by}
use Rattle.std.specs.Option.{option_and_then, option_map_or, unwrap_or, option_to_list}
use Rattle.std.proofs.lemmas.Bool.{or_from}
use Rattle.std.proofs.lemmas.List.Elements.{All-nil, All-head, All-tail, All-map}
use Rattle.std.proofs.lemmas.List.{length-map}
use Rattle.std.proofs.lemmas.List.Sums.{sum_by-cons}
use Rattle.napi_types.specs.declared.body.Body.{Body}
use Rattle.napi_types.specs.declared.view.ViewInfo.{ViewInfo}
use Rattle.napi_types.specs.plain.Lists.{found, has, as_map}
use Rattle.napi_types.specs.parts.Buffers.{ArrayBuffer, BufferView, Buffers, no_buffers, buffer_at, view_at, is_viewed, buffer_bytes, buffer_length, total_bytes, is_detached_buffer, live_bytes, element_in, element_read, with_element_in, with_buffer, with_view, buffer_changed_at, with_detached, with_element_written}
use Rattle.napi_types.specs.parts.Graph.{StoreState, IsSoundStore, IsLive, value_of, number_in}
use Rattle.napi_types.specs.parts.Heap.{Heap}
use Rattle.napi_types.specs.parts.HeapChanges.{with_handle, with_linked}
use Rattle.napi_types.specs.parts.Values.{Value}
use Rattle.napi_types.proofs.plain.Found.{IsRising, same-tells, found-above, found-as_map, found-map, found-same, map-rising, rising-as_map, rising-changed}
use Rattle.napi_types.proofs.plain.Lists.{All-right, length-changed}
use Rattle.napi_types.proofs.plain.Maps.{All-with_record}
use Rattle.array_buffers.specs.KeptBuffers.{AreBufferMaps}
use Rattle.array_buffers.proofs.BufferSums.{sum-with_record}
use Rattle.handle_scope.specs.HandleScopes.{HandleScopes}
use Rattle.env_values.specs.SeenValues.{seen_frame, heap_of, IsViewIn, KeepsValues}
use Rattle.env_values.proofs.KeepingHeaps.{view-live}
use Rattle.env_core.specs.Buffering.{seen_buffer, seen_info, seen_view, buffers_seen, BuffersAreLive}
use Rattle.env_core.proofs.Attaching.{number-apart, listed-kept}
use Rattle.env_core.proofs.Renaming.{found-seen, has-seen, same-renamed, seen-with_record}

-- WHAT HOLDS
pub buffered-new : (s : StoreState) → BuffersAreLive s no_buffers
buffered-new s = record { buffers = All-nil (λ (r : ArrayBuffer). IsLive s r.value); views = All-nil (λ (w : BufferView). IsViewIn s w.value w.about.buffer.0) }

pub buffered-made : (s : StoreState) (b : Buffers) (v size : ℕ) (ticket : Option ℕ) → BuffersAreLive s b → IsLive s v → BuffersAreLive s (with_buffer v size ticket b)
buffered-made s b v size ticket i live = record { buffers = All-with_record (λ (r : ArrayBuffer). r.value) _ (λ r. IsLive s r.value) b.buffers live i.buffers; views = i.views }

pub buffered-viewed : (s : StoreState) (b : Buffers) (v : ℕ) (about : ViewInfo) → BuffersAreLive s b → IsViewIn s v about.buffer.0 → BuffersAreLive s (with_view v about b)
buffered-viewed s b v about i view = record {
  buffers = i.buffers;
  views = All-with_record (λ (w : BufferView). w.value) (record { value = v; about = about }) (λ w. IsViewIn s w.value w.about.buffer.0) b.views view i.views;
}

-- other bytes
abbrev rebytes : (Option (List ℕ) → Option (List ℕ)) → ArrayBuffer → ArrayBuffer
rebytes change r = record r { bytes = change r.bytes }

abbrev rebytes_at : (Option (List ℕ) → Option (List ℕ)) → ℕ → ArrayBuffer → ArrayBuffer
rebytes_at change v r = cond (r.value == v) (rebytes change r) r

rebytes-value : (change : Option (List ℕ) → Option (List ℕ)) (v : ℕ) (r : ArrayBuffer) → (rebytes_at change v r).value ≡ r.value
rebytes-value change v r = by (r.value == v)
  where
    by : (b : Bool) → (cond b (rebytes change r) r).value ≡ r.value
    by true = refl
    by false = refl

pub buffered-changed : (s : StoreState) (change : Option (List ℕ) → Option (List ℕ)) (v : ℕ) (b : Buffers) → BuffersAreLive s b → BuffersAreLive s (buffer_changed_at change v b)
buffered-changed s change v b i = record {
  buffers = All-map (λ (r : ArrayBuffer). IsLive s r.value) (rebytes_at change v) b.buffers
      (λ k r inside. subst (IsLive s) (sym (rebytes-value change v (get_or b.buffers k r))) (i.buffers k r inside));
  views = i.views;
}

pub buffered-written : (s : StoreState) (v at number : ℕ) (b : Buffers) → BuffersAreLive s b → BuffersAreLive s (with_element_written v at number b)
buffered-written s v at number b i = by (view_at b v) refl
  where
    by : (o : Option ViewInfo) → view_at b v ≡ o → BuffersAreLive s (with_element_written v at number b)
    by None is = rw is i
    by (Some about) is = rw is (buffered-changed s (λ bytes. option_map (with_element_in about at number) bytes) about.buffer.0 b i)

-- A VIEW'S BUFFER IS LIVE
pub viewed-live : (s : StoreState) → IsSoundStore s → (v buffer : ℕ) → IsViewIn s v buffer → IsLive s buffer
viewed-live s sound v buffer view = by (value_of s v) refl view.link
  where
    by : (o : Option Value) → value_of s v ≡ o → option_and_then (λ (x : Value). x.link) o ≡ Some buffer → IsLive s buffer
    by None at is = let no : ⊥ = cc in absurd no
    by (Some x) at is =
        let named : List ℕ = map (λ p. p.value) x.properties ++ filter_map (λ e. e) x.elements in
        let all : All (λ m. IsLive s m) (option_to_list x.link) = All-right (λ m. IsLive s m) named (option_to_list x.link) (sound.closed v x at) in
        All-head (λ m. IsLive s m) buffer [] (subst (λ (o : Option ℕ). All (λ m. IsLive s m) (option_to_list o)) is all)

views-live : (s : StoreState) (ws : List BufferView) → All (λ w. IsViewIn s w.value w.about.buffer.0) ws → All (λ w. IsLive s w.value) ws
views-live s ws all = λ k w inside. view-live s (get_or ws k w).value (get_or ws k w).about.buffer.0 (all k w inside)

-- VALUES THAT STAY
module _ (s t : StoreState) (kept : KeepsValues s t) where
  view-kept : (v buffer : ℕ) → IsViewIn s v buffer → IsViewIn t v buffer
  view-kept v buffer view = record { body = kept.bodies v (view-live s v buffer view) ∙ view.body; link = kept.views v buffer view }

  pub buffered-kept : (b : Buffers) → BuffersAreLive s b → BuffersAreLive t b
  buffered-kept b i = record {
    buffers = λ k r inside. kept.live (get_or b.buffers k r).value (i.buffers k r inside);
    views = λ k w inside. view-kept (get_or b.views k w).value (get_or b.views k w).about.buffer.0 (i.views k w inside);
  }

  views-kept : IsSoundStore s → (ws : List BufferView) → All (λ w. IsViewIn s w.value w.about.buffer.0) ws → map (seen_view t) ws ≡ map (seen_view s) ws
  views-kept sound [] all = refl
  views-kept sound (w ∷ ws) all =
      let P : BufferView → Type 0 = λ x. IsViewIn s x.value x.about.buffer.0 in
      let here : P w = All-head P w ws all in
      ap (λ n. record { value = n; about = seen_info t w.about } ∷ map (seen_view t) ws) (kept.numbers w.value (view-live s w.value w.about.buffer.0 here))
      ∙ ap (λ n. record { value = number_in s w.value; about = record (w.about) { buffer = record { 0 = n } } } ∷ map (seen_view t) ws)
      (kept.numbers w.about.buffer.0 (viewed-live s sound w.value w.about.buffer.0 here))
      ∙ ap (λ xs. seen_view s w ∷ xs) (views-kept sound ws (All-tail P w ws all))

  pub buffers-kept : IsSoundStore s → (b : Buffers) → BuffersAreLive s b → buffers_seen t b ≡ buffers_seen s b
  buffers-kept sound b i =
      let buffers : map (seen_buffer t) b.buffers ≡ map (seen_buffer s) b.buffers =
      listed-kept s t kept (λ (r : ArrayBuffer). r.value) (seen_buffer s) (seen_buffer t) b.buffers (λ r same. ap (λ n. record r { value = n }) same) i.buffers in
      ap (λ l. record { buffers = as_map (λ (r : ArrayBuffer). r.value) l; views = as_map (λ (w : BufferView). w.value) (map (seen_view t) b.views) }) buffers
      ∙ ap (λ l. record { buffers = as_map (λ (r : ArrayBuffer). r.value) (map (seen_buffer s) b.buffers); views = as_map (λ (w : BufferView). w.value) l })
      (views-kept sound b.views i.views)

  -- a value whose number comes later is none of them
  module _ (sound : IsSoundStore s) (v : ℕ) (number : number_in t v ≡ s.made + 1) where
    other : (w : ℕ) → IsLive s w → (w == v) ≡ false
    other w live = by (w == v) refl
      where
        later : number_in s w ≡ s.made + 1 → ⊥
        later here = at (value_of s w) refl live here
          where
            at : (o : Option Value) → value_of s w ≡ o → IsSome o → unwrap_or (option_map (λ (x : Value). x.number) o) 0 ≡ s.made + 1 → ⊥
            at None is some here = cc
            at (Some x) is some here = omega (arith, here, (sound.counted w x is).1)

        by : (b : Bool) → (w == v) ≡ b → b ≡ false
        by false is = refl
        by true is = absurd (later (sym (kept.numbers w live) ∙ ap (number_in t) (same-tells w v is) ∙ number))

    rows-absent : (rs : List ArrayBuffer) → All (λ r. IsLive s r.value) rs → has (λ r. r.value) v rs ≡ false
    rows-absent [] all = refl
    rows-absent (r ∷ rs) all =
        or_from (r.value == v) (has (λ (q : ArrayBuffer). q.value) v rs) (other r.value (All-head (λ (q : ArrayBuffer). IsLive s q.value) r rs all))
        (rows-absent rs (All-tail (λ (q : ArrayBuffer). IsLive s q.value) r rs all))

    views-absent : (ws : List BufferView) → All (λ w. IsViewIn s w.value w.about.buffer.0) ws → has (λ w. w.value) v ws ≡ false
    views-absent [] all = refl
    views-absent (w ∷ ws) all =
        let P : BufferView → Type 0 = λ x. IsViewIn s x.value x.about.buffer.0 in
        or_from (w.value == v) (has (λ (x : BufferView). x.value) v ws) (other w.value (view-live s w.value w.about.buffer.0 (All-head P w ws all)))
        (views-absent ws (All-tail P w ws all))

    pub unviewed : (ws : List BufferView) → All (λ w. IsViewIn s w.value w.about.buffer.0) ws → has (λ w. w.about.buffer.0) v ws ≡ false
    unviewed [] all = refl
    unviewed (w ∷ ws) all =
        let P : BufferView → Type 0 = λ x. IsViewIn s x.value x.about.buffer.0 in
        or_from (w.about.buffer.0 == v) (has (λ (x : BufferView). x.about.buffer.0) v ws)
        (other w.about.buffer.0 (viewed-live s sound w.value w.about.buffer.0 (All-head P w ws all))) (unviewed ws (All-tail P w ws all))

    pub buffer-absent : (b : Buffers) → BuffersAreLive s b → has (λ r. r.value) v b.buffers ≡ false
    buffer-absent b i = rows-absent b.buffers i.buffers

    pub view-absent : (b : Buffers) → BuffersAreLive s b → has (λ w. w.value) v b.views ≡ false
    view-absent b i = views-absent b.views i.views

-- what no record has is not found
pub absent-none : {A : Type 0} (number : A → ℕ) (n : ℕ) (xs : List A) → has number n xs ≡ false → found number n xs ≡ None
absent-none number n [] none = refl
absent-none number n (x ∷ xs) none = by (number x == n) none (absent-none number n xs)
  where
    by : (b : Bool) → (b || has number n xs) ≡ false → (has number n xs ≡ false → found number n xs ≡ None) → cond b (Some x) (found number n xs) ≡ None
    by true none rest = let no : ⊥ = cc in absurd no
    by false none rest = rest none

-- WHAT IS READ
module _ (s : StoreState) (sound : IsSoundStore s) (b : Buffers) (i : BuffersAreLive s b) where
  pub seen-buffer : (v : ℕ) → IsLive s v → buffer_at (buffers_seen s b) (number_in s v) ≡ option_map (seen_buffer s) (buffer_at b v)
  seen-buffer v live = found-seen (λ (r : ArrayBuffer). r.value) (number_in s) (seen_buffer s) (λ r. refl) (IsLive s) (number-apart s sound) v b.buffers live i.buffers

  pub seen-length : (v : ℕ) → IsLive s v → buffer_length (buffers_seen s b) (number_in s v) ≡ buffer_length b v
  seen-length v live = ap (option_map buffer_bytes) (seen-buffer v live) ∙ by (buffer_at b v)
    where
      by : (o : Option ArrayBuffer) → option_map buffer_bytes (option_map (seen_buffer s) o) ≡ option_map buffer_bytes o
      by None = refl
      by (Some r) = refl

  pub seen-detached : (v : ℕ) → IsLive s v → is_detached_buffer (buffers_seen s b) (number_in s v) ≡ is_detached_buffer b v
  seen-detached v live = ap (λ o. option_map_or (λ (r : ArrayBuffer). is_none r.bytes) o false) (seen-buffer v live) ∙ by (buffer_at b v)
    where
      by : (o : Option ArrayBuffer) → option_map_or (λ (r : ArrayBuffer). is_none r.bytes) (option_map (seen_buffer s) o) false ≡ option_map_or (λ r. is_none r.bytes) o false
      by None = refl
      by (Some r) = refl

  seen-bytes : (v : ℕ) → IsLive s v → live_bytes (buffers_seen s b) (number_in s v) ≡ live_bytes b v
  seen-bytes v live = ap (option_and_then (λ (r : ArrayBuffer). r.bytes)) (seen-buffer v live) ∙ by (buffer_at b v)
    where
      by : (o : Option ArrayBuffer) → option_and_then (λ (r : ArrayBuffer). r.bytes) (option_map (seen_buffer s) o) ≡ option_and_then (λ r. r.bytes) o
      by None = refl
      by (Some r) = refl

  seen-at : (v : ℕ) → IsLive s v → found (λ w. w.value) (number_in s v) (buffers_seen s b).views ≡ option_map (seen_view s) (found (λ w. w.value) v b.views)
  seen-at v live =
      found-seen (λ (w : BufferView). w.value) (number_in s) (seen_view s) (λ w. refl) (IsLive s) (number-apart s sound) v b.views live (views-live s b.views i.views)

  pub seen-view : (v : ℕ) → IsLive s v → view_at (buffers_seen s b) (number_in s v) ≡ option_map (seen_info s) (view_at b v)
  seen-view v live = ap (option_map (λ (w : BufferView). w.about)) (seen-at v live) ∙ by (found (λ w. w.value) v b.views)
    where
      by : (o : Option BufferView) → option_map (λ (w : BufferView). w.about) (option_map (seen_view s) o) ≡ option_map (seen_info s) (option_map (λ w. w.about) o)
      by None = refl
      by (Some w) = refl

  -- a view's buffer is live
  at-live : (v : ℕ) (about : ViewInfo) → view_at b v ≡ Some about → IsLive s about.buffer.0
  at-live v about is = by (found (λ (w : BufferView). w.value) v b.views) refl is
    where
      held : (ws : List BufferView) (w : BufferView) → All (λ w. IsViewIn s w.value w.about.buffer.0) ws → found (λ w. w.value) v ws ≡ Some w → IsLive s w.about.buffer.0
      held [] w all at = let no : ⊥ = cc in absurd no
      held (x ∷ xs) w all at = here (x.value == v) at (held xs w (All-tail P x xs all))
        where
          P : BufferView → Type 0
          P y = IsViewIn s y.value y.about.buffer.0

          here : (c : Bool) → cond c (Some x) (found (λ (y : BufferView). y.value) v xs) ≡ Some w → (found (λ y. y.value) v xs ≡ Some w → IsLive s w.about.buffer.0) → IsLive s w.about.buffer.0
          here true at rest =
              let same : x ≡ w = cc in
              subst (λ (y : BufferView). IsLive s y.about.buffer.0) same (viewed-live s sound x.value x.about.buffer.0 (All-head P x xs all))
          here false at rest = rest at

      by : (o : Option BufferView) → found (λ w. w.value) v b.views ≡ o → option_map (λ (w : BufferView). w.about) o ≡ Some about → IsLive s about.buffer.0
      by None at is = let no : ⊥ = cc in absurd no
      by (Some w) at is = let same : w.about ≡ about = cc in subst (λ (x : ViewInfo). IsLive s x.buffer.0) same (held b.views w i.views at)

  -- an element
  pub seen-element : (v at : ℕ) → IsLive s v → element_read (buffers_seen s b) (number_in s v) at ≡ element_read b v at
  seen-element v at live =
      ap (option_and_then (λ (about : ViewInfo). option_and_then (element_in about at) (live_bytes (buffers_seen s b) about.buffer.0))) (seen-view v live) ∙ by (view_at b v) refl
    where
      by : (o : Option ViewInfo) → view_at b v ≡ o
          → option_and_then (λ (about : ViewInfo). option_and_then (element_in about at) (live_bytes (buffers_seen s b) about.buffer.0)) (option_map (seen_info s) o)
          ≡ option_and_then (λ (about : ViewInfo). option_and_then (element_in about at) (live_bytes b about.buffer.0)) o
      by None is = refl
      by (Some about) is = ap (option_and_then (element_in about at)) (seen-bytes about.buffer.0 (at-live v about is))

  -- all bytes together
  sum-seen : (rs : List ArrayBuffer) → All (λ r. IsLive s r.value) rs → IsRising (λ r. r.value) rs
      → sum_by buffer_bytes (as_map (λ r. r.value) (map (seen_buffer s) rs)) ≡ sum_by buffer_bytes rs
  sum-seen [] all rises = refl
  sum-seen (r ∷ rs) all rises =
      let live : All (λ (q : ArrayBuffer). IsLive s q.value) rs = All-tail (λ (q : ArrayBuffer). IsLive s q.value) r rs all in
      let others : List ArrayBuffer = as_map (λ q. q.value) (map (seen_buffer s) rs) in
      let none : found (λ (q : ArrayBuffer). q.value) (number_in s r.value) others ≡ None =
      found-seen (λ (q : ArrayBuffer). q.value) (number_in s) (seen_buffer s) (λ q. refl) (IsLive s) (number-apart s sound) r.value rs
      (All-head (λ (q : ArrayBuffer). IsLive s q.value) r rs all) live
      ∙ ap (option_map (seen_buffer s)) (found-above (λ (q : ArrayBuffer). q.value) r.value rs rises.0) in
      omega (
        arith,
        sum-with_record (λ (q : ArrayBuffer). q.value) buffer_bytes (seen_buffer s r) others (rising-as_map (λ (q : ArrayBuffer). q.value) (map (seen_buffer s) rs)) none,
        sum-seen rs live rises.1,
        sum_by-cons buffer_bytes r rs,
      )

  pub seen-total : AreBufferMaps b → total_bytes (buffers_seen s b) ≡ total_bytes b
  seen-total maps = sum-seen b.buffers i.buffers (map-rising (λ (r : ArrayBuffer). r.value) b.buffers maps.buffers)

  -- CHANGES
  -- a buffer comes
  pub seen-with_buffer : (v size : ℕ) (ticket : Option ℕ) → IsLive s v → AreBufferMaps b → has (λ r. r.value) v b.buffers ≡ false
      → buffers_seen s (with_buffer v size ticket b) ≡ with_buffer (number_in s v) size ticket (buffers_seen s b)
  seen-with_buffer v size ticket live maps absent =
      ap (λ l. record { buffers = l; views = (buffers_seen s b).views })
      (seen-with_record (λ (r : ArrayBuffer). r.value) (number_in s) (seen_buffer s) (λ r. refl) (IsLive s) (number-apart s sound) _ b.buffers live i.buffers maps.buffers absent)

  -- a view comes
  pub seen-with_view : (v : ℕ) (about : ViewInfo) → IsLive s v → AreBufferMaps b → has (λ w. w.value) v b.views ≡ false
      → buffers_seen s (with_view v about b) ≡ with_view (number_in s v) (seen_info s about) (buffers_seen s b)
  seen-with_view v about live maps absent =
      ap (λ l. record { buffers = (buffers_seen s b).buffers; views = l })
      (seen-with_record (λ (w : BufferView). w.value) (number_in s) (seen_view s) (λ w. refl) (IsLive s) (number-apart s sound) (record { value = v; about = about }) b.views live
      (views-live s b.views i.views) maps.views absent)

  -- the bytes of a buffer change
  rebytes-seen : (change : Option (List ℕ) → Option (List ℕ)) (v : ℕ) → IsLive s v → (rs : List ArrayBuffer) → All (λ r. IsLive s r.value) rs
      → map (seen_buffer s) (map (rebytes_at change v) rs) ≡ map (rebytes_at change (number_in s v)) (map (seen_buffer s) rs)
  rebytes-seen change v live [] all = refl
  rebytes-seen change v live (r ∷ rs) all =
      let test : (number_in s r.value == number_in s v) ≡ (r.value == v) =
      same-renamed (λ (x : ArrayBuffer). x.value) (number_in s) (seen_buffer s) (λ x. refl) (IsLive s) (number-apart s sound) r.value v
      (All-head (λ (x : ArrayBuffer). IsLive s x.value) r rs all) live in
      ap (λ x. x ∷ map (seen_buffer s) (map (rebytes_at change v) rs))
      (by (r.value == v) ∙ ap (λ c. cond c (rebytes change (seen_buffer s r)) (seen_buffer s r)) (sym test))
      ∙ ap (λ xs. rebytes_at change (number_in s v) (seen_buffer s r) ∷ xs) (rebytes-seen change v live rs (All-tail (λ (x : ArrayBuffer). IsLive s x.value) r rs all))
    where
      by : (c : Bool) → seen_buffer s (cond c (rebytes change r) r) ≡ cond c (rebytes change (seen_buffer s r)) (seen_buffer s r)
      by true = refl
      by false = refl

  mapped-rows : (f : ArrayBuffer → ArrayBuffer) → ((r : ArrayBuffer) → (f r).value ≡ r.value) → (rs : List ArrayBuffer)
      → as_map (λ r. r.value) (map f rs) ≡ map f (as_map (λ r. r.value) rs)
  mapped-rows f keeps rs =
      found-same (λ (r : ArrayBuffer). r.value) (as_map (λ r. r.value) (map f rs)) (map f (as_map (λ r. r.value) rs)) (rising-as_map (λ (r : ArrayBuffer). r.value) (map f rs))
      (rising-changed (λ (r : ArrayBuffer). r.value) f keeps (as_map (λ r. r.value) rs) (rising-as_map (λ (r : ArrayBuffer). r.value) rs))
      (λ n. found-as_map (λ (r : ArrayBuffer). r.value) n (map f rs)
      ∙ found-map (λ (r : ArrayBuffer). r.value) f keeps n rs
      ∙ ap (option_map f) (sym (found-as_map (λ (r : ArrayBuffer). r.value) n rs))
      ∙ sym (found-map (λ (r : ArrayBuffer). r.value) f keeps n (as_map (λ r. r.value) rs)))

  pub seen-changed_at : (change : Option (List ℕ) → Option (List ℕ)) (v : ℕ) → IsLive s v
      → buffers_seen s (buffer_changed_at change v b) ≡ buffer_changed_at change (number_in s v) (buffers_seen s b)
  seen-changed_at change v live =
      ap (λ l. record { buffers = l; views = (buffers_seen s b).views })
      (ap (as_map (λ (r : ArrayBuffer). r.value)) (rebytes-seen change v live b.buffers i.buffers)
      ∙ mapped-rows (rebytes_at change (number_in s v)) (rebytes-value change (number_in s v)) (map (seen_buffer s) b.buffers))

  pub seen-written : (v at number : ℕ) → IsLive s v
      → buffers_seen s (with_element_written v at number b) ≡ with_element_written (number_in s v) at number (buffers_seen s b)
  seen-written v at number live = by (view_at b v) refl (seen-view v live)
    where
      write : ViewInfo → Option (List ℕ) → Option (List ℕ)
      write about bytes = option_map (with_element_in about at number) bytes

      by : (o : Option ViewInfo) → view_at b v ≡ o → view_at (buffers_seen s b) (number_in s v) ≡ option_map (seen_info s) o
          → buffers_seen s (with_element_written v at number b) ≡ with_element_written (number_in s v) at number (buffers_seen s b)
      by None is seen = rw (is, seen) refl
      by (Some about) is seen = rw (is, seen) (seen-changed_at (write about) about.buffer.0 (at-live v about is))

-- NEW VALUES
module _ (s t : StoreState) (kept : KeepsValues s t) (before : IsSoundStore s) (after : IsSoundStore t) (b : Buffers) (i : BuffersAreLive s b) (maps : AreBufferMaps b) (v : ℕ)
    (live : IsLive t v) (number : number_in t v ≡ s.made + 1) where
  -- a buffer more, of a new value
  pub seen-new-buffer : (size : ℕ) (ticket : Option ℕ) → buffers_seen t (with_buffer v size ticket b) ≡ with_buffer (s.made + 1) size ticket (buffers_seen s b)
  seen-new-buffer size ticket =
      seen-with_buffer t after b (buffered-kept s t kept b i) v size ticket live maps (buffer-absent s t kept before v number b i)
      ∙ ap (λ k. with_buffer k size ticket (buffers_seen t b)) number
      ∙ ap (with_buffer (s.made + 1) size ticket) (buffers-kept s t kept before b i)

  -- a view more
  pub seen-new-view : (about : ViewInfo) → IsLive s about.buffer.0 → buffers_seen t (with_view v about b) ≡ with_view (s.made + 1) (seen_info s about) (buffers_seen s b)
  seen-new-view about there =
      seen-with_view t after b (buffered-kept s t kept b i) v about live maps (view-absent s t kept before v number b i)
      ∙ ap (λ k. with_view k (seen_info t about) (buffers_seen t b)) number
      ∙ ap (λ n. with_view (s.made + 1) (record about { buffer = record { 0 = n } }) (buffers_seen t b)) (kept.numbers about.buffer.0 there)
      ∙ ap (with_view (s.made + 1) (seen_info s about)) (buffers-kept s t kept before b i)

-- as many frames have their scopes
pub linked-frames : (s t : StoreState) (old new : HandleScopes) (n tag : ℕ) (to : Option ℕ) → heap_of t new ≡ with_handle n (with_linked tag to (heap_of s old))
    → length new.frames ≡ length old.frames
linked-frames s t old new n tag to heap =
    sym (length-map new.frames (seen_frame t)) ∙ ap (λ (h : Heap). length h.scopes) heap ∙ length-changed _ (map (seen_frame s) old.frames)
    ∙ length-map old.frames (seen_frame s)
