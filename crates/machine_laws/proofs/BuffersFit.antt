-- Buffers and views stay finite maps, and fit the values, as they are made, changed and collected.
use Rattle.std.proofs.Common.{◌≡◌, ◌∙◌, ℕ, ◌==◌, Bool, true, false, not, cond, List, [], ◌∷◌, refl, ap, subst, Option, Some, None, IsSome, option_map, slice_index_or}
use Rattle.std.specs.List.{All}
use Rattle.std.specs.Option.{option_map_or}
use Rattle.std.proofs.lemmas.List.Elements.{All-nil, All-cons, All-filter, All-map, All-weaker, filter_passes}
use Rattle.napi_types.specs.declared.view.ViewInfo.{ViewInfo}
use Rattle.napi_types.specs.plain.Lists.{found}
use Rattle.napi_types.specs.parts.Buffers.{ArrayBuffer, BufferView, Buffers, no_buffers, buffer_at, view_at, with_buffer, with_view, buffer_changed_at, with_element_in, with_element_written, buffers_left}
use Rattle.napi_types.specs.parts.Values.{Value, link_of}
use Rattle.napi_types.specs.environment.Collection.{is_freed}
use Rattle.napi_types.specs.environment.Environment.{Environment}
use Rattle.napi_types.specs.environment.Roots.{reach}
use Rattle.napi_types.proofs.plain.Found.{IsRising, apart-below, found-All, found-first, found-later, found-number, found-with_record, rising-changed, rising-filter, rising-with_record, same-self}
use Rattle.napi_types.proofs.plain.Maps.{All-with_record}
use Rattle.machine_laws.specs.Consistency.{AreBuffersOf, IsLiveAmong}
use Rattle.machine_laws.proofs.Collected.{kept, live-reached, passes-stay}
use Rattle.machine_laws.proofs.KeptLinks.{HasLinksOf, link-stays}

abbrev pub buffer_value : ArrayBuffer → ℕ
buffer_value r = r.value

abbrev pub view_value : BufferView → ℕ
view_value w = w.value

-- what is said of the values of buffers and of views
abbrev IsLiveBuffer : List Value → ArrayBuffer → Type 0
IsLiveBuffer vs r = IsLiveAmong vs r.value

abbrev IsLiveView : List Value → BufferView → Type 0
IsLiveView vs w = IsLiveAmong vs w.value

abbrev IsLinkedView : List Value → BufferView → Type 0
IsLinkedView vs w = link_of vs w.value ≡ Some w.about.buffer.0

-- WHAT IS FOUND
-- each of rising buffers is found by its value
pub each-buffer : (rs : List ArrayBuffer) → IsRising buffer_value rs → All (λ r. found buffer_value r.value rs ≡ Some r) rs
each-buffer [] rises = All-nil (λ r. found buffer_value r.value [] ≡ Some r)
each-buffer (x ∷ xs) rises =
    All-cons (λ r. found buffer_value r.value (x ∷ xs) ≡ Some r) x xs (found-first buffer_value x xs)
    (λ k d below. found-later buffer_value _ x xs (apart-below x.value _ (rises.0 k d below)) ∙ each-buffer xs rises.1 k d below)

-- a value that is a buffer is live
pub buffer-live : (m : ℕ) (vs : List Value) (b : Buffers) → IsSome (buffer_at b m) → AreBuffersOf vs b → IsLiveAmong vs m
buffer-live m vs b some h = by (buffer_at b m) refl some
  where
    by : (o : Option ArrayBuffer) → buffer_at b m ≡ o → IsSome o → IsLiveAmong vs m
    by None here some = cc
    by (Some r) here some =
        subst (IsLiveAmong vs) (found-number buffer_value m b.buffers r here) (found-All buffer_value (IsLiveBuffer vs) m b.buffers r h.live here)

-- a new view is found
pub view-new : (v : ℕ) (about : ViewInfo) (b : Buffers) → view_at (with_view v about b) v ≡ Some about
view-new v about b =
    let x : BufferView = record { value = v; about = about } in
    ap (option_map (λ (w : BufferView). w.about))
    (found-with_record view_value v x b.views ∙ ap (λ c. cond c (Some x) (found view_value v b.views)) (same-self v))

-- THE MAPS
pub no-buffers-fit : (vs : List Value) → AreBuffersOf vs no_buffers
no-buffers-fit vs = record {
  buffers = tt;
  views = tt;
  live = All-nil (IsLiveBuffer vs);
  viewed = All-nil (IsLiveView vs);
  linked = All-nil (IsLinkedView vs);
}

-- more values are live, and each that had a link has it
pub wider-buffers : (vs ws : List Value) (b : Buffers) → ((n : ℕ) → IsLiveAmong vs n → IsLiveAmong ws n) → HasLinksOf vs ws → AreBuffersOf vs b
    → AreBuffersOf ws b
wider-buffers vs ws b live links h = record {
  buffers = h.buffers;
  views = h.views;
  live = All-weaker (IsLiveBuffer vs) (IsLiveBuffer ws) (λ r. live r.value) b.buffers h.live;
  viewed = All-weaker (IsLiveView vs) (IsLiveView ws) (λ w. live w.value) b.views h.viewed;
  linked = λ k d below. links _ _ (h.viewed k d below) (h.linked k d below);
}

-- a live value becomes a buffer, ..
pub buffer-fits : (v size : ℕ) (t : Option ℕ) (vs : List Value) (b : Buffers) → IsLiveAmong vs v → AreBuffersOf vs b → AreBuffersOf vs (with_buffer v size t b)
buffer-fits v size t vs b live h = record {
  buffers = rising-with_record buffer_value _ b.buffers h.buffers;
  views = h.views;
  live = All-with_record buffer_value _ (IsLiveBuffer vs) b.buffers live h.live;
  viewed = h.viewed;
  linked = h.linked;
}

-- .. and one whose link is a buffer becomes a view of that
pub view-fits : (v : ℕ) (about : ViewInfo) (vs : List Value) (b : Buffers) → IsLiveAmong vs v → link_of vs v ≡ Some about.buffer.0 → AreBuffersOf vs b
    → AreBuffersOf vs (with_view v about b)
view-fits v about vs b live linked h =
    let x : BufferView = record { value = v; about = about } in
    record {
      buffers = h.buffers;
      views = rising-with_record view_value x b.views h.views;
      live = h.live;
      viewed = All-with_record view_value x (IsLiveView vs) b.views live h.viewed;
      linked = All-with_record view_value x (IsLinkedView vs) b.views linked h.linked;
    }

-- the bytes of a buffer change
pub bytes-fit : (change : Option (List ℕ) → Option (List ℕ)) (v : ℕ) (vs : List Value) (b : Buffers) → AreBuffersOf vs b
    → AreBuffersOf vs (buffer_changed_at change v b)
bytes-fit change v vs b h = record {
  buffers = rising-changed buffer_value changed (λ r. same r (r.value == v)) b.buffers h.buffers;
  views = h.views;
  live = All-map (IsLiveBuffer vs) changed b.buffers
      (λ k d below. rw (same (slice_index_or b.buffers k d) ((slice_index_or b.buffers k d).value == v)) (h.live k d below));
  viewed = h.viewed;
  linked = h.linked;
}
  where
    changed : ArrayBuffer → ArrayBuffer
    changed r = cond (r.value == v) (record r { bytes = change r.bytes }) r

    same : (r : ArrayBuffer) (c : Bool) → (cond c (record r { bytes = change r.bytes }) r).value ≡ r.value
    same r true = refl
    same r false = refl

pub written-fit : (v at number : ℕ) (vs : List Value) (b : Buffers) → AreBuffersOf vs b → AreBuffersOf vs (with_element_written v at number b)
written-fit v at number vs b h = by (view_at b v)
  where
    by : (o : Option ViewInfo)
        → AreBuffersOf vs (option_map_or (λ about. buffer_changed_at (option_map (with_element_in about at number)) about.buffer.0 b) o b)
    by None = h
    by (Some about) = bytes-fit (option_map (with_element_in about at number)) about.buffer.0 vs b h

-- values are collected
pub left-fit : (e : Environment) → AreBuffersOf e.heap.values e.buffers → AreBuffersOf (kept e) (buffers_left (is_freed (reach e)) e.buffers)
left-fit e h = record {
  buffers = rising-filter buffer_value (λ r. not (is_freed (reach e) r.value)) e.buffers.buffers h.buffers;
  views = rising-filter view_value (λ w. not (is_freed (reach e) w.value)) e.buffers.views h.views;
  live = λ k d below.
      live-reached e _ (passes-stay _ (filter_passes (λ (r : ArrayBuffer). not (is_freed (reach e) r.value)) e.buffers.buffers k d below));
  viewed = λ k d below.
      live-reached e _ (passes-stay _ (filter_passes (λ (w : BufferView). not (is_freed (reach e) w.value)) e.buffers.views k d below));
  linked = λ k d below.
      link-stays (reach e) _ e.heap.values
      (passes-stay _ (filter_passes (λ (w : BufferView). not (is_freed (reach e) w.value)) e.buffers.views k d below))
      ∙ All-filter (λ (w : BufferView). not (is_freed (reach e) w.value)) (IsLinkedView e.heap.values) e.buffers.views h.linked k d below;
}
