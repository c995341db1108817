-- Array buffers and their views, as some values are freed.
use Rattle.std.proofs.Common.{◌≡◌, ◌∙◌, ℕ, Bool, true, false, not, List, get_or, Option, Some, None, IsSome, option_map, refl, ap}
use Rattle.std.specs.List.{All}
use Rattle.std.specs.Option.{option_and_then}
use Rattle.std.proofs.lemmas.Bool.{not-true}
use Rattle.napi_types.specs.plain.Lists.{has_number}
use Rattle.napi_types.specs.parts.Buffers.{ArrayBuffer, BufferView, Buffers, buffers_left}
use Rattle.napi_types.specs.parts.Graph.{StoreState, IsSoundStore, IsLive, value_of, number_in}
use Rattle.napi_types.specs.parts.Values.{Value}
use Rattle.napi_types.specs.environment.Collection.{is_freed}
use Rattle.env_values.specs.SeenValues.{IsViewIn}
use Rattle.env_core.specs.Buffering.{seen_buffer, seen_info, seen_view, buffers_seen, BuffersAreLive}
use Rattle.env_core.proofs.Attaching.{number-apart}
use Rattle.env_values.proofs.KeepingHeaps.{view-live}
use Rattle.env_core.proofs.Buffering.{viewed-live}
use Rattle.env_core.proofs.Collecting.{FreesOthers, stays-live, stays-number}
use Rattle.env_core.proofs.Freeing.{stays-told, stays-seen, left-hold}
use Rattle.env_core.proofs.Renaming.{seen-filter}

module _ (s t : StoreState) (ids freed alive : List ℕ) (c : FreesOthers s t ids freed alive) (sound : IsSoundStore s) (after : IsSoundStore t) (b : Buffers)
    (i : BuffersAreLive s b) where
  -- a view that stays is one of the same buffer
  view-left : (w : BufferView) → has_number w.value freed ≡ false → IsViewIn s w.value w.about.buffer.0 → IsViewIn t w.value w.about.buffer.0
  view-left w stays is = record {
    body = ap (option_map (λ (v : Value). v.body)) (c.frees.others w.value stays) ∙ is.body;
    link = ap (option_and_then (λ (v : Value). v.link)) (c.frees.others w.value stays) ∙ is.link;
  }

  -- which stays too: what a value names is live
  buffer-stays : (w : BufferView) → has_number w.value freed ≡ false → IsViewIn s w.value w.about.buffer.0 → has_number w.about.buffer.0 freed ≡ false
  buffer-stays w stays is = by (has_number w.about.buffer.0 freed) refl
    where
      dead : (o : Option Value) → o ≡ None → IsSome o → ⊥
      dead None is some = cc
      dead (Some v) is some = cc

      by : (f : Bool) → has_number w.about.buffer.0 freed ≡ f → f ≡ false
      by false at = refl
      by true at =
          let live : IsLive t w.about.buffer.0 = viewed-live t after w.value w.about.buffer.0 (view-left w stays is) in
          absurd (dead (value_of t w.about.buffer.0) (c.frees.gone w.about.buffer.0 at) live)

  views-live : All (λ w. IsLive s w.value) b.views
  views-live = λ k w inside. view-live s (get_or b.views k w).value (get_or b.views k w).about.buffer.0 (i.views k w inside)

  view-same : (w : BufferView) → has_number w.value freed ≡ false → IsViewIn s w.value w.about.buffer.0 → seen_view t w ≡ seen_view s w
  view-same w stays is =
      ap (λ n. record w { value = n; about = seen_info t w.about }) (stays-number s t ids freed alive c w.value stays)
      ∙ ap (λ n. record w { value = number_in s w.value; about = record (w.about) { buffer = record { 0 = n } } })
      (stays-number s t ids freed alive c w.about.buffer.0 (buffer-stays w stays is))

  pub buffers-left : buffers_seen t (buffers_left (λ v. has_number v freed) b) ≡ buffers_left (is_freed alive) (buffers_seen s b)
  buffers-left =
      let stays : ℕ → Bool = λ v. not (has_number v freed) in
      let lives : ℕ → Bool = λ n. not (is_freed alive n) in
      let buffers = seen-filter (λ (r : ArrayBuffer). r.value) (number_in s) (seen_buffer s) (λ r. refl) (IsLive s) (number-apart s sound) (seen_buffer t) stays lives
      b.buffers (stays-told s t ids freed alive c (λ (r : ArrayBuffer). r.value) b.buffers i.buffers)
      (stays-seen s t ids freed alive c (λ (r : ArrayBuffer). r.value) (seen_buffer s) (seen_buffer t) b.buffers (λ r same. ap (λ n. record r { value = n }) same)) in
      let views = seen-filter (λ (w : BufferView). w.value) (number_in s) (seen_view s) (λ w. refl) (IsLive s) (number-apart s sound) (seen_view t) stays lives
      b.views (stays-told s t ids freed alive c (λ (w : BufferView). w.value) b.views views-live)
      (λ k w inside kept. view-same (get_or b.views k w) (not-true (has_number (get_or b.views k w).value freed) kept) (i.views k w inside)) in
      let here : Buffers = buffers_seen t (buffers_left (λ v. has_number v freed) b) in
      let there : Buffers = buffers_left (is_freed alive) (buffers_seen s b) in
      ap (λ l. record { buffers = l; views = here.views }) buffers ∙ ap (λ l. record { buffers = there.buffers; views = l }) views

  pub buffered-left : BuffersAreLive t (buffers_left (λ v. has_number v freed) b)
  buffered-left = record {
    buffers = left-hold s t ids freed alive c (λ (r : ArrayBuffer). IsLive s r.value) (λ r. IsLive t r.value) (λ r. r.value) b.buffers
        (λ r stays live. stays-live s t ids freed alive c r.value stays live) i.buffers;
    views = left-hold s t ids freed alive c (λ (w : BufferView). IsViewIn s w.value w.about.buffer.0) (λ w. IsViewIn t w.value w.about.buffer.0) (λ w. w.value) b.views
        view-left i.views;
  }
