-- What the calls on array buffers and their views answer.
use Rattle.std.proofs.Common.{◌≡◌, ◌∙◌, ◌≤◌, ◌<◌, ◌⊎◌, ℕ, ◌+◌, ◌*◌, ◌%◌, ◌==◌, nat_lt, nat_le, ◌&&◌, Bool, true, false, cond, not, List, [], ◌∷◌, map, Option, Some, None, is_some, is_none, option_map, inl, inr, refl, ap, sym, subst, arith}
use Rattle.std.specs.List.{All}
use Rattle.std.specs.Option.{option_and_then, option_map_or, option_or, unwrap_or, IsSomeAnd}
use Rattle.std.proofs.lemmas.Bool.Decides.{nat_tests}
use Rattle.std.proofs.lemmas.List.Elements.{All-tail}
use Rattle.napi_types.specs.declared.body.Body.TheVariants as body
use Rattle.napi_types.specs.declared.call.Call.{Call}
use Rattle.napi_types.specs.declared.call.Call.TheVariants as call
use Rattle.napi_types.specs.declared.entry.Out.{Out}
use Rattle.napi_types.specs.declared.entry.Out.TheVariants as out
use Rattle.napi_types.specs.declared.ids.HandleId.{HandleId}
use Rattle.napi_types.specs.declared.status.Status.{Status}
use Rattle.napi_types.specs.declared.status.Status.TheVariants as status
use Rattle.napi_types.specs.declared.view.ViewInfo.{ViewInfo}
use Rattle.napi_types.specs.plain.Lists.{found, when, unless}
use Rattle.napi_types.specs.plain.Replies.{accepts, plain}
use Rattle.napi_types.specs.parts.Bodies.{view_tag}
use Rattle.napi_types.specs.parts.Book.{new_ticket, ticket_duty}
use Rattle.napi_types.specs.parts.Buffers.{ArrayBuffer, Buffers, most_buffer_bytes, most_bytes_together, IsElementSize, buffer_bytes, buffer_length, total_bytes, is_detached_buffer, live_bytes, view_at, view_end, element_in, element_read, with_detached, with_element_in, with_element_written}
use Rattle.napi_types.specs.parts.Graph.{StoreState, IsSoundStore, IsLive, value_of, number_in}
use Rattle.napi_types.specs.parts.Heap.{handle_value}
use Rattle.napi_types.specs.parts.Scopes.{gives}
use Rattle.napi_types.specs.parts.Values.{Value, undefined_value, linked_value}
use Rattle.napi_types.specs.environment.BufferCalls.{with_buffers, making_buffer, making_external_buffer, element_size, view_of_elements, may_lie, view_asked, making_view, limit_refusal, no_buffer_refusal, buffer_refusal}
use Rattle.napi_types.specs.environment.Environment.{Environment}
use Rattle.napi_types.specs.environment.Refusals.{refusal_by_state}
use Rattle.napi_types.proofs.all_runs.BytesTells.{size-known}
use Rattle.napi_types.proofs.plain.Found.{IsRising, same-tells, found-above, map-rising}
use Rattle.array_buffers.specs.KeptBuffers.{AreBufferMaps}
use Rattle.env_values.specs.SeenValues.{IsViewIn}
use Rattle.env_core.specs.declared.handles.Attachable.TheVariants as takes
use Rattle.env_core.specs.Attaching.{target_refusal}
use Rattle.env_core.specs.Buffering.{seen_info, buffers_seen, BuffersAreLive}
use Rattle.env_core.specs.State.{AnswersInTime}
use Rattle.env_core.proofs.Attaching.{timely-row}
use Rattle.env_core.proofs.Buffering.{seen-length, seen-total}
use Rattle.env_core.proofs.Referring.{refused-timely, replied-timely, accepted-timely}

-- A CALL THAT NAMES A HANDLE
-- a call is refused where its handle is unknown, and else for its own reasons
abbrev NamesOne : Call → HandleId → Type 0
NamesOne c h = (e : Environment) (known : Bool) → is_some (gives e.heap.scopes h.0) ≡ known
    → refusal_by_state e c ≡ option_or (unless known status.InvalidArg) (buffer_refusal e c)

names-is : (h : HandleId) → NamesOne (call.IsArraybuffer h) h
names-is h e true known = rw known refl
names-is h e false known = rw known refl

names-detached : (h : HandleId) → NamesOne (call.IsDetachedArraybuffer h) h
names-detached h e true known = rw known refl
names-detached h e false known = rw known refl

names-info : (h : HandleId) → NamesOne (call.GetArraybufferInfo h) h
names-info h e true known = rw known refl
names-info h e false known = rw known refl

names-view : (kind : ℕ) (h : HandleId) (offset count : ℕ) → NamesOne (call.CreateTypedarray kind h offset count) h
names-view kind h offset count e true known = rw known refl
names-view kind h offset count e false known = rw known refl

names-get : (h : HandleId) (at : ℕ) → NamesOne (call.GetView h at) h
names-get h at e true known = rw known refl
names-get h at e false known = rw known refl

names-set : (h : HandleId) (at number : ℕ) → NamesOne (call.SetView h at number) h
names-set h at number e true known = rw known refl
names-set h at number e false known = rw known refl

module _ (e : Environment) (h : HandleId) (n : ℕ) (given : gives e.heap.scopes h.0 ≡ Some n) where
  -- its value
  pub value-given : handle_value e.heap h.0 ≡ n
  value-given = ap (λ o. unwrap_or o undefined_value) given

  own-refusal : (c : Call) → NamesOne c h → refusal_by_state e c ≡ buffer_refusal e c
  own-refusal c names = names e true (ap is_some given)

  own-refused : (c : Call) (s : Status) → NamesOne c h → buffer_refusal e c ≡ Some s → AnswersInTime e c (plain s out.Nothing) e
  own-refused c s names why = refused-timely e c s (own-refusal c names ∙ why)

  -- WHAT A VALUE IS
  pub is-answers : (flag : Bool) → flag ≡ is_some (buffer_length e.buffers n) → AnswersInTime e (call.IsArraybuffer h) (plain status.Ok (out.Flag flag)) e
  is-answers flag is =
      accepted-timely e e (call.IsArraybuffer h) (out.Flag flag) (own-refusal (call.IsArraybuffer h) (names-is h)) refl
      (ap (λ m. accepts (out.Flag (is_some (buffer_length e.buffers m))) e) value-given ∙ ap (λ f. accepts (out.Flag f) e) (sym is))

  pub detached-answers : (flag : Bool) → flag ≡ is_detached_buffer e.buffers n → AnswersInTime e (call.IsDetachedArraybuffer h) (plain status.Ok (out.Flag flag)) e
  detached-answers flag is =
      accepted-timely e e (call.IsDetachedArraybuffer h) (out.Flag flag) (own-refusal (call.IsDetachedArraybuffer h) (names-detached h)) refl
      (ap (λ m. accepts (out.Flag (is_detached_buffer e.buffers m)) e) value-given ∙ ap (λ f. accepts (out.Flag f) e) (sym is))

  -- ITS LENGTH
  no-buffer : (v : ℕ) → handle_value e.heap h.0 ≡ v → None ≡ buffer_length e.buffers v → no_buffer_refusal e.buffers (handle_value e.heap h.0) ≡ Some status.ArraybufferExpected
  no-buffer v is none =
      ap (no_buffer_refusal e.buffers) is ∙ ap (λ (o : Option ℕ). unless (is_some o) status.ArraybufferExpected) (sym none)

  is-buffer : (v size : ℕ) → handle_value e.heap h.0 ≡ v → Some size ≡ buffer_length e.buffers v → no_buffer_refusal e.buffers (handle_value e.heap h.0) ≡ None
  is-buffer v size is some =
      ap (no_buffer_refusal e.buffers) is ∙ ap (λ (o : Option ℕ). unless (is_some o) status.ArraybufferExpected) (sym some)

  pub info-refused : None ≡ buffer_length e.buffers n → AnswersInTime e (call.GetArraybufferInfo h) (plain status.ArraybufferExpected out.Nothing) e
  info-refused none = own-refused (call.GetArraybufferInfo h) status.ArraybufferExpected (names-info h) (no-buffer n value-given none)

  pub info-answers : (size : ℕ) → Some size ≡ buffer_length e.buffers n → AnswersInTime e (call.GetArraybufferInfo h) (plain status.Ok (out.Unsigned size)) e
  info-answers size some =
      accepted-timely e e (call.GetArraybufferInfo h) (out.Unsigned size) (own-refusal (call.GetArraybufferInfo h) (names-info h) ∙ is-buffer n size value-given some) refl
      (ap (λ m. accepts (out.Unsigned (unwrap_or (buffer_length e.buffers m) 0)) e) value-given
      ∙ ap (λ (o : Option ℕ). accepts (out.Unsigned (unwrap_or o 0)) e) (sym some))

  -- ELEMENTS
  pub get-refused : (at : ℕ) → None ≡ element_read e.buffers n at → AnswersInTime e (call.GetView h at) (plain status.InvalidArg out.Nothing) e
  get-refused at none =
      own-refused (call.GetView h at) status.InvalidArg (names-get h at)
      (ap (λ m. unless (is_some (element_read e.buffers m at)) status.InvalidArg) value-given
      ∙ ap (λ (o : Option ℕ). unless (is_some o) status.InvalidArg) (sym none))

  pub get-answers : (at number : ℕ) → Some number ≡ element_read e.buffers n at → AnswersInTime e (call.GetView h at) (plain status.Ok (out.Unsigned number)) e
  get-answers at number some =
      accepted-timely e e (call.GetView h at) (out.Unsigned number)
      (own-refusal (call.GetView h at) (names-get h at) ∙ ap (λ m. unless (is_some (element_read e.buffers m at)) status.InvalidArg) value-given
      ∙ ap (λ (o : Option ℕ). unless (is_some o) status.InvalidArg) (sym some)) refl
      (ap (λ m. accepts (out.Unsigned (unwrap_or (element_read e.buffers m at) 0)) e) value-given
      ∙ ap (λ (o : Option ℕ). accepts (out.Unsigned (unwrap_or o 0)) e) (sym some))

  set-refusal : (at number : ℕ) (b : Bool) → b ≡ is_some (element_read e.buffers n at) → buffer_refusal e (call.SetView h at number) ≡ unless b status.InvalidArg
  set-refusal at number b is = ap (λ m. unless (is_some (element_read e.buffers m at)) status.InvalidArg) value-given ∙ ap (λ c. unless c status.InvalidArg) (sym is)

  pub set-refused : (at number : ℕ) → false ≡ is_some (element_read e.buffers n at) → AnswersInTime e (call.SetView h at number) (plain status.InvalidArg out.Nothing) e
  set-refused at number none = own-refused (call.SetView h at number) status.InvalidArg (names-set h at number) (set-refusal at number false none)

  pub set-answers : (at number : ℕ) → true ≡ is_some (element_read e.buffers n at)
      → AnswersInTime e (call.SetView h at number) (plain status.Ok out.Nothing) (with_buffers (with_element_written n at number e.buffers) e)
  set-answers at number some =
      accepted-timely e _ (call.SetView h at number) out.Nothing (own-refusal (call.SetView h at number) (names-set h at number) ∙ set-refusal at number true some) refl
      (ap (λ m. accepts out.Nothing (with_buffers (with_element_written m at number e.buffers) e)) value-given)

  -- A NEW VIEW
  pub view-no_buffer : (kind offset count : ℕ) → None ≡ buffer_length e.buffers n
      → AnswersInTime e (call.CreateTypedarray kind h offset count) (plain status.ArraybufferExpected out.Nothing) e
  view-no_buffer kind offset count none =
      own-refused (call.CreateTypedarray kind h offset count) status.ArraybufferExpected (names-view kind h offset count)
      (ap (λ o. option_or o (unless (is_some (view_asked e.buffers kind (handle_value e.heap h.0) offset count)) status.InvalidArg)) (no-buffer n value-given none))

  view-own : (kind offset count size : ℕ) (o : Option ViewInfo) → Some size ≡ buffer_length e.buffers n → o ≡ view_asked e.buffers kind n offset count
      → buffer_refusal e (call.CreateTypedarray kind h offset count) ≡ unless (is_some o) status.InvalidArg
  view-own kind offset count size o some is =
      ap (λ r. option_or r (unless (is_some (view_asked e.buffers kind (handle_value e.heap h.0) offset count)) status.InvalidArg)) (is-buffer n size value-given some)
      ∙ ap (λ m. unless (is_some (view_asked e.buffers kind m offset count)) status.InvalidArg) value-given
      ∙ ap (λ (p : Option ViewInfo). unless (is_some p) status.InvalidArg) (sym is)

  pub view-refused : (kind offset count size : ℕ) → Some size ≡ buffer_length e.buffers n → None ≡ view_asked e.buffers kind n offset count
      → AnswersInTime e (call.CreateTypedarray kind h offset count) (plain status.InvalidArg out.Nothing) e
  view-refused kind offset count size some none =
      own-refused (call.CreateTypedarray kind h offset count) status.InvalidArg (names-view kind h offset count) (view-own kind offset count size None some none)

  pub view-unrefused : (kind offset count size : ℕ) (about : ViewInfo) → Some size ≡ buffer_length e.buffers n → Some about ≡ view_asked e.buffers kind n offset count
      → refusal_by_state e (call.CreateTypedarray kind h offset count) ≡ None
  view-unrefused kind offset count size about some is =
      own-refusal (call.CreateTypedarray kind h offset count) (names-view kind h offset count) ∙ view-own kind offset count size (Some about) some is

  pub view-answers : (kind offset count size : ℕ) (about : ViewInfo) (made : HandleId) → Some size ≡ buffer_length e.buffers n
      → Some about ≡ view_asked e.buffers kind n offset count → made.0 ≡ e.heap.handles + 1
      → AnswersInTime e (call.CreateTypedarray kind h offset count) (plain status.Ok (out.Handle made)) (making_view e (Some about)).after
  view-answers kind offset count size about made some is next =
      accepted-timely e (making_view e (Some about)).after (call.CreateTypedarray kind h offset count) (out.Handle made) (view-unrefused kind offset count size about some is) refl
      (ap (λ m. making_view e (view_asked e.buffers kind m offset count)) value-given ∙ ap (making_view e) (sym is)
      ∙ ap (λ k. accepts (out.Handle (record { 0 = k })) (making_view e (Some about)).after) (sym next))

-- an unknown handle
module _ (e : Environment) (h : HandleId) (unknown : is_some (gives e.heap.scopes h.0) ≡ false) where
  not-held : (c : Call) → NamesOne c h → AnswersInTime e c (plain status.InvalidArg out.Nothing) e
  not-held c names = refused-timely e c status.InvalidArg (names e false unknown)

  pub is-unknown : AnswersInTime e (call.IsArraybuffer h) (plain status.InvalidArg out.Nothing) e
  is-unknown = not-held (call.IsArraybuffer h) (names-is h)

  pub detached-unknown : AnswersInTime e (call.IsDetachedArraybuffer h) (plain status.InvalidArg out.Nothing) e
  detached-unknown = not-held (call.IsDetachedArraybuffer h) (names-detached h)

  pub info-unknown : AnswersInTime e (call.GetArraybufferInfo h) (plain status.InvalidArg out.Nothing) e
  info-unknown = not-held (call.GetArraybufferInfo h) (names-info h)

  pub view-unknown : (kind offset count : ℕ) → AnswersInTime e (call.CreateTypedarray kind h offset count) (plain status.InvalidArg out.Nothing) e
  view-unknown kind offset count = not-held (call.CreateTypedarray kind h offset count) (names-view kind h offset count)

  pub get-unknown : (at : ℕ) → AnswersInTime e (call.GetView h at) (plain status.InvalidArg out.Nothing) e
  get-unknown at = not-held (call.GetView h at) (names-get h at)

  pub set-unknown : (at number : ℕ) → AnswersInTime e (call.SetView h at number) (plain status.InvalidArg out.Nothing) e
  set-unknown at number = not-held (call.SetView h at number) (names-set h at number)

-- A BUFFER THAT IS DETACHED
-- it is refused for its handle, and then for its value
timely-detach : (e : Environment) (h : HandleId)
    → refusal_by_state e (call.DetachArraybuffer h) ≡ option_or (option_or (target_refusal takes.Objects e.heap h) None) (buffer_refusal e (call.DetachArraybuffer h))
timely-detach e h = timely-row e h takes.Objects None (buffer_refusal e (call.DetachArraybuffer h))

pub detach-no_object : (e : Environment) (h : HandleId) (s : Status) → Some s ≡ target_refusal takes.Objects e.heap h
    → AnswersInTime e (call.DetachArraybuffer h) (plain s out.Nothing) e
detach-no_object e h s why =
    refused-timely e (call.DetachArraybuffer h) s (timely-detach e h ∙ ap (λ o. option_or (option_or o None) (buffer_refusal e (call.DetachArraybuffer h))) (sym why))

module _ (e : Environment) (h : HandleId) (n : ℕ) (value : handle_value e.heap h.0 ≡ n) (taken : None ≡ target_refusal takes.Objects e.heap h) where
  -- what it is refused for, by its length and by whether it is detached
  detach-refusal : (o : Option ℕ) (d : Bool) → o ≡ buffer_length e.buffers n → d ≡ is_detached_buffer e.buffers n
      → refusal_by_state e (call.DetachArraybuffer h) ≡ option_or (unless (is_some o) status.ArraybufferExpected) (when d status.DetachableArraybufferExpected)
  detach-refusal o d is told =
      timely-detach e h ∙ ap (λ r. option_or (option_or r None) (buffer_refusal e (call.DetachArraybuffer h))) (sym taken)
      ∙ ap (λ m. option_or (unless (is_some (buffer_length e.buffers m)) status.ArraybufferExpected) (when (is_detached_buffer e.buffers m) status.DetachableArraybufferExpected)) value
      ∙ ap (λ (x : Option ℕ). option_or (unless (is_some x) status.ArraybufferExpected) (when (is_detached_buffer e.buffers n) status.DetachableArraybufferExpected)) (sym is)
      ∙ ap (λ b. option_or (unless (is_some o) status.ArraybufferExpected) (when b status.DetachableArraybufferExpected)) (sym told)

  pub detach-no_buffer : None ≡ buffer_length e.buffers n → AnswersInTime e (call.DetachArraybuffer h) (plain status.ArraybufferExpected out.Nothing) e
  detach-no_buffer none = refused-timely e (call.DetachArraybuffer h) status.ArraybufferExpected (detach-refusal None (is_detached_buffer e.buffers n) none refl)

  pub detach-again : (size : ℕ) → Some size ≡ buffer_length e.buffers n → true ≡ is_detached_buffer e.buffers n
      → AnswersInTime e (call.DetachArraybuffer h) (plain status.DetachableArraybufferExpected out.Nothing) e
  detach-again size some is = refused-timely e (call.DetachArraybuffer h) status.DetachableArraybufferExpected (detach-refusal (Some size) true some is)

  pub detach-answers : (size : ℕ) → Some size ≡ buffer_length e.buffers n → false ≡ is_detached_buffer e.buffers n
      → AnswersInTime e (call.DetachArraybuffer h) (plain status.Ok out.Nothing) (with_buffers (with_detached n e.buffers) e)
  detach-answers size some is =
      accepted-timely e _ (call.DetachArraybuffer h) out.Nothing (detach-refusal (Some size) false some is) refl
      (ap (λ m. accepts out.Nothing (with_buffers (with_detached m e.buffers) e)) value)

-- a buffer that is not detached has bytes
pub bytes-there : (b : Buffers) (v size : ℕ) → Some size ≡ buffer_length b v → false ≡ is_detached_buffer b v → is_some (live_bytes b v) ≡ true
bytes-there b v size some is = by (found (λ r. r.value) v b.buffers) some is
  where
    at : (r : ArrayBuffer) (o : Option (List ℕ)) → false ≡ is_none o → is_some o ≡ true
    at r None there = let no : ⊥ = cc in absurd no
    at r (Some bs) there = refl

    by : (o : Option ArrayBuffer) → Some size ≡ option_map buffer_bytes o → false ≡ option_map_or (λ r. is_none r.bytes) o false
        → is_some (option_and_then (λ r. r.bytes) o) ≡ true
    by None some is = let no : ⊥ = cc in absurd no
    by (Some r) some is = at r r.bytes is

-- A NEW BUFFER
pub limits-within : (b : Buffers) (size : ℕ) → None ≡ limit_refusal b size → (size ≤ most_buffer_bytes) × (total_bytes b + size ≤ most_bytes_together)
limits-within b size none = by (nat_lt most_buffer_bytes size) (nat_lt most_bytes_together (total_bytes b + size)) refl refl none
  where
    below : (m n : ℕ) → nat_lt m n ≡ false → n ≤ m
    below m n is = grind (arith, nat_tests)

    by : (c d : Bool) → nat_lt most_buffer_bytes size ≡ c → nat_lt most_bytes_together (total_bytes b + size) ≡ d
        → None ≡ option_or (when c status.InvalidArg) (when d status.GenericFailure) → (size ≤ most_buffer_bytes) × (total_bytes b + size ≤ most_bytes_together)
    by true d one all is = let no : ⊥ = cc in absurd no
    by false true one all is = let no : ⊥ = cc in absurd no
    by false false one all is = (below most_buffer_bytes size one, below most_bytes_together (total_bytes b + size) all)

pub limits-seen : (s : StoreState) → IsSoundStore s → (b : Buffers) → BuffersAreLive s b → AreBufferMaps b → (size : ℕ)
    → limit_refusal (buffers_seen s b) size ≡ limit_refusal b size
limits-seen s sound b i maps size =
    ap (λ n. option_or (when (nat_lt most_buffer_bytes size) status.InvalidArg) (when (nat_lt most_bytes_together (n + size)) status.GenericFailure))
    (seen-total s sound b i maps)

module _ (e : Environment) (size : ℕ) where
  pub buffer-refused : (s : Status) → Some s ≡ limit_refusal e.buffers size → AnswersInTime e (call.CreateArraybuffer size) (plain s out.Nothing) e
  buffer-refused s why = refused-timely e (call.CreateArraybuffer size) s (sym why)

  pub buffer-answers : (h : HandleId) → None ≡ limit_refusal e.buffers size → h.0 ≡ e.heap.handles + 1
      → AnswersInTime e (call.CreateArraybuffer size) (plain status.Ok (out.Handle h)) (making_buffer e size).after
  buffer-answers h none next =
      accepted-timely e (making_buffer e size).after (call.CreateArraybuffer size) (out.Handle h) (sym none) refl
      (ap (λ k. accepts (out.Handle (record { 0 = k })) (making_buffer e size).after) (sym next))

  pub external-buffer-refused : (payload entry hint : ℕ) (s : Status) → Some s ≡ limit_refusal e.buffers size
      → AnswersInTime e (call.CreateExternalArraybuffer size payload entry hint) (plain s out.Nothing) e
  external-buffer-refused payload entry hint s why = refused-timely e (call.CreateExternalArraybuffer size payload entry hint) s (sym why)

  pub external-buffer-answers : (payload entry hint : ℕ) (h : HandleId) → None ≡ limit_refusal e.buffers size → h.0 ≡ e.heap.handles + 1
      → AnswersInTime e (call.CreateExternalArraybuffer size payload entry hint)
      (record (plain status.Ok (out.Handle h)) { made = Some (ticket_duty (new_ticket e.book)) }) (making_external_buffer e size payload entry hint).after
  external-buffer-answers payload entry hint h none next =
      replied-timely e (making_external_buffer e size payload entry hint).after (call.CreateExternalArraybuffer size payload entry hint) _ (sym none) refl
      (ap (λ k. record {
        reply = record (plain status.Ok (out.Handle (record { 0 = k }))) { made = Some (ticket_duty (new_ticket e.book)) };
        after = (making_external_buffer e size payload entry hint).after;
      }) (sym next))

-- A VIEW THAT IS ASKED FOR
pub record IsAskedFor (b : Buffers) (v : ℕ) (about : ViewInfo) : Type 0 where
  pub buffer : about.buffer.0 ≡ v
  pub size : IsElementSize about.size
  pub within : IsSomeAnd (buffer_length b about.buffer.0) (λ end. view_end about ≤ end)

pub asked-for : (b : Buffers) (kind v offset count : ℕ) (about : ViewInfo) → view_asked b kind v offset count ≡ Some about → IsAskedFor b v about
asked-for b kind v offset count about is = by (element_size kind) refl is
  where
    lies : (size bytes : ℕ) → element_size kind ≡ Some size → buffer_length b v ≡ Some bytes → (c : Bool) → may_lie bytes (view_of_elements v size offset count) ≡ c
        → cond c (Some (view_of_elements v size offset count)) None ≡ Some about → IsAskedFor b v about
    lies size bytes at long false may is = let no : ⊥ = cc in absurd no
    lies size bytes at long true may is =
        let same : view_of_elements v size offset count ≡ about = cc in
        subst (IsAskedFor b v) same (record {
          buffer = refl;
          size = size-known kind size at;
          within = subst (λ (o : Option ℕ). IsSomeAnd o (λ end. view_end (view_of_elements v size offset count) ≤ end)) (sym long)
              (second (offset % size == 0) (nat_le (view_end (view_of_elements v size offset count)) bytes) refl may);
        })
      where
        second : (a d : Bool) → nat_le (view_end (view_of_elements v size offset count)) bytes ≡ d → (a && d) ≡ true → view_end (view_of_elements v size offset count) ≤ bytes
        second true true at all = grind (arith, nat_tests)
        second true false at all = let no : ⊥ = cc in absurd no
        second false d at all = let no : ⊥ = cc in absurd no

    sized : (size : ℕ) → element_size kind ≡ Some size → (o : Option ℕ) → buffer_length b v ≡ o
        → option_and_then (λ bytes. cond (may_lie bytes (view_of_elements v size offset count)) (Some (view_of_elements v size offset count)) None) o ≡ Some about
        → IsAskedFor b v about
    sized size at None long is = let no : ⊥ = cc in absurd no
    sized size at (Some bytes) long is = lies size bytes at long (may_lie bytes (view_of_elements v size offset count)) refl is

    by : (o : Option ℕ) → element_size kind ≡ o
        → option_and_then (λ size. option_and_then (λ bytes. cond (may_lie bytes (view_of_elements v size offset count)) (Some (view_of_elements v size offset count)) None) (buffer_length b v)) o
        ≡ Some about → IsAskedFor b v about
    by None at is = let no : ⊥ = cc in absurd no
    by (Some size) at is = sized size at (buffer_length b v) refl is

-- it is seen as the machine's
pub asked-seen : (s : StoreState) → IsSoundStore s → (b : Buffers) → BuffersAreLive s b → (kind v offset count : ℕ) → IsLive s v
    → view_asked (buffers_seen s b) kind (number_in s v) offset count ≡ option_map (seen_info s) (view_asked b kind v offset count)
asked-seen s sound b i kind v offset count live =
    ap (λ (o : Option ℕ). option_and_then (λ size. option_and_then (λ bytes.
    cond (may_lie bytes (view_of_elements (number_in s v) size offset count)) (Some (view_of_elements (number_in s v) size offset count)) None) o) (element_size kind))
    (seen-length s sound b i v live)
    ∙ by (element_size kind)
  where
    lies : (size bytes : ℕ) (c : Bool) → cond c (Some (view_of_elements (number_in s v) size offset count)) None ≡ option_map (seen_info s) (cond c (Some (view_of_elements v size offset count)) None)
    lies size bytes true = refl
    lies size bytes false = refl

    sized : (size : ℕ) (o : Option ℕ)
        → option_and_then (λ bytes. cond (may_lie bytes (view_of_elements (number_in s v) size offset count)) (Some (view_of_elements (number_in s v) size offset count)) None) o
        ≡ option_map (seen_info s) (option_and_then (λ bytes. cond (may_lie bytes (view_of_elements v size offset count)) (Some (view_of_elements v size offset count)) None) o)
    sized size None = refl
    sized size (Some bytes) = lies size bytes (may_lie bytes (view_of_elements v size offset count))

    by : (o : Option ℕ)
        → option_and_then (λ size. option_and_then (λ bytes.
        cond (may_lie bytes (view_of_elements (number_in s v) size offset count)) (Some (view_of_elements (number_in s v) size offset count)) None) (buffer_length b v)) o
        ≡ option_map (seen_info s) (option_and_then (λ size. option_and_then (λ bytes.
        cond (may_lie bytes (view_of_elements v size offset count)) (Some (view_of_elements v size offset count)) None) (buffer_length b v)) o)
    by None = refl
    by (Some size) = sized size (buffer_length b v)

-- the value that is made for it is one
pub view-made : (t : StoreState) (v made to : ℕ) → value_of t v ≡ Some (linked_value made view_tag (Some to)) → IsViewIn t v to
view-made t v made to is = record { body = ap (option_map (λ (x : Value). x.body)) is; link = ap (option_and_then (λ (x : Value). x.link)) is }

-- AN ELEMENT THAT IS NOT WRITTEN
some-where : (c : Bool) (n : ℕ) → c ≡ true → is_some (cond c (Some n) None) ≡ true
some-where true n is = refl
some-where false n is = let no : ⊥ = cc in absurd no

-- one row is changed so that it is what it was
rows-same : (f : Option (List ℕ) → Option (List ℕ)) (v : ℕ) (rs : List ArrayBuffer) → IsRising (λ r. r.value) rs
    → ((r : ArrayBuffer) → found (λ x. x.value) v rs ≡ Some r → f r.bytes ≡ r.bytes) → map (λ (r : ArrayBuffer). cond (r.value == v) (record r { bytes = f r.bytes }) r) rs ≡ rs
rows-same f v [] rises same = refl
rows-same f v (r ∷ rs) rises same = by (r.value == v) refl (rows-same f v rs rises.1)
  where
    rest : List ArrayBuffer
    rest = map (λ (q : ArrayBuffer). cond (q.value == v) (record q { bytes = f q.bytes }) q) rs

    by : (c : Bool) → (r.value == v) ≡ c → (((q : ArrayBuffer) → found (λ x. x.value) v rs ≡ Some q → f q.bytes ≡ q.bytes) → rest ≡ rs) → cond c (record r { bytes = f r.bytes }) r ∷ rest ≡ r ∷ rs
    by false other later =
        ap (λ xs. r ∷ xs)
        (later (λ q at. same q (ap (λ b. cond b (Some r) (found (λ (x : ArrayBuffer). x.value) v rs)) other ∙ at)))
    by true is later =
        let here : r.value ≡ v = same-tells r.value v is in
        let none : found (λ (x : ArrayBuffer). x.value) v rs ≡ None =
        found-above (λ (x : ArrayBuffer). x.value) v rs (subst (λ n. All (λ (x : ArrayBuffer). n < x.value) rs) here rises.0) in
        ap (λ x. record r { bytes = x } ∷ rest) (same r (ap (λ b. cond b (Some r) (found (λ (x : ArrayBuffer). x.value) v rs)) is))
        ∙ ap (λ xs. r ∷ xs) (later (λ q at. let no : None ≡ Some q = sym none ∙ at in cc))

-- where a view reads nothing at an index, nothing is written there
pub unwritten : (b : Buffers) (v at number : ℕ) → AreBufferMaps b → false ≡ is_some (element_read b v at) → with_element_written v at number b ≡ b
unwritten b v at number maps none = by (view_at b v) refl none
  where
    by : (o : Option ViewInfo) → view_at b v ≡ o
        → false ≡ is_some (option_and_then (λ (about : ViewInfo). option_and_then (element_in about at) (live_bytes b about.buffer.0)) o)
        → with_element_written v at number b ≡ b
    by None is none = rw is refl
    by (Some about) is none =
        rw is
        (ap (λ l. record { buffers = l; views = b.views })
        (rows-same (λ bytes. option_map (with_element_in about at number) bytes) about.buffer.0 b.buffers
        (map-rising (λ (r : ArrayBuffer). r.value) b.buffers maps.buffers) kept))
      where
        byte : (bs : List ℕ) (c : Bool) → nat_lt at about.length ≡ c → false ≡ is_some (element_in about at bs) → with_element_in about at number bs ≡ bs
        byte bs false less nothing = rw less refl
        byte bs true less nothing = let no : false ≡ true = nothing ∙ some-where (nat_lt at about.length) _ less in cc

        row : (r : ArrayBuffer) (o : Option (List ℕ)) → r.bytes ≡ o → false ≡ is_some (option_and_then (element_in about at) o)
            → option_map (with_element_in about at number) o ≡ o
        row r None here nothing = refl
        row r (Some bs) here nothing = ap Some (byte bs (nat_lt at about.length) refl nothing)

        kept : (r : ArrayBuffer) → found (λ x. x.value) about.buffer.0 b.buffers ≡ Some r → option_map (with_element_in about at number) r.bytes ≡ r.bytes
        kept r there =
            row r r.bytes refl (none ∙ ap (λ (o : Option ArrayBuffer). is_some (option_and_then (element_in about at) (option_and_then (λ q. q.bytes) o))) there)

-- WHAT A TEST TELLS
pub told-none : (o : Option ℕ) → is_some o ≡ false → None ≡ o
told-none None is = refl
told-none (Some n) is = let no : ⊥ = cc in absurd no

pub told-some : (o : Option ℕ) → is_some o ≡ true → (n : ℕ) × (Some n ≡ o)
told-some None is = let no : ⊥ = cc in absurd no
told-some (Some n) is = (n, refl)
