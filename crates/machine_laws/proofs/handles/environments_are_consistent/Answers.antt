use Rattle.std.proofs.Common.{◌≡◌, ◌<◌, ◌≤◌, ◌∙◌, ℕ, ◌+◌, ◌==◌, nat_eq, nat_lt, arith, true, List, [], ◌∷◌, length, replicate, refl, ap, sym, inl, inr, Some, None}
use Rattle.std.specs.Option.{unwrap_or}
use Rattle.std.specs.List.{All, list_all, IsDistinct}
use Rattle.std.proofs.lemmas.Bool.{false≢true, and_parts, ltb-true}
use Rattle.std.proofs.lemmas.List.{length-replicate}
use Rattle.std.proofs.lemmas.List.Elements.{All-nil, All-cons}
use Rattle.napi_types.specs.declared.body.Body.TheVariants as body
use Rattle.napi_types.specs.declared.view.ViewInfo.{ViewInfo}
use Rattle.napi_types.specs.parts.Attachments.{Attachments, no_attachments, with_attached}
use Rattle.napi_types.specs.parts.Bodies.{buffer_tag, promise_tag, view_tag}
use Rattle.napi_types.specs.parts.Buffers.{Buffers, IsElementSize, LiesInBuffer, no_buffers, with_buffer}
use Rattle.napi_types.specs.parts.Frames.{most_frames}
use Rattle.napi_types.specs.parts.Heap.{Heap, new_heap}
use Rattle.napi_types.specs.parts.HeapChanges.{with_handle, with_frame, with_linked}
use Rattle.napi_types.specs.parts.Promises.{Promise, Promises, no_promises, promise_state, with_promise, with_reaction}
use Rattle.napi_types.specs.parts.Values.{Value, undefined_value, null_value, starting_values, fresh_value, with_link}
use Rattle.napi_types.specs.environment.Environment.{Environment, TsfnRoot}
use Rattle.napi_types.proofs.plain.Found.{same-self}
use Rattle.machine_laws.specs.Consistency.{IsConsistent, IsLiveAmong, ArePromisesOf, AreSoundBuffers}
use Rattle.machine_laws.specs.ConsistencyMisses.{IsStrict, in_init_frame, holding, two_held, deep, rooting, reference, promise, reacting, deferred, settled_value, pending_value, with_linked_values, promising, buffer_number, view_number, with_viewed_values, zeros_of, element_of, finalizing_value, buffering}
use Rattle.machine_laws.proofs.BuffersFit.{buffer-fits, no-buffers-fit, view-fits}
use Rattle.machine_laws.proofs.ConsistentRuns.{environments-are-consistent, new-heap-good}
use Rattle.machine_laws.proofs.Counting.{count-cons, distinct-times, none-issued, one_when, times}
use Rattle.machine_laws.proofs.ConsistentAnswers.{whole-of}
use Rattle.machine_laws.proofs.Children.{keeps-link}
use Rattle.machine_laws.proofs.ConsistentHeaps.{IsConsistentHeap, ComesTo, with-handle, with-frame}
use Rattle.machine_laws.proofs.ConsistentValues.{with-linked-value, with-one-changed}
use Rattle.machine_laws.proofs.PromiseMaps.{none-promised, more-promised, reacted-promised, settled-promised}
use Rattle.machine_laws.proofs.Reactions.{AreBelow}
use Rattle.machine_laws.proofs.Rising.{none-map}
use Rattle.machine_laws.proofs.SoundBuffers.{attached-new, none-sound, sound-buffer, sound-view}
use Rattle.machine_laws.proofs.handles.environments_are_consistent.Goals as goal

pub returns-clause-runs : goal.returns-clause-runs
returns-clause-runs c = environments-are-consistent

two-good : IsConsistentHeap (holding two_held)
two-good =
    let one : ComesTo new_heap (with_frame new_heap) = with-frame new_heap new-heap-good in
    let two : ComesTo _ (with_handle undefined_value (with_frame new_heap)) = with-handle (with_frame new_heap) undefined_value one.good refl in
    (with-handle (with_handle undefined_value (with_frame new_heap)) null_value two.good refl).good

two-fit : IsConsistent (in_init_frame (holding two_held))
two-fit =
    let e : Environment = in_init_frame (holding two_held) in
    whole-of e
    (record {
      heap = two-good;
      referred = λ k d below. absurd (omega (arith, below));
      references = none-map;
      pending = tt;
      rooted = λ k d below. absurd (omega (arith, below));
      promises = none-promised starting_values;
      buffers = no-buffers-fit starting_values;
    }) (none-sound no_attachments) refl (omega arith)

rooted-fit : IsConsistent (rooting undefined_value)
rooted-fit =
    let P : TsfnRoot → Type 0 = λ r. IsLiveAmong (holding two_held).values r.value in
    whole-of (rooting undefined_value)
    (record {
      heap = two-good;
      referred = λ k d below. absurd (omega (arith, below));
      references = none-map;
      pending = tt;
      rooted = All-cons P (record { function = 1; value = undefined_value }) [] refl (All-nil P);
      promises = none-promised starting_values;
      buffers = no-buffers-fit starting_values;
    }) (none-sound no_attachments) refl (omega arith)

-- a test of numbers tells that reactions are below a ticket
all-lower : (ticket : ℕ) (ns : List ℕ) → list_all (λ n. nat_lt n ticket) ns ≡ true → All (λ n. n < ticket) ns
all-lower ticket [] is = All-nil (λ n. n < ticket)
all-lower ticket (n ∷ ns) is =
    let both = and_parts (nat_lt n ticket) (list_all (λ m. nat_lt m ticket) ns) is in
    All-cons (λ m. m < ticket) n ns (ltb-true n ticket both.0) (all-lower ticket ns both.1)

are-below : (ticket : ℕ) (rs : List Promise) → list_all (λ r. list_all (λ n. nat_lt n ticket) r.reactions) rs ≡ true → All (AreBelow ticket) rs
are-below ticket [] is = All-nil (AreBelow ticket)
are-below ticket (r ∷ rs) is =
    let both = and_parts (list_all (λ n. nat_lt n ticket) r.reactions) (list_all (λ x. list_all (λ n. nat_lt n ticket) x.reactions) rs) is in
    All-cons (AreBelow ticket) r rs (all-lower ticket r.reactions both.0) (are-below ticket rs both.1)

-- two values are made that may have links
abbrev both_unlinked : Heap
both_unlinked = with_linked promise_tag None (with_linked promise_tag None (holding two_held))

unlinked-good : IsConsistentHeap both_unlinked
unlinked-good =
    let one : ComesTo (holding two_held) (with_linked promise_tag None (holding two_held)) =
    with-linked-value (holding two_held) promise_tag None tt two-good in
    (with-linked-value (with_linked promise_tag None (holding two_held)) promise_tag None tt one.good).good

links-first : ComesTo both_unlinked with_linked_values
links-first =
    with-one-changed both_unlinked settled_value (with_link undefined_value) (keeps-link (IsLiveAmong both_unlinked.values) undefined_value refl) unlinked-good

-- a promise is made of each of them, with reactions, and the first one is settled with undefined
promised-fit : IsConsistent
    (promising (reacting settled_value 1 (1 ∷ 3 ∷ []) ∷ reacting pending_value 0 (2 ∷ []) ∷ []) (deferred 2 pending_value ∷ []) (1 ∷ 2 ∷ []))
promised-fit =
    let vs : List Value = both_unlinked.values in
    let first : Promises = with_promise settled_value 1 no_promises in
    let one : ArePromisesOf vs first = more-promised settled_value 1 vs no_promises refl refl (none-promised vs) in
    let both : Promises = with_promise pending_value 2 first in
    let two : ArePromisesOf vs both = more-promised pending_value 2 vs first refl refl one in
    let three : ArePromisesOf vs (with_reaction settled_value 1 both) = reacted-promised settled_value 1 vs both (are-below 1 both.promises refl) two in
    let some : Promises = with_reaction settled_value 1 both in
    let four : ArePromisesOf vs (with_reaction pending_value 2 some) = reacted-promised pending_value 2 vs some (are-below 2 some.promises refl) three in
    let more : Promises = with_reaction pending_value 2 some in
    let five : ArePromisesOf vs (with_reaction settled_value 3 more) = reacted-promised settled_value 3 vs more (are-below 3 more.promises refl) four in
    whole-of (promising (reacting settled_value 1 (1 ∷ 3 ∷ []) ∷ reacting pending_value 0 (2 ∷ []) ∷ []) (deferred 2 pending_value ∷ []) (1 ∷ 2 ∷ []))
    (record {
      heap = links-first.good;
      referred = λ k d below. absurd (omega (arith, below));
      references = none-map;
      pending = tt;
      rooted = λ k d below. absurd (omega (arith, below));
      promises = settled-promised 1 settled_value 1 undefined_value vs (with_reaction settled_value 3 more) refl links-first.live five;
      buffers = no-buffers-fit with_linked_values.values;
    }) (none-sound no_attachments) refl (omega arith)

-- a buffer is made with a finalizer, and a view of it
buffers-fit : IsConsistent
    (buffering (zeros_of buffer_number 8 (Some 1) ∷ []) (element_of view_number buffer_number 4 4 ∷ []) (finalizing_value buffer_number 1 ∷ []))
buffers-fit =
    let vs : List Value = with_viewed_values.values in
    let a : Attachments = with_attached buffer_number 1 no_attachments in
    let about : ViewInfo = (element_of view_number buffer_number 4 4).about in
    let b : Buffers = with_buffer buffer_number 8 (Some 1) no_buffers in
    let one : ComesTo (holding two_held) (with_linked buffer_tag None (holding two_held)) = with-linked-value (holding two_held) buffer_tag None tt two-good in
    let first : AreSoundBuffers a b =
    sound-buffer buffer_number 8 (Some 1) a no_buffers refl (omega arith) (omega arith) (attached-new buffer_number 1 no_attachments) (none-sound a) in
    let lies : LiesInBuffer about b = record {
      size = inr (inr (inl refl));
      within = λ ys is. let it : replicate 8 0 ≡ ys = cc in omega (arith, ap length it);
    } in
    whole-of
    (buffering (zeros_of buffer_number 8 (Some 1) ∷ []) (element_of view_number buffer_number 4 4 ∷ []) (finalizing_value buffer_number 1 ∷ []))
    (record {
      heap = (with-linked-value (with_linked buffer_tag None (holding two_held)) view_tag (Some buffer_number) refl one.good).good;
      referred = λ k d below. absurd (omega (arith, below));
      references = none-map;
      pending = tt;
      rooted = λ k d below. absurd (omega (arith, below));
      promises = none-promised vs;
      buffers = view-fits view_number about vs b refl refl (buffer-fits buffer_number 8 (Some 1) vs no_buffers refl (no-buffers-fit vs));
    }) (sound-view view_number about a b refl lies first) refl (omega arith)

-- no element has three bytes
three-bytes : IsElementSize 3 → ⊥
three-bytes (inl is) = absurd (omega (arith, is))
three-bytes (inr (inl is)) = absurd (omega (arith, is))
three-bytes (inr (inr (inl is))) = absurd (omega (arith, is))
three-bytes (inr (inr (inr is))) = absurd (omega (arith, is))

-- no promise is pending whose state is above 0
state-above : (state : ℕ) → Some (state + 1) ≡ Some 0 → ⊥
state-above state same = let no : state + 1 ≡ 0 = ap (λ o. unwrap_or o 0) same in absurd (omega (arith, no))

-- a promise that stands alone is found
state-own : (value state : ℕ) → promise_state (record { promises = promise value (state + 1) ∷ []; deferreds = []; issued = [] }) value ≡ Some (state + 1)
state-own value state = rw (same-self value) refl

-- a ticket that stands twice
twice-apart : (ticket : ℕ) → IsDistinct nat_eq (ticket ∷ ticket ∷ []) → ⊥
twice-apart ticket apart =
    let once : times ticket (ticket ∷ ticket ∷ []) ≤ 1 = distinct-times ticket (ticket ∷ ticket ∷ []) apart in
    let same : one_when (ticket == ticket) ≡ 1 = ap one_when (same-self ticket) in
    absurd (omega (arith, once, same, count-cons (λ k. k == ticket) ticket (ticket ∷ []), count-cons (λ k. k == ticket) ticket []))

deep-good : IsConsistentHeap (deep most_frames).heap
deep-good = record {
  handles = none-issued 0;
  values = new-heap-good.values;
  held = λ k d below. absurd (omega (arith, below));
  children = new-heap-good.children;
  starting = new-heap-good.starting;
}

deep-fit : IsConsistent (deep most_frames)
deep-fit =
    whole-of (deep most_frames)
    (record {
      heap = deep-good;
      referred = λ k d below. absurd (omega (arith, below));
      references = none-map;
      pending = tt;
      rooted = λ k d below. absurd (omega (arith, below));
      promises = none-promised starting_values;
      buffers = no-buffers-fit starting_values;
    }) (none-sound no_attachments) refl (omega arith)

-- so many zeros
abbrev zeros : ℕ → List ℕ
zeros n = replicate n 0

abbrev eight-zeros : List ℕ
eight-zeros = zeros 8

law : IsStrict
law = record {
  fits = two-fit;
  fits_deep = deep-fit;
  fits_rooted = rooted-fit;
  fits_promised = promised-fit;
  fits_buffers = buffers-fit;
  twice = λ v w c. absurd (omega (arith, distinct-times 1 (1 ∷ 1 ∷ []) c.handles.apart));
  unissued = λ c. absurd (omega (arith, (c.handles.within 1 0 (omega arith)).1));
  nought = λ c. absurd (omega (arith, (c.handles.within 0 1 (omega arith)).0));
  doubled = λ c. absurd (omega (arith, distinct-times 2 (1 ∷ 2 ∷ 3 ∷ 4 ∷ 5 ∷ 2 ∷ []) c.values.apart));
  unmade = λ c. absurd (omega (arith, (c.values.within 5 0 (omega arith)).1));
  held = λ c. false≢true (c.held 0 0 (omega arith));
  referred = λ c. false≢true (c.referred 0 (record { number = 1; value = Some 6; count = 0 }) (omega arith));
  falling = λ c. absurd (omega (arith, c.references.rows.0 0 (reference 0) (omega arith)));
  falling_numbers = λ c. absurd (omega (arith, c.references.numbers.0 0 0 (omega arith)));
  uncounted = λ c. false≢true (c.references.issued 0 (reference 0) (omega arith));
  pending = λ c. false≢true c.pending;
  rooted = λ c. false≢true (c.rooted 0 (record { function = 1; value = 6 }) (omega arith));
  child = λ c. false≢true (c.children 5 (fresh_value 1 body.Undefined) (omega arith) 0 0 (omega arith));
  dead = λ c. false≢true (c.promises.live 0 (promise 8 0) (omega arith));
  unpromised = λ c. let no : None ≡ Some 0 = c.promises.rows.pending 0 (deferred 1 2) (omega arith) in cc;
  settled = λ value state c. state-above state (sym (state-own value state) ∙ c.promises.rows.pending 0 (deferred 1 value) (omega arith));
  shared = λ c. absurd (omega (arith, distinct-times 7 (7 ∷ 7 ∷ []) c.promises.rows.apart));
  linked = λ c. let no : Some 1 ≡ None = c.promises.unsettled 0 (deferred 1 6) (omega arith) in cc;
  unlinked = λ state c. false≢true (c.promises.settled 0 (promise 7 1) (omega arith) (λ none. absurd (omega (arith, none))));
  falling_reactions = λ c. absurd (omega (arith, (c.promises.rows.reactions 0 (promise 6 1) (omega arith)).0 0 0 (omega arith)));
  reacts_twice = λ ticket c. absurd (omega (arith, (c.promises.rows.reactions 0 (promise 6 1) (omega arith)).0 0 0 (omega arith)));
  shared_reaction = λ ticket c. twice-apart ticket c.promises.rows.once;
  falling_promises = λ c. absurd (omega (arith, c.promises.rows.promises.0 0 (promise 6 1) (omega arith)));
  falling_deferreds = λ c. absurd (omega (arith, c.promises.rows.deferreds.0 0 (deferred 1 2) (omega arith)));
  falling_issued = λ c. absurd (omega (arith, c.promises.rows.numbers.0 0 0 (omega arith)));
  unissued_deferred = λ c. false≢true (c.promises.rows.issued 0 (deferred 1 7) (omega arith));
  dead_buffer = λ size c. false≢true (c.buffers.live 0 (zeros_of 8 8 None) (omega arith));
  dead_view = λ c. false≢true (c.buffers.viewed 0 (element_of 8 6 4 4) (omega arith));
  falling_buffers = λ c. absurd (omega (arith, c.buffers.buffers.0 0 (zeros_of 6 8 None) (omega arith)));
  falling_views = λ c. absurd (omega (arith, c.buffers.views.0 0 (element_of 6 6 4 4) (omega arith)));
  unlinked_view = λ c. let no : Some 6 ≡ Some 1 = c.buffers.linked 0 (element_of 7 1 4 4) (omega arith) in cc;
  freed = λ c. false≢true (c.sound.whose 0 (element_of 7 6 4 4) (omega arith));
  past_end = λ offset far c. absurd (omega (arith, far, (c.sound.limits.views 7 (element_of 7 6 4 offset).about refl).within eight-zeros refl));
  odd_size = λ c. three-bytes (c.sound.limits.views 7 (element_of 7 6 3 0).about refl).size;
  past_limit = λ n far c. absurd (omega (arith, far, c.sound.limits.each 6 (length (zeros n)) refl, length-replicate {A = ℕ} n 0));
  past_sum = λ m n far c. absurd (omega (arith, far, c.sound.limits.together, length-replicate {A = ℕ} m 0, length-replicate {A = ℕ} n 0));
  unattached = λ ticket c. false≢true (c.sound.attached 0 (zeros_of 6 8 None) (omega arith));
  attached_elsewhere = λ c. false≢true (c.sound.attached 0 (zeros_of 6 8 None) (omega arith));
  starting = λ c. false≢true (c.starting 0 0 (omega arith));
  scopes = λ c. absurd (omega (arith, c.frames));
  depth = λ c. absurd (omega (arith, c.depth));
}

pub returns-clause-strict : goal.returns-clause-strict
returns-clause-strict c = law
