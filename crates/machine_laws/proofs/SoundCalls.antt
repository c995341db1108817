-- Every call keeps buffers and views sound.
use Rattle.std.proofs.Common.{◌≡◌, ◌∙◌, ◌<◌, ◌≤◌, arith, ℕ, ◌+◌, ◌==◌, ◌&&◌, ◌||◌, nat_le, nat_lt, Bool, true, false, not, cond, List, [], ◌∷◌, ◌++◌, ◌%◌, length, map, refl, ap, sym, subst, Option, Some, None, IsSome, option_map, inl, inr}
use Rattle.std.specs.List.{filter_map, list_any}
use Rattle.std.specs.Option.{IfSome, option_or, option_and_then, option_map_or, option_to_list, unwrap_or}
use Rattle.std.proofs.lemmas.Bool.{and_parts, eq-eqb, leb-true, ltb-false, or_left, true≢false}
use Rattle.std.proofs.lemmas.List.Elements.{All-filter, filter_passes}
use Rattle.napi_types.specs.declared.call.Call.{Call}
use Rattle.napi_types.specs.declared.call.Call.TheVariants as call
use Rattle.napi_types.specs.declared.entry.Cause.TheVariants as cause
use Rattle.napi_types.specs.declared.status.Status.{Status}
use Rattle.napi_types.specs.declared.status.Status.TheVariants as status
use Rattle.napi_types.specs.declared.view.ViewInfo.{ViewInfo}
use Rattle.napi_types.specs.plain.Lists.{has_number, when}
use Rattle.napi_types.specs.plain.Replies.{Answer}
use Rattle.napi_types.specs.parts.AsyncHooks.{set_ticket}
use Rattle.napi_types.specs.parts.Attachments.{Attachments, Attached, tickets_in, wrap_ticket, with_attached}
use Rattle.napi_types.specs.parts.Book.{new_ticket}
use Rattle.napi_types.specs.parts.Buffers.{ArrayBuffer, BufferView, Buffers, IsElementSize, LiesInBuffer, buffer_at, buffer_bytes, buffer_length, total_bytes, most_buffer_bytes, most_bytes_together, view_end}
use Rattle.napi_types.specs.parts.Frames.{caller_of}
use Rattle.napi_types.specs.parts.Heap.{handle_value}
use Rattle.napi_types.specs.parts.HeapRefusals.{refusal_in}
use Rattle.napi_types.specs.parts.Hooks.{hook_ticket}
use Rattle.napi_types.specs.parts.InstanceData.{instance_ticket}
use Rattle.napi_types.specs.parts.Promises.{deferred_promise}
use Rattle.napi_types.specs.parts.Properties.{Property}
use Rattle.napi_types.specs.parts.Reach.{numbers, children_at}
use Rattle.napi_types.specs.parts.References.{referred_value}
use Rattle.napi_types.specs.parts.Values.{Value, children, link_of, value_at}
use Rattle.napi_types.specs.environment.BufferCalls.{limit_refusal, element_size, view_of_elements, may_lie, view_asked, making_view}
use Rattle.napi_types.specs.environment.Calls.{effect, answer}
use Rattle.napi_types.specs.environment.Collection.{is_freed}
use Rattle.napi_types.specs.environment.Environment.{Environment}
use Rattle.napi_types.specs.environment.Hooked.{IsHooked}
use Rattle.napi_types.specs.environment.Moments.{refusal_by_moment}
use Rattle.napi_types.specs.environment.PromiseCalls.{reaction_told, reaction_value, settling}
use Rattle.napi_types.specs.environment.ReferenceCalls.{counted_up, value_told}
use Rattle.napi_types.specs.environment.Refusals.{group_refusal, refusal_by_state, refusal_before_depth}
use Rattle.napi_types.specs.environment.Registering.{registered_only, withdrawing}
use Rattle.napi_types.specs.environment.Roots.{reach, roots}
use Rattle.napi_types.proofs.environment.Cases.{answer-by}
use Rattle.napi_types.proofs.parts.Moved.{IsUnder, BeginsFor, under, registration-within}
use Rattle.napi_types.proofs.parts.Reaching.{reach-closed}
use Rattle.napi_types.proofs.plain.Found.{found-below}
use Rattle.napi_types.proofs.plain.Lists.{none-first, none-last, not-when}
use Rattle.napi_types.proofs.plain.Maps.{among-holds, has-right}
use Rattle.machine_laws.specs.Consistency.{AreBuffersOf, AreSoundBuffers, IsLiveAmong, has_attached}
use Rattle.machine_laws.proofs.BuffersFit.{buffer_value}
use Rattle.machine_laws.proofs.Children.{link-at}
use Rattle.machine_laws.proofs.Collected.{passes-stay, passes-twice}
use Rattle.machine_laws.proofs.ConsistentHeaps.{IsConsistentHeap}
use Rattle.machine_laws.proofs.SoundBuffers.{attached-below, attached-new, sound-attached, sound-buffer, sound-detached, sound-left, sound-view, sound-written}

-- TICKETS
-- what is attached has a ticket below the next one
among-tickets : (ticket v : ℕ) (ts : List Attached) → list_any (λ t. (t.ticket == ticket) && (t.value == v)) ts ≡ true
    → has_number ticket (map (λ (t : Attached). t.ticket) ts) ≡ true
among-tickets ticket v [] some = cc
among-tickets ticket v (t ∷ ts) some = by (t.ticket == ticket) (t.value == v) some (among-tickets ticket v ts)
  where
    by : (b c : Bool) → ((b && c) || list_any (λ x. (x.ticket == ticket) && (x.value == v)) ts) ≡ true
        → (list_any (λ x. (x.ticket == ticket) && (x.value == v)) ts ≡ true → has_number ticket (map (λ (x : Attached). x.ticket) ts) ≡ true)
        → (b || has_number ticket (map (λ (x : Attached). x.ticket) ts)) ≡ true
    by true c some later = refl
    by false c some later = later some

attached-given : (e : Environment) (ticket v : ℕ) → IsHooked e → has_attached e.attachments ticket v ≡ true → ticket < new_ticket e.book
attached-given e ticket v h some =
    let there : has_number ticket (tickets_in e.attachments) ≡ true = has-right ticket _ _ (among-tickets ticket v e.attachments.tickets some) in
    within (under e.book ticket cause.Finalize (h.attached ticket there))
  where
    within : IsUnder (BeginsFor cause.Finalize) e.book ticket → ticket < new_ticket e.book
    within u = registration-within e.book ticket u.registration u.there

-- a finalizer of the next ticket is attached to a value: what was attached is
still-attached : (e : Environment) (x : ℕ) → IsHooked e → (ticket v : ℕ) → has_attached e.attachments ticket v ≡ true
    → has_attached (with_attached x (new_ticket e.book) e.attachments) ticket v ≡ true
still-attached e x h ticket v some = attached-below x (new_ticket e.book) e.attachments ticket v (attached-given e ticket v h some) some

-- CALLS THAT LEAVE THE BUFFERS
-- the buffers stay, and what was attached is attached
record StaysSound (e d : Environment) : Type 0 where
  pub attached : (ticket v : ℕ) → has_attached e.attachments ticket v ≡ true → has_attached d.attachments ticket v ≡ true
  pub buffers : d.buffers ≡ e.buffers

stays-sound : (e d : Environment) → StaysSound e d → AreSoundBuffers e.attachments e.buffers → AreSoundBuffers d.attachments d.buffers
stays-sound e d s h =
    sound-attached e.attachments d.attachments d.buffers s.attached (subst (AreSoundBuffers e.attachments) (sym s.buffers) h)

nothing : (e : Environment) → StaysSound e e
nothing e = record { attached = λ ticket v some. some; buffers = refl }

-- a ticket may be withdrawn besides
withdrawn-stays : (e : Environment) (t : Option ℕ) (a : Answer Environment) → StaysSound e a.after → StaysSound e (withdrawing t a).after
withdrawn-stays e None a s = s
withdrawn-stays e (Some n) a s = record { attached = s.attached; buffers = s.buffers }

counted-stays : (e : Environment) (r : ℕ) (v : Option ℕ) → StaysSound e (counted_up r e v).after
counted-stays e r None = nothing e
counted-stays e r (Some v) = record { attached = λ ticket v some. some; buffers = refl }

told-stays : (e : Environment) (v : Option ℕ) → StaysSound e (value_told e v).after
told-stays e None = nothing e
told-stays e (Some v) = record { attached = λ ticket v some. some; buffers = refl }

settled-stays : (e : Environment) (n v state : ℕ) (p : Option ℕ) → StaysSound e (settling e n v state p).after
settled-stays e n v state None = nothing e
settled-stays e n v state (Some p) = record { attached = λ ticket v some. some; buffers = refl }

read-stays : (e : Environment) (v : Option ℕ) → StaysSound e (reaction_told e v).after
read-stays e None = nothing e
read-stays e (Some v) = record { attached = λ ticket v some. some; buffers = refl }

-- the calls that change the buffers
abbrev changes_buffers : Call → Bool
changes_buffers (call.CreateArraybuffer size) = true
changes_buffers (call.CreateExternalArraybuffer size payload entry hint) = true
changes_buffers (call.DetachArraybuffer h) = true
changes_buffers (call.CreateTypedarray kind h offset count) = true
changes_buffers (call.SetView h at number) = true
changes_buffers call.Collect = true
changes_buffers _ = false

effect-stays : (e : Environment) (c : Call) (n : ℕ) → IsHooked e → changes_buffers c ≡ false → StaysSound e (effect e c n).after
effect-stays e (call.CreateArraybuffer size) n h other = absurd (true≢false other)
effect-stays e (call.CreateExternalArraybuffer size payload entry hint) n h other = absurd (true≢false other)
effect-stays e (call.DetachArraybuffer b) n h other = absurd (true≢false other)
effect-stays e (call.CreateTypedarray kind b offset count) n h other = absurd (true≢false other)
effect-stays e (call.SetView b at number) n h other = absurd (true≢false other)
effect-stays e call.Collect n h other = absurd (true≢false other)
effect-stays e (call.ReferenceRef r) n h other = counted-stays e r.0 (referred_value e.references r.0)
effect-stays e (call.GetReferenceValue r) n h other = told-stays e (referred_value e.references r.0)
effect-stays e (call.Wrap v payload None hint false) n h other = record { attached = λ ticket v some. some; buffers = refl }
effect-stays e (call.Wrap v payload None hint true) n h other = record { attached = λ ticket v some. some; buffers = refl }
effect-stays e (call.Wrap v payload (Some entry) hint false) n h other = record { attached = λ ticket v some. some; buffers = refl }
effect-stays e (call.Wrap v payload (Some entry) hint true) n h other = record { attached = λ ticket v some. some; buffers = refl }
effect-stays e (call.RemoveWrap v) n h other =
    withdrawn-stays e (registered_only e.book (wrap_ticket e.attachments (handle_value e.heap v.0))) _
    (record { attached = λ ticket v some. some; buffers = refl })
effect-stays e (call.AddFinalizer v payload entry hint false) n h other = record { attached = still-attached e (handle_value e.heap v.0) h; buffers = refl }
effect-stays e (call.AddFinalizer v payload entry hint true) n h other = record { attached = still-attached e (handle_value e.heap v.0) h; buffers = refl }
effect-stays e (call.CreateExternal payload None hint) n h other = record { attached = λ ticket v some. some; buffers = refl }
effect-stays e (call.CreateExternal payload (Some entry) hint) n h other = record { attached = still-attached e (e.heap.made + 1) h; buffers = refl }
effect-stays e (call.SetInstanceData payload None hint) n h other =
    withdrawn-stays e (registered_only e.book (instance_ticket e.instances (caller_of e.frames))) _
    (record { attached = λ ticket v some. some; buffers = refl })
effect-stays e (call.SetInstanceData payload (Some entry) hint) n h other =
    let s : StaysSound e _ =
    withdrawn-stays e (registered_only e.book (instance_ticket e.instances (caller_of e.frames))) _
    (record { attached = λ ticket v some. some; buffers = refl }) in
    record { attached = s.attached; buffers = s.buffers }
effect-stays e (call.RemoveEnvCleanupHook entry argument) n h other =
    withdrawn-stays e (registered_only e.book (hook_ticket (caller_of e.frames) entry argument e.hooks)) _
    (record { attached = λ ticket v some. some; buffers = refl })
effect-stays e (call.RemoveAsyncCleanupHook hook) n h other =
    withdrawn-stays e (registered_only e.book (set_ticket hook.0 e.async_hooks)) _ (record { attached = λ ticket v some. some; buffers = refl })
effect-stays e (call.ResolveDeferred d v) n h other = settled-stays e d.0 (handle_value e.heap v.0) 1 (deferred_promise e.promises d.0)
effect-stays e (call.RejectDeferred d v) n h other = settled-stays e d.0 (handle_value e.heap v.0) 2 (deferred_promise e.promises d.0)
effect-stays e call.GetReactionValue n h other = read-stays e (reaction_value e)
effect-stays e c n h other = record { attached = λ ticket v some. some; buffers = refl }

-- A NEW BUFFER
-- the value that is made next is no buffer yet
next-none : (e : Environment) → IsConsistentHeap e.heap → AreBuffersOf e.heap.values e.buffers → buffer_at e.buffers (e.heap.made + 1) ≡ None
next-none e g b =
    found-below buffer_value (e.heap.made + 1) e.buffers.buffers
    (λ k d below. omega (
      arith,
      (among-holds (λ n. (0 < n) × (n ≤ e.heap.made)) (numbers e.heap.values) _ g.values.within (b.live k d below)).1,
    ))

-- its size is within the limits where nothing refuses it
record FitsLimits (b : Buffers) (size : ℕ) : Type 0 where
  pub each : size ≤ most_buffer_bytes
  pub together : total_bytes b + size ≤ most_bytes_together

not-refused : (e : Environment) (c : Call) (size : ℕ) → group_refusal e c ≡ limit_refusal e.buffers size → refusal_before_depth e c ≡ None
    → FitsLimits e.buffers size
not-refused e c size own none =
    let large : Option Status = when (nat_lt most_buffer_bytes size) status.InvalidArg in
    let many : Option Status = when (nat_lt most_bytes_together (total_bytes e.buffers + size)) status.GenericFailure in
    let alone : option_or large many ≡ None =
    sym own ∙ none-last (refusal_in e.texts e.heap c) (group_refusal e c) (none-last (refusal_by_moment e c) (refusal_by_state e c) none) in
    let small : nat_lt most_buffer_bytes size ≡ false = not-when _ status.InvalidArg (none-first large many alone) in
    let few : nat_lt most_bytes_together (total_bytes e.buffers + size) ≡ false = not-when _ status.GenericFailure (none-last large many alone) in
    record {
      each = omega (arith, ltb-false most_buffer_bytes size small);
      together = omega (arith, ltb-false most_bytes_together (total_bytes e.buffers + size) few);
    }

-- A NEW VIEW
-- a view that is asked for lies in the buffer of this value
record IsAskedOf (b : Buffers) (about : ViewInfo) : Type 0 where
  pub some : IsSome (buffer_at b about.buffer.0)
  pub lies : LiesInBuffer about b

module _ (b : Buffers) (kind v offset count : ℕ) (about : ViewInfo) where
  -- the buffer has so many bytes, and the view does not end past them
  bounded : (size bytes : ℕ) → element_size kind ≡ Some size → buffer_length b v ≡ Some bytes → may_lie bytes (view_of_elements v size offset count) ≡ true
      → IsAskedOf b (view_of_elements v size offset count)
  bounded size bytes measured long fits = record {
    some = there (buffer_at b v) long;
    lies = record {
      size = sized (kind == 1) (kind == 4) (kind == 6) (kind == 10) measured;
      within = λ ys live. omega (arith, ends, as-many (buffer_at b v) ys long live);
    };
  }
    where
      sized : (p q r s : Bool) → cond p (Some 1) (cond q (Some 2) (cond r (Some 4) (cond s (Some 8) None))) ≡ Some size → IsElementSize size
      sized true q r s told = let it : 1 ≡ size = cc in inl (sym it)
      sized false true r s told = let it : 2 ≡ size = cc in inr (inl (sym it))
      sized false false true s told = let it : 4 ≡ size = cc in inr (inr (inl (sym it)))
      sized false false false true told = let it : 8 ≡ size = cc in inr (inr (inr (sym it)))
      sized false false false false told = cc

      there : (o : Option ArrayBuffer) → option_map buffer_bytes o ≡ Some bytes → IsSome o
      there None told = cc
      there (Some r) told = refl

      ends : view_end (view_of_elements v size offset count) ≤ bytes
      ends = leb-true _ _ (and_parts (offset % size == 0) (nat_le (view_end (view_of_elements v size offset count)) bytes) fits).1

      as-many : (o : Option ArrayBuffer) (ys : List ℕ) → option_map buffer_bytes o ≡ Some bytes
          → option_and_then (λ (r : ArrayBuffer). r.bytes) o ≡ Some ys → bytes ≡ length ys
      as-many None ys told live = cc
      as-many (Some r) ys told live =
          let it : buffer_bytes r ≡ bytes = cc in sym it ∙ counted r.bytes live
        where
          counted : (p : Option (List ℕ)) → p ≡ Some ys → option_map_or length p 0 ≡ length ys
          counted None here = cc
          counted (Some zs) here = let same : zs ≡ ys = cc in ap length same

  asked-of : view_asked b kind v offset count ≡ Some about → IsAskedOf b about
  asked-of is = by (element_size kind) refl is
    where
      last : (size bytes : ℕ) (c : Bool) → element_size kind ≡ Some size → buffer_length b v ≡ Some bytes
          → may_lie bytes (view_of_elements v size offset count) ≡ c
          → cond c (Some (view_of_elements v size offset count)) None ≡ Some about → IsAskedOf b about
      last size bytes true measured long fits told =
          let it : view_of_elements v size offset count ≡ about = cc in subst (IsAskedOf b) it (bounded size bytes measured long fits)
      last size bytes false measured long fits told = cc

      then : (size : ℕ) (o : Option ℕ) → element_size kind ≡ Some size → buffer_length b v ≡ o
          → option_and_then (λ bytes.
          cond (may_lie bytes (view_of_elements v size offset count)) (Some (view_of_elements v size offset count)) None) o ≡ Some about
          → IsAskedOf b about
      then size None measured long told = cc
      then size (Some bytes) measured long told = last size bytes (may_lie bytes (view_of_elements v size offset count)) measured long refl told

      by : (o : Option ℕ) → element_size kind ≡ o
          → option_and_then (λ size. option_and_then (λ bytes.
          cond (may_lie bytes (view_of_elements v size offset count)) (Some (view_of_elements v size offset count)) None) (buffer_length b v)) o ≡ Some about
          → IsAskedOf b about
      by None measured told = cc
      by (Some size) measured told = then size (buffer_length b v) measured refl told

-- A COLLECTION
-- the link of a value is among its children
linked-child : (n m : ℕ) (vs : List Value) → link_of vs n ≡ Some m → has_number m (children_at vs n) ≡ true
linked-child n m vs is = by (value_at vs n) is
  where
    last : (o : Option ℕ) → o ≡ Some m → has_number m (option_to_list o) ≡ true
    last None told = cc
    last (Some k) told = let it : k ≡ m = cc in or_left (k == m) false (eq-eqb k m it)

    by : (o : Option Value) → option_and_then (λ (v : Value). v.link) o ≡ Some m → has_number m (unwrap_or (option_map children o) []) ≡ true
    by None told = cc
    by (Some v) told =
        has-right m (map (λ (p : Property). p.value) v.properties ++ filter_map (λ e. e) v.elements) (option_to_list v.link) (last v.link told)

-- the buffer of a view that stays does
buffer-stays : (e : Environment) (v m : ℕ) → IsConsistentHeap e.heap → has_number v (reach e) ≡ true → link_of e.heap.values v ≡ Some m
    → has_number m (reach e) ≡ true
buffer-stays e v m g reached is =
    reach-closed e.heap.values (roots e) v m reached (linked-child v m e.heap.values is) (subst (λ o. IfSome o (IsLiveAmong e.heap.values)) is
    (link-at (IsLiveAmong e.heap.values) v e.heap.values g.children))

-- EVERY CALL
viewed-sound : (e : Environment) (about : Option ViewInfo) → ((i : ViewInfo) → about ≡ Some i → IsAskedOf e.buffers i)
    → AreSoundBuffers e.attachments e.buffers → AreSoundBuffers (making_view e about).after.attachments (making_view e about).after.buffers
viewed-sound e None asked h = h
viewed-sound e (Some i) asked h =
    sound-view (e.heap.made + 1) i e.attachments e.buffers (asked i refl).some (asked i refl).lies h

pub effect-sound : (e : Environment) (c : Call) (n : ℕ) → refusal_before_depth e c ≡ None → IsHooked e → IsConsistentHeap e.heap
    → AreBuffersOf e.heap.values e.buffers → AreSoundBuffers e.attachments e.buffers
    → AreSoundBuffers (effect e c n).after.attachments (effect e c n).after.buffers
effect-sound e (call.CreateArraybuffer size) n none hooked g b h =
    let fits : FitsLimits e.buffers size = not-refused e (call.CreateArraybuffer size) size refl none in
    sound-buffer (e.heap.made + 1) size None e.attachments e.buffers (next-none e g b) fits.each fits.together tt h
effect-sound e (call.CreateExternalArraybuffer size payload entry hint) n none hooked g b h =
    let v : ℕ = e.heap.made + 1 in
    let a : Attachments = with_attached v (new_ticket e.book) e.attachments in
    let fits : FitsLimits e.buffers size = not-refused e (call.CreateExternalArraybuffer size payload entry hint) size refl none in
    sound-buffer v size (Some (new_ticket e.book)) a e.buffers (next-none e g b) fits.each fits.together
    (attached-new v (new_ticket e.book) e.attachments)
    (sound-attached e.attachments a e.buffers (still-attached e v hooked) h)
effect-sound e (call.DetachArraybuffer x) n none hooked g b h = sound-detached (handle_value e.heap x.0) e.attachments e.buffers h
effect-sound e (call.CreateTypedarray kind x offset count) n none hooked g b h =
    viewed-sound e (view_asked e.buffers kind (handle_value e.heap x.0) offset count)
    (λ i is. asked-of e.buffers kind (handle_value e.heap x.0) offset count i is) h
effect-sound e (call.SetView x at number) n none hooked g b h =
    sound-written (handle_value e.heap x.0) at number e.attachments e.buffers b.buffers h
effect-sound e call.Collect n none hooked g b h =
    sound-left (is_freed (reach e)) e.attachments e.buffers
    (λ k d below.
    passes-twice _ (buffer-stays e _ _ g
    (passes-stay _ (filter_passes (λ (w : BufferView). not (is_freed (reach e) w.value)) e.buffers.views k d below))
    (All-filter (λ (w : BufferView). not (is_freed (reach e) w.value)) (λ (w : BufferView). link_of e.heap.values w.value ≡ Some w.about.buffer.0)
    e.buffers.views b.linked k d below))) h
effect-sound e c n none hooked g b h = stays-sound e (effect e c n).after (effect-stays e c n hooked refl) h

pub answer-sound : (e : Environment) (c : Call) (n : ℕ) → IsHooked e → IsConsistentHeap e.heap → AreBuffersOf e.heap.values e.buffers
    → AreSoundBuffers e.attachments e.buffers → AreSoundBuffers (answer e c n).after.attachments (answer e c n).after.buffers
answer-sound e c n hooked g b h =
    answer-by e c n (λ a. AreSoundBuffers a.after.attachments a.after.buffers) (λ s. h) (λ s. h) (λ none. effect-sound e c n none hooked g b h)
