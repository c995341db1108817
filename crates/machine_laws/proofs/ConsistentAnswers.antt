-- Every call keeps environments good.
use Rattle.std.proofs.Common.{◌≡◌, ◌<◌, ◌≤◌, arith, ℕ, ◌+◌, ◌==◌, Bool, true, false, cond, not, List, [], ◌∷◌, length, refl, sym, ◌∙◌, Option, Some, None, IsSome, option_map, slice_index_or, subst}
use Rattle.std.specs.List.{All}
use Rattle.std.specs.Option.{IfSome, unwrap_or, option_and_then}
use Rattle.std.proofs.lemmas.List.Elements.{All-append, All-cons, All-nil, All-head, All-tail, All-filter, All-map, All-weaker}
use Rattle.std.proofs.lemmas.Option.{IfSome_then}
use Rattle.napi_types.specs.declared.body.Body.TheVariants as body
use Rattle.napi_types.specs.declared.call.Call.{Call}
use Rattle.napi_types.specs.declared.entry.Duty.{Duty}
use Rattle.napi_types.specs.declared.entry.Out.TheVariants as out
use Rattle.napi_types.specs.declared.ids.TextNo.{TextNo}
use Rattle.napi_types.specs.declared.view.ViewInfo.{ViewInfo}
use Rattle.napi_types.specs.plain.Lists.{found}
use Rattle.napi_types.specs.plain.Replies.{accepts}
use Rattle.napi_types.specs.parts.Bodies.{buffer_tag, promise_tag, view_tag}
use Rattle.napi_types.specs.parts.Book.{new_ticket}
use Rattle.napi_types.specs.parts.Buffers.{Buffers, buffer_at, view_at, with_buffer, with_view, with_detached, with_element_written}
use Rattle.napi_types.specs.parts.Frames.{caller_of, most_frames}
use Rattle.napi_types.specs.parts.Heap.{Heap, handle_value}
use Rattle.napi_types.specs.parts.HeapChanges.{with_handle, with_linked, with_thrown, thrown_number}
use Rattle.napi_types.specs.parts.AsyncHooks.{set_ticket, with_removed}
use Rattle.napi_types.specs.parts.Hooks.{hook_ticket}
use Rattle.napi_types.specs.parts.Promises.{Promises, with_promise, with_settled}
use Rattle.napi_types.specs.parts.Reach.{numbers}
use Rattle.napi_types.specs.parts.References.{Reference, ReferenceMap, with_reference, without_reference, with_count}
use Rattle.napi_types.specs.parts.Values.{undefined_value, linked_value, with_link, link_of}
use Rattle.napi_types.specs.environment.BufferCalls.{with_buffers}
use Rattle.napi_types.specs.environment.Calls.{effect, answer}
use Rattle.napi_types.specs.environment.Changes.{call_change}
use Rattle.napi_types.specs.environment.Environment.{TsfnRoot, Environment, with_heap}
use Rattle.napi_types.specs.environment.ExceptionCalls.{with_pending, with_thrown_error}
use Rattle.napi_types.specs.environment.HookCalls.{unhooked}
use Rattle.napi_types.specs.environment.Hooked.{IsHooked}
use Rattle.napi_types.specs.environment.PromiseCalls.{with_promises, with_new_promise, with_settler, with_reaction_to, reacted_promise}
use Rattle.napi_types.specs.environment.ReferenceCalls.{with_references}
use Rattle.napi_types.specs.environment.Registering.{withdrawing}
use Rattle.napi_types.specs.environment.Registry.{registry_of, with_registry}
use Rattle.napi_types.proofs.environment.AnswersKeep.{KeepsButAsk, call_change-keeps}
use Rattle.napi_types.proofs.environment.Cases.{answer-by}
use Rattle.napi_types.proofs.environment.Effects as does
use Rattle.napi_types.proofs.environment.Effects.{Effect, registered-by, effect-of}
use Rattle.machine_laws.specs.Consistency.{IsConsistent, IsLiveAmong, IsMap, ArePromisesOf, AreBuffersOf, AreSoundBuffers}
use Rattle.machine_laws.proofs.BuffersFit.{buffer-fits, buffer-live, bytes-fit, left-fit, view-fits, view-new, wider-buffers, written-fit}
use Rattle.machine_laws.proofs.Children.{KeepsChildren, keeps-link, link-at}
use Rattle.machine_laws.proofs.Collected.{heap-kept, referred-kept, pending-kept, rooted-kept}
use Rattle.machine_laws.proofs.ConsistentCalls.{heap-call, handle-live, or-undefined}
use Rattle.machine_laws.proofs.ConsistentHeaps.{IsConsistentHeap, HandlesStay, ComesTo, stays, with-handle}
use Rattle.machine_laws.proofs.ConsistentValues.{with-new, with-new-linked, with-one-changed, with-thrown, thrown-live}
use Rattle.machine_laws.proofs.KeptLinks.{HasLinksOf, KeepsLinks, heap-links, link-new, linked-others, links-kept, links-more, thrown-links}
use Rattle.machine_laws.proofs.LiveNumbers.{live-pushed}
use Rattle.machine_laws.proofs.PromiseMaps.{left-promised, more-promised, reacted-promised, settled-promised, unsettled-link, wider-promised}
use Rattle.machine_laws.proofs.Reactions.{AreBelow, all-below}
use Rattle.machine_laws.proofs.Rising.{more-map, fewer-map, counted-map, emptied-map}
use Rattle.machine_laws.proofs.SoundBuffers.{view-found}
use Rattle.machine_laws.proofs.SoundCalls.{answer-sound, effect-sound}

-- what holds of an environment, but what is said of its frames, and whether its buffers are sound
pub record IsConsistentButFrames (e : Environment) : Type 0 where
  pub heap : IsConsistentHeap e.heap
  pub referred : All (λ r. IfSome r.value (IsLiveAmong e.heap.values)) e.references.rows
  pub references : IsMap e.references
  pub pending : IfSome e.pending (IsLiveAmong e.heap.values)
  pub rooted : All (λ r. IsLiveAmong e.heap.values r.value) e.tsfn_roots
  pub promises : ArePromisesOf e.heap.values e.promises
  pub buffers : AreBuffersOf e.heap.values e.buffers

-- one environment leads to another, which is good
pub record LeadsToGood (old new : Environment) : Type 0 where
  pub good : IsConsistentButFrames new
  pub stay : HandlesStay old.heap new.heap

-- between the parts and the whole
pub parts-of : (e : Environment) → IsConsistent e → IsConsistentButFrames e
parts-of e c = record {
  heap = record { handles = c.handles; values = c.values; held = c.held; children = c.children; starting = c.starting };
  referred = c.referred;
  references = c.references;
  pending = c.pending;
  rooted = c.rooted;
  promises = c.promises;
  buffers = c.buffers;
}

pub whole-of : (e : Environment) → IsConsistentButFrames e → AreSoundBuffers e.attachments e.buffers → length e.heap.scopes ≡ length e.frames
    → length e.frames ≤ most_frames → IsConsistent e
whole-of e g sound same few = record {
  handles = g.heap.handles;
  values = g.heap.values;
  held = g.heap.held;
  referred = g.referred;
  references = g.references;
  pending = g.pending;
  rooted = g.rooted;
  promises = g.promises;
  buffers = g.buffers;
  sound = sound;
  children = g.heap.children;
  starting = g.heap.starting;
  frames = same;
  depth = few;
}

unmoved : (e : Environment) → IsConsistentButFrames e → LeadsToGood e e
unmoved e g = record { good = g; stay = stays e.heap }

-- another heap, and other promises
in-heap-with : (e : Environment) (heap : Heap) (p : Promises) → IsConsistentButFrames e → ComesTo e.heap heap → HasLinksOf e.heap.values heap.values
    → ArePromisesOf heap.values p → LeadsToGood e (with_promises heap p e)
in-heap-with e heap p g c linked fit =
    let P : Reference → Type 0 = λ r. IfSome r.value (IsLiveAmong e.heap.values) in
    let Q : Reference → Type 0 = λ r. IfSome r.value (IsLiveAmong heap.values) in
    record {
      good = record {
        heap = c.good;
        referred = All-weaker P Q (λ r h. IfSome_then r.value h c.live) e.references.rows g.referred;
        references = g.references;
        pending = IfSome_then e.pending g.pending c.live;
        rooted = All-weaker (λ (r : TsfnRoot). IsLiveAmong e.heap.values r.value) (λ r. IsLiveAmong heap.values r.value)
            (λ r h. c.live r.value h) e.tsfn_roots g.rooted;
        promises = fit;
        buffers = wider-buffers e.heap.values heap.values e.buffers c.live linked g.buffers;
      };
      stay = c.stay;
    }

-- another heap, where no link changes
pub in-heap : (e : Environment) (heap : Heap) → IsConsistentButFrames e → ComesTo e.heap heap → KeepsLinks e.heap.values heap.values
    → LeadsToGood e (with_heap e heap)
in-heap e heap g c links =
    in-heap-with e heap e.promises g c (links-kept e.heap.values heap.values links)
    (wider-promised e.heap.values heap.values e.promises c.live links g.promises)

-- a handle more
handled : (e : Environment) (v : ℕ) → IsConsistentButFrames e → IsLiveAmong e.heap.values v → LeadsToGood e (with_heap e (with_handle v e.heap))
handled e v g live = in-heap e (with_handle v e.heap) g (with-handle e.heap v g.heap live) (λ n here. refl)

-- another pending exception
pub with-pending : (e : Environment) (o : Option ℕ) → IsConsistentButFrames e → IfSome o (IsLiveAmong e.heap.values) → IsConsistentButFrames (with_pending o e)
with-pending e o g live = record {
  heap = g.heap;
  referred = g.referred;
  references = g.references;
  pending = live;
  rooted = g.rooted;
  promises = g.promises;
  buffers = g.buffers;
}

thrown-good : (e : Environment) (code : Option TextNo) (message : TextNo) → IsConsistentButFrames e → LeadsToGood e (with_thrown_error code message e)
thrown-good e code message g =
    let heap : Heap = with_thrown code message e.heap in
    let led : LeadsToGood e (with_heap e heap) = in-heap e heap g (with-thrown e.heap code message g.heap) (thrown-links e.heap code message) in
    record { good = with-pending (with_heap e heap) (Some (thrown_number code message e.heap)) led.good (thrown-live e.heap code message); stay = led.stay }

-- REFERENCES
-- what holds of each reference, told of its value alone
abbrev OfRows : (Option ℕ → Type 0) → ReferenceMap → Type 0
OfRows P m = All (λ (r : Reference). P r.value) m.rows

-- each reference of the map is the new one, or one that was there
rows-more : (P : Option ℕ → Type 0) (n v count : ℕ) (m : ReferenceMap) → P (Some v) → OfRows P m → OfRows P (with_reference n v count m)
rows-more P n v count m here all = search (here, all, All-append, All-filter, All-cons, All-nil)

-- the value of a reference of the map
abbrev value_among : ℕ → List Reference → Option ℕ
value_among n rs = unwrap_or (option_map (λ (r : Reference). r.value) (found (λ (r : Reference). r.number) n rs)) None

rows-fewer : (P : Option ℕ → Type 0) (n : ℕ) (m : ReferenceMap) → OfRows P m → OfRows P (without_reference n m)
rows-fewer P n m all = All-filter (λ (r : Reference). not (r.number == n)) (λ r. P r.value) m.rows all

rows-counted : (P : Option ℕ → Type 0) (n count : ℕ) (m : ReferenceMap) → OfRows P m → OfRows P (with_count n count m)
rows-counted P n count m all =
    let change : Reference → Reference = λ r. cond (r.number == n) (record r { count = count }) r in
    All-map (λ (r : Reference). P r.value) change m.rows (λ k d below. by (slice_index_or m.rows k d) ((slice_index_or m.rows k d).number == n) (all k d below))
  where
    by : (r : Reference) (b : Bool) → P r.value → P (cond b (record r { count = count }) r).value
    by r true h = h
    by r false h = h

row-of : (P : Option ℕ → Type 0) (n : ℕ) (rs : List Reference) → P None → All (λ (r : Reference). P r.value) rs → P (value_among n rs)
row-of P n [] none all = none
row-of P n (r ∷ rs) none all = by (r.number == n) refl (row-of P n rs none (All-tail (λ (r : Reference). P r.value) r rs all))
  where
    by : (b : Bool) → (r.number == n) ≡ b → P (value_among n rs) → P (value_among n (r ∷ rs))
    by true same later = rw same (All-head (λ (r : Reference). P r.value) r rs all)
    by false other later = rw other later

-- other references, of live values
referring : (e : Environment) (m : ReferenceMap) → IsConsistentButFrames e → OfRows (λ o. IfSome o (IsLiveAmong e.heap.values)) m → IsMap m
    → LeadsToGood e (with_references m e)
referring e m g all map = record {
  good = record {
    heap = g.heap;
    referred = all;
    references = map;
    pending = g.pending;
    rooted = g.rooted;
    promises = g.promises;
    buffers = g.buffers;
  };
  stay = stays e.heap;
}

counted-good : (e : Environment) (r count : ℕ) → IsConsistentButFrames e → LeadsToGood e (with_references (with_count r count e.references) e)
counted-good e r count g =
    referring e (with_count r count e.references) g (rows-counted (λ o. IfSome o (IsLiveAmong e.heap.values)) r count e.references g.referred)
    (counted-map r count e.references g.references)

-- ATTACHMENTS, HOOKS, INSTANCE DATA AND TICKETS
-- the registry may change, but for the promises and the buffers, and whether exit was asked
besides : (e d new : Environment) → new ≡ record (with_registry d (registry_of new)) { exit_asked = new.exit_asked } → new.promises ≡ d.promises
    → new.buffers ≡ d.buffers → LeadsToGood e d → LeadsToGood e new
besides e d new alone kept bytes led =
    let g : IsConsistentButFrames d = led.good in
    let same : LeadsToGood e (record (with_registry d (registry_of new)) { exit_asked = new.exit_asked }) =
    record {
      good = record {
        heap = g.heap;
        referred = g.referred;
        references = g.references;
        pending = g.pending;
        rooted = g.rooted;
        promises = subst (ArePromisesOf d.heap.values) (sym kept) g.promises;
        buffers = subst (AreBuffersOf d.heap.values) (sym bytes) g.buffers;
      };
      stay = led.stay;
    } in
    subst (λ (x : Environment). LeadsToGood e x) (sym alone) same

-- PROMISES
with-promises : (e d : Environment) (p : Promises) → LeadsToGood e d → ArePromisesOf d.heap.values p → LeadsToGood e (record d { promises = p })
with-promises e d p led fit =
    let g : IsConsistentButFrames d = led.good in
    record {
      good = record {
        heap = g.heap;
        referred = g.referred;
        references = g.references;
        pending = g.pending;
        rooted = g.rooted;
        promises = fit;
        buffers = g.buffers;
      };
      stay = led.stay;
    }

-- BUFFERS
with-buffers : (e d : Environment) (b : Buffers) → LeadsToGood e d → AreBuffersOf d.heap.values b → LeadsToGood e (with_buffers b d)
with-buffers e d b led fit =
    let g : IsConsistentButFrames d = led.good in
    record {
      good = record {
        heap = g.heap;
        referred = g.referred;
        references = g.references;
        pending = g.pending;
        rooted = g.rooted;
        promises = g.promises;
        buffers = fit;
      };
      stay = led.stay;
    }

-- the value that settled the promise of a reaction is live, as a child of that promise
read-live : (e : Environment) (o : Option ℕ) (v : ℕ) → option_and_then (link_of e.heap.values) o ≡ Some v → IsConsistentHeap e.heap
    → IsLiveAmong e.heap.values v
read-live e None v is g = cc
read-live e (Some p) v is g =
    let P : ℕ → Type 0 = IsLiveAmong e.heap.values in
    subst (λ o. IfSome o P) is (link-at P p e.heap.values g.children)

-- each view is one of a buffer
abbrev AreOfBuffers : Buffers → Type 0
AreOfBuffers b = (v : ℕ) (about : ViewInfo) → view_at b v ≡ Some about → IsSome (buffer_at b about.buffer.0)

-- the values that are there have numbers below that of the next one
below-next : (heap : Heap) → IsConsistentHeap heap → All (λ k. k < heap.made + 1) (numbers heap.values)
below-next heap g =
    All-weaker (λ k. (0 < k) × (k ≤ heap.made)) (λ k. k < heap.made + 1) (λ k within. omega (arith, within.1)) (numbers heap.values) g.values.within

-- CALLS
-- where each view is then one of a buffer
does-good : (c : Call) (e : Environment) {made dropped : Option Duty} (d : Environment) → Effect c e made dropped d
    → All (AreBelow (new_ticket e.book)) e.promises.promises → AreOfBuffers d.buffers → IsConsistentButFrames e → LeadsToGood e d
does-good c e _ does.rests below whose g = unmoved e g
does-good c e _ (does.tells k) below whose g = in-heap e _ g (heap-call (caller_of e.frames) e.heap c k g.heap) (heap-links (caller_of e.frames) e.heap c k)
does-good c e _ (does.makes payload) below whose g = in-heap e _ g (with-new e.heap (body.External payload) g.heap) (links-more e.heap.values _)
does-good c e _ (does.throws h) below whose g =
    record { good = with-pending e (Some (handle_value e.heap h)) g (handle-live e.heap h g.heap); stay = stays e.heap }
does-good c e _ (does.raises code message) below whose g = thrown-good e code message g
does-good c e _ does.clears below whose g =
    let v : ℕ = unwrap_or e.pending undefined_value in
    let led : LeadsToGood e (with_heap e (with_handle v e.heap)) = handled e v g (or-undefined e.heap e.pending g.heap g.pending) in
    record { good = with-pending _ None led.good tt; stay = led.stay }
does-good c e _ (does.recalls r v is) below whose g =
    let Live : Option ℕ → Type 0 = λ o. IfSome o (IsLiveAmong e.heap.values) in
    handled e v g (subst Live is (row-of Live r e.references.rows tt g.referred))
does-good c e _ (does.refers n h count) below whose g =
    referring e _ g
    (rows-more (λ o. IfSome o (IsLiveAmong e.heap.values)) n (handle_value e.heap h) count e.references (handle-live e.heap h g.heap) g.referred)
    (more-map n (handle_value e.heap h) count e.references g.references)
does-good c e _ (does.deletes r) below whose g =
    referring e _ g (rows-fewer (λ o. IfSome o (IsLiveAmong e.heap.values)) r e.references g.referred) (fewer-map r e.references g.references)
does-good c e _ (does.counts r count) below whose g =
    referring e _ g (rows-counted (λ o. IfSome o (IsLiveAmong e.heap.values)) r count e.references g.referred) (counted-map r count e.references g.references)
does-good c e _ does.collects below whose g = record {
  good = record {
    heap = heap-kept e g.heap;
    referred = referred-kept e;
    references = emptied-map _ e.references g.references;
    pending = pending-kept e e.pending refl g.pending;
    rooted = rooted-kept e g.rooted;
    promises = left-promised e g.promises;
    buffers = left-fit e g.buffers;
  };
  stay = record { rises = omega arith; held = λ h v below. omega arith };
}
does-good c e _ (does.promises n) below whose g =
    let v : ℕ = e.heap.made + 1 in
    let heap : Heap = with_new_promise e.heap in
    let comes : ComesTo e.heap heap = with-new-linked e.heap promise_tag None tt g.heap in
    let before : ArePromisesOf heap.values e.promises =
    wider-promised e.heap.values heap.values e.promises comes.live (links-more e.heap.values _) g.promises in
    let live : IsLiveAmong heap.values v = live-pushed e.heap.values (linked_value v promise_tag None) in
    let none : link_of heap.values v ≡ None = link-new v promise_tag None e.heap.values (below-next e.heap g.heap) in
    in-heap-with e heap (with_promise v n e.promises) g comes (links-kept e.heap.values heap.values (links-more e.heap.values _))
    (more-promised v n heap.values e.promises live none before)
does-good c e _ (does.settles n h state p is) below whose g =
    let v : ℕ = handle_value e.heap h in
    let heap : Heap = with_settler p v e.heap in
    let keeps : KeepsChildren (IsLiveAmong e.heap.values) (with_link v) = keeps-link (IsLiveAmong e.heap.values) v (handle-live e.heap h g.heap) in
    let comes : ComesTo e.heap heap = with-one-changed e.heap p (with_link v) keeps g.heap in
    let fit : ArePromisesOf heap.values (with_settled n p state e.promises) = settled-promised n p state v e.heap.values e.promises is comes.live g.promises in
    let linked : HasLinksOf e.heap.values heap.values =
    linked-others p v e.heap.values (unsettled-link n p e.heap.values e.promises is g.promises) in
    besides e (with_promises heap (with_settled n p state e.promises) e) _ refl refl refl (in-heap-with e heap _ g comes linked fit)
does-good c e _ (does.reacts v entry payload) below whose g =
    besides e (with_reaction_to v e) _ refl refl refl
    (with-promises e e _ (unmoved e g) (reacted-promised v (new_ticket e.book) e.heap.values e.promises below g.promises))
does-good c e _ (does.reads v is) below whose g = handled e v g (read-live e (reacted_promise e) v is g.heap)
does-good c e _ (does.makes_buffer size t) below whose g =
    let v : ℕ = e.heap.made + 1 in
    let heap : Heap = with_handle v (with_linked buffer_tag None e.heap) in
    let led : LeadsToGood e (with_heap e heap) = in-heap e heap g (with-new-linked e.heap buffer_tag None tt g.heap) (links-more e.heap.values _) in
    with-buffers e (with_heap e heap) (with_buffer v size t e.buffers) led
    (buffer-fits v size t heap.values e.buffers (live-pushed e.heap.values (linked_value v buffer_tag None)) led.good.buffers)
does-good c e _ (does.makes_view about) below whose g =
    let v : ℕ = e.heap.made + 1 in
    let to : Option ℕ = Some about.buffer.0 in
    let heap : Heap = with_handle v (with_linked view_tag to e.heap) in
    let live : IsLiveAmong e.heap.values about.buffer.0 =
    buffer-live about.buffer.0 e.heap.values e.buffers (whose v about (view-new v about e.buffers)) g.buffers in
    let led : LeadsToGood e (with_heap e heap) = in-heap e heap g (with-new-linked e.heap view_tag to live g.heap) (links-more e.heap.values _) in
    with-buffers e (with_heap e heap) (with_view v about e.buffers) led
    (view-fits v about heap.values e.buffers (live-pushed e.heap.values (linked_value v view_tag to))
    (link-new v view_tag to e.heap.values (below-next e.heap g.heap)) led.good.buffers)
does-good c e _ (does.detaches v) below whose g =
    with-buffers e e (with_detached v e.buffers) (unmoved e g) (bytes-fit (λ bytes. None) v e.heap.values e.buffers g.buffers)
does-good c e _ (does.writes v at number) below whose g =
    with-buffers e e (with_element_written v at number e.buffers) (unmoved e g) (written-fit v at number e.heap.values e.buffers g.buffers)
does-good c e _ (does.adds_hook entry argument) below whose g = besides e e _ refl refl refl (unmoved e g)
does-good c e _ (does.removes_hook entry argument) below whose g =
    let t : Option ℕ = hook_ticket (caller_of e.frames) entry argument e.hooks in
    registered-by e.book t (λ s. LeadsToGood e (withdrawing s (accepts out.Nothing (record e { hooks = unhooked t e.hooks }))).after)
    (besides e e _ refl refl refl (unmoved e g)) (λ n here is. besides e e _ refl refl refl (unmoved e g))
does-good c e _ (does.adds_async entry argument number is) below whose g = besides e e _ refl refl refl (unmoved e g)
does-good c e _ (does.removes_async number) below whose g =
    let t : Option ℕ = set_ticket number e.async_hooks in
    let left : Environment = record e { hooks = unhooked t e.hooks; async_hooks = with_removed number e.async_hooks } in
    registered-by e.book t (λ s. LeadsToGood e (withdrawing s (accepts out.Nothing left)).after)
    (besides e e _ refl refl refl (unmoved e g)) (λ n here is. besides e e _ refl refl refl (unmoved e g))
does-good c e _ (does.withdraws t on is) below whose g = besides e e _ refl refl refl (unmoved e g)
does-good c e _ (does.asks_exit is) below whose g = besides e e _ refl refl refl (unmoved e g)
does-good c e _ (does.registers {d} payload entry hint before step) below whose g = besides e d _ refl refl refl (does-good c e d before below whose g)
does-good c e _ (does.attaches {d} {a} before on) below whose g = besides e d _ refl refl refl (does-good c e d before below whose g)
does-good c e _ (does.sets {d} i before on) below whose g = besides e d _ refl refl refl (does-good c e d before below whose g)

answer-good : (e : Environment) (c : Call) (k : ℕ) → IsHooked e → IsConsistentButFrames e → AreSoundBuffers e.attachments e.buffers
    → LeadsToGood e (answer e c k).after
answer-good e c k hooked g sound =
    answer-by e c k (λ a. LeadsToGood e a.after) (λ s. unmoved e g) (λ s. thrown-good e None _ g)
    (λ none.
    let new : Environment = (effect e c k).after in
    let after : AreSoundBuffers new.attachments new.buffers = effect-sound e c k none hooked g.heap g.buffers sound in
    does-good c e new (effect-of e c k) (all-below e hooked)
    (λ v about is. view-found (λ i. IsSome (buffer_at new.buffers i.buffer.0)) v about new.buffers after.whose is) g)

-- one environment leads to another, which is consistent
pub record LeadsToConsistent (old new : Environment) : Type 0 where
  pub good : IsConsistent new
  pub stay : HandlesStay old.heap new.heap

pub call_change-follows : (e : Environment) (c : Call) (k : ℕ) → IsHooked e → IsConsistent e → LeadsToConsistent e (call_change e c k).after
call_change-follows e c k hooked old =
    let led : LeadsToGood e _ = answer-good e c k hooked (parts-of e old) old.sound in
    let new : Environment = (call_change e c k).after in
    let keeps : KeepsButAsk c e (call_change e c k).entry.reply new = call_change-keeps e c k in
    let good : IsConsistentButFrames new = record {
      heap = led.good.heap;
      referred = led.good.referred;
      references = led.good.references;
      pending = led.good.pending;
      rooted = led.good.rooted;
      promises = led.good.promises;
      buffers = led.good.buffers;
    } in
    let sound : AreSoundBuffers new.attachments new.buffers = answer-sound e c k hooked (parts-of e old).heap old.buffers old.sound in
    record { good = whole-of new good sound (keeps.heap.depth ∙ old.frames ∙ sym keeps.depth) (omega (arith, keeps.depth, old.depth)); stay = led.stay }
