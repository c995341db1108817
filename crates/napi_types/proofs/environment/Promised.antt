-- Every event keeps what the promises and the values say of each other.
use Rattle.std.proofs.Common.{◌≡◌, ◌∙◌, ℕ, ◌+◌, ◌==◌, ◌&&◌, ◌||◌, Bool, true, false, cond, not, List, [], ◌∷◌, ◌++◌, filter, refl, ap, sym, subst, Option, Some, None}
use Rattle.std.specs.List.{All}
use Rattle.std.proofs.lemmas.Bool.{eqb-true, eq-eqb}
use Rattle.std.proofs.lemmas.List.Elements.{All-cons, All-nil, All-head, All-tail, All-filter, All-map, All-weaker}
use Rattle.napi_types.specs.declared.call.Args.{Args}
use Rattle.napi_types.specs.declared.call.Call.{Call}
use Rattle.napi_types.specs.declared.call.Call.TheVariants as call
use Rattle.napi_types.specs.declared.entry.Cause.{Cause}
use Rattle.napi_types.specs.declared.entry.Cause.TheVariants as cause
use Rattle.napi_types.specs.declared.entry.Duty.{Duty}
use Rattle.napi_types.specs.declared.entry.Duty.TheVariants as duty
use Rattle.napi_types.specs.declared.entry.Out.TheVariants as out
use Rattle.napi_types.specs.declared.entry.Why.{Why}
use Rattle.napi_types.specs.declared.ids.HandleId.{HandleId}
use Rattle.napi_types.specs.declared.ids.TextNo.{TextNo}
use Rattle.napi_types.specs.plain.Lists.{has_number}
use Rattle.napi_types.specs.plain.Replies.{accepts}
use Rattle.napi_types.specs.plain.Texts.{depth_text}
use Rattle.napi_types.specs.parts.AsyncHooks.{set_ticket, with_removed}
use Rattle.napi_types.specs.parts.Bodies.{is_linked, promise_tag}
use Rattle.napi_types.specs.parts.Book.{new_ticket}
use Rattle.napi_types.specs.parts.Frames.{caller_of, cause_of, duty_of}
use Rattle.napi_types.specs.parts.Heap.{Heap, handle_value}
use Rattle.napi_types.specs.parts.HeapCalls.{addon_effect}
use Rattle.napi_types.specs.parts.HeapChanges.{with_thrown}
use Rattle.napi_types.specs.parts.Hooks.{hook_ticket}
use Rattle.napi_types.specs.parts.Promises.{Promise, Deferred, Promises, promise_changed, without_reaction}
use Rattle.napi_types.specs.parts.Values.{Value, linked_value, value_changed, with_link, those_of}
use Rattle.napi_types.specs.environment.BufferCalls.{making_view}
use Rattle.napi_types.specs.environment.Calls.{effect, answer}
use Rattle.napi_types.specs.environment.Changes.{call_change}
use Rattle.napi_types.specs.environment.Collection.{is_freed}
use Rattle.napi_types.specs.environment.Ends.{end_change}
use Rattle.napi_types.specs.environment.Entering.{enter_change, asked_change}
use Rattle.napi_types.specs.environment.Environment.{Environment, OpenedWith, new_environment, with_heap}
use Rattle.napi_types.specs.environment.ExceptionCalls.{with_thrown_error}
use Rattle.napi_types.specs.environment.HookCalls.{unhooked}
use Rattle.napi_types.specs.environment.Promised.{has_linked, IsDeferredOfLinked, IsLinkedPromise, IsPromised}
use Rattle.napi_types.specs.environment.Registering.{withdrawing}
use Rattle.napi_types.specs.environment.Registry.{registry_of}
use Rattle.napi_types.specs.environment.Roots.{reach}
use Rattle.napi_types.proofs.plain.Maps.{All-with_record}
use Rattle.napi_types.proofs.environment.Cases.{answer-by, asked-by}
use Rattle.napi_types.proofs.environment.Effects as does
use Rattle.napi_types.proofs.environment.Effects.{buffer_made, Effect, registered-by, effect-of}
use Rattle.napi_types.proofs.environment.FrameChanges.{promises_after, KeepsButFrame, ended-keeps, left-parts, KeepsAndEnters, enter_change-keeps, registry-parts}

-- what holds of the first of two holds still, and what holds of the second
or-then : {old new : Bool} (b : Bool) → b || old ≡ true → (old ≡ true → new ≡ true) → b || new ≡ true
or-then true is then = refl
or-then false is then = then is

-- VALUES
-- what may have a hidden child is still there, and still may
abbrev KeepsLinked : List Value → List Value → Type 0
KeepsLinked old new = (n : ℕ) → has_linked n old ≡ true → has_linked n new ≡ true

-- more values
pub keeps-more : (vs ws : List Value) → KeepsLinked vs (vs ++ ws)
keeps-more [] ws n is = cc
keeps-more (v ∷ vs) ws n is = or-then ((v.number == n) && is_linked v.body) is (keeps-more vs ws n)

-- a value that keeps its number and what it is
keeps-changed : (k : ℕ) (change : Value → Value) (vs : List Value) → ((v : Value) → (change v).number ≡ v.number) → ((v : Value) → (change v).body ≡ v.body)
    → KeepsLinked vs (value_changed k change vs)
keeps-changed k change [] number body n is = is
keeps-changed k change (v ∷ vs) number body n is =
    ap (λ b. b || has_linked n (value_changed k change vs)) (same (v.number == k)) ∙ or-then ((v.number == n) && is_linked v.body) is (keeps-changed k change vs number body n)
  where
    same : (b : Bool) → ((cond b (change v) v).number == n) && is_linked (cond b (change v) v).body ≡ (v.number == n) && is_linked v.body
    same true = ap (λ m. (m == n) && is_linked (change v).body) (number v) ∙ ap (λ b. (v.number == n) && is_linked b) (body v)
    same false = refl

-- the values that stay
stays-linked : (alive : List ℕ) (n : ℕ) (vs : List Value) → has_number n alive ≡ true → has_linked n vs ≡ true → has_linked n (those_of alive vs) ≡ true
stays-linked alive n [] stays is = is
stays-linked alive n (v ∷ vs) stays is = by (v.number == n) refl (has_number v.number alive) refl is (stays-linked alive n vs stays)
  where
    by : (b : Bool) → (v.number == n) ≡ b → (c : Bool) → has_number v.number alive ≡ c → (b && is_linked v.body) || has_linked n vs ≡ true
        → (has_linked n vs ≡ true → has_linked n (those_of alive vs) ≡ true) → has_linked n (those_of alive (v ∷ vs)) ≡ true
    by false other true here is later = rw (here, other) (later is)
    by false other false here is later = rw here (later is)
    by true same true here is later = rw (here, same) (or-then (is_linked v.body) is later)
    by true same false here is later = let no : true ≡ false = sym stays ∙ ap (λ m. has_number m alive) (sym (eqb-true v.number n same)) ∙ here in cc

thrown-linked : (heap : Heap) (code : Option TextNo) (message : TextNo) → KeepsLinked heap.values (with_thrown code message heap).values
thrown-linked heap code message = keeps-more heap.values _

heap-linked : (addon : ℕ) (heap : Heap) (c : Call) (k : ℕ) → KeepsLinked heap.values (addon_effect addon heap c k).after.values
heap-linked addon heap (call.CreateFunction entry payload) k = keeps-more heap.values _
heap-linked addon heap (call.CreateInt64 i) k = keeps-more heap.values _
heap-linked addon heap (call.CreateBigintInt64 i) k = keeps-more heap.values _
heap-linked addon heap (call.CreateStringUtf8 t) k = keeps-more heap.values _
heap-linked addon heap (call.CreateSymbol d) k = keeps-more heap.values _
heap-linked addon heap call.CreateObject k = keeps-more heap.values _
heap-linked addon heap call.CreateArray k = keeps-more heap.values _
heap-linked addon heap (call.CreateError code message) k = keeps-more heap.values _
heap-linked addon heap (call.SetNamedProperty o name v) k = keeps-changed _ _ heap.values (λ x. refl) (λ x. refl)
heap-linked addon heap (call.DeleteProperty o name) k = keeps-changed _ _ heap.values (λ x. refl) (λ x. refl)
heap-linked addon heap (call.SetElement o at v) k = keeps-changed _ _ heap.values (λ x. refl) (λ x. refl)
heap-linked addon heap (call.GetPropertyNames o) k = keeps-more heap.values _
heap-linked addon heap c k = λ n is. is

-- AN ENVIRONMENT CHANGES
-- its values do
with-values : (e : Environment) (vs : List Value) → KeepsLinked e.heap.values vs → IsPromised e → All (IsDeferredOfLinked vs) e.promises.deferreds
with-values e vs keeps h = All-weaker (IsDeferredOfLinked e.heap.values) (IsDeferredOfLinked vs) (λ d is. keeps d.promise is) e.promises.deferreds h.linked

-- nothing of it changes
pub still-promised : (old new : Environment) → new.heap.values ≡ old.heap.values → new.promises ≡ old.promises → IsPromised old → IsPromised new
still-promised old new values promises h = record {
  linked = subst (λ (vs : List Value). All (IsDeferredOfLinked vs) new.promises.deferreds) (sym values)
      (subst (λ (p : Promises). All (IsDeferredOfLinked old.heap.values) p.deferreds) (sym promises) h.linked);
  promises = subst (λ (vs : List Value). All (IsLinkedPromise vs) new.promises.promises) (sym values)
      (subst (λ (p : Promises). All (IsLinkedPromise old.heap.values) p.promises) (sym promises) h.promises);
}

-- the values of promises are as they were
still-linked : (vs : List Value) (change : Promise → Promise) → ((r : Promise) → (change r).value ≡ r.value) → (n : ℕ) (ps : List Promise)
    → All (IsLinkedPromise vs) ps → All (IsLinkedPromise vs) (promise_changed change n ps)
still-linked vs change same n ps all =
    All-map (IsLinkedPromise vs) (λ (r : Promise). cond (r.value == n) (change r) r) ps
    (All-weaker (IsLinkedPromise vs) (λ (r : Promise). IsLinkedPromise vs (cond (r.value == n) (change r) r)) (λ r is. by r (r.value == n) is) ps all)
  where
    by : (r : Promise) (b : Bool) → IsLinkedPromise vs r → IsLinkedPromise vs (cond b (change r) r)
    by r true is = ap (λ k. has_linked k vs) (same r) ∙ is
    by r false is = is

promises-weaker : (e : Environment) (vs : List Value) → KeepsLinked e.heap.values vs → IsPromised e → All (IsLinkedPromise vs) e.promises.promises
promises-weaker e vs keeps h = All-weaker (IsLinkedPromise e.heap.values) (IsLinkedPromise vs) (λ r is. keeps r.value is) e.promises.promises h.promises

-- the promises that stay
left-promises : (alive : List ℕ) (vs : List Value) (ps : List Promise) → All (IsLinkedPromise vs) ps
    → All (IsLinkedPromise (those_of alive vs)) (filter (λ r. not (is_freed alive r.value)) ps)
left-promises alive vs [] all = All-nil (IsLinkedPromise (those_of alive vs))
left-promises alive vs (r ∷ ps) all = by (has_number r.value alive) refl (left-promises alive vs ps (All-tail (IsLinkedPromise vs) r ps all))
  where
    by : (b : Bool) → has_number r.value alive ≡ b → All (IsLinkedPromise (those_of alive vs)) (filter (λ x. not (is_freed alive x.value)) ps)
        → All (IsLinkedPromise (those_of alive vs)) (filter (λ x. not (is_freed alive x.value)) (r ∷ ps))
    by true stays rest =
        rw stays (All-cons (IsLinkedPromise (those_of alive vs)) r _ (stays-linked alive r.value vs stays (All-head (IsLinkedPromise vs) r ps all)) rest)
    by false goes rest = rw goes rest

-- the deferreds of values that stay
left-linked : (alive : List ℕ) (vs : List Value) (ds : List Deferred) → All (IsDeferredOfLinked vs) ds
    → All (IsDeferredOfLinked (those_of alive vs)) (filter (λ d. not (is_freed alive d.promise)) ds)
left-linked alive vs [] all = All-nil (IsDeferredOfLinked (those_of alive vs))
left-linked alive vs (d ∷ ds) all = by (has_number d.promise alive) refl (left-linked alive vs ds (All-tail (IsDeferredOfLinked vs) d ds all))
  where
    by : (b : Bool) → has_number d.promise alive ≡ b → All (IsDeferredOfLinked (those_of alive vs)) (filter (λ x. not (is_freed alive x.promise)) ds)
        → All (IsDeferredOfLinked (those_of alive vs)) (filter (λ x. not (is_freed alive x.promise)) (d ∷ ds))
    by true stays rest =
        rw stays (All-cons (IsDeferredOfLinked (those_of alive vs)) d _ (stays-linked alive d.promise vs stays (All-head (IsDeferredOfLinked vs) d ds all)) rest)
    by false goes rest = rw goes rest

new-linked : (n k : ℕ) (vs : List Value) → has_linked n (vs ++ linked_value n k None ∷ []) ≡ true
new-linked n k [] = ap (λ b. (b && true) || false) (eq-eqb n n refl)
new-linked n k (v ∷ vs) = by ((v.number == n) && is_linked v.body) (new-linked n k vs)
  where
    by : (b : Bool) → has_linked n (vs ++ linked_value n k None ∷ []) ≡ true → b || has_linked n (vs ++ linked_value n k None ∷ []) ≡ true
    by true later = refl
    by false later = later

-- the values change, and no promise
in-values : (e : Environment) (heap : Heap) → KeepsLinked e.heap.values heap.values → IsPromised e → IsPromised (with_heap e heap)
in-values e heap keeps h = record { linked = with-values e heap.values keeps h; promises = promises-weaker e heap.values keeps h }

thrown-promised : (e : Environment) (code : Option TextNo) (message : TextNo) → IsPromised e → IsPromised (with_thrown_error code message e)
thrown-promised e code message h =
    let k : IsPromised (with_heap e (with_thrown code message e.heap)) = in-values e (with_thrown code message e.heap) (thrown-linked e.heap code message) h in
    record { linked = k.linked; promises = k.promises }

does-promised : (c : Call) (e : Environment) {made dropped : Option Duty} (d : Environment) → Effect c e made dropped d → IsPromised e → IsPromised d
does-promised c e _ (does.tells k) h = in-values e _ (heap-linked (caller_of e.frames) e.heap c k) h
does-promised c e _ (does.makes payload) h = in-values e _ (keeps-more e.heap.values _) h
does-promised c e _ (does.raises code message) h =
    thrown-promised e code message h
does-promised c e _ (does.promises n) h =
    let v : ℕ = e.heap.made + 1 in
    let new : List Value = e.heap.values ++ linked_value v promise_tag None ∷ [] in
    let made : Deferred = record { number = n; promise = v } in
    record {
      linked = All-with_record (λ (d : Deferred). d.number) made (IsDeferredOfLinked new) (filter (λ d. not (d.promise == v)) e.promises.deferreds)
          (new-linked v promise_tag e.heap.values)
          (All-filter (λ (d : Deferred). not (d.promise == v)) (IsDeferredOfLinked new) e.promises.deferreds
          (All-weaker (IsDeferredOfLinked e.heap.values) (IsDeferredOfLinked new) (λ d is. keeps-more e.heap.values _ d.promise is) e.promises.deferreds h.linked));
      promises = All-with_record (λ (r : Promise). r.value) (record { value = v; state = 0; reactions = [] }) (IsLinkedPromise new) e.promises.promises
          (new-linked v promise_tag e.heap.values) (promises-weaker e new (keeps-more e.heap.values _) h);
    }
does-promised c e _ (does.makes_buffer size t) h =
    let k : IsPromised (with_heap e _) = in-values e (buffer_made e size t).heap (keeps-more e.heap.values _) h in record { linked = k.linked; promises = k.promises }
does-promised c e _ (does.makes_view about) h =
    let k : IsPromised (with_heap e _) = in-values e (making_view e (Some about)).after.heap (keeps-more e.heap.values _) h in
    record { linked = k.linked; promises = k.promises }
does-promised c e _ (does.settles n v state p is) h = record {
  linked = All-filter (λ (d : Deferred). not (d.number == n)) (IsDeferredOfLinked (value_changed p _ e.heap.values)) e.promises.deferreds
      (All-weaker (IsDeferredOfLinked e.heap.values) (IsDeferredOfLinked (value_changed p _ e.heap.values))
      (λ d here. keeps-changed p _ e.heap.values (λ x. refl) (λ x. refl) d.promise here) e.promises.deferreds h.linked);
  promises = still-linked (value_changed p (with_link (handle_value e.heap v)) e.heap.values) (λ r. record r { state = state }) (λ r. refl) p e.promises.promises
      (promises-weaker e _ (keeps-changed p _ e.heap.values (λ x. refl) (λ x. refl)) h);
}
does-promised c e _ (does.reacts v entry payload) h = record {
  linked = h.linked;
  promises = still-linked e.heap.values (λ r. record r { reactions = r.reactions ++ new_ticket e.book ∷ [] }) (λ r. refl) v e.promises.promises h.promises;
}
does-promised c e _ does.collects h = record {
  linked = left-linked (reach e) e.heap.values e.promises.deferreds h.linked;
  promises = left-promises (reach e) e.heap.values e.promises.promises h.promises;
}
does-promised c e _ (does.removes_hook entry argument) h =
    let t : Option ℕ = hook_ticket (caller_of e.frames) entry argument e.hooks in
    registered-by e.book t (λ s. IsPromised (withdrawing s (accepts out.Nothing (record e { hooks = unhooked t e.hooks }))).after)
    (record { linked = h.linked; promises = h.promises }) (λ k here is. record { linked = h.linked; promises = h.promises })
does-promised c e _ (does.removes_async number) h =
    let t : Option ℕ = set_ticket number e.async_hooks in
    let left : Environment = record e { hooks = unhooked t e.hooks; async_hooks = with_removed number e.async_hooks } in
    registered-by e.book t (λ s. IsPromised (withdrawing s (accepts out.Nothing left)).after)
    (record { linked = h.linked; promises = h.promises }) (λ k here is. record { linked = h.linked; promises = h.promises })
does-promised c e _ (does.registers {d} payload entry hint before step) h =
    let k : IsPromised d = does-promised c e d before h in record { linked = k.linked; promises = k.promises }
does-promised c e _ (does.attaches {d} {a} before on) h =
    let k : IsPromised d = does-promised c e d before h in record { linked = k.linked; promises = k.promises }
does-promised c e _ (does.sets {d} i before on) h =
    let k : IsPromised d = does-promised c e d before h in record { linked = k.linked; promises = k.promises }
does-promised c e d _ h = still-promised e d refl refl h

pub called-promised : (e : Environment) (c : Call) (n : ℕ) → IsPromised e → IsPromised (call_change e c n).after
called-promised e c n h =
    let answered : IsPromised (answer e c n).after =
    answer-by e c n (λ a. IsPromised a.after) (λ s. h) (λ s. thrown-promised e None (record { 0 = depth_text }) h)
    (λ none. does-promised c e (effect e c n).after (effect-of e c n) h) in
    record { linked = answered.linked; promises = answered.promises }

pub entered-promised : (receiver : Option HandleId) (f : HandleId) (args : Args) (e : Environment) → IsPromised e → IsPromised (enter_change receiver f args e).after
entered-promised receiver f args e h =
    let new : Environment = (enter_change receiver f args e).after in
    let k : KeepsAndEnters e new f = enter_change-keeps receiver f args e in
    still-promised e new k.values (registry-parts (registry_of e) new k.registry).promises h

pub asked-promised : (e : Environment) (c : Call) (n : ℕ) → IsPromised e → IsPromised (asked_change e c n).after
asked-promised e c n h =
    asked-by e c n (λ d. IsPromised d.after) (called-promised e c n h) (λ receiver f args none. entered-promised receiver f args e h)

-- EVERY OTHER EVENT
-- where a reaction has ended
without-promised : (t : ℕ) (e : Environment) → IsPromised e → IsPromised (record e { promises = without_reaction t e.promises })
without-promised t e h = record {
  linked = h.linked;
  promises = All-map (IsLinkedPromise e.heap.values) (λ (r : Promise). record r { reactions = filter (λ m. not (m == t)) r.reactions }) e.promises.promises h.promises;
}

after-promised : (c : Cause) (d : Option Duty) (e : Environment) → IsPromised e → IsPromised (record e { promises = promises_after c d e.promises })
after-promised cause.Call d e h = h
after-promised _ (Some (duty.Ticket t)) e h = without-promised t.0 e h
after-promised _ _ e h = h

pub opening-promised : (given : OpenedWith) → IsPromised (new_environment given)
opening-promised given = record {
  linked = All-nil (IsDeferredOfLinked (new_environment given).heap.values);
  promises = All-nil (IsLinkedPromise (new_environment given).heap.values);
}

pub ended-promised : (v : Option HandleId) (cut : Option Why) (e : Environment) → IsPromised e → IsPromised (end_change v cut e).after
ended-promised v cut e h =
    let new : Environment = (end_change v cut e).after in
    let k : KeepsButFrame e new = ended-keeps v cut e in
    let left : Environment = record e { promises = promises_after (cause_of e.frames) (duty_of e.frames) e.promises } in
    still-promised left new k.values (left-parts e new k).promises (after-promised (cause_of e.frames) (duty_of e.frames) e h)
