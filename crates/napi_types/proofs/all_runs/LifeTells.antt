-- What a call tells of the lives of buffers may be told, and what was told is what the environment then holds.
use Rattle.std.proofs.Common.{◌≡◌, ◌≢◌, ◌∙◌, ◌<◌, ◌≤◌, ◌⊎◌, ℕ, suc, ◌+◌, ◌==◌, Bool, true, false, not, cond, List, [], ◌∷◌, ◌++◌, map, filter, length, filter_map, slice_index_or, Option, Some, None, is_some, option_map, inl, inr, IfSome, refl, ap, sym, subst, arith}
use Rattle.std.specs.List.{All}
use Rattle.std.specs.Option.{option_and_then, option_map_or, option_or, option_to_list, unwrap_or}
use Rattle.std.proofs.lemmas.Bool.{or_left}
use Rattle.std.proofs.lemmas.List.Elements.{All-nil, All-cons, All-push, All-weaker, All-filter, All-map}
use Rattle.std.proofs.lemmas.Option.{same_Some}
use Rattle.napi_types.specs.declared.call.Call.{Call}
use Rattle.napi_types.specs.declared.call.Call.TheVariants as call
use Rattle.napi_types.specs.declared.entry.Cause.TheVariants as cause
use Rattle.napi_types.specs.declared.status.Status.{Status}
use Rattle.napi_types.specs.declared.status.Status.TheVariants as status
use Rattle.napi_types.specs.declared.view.ViewInfo.{ViewInfo}
use Rattle.napi_types.specs.plain.Lists.{found, has, has_number, with_record}
use Rattle.napi_types.specs.plain.Replies.{Answer, refuses, if_accepted}
use Rattle.napi_types.specs.plain.Texts.{depth_text}
use Rattle.napi_types.specs.parts.Attachments.{with_attached}
use Rattle.napi_types.specs.parts.Bodies.{promise_tag, buffer_tag, view_tag}
use Rattle.napi_types.specs.parts.Book.{Book, Registration, Registered, new_ticket, with_registration, registration_at, is_registered, made_due, moved, with_hint, cause_at}
use Rattle.napi_types.specs.parts.Buffers.{ArrayBuffer, BufferView, Buffers, buffer_at, buffer_bytes, buffer_length, view_at, with_element_in, buffer_changed_at, with_element_written, with_detached}
use Rattle.napi_types.specs.parts.Heap.{Heap, handle_value}
use Rattle.napi_types.specs.parts.HeapChanges.{with_linked, new_linked}
use Rattle.napi_types.specs.parts.Promises.{Promise, Deferred, deferred_promise, made_settled, reactions_of, reactions_settled, is_reaction_of}
use Rattle.napi_types.specs.parts.Reach.{numbers, children_at}
use Rattle.napi_types.specs.parts.Values.{Value, value_at, link_of, children, linked_value, with_link, value_changed}
use Rattle.napi_types.specs.environment.BufferCalls.{element_size, view_of_elements, may_lie, view_asked, making_view, no_buffer_refusal}
use Rattle.napi_types.specs.environment.Calls.{effect, answer, answer_unless_deep, with_depth_error}
use Rattle.napi_types.specs.environment.Changes.{with_noted_status}
use Rattle.napi_types.specs.environment.Collection.{collected, is_freed}
use Rattle.napi_types.specs.environment.Environment.{Environment}
use Rattle.napi_types.specs.environment.Hooked.{IsHooked}
use Rattle.napi_types.specs.environment.PromiseCalls.{promising, settling, with_settlement, resolved, rejected}
use Rattle.napi_types.specs.environment.Refusals.{refusal_before_depth, depth_refusal, group_refusal}
use Rattle.napi_types.specs.environment.Registering.{finalizer_of}
use Rattle.napi_types.specs.environment.Roots.{roots, reach}
use Rattle.napi_types.specs.runs.Machine.{Machine}
use Rattle.napi_types.specs.all_runs.BufferLives as told
use Rattle.napi_types.specs.all_runs.BufferLives.{LifeFact, ExternalBuffer, ViewOfBuffer, told_window, told_of_lives, lives_on, FollowsLives}
use Rattle.napi_types.proofs.plain.Found.{found-append, found-map, found-All, found-number, has-found, apart-below, apart-above, same-self}
use Rattle.napi_types.proofs.plain.Lists.{none-last, not-unless, any-map}
use Rattle.napi_types.proofs.plain.Maps.{All-with_record, among-holds, has-right}
use Rattle.napi_types.proofs.parts.AttachedTickets.{HoldsAttached-from}
use Rattle.napi_types.proofs.parts.Moved.{under, at-cause, registration_at-new, registration-within}
use Rattle.napi_types.proofs.parts.Reaching.{reach-closed, numbers-kept}
use Rattle.napi_types.proofs.environment.HookedSteps.{reactions-of}
use Rattle.napi_types.proofs.all_runs.HeldHandles.{HeapFits, new-handle}
use Rattle.napi_types.proofs.all_runs.LifeHistory.{LifeHistory, life_history, past-given, past-external, past-window, past-left}
use Rattle.napi_types.proofs.all_runs.LifeKept.{LifeView, life_view, IsWaiting, IsWindow, IsNoView, IsLifeOf, NoneFalls, none-falls, push-falls, changed-falls, owner-new, owns-attached, owns-one-more, QuietLife, given-tickets, life-quiet, life-born, born-row, born-window, born-external, life-left}
use Rattle.napi_types.proofs.all_runs.LifeQuiet.{LifeStays, life-same, life-hangs, effect-none, changed-none, thrown-none, quiet-view, quiet-life}
use Rattle.napi_types.proofs.all_runs.NoRefusals.{no-refusal-accepts}
use Rattle.napi_types.proofs.all_runs.PromiseBooks.{same-links, more-links, changed-stays, linked-other}
use Rattle.napi_types.proofs.all_runs.PromiseHistory.{has-of}
use Rattle.napi_types.proofs.all_runs.PromiseStates.{has-none}
use Rattle.napi_types.proofs.all_runs.PromiseTells.{if-none, refused-none, own-none}
use Rattle.napi_types.proofs.all_runs.QuietCalls.{thrown-links, linked-links}

-- what is told after what was told before: nothing, or one thing that may be; and what the environment holds then
pub data KeepsLives (ts : List LifeFact) : List LifeFact → LifeView → Type 0 where
  lives_none : (v : LifeView) → IsLifeOf (life_history ts) v → KeepsLives ts [] v
  lives_one : (x : LifeFact) (v : LifeView) → FollowsLives ts x → IsLifeOf (life_history (ts ++ x ∷ [])) v → KeepsLives ts (x ∷ []) v

pub no-lives-told : (ts news : List LifeFact) (v w : LifeView) → news ≡ [] → w ≡ v → IsLifeOf (life_history ts) v → KeepsLives ts news w
no-lives-told ts news v w none same k = rw (none, same) (lives_none v k)

-- ONE FIELD
life-rows : (h : LifeHistory) (v : LifeView) (rs : List ArrayBuffer) → All (λ r. has_number r.value h.living ≡ true) rs → IsLifeOf h v → IsLifeOf h (record v { buffers = rs })
life-rows h v rs all k = record {
  late = k.late;
  waiting = k.waiting;
  owned = k.owned;
  alive = k.alive;
  above = k.above;
  windows = k.windows;
  rows = all;
  apart = k.apart;
}

life-deferreds : (h : LifeHistory) (v : LifeView) (ds : List Deferred) → All (IsNoView h.windows v.made) ds → IsLifeOf h v → IsLifeOf h (record v { deferreds = ds })
life-deferreds h v ds all k = record {
  late = k.late;
  waiting = k.waiting;
  owned = k.owned;
  alive = k.alive;
  above = k.above;
  windows = k.windows;
  rows = k.rows;
  apart = all;
}

-- a value that is made is there, and has its link
made-there : (vs : List Value) (n tag : ℕ) (to : Option ℕ) → is_some (value_at (vs ++ linked_value n tag to ∷ []) n) ≡ true
made-there vs n tag to = ap is_some (found-append (λ (w : Value). w.number) n vs (linked_value n tag to ∷ [])) ∙ by (value_at vs n)
  where
    last : is_some (value_at (linked_value n tag to ∷ []) n) ≡ true
    last = ap (λ b. is_some (cond b (Some (linked_value n tag to)) None)) (same-self n)

    by : (o : Option Value) → is_some (option_or o (value_at (linked_value n tag to ∷ []) n)) ≡ true
    by None = last
    by (Some w) = refl

made-linked : (vs : List Value) (n tag b : ℕ) → value_at vs n ≡ None → link_of (vs ++ linked_value n tag (Some b) ∷ []) n ≡ Some b
made-linked vs n tag b none =
    ap (option_and_then (λ (w : Value). w.link))
    (found-append (λ (w : Value). w.number) n vs (linked_value n tag (Some b) ∷ []) ∙ ap (λ o. option_or o (value_at (linked_value n tag (Some b) ∷ []) n)) none
    ∙ ap (λ c. cond c (Some (linked_value n tag (Some b))) None) (same-self n))

-- EACH CALL THAT TELLS
module _ (ts : List LifeFact) (e : Environment) (k : IsLifeOf (life_history ts) (life_view e)) (hooked : IsHooked e) where
  abbrev h : LifeHistory
  h = life_history ts

  abbrev p : ℕ
  p = e.heap.made + 1

  -- a buffer is made
  plain-told : (size n v : ℕ) → v ≡ p → KeepsLives ts (told.GivesBuffer v ∷ []) (life_view (effect e (call.CreateArraybuffer size) n).after)
  plain-told size n v same =
      let c : Call = call.CreateArraybuffer size in
      let now : LifeView = life_view (effect e c n).after in
      let w : LifeView = record now { buffers = e.buffers.buffers } in
      let q : QuietLife (life_view e) w = quiet-view e c n e.buffers.buffers hooked refl refl (life-same e _ refl refl) in
      subst (λ m. KeepsLives ts (told.GivesBuffer m ∷ []) now) (sym same)
      (lives_one (told.GivesBuffer p) now (told.gives_buffer p)
      (subst (λ g. IsLifeOf g now) (sym (past-given ts p))
      (born-row h (life_view e) w k q refl (made-there e.heap.values p buffer_tag None) _ refl)))

  -- an external one
  external-told : (size payload entry hint n v : ℕ) → v ≡ p
      → KeepsLives ts (told.GivesExternal (record { buffer = v; ticket = new_ticket e.book }) ∷ []) (life_view (effect e (call.CreateExternalArraybuffer size payload entry hint) n).after)
  external-told size payload entry hint n v same =
      let c : Call = call.CreateExternalArraybuffer size payload entry hint in
      let now : LifeView = life_view (effect e c n).after in
      let w : LifeView = record now { buffers = e.buffers.buffers } in
      let r : Registration = finalizer_of e payload entry hint in
      let t : ℕ = new_ticket e.book in
      let x : ExternalBuffer = record { buffer = p; ticket = t } in
      let q : QuietLife (life_view e) w = quiet-view e c n e.buffers.buffers hooked refl refl (life-hangs e p r (effect e c n).after refl refl) in
      let given = given-tickets h (life_view e) k in
      subst (λ m. KeepsLives ts (told.GivesExternal (record { buffer = m; ticket = t }) ∷ []) now) (sym same)
      (lives_one (told.GivesExternal x) now
      (told.gives_external x (has-none (λ (y : ExternalBuffer). y.ticket) t h.external
      (All-weaker (λ (y : ExternalBuffer). y.ticket ≤ length e.book) (λ y. (y.ticket == t) ≡ false) (λ y is. apart-below y.ticket t (omega (arith, is))) h.external given)))
      (subst (λ g. IsLifeOf g now) (sym (past-external ts x))
      (born-external (record h { living = p ∷ h.living }) now x r
      (born-row h (life_view e) w k q refl (made-there e.heap.values p buffer_tag None) _ refl)
      (registration_at-new e.book r) refl refl (omega arith)
      (owns-attached (h.external ++ x ∷ []) p t e.attachments
      (All-push (λ (y : ExternalBuffer). y.ticket ≡ t → y.buffer ≡ p) h.external x (owner-new h.external (length e.book) p given) (λ is. refl))
      (owns-one-more h.external x e.attachments
      (HoldsAttached-from (λ m. m < t) e.attachments (λ m here. within m (hooked.attached m here))) k.owned)))))
    where
      within : (m : ℕ) → cause_at e.book m ≡ Some cause.Finalize → m < new_ticket e.book
      within m is = let u = under e.book m cause.Finalize is in registration-within e.book m u.registration u.there

  -- a view is made of a buffer that lives
  window-told : (b v : ℕ) (about : ViewInfo) → about.buffer.0 ≡ b → lives_on ts b ≡ true → v ≡ p
      → KeepsLives ts (told.GivesView (record { view = v; buffer = b }) ∷ []) (life_view (making_view e (Some about)).after)
  window-told b v about same lives is =
      let now : LifeView = life_view (making_view e (Some about)).after in
      let q : QuietLife (life_view e) now = record {
        late = refl;
        grows = omega arith;
        links = (linked-links e.heap view_tag (Some about.buffer.0)).links;
        above = λ m far none. found-append (λ (y : Value). y.number) m e.heap.values (linked_value p view_tag (Some about.buffer.0) ∷ [])
            ∙ ap (λ o. option_or o (value_at (linked_value p view_tag (Some about.buffer.0) ∷ []) m)) none
            ∙ ap (λ c. cond c (Some (linked_value p view_tag (Some about.buffer.0))) None) (apart-below p m far);
        book = none-falls e.book;
        owns = λ xs given o. o;
        buffers = refl;
        deferreds = refl;
      } in
      subst (λ m. KeepsLives ts (told.GivesView (record { view = m; buffer = b }) ∷ []) now) (sym is)
      (lives_one (told.GivesView (record { view = p; buffer = b })) now (told.gives_view (record { view = p; buffer = b }) lives)
      (subst (λ g. IsLifeOf g now) (sym (past-window ts (record { view = p; buffer = b })))
      (born-window h (life_view e) now k q refl (made-there e.heap.values p view_tag (Some about.buffer.0)) b
      (made-linked e.heap.values p view_tag about.buffer.0 (k.above p (omega arith)) ∙ ap Some same) lives)))

  -- a buffer that is held lives
  held-lives : (b : ℕ) (r : ArrayBuffer) → buffer_at e.buffers b ≡ Some r → lives_on ts b ≡ true
  held-lives b r there =
      ap (λ m. has_number m h.living) (sym (found-number (λ (r : ArrayBuffer). r.value) b e.buffers.buffers r there))
      ∙ found-All (λ (r : ArrayBuffer). r.value) (λ (r : ArrayBuffer). has_number r.value h.living ≡ true) b e.buffers.buffers r k.rows there

  -- VALUES ARE COLLECTED
  child-of : (o : Option Value) (m : ℕ) → option_and_then (λ (w : Value). w.link) o ≡ Some m → has_number m (unwrap_or (option_map children o) []) ≡ true
  child-of None m is = cc
  child-of (Some w) m is =
      has-right m (map (λ q. q.value) w.properties ++ filter_map (λ x. x) w.elements) (option_to_list w.link)
      (ap (λ o. has_number m (option_to_list o)) is ∙ or_left (m == m) false (same-self m))

  closed : (n m : ℕ) → has_number n (reach e) ≡ true → link_of e.heap.values n ≡ Some m → is_some (value_at e.heap.values m) ≡ true → has_number m (reach e) ≡ true
  closed n m reached linked there =
      reach-closed e.heap.values (roots e) n m reached (child-of (value_at e.heap.values n) m linked)
      (any-map (λ j. j == m) (λ (w : Value). w.number) e.heap.values ∙ has-found (λ (w : Value). w.number) m e.heap.values ∙ there)

  collects-told : KeepsLives ts (told.Leaves (numbers (collected (reach e) e).heap.values) ∷ []) (life_view (collected (reach e) e))
  collects-told =
      let now : LifeView = life_view (collected (reach e) e) in
      subst (λ ns. KeepsLives ts (told.Leaves ns ∷ []) now) (sym (numbers-kept e.heap.values (roots e)))
      (lives_one (told.Leaves (reach e)) now
      (told.leaves_buffers (reach e) (All-weaker (IsWindow h.living e.heap.made e.heap.values) (λ w. told.LeavesItsBuffer ts (reach e) w) (λ w is lives left.
      closed w.view w.buffer left (is.linked lives) (there w.buffer (is.living lives))) h.windows k.windows))
      (subst (λ g. IsLifeOf g now) (sym (past-left ts (reach e))) (life-left h (life_view e) (reach e) k closed)))
    where
      there : (n : ℕ) → has_number n h.living ≡ true → is_some (value_at e.heap.values n) ≡ true
      there n is = among-holds (λ m. is_some (value_at e.heap.values m) ≡ true) h.living n k.alive is

  -- NOTHING IS TOLD
  -- the bytes of buffers change
  changed-rows : (change : Option (List ℕ) → Option (List ℕ)) (b : ℕ) → All (λ (r : ArrayBuffer). has_number r.value h.living ≡ true) (buffer_changed_at change b e.buffers).buffers
  changed-rows change b =
      All-map (λ (r : ArrayBuffer). has_number r.value h.living ≡ true) (λ (r : ArrayBuffer). cond (r.value == b) (record r { bytes = change r.bytes }) r) e.buffers.buffers
      (All-weaker (λ (r : ArrayBuffer). has_number r.value h.living ≡ true)
      (λ r. has_number (cond (r.value == b) (record r { bytes = change r.bytes }) r).value h.living ≡ true) (λ r is. by r (r.value == b) is) e.buffers.buffers k.rows)
    where
      by : (r : ArrayBuffer) (c : Bool) → has_number r.value h.living ≡ true → has_number (cond c (record r { bytes = change r.bytes }) r).value h.living ≡ true
      by r true is = is
      by r false is = is

  written-rows : (v at number : ℕ) → All (λ (r : ArrayBuffer). has_number r.value h.living ≡ true) (with_element_written v at number e.buffers).buffers
  written-rows v at number = by (view_at e.buffers v)
    where
      by : (o : Option ViewInfo) → All (λ (r : ArrayBuffer). has_number r.value h.living ≡ true)
          (option_map_or (λ (about : ViewInfo). buffer_changed_at (option_map (with_element_in about at number)) about.buffer.0 e.buffers) o e.buffers).buffers
      by None = k.rows
      by (Some about) = changed-rows (option_map (with_element_in about at number)) about.buffer.0

  -- a promise is made, and settled
  promises-kept-lives : (n : ℕ) → IsLifeOf h (life_view (promising e n).after)
  promises-kept-lives n =
      let now : LifeView = life_view (promising e n).after in
      let w : LifeView = record now { deferreds = e.promises.deferreds } in
      let q : QuietLife (life_view e) w = record {
        late = refl;
        grows = omega arith;
        links = more-links e.heap.values (linked_value p promise_tag None ∷ []) (All-cons (λ (x : Value). x.link ≡ None) _ [] refl (All-nil (λ (x : Value). x.link ≡ None)));
        above = effect-none e call.CreatePromise n;
        book = none-falls e.book;
        owns = λ xs given o. o;
        buffers = refl;
        deferreds = refl;
      } in
      let kept : IsLifeOf h w = life-quiet h (life_view e) w q k in
      life-deferreds h w now.deferreds
      (All-with_record (λ (d : Deferred). d.number) (record { number = n; promise = p }) (IsNoView h.windows p) (filter (λ (d : Deferred). not (d.promise == p)) e.promises.deferreds)
      (record {
        below = omega arith;
        apart = All-weaker (IsWindow h.living e.heap.made e.heap.values) (λ (x : ViewOfBuffer). (x.view == p) ≡ false) (λ x is. apart-below x.view p (omega (arith, is.below))) h.windows k.windows;
      })
      (All-filter (λ (d : Deferred). not (d.promise == p)) (IsNoView h.windows p) e.promises.deferreds kept.apart)) kept

  settled-kept-lives : (n q v state : ℕ) → deferred_promise e.promises n ≡ Some q → IsLifeOf h (life_view (with_settlement n q v state e))
  settled-kept-lives n q v state given = record {
    late = k.late;
    waiting = All-weaker (IsWaiting h e.heap.made e.book) (IsWaiting h e.heap.made settled) (λ x is.
        let s = none x.ticket is.registration is.there is.cause in
        record { registration = s.registration; there = s.there; cause = s.cause; old = is.old; due = λ its. is.due (s.due its) }) h.external k.waiting;
    owned = k.owned;
    alive = All-weaker (λ (m : ℕ). is_some (value_at e.heap.values m) ≡ true) (λ m. is_some (value_at (value_changed q (with_link v) e.heap.values) m) ≡ true)
        (λ m is. changed-stays q (with_link v) (λ x. refl) e.heap.values m is) h.living k.alive;
    above = λ m far. changed-none q (with_link v) (λ x. refl) e.heap.values m (k.above m far);
    windows = λ i d inside.
        let w : ViewOfBuffer = slice_index_or h.windows i d in
        let is : IsWindow h.living e.heap.made e.heap.values w = k.windows i d inside in
        record {
          below = is.below;
          linked = λ its. linked-other q v e.heap.values w.view (others.apart i d inside) ∙ is.linked its;
          living = is.living;
        };
    rows = k.rows;
    apart = All-filter (λ (d : Deferred). not (d.number == n)) (IsNoView h.windows e.heap.made) e.promises.deferreds k.apart;
  }
    where
      settled : Book
      settled = reactions_settled state (reactions_of e.promises q) e.book

      apart-by : (o : Option Deferred) → found (λ (d : Deferred). d.number) n e.promises.deferreds ≡ o → option_map (λ (d : Deferred). d.promise) o ≡ Some q
          → IsNoView h.windows e.heap.made (record { number = n; promise = q })
      apart-by None there is = let no : ⊥ = cc in absurd no
      apart-by (Some d) there is =
          let its : IsNoView h.windows e.heap.made d = found-All (λ (d : Deferred). d.number) (IsNoView h.windows e.heap.made) n e.promises.deferreds d k.apart there in
          let same : d.promise ≡ q = same_Some d.promise q is in
          record {
            below = subst (λ m. m ≤ e.heap.made) same its.below;
            apart = subst (λ m. All (λ (w : ViewOfBuffer). (w.view == m) ≡ false) h.windows) same its.apart;
          }

      others : IsNoView h.windows e.heap.made (record { number = n; promise = q })
      others = apart-by (found (λ (d : Deferred). d.number) n e.promises.deferreds) refl given

      cause-kept : (r : Registration) (b : Bool) → (cond b (moved made_due (with_hint state r)) r).cause ≡ r.cause
      cause-kept r true = refl
      cause-kept r false = refl

      none : NoneFalls e.book settled
      none =
          changed-falls (made_settled state) (λ r. cause-kept r (is_registered r.state)) (λ m. has_number m (reactions_of e.promises q)) e.book
          (λ m r there why its is.
          let no : cause.Finalize ≡ cause.Reaction =
          same_Some cause.Finalize cause.Reaction (ap Some (sym why) ∙ sym (at-cause e.book m r there) ∙ reactions-of e.book e.promises q m hooked.reactions its) in
          absurd (let z : ⊥ = cc in z))

  settling-kept-lives : (n v state : ℕ) (o : Option ℕ) → deferred_promise e.promises n ≡ o → IsLifeOf h (life_view (settling e n v state o).after)
  settling-kept-lives n v state None given = k
  settling-kept-lives n v state (Some q) given = settled-kept-lives n q v state given

-- EACH CALL
module _ (ts : List LifeFact) (m : Machine) (k : IsLifeOf (life_history ts) (life_view m.env)) (hooked : IsHooked m.env) (fits : HeapFits m.env.heap)
    (stands : m.env.heap.scopes ≢ []) where
  abbrev machine_next : Call → Answer Environment → Machine
  machine_next c a = record m { env = with_noted_status c a.reply.status a.after; journal_length = m.journal_length + 1 }

  abbrev CallKeepsLives : Call → Answer Environment → Type 0
  CallKeepsLives c a = KeepsLives ts (if_accepted a.reply.status (told_of_lives m c a.reply (machine_next c a))) (life_view a.after)

  asked-lives : (kind b offset count : ℕ) (size : Option ℕ) (o : Option ArrayBuffer) → element_size kind ≡ size → buffer_at m.env.buffers b ≡ o
      → (asked : Option ViewInfo)
      → option_and_then (λ s. option_and_then (λ n. cond (may_lie n (view_of_elements b s offset count)) (Some (view_of_elements b s offset count)) None) (option_map buffer_bytes o)) size ≡ asked
      → is_some asked ≡ true
      → KeepsLives ts (if_accepted (making_view m.env asked).reply.status (told_window b (making_view m.env asked).after.heap (making_view m.env asked).reply.out))
      (life_view (making_view m.env asked).after)
  asked-lives kind b offset count None o sized there asked is some = let no : ⊥ = cc in absurd no
  asked-lives kind b offset count (Some s) None sized there asked is some = let no : ⊥ = cc in absurd no
  asked-lives kind b offset count (Some s) (Some r) sized there asked is some = by (may_lie (buffer_bytes r) (view_of_elements b s offset count)) asked is some
    where
      by : (c : Bool) (asked : Option ViewInfo) → cond c (Some (view_of_elements b s offset count)) None ≡ asked → is_some asked ≡ true
          → KeepsLives ts (if_accepted (making_view m.env asked).reply.status (told_window b (making_view m.env asked).after.heap (making_view m.env asked).reply.out))
          (life_view (making_view m.env asked).after)
      by false asked is some = let no : ⊥ = cc in absurd no
      by true asked is some =
          subst (λ o. KeepsLives ts (if_accepted (making_view m.env o).reply.status (told_window b (making_view m.env o).after.heap (making_view m.env o).reply.out))
          (life_view (making_view m.env o).after)) is
          (window-told ts m.env k hooked b _ (view_of_elements b s offset count) refl (held-lives ts m.env k hooked b r there)
          (new-handle (with_linked view_tag (Some b) m.env.heap) (m.env.heap.made + 1) stands fits))

  effect-keeps-lives : (c : Call) (n : ℕ) → refusal_before_depth m.env c ≡ None → CallKeepsLives c (effect m.env c n)
  effect-keeps-lives (call.CreateArraybuffer size) n none =
      plain-told ts m.env k hooked size n _ (new-handle (with_linked buffer_tag None m.env.heap) (m.env.heap.made + 1) stands fits)
  effect-keeps-lives (call.CreateExternalArraybuffer size payload entry hint) n none =
      external-told ts m.env k hooked size payload entry hint n _ (new-handle (with_linked buffer_tag None m.env.heap) (m.env.heap.made + 1) stands fits)
  effect-keeps-lives (call.CreateTypedarray kind x offset count) n none =
      let b : ℕ = handle_value m.env.heap x.0 in
      let own : group_refusal m.env (call.CreateTypedarray kind x offset count) ≡ None = own-none m.env (call.CreateTypedarray kind x offset count) none in
      asked-lives kind b offset count (element_size kind) (buffer_at m.env.buffers b) refl refl (view_asked m.env.buffers kind b offset count) refl
      (not-unless (is_some (view_asked m.env.buffers kind b offset count)) status.InvalidArg (none-last (no_buffer_refusal m.env.buffers b) _ own))
  effect-keeps-lives call.Collect n none = collects-told ts m.env k hooked
  effect-keeps-lives (call.SetView x at number) n none =
      let c : Call = call.SetView x at number in
      lives_none _ (life-rows (life_history ts) (record (life_view (effect m.env c n).after) { buffers = m.env.buffers.buffers }) _
      (written-rows ts m.env k hooked (handle_value m.env.heap x.0) at number)
      (life-quiet (life_history ts) (life_view m.env) _ (quiet-view m.env c n m.env.buffers.buffers hooked refl refl (life-same m.env _ refl refl)) k))
  effect-keeps-lives (call.DetachArraybuffer x) n none =
      let c : Call = call.DetachArraybuffer x in
      lives_none _ (life-rows (life_history ts) (record (life_view (effect m.env c n).after) { buffers = m.env.buffers.buffers }) _
      (changed-rows ts m.env k hooked (λ bytes. None) (handle_value m.env.heap x.0))
      (life-quiet (life_history ts) (life_view m.env) _ (quiet-view m.env c n m.env.buffers.buffers hooked refl refl (life-same m.env _ refl refl)) k))
  effect-keeps-lives call.CreatePromise n none = lives_none _ (promises-kept-lives ts m.env k hooked n)
  effect-keeps-lives (call.ResolveDeferred d x) n none =
      no-lives-told ts _ _ _ (if-none (effect m.env (call.ResolveDeferred d x) n).reply.status) refl
      (settling-kept-lives ts m.env k hooked d.0 (handle_value m.env.heap x.0) resolved (deferred_promise m.env.promises d.0) refl)
  effect-keeps-lives (call.RejectDeferred d x) n none =
      no-lives-told ts _ _ _ (if-none (effect m.env (call.RejectDeferred d x) n).reply.status) refl
      (settling-kept-lives ts m.env k hooked d.0 (handle_value m.env.heap x.0) rejected (deferred_promise m.env.promises d.0) refl)
  effect-keeps-lives (call.AddReaction x entry payload) n none =
      lives_none _ (life-quiet (life_history ts) (life_view m.env) (life_view (effect m.env (call.AddReaction x entry payload) n).after) (record {
        late = refl;
        grows = omega arith;
        links = same-links m.env.heap.values;
        above = λ j far none. none;
        book = push-falls _ m.env.book;
        owns = λ xs given o. o;
        buffers = refl;
        deferreds = refl;
      }) k)
  effect-keeps-lives c n none =
      no-lives-told ts _ _ _ (if-none (effect m.env c n).reply.status) refl
      (life-quiet (life_history ts) (life_view m.env) (life_view (effect m.env c n).after) (quiet-life m.env c n hooked refl refl) k)

  refused-keeps-lives : (c : Call) (s : Status) (e : Environment) → s ≢ status.Ok → QuietLife (life_view m.env) (life_view e) → CallKeepsLives c (refuses s e)
  refused-keeps-lives c s e never q =
      no-lives-told ts _ (life_view e) (life_view e) (refused-none s _ never) refl (life-quiet (life_history ts) (life_view m.env) (life_view e) q k)

  unchanged-life : QuietLife (life_view m.env) (life_view m.env)
  unchanged-life = record {
    late = refl;
    grows = omega arith;
    links = same-links m.env.heap.values;
    above = λ n far none. none;
    book = none-falls m.env.book;
    owns = λ xs given o. o;
    buffers = refl;
    deferreds = refl;
  }

  thrown-life : QuietLife (life_view m.env) (life_view (with_depth_error m.env))
  thrown-life =
      let l = thrown-links m.env.heap None (record { 0 = depth_text }) in
      record {
        late = refl;
        grows = l.grows;
        links = l.links;
        above = thrown-none m.env.heap None (record { 0 = depth_text });
        book = none-falls m.env.book;
        owns = λ xs given o. o;
        buffers = refl;
        deferreds = refl;
      }

  pub call-keeps-lives : (c : Call) (n : ℕ) → CallKeepsLives c (answer m.env c n)
  call-keeps-lives c n = at (refusal_before_depth m.env c) (depth_refusal m.env.frames c) refl refl
    where
      never : (s : Status) (early deep : Option Status) → refusal_before_depth m.env c ≡ early → depth_refusal m.env.frames c ≡ deep → option_or early deep ≡ Some s
          → s ≢ status.Ok
      never s early deep is its told ok =
          no-refusal-accepts m.env c (ap (λ o. option_or o (depth_refusal m.env.frames c)) is ∙ ap (λ o. option_or early o) its ∙ told ∙ ap (λ r. Some r) ok)

      at : (early deep : Option Status) → refusal_before_depth m.env c ≡ early → depth_refusal m.env.frames c ≡ deep → CallKeepsLives c (answer_unless_deep m.env c n early deep)
      at None None is its = effect-keeps-lives c n is
      at (Some s) None is its = refused-keeps-lives c s m.env (never s (Some s) None is its refl) unchanged-life
      at (Some s) (Some u) is its = refused-keeps-lives c s m.env (never s (Some s) (Some u) is its refl) unchanged-life
      at None (Some s) is its = refused-keeps-lives c s (with_depth_error m.env) (never s None (Some s) is its refl) thrown-life
