-- What hooks, the book and what else has tickets say of each other: every event of the environment keeps it.
use Rattle.std.proofs.Common.{◌≡◌, ◌<◌, ◌∙◌, ℕ, zero, suc, ◌+◌, ◌==◌, Bool, true, false, not, ◌&&◌, ◌||◌, cond, IsTrue, List, [], ◌∷◌, ◌++◌, map, filter, find, Option, Some, None, option_map, is_none, IfSome, refl, ap, sym, subst, inl, inr}
use Rattle.std.specs.List.{All}
use Rattle.std.specs.Option.{option_and_then, unwrap_or}
use Rattle.std.proofs.lemmas.Bool.{eqb-true, or_parts}
use Rattle.std.proofs.lemmas.List.Elements.{All-nil, All-head, All-tail, All-set, All-replicate, All-filter, All-map, All-push, All-weaker}
use Rattle.std.proofs.lemmas.Option.{IfSome_then, same_Some}
use Rattle.napi_types.specs.declared.call.Args.{Args}
use Rattle.napi_types.specs.declared.call.Call.{Call}
use Rattle.napi_types.specs.declared.call.Call.TheVariants as call
use Rattle.napi_types.specs.declared.entry.Cause.{Cause}
use Rattle.napi_types.specs.declared.entry.Cause.TheVariants as cause
use Rattle.napi_types.specs.declared.entry.Duty.{Duty}
use Rattle.napi_types.specs.declared.entry.Duty.TheVariants as duty
use Rattle.napi_types.specs.declared.entry.Entry.{Entry}
use Rattle.napi_types.specs.declared.entry.Out.TheVariants as out
use Rattle.napi_types.specs.declared.entry.Phase.{Phase}
use Rattle.napi_types.specs.declared.entry.Phase.TheVariants as phase
use Rattle.napi_types.specs.declared.entry.Why.{Why}
use Rattle.napi_types.specs.declared.ids.HandleId.{HandleId}
use Rattle.napi_types.specs.plain.Phases.{next_phase}
use Rattle.napi_types.specs.plain.Replies.{accepts}
use Rattle.napi_types.specs.plain.Lists.{has, has_number}
use Rattle.napi_types.specs.parts.AsyncHooks.{AsyncHook, HookState, Set, is_set, async_hook, number_under, ticket_of_set, set_ticket, with_removed}
use Rattle.napi_types.specs.parts.Attachments.{Attachments, is_attached_to, left_on}
use Rattle.napi_types.specs.parts.Book.{Book, Registration, registration_at, is_at, is_registered, is_owed, made_due, made_withdrawn, moved, moved_at, due_where, new_ticket, with_registration, begun_in, may_begin_in, cause_at}
use Rattle.napi_types.specs.parts.Buffers.{Buffers, with_buffer, with_view, buffers_left, with_detached, with_element_written}
use Rattle.napi_types.specs.parts.Frames.{caller_of, cause_of, duty_of}
use Rattle.napi_types.specs.parts.Heap.{handle_value}
use Rattle.napi_types.specs.parts.Hooks.{Hook, is_hook, hook_ticket, last_hook, without_hook}
use Rattle.napi_types.specs.parts.InstanceData.{InstanceData, Instances, instance_ticket}
use Rattle.napi_types.specs.parts.Promises.{Promise, Promises, promise_at, state_now, reactions_of, is_reaction_of, promise_changed, promises_left, with_promise, with_settled, with_reaction, reactions_settled}
use Rattle.napi_types.specs.environment.BufferCalls.{making_view}
use Rattle.napi_types.specs.environment.Calls.{effect, answer}
use Rattle.napi_types.specs.environment.Changes.{opening_change, init_change, call_change, is_fresh_result, with_none_waiting, book_in, in_phase, gone_change}
use Rattle.napi_types.specs.environment.Collection.{collected, is_freed}
use Rattle.napi_types.specs.environment.Ends.{end_change}
use Rattle.napi_types.specs.environment.Entering.{enter_change, asked_change}
use Rattle.napi_types.specs.environment.Environment.{Environment, OpenedWith, new_environment}
use Rattle.napi_types.specs.environment.HookCalls.{hook_registration, hooking, async_hooking, unhooked, unhooking, async_unhooking}
use Rattle.napi_types.specs.environment.Hooked.{is_from_finals_on, StandsIn, HasFinalizer, HasReactions, IsForHook, StandsWhileSet, HasItsNumber, AsyncHooksAgree, IsHooked}
use Rattle.napi_types.specs.environment.PromiseCalls.{promising, with_settlement, reaction_of, reacting}
use Rattle.napi_types.specs.environment.Registering.{finalizer_of, withdrawing}
use Rattle.napi_types.specs.environment.Registry.{registry_of}
use Rattle.napi_types.specs.environment.Roots.{reach}
use Rattle.napi_types.specs.environment.Tickets.{hooks_left, hooks_waiting, ticket_change}
use Rattle.napi_types.proofs.plain.Lists.{find-passes}
use Rattle.napi_types.proofs.plain.Found.{found-All}
use Rattle.napi_types.proofs.plain.Maps.{All-with_record, among-holds, filter_all}
use Rattle.napi_types.proofs.parts.AttachedTickets.{HoldsAttached, HoldsAttached-from, tickets_in-holds, tickets_where-holds, wrap_ticket-holds, HoldsAttached-with_wrap, HoldsAttached-without_wrap, HoldsAttached-with_attached, HoldsAttached-left_on, HoldsAttached-weaker}
use Rattle.napi_types.proofs.parts.Books.{withdrawn-leaves, leaves-in}
use Rattle.napi_types.proofs.parts.Moved.{at-state, at-cause, registration_at-new}
use Rattle.napi_types.proofs.parts.Moves.{Settles, registration_after, settled-moves}
use Rattle.napi_types.proofs.environment.AnswersKeep.{course-parts}
use Rattle.napi_types.proofs.environment.Effects as does
use Rattle.napi_types.proofs.environment.AsyncHooked.{distinct-none, async-below, async-book, async-unhooked, async-begun, async-abandoned, async-removed, async-plain, async-added}
use Rattle.napi_types.proofs.environment.Effects.{Finalizes, HangsOn, Attaches, removing, buffer_made, Effect, effect-of}
use Rattle.napi_types.proofs.environment.FrameChanges.{HasRegistry, registry-parts, book_left, promises_after, KeepsButFrame, ended-keeps, KeepsAndEnters, enter_change-keeps}
use Rattle.napi_types.proofs.environment.HookedBooks.{KeepsCauses, BookGoes, every_ticket, all_but_ticket, HooksAgree, goes-nowhere, late-goes, push-goes, push-causes, changed-causes, others-go, finalizers-go, begun-goes, left-goes, ticket-goes, listed-goes, listed-push, listed-within}
use Rattle.napi_types.proofs.environment.Cases.{answer-by, asked-by}

-- FINALIZERS
attached-goes : (old new : Book) (a : Attachments) → KeepsCauses old new → HoldsAttached (Finalizes old) a → HoldsAttached (Finalizes new) a
attached-goes old new a causes h = HoldsAttached-weaker (Finalizes old) (Finalizes new) (λ n is. causes n cause.Finalize is) a h

instances-go : (old new : Book) (is : Instances) → KeepsCauses old new → All (HasFinalizer old) is → All (HasFinalizer new) is
instances-go old new is causes all =
    All-weaker (HasFinalizer old) (HasFinalizer new) (λ i h. IfSome_then (option_and_then (λ (d : InstanceData). d.ticket) i) h (λ n here. causes n cause.Finalize here)) is all

reactions-go : (old new : Book) (ps : List Promise) → KeepsCauses old new → All (HasReactions old) ps → All (HasReactions new) ps
reactions-go old new ps causes all =
    All-weaker (HasReactions old) (HasReactions new) (λ r has.
    All-weaker (λ m. cause_at old m ≡ Some cause.Reaction) (λ m. cause_at new m ≡ Some cause.Reaction) (λ m is. causes m cause.Reaction is) r.reactions has) ps all

-- that of instance data
pub instance-finalizes : (book : Book) (is : Instances) (addon : ℕ) → All (HasFinalizer book) is → IfSome (instance_ticket is addon) (Finalizes book)
instance-finalizes book [] addon all = tt
instance-finalizes book (i ∷ is) zero all = All-head (HasFinalizer book) i is all
instance-finalizes book (i ∷ is) (suc addon) all = instance-finalizes book is addon (All-tail (HasFinalizer book) i is all)

-- THE ENVIRONMENT CHANGES
listed : (e : Environment) → IsHooked e → HooksAgree e.phase e.book e.hooks
listed e h = record { rise = h.rise; stand = h.hooks; others = h.others }

attached : (e : Environment) → IsHooked e → HoldsAttached (Finalizes e.book) e.attachments
attached e h = HoldsAttached-from (Finalizes e.book) e.attachments h.attached

hooked-by : (e : Environment) → HooksAgree e.phase e.book e.hooks → HoldsAttached (Finalizes e.book) e.attachments → All (HasFinalizer e.book) e.instances
    → All (HasReactions e.book) e.promises.promises → AsyncHooksAgree e.book e.hooks e.async_hooks → IsHooked e
hooked-by e l on is reactions agree = record {
  rise = l.rise;
  hooks = l.stand;
  others = l.others;
  attached = tickets_in-holds (Finalizes e.book) e.attachments on;
  instances = is;
  reactions = reactions;
  async = agree;
}

-- the book goes a step, and the hooks stay whose tickets pass
hooked-goes : (old new : Environment) (stays : ℕ → Bool) → (is_from_finals_on new.phase ≡ false → is_from_finals_on old.phase ≡ false)
    → BookGoes new.phase stays old.book new.book
    → new.hooks ≡ filter (λ h. stays h.ticket) old.hooks → new.attachments ≡ old.attachments → new.instances ≡ old.instances → new.promises ≡ old.promises
    → AsyncHooksAgree new.book new.hooks new.async_hooks → IsHooked old → IsHooked new
hooked-goes old new stays sooner goes hooks attachments instances promises agree h =
    hooked-by new
    (subst (λ hs. HooksAgree new.phase new.book hs) (sym hooks) (listed-goes old.phase new.phase stays old.book new.book old.hooks sooner goes (listed old h)))
    (subst (λ a. HoldsAttached (Finalizes new.book) a) (sym attachments) (attached-goes old.book new.book old.attachments goes.causes (attached old h)))
    (subst (λ is. All (HasFinalizer new.book) is) (sym instances) (instances-go old.book new.book old.instances goes.causes h.instances))
    (subst (λ (p : Promises). All (HasReactions new.book) p.promises) (sym promises)
    (reactions-go old.book new.book old.promises.promises goes.causes h.reactions)) agree

-- the asynchronous hooks are as they were, and each ticket keeps why its frame begins
same-async : (old new : Environment) → KeepsCauses old.book new.book → new.hooks ≡ old.hooks → new.async_hooks ≡ old.async_hooks → IsHooked old
    → AsyncHooksAgree new.book new.hooks new.async_hooks
same-async old new causes hooks others h =
    subst (λ hs. AsyncHooksAgree new.book hs new.async_hooks) (sym hooks)
    (subst (AsyncHooksAgree new.book old.hooks) (sym others) (async-book old.book new.book old.hooks old.async_hooks causes h.async))

all-stay : (hooks : List Hook) → hooks ≡ filter (λ h. every_ticket h.ticket) hooks
all-stay hooks = sym (filter_all (λ (h : Hook). every_ticket h.ticket) hooks (λ k d inside. refl))

-- nothing of it changes
pub unchanged : (old new : Environment) → new.phase ≡ old.phase → registry_of new ≡ registry_of old → IsHooked old → IsHooked new
unchanged old new phase registry h =
    let same : HasRegistry (registry_of old) new = registry-parts (registry_of old) new registry in
    let goes : BookGoes new.phase every_ticket old.book new.book = subst (λ b. BookGoes new.phase every_ticket old.book b) (sym same.book) (goes-nowhere new.phase old.book) in
    hooked-goes old new every_ticket (λ early. ap is_from_finals_on (sym phase) ∙ early) goes
    (same.hooks ∙ all-stay old.hooks) same.attachments same.instances same.promises (same-async old new goes.causes same.hooks same.async_hooks h) h

-- one thing changes alone
hooked-book : (e : Environment) (book : Book) → BookGoes e.phase every_ticket e.book book → IsHooked e → IsHooked (record e { book = book })
hooked-book e book goes h =
    hooked-goes e (record e { book = book }) every_ticket (λ early. early) goes (all-stay e.hooks) refl refl refl
    (async-book e.book book e.hooks e.async_hooks goes.causes h.async) h

hooked-attachments : (e : Environment) (a : Attachments) → HoldsAttached (Finalizes e.book) a → IsHooked e → IsHooked (record e { attachments = a })
hooked-attachments e a on h = hooked-by (record e { attachments = a }) (listed e h) on h.instances h.reactions h.async

hooked-instances : (e : Environment) (is : Instances) → All (HasFinalizer e.book) is → IsHooked e → IsHooked (record e { instances = is })
hooked-instances e is all h = hooked-by (record e { instances = is }) (listed e h) (attached e h) all h.reactions h.async

hooked-promises : (e : Environment) (p : Promises) → All (HasReactions e.book) p.promises → IsHooked e → IsHooked (record e { promises = p })
hooked-promises e p reactions h = hooked-by (record e { promises = p }) (listed e h) (attached e h) h.instances reactions h.async

hooked-buffers : (e : Environment) (b : Buffers) → IsHooked e → IsHooked (record e { buffers = b })
hooked-buffers e b h = hooked-by (record e { buffers = b }) (listed e h) (attached e h) h.instances h.reactions h.async

-- PROMISES
-- a new one has no reactions
reactions-made : (book : Book) (v n : ℕ) (p : Promises) → All (HasReactions book) p.promises → All (HasReactions book) (with_promise v n p).promises
reactions-made book v n p all =
    All-with_record (λ (r : Promise). r.value) (record { value = v; state = 0; reactions = [] }) (HasReactions book) p.promises
    (All-nil (λ m. cause_at book m ≡ Some cause.Reaction)) all

-- one of them changes
reactions-changed : (book : Book) (change : Promise → Promise) → ((r : Promise) → HasReactions book r → HasReactions book (change r)) → (n : ℕ) (ps : List Promise)
    → All (HasReactions book) ps → All (HasReactions book) (promise_changed change n ps)
reactions-changed book change keeps n ps all =
    All-map (HasReactions book) (λ (r : Promise). cond (r.value == n) (change r) r) ps
    (All-weaker (HasReactions book) (λ (r : Promise). HasReactions book (cond (r.value == n) (change r) r)) (λ r has. by r (r.value == n) has) ps all)
  where
    by : (r : Promise) (b : Bool) → HasReactions book r → HasReactions book (cond b (change r) r)
    by r true has = keeps r has
    by r false has = has

-- a reaction has ended
reactions-without : (book : Book) (t : ℕ) (ps : List Promise) → All (HasReactions book) ps
    → All (HasReactions book) (map (λ (r : Promise). record r { reactions = filter (λ m. not (m == t)) r.reactions }) ps)
reactions-without book t ps all =
    All-map (HasReactions book) (λ (r : Promise). record r { reactions = filter (λ m. not (m == t)) r.reactions }) ps
    (All-weaker (HasReactions book) (λ (r : Promise). HasReactions book (record r { reactions = filter (λ m. not (m == t)) r.reactions }))
    (λ r has. All-filter (λ m. not (m == t)) (λ m. cause_at book m ≡ Some cause.Reaction) r.reactions has) ps all)

reactions-after : (book : Book) (c : Cause) (d : Option Duty) (p : Promises) → All (HasReactions book) p.promises
    → All (HasReactions book) (promises_after c d p).promises
reactions-after book cause.Call d p all = all
reactions-after book _ (Some (duty.Ticket t)) p all = reactions-without book t.0 p.promises all
reactions-after book _ _ p all = all

-- those of one are reactions
pub reactions-of : (book : Book) (p : Promises) (v n : ℕ) → All (HasReactions book) p.promises → is_reaction_of p v n ≡ true
    → cause_at book n ≡ Some cause.Reaction
reactions-of book p v n all is = by (promise_at p v) refl is
  where
    by : (o : Option Promise) → promise_at p v ≡ o → has_number n (unwrap_or (option_map (λ (r : Promise). r.reactions) o) []) ≡ true
        → cause_at book n ≡ Some cause.Reaction
    by None there is = cc
    by (Some r) there is =
        among-holds (λ m. cause_at book m ≡ Some cause.Reaction) r.reactions n
        (found-All (λ (q : Promise). q.value) (HasReactions book) v p.promises r all there) is

-- they are settled
hooked-settled : (e : Environment) (state : ℕ) (tickets : List ℕ) → ((n : ℕ) → has_number n tickets ≡ true → cause_at e.book n ≡ Some cause.Reaction)
    → IsHooked e → IsHooked (record e { book = reactions_settled state tickets e.book })
hooked-settled e state tickets theirs h =
    let test : ℕ → Bool = λ n. has_number n tickets in
    hooked-book e _
    (subst (λ b. BookGoes e.phase every_ticket e.book b) (sym (settled-moves state tickets e.book))
    (others-go e.phase cause.Reaction (λ is. cc) (registration_after (Settles state)) (λ r. refl) test e.book theirs)) h

-- FINALIZERS OF CALLS
-- what is attached changes in one place
attached-more : (book : Book) (a b : Attachments) → Attaches book a b → HoldsAttached (Finalizes book) a → HoldsAttached (Finalizes book) b
attached-more book a _ (does.wraps v payload t here) h = HoldsAttached-with_wrap (Finalizes book) v payload t a here h
attached-more book a _ (does.hangs v t here) h = HoldsAttached-with_attached (Finalizes book) v t a here h
attached-more book a _ (does.unwraps v) h = HoldsAttached-without_wrap (Finalizes book) v a h
attached-more book a _ (does.tags v lower upper) h = record { wraps = h.wraps; tickets = h.tickets }

-- what a value or instance data has is the ticket of a finalizer
hanging-finalizes : (e : Environment) (t : ℕ) → HangsOn e t → IsHooked e → Finalizes e.book t
hanging-finalizes e t (inl (v, here)) h = subst (λ o. IfSome o (Finalizes e.book)) here (wrap_ticket-holds (Finalizes e.book) e.attachments v (attached e h))
hanging-finalizes e t (inr here) h = subst (λ o. IfSome o (Finalizes e.book)) here (instance-finalizes e.book e.instances (caller_of e.frames) h.instances)

abbrev withdrawn : Environment → ℕ → Environment
withdrawn e t = record e { book = moved_at made_withdrawn t e.book }

hooked-withdrawn : (e : Environment) (t : ℕ) → Finalizes e.book t → IsHooked e → IsHooked (withdrawn e t)
hooked-withdrawn e t is h =
    hooked-book e _
    (finalizers-go e.phase (moved made_withdrawn) (λ r. refl) (λ m. m == t) e.book (λ n same. subst (Finalizes e.book) (sym (eqb-true n t same)) is)) h

-- THE CALLS ON HOOKS
pub new-number : (n : ℕ) (ns : List ℕ) → IsTrue (not (has_number n (0 ∷ ns))) → has_number n ns ≡ false
new-number n ns fresh = (or_parts (0 == n) (has_number n ns) (by (has_number n (0 ∷ ns)) fresh)).1
  where
    by : (b : Bool) → IsTrue (not b) → b ≡ false
    by true new = cc
    by false new = refl

hooking-hooked : (e : Environment) (addon entry argument : ℕ) → IsHooked e → IsHooked (hooking e addon entry argument).after
hooking-hooked e addon entry argument h =
    let r : Registration = hook_registration addon entry argument 0 in
    hooked-by (hooking e addon entry argument).after (listed-push e.phase e.book e.hooks _ r refl refl refl (listed e h))
    (attached-goes e.book (with_registration r e.book) e.attachments (push-causes r e.book) (attached e h))
    (instances-go e.book (with_registration r e.book) e.instances (push-causes r e.book) h.instances)
    (reactions-go e.book (with_registration r e.book) e.promises.promises (push-causes r e.book) h.reactions)
    (async-plain e.book r e.hooks e.async_hooks h.async _ refl refl)

-- a number that no asynchronous hook has
abbrev IsNewNumber : Environment → ℕ → Type 0
IsNewNumber e n = has_number n (map (λ x. x.number) e.async_hooks) ≡ false

async_hooking-hooked : (e : Environment) (addon entry argument n : ℕ) → IsNewNumber e n → IsHooked e → IsHooked (async_hooking e addon entry argument n).after
async_hooking-hooked e addon entry argument n fresh h =
    let r : Registration = hook_registration addon entry argument n in
    hooked-by (async_hooking e addon entry argument n).after (listed-push e.phase e.book e.hooks _ r refl refl refl (listed e h))
    (attached-goes e.book (with_registration r e.book) e.attachments (push-causes r e.book) (attached e h))
    (instances-go e.book (with_registration r e.book) e.instances (push-causes r e.book) h.instances)
    (reactions-go e.book (with_registration r e.book) e.promises.promises (push-causes r e.book) h.reactions)
    (async-added e.book r e.hooks e.async_hooks h.async _ refl n refl refl fresh (listed-within e.phase e.book e.hooks h.hooks))

pub found-holds : {A : Type 0} (P : A → Type 0) (test : A → Bool) (xs : List A) → All P xs → IfSome (find test xs) P
found-holds P test [] all = tt
found-holds P test (x ∷ xs) all = by (test x) (found-holds P test xs (All-tail P x xs all))
  where
    by : (b : Bool) → IfSome (find test xs) P → IfSome (cond b (Some x) (find test xs)) P
    by true later = All-head P x xs all
    by false later = later

found-passes : {A : Type 0} (test : A → Bool) (xs : List A) → IfSome (find test xs) (λ x. test x ≡ true)
found-passes {A = A} test xs = by (find test xs) (find-passes test xs)
  where
    by : (o : Option A) → ((x : A) → o ≡ Some x → test x ≡ true) → IfSome o (λ x. test x ≡ true)
    by None passes = tt
    by (Some x) passes = passes x refl

-- the ticket of a hook is registered up to `finals`
abbrev HookWaits : Environment → ℕ → Type 0
HookWaits e t = is_from_finals_on e.phase ≡ false → is_at is_registered e.book t ≡ true

hook-waits : (e : Environment) (addon entry argument : ℕ) → IsHooked e → IfSome (hook_ticket addon entry argument e.hooks) (HookWaits e)
hook-waits e addon entry argument h =
    by (find (is_hook addon entry argument) e.hooks) (found-holds (StandsIn e.phase e.book) (is_hook addon entry argument) e.hooks h.hooks)
  where
    by : (o : Option Hook) → IfSome o (StandsIn e.phase e.book) → IfSome (option_map (λ (x : Hook). x.ticket) o) (HookWaits e)
    by None s = tt
    by (Some x) s = s.registered

last-passes : (a b c d : Bool) → (a && b && c && d) ≡ true → d ≡ true
last-passes true true true d is = is
last-passes _ _ _ true is = refl
last-passes _ _ _ false is = cc

no-number : (n : Option ℕ) → is_none n ≡ true → n ≡ None
no-number None is = refl
no-number (Some n) is = cc

-- no asynchronous hook has the ticket of a plain one
plain-waits : (e : Environment) (addon entry argument : ℕ) → IsHooked e
    → IfSome (hook_ticket addon entry argument e.hooks) (λ t. number_under t e.async_hooks ≡ None)
plain-waits e addon entry argument h =
    by (find (is_hook addon entry argument) e.hooks) (found-holds (HasItsNumber e.async_hooks) (is_hook addon entry argument) e.hooks h.async.numbered)
    (found-passes (is_hook addon entry argument) e.hooks)
  where
    by : (o : Option Hook) → IfSome o (HasItsNumber e.async_hooks) → IfSome o (λ x. is_hook addon entry argument x ≡ true)
        → IfSome (option_map (λ (x : Hook). x.ticket) o) (λ t. number_under t e.async_hooks ≡ None)
    by None is passes = tt
    by (Some x) is passes = is ∙ no-number x.number (last-passes (x.addon == addon) (x.entry == entry) (x.argument == argument) (is_none x.number) passes)

-- a hook leaves the list, and how far the asynchronous ones have come is told
unhooking-hooked : (e : Environment) (others : List AsyncHook) (t : Option ℕ) → IfSome t (HookWaits e) → AsyncHooksAgree e.book (unhooked t e.hooks) others
    → IsHooked e
    → IsHooked (unhooking (record e { async_hooks = others }) t).after
unhooking-hooked e others None waits agree h =
    hooked-goes e (record e { async_hooks = others }) every_ticket (λ early. early) (goes-nowhere e.phase e.book) (all-stay e.hooks) refl refl refl agree h
unhooking-hooked e others (Some t) waits agree h = by (is_at is_registered e.book t) refl
  where
    left : Environment
    left = record e { hooks = without_hook t e.hooks; async_hooks = others }

    by : (b : Bool) → is_at is_registered e.book t ≡ b → IsHooked (withdrawing (cond b (Some t) None) (accepts out.Nothing left)).after
    by true is =
        let gone : (r : Registration) → registration_at e.book t ≡ Some r → is_owed (made_withdrawn r.state) ≡ false =
        λ r there. withdrawn-leaves.after r.state (sym (at-state is_registered e.book t r there) ∙ is) in
        let goes : BookGoes e.phase (all_but_ticket t) e.book (moved_at made_withdrawn t e.book) = ticket-goes e.phase made_withdrawn t e.book gone in
        hooked-goes e (withdrawn left t) (all_but_ticket t) (λ early. early) goes refl refl refl refl
        (async-book e.book (moved_at made_withdrawn t e.book) (without_hook t e.hooks) others goes.causes agree) h
    by false is =
        let late : is_from_finals_on e.phase ≡ false → ⊥ = λ early. let no : true ≡ false = sym (waits early) ∙ is in cc in
        hooked-goes e left (all_but_ticket t) (λ early. early)
        (late-goes e.phase (all_but_ticket t) e.book e.book late (λ n why was. was)) refl refl refl refl agree h

-- a plain one
removing-hooked : (e : Environment) (entry argument : ℕ) → IsHooked e → IsHooked (removing e entry argument).after
removing-hooked e entry argument h =
    let addon : ℕ = caller_of e.frames in
    unhooking-hooked e e.async_hooks (hook_ticket addon entry argument e.hooks) (hook-waits e addon entry argument h)
    (by (hook_ticket addon entry argument e.hooks) (plain-waits e addon entry argument h)) h
  where
    by : (t : Option ℕ) → IfSome t (λ n. number_under n e.async_hooks ≡ None) → AsyncHooksAgree e.book (unhooked t e.hooks) e.async_hooks
    by None none = h.async
    by (Some t) none = async-unhooked t e.book e.hooks e.async_hooks none h.async

-- what holds of the tickets of the list holds of one that stands there
pub standing-holds : (P : ℕ → Type 0) (t : ℕ) (hooks : List Hook) → All (λ h. P h.ticket) hooks → has (λ h. h.ticket) t hooks ≡ true → P t
standing-holds P t [] all is = let no : ⊥ = cc in absurd no
standing-holds P t (h ∷ hooks) all is =
    by (h.ticket == t) refl is (standing-holds P t hooks (All-tail (λ (x : Hook). P x.ticket) h hooks all))
  where
    by : (b : Bool) → (h.ticket == t) ≡ b → (b || has (λ (x : Hook). x.ticket) t hooks) ≡ true → (has (λ (x : Hook). x.ticket) t hooks ≡ true → P t) → P t
    by true same is later = subst P (eqb-true h.ticket t same) (All-head (λ (x : Hook). P x.ticket) h hooks all)
    by false same is later = later is

-- an asynchronous one: the ticket of one that is set is registered up to `finals`
set-waits : (e : Environment) (n : ℕ) → IsHooked e → IfSome (set_ticket n e.async_hooks) (HookWaits e)
set-waits e n h = by (async_hook n e.async_hooks) (found-holds (StandsWhileSet e.hooks) (λ x. x.number == n) e.async_hooks h.async.set)
  where
    waits : (x : AsyncHook) (s : HookState) → is_set s ≡ has (λ y. y.ticket) x.ticket e.hooks → IfSome (ticket_of_set x s) (HookWaits e)
    waits x Set is =
        standing-holds (HookWaits e) x.ticket e.hooks
        (All-weaker (StandsIn e.phase e.book) (λ (y : Hook). HookWaits e y.ticket) (λ y stands. stands.registered) e.hooks h.hooks) (sym is)
    waits x _ is = tt

    by : (o : Option AsyncHook) → IfSome o (StandsWhileSet e.hooks) → IfSome (option_and_then (λ x. ticket_of_set x x.state) o) (HookWaits e)
    by None is = tt
    by (Some x) is = waits x x.state is

async_unhooking-hooked : (e : Environment) (n : ℕ) → IsHooked e → IsHooked (async_unhooking e n).after
async_unhooking-hooked e n h =
    unhooking-hooked e (with_removed n e.async_hooks) (set_ticket n e.async_hooks) (set-waits e n h) (async-removed n e.book e.hooks e.async_hooks h.async) h

-- A COLLECTION
-- what is attached to the freed falls due, and is taken off them
collected-hooked : (e : Environment) (alive : List ℕ) → IsHooked e → IsHooked (collected alive e)
collected-hooked e alive h =
    let freed : ℕ → Bool = is_freed alive in
    let due : Environment = record e { book = due_where (is_attached_to freed e.attachments) e.book } in
    let finalizers : (n : ℕ) → is_attached_to freed e.attachments n ≡ true → Finalizes e.book n = tickets_where-holds (Finalizes e.book) e.attachments
    (attached e h) freed in
    let fallen : IsHooked due = hooked-book e _ (finalizers-go e.phase (moved made_due) (λ r. refl) (is_attached_to freed e.attachments) e.book finalizers) h in
    let left : Environment = record due { attachments = left_on freed e.attachments } in
    unchanged _ (collected alive e) refl refl
    (hooked-buffers (record left { promises = promises_left freed e.promises }) (buffers_left freed e.buffers)
    (hooked-promises left (promises_left freed e.promises)
    (All-filter (λ (r : Promise). not (freed r.value)) (HasReactions due.book) e.promises.promises fallen.reactions)
    (hooked-attachments due (left_on freed e.attachments) (HoldsAttached-left_on (Finalizes due.book) freed e.attachments (attached due fallen)) fallen)))

-- EVERY CALL
-- most calls change nothing of it. One that adds an asynchronous hook needs a number that is new
does-hooked : (c : Call) (e : Environment) {made dropped : Option Duty} (d : Environment)
    → ((entry argument : ℕ) → c ≡ call.AddAsyncCleanupHook entry argument → ⊥)
    → Effect c e made dropped d → IsHooked e → IsHooked d
does-hooked c e _ other does.collects h = collected-hooked e (reach e) h
does-hooked c e _ other (does.promises n) h =
    unchanged (record e { promises = _ }) (promising e n).after refl refl
    (hooked-promises e _ (reactions-made e.book (e.heap.made + 1) n e.promises h.reactions) h)
does-hooked c e _ other (does.settles n v state p is) h =
    let settled : Environment = record e { book = reactions_settled state (reactions_of e.promises p) e.book } in
    let k : IsHooked settled = hooked-settled e state (reactions_of e.promises p) (λ m its. reactions-of e.book e.promises p m h.reactions its) h in
    unchanged (record settled { promises = _ }) (with_settlement n p (handle_value e.heap v) state e) refl refl
    (hooked-promises settled (with_settled n p state e.promises)
    (reactions-changed settled.book (λ r. record r { state = state }) (λ r has. has) p e.promises.promises k.reactions) k)
does-hooked c e _ other (does.reacts v entry payload) h =
    let r : Registration = reaction_of (caller_of e.frames) entry payload (state_now e.promises v) in
    let more : Environment = record e { book = with_registration r e.book } in
    let k : IsHooked more = hooked-book e _ (push-goes e.phase r e.book (λ is. cc)) h in
    let t : ℕ = new_ticket e.book in
    let new : cause_at more.book t ≡ Some cause.Reaction = at-cause more.book t r (registration_at-new e.book r) in
    unchanged (record more { promises = _ }) (reacting e v entry payload).after refl refl
    (hooked-promises more (with_reaction v t e.promises)
    (reactions-changed more.book (λ q. record q { reactions = q.reactions ++ t ∷ [] })
    (λ q has. All-push (λ m. cause_at more.book m ≡ Some cause.Reaction) q.reactions t has new) v e.promises.promises k.reactions) k)
does-hooked c e _ other (does.makes_buffer size t) h =
    unchanged (record e { buffers = _ }) (buffer_made e size t) refl refl (hooked-buffers e (with_buffer (e.heap.made + 1) size t e.buffers) h)
does-hooked c e _ other (does.makes_view about) h =
    unchanged (record e { buffers = _ }) (making_view e (Some about)).after refl refl (hooked-buffers e (with_view (e.heap.made + 1) about e.buffers) h)
does-hooked c e _ other (does.detaches v) h = hooked-buffers e (with_detached v e.buffers) h
does-hooked c e _ other (does.writes v at number) h = hooked-buffers e (with_element_written v at number e.buffers) h
does-hooked c e _ other (does.adds_hook entry argument) h = hooking-hooked e (caller_of e.frames) entry argument h
does-hooked c e _ other (does.removes_hook entry argument) h = removing-hooked e entry argument h
does-hooked c e _ other (does.adds_async entry argument n is) h = absurd (other entry argument is)
does-hooked c e _ other (does.removes_async n) h = async_unhooking-hooked e n h
does-hooked c e _ other (does.withdraws t on is) h = hooked-withdrawn e t (hanging-finalizes e t on h) h
does-hooked c e _ other (does.registers {d} payload entry hint before step) h =
    hooked-book d _ (push-goes d.phase (finalizer_of e payload entry hint) d.book (λ is. cc)) (does-hooked c e d other before h)
does-hooked c e _ other (does.attaches {d} {a} before on) h =
    let k : IsHooked d = does-hooked c e d other before h in hooked-attachments d a (attached-more d.book d.attachments a on (attached d k)) k
does-hooked c e _ other (does.sets {d} i before here) h =
    let k : IsHooked d = does-hooked c e d other before h in
    hooked-instances d _ (All-set (HasFinalizer d.book) d.instances (caller_of e.frames) (Some i) here k.instances) k
does-hooked c e d other _ h = unchanged e d refl refl h

-- a number that the call newly gives was never issued
abbrev pub GivesNew : Environment → Entry → Type 0
GivesNew e x = IsTrue (is_fresh_result e x.reply.out)

effect-hooked : (e : Environment) (c : Call) (n : ℕ) → IsTrue (is_fresh_result e (effect e c n).reply.out) → IsHooked e → IsHooked (effect e c n).after
effect-hooked e (call.AddAsyncCleanupHook entry argument) n fresh h =
    async_hooking-hooked e (caller_of e.frames) entry argument n (new-number n (map (λ x. x.number) e.async_hooks) fresh) h
effect-hooked e c n fresh h = does-hooked c e (effect e c n).after (λ entry argument is. cc) (effect-of e c n) h

pub hooked-called : (e : Environment) (c : Call) (n : ℕ) → GivesNew e (call_change e c n).entry → IsHooked e → IsHooked (call_change e c n).after
hooked-called e c n fresh h =
    let answered : IsHooked (answer e c n).after =
    answer-by e c n (λ a. IsTrue (is_fresh_result e a.reply.out) → IsHooked a.after) (λ s new. h) (λ s new. unchanged e _ refl refl h)
    (λ none new. effect-hooked e c n new h) fresh in
    unchanged _ (call_change e c n).after refl refl answered

pub hooked-entered : (receiver : Option HandleId) (f : HandleId) (args : Args) (e : Environment) → IsHooked e → IsHooked (enter_change receiver f args e).after
hooked-entered receiver f args e h =
    let new : Environment = (enter_change receiver f args e).after in
    let k : KeepsAndEnters e new f = enter_change-keeps receiver f args e in
    unchanged e new (course-parts e new k.course).phase k.registry h

pub hooked-asked : (e : Environment) (c : Call) (n : ℕ) → GivesNew e (asked_change e c n).entry → IsHooked e → IsHooked (asked_change e c n).after
hooked-asked e c n fresh h =
    asked-by e c n (λ d. GivesNew e d.entry → IsHooked d.after) (λ new. hooked-called e c n new h)
    (λ receiver f args none new. hooked-entered receiver f args e h) fresh

-- EVERY OTHER EVENT
none-given : (n : ℕ) (why : Cause) → cause_at [] n ≡ Some why → ⊥
none-given zero why is = cc
none-given (suc n) why is = cc

pub hooked-opening : (given : OpenedWith) → IsHooked (new_environment given)
hooked-opening given = record {
  rise = tt;
  hooks = All-nil (StandsIn phase.Init []);
  others = λ early n hook is. absurd (none-given n cause.Hook hook);
  attached = λ n here. cc;
  instances = All-replicate (HasFinalizer []) given.addons None tt;
  reactions = All-nil (HasReactions []);
  async = record { rise = tt; given = All-nil (IsForHook []); apart = distinct-none; set = All-nil (StandsWhileSet []); numbered = All-nil (HasItsNumber []) };
}

pub hooked-opened : (e : Environment) → IsHooked e → IsHooked (opening_change e).after
hooked-opened e h = unchanged e (opening_change e).after refl refl h

pub hooked-init : (n : ℕ) (e : Environment) → IsHooked e → IsHooked (init_change n e).after
hooked-init n e h = unchanged e (init_change n e).after refl refl h

pub hooked-ended : (v : Option HandleId) (cut : Option Why) (e : Environment) → IsHooked e → IsHooked (end_change v cut e).after
hooked-ended v cut e h =
    let new : Environment = (end_change v cut e).after in
    let k : KeepsButFrame e new = ended-keeps v cut e in
    let c : Cause = cause_of e.frames in
    let d : Option Duty = duty_of e.frames in
    let ended : Environment = record e { book = book_left c d e.book } in
    let left : IsHooked ended = hooked-book e _ (left-goes e.phase c d e.book) h in
    unchanged (record ended { promises = promises_after c d e.promises }) new (course-parts e new k.course).phase k.registry
    (hooked-promises ended (promises_after c d e.promises) (reactions-after ended.book c d e.promises left.reactions) left)

-- in Hooks what begins is taken off the list; in every other phase it was due, and is no hook that is registered
begun-hooked : (p : Phase) (n : ℕ) (r : Registration) (e : Environment) → registration_at e.book n ≡ Some r → may_begin_in p r.state ≡ true → IsHooked e
    → IsHooked (record e { book = moved_at (begun_in p) n e.book; hooks = hooks_left p n e.hooks; async_hooks = hooks_waiting p n e.async_hooks })
begun-hooked phase.Hooks n r e there may h =
    let left : Registration → Type 0 = λ q. is_owed (begun_in phase.Hooks q.state) ≡ false in
    let gone : (q : Registration) → registration_at e.book n ≡ Some q → left q = λ q is. subst left (same_Some r q (sym there ∙ is)) ((leaves-in phase.Hooks).after r.state may) in
    let goes : BookGoes e.phase (all_but_ticket n) e.book (moved_at (begun_in phase.Hooks) n e.book) = ticket-goes e.phase
    (begun_in phase.Hooks) n e.book gone in
    hooked-goes e _ (all_but_ticket n) (λ early. early) goes refl refl refl refl
    (async-begun n e.book (moved_at (begun_in phase.Hooks) n e.book) e.hooks e.async_hooks goes.causes h.async) h
begun-hooked _ n r e there may h = hooked-book e _ (begun-goes e.phase n e.book) h

pub hooked-begun : (n : ℕ) (r : Registration) (e : Environment) → registration_at e.book n ≡ Some r → may_begin_in e.phase r.state ≡ true → IsHooked e → IsHooked (ticket_change n r e).after
hooked-begun n r e there may h = unchanged _ (ticket_change n r e).after refl refl (begun-hooked e.phase n r e there may h)

phase-goes : (p : Phase) (book : Book) → BookGoes p every_ticket book (book_in p book)
phase-goes phase.Finals book =
    late-goes phase.Finals every_ticket book (book_in phase.Finals book) (λ early. cc) (changed-causes (moved made_due) (λ r. refl) (λ n. true) book)
phase-goes p book = goes-nowhere p book

sooner : (q p : Phase) → next_phase q ≡ Some p → is_from_finals_on p ≡ false → is_from_finals_on q ≡ false
sooner phase.Finals p next early = let no : true ≡ false = ap is_from_finals_on (same_Some phase.Gone p next) ∙ early in cc
sooner phase.Gone p next early = let no : ⊥ = cc in absurd no
sooner _ p next early = refl

pub hooked-phase : (p : Phase) (e : Environment) → next_phase e.phase ≡ Some p → IsHooked e → IsHooked (in_phase p e)
hooked-phase p e next h = hooked-goes e (in_phase p e) every_ticket (sooner e.phase p next) (phase-goes p e.book) (all-stay e.hooks) refl refl refl
    (async-book e.book (book_in p e.book) e.hooks e.async_hooks (phase-goes p e.book).causes h.async) h

pub hooked-gone : (e : Environment) → IsHooked e → IsHooked (gone_change e).after
hooked-gone e h = hooked-goes e (gone_change e).after every_ticket (λ early. cc) (goes-nowhere phase.Gone e.book) (all-stay e.hooks) refl refl refl h.async h

-- those that wait are abandoned
pub hooked-abandoned : (e : Environment) → IsHooked e → IsHooked (with_none_waiting e)
hooked-abandoned e h =
    hooked-by (with_none_waiting e) (listed e h) (attached e h) h.instances h.reactions (async-abandoned e.book e.hooks e.async_hooks h.async)

-- WHAT IT TELLS
pub last-holds : (P : Hook → Type 0) (hooks : List Hook) (h : Hook) → All P hooks → last_hook hooks ≡ Some h → P h
last-holds P [] h all last = let no : ⊥ = cc in absurd no
last-holds P (x ∷ []) h all last = subst P (same_Some x h last) (All-head P x [] all)
last-holds P (x ∷ y ∷ hooks) h all last = last-holds P (y ∷ hooks) h (All-tail P x (y ∷ hooks) all) last

-- the hook that was added last is registered
pub hook-registered : (e : Environment) (h : Hook) → IsHooked e → is_from_finals_on e.phase ≡ false → last_hook e.hooks ≡ Some h
    → is_at is_registered e.book h.ticket ≡ true
hook-registered e h hooked early last = (last-holds (StandsIn e.phase e.book) e.hooks h hooked.hooks last).registered early

-- the tickets of hooks were given
pub hooks-within : (e : Environment) → IsHooked e → All (λ h. h.ticket < new_ticket e.book) e.hooks
hooks-within e hooked = listed-within e.phase e.book e.hooks hooked.hooks

pub asyncs-within : (e : Environment) → IsHooked e → All (λ h. h.ticket < new_ticket e.book) e.async_hooks
asyncs-within e hooked = async-below e.book e.async_hooks hooked.async.given
