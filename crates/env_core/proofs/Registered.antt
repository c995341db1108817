-- What the calls that register a finalizer, or withdraw one, answer.
use Rattle.std.proofs.Common.{◌≡◌, ◌∙◌, ℕ, ◌+◌, ◌==◌, Bool, true, false, not, List, length, map, Option, Some, None, option_map, refl, ap, sym, subst}
use Rattle.std.specs.Option.{option_and_then}
use Rattle.std.proofs.lemmas.List.{length-map}
use Rattle.napi_types.specs.declared.body.Body.{Body}
use Rattle.napi_types.specs.declared.body.Body.TheVariants as body
use Rattle.napi_types.specs.declared.call.Call.{Call}
use Rattle.napi_types.specs.declared.call.Call.TheVariants as call
use Rattle.napi_types.specs.declared.entry.Duty.{Duty}
use Rattle.napi_types.specs.declared.entry.Out.{Out}
use Rattle.napi_types.specs.declared.entry.Out.TheVariants as out
use Rattle.napi_types.specs.declared.entry.Reply.{Reply}
use Rattle.napi_types.specs.declared.ids.HandleId.{HandleId}
use Rattle.napi_types.specs.declared.status.Status.TheVariants as status
use Rattle.napi_types.specs.plain.Replies.{Answer, accepts}
use Rattle.napi_types.specs.parts.Attachments.{Wrapped, Attached, Attachments, wrap_of, wrap_ticket, with_wrap, without_wrap, with_attached}
use Rattle.napi_types.specs.parts.Book.{Book, Registration, new_ticket, with_registration}
use Rattle.napi_types.specs.parts.Frames.{Frame, caller_of}
use Rattle.napi_types.specs.parts.Graph.{StoreState, IsSoundStore, IsLive, number_in}
use Rattle.napi_types.specs.parts.Heap.{Heap, handle_value}
use Rattle.napi_types.specs.parts.HeapChanges.{new_value}
use Rattle.napi_types.specs.parts.InstanceData.{instance_ticket, with_instance}
use Rattle.napi_types.specs.parts.References.{ReferenceMap}
use Rattle.napi_types.specs.parts.ScopeChanges.{hold_in}
use Rattle.napi_types.specs.environment.Calls.{effect}
use Rattle.napi_types.specs.environment.Changes.{issued_number, is_fresh_result}
use Rattle.napi_types.specs.environment.Environment.{Environment, in_heap}
use Rattle.napi_types.specs.environment.ExternalCalls.{attached_if}
use Rattle.napi_types.specs.environment.ReferenceCalls.{with_references}
use Rattle.napi_types.specs.environment.Refusals.{refusal_by_state}
use Rattle.napi_types.specs.environment.Registering.{finalizer_if, ticket_if, registering_if, registered_only, withdrawing}
use Rattle.napi_types.specs.environment.WrapCalls.{referring_if}
use Rattle.napi_types.proofs.plain.Maps.{All-with_record, map-with_record}
use Rattle.napi_types.proofs.plain.Lists.{length-changed}
use Rattle.napi_types.proofs.parts.Moves.{Withdraws}
use Rattle.handle_scope.specs.HandleScopes.{HandleScopes}
use Rattle.env_registry.specs.KeptRegistry.{AreOnce}
use Rattle.env_registry.proofs.Withdrawn.{ticket-withdrawn}
use Rattle.env_registry.specs.Registering.{ticket_for, with_registration_if, duty_if, withdrawn_if}
use Rattle.env_values.specs.SeenValues.{seen_frame, heap_of, KeepsValues}
use Rattle.env_core.specs.Attaching.{seen_wrap, seen_attached, attachments_seen, AreAttachedToLive, target_refusal}
use Rattle.env_core.specs.Beginning.{AreBegun}
use Rattle.env_core.specs.declared.handles.Attachable.TheVariants as takes
use Rattle.napi_reference.proofs.KeepingReferences.{AllValues-with_reference}
use Rattle.env_core.specs.Referring.{references_seen, RefersToLive, RefersIf}
use Rattle.env_core.specs.State.{AnswersInTime}
use Rattle.env_core.proofs.Attaching.{attachments-kept, seen-wrap_of, seen-with_wrap, seen-without_wrap, seen-payload, wrap-free, target-taken, timely-finalizer}
use Rattle.env_core.proofs.Beginning.{begun-registered, begun-still-moved}
use Rattle.env_core.proofs.Referring.{replied-timely, seen-with}

-- THE BOOK
-- the ticket of a finalizer that a call names
pub ticket-named : (e : Environment) (book : Book) (payload : ℕ) (entry : Option ℕ) (hint : ℕ) → ticket_for book (finalizer_if e payload entry hint) ≡ ticket_if book entry
ticket-named e book payload None hint = refl
ticket-named e book payload (Some n) hint = refl

-- WHAT HOLDS
-- a finalizer beside it
pub attached-finalized : (s : StoreState) (a : Attachments) (v : ℕ) (ticket : Option ℕ) → AreAttachedToLive s a → IsLive s v → AreAttachedToLive s (attached_if v ticket a)
attached-finalized s a v None i live = i
attached-finalized s a v (Some n) i live = record {
  wraps = i.wraps;
  tags = i.tags;
  tickets = All-with_record (λ (t : Attached). t.ticket) (record { value = v; ticket = n }) (λ t. IsLive s t.value) a.tickets live i.tickets;
}

-- the value of a weak reference is live
pub refers-live : (s : StoreState) (wanted : Bool) (v : ℕ) (m n : ReferenceMap) (o : Out) → RefersIf wanted v m o n → IsLive s v → RefersToLive s m → RefersToLive s n
refers-live s true v m n (out.Ref r) h live all = subst (RefersToLive s) (sym h.1) (AllValues-with_reference (IsLive s) r.0 v 0 m live all)
refers-live s false v m n out.Nothing h live all = subst (RefersToLive s) (sym h) all
refers-live s _ v m n _ h live all = absurd h

-- the tickets of the frames that stand have begun, also where a finalizer is registered or withdrawn besides
pub begun-asked : (frames : List Frame) (book : Book) (f : Option Registration) → AreBegun frames book → AreBegun frames (with_registration_if f book)
begun-asked frames book None begun = begun
begun-asked frames book (Some r) begun = begun-registered frames book r begun

pub begun-dropped : (frames : List Frame) (book : Book) (t : Option ℕ) → AreBegun frames book → AreBegun frames (withdrawn_if t book)
begun-dropped frames book None begun = begun
begun-dropped frames book (Some n) begun = begun-still-moved frames Withdraws (λ h. cc) book (λ m. m == n) begun

-- WHAT IS SEEN
pub seen-attached_if : (s : StoreState) (a : Attachments) (v : ℕ) (ticket : Option ℕ) → attachments_seen s (attached_if v ticket a) ≡ attached_if (number_in s v) ticket (attachments_seen s a)
seen-attached_if s a v None = refl
seen-attached_if s a v (Some n) =
    ap (λ l. record { wraps = (attachments_seen s a).wraps; tags = (attachments_seen s a).tags; tickets = l })
    (map-with_record (λ (t : Attached). t.ticket) (seen_attached s) (λ t. refl) (record { value = v; ticket = n }) a.tickets)

pub seen-refers : (s : StoreState) (wanted : Bool) (v : ℕ) (m n : ReferenceMap) (o : Out) → RefersIf wanted v m o n → RefersIf wanted (number_in s v) (references_seen s m) o (references_seen s n)
seen-refers s true v m n (out.Ref r) h = (h.0, ap (references_seen s) h.1 ∙ seen-with s r.0 v 0 m)
seen-refers s false v m n out.Nothing h = ap (references_seen s) h
seen-refers s _ v m n _ h = absurd h

-- WHAT THE MACHINE ANSWERS
-- the number of a reference is fresh
pub refers-fresh : (e : Environment) (wanted : Bool) (v : ℕ) (o : Out) (m : ReferenceMap) → RefersIf wanted v e.references o m → is_fresh_result e o ≡ true
refers-fresh e true v (out.Ref r) m h = ap not h.0
refers-fresh e false v out.Nothing m h = refl
refers-fresh e _ v _ m h = absurd h

pub referring-is : (e : Environment) (wanted : Bool) (v : ℕ) (o : Out) (m : ReferenceMap) → RefersIf wanted v e.references o m
    → referring_if wanted (issued_number o) v e ≡ accepts o (with_references m e)
referring-is e true v (out.Ref r) m h = ap (λ (x : ReferenceMap). accepts (out.Ref r) (with_references x e)) (sym h.1)
referring-is e false v out.Nothing m h = ap (λ (x : ReferenceMap). accepts out.Nothing (with_references x e)) (sym h)
referring-is e _ v _ m h = absurd h

-- the reply that tells these duties
abbrev pub told : Out → Option Duty → Option Duty → Reply
told o dropped made = record { status = status.Ok; out = o; dropped = dropped; made = made }

registering-is : (f : Option Registration) (o : Out) (e : Environment)
    → registering_if f (accepts o e) ≡ record { reply = told o None (duty_if (ticket_for e.book f)); after = record e { book = with_registration_if f e.book } }
registering-is None o e = refl
registering-is (Some r) o e = refl

withdrawing-is : (t : Option ℕ) (o : Out) (e : Environment) → withdrawing t (accepts o e) ≡ record { reply = told o (duty_if t) None; after = record e { book = withdrawn_if t e.book } }
withdrawing-is None o e = refl
withdrawing-is (Some n) o e = refl

-- one that registers, where there is something to register
registered-answers : (e mid new : Environment) (c : Call) (o : Out) (asked f : Option Registration) → refusal_by_state e c ≡ None → is_fresh_result e o ≡ true
    → effect e c (issued_number o) ≡ registering_if asked (accepts o mid) → f ≡ asked → new ≡ record mid { book = with_registration_if f mid.book }
    → AnswersInTime e c (told o None (duty_if (ticket_for mid.book f))) new
registered-answers e mid new c o asked f none fresh is same after =
    replied-timely e new c (told o None (duty_if (ticket_for mid.book f))) none fresh
    (is ∙ ap (λ x. registering_if x (accepts o mid)) (sym same) ∙ registering-is f o mid
    ∙ ap (λ (x : Environment). record { reply = told o None (duty_if (ticket_for mid.book f)); after = x }) (sym after))

-- INSTANCE DATA
-- one that registers, where there is something to register, and withdraws before, where there is something to withdraw
replacing-is : (f : Option Registration) (t : Option ℕ) (o : Out) (e : Environment)
    → registering_if f (withdrawing t (accepts o e))
    ≡ record { reply = told o (duty_if t) (duty_if (ticket_for e.book f)); after = record e { book = with_registration_if f (withdrawn_if t e.book) } }
replacing-is None None o e = refl
replacing-is None (Some n) o e = refl
replacing-is (Some r) None o e = refl
replacing-is (Some r) (Some n) o e =
    ap (λ d. record { reply = told o (duty_if (Some n)) (duty_if d); after = record e { book = with_registration r (withdrawn_if (Some n) e.book) } }) (ticket-withdrawn (Some n) e.book (Some r))

pub instance-answers : (e : Environment) (addon payload hint : ℕ) (entry : Option ℕ) (f : Option Registration) → addon ≡ caller_of e.frames → f ≡ finalizer_if e payload entry hint
    → let ticket = registered_only e.book (instance_ticket e.instances addon) in
    AnswersInTime e (call.SetInstanceData payload entry hint) (told out.Nothing (duty_if ticket) (duty_if (ticket_for e.book f)))
    (record e {
      book = with_registration_if f (withdrawn_if ticket e.book);
      instances = with_instance addon (record { payload = payload; ticket = ticket_for e.book f }) e.instances;
    })
instance-answers e addon payload hint entry f calls is =
    let caller : ℕ = caller_of e.frames in
    let asked : Option Registration = finalizer_if e payload entry hint in
    let ticket : Option ℕ = registered_only e.book (instance_ticket e.instances caller) in
    let mid : Option ℕ → Environment = λ t. record e { instances = with_instance caller (record { payload = payload; ticket = t }) e.instances } in
    rw (calls, is)
    (replied-timely e (record (mid (ticket_for e.book asked)) { book = with_registration_if asked (withdrawn_if ticket e.book) }) (call.SetInstanceData payload entry hint)
    (told out.Nothing (duty_if ticket) (duty_if (ticket_for e.book asked))) refl refl
    (ap (λ t. registering_if asked (withdrawing ticket (accepts out.Nothing (mid t)))) (sym (ticket-named e e.book payload entry hint))
    ∙ replacing-is asked ticket out.Nothing (mid (ticket_for e.book asked))))

-- WHAT IS ATTACHED
-- the environment with these attachments, these references and this book
abbrev pub attached_with : Environment → StoreState → Attachments → ReferenceMap → Book → Environment
attached_with e s a m book = record e { attachments = attachments_seen s a; references = references_seen s m; book = book }

module _ (e : Environment) (s : StoreState) (sound : IsSoundStore s) (a : Attachments) (book : Book) (i : AreAttachedToLive s a) (h : HandleId) (v : ℕ) (live : IsLive s v)
    (number : number_in s v ≡ handle_value e.heap h.0) (m : ReferenceMap) where
  abbrev here : Environment
  here = attached_with e s a m book

  abbrev named : ℕ
  named = handle_value e.heap h.0

  pub wrap-answers : (n : ReferenceMap) (payload hint : ℕ) (entry : Option ℕ) (wanted : Bool) (o : Out) (f : Option Registration) → AreOnce a
      → refusal_by_state (attached_with e s a m book) (call.Wrap h payload entry hint wanted) ≡ None → None ≡ option_map (λ (w : Wrapped). w.payload)
      (wrap_of a v)
      → f ≡ finalizer_if e payload entry hint → RefersIf wanted v m o n
      → AnswersInTime (attached_with e s a m book) (call.Wrap h payload entry hint wanted) (told o None (duty_if (ticket_for book f)))
      (attached_with e s (with_wrap v payload (ticket_for book f) a) n (with_registration_if f book))
  wrap-answers n payload hint entry wanted o f once none free is refers =
      let c = call.Wrap h payload entry hint wanted in
      let asked : Option Registration = finalizer_if e payload entry hint in
      let mid : Environment = record here { attachments = with_wrap named payload (ticket_if book entry) (attachments_seen s a) } in
      let seen : RefersIf wanted named (references_seen s m) o (references_seen s n) =
      subst (λ k. RefersIf wanted k (references_seen s m) o (references_seen s n)) number (seen-refers s wanted v m n o refers) in
      let ticket : ticket_for book f ≡ ticket_if book entry = ap (ticket_for book) is ∙ ticket-named e book payload entry hint in
      let new : Attachments = with_wrap v payload (ticket_for book f) a in
      let hung : attachments_seen s new ≡ with_wrap named payload (ticket_if book entry) (attachments_seen s a) =
      seen-with_wrap s sound a v payload (ticket_for book f) live i.wraps once.wraps (wrap-free a v free)
      ∙ ap (λ k. with_wrap k payload (ticket_for book f) (attachments_seen s a)) number ∙ ap (λ t. with_wrap named payload t (attachments_seen s a)) ticket in
      registered-answers here (with_references (references_seen s n) mid) (attached_with e s new n (with_registration_if f book)) c o asked f none
      (refers-fresh here wanted named o (references_seen s n) seen) (ap (registering_if asked) (referring-is mid wanted named o (references_seen s n) seen)) is
      (ap (λ x. record here { attachments = x; references = references_seen s n; book = with_registration_if f book }) hung)

  pub finalizer-unrefused : (payload entry hint : ℕ) (wanted : Bool) → None ≡ target_refusal takes.Objects e.heap h → refusal_by_state
      (attached_with e s a m book) (call.AddFinalizer h payload entry hint wanted) ≡ None
  finalizer-unrefused payload entry hint wanted taken =
      target-taken here (call.AddFinalizer h payload entry hint wanted) (target_refusal takes.Objects e.heap h) None None (timely-finalizer here h payload entry hint wanted) taken

  pub finalizer-answers : (n : ReferenceMap) (payload entry hint : ℕ) (wanted : Bool) (o : Out) (f : Option Registration)
      → None ≡ target_refusal takes.Objects e.heap h → f ≡ finalizer_if e payload (Some entry) hint → RefersIf wanted v m o n
      → AnswersInTime (attached_with e s a m book) (call.AddFinalizer h payload entry hint wanted) (told o None (duty_if (ticket_for book f)))
      (attached_with e s (attached_if v (ticket_for book f) a) n (with_registration_if f book))
  finalizer-answers n payload entry hint wanted o f taken is refers =
      let c = call.AddFinalizer h payload entry hint wanted in
      let asked : Option Registration = finalizer_if e payload (Some entry) hint in
      let mid : Environment = record here { attachments = with_attached named (new_ticket book) (attachments_seen s a) } in
      let seen : RefersIf wanted named (references_seen s m) o (references_seen s n) =
      subst (λ k. RefersIf wanted k (references_seen s m) o (references_seen s n)) number (seen-refers s wanted v m n o refers) in
      let new : Attachments = attached_if v (ticket_for book f) a in
      let hung : attachments_seen s new ≡ with_attached named (new_ticket book) (attachments_seen s a) =
      seen-attached_if s a v (ticket_for book f) ∙ ap (λ k. attached_if k (ticket_for book f) (attachments_seen s a)) number
      ∙ ap (λ x. attached_if named (ticket_for book x) (attachments_seen s a)) is in
      registered-answers here (with_references (references_seen s n) mid) (attached_with e s new n (with_registration_if f book)) c o asked f
      (finalizer-unrefused payload entry hint wanted taken) (refers-fresh here wanted named o (references_seen s n) seen)
      (ap (registering_if asked) (referring-is mid wanted named o (references_seen s n) seen)) is
      (ap (λ x. record here { attachments = x; references = references_seen s n; book = with_registration_if f book }) hung)

  -- WITHDRAWN
  seen-ticket : wrap_ticket (attachments_seen s a) named ≡ wrap_ticket a v
  seen-ticket =
      ap (wrap_ticket (attachments_seen s a)) (sym number) ∙ ap (λ o. option_and_then (λ (w : Wrapped). w.ticket) o) (seen-wrap_of s sound a v live i.wraps) ∙ by (wrap_of a v)
    where
      by : (o : Option Wrapped) → option_and_then (λ (w : Wrapped). w.ticket) (option_map (seen_wrap s) o) ≡ option_and_then (λ (w : Wrapped). w.ticket) o
      by None = refl
      by (Some w) = refl

  pub remove-answers : (payload : ℕ) → refusal_by_state (attached_with e s a m book) (call.RemoveWrap h) ≡ None → Some payload ≡ option_map
      (λ (w : Wrapped). w.payload) (wrap_of a v)
      → let ticket = registered_only book (wrap_ticket a v) in
      AnswersInTime (attached_with e s a m book) (call.RemoveWrap h) (told (out.Unsigned payload) (duty_if ticket) None) (attached_with e s (without_wrap v a) m (withdrawn_if ticket book))
  remove-answers payload none is =
      let found : Option ℕ = registered_only book (wrap_ticket (attachments_seen s a) named) in
      let ticket : Option ℕ = registered_only book (wrap_ticket a v) in
      let mid : Environment = record here { attachments = without_wrap named (attachments_seen s a) } in
      let bare : attachments_seen s (without_wrap v a) ≡ without_wrap named (attachments_seen s a) =
      seen-without_wrap s sound a v live i.wraps ∙ ap (λ k. without_wrap k (attachments_seen s a)) number in
      replied-timely here (attached_with e s (without_wrap v a) m (withdrawn_if ticket book)) (call.RemoveWrap h) (told (out.Unsigned payload) (duty_if ticket) None) none refl
      (ap (λ k. withdrawing found (accepts (out.Unsigned k) mid)) (sym (seen-payload e s sound a i h v live number payload is))
      ∙ ap (λ t. withdrawing t (accepts (out.Unsigned payload) mid)) (ap (registered_only book) seen-ticket)
      ∙ withdrawing-is ticket (out.Unsigned payload) mid
      ∙ ap (λ x. record { reply = told (out.Unsigned payload) (duty_if ticket) None; after = record here { attachments = x; book = withdrawn_if ticket book } }) (sym bare))

-- AN EXTERNAL
-- a new value leaves as many frames their scopes
pub given-frames : (s t : StoreState) (old new : HandleScopes) (b : Body) (o : Out) → new_value b (heap_of s old) ≡ accepts o (heap_of t new) → length new.frames ≡ length old.frames
given-frames s t old new b o gives =
    sym (length-map new.frames (seen_frame t)) ∙ sym (ap (λ (x : Answer Heap). length x.after.scopes) gives)
    ∙ length-changed (hold_in (record { handle = old.handles + 1; value = s.made + 1 })) (map (seen_frame s) old.frames) ∙ length-map old.frames (seen_frame s)

-- a finalizer is attached to a new value
pub attached-new-value : (s t : StoreState) → KeepsValues s t → (a : Attachments) → AreAttachedToLive s a → (v n : ℕ) → number_in t v ≡ s.made + 1
    → attachments_seen t (with_attached v n a) ≡ with_attached (s.made + 1) n (attachments_seen s a)
attached-new-value s t kept a i v n number =
    seen-attached_if t a v (Some n) ∙ ap (λ k. attached_if k (Some n) (attachments_seen t a)) number
    ∙ ap (attached_if (s.made + 1) (Some n)) (attachments-kept s t kept a i)

-- the call that creates one gives its handle, in the heap that it leaves
pub external-answers : (e : Environment) (s t : StoreState) (a : Attachments) (book : Book) (payload hint : ℕ) (entry : Option ℕ) (o : Out) (heap : Heap) (v : ℕ) (f : Option Registration)
    → new_value (body.External payload) e.heap ≡ accepts o heap → number_in t v ≡ e.heap.made + 1 → attachments_seen t a ≡ attachments_seen s a → f ≡ finalizer_if e payload entry hint
    → AnswersInTime (record e { attachments = attachments_seen s a; book = book }) (call.CreateExternal payload entry hint) (told o None (duty_if (ticket_for book f)))
    (record e { heap = heap; attachments = attachments_seen t (attached_if v (ticket_for book f) a); book = with_registration_if f book })
external-answers e s t a book payload hint entry o heap v f gives number kept is =
    let here : Environment = record e { attachments = attachments_seen s a; book = book } in
    let asked : Option Registration = finalizer_if e payload entry hint in
    let hung : Attachments = attached_if (e.heap.made + 1) (ticket_if book entry) (attachments_seen s a) in
    let new : Attachments = attached_if v (ticket_for book f) a in
    let seen : attachments_seen t new ≡ hung =
    seen-attached_if t a v (ticket_for book f) ∙ ap (λ k. attached_if k (ticket_for book f) (attachments_seen t a)) number
    ∙ ap (attached_if (e.heap.made + 1) (ticket_for book f)) kept
    ∙ ap (λ k. attached_if (e.heap.made + 1) k (attachments_seen s a)) (ap (ticket_for book) is ∙ ticket-named e book payload entry hint) in
    registered-answers here (record here { heap = heap; attachments = hung }) (record e { heap = heap; attachments = attachments_seen t new; book = with_registration_if f book })
    (call.CreateExternal payload entry hint) o asked f refl
    (ap (λ (x : Answer Heap). is_fresh_result e x.reply.out) (sym gives))
    (ap (λ (x : Answer Heap). registering_if asked (in_heap (record here { attachments = hung }) x)) gives) is
    (ap (λ x. record e { heap = heap; attachments = x; book = with_registration_if f book }) seen)
