-- The tickets of the frames that stand have begun, and stay so until they end.
use Rattle.std.proofs.Common.{◌≡◌, ◌≢◌, ◌∙◌, ℕ, suc, ◌==◌, Bool, true, false, cond, List, [], ◌∷◌, get_or, length, map, Option, Some, None, IfSome, option_map, refl, sym, ap, subst}
use Rattle.std.specs.List.{All, cons_option}
use Rattle.std.proofs.lemmas.List.{append-nil}
use Rattle.std.proofs.lemmas.List.Elements.{All-head, All-tail, All-cons, All-nil}
use Rattle.napi_types.specs.declared.duties.DueInfo.{DueInfo}
use Rattle.napi_types.specs.declared.entry.Cause.{Cause}
use Rattle.napi_types.specs.declared.entry.Cause.TheVariants as cause
use Rattle.napi_types.specs.declared.entry.Duty.{Duty}
use Rattle.napi_types.specs.declared.entry.Duty.TheVariants as duty
use Rattle.napi_types.specs.declared.entry.Phase.{Phase}
use Rattle.napi_types.specs.declared.entry.Phase.TheVariants as phase
use Rattle.napi_types.specs.declared.entry.Why.{Why}
use Rattle.napi_types.specs.parts.AsyncHooks.{with_begun}
use Rattle.napi_types.specs.plain.Lists.{has_number, tail}
use Rattle.napi_types.specs.parts.Book.{Book, Registration, TicketState, Registered, is_registered, is_begun, is_at, due_info, made_due, made_due_and_begun, made_ended, changed_where, moved, moved_at, with_hint, with_registration, begun_in}
use Rattle.napi_types.specs.parts.Duties.{duties_of}
use Rattle.napi_types.specs.parts.Frames.{Frame, duty_of, frame_of_duty, ask_counted, is_hub_duty}
use Rattle.napi_types.specs.parts.Graph.{StoreState, IsLive}
use Rattle.napi_types.specs.parts.Heap.{Heap}
use Rattle.napi_types.specs.parts.HeapChanges.{with_frame}
use Rattle.napi_types.specs.parts.Hooks.{Hook, last_hook, without_hook}
use Rattle.napi_types.specs.parts.Promises.{made_settled, reactions_settled}
use Rattle.napi_types.specs.parts.References.{ReferenceMap}
use Rattle.napi_types.specs.parts.Scopes.{OpenHandle, held_by_frames}
use Rattle.napi_types.specs.environment.Ends.{duty_ended, reaction_ended, without_innermost_frame, outermost_end_change}
use Rattle.napi_types.specs.environment.Environment.{Environment, TsfnRoot}
use Rattle.napi_types.specs.environment.Hooked.{is_from_finals_on, IsHooked}
use Rattle.napi_types.specs.environment.Registry.{Registry}
use Rattle.napi_types.specs.environment.Tickets.{hooks_left, ticket_change, hooks_waiting}
use Rattle.napi_types.proofs.plain.Found.{same-self}
use Rattle.napi_types.proofs.parts.Books.{length-changed_where}
use Rattle.napi_types.proofs.parts.Moved.{IsUnder, PassesTest, under-ticket, is_at-changed_where, is_at-before}
use Rattle.napi_types.proofs.parts.Moves.{Move, Ends, next, begun-moved}
use Rattle.napi_types.proofs.environment.HookedSteps.{hook-registered}
use Rattle.finalizer_queue.specs.KeptBook.{ticket_number}
use Rattle.env_registry.specs.Beginning.{LastHookBegins}
use Rattle.handle_scope.specs.HandleScopes.{HandleScopes, with_frame_scopes}
use Rattle.env_core.specs.Beginning.{HasBegun, AreBegun}
use Rattle.env_core.specs.State.{IsState, is_by_call}

-- THE BOOK CHANGES
-- every ticket that has begun is still one that has
abbrev StayBegun : Book → Book → Type 0
StayBegun old new = (n : ℕ) → is_at is_begun old n ≡ true → is_at is_begun new n ≡ true

begun-still : (old new : Book) → StayBegun old new → (d : Duty) → HasBegun old d → HasBegun new d
begun-still old new stays (duty.Ticket t) begun = stays t.0 begun
begun-still old new stays _ begun = tt

stays-begun : (frames : List Frame) (old new : Book) → StayBegun old new → AreBegun frames old → AreBegun frames new
stays-begun frames old new stays begun = λ k d inside. begun-still old new stays (get_or (duties_of frames) k d) (begun k d inside)

-- one registration more
registered-stays : (r : Registration) (book : Book) → StayBegun book (with_registration r book)
registered-stays r book n is =
    let u : IsUnder (PassesTest is_begun) book n = under-ticket is_begun book n is in is_at-before is_begun book r n u.registration u.there ∙ is

pub begun-registered : (frames : List Frame) (book : Book) (r : Registration) → AreBegun frames book → AreBegun frames (with_registration r book)
begun-registered frames book r begun = stays-begun frames book (with_registration r book) (registered-stays r book) begun

-- a move that a ticket makes, other than its end
moved-stays : (move : Move) → move ≢ Ends → (test : ℕ → Bool) (book : Book) → StayBegun book (changed_where (moved (next move)) test book)
moved-stays move goes test book n is = is_at-changed_where is_begun (moved (next move)) test book n u.registration u.there ∙ by (test n)
  where
    u : IsUnder (PassesTest is_begun) book n
    u = under-ticket is_begun book n is

    by : (b : Bool) → is_begun (cond b (moved (next move) u.registration) u.registration).state ≡ true
    by true = begun-moved move goes u.registration.state u.holds
    by false = u.holds

pub begun-still-moved : (frames : List Frame) (move : Move) → move ≢ Ends → (book : Book) (test : ℕ → Bool) → AreBegun frames book → AreBegun frames (changed_where (moved (next move)) test book)
begun-still-moved frames move goes book test begun =
    stays-begun frames book (changed_where (moved (next move)) test book) (moved-stays move goes test book) begun

-- reactions are settled
settled-stays : (state : ℕ) (tickets : List ℕ) (book : Book) → StayBegun book (reactions_settled state tickets book)
settled-stays state tickets book n is =
    is_at-changed_where is_begun (made_settled state) (λ m. has_number m tickets) book n u.registration u.there ∙ by (has_number n tickets)
  where
    u : IsUnder (PassesTest is_begun) book n
    u = under-ticket is_begun book n is

    unregistered : (s : TicketState) → is_begun s ≡ true → is_registered s ≡ false
    unregistered Registered begun = cc
    unregistered _ begun = refl

    by : (b : Bool) → is_begun (cond b (made_settled state u.registration) u.registration).state ≡ true
    by true =
        ap (λ b. is_begun (cond b (moved made_due (with_hint state u.registration)) u.registration).state) (unregistered u.registration.state u.holds) ∙ u.holds
    by false = u.holds

pub begun-settled : (frames : List Frame) (book : Book) (state : ℕ) (tickets : List ℕ) → AreBegun frames book → AreBegun frames (reactions_settled state tickets book)
begun-settled frames book state tickets begun = stays-begun frames book (reactions_settled state tickets book) (settled-stays state tickets book) begun

-- THE FRAMES CHANGE
-- one ask more
pub begun-counted : (frames : List Frame) (book : Book) → AreBegun frames book → AreBegun (ask_counted frames) book
begun-counted [] book begun = begun
begun-counted (f ∷ frames) book begun = begun

-- a frame less
less-begun : (P : Duty → Type 0) (o : Option Duty) (ds : List Duty) → All P (cons_option o ds) → All P ds
less-begun P None ds all = all
less-begun P (Some d) ds all = All-tail P d ds all

pub begun-left : (frames left : List Frame) (book : Book) → left ≡ tail frames → AreBegun frames book → AreBegun left book
begun-left frames left book is begun = let P : List Frame → Type 0 = λ fs. AreBegun fs book in subst P (sym is) (fewer frames begun)
  where
    fewer : (fs : List Frame) → AreBegun fs book → AreBegun (tail fs) book
    fewer [] all = all
    fewer (f ∷ fs) all = less-begun (HasBegun book) f.duty (duties_of fs) all

-- the only frame is gone
pub begun-none : (left : List Frame) (book : Book) → left ≡ [] → AreBegun left book
begun-none left book none = let P : List Frame → Type 0 = λ fs. AreBegun fs book in subst P (sym none) (All-nil (HasBegun book))

-- the frame of a duty that begins stands alone
begun-alone : (frames : List Frame) (book : Book) (f : Frame) (d : Duty) → frames ≡ [] → f.duty ≡ Some d → HasBegun book d → AreBegun (f ∷ frames) book
begun-alone frames book f d none of begun =
    let Q : List Duty → Type 0 = λ ds. All (HasBegun book) ds in
    let duties : duties_of (f ∷ frames) ≡ d ∷ [] = ap (λ o. cons_option o (duties_of frames)) of ∙ ap (λ fs. d ∷ duties_of fs) none in
    subst Q (sym duties) (All-cons (HasBegun book) d [] begun (All-nil (HasBegun book)))

-- that of a ticket
begun-ticket : (book : Book) (d : Duty) → is_at is_begun book (ticket_number d) ≡ true → HasBegun book d
begun-ticket book (duty.Ticket t) begun = begun
begun-ticket book _ begun = tt

pub begun-first : (frames left : List Frame) (book : Book) (f : Frame) (d : Duty) → frames ≡ [] → left ≡ f ∷ frames → f.duty ≡ Some d → is_at is_begun book (ticket_number d) ≡ true → AreBegun left book
begun-first frames left book f d none is of begun =
    let P : List Frame → Type 0 = λ fs. AreBegun fs book in
    subst P (sym is) (begun-alone frames book f d none of (begun-ticket book d begun))

-- that of a duty of the hub, of which the book tells nothing
untold : (book : Book) (d : Duty) → is_hub_duty (Some d) ≡ true → HasBegun book d
untold book (duty.Ticket t) hub = let no : ⊥ = cc in absurd no
untold book _ hub = tt

pub begun-delivered : (frames left : List Frame) (book : Book) (f : Frame) (d : Duty) → frames ≡ [] → left ≡ f ∷ frames → f.duty ≡ Some d → is_hub_duty (Some d) ≡ true → AreBegun left book
begun-delivered frames left book f d none is of hub =
    let P : List Frame → Type 0 = λ fs. AreBegun fs book in
    subst P (sym is) (begun-alone frames book f d none of (untold book d hub))

-- before `finals` the ticket of the hook that was added last is registered
pub last-registered : (e : Environment) (n : ℕ) → IsHooked e → is_from_finals_on e.phase ≡ false → Some n ≡ option_map (λ h. h.ticket) (last_hook e.hooks)
    → IsUnder (PassesTest is_registered) e.book n
last-registered e n hooked early is = by (last_hook e.hooks) refl is
  where
    by : (o : Option Hook) → last_hook e.hooks ≡ o → Some n ≡ option_map (λ h. h.ticket) o → IsUnder (PassesTest is_registered) e.book n
    by None last is = let no : ⊥ = cc in absurd no
    by (Some h) last is = under-ticket is_registered e.book n (ap (is_at is_registered e.book) (cc) ∙ hook-registered e h hooked early last)

pub last-waits : (e : Environment) → IsHooked e → is_from_finals_on e.phase ≡ false
    → IfSome (last_hook e.hooks) (λ h. is_at is_registered e.book h.ticket ≡ true)
last-waits e hooked early = by (last_hook e.hooks) refl
  where
    by : (o : Option Hook) → last_hook e.hooks ≡ o → IfSome o (λ h. is_at is_registered e.book h.ticket ≡ true)
    by None last = tt
    by (Some h) last = hook-registered e h hooked early last

-- a hook that is registered falls due and begins
hook-begins : (s : TicketState) → is_registered s ≡ true → is_begun (made_due_and_begun s) ≡ true
hook-begins Registered is = refl
hook-begins _ is = cc

pub hook-begun : (old new : Registry) (due : DueInfo) (k : LastHookBegins old due new) → is_at is_begun new.book k.ticket ≡ true
hook-begun old new due k =
    ap (λ (r : Registry). is_at is_begun r.book k.ticket) k.begun
    ∙ is_at-changed_where is_begun (moved made_due_and_begun) (λ m. m == k.ticket) old.book k.ticket k.registration k.registered
    ∙ ap (λ b. is_begun (cond b (moved made_due_and_begun k.registration) k.registration).state) (same-self k.ticket) ∙ hook-begins k.registration.state k.waits

-- the environment after the begin, by the phase
abbrev begun_as : Phase → ℕ → Registration → Environment → Environment
begun_as p n r e =
    record e {
      book = moved_at (begun_in p) n e.book;
      hooks = hooks_left p n e.hooks;
      async_hooks = hooks_waiting p n e.async_hooks;
      heap = with_frame e.heap;
      frames = frame_of_duty (due_info n r) ∷ e.frames;
    }

-- where a hook begins
abbrev hook_begun_with : ℕ → Environment → Heap → List Frame → Environment
hook_begun_with n e heap frames = record e {
  book = moved_at made_due_and_begun n e.book;
  hooks = without_hook n e.hooks;
  async_hooks = with_begun n e.async_hooks;
  heap = heap;
  frames = frames;
}

pub begun-hook : (e : Environment) (n : ℕ) (r : Registration) (heap : Heap) (frames : List Frame) (d : DueInfo) → e.phase ≡ phase.Hooks → d ≡ due_info n r → heap ≡ with_frame e.heap
    → frames ≡ frame_of_duty d ∷ e.frames
    → hook_begun_with n e heap frames ≡ (ticket_change n r e).after
begun-hook e n r heap frames d at told scoped more =
    ap (λ (h : Heap). hook_begun_with n e h frames) scoped
    ∙ ap (λ fs. hook_begun_with n e (with_frame e.heap) fs) (more ∙ ap (λ i. frame_of_duty i ∷ e.frames) told)
    ∙ sym (ap (λ p. begun_as p n r e) at)

not-by-call : (c : Cause) → c ≢ cause.Call → is_by_call c ≡ false
not-by-call cause.Call uncalled = absurd (uncalled refl)
not-by-call _ uncalled = refl

pub state-begun : {m : ReferenceMap} {rs : List TsfnRoot} (store : StoreState) (old new : HandleScopes) (frames left : List Frame) (thrown : Option ℕ) (f : Frame) → IsState store old frames thrown m rs
    → new ≡ with_frame_scopes old → left ≡ f ∷ frames → f.cause ≢ cause.Call → IsState store new left thrown m rs
state-begun store old new frames left thrown f s scopes is uncalled =
    let P : List OpenHandle → Type 0 = λ hs. All (λ (h : OpenHandle). IsLive store h.value) hs in
    rw (scopes, is) (record {
      live = subst P (sym (append-nil (held_by_frames old.frames))) s.live;
      frames = ap suc s.frames;
      calls = ap (λ bs. false ∷ bs) s.calls ∙ ap (λ b. b ∷ map (λ (g : Frame). is_by_call g.cause) frames) (sym (not-by-call f.cause uncalled));
      pending = s.pending;
      referred = s.referred;
      rooted = s.rooted;
    })

-- the duty of the innermost frame has begun, where it is none of the hub
ticket-begun : (book : Book) (d : Duty) → is_hub_duty (Some d) ≡ false → HasBegun book d → is_at is_begun book (ticket_number d) ≡ true
ticket-begun book (duty.Ticket t) local begun = begun
ticket-begun book _ local begun = let no : ⊥ = cc in absurd no

pub innermost-begun : (frames : List Frame) (book : Book) (d : Duty) → duty_of frames ≡ Some d → is_hub_duty (Some d) ≡ false → AreBegun frames book
    → is_at is_begun book (ticket_number d) ≡ true
innermost-begun [] book d has local begun = let no : ⊥ = cc in absurd no
innermost-begun (f ∷ frames) book d has local begun =
    let P : List Duty → Type 0 = λ ds. All (HasBegun book) ds in
    ticket-begun book d local (All-head (HasBegun book) d (duties_of frames) (subst P (ap (λ o. cons_option o (duties_of frames)) has) begun))

-- the book is as long once it has ended
pub length-duty : (d : Option Duty) (book : Book) → length (duty_ended d book) ≡ length book
length-duty (Some (duty.Ticket t)) book = length-changed_where (moved made_ended) (λ m. m == t.0) book
length-duty _ book = refl

-- the environment as such a frame has ended
pub left-with : (e mid new : Environment) (cut : Option Why) (d : Duty) → mid ≡ record e { pending = None } → duty_of e.frames ≡ Some d
    → new ≡ record (without_innermost_frame mid) { book = duty_ended (Some d) mid.book; promises = reaction_ended (Some d) mid.promises }
    → new ≡ (outermost_end_change cut e).after
left-with e mid new cut d cleared has is =
    is
    ∙ ap (λ (m : Environment). record (without_innermost_frame m) { book = duty_ended (Some d) m.book; promises = reaction_ended (Some d) m.promises }) cleared
    ∙ ap (λ o. record (without_innermost_frame e) { pending = None; book = duty_ended o e.book; promises = reaction_ended o e.promises }) (sym has)

pub duty-stands : (frames : List Frame) (d : Duty) → duty_of frames ≡ Some d → frames ≢ []
duty-stands [] d has = let no : ⊥ = cc in absurd no
duty-stands (f ∷ frames) d has = λ h. cc
