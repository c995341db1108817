-- A core stays one where an entry is written.
use Rattle.std.proofs.Common.{◌≡◌, ◌≤◌, ◌≢◌, ℕ, ◌+◌, ◌-◌, ◌*◌, ◌==◌, Bool, true, false, not, cond, ◌&&◌, IsTrue, List, [], ◌∷◌, ◌++◌, length, Option, Some, None, is_none, is_some, option_map, slice_get, subst, sym, ap, ◌∙◌, arith, length-append, refl, suc}
use Rattle.std.proofs.Math.Seq.{get_or-append_seam}
use Rattle.std.proofs.lemmas.Bool.{le-ltb}
use Rattle.std.proofs.lemmas.Option.{slice_get_read}
use Rattle.napi_types.specs.declared.call.Args.{Args}
use Rattle.napi_types.specs.declared.call.Call.{Call}
use Rattle.napi_types.specs.declared.call.Call.TheVariants as call
use Rattle.napi_types.specs.declared.entry.Cause.{Cause}
use Rattle.napi_types.specs.declared.entry.Cause.TheVariants as cause
use Rattle.napi_types.specs.declared.entry.Duty.{Duty}
use Rattle.napi_types.specs.declared.entry.Duty.TheVariants as duty
use Rattle.napi_types.specs.declared.entry.Entry.{Entry}
use Rattle.napi_types.specs.declared.entry.Local.{Local}
use Rattle.napi_types.specs.declared.entry.Phase.{Phase}
use Rattle.napi_types.specs.declared.entry.Phase.TheVariants as phase
use Rattle.napi_types.specs.declared.entry.Reply.{Reply}
use Rattle.napi_types.specs.declared.entry.SharedCall.{SharedCall}
use Rattle.napi_types.specs.declared.entry.Why.{Why}
use Rattle.napi_types.specs.declared.ids.HandleId.{HandleId}
use Rattle.napi_types.specs.declared.status.Status.{Status}
use Rattle.napi_types.specs.plain.CallKinds.{is_calling, is_value_call}
use Rattle.napi_types.specs.plain.Lists.{tail}
use Rattle.napi_types.specs.plain.Phases.{next_phase}
use Rattle.napi_types.specs.plain.Room.{one_if, need, is_full}
use Rattle.napi_types.specs.parts.Book.{Book, Registration, is_registered, is_due, registration_at, lowest_due, owed_tickets, made_due, moved, moved_at, begun_in, may_begin_in}
use Rattle.napi_types.specs.parts.Frames.{Frame, asks_made, caller_of, cause_of, duty_of, is_hub_duty, local_frames, ask_counted}
use Rattle.napi_types.specs.parts.Promises.{Promises}
use Rattle.napi_types.specs.parts.Hooks.{last_hook}
use Rattle.napi_types.specs.environment.Calls.{answer_unless_deep}
use Rattle.napi_types.specs.environment.Changes.{call_change, call_entry, issued_number, book_in, in_phase}
use Rattle.napi_types.specs.environment.Ends.{end_change_by, outermost_end_change, end_change}
use Rattle.napi_types.specs.environment.Entering.{is_entering, enter_change}
use Rattle.napi_types.specs.environment.Registry.{registry_of}
use Rattle.napi_types.specs.environment.Environment.{Environment}
use Rattle.napi_types.specs.environment.Hooked.{is_from_finals_on, IsHooked}
use Rattle.napi_types.specs.environment.JournalRoom.{gone_place, reserved_journal}
use Rattle.napi_types.specs.environment.Promised.{IsPromised}
use Rattle.napi_types.specs.environment.Refusals.{refusal, refusal_before_depth, depth_refusal}
use Rattle.napi_types.specs.environment.Tickets.{ticket_change, ticket_in, next_ticket}
use Rattle.napi_types.proofs.parts.BookSteps.{step-length}
use Rattle.napi_types.proofs.parts.Books.{owed-begun, lowest-due, length-changed_where}
use Rattle.napi_types.proofs.parts.Moved.{IsUnder, PassesTest}
use Rattle.napi_types.proofs.environment.AnswersKeep.{course-parts, KeepsButAsk, call_change-keeps, call-reserved, local-counted}
use Rattle.napi_types.proofs.environment.FrameChanges.{book_left, promises_after, owed-left, KeepsButFrame, ended-keeps, left-parts, KeepsAndEnters, enter_change-keeps, registry-parts}
use Rattle.napi_types.proofs.environment.HookedSteps.{hooked-called, hooked-ended, hooked-begun, hooked-phase, GivesNew, hooked-entered}
use Rattle.napi_types.proofs.environment.Promised.{still-promised, called-promised, ended-promised, entered-promised}
use Rattle.napi_types.proofs.environment.Registrations.{owed-in}
use Rattle.env_core.specs.Journal.{JournalSeen, told_entry, last_reply}
use Rattle.env_core.specs.Core.{Core, IsCore, after_change, room_in}
use Rattle.env_core.specs.State.{Calls}
use Rattle.env_core.specs.CoreSteps.{Replies, OnLastReply}
use Rattle.env_core.proofs.Beginning.{last-registered, length-duty}

-- the core of an environment and a journal, and of what is awaited
abbrev pub core_of : Environment → JournalSeen → Option SharedCall → Core
core_of e pages awaited = record { env = e; journal = pages.entries; limit = pages.limit; position = pages.position; awaited = awaited }

-- the journal with an entry more, and so many places promised
abbrev pub written : Entry → ℕ → JournalSeen → JournalSeen
written x promised pages = record pages { entries = pages.entries ++ record { at = pages.position; entry = x } ∷ []; promised = promised }

-- WHAT A CORE KEEPS
core-pushed : (old new : Environment) (pages after : JournalSeen) (x : Entry) (k : ℕ) → IsCore old pages → after ≡ written x k pages
    → k ≡ reserved_journal new → length pages.entries + 1 + k ≤ pages.limit
    → new.heap.handles ≤ old.heap.handles + 1 → length new.heap.scope_numbers ≤ length old.heap.scope_numbers + 1 → length new.references.issued ≤ length old.references.issued + 1 → new.heap.made ≤ old.heap.made + 65537
    → length new.book ≤ length old.book + 1 → length new.promises.issued ≤ length old.promises.issued + 1 → IsHooked new → IsPromised new → IsCore new after
core-pushed old new pages after x k c e promised room handles scopes references made tickets deferreds hooked fits =
    let P : JournalSeen → Type 0 = λ p. IsCore new p in
    let l : Local = record { at = pages.position; entry = x } in
    let grown : length (pages.entries ++ l ∷ []) ≡ length pages.entries + 1 = length-append pages.entries (l ∷ []) in
    subst P (sym e) (record {
      reserved = promised;
      within = omega (arith, grown, room);
      small = c.small;
      handles = omega (arith, c.handles, handles, grown);
      scopes = omega (arith, c.scopes, scopes, grown);
      references = omega (arith, c.references, references, grown);
      tickets = omega (arith, c.tickets, tickets, grown);
      values = omega (arith, c.values, made, grown);
      deferreds = omega (arith, c.deferreds, deferreds, grown);
      hooked = hooked;
      promised = fits;
    })

-- what a call keeps, by its entry
pub calls-keep : (old new : Environment) (c : Call) (x : Entry) → Calls old c x new → KeepsButAsk c old x.reply new
calls-keep old new c x calls =
    let n : ℕ = issued_number x.reply.out in
    let P : Entry → Type 0 = λ y. KeepsButAsk c old y.reply (call_change old c n).after in
    let Q : Environment → Type 0 = λ e. KeepsButAsk c old x.reply e in
    subst Q (sym calls.after) (subst P (sym calls.entry) (call_change-keeps old c n))

-- and that the hooks fit the book
pub calls-hooked : (old new : Environment) (c : Call) (x : Entry) → Calls old c x new → IsHooked old → IsHooked new
calls-hooked old new c x calls h =
    subst (λ (e : Environment). IsHooked e) (sym calls.after)
    (hooked-called old c (issued_number x.reply.out) (subst (λ (y : Entry). GivesNew old y) calls.entry calls.fresh) h)

-- and that the deferreds fit the values
pub calls-promised : (old new : Environment) (c : Call) (x : Entry) → Calls old c x new → IsPromised old → IsPromised new
calls-promised old new c x calls h =
    subst (λ (e : Environment). IsPromised e) (sym calls.after) (called-promised old c (issued_number x.reply.out) h)

-- a call of a function withdraws nothing
called-drops : (e : Environment) (receiver : Option HandleId) (f : HandleId) (args : Args) (n : ℕ) (early deep : Option Status)
    → (answer_unless_deep e (call.CallFunction receiver f args) n early deep).reply.dropped ≡ None
called-drops e receiver f args n None None = refl
called-drops e receiver f args n None (Some s) = refl
called-drops e receiver f args n (Some s) None = refl
called-drops e receiver f args n (Some s) (Some deep) = refl

pub called-places : (e : Environment) (receiver : Option HandleId) (f : HandleId) (args : Args) (x : Entry) (new : Environment) (promised : ℕ)
    → Calls e (call.CallFunction receiver f args) x new → promised + 2 - 1 - 1 + 2 * one_if (is_some x.reply.dropped) ≡ promised + 2 * one_if (is_some x.reply.made)
called-places e receiver f args x new promised calls =
    let c : Call = call.CallFunction receiver f args in
    let places : 1 + 2 * one_if (is_some x.reply.made) ≤ 2 = (calls-keep e new c x calls).makes.places in
    let drops : x.reply.dropped ≡ None =
    ap (λ (y : Entry). y.reply.dropped) calls.entry ∙ called-drops e receiver f args (issued_number x.reply.out) (refusal_before_depth e c)
    (depth_refusal e.frames c) in
    let none : one_if (is_some x.reply.dropped) ≡ 0 = ap (λ o. one_if (is_some o)) drops in
    omega (arith, places, none)

-- a duty that is made has places for its frame, and one that is withdrawn had them
pub record KeepsPlaces (promised : ℕ) (c : Call) (r : Reply) : Type 0 where
  pub made : 1 + 2 * one_if (is_some r.made) ≤ need c
  pub dropped : 2 * one_if (is_some r.dropped) ≤ promised + 2 * one_if (is_some r.made)

pub places-kept : (old new : Environment) (pages : JournalSeen) (c : Call) (r : Reply) → IsCore old pages → KeepsButAsk c old r new
    → KeepsPlaces pages.promised c r
places-kept old new pages c r core k =
    let law : reserved_journal new + 2 * one_if (is_some r.dropped) ≡ reserved_journal old + 2 * one_if (is_some r.made) = call-reserved old c r new k in
    record { made = k.makes.places; dropped = omega (arith, law, core.reserved) }

pub core-call_change : (old new : Environment) (pages after : JournalSeen) (c : Call) (x : Entry) (n : ℕ) → IsCore old pages → KeepsButAsk c old x.reply new
    → IsHooked new → IsPromised new
    → length pages.entries + pages.promised + need c ≤ pages.limit
    → n + 2 * one_if (is_some x.reply.dropped) ≡ pages.promised + 2 * one_if (is_some x.reply.made) → after ≡ written x n pages → IsCore new after
core-call_change old new pages after c x n core k hooked fits room left e =
    let law : reserved_journal new + 2 * one_if (is_some x.reply.dropped) ≡ reserved_journal old + 2 * one_if (is_some x.reply.made) = call-reserved old c x.reply new k in
    let places : 1 + 2 * one_if (is_some x.reply.made) ≤ need c = k.makes.places in
    core-pushed old new pages after x n core e (omega (arith, law, left, core.reserved)) (omega (arith, left, places, room)) k.heap.handles k.heap.scopes k.references k.heap.made
    (step-length (caller_of old.frames) old.book x.reply.made x.reply.dropped new.book k.book) k.deferreds hooked fits

-- a call of a function that is accepted fills one place by the begin of its frame, and keeps one for the end
reserved-entered : (old new : Environment) (f : HandleId) → KeepsAndEnters old new f → reserved_journal new ≡ reserved_journal old + 1
reserved-entered old new f k =
    let course = course-parts old new k.course in
    let book : new.book ≡ old.book = (registry-parts (registry_of old) new k.registry).book in
    let counted : length (local_frames (ask_counted old.frames)) ≡ length (local_frames old.frames) = local-counted old.frames in
    let more : length (local_frames new.frames) ≡ suc (length (local_frames (ask_counted old.frames))) = ap (λ fs. length (local_frames fs)) k.frames in
    rw (course.opened, course.phase, course.addons, course.inits, book) (omega (arith, counted, more))

pub core-entered : (old new : Environment) (pages after : JournalSeen) (x : Entry) (receiver : Option HandleId) (f : HandleId) (args : Args) → IsCore old pages
    → new ≡ (enter_change receiver f args old).after → length pages.entries + pages.promised + 2 ≤ pages.limit → after ≡ written x (pages.promised + 2 - 1) pages
    → IsCore new after
core-entered old new pages after x receiver f args c is room e =
    let K : Environment → Type 0 = λ s. KeepsAndEnters old s f in
    let k : KeepsAndEnters old new f = subst K (sym is) (enter_change-keeps receiver f args old) in
    let registry = registry-parts (registry_of old) new k.registry in
    let reserved : reserved_journal new ≡ reserved_journal old + 1 = reserved-entered old new f k in
    core-pushed old new pages after x (pages.promised + 2 - 1) c e (omega (arith, reserved, c.reserved)) (omega (arith, room)) k.handles
    (omega (arith, ap length k.scope_numbers)) (omega (arith, ap (λ m. length m.issued) k.references)) (omega (arith, k.made))
    (omega (arith, ap length registry.book)) (omega (arith, ap (λ (p : Promises). length p.issued) registry.promises))
    (subst (λ (s : Environment). IsHooked s) (sym is) (hooked-entered receiver f args old c.hooked))
    (subst (λ (s : Environment). IsPromised s) (sym is) (entered-promised receiver f args old c.promised))

-- the innermost frame, which no duty of the hub began, is one of those whose end stands in the journal
length-left : (fs : List Frame) → fs ≢ [] → is_hub_duty (duty_of fs) ≡ false → length (local_frames (tail fs)) + 1 ≡ length (local_frames fs)
length-left [] h local = absurd (h refl)
length-left (f ∷ fs) h local = by (is_hub_duty f.duty) local
  where
    by : (b : Bool) → b ≡ false → length (local_frames fs) + 1 ≡ length (cond (not b) (f ∷ local_frames fs) (local_frames fs))
    by true local = let no : ⊥ = cc in absurd no
    by false local = omega arith

length-book_left : (c : Cause) (d : Option Duty) (book : Book) → length (book_left c d book) ≡ length book
length-book_left cause.Call d book = refl
length-book_left _ d book = length-duty d book

-- no deferred is made
issued-after : (c : Cause) (d : Option Duty) (p : Promises) → (promises_after c d p).issued ≡ p.issued
issued-after cause.Call d p = refl
issued-after _ (Some (duty.Ticket t)) p = refl
issued-after _ (Some (duty.Work n)) p = refl
issued-after _ (Some (duty.Item f n)) p = refl
issued-after _ (Some (duty.Function f)) p = refl
issued-after _ None p = refl

-- a frame that no call began ends as an outermost one
pub end-outermost : (v : Option HandleId) (cut : Option Why) (e : Environment) (c : Cause) → c ≢ cause.Call → end_change_by v cut e c ≡ outermost_end_change cut e
end-outermost v cut e cause.Call uncalled = absurd (uncalled refl)
end-outermost v cut e _ uncalled = refl

-- the end of a frame that no duty of the hub began fills its place
reserved-ended : (old new : Environment) → old.frames ≢ [] → is_hub_duty (duty_of old.frames) ≡ false → KeepsButFrame old new → reserved_journal new + 1 ≡ reserved_journal old
reserved-ended old new stands local k =
    let left : length (local_frames (tail old.frames)) + 1 ≡ length (local_frames old.frames) = length-left old.frames stands local in
    let owed : owed_tickets (book_left (cause_of old.frames) (duty_of old.frames) old.book) ≡ owed_tickets old.book = owed-left (cause_of old.frames) (duty_of old.frames) old.book in
    let course = course-parts old new k.course in
    let book : new.book ≡ book_left (cause_of old.frames) (duty_of old.frames) old.book = (left-parts old new k).book in
    rw (course.opened, course.phase, course.addons, course.inits, k.frames, book) (omega (arith, left, owed))

pub core-ended : (old new : Environment) (pages after : JournalSeen) (x : Entry) (v : Option HandleId) (cut : Option Why) → IsCore old pages → old.frames ≢ []
    → is_hub_duty (duty_of old.frames) ≡ false → new ≡ (end_change v cut old).after → after ≡ written x (pages.promised - 1) pages → IsCore new after
core-ended old new pages after x v cut c stands local h e =
    let K : Environment → Type 0 = λ s. KeepsButFrame old s in
    let k : KeepsButFrame old new = subst K (sym h) (ended-keeps v cut old) in
    let fewer : reserved_journal new + 1 ≡ reserved_journal old = reserved-ended old new stands local k in
    core-pushed old new pages after x (pages.promised - 1) c e (omega (arith, fewer, c.reserved)) (omega (arith, fewer, c.reserved, c.within))
    k.handles (omega (arith, ap length k.scope_numbers)) (omega (arith, ap (λ m. length m.issued) k.references)) (omega (arith, k.made))
    (omega (arith, ap length (left-parts old new k).book, length-book_left (cause_of old.frames) (duty_of old.frames) old.book))
    (omega (
      arith,
      ap (λ (p : Promises). length p.issued) (left-parts old new k).promises,
      ap length (issued-after (cause_of old.frames) (duty_of old.frames) old.promises),
    ))
    (subst (λ (s : Environment). IsHooked s) (sym h) (hooked-ended v cut old c.hooked))
    (subst (λ (s : Environment). IsPromised s) (sym h) (ended-promised v cut old c.promised))

-- THE FRAME OF A TICKET
-- a ticket that begins had two places, and its begin fills one
pub reserved-begun : (old new : Environment) (n : ℕ) (r : Registration) → registration_at old.book n ≡ Some r → may_begin_in old.phase r.state ≡ true → new ≡ (ticket_change n r old).after
    → reserved_journal new + 1 ≡ reserved_journal old
reserved-begun old new n r there may is =
    let owed : owed_tickets (moved_at (begun_in old.phase) n old.book) + 1 ≡ owed_tickets old.book = owed-begun old.phase n old.book r there may in
    rw is (omega (arith, owed))

-- the ticket that is next has come so far that it may begin
pub next-may : (e : Environment) (n : ℕ) (r : Registration) → IsHooked e → next_ticket e ≡ Some n → registration_at e.book n ≡ Some r → may_begin_in e.phase r.state ≡ true
next-may e n r hooked next there = by e.phase refl next
  where
    due : lowest_due e.book ≡ Some n → is_due r.state ≡ true
    due lowest =
        let d : IsUnder (PassesTest is_due) e.book n = lowest-due e.book n lowest in
        let same : r ≡ d.registration = cc in
        ap (λ (q : Registration). is_due q.state) same ∙ d.holds

    hook : e.phase ≡ phase.Hooks → option_map (λ h. h.ticket) (last_hook e.hooks) ≡ Some n → is_registered r.state ≡ true
    hook at is =
        let u : IsUnder (PassesTest is_registered) e.book n = last-registered e n hooked (ap is_from_finals_on at) (sym is) in
        let same : r ≡ u.registration = cc in
        ap (λ (q : Registration). is_registered q.state) same ∙ u.holds

    by : (p : Phase) → e.phase ≡ p → ticket_in e p ≡ Some n → may_begin_in p r.state ≡ true
    by phase.Live at is = due is
    by phase.Hooks at is = hook at is
    by phase.Finals at is = due is
    by _ at is = cc

pub core-begun : (old new : Environment) (pages after : JournalSeen) (x : Entry) (n : ℕ) (r : Registration) → IsCore old pages → next_ticket old ≡ Some n
    → registration_at old.book n ≡ Some r
    → new ≡ (ticket_change n r old).after → after ≡ written x (pages.promised - 1) pages → IsCore new after
core-begun old new pages after x n r c next there is e =
    let may : may_begin_in old.phase r.state ≡ true = next-may old n r c.hooked next there in
    let fewer : reserved_journal new + 1 ≡ reserved_journal old = reserved-begun old new n r there may is in
    core-pushed old new pages after x (pages.promised - 1) c e (omega (arith, fewer, c.reserved)) (omega (arith, fewer, c.reserved, c.within))
    (omega (arith, ap (λ (s : Environment). s.heap.handles) is)) (omega (arith, ap (λ (s : Environment). length s.heap.scope_numbers) is))
    (omega (arith, ap (λ (s : Environment). length s.references.issued) is)) (omega (arith, ap (λ (s : Environment). s.heap.made) is))
    (omega (arith, ap (λ (s : Environment). length s.book) is, length-changed_where (moved (begun_in old.phase)) (λ m. m == n) old.book))
    (omega (arith, ap (λ (s : Environment). length s.promises.issued) is))
    (subst (λ (s : Environment). IsHooked s) (sym is) (hooked-begun n r old there may c.hooked))
    (subst (λ (s : Environment). IsPromised s) (sym is) (still-promised old (ticket_change n r old).after refl refl c.promised))

-- A PHASE STARTS
length-in : (p : Phase) (book : Book) → length (book_in p book) ≡ length book
length-in phase.Finals book = length-changed_where (moved made_due) (λ n. true) book
length-in _ book = refl

one-place : (p : Phase) → p ≢ phase.Gone → gone_place p ≡ 1
one-place phase.Gone stays = absurd (stays refl)
one-place _ stays = refl

goes-on : (p q : Phase) → next_phase p ≡ Some q → gone_place p ≡ 1
goes-on phase.Gone q next = let no : ⊥ = cc in absurd no
goes-on _ q next = refl

-- the phases before the last owe the same places
pub core-phase : (old new : Environment) (pages after : JournalSeen) (p : Phase) (n : ℕ) → IsCore old pages → next_phase old.phase ≡ Some p → p ≢ phase.Gone
    → new ≡ in_phase p old
    → after ≡ record pages { position = n } → IsCore new after
core-phase old new pages after p n c next stays is e =
    let places : gone_place p ≡ gone_place old.phase = one-place p stays ∙ sym (goes-on old.phase p next) in
    let same : reserved_journal (in_phase p old) ≡ reserved_journal old = rw (places, owed-in p old.book) refl in
    rw (is, e) (record {
      reserved = c.reserved ∙ sym same;
      within = c.within;
      small = c.small;
      handles = c.handles;
      scopes = c.scopes;
      references = c.references;
      tickets = omega (arith, c.tickets, length-in p old.book);
      values = c.values;
      deferreds = c.deferreds;
      hooked = hooked-phase p old next c.hooked;
      promised = still-promised old (in_phase p old) refl refl c.promised;
    })

-- WHAT A STEP TELLS
-- a call on values needs the place of its entry alone
pub value-need : (c : Call) → is_value_call c ≡ true → need c ≡ 1
value-need (call.CreateExternal payload finalizer hint) h = cc
value-need (call.Wrap object payload finalizer hint wanted) h = cc
value-need (call.AddFinalizer object payload entry hint wanted) h = cc
value-need (call.CallFunction receiver f args) h = cc
value-need (call.SetInstanceData payload finalizer hint) h = cc
value-need (call.AddEnvCleanupHook entry argument) h = cc
value-need (call.AddAsyncCleanupHook entry argument) h = cc
value-need (call.AddReaction promise entry payload) h = cc
value-need (call.CreateExternalArraybuffer size payload entry hint) h = cc
value-need (call.QueueAsyncWork work) h = cc
value-need (call.CreateThreadsafeFunction f entry most first finalizer context) h = cc
value-need (call.CallThreadsafeFunction f payload mode) h = cc
value-need _ h = refl

pub other-at-once : (e : Environment) (c : Call) → is_calling c ≡ false → is_entering e c ≡ false
other-at-once e c h = ap (λ b. b && is_none (refusal e c)) h

-- a call fits where its places were promised
pub fits-in : (e : Environment) (pages : JournalSeen) (a : Option SharedCall) (c : Call) (n : ℕ) → IsCore e pages → need c ≡ n
    → length pages.entries + pages.promised + n ≤ pages.limit
    → is_full (room_in (core_of e pages a)) c ≡ false
fits-in e pages a c n k same room =
    le-ltb pages.limit (length pages.entries + reserved_journal e + need c) (omega (arith, k.reserved, same, room))

pub never-full : {X : Type 0} (b : Bool) → b ≡ false → IsTrue b → X
never-full true h t = cc
never-full false h t = cc

after_change-as : (env new : Environment) (pages after : JournalSeen) (a : Option SharedCall) (x : Entry) (k : ℕ) → after ≡ written x k pages
    → core_of new after a ≡ after_change (record { entry = x; after = new }) (core_of env pages a)
after_change-as env new pages after a x k e = ap (λ p. core_of new p a) e

-- a reply is the machine's answer
pub replied : (env new : Environment) (pages after : JournalSeen) (a : Option SharedCall) (c : Call) (x : Entry) (k : ℕ) → after ≡ written x k pages
    → is_entering env c ≡ false
    → is_full (room_in (core_of env pages a)) c ≡ false → Calls env c x new → Replies (core_of env pages a) c x.reply (core_of new after a)
replied env new pages after a c x k e once fits calls = record {
  at_once = once;
  fits = fits;
  fresh = calls.fresh;
  answer = ap (λ (y : Entry). y.reply) calls.entry;
  after =
      after_change-as env new pages after a x k e
      ∙ ap (λ y. after_change (record { entry = y; after = new }) (core_of env pages a)) calls.entry
      ∙ ap (λ s. after_change (record { entry = (call_change env c (issued_number x.reply.out)).entry; after = s }) (core_of env pages a)) calls.after;
}

-- the entry of a call, where it tells how many frames stand and the number of the ask
pub written-call : (e : Environment) (depth step : ℕ) (c : Call) (r : Reply) (k : ℕ) (pages : JournalSeen) → depth ≡ length e.frames → step ≡ asks_made e.frames
    → written (told_entry depth step c r) k pages ≡ written (call_entry e c r) k pages
written-call e depth step c r k pages d s = rw (d, s) refl

-- the reply of the entry that was written last
last-one : (xs : List Local) (x : Local) → slice_get (xs ++ x ∷ []) (length (xs ++ x ∷ []) - 1) ≡ Some x
last-one xs x =
    let long : length (xs ++ x ∷ []) ≡ length xs + 1 = length-append xs (x ∷ []) in
    ap (slice_get (xs ++ x ∷ [])) (omega (arith, long))
    ∙ slice_get_read (xs ++ x ∷ []) (length (xs ++ x ∷ [])) (length xs) x refl (omega (arith, long)) (sym (get_or-append_seam xs x [] x))

pub last-written : (pages after : JournalSeen) (x : Entry) (k : ℕ) → after ≡ written x k pages → last_reply after.entries ≡ Some x.reply
last-written pages after x k e =
    ap (λ (p : JournalSeen). last_reply p.entries) e ∙ ap (λ (o : Option Local). option_map (λ l. l.entry.reply) o)
    (last-one pages.entries (record { at = pages.position; entry = x }))

-- the reply of the journal's last entry is the machine's answer
pub replied-last : (env new : Environment) (pages after : JournalSeen) (a : Option SharedCall) (c : Call) (x : Entry) (k : ℕ) → after ≡ written x k pages
    → is_entering env c ≡ false
    → is_full (room_in (core_of env pages a)) c ≡ false → Calls env c x new → OnLastReply after.entries (λ r. Replies (core_of env pages a) c r (core_of new after a))
replied-last env new pages after a c x k e once fits calls =
    rw (last-written pages after x k e) (replied env new pages after a c x k e once fits calls)
