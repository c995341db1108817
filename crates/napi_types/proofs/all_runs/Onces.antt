-- Each ticket that is made begins once or is withdrawn, by an account of its places over every run.
use Rattle.std.proofs.Common.{◌≡◌, ◌∙◌, ℕ, zero, suc, ◌+◌, ◌≤◌, ◌==◌, Bool, true, false, cond, not, ◌&&◌, List, [], ◌∷◌, ◌++◌, length, length-append, slice_get, IsTrue, refl, ap, sym, subst, Option, Some, None, option_map, is_some, arith}
use Rattle.std.specs.List.{range_with_len}
use Rattle.std.proofs.lemmas.Bool.{eqb-true}
use Rattle.std.proofs.lemmas.List.Sums.{sum_by-cons}
use Rattle.std.proofs.lemmas.Option.{slice_get_past}
use Rattle.napi_types.specs.declared.call.Ask.{Ask}
use Rattle.napi_types.specs.declared.call.Call.{Call}
use Rattle.napi_types.specs.declared.entry.Cause.{Cause}
use Rattle.napi_types.specs.declared.entry.Cause.TheVariants as cause
use Rattle.napi_types.specs.declared.entry.Duty.{Duty}
use Rattle.napi_types.specs.declared.entry.Duty.TheVariants as duty
use Rattle.napi_types.specs.declared.entry.Entry.{Entry}
use Rattle.napi_types.specs.declared.entry.HostStep.TheVariants as host
use Rattle.napi_types.specs.declared.entry.Out.{Out}
use Rattle.napi_types.specs.declared.entry.Out.TheVariants as out
use Rattle.napi_types.specs.declared.entry.Phase.{Phase}
use Rattle.napi_types.specs.declared.entry.Phase.TheVariants as phase
use Rattle.napi_types.specs.declared.entry.Why.{Why}
use Rattle.napi_types.specs.declared.ids.HandleId.{HandleId}
use Rattle.napi_types.specs.plain.Entries.{host_entry, begun_duty}
use Rattle.napi_types.specs.plain.Lists.{has_number}
use Rattle.napi_types.specs.plain.Room.{one_if, is_full}
use Rattle.napi_types.specs.parts.Book.{Book, Registration, TicketState, is_registered, is_owed, is_at, made_due, made_withdrawn, made_ended, changed_where, moved, moved_at, due_where, registration_at, owed_tickets, ticket_duty, new_ticket, with_registration, begun_in, may_begin_in}
use Rattle.napi_types.specs.parts.Frames.{caller_of, cause_of, duty_of, is_hub_duty}
use Rattle.napi_types.specs.parts.Promises.{made_settled, reactions_settled}
use Rattle.napi_types.specs.environment.Changes.{Change, may_call, book_in}
use Rattle.napi_types.specs.environment.Ends.{duty_ended, end_change}
use Rattle.napi_types.specs.environment.Entering.{enter_change, asked_change}
use Rattle.napi_types.specs.environment.Environment.{Environment}
use Rattle.napi_types.specs.environment.Registry.{registry_of}
use Rattle.napi_types.specs.environment.SharedCalls.{shared_entry}
use Rattle.napi_types.specs.hub.Hub.{Hub}
use Rattle.napi_types.specs.hub.HubMoves.{HubMove, Delivers, Closes, Finishes}
use Rattle.napi_types.specs.hub.HubEvents.{delivery_entry}
use Rattle.napi_types.specs.hub.HubSteps.{hub_step}
use Rattle.napi_types.specs.runs.CallRoom.{room_of}
use Rattle.napi_types.specs.runs.Machine.{Machine}
use Rattle.napi_types.specs.runs.Run.{IsNext, IsRunBy, after, final}
use Rattle.napi_types.specs.runs.Setting.{Setting, EndsBy, opening_of, final_of}
use Rattle.napi_types.specs.runs.Step.{Step, move_step, has_room, step}
use Rattle.napi_types.specs.all_runs.Counts.{is_duty, made, dropped, begun}
use Rattle.napi_types.specs.all_runs.Laws.{TicketsAreCounted}
use Rattle.napi_types.specs.all_runs.Order.{made_ticket, tickets_made}
use Rattle.napi_types.proofs.plain.Conditions.{and-right}
use Rattle.napi_types.proofs.parts.BookSteps.{BookStep, stays, adds, drops, collects, settles, swaps}
use Rattle.napi_types.proofs.parts.Books.{owed-cons, Leaves, withdrawn-leaves, leaves-in, due-keeps, ended-keeps, settled-keeps, length-changed_where}
use Rattle.napi_types.proofs.parts.Moved.{registration_at-changed_where, registration_at-new, registration_at-old}
use Rattle.napi_types.proofs.environment.AnswersKeep.{call_change-keeps}
use Rattle.napi_types.proofs.environment.FrameChanges.{book_left, ended-keeps as end_change-keeps, left-parts, enter_change-keeps, registry-parts}
use Rattle.napi_types.proofs.environment.Cases.{asked-by, ended-by}
use Rattle.napi_types.proofs.hub.HubDuties.{OfHub, SparesTickets, hub_step-spares}
use Rattle.napi_types.proofs.runs.SharedSteps.{StandsStill, shares-still}
use Rattle.napi_types.proofs.runs.StepCases.{StepCase, calls, ends, begins, shares, leaves, passes, moves, others, event_before}
use Rattle.napi_types.proofs.all_runs.Orderly.{Orderly, orderly-opens, next-case, along-orderly}
use Rattle.napi_types.proofs.all_runs.Rooms.{none-left}
use Rattle.napi_types.proofs.environment.TornBooks.{tells}

-- WHAT A STEP DOES
-- the ways in which an entry that makes, withdraws and begins these tickets changes the book
pub data TicketStep (b : Book) : Option Duty → Option Duty → Option Duty → Book → Type 0 where
  called : (addon : ℕ) (made dropped : Option Duty) (c : Book) → BookStep addon b made dropped c → TicketStep b made dropped None c
  began : (p : Phase) (n : ℕ) (r : Registration) (c : Book) → registration_at b n ≡ Some r → may_begin_in p r.state ≡ true → c ≡ moved_at (begun_in p) n b
      → TicketStep b None None (Some (ticket_duty n)) c
  ended : (n : ℕ) (c : Book) → c ≡ moved_at made_ended n b → TicketStep b None None None c

-- the same of an entry that makes, withdraws and begins these duties, tickets or not: those of the hub change nothing of the book
data DutyStep (b : Book) : Option Duty → Option Duty → Option Duty → Book → Type 0 where
  of_tickets : (made dropped begun : Option Duty) (c : Book) → TicketStep b made dropped begun c → DutyStep b made dropped begun c
  of_hub : (made begun : Option Duty) (c : Book) → OfHub made → OfHub begun → c ≡ b → DutyStep b made None begun c

abbrev pub EntryTickets : Book → Entry → Book → Type 0
EntryTickets b x c = TicketStep b x.reply.made x.reply.dropped (begun_duty x.what x.reply.out) c

abbrev EntryDuties : Book → Entry → Book → Type 0
EntryDuties b x c = DutyStep b x.reply.made x.reply.dropped (begun_duty x.what x.reply.out) c

tickets-alone : (b : Book) (x : Entry) (c : Book) → EntryTickets b x c → EntryDuties b x c
tickets-alone b x c s = of_tickets x.reply.made x.reply.dropped (begun_duty x.what x.reply.out) c s

pub nothing : (b c : Book) → c ≡ b → TicketStep b None None None c
nothing b c same = called 0 None None c (stays c same)

-- a phase starts
phase-is : (p : Phase) (b : Book) → TicketStep b None None None (book_in p b)
phase-is phase.Finals b = called 0 None None _ (collects (λ n. true) _ refl)
phase-is _ b = nothing b b refl

passed-is : (p : Phase) (o : Out) (b : Book) → EntryTickets b (host_entry (event_before p) o) (book_in p b)
passed-is phase.Init o b = phase-is phase.Init b
passed-is p o b = phase-is p b

-- the end of a frame
duty-is : (d : Option Duty) (b : Book) → TicketStep b None None None (duty_ended d b)
duty-is (Some (duty.Ticket t)) b = ended t.0 _ refl
duty-is _ b = nothing b b refl

pub end-is : (v : Option HandleId) (cut : Option Why) (e : Environment) → EntryTickets e.book (end_change v cut e).entry (end_change v cut e).after.book
end-is v cut e =
    let none : TicketStep e.book None None None e.book = nothing e.book e.book refl in
    ended-by v cut e (λ why d. EntryTickets e.book d.entry d.after.book) (λ w. none) (λ p. none) none (duty-is (duty_of e.frames) e.book)

-- that of the hub's own frames ends no ticket
hub-ended : (d : Option Duty) (b : Book) → is_hub_duty d ≡ true → duty_ended d b ≡ b
hub-ended (Some (duty.Ticket t)) b ours = cc
hub-ended _ b ours = refl

hub-left : (c : Cause) (d : Option Duty) (b : Book) → is_hub_duty d ≡ true → book_left c d b ≡ b
hub-left cause.Call d b ours = refl
hub-left _ d b ours = hub-ended d b ours

-- a call
pub asked-is : (e : Environment) (c : Call) (n : ℕ) → EntryTickets e.book (asked_change e c n).entry (asked_change e c n).after.book
asked-is e c n =
    asked-by e c n (λ d. EntryTickets e.book d.entry d.after.book) (called (caller_of e.frames) _ _ _ (call_change-keeps e c n).book)
    (λ receiver f args none.
    nothing _ _ (registry-parts (registry_of e) (enter_change receiver f args e).after (enter_change-keeps receiver f args e).registry).book)

-- an entry of the hub
hub-is : (b : Book) (h : Hub) (x : Entry) (c : Book) → IsTrue (hub_step h x).may → c ≡ b → EntryDuties b (hub_step h x).entry c
hub-is b h x c may same =
    let y : Entry = (hub_step h x).entry in
    let spares : SparesTickets y = hub_step-spares h x may in
    subst (λ d. DutyStep b y.reply.made d (begun_duty y.what y.reply.out) c) (sym spares.dropped)
    (of_hub y.reply.made (begun_duty y.what y.reply.out) c spares.made spares.begun same)

still-is : (m n : Machine) → StandsStill m n → n.env.book ≡ m.env.book
still-is m n still = (registry-parts (registry_of m.env) n.env still.registry).book

move-is : (m : Machine) (move : HubMove) → IsTrue (move_step m move).may → EntryDuties m.env.book (move_step m move).entry (move_step m move).after.env.book
move-is m (Delivers d) may = hub-is m.env.book m.hub (delivery_entry d) m.env.book may refl
move-is m (Closes n) may = hub-is m.env.book m.hub (host_entry host.CloseTsfn (out.Function (record { 0 = n }))) m.env.book may refl
move-is m (Finishes n) may = hub-is m.env.book m.hub (host_entry host.FinishTsfn (out.Function (record { 0 = n }))) m.env.book may refl

-- EACH STEP
step-is : (m : Machine) (s : Step) → StepCase m s → IsTrue s.may → EntryDuties m.env.book s.entry s.after.env.book
step-is m s (calls c n may alone) ok = tickets-alone m.env.book s.entry s.after.env.book (asked-is m.env c n)
step-is m s (ends v cut may alone) ok = tickets-alone m.env.book s.entry s.after.env.book (end-is v cut m.env)
step-is m s (begins n r there next may) ok = tickets-alone m.env.book s.entry s.after.env.book (began m.env.phase n r s.after.env.book there may refl)
step-is m s (shares c o shared answers) ok =
    hub-is m.env.book m.hub (shared_entry m.env c o) s.after.env.book
    (and-right (may_call m.env && not (is_full (room_of m c) c)) (hub_step m.hub (shared_entry m.env c o)).may ok) (still-is m s.after (shares-still m c o))
step-is m s (leaves v cut may ours) ok =
    let c : Change = end_change v cut m.env in
    hub-is m.env.book m.hub c.entry c.after.book (and-right may (hub_step m.hub c.entry).may ok)
    ((left-parts m.env c.after (end_change-keeps v cut m.env)).book ∙ hub-left (cause_of m.env.frames) (duty_of m.env.frames) m.env.book ours)
step-is m s (passes p o q) ok =
    tickets-alone m.env.book s.entry s.after.env.book
    (subst (λ y. EntryTickets m.env.book y (book_in p m.env.book)) (sym q.entry) (passed-is p o m.env.book))
step-is m s (moves move next moving alone) ok = move-is m move ok
step-is m s (others x other) ok = hub-is m.env.book m.hub x m.env.book (and-right (has_room m x.what) (hub_step m.hub x).may ok) refl
step-is m s _ ok = tickets-alone m.env.book s.entry s.after.env.book (nothing m.env.book m.env.book refl)

next-is : (m : Machine) (a : Ask) (x : Entry) → Orderly m → IsNext m a x → EntryDuties m.env.book x (after m a x).env.book
next-is m a x h next =
    subst (λ (y : Entry). EntryDuties m.env.book y (after m a x).env.book) (sym next.0) (step-is m (step m a x) (next-case m a x h next) next.1)

-- THE ACCOUNT OF A TICKET
-- 1 where a test holds
abbrev pub as_one : Bool → ℕ
as_one b = cond b 1 0

-- 1 where the ticket was given, and 1 where its frame is still to come
abbrev pub given_at : ℕ → Book → ℕ
given_at t b = as_one (is_some (registration_at b t))

abbrev pub owed_at : ℕ → Book → ℕ
owed_at t b = as_one (is_at is_owed b t)

-- 1 where it is this ticket's duty
abbrev one_if_ticket : ℕ → Option Duty → ℕ
one_if_ticket t d = as_one (is_duty (ticket_duty t) d)

-- a step gives the ticket that it makes; the frame of one that is made is to come, until it begins or is withdrawn
record Account (t : ℕ) (b : Book) (made dropped begun : Option Duty) (c : Book) : Type 0 where
  pub given : given_at t c ≡ given_at t b + one_if_ticket t made
  pub owed : owed_at t c + one_if_ticket t begun + one_if_ticket t dropped ≡ owed_at t b + one_if_ticket t made

-- a change of registrations gives no ticket
given-changed : (change : Registration → Registration) (test : ℕ → Bool) (t : ℕ) (b : Book) → given_at t (changed_where change test b) ≡ given_at t b
given-changed change test t b = ap (λ (o : Option Registration). as_one (is_some o)) (registration_at-changed_where change test b t) ∙ by (registration_at b t)
  where
    by : (o : Option Registration) → as_one (is_some (option_map (λ r. cond (test t) (change r) r) o)) ≡ as_one (is_some o)
    by None = refl
    by (Some r) = refl

-- a change that keeps whether a frame is to come
owed-kept : (change : Registration → Registration) → ((r : Registration) → is_owed (change r).state ≡ is_owed r.state) → (test : ℕ → Bool) (t : ℕ) (b : Book)
    → owed_at t (changed_where change test b) ≡ owed_at t b
owed-kept change keeps test t b =
    ap (λ (o : Option Registration). as_one (tells is_owed o)) (registration_at-changed_where change test b t) ∙ by (test t) (registration_at b t)
  where
    by : (here : Bool) (o : Option Registration) → as_one (tells is_owed (option_map (λ r. cond here (change r) r) o)) ≡ as_one (tells is_owed o)
    by here None = refl
    by true (Some r) = ap (λ b. as_one b) (keeps r)
    by false (Some r) = refl

-- a move that takes one ticket from before its frame
owed-left : (test : TicketState → Bool) (move : TicketState → TicketState) → Leaves test move → (n t : ℕ) (b : Book) → is_at test b n ≡ true
    → owed_at t (moved_at move n b) + as_one (t == n) ≡ owed_at t b
owed-left test move moves_on n t b is =
    ap (λ (o : Option Registration). as_one (tells is_owed o) + as_one (t == n)) (registration_at-changed_where (moved move) (λ m. m == n) b t)
    ∙ by (t == n) refl
  where
    at : (o : Option Registration) → tells test o ≡ true
        → as_one (tells is_owed (option_map (λ r. cond true (moved move r) r) o)) + 1 ≡ as_one (tells is_owed o)
    at None h = cc
    at (Some r) h = rw (moves_on.before r.state h, moves_on.after r.state h) refl

    other : (o : Option Registration) → as_one (tells is_owed (option_map (λ r. cond false (moved move r) r) o)) + 0 ≡ as_one (tells is_owed o)
    other None = refl
    other (Some r) = omega arith

    by : (here : Bool) → (t == n) ≡ here
        → as_one (tells is_owed (option_map (λ r. cond here (moved move r) r) (registration_at b t))) + as_one here ≡ owed_at t b
    by true same = at (registration_at b t) (ap (is_at test b) (eqb-true t n same) ∙ is)
    by false apart = other (registration_at b t)

-- a registration more
not-given : (b : Book) → registration_at b (new_ticket b) ≡ None
not-given b = ap (registration_at b) (next (length b)) ∙ slice_get_past b (length b) (omega arith)
  where
    next : (n : ℕ) → n + 1 ≡ suc n
    next n = omega arith

account-added : (t : ℕ) (b : Book) (r : Registration) → is_owed r.state ≡ true → Account t b (Some (ticket_duty (new_ticket b))) None None (with_registration r b)
account-added t b r new = by (t == new_ticket b) refl
  where
    given : (o q : Option Registration) (k : ℕ) → o ≡ q → as_one (is_some o) + k ≡ as_one (is_some q) + k
    given o q k same = ap (λ (x : Option Registration). as_one (is_some x) + k) same

    by : (here : Bool) → (t == new_ticket b) ≡ here → Account t b (Some (ticket_duty (new_ticket b))) None None (with_registration r b)
    by true same =
        let at : t ≡ new_ticket b = eqb-true t (new_ticket b) same in
        let now : registration_at (with_registration r b) t ≡ Some r = ap (registration_at (with_registration r b)) at ∙ registration_at-new b r in
        let before : registration_at b t ≡ None = ap (registration_at b) at ∙ not-given b in
        record { given = rw (same, now, before) refl; owed = rw (same, now, before, new) refl }
    by false apart =
        let stays : registration_at (with_registration r b) t ≡ registration_at b t = registration_at-old b r t apart in
        record { given = rw (apart, stays) (omega arith); owed = rw (apart, stays) (omega arith) }

account-withdrawn : (t : ℕ) (b : Book) (n : ℕ) → is_at is_registered b n ≡ true → Account t b None (Some (ticket_duty n)) None (moved_at made_withdrawn n b)
account-withdrawn t b n is =
    let less : owed_at t (moved_at made_withdrawn n b) + as_one (t == n) ≡ owed_at t b = owed-left is_registered made_withdrawn withdrawn-leaves n t b is in
    record {
      given = given-changed (moved made_withdrawn) (λ m. m == n) t b ∙ sym (plus (given_at t b));
      owed = two (owed_at t (moved_at made_withdrawn n b)) (as_one (t == n)) (owed_at t b) less;
    }
  where
    plus : (n : ℕ) → n + 0 ≡ n
    plus n = omega arith

    two : (a k c : ℕ) → a + k ≡ c → a + 0 + k ≡ c + 0
    two a k c h = omega (arith, h)

-- where two steps follow each other, the account is that of both
both : (t : ℕ) (b c d : Book) (n m : Duty) → Account t b None (Some n) None c → Account t c (Some m) None None d → Account t b (Some m) (Some n) None d
both t b c d n m left added =
    record {
      given = givens (given_at t d) (given_at t c) (given_at t b) (one_if_ticket t (Some m)) added.given left.given;
      owed = oweds (owed_at t d) (owed_at t c) (owed_at t b) (one_if_ticket t (Some m)) (one_if_ticket t (Some n)) added.owed left.owed;
    }
  where
    givens : (x y z k : ℕ) → x ≡ y + k → y ≡ z + 0 → x ≡ z + k
    givens x y z k h j = omega (arith, h, j)

    oweds : (x y z k l : ℕ) → x + 0 + 0 ≡ y + k → y + 0 + l ≡ z + 0 → x + 0 + l ≡ z + k
    oweds x y z k l h j = omega (arith, h, j)

kept-account : (t : ℕ) (b c : Book) → given_at t c ≡ given_at t b → owed_at t c ≡ owed_at t b → Account t b None None None c
kept-account t b c given owed = record { given = given ∙ none (given_at t b); owed = nones (owed_at t c) (owed_at t b) owed }
  where
    none : (n : ℕ) → n ≡ n + 0
    none n = omega arith

    nones : (x y : ℕ) → x ≡ y → x + 0 + 0 ≡ y + 0
    nones x y h = omega (arith, h)

same-account : (t : ℕ) (b : Book) (made dropped begun : Option Duty) (c d : Book) → d ≡ c → Account t b made dropped begun c → Account t b made dropped begun d
same-account t b made dropped begun c d same account = subst (λ (x : Book). Account t b made dropped begun x) (sym same) account

book-account : (t addon : ℕ) (b : Book) (made dropped : Option Duty) (c : Book) → BookStep addon b made dropped c → Account t b made dropped None c
book-account t addon b _ _ _ (stays c e) = same-account t b None None None b c e (kept-account t b b refl refl)
book-account t addon b _ _ _ (adds r c new who why e) = same-account t b _ None None (with_registration r b) c e (account-added t b r new)
book-account t addon b _ _ _ (drops n c is e) = same-account t b None _ None (moved_at made_withdrawn n b) c e (account-withdrawn t b n is)
book-account t addon b _ _ _ (collects test c e) =
    same-account t b None None None (due_where test b) c e
    (kept-account t b (due_where test b) (given-changed (moved made_due) test t b) (owed-kept (moved made_due) (λ r. due-keeps r.state) test t b))
book-account t addon b _ _ _ (settles state tickets c e) =
    same-account t b None None None (reactions_settled state tickets b) c e
    (kept-account t b (reactions_settled state tickets b) (given-changed (made_settled state) (λ n. has_number n tickets) t b)
    (owed-kept (made_settled state) (settled-keeps state) (λ n. has_number n tickets) t b))
book-account t addon b _ _ _ (swaps n r c is new who why e) =
    let left : Book = moved_at made_withdrawn n b in
    same-account t b _ _ None (with_registration r left) c e
    (both t b left (with_registration r left) _ _ (account-withdrawn t b n is) (account-added t left r new))

account : (t : ℕ) (b : Book) (made dropped begun : Option Duty) (c : Book) → TicketStep b made dropped begun c → Account t b made dropped begun c
account t b _ _ _ _ (called addon made dropped c s) = book-account t addon b made dropped c s
account t b _ _ _ _ (ended n c e) =
    same-account t b None None None (moved_at made_ended n b) c e
    (kept-account t b (moved_at made_ended n b) (given-changed (moved made_ended) (λ m. m == n) t b)
    (owed-kept (moved made_ended) (λ r. ended-keeps r.state) (λ m. m == n) t b))
account t b _ _ _ _ (began p n r c there may e) =
    let c' : Book = moved_at (begun_in p) n b in
    let is : is_at (may_begin_in p) b n ≡ true = ap (tells (may_begin_in p)) there ∙ may in
    let less : owed_at t c' + as_one (t == n) ≡ owed_at t b = owed-left (may_begin_in p) (begun_in p) (leaves-in p) n t b is in
    same-account t b None None _ c' c e
    (record {
      given = given-changed (moved (begun_in p)) (λ m. m == n) t b ∙ none (given_at t b);
      owed = two (owed_at t c') (as_one (t == n)) (owed_at t b) less;
    })
  where
    none : (n : ℕ) → n ≡ n + 0
    none n = omega arith

    two : (a k c : ℕ) → a + k ≡ c → a + k + 0 ≡ c + 0
    two a k c h = omega (arith, h)

-- no duty of the hub is this ticket
hub-unnamed : (t : ℕ) (o : Option Duty) → OfHub o → one_if_ticket t o ≡ 0
hub-unnamed t (Some (duty.Ticket u)) ours = cc
hub-unnamed t _ ours = refl

hub-account : (t : ℕ) (b : Book) (made begun : Option Duty) (c : Book) → OfHub made → OfHub begun → c ≡ b → Account t b made None begun c
hub-account t b made begun c ours its same =
    same-account t b made None begun b c same
    (record {
      given = one (given_at t b) (one_if_ticket t made) (hub-unnamed t made ours);
      owed = all (owed_at t b) (one_if_ticket t made) (one_if_ticket t begun) (hub-unnamed t made ours) (hub-unnamed t begun its);
    })
  where
    one : (g n : ℕ) → n ≡ 0 → g ≡ g + n
    one g n h = omega (arith, h)

    all : (o n k : ℕ) → n ≡ 0 → k ≡ 0 → o + k + 0 ≡ o + n
    all o n k h j = omega (arith, h, j)

duty-account : (t : ℕ) (b : Book) (made dropped begun : Option Duty) (c : Book) → DutyStep b made dropped begun c → Account t b made dropped begun c
duty-account t b _ _ _ _ (of_tickets made dropped begun c s) = account t b made dropped begun c s
duty-account t b _ _ _ _ (of_hub made begun c ours its same) = hub-account t b made begun c ours its same

-- OVER A RUN
-- the account over all entries
pub record RunAccount (t : ℕ) (b : Book) (xs : List Entry) (c : Book) : Type 0 where
  pub given : given_at t c ≡ given_at t b + made (ticket_duty t) xs
  pub owed : owed_at t c + begun (ticket_duty t) xs + dropped (ticket_duty t) xs ≡ owed_at t b + made (ticket_duty t) xs

made-cons : (d : Duty) (x : Entry) (xs : List Entry) → made d (x ∷ xs) ≡ as_one (is_duty d x.reply.made) + made d xs
made-cons d x xs = sum_by-cons (λ (y : Entry). as_one (is_duty d y.reply.made)) x xs

dropped-cons : (d : Duty) (x : Entry) (xs : List Entry) → dropped d (x ∷ xs) ≡ as_one (is_duty d x.reply.dropped) + dropped d xs
dropped-cons d x xs = sum_by-cons (λ (y : Entry). as_one (is_duty d y.reply.dropped)) x xs

begun-cons : (d : Duty) (x : Entry) (xs : List Entry) → begun d (x ∷ xs) ≡ as_one (is_duty d (begun_duty x.what x.reply.out)) + begun d xs
begun-cons d x xs = sum_by-cons (λ (y : Entry). as_one (is_duty d (begun_duty y.what y.reply.out))) x xs

pub run-account : (t : ℕ) (m : Machine) (bs : List Ask) (xs : List Entry) → Orderly m → IsRunBy m bs xs → RunAccount t m.env.book xs (final m bs xs).env.book
run-account t =
    along-orderly (λ m bs xs. RunAccount t m.env.book xs (final m bs xs).env.book)
    (λ m. record { given = none (given_at t m.env.book); owed = nones (owed_at t m.env.book) })
    (λ m a bs x xs h next s k later.
    let d : Duty = ticket_duty t in
    let b : Book = m.env.book in
    let c : Book = (after m a x).env.book in
    let e : Book = (final (after m a x) bs xs).env.book in
    let first : Account t b x.reply.made x.reply.dropped (begun_duty x.what x.reply.out) c = duty-account t b _ _ _ c (next-is m a x h next) in
    record {
      given = givens (given_at t b) (given_at t c) (given_at t e) (one_if_ticket t x.reply.made) (made d xs) (made d (x ∷ xs))
          first.given later.given (made-cons d x xs);
      owed = oweds (owed_at t b) (owed_at t c) (owed_at t e) (one_if_ticket t x.reply.made) (made d xs) (made d (x ∷ xs))
          (one_if_ticket t (begun_duty x.what x.reply.out)) (begun d xs) (begun d (x ∷ xs))
          (one_if_ticket t x.reply.dropped) (dropped d xs) (dropped d (x ∷ xs)) first.owed later.owed (made-cons d x xs) (begun-cons d x xs) (dropped-cons d x xs);
    })
  where
    none : (n : ℕ) → n ≡ n + 0
    none n = omega arith

    nones : (n : ℕ) → n + 0 + 0 ≡ n + 0
    nones n = omega arith

    givens : (b c e k n m : ℕ) → c ≡ b + k → e ≡ c + n → m ≡ k + n → e ≡ b + m
    givens b c e k n m h j i = omega (arith, h, j, i)

    oweds : (b c e k n m l o p q r s : ℕ) → c + l + q ≡ b + k → e + o + r ≡ c + n → m ≡ k + n → p ≡ l + o → s ≡ q + r → e + p + s ≡ b + m
    oweds b c e k n m l o p q r s h j x y z = omega (arith, h, j, x, y, z)

-- THE TICKETS THAT ARE MADE
-- a step makes the next ticket, or none
data MakesTicket (b : Book) : Option Duty → Book → Type 0 where
  making : (c : Book) → length c ≡ length b + 1 → MakesTicket b (Some (ticket_duty (length b + 1))) c
  unmade : (made : Option Duty) (c : Book) → made_ticket made ≡ [] → length c ≡ length b → MakesTicket b made c

made-as : (b : Book) (n : ℕ) (c : Book) → n ≡ length b + 1 → length c ≡ length b + 1 → MakesTicket b (Some (ticket_duty n)) c
made-as b n c at longer = subst (λ k. MakesTicket b (Some (ticket_duty k)) c) (sym at) (making c longer)

book-makes : (addon : ℕ) (b : Book) (made dropped : Option Duty) (c : Book) → BookStep addon b made dropped c → MakesTicket b made c
book-makes addon b _ _ _ (stays c e) = unmade None c refl (ap length e)
book-makes addon b _ _ _ (adds r c new who why e) = making c (ap length e ∙ length-append b (r ∷ []))
book-makes addon b _ _ _ (drops n c is e) = unmade None c refl (ap length e ∙ length-changed_where (moved made_withdrawn) (λ m. m == n) b)
book-makes addon b _ _ _ (collects test c e) = unmade None c refl (ap length e ∙ length-changed_where (moved made_due) test b)
book-makes addon b _ _ _ (settles state tickets c e) =
    unmade None c refl (ap length e ∙ length-changed_where (made_settled state) (λ n. has_number n tickets) b)
book-makes addon b _ _ _ (swaps n r c is new who why e) =
    let left : Book = moved_at made_withdrawn n b in
    let same : length left ≡ length b = length-changed_where (moved made_withdrawn) (λ m. m == n) b in
    made-as b (new_ticket left) c (ap (λ k. k + 1) same) (ap length e ∙ length-append left (r ∷ []) ∙ ap (λ k. k + 1) same)

step-makes : (b : Book) (made dropped begun : Option Duty) (c : Book) → TicketStep b made dropped begun c → MakesTicket b made c
step-makes b _ _ _ _ (called addon made dropped c s) = book-makes addon b made dropped c s
step-makes b _ _ _ _ (began p n r c there may e) = unmade None c refl (ap length e ∙ length-changed_where (moved (begun_in p)) (λ m. m == n) b)
step-makes b _ _ _ _ (ended n c e) = unmade None c refl (ap length e ∙ length-changed_where (moved made_ended) (λ m. m == n) b)

hub-makes : (o : Option Duty) → OfHub o → made_ticket o ≡ []
hub-makes (Some (duty.Ticket t)) ours = cc
hub-makes _ ours = refl

duty-makes : (b : Book) (made dropped begun : Option Duty) (c : Book) → DutyStep b made dropped begun c → MakesTicket b made c
duty-makes b _ _ _ _ (of_tickets made dropped begun c s) = step-makes b made dropped begun c s
duty-makes b _ _ _ _ (of_hub made begun c ours its same) = unmade made c (hub-makes made ours) (ap length same)

-- from a book on, the tickets that are made count from the next making
abbrev CountsFrom : ℕ → List ℕ → Type 0
CountsFrom n ts = ts ≡ range_with_len (n + 1) (length ts)

counts-cons : (b : Book) (made : Option Duty) (c : Book) (ts : List ℕ) → MakesTicket b made c → CountsFrom (length c) ts
    → CountsFrom (length b) (made_ticket made ++ ts)
counts-cons b _ _ ts (unmade made c no_ticket same) later = rw no_ticket (later ∙ ap (λ n. range_with_len (n + 1) (length ts)) same)
counts-cons b _ _ ts (making c longer) later = ap (λ us. (length b + 1) ∷ us) (later ∙ ap (λ n. range_with_len (n + 1) (length ts)) longer)

run-counts : (m : Machine) (bs : List Ask) (xs : List Entry) → Orderly m → IsRunBy m bs xs → CountsFrom (length m.env.book) (tickets_made xs)
run-counts = along-orderly (λ m bs xs. CountsFrom (length m.env.book) (tickets_made xs)) (λ m. refl) (λ m a bs x xs h next s k rest.
    counts-cons m.env.book x.reply.made (after m a x).env.book (tickets_made xs) (duty-makes m.env.book _ _ _ _ (next-is m a x h next)) rest)

-- the book never has fewer registrations
makes-more : (b : Book) (made : Option Duty) (c : Book) → MakesTicket b made c → length b ≤ length c
makes-more b _ _ (making c longer) = omega (arith, longer)
makes-more b _ _ (unmade made c no_ticket same) = omega (arith, same)

pub book-grows : (m : Machine) (a : Ask) (x : Entry) → Orderly m → IsNext m a x → length m.env.book ≤ length (after m a x).env.book
book-grows m a x h next = makes-more m.env.book _ _ (duty-makes m.env.book _ _ _ _ (next-is m a x h next))

pub tickets-counted : TicketsAreCounted
tickets-counted s bs xs run = run-counts (opening_of s) bs xs (orderly-opens s) run.steps

-- AT THE END
-- one whose frame is to come is counted
owed-some : (t : ℕ) (b : Book) → is_at is_owed b t ≡ true → 1 ≤ owed_tickets b
owed-some zero b is = cc
owed-some (suc p) b is = some p b is
  where
    some : (p : ℕ) (b : Book) → tells is_owed (slice_get b p) ≡ true → 1 ≤ owed_tickets b
    some p [] is = cc
    some zero (r ∷ rs) is = let one : owed_tickets (r ∷ rs) ≡ one_if (is_owed r.state) + owed_tickets rs = owed-cons r rs in omega (arith, one, ap one_if is)
    some (suc p) (r ∷ rs) is =
        let one : owed_tickets (r ∷ rs) ≡ one_if (is_owed r.state) + owed_tickets rs = owed-cons r rs in
        let later : 1 ≤ owed_tickets rs = some p rs is in
        omega (arith, one, later)

-- where no ticket has its frame to come, this one has not
owed-none : (t : ℕ) (b : Book) → owed_tickets b ≡ 0 → owed_at t b ≡ 0
owed-none t b none = by (is_at is_owed b t) refl
  where
    by : (h : Bool) → is_at is_owed b t ≡ h → as_one h ≡ 0
    by false is = refl
    by true is = let more : 1 ≤ owed_tickets b = owed-some t b is in absurd (omega (arith, more, none))

pub at-most-one : (b : Bool) → as_one b ≤ 1
at-most-one true = omega arith
at-most-one false = omega arith

-- before the first ticket
pub nothing-given : (t : ℕ) → given_at t [] ≡ 0
nothing-given zero = refl
nothing-given (suc p) = refl

pub nothing-owed : (t : ℕ) → owed_at t [] ≡ 0
nothing-owed zero = refl
nothing-owed (suc p) = refl

-- where no ticket has its frame to come, no place is left
pub none-owed-at-end : (s : Setting) (bs : List Ask) (xs : List Entry) (t : ℕ) → EndsBy s bs xs → owed_at t (final_of s bs xs).env.book ≡ 0
none-owed-at-end s bs xs t whole = owed-none t (final_of s bs xs).env.book (none-left s bs xs whole.run.steps whole.gone)
