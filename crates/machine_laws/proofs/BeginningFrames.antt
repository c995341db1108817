-- Which ticket begins next, and where a duty may begin.
use Rattle.std.proofs.Common.{◌≡◌, ◌∙◌, ℕ, true, false, not, [], length, IsTrue, refl, ap, sym, subst, Option, Some, None, inl, inr, ◌⊎◌}
use Rattle.std.specs.Option.{option_or}
use Rattle.std.proofs.lemmas.Bool.{not-true}
use Rattle.napi_types.specs.declared.call.Call.{Call}
use Rattle.napi_types.specs.declared.entry.Duty.{Duty}
use Rattle.napi_types.specs.declared.entry.Entry.{Entry}
use Rattle.napi_types.specs.declared.entry.HostStep.TheVariants as host
use Rattle.napi_types.specs.declared.entry.LoopEnd.TheVariants as loop_end
use Rattle.napi_types.specs.declared.entry.Phase.{Phase}
use Rattle.napi_types.specs.declared.entry.Phase.TheVariants as phase
use Rattle.napi_types.specs.declared.entry.What.{What}
use Rattle.napi_types.specs.declared.entry.What.TheVariants as what
use Rattle.napi_types.specs.plain.Entries.{is_begin, told_duty}
use Rattle.napi_types.specs.plain.Lists.{up_to}
use Rattle.napi_types.specs.parts.Book.{Registration, is_due, is_at, registration_at, lowest_due, ticket_duty, may_begin_in}
use Rattle.napi_types.specs.parts.Frames.{is_hub_duty}
use Rattle.napi_types.specs.parts.Hooks.{Hook, last_hook}
use Rattle.napi_types.specs.environment.Changes.{issued_number, call_change}
use Rattle.napi_types.specs.environment.Entering.{asked_change}
use Rattle.napi_types.specs.environment.Environment.{Environment}
use Rattle.napi_types.specs.hub.Hub.{Stage}
use Rattle.napi_types.specs.hub.HubMoves.{HubMove, Delivers, Closes, Finishes, hub_move}
use Rattle.napi_types.specs.hub.HubEvents.{begin_step, delivery_entry}
use Rattle.napi_types.specs.runs.Choice.{local_choice, local_choice_in, hub_choice, waiting_hooks}
use Rattle.napi_types.specs.runs.Loop.{Event, Tickets, Moves, Goes, EndsLoop, Abandons, Drains, FinalsCome}
use Rattle.napi_types.specs.runs.Machine.{Machine}
use Rattle.napi_types.specs.runs.Step.{Step, ticket_step, move_step, event_step, chosen, step}
use Rattle.napi_types.proofs.plain.Lists.{find-passes}
use Rattle.napi_types.proofs.parts.Books.{lowest-due, lowest-below}
use Rattle.napi_types.proofs.parts.Moved.{IsUnder, PassesTest}
use Rattle.napi_types.proofs.environment.Cases.{asked-by}
use Rattle.napi_types.proofs.hub.HubDuties.{delivery-of_hub}
use Rattle.napi_types.proofs.runs.Forms as form
use Rattle.napi_types.proofs.runs.Forms.{Form, form-of, shared-what, ended-what, event-what, other-what, chosen-next}
use Rattle.napi_types.proofs.runs.SharedSteps.{others-none}
use Rattle.napi_types.proofs.runs.Chosen.{OwnChoice, opens, inits, exits, due_in_loop, hooks, due_at_end, ends, own-choice, HubChoice, goes, idles, quiets, abandons, drains, drains_later, finals, moves_in_loop, moves_in_hooks, moves_at_end, hub-choice, chosen-by}
use Rattle.machine_laws.specs.Choices.{begins_due_tickets_in, LowestDueTicketComesFirst, IsOfHook, LastHookComesFirst, BeginsLowest, BeginsLastHook, DeliversNow, BeginsOfHub, TicketsBeginAtTheirMoments, LowestDueIsLowest}
use Rattle.machine_laws.proofs.Choosing.{Happens, some-wait}

-- WHAT COMES FIRST
-- where due tickets begin the lowest is chosen, ..
lowest-chosen : (e : Environment) (p : Phase) (n : ℕ) (o : Option Event) → begins_due_tickets_in e p ≡ true → lowest_due e.book ≡ Some n
    → option_or (local_choice_in e p) o ≡ Some (Tickets n)
lowest-chosen e phase.Live n o begins lowest = rw (not-true e.exit_asked begins, lowest) refl
lowest-chosen e phase.Finals n o begins lowest = rw lowest refl
lowest-chosen e _ n o begins lowest = cc

pub lowest-first : LowestDueTicketComesFirst
lowest-first m n a x alone begins lowest who next =
    let due : IsUnder (PassesTest is_due) m.env.book n = lowest-due m.env.book n lowest in
    let s : step m a x ≡ ticket_step m n (Some due.registration) =
    chosen-next m a x who alone ∙ ap (chosen m) (lowest-chosen m.env m.env.phase n (hub_choice m.hub (waiting_hooks m.env)) begins lowest)
    ∙ ap (ticket_step m n) due.there in
    record { registration = due.registration; there = due.there; due = due.holds; entry = next.0 ∙ ap (λ (t : Step). t.entry) s }

-- .. and in the phase of the hooks the last of them
hook-chosen : (e : Environment) (h : Hook) (o : Option Event) → e.phase ≡ phase.Hooks → last_hook e.hooks ≡ Some h
    → option_or (local_choice_in e e.phase) o ≡ Some (Tickets h.ticket)
hook-chosen e h o here last = rw (here, last) refl

of-hook : (m : Machine) (h : Hook) (x : Entry) (r : Option Registration) → m.env.phase ≡ phase.Hooks → registration_at m.env.book h.ticket ≡ r
    → x ≡ (ticket_step m h.ticket r).entry → IsTrue (ticket_step m h.ticket r).may → IsOfHook m h x
of-hook m h x None here there is may = cc
of-hook m h x (Some r) here there is may =
    record { registration = r; there = there; registered = subst (λ p. may_begin_in p r.state ≡ true) here may; entry = is }

pub hook-first : LastHookComesFirst
hook-first m h a x alone here last who next =
    let s : step m a x ≡ ticket_step m h.ticket (registration_at m.env.book h.ticket) =
    chosen-next m a x who alone ∙ ap (chosen m) (hook-chosen m.env h (hub_choice m.hub (waiting_hooks m.env)) here last) in
    of-hook m h x (registration_at m.env.book h.ticket) here refl (next.0 ∙ ap (λ (t : Step). t.entry) s) (subst (λ (t : Step). IsTrue t.may) s next.1)

-- WHERE ONE BEGINS
-- the duty is that of the lowest ticket that is due, or of the last hook, or the hub's
abbrev BeginsSo : Machine → Duty → Entry → Type 0
BeginsSo m d x = BeginsLowest m d ⊎ BeginsLastHook m d ⊎ BeginsOfHub m d x

-- the entry is the begin of the frame of this duty
abbrev Begins : Entry → Duty → Type 0
Begins x d = (x.what ≡ what.Host host.Begin) × (told_duty x.reply.out ≡ Some d)

-- what is no begin
none-begins : (x : Entry) (w : What) (d : Duty) → x.what ≡ w → is_begin w ≡ false → Begins x d → ⊥
none-begins x w d same other begins = let z : true ≡ false = ap is_begin (sym begins.0 ∙ same) ∙ other in cc

-- a call of a frame begins no duty
asked-begins : (e : Environment) (c : Call) (n : ℕ) (d : Duty) → Begins (asked_change e c n).entry d → ⊥
asked-begins e c n d = asked-by e c n (λ x. Begins x.entry d → ⊥) (λ begins. none-begins (call_change e c n).entry (what.Call c) d refl refl begins)
    (λ receiver f args none begins. let z : None ≡ Some d = begins.1 in cc)

-- a ticket's frame tells its duty
ticket-duty : (m : Machine) (n : ℕ) (r : Option Registration) (d : Duty) → Begins (ticket_step m n r).entry d → d ≡ ticket_duty n
ticket-duty m n None d begins = absurd (none-begins (ticket_step m n None).entry (what.Host host.Gone) d refl refl begins)
ticket-duty m n (Some r) d begins = let same : Some (ticket_duty n) ≡ Some d = begins.1 in cc

-- what the environment decides alone
own-begins : (m : Machine) (p : Phase) (v : Event) (d : Duty) (x : Entry) → m.env.phase ≡ p → m.env.frames ≡ [] → OwnChoice m.env p v → x ≡ (event_step m v).entry
    → IsTrue (event_step m v).may → Begins x d → BeginsSo m d x
own-begins m _ _ d x here alone (opens unopened) is may begins = absurd (none-begins x (what.Host host.Opened) d (ap (λ (y : Entry). y.what) is) refl begins)
own-begins m _ _ d x here alone (inits opened left) is may begins =
    let z : None ≡ Some d = sym (ap (λ (y : Entry). told_duty y.reply.out) is) ∙ begins.1 in cc
own-begins m _ _ d x here alone (exits asked) is may begins =
    absurd (none-begins x (what.Host host.LoopEnd) d (ap (λ (y : Entry). y.what) is ∙ event-what m (EndsLoop loop_end.Exit) may) refl begins)
own-begins m _ _ d x here alone (due_in_loop n unasked lowest) is may begins =
    inl (record {
      ticket = n;
      duty = ticket-duty m n (registration_at m.env.book n) d (subst (λ y. Begins y d) is begins);
      alone = alone;
      moment = ap (begins_due_tickets_in m.env) here ∙ ap not unasked;
      lowest = lowest;
    })
own-begins m _ _ d x here alone (hooks h last) is may begins =
    inr (inl (record {
      hook = h;
      duty = ticket-duty m h.ticket (registration_at m.env.book h.ticket) d (subst (λ y. Begins y d) is begins);
      alone = alone;
      moment = here;
      last = last;
    }))
own-begins m _ _ d x here alone (due_at_end n lowest) is may begins =
    inl (record {
      ticket = n;
      duty = ticket-duty m n (registration_at m.env.book n) d (subst (λ y. Begins y d) is begins);
      alone = alone;
      moment = ap (begins_due_tickets_in m.env) here;
      lowest = lowest;
    })
own-begins m _ _ d x here alone (ends none) is may begins = absurd (none-begins x (what.Host host.Gone) d (ap (λ (y : Entry). y.what) is) refl begins)

-- what the hub decides
delivered : (m : Machine) (d e : Duty) (told : Option Duty) → told ≡ Some e → told ≡ Some d → d ≡ e
delivered m d e told here there = let same : Some d ≡ Some e = sym there ∙ here in cc

move-begins : (m : Machine) (move : HubMove) (d : Duty) (x : Entry) → m.env.frames ≡ [] → local_choice m.env ≡ None
    → DeliversNow m → hub_move m.hub ≡ Some move → x ≡ (move_step m move).entry → IsTrue (event_step m (Moves move)).may → Begins x d → BeginsSo m d x
move-begins m (Delivers info) d x alone none moment next is may begins =
    let entry : x ≡ delivery_entry info = is ∙ ap (λ o. (begin_step m.hub (delivery_entry info) o).entry) next in
    let same : d ≡ info.duty = delivered m d info.duty (told_duty x.reply.out) (ap (λ (y : Entry). told_duty y.reply.out) entry) begins.1 in
    inr (inr (record {
      info = info;
      duty = same;
      ours = ap (λ e. is_hub_duty (Some e)) same ∙ (delivery-of_hub m.hub info next).ours;
      alone = alone;
      waits = none;
      moment = moment;
      next = next;
      entry = entry;
    }))
move-begins m (Closes n) d x alone none moment next is may begins =
    absurd (none-begins x (what.Host host.CloseTsfn) d (ap (λ (y : Entry). y.what) is ∙ event-what m (Moves (Closes n)) may) refl begins)
move-begins m (Finishes n) d x alone none moment next is may begins =
    absurd (none-begins x (what.Host host.FinishTsfn) d (ap (λ (y : Entry). y.what) is ∙ event-what m (Moves (Finishes n)) may) refl begins)

hub-begins : (m : Machine) (s : Stage) (v : Event) (d : Duty) (x : Entry) → m.hub.stage ≡ s → m.env.frames ≡ [] → local_choice m.env ≡ None
    → HubChoice m.hub (waiting_hooks m.env) s v → x ≡ (event_step m v).entry → IsTrue (event_step m v).may → Begins x d → BeginsSo m d x
hub-begins m _ _ d x here alone none goes is may begins =
    absurd (none-begins x (what.Host host.Go) d (ap (λ (y : Entry). y.what) is ∙ event-what m Goes may) refl begins)
hub-begins m _ _ d x here alone none (idles unmoved idle) is may begins =
    absurd (none-begins x (what.Host host.LoopEnd) d (ap (λ (y : Entry). y.what) is ∙ event-what m (EndsLoop loop_end.Idle) may) refl begins)
hub-begins m _ _ d x here alone none (quiets unmoved busy quiet) is may begins =
    absurd (none-begins x (what.Host host.LoopEnd) d (ap (λ (y : Entry). y.what) is ∙ event-what m (EndsLoop loop_end.Quiet) may) refl begins)
hub-begins m _ _ d x here alone none (abandons some still quiet) is may begins =
    absurd (none-begins x (what.Host host.Abandon) d (ap (λ (y : Entry). y.what) is ∙ event-what m Abandons may) refl begins)
hub-begins m _ _ d x here alone none (drains unwaited) is may begins =
    absurd (none-begins x (what.Host host.Drain) d (ap (λ (y : Entry). y.what) is ∙ event-what m Drains may) refl begins)
hub-begins m _ _ d x here alone none drains_later is may begins =
    absurd (none-begins x (what.Host host.Drain) d (ap (λ (y : Entry). y.what) is ∙ event-what m Drains may) refl begins)
hub-begins m _ _ d x here alone none (finals unmoved spent) is may begins =
    absurd (none-begins x (what.Host host.Finals) d (ap (λ (y : Entry). y.what) is ∙ event-what m FinalsCome may) refl begins)
hub-begins m _ _ d x here alone none (moves_in_loop move next) is may begins = move-begins m move d x alone none (inl here) next is may begins
hub-begins m _ _ d x here alone none (moves_at_end move next) is may begins = move-begins m move d x alone none (inr (inl here)) next is may begins
hub-begins m _ _ d x here alone none (moves_in_hooks some move next) is may begins =
    move-begins m move d x alone none (inr (inr (here, some-wait (waiting_hooks m.env) some))) next is may begins

event-begins : (m : Machine) (d : Duty) (x : Entry) → Happens m x → Begins x d → BeginsSo m d x
event-begins m d x h begins = by (chosen-by m h.event h.next)
  where
    by : (local_choice m.env ≡ Some h.event) ⊎ ((local_choice m.env ≡ None) × (hub_choice m.hub (waiting_hooks m.env) ≡ Some h.event)) → BeginsSo m d x
    by (inl mine) = own-begins m m.env.phase h.event d x refl h.alone (own-choice m.env m.env.phase h.event mine) h.entry h.may begins
    by (inr its) =
        hub-begins m m.hub.stage h.event d x refl h.alone its.0 (hub-choice m.hub (waiting_hooks m.env) m.hub.stage h.event its.1) h.entry h.may begins

form-begins : (m : Machine) (t : Step) (d : Duty) (x : Entry) → Form m t → x ≡ t.entry → IsTrue t.may → Begins x d → BeginsSo m d x
form-begins m t d x (form.calls f fs stands c o alone) is may begins = absurd (asked-begins m.env c (issued_number o) d (subst (λ y. Begins y d) is begins))
form-begins m t d x (form.shares f fs stands c o shared answers) is may begins =
    absurd (none-begins x (what.Call c) d (ap (λ (y : Entry). y.what) is ∙ shared-what m c o) refl begins)
form-begins m t d x (form.ends f fs stands v cut b ours is_ours) is may begins =
    absurd (none-begins x (what.Host host.End) d (ap (λ (y : Entry). y.what) is ∙ ended-what m v cut b ours) refl begins)
form-begins m t d x (form.happens alone event next) is may begins =
    event-begins m d x (record { alone = alone; event = event; next = next; entry = is; may = may }) begins
form-begins m t d x (form.others y other told) is may begins =
    absurd (none-begins x t.entry.what d (ap (λ (y : Entry). y.what) is) (others-none t.entry.what (other-what m y other may)).begins begins)

pub tickets-begin : TicketsBeginAtTheirMoments
tickets-begin m a x c addon entry d next is told = form-begins m (step m a x) d x (form-of m a x next) next.0 next.1 (is, ap told_duty told)

-- THE LOWEST IS THE LOWEST
pub lowest-lowest : LowestDueIsLowest
lowest-lowest book n is = record { due = find-passes (is_at is_due book) (up_to (length book)) n is; below = λ k low. lowest-below book n k is low }
