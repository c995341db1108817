-- What an entry of a run does to the duties of the hub: one of the journal nothing, and one of the history a step of the hub's duties.
use Rattle.std.proofs.Common.{◌≡◌, ℕ, Bool, true, not, ◌&&◌, IsTrue, refl, ap, sym, subst, Option, None, IfSome}
use Rattle.napi_types.specs.declared.call.Ask.{Ask}
use Rattle.napi_types.specs.declared.call.Call.{Call}
use Rattle.napi_types.specs.declared.entry.Duty.{Duty}
use Rattle.napi_types.specs.declared.entry.Entry.{Entry}
use Rattle.napi_types.specs.declared.entry.HostStep.TheVariants as host
use Rattle.napi_types.specs.declared.entry.Out.{Out}
use Rattle.napi_types.specs.declared.entry.Out.TheVariants as out
use Rattle.napi_types.specs.plain.Entries.{host_entry, begun_duty, started_duty}
use Rattle.napi_types.specs.plain.Room.{is_full}
use Rattle.napi_types.specs.parts.Book.{Book}
use Rattle.napi_types.specs.environment.Changes.{may_call}
use Rattle.napi_types.specs.environment.Ends.{end_change}
use Rattle.napi_types.specs.environment.Entering.{asked_change}
use Rattle.napi_types.specs.environment.Environment.{Environment}
use Rattle.napi_types.specs.environment.SharedCalls.{shared_entry}
use Rattle.napi_types.specs.hub.Hub.{Hub}
use Rattle.napi_types.specs.hub.HubEvents.{delivery_entry}
use Rattle.napi_types.specs.hub.HubMoves.{HubMove, Delivers, Closes, Finishes}
use Rattle.napi_types.specs.hub.HubSteps.{hub_step}
use Rattle.napi_types.specs.runs.CallRoom.{room_of}
use Rattle.napi_types.specs.runs.Choice.{waiting_hooks}
use Rattle.napi_types.specs.runs.Machine.{Machine}
use Rattle.napi_types.specs.runs.Run.{IsNext, after}
use Rattle.napi_types.specs.runs.Step.{Step, move_step, has_room, step}
use Rattle.napi_types.specs.all_runs.Laws.{is_ticket}
use Rattle.napi_types.proofs.plain.Conditions.{and-right}
use Rattle.napi_types.proofs.parts.BookSteps.{BookStep, stays, adds, drops, collects, settles, swaps}
use Rattle.napi_types.proofs.environment.Cases.{asked-by}
use Rattle.napi_types.proofs.environment.FrameEnds.{ended-ends}
use Rattle.napi_types.proofs.hub.HubDuties.{hub_step-spares}
use Rattle.napi_types.proofs.hub.HubDutySteps.{EntryHubDuties, hub-duties}
use Rattle.napi_types.proofs.hub.HubFunctions.{AreSoundFrom}
use Rattle.napi_types.proofs.runs.StepCases.{StepCase, calls, ends, opens, inits, begins, vanishes, shares, leaves, passes, moves, others, event_before, step-case, abandons}
use Rattle.napi_types.proofs.all_runs.Onces.{TicketStep, called, began, ended, asked-is, end-is}
use Rattle.napi_types.proofs.all_runs.Orderly.{Orderly}

-- THE TWO WAYS
-- a duty that is there is a ticket
abbrev pub OfBook : Option Duty → Type 0
OfBook o = IfSome o (λ d. is_ticket d ≡ true)

-- an entry speaks of no duty of the hub
pub record SparesHubDuties (x : Entry) : Type 0 where
  pub made : OfBook x.reply.made
  pub dropped : OfBook x.reply.dropped
  pub begun : OfBook (begun_duty x.what x.reply.out)
  pub started : started_duty x.what x.reply.out ≡ None

pub data HubSide (h : Hub) (x : Entry) : Hub → Type 0 where
  in_journal : (n : Hub) → n ≡ h → SparesHubDuties x → HubSide h x n
  in_history : (n : Hub) → x.reply.dropped ≡ None → EntryHubDuties h x n → HubSide h x n

-- IN THE JOURNAL
record AreTickets (made_now dropped_now begun_now : Option Duty) : Type 0 where
  pub made : OfBook made_now
  pub dropped : OfBook dropped_now
  pub begun : OfBook begun_now

book-tickets : (addon : ℕ) (b : Book) (made dropped : Option Duty) (c : Book) → BookStep addon b made dropped c → AreTickets made dropped None
book-tickets addon b _ _ _ (stays c e) = record { made = tt; dropped = tt; begun = tt }
book-tickets addon b _ _ _ (adds r c new who why e) = record { made = refl; dropped = tt; begun = tt }
book-tickets addon b _ _ _ (drops n c is e) = record { made = tt; dropped = refl; begun = tt }
book-tickets addon b _ _ _ (collects test c e) = record { made = tt; dropped = tt; begun = tt }
book-tickets addon b _ _ _ (settles state tickets c e) = record { made = tt; dropped = tt; begun = tt }
book-tickets addon b _ _ _ (swaps n r c is new who why e) = record { made = refl; dropped = refl; begun = tt }

tickets : (b : Book) (made dropped begun : Option Duty) (c : Book) → TicketStep b made dropped begun c → AreTickets made dropped begun
tickets b _ _ _ _ (called addon made dropped c s) = book-tickets addon b made dropped c s
tickets b _ _ _ _ (began p n r c there may e) = record { made = tt; dropped = tt; begun = refl }
tickets b _ _ _ _ (ended n c e) = record { made = tt; dropped = tt; begun = tt }

spares : (b : Book) (x : Entry) (c : Book) → TicketStep b x.reply.made x.reply.dropped (begun_duty x.what x.reply.out) c
    → started_duty x.what x.reply.out ≡ None → SparesHubDuties x
spares b x c s none =
    let k : AreTickets x.reply.made x.reply.dropped (begun_duty x.what x.reply.out) = tickets b _ _ _ c s in
    record { made = k.made; dropped = k.dropped; begun = k.begun; started = none }

asked-starts : (e : Environment) (c : Call) (n : ℕ) (o : Out) → started_duty (asked_change e c n).entry.what o ≡ None
asked-starts e c n o = asked-by e c n (λ d. started_duty d.entry.what o ≡ None) refl (λ receiver f args none. refl)

-- IN THE HISTORY
by-hub : (late : Bool) (h : Hub) (y : Entry) → AreSoundFrom late 1 h.functions → IsTrue (hub_step h y).may → HubSide h (hub_step h y).entry (hub_step h y).after
by-hub late h y sound may = in_history (hub_step h y).after (hub_step-spares h y may).dropped (hub-duties late h y sound may)

move-side : (late : Bool) (m : Machine) (move : HubMove) → AreSoundFrom late 1 m.hub.functions → IsTrue (move_step m move).may
    → HubSide m.hub (move_step m move).entry (move_step m move).after.hub
move-side late m (Delivers d) sound may = by-hub late m.hub (delivery_entry d) sound may
move-side late m (Closes n) sound may = by-hub late m.hub (host_entry host.CloseTsfn (out.Function (record { 0 = n }))) sound may
move-side late m (Finishes n) sound may = by-hub late m.hub (host_entry host.FinishTsfn (out.Function (record { 0 = n }))) sound may

-- EACH STEP
step-side : (late : Bool) (m : Machine) (s : Step) → AreSoundFrom late 1 m.hub.functions → StepCase m s → IsTrue s.may → HubSide m.hub s.entry s.after.hub
step-side late m s sound (calls c n may alone) ok =
    in_journal m.hub refl (spares m.env.book s.entry s.after.env.book (asked-is m.env c n) (asked-starts m.env c n s.entry.reply.out))
step-side late m s sound (ends v cut may alone) ok =
    in_journal m.hub refl (spares m.env.book s.entry s.after.env.book (end-is v cut m.env) (ap (λ w. started_duty w s.entry.reply.out) (ended-ends v cut m.env).is))
step-side late m s sound opens ok = in_journal m.hub refl (record { made = tt; dropped = tt; begun = tt; started = refl })
step-side late m s sound (inits n) ok = in_journal m.hub refl (record { made = tt; dropped = tt; begun = tt; started = refl })
step-side late m s sound (begins n r there next may) ok = in_journal m.hub refl (record { made = tt; dropped = tt; begun = refl; started = refl })
step-side late m s sound (vanishes last) ok = in_journal m.hub refl (record { made = tt; dropped = tt; begun = tt; started = refl })
step-side late m s sound (shares c o is answers) ok =
    by-hub late m.hub (shared_entry m.env c o) sound (and-right (may_call m.env && not (is_full (room_of m c) c)) (hub_step m.hub (shared_entry m.env c o)).may ok)
step-side late m s sound (leaves v cut may ours) ok =
    by-hub late m.hub (end_change v cut m.env).entry sound (and-right may (hub_step m.hub (end_change v cut m.env).entry).may ok)
step-side late m s sound (passes p o q) ok = by-hub late m.hub (host_entry (event_before p) o) sound ok
step-side late m s sound (abandons here far none alone) ok = by-hub late m.hub (host_entry host.Abandon (out.Unsigned (waiting_hooks m.env))) sound ok
step-side late m s sound (moves move next moving alone) ok = move-side late m move sound ok
step-side late m s sound (others x other) ok = by-hub late m.hub x sound (and-right (has_room m x.what) (hub_step m.hub x).may ok)

-- one of a run
pub next-side : (late : Bool) (m : Machine) (a : Ask) (x : Entry) → AreSoundFrom late 1 m.hub.functions → Orderly m → IsNext m a x
    → HubSide m.hub x (after m a x).hub
next-side late m a x sound h next =
    subst (λ (y : Entry). HubSide m.hub y (after m a x).hub) (sym next.0) (step-side late m (step m a x) sound (step-case m a x h.stage next) next.1)
