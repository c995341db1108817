-- What the hub of a run keeps: each entry of the history is a step of it, and the entries of the journal leave it.
use Rattle.std.proofs.Common.{◌≡◌, ℕ, Bool, true, false, not, ◌&&◌, List, [], ◌∷◌, length, IsTrue, refl, ap, Option, Some, None}
use Rattle.napi_types.specs.declared.call.Ask.{Ask}
use Rattle.napi_types.specs.declared.call.Ask.TheVariants as ask
use Rattle.napi_types.specs.declared.call.Call.{Call}
use Rattle.napi_types.specs.declared.entry.Actor.{Actor}
use Rattle.napi_types.specs.declared.entry.Actor.TheVariants as actor
use Rattle.napi_types.specs.declared.entry.Entry.{Entry}
use Rattle.napi_types.specs.declared.entry.HostStep.TheVariants as host
use Rattle.napi_types.specs.declared.entry.Out.{Out}
use Rattle.napi_types.specs.declared.entry.Out.TheVariants as out
use Rattle.napi_types.specs.declared.entry.Why.{Why}
use Rattle.napi_types.specs.declared.ids.HandleId.{HandleId}
use Rattle.napi_types.specs.plain.Entries.{host_entry, is_environment, cut_of}
use Rattle.napi_types.specs.plain.Guards.{is_shared}
use Rattle.napi_types.specs.runs.CallRoom.{room_of}
use Rattle.napi_types.specs.plain.Room.{is_full}
use Rattle.napi_types.specs.parts.Book.{Registration, registration_at}
use Rattle.napi_types.specs.parts.Frames.{Frame, duty_of, is_hub_duty}
use Rattle.napi_types.specs.environment.Changes.{may_ask, may_call}
use Rattle.napi_types.specs.environment.Ends.{end_change}
use Rattle.napi_types.specs.environment.SharedCalls.{shared_entry}
use Rattle.napi_types.specs.hub.Hub.{Hub}
use Rattle.napi_types.specs.hub.HubEvents.{delivery_entry}
use Rattle.napi_types.specs.hub.HubMoves.{HubMove, Delivers, Closes, Finishes}
use Rattle.napi_types.specs.hub.HubSteps.{hub_step}
use Rattle.napi_types.specs.runs.Choice.{choice, waiting_hooks}
use Rattle.napi_types.specs.runs.Loop.{Event, Tickets, Moves, Goes, EndsLoop, Drains, FinalsCome, Abandons}
use Rattle.napi_types.specs.runs.Machine.{Machine}
use Rattle.napi_types.specs.runs.Run.{IsRunBy, final}
use Rattle.napi_types.specs.runs.Step.{ticket_step, move_step, event_step, chosen, may_cut, call_step_on, end_step_on, asked_step, frame_step, env_step, has_room, step_of}
use Rattle.napi_types.proofs.plain.Conditions.{and-right}
use Rattle.napi_types.proofs.environment.FrameEnds.{ended-ends}
use Rattle.napi_types.proofs.runs.Runs.{along-run}

-- WHAT THE ENVIRONMENT KEEPS
-- what each step of the hub at an entry of the environment keeps, each step of the environment keeps
module _ (P : Hub → Type 0) (kept : (h : Hub) (y : Entry) → is_environment y.actor ≡ true → IsTrue (hub_step h y).may → P h → P (hub_step h y).after) where
  ticket-kept : (m : Machine) (n : ℕ) (o : Option Registration) → P m.hub → P (ticket_step m n o).after.hub
  ticket-kept m n None p = p
  ticket-kept m n (Some r) p = p

  move-kept : (m : Machine) (move : HubMove) → IsTrue (move_step m move).may → P m.hub → P (move_step m move).after.hub
  move-kept m (Delivers d) may p = kept m.hub (delivery_entry d) refl may p
  move-kept m (Closes n) may p = kept m.hub (host_entry host.CloseTsfn (out.Function (record { 0 = n }))) refl may p
  move-kept m (Finishes n) may p = kept m.hub (host_entry host.FinishTsfn (out.Function (record { 0 = n }))) refl may p

  event-kept : (m : Machine) (event : Event) → IsTrue (event_step m event).may → P m.hub → P (event_step m event).after.hub
  event-kept m (Tickets n) may p = ticket-kept m n (registration_at m.env.book n) p
  event-kept m (Moves move) may p = move-kept m move may p
  event-kept m Goes may p = kept m.hub (host_entry host.Go out.Nothing) refl may p
  event-kept m (EndsLoop w) may p = kept m.hub (host_entry host.LoopEnd (out.Ended w)) refl may p
  event-kept m Abandons may p = kept m.hub (host_entry host.Abandon (out.Unsigned (waiting_hooks m.env))) refl may p
  event-kept m Drains may p = kept m.hub (host_entry host.Drain (out.Unsigned (length m.hub.pool.queued))) refl may p
  event-kept m FinalsCome may p = kept m.hub (host_entry host.Finals out.Nothing) refl may p
  event-kept m _ may p = p

  chosen-kept : (m : Machine) (o : Option Event) → IsTrue (chosen m o).may → P m.hub → P (chosen m o).after.hub
  chosen-kept m None may p = p
  chosen-kept m (Some event) may p = event-kept m event may p

  call-kept : (m : Machine) (c : Call) (o : Out) (b : Bool) → IsTrue (call_step_on b m c o).may → P m.hub → P (call_step_on b m c o).after.hub
  call-kept m c o false may p = p
  call-kept m c o true may p =
      kept m.hub (shared_entry m.env c o) refl (and-right (may_call m.env && not (is_full (room_of m c) c)) (hub_step m.hub (shared_entry m.env c o)).may may) p

  end-kept : (m : Machine) (v : Option HandleId) (cut : Option Why) (may b : Bool) → IsTrue (end_step_on b m (end_change v cut m.env) may).may → P m.hub
      → P (end_step_on b m (end_change v cut m.env) may).after.hub
  end-kept m v cut may false comes p = p
  end-kept m v cut may true comes p =
      let x : Entry = (end_change v cut m.env).entry in
      kept m.hub x (ap is_environment (ended-ends v cut m.env).who) (and-right may (hub_step m.hub x).may comes) p

  asked-kept : (m : Machine) (a : Ask) (o : Out) → IsTrue (asked_step m a o).may → P m.hub → P (asked_step m a o).after.hub
  asked-kept m (ask.Do c) o may p = call-kept m c o (is_shared c) may p
  asked-kept m (ask.Leave v) o may p = end-kept m v None (may_ask m.env) (is_hub_duty (duty_of m.env.frames)) may p

  frame-kept : (m : Machine) (a : Ask) (o : Out) (cut : Option Why) → IsTrue (frame_step m a o cut).may → P m.hub → P (frame_step m a o cut).after.hub
  frame-kept m a o None may p = asked-kept m a o may p
  frame-kept m a o (Some w) may p = end-kept m None (Some w) (may_cut m a w) (is_hub_duty (duty_of m.env.frames)) may p

  pub env-kept : (m : Machine) (a : Ask) (o : Out) (fs : List Frame) → IsTrue (env_step m a o fs).may → P m.hub → P (env_step m a o fs).after.hub
  env-kept m a o [] may p = chosen-kept m (choice m) may p
  env-kept m a o (f ∷ fs) may p = frame-kept m a o (cut_of o) may p

-- WHAT EACH ENTRY KEEPS
-- what each step of the hub keeps, every run keeps of its hub
module _ (P : Hub → Type 0) (kept : (h : Hub) (y : Entry) → IsTrue (hub_step h y).may → P h → P (hub_step h y).after) where
  of-kept : (m : Machine) (a : Ask) (x : Entry) (who : Actor) → IsTrue (step_of m a x who).may → P m.hub → P (step_of m a x who).after.hub
  of-kept m a x actor.Env may p = env-kept P (λ h y who. kept h y) m a x.reply.out m.env.frames may p
  of-kept m a x _ may p = kept m.hub x (and-right (has_room m x.what) (hub_step m.hub x).may may) p

  pub hub-kept : (m : Machine) (bs : List Ask) (xs : List Entry) → IsRunBy m bs xs → P m.hub → P (final m bs xs).hub
  hub-kept = along-run (λ m. P m.hub) (λ m a x next p. of-kept m a x x.actor next.1 p)
