-- Each entry of a run leaves the hub as it is, or is the one of a step of the hub.
use Rattle.std.proofs.Common.{◌≡◌, ℕ, not, ◌&&◌, IsTrue, refl}
use Rattle.napi_types.specs.declared.call.Call.{Call}
use Rattle.napi_types.specs.declared.entry.Actor.TheVariants as actor
use Rattle.napi_types.specs.declared.entry.Entry.{Entry}
use Rattle.napi_types.specs.declared.entry.HostStep.TheVariants as host
use Rattle.napi_types.specs.declared.entry.Out.TheVariants as out
use Rattle.napi_types.specs.plain.Entries.{host_entry}
use Rattle.napi_types.specs.plain.Room.{is_full}
use Rattle.napi_types.specs.environment.Changes.{may_call}
use Rattle.napi_types.specs.environment.Ends.{end_change}
use Rattle.napi_types.specs.environment.Entering.{asked_change}
use Rattle.napi_types.specs.environment.Environment.{Environment}
use Rattle.napi_types.specs.environment.SharedCalls.{shared_entry}
use Rattle.napi_types.specs.hub.Hub.{Hub}
use Rattle.napi_types.specs.hub.HubEvents.{delivery_entry}
use Rattle.napi_types.specs.hub.HubMoves.{HubMove, Delivers, Closes, Finishes}
use Rattle.napi_types.specs.hub.HubSteps.{hub_step}
use Rattle.napi_types.specs.runs.CallRoom.{room_of}
use Rattle.napi_types.specs.runs.Choice.{waiting_hooks}
use Rattle.napi_types.specs.runs.Machine.{Machine}
use Rattle.napi_types.specs.runs.Step.{Step, move_step, has_room}
use Rattle.napi_types.proofs.plain.Conditions.{and-right}
use Rattle.napi_types.proofs.environment.Cases.{asked-by}
use Rattle.napi_types.proofs.environment.FrameEnds.{ended-ends}
use Rattle.napi_types.proofs.runs.StepCases.{StepCase, calls, ends, opens, inits, begins, vanishes, shares, leaves, passes, moves, others, event_before, abandons}

-- the entry stands in the journal and leaves the hub, or is the one of a step of the hub
pub data EntryOf (h : Hub) (x : Entry) : Hub → Type 0 where
  leaves_hub : (n : Hub) → n ≡ h → x.actor ≡ actor.Env → EntryOf h x n
  steps_hub : (y : Entry) → x ≡ (hub_step h y).entry → IsTrue (hub_step h y).may → EntryOf h x (hub_step h y).after

asked-actor : (e : Environment) (c : Call) (n : ℕ) → (asked_change e c n).entry.actor ≡ actor.Env
asked-actor e c n = asked-by e c n (λ d. d.entry.actor ≡ actor.Env) refl (λ receiver f args none. refl)

move-of : (m : Machine) (move : HubMove) → IsTrue (move_step m move).may → EntryOf m.hub (move_step m move).entry (move_step m move).after.hub
move-of m (Delivers d) may = steps_hub (delivery_entry d) refl may
move-of m (Closes n) may = steps_hub (host_entry host.CloseTsfn (out.Function (record { 0 = n }))) refl may
move-of m (Finishes n) may = steps_hub (host_entry host.FinishTsfn (out.Function (record { 0 = n }))) refl may

pub case-of : (m : Machine) (s : Step) → StepCase m s → IsTrue s.may → EntryOf m.hub s.entry s.after.hub
case-of m s (calls c n may alone) ok = leaves_hub m.hub refl (asked-actor m.env c n)
case-of m s (ends v cut may alone) ok = leaves_hub m.hub refl (ended-ends v cut m.env).who
case-of m s opens ok = leaves_hub m.hub refl refl
case-of m s (inits n) ok = leaves_hub m.hub refl refl
case-of m s (begins n r there next may) ok = leaves_hub m.hub refl refl
case-of m s (vanishes last) ok = leaves_hub m.hub refl refl
case-of m s (shares c o is answers) ok =
    steps_hub (shared_entry m.env c o) refl (and-right (may_call m.env && not (is_full (room_of m c) c)) (hub_step m.hub (shared_entry m.env c o)).may ok)
case-of m s (leaves v cut may ours) ok = steps_hub (end_change v cut m.env).entry refl (and-right may (hub_step m.hub (end_change v cut m.env).entry).may ok)
case-of m s (passes p o q) ok = steps_hub (host_entry (event_before p) o) refl ok
case-of m s (abandons here far none alone) ok = steps_hub (host_entry host.Abandon (out.Unsigned (waiting_hooks m.env))) refl ok
case-of m s (moves move next moving alone) ok = move-of m move ok
case-of m s (others x other) ok = steps_hub x refl (and-right (has_room m x.what) (hub_step m.hub x).may ok)
