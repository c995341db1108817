-- The room in the history suffices over all runs.
use Rattle.std.proofs.Common.{◌≡◌, ◌≤◌, ℕ, ◌+◌, ◌*◌, Bool, true, false, not, nat_lt, List, [], length, IsTrue, refl, ap, sym, ◌∙◌, subst, Option, Some, None, arith, ◌⊎◌, inl, inr}
use Rattle.std.proofs.lemmas.List.FromFn.{length-range_with_len}
use Rattle.std.specs.List.{range_with_len}
use Rattle.napi_types.specs.declared.call.Ask.{Ask}
use Rattle.napi_types.specs.declared.call.Call.{Call}
use Rattle.napi_types.specs.declared.entry.Actor.{Actor}
use Rattle.napi_types.specs.declared.entry.Actor.TheVariants as actor
use Rattle.napi_types.specs.declared.entry.Entry.{Entry}
use Rattle.napi_types.specs.declared.entry.HostStep.TheVariants as host
use Rattle.napi_types.specs.declared.entry.Limits.{Limits}
use Rattle.napi_types.specs.declared.entry.Out.{Out}
use Rattle.napi_types.specs.declared.entry.Out.TheVariants as out
use Rattle.napi_types.specs.declared.entry.Phase.{Phase}
use Rattle.napi_types.specs.declared.entry.What.{What}
use Rattle.napi_types.specs.declared.entry.What.TheVariants as what
use Rattle.napi_types.specs.declared.entry.Why.{Why}
use Rattle.napi_types.specs.declared.ids.HandleId.{HandleId}
use Rattle.napi_types.specs.plain.Entries.{host_entry, is_environment}
use Rattle.napi_types.specs.plain.Guards.{is_shared}
use Rattle.napi_types.specs.plain.Lists.{has_number}
use Rattle.napi_types.specs.plain.Room.{Room, is_full, need}
use Rattle.napi_types.specs.parts.Book.{Registration, registration_at}
use Rattle.napi_types.specs.environment.Changes.{may_call}
use Rattle.napi_types.specs.environment.Ends.{end_change}
use Rattle.napi_types.specs.environment.SharedCalls.{shared_entry}
use Rattle.napi_types.specs.hub.HistoryRoom.{history_room, reserved_history}
use Rattle.napi_types.specs.hub.Hub.{Hub, is_past_drain, Stage, Final, left_of}
use Rattle.napi_types.specs.hub.HubMoves.{HubMove, Delivers, Closes, Finishes, hub_move, is_spent}
use Rattle.napi_types.specs.hub.HubEvents.{delivery_entry}
use Rattle.napi_types.specs.hub.HubSteps.{hub_step, hub_step_of}
use Rattle.napi_types.specs.hub.ThreadSteps.{thread_step}
use Rattle.napi_types.specs.hub.WorkerSteps.{worker_step}
use Rattle.napi_types.specs.runs.CallRoom.{room_of}
use Rattle.napi_types.specs.runs.Choice.{local_choice, hub_choice, choice, waiting_hooks}
use Rattle.napi_types.specs.runs.Loop.{Event, Inits, Opens, Tickets, Moves, Goes, EndsLoop, Drains, FinalsCome, IsGone, Abandons}
use Rattle.napi_types.specs.runs.Machine.{Machine}
use Rattle.napi_types.specs.runs.Run.{IsRunBy, final}
use Rattle.napi_types.specs.runs.Setting.{Setting, opening_of}
use Rattle.napi_types.specs.runs.Step.{ticket_step, move_step, event_step, end_step_on, has_room, other_step, shared_call_step, step, Step}
use Rattle.napi_types.proofs.plain.Conditions.{and-left, and-right, not-true}
use Rattle.napi_types.proofs.plain.Maps.{filter_all}
use Rattle.napi_types.proofs.environment.FrameEnds.{ended-ends}
use Rattle.napi_types.proofs.hub.HubCases.{HubCase, hub-case}
use Rattle.napi_types.proofs.hub.HubHolds.{HubSound, hub-sound, spent-holds, opening-sound}
use Rattle.napi_types.proofs.hub.HubKeeps.{other-calls, thread-shared}
use Rattle.napi_types.proofs.hub.HubRooms.{places_beside, hub-room}
use Rattle.napi_types.proofs.runs.CallRooms.{shared-room}
use Rattle.napi_types.proofs.runs.Chosen as choices
use Rattle.napi_types.proofs.runs.Chosen.{OwnChoice, HubChoice, own-choice, hub-choice, chosen-by}
use Rattle.napi_types.proofs.runs.Forms as form
use Rattle.napi_types.proofs.runs.Forms.{Form, form-of}
use Rattle.napi_types.proofs.runs.Runs.{along-run}

-- THE HISTORY
-- the hub holds what holds of it, and the history is within its limit, where the limits suffice; once `finals` has come it owes nothing
pub record HubRoomy (Enough : Type 0) (l : Limits) (m : Machine) : Type 0 where
  pub limits : m.limits ≡ l
  pub sound : HubSound m.hub
  pub history : Enough → m.history_length + reserved_history m.hub ≤ l.history
  pub spent : m.hub.stage ≡ Final → reserved_history m.hub ≡ 0

event-fits : (k a b x : ℕ) → a + 1 ≤ b + 0 → k + b ≤ x → k + 1 + a ≤ x
event-fits k a b x falls h = omega (arith, falls, h)

called-fits : (k a b n x : ℕ) → a + 1 ≤ b + n → nat_lt x (k + b + n) ≡ false → k + 1 + a ≤ x
called-fits k a b n x grows free = grind arith

-- the machine n comes of m by the hub's step at an entry: a call has room, and is told what it was given; and `finals` comes once nothing is left to do
record StepsHub (m n : Machine) (y : Entry) : Type 0 where
  pub limits : n.limits ≡ m.limits
  pub hub : n.hub ≡ (hub_step m.hub y).after
  pub length : n.history_length ≡ m.history_length + 1
  pub may : IsTrue (hub_step m.hub y).may
  pub free : (c : Call) → y.what ≡ what.Call c → (is_shared c ≡ true) × (is_full (room_of m c) c ≡ false)
  pub told : (c : Call) → y.what ≡ what.Call c → (hub_step m.hub y).entry.reply.out ≡ y.reply.out
  pub finals : y.what ≡ what.Host host.Finals → (hub_move m.hub ≡ None) × (is_spent m.hub ≡ true)

hub-stepped : (Enough : Type 0) (l : Limits) (m n : Machine) (y : Entry) → StepsHub m n y → HubRoomy Enough l m → HubRoomy Enough l n
hub-stepped Enough l m n y k r = record {
  limits = k.limits ∙ r.limits;
  sound = subst HubSound (sym k.hub) (hub-sound m.hub y told left k.told r.sound case);
  history = λ enough. rw (k.hub, k.length) (by y.what refl (hub-room (is_past_drain m.hub.stage) m.hub y told left r.sound.functions case) enough);
  spent =
      λ final. ap reserved_history k.hub
      ∙ spent-holds m.hub y told left r.sound k.finals r.spent case (ap (λ (h : Hub). h.stage) (sym k.hub) ∙ final);
}
  where
    told : Out
    told = (hub_step m.hub y).entry.reply.out

    left : Hub
    left = (hub_step m.hub y).after

    case : HubCase m.hub y told left
    case = hub-case m.hub y k.may

    by : (w : What) → y.what ≡ w → reserved_history left + 1 ≤ reserved_history m.hub + places_beside w → Enough → m.history_length + 1 + reserved_history left ≤ l.history
    by (what.Host event) is fits enough = event-fits m.history_length (reserved_history left) (reserved_history m.hub) l.history fits (r.history enough)
    by (what.Call c) is fits enough =
        let there : (is_shared c ≡ true) × (is_full (room_of m c) c ≡ false) = k.free c is in
        let P : Limits → Type 0 = λ q. m.history_length + 1 + reserved_history left ≤ q.history in
        subst P r.limits
        (called-fits m.history_length (reserved_history left) (reserved_history m.hub) (need c) m.limits.history fits (ap (λ x. is_full x c) (sym (shared-room m c there.0)) ∙ there.1))

-- an event that is neither a call nor `finals`
abbrev is_plain : What → Bool
is_plain (what.Call c) = false
is_plain (what.Host host.Finals) = false
is_plain (what.Host _) = true

plain-stepped : (Enough : Type 0) (l : Limits) (m n : Machine) (y : Entry) → is_plain y.what ≡ true → n.limits ≡ m.limits → n.hub ≡ (hub_step m.hub y).after
    → n.history_length ≡ m.history_length + 1 → IsTrue (hub_step m.hub y).may → HubRoomy Enough l m → HubRoomy Enough l n
plain-stepped Enough l m n y plain limits hub length may r =
    hub-stepped Enough l m n y (record {
      limits = limits;
      hub = hub;
      length = length;
      may = may;
      free = λ c is. let no : false ≡ true = sym (ap is_plain is) ∙ plain in cc;
      told = λ c is. let no : false ≡ true = sym (ap is_plain is) ∙ plain in cc;
      finals = λ is. let no : false ≡ true = sym (ap is_plain is) ∙ plain in cc;
    }) r

hub-stays : (Enough : Type 0) (l : Limits) (m n : Machine) → n.limits ≡ m.limits → n.hub ≡ m.hub → n.history_length ≡ m.history_length → HubRoomy Enough l m → HubRoomy Enough l n
hub-stays Enough l m n limits hub length r = record {
  limits = limits ∙ r.limits;
  sound = subst HubSound (sym hub) r.sound;
  history = λ enough. rw (hub, length) (r.history enough);
  spent = λ final. ap reserved_history hub ∙ r.spent (ap (λ (h : Hub). h.stage) (sym hub) ∙ final);
}

-- WHEN FINALS COMES
-- the environment never decides it, and the hub once nothing is left to do
finals-spent : (m : Machine) → choice m ≡ Some FinalsCome → (hub_move m.hub ≡ None) × (is_spent m.hub ≡ true)
finals-spent m next = by (chosen-by m FinalsCome next)
  where
    own : (p : Phase) → OwnChoice m.env p FinalsCome → ⊥
    own p c = elim c [ ]

    of-hub : (s : Stage) → HubChoice m.hub (waiting_hooks m.env) s FinalsCome → (hub_move m.hub ≡ None) × (is_spent m.hub ≡ true)
    of-hub _ (choices.finals none spent) = (none, spent)

    by : (local_choice m.env ≡ Some FinalsCome) ⊎ ((local_choice m.env ≡ None) × (hub_choice m.hub (waiting_hooks m.env) ≡ Some FinalsCome))
        → (hub_move m.hub ≡ None) × (is_spent m.hub ≡ true)
    by (inl mine) = absurd (own m.env.phase (own-choice m.env m.env.phase FinalsCome mine))
    by (inr its) = of-hub m.hub.stage (hub-choice m.hub (waiting_hooks m.env) m.hub.stage FinalsCome its.1)

-- EACH STEP OF THE HUB
ticket-hub : (Enough : Type 0) (l : Limits) (m : Machine) (n : ℕ) (o : Option Registration) → HubRoomy Enough l m → HubRoomy Enough l (ticket_step m n o).after
ticket-hub Enough l m n None r = r
ticket-hub Enough l m n (Some q) r = hub-stays Enough l m (ticket_step m n (Some q)).after refl refl refl r

move-hub : (Enough : Type 0) (l : Limits) (m : Machine) (move : HubMove) → IsTrue (move_step m move).may → HubRoomy Enough l m → HubRoomy Enough l (move_step m move).after
move-hub Enough l m (Delivers d) may r = plain-stepped Enough l m _ (delivery_entry d) refl refl refl refl may r
move-hub Enough l m (Closes n) may r = plain-stepped Enough l m _ (host_entry host.CloseTsfn (out.Function (record { 0 = n }))) refl refl refl refl may r
move-hub Enough l m (Finishes n) may r = plain-stepped Enough l m _ (host_entry host.FinishTsfn (out.Function (record { 0 = n }))) refl refl refl refl may r

event-hub : (Enough : Type 0) (l : Limits) (m : Machine) (event : Event) → choice m ≡ Some event → IsTrue (event_step m event).may → HubRoomy Enough l m
    → HubRoomy Enough l (event_step m event).after
event-hub Enough l m Opens next may r = hub-stays Enough l m _ refl refl refl r
event-hub Enough l m (Inits n) next may r = hub-stays Enough l m _ refl refl refl r
event-hub Enough l m (Tickets n) next may r = ticket-hub Enough l m n (registration_at m.env.book n) r
event-hub Enough l m (Moves move) next may r = move-hub Enough l m move may r
event-hub Enough l m Goes next may r = plain-stepped Enough l m _ (host_entry host.Go out.Nothing) refl refl refl refl may r
event-hub Enough l m (EndsLoop w) next may r = plain-stepped Enough l m _ (host_entry host.LoopEnd (out.Ended w)) refl refl refl refl may r
event-hub Enough l m Abandons next may r = plain-stepped Enough l m _ (host_entry host.Abandon (out.Unsigned (waiting_hooks m.env))) refl refl refl refl may r
event-hub Enough l m Drains next may r = plain-stepped Enough l m _ (host_entry host.Drain (out.Unsigned (length m.hub.pool.queued))) refl refl refl refl may r
event-hub Enough l m FinalsCome next may r =
    hub-stepped Enough l m _ (host_entry host.Finals out.Nothing)
    (record { limits = refl; hub = refl; length = refl; may = may; free = λ c is. cc; told = λ c is. cc; finals = λ is. finals-spent m next }) r
event-hub Enough l m IsGone next may r = hub-stays Enough l m _ refl refl refl r

call-hub : (Enough : Type 0) (l : Limits) (m : Machine) (c : Call) (o : Out) → is_shared c ≡ true → (shared_call_step m c o).entry.reply.out ≡ o
    → IsTrue (shared_call_step m c o).may
    → HubRoomy Enough l m → HubRoomy Enough l (shared_call_step m c o).after
call-hub Enough l m c o is told may r =
    let x : Entry = shared_entry m.env c o in
    let free : is_full (room_of m c) c ≡ false = not-true (is_full (room_of m c) c) (and-right (may_call m.env) (not (is_full (room_of m c) c)) (and-left _ (hub_step m.hub x).may may)) in
    hub-stepped Enough l m _ x (record {
      limits = refl;
      hub = refl;
      length = refl;
      may = and-right _ (hub_step m.hub x).may may;
      free = λ d same. let called : c ≡ d = cc in subst (λ e. (is_shared e ≡ true) × (is_full (room_of m e) e ≡ false)) called (is, free);
      told = λ d same. told;
      finals = λ same. cc;
    }) r

end-hub : (Enough : Type 0) (l : Limits) (m : Machine) (v : Option HandleId) (w : Option Why) (may : Bool) (b : Bool) → IsTrue (end_step_on b m (end_change v w m.env) may).may
    → HubRoomy Enough l m → HubRoomy Enough l (end_step_on b m (end_change v w m.env) may).after
end-hub Enough l m v w may false h r = hub-stays Enough l m _ refl refl refl r
end-hub Enough l m v w may true h r =
    let x : Entry = (end_change v w m.env).entry in
    plain-stepped Enough l m _ x (ap is_plain (ended-ends v w m.env).is) refl refl refl (and-right may (hub_step m.hub x).may h) r

-- a thread or a worker never makes `finals`
others-finals : (h : Hub) (x : Entry) (who : Actor) → is_environment who ≡ false → x.what ≡ what.Host host.Finals → IsTrue (hub_step_of h x who).may → ⊥
others-finals h x actor.Env other is may = cc
others-finals h x (actor.Thread t) other is may = let no : IsTrue false = subst (λ w. IsTrue (thread_step h t x w).may) is may in cc
others-finals h x (actor.Worker w) other is may = let no : IsTrue false = subst (λ v. IsTrue (worker_step h w x v).may) is may in cc

other-hub : (Enough : Type 0) (l : Limits) (m : Machine) (x : Entry) → is_environment x.actor ≡ false → x ≡ (other_step m x).entry → IsTrue (other_step m x).may
    → HubRoomy Enough l m → HubRoomy Enough l (other_step m x).after
other-hub Enough l m x other is may r =
    let moves : IsTrue (hub_step m.hub x).may = and-right (has_room m x.what) (hub_step m.hub x).may may in
    hub-stepped Enough l m _ x (record {
      limits = refl;
      hub = refl;
      length = refl;
      may = moves;
      free = λ c calls.
          let room : IsTrue (has_room m (what.Call c)) = subst (λ w. IsTrue (has_room m w)) calls (and-left (has_room m x.what) (hub_step m.hub x).may may) in
          let shares : is_shared c ≡ true = thread-shared c (other-calls m.hub x c other calls moves) in
          (shares, ap (λ (r : Room). is_full r c) (shared-room m c shares) ∙ not-true (is_full (history_room m.hub m.history_length m.limits.history) c) room);
      told = λ c calls. sym (ap (λ (y : Entry). y.reply.out) is);
      finals = λ comes. absurd (others-finals m.hub x x.actor other comes moves);
    }) r

form-hub : (Enough : Type 0) (l : Limits) (m : Machine) (s : Step) → Form m s → IsTrue s.may → HubRoomy Enough l m → HubRoomy Enough l s.after
form-hub Enough l m s (form.calls f fs stands c o local) may r = hub-stays Enough l m s.after refl refl refl r
form-hub Enough l m _ (form.shares f fs stands c o is told) may r = call-hub Enough l m c o is told may r
form-hub Enough l m _ (form.ends f fs stands v cut b ours is) may r = end-hub Enough l m v cut b ours may r
form-hub Enough l m _ (form.happens alone event next) may r = event-hub Enough l m event next may r
form-hub Enough l m _ (form.others x other told) may r = other-hub Enough l m x other told may r

pub hub-run : (Enough : Type 0) (l : Limits) (m : Machine) (bs : List Ask) (xs : List Entry) → HubRoomy Enough l m → IsRunBy m bs xs → HubRoomy Enough l (final m bs xs)
hub-run Enough l m bs xs r run = along-run (HubRoomy Enough l) (λ m a x next. form-hub Enough l m (step m a x) (form-of m a x next) next.1) m bs xs run r

-- A WHOLE RUN
-- the limit of the history has room for the events that every run has
abbrev pub HistorySuffices : Setting → Type 0
HistorySuffices s = 5 + s.threads + s.workers ≤ s.limits.history

all-left : (n : ℕ) → length (left_of n []) ≡ n
all-left n = ap length (filter_all (λ k. not (has_number k [])) (range_with_len 0 n) (λ k d inside. refl)) ∙ length-range_with_len 0 n

history-opens : (t w a b x : ℕ) → a ≡ t → b ≡ w → 5 + t + w ≤ x → 0 + (5 + a + b + (4 * 0 + 3 * 0 + 2 * 0) + 0 + 0) ≤ x
history-opens t w a b x e f h = omega (arith, e, f, h)

pub opening-hub : (s : Setting) → HubRoomy (HistorySuffices s) s.limits (opening_of s)
opening-hub s = record {
  limits = refl;
  sound = opening-sound s.threads s.workers;
  spent = λ final. let no : ⊥ = cc in absurd no;
  history =
      λ enough. history-opens s.threads s.workers (length (left_of s.threads [])) (length (left_of s.workers [])) s.limits.history (all-left s.threads) (all-left s.workers) enough;
}
