-- The history of a run leads to its hub. Where others went on behind a prefix, the environment and the hub are joined.
use Rattle.std.proofs.Common.{◌≡◌, ◌∙◌, ℕ, suc, ◌+◌, ◌==◌, Bool, true, false, not, ◌&&◌, List, [], ◌∷◌, ◌++◌, length, map, filter, IsTrue, refl, ap, sym, subst, arith, Option, Some, None}
use Rattle.napi_types.specs.declared.call.Ask.{Ask}
use Rattle.napi_types.specs.declared.call.Call.{Call}
use Rattle.napi_types.specs.declared.duties.DueInfo.{DueInfo}
use Rattle.napi_types.specs.declared.entry.Actor.TheVariants as actor
use Rattle.napi_types.specs.declared.entry.Entry.{Entry}
use Rattle.napi_types.specs.declared.entry.Given.{Given}
use Rattle.napi_types.specs.declared.entry.HostStep.{HostStep}
use Rattle.napi_types.specs.declared.entry.HostStep.TheVariants as host
use Rattle.napi_types.specs.declared.entry.Limits.{Limits}
use Rattle.napi_types.specs.declared.entry.Local.{Local}
use Rattle.napi_types.specs.declared.entry.Out.{Out}
use Rattle.napi_types.specs.declared.entry.Out.TheVariants as out
use Rattle.napi_types.specs.declared.entry.What.TheVariants as what
use Rattle.napi_types.specs.declared.entry.Why.{Why}
use Rattle.napi_types.specs.declared.ids.HandleId.{HandleId}
use Rattle.napi_types.specs.plain.Entries.{host_entry}
use Rattle.napi_types.specs.plain.Guards.{is_shared}
use Rattle.napi_types.specs.plain.Replies.{Answer}
use Rattle.napi_types.specs.plain.Room.{Room, is_full, fits_in}
use Rattle.napi_types.specs.plain.Weave.{Side, Journal, History, weave_by, weave}
use Rattle.napi_types.specs.parts.Book.{Registration, registration_at}
use Rattle.napi_types.specs.environment.Changes.{may_call}
use Rattle.napi_types.specs.environment.Ends.{end_change}
use Rattle.napi_types.specs.environment.Environment.{Environment}
use Rattle.napi_types.specs.environment.SharedCalls.{given_of, shared_entry}
use Rattle.napi_types.specs.hub.GivenSteps.{fits_stage, is_fresh_work, work_number, answer_unless_given}
use Rattle.napi_types.specs.hub.HistoryRoom.{history_room}
use Rattle.napi_types.specs.hub.Hub.{Hub, new_hub}
use Rattle.napi_types.specs.hub.HubEvents.{delivery_entry, begin_step, close_step, finish_step, frame_end_step}
use Rattle.napi_types.specs.hub.HubMoves.{HubMove, Delivers, Closes, Finishes, hub_move}
use Rattle.napi_types.specs.hub.HubStep.{HubStep, answered_step}
use Rattle.napi_types.specs.hub.HubSteps.{IsHubNext, hub_step, hub_step_of, environment_step, hub_along}
use Rattle.napi_types.specs.hub.Replays.{HubReplays}
use Rattle.napi_types.specs.runs.CallRoom.{room_of}
use Rattle.napi_types.specs.runs.Choice.{waiting_hooks}
use Rattle.napi_types.specs.runs.Loop.{Event, Tickets, Moves, Goes, EndsLoop, Drains, FinalsCome, Abandons}
use Rattle.napi_types.specs.runs.Machine.{Machine}
use Rattle.napi_types.specs.runs.Parting.{IsParted, sides_along}
use Rattle.napi_types.specs.runs.Run.{IsRunBy, after, final}
use Rattle.napi_types.specs.runs.Setting.{Setting, opening_of, final_of}
use Rattle.napi_types.specs.runs.Step.{Step, shared, ticket_step, move_step, event_step, end_step_on, shared_call_step, has_room, step}
use Rattle.napi_types.specs.all_runs.HubLaws.{PrefixesJoin, HistoriesLeadToTheirHub}
use Rattle.napi_types.proofs.plain.Conditions.{and-left, and-right}
use Rattle.napi_types.proofs.plain.Tallies.{none-more}
use Rattle.napi_types.proofs.environment.FrameEnds.{ended-ends}
use Rattle.napi_types.proofs.hub.GrowingHistories.{prefixes-replay}
use Rattle.napi_types.proofs.hub.HubKeeps.{hub_step-what}
use Rattle.napi_types.proofs.runs.CallRooms.{shared-room}
use Rattle.napi_types.proofs.runs.Forms as form
use Rattle.napi_types.proofs.runs.Forms.{Form, form-of}
use Rattle.napi_types.proofs.runs.Runs.{along-entries}

-- THE ENTRY OF A STEP
-- the hub's step at the entry of its own step is that step
abbrev IsItsOwn : Hub → HubStep → Type 0
IsItsOwn h s = hub_step h s.entry ≡ s

call-own : (h : Hub) (e : Environment) (c : Call) (o : Out) → (hub_step h (shared_entry e c o)).entry.reply.out ≡ o → IsTrue (hub_step h (shared_entry e c o)).may
    → IsItsOwn h (hub_step h (shared_entry e c o))
call-own h e c o told may = by (answer_unless_given h g c (work_number o) g.refused) refl told may
  where
    g : Given
    g = given_of e c

    x : Entry
    x = shared_entry e c o

    may_come : Out → Bool
    may_come told = is_shared c && fits_stage h.stage c g.refused && is_fresh_work h told

    by : (r : Option (Answer Hub)) → answer_unless_given h g c (work_number o) g.refused ≡ r → (answered_step h x (may_come o) r).entry.reply.out ≡ o
        → IsTrue (answered_step h x (may_come o) r).may → IsItsOwn h (answered_step h x (may_come o) r)
    by None is told may = cc
    by (Some a) is told may =
        ap (λ t. answered_step h (record x { reply = a.reply }) (may_come t) (answer_unless_given h g c (work_number t) g.refused)) told
        ∙ ap (answered_step h (record x { reply = a.reply }) (may_come o)) is

begin-own : (h : Hub) (x : Entry) (o : Option HubMove) → hub_move h ≡ o → IsTrue (begin_step h x o).may → IsItsOwn h (begin_step h x o)
begin-own h x (Some (Delivers d)) next may = ap (begin_step h (delivery_entry d)) next
begin-own h x _ next may = cc

close-own : (h : Hub) (x : Entry) (o : Option HubMove) → hub_move h ≡ o → IsTrue (close_step h x o).may → IsItsOwn h (close_step h x o)
close-own h x (Some (Closes n)) next may = ap (close_step h (host_entry host.CloseTsfn (out.Function (record { 0 = n })))) next
close-own h x _ next may = cc

finish-own : (h : Hub) (x : Entry) (o : Option HubMove) → hub_move h ≡ o → IsTrue (finish_step h x o).may → IsItsOwn h (finish_step h x o)
finish-own h x (Some (Finishes n)) next may = ap (finish_step h (host_entry host.FinishTsfn (out.Function (record { 0 = n })))) next
finish-own h x _ next may = cc

end-own : (h : Hub) (x : Entry) → x.actor ≡ actor.Env → x.what ≡ what.Host host.End → IsTrue (hub_step h x).may → IsItsOwn h (hub_step h x)
end-own h x who is may = subst (IsItsOwn h) (sym ends) (by h.standing refl (subst (λ (s : HubStep). IsTrue s.may) ends may))
  where
    ends : hub_step h x ≡ frame_end_step h x h.standing
    ends = ap (hub_step_of h x) who ∙ ap (environment_step h x) is

    by : (o : Option DueInfo) → h.standing ≡ o → IsTrue (frame_end_step h x o).may → IsItsOwn h (frame_end_step h x o)
    by None stands may = cc
    by (Some d) stands may = ap (frame_end_step h (host_entry host.End x.reply.out)) stands

-- ONE STEP
-- in the journal the hub and the history stay
record Stays (m n : Machine) : Type 0 where
  pub hub : n.hub ≡ m.hub
  pub length : n.history_length ≡ m.history_length

-- in the history it is the hub's next, with room for it
record StepsHistory (m : Machine) (x : Entry) (n : Machine) : Type 0 where
  pub next : IsHubNext m.hub x
  pub fits : IsTrue (fits_in (history_room m.hub m.history_length m.limits.history) x.what)
  pub hub : n.hub ≡ (hub_step m.hub x).after
  pub length : n.history_length ≡ m.history_length + 1

abbrev StepsOn : Machine → Side → Entry → Machine → Type 0
StepsOn m Journal x n = Stays m n
StepsOn m History x n = StepsHistory m x n

record StepsOnList (m : Machine) (s : Step) : Type 0 where
  pub limits : s.after.limits ≡ m.limits
  pub stands : StepsOn m s.side s.entry s.after

shared-stands : (m : Machine) (s : HubStep) (e : Environment) (may : Bool) → IsItsOwn m.hub s → IsTrue s.may
    → IsTrue (fits_in (history_room m.hub m.history_length m.limits.history) s.entry.what) → StepsOnList m (shared m s e may)
shared-stands m s e may own ok fits = record {
  limits = refl;
  stands = record {
    next = record { entry = ap (λ (t : HubStep). t.entry) (sym own); may = subst (λ (t : HubStep). IsTrue t.may) (sym own) ok };
    fits = fits;
    hub = ap (λ (t : HubStep). t.after) (sym own);
    length = refl;
  };
}

-- an event has a place of its own
event-stands : (m : Machine) (y : Entry) (event : HostStep) (e : Environment) (may : Bool) → y.what ≡ what.Host event → IsItsOwn m.hub (hub_step m.hub y)
    → IsTrue (hub_step m.hub y).may → StepsOnList m (shared m (hub_step m.hub y) e may)
event-stands m y event e may is own ok =
    shared-stands m (hub_step m.hub y) e may own ok
    (subst (λ w. IsTrue (fits_in (history_room m.hub m.history_length m.limits.history) w)) (sym (hub_step-what m.hub y ∙ is)) refl)

call-stands : (m : Machine) (c : Call) (o : Out) → is_shared c ≡ true → (shared_call_step m c o).entry.reply.out ≡ o → IsTrue (shared_call_step m c o).may
    → StepsOnList m (shared_call_step m c o)
call-stands m c o is told may =
    let y : Entry = shared_entry m.env c o in
    let room : IsTrue (not (is_full (room_of m c) c)) =
    and-right (may_call m.env) (not (is_full (room_of m c) c)) (and-left _ (hub_step m.hub y).may may) in
    let ok : IsTrue (hub_step m.hub y).may = and-right _ (hub_step m.hub y).may may in
    shared-stands m (hub_step m.hub y) _ _ (call-own m.hub m.env c o told ok) ok
    (subst (λ w. IsTrue (fits_in (history_room m.hub m.history_length m.limits.history) w)) (sym (hub_step-what m.hub y))
    (ap (λ (r : Room). not (is_full r c)) (sym (shared-room m c is)) ∙ room))

end-stands : (m : Machine) (v : Option HandleId) (cut : Option Why) (may ours : Bool) → IsTrue (end_step_on ours m (end_change v cut m.env) may).may
    → StepsOnList m (end_step_on ours m (end_change v cut m.env) may)
end-stands m v cut may false ok = record { limits = refl; stands = record { hub = refl; length = refl } }
end-stands m v cut may true ok =
    let y : Entry = (end_change v cut m.env).entry in
    let comes : IsTrue (hub_step m.hub y).may = and-right may (hub_step m.hub y).may ok in
    let ends = ended-ends v cut m.env in
    event-stands m y host.End _ may ends.is (end-own m.hub y ends.who ends.is comes) comes

ticket-stands : (m : Machine) (n : ℕ) (o : Option Registration) → StepsOnList m (ticket_step m n o)
ticket-stands m n None = record { limits = refl; stands = record { hub = refl; length = refl } }
ticket-stands m n (Some r) = record { limits = refl; stands = record { hub = refl; length = refl } }

move-stands : (m : Machine) (move : HubMove) → IsTrue (move_step m move).may → StepsOnList m (move_step m move)
move-stands m (Delivers d) may = event-stands m (delivery_entry d) host.Begin _ true refl (begin-own m.hub (delivery_entry d) (hub_move m.hub) refl may) may
move-stands m (Closes n) may =
    event-stands m (host_entry host.CloseTsfn (out.Function (record { 0 = n }))) host.CloseTsfn _ true refl (close-own m.hub _ (hub_move m.hub) refl may) may
move-stands m (Finishes n) may =
    event-stands m (host_entry host.FinishTsfn (out.Function (record { 0 = n }))) host.FinishTsfn _ true refl (finish-own m.hub _ (hub_move m.hub) refl may) may

happens-stands : (m : Machine) (event : Event) → IsTrue (event_step m event).may → StepsOnList m (event_step m event)
happens-stands m (Tickets n) may = ticket-stands m n (registration_at m.env.book n)
happens-stands m (Moves move) may = move-stands m move may
happens-stands m Goes may = event-stands m (host_entry host.Go out.Nothing) host.Go _ true refl refl may
happens-stands m (EndsLoop w) may = event-stands m (host_entry host.LoopEnd (out.Ended w)) host.LoopEnd _ true refl refl may
happens-stands m Abandons may = event-stands m (host_entry host.Abandon (out.Unsigned (waiting_hooks m.env))) host.Abandon _ true refl refl may
happens-stands m Drains may = event-stands m (host_entry host.Drain (out.Unsigned (length m.hub.pool.queued))) host.Drain _ true refl refl may
happens-stands m FinalsCome may = event-stands m (host_entry host.Finals out.Nothing) host.Finals _ true refl refl may
happens-stands m _ may = record { limits = refl; stands = record { hub = refl; length = refl } }

form-stands : (m : Machine) (s : Step) → Form m s → IsTrue s.may → StepsOnList m s
form-stands m _ (form.calls f fs stands c o local) may = record { limits = refl; stands = record { hub = refl; length = refl } }
form-stands m _ (form.shares f fs stands c o is told) may = call-stands m c o is told may
form-stands m _ (form.ends f fs stands v cut b ours is) may = end-stands m v cut b ours may
form-stands m _ (form.happens alone event next) may = happens-stands m event may
form-stands m _ (form.others x other told) may =
    shared-stands m (hub_step m.hub x) m.env _ (ap (hub_step m.hub) (sym told)) (and-right (has_room m x.what) (hub_step m.hub x).may may)
    (subst (λ (y : Entry). IsTrue (has_room m y.what)) told (and-left (has_room m x.what) (hub_step m.hub x).may may))

-- A RUN
-- those of some entries that stand in the history, where each stands on this list
abbrev from_history : List Side → List Entry → List Entry
from_history (History ∷ ts) (x ∷ xs) = x ∷ from_history ts xs
from_history (Journal ∷ ts) (x ∷ xs) = from_history ts xs
from_history _ _ = []

record Leads (m : Machine) (history : List Entry) (n : Machine) : Type 0 where
  pub replays : HubReplays m.limits.history m.hub m.history_length history
  pub hub : hub_along m.hub history ≡ n.hub
  pub counted : n.history_length ≡ m.history_length + length history
  pub limits : n.limits ≡ m.limits

leads-cons : (m n g : Machine) (t : Side) (x : Entry) (ts : List Side) (xs : List Entry) → n.limits ≡ m.limits → StepsOn m t x n
    → Leads n (from_history ts xs) g → Leads m (from_history (t ∷ ts) (x ∷ xs)) g
leads-cons m n g Journal x ts xs limits stands k = record {
  replays =
      subst (λ (l : Limits). HubReplays l.history m.hub m.history_length (from_history ts xs)) limits
      (subst (λ (h : Hub). HubReplays n.limits.history h m.history_length (from_history ts xs)) stands.hub
      (subst (λ p. HubReplays n.limits.history n.hub p (from_history ts xs)) stands.length k.replays));
  hub = ap (λ (h : Hub). hub_along h (from_history ts xs)) (sym stands.hub) ∙ k.hub;
  counted = k.counted ∙ ap (λ p. p + length (from_history ts xs)) stands.length;
  limits = k.limits ∙ limits;
}
leads-cons m n g History x ts xs limits stands k = record {
  replays = (
    stands.next,
    stands.fits,
    subst (λ (l : Limits). HubReplays l.history (hub_step m.hub x).after (m.history_length + 1) (from_history ts xs)) limits
        (subst (λ (h : Hub). HubReplays n.limits.history h (m.history_length + 1) (from_history ts xs)) stands.hub
        (subst (λ p. HubReplays n.limits.history n.hub p (from_history ts xs)) stands.length k.replays)),
  );
  hub = ap (λ (h : Hub). hub_along h (from_history ts xs)) (sym stands.hub) ∙ k.hub;
  counted = k.counted ∙ ap (λ p. p + length (from_history ts xs)) stands.length ∙ behind m.history_length (length (from_history ts xs));
  limits = k.limits ∙ limits;
}
  where
    behind : (p n : ℕ) → p + 1 + n ≡ p + suc n
    behind p n = omega arith

no-more : (n : ℕ) → n ≡ n + 0
no-more n = omega arith

run-leads : (m : Machine) (bs : List Ask) (xs : List Entry) → IsRunBy m bs xs → Leads m (from_history (sides_along m bs xs) xs) (final m bs xs)
run-leads =
    along-entries (λ m bs xs. Leads m (from_history (sides_along m bs xs) xs) (final m bs xs)) (λ m. record { replays = tt; hub = refl; counted = no-more m.history_length; limits = refl })
    (λ m a bs x xs next rest.
    let k : StepsOnList m (step m a x) = form-stands m (step m a x) (form-of m a x next) next.1 in
    leads-cons m (after m a x) (final (after m a x) bs xs) (step m a x).side x (sides_along (after m a x) bs xs) xs k.limits
    (subst (λ (y : Entry). StepsOn m (step m a x).side y (after m a x)) (sym next.0) k.stands) rest)

-- THE WEAVE
no-locals : (ls : List Local) → from_history (map (λ l. Journal) ls) (map (λ (l : Local). l.entry) ls) ≡ []
no-locals [] = refl
no-locals (l ∷ ls) = no-locals ls

past-locals : (ls : List Local) (ts : List Side) (xs : List Entry)
    → from_history (map (λ l. Journal) ls ++ ts) (map (λ (l : Local). l.entry) ls ++ xs) ≡ from_history ts xs
past-locals [] ts xs = refl
past-locals (l ∷ ls) ts xs = past-locals ls ts xs

-- of a weave the history's entries are those that stand in the history
woven-history : (p : ℕ) (ls : List Local) (ks : List Entry)
    → from_history (weave_by (λ l. Journal) (λ k. History) p ls ks) (weave_by (λ l. l.entry) (λ k. k) p ls ks) ≡ ks
woven-history p ls [] = no-locals (filter (λ l. l.at == p) ls)
woven-history p ls (k ∷ ks) =
    past-locals (filter (λ l. l.at == p) ls) (History ∷ weave_by (λ l. Journal) (λ k. History) (p + 1) ls ks) (k ∷ weave_by (λ l. l.entry) (λ k. k) (p + 1) ls ks)
    ∙ ap (λ xs. k ∷ xs) (woven-history (p + 1) ls ks)

woven-leads : (s : Setting) (asks : List Ask) (journal : List Local) (history : List Entry) → IsRunBy (opening_of s) asks (weave journal history)
    → IsParted (opening_of s) asks journal history → Leads (opening_of s) history (final_of s asks (weave journal history))
woven-leads s asks journal history run parted =
    let is : from_history (sides_along (opening_of s) asks (weave journal history)) (weave journal history) ≡ history =
    ap (λ ts. from_history ts (weave journal history)) parted ∙ woven-history 0 journal history in
    subst (λ ks. Leads (opening_of s) ks (final_of s asks (weave journal history))) is (run-leads (opening_of s) asks (weave journal history) run)

pub histories-lead : HistoriesLeadToTheirHub
histories-lead s asks journal history run parted =
    let k : Leads (opening_of s) history (final_of s asks (weave journal history)) = woven-leads s asks journal history run parted in
    record { replays = k.replays; hub = k.hub }

-- FRONTS
pub prefixes-join : PrefixesJoin
prefixes-join s asks journal prefix rest h run rises parted led others = record {
  run = run;
  rises = rises;
  parted = parted;
  others = record { others = others; replays = replays };
}
  where
    m : Machine
    m = final_of s asks (weave journal prefix)

    k : Leads (opening_of s) prefix m
    k = woven-leads s asks journal prefix run.steps parted

    counted : m.history_length ≡ length prefix
    counted = k.counted ∙ none-more (length prefix)

    replays : HubReplays m.limits.history m.hub m.history_length rest
    replays =
        subst (λ (l : Limits). HubReplays l.history m.hub m.history_length rest) (sym k.limits)
        (subst (λ g. HubReplays s.limits.history g m.history_length rest) k.hub
        (subst (λ n. HubReplays s.limits.history (hub_along (new_hub s.threads s.workers) prefix) n rest) (sym counted)
        (prefixes-replay s.limits.history s.threads s.workers prefix rest h led).replays))
