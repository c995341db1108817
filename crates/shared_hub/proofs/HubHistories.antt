-- The history of a hub, with its next entry.
use Rattle.std.proofs.Common.{◌≡◌, ◌∙◌, ◌<◌, ◌≤◌, ℕ, ◌+◌, true, not, IsTrue, nat_lt, Some, List, ◌++◌, length, length-append, min, refl, ap, sym, subst, arith}
use Rattle.napi_types.specs.declared.call.Call.{Call}
use Rattle.napi_types.specs.declared.entry.Entry.{Entry}
use Rattle.napi_types.specs.declared.entry.What.{What}
use Rattle.napi_types.specs.declared.entry.What.TheVariants as what
use Rattle.napi_types.specs.plain.Lists.{singleton}
use Rattle.napi_types.specs.plain.Room.{fits_in, need, first_places}
use Rattle.napi_types.specs.declared.duties.DueInfo.{DueInfo}
use Rattle.napi_types.specs.hub.HistoryLaws.{LeadsTo, KeepsStanding}
use Rattle.napi_types.specs.hub.HistoryRoom.{reserved_history}
use Rattle.napi_types.specs.hub.Hub.{Hub, new_hub, is_past_drain}
use Rattle.napi_types.specs.hub.HubStep.{HubStep}
use Rattle.napi_types.specs.hub.HubSteps.{IsHubNext, hub_step}
use Rattle.napi_types.proofs.hub.GrowingHistories.{along-more, replays-more}
use Rattle.napi_types.proofs.hub.HubCases.{hub-case}
use Rattle.napi_types.proofs.hub.HubHolds.{led-sound}
use Rattle.napi_types.proofs.hub.HubRooms.{places_beside, hub-room}
use Rattle.shared_hub.specs.declared.naming.Numbers.{Numbers}
use Rattle.shared_hub.specs.declared.progress.HubProgress.{HubProgress}
use Rattle.shared_hub.specs.HubParts.{HubParts, hub_with}
use Rattle.shared_hub.specs.HubStates.{led_by, hub_seen, AddsEntry, KeepsStage}
use Rattle.shared_hub.specs.KeptHubs.{IsKeptHistory, AreFieldsOf}

-- the entry comes next, and leaves this
pub record ComesNext (h : Hub) (x : Entry) (left : Hub) : Type 0 where
  pub next : IsHubNext h x
  pub after : (hub_step h x).after ≡ left

pub comes-by : (h : Hub) (x : Entry) (s : HubStep) → hub_step h x ≡ s → x ≡ s.entry → IsTrue s.may → ComesNext h x s.after
comes-by h x s is entry may = record {
  next = record { entry = entry ∙ sym (ap (λ (t : HubStep). t.entry) is); may = subst (λ (t : HubStep). IsTrue t.may) (sym is) may };
  after = ap (λ (t : HubStep). t.after) is;
}

-- it has led to the hub
pub leads : (n : Numbers) (history : List Entry) (limit capacity : ℕ) → IsKeptHistory n history limit capacity
    → LeadsTo n.limits.history n.threads n.workers history (led_by n history)
leads n history limit capacity k = record { replays = k.replays; hub = refl }

-- the next entry takes no more places than were kept for it
pub next-room : (n : Numbers) (history : List Entry) (limit capacity : ℕ) (x : Entry) → IsKeptHistory n history limit capacity → IsHubNext (led_by n history) x
    → reserved_history (hub_step (led_by n history) x).after + 1 ≤ reserved_history (led_by n history) + places_beside x.what
next-room n history limit capacity x k next =
    let h : Hub = led_by n history in
    hub-room (is_past_drain h.stage) h x (hub_step h x).entry.reply.out (hub_step h x).after
    (led-sound n.limits.history n.threads n.workers history h (leads n history limit capacity k)).functions (hub-case h x next.may)

fits-what : (w : What) (limit occupied : ℕ) → occupied + places_beside w ≤ limit → IsTrue (fits_in (record { limit = limit; occupied = occupied }) w)
fits-what (what.Call c) limit occupied fits = by (need c) fits
  where
    by : (m : ℕ) → occupied + m ≤ limit → not (nat_lt limit (occupied + m)) ≡ true
    by m le = grind arith
fits-what (what.Host event) limit occupied fits = refl

-- the history with it is kept, where there was room for its places and they have their memory
pub history-goes-on : (n : Numbers) (history : List Entry) (limit capacity room : ℕ) (x : Entry) → IsKeptHistory n history limit capacity → IsHubNext (led_by n history) x
    → length history + reserved_history (led_by n history) + places_beside x.what ≤ limit
    → length history + reserved_history (led_by n history) + places_beside x.what ≤ room → min first_places limit ≤ room
    → IsKeptHistory n (history ++ singleton x) limit room
history-goes-on n history limit capacity room x k next fits memory first = record {
  limit_is = k.limit_is;
  small = k.small;
  replays = replays-more n.limits.history (new_hub n.threads n.workers) 0 history x k.replays next
      (fits-what x.what n.limits.history (0 + length history + reserved_history (led_by n history)) (room-there (length history) (reserved_history (led_by n history)) (places_beside x.what) limit n.limits.history k.limit_is fits));
  within = still limit fits;
  memory = still room memory;
  first = first;
}
  where
    room-there : (l r m a b : ℕ) → a ≡ b → l + r + m ≤ a → 0 + l + r + m ≤ b
    room-there l r m a b is le = omega (arith, is, le)

    by : (l r s m bound : ℕ) → s + 1 ≤ r + m → l + r + m ≤ bound → l + 1 + s ≤ bound
    by l r s m bound grows le = omega (arith, grows, le)

    still : (bound : ℕ) → length history + reserved_history (led_by n history) + places_beside x.what ≤ bound
        → length (history ++ singleton x) + reserved_history (led_by n (history ++ singleton x)) ≤ bound
    still bound le =
        subst (λ (g : Hub). length (history ++ singleton x) + reserved_history g ≤ bound) (sym (along-more (new_hub n.threads n.workers) history x))
        (subst (λ l. l + reserved_history (hub_step (led_by n history) x).after ≤ bound) (sym (length-append history (singleton x)))
        (by (length history) (reserved_history (led_by n history)) (reserved_history (hub_step (led_by n history) x).after) (places_beside x.what) bound
        (next-room n history limit capacity x k next) le))

-- so is the state, where the fields are those of the hub after it
pub state-goes-on : (n : Numbers) (history : List Entry) (limit capacity room : ℕ) (x : Entry) (parts : HubParts) (p : HubProgress) → IsKeptHistory n history limit capacity
    → IsHubNext (led_by n history) x → AreFieldsOf (hub_step (led_by n history) x).after parts p
    → length history + reserved_history (led_by n history) + places_beside x.what ≤ limit
    → length history + reserved_history (led_by n history) + places_beside x.what ≤ room → min first_places limit ≤ room
    → IsKeptHistory n (history ++ singleton x) limit room × AreFieldsOf (led_by n (history ++ singleton x)) parts p
state-goes-on n history limit capacity room x parts p k next fields fits memory first = (
  history-goes-on n history limit capacity room x k next fits memory first,
  subst (λ (g : Hub). AreFieldsOf g parts p) (sym (along-more (new_hub n.threads n.workers) history x)) fields,
)

-- an event has its place
pub event-goes-on : (n : Numbers) (history : List Entry) (limit capacity : ℕ) (x : Entry) (parts : HubParts) (p : HubProgress) → IsKeptHistory n history limit capacity
    → IsHubNext (led_by n history) x → places_beside x.what ≡ 0 → AreFieldsOf (hub_step (led_by n history) x).after parts p
    → IsKeptHistory n (history ++ singleton x) limit capacity × AreFieldsOf (led_by n (history ++ singleton x)) parts p
event-goes-on n history limit capacity x parts p k next none fields =
    state-goes-on n history limit capacity capacity x parts p k next fields (plus _ _ none k.within) (plus _ _ none k.memory) k.first
  where
    plus : (a b : ℕ) → places_beside x.what ≡ 0 → a ≤ b → a + places_beside x.what ≤ b
    plus a b is le = omega (arith, is, le)

pub event-has-place : (n : Numbers) (history : List Entry) (limit capacity : ℕ) (x : Entry) → IsKeptHistory n history limit capacity → IsHubNext (led_by n history) x
    → places_beside x.what ≡ 0 → length history < capacity
event-has-place n history limit capacity x k next none =
    by (length history) (reserved_history (led_by n history)) (reserved_history (hub_step (led_by n history) x).after) (places_beside x.what) capacity
    (next-room n history limit capacity x k next) none k.memory
  where
    by : (l r s m c : ℕ) → s + 1 ≤ r + m → m ≡ 0 → l + r ≤ c → l < c
    by l r s m c grows is le = omega (arith, grows, is, le)

-- the state has it
pub adds-next : (n : Numbers) (history : List Entry) (x : Entry) → IsHubNext (led_by n history) x
    → AddsEntry (hub_seen n history) x (hub_seen n (history ++ singleton x))
adds-next n history x next = record { next = next; hub = along-more (new_hub n.threads n.workers) history x; history = refl }

-- an event comes next, and leaves these fields: the state with it
pub event-kept : (n : Numbers) (history : List Entry) (limit capacity : ℕ) (x : Entry) (left : Hub) (parts : HubParts) (p : HubProgress) → IsKeptHistory n history limit capacity
    → ComesNext (led_by n history) x left → places_beside x.what ≡ 0 → AreFieldsOf left parts p
    → IsKeptHistory n (history ++ singleton x) limit capacity × AreFieldsOf (led_by n (history ++ singleton x)) parts p
event-kept n history limit capacity x left parts p k comes none fields =
    event-goes-on n history limit capacity x parts p k comes.next none (subst (λ (g : Hub). AreFieldsOf g parts p) (sym comes.after) fields)

-- a call comes next: so it is, where it had room
pub call-kept : (n : Numbers) (history : List Entry) (limit capacity room : ℕ) (x : Entry) (c : Call) (left : Hub) (parts : HubParts) (p : HubProgress)
    → IsKeptHistory n history limit capacity → ComesNext (led_by n history) x left → x.what ≡ what.Call c → AreFieldsOf left parts p
    → length history + reserved_history (led_by n history) + need c ≤ limit → length history + reserved_history (led_by n history) + need c ≤ room → min first_places limit ≤ room
    → IsKeptHistory n (history ++ singleton x) limit room × AreFieldsOf (led_by n (history ++ singleton x)) parts p
call-kept n history limit capacity room x c left parts p k comes is fields fits memory first =
    state-goes-on n history limit capacity room x parts p k comes.next (subst (λ (g : Hub). AreFieldsOf g parts p) (sym comes.after) fields) (with_need limit fits) (with_need room memory) first
  where
    with_need : (bound : ℕ) → length history + reserved_history (led_by n history) + need c ≤ bound → length history + reserved_history (led_by n history) + places_beside x.what ≤ bound
    with_need bound le = subst (λ w. length history + reserved_history (led_by n history) + places_beside w ≤ bound) (sym is) le

-- the hub after an entry that comes next
pub led-on : (n : Numbers) (history : List Entry) (x : Entry) (left : Hub) → ComesNext (led_by n history) x left → led_by n (history ++ singleton x) ≡ left
led-on n history x left comes = along-more (new_hub n.threads n.workers) history x ∙ comes.after

-- what stays where the entry comes next, by what it leaves
pub keeps-on : (n : Numbers) (history : List Entry) (x : Entry) (left : Hub) → ComesNext (led_by n history) x left → KeepsStanding (led_by n history) left
    → KeepsStanding (led_by n history) (led_by n (history ++ singleton x))
keeps-on n history x left comes kept = subst (λ (g : Hub). KeepsStanding (led_by n history) g) (sym (led-on n history x left comes)) kept

pub keeps-stage-on : (n : Numbers) (history : List Entry) (x : Entry) (left : Hub) → ComesNext (led_by n history) x left → KeepsStage (led_by n history) left
    → KeepsStage (led_by n history) (led_by n (history ++ singleton x))
keeps-stage-on n history x left comes kept = subst (λ (g : Hub). KeepsStage (led_by n history) g) (sym (led-on n history x left comes)) kept

-- a call keeps how far the hub is, and what stands
pub call-keeps : (n : Numbers) (history : List Entry) (x : Entry) (new : HubParts) → ComesNext (led_by n history) x (hub_with new (led_by n history))
    → KeepsStanding (led_by n history) (led_by n (history ++ singleton x))
call-keeps n history x new comes = keeps-on n history x (hub_with new (led_by n history)) comes (record { stage = refl; standing = refl; threads = refl; workers = refl })

-- a duty that begins stands
pub begun-stands : (n : Numbers) (history : List Entry) (x : Entry) (left : Hub) (d : DueInfo) → ComesNext (led_by n history) x (record left { standing = Some d })
    → (led_by n (history ++ singleton x)).standing ≡ Some d
begun-stands n history x left d comes = ap (λ (g : Hub). g.standing) (led-on n history x (record left { standing = Some d }) comes)
