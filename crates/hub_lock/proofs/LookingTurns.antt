-- Turns that look, and turns that add.
use Rattle.std.proofs.Common.{◌≡◌, ◌∙◌, ℕ, ◌+◌, ◌⊎◌, inl, inr, ◌<◌, ◌≤◌, ◌^◌, List, [], ◌∷◌, ◌++◌, length, drop, refl, ap, sym, subst, arith, true, false, append_assoc}
use Rattle.std.proofs.lemmas.List.{append-nil}
use Rattle.std.proofs.lemmas.List.Prefix.{front_rest}
use Rattle.std.proofs.lemmas.List.Elements.{All-nil, All-cons}
use mathlib.Core.List.{IsPrefix}
use Rattle.napi_types.specs.declared.entry.Entry.{Entry}
use Rattle.napi_types.specs.plain.Lists.{singleton}
use Rattle.napi_types.specs.plain.Room.{most_entries}
use Rattle.napi_types.specs.hub.HistoryRoom.{reserved_history}
use Rattle.napi_types.specs.hub.Hub.{Hub, new_hub}
use Rattle.napi_types.specs.hub.Replays.{HubReplays}
use Rattle.turn_lock.specs.declared.told.Row.{Row}
use Rattle.turn_lock.specs.Passes.{PassState}
use Rattle.turn_lock.specs.Rows.{GoesOn}
use Rattle.shared_hub.specs.declared.naming.Numbers.{Numbers}
use Rattle.shared_hub.specs.HubRows.{pass_of, row_of, rows_of}
use Rattle.shared_hub.specs.HubStates.{HubSeen, hub_seen}
use Rattle.shared_hub.specs.KeptHubs.{IsLedHub}
use Rattle.shared_hub.proofs.RowsOfHistories.{rows-many, rows-go-on}
use Rattle.hub_lock.specs.SeenTurns.{Looked, Anything, HasLooked, Added}

-- a state's rows are fewer than the lock may have
pub short : (n : Numbers) (s : HubSeen) → IsLedHub n s → length (rows_of n.threads s.history) < 2 ^ 62
short n s k = by (length (rows_of n.threads s.history)) (length s.history) (reserved_history s.hub) n.limits.history (rows-many n.threads s.history) k.within k.small
  where
    by : (rows entries owed limit : ℕ) → rows ≡ entries → entries + owed ≤ limit → limit ≤ most_entries → rows < 2 ^ 62
    by rows entries owed limit same within small = omega (arith, same, within, small)

-- the state is the one that its history shows
pub shown : (n : Numbers) (s : HubSeen) → IsLedHub n s → hub_seen n s.history ≡ s
shown n s k = ap (λ (h : Hub). record { hub = h; history = s.history }) k.led.hub

-- a pass as it comes back from a turn
abbrev pub back : PassState → List Row → List Row → PassState
back h taken rows = record h { seen = rows; own = h.own ++ drop (length taken) rows; holds = false }

pub goes-on-none : (m t : ℕ) (s0 s1 : HubSeen) → s1 ≡ s0 → GoesOn m (rows_of t s0.history) (rows_of t s1.history)
goes-on-none m t s0 s1 e = ([], subst (λ (s : HubSeen). rows_of t s.history ≡ rows_of t s0.history ++ []) (sym e) (sym (append-nil (rows_of t s0.history))), All-nil (λ (r : Row). r.pass ≡ m))

pub goes-on-one : (m t : ℕ) (s0 s1 : HubSeen) (x : Entry) → pass_of t x.actor ≡ m → s1.history ≡ s0.history ++ singleton x
    → GoesOn m (rows_of t s0.history) (rows_of t s1.history)
goes-on-one m t s0 s1 x is e = (
  row_of t x ∷ [],
  ap (rows_of t) e ∙ rows-go-on t s0.history (singleton x),
  All-cons (λ (r : Row). r.pass ≡ m) (row_of t x) [] is (All-nil (λ (r : Row). r.pass ≡ m)),
)

module _ (n : Numbers) (old new h : PassState) (taken : List Row) (s0 s1 : HubSeen) (is : h ≡ record old { holds = true }) (taken_is : taken ≡ rows_of n.threads s0.history)
    (p : IsPrefix old.seen (rows_of n.threads s0.history)) (k : IsLedHub n s1) (e : new ≡ back h taken (rows_of n.threads s1.history)) where
  -- a turn that changed nothing
  pub looked : (Shows : HubSeen → Type 0) → s1 ≡ s0 → Shows s1 → Looked n old new Shows
  looked Shows same shows =
      let rows = rows_of n.threads s0.history in
      let stays : rows_of n.threads s1.history ≡ rows = ap (λ (s : HubSeen). rows_of n.threads s.history) same in
      let now : new ≡ back (record old { holds = true }) rows rows = e ∙ (ap (λ l. back h taken l) stays ∙ (ap (λ l. back h l rows) taken_is ∙ ap (λ (g : PassState). back g rows rows) is)) in
      let rest = front_rest rows rows [] (sym (append-nil rows)) in
      record {
        same = record { lock = ap (λ (q : PassState). q.lock) now; number = ap (λ (q : PassState). q.number) now; free = ap (λ (q : PassState). q.holds) now };
        history = s1.history;
        seen = record { rows = ap (λ (q : PassState). q.seen) now ∙ sym stays; replays = k.led.replays };
        before = subst (λ l. IsPrefix old.seen l) (sym (ap (λ (q : PassState). q.seen) now)) p;
        own = ap (λ (q : PassState). q.own) now ∙ (ap (λ l. old.own ++ l) rest ∙ append-nil old.own);
        shows = subst Shows (sym (shown n s1 k)) shows;
      }

  -- a turn that added an entry
  pub added : (x : Entry) → s1.history ≡ s0.history ++ singleton x → Added n old new x
  added x grew =
      let rows = rows_of n.threads s0.history in
      let more : rows_of n.threads s1.history ≡ rows ++ singleton (row_of n.threads x) = ap (rows_of n.threads) grew ∙ rows-go-on n.threads s0.history
      (singleton x) in
      let now : new ≡ back (record old { holds = true }) rows (rows ++ singleton (row_of n.threads x)) =
      e ∙ (ap (λ l. back h taken l) more ∙ (ap (λ l. back h l (rows ++ singleton (row_of n.threads x))) taken_is ∙ ap
      (λ (g : PassState). back g rows (rows ++ singleton (row_of n.threads x))) is)) in
      let rest = front_rest (rows ++ singleton (row_of n.threads x)) rows (singleton (row_of n.threads x)) refl in
      record {
        same = record { lock = ap (λ (q : PassState). q.lock) now; number = ap (λ (q : PassState). q.number) now; free = ap (λ (q : PassState). q.holds) now };
        before = s0.history;
        seen = record {
          rows = ap (λ (q : PassState). q.seen) now ∙ sym (rows-go-on n.threads s0.history (singleton x));
          replays = subst (λ l. HubReplays n.limits.history (new_hub n.threads n.workers) 0 l) grew k.led.replays;
        };
        behind = p;
        own = ap (λ (q : PassState). q.own) now ∙ ap (λ l. old.own ++ l) rest;
      }

-- LOOKING, AND THEN LOOKING OR ADDING
module _ (n : Numbers) (a b c : PassState) where
  looked-twice : (Sees Shows : HubSeen → Type 0) → Looked n a b Sees → Looked n b c Shows → Looked n a c Shows
  looked-twice Sees Shows x y = record {
    same = record { lock = y.same.lock ∙ x.same.lock; number = y.same.number ∙ x.same.number; free = y.same.free };
    history = y.history;
    seen = y.seen;
    before = (x.before.0 ++ y.before.0, sym (append_assoc a.seen x.before.0 y.before.0) ∙ (ap (λ l. l ++ y.before.0) x.before.1 ∙ y.before.1));
    own = y.own ∙ x.own;
    shows = y.shows;
  }

  looked-added : (e : Entry) (Sees : HubSeen → Type 0) → Looked n a b Sees → Added n b c e → Added n a c e
  looked-added e Sees x y = record {
    same = record { lock = y.same.lock ∙ x.same.lock; number = y.same.number ∙ x.same.number; free = y.same.free };
    before = y.before;
    seen = y.seen;
    behind = (x.before.0 ++ y.behind.0, sym (append_assoc a.seen x.before.0 y.behind.0) ∙ (ap (λ l. l ++ y.behind.0) x.before.1 ∙ y.behind.1));
    own = y.own ∙ ap (λ l. l ++ singleton (row_of n.threads e)) x.own;
  }

  pub looks : (Shows : HubSeen → Type 0) → HasLooked n a b → Looked n b c Shows → Looked n a c Shows
  looks Shows has y = by has.turns
    where
      by : (b ≡ a) ⊎ Looked n a b Anything → Looked n a c Shows
      by (inl same) = subst (λ (p : PassState). Looked n p c Shows) same y
      by (inr x) = looked-twice Anything Shows x y

  pub adds : (e : Entry) → HasLooked n a b → Added n b c e → Added n a c e
  adds e has y = by has.turns
    where
      by : (b ≡ a) ⊎ Looked n a b Anything → Added n a c e
      by (inl same) = subst (λ (p : PassState). Added n p c e) same y
      by (inr x) = looked-added e Anything x y

-- no turn, and one more
pub none-yet : (n : Numbers) (p : PassState) → p.holds ≡ false → HasLooked n p p
none-yet n p free = record { same = record { lock = refl; number = refl; free = free }; own = refl; turns = inl refl }

pub one-more : (n : Numbers) (a b c : PassState) → HasLooked n a b → Looked n b c Anything → HasLooked n a c
one-more n a b c has y = let all = looks n a b c Anything has y in record { same = all.same; own = all.own; turns = inr all }
