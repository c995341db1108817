-- The account of every duty of the hub over a run.
use Rattle.std.proofs.Common.{◌≡◌, ◌∙◌, ℕ, ◌+◌, ◌≤◌, ◌==◌, Bool, true, false, not, cond, nat_lt, ◌&&◌, List, [], ◌∷◌, get_or, refl, ap, sym, subst, arith, Option, Some, None, is_some}
use Rattle.std.specs.List.{All}
use Rattle.std.proofs.lemmas.List.Elements.{All-cons, All-nil, All-map, All-append}
use Rattle.napi_types.specs.declared.call.Ask.{Ask}
use Rattle.napi_types.specs.declared.call.Release.{Release}
use Rattle.napi_types.specs.declared.call.Release.TheVariants as release
use Rattle.napi_types.specs.declared.entry.Duty.{Duty}
use Rattle.napi_types.specs.declared.entry.Duty.TheVariants as duty
use Rattle.napi_types.specs.declared.entry.Entry.{Entry}
use Rattle.napi_types.specs.declared.entry.Limits.{Limits}
use Rattle.napi_types.specs.declared.entry.TsfnState.{TsfnState}
use Rattle.napi_types.specs.declared.entry.TsfnState.TheVariants.{Open, Closing, Finished, Done}
use Rattle.napi_types.specs.declared.status.Status.{Status}
use Rattle.napi_types.specs.declared.status.Status.TheVariants as status
use Rattle.napi_types.specs.plain.Entries.{begun_duty, started_duty}
use Rattle.napi_types.specs.plain.Lists.{head}
use Rattle.napi_types.specs.plain.Room.{one_if}
use Rattle.napi_types.specs.parts.Functions.{FunctionState, is_finished, called, acquired, released, closed_state, closed, with_item_taken}
use Rattle.napi_types.specs.parts.Works.{is_cancelled}
use Rattle.napi_types.specs.hub.Hub.{Hub, new_hub, is_past_drain}
use Rattle.napi_types.specs.runs.Machine.{Machine}
use Rattle.napi_types.specs.runs.Run.{IsNext, IsRunBy, after, final}
use Rattle.napi_types.specs.runs.Setting.{Setting, opening_of, final_of}
use Rattle.napi_types.specs.runs.Step.{step}
use Rattle.napi_types.specs.all_runs.Counts.{is_duty, made, dropped, begun, started, begun_uncancelled}
use Rattle.napi_types.specs.all_runs.DutyPlaces.{places_in_pool, places_in_hub}
use Rattle.napi_types.specs.all_runs.Laws.{is_ticket}
use Rattle.napi_types.proofs.plain.Tallies.{tally-cons, at-most-one}
use Rattle.napi_types.proofs.hub.HubDutySteps.{ChangesFunction, calls, acquires, releases, refers, closes, finishes, delivers, owes, HubDutyStep, keeps, queues, cancels, starts, works, drains, creates, changes, completes}
use Rattle.napi_types.proofs.hub.HubFunctions.{AreSoundFrom, function_changed_at}
use Rattle.napi_types.proofs.hub.HubHolds.{HubSound}
use Rattle.napi_types.proofs.runs.Runs.{along-entries, along-run}
use Rattle.napi_types.proofs.all_runs.DutySides.{OfBook, HubSide, in_journal, in_history, next-side}
use Rattle.napi_types.proofs.all_runs.FunctionAccounts.{FinishesWell, accepted_at, finalizer_at, FunctionAccount, function-account}
use Rattle.napi_types.proofs.all_runs.HistoryRooms.{HubRoomy, hub-run, opening-hub, HistorySuffices}
use Rattle.napi_types.proofs.all_runs.Orderly.{Orderly, next-orderly, orderly-opens}
use Rattle.napi_types.proofs.all_runs.WorkAccounts.{given_in_pool, ran_in_pool, WorkAccount, work-account}

-- WHAT WAS GIVEN
-- 1 where the duty was made
abbrev pub given_in_hub : Hub → Duty → ℕ
given_in_hub h (duty.Ticket t) = 0
given_in_hub h (duty.Work n) = given_in_pool n h.pool
given_in_hub h (duty.Item f n) = accepted_at f n h
given_in_hub h (duty.Function f) = finalizer_at f h

pub given-once : (h : Hub) (d : Duty) → given_in_hub h d ≤ 1
given-once h (duty.Ticket t) = omega arith
given-once h (duty.Work n) = at-most-one _
given-once h (duty.Item f n) = at-most-one _
given-once h (duty.Function f) = at-most-one _

-- how a step changes what was given, and the places
pub record DutyAccount (d : Duty) (h : Hub) (made begun : Option Duty) (n : Hub) : Type 0 where
  pub given : given_in_hub n d ≡ given_in_hub h d + one_if (is_duty d made)
  pub placed : places_in_hub n d + one_if (is_duty d begun) ≡ places_in_hub h d + one_if (is_duty d made)

-- WHAT HOLDS
pub record HubFacts (h : Hub) : Type 0 where
  pub well : All FinishesWell h.functions
  pub placed : (d : Duty) → places_in_hub h d ≤ given_in_hub h d

step-moves : (d : Duty) (h : Hub) (made begun started : Option Duty) (s : Status) (n : Hub) → is_ticket d ≡ false
    → HubSound h → HubFacts h
    → HubDutyStep h made begun started s n → DutyAccount d h made begun n
step-moves (duty.Ticket t) h made begun started s n ours sound facts step = cc
step-moves (duty.Work k) h made begun started s n ours sound facts step =
    let single : places_in_pool k h.pool ≤ 1 = omega (arith, facts.placed (duty.Work k), given-once h (duty.Work k)) in
    let a : WorkAccount k h made begun started s n = work-account k h made begun started s n sound.pool.executes single step in
    record { given = a.given; placed = a.placed }
step-moves (duty.Item t j) h made begun started s n ours sound facts step =
    let a : FunctionAccount t h made begun n = function-account (is_past_drain h.stage) t h made begun started s n sound.functions facts.well step in
    record { given = a.accepted j; placed = a.items j }
step-moves (duty.Function t) h made begun started s n ours sound facts step =
    let a : FunctionAccount t h made begun n = function-account (is_past_drain h.stage) t h made begun started s n sound.functions facts.well step in
    record { given = a.finalizer; placed = a.owed }

-- one that is finished has a finalizer
closed-finished : (s : TsfnState) → is_finished (closed_state s) ≡ is_finished s
closed-finished Open = refl
closed-finished Closing = refl
closed-finished Finished = refl
closed-finished Done = refl

change-well : (f : FunctionState) (change : FunctionState → FunctionState) (made begun : Option Duty) → ChangesFunction f change made begun
    → (y : FunctionState) → FinishesWell y → FinishesWell (change y)
change-well f _ _ _ (calls payload s) y well = by s
  where
    by : (s : Status) → FinishesWell (called (Some s) payload y)
    by status.Ok = well
    by status.Closing = well
    by _ = well
change-well f _ _ _ (acquires s) y well = by s
  where
    by : (s : Status) → FinishesWell (acquired s y)
    by status.Ok = well
    by _ = well
change-well f _ _ _ (releases s m) y well = by s m
  where
    by : (s : Status) (m : Release) → FinishesWell (released s m y)
    by status.Ok release.Release = well
    by status.Ok release.Abort = λ is. well (sym (closed-finished y.state) ∙ is)
    by _ m = well
change-well f _ _ _ (refers b) y well = well
change-well f _ _ _ closes y well = λ is. well (sym (closed-finished y.state) ∙ is)
change-well f _ _ _ (finishes is) y well = by (is_some y.finalizer)
  where
    by : (b : Bool) → is_finished (cond b Finished Done) ≡ true → b ≡ true
    by true over = refl
    by false over = let no : false ≡ true = over in cc
change-well f _ _ _ (delivers payload later is) y well = by (is_some (head y.items))
  where
    by : (b : Bool) → FinishesWell (cond b (with_item_taken y) y)
    by true = well
    by false = well
change-well f _ _ _ (owes is) y well = λ over. let no : false ≡ true = over in cc

all-changed : (k : ℕ) (change : FunctionState → FunctionState) → ((y : FunctionState) → FinishesWell y → FinishesWell (change y))
    → (fs : List FunctionState) → All FinishesWell fs
    → All FinishesWell (function_changed_at k change fs)
all-changed k change well-kept fs well =
    All-map FinishesWell (λ (y : FunctionState). cond (y.id == k) (change y) y) fs (λ i d inside. by (get_or fs i d) (well i d inside))
  where
    by : (y : FunctionState) → FinishesWell y → FinishesWell (cond (y.id == k) (change y) y)
    by y h = on (y.id == k)
      where
        on : (b : Bool) → FinishesWell (cond b (change y) y)
        on true = well-kept y h
        on false = h

step-well : (h : Hub) (made begun started : Option Duty) (s : Status) (n : Hub) → All FinishesWell h.functions → HubDutyStep h made begun started s n
    → All FinishesWell n.functions
step-well h _ _ _ _ _ well (keeps s n e) = subst (All FinishesWell) (sym e.functions) well
step-well h _ _ _ _ _ well (queues s id) = well
step-well h _ _ _ _ _ well (cancels s m n waits is) = subst (λ (g : Hub). All FinishesWell g.functions) (sym is) well
step-well h _ _ _ _ _ well (starts s w m later waits free) = well
step-well h _ _ _ _ _ well (works s w m runs) = well
step-well h _ _ _ _ _ well (drains s n pool functions) =
    subst (All FinishesWell) (sym functions) (All-map FinishesWell closed h.functions (λ i d inside is. well i d inside (sym (closed-finished _) ∙ is)))
step-well h _ _ _ _ _ well (creates s addon target maximum count finalizer context) =
    All-append FinishesWell h.functions _ well (All-cons FinishesWell _ [] (λ is. let no : false ≡ true = is in cc) (All-nil FinishesWell))
step-well h _ _ _ _ _ well (changes s f change made begun n there how pool functions) =
    subst (All FinishesWell) (sym functions) (all-changed f.id change (change-well f change made begun how) h.functions well)
step-well h _ _ _ _ _ well (completes o os n first pool functions) = subst (All FinishesWell) (sym functions) well

ticket-none : (h : Hub) (d : Duty) → is_ticket d ≡ true → places_in_hub h d ≤ given_in_hub h d
ticket-none h (duty.Ticket t) is = omega arith
ticket-none h (duty.Work k) is = cc
ticket-none h (duty.Item t j) is = cc
ticket-none h (duty.Function t) is = cc

pub step-facts : (h : Hub) (made begun started : Option Duty) (s : Status) (n : Hub) → HubSound h → HubFacts h
    → HubDutyStep h made begun started s n → HubFacts n
step-facts h made begun started s n sound facts step = record {
  well = step-well h made begun started s n facts.well step;
  placed = λ d. by d (is_ticket d) refl;
}
  where
    fewer : (p g p' g' m b : ℕ) → g' ≡ g + m → p' + b ≡ p + m → p ≤ g → p' ≤ g'
    fewer p g p' g' m b given placed le = omega (arith, given, placed, le)

    by : (d : Duty) (b : Bool) → is_ticket d ≡ b → places_in_hub n d ≤ given_in_hub n d
    by d true is = ticket-none n d is
    by d false is =
        let k : DutyAccount d h made begun n = step-moves d h made begun started s n is sound facts step in
        fewer (places_in_hub h d) (given_in_hub h d) (places_in_hub n d) (given_in_hub n d) (one_if (is_duty d made)) (one_if (is_duty d begun)) k.given k.placed (facts.placed d)

-- AN ENTRY
pub record EntryAccount (d : Duty) (h : Hub) (x : Entry) (n : Hub) : Type 0 where
  pub moves : DutyAccount d h x.reply.made (begun_duty x.what x.reply.out) n
  pub undropped : is_duty d x.reply.dropped ≡ false

abbrev is_uncancelled : Duty → Entry → Bool
is_uncancelled d x = is_duty d (begun_duty x.what x.reply.out) && not (is_cancelled x.reply.status)

record EntryStarts (k : ℕ) (h : Hub) (x : Entry) (n : Hub) : Type 0 where
  pub ran : ran_in_pool k n.pool + one_if (is_uncancelled (duty.Work k) x) ≡ ran_in_pool k h.pool + one_if (is_duty (duty.Work k) (started_duty x.what x.reply.out))

not-of_book : (d : Duty) (o : Option Duty) → is_ticket d ≡ false → OfBook o → is_duty d o ≡ false
not-of_book d None ours book = refl
not-of_book d (Some (duty.Work m)) ours book = cc
not-of_book d (Some (duty.Item g m)) ours book = cc
not-of_book d (Some (duty.Function g)) ours book = cc
not-of_book (duty.Ticket t) (Some (duty.Ticket u)) ours book = cc
not-of_book (duty.Work k) (Some (duty.Ticket u)) ours book = refl
not-of_book (duty.Item t j) (Some (duty.Ticket u)) ours book = refl
not-of_book (duty.Function t) (Some (duty.Ticket u)) ours book = refl

plus : (n : ℕ) → n ≡ n + 0
plus n = omega arith

pub side-account : (d : Duty) (h : Hub) (x : Entry) (n : Hub) → is_ticket d ≡ false → HubSound h → HubFacts h
    → HubSide h x n → EntryAccount d h x n
side-account d h x _ ours sound facts (in_journal n same spares) =
    let unmade : is_duty d x.reply.made ≡ false = not-of_book d x.reply.made ours spares.made in
    let unbegun : is_duty d (begun_duty x.what x.reply.out) ≡ false = not-of_book d (begun_duty x.what x.reply.out) ours spares.begun in
    record {
      moves = record { given = rw (same, unmade) (plus (given_in_hub h d)); placed = rw (same, unmade, unbegun) refl };
      undropped = not-of_book d x.reply.dropped ours spares.dropped;
    }
side-account d h x _ ours sound facts (in_history n undropped step) =
    record { moves = step-moves d h _ _ _ _ n ours sound facts step; undropped = ap (is_duty d) undropped }

side-starts : (k : ℕ) (h : Hub) (x : Entry) (n : Hub) → HubSound h → HubFacts h → HubSide h x n → EntryStarts k h x n
side-starts k h x _ sound facts (in_journal n same spares) =
    let unbegun : is_duty (duty.Work k) (begun_duty x.what x.reply.out) ≡ false = not-of_book (duty.Work k) (begun_duty x.what x.reply.out) refl spares.begun in
    record { ran = rw (same, unbegun, spares.started) refl }
side-starts k h x _ sound facts (in_history n undropped step) =
    let single : places_in_pool k h.pool ≤ 1 = omega (arith, facts.placed (duty.Work k), given-once h (duty.Work k)) in
    record { ran = (work-account k h _ _ _ _ n sound.pool.executes single step).ran }

side-facts : (h : Hub) (x : Entry) (n : Hub) → HubSound h → HubFacts h → HubSide h x n → HubFacts n
side-facts h x _ sound facts (in_journal n same spares) = subst HubFacts (sym same) facts
side-facts h x _ sound facts (in_history n undropped step) = step-facts h _ _ _ _ n sound facts step

-- OVER A RUN
pub record HubRunAccount (d : Duty) (h : Hub) (xs : List Entry) (n : Hub) : Type 0 where
  pub given : given_in_hub n d ≡ given_in_hub h d + made d xs
  pub placed : places_in_hub n d + begun d xs ≡ places_in_hub h d + made d xs
  pub undropped : dropped d xs ≡ 0

pub record RunFacts (h : Hub) (xs : List Entry) (n : Hub) : Type 0 where
  pub each : (d : Duty) → is_ticket d ≡ false → HubRunAccount d h xs n
  pub ran : (k : ℕ) → ran_in_pool k n.pool + begun_uncancelled (duty.Work k) xs ≡ ran_in_pool k h.pool + started (duty.Work k) xs

-- a machine of a run
pub record Accountable (l : Limits) (m : Machine) : Type 0 where
  pub roomy : HubRoomy ⊥ l m
  pub orderly : Orderly m
  pub facts : HubFacts m.hub

module _ (d : Duty) (x : Entry) (xs : List Entry) where
  made-one : made d (x ∷ xs) ≡ one_if (is_duty d x.reply.made) + made d xs
  made-one = tally-cons (λ (y : Entry). is_duty d y.reply.made) x xs

  begun-one : begun d (x ∷ xs) ≡ one_if (is_duty d (begun_duty x.what x.reply.out)) + begun d xs
  begun-one = tally-cons (λ (y : Entry). is_duty d (begun_duty y.what y.reply.out)) x xs

  dropped-one : dropped d (x ∷ xs) ≡ one_if (is_duty d x.reply.dropped) + dropped d xs
  dropped-one = tally-cons (λ (y : Entry). is_duty d y.reply.dropped) x xs

  started-one : started d (x ∷ xs) ≡ one_if (is_duty d (started_duty x.what x.reply.out)) + started d xs
  started-one = tally-cons (λ (y : Entry). is_duty d (started_duty y.what y.reply.out)) x xs

  uncancelled-one : begun_uncancelled d (x ∷ xs) ≡ one_if (is_uncancelled d x) + begun_uncancelled d xs
  uncancelled-one = tally-cons (is_uncancelled d) x xs

accounts-cons : (d : Duty) (h n g : Hub) (x : Entry) (xs : List Entry) → EntryAccount d h x n → HubRunAccount d n xs g → HubRunAccount d h (x ∷ xs) g
accounts-cons d h n g x xs first later = record {
  given = givens (given_in_hub h d) (given_in_hub n d) (given_in_hub g d) (one_if (is_duty d x.reply.made)) (made d xs) (made d (x ∷ xs)) first.moves.given later.given (made-one d x xs);
  placed = places-of (places_in_hub h d) (places_in_hub n d) (places_in_hub g d) (one_if (is_duty d x.reply.made)) (made d xs) (made d (x ∷ xs))
      (one_if (is_duty d (begun_duty x.what x.reply.out))) (begun d xs) (begun d (x ∷ xs)) first.moves.placed later.placed (made-one d x xs) (begun-one d x xs);
  undropped = dropped-one d x xs ∙ ap (λ b. one_if b + dropped d xs) first.undropped ∙ ap (λ k. 0 + k) later.undropped;
}
  where
    givens : (b c e k n m : ℕ) → c ≡ b + k → e ≡ c + n → m ≡ k + n → e ≡ b + m
    givens b c e k n m i j o = omega (arith, i, j, o)

    places-of : (b c e k n m l o p : ℕ) → c + l ≡ b + k → e + o ≡ c + n → m ≡ k + n → p ≡ l + o → e + p ≡ b + m
    places-of b c e k n m l o p i j q r = omega (arith, i, j, q, r)

starts-cons : (k : ℕ) (h n g : Hub) (x : Entry) (xs : List Entry) → EntryStarts k h x n
    → ran_in_pool k g.pool + begun_uncancelled (duty.Work k) xs ≡ ran_in_pool k n.pool + started (duty.Work k) xs
    → ran_in_pool k g.pool + begun_uncancelled (duty.Work k) (x ∷ xs) ≡ ran_in_pool k h.pool + started (duty.Work k) (x ∷ xs)
starts-cons k h n g x xs first later =
    by (ran_in_pool k h.pool) (ran_in_pool k n.pool) (ran_in_pool k g.pool) _ _ _ _ _ _ first.ran later (started-one (duty.Work k) x xs) (uncancelled-one (duty.Work k) x xs)
  where
    by : (b c e k n m l o p : ℕ) → c + l ≡ b + k → e + o ≡ c + n → m ≡ k + n → p ≡ l + o → e + p ≡ b + m
    by b c e k n m l o p i j q r = omega (arith, i, j, q, r)

pub sound-of : (l : Limits) (m : Machine) → Accountable l m → AreSoundFrom (is_past_drain m.hub.stage) 1 m.hub.functions
sound-of l m k = k.roomy.sound.functions

pub next-of : (l : Limits) (m : Machine) (a : Ask) (x : Entry) → Accountable l m → IsNext m a x → Accountable l (after m a x)
next-of l m a x k next = record {
  roomy = hub-run ⊥ l m (a ∷ []) (x ∷ []) k.roomy (next, tt);
  orderly = next-orderly m a x k.orderly next;
  facts = side-facts m.hub x (after m a x).hub k.roomy.sound k.facts
      (next-side (is_past_drain m.hub.stage) m a x (sound-of l m k) k.orderly next);
}

-- what the empty run has, and each run that is longer by an entry at its start, every run has that starts at such a machine
pub along-accountable : (l : Limits) (Q : Machine → List Ask → List Entry → Type 0) → ((m : Machine) → Q m [] [])
    → ((m : Machine) (a : Ask) (bs : List Ask) (x : Entry) (xs : List Entry) → Accountable l m → IsNext m a x → HubSide m.hub x (after m a x).hub
    → Q (after m a x) bs xs → Q m (a ∷ bs) (x ∷ xs))
    → (m : Machine) (bs : List Ask) (xs : List Entry) → Accountable l m → IsRunBy m bs xs → Q m bs xs
along-accountable l Q none more m bs xs k run =
    along-entries (λ m bs xs. Accountable l m → Q m bs xs) (λ m k. none m) (λ m a bs x xs next rest k.
    more m a bs x xs k next (next-side (is_past_drain m.hub.stage) m a x (sound-of l m k) k.orderly next) (rest (next-of l m a x k next))) m bs xs run k

run-facts : (l : Limits) (m : Machine) (bs : List Ask) (xs : List Entry) → Accountable l m → IsRunBy m bs xs → RunFacts m.hub xs (final m bs xs).hub
run-facts l =
    along-accountable l (λ m bs xs. RunFacts m.hub xs (final m bs xs).hub)
    (λ m. record { each = λ d ours. record { given = plus (given_in_hub m.hub d); placed = refl; undropped = refl }; ran = λ n. refl })
    (λ m a bs x xs k next side later.
    let h : Hub = (after m a x).hub in
    record {
      each = λ d ours. accounts-cons d m.hub h (final (after m a x) bs xs).hub x xs (side-account d m.hub x h ours k.roomy.sound k.facts side) (later.each d ours);
      ran = λ n. starts-cons n m.hub h (final (after m a x) bs xs).hub x xs (side-starts n m.hub x h k.roomy.sound k.facts side) (later.ran n);
    })

-- FROM THE OPENING
none-in_new : (threads workers : ℕ) (d : Duty) → (given_in_hub (new_hub threads workers) d ≡ 0) × (places_in_hub (new_hub threads workers) d ≡ 0)
none-in_new threads workers (duty.Ticket t) = (refl, refl)
none-in_new threads workers (duty.Item f n) = (refl, refl)
none-in_new threads workers (duty.Function f) = (refl, refl)
none-in_new threads workers (duty.Work n) = (by n, refl)
  where
    by : (n : ℕ) → one_if (nat_lt 0 n && not (nat_lt 0 n)) ≡ 0
    by n = on (nat_lt 0 n)
      where
        on : (b : Bool) → one_if (b && not b) ≡ 0
        on true = refl
        on false = refl

pub none-at_first : (s : Setting) (d : Duty) → (given_in_hub (opening_of s).hub d ≡ 0) × (places_in_hub (opening_of s).hub d ≡ 0)
none-at_first s d = none-in_new s.threads s.workers d

pub opening-facts : (threads workers : ℕ) → HubFacts (new_hub threads workers)
opening-facts threads workers = record {
  well = All-nil FinishesWell;
  placed = λ d. let none = none-in_new threads workers d in omega (arith, none.0, none.1);
}

pub opens-accountable : (s : Setting) → Accountable s.limits (opening_of s)
opens-accountable s = record {
  roomy = let r : HubRoomy (HistorySuffices s) s.limits (opening_of s) = opening-hub s in
      record { limits = r.limits; sound = r.sound; history = λ none. absurd none; spent = r.spent };
  orderly = orderly-opens s;
  facts = opening-facts s.threads s.workers;
}

-- so is every machine of a run
pub run-accountable : (l : Limits) (m : Machine) (bs : List Ask) (xs : List Entry) → Accountable l m → IsRunBy m bs xs → Accountable l (final m bs xs)
run-accountable l m bs xs k run = along-run (Accountable l) (λ m a x next k. next-of l m a x k next) m bs xs run k

pub setting-facts : (s : Setting) (bs : List Ask) (xs : List Entry) → IsRunBy (opening_of s) bs xs → RunFacts (opening_of s).hub xs (final_of s bs xs).hub
setting-facts s bs xs run = run-facts s.limits (opening_of s) bs xs (opens-accountable s) run
