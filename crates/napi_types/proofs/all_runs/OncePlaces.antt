-- Where nothing is left in the hub each duty has begun once.
use Rattle.std.proofs.Common.{◌≡◌, ◌∙◌, ℕ, ◌+◌, ◌*◌, ◌-◌, ◌<◌, ◌≤◌, ◌==◌, Bool, true, false, not, nat_lt, ◌&&◌, List, [], ◌∷◌, length, refl, ap, sym, arith, Option, Some, None, is_some}
use Rattle.std.specs.List.{All, count_by, sum_by}
use Rattle.std.proofs.lemmas.List.Elements.{All-cons, All-nil}
use Rattle.std.proofs.lemmas.List.Sums.{sum_by-cons, count_by-le-length}
use Rattle.napi_types.specs.declared.call.Ask.{Ask}
use Rattle.napi_types.specs.declared.entry.Duty.{Duty}
use Rattle.napi_types.specs.declared.entry.Duty.TheVariants as duty
use Rattle.napi_types.specs.declared.entry.Entry.{Entry}
use Rattle.napi_types.specs.declared.entry.TsfnState.{TsfnState}
use Rattle.napi_types.specs.declared.entry.TsfnState.TheVariants.{Open, Closing, Finished, Done}
use Rattle.napi_types.specs.declared.ids.Ticket.{Ticket}
use Rattle.napi_types.specs.plain.CallFacts.{finalizer_places}
use Rattle.napi_types.specs.plain.Entries.{begun_duty}
use Rattle.napi_types.specs.plain.Room.{one_if}
use Rattle.napi_types.specs.parts.Book.{registration_at, is_at, is_owed}
use Rattle.napi_types.specs.parts.Functions.{FunctionState, is_done}
use Rattle.napi_types.specs.parts.Works.{Execution, Outcome, is_cancelled}
use Rattle.napi_types.specs.hub.HistoryRoom.{function_places, state_places, reserved_history}
use Rattle.napi_types.specs.hub.Hub.{Hub, threads_left, workers_left, stage_places}
use Rattle.napi_types.specs.hub.HubCalls.{tsfn_at}
use Rattle.napi_types.specs.runs.Machine.{Machine}
use Rattle.napi_types.specs.runs.Setting.{Setting, RunsBy, EndsBy, opening_of, final_of}
use Rattle.napi_types.specs.all_runs.Counts.{is_duty, made, dropped, begun, started, begun_cancelled, begun_uncancelled}
use Rattle.napi_types.specs.all_runs.DutyPlaces.{has_item, owes_finalizer, function_passes, places_in_hub, places_in_machine, HasOnePlace}
use Rattle.napi_types.specs.all_runs.Laws.{is_ticket, TicketsAreOnce, EveryDutyIsOnce}
use Rattle.napi_types.specs.all_runs.OnceLaws.{EachDutyHasOnePlace, NoPlaceIsLeft, OnePlaceGivesOnce, CompletionsTellStarts}
use Rattle.napi_types.proofs.plain.Found.{found-All}
use Rattle.napi_types.proofs.plain.Tallies.{is-one, none-more, tally-cons}
use Rattle.napi_types.proofs.all_runs.HistoryRooms.{HubRoomy, hub-run, opening-hub, HistorySuffices}
use Rattle.napi_types.proofs.all_runs.HubAccounts.{HubRunAccount, RunFacts, given_in_hub, given-once, none-at_first, setting-facts}
use Rattle.napi_types.proofs.all_runs.Onces as ticket
use Rattle.napi_types.proofs.all_runs.Orderly.{orderly-opens}
use Rattle.napi_types.proofs.all_runs.Rooms.{final-stage}
use Rattle.napi_types.proofs.all_runs.Withdrawals.{withdrawn-rightly}
use Rattle.napi_types.proofs.all_runs.WorkAccounts.{ran_in_pool}

-- ONE PLACE
no-ticket : (m : Machine) (d : Duty) → is_ticket d ≡ false → places_in_machine m d ≡ places_in_hub m.hub d
no-ticket m (duty.Ticket t) ours = cc
no-ticket m (duty.Work k) ours = none-more (places_in_hub m.hub (duty.Work k))
no-ticket m (duty.Item t j) ours = none-more (places_in_hub m.hub (duty.Item t j))
no-ticket m (duty.Function t) ours = none-more (places_in_hub m.hub (duty.Function t))

-- each completion, item and finalizer of a function has its place in the hub
one-place : (s : Setting) (bs : List Ask) (xs : List Entry) (d : Duty) → is_ticket d ≡ false → RunsBy s bs xs → HasOnePlace (final_of s bs xs) d xs
one-place s bs xs d ours run =
    let k : HubRunAccount d (opening_of s).hub xs (final_of s bs xs).hub = (setting-facts s bs xs run.steps).each d ours in
    let none = none-at_first s d in
    let single : given_in_hub (final_of s bs xs).hub d ≤ 1 = given-once (final_of s bs xs).hub d in
    record {
      singly = single-made (given_in_hub (final_of s bs xs).hub d) (given_in_hub (opening_of s).hub d) (made d xs) k.given none.0 single;
      placed =
          all (places_in_machine (final_of s bs xs) d) (places_in_hub (final_of s bs xs).hub d) (places_in_hub (opening_of s).hub d) (begun d xs) (dropped d xs) (made d xs)
          (no-ticket (final_of s bs xs) d ours) k.placed k.undropped none.1;
    }
  where
    single-made : (g o m : ℕ) → g ≡ o + m → o ≡ 0 → g ≤ 1 → m ≤ 1
    single-made g o m h z one = omega (arith, h, z, one)

    all : (q p o b d m : ℕ) → q ≡ p → p + b ≡ o + m → d ≡ 0 → o ≡ 0 → q + b + d ≡ m
    all q p o b d m h i j k = omega (arith, h, i, j, k)

-- that of a ticket is in the book
ticket-place : (s : Setting) (bs : List Ask) (xs : List Entry) (t : Ticket) → RunsBy s bs xs → HasOnePlace (final_of s bs xs) (duty.Ticket t) xs
ticket-place s bs xs t run =
    let k : ticket.RunAccount t.0 [] xs (final_of s bs xs).env.book = ticket.run-account t.0 (opening_of s) bs xs (orderly-opens s) run.steps in
    let one : ticket.given_at t.0 (final_of s bs xs).env.book ≤ 1 = ticket.at-most-one (is_some (registration_at (final_of s bs xs).env.book t.0)) in
    record {
      singly = single (ticket.given_at t.0 (final_of s bs xs).env.book) (ticket.given_at t.0 []) (made (duty.Ticket t) xs) k.given (ticket.nothing-given t.0) one;
      placed =
          all (one_if (is_at is_owed (final_of s bs xs).env.book t.0)) (ticket.owed_at t.0 (final_of s bs xs).env.book) (ticket.owed_at t.0 [])
          (begun (duty.Ticket t) xs) (dropped (duty.Ticket t) xs) (made (duty.Ticket t) xs) (sym (is-one (is_at is_owed (final_of s bs xs).env.book t.0))) k.owed (ticket.nothing-owed t.0);
    }
  where
    single : (g s m : ℕ) → g ≡ s + m → s ≡ 0 → g ≤ 1 → m ≤ 1
    single g s m h z one = omega (arith, h, z, one)

    all : (p o s b d m : ℕ) → p ≡ o → o + b + d ≡ s + m → s ≡ 0 → p + 0 + b + d ≡ m
    all p o s b d m e h z = omega (arith, e, h, z)

pub each-place : EachDutyHasOnePlace
each-place s bs xs (duty.Ticket t) run = ticket-place s bs xs t run
each-place s bs xs (duty.Work n) run = one-place s bs xs (duty.Work n) refl run
each-place s bs xs (duty.Item t n) run = one-place s bs xs (duty.Item t n) refl run
each-place s bs xs (duty.Function t) run = one-place s bs xs (duty.Function t) refl run

-- ONCE
pub place-gives-once : OnePlaceGivesOnce
place-gives-once m d xs one none = record {
  singly = one.singly;
  singly_dropped = once (begun d xs) (dropped d xs) (made d xs) sum one.singly;
  kept = λ made_once undropped. kept (begun d xs) (dropped d xs) (made d xs) sum made_once undropped;
  withdrawn = λ some. (withdrawn (begun d xs) (dropped d xs) (made d xs) sum one.singly some, never (begun d xs) (dropped d xs) (made d xs) sum one.singly some);
  others = λ unmade. others (begun d xs) (dropped d xs) (made d xs) sum unmade;
}
  where
    sums : (p b d m : ℕ) → p + b + d ≡ m → p ≡ 0 → b + d ≡ m
    sums p b d m h z = omega (arith, h, z)

    sum : begun d xs + dropped d xs ≡ made d xs
    sum = sums (places_in_machine m d) (begun d xs) (dropped d xs) (made d xs) one.placed none

    once : (b d m : ℕ) → b + d ≡ m → m ≤ 1 → d ≤ 1
    once b d m h x = omega (arith, h, x)

    kept : (b d m : ℕ) → b + d ≡ m → m ≡ 1 → d ≡ 0 → b ≡ 1
    kept b d m h x y = omega (arith, h, x, y)

    withdrawn : (b d m : ℕ) → b + d ≡ m → m ≤ 1 → 0 < d → m ≡ 1
    withdrawn b d m h x y = omega (arith, h, x, y)

    never : (b d m : ℕ) → b + d ≡ m → m ≤ 1 → 0 < d → b ≡ 0
    never b d m h x y = omega (arith, h, x, y)

    others : (b d m : ℕ) → b + d ≡ m → m ≡ 0 → b ≡ 0
    others b d m h x = omega (arith, h, x)

-- NOTHING LEFT
-- no place is reserved
pub record NothingReserved (h : Hub) : Type 0 where
  pub queued : length h.pool.queued ≡ 0
  pub executions : length h.pool.executions ≡ 0
  pub finished : length h.pool.finished ≡ 0
  pub functions : All (λ f. function_places f ≡ 0) h.functions

none-owed : (fs : List FunctionState) → sum_by function_places fs ≡ 0 → All (λ f. function_places f ≡ 0) fs
none-owed [] none = All-nil (λ f. function_places f ≡ 0)
none-owed (f ∷ fs) none =
    let both : function_places f + sum_by function_places fs ≡ 0 = sym (sum_by-cons function_places f fs) ∙ none in
    All-cons (λ g. function_places g ≡ 0) f fs (first (function_places f) (sum_by function_places fs) both) (none-owed fs (rest (function_places f) (sum_by function_places fs) both))
  where
    first : (a b : ℕ) → a + b ≡ 0 → a ≡ 0
    first a b h = omega (arith, h)

    rest : (a b : ℕ) → a + b ≡ 0 → b ≡ 0
    rest a b h = omega (arith, h)

empty-hub : (h : Hub) → reserved_history h ≡ 0 → NothingReserved h
empty-hub h none =
    let s : ℕ = stage_places h.stage in
    let t : ℕ = length (threads_left h) in
    let w : ℕ = length (workers_left h) in
    let o : ℕ = one_if (is_some h.standing) in
    record {
      queued = queued s t w (length h.pool.queued) (length h.pool.executions) (length h.pool.finished) (sum_by function_places h.functions) o none;
      executions = runs s t w (length h.pool.queued) (length h.pool.executions) (length h.pool.finished) (sum_by function_places h.functions) o none;
      finished = over s t w (length h.pool.queued) (length h.pool.executions) (length h.pool.finished) (sum_by function_places h.functions) o none;
      functions = none-owed h.functions (owed s t w (length h.pool.queued) (length h.pool.executions) (length h.pool.finished) (sum_by function_places h.functions) o none);
    }
  where
    queued : (s t w q e f p o : ℕ) → s + t + w + (4 * q + 3 * e + 2 * f) + p + o ≡ 0 → q ≡ 0
    queued s t w q e f p o h = omega (arith, h)

    runs : (s t w q e f p o : ℕ) → s + t + w + (4 * q + 3 * e + 2 * f) + p + o ≡ 0 → e ≡ 0
    runs s t w q e f p o h = omega (arith, h)

    over : (s t w q e f p o : ℕ) → s + t + w + (4 * q + 3 * e + 2 * f) + p + o ≡ 0 → f ≡ 0
    over s t w q e f p o h = omega (arith, h)

    owed : (s t w q e f p o : ℕ) → s + t + w + (4 * q + 3 * e + 2 * f) + p + o ≡ 0 → p ≡ 0
    owed s t w q e f p o h = omega (arith, h)

pub none-counted : {A : Type 0} (p : A → Bool) (xs : List A) → length xs ≡ 0 → count_by p xs ≡ 0
none-counted p xs none = by (count_by p xs) (length xs) (count_by-le-length p xs) none
  where
    by : (a b : ℕ) → a ≤ b → b ≡ 0 → a ≡ 0
    by a b le none = omega (arith, le, none)

state-done : (o : Option ℕ) (s : TsfnState) → state_places o s ≡ 0 → is_done s ≡ true
state-done o Open none = let no : 1 ≤ 0 = first (finalizer_places o) none in absurd (omega (arith, no))
  where
    first : (p : ℕ) → 2 + p ≡ 0 → 1 ≤ 0
    first p h = omega (arith, h)
state-done o Closing none = let no : 1 ≤ 0 = first (finalizer_places o) none in absurd (omega (arith, no))
  where
    first : (p : ℕ) → 1 + p ≡ 0 → 1 ≤ 0
    first p h = omega (arith, h)
state-done o Finished none = cc
state-done o Done none = refl

no-item : (n : ℕ) (f : FunctionState) → function_places f ≡ 0 → has_item n f ≡ false
no-item n f none =
    let empty : length f.items ≡ 0 = items (state_places f.finalizer f.state) (length f.items) none in
    ap (λ k. nat_lt f.taken n && not (nat_lt (f.taken + k) n)) empty ∙ ap (λ k. nat_lt f.taken n && not (nat_lt k n)) (same f.taken) ∙ never (nat_lt f.taken n)
  where
    items : (s l : ℕ) → s + 2 * l ≡ 0 → l ≡ 0
    items s l h = omega (arith, h)

    same : (n : ℕ) → n + 0 ≡ n
    same n = omega arith

    never : (b : Bool) → (b && not b) ≡ false
    never true = refl
    never false = refl

no-finalizer : (f : FunctionState) → function_places f ≡ 0 → owes_finalizer f ≡ false
no-finalizer f none =
    ap (λ b. is_some f.finalizer && not b) (state-done f.finalizer f.state (state (state_places f.finalizer f.state) (length f.items) none)) ∙ by (is_some f.finalizer)
  where
    state : (s l : ℕ) → s + 2 * l ≡ 0 → s ≡ 0
    state s l h = omega (arith, h)

    by : (b : Bool) → (b && false) ≡ false
    by true = refl
    by false = refl

none-passes : (test : FunctionState → Bool) → ((f : FunctionState) → function_places f ≡ 0 → test f ≡ false) → (h : Hub) (n : ℕ) → NothingReserved h
    → one_if (function_passes test (tsfn_at h n)) ≡ 0
none-passes test fails h n empty = by (tsfn_at h n) refl
  where
    by : (o : Option FunctionState) → tsfn_at h n ≡ o → one_if (function_passes test o) ≡ 0
    by None there = refl
    by (Some f) there = ap one_if (fails f (found-All (λ (g : FunctionState). g.id) (λ g. function_places g ≡ 0) n h.functions f empty.functions there))

no-places : (h : Hub) (d : Duty) → NothingReserved h → places_in_hub h d ≡ 0
no-places h (duty.Ticket t) empty = refl
no-places h (duty.Item t n) empty = none-passes (has_item n) (no-item n) h t.0 empty
no-places h (duty.Function t) empty = none-passes owes_finalizer no-finalizer h t.0 empty
no-places h (duty.Work n) empty =
    all (count_by (λ m. n == m) h.pool.queued) (count_by (λ (x : Execution). n == x.work) h.pool.executions) (count_by (λ (o : Outcome). n == o.work) h.pool.finished)
    (none-counted (λ m. n == m) h.pool.queued empty.queued) (none-counted (λ (x : Execution). n == x.work) h.pool.executions empty.executions)
    (none-counted (λ (o : Outcome). n == o.work) h.pool.finished empty.finished)
  where
    all : (q e f : ℕ) → q ≡ 0 → e ≡ 0 → f ≡ 0 → q + e + f ≡ 0
    all q e f a b c = omega (arith, a, b, c)

-- AT THE END
pub final-empty : (s : Setting) (bs : List Ask) (xs : List Entry) → EndsBy s bs xs → NothingReserved (final_of s bs xs).hub
final-empty s bs xs whole =
    let r : HubRoomy (HistorySuffices s) s.limits (final_of s bs xs) = hub-run (HistorySuffices s) s.limits (opening_of s) bs xs (opening-hub s) whole.run.steps in
    empty-hub (final_of s bs xs).hub (r.spent (final-stage s bs xs whole.run.steps whole.gone))

pub none-left : NoPlaceIsLeft
none-left s bs xs (duty.Ticket t) whole =
    ap (λ n. n + 0) (sym (is-one (is_at is_owed (final_of s bs xs).env.book t.0)) ∙ ticket.none-owed-at-end s bs xs t.0 whole)
none-left s bs xs d whole = ap (λ n. 0 + n) (no-places (final_of s bs xs).hub d (final-empty s bs xs whole))

pub each-once : EveryDutyIsOnce
each-once s bs xs whole = record {
  each = λ d. place-gives-once (final_of s bs xs) d xs (each-place s bs xs d whole.run) (none-left s bs xs d whole);
  withdrawals = withdrawn-rightly s bs xs whole.run;
}

pub tickets-are-once : TicketsAreOnce
tickets-are-once s bs xs whole t = (each-once s bs xs whole).each (duty.Ticket t)

-- STARTS
-- each completion is cancelled or not
pub both : (d : Duty) (xs : List Entry) → begun_cancelled d xs + begun_uncancelled d xs ≡ begun d xs
both d [] = refl
both d (x ∷ xs) =
    sum _ _ _ _ _ _ _ _ _ (tally-cons (λ (y : Entry). is_duty d (begun_duty y.what y.reply.out) && is_cancelled y.reply.status) x xs)
    (tally-cons (λ (y : Entry). is_duty d (begun_duty y.what y.reply.out) && not (is_cancelled y.reply.status)) x xs)
    (tally-cons (λ (y : Entry). is_duty d (begun_duty y.what y.reply.out)) x xs) (both d xs)
    (parted (is_duty d (begun_duty x.what x.reply.out)) (is_cancelled x.reply.status))
  where
    sum : (a b c d e f g h i : ℕ) → a ≡ b + c → d ≡ e + f → g ≡ h + i → c + f ≡ i → b + e ≡ h → a + d ≡ g
    sum a b c d e f g h i p q r s t = omega (arith, p, q, r, s, t)

    parted : (a b : Bool) → one_if (a && b) + one_if (a && not b) ≡ one_if a
    parted true true = refl
    parted true false = refl
    parted false b = refl

pub starts-told : CompletionsTellStarts
starts-told s bs xs n whole =
    let h : Hub = (final_of s bs xs).hub in
    let empty : NothingReserved h = final-empty s bs xs whole in
    let facts : RunFacts (opening_of s).hub xs h = setting-facts s bs xs whole.run.steps in
    let none : ran_in_pool n h.pool ≡ 0 =
    sum (none-counted (λ (x : Execution). n == x.work) h.pool.executions empty.executions)
    (none-counted (λ (o : Outcome). (n == o.work) && not (is_cancelled o.status)) h.pool.finished empty.finished) in
    let uncancelled : begun_uncancelled (duty.Work n) xs ≡ started (duty.Work n) xs =
    same (ran_in_pool n h.pool) (begun_uncancelled (duty.Work n) xs) (started (duty.Work n) xs) (facts.ran n) none in
    let k : HubRunAccount (duty.Work n) (opening_of s).hub xs h = facts.each (duty.Work n) refl in
    record {
      uncancelled = uncancelled;
      cancelled =
          rest (begun_cancelled (duty.Work n) xs) (begun_uncancelled (duty.Work n) xs) (begun (duty.Work n) xs) (started (duty.Work n) xs) (made (duty.Work n) xs)
          (places_in_hub h (duty.Work n)) (both (duty.Work n) xs) uncancelled k.placed (no-places h (duty.Work n) empty);
    }
  where
    sum : {a b : ℕ} → a ≡ 0 → b ≡ 0 → a + b ≡ 0
    sum h j = omega (arith, h, j)

    same : (r u s : ℕ) → r + u ≡ 0 + s → r ≡ 0 → u ≡ s
    same r u s h z = omega (arith, h, z)

    rest : (c u b s m p : ℕ) → c + u ≡ b → u ≡ s → p + b ≡ 0 + m → p ≡ 0 → c ≡ m - s
    rest c u b s m p h i j z = omega (arith, h, i, j, z)
