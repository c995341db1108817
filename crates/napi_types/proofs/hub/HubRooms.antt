-- Each step of the hub that may come has its room in the history: a call takes no more places than it needs, and every event has its own.
use Rattle.std.proofs.Common.{◌≡◌, ◌∙◌, ℕ, suc, ◌+◌, ◌*◌, ◌≤◌, ◌==◌, ◌||◌, Bool, true, false, not, cond, List, [], ◌∷◌, ◌++◌, length, map, filter, refl, ap, sym, subst, arith, length-append, inl, inr, ◌⊎◌, Option, Some, None, is_some, is_none, option_map}
use Rattle.std.specs.List.{sum_by, range_with_len}
use Rattle.std.specs.Option.{option_or, unwrap_or, option_and_then, option_map_or}
use Rattle.std.proofs.lemmas.List.{length-map}
use Rattle.std.proofs.lemmas.List.Sums.{sum_by_push, length-filter, count_by-le-length}
use Rattle.napi_types.specs.declared.duties.DueInfo.{DueInfo}
use Rattle.napi_types.specs.declared.entry.Duty.{Duty}
use Rattle.napi_types.specs.declared.entry.Duty.TheVariants as duty
use Rattle.napi_types.specs.declared.entry.Entry.{Entry}
use Rattle.napi_types.specs.declared.entry.HostStep.{HostStep}
use Rattle.napi_types.specs.declared.entry.HostStep.TheVariants as host
use Rattle.napi_types.specs.declared.entry.Out.{Out}
use Rattle.napi_types.specs.declared.entry.What.{What}
use Rattle.napi_types.specs.declared.entry.What.TheVariants as what
use Rattle.napi_types.specs.declared.status.Status.{Status}
use Rattle.napi_types.specs.declared.status.Status.TheVariants as status
use Rattle.napi_types.specs.plain.CallFacts.{finalizer_places}
use Rattle.napi_types.specs.plain.Lists.{found, has, has_number, with_number, with_record, head, tail, singleton, unless}
use Rattle.napi_types.specs.plain.Room.{one_if, need}
use Rattle.napi_types.specs.parts.Functions.{FunctionState, new_function, called, closed, finished}
use Rattle.napi_types.specs.parts.Pool.{WorkPool, work_at, work_numbered, number_of_work, executed_by, standing_at, work_state, work_refusal, state_refusal, with_work, without_work, with_queued, cancelled_at, with_cancelled, with_started, started_from, with_finished, finished_at, with_completed, first_completion, completion_info, drained}
use Rattle.napi_types.specs.parts.Works.{Work, WorkState, Created, Queued, Running, Finished, Completed, Execution, Outcome, is_queued, cancelled_outcome}
use Rattle.napi_types.specs.hub.HistoryRoom.{work_places, function_places, reserved_history}
use Rattle.napi_types.specs.hub.Hub.{stage_places, Hub, Stage, Before, Live, LoopEnded, Drained, stage_after, left_of, threads_left, workers_left, HooksAbandoned}
use Rattle.napi_types.specs.hub.HubCalls.{new_function_number}
use Rattle.napi_types.specs.hub.HubMoves.{HubMove, Delivers, Closes, Finishes, first_move, hub_move, in_pool, in_tsfn, without_duty, with_delivered}
use Rattle.napi_types.specs.hub.GivenSteps.{has_loop_ended, work_number}
use Rattle.napi_types.specs.hub.HubEvents.{staged, drained_hub}
use Rattle.napi_types.proofs.plain.Conditions.{and-left}
use Rattle.napi_types.proofs.plain.Found.{has-found, has-with_number, turned}
use Rattle.napi_types.proofs.plain.Maps.{length-with_record}
use Rattle.napi_types.proofs.plain.CallFacts.{needs-place}
use Rattle.napi_types.proofs.hub.HubCases.{HubCase, asks, creates_work, deletes_work, cancels_work, queues_work, creates_function, alters, goes, ends_loop, drains, comes_to_finals, delivers, closes, finishes, ends, thread_ends, worker_ends, starts, finishes_work, calls, acquires, releases, references, unreferences, abandons}
use Rattle.napi_types.proofs.hub.HubFunctions.{called-open, AreSoundFrom, IsAmong, found-among, alters-grows, all_closed-le, DutyFalls, Moves, first-moves}

-- ONE LESS
-- without the records of a number that one of them has, the list is shorter
pub has-fewer : {A : Type 0} (number : A → ℕ) (n : ℕ) (xs : List A) → has number n xs ≡ true → length (filter (λ x. not (number x == n)) xs) + 1 ≤ length xs
has-fewer number n [] there = let no : false ≡ true = there in cc
has-fewer number n (x ∷ xs) there = by (number x == n) there (at-most xs) (has-fewer number n xs)
  where
    at-most : (ys : List _) → length (filter (λ y. not (number y == n)) ys) ≤ length ys
    at-most ys = omega (arith, length-filter (λ y. not (number y == n)) ys, count_by-le-length (λ y. not (number y == n)) ys)

    by : (b : Bool) → (b || has number n xs) ≡ true → length (filter (λ y. not (number y == n)) xs) ≤ length xs
        → (has number n xs ≡ true → length (filter (λ y. not (number y == n)) xs) + 1 ≤ length xs)
        → length (cond (not b) (x ∷ filter (λ y. not (number y == n)) xs) (filter (λ y. not (number y == n)) xs)) + 1 ≤ suc (length xs)
    by true there few rest = omega (arith, few)
    by false there few rest = let less = rest there in omega (arith, less)

-- those of these that have not ended
abbrev pub not_among : List ℕ → List ℕ → List ℕ
not_among ended ms = filter (λ k. not (has_number k ended)) ms

pub left-without : (n : ℕ) (ended ms : List ℕ) → not_among (with_number n ended) ms ≡ filter (λ k. not (k == n)) (not_among ended ms)
left-without n ended [] = refl
left-without n ended (m ∷ ms) =
    ap (λ c. cond (not c) (m ∷ not_among (with_number n ended) ms) (not_among (with_number n ended) ms)) (has-with_number m n ended ∙ ap (λ c. c || has_number m ended) (turned n m))
    ∙ by (m == n) refl (has_number m ended) (left-without n ended ms)
  where
    by : (a : Bool) → (m == n) ≡ a → (b : Bool) → not_among (with_number n ended) ms ≡ filter (λ k. not (k == n)) (not_among ended ms)
        → cond (not (a || b)) (m ∷ not_among (with_number n ended) ms) (not_among (with_number n ended) ms)
        ≡ filter (λ k. not (k == n)) (cond (not b) (m ∷ not_among ended ms) (not_among ended ms))
    by true is true rest = rest
    by false is true rest = rest
    by true is false rest = rest ∙ sym (ap (λ c. cond (not c) (m ∷ filter (λ k. not (k == n)) (not_among ended ms)) (filter (λ k. not (k == n)) (not_among ended ms))) is)
    by false is false rest =
        ap (λ ks. m ∷ ks) rest ∙ sym (ap (λ c. cond (not c) (m ∷ filter (λ k. not (k == n)) (not_among ended ms)) (filter (λ k. not (k == n)) (not_among ended ms))) is)

-- one actor has ended more
left-fewer : (count n : ℕ) (ended : List ℕ) → has_number n (left_of count ended) ≡ true → length (left_of count (with_number n ended)) + 1 ≤ length (left_of count ended)
left-fewer count n ended there =
    let less : length (filter (λ k. not (k == n)) (left_of count ended)) + 1 ≤ length (left_of count ended) = has-fewer (λ m. m) n (left_of count ended) there in
    let same : length (left_of count (with_number n ended)) ≡ length (filter (λ k. not (k == n)) (left_of count ended)) = ap length (left-without n ended (range_with_len 0 count)) in
    omega (arith, less, same)

-- THE POOL
-- the work of an id is there, and its state passes the test
pub record IsWork (test : WorkState → Bool) (p : WorkPool) (id : ℕ) : Type 0 where
  pub work : Work
  pub there : work_at p id ≡ Some work
  pub state : test (work_state p work) ≡ true

-- so it is where the call is not refused
pub not-refused : (test : WorkState → Bool) (p : WorkPool) (id : ℕ) → work_refusal test p id ≡ None → IsWork test p id
not-refused test p id none = by (work_at p id) refl none
  where
    passes : (w : Work) (b : Bool) → work_at p id ≡ Some w → test (work_state p w) ≡ b → unless b status.GenericFailure ≡ None → IsWork test p id
    passes w true there is none = record { work = w; there = there; state = is }
    passes w false there is none = let no : ⊥ = cc in absurd no

    by : (o : Option Work) → work_at p id ≡ o → state_refusal test p o ≡ None → IsWork test p id
    by None there none = let no : ⊥ = cc in absurd no
    by (Some w) there none = passes w (test (work_state p w)) there refl none

-- a work that waits does so under its number
pub record WorkWaits (p : WorkPool) (w : Work) : Type 0 where
  pub number : ℕ
  pub is : w.number ≡ Some number
  pub waits : has_number number p.queued ≡ true

pub queued-waits : (p : WorkPool) (w : Work) → is_queued (work_state p w) ≡ true → WorkWaits p w
queued-waits p w is = by w.number refl is
  where
    other : (r f : Bool) → is_queued (cond r Running (cond f Finished Completed)) ≡ false
    other true f = refl
    other false true = refl
    other false false = refl

    waiting : (n : ℕ) (b r f : Bool) → w.number ≡ Some n → has_number n p.queued ≡ b → is_queued (cond b Queued (cond r Running (cond f Finished Completed))) ≡ true → WorkWaits p w
    waiting n true r f numbered waits is = record { number = n; is = numbered; waits = waits }
    waiting n false r f numbered waits is = let no : false ≡ true = sym (other r f) ∙ is in cc

    by : (o : Option ℕ) → w.number ≡ o → is_queued (option_map_or (standing_at p) o Created) ≡ true → WorkWaits p w
    by None numbered is = cc
    by (Some n) numbered is = waiting n (has_number n p.queued) (has (λ (x : Execution). x.work) n p.executions) (has (λ (o : Outcome). o.work) n p.finished) numbered refl is

cancelled-fits : (q e f q' f' : ℕ) → q' + 1 ≤ q → f' ≡ f + 1 → 4 * q' + 3 * e + 2 * f' + 1 ≤ 4 * q + 3 * e + 2 * f + 1
cancelled-fits q e f q' f' less more = omega (arith, less, more)

cancels-fits : (p : WorkPool) (id : ℕ) → work_refusal is_queued p id ≡ None → work_places (with_cancelled id p) + 1 ≤ work_places p + 1
cancels-fits p id none =
    let w : IsWork is_queued p id = not-refused is_queued p id none in
    let k : WorkWaits p w.work = queued-waits p w.work w.state in
    let number : number_of_work p id ≡ Some k.number = ap (λ o. option_and_then (λ (v : Work). v.number) o) w.there ∙ k.is in
    subst (λ o. work_places (cancelled_at o p) + 1 ≤ work_places p + 1) (sym number)
    (cancelled-fits (length p.queued) (length p.executions) (length p.finished) (length (filter (λ m. not (m == k.number)) p.queued))
    (length (p.finished ++ singleton (cancelled_outcome k.number))) (has-fewer (λ m. m) k.number p.queued k.waits)
    (length-append p.finished (singleton (cancelled_outcome k.number))))

queued-fits : (q e f q' : ℕ) → q' ≡ q + 1 → 4 * q' + 3 * e + 2 * f + 1 ≤ 4 * q + 3 * e + 2 * f + 5
queued-fits q e f q' more = omega (arith, more)

started-fits : (q e f q' e' : ℕ) → q ≡ suc q' → e' ≤ e + 1 → 4 * q' + 3 * e' + 2 * f + 1 ≤ 4 * q + 3 * e + 2 * f + 0
started-fits q e f q' e' less more = omega (arith, less, more)

starts-fits : (p : WorkPool) (w n : ℕ) (later : List ℕ) → p.queued ≡ n ∷ later → work_places (with_started w p) + 1 ≤ work_places p + 0
starts-fits p w n later waits =
    subst (λ ns. work_places (started_from ns w p) + 1 ≤ work_places p + 0) (sym waits)
    (started-fits (length p.queued) (length p.executions) (length p.finished) (length later)
    (length (with_record (λ (x : Execution). x.worker) (record { worker = w; work = n }) p.executions)) (ap length waits)
    (length-with_record (λ (x : Execution). x.worker) (record { worker = w; work = n }) p.executions))

-- a worker that executes a work is found
pub executes-there : (p : WorkPool) (w n : ℕ) → executed_by p w ≡ Some n → has (λ (x : Execution). x.worker) w p.executions ≡ true
executes-there p w n runs = has-found (λ (x : Execution). x.worker) w p.executions ∙ by (found (λ (x : Execution). x.worker) w p.executions) runs
  where
    by : (o : Option Execution) → option_map (λ (x : Execution). x.work) o ≡ Some n → is_some o ≡ true
    by None runs = cc
    by (Some x) runs = refl

finished-fits : (q e f e' f' : ℕ) → e' + 1 ≤ e → f' ≡ f + 1 → 4 * q + 3 * e' + 2 * f' + 1 ≤ 4 * q + 3 * e + 2 * f + 0
finished-fits q e f e' f' less more = omega (arith, less, more)

finishes-fits : (p : WorkPool) (w n : ℕ) → executed_by p w ≡ Some n → work_places (with_finished w p) + 1 ≤ work_places p + 0
finishes-fits p w n runs =
    subst (λ o. work_places (finished_at w o p) + 1 ≤ work_places p + 0) (sym runs)
    (finished-fits (length p.queued) (length p.executions) (length p.finished) (length (filter (λ (x : Execution). not (x.worker == w)) p.executions))
    (length (finished_at w (Some n) p).finished) (has-fewer (λ (x : Execution). x.worker) w p.executions (executes-there p w n runs))
    (length-append p.finished (singleton _)))

-- the completion that begins is that of the work that finished first
pub record Completes (p : WorkPool) (d : DueInfo) : Type 0 where
  pub outcome : Outcome
  pub later : List Outcome
  pub first : p.finished ≡ outcome ∷ later
  pub duty : d.duty ≡ duty.Work outcome.work

pub completion-completes : (p : WorkPool) (d : DueInfo) → first_completion p ≡ Some d → Completes p d
completion-completes p d is = by p.finished refl is
  where
    told : (o : Outcome) (os : List Outcome) (w : Option Work) → p.finished ≡ o ∷ os → option_map (λ v. completion_info v o) w ≡ Some d → Completes p d
    told o os None first is = let no : ⊥ = cc in absurd no
    told o os (Some w) first is =
        let same : completion_info w o ≡ d = cc in
        record { outcome = o; later = os; first = first; duty = sym (ap (λ (i : DueInfo). i.duty) same) }

    by : (os : List Outcome) → p.finished ≡ os → option_and_then (λ (o : Outcome). option_map (λ w. completion_info w o) (work_numbered p o.work)) (head os) ≡ Some d → Completes p d
    by [] first is = let no : ⊥ = cc in absurd no
    by (o ∷ os) first is = told o os (work_numbered p o.work) first is

completed-fits : (q e f f' : ℕ) → f ≡ suc f' → 4 * q + 3 * e + 2 * f' + 2 ≤ 4 * q + 3 * e + 2 * f + 0
completed-fits q e f f' less = omega (arith, less)

completes-fits : (p : WorkPool) (d : DueInfo) → Completes p d → work_places (with_completed p) + 2 ≤ work_places p + 0
completes-fits p d k =
    completed-fits (length p.queued) (length p.executions) (length p.finished) (length (tail p.finished)) (ap length k.first ∙ sym (ap (λ os. suc (length (tail os))) k.first))

drained-fits : (q e f f' : ℕ) → f' ≡ f + q → 4 * 0 + 3 * e + 2 * f' + 0 ≤ 4 * q + 3 * e + 2 * f + 0
drained-fits q e f f' more = omega (arith, more)

drains-fits : (p : WorkPool) → work_places (drained p) + 0 ≤ work_places p + 0
drains-fits p =
    drained-fits (length p.queued) (length p.executions) (length p.finished) (length (p.finished ++ map cancelled_outcome p.queued))
    (length-append p.finished (map cancelled_outcome p.queued) ∙ ap (λ n. length p.finished + n) (length-map p.queued cancelled_outcome))

-- THE WHOLE HUB
in-pool-room : (h : Hub) (change : WorkPool → WorkPool) (a b : ℕ) → work_places (change h.pool) + a ≤ work_places h.pool + b → reserved_history (in_pool change h) + a ≤ reserved_history h + b
in-pool-room h change a b fits =
    by (stage_places h.stage + length (threads_left h) + length (workers_left h)) (work_places h.pool) (work_places (change h.pool)) (sum_by function_places h.functions) (one_if (is_some h.standing)) fits
  where
    by : (s p q f o : ℕ) → q + a ≤ p + b → s + q + f + o + a ≤ s + p + f + o + b
    by s p q f o fits = omega (arith, fits)

in-functions-room : (h : Hub) (fs : List FunctionState) (a b : ℕ) → sum_by function_places fs + a ≤ sum_by function_places h.functions + b
    → reserved_history (record h { functions = fs }) + a ≤ reserved_history h + b
in-functions-room h fs a b fits =
    by (stage_places h.stage + length (threads_left h) + length (workers_left h) + work_places h.pool) (sum_by function_places h.functions) (sum_by function_places fs) (one_if (is_some h.standing)) fits
  where
    by : (s p q o : ℕ) → q + a ≤ p + b → s + q + o + a ≤ s + p + o + b
    by s p q o fits = omega (arith, fits)

-- a function among them is changed
in-function-room : (late : Bool) (h : Hub) (f : FunctionState) (change : FunctionState → FunctionState) (a b : ℕ) → IsAmong late 1 h.functions f
    → function_places (change f) + a ≤ function_places f + b → reserved_history (in_tsfn f.id change h) + a ≤ reserved_history h + b
in-function-room late h f change a b among fits =
    in-functions-room h (in_tsfn f.id change h).functions a b
    (by (sum_by function_places h.functions) (sum_by function_places (in_tsfn f.id change h).functions) (function_places f) (function_places (change f))
    (among.places change) fits)
  where
    by : (s t p q : ℕ) → t + p ≡ s + q → q + a ≤ p + b → t + a ≤ s + b
    by s t p q same fits = omega (arith, same, fits)

-- A GREAT EVENT
stage-falls : (s : Stage) (event : HostStep) → is_some (stage_after s event) ≡ true → stage_places (unwrap_or (stage_after s event) s) + 1 ≤ stage_places s
stage-falls Before host.Go comes = omega arith
stage-falls Live host.LoopEnd comes = omega arith
stage-falls LoopEnded host.Abandon comes = omega arith
stage-falls LoopEnded host.Drain comes = omega arith
stage-falls HooksAbandoned host.Drain comes = omega arith
stage-falls Drained host.Finals comes = omega arith
stage-falls _ _ comes = cc

staged-room : (h : Hub) (event : HostStep) → is_some (stage_after h.stage event) ≡ true → reserved_history (staged event h) + 1 ≤ reserved_history h + 0
staged-room h event comes =
    by (stage_places h.stage) (stage_places (staged event h).stage) (length (threads_left h)) (length (workers_left h)) (work_places h.pool) (sum_by function_places h.functions) (one_if (is_some h.standing))
    (stage-falls h.stage event comes)
  where
    by : (s s' t w p f o : ℕ) → s' + 1 ≤ s → s' + t + w + p + f + o + 1 ≤ s + t + w + p + f + o + 0
    by s s' t w p f o falls = omega (arith, falls)

drained-room : (h : Hub) → is_some (stage_after h.stage host.Drain) ≡ true → reserved_history (staged host.Drain (drained_hub h)) + 1 ≤ reserved_history h + 0
drained-room h comes =
    let pool : reserved_history (in_pool drained h) + 0 ≤ reserved_history h + 0 = in-pool-room h drained 0 0 (drains-fits h.pool) in
    let functions : reserved_history (drained_hub h) + 0 ≤ reserved_history (in_pool drained h) + 0 =
    in-functions-room (in_pool drained h) (map closed h.functions) 0 0 (omega (arith, all_closed-le h.functions)) in
    let falls : reserved_history (staged host.Drain (drained_hub h)) + 1 ≤ reserved_history (drained_hub h) + 0 = staged-room (drained_hub h) host.Drain comes in
    by (reserved_history h) (reserved_history (in_pool drained h)) (reserved_history (drained_hub h)) (reserved_history (staged host.Drain (drained_hub h))) pool functions falls
  where
    by : (a b c d : ℕ) → b + 0 ≤ a + 0 → c + 0 ≤ b + 0 → d + 1 ≤ c + 0 → d + 1 ≤ a + 0
    by a b c d e f g = omega (arith, e, f, g)

-- A MOVE
-- what moves is the work that finished first, or else a function
pub move-of_function : (h : Hub) (o : Option DueInfo) (move : HubMove) → first_completion h.pool ≡ o → option_or (option_map Delivers o) (first_move h.functions) ≡ Some move
    → ((d : DueInfo) → first_completion h.pool ≡ Some d → move ≡ Delivers d → ⊥) → first_move h.functions ≡ Some move
move-of_function h None move first next none = next
move-of_function h (Some d) move first next none = let same : Delivers d ≡ move = cc in absurd (none d first (sym same))

abbrev pub WhatMoves : Hub → DueInfo → Type 0
WhatMoves h d = (first_completion h.pool ≡ Some d) ⊎ (first_move h.functions ≡ Some (Delivers d))

pub what-moves : (h : Hub) (d : DueInfo) → hub_move h ≡ Some (Delivers d) → WhatMoves h d
what-moves h d next = by (first_completion h.pool) refl next
  where
    by : (o : Option DueInfo) → first_completion h.pool ≡ o → option_or (option_map Delivers o) (first_move h.functions) ≡ Some (Delivers d) → WhatMoves h d
    by None first next = inr next
    by (Some e) first next = let same : e ≡ d = cc in inl (first ∙ ap Some same)

standing-room : (h g : Hub) (d : DueInfo) → is_none h.standing ≡ true → g.standing ≡ h.standing → reserved_history g + 2 ≤ reserved_history h + 0
    → reserved_history (record g { standing = Some d }) + 1 ≤ reserved_history h + 0
standing-room h g d alone same fits =
    by (stage_places g.stage + length (threads_left g) + length (workers_left g) + work_places g.pool + sum_by function_places g.functions) (one_if (is_some g.standing)) (reserved_history h) fits
  where
    by : (x o r : ℕ) → x + o + 2 ≤ r + 0 → x + 1 + 1 ≤ r + 0
    by x o r fits = omega (arith, fits)

duty-room : (late : Bool) (h : Hub) (f : FunctionState) (d : Duty) → IsAmong late 1 h.functions f → DutyFalls late f d → reserved_history (without_duty d h) + 2 ≤ reserved_history h + 0
duty-room late h f (duty.Item g n) among falls =
    rw falls.0 (in-function-room late h f _ 2 0 among (omega (arith, falls.1.room)))
duty-room late h f (duty.Function g) among falls =
    rw falls.0 (in-function-room late h f _ 2 0 among (omega (arith, falls.1.room)))
duty-room late h f (duty.Work n) among falls = absurd falls
duty-room late h f (duty.Ticket t) among falls = absurd falls

duty-standing : (d : Duty) (h : Hub) → (without_duty d h).standing ≡ h.standing
duty-standing (duty.Ticket t) h = refl
duty-standing _ h = refl

delivered-room : (late : Bool) (h : Hub) (d : DueInfo) → AreSoundFrom late 1 h.functions → hub_move h ≡ Some (Delivers d) → is_none h.standing ≡ true
    → reserved_history (with_delivered d h) + 1 ≤ reserved_history h + 0
delivered-room late h d sound next alone = standing-room h (without_duty d.duty h) d alone (duty-standing d.duty h) (by (what-moves h d next))
  where
    by : WhatMoves h d → reserved_history (without_duty d.duty h) + 2 ≤ reserved_history h + 0
    by (inl first) =
        let k : Completes h.pool d = completion-completes h.pool d first in
        rw k.duty (in-pool-room h with_completed 2 0 (completes-fits h.pool d k))
    by (inr first) =
        let k : Moves late 1 h.functions (Delivers d) = first-moves late 1 h.functions (Delivers d) sound first in
        duty-room late h k.function d.duty k.among k.falls

closes-room : (late : Bool) (h : Hub) (n : ℕ) → AreSoundFrom late 1 h.functions → hub_move h ≡ Some (Closes n)
    → reserved_history (in_tsfn n closed h) + 1 ≤ reserved_history h + 0
closes-room late h n sound next =
    let k : Moves late 1 h.functions (Closes n) =
    first-moves late 1 h.functions (Closes n) sound (move-of_function h (first_completion h.pool) (Closes n) refl next (λ d first is. cc)) in
    rw k.falls.0 (in-function-room late h k.function closed 1 0 k.among (omega (arith, k.falls.1.room)))

finishes-room : (late : Bool) (h : Hub) (n : ℕ) → AreSoundFrom late 1 h.functions → hub_move h ≡ Some (Finishes n)
    → reserved_history (in_tsfn n finished h) + 1 ≤ reserved_history h + 0
finishes-room late h n sound next =
    let k : Moves late 1 h.functions (Finishes n) =
    first-moves late 1 h.functions (Finishes n) sound (move-of_function h (first_completion h.pool) (Finishes n) refl next (λ d first is. cc)) in
    rw k.falls.0 (in-function-room late h k.function finished 1 0 k.among (omega (arith, k.falls.1.room)))

-- AN ACTOR ENDS
thread-room : (h : Hub) (t : ℕ) → has_number t (threads_left h) ≡ true → reserved_history (record h { ended_threads = with_number t h.ended_threads }) + 1 ≤ reserved_history h + 0
thread-room h t there =
    by (stage_places h.stage) (length (threads_left h)) (length (left_of h.threads (with_number t h.ended_threads))) (length (workers_left h)) (work_places h.pool)
    (sum_by function_places h.functions) (one_if (is_some h.standing)) (left-fewer h.threads t h.ended_threads there)
  where
    by : (s t t' w p f o : ℕ) → t' + 1 ≤ t → s + t' + w + p + f + o + 1 ≤ s + t + w + p + f + o + 0
    by s t t' w p f o fewer = omega (arith, fewer)

worker-room : (h : Hub) (w : ℕ) → has_number w (workers_left h) ≡ true → reserved_history (record h { ended_workers = with_number w h.ended_workers }) + 1 ≤ reserved_history h + 0
worker-room h w there =
    by (stage_places h.stage + length (threads_left h)) (length (workers_left h)) (length (left_of h.workers (with_number w h.ended_workers))) (work_places h.pool)
    (sum_by function_places h.functions) (one_if (is_some h.standing)) (left-fewer h.workers w h.ended_workers there)
  where
    by : (s w w' p f o : ℕ) → w' + 1 ≤ w → s + w' + p + f + o + 1 ≤ s + w + p + f + o + 0
    by s w w' p f o fewer = omega (arith, fewer)

-- the end of a frame gives its place back
end-room : (h : Hub) (d : DueInfo) → h.standing ≡ Some d → reserved_history (record h { standing = None }) + 1 ≤ reserved_history h + 0
end-room h d stands =
    by (stage_places h.stage + length (threads_left h) + length (workers_left h) + work_places h.pool + sum_by function_places h.functions) (one_if (is_some h.standing))
    (ap (λ o. one_if (is_some o)) stands)
  where
    by : (x o : ℕ) → o ≡ 1 → x + 0 + 1 ≤ x + o + 0
    by x o one = omega (arith, one)

-- one function more
creates-room : (h : Hub) (f : FunctionState) (k : ℕ) → function_places f + 1 ≤ k
    → reserved_history (record h { functions = h.functions ++ singleton f }) + 1 ≤ reserved_history h + k
creates-room h f k fits = in-functions-room h (h.functions ++ singleton f) 1 k (omega (arith, fits, sum_by_push function_places h.functions f))

-- EACH STEP
-- the places that an entry takes beside those that are reserved: a call those that it needs
abbrev pub places_beside : What → ℕ
places_beside (what.Call c) = need c
places_beside (what.Host event) = 0

nothing-room : (h : Hub) (k : ℕ) → 1 ≤ k → reserved_history h + 1 ≤ reserved_history h + k
nothing-room h k some = by (reserved_history h)
  where
    by : (r : ℕ) → r + 1 ≤ r + k
    by r = omega (arith, some)

has-places : (a b : ℕ) (x : Entry) (w : What) → x.what ≡ w → a + 1 ≤ b + places_beside w → a + 1 ≤ b + places_beside x.what
has-places a b x w is fits = subst (λ v. a + 1 ≤ b + places_beside v) (sym is) fits

pub hub-room : (late : Bool) (h : Hub) (x : Entry) (told : Out) (n : Hub) → AreSoundFrom late 1 h.functions → HubCase h x told n → reserved_history n + 1 ≤ reserved_history h + places_beside x.what
hub-room late h x told _ sound (asks c is shared) = has-places _ _ x _ is (nothing-room h (need c) (needs-place c))
hub-room late h x told _ sound (creates_work job entry payload addon is fresh tells) =
    has-places _ _ x _ is (in-pool-room h (with_work (work_number x.reply.out) job addon entry payload) 1 1 (omega arith))
hub-room late h x told _ sound (deletes_work w is none) = has-places _ _ x _ is (in-pool-room h (without_work w.0) 1 1 (omega arith))
hub-room late h x told _ sound (cancels_work w is none) = has-places _ _ x _ is (in-pool-room h (with_cancelled w.0) 1 1 (cancels-fits h.pool w.0 none))
hub-room late h x told _ sound (queues_work w is none early) =
    has-places _ _ x _ is (in-pool-room h (with_queued w.0) 1 5
    (queued-fits (length h.pool.queued) (length h.pool.executions) (length h.pool.finished) (length (with_queued w.0 h.pool).queued)
    (length-append h.pool.queued (singleton _))))
hub-room late h x told _ sound (creates_function f entry maximum count finalizer context addon target is early) = has-places _ _ x _ is (creates-room h (new_function (new_function_number h) addon target maximum count finalizer context) (3 + finalizer_places finalizer) (omega arith))
hub-room late h x told _ sound (alters c k f change is there how) =
    has-places _ _ x _ is (in-function-room late h f change 1 (need c) (found-among late 1 k h.functions f sound there) (alters-grows late f c change how).room)
hub-room late h x told _ sound (goes is may) = has-places _ _ x _ is (staged-room h host.Go (and-left _ (is_none h.standing) may))
hub-room late h x told _ sound (abandons is may still) = has-places _ _ x _ is (staged-room h host.Abandon (and-left _ (is_none h.standing) may))
hub-room late h x told _ sound (ends_loop is may) = has-places _ _ x _ is (staged-room h host.LoopEnd (and-left _ (is_none h.standing) may))
hub-room late h x told _ sound (drains is may) = has-places _ _ x _ is (drained-room h (and-left _ (is_none h.standing) may))
hub-room late h x told _ sound (comes_to_finals is may) = has-places _ _ x _ is (staged-room h host.Finals (and-left _ (is_none h.standing) may))
hub-room late h x told _ sound (delivers d is next alone) = has-places _ _ x _ is (delivered-room late h d sound next alone)
hub-room late h x told _ sound (closes n is next) = has-places _ _ x _ is (closes-room late h n sound next)
hub-room late h x told _ sound (finishes n is next) = has-places _ _ x _ is (finishes-room late h n sound next)
hub-room late h x told _ sound (ends d is stands) = has-places _ _ x _ is (end-room h d stands)
hub-room late h x told _ sound (thread_ends t is there) = has-places _ _ x _ is (thread-room h t there)
hub-room late h x told _ sound (worker_ends w is there) = has-places _ _ x _ is (worker-room h w there)
hub-room late h x told _ sound (starts w n later is waits free) = has-places _ _ x _ is (in-pool-room h (with_started w) 1 0 (starts-fits h.pool w n later waits))
hub-room late h x told _ sound (finishes_work w n is runs) = has-places _ _ x _ is (in-pool-room h (with_finished w) 1 0 (finishes-fits h.pool w n runs))

-- LATE
-- from the end of the loop on no entry takes more places than it gives back, once no function is open
one-place : (a b : ℕ) (x : Entry) (w : What) → x.what ≡ w → places_beside w ≤ 1 → a + 1 ≤ b + places_beside x.what → a ≤ b
one-place a b x w is one fits = by (places_beside w) one (subst (λ v. a + 1 ≤ b + places_beside v) is fits)
  where
    by : (k : ℕ) → k ≤ 1 → a + 1 ≤ b + k → a ≤ b
    by k one fits = omega (arith, one, fits)

no-more : (a b : ℕ) → a + 0 ≤ b + 0 → a ≤ b
no-more a b fits = omega (arith, fits)

called-late : (f : FunctionState) (payload : ℕ) (s : Status) → (s ≡ status.Ok → ⊥) → function_places (called (Some s) payload f) + 0 ≤ function_places f + 0
called-late f payload status.Ok never = absurd (never refl)
called-late f payload status.Closing never = omega arith
called-late f payload _ never = omega arith

pub late-room : (late : Bool) (h : Hub) (x : Entry) (told : Out) (n : Hub) → late ≡ true → has_loop_ended h.stage ≡ true → AreSoundFrom late 1 h.functions
    → HubCase h x told n
    → reserved_history n ≤ reserved_history h
late-room late h x told _ is_from_finals_on looped sound (queues_work w is none early) = let no : true ≡ false = sym looped ∙ early in cc
late-room late h x told _ is_from_finals_on looped sound (creates_function f entry maximum count finalizer context addon target is early) =
    let no : true ≡ false = sym looped ∙ early in cc
late-room late h x told _ is_from_finals_on looped sound (alters c k f change is there (calls g payload m who s tells)) =
    let among : IsAmong late 1 h.functions f = found-among late 1 k h.functions f sound there in
    let never : s ≡ status.Ok → ⊥ = λ ok. let no : false ≡ true = sym (among.sound.shut is_from_finals_on) ∙ called-open who m f (tells ∙ ap Some ok) in cc in
    no-more (reserved_history (in_tsfn f.id change h)) (reserved_history h) (in-function-room late h f change 0 0 among (called-late f payload s never))
late-room late h x told _ is_from_finals_on looped sound (alters c k f change is there (acquires g)) =
    one-place _ _ x (what.Call c) is (omega arith) (hub-room late h x told _ sound (alters c k f change is there (acquires g)))
late-room late h x told _ is_from_finals_on looped sound (alters c k f change is there (releases g m)) =
    one-place _ _ x (what.Call c) is (omega arith) (hub-room late h x told _ sound (alters c k f change is there (releases g m)))
late-room late h x told _ is_from_finals_on looped sound (alters c k f change is there (references g)) =
    one-place _ _ x (what.Call c) is (omega arith) (hub-room late h x told _ sound (alters c k f change is there (references g)))
late-room late h x told _ is_from_finals_on looped sound (alters c k f change is there (unreferences g)) =
    one-place _ _ x (what.Call c) is (omega arith) (hub-room late h x told _ sound (alters c k f change is there (unreferences g)))
late-room late h x told _ is_from_finals_on looped sound (asks c is shared) = omega arith
late-room late h x told _ is_from_finals_on looped sound (creates_work job entry payload addon is fresh tells) =
    one-place _ _ x _ is (omega arith) (hub-room late h x told _ sound (creates_work job entry payload addon is fresh tells))
late-room late h x told _ is_from_finals_on looped sound (deletes_work w is none) =
    one-place _ _ x _ is (omega arith) (hub-room late h x told _ sound (deletes_work w is none))
late-room late h x told _ is_from_finals_on looped sound (cancels_work w is none) =
    one-place _ _ x _ is (omega arith) (hub-room late h x told _ sound (cancels_work w is none))
late-room late h x told _ is_from_finals_on looped sound (goes is may) = one-place _ _ x _ is (omega arith) (hub-room late h x told _ sound (goes is may))
late-room late h x told _ is_from_finals_on looped sound (abandons is may still) =
    one-place _ _ x _ is (omega arith) (hub-room late h x told _ sound (abandons is may still))
late-room late h x told _ is_from_finals_on looped sound (ends_loop is may) =
    one-place _ _ x _ is (omega arith) (hub-room late h x told _ sound (ends_loop is may))
late-room late h x told _ is_from_finals_on looped sound (drains is may) = one-place _ _ x _ is (omega arith) (hub-room late h x told _ sound (drains is may))
late-room late h x told _ is_from_finals_on looped sound (comes_to_finals is may) =
    one-place _ _ x _ is (omega arith) (hub-room late h x told _ sound (comes_to_finals is may))
late-room late h x told _ is_from_finals_on looped sound (delivers d is next alone) =
    one-place _ _ x _ is (omega arith) (hub-room late h x told _ sound (delivers d is next alone))
late-room late h x told _ is_from_finals_on looped sound (closes n is next) =
    one-place _ _ x _ is (omega arith) (hub-room late h x told _ sound (closes n is next))
late-room late h x told _ is_from_finals_on looped sound (finishes n is next) =
    one-place _ _ x _ is (omega arith) (hub-room late h x told _ sound (finishes n is next))
late-room late h x told _ is_from_finals_on looped sound (ends d is stands) =
    one-place _ _ x _ is (omega arith) (hub-room late h x told _ sound (ends d is stands))
late-room late h x told _ is_from_finals_on looped sound (thread_ends t is there) =
    one-place _ _ x _ is (omega arith) (hub-room late h x told _ sound (thread_ends t is there))
late-room late h x told _ is_from_finals_on looped sound (worker_ends w is there) =
    one-place _ _ x _ is (omega arith) (hub-room late h x told _ sound (worker_ends w is there))
late-room late h x told _ is_from_finals_on looped sound (starts w n later is waits free) =
    one-place _ _ x _ is (omega arith) (hub-room late h x told _ sound (starts w n later is waits free))
late-room late h x told _ is_from_finals_on looped sound (finishes_work w n is runs) =
    one-place _ _ x _ is (omega arith) (hub-room late h x told _ sound (finishes_work w n is runs))
