-- Each worker comes to its end, by turns.
use Rattle.std.proofs.Common.{◌≡◌, ◌∙◌, ℕ, ◌+◌, ◌≤◌, ◌==◌, Bool, true, false, cond, ◌&&◌, ◌||◌, List, [], ◌∷◌, length, IsTrue, refl, ap, sym, subst, arith, Option, Some, None, is_some}
use Rattle.std.specs.List.{sum_by}
use Rattle.napi_types.specs.declared.call.Ask.{Ask}
use Rattle.napi_types.specs.declared.call.Call.{Call}
use Rattle.napi_types.specs.declared.duties.DueInfo.{DueInfo}
use Rattle.napi_types.specs.declared.entry.Actor.{Actor}
use Rattle.napi_types.specs.declared.entry.Actor.TheVariants as actor
use Rattle.napi_types.specs.declared.entry.Duty.{Duty}
use Rattle.napi_types.specs.declared.entry.Duty.TheVariants as duty
use Rattle.napi_types.specs.declared.entry.Entry.{Entry}
use Rattle.napi_types.specs.declared.entry.Given.{Given}
use Rattle.napi_types.specs.declared.entry.HostStep.{HostStep}
use Rattle.napi_types.specs.declared.entry.HostStep.TheVariants as host
use Rattle.napi_types.specs.declared.entry.Out.{Out}
use Rattle.napi_types.specs.declared.entry.Out.TheVariants as out
use Rattle.napi_types.specs.declared.entry.What.{What}
use Rattle.napi_types.specs.declared.entry.What.TheVariants as what
use Rattle.napi_types.specs.plain.Guards.{is_shared}
use Rattle.napi_types.specs.plain.Lists.{has_number}
use Rattle.napi_types.specs.plain.Replies.{Answer}
use Rattle.napi_types.specs.plain.Room.{one_if}
use Rattle.napi_types.specs.parts.Pool.{executed_by}
use Rattle.napi_types.specs.hub.Actors.{is_worker, WorkerState, Free, Working, Over, worker_after, does_next, worker_along}
use Rattle.napi_types.specs.hub.GivenSteps.{fits_stage, is_fresh_work, given_step, answer_unless_given, work_number}
use Rattle.napi_types.specs.hub.HistoryRoom.{work_places, function_places, reserved_history}
use Rattle.napi_types.specs.hub.Hub.{Hub, left_of, threads_left, workers_left, stage_places}
use Rattle.napi_types.specs.hub.HubCalls.{hub_answer, is_thread_call}
use Rattle.napi_types.specs.hub.HubEvents.{environment_event, loop_end_step, begin_step, close_step, finish_step, frame_end_step, abandon_step}
use Rattle.napi_types.specs.hub.HubMoves.{HubMove, Delivers, Closes, Finishes, without_duty, hub_move}
use Rattle.napi_types.specs.hub.HubStep.{answered_step}
use Rattle.napi_types.specs.hub.HubSteps.{hub_step, hub_step_of, environment_step}
use Rattle.napi_types.specs.hub.ThreadSteps.{thread_step, nothing_given, is_thread_there}
use Rattle.napi_types.specs.hub.WorkerSteps.{worker_step, start_step, work_end_step}
use Rattle.napi_types.specs.runs.Machine.{Machine}
use Rattle.napi_types.specs.runs.Run.{IsRunBy, after, final}
use Rattle.napi_types.specs.runs.Setting.{opening_of, final_of}
use Rattle.napi_types.specs.runs.Step.{step}
use Rattle.napi_types.specs.all_runs.OnceLaws.{WorkersFinishWhatTheyStart}
use Rattle.napi_types.proofs.plain.Found.{has-with_number}
use Rattle.napi_types.proofs.plain.Conditions.{and-false}
use Rattle.napi_types.proofs.all_runs.ThreadsEnd.{some-left}
use Rattle.napi_types.proofs.hub.HubCases.{HubCase, hub-case, asks, creates_work, deletes_work, cancels_work, queues_work, creates_function, alters, goes, ends_loop, drains, comes_to_finals, delivers, closes, finishes, ends, thread_ends, worker_ends, starts, finishes_work, abandons}
use Rattle.napi_types.proofs.hub.HubKeeps.{hub_step-what}
use Rattle.napi_types.proofs.hub.WorkerTurns.{WorkerStands, StandsSo, next-stands}
use Rattle.napi_types.proofs.runs.HubEntries.{EntryOf, leaves_hub, steps_hub, case-of}
use Rattle.napi_types.proofs.all_runs.HistoryRooms.{HubRoomy, hub-run, opening-hub, HistorySuffices}
use Rattle.napi_types.proofs.all_runs.Orderly.{Orderly, along-orderly, orderly-opens}
use Rattle.napi_types.proofs.all_runs.Rooms.{final-stage}
use Rattle.napi_types.proofs.hub.ThreadEnds.{is_end}

-- WHO MADE THE ENTRY
-- the actor of the entry that must stand is the entry's
answered-actor : (h : Hub) (x : Entry) (may : Bool) (o : Option (Answer Hub)) → (answered_step h x may o).entry.actor ≡ x.actor
answered-actor h x may None = refl
answered-actor h x may (Some a) = refl

given-actor : (h : Hub) (x : Entry) (c : Call) (g : Option Given) → (given_step h x c g).entry.actor ≡ x.actor
given-actor h x c None = refl
given-actor h x c (Some g) =
    answered-actor h x (is_shared c && fits_stage h.stage c g.refused && is_fresh_work h x.reply.out)
    (answer_unless_given h g c (work_number x.reply.out) g.refused)

loop_end-actor : (h : Hub) (x : Entry) (o : Out) → x.actor ≡ actor.Env → (loop_end_step h x o).entry.actor ≡ x.actor
loop_end-actor h x (out.Ended w) is = sym is
loop_end-actor h x _ is = refl

begin-actor : (h : Hub) (x : Entry) (o : Option HubMove) → x.actor ≡ actor.Env → (begin_step h x o).entry.actor ≡ x.actor
begin-actor h x (Some (Delivers d)) is = sym is
begin-actor h x None is = refl
begin-actor h x (Some (Closes n)) is = refl
begin-actor h x (Some (Finishes n)) is = refl

close-actor : (h : Hub) (x : Entry) (o : Option HubMove) → x.actor ≡ actor.Env → (close_step h x o).entry.actor ≡ x.actor
close-actor h x (Some (Closes n)) is = sym is
close-actor h x None is = refl
close-actor h x (Some (Delivers d)) is = refl
close-actor h x (Some (Finishes n)) is = refl

finish-actor : (h : Hub) (x : Entry) (o : Option HubMove) → x.actor ≡ actor.Env → (finish_step h x o).entry.actor ≡ x.actor
finish-actor h x (Some (Finishes n)) is = sym is
finish-actor h x None is = refl
finish-actor h x (Some (Delivers d)) is = refl
finish-actor h x (Some (Closes n)) is = refl

end-actor : (h : Hub) (x : Entry) (o : Option DueInfo) → x.actor ≡ actor.Env → (frame_end_step h x o).entry.actor ≡ x.actor
end-actor h x None is = refl
end-actor h x (Some d) is = sym is

abandon-actor : (h : Hub) (x : Entry) (o : Out) → x.actor ≡ actor.Env → (abandon_step h x o).entry.actor ≡ x.actor
abandon-actor h x (out.Unsigned n) is = sym is
abandon-actor h x _ is = refl

event-actor : (h : Hub) (x : Entry) (event : HostStep) → x.actor ≡ actor.Env → (environment_event h x event).entry.actor ≡ x.actor
event-actor h x host.Go is = sym is
event-actor h x host.LoopEnd is = loop_end-actor h x x.reply.out is
event-actor h x host.Abandon is = abandon-actor h x x.reply.out is
event-actor h x host.Drain is = sym is
event-actor h x host.Finals is = sym is
event-actor h x host.Begin is = begin-actor h x (hub_move h) is
event-actor h x host.CloseTsfn is = close-actor h x (hub_move h) is
event-actor h x host.FinishTsfn is = finish-actor h x (hub_move h) is
event-actor h x host.End is = end-actor h x h.standing is
event-actor h x _ is = refl

environment-actor : (h : Hub) (x : Entry) (w : What) → x.actor ≡ actor.Env → (environment_step h x w).entry.actor ≡ x.actor
environment-actor h x (what.Call c) is = given-actor h x c x.given
environment-actor h x (what.Host event) is = event-actor h x event is

thread-actor : (h : Hub) (t : ℕ) (x : Entry) (w : What) → x.actor ≡ actor.Thread t → (thread_step h t x w).entry.actor ≡ x.actor
thread-actor h t x (what.Call c) is =
    answered-actor h (record x { depth = 0; given = None }) (is_thread_there h t && is_thread_call c) (hub_answer h (actor.Thread t) nothing_given c 0)
thread-actor h t x (what.Host host.ActorEnd) is = sym is
thread-actor h t x (what.Host _) is = refl

start-actor : (h : Hub) (w : ℕ) (x : Entry) (queued : List ℕ) → x.actor ≡ actor.Worker w → (start_step h w x queued).entry.actor ≡ x.actor
start-actor h w x [] is = refl
start-actor h w x (n ∷ later) is = sym is

work_end-actor : (h : Hub) (w : ℕ) (x : Entry) (o : Option ℕ) → x.actor ≡ actor.Worker w → (work_end_step h w x o).entry.actor ≡ x.actor
work_end-actor h w x None is = refl
work_end-actor h w x (Some n) is = sym is

worker-actor : (h : Hub) (w : ℕ) (x : Entry) (it : What) → x.actor ≡ actor.Worker w → (worker_step h w x it).entry.actor ≡ x.actor
worker-actor h w x (what.Call c) is = refl
worker-actor h w x (what.Host host.Start) is = start-actor h w x h.pool.queued is
worker-actor h w x (what.Host host.Finish) is = work_end-actor h w x (executed_by h.pool w) is
worker-actor h w x (what.Host host.ActorEnd) is = sym is
worker-actor h w x (what.Host _) is = refl

hub_step-actor : (h : Hub) (x : Entry) → (hub_step h x).entry.actor ≡ x.actor
hub_step-actor h x = by x.actor refl
  where
    by : (who : Actor) → x.actor ≡ who → (hub_step_of h x who).entry.actor ≡ x.actor
    by actor.Env is = environment-actor h x x.what is
    by (actor.Thread t) is = thread-actor h t x x.what is
    by (actor.Worker w) is = worker-actor h w x x.what is

-- WHO HAS ENDED
abbrev pub ends_itself : ℕ → Entry → Bool
ends_itself w x = is_worker w x.actor && is_end x.what

record KeepsEnded (h n : Hub) : Type 0 where
  pub ended : n.ended_workers ≡ h.ended_workers
  pub workers : n.workers ≡ h.workers

same-ended : (h n : Hub) → n.ended_workers ≡ h.ended_workers → n.workers ≡ h.workers → KeepsEnded h n
same-ended h n e w = record { ended = e; workers = w }

duty-ended : (d : Duty) (h : Hub) → KeepsEnded h (without_duty d h)
duty-ended (duty.Ticket t) h = record { ended = refl; workers = refl }
duty-ended (duty.Work n) h = record { ended = refl; workers = refl }
duty-ended (duty.Item f n) h = record { ended = refl; workers = refl }
duty-ended (duty.Function f) h = record { ended = refl; workers = refl }

no-end : (x : Entry) (w : What) → x.what ≡ w → is_end w ≡ true → is_end x.what ≡ false → ⊥
no-end x w is ending none = let both : true ≡ false = sym (ap is_end is ∙ ending) ∙ none in cc

case-ended : (h : Hub) (x : Entry) (told : Out) (n : Hub) → is_end x.what ≡ false → HubCase h x told n → KeepsEnded h n
case-ended h x told _ none (worker_ends w is there) = absurd (no-end x _ is refl none)
case-ended h x told _ none (delivers d is next alone) =
    let k : KeepsEnded h (without_duty d.duty h) = duty-ended d.duty h in record { ended = k.ended; workers = k.workers }
case-ended h x told _ none (asks c is ours) = record { ended = refl; workers = refl }
case-ended h x told _ none (creates_work job entry payload addon is fresh tells) = record { ended = refl; workers = refl }
case-ended h x told _ none (deletes_work w is free) = record { ended = refl; workers = refl }
case-ended h x told _ none (cancels_work w is free) = record { ended = refl; workers = refl }
case-ended h x told _ none (queues_work w is free early) = record { ended = refl; workers = refl }
case-ended h x told _ none (creates_function f entry maximum count finalizer context addon target is early) = record { ended = refl; workers = refl }
case-ended h x told _ none (alters c k f change is there how) = record { ended = refl; workers = refl }
case-ended h x told _ none (goes is may) = record { ended = refl; workers = refl }
case-ended h x told _ none (abandons is may still) = record { ended = refl; workers = refl }
case-ended h x told _ none (ends_loop is may) = record { ended = refl; workers = refl }
case-ended h x told _ none (drains is may) = record { ended = refl; workers = refl }
case-ended h x told _ none (comes_to_finals is may) = record { ended = refl; workers = refl }
case-ended h x told _ none (closes n is next) = record { ended = refl; workers = refl }
case-ended h x told _ none (finishes n is next) = record { ended = refl; workers = refl }
case-ended h x told _ none (ends d is stands) = record { ended = refl; workers = refl }
case-ended h x told _ none (thread_ends t is there) = record { ended = refl; workers = refl }
case-ended h x told _ none (starts w n later is waits free) = record { ended = refl; workers = refl }
case-ended h x told _ none (finishes_work w n is runs) = record { ended = refl; workers = refl }

-- what a step does to the ended ones
pub record EndsWorker (w : ℕ) (h : Hub) (x : Entry) (n : Hub) : Type 0 where
  pub ended : has_number w n.ended_workers ≡ (ends_itself w x || has_number w h.ended_workers)
  pub workers : n.workers ≡ h.workers

end-of : (w : ℕ) (h : Hub) (x : Entry) (who : Actor) → x.actor ≡ who → x.what ≡ what.Host host.ActorEnd → IsTrue (hub_step_of h x who).may
    → EndsWorker w h x (hub_step_of h x who).after
end-of w h x actor.Env is end may =
    let no : IsTrue false = subst (λ (v : What). IsTrue (environment_step h x v).may) end may in cc
end-of w h x (actor.Thread t) is end may =
    subst (λ (v : What). EndsWorker w h x (thread_step h t x v).after) (sym end)
    (record { ended = sym (ap (λ (a : Actor). (is_worker w a && is_end x.what) || has_number w h.ended_workers) is); workers = refl })
end-of w h x (actor.Worker v) is end may =
    subst (λ (it : What). EndsWorker w h x (worker_step h v x it).after) (sym end)
    (record {
      ended =
          has-with_number w v h.ended_workers
          ∙ ap (λ b. b || has_number w h.ended_workers)
          (sym (ap (λ (a : Actor). is_worker w a && is_end x.what) is ∙ ap (λ (it : What). (v == w) && is_end it) end ∙ by (v == w)));
      workers = refl;
    })
  where
    by : (b : Bool) → (b && true) ≡ b
    by true = refl
    by false = refl

pub step-ended : (w : ℕ) (h : Hub) (x : Entry) → IsTrue (hub_step h x).may → EndsWorker w h x (hub_step h x).after
step-ended w h x may = by (is_end x.what) refl
  where
    is-end : (it : What) → is_end it ≡ true → it ≡ what.Host host.ActorEnd
    is-end (what.Host host.ActorEnd) is = refl
    is-end (what.Call c) is = cc
    is-end (what.Host _) is = cc

    by : (b : Bool) → is_end x.what ≡ b → EndsWorker w h x (hub_step h x).after
    by true is = end-of w h x x.actor refl (is-end x.what is) may
    by false is =
        let k : KeepsEnded h (hub_step h x).after = case-ended h x _ _ is (hub-case h x may) in
        record {
          ended = ap (has_number w) k.ended ∙ sym (ap (λ b. b || has_number w h.ended_workers) (ap (λ b. is_worker w x.actor && b) is ∙ and-false (is_worker w x.actor)));
          workers = k.workers;
        }

-- ONE WORKER
abbrev pub is_ended_worker : WorkerState → Bool
is_ended_worker Over = true
is_ended_worker _ = false

pub record TurnsAt (w : ℕ) (h : Hub) (s : WorkerState) : Type 0 where
  pub stands : WorkerStands w h s
  pub over : has_number w h.ended_workers ≡ is_ended_worker s

-- where it stands next, and that this is somewhere
pub record TurnsTo (w : ℕ) (x : Entry) (s : WorkerState) (n : Hub) : Type 0 where
  pub state : WorkerState
  pub is : does_next w x (Some s) ≡ Some state
  pub turns : TurnsAt w n state

over-after : (it : What) (s t : WorkerState) → worker_after s it ≡ Some t → is_ended_worker t ≡ (is_end it || is_ended_worker s)
over-after (what.Host host.Start) Free t is = let e : Working ≡ t = cc in ap is_ended_worker (sym e)
over-after (what.Host host.ActorEnd) Free t is = let e : Over ≡ t = cc in ap is_ended_worker (sym e)
over-after (what.Host host.Finish) Working t is = let e : Free ≡ t = cc in ap is_ended_worker (sym e)
over-after _ Free t is = cc
over-after _ Working t is = cc
over-after _ Over t is = cc

pub hub-turns : (w : ℕ) (h : Hub) (y : Entry) (s : WorkerState) → IsTrue (hub_step h y).may → TurnsAt w h s → TurnsTo w y s (hub_step h y).after
hub-turns w h y s may k = by (does_next w y (Some s)) refl (next-stands w h y s k.stands may)
  where
    e : EndsWorker w h y (hub_step h y).after
    e = step-ended w h y may

    told : (t : WorkerState) (b : Bool) → is_worker w y.actor ≡ b → cond b (worker_after s y.what) (Some s) ≡ Some t
        → (b && is_end y.what || is_ended_worker s) ≡ is_ended_worker t
    told t true its is = sym (over-after y.what s t is)
    told t false other is = let same : s ≡ t = cc in ap is_ended_worker same

    by : (o : Option WorkerState) → does_next w y (Some s) ≡ o → StandsSo w (hub_step h y).after o → TurnsTo w y s (hub_step h y).after
    by None is stands = absurd stands
    by (Some t) is stands =
        record {
          state = t;
          is = is;
          turns = record {
            stands = stands;
            over = e.ended ∙ ap (λ b. ends_itself w y || b) k.over ∙ told t (is_worker w y.actor) refl is;
          };
        }

entry-turns : (w : ℕ) (h : Hub) (x : Entry) (n : Hub) (s : WorkerState) → EntryOf h x n → TurnsAt w h s → TurnsTo w x s n
entry-turns w h x _ s (leaves_hub n same env) k = record {
  state = s;
  is = ap (λ (a : Actor). cond (is_worker w a) (worker_after s x.what) (Some s)) env;
  turns = subst (λ (g : Hub). TurnsAt w g s) (sym same) k;
}
entry-turns w h x _ s (steps_hub y is may) k =
    let t : TurnsTo w y s (hub_step h y).after = hub-turns w h y s may k in
    record {
      state = t.state;
      is = ap (λ (z : Entry). cond (is_worker w z.actor) (worker_after s z.what) (Some s)) is
          ∙ ap (λ (a : Actor). cond (is_worker w a) (worker_after s (hub_step h y).entry.what) (Some s)) (hub_step-actor h y)
          ∙ ap (λ (it : What). cond (is_worker w y.actor) (worker_after s it) (Some s)) (hub_step-what h y) ∙ t.is;
      turns = t.turns;
    }

entry-workers : (h : Hub) (x : Entry) (n : Hub) → EntryOf h x n → n.workers ≡ h.workers
entry-workers h x _ (leaves_hub n same env) = ap (λ (g : Hub). g.workers) same
entry-workers h x _ (steps_hub y is may) = (step-ended 0 h y may).workers

-- OVER A RUN
record TurnsAlong (w : ℕ) (s : WorkerState) (xs : List Entry) (old new : Hub) : Type 0 where
  pub state : WorkerState
  pub along : worker_along w (Some s) xs ≡ Some state
  pub turns : TurnsAt w new state
  pub workers : new.workers ≡ old.workers

run-turns : (w : ℕ) (m : Machine) (bs : List Ask) (xs : List Entry) (s : WorkerState) → Orderly m → TurnsAt w m.hub s → IsRunBy m bs xs
    → TurnsAlong w s xs m.hub (final m bs xs).hub
run-turns w m bs xs s h k run =
    along-orderly (λ m bs xs. (s : WorkerState) → TurnsAt w m.hub s → TurnsAlong w s xs m.hub (final m bs xs).hub)
    (λ m s k. record { state = s; along = refl; turns = k; workers = refl })
    (λ m b bs x xs h next case rest later s k.
    let of : EntryOf m.hub x (after m b x).hub = subst (λ (z : Entry). EntryOf m.hub z (after m b x).hub) (sym next.0) (case-of m (step m b x) case next.1) in
    let first : TurnsTo w x s (after m b x).hub = entry-turns w m.hub x (after m b x).hub s of k in
    let more : TurnsAlong w first.state xs (after m b x).hub (final (after m b x) bs xs).hub = later first.state first.turns in
    record {
      state = more.state;
      along = ap (λ o. worker_along w o xs) first.is ∙ more.along;
      turns = more.turns;
      workers = more.workers ∙ entry-workers m.hub x (after m b x).hub of;
    }) m bs xs h run s k

-- AT THE END
none-left : (h : Hub) → reserved_history h ≡ 0 → length (workers_left h) ≡ 0
none-left h none =
    by (stage_places h.stage + length (threads_left h)) (length (workers_left h)) (work_places h.pool + sum_by function_places h.functions + one_if (is_some h.standing))
    (turn (stage_places h.stage + length (threads_left h)) (length (workers_left h)) (work_places h.pool) (sum_by function_places h.functions) (one_if (is_some h.standing)) none)
  where
    turn : (a b c d e : ℕ) → a + b + c + d + e ≡ 0 → a + b + (c + d + e) ≡ 0
    turn a b c d e h = omega (arith, h)

    by : (a b c : ℕ) → a + b + c ≡ 0 → b ≡ 0
    by a b c h = omega (arith, h)

pub workers-finish : WorkersFinishWhatTheyStart
workers-finish s bs xs w below whole =
    let h : Hub = (final_of s bs xs).hub in
    let r : HubRoomy (HistorySuffices s) s.limits (final_of s bs xs) = hub-run (HistorySuffices s) s.limits (opening_of s) bs xs (opening-hub s) whole.run.steps in
    let none : length (workers_left h) ≡ 0 = none-left h (r.spent (final-stage s bs xs whole.run.steps whole.gone)) in
    let k : TurnsAlong w Free xs (opening_of s).hub h =
    run-turns w (opening_of s) bs xs Free (orderly-opens s) (record { stands = refl; over = refl }) whole.run.steps in
    let count : h.workers ≡ s.workers = k.workers in
    let gone : has_number w h.ended_workers ≡ true = by (has_number w h.ended_workers) refl h.workers count none in
    k.along ∙ ap Some (last k.state (sym k.turns.over ∙ gone))
  where
    last : (t : WorkerState) → is_ended_worker t ≡ true → t ≡ Over
    last Over is = refl
    last Free is = cc
    last Working is = cc

    by : (b : Bool) → has_number w (final_of s bs xs).hub.ended_workers ≡ b → (count : ℕ) → count ≡ s.workers
        → length (left_of count (final_of s bs xs).hub.ended_workers) ≡ 0 → has_number w (final_of s bs xs).hub.ended_workers ≡ true
    by true is count same none = is
    by false is count same none =
        let some : 1 ≤ length (left_of count (final_of s bs xs).hub.ended_workers) =
        some-left 0 count w (final_of s bs xs).hub.ended_workers (omega arith) (omega (arith, below, same)) is in
        absurd (omega (arith, some, none))
