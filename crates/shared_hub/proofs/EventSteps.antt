-- What each event of the hub leaves of the fields.
use Rattle.std.proofs.Common.{◌≡◌, ◌≢◌, ◌∙◌, ℕ, ◌+◌, ◌-◌, ◌&&◌, true, false, not, IsTrue, nat_lt, List, [], ◌∷◌, length, map, refl, ap, sym, subst, arith, Option, Some, None, is_some, is_none, option_map}
use Rattle.std.specs.Option.{option_and_then, option_map_or, unwrap_or}
use Rattle.napi_types.specs.declared.duties.DueInfo.{DueInfo}
use Rattle.napi_types.specs.declared.entry.Actor.{Actor}
use Rattle.napi_types.specs.declared.entry.Actor.TheVariants as actor
use Rattle.napi_types.specs.declared.entry.Duty.{Duty}
use Rattle.napi_types.specs.declared.entry.Duty.TheVariants as duty
use Rattle.napi_types.specs.declared.entry.Entry.{Entry}
use Rattle.napi_types.specs.declared.entry.HostStep.{HostStep}
use Rattle.napi_types.specs.declared.entry.HostStep.TheVariants as host
use Rattle.napi_types.specs.declared.entry.LoopEnd.{LoopEnd}
use Rattle.napi_types.specs.declared.entry.Out.{Out}
use Rattle.napi_types.specs.declared.entry.Out.TheVariants as out
use Rattle.napi_types.specs.declared.entry.Why.{Why}
use Rattle.napi_types.specs.declared.entry.Why.TheVariants as why
use Rattle.napi_types.specs.declared.ids.TsfnId.{TsfnId}
use Rattle.napi_types.specs.plain.Entries.{host_entry}
use Rattle.napi_types.specs.plain.Lists.{is_empty, head, with_number}
use Rattle.napi_types.specs.parts.Functions.{closed, finished}
use Rattle.napi_types.specs.parts.Pool.{WorkPool, drained, work_numbered, executed_by, value_of_work, with_started, started_from, with_finished}
use Rattle.napi_types.specs.parts.Works.{Work}
use Rattle.napi_types.specs.hub.HistoryLaws.{KeepsStanding}
use Rattle.napi_types.specs.hub.Hub.{Hub, Stage, Before, Live, LoopEnded, HooksAbandoned, Drained, Final, is_of_hooks, stage_after}
use Rattle.napi_types.specs.hub.HubEvents.{staged, is_still, drained_hub, may_move, is_moving, delivery_entry, begin_step, close_step, finish_step, frame_end_step, is_frame_end}
use Rattle.napi_types.specs.hub.HubMoves.{HubMove, Delivers, Closes, Finishes, hub_move, in_tsfn, in_pool, with_delivered, without_duty}
use Rattle.napi_types.specs.hub.HubStep.{actor_told}
use Rattle.napi_types.specs.hub.ThreadSteps.{is_thread_end, is_gone_on}
use Rattle.napi_types.specs.hub.WorkerSteps.{is_worker_there, start_step, work_end_step}
use Rattle.napi_types.proofs.plain.Conditions.{and-right, and-both}
use Rattle.async_work.specs.Executing.{StartedWork}
use Rattle.async_work.specs.Picking.{work_to_start, first_to_start}
use Rattle.shared_hub.specs.declared.progress.HubProgress.{HubProgress}
use Rattle.shared_hub.specs.declared.progress.HubStage.{HubStage}
use Rattle.shared_hub.specs.HubParts.{HubParts, hub_with, after_move, drained_parts}
use Rattle.shared_hub.specs.HubProgress.{hub_stage, is_left, without_actor}
use Rattle.shared_hub.specs.HubStates.{KeepsStage}
use Rattle.shared_hub.specs.KeptHubs.{AreFieldsOf}
use Rattle.shared_hub.specs.SharedTries.{actor_end_told, MayEnd}
use Rattle.shared_hub.proofs.ActorsLeft.{one-less-is-left}
use Rattle.shared_hub.proofs.HubHistories.{ComesNext, comes-by}

-- the hub has its works and functions
pub hub-of_fields : (h : Hub) (parts : HubParts) (p : HubProgress) → AreFieldsOf h parts p → hub_with parts h ≡ h
hub-of_fields h parts p f = ap (λ q. record h { pool = q; functions = parts.functions }) (sym f.pool) ∙ ap (λ fs. record h { functions = fs }) (sym f.functions)

-- the fields of a hub with other works and functions
pub parts-changed : (h : Hub) (parts new : HubParts) (p : HubProgress) → AreFieldsOf h parts p → AreFieldsOf (hub_with new h) new p
parts-changed h parts new p f = record {
  pool = refl;
  functions = refl;
  stage = f.stage;
  standing = f.standing;
  threads_are = f.threads_are;
  workers_are = f.workers_are;
  all_workers = f.all_workers;
}

-- GREAT EVENTS
pub go-comes : (h : Hub) → h.stage ≡ Before → h.standing ≡ None → ComesNext h (host_entry host.Go out.Nothing) (staged host.Go h)
go-comes h stage alone = record {
  next = record { entry = refl; may = and-both _ _ (ap (λ s. is_some (stage_after s host.Go)) stage) (ap is_none alone) };
  after = refl;
}

pub loop-ends : (h : Hub) (w : LoopEnd) → h.stage ≡ Live → h.standing ≡ None → ComesNext h (host_entry host.LoopEnd (out.Ended w)) (staged host.LoopEnd h)
loop-ends h w stage alone = record {
  next = record { entry = refl; may = and-both _ _ (ap (λ s. is_some (stage_after s host.LoopEnd)) stage) (ap is_none alone) };
  after = refl;
}

pub abandon-comes : (h : Hub) (waiting : ℕ) → h.stage ≡ LoopEnded → h.standing ≡ None → is_still h ≡ true
    → ComesNext h (host_entry host.Abandon (out.Unsigned waiting)) (staged host.Abandon h)
abandon-comes h waiting stage alone still = record {
  next = record { entry = refl; may = and-both _ _ (and-both _ _ (ap (λ s. is_some (stage_after s host.Abandon)) stage) (ap is_none alone)) still };
  after = refl;
}

-- from either stage of the phase Hooks
pub drain-follows : (s : Stage) → is_of_hooks s ≡ true → stage_after s host.Drain ≡ Some Drained
drain-follows Before is = cc
drain-follows Live is = cc
drain-follows LoopEnded is = refl
drain-follows HooksAbandoned is = refl
drain-follows Drained is = cc
drain-follows Final is = cc

pub drain-comes : (h : Hub) → is_of_hooks h.stage ≡ true → h.standing ≡ None
    → ComesNext h (host_entry host.Drain (out.Unsigned (length h.pool.queued))) (staged host.Drain (drained_hub h))
drain-comes h stage alone = record {
  next = record { entry = refl; may = and-both _ _ (ap is_some (drain-follows h.stage stage)) (ap is_none alone) };
  after = refl;
}

pub finals-come : (h : Hub) → h.stage ≡ Drained → h.standing ≡ None → ComesNext h (host_entry host.Finals out.Nothing) (staged host.Finals h)
finals-come h stage alone = record {
  next = record { entry = refl; may = and-both _ _ (ap (λ s. is_some (stage_after s host.Finals)) stage) (ap is_none alone) };
  after = refl;
}

-- the fields after one
pub staged-fields : (h : Hub) (event : HostStep) (s : HubStage) (parts : HubParts) (p : HubProgress) → stage_after h.stage event ≡ Some (hub_stage s) → AreFieldsOf h parts p
    → AreFieldsOf (staged event h) parts (record p { stage = s })
staged-fields h event s parts p is f = record {
  pool = f.pool;
  functions = f.functions;
  stage = ap (λ o. unwrap_or o h.stage) is;
  standing = f.standing;
  threads_are = f.threads_are;
  workers_are = f.workers_are;
  all_workers = f.all_workers;
}

pub drained-fields : (h : Hub) (parts : HubParts) (p : HubProgress) → AreFieldsOf h parts p → AreFieldsOf (drained_hub h) (drained_parts parts) p
drained-fields h parts p f = record {
  pool = ap drained f.pool;
  functions = ap (map closed) f.functions;
  stage = f.stage;
  standing = f.standing;
  threads_are = f.threads_are;
  workers_are = f.workers_are;
  all_workers = f.all_workers;
}

-- MOVES
pub delivery-comes : (h : Hub) (d : DueInfo) → hub_move h ≡ Some (Delivers d) → IsTrue (may_move h) → ComesNext h (delivery_entry d) (with_delivered d h)
delivery-comes h d is may =
    comes-by h (delivery_entry d) (record { entry = delivery_entry d; after = with_delivered d h; may = may_move h }) (ap (begin_step h (delivery_entry d)) is) refl may

pub close-comes : (h : Hub) (f : TsfnId) → hub_move h ≡ Some (Closes f.0) → IsTrue (may_move h)
    → ComesNext h (host_entry host.CloseTsfn (out.Function f)) (in_tsfn f.0 closed h)
close-comes h f is may =
    comes-by h (host_entry host.CloseTsfn (out.Function f))
    (record { entry = host_entry host.CloseTsfn (out.Function f); after = in_tsfn f.0 closed h; may = may_move h })
    (ap (close_step h (host_entry host.CloseTsfn (out.Function f))) is) refl may

pub finish-comes : (h : Hub) (f : TsfnId) → hub_move h ≡ Some (Finishes f.0) → IsTrue (may_move h)
    → ComesNext h (host_entry host.FinishTsfn (out.Function f)) (in_tsfn f.0 finished h)
finish-comes h f is may =
    comes-by h (host_entry host.FinishTsfn (out.Function f))
    (record { entry = host_entry host.FinishTsfn (out.Function f); after = in_tsfn f.0 finished h; may = may_move h })
    (ap (finish_step h (host_entry host.FinishTsfn (out.Function f))) is) refl may

-- what a move leaves, by what it leaves of works and functions
pub moved-hub : (h : Hub) (parts new : HubParts) (p : HubProgress) (m : Option HubMove) → AreFieldsOf h parts p → hub_with new h ≡ after_move m (hub_with parts h) → after_move m h ≡ hub_with new h
moved-hub h parts new p m f left = sym (left ∙ ap (after_move m) (hub-of_fields h parts p f))

pub delivered-fields : (h : Hub) (parts new : HubParts) (p : HubProgress) (d : DueInfo) → AreFieldsOf h parts p → hub_with new h ≡ after_move (Some (Delivers d)) (hub_with parts h)
    → AreFieldsOf (with_delivered d h) new (record p { stands = true })
delivered-fields h parts new p d f left =
    subst (λ (g : Hub). AreFieldsOf (record g { standing = Some d }) new (record p { stands = true })) (sym (moved-hub h parts new p (Some (Delivers d)) f left)) (record {
      pool = refl;
      functions = refl;
      stage = f.stage;
      standing = refl;
      threads_are = f.threads_are;
      workers_are = f.workers_are;
      all_workers = f.all_workers;
    })

pub moved-fields : (h : Hub) (parts new : HubParts) (p : HubProgress) (m : Option HubMove) → AreFieldsOf h parts p → hub_with new h ≡ after_move m (hub_with parts h)
    → AreFieldsOf (after_move m h) new p
moved-fields h parts new p m f left = subst (λ (g : Hub). AreFieldsOf g new p) (sym (moved-hub h parts new p m f left)) (parts-changed h parts new p f)

-- a move keeps how far the hub is
pub delivered-keeps : (h : Hub) (d : DueInfo) (t : Duty) → KeepsStage h (record (without_duty t h) { standing = Some d })
delivered-keeps h d (duty.Work n) = record { stage = refl; threads = refl; workers = refl }
delivered-keeps h d (duty.Item f n) = record { stage = refl; threads = refl; workers = refl }
delivered-keeps h d (duty.Function f) = record { stage = refl; threads = refl; workers = refl }
delivered-keeps h d (duty.Ticket t) = record { stage = refl; threads = refl; workers = refl }

-- nothing stands where it may move
pub mover-is-alone : (h : Hub) → IsTrue (may_move h) → h.standing ≡ None
mover-is-alone h may = by h.standing (and-right (is_moving h.stage) _ may)
  where
    by : (o : Option DueInfo) → is_none o ≡ true → o ≡ None
    by None is = refl
    by (Some d) is = cc

-- the end of a frame
pub end-comes : (h : Hub) (d : DueInfo) (o : Out) → h.standing ≡ Some d → IsTrue (is_frame_end o) → ComesNext h (host_entry host.End o) (record h { standing = None })
end-comes h d o stands ends =
    comes-by h (host_entry host.End o) (record { entry = host_entry host.End o; after = record h { standing = None }; may = is_frame_end o })
    (ap (frame_end_step h (host_entry host.End o)) stands) refl ends

pub ended-fields : (h : Hub) (parts : HubParts) (p : HubProgress) → AreFieldsOf h parts p → AreFieldsOf (record h { standing = None }) parts (record p { stands = false })
ended-fields h parts p f = record {
  pool = f.pool;
  functions = f.functions;
  stage = f.stage;
  standing = refl;
  threads_are = f.threads_are;
  workers_are = f.workers_are;
  all_workers = f.all_workers;
}

-- WORKERS
-- the work that is picked was queued first
pub picked-first : (p : WorkPool) (s : StartedWork) → Some s ≡ first_to_start p → (later : List ℕ) × (p.queued ≡ s.number ∷ later)
picked-first p s is = by p.queued refl (sym is)
  where
    told : (n : ℕ) (o : Option Work) → option_map (λ (w : Work). record { number = n; spec = w.spec }) o ≡ Some s → n ≡ s.number
    told n None is = cc
    told n (Some w) is = ap (λ (o : Option StartedWork). option_map_or (λ (r : StartedWork). r.number) o 0) is

    by : (ns : List ℕ) → p.queued ≡ ns → option_and_then (work_to_start p) (head ns) ≡ Some s → (later : List ℕ) × (p.queued ≡ s.number ∷ later)
    by [] queued is = cc
    by (n ∷ later) queued is = (later, queued ∙ ap (λ m. m ∷ later) (told n (work_numbered p n) is))

pub start-comes : (h : Hub) (w n : ℕ) (later : List ℕ) → h.pool.queued ≡ n ∷ later → IsTrue (is_worker_there h w) → h.pool.closing ≡ false → executed_by h.pool w ≡ None
    → ComesNext h (actor_told (actor.Worker w) host.Start (out.Duty (duty.Work n))) (in_pool (with_started w) h)
start-comes h w n later queued there opened free =
    let x : Entry = actor_told (actor.Worker w) host.Start (out.Duty (duty.Work n)) in
    comes-by h x (record { entry = x; after = in_pool (with_started w) h; may = is_worker_there h w && not h.pool.closing && is_none (executed_by h.pool w) })
    (ap (start_step h w x) queued) refl
    (and-both _ _ (and-both _ _ there (ap not opened)) (ap is_none free))

pub finished-comes : (h : Hub) (w n v : ℕ) → executed_by h.pool w ≡ Some n → v ≡ value_of_work h.pool n → IsTrue (is_worker_there h w)
    → ComesNext h (actor_told (actor.Worker w) host.Finish (out.Unsigned v)) (in_pool (with_finished w) h)
finished-comes h w n v runs value there =
    let x : Entry = actor_told (actor.Worker w) host.Finish (out.Unsigned v) in
    comes-by h x (record { entry = actor_told (actor.Worker w) host.Finish (out.Unsigned (value_of_work h.pool n)); after = in_pool (with_finished w) h; may = is_worker_there h w })
    (ap (work_end_step h w x) runs) (ap (λ m. actor_told (actor.Worker w) host.Finish (out.Unsigned m)) value) there

-- the fields where the pool changed
pub pool-fields : (h : Hub) (parts : HubParts) (p : HubProgress) (change : WorkPool → WorkPool) → AreFieldsOf h parts p
    → AreFieldsOf (in_pool change h) (record parts { pool = change parts.pool }) p
pool-fields h parts p change f = record {
  pool = ap change f.pool;
  functions = f.functions;
  stage = f.stage;
  standing = f.standing;
  threads_are = f.threads_are;
  workers_are = f.workers_are;
  all_workers = f.all_workers;
}

-- where no work waits a start changes nothing
pub no-start : (h : Hub) (parts : HubParts) (p : HubProgress) (w : ℕ) → AreFieldsOf h parts p → parts.pool.queued ≡ [] → AreFieldsOf h (record parts { pool = with_started w parts.pool }) p
no-start h parts p w f none = record {
  pool = f.pool ∙ sym (ap (λ ns. started_from ns w parts.pool) none);
  functions = f.functions;
  stage = f.stage;
  standing = f.standing;
  threads_are = f.threads_are;
  workers_are = f.workers_are;
  all_workers = f.all_workers;
}

pub empty-is : {A : Type 0} (xs : List A) → is_empty xs ≡ true → xs ≡ []
empty-is [] is = refl
empty-is (x ∷ xs) is = cc

-- THE ENDS OF ACTORS
abbrev pub actor_ended : Actor → Hub → Hub
actor_ended actor.Env h = h
actor_ended (actor.Thread t) h = record h { ended_threads = with_number t h.ended_threads }
actor_ended (actor.Worker w) h = record h { ended_workers = with_number w h.ended_workers }

thread-end-told : (cut : Option Why) → cut ≢ Some why.Asks → is_thread_end (actor_end_told cut) ≡ true
thread-end-told None other = refl
thread-end-told (Some why.Memory) other = refl
thread-end-told (Some why.Full) other = refl
thread-end-told (Some why.Asks) other = absurd (other refl)

pub actor-end-comes : (h : Hub) (a : Actor) (cut : Option Why) → MayEnd h a cut → ComesNext h (actor_told a host.ActorEnd (actor_end_told cut)) (actor_ended a h)
actor-end-comes h actor.Env cut may = absurd may
actor-end-comes h (actor.Thread t) cut may = record {
  next = record { entry = refl; may = and-both _ _ may.0 (thread-end-told cut may.1) };
  after = refl;
}
actor-end-comes h (actor.Worker w) cut may = record {
  next = record {
    entry = ap (λ o. actor_told (actor.Worker w) host.ActorEnd (actor_end_told o)) may.3;
    may = and-both _ _ (and-both _ _ may.0 may.1) (ap is_none may.2);
  };
  after = refl;
}

some-left : (before after k : ℕ) → after + 1 ≡ before → before ≡ k → nat_lt 0 k ≡ true
some-left before after k less is = grind arith

one-less : (before after k : ℕ) → after + 1 ≡ before → before ≡ k → after ≡ k - 1
one-less before after k less is = omega (arith, less, is)

-- the end of an actor keeps how far the hub is, and what stands
pub actor-ended-keeps : (h : Hub) (a : Actor) → KeepsStanding h (actor_ended a h)
actor-ended-keeps h actor.Env = record { stage = refl; standing = refl; threads = refl; workers = refl }
actor-ended-keeps h (actor.Thread t) = record { stage = refl; standing = refl; threads = refl; workers = refl }
actor-ended-keeps h (actor.Worker w) = record { stage = refl; standing = refl; threads = refl; workers = refl }

pub actor-is-left : (h : Hub) (a : Actor) (cut : Option Why) (parts : HubParts) (p : HubProgress) → MayEnd h a cut → AreFieldsOf h parts p → is_left a p ≡ true
actor-is-left h actor.Env cut parts p may f = absurd may
actor-is-left h (actor.Thread t) cut parts p may f =
    some-left _ _ p.threads_left (one-less-is-left h.threads t h.ended_threads (and-right (is_gone_on h.stage) _ may.0)) f.threads_are
actor-is-left h (actor.Worker w) cut parts p may f = some-left _ _ p.workers_left (one-less-is-left h.workers w h.ended_workers may.0) f.workers_are

pub actor-ended-fields : (h : Hub) (a : Actor) (cut : Option Why) (parts : HubParts) (p : HubProgress) → MayEnd h a cut → AreFieldsOf h parts p
    → AreFieldsOf (actor_ended a h) parts (without_actor a p)
actor-ended-fields h actor.Env cut parts p may f = absurd may
actor-ended-fields h (actor.Thread t) cut parts p may f = record {
  pool = f.pool;
  functions = f.functions;
  stage = f.stage;
  standing = f.standing;
  threads_are = one-less _ _ p.threads_left (one-less-is-left h.threads t h.ended_threads (and-right (is_gone_on h.stage) _ may.0)) f.threads_are;
  workers_are = f.workers_are;
  all_workers = f.all_workers;
}
actor-ended-fields h (actor.Worker w) cut parts p may f = record {
  pool = f.pool;
  functions = f.functions;
  stage = f.stage;
  standing = f.standing;
  threads_are = f.threads_are;
  workers_are = one-less _ _ p.workers_left (one-less-is-left h.workers w h.ended_workers may.0) f.workers_are;
  all_workers = f.all_workers;
}
