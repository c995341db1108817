-- A hub of which no work and no thread-safe function was asked never has anything to do.
use Rattle.std.proofs.Common.{◌≡◌, ◌∙◌, ℕ, Bool, true, false, List, [], ◌∷◌, map, IsTrue, refl, ap, sym, subst, Option, Some, None}
use Rattle.std.proofs.lemmas.Bool.{or_parts}
use Rattle.napi_types.specs.declared.call.Ask.{Ask}
use Rattle.napi_types.specs.declared.call.Call.{Call}
use Rattle.napi_types.specs.declared.duties.DueInfo.{DueInfo}
use Rattle.napi_types.specs.declared.entry.Actor.{Actor}
use Rattle.napi_types.specs.declared.entry.Actor.TheVariants as actor
use Rattle.napi_types.specs.declared.entry.Entry.{Entry}
use Rattle.napi_types.specs.declared.entry.HostStep.{HostStep}
use Rattle.napi_types.specs.declared.entry.HostStep.TheVariants as host
use Rattle.napi_types.specs.declared.entry.Out.{Out}
use Rattle.napi_types.specs.declared.entry.Out.TheVariants as out
use Rattle.napi_types.specs.declared.entry.Phase.{Phase}
use Rattle.napi_types.specs.declared.entry.Phase.TheVariants as phase
use Rattle.napi_types.specs.declared.entry.What.{What}
use Rattle.napi_types.specs.declared.entry.What.TheVariants as what
use Rattle.napi_types.specs.plain.Entries.{host_entry, is_environment}
use Rattle.napi_types.specs.parts.Functions.{closed}
use Rattle.napi_types.specs.parts.Pool.{new_pool, drained, executed_by}
use Rattle.napi_types.specs.environment.Ends.{end_change}
use Rattle.napi_types.specs.hub.Hub.{Hub}
use Rattle.napi_types.specs.hub.HubCalls.{is_thread_call}
use Rattle.napi_types.specs.hub.HubEvents.{loop_end_step, frame_end_step}
use Rattle.napi_types.specs.hub.HubMoves.{hub_move, is_idle}
use Rattle.napi_types.specs.hub.HubStep.{HubStep}
use Rattle.napi_types.specs.hub.HubSteps.{hub_step, hub_step_of}
use Rattle.napi_types.specs.hub.ThreadSteps.{thread_step, thread_event}
use Rattle.napi_types.specs.hub.WorkerSteps.{worker_step, worker_event, start_step, work_end_step}
use Rattle.napi_types.specs.runs.Machine.{Machine}
use Rattle.napi_types.specs.runs.Run.{IsRunBy, final}
use Rattle.napi_types.specs.runs.Setting.{Setting, opening_of, final_of}
use Rattle.napi_types.specs.runs.Step.{Step, has_room, step}
use Rattle.napi_types.proofs.plain.Conditions.{and-right}
use Rattle.napi_types.proofs.environment.FrameEnds.{ended-ends}
use Rattle.napi_types.proofs.hub.HubKeeps.{hub_step-what, other-calls, thread-shared}
use Rattle.napi_types.proofs.runs.Forms.{shared-what}
use Rattle.napi_types.proofs.runs.SharedSteps.{hub_step-end}
use Rattle.napi_types.proofs.runs.StepCases.{StepCase, shares, leaves, passes, abandons, moves, others, event_before}
use Rattle.napi_types.proofs.all_runs.Orderly.{Orderly, orderly-opens, along-orderly}
use Rattle.machine_laws.specs.ExitLaws.{is_shared_call, has_shared}

-- no work was created, and no function; the pool may be closing
pub record IsBare (h : Hub) : Type 0 where
  pub closing : Bool
  pub pool : h.pool ≡ record new_pool { closing = closing }
  pub functions : h.functions ≡ []

-- so it is idle, and has no move
pub bare-idle : (h : Hub) → IsBare h → is_idle h ≡ true
bare-idle h bare = rw (bare.pool, bare.functions) refl

bare-move : (h : Hub) → IsBare h → hub_move h ≡ None
bare-move h bare = rw (bare.pool, bare.functions) refl

-- THE ENVIRONMENT'S ENTRIES
ended-bare : (h : Hub) (x : Entry) (d : Option DueInfo) → IsBare h → IsBare (frame_end_step h x d).after
ended-bare h x None bare = bare
ended-bare h x (Some d) bare = record { closing = bare.closing; pool = bare.pool; functions = bare.functions }

looped-bare : (h : Hub) (x : Entry) (o : Out) → IsBare h → IsBare (loop_end_step h x o).after
looped-bare h x (out.Ended w) bare = record { closing = bare.closing; pool = bare.pool; functions = bare.functions }
looped-bare h x _ bare = bare

passed-bare : (h : Hub) (p : Phase) (o : Out) → IsBare h → IsBare (hub_step h (host_entry (event_before p) o)).after
passed-bare h phase.Live o bare = record { closing = bare.closing; pool = bare.pool; functions = bare.functions }
passed-bare h phase.Hooks o bare = looped-bare h (host_entry host.LoopEnd o) o bare
passed-bare h phase.Drain o bare = record { closing = true; pool = ap drained bare.pool; functions = ap (map closed) bare.functions }
passed-bare h phase.Finals o bare = record { closing = bare.closing; pool = bare.pool; functions = bare.functions }
passed-bare h _ o bare = bare

-- THE ENTRIES OF OTHERS
thread_event-bare : (h : Hub) (t : ℕ) (x : Entry) (event : HostStep) → IsBare h → IsBare (thread_event h t x event).after
thread_event-bare h t x host.ActorEnd bare = record { closing = bare.closing; pool = bare.pool; functions = bare.functions }
thread_event-bare h t x _ bare = bare

thread-bare : (h : Hub) (t : ℕ) (x : Entry) (w : What) → ((c : Call) → w ≡ what.Call c → is_thread_call c ≡ true) → is_shared_call w ≡ false → IsBare h
    → IsBare (thread_step h t x w).after
thread-bare h t x (what.Call c) theirs none bare = let no : false ≡ true = sym none ∙ thread-shared c (theirs c refl) in cc
thread-bare h t x (what.Host event) theirs none bare = thread_event-bare h t x event bare

start-bare : (h : Hub) (w : ℕ) (x : Entry) (queued : List ℕ) → queued ≡ [] → IsBare h → IsBare (start_step h w x queued).after
start-bare h w x [] none bare = bare
start-bare h w x (n ∷ later) none bare = cc

finish-bare : (h : Hub) (w : ℕ) (x : Entry) (n : Option ℕ) → n ≡ None → IsBare h → IsBare (work_end_step h w x n).after
finish-bare h w x None none bare = bare
finish-bare h w x (Some n) none bare = cc

worker_event-bare : (h : Hub) (w : ℕ) (x : Entry) (event : HostStep) → IsBare h → IsBare (worker_event h w x event).after
worker_event-bare h w x host.Start bare = start-bare h w x h.pool.queued (rw bare.pool refl) bare
worker_event-bare h w x host.Finish bare = finish-bare h w x (executed_by h.pool w) (rw bare.pool refl) bare
worker_event-bare h w x host.ActorEnd bare = record { closing = bare.closing; pool = bare.pool; functions = bare.functions }
worker_event-bare h w x _ bare = bare

worker-bare : (h : Hub) (w : ℕ) (x : Entry) (it : What) → IsBare h → IsBare (worker_step h w x it).after
worker-bare h w x (what.Call c) bare = bare
worker-bare h w x (what.Host event) bare = worker_event-bare h w x event bare

others-bare : (h : Hub) (x : Entry) → is_environment x.actor ≡ false → IsTrue (hub_step h x).may → is_shared_call x.what ≡ false → IsBare h → IsBare (hub_step h x).after
others-bare h x other may none bare = by x.actor other
  where
    by : (who : Actor) → is_environment who ≡ false → IsBare (hub_step_of h x who).after
    by actor.Env theirs = cc
    by (actor.Thread t) theirs = thread-bare h t x x.what (λ c is. other-calls h x c other is may) none bare
    by (actor.Worker w) theirs = worker-bare h w x x.what bare

-- EVERY STEP
step-bare : (m : Machine) (t : Step) → StepCase m t → IsTrue t.may → is_shared_call t.entry.what ≡ false → IsBare m.hub → IsBare t.after.hub
step-bare m _ (shares c o shared answers) comes none bare =
    let no : false ≡ true = sym none ∙ ap is_shared_call (shared-what m c o) ∙ shared in cc
step-bare m _ (leaves v cut may ours) comes none bare =
    let x : Entry = (end_change v cut m.env).entry in
    subst (λ (t : HubStep). IsBare t.after) (sym (hub_step-end m.hub x (ended-ends v cut m.env).who (ended-ends v cut m.env).is)) (ended-bare m.hub x m.hub.standing bare)
step-bare m _ (passes p o q) comes none bare = passed-bare m.hub p o bare
step-bare m _ (abandons here far left alone) comes none bare = record { closing = bare.closing; pool = bare.pool; functions = bare.functions }
step-bare m _ (moves move next moving alone) comes none bare = let no : None ≡ Some move = sym (bare-move m.hub bare) ∙ next in cc
step-bare m _ (others x other) comes none bare =
    others-bare m.hub x other (and-right (has_room m x.what) (hub_step m.hub x).may comes) (sym (ap is_shared_call (hub_step-what m.hub x)) ∙ none) bare
step-bare m _ _ comes none bare = bare

-- RUNS
run-bare : (m : Machine) (bs : List Ask) (xs : List Entry) → Orderly m → IsRunBy m bs xs → has_shared xs ≡ false → IsBare m.hub → IsBare (final m bs xs).hub
run-bare = along-orderly (λ m bs xs. has_shared xs ≡ false → IsBare m.hub → IsBare (final m bs xs).hub) (λ m none bare. bare)
    (λ m a bs x xs h next s k rest none bare.
    let both : (is_shared_call x.what ≡ false) × (has_shared xs ≡ false) = or_parts (is_shared_call x.what) (has_shared xs) none in
    let here : is_shared_call (step m a x).entry.what ≡ false = sym (ap (λ (y : Entry). is_shared_call y.what) next.0) ∙ both.0 in
    rest both.1 (step-bare m (step m a x) s next.1 here bare))

pub bare-run : (s : Setting) (bs : List Ask) (xs : List Entry) → IsRunBy (opening_of s) bs xs → has_shared xs ≡ false → IsBare (final_of s bs xs).hub
bare-run s bs xs run none = run-bare (opening_of s) bs xs (orderly-opens s) run none (record { closing = false; pool = refl; functions = refl })
