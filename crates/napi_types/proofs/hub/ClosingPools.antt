-- The pool is closing from the drain on.
use Rattle.std.proofs.Common.{◌≡◌, ◌∙◌, ℕ, ◌+◌, true, List, [], ◌∷◌, IsTrue, refl, sym, subst, Option, Some, None, is_some, is_none}
use Rattle.std.specs.Option.{unwrap_or}
use Rattle.napi_types.specs.declared.entry.Duty.{Duty}
use Rattle.napi_types.specs.declared.entry.Duty.TheVariants as duty
use Rattle.napi_types.specs.declared.entry.Entry.{Entry}
use Rattle.napi_types.specs.declared.entry.HostStep.TheVariants as host
use Rattle.napi_types.specs.declared.entry.Out.{Out}
use Rattle.napi_types.specs.parts.Pool.{WorkPool, cancelled_at, number_of_work, started_from, finished_at, executed_by}
use Rattle.napi_types.specs.hub.HistoryLaws.{PoolsCloseAtTheDrain}
use Rattle.napi_types.specs.hub.Hub.{Hub, Stage, Before, Live, LoopEnded, Drained, new_hub, stage_after, is_past_drain, HooksAbandoned}
use Rattle.napi_types.specs.hub.HubMoves.{without_duty}
use Rattle.napi_types.specs.hub.HubSteps.{hub_step, hub_along}
use Rattle.napi_types.specs.hub.Replays.{HubReplays}
use Rattle.napi_types.proofs.plain.Conditions.{and-left}
use Rattle.napi_types.proofs.hub.HubCases.{HubCase, asks, creates_work, deletes_work, cancels_work, queues_work, creates_function, alters, goes, ends_loop, drains, comes_to_finals, delivers, closes, finishes, ends, thread_ends, worker_ends, starts, finishes_work, hub-case, abandons}

abbrev pub IsShut : Hub → Type 0
IsShut h = h.pool.closing ≡ is_past_drain h.stage

pub cancelled-closing : (o : Option ℕ) (p : WorkPool) → (cancelled_at o p).closing ≡ p.closing
cancelled-closing None p = refl
cancelled-closing (Some n) p = refl

pub started-closing : (ns : List ℕ) (w : ℕ) (p : WorkPool) → (started_from ns w p).closing ≡ p.closing
started-closing [] w p = refl
started-closing (n ∷ ns) w p = refl

pub finished-closing : (w : ℕ) (o : Option ℕ) (p : WorkPool) → (finished_at w o p).closing ≡ p.closing
finished-closing w None p = refl
finished-closing w (Some n) p = refl

duty-shut : (d : Duty) (h : Hub) → IsShut h → IsShut (without_duty d h)
duty-shut (duty.Ticket t) h s = s
duty-shut (duty.Work n) h s = s
duty-shut (duty.Item f n) h s = s
duty-shut (duty.Function f) h s = s

go-past : (s : Stage) → is_some (stage_after s host.Go) ≡ true → is_past_drain (unwrap_or (stage_after s host.Go) s) ≡ is_past_drain s
go-past Before is = refl
go-past _ is = cc

loop-past : (s : Stage) → is_some (stage_after s host.LoopEnd) ≡ true → is_past_drain (unwrap_or (stage_after s host.LoopEnd) s) ≡ is_past_drain s
loop-past Live is = refl
loop-past _ is = cc

abandon-past : (s : Stage) → is_some (stage_after s host.Abandon) ≡ true → is_past_drain (unwrap_or (stage_after s host.Abandon) s) ≡ is_past_drain s
abandon-past LoopEnded is = refl
abandon-past _ is = cc

drain-past : (s : Stage) → is_some (stage_after s host.Drain) ≡ true → is_past_drain (unwrap_or (stage_after s host.Drain) s) ≡ true
drain-past LoopEnded is = refl
drain-past HooksAbandoned is = refl
drain-past _ is = cc

finals-past : (s : Stage) → is_some (stage_after s host.Finals) ≡ true → is_past_drain (unwrap_or (stage_after s host.Finals) s) ≡ is_past_drain s
finals-past Drained is = refl
finals-past _ is = cc

case-shut : (h : Hub) (x : Entry) (told : Out) (n : Hub) → IsShut h → HubCase h x told n → IsShut n
case-shut h x told _ s (asks c is shared) = s
case-shut h x told _ s (creates_work job entry payload addon is fresh tells) = s
case-shut h x told _ s (deletes_work w is none) = s
case-shut h x told _ s (cancels_work w is none) = cancelled-closing (number_of_work h.pool w.0) h.pool ∙ s
case-shut h x told _ s (queues_work w is none early) = s
case-shut h x told _ s (creates_function f entry maximum count finalizer context addon target is early) = s
case-shut h x told _ s (alters c k f change is there how) = s
case-shut h x told _ s (goes is may) = s ∙ sym (go-past h.stage (and-left (is_some (stage_after h.stage host.Go)) (is_none h.standing) may))
case-shut h x told _ s (abandons is may still) = s ∙ sym (abandon-past h.stage (and-left (is_some (stage_after h.stage host.Abandon)) (is_none h.standing) may))
case-shut h x told _ s (ends_loop is may) = s ∙ sym (loop-past h.stage (and-left (is_some (stage_after h.stage host.LoopEnd)) (is_none h.standing) may))
case-shut h x told _ s (drains is may) = sym (drain-past h.stage (and-left (is_some (stage_after h.stage host.Drain)) (is_none h.standing) may))
case-shut h x told _ s (comes_to_finals is may) = s ∙ sym (finals-past h.stage (and-left (is_some (stage_after h.stage host.Finals)) (is_none h.standing) may))
case-shut h x told _ s (delivers d is next alone) = duty-shut d.duty h s
case-shut h x told _ s (closes n is next) = s
case-shut h x told _ s (finishes n is next) = s
case-shut h x told _ s (ends d is stands) = s
case-shut h x told _ s (thread_ends t is there) = s
case-shut h x told _ s (worker_ends w is there) = s
case-shut h x told _ s (starts w n later is waits free) = started-closing h.pool.queued w h.pool ∙ s
case-shut h x told _ s (finishes_work w n is runs) = finished-closing w (executed_by h.pool w) h.pool ∙ s

pub step-shut : (h : Hub) (x : Entry) → IsTrue (hub_step h x).may → IsShut h → IsShut (hub_step h x).after
step-shut h x may s = case-shut h x (hub_step h x).entry.reply.out (hub_step h x).after s (hub-case h x may)

along-shut : (limit n : ℕ) (h : Hub) (xs : List Entry) → IsShut h → HubReplays limit h n xs → IsShut (hub_along h xs)
along-shut limit n h [] s replays = s
along-shut limit n h (x ∷ xs) s replays =
    along-shut limit (n + 1) (hub_step h x).after xs (step-shut h x replays.0.may s) replays.2

pub pools-close-at-the-drain : PoolsCloseAtTheDrain
pools-close-at-the-drain limit threads workers history h led =
    subst IsShut led.hub (along-shut limit 0 (new_hub threads workers) history refl led.replays)
