-- No work stands twice among those that are queued, executed and finished.
use Rattle.std.proofs.Common.{ℕ, ◌+◌, List, [], ◌∷◌, subst, arith}
use Rattle.napi_types.specs.declared.entry.Duty.TheVariants as duty
use Rattle.napi_types.specs.declared.entry.Entry.{Entry}
use Rattle.napi_types.specs.hub.HistoryLaws.{LeadsTo}
use Rattle.napi_types.specs.hub.Hub.{Hub, new_hub, is_past_drain}
use Rattle.napi_types.specs.hub.HubSteps.{hub_step, hub_along}
use Rattle.napi_types.specs.hub.Replays.{HubReplays}
use Rattle.napi_types.specs.all_runs.OnceLaws.{WorksStandOnce}
use Rattle.napi_types.proofs.hub.HubDutySteps.{hub-duties}
use Rattle.napi_types.proofs.hub.HubHolds.{HubSound, opening-sound, step-sound}
use Rattle.napi_types.proofs.all_runs.HubAccounts.{HubFacts, given-once, opening-facts, step-facts}

along-facts : (limit n : ℕ) (h : Hub) (xs : List Entry) → HubReplays limit h n xs → HubSound h → HubFacts h → HubFacts (hub_along h xs)
along-facts limit n h [] replays sound facts = facts
along-facts limit n h (x ∷ xs) replays sound facts =
    along-facts limit (n + 1) (hub_step h x).after xs replays.2 (step-sound h x replays.0 sound)
    (step-facts h _ _ _ _ (hub_step h x).after sound facts (hub-duties (is_past_drain h.stage) h x sound.functions replays.0.may))

-- so each duty has one place in the hub at most
pub led-facts : (limit threads workers : ℕ) (history : List Entry) (h : Hub) → LeadsTo limit threads workers history h → HubFacts h
led-facts limit threads workers history h led =
    subst HubFacts led.hub
    (along-facts limit 0 (new_hub threads workers) history led.replays (opening-sound threads workers) (opening-facts threads workers))

pub works-stand-once : WorksStandOnce
works-stand-once limit threads workers n history h led =
    omega (arith, (led-facts limit threads workers history h led).placed (duty.Work n), given-once h (duty.Work n))
