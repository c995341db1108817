-- From the drain on no call of a thread-safe function waits.
use Rattle.std.proofs.Common.{◌≡◌, ℕ, ◌==◌, Bool, true, false, not, cond, refl, Option, Some, None, is_some, option_map}
use Rattle.napi_types.specs.declared.call.Mode.{Mode}
use Rattle.napi_types.specs.declared.entry.Actor.{Actor}
use Rattle.napi_types.specs.declared.status.Status.{Status}
use Rattle.napi_types.specs.declared.status.Status.TheVariants as status
use Rattle.napi_types.specs.parts.Functions.{FunctionState, is_open, is_full_queue, full_status, call_status}
use Rattle.napi_types.specs.hub.HistoryLaws.{NoCallWaitsFromTheDrainOn}
use Rattle.napi_types.specs.hub.Hub.{Hub, is_past_drain}
use Rattle.napi_types.specs.hub.HubCalls.{tsfn_at, called_answer, call_answer}
use Rattle.napi_types.proofs.hub.HubFunctions.{IsAmong, found-among}
use Rattle.napi_types.proofs.hub.HubHolds.{AreSound, led-sound}

-- a function that is not open answers each call at once
answers-at-once : (who : Actor) (m : Mode) (f : FunctionState) → is_open f.state ≡ false → is_some (call_status who m f) ≡ true
answers-at-once who m f shut = by (f.count == 0) (is_open f.state) shut
  where
    by : (none opened : Bool) → opened ≡ false
        → is_some (cond none (Some status.InvalidArg) (cond (not opened) (Some status.Closing) (cond (is_full_queue f) (full_status who m) (Some status.Ok)))) ≡ true
    by true opened shut = refl
    by false true shut = cc
    by false false shut = refl

pub told-answer : (h : Hub) (payload : ℕ) (f : FunctionState) (s : Option Status) → is_some s ≡ true → is_some (option_map (called_answer h payload f) s) ≡ true
told-answer h payload f None some = cc
told-answer h payload f (Some s) some = refl

function-answers : (h : Hub) (who : Actor) (k payload : ℕ) (m : Mode) (o : Option FunctionState) → AreSound h → is_past_drain h.stage ≡ true → tsfn_at h k ≡ o
    → is_some (call_answer h who payload m o) ≡ true
function-answers h who k payload m None sound late there = refl
function-answers h who k payload m (Some f) sound late there =
    let among : IsAmong (is_past_drain h.stage) 1 h.functions f = found-among (is_past_drain h.stage) 1 k h.functions f sound there in
    told-answer h payload f (call_status who m f) (answers-at-once who m f (among.sound.shut late))

pub no-call-waits : NoCallWaitsFromTheDrainOn
no-call-waits limit threads workers history h who g f payload m led late =
    function-answers h who f.0 payload m (tsfn_at h f.0) (led-sound limit threads workers history h led).functions late refl
