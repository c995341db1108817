-- The places that the history still owes after each entry, along six worked runs: what each entry takes of them, and what it adds.
use Rattle.std.specs.Prelude.{◌≡◌, ℕ, List, [], ◌∷◌}
use Rattle.napi_types.specs.declared.entry.Entry.{Entry}
use Rattle.napi_types.specs.declared.entry.LoopEnd.TheVariants as loop_end
use Rattle.napi_types.specs.hub.Hub.{Hub}
use Rattle.napi_types.specs.hub.HubSteps.{hub_step}
use Rattle.napi_types.specs.hub.HistoryRoom.{reserved_history}
use Rattle.napi_types.specs.runs.Setting.{Setting, opening_of}
use Rattle.machine_laws.specs.Abort as abort
use Rattle.machine_laws.specs.CancelBeforeStart as cancel_before_start
use Rattle.machine_laws.specs.ExitInTheMiddle as exit_in_the_middle
use Rattle.machine_laws.specs.HookAbandoned as hook_abandoned
use Rattle.machine_laws.specs.HubWords.{abandons, drains, finals}
use Rattle.machine_laws.specs.RealisticAddon as realistic_addon
use Rattle.machine_laws.specs.ReleaseToZero as release_to_zero
use Rattle.machine_laws.specs.RunWords.{go_entry, loop_ended}

-- the places that the history still owes after each of these entries
abbrev pub places_along : Hub → List Entry → List ℕ
places_along h [] = []
places_along h (x ∷ xs) = reserved_history (hub_step h x).after ∷ places_along (hub_step h x).after xs

-- those along the history of a run of this script
abbrev pub places_in : Setting → List Entry → List ℕ
places_in s history = places_along (opening_of s).hub history

-- a call that leaves something to come adds the places of it, an entry that comes of that takes one, and at the end none is left. The drain takes two where no hook
-- was abandoned: its own, and that of `abandon`
pub record OweInOrder : Type 0 where
  -- a function with a finalizer, three items, and calls that make none
  pub abort : places_in abort.setting abort.history ≡ 9 ∷ 11 ∷ 13 ∷ 15 ∷ 14 ∷ 14 ∷ 14 ∷ 14 ∷ 14 ∷ 14 ∷ 13 ∷ 12 ∷ 11 ∷ 10 ∷ 9 ∷ 8 ∷ 7 ∷ 6 ∷ 5 ∷ 4 ∷ 3 ∷ 1 ∷ 0 ∷ []
  -- a function without one, and two items
  pub release : places_in release_to_zero.setting release_to_zero.history ≡ 7 ∷ 9 ∷ 11 ∷ 11 ∷ 11 ∷ 10 ∷ 9 ∷ 8 ∷ 7 ∷ 6 ∷ 5 ∷ 4 ∷ 3 ∷ 1 ∷ 0 ∷ []
  -- a work and an item, with one thread and one worker
  pub exit : places_in exit_in_the_middle.setting exit_in_the_middle.history ≡ 7 ∷ 11 ∷ 13 ∷ 15 ∷ 14 ∷ 13 ∷ 12 ∷ 9 ∷ 9 ∷ 8 ∷ 7 ∷ 6 ∷ 5 ∷ 4 ∷ 3 ∷ 2 ∷ 1 ∷ 0 ∷ []
  -- a work and two items, which two threads make
  pub addon : places_in realistic_addon.setting realistic_addon.history
      ≡ 8 ∷ 12 ∷ 11 ∷ 13 ∷ 12 ∷ 11 ∷ 13 ∷ 15 ∷ 14 ∷ 14 ∷ 14 ∷ 14 ∷ 13 ∷ 12 ∷ 11 ∷ 10 ∷ 9 ∷ 8 ∷ 7 ∷ 6 ∷ 5 ∷ 4 ∷ 2 ∷ 1 ∷ 0 ∷ []
  -- a work that is cancelled, which gives two places back
  pub cancel : places_in cancel_before_start.setting cancel_before_start.history ≡ 6 ∷ 10 ∷ 8 ∷ 8 ∷ 8 ∷ 7 ∷ 6 ∷ 6 ∷ 5 ∷ 4 ∷ 2 ∷ 1 ∷ 0 ∷ []
  -- no call of the hub, and hooks that are abandoned, which takes their place
  pub abandon : places_in hook_abandoned.setting (go_entry ∷ loop_ended loop_end.Idle ∷ abandons 1 ∷ drains 0 ∷ finals ∷ []) ≡ 4 ∷ 3 ∷ 2 ∷ 1 ∷ 0 ∷ []
