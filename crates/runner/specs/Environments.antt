-- The environment's run beside its pass.
use Rattle.std.specs.Prelude.{List, [], ◌∷◌}
use Rattle.napi_types.specs.scripts.Plans.{Plan}
use Rattle.turn_lock.specs.Passes.{PassState}
use Rattle.shared_hub.specs.declared.naming.Numbers.{Numbers}
use Rattle.shared_hub.specs.HubStates.{HubSeen}
use Rattle.env_loop.specs.FollowedRuns.{FollowsOnAt}
use Rattle.env_loop.specs.RecordedRuns.{Run, FitsHub}
use Rattle.env_loop.specs.Recording.{AddonStates}
use Rattle.runner.specs.AtPasses.{HoldsAtPass}

-- the run fits with the hub, and whatever was followed from the opening of its first run, over the empty history, is followed still
pub record HasFollowedOn (n : Numbers) (plans : List Plan) (first : Run) (before : AddonStates) (run : Run) (now : AddonStates) (s : HubSeen) : Type 0 where
  pub fits : FitsHub run s
  pub goes : FollowsOnAt n plans first [] before run s.history now

-- the same at the environment's pass: of the hub to which a history has led that begins what the pass has seen
abbrev pub HasFollowedOnAtPass : Numbers → List Plan → Run → AddonStates → PassState → Run → AddonStates → Type 0
HasFollowedOnAtPass n plans first before p run now = HoldsAtPass n p (HasFollowedOn n plans first before run now)

-- a fact of the first of these passes, which is the environment's; there has to be one
abbrev pub OfFirst : List PassState → (PassState → Type 0) → Type 0
OfFirst [] P = ⊥
OfFirst (p ∷ ps) P = P p
