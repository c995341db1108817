-- Lists of addons, seen as the list of their plans, the list of their registers and the list of what each has seen, all in the addons' order.
use Rattle.std.specs.Prelude.{◌≡◌, ℕ, List, [], length, map, set, option_map, slice_index_or}
use Rattle.napi_types.specs.declared.duties.DueInfo.{DueInfo}
use Rattle.napi_types.specs.declared.op.Op.{Op}
use Rattle.napi_types.specs.scripts.Plans.{Plan, plan_of, Registers, registers_of}

-- the plans once an addon was given these entries: one that did not tell its plan does not tell it now
abbrev pub loaded_at : List Plan → ℕ → List (List Op) → List Plan
loaded_at plans which entries = set plans which (option_map (λ _. entries) (plan_of plans which))

-- every other addon has the registers that it had
abbrev pub OthersStay : Registers → Registers → ℕ → Type 0
OthersStay old new which = new ≡ set old which (registers_of new which)

-- what an addon has seen, by its number
abbrev pub seen_of : List (List DueInfo) → ℕ → List DueInfo
seen_of seens addon = slice_index_or seens addon []

-- as many addons as before, and each tells the plan that it told
pub record TellSamePlans {A : Type 0} (plan : A → Plan) (old new : List A) : Type 0 where
  pub count : length new ≡ length old
  pub same : map plan new ≡ map plan old
