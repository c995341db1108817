-- What addons tell of their plans, and their registers: one for each addon, in their order.
use Rattle.std.specs.Prelude.{ℕ, List, [], map, Option, Some, slice_index_or}
use Rattle.napi_types.specs.declared.op.Op.{Op}
use Rattle.napi_types.specs.scripts.Registers.{blank_registers}

-- what an addon tells of its plan: for each entry its operations; none where it tells nothing
abbrev pub Plan : Type 0
Plan = Option (List (List Op))

-- the plan of an addon by its number; an addon that is not there has no entries
abbrev pub plan_of : List Plan → ℕ → Plan
plan_of ps a = slice_index_or ps a (Some [])

-- the 32 registers of each addon
abbrev pub Registers : Type 0
Registers = List (List ℕ)

-- registers as they are loaded
abbrev pub loaded_registers : List Plan → Registers
loaded_registers ps = map (λ p. blank_registers) ps

-- the registers of an addon by its number
abbrev pub registers_of : Registers → ℕ → List ℕ
registers_of rss a = slice_index_or rss a []
