-- The kinds of operations by the lengths of their names.
use Rattle.std.specs.Prelude.{ℕ, ◌-◌, List, length, nat_eq, get_or}
use Rattle.std.specs.List.{filter}
use Rattle.napi_types.specs.declared.op.Op.{Op}
use Rattle.napi_types.specs.scripts.ScriptOperations.{operation_name, operations}

-- the operations of which the name has a length
abbrev pub with_length : ℕ → List Op → List Op
with_length n ops = filter (λ o. nat_eq (length (operation_name o)) n) ops

-- the kinds of operations of an addon of which the name has a length
abbrev pub operations_of_length : ℕ → List Op
operations_of_length n = with_length n operations

-- the last letter of a name
abbrev pub last_letter : List ℕ → ℕ
last_letter name = get_or name (length name - 1) 0
