use Rattle.std.proofs.Common.{◌≡◌, ◌++◌, length}
use Rattle.napi_types.specs.parts.PropertyCalls.{names_of}
use Rattle.env_values.proofs.names.names.Given as goal

-- the names so far, and then those that are left
abbrev pub invariant-loop-name : goal.invariant-loop-name
invariant-loop-name l = l.names.items ++ names_of l.properties ≡ names_of l.object.properties

abbrev pub decreases-loop-name : goal.decreases-loop-name
decreases-loop-name l = length l.properties
