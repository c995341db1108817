use Rattle.std.proofs.Common.{◌≡◌, take}
use Rattle.value_store.proofs.properties.set_many.Given as goal

abbrev pub invariant-loop-own : goal.invariant-loop-own
invariant-loop-own l = l.map.entries ≡ take l.own-index l.entries
