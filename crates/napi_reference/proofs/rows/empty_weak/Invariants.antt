use Rattle.std.proofs.Common.{◌≡◌, ◌++◌, map, option_map, take, drop}
use Rattle.napi_types.specs.plain.Lists.{has_number}
use Rattle.napi_reference.specs.ReferenceRows.{held_emptied}
use Rattle.napi_reference.proofs.rows.empty_weak.Given as goal

abbrev pub invariant-loop-at : goal.invariant-loop-at
invariant-loop-at l =
    (l.rows.places ≡ map (option_map (held_emptied (λ v. has_number v (map (λ v. v.0) l.values)))) (take l.at l.initial.rows.places) ++ drop l.at l.initial.rows.places)
    × (l.rows.issued ≡ l.initial.rows.issued)
    × (l.rows.room ≡ l.initial.rows.room)
