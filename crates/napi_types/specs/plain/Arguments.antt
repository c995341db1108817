-- The arguments of a call of a function.
use Rattle.std.specs.Prelude.{ℕ, List, map, take, min}
use Rattle.napi_types.specs.declared.call.Args.{Args}

-- the handles of a call's arguments: as many as it counts, at most four
abbrev pub argument_handles : Args → List ℕ
argument_handles args = map (λ h. h.0) (take (min args.count 4) args.handles)
