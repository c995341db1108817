-- How many asks the frames that stand made.
use Rattle.std.specs.Prelude.{◌≤◌}
use Rattle.std.specs.List.{All}
use Rattle.napi_types.specs.parts.Frames.{most_asks}
use Rattle.napi_types.specs.environment.Environment.{Environment}

-- no frame made more asks than it may
abbrev pub AsksWithin : Environment → Type 0
AsksWithin e = All (λ f. f.asks ≤ most_asks) e.frames
