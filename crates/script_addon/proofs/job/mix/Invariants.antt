-- What is left to mix of the number now makes what was to be mixed of the first one.
use Rattle.std.specs.Prelude.{◌≡◌, ℕ, ◌+◌}
use Rattle.napi_types.specs.parts.Jobs.{mixed}
use Rattle.script_addon.proofs.job.mix.Given as goal

abbrev pub invariant-loop : goal.invariant-loop
invariant-loop l = (left : ℕ) → left + l.counter ≡ l.fn.k → mixed l.x left ≡ mixed l.fn.x l.fn.k
