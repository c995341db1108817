use Rattle.std.proofs.Common.{◌≡◌, take}
use Rattle.napi_types.specs.parts.Promises.{promises_left}
use Rattle.wrap_tag.specs.Wraps.{is_one_of}
use Rattle.env_registry.proofs.registry.promises.take_away.Given as goal

abbrev pub invariant-loop-value : goal.invariant-loop-value
invariant-loop-value l = l.promises.promises ≡ promises_left (is_one_of (take l.value-index l.values)) l.initial.promises.promises
