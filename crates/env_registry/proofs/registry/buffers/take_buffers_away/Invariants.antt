use Rattle.std.proofs.Common.{◌≡◌, ◌≤◌, take}
use Rattle.napi_types.specs.parts.Buffers.{buffers_left}
use Rattle.wrap_tag.specs.Wraps.{is_one_of}
use Rattle.env_registry.proofs.registry.buffers.take_buffers_away.Given as goal

abbrev pub invariant-loop-value : goal.invariant-loop-value
invariant-loop-value l =
    (l.buffers.buffers ≡ buffers_left (is_one_of (take l.value-index l.values)) l.initial.buffers.buffers)
    × (l.book.book ≡ l.initial.book.book) × (l.initial.book.spare ≤ l.book.spare)
