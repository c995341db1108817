use Rattle.std.proofs.Common.{◌∙◌, [], ap, sym, subst}
use Rattle.array_buffers.specs.BufferTables.{buffers_of, StandsForBuffers}
use Rattle.array_buffers.proofs.BufferMaps.{buffers_of-none}
use Rattle.array_buffers.proofs.Kept.{none-kept}
use Rattle.array_buffers.proofs.buffers.Buffers.new.Goals as goal

pub returns : goal.returns
returns c = ap (λ rows. buffers_of rows c.new-2.result.entries) c.new.ensures.empty ∙ ap (buffers_of []) c.new-2.ensures.empty ∙ buffers_of-none

pub invariant_of-result : goal.invariant_of-result
invariant_of-result c = subst (StandsForBuffers 0) (sym (returns c)) none-kept
