use Rattle.std.proofs.Common.{◌∙◌}
use Rattle.generation_slab.specs.HeldPlaces.{value_of}
use Rattle.value_store.proofs.Clearing.{next-held, freed-more}
use Rattle.value_store.proofs.RecordValues.{record-freed}
use Rattle.value_store.proofs.records.clear.Goals as goal

pub free-requires : goal.free-requires
free-requires c =
    next-held (value_of c.args.values.now) (value_of c.loop-id.values) c.args.list.now c.loop-id.id-index _ c.loop-id-test.true c.requires.held c.requires.distinct c.loop-id.invariant.values

pub loop-id-preserved : goal.loop-id-preserved
loop-id-preserved c = record {
  values =
      freed-more (value_of c.args.values.now) (value_of c.loop-id.values) (value_of c.free.new.self) c.args.list.now c.loop-id.id-index _ c.loop-id-test.true c.loop-id.invariant.values
      (record-freed c.loop-id.values c.free.new.self _ c.free.ensures.freed);
  issued = c.free.ensures.issued ∙ c.loop-id.invariant.issued;
  once = c.free.ensures.once;
}
