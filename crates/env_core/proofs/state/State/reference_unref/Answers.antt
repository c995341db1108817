use Rattle.napi_reference.specs.ReferencePlaces.{map_of}
use Rattle.env_core.specs.contracts.state.State.{the_view}
use Rattle.env_core.proofs.Referring.{lowered-told, lowered-told-live, err-mapped}
use Rattle.env_core.proofs.state.State.reference_unref.Goals as goal

pub invariant_of-self : goal.invariant_of-self
invariant_of-self c =
    let s = c.self.inside in
    let i = c.self.invariant.0 in (
      record {
        live = i.live;
        frames = i.frames;
        calls = i.calls;
        pending = i.pending;
        referred = lowered-told-live s.store (map_of s.references) (map_of c.take.new.self) c.args.reference.0 c.take.result i.referred c.take.ensures.counted (err-mapped c.take.result s.references c.take.new.self c.take.ensures.err);
        rooted = i.rooted;
      },
      c.self.invariant.1,
      c.self.invariant.2,
      c.self.invariant.3,
    )

pub returns : goal.returns
returns c =
    let s = c.self.inside in
    rw (← c.self.view_is)
    (lowered-told (the_view s) s.store (map_of s.references) (map_of c.take.new.self) c.args.reference c.take.result _ c.take.ensures.refusal c.take.ensures.count c.take.ensures.counted
    (err-mapped c.take.result s.references c.take.new.self c.take.ensures.err) c.counted.ensures.ok c.counted.ensures.err)
