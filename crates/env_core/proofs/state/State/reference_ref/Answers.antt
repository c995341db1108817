use Rattle.std.proofs.Common.{ap}
use Rattle.napi_reference.specs.ReferencePlaces.{map_of}
use Rattle.env_core.specs.contracts.state.State.{the_view}
use Rattle.env_core.proofs.Referring.{raised-told, raised-told-live, err-mapped}
use Rattle.env_core.proofs.state.State.reference_ref.Goals as goal

pub invariant_of-self : goal.invariant_of-self
invariant_of-self c =
    let s = c.self.inside in
    let i = c.self.invariant.0 in (
      record {
        live = i.live;
        frames = i.frames;
        calls = i.calls;
        pending = i.pending;
        referred = raised-told-live s.store (map_of s.references) (map_of c.add.new.self) c.args.reference.0 c.add.result i.referred c.add.ensures.counted (λ none. ap map_of (c.add.ensures.gone_stays none)) (err-mapped c.add.result s.references c.add.new.self c.add.ensures.err);
        rooted = i.rooted;
      },
      c.self.invariant.1,
      c.self.invariant.2,
      c.self.invariant.3,
    )

pub returns : goal.returns
returns c =
    let s = c.self.inside in
    rw (← c.self.view_is)
    (raised-told (the_view s) s.store (map_of s.references) (map_of c.add.new.self) c.args.reference c.add.result _ c.add.ensures.refusal c.add.ensures.count c.add.ensures.counted
    c.add.ensures.gone (λ none. ap map_of (c.add.ensures.gone_stays none)) (err-mapped c.add.result s.references c.add.new.self c.add.ensures.err) c.counted.ensures.ok c.counted.ensures.err)
