use Rattle.napi_types.specs.declared.ids.ValueId.{ValueId}
use Rattle.napi_types.specs.parts.Promises.{reactions_of}
use Rattle.env_registry.proofs.SettledBooks.{kept-either}
use Rattle.env_registry.proofs.registry.Registry.settle.Goals as goal

pub invariant_of-self : goal.invariant_of-self
invariant_of-self c =
    let s = c.self.inside in (
      kept-either s.wraps.attachments s.promises.promises c.settle.new.self.promises s.book c.settle.new.book c.args.state
          (λ (v : ValueId). reactions_of s.promises.promises v.0) c.settle.result c.settle.ensures.due c.settle.ensures.err c.self.invariant.0,
      c.self.invariant.1,
    )
