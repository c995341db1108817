use Rattle.std.proofs.Common.{sym, subst}
use Rattle.std.specs.List.{All}
use Rattle.napi_types.specs.parts.Buffers.{Buffers}
use Rattle.parts_suite.proofs.BareBuffers.{IsBare, when-ok, bare-made}
use Rattle.parts_suite.proofs.tests.buffers.make.Goals as goal

pub returns-clause-bare : goal.returns-clause-bare
returns-clause-bare g c =
    subst (λ (b : Buffers). All IsBare b.buffers) (sym (when-ok c.make.result c.ample.result _ c.ample.ensures c.make.ensures.made)) (bare-made c.args.buffers.now.buffers c.args.value.0 1048576 c.requires.bare)
