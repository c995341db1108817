use Rattle.std.proofs.Common.{sym, subst}
use Rattle.std.specs.List.{All}
use Rattle.napi_types.specs.parts.Buffers.{Buffers}
use Rattle.parts_suite.proofs.BareBuffers.{IsBare, bare-detached}
use Rattle.parts_suite.proofs.tests.buffers.detach.Goals as goal

pub returns-then-not-detached-clause-bare : goal.returns-then-not-detached-clause-bare
returns-then-not-detached-clause-bare c = subst (λ (b : Buffers). All IsBare b.buffers) (sym c.detach.ensures) (bare-detached c.args.buffers.now.buffers c.args.value.0 c.requires.bare)
