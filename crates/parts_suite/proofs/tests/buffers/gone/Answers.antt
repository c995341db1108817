use Rattle.std.proofs.Common.{sym, subst}
use Rattle.std.specs.List.{All}
use Rattle.napi_types.specs.parts.Buffers.{Buffers}
use Rattle.parts_suite.proofs.BareBuffers.{IsBare, no-ticket, bare-gone}
use Rattle.parts_suite.proofs.tests.buffers.gone.Goals as goal

pub gone-requires : goal.gone-requires
gone-requires c = no-ticket c.args.buffers.now.buffers c.args.value.0 c.args.book.now.book c.requires.bare

pub returns-clause-bare : goal.returns-clause-bare
returns-clause-bare c = subst (λ (b : Buffers). All IsBare b.buffers) (sym c.gone.ensures.forgotten) (bare-gone c.args.buffers.now.buffers c.args.value.0 c.requires.bare)
