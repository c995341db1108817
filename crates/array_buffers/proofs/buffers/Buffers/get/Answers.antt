use Rattle.std.proofs.Common.{◌∙◌, sym, ap}
use Rattle.std.specs.Option.{option_copied}
use Rattle.array_buffers.proofs.Kept.{seen, size-now, within-now, read-now, none-read}
use Rattle.array_buffers.proofs.buffers.Buffers.get.Goals as goal

pub returns-in_err-about : goal.returns-in_err-about
returns-in_err-about c = c.from_residual.ensures ∙ none-read _ _ _ _ (seen c.self.view_is) c.self.invariant c.args.view.0 c.args.at (sym (ap option_copied c.in_err-about.was) ∙ c.get.ensures.value)

pub read-requires-clause-size : goal.read-requires-clause-size
read-requires-clause-size c = size-now _ _ _ _ (seen c.self.view_is) c.self.invariant c.args.view.0 c.in_ok-about.about.now (sym (ap option_copied c.in_ok-about.was) ∙ c.get.ensures.value)

pub read-requires-clause-within : goal.read-requires-clause-within
read-requires-clause-within c = within-now _ _ _ _ (seen c.self.view_is) c.self.invariant c.args.view.0 c.in_ok-about.about.now (sym (ap option_copied c.in_ok-about.was) ∙ c.get.ensures.value)

pub returns : goal.returns
returns c = c.read.ensures ∙ read-now _ _ _ _ (seen c.self.view_is) c.self.invariant c.args.view.0 c.in_ok-about.about.now (sym (ap option_copied c.in_ok-about.was) ∙ c.get.ensures.value) c.args.at
