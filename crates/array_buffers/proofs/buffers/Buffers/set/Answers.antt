use Rattle.std.proofs.Common.{◌∙◌, is_some, sym, ap, refl}
use Rattle.array_buffers.proofs.Kept.{seen, size-now, within-now, read-now, none-read, none-written, none-kept-there, written-kept, written-after, written-there}
use Rattle.array_buffers.proofs.buffers.Buffers.set.Goals as goal

pub returns-in_default-clause-accepted : goal.returns-in_default-clause-accepted
returns-in_default-clause-accepted c =
    ap is_some (none-read _ _ _ _ (seen c.self.view_is) c.self.invariant c.args.view.0 c.args.at (sym c.in_default.is ∙ c.copied.ensures ∙ c.get.ensures.value))

pub returns-in_default-clause-written : goal.returns-in_default-clause-written
returns-in_default-clause-written c =
    none-written _ _ _ _ (seen c.self.view_is) c.self.invariant c.args.view.0 c.args.at c.args.to (sym c.in_default.is ∙ c.copied.ensures ∙ c.get.ensures.value)

pub returns-in_default-clause-kept : goal.returns-in_default-clause-kept
returns-in_default-clause-kept c =
    none-kept-there _ _ _ c.args.self.now.buffers (seen c.self.view_is) c.self.invariant c.args.view.0 c.args.at c.args.to _ (sym c.in_default.is ∙ c.copied.ensures ∙ c.get.ensures.value)

pub write-requires-clause-size : goal.write-requires-clause-size
write-requires-clause-size c = size-now _ _ _ _ (seen c.self.view_is) c.self.invariant c.args.view.0 c.in-Some.about (sym c.in-Some.is ∙ c.copied.ensures ∙ c.get.ensures.value)

pub write-requires-clause-within : goal.write-requires-clause-within
write-requires-clause-within c = within-now _ _ _ _ (seen c.self.view_is) c.self.invariant c.args.view.0 c.in-Some.about (sym c.in-Some.is ∙ c.copied.ensures ∙ c.get.ensures.value)

pub invariant_of-self : goal.invariant_of-self
invariant_of-self c =
    written-kept _ _ _ c.args.self.now.buffers (seen c.self.view_is) c.self.invariant c.args.view.0 c.args.at c.args.to c.in-Some.about (sym c.in-Some.is ∙ c.copied.ensures ∙ c.get.ensures.value)
    c.write.new.rows.entries c.write.ensures.written

pub returns-clause-accepted : goal.returns-clause-accepted
returns-clause-accepted c =
    c.write.ensures.accepted
    ∙ ap is_some (read-now _ _ _ _ (seen c.self.view_is) c.self.invariant c.args.view.0 c.in-Some.about (sym c.in-Some.is ∙ c.copied.ensures ∙ c.get.ensures.value) c.args.at)

pub returns-clause-written : goal.returns-clause-written
returns-clause-written c =
    written-after _ _ _ c.args.self.now.buffers (seen c.self.view_is) c.self.invariant c.args.view.0 c.args.at c.args.to c.in-Some.about (sym c.in-Some.is ∙ c.copied.ensures ∙ c.get.ensures.value)
    c.write.new.rows.entries c.write.ensures.written

pub returns-clause-kept : goal.returns-clause-kept
returns-clause-kept c =
    written-there _ _ _ c.args.self.now.buffers (seen c.self.view_is) c.self.invariant c.args.view.0 c.args.at c.args.to c.in-Some.about (sym c.in-Some.is ∙ c.copied.ensures ∙ c.get.ensures.value)
    c.write.new.rows.entries c.write.ensures.written _ refl c.ranges.to.fits
