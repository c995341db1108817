use Rattle.std.proofs.Common.{arith, ap, sym, ◌∙◌, is_some}
use Rattle.napi_types.specs.parts.Frames.{duty_of}
use Rattle.env_core.specs.Standing.{machine_frame}
use Rattle.env_loop.specs.RecordedRuns.{Run}
use Rattle.env_loop.proofs.EndTurns.{caller-there, told-caller, plain-running, duty-running}
use Rattle.env_loop.proofs.FrameTurns.{stands-as}
use Rattle.env_loop.proofs.run.EnvRun.end_frame.Goals as goal

-- THE FRAME OF A DUTY
pub invariant_of-self : goal.invariant_of-self
invariant_of-self g c =
    let stands = stands-as _ _ (ap (λ (r : Run). r.core.env.frames) c.self.view_is) c.requires.stands in
    let idle = ap (λ (r : Run). r.core.awaited) c.self.view_is ∙ c.requires.idle in
    let unended = ap (λ (r : Run). r.ending) c.self.view_is ∙ c.requires.unended in
    let has = ap (λ (r : Run). is_some (duty_of r.core.env.frames)) c.self.view_is ∙ ap is_some (sym c.requires.duty) ∙ sym c.is_some.ensures
    ∙ c.if-is_some.true in
    duty-running c.self.inside.core c.end_duty.new.self c.args.cut c.take.new.self c.self.inside.ending c.self.invariant.sound stands idle has
    c.end_duty.ensures.ended c.take.ensures.after unended

-- EVERY OTHER FRAME
pub invariant_of-self-in_default-frame : goal.invariant_of-self-in_default-frame
invariant_of-self-in_default-frame g c =
    let stands = stands-as _ _ (ap (λ (r : Run). r.core.env.frames) c.self.view_is) c.requires.stands in
    let idle = ap (λ (r : Run). r.core.awaited) c.self.view_is ∙ c.requires.idle in
    let unended = ap (λ (r : Run). r.ending) c.self.view_is ∙ c.requires.unended in
    let plain = ap (λ (r : Run). is_some (duty_of r.core.env.frames)) c.self.view_is ∙ ap is_some (sym c.requires.duty) ∙ sym c.is_some.ensures
    ∙ c.if-is_some.false in
    plain-running c.self.inside.core c.leave-reply.new.self c.args.value c.args.cut c.self.inside.begun c.self.inside.ending c.self.invariant.sound stands idle
    plain
    c.leave-reply.ensures.ended c.self.invariant.held unended

pub invariant_of-self-2 : goal.invariant_of-self-2
invariant_of-self-2 g c =
    let stands = stands-as _ _ (ap (λ (r : Run). r.core.env.frames) c.self.view_is) c.requires.stands in
    let idle = ap (λ (r : Run). r.core.awaited) c.self.view_is ∙ c.requires.idle in
    let unended = ap (λ (r : Run). r.ending) c.self.view_is ∙ c.requires.unended in
    let plain = ap (λ (r : Run). is_some (duty_of r.core.env.frames)) c.self.view_is ∙ ap is_some (sym c.requires.duty) ∙ sym c.is_some.ensures
    ∙ c.if-is_some.false in
    plain-running c.self.inside.core c.leave-reply.new.self c.args.value c.args.cut c.self.inside.begun c.self.inside.ending c.self.invariant.sound stands idle
    plain
    c.leave-reply.ensures.ended c.self.invariant.held unended

pub note_at-requires : goal.note_at-requires
note_at-requires g c =
    let there = caller-there c.self.inside.core c.leave-reply.new.self c.args.value c.args.cut (machine_frame c.in-Some-frame.caller) c.self.invariant.sound
    c.leave-reply.ensures.ended
    c.in-Some-frame.ensures.frame in
    let same = ap (λ (r : Run). r.core.env.addons) c.self.view_is in
    omega (arith, there, same, c.requires.enough)

pub returns-clause-told : goal.returns-clause-told
returns-clause-told g c =
    rw (← c.self.view_is) (told-caller _ _ _ c.self.inside.core c.leave-reply.new.self c.args.value c.args.cut (machine_frame c.in-Some-frame.caller)
    c.saturating_sub-step.result c.leave-reply.result
    c.leave-reply.ensures.ended c.in-Some-frame.ensures.frame c.saturating_sub-step.ensures c.leave-reply.ensures.reply c.note_at.ensures.others
    c.note_at.ensures.kept)
