use Rattle.std.proofs.Common.{ap, arith, sym}
use Rattle.env_core.specs.Standing.{machine_frame}
use Rattle.env_loop.specs.RecordedRuns.{Run}
use Rattle.env_loop.proofs.AnsweredCalls.{answered-running, answered-turn, had-room, told-innermost}
use Rattle.env_loop.proofs.AwaitedCalls.{awaits}
use Rattle.env_loop.proofs.FrameTurns.{head-below}
use Rattle.env_loop.proofs.HandedOver.{own-refusal, is-timely}
use Rattle.env_loop.proofs.StoppedCalls.{stopped-turn}
use Rattle.env_loop.proofs.run.EnvRun.call_turn.Goals as goal

pub env_shared-requires-clause-refused : goal.env_shared-requires-clause-refused
env_shared-requires-clause-refused g c κs within =
    own-refusal _ c.args.call.now (awaits _ c.args.self.now c.args.call.now c.self.view_is c.self.invariant c.requires.awaited)

pub env_shared-requires-clause-timely : goal.env_shared-requires-clause-timely
env_shared-requires-clause-timely g c κs within =
    is-timely _ c.args.hub.now.hub.stage c.args.call.now
    (awaits _ c.args.self.now c.args.call.now c.self.view_is c.self.invariant c.requires.awaited) c.requires.fits.stage

pub note_at-requires : goal.note_at-requires
note_at-requires g c =
    let there =
    head-below c.self.inside.core.env.addons c.self.inside.core.env.frames (machine_frame c.in-Some.frame) (sym c.in-Some.ensures.frame)
    c.self.invariant.sound.owned.frames in
    omega (arith, there, ap (λ (x : Run). x.core.env.addons) c.self.view_is, c.requires.enough)

pub invariant_of-self : goal.invariant_of-self
invariant_of-self g c =
    answered-running _ c.args.self.now c.settle.new.self c.args.call.now c.in-Ok.reply c.position.result c.self.view_is c.self.invariant
    c.requires.awaited c.settle.ensures

pub returns-in-Ok-clause-turn : goal.returns-in-Ok-clause-turn
returns-in-Ok-clause-turn g c =
    answered-turn _ _ _ c.args.self.now c.settle.new.self c.args.call.now c.in-Ok.reply c.args.hub.now c.env_shared.new.self _ _
    c.position.result c.self.view_is c.self.invariant c.requires.led c.requires.fits c.requires.awaited c.in-Ok.ensures.next
    c.env_shared.ensures.keeps (had-room _ c.in-Ok.reply _ c.in-Ok.ensures.full.1) c.settle.ensures c.position.ensures
    (told-innermost _ _ _ c.self.inside.core.env.frames (machine_frame c.in-Some.frame) c.in-Ok.reply c.in-Some.ensures.frame
    c.note_at.ensures.others c.note_at.ensures.kept)
    c.note_at.ensures.seen

pub returns-in-Err-clause-turn : goal.returns-in-Err-clause-turn
returns-in-Err-clause-turn g c =
    stopped-turn _ _ _ c.args.self.now c.unsettle.new.self c.args.call.now c.in-Err.status c.why-cause.result c.args.hub.now
    c.env_shared.new.self _ c.position-in-Err.result c.self.view_is c.self.invariant c.requires.led c.requires.fits c.requires.awaited
    c.in-Err.ensures.cause c.in-Err.ensures.full.0 c.in-Err.ensures.memory c.in-Err.ensures.stop c.why-cause.ensures c.unsettle.ensures
    c.position-in-Err.ensures
