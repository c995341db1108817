use Rattle.std.proofs.Common.{◌∙◌, sym}
use Rattle.env_loop.proofs.LocalTurns.{room-seen}
use Rattle.env_loop.proofs.run.EnvRun.turn.Goals as goal

pub returns-in-Some-clause-room : goal.returns-in-Some-clause-room
returns-in-Some-clause-room g c = λ made.
    room-seen c.frame_turn.new.self _ c.args.self.now c.self.view_is c.self.invariant.sound (sym c.frame_turn.ensures.turn ∙ made) c.frame.ensures.room

pub returns-in-None-clause-room : goal.returns-in-None-clause-room
returns-in-None-clause-room g c = λ made.
    room-seen c.event_turn.new.self _ c.args.self.now c.self.view_is c.self.invariant.sound (sym c.event_turn.ensures.turn ∙ made) c.frame.ensures.room
