use Rattle.std.proofs.Common.{ap}
use Rattle.env_core.specs.Core.{Core}
use Rattle.env_loop.proofs.Turns.{idle-seen, init-turn, gone_change-turn, turn-seen}
use Rattle.env_loop.proofs.run.EnvRun.event_turn.Goals as goal

pub returns-in-Init-clause-goes : goal.returns-in-Init-clause-goes
returns-in-Init-clause-goes g c =
    turn-seen _ _ _ _ _ _ c.self.view_is
    (init-turn _ _ _ (idle-seen _ _ c.self.view_is c.self.invariant c.requires.unowed c.requires.alone) _ c.in-Init.addon c.in-Init.ensures
    (ap (λ (x : Core). record { core = x; begun = c.self.inside.begun; ending = c.self.inside.ending }) c.begin_init.ensures))

pub returns-in-Gone-clause-goes : goal.returns-in-Gone-clause-goes
returns-in-Gone-clause-goes g c =
    turn-seen _ _ _ _ _ _ c.self.view_is
    (gone_change-turn _ _ _ (idle-seen _ _ c.self.view_is c.self.invariant c.requires.unowed c.requires.alone) _ c.in-Gone.ensures
    (ap (λ (x : Core). record { core = x; begun = c.self.inside.begun; ending = c.self.inside.ending }) c.advance.ensures))
