use Rattle.std.proofs.Common.{◌≡◌, false, ap, sym, ◌∙◌}
use Rattle.env_loop.specs.RecordedRuns.{Run, pending_at_hub}
use Rattle.env_loop.proofs.EventTurns.{at-hub, owes-nothing}
use Rattle.env_loop.proofs.PlainEvents.{moved-turn, go-moves}
use Rattle.env_loop.proofs.run.EnvRun.turn_at_hub.Goals as goal

pub returns-in-Some-ending-clause-turn : goal.returns-in-Some-ending-clause-turn
returns-in-Some-ending-clause-turn g c = c.end_at_hub.ensures.turn _ _

pub returns-in-Init-clause-turn : goal.returns-in-Init-clause-turn
returns-in-Init-clause-turn g c =
    let n = g.N.Naming.numbers in
    let run : Run = record { core = c.self.inside.core; begun = c.self.inside.begun; ending = c.self.inside.ending } in
    let unowed : pending_at_hub c.args.self.now ≡ false = ap pending_at_hub (sym c.self.view_is) ∙ owes-nothing run
    (sym c.in_default.ensures) c.in_default-ending.is in
    let at = at-hub n run c.args.self.now c.args.hub.now c.self.view_is c.self.invariant unowed c.requires.needs c.invariant.ensures c.requires.fits in
    moved-turn n _ run c.args.self.now c.args.hub.now c.go.new.self _ c.advance.new.self c.self.view_is at
    (go-moves n run c.args.hub.now c.go.new.self c.advance.new.self c.position.result at (sym c.in-Init.ensures) c.go.ensures c.position.ensures
    c.advance.ensures)
