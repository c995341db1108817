use Rattle.std.proofs.Common.{refl}
use Rattle.env_loop.specs.Bursts.{made_by}
use Rattle.env_loop.proofs.Bursts.{no-turn, one-turn, turns-then, zero-first}
use Rattle.env_loop.proofs.run.EnvRun.silent_turn.Goals as goal

pub returns-clause-burst : goal.returns-clause-burst
returns-clause-burst g c =
    let n = g.N.Naming.numbers in
    let t = c.hub_turn.ensures in
    turns-then n _ _ 0 (made_by c.hub_turn.result) (made_by c.hub_turn.result) c.args.self.now c.owe_end.new.self c.hub_turn.new.self c.args.hub.now c.args.hub.now
    c.hub_turn.new.hub _ _ _ refl (zero-first (made_by c.hub_turn.result))
    (no-turn n _ c.args.self.now c.owe_end.new.self c.args.hub.now _ c.owe_end.ensures.core c.owe_end.ensures.begun c.requires.fits (c.owe_end.ensures.goes _ _ _))
    (one-turn n c.hub_turn.result _ c.owe_end.new.self c.args.hub.now _ c.hub_turn.new.self c.hub_turn.new.hub _ t.made t.hub t.journal t.addons t.limit t.fits t.others
    t.goes)
