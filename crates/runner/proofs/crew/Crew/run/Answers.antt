use Rattle.std.proofs.Common.{◌≡◌, ◌+◌, length, false, arith}
use Rattle.shared_hub.specs.HubStates.{hub_seen}
use Rattle.runner.specs.Crews.{runs_of}
use Rattle.runner.proofs.AllHandedBack.{length-runs, all-numbers, all-passes, all-actors}
use Rattle.runner.proofs.crew.Crew.run.Goals as goal

pub close-requires-clause-every : goal.close-requires-clause-every
close-requires-clause-every g c κs within =
    let crew = c.self.inside.unstarted.items in
    let actors = runs_of g.row.J.Denot crew in
    let same : length actors ≡ length crew = length-runs g.row.J.Denot crew in
    let all : c.self.inside.hub.passes ≡ 1 + length actors = omega (arith, same, c.self.invariant.members.all) in
    all-numbers g.N.Naming.numbers c.self.inside.hub actors c.run_in_scope-left.result.passes.items c.self.inside.hub.passes c.run_in_scope-left.ensures.left.back all

pub close-requires-clause-lock : goal.close-requires-clause-lock
close-requires-clause-lock g c κs within =
    all-passes g.N.Naming.numbers c.self.inside.hub (runs_of g.row.J.Denot c.self.inside.unstarted.items) c.run_in_scope-left.result.passes.items
    (λ p. p.lock ≡ c.self.inside.hub.lock) (λ j p i. i.lock) c.run_in_scope-left.ensures.left.back

pub close-requires-clause-free : goal.close-requires-clause-free
close-requires-clause-free g c κs within =
    all-passes g.N.Naming.numbers c.self.inside.hub (runs_of g.row.J.Denot c.self.inside.unstarted.items) c.run_in_scope-left.result.passes.items
    (λ p. p.holds ≡ false) (λ j p i. i.free) c.run_in_scope-left.ensures.left.back

pub returns-clause-ended : goal.returns-clause-ended
returns-clause-ended g c =
    rw (← c.replace-taken.ensures.value, ← c.of.ensures) (c.close.ensures.ended _ _ _ _ c.run_in_scope-left.ensures.left.ran)

pub returns-clause-actors : goal.returns-clause-actors
returns-clause-actors g c =
    rw (← c.self.view_is)
    (all-actors g.N.Naming.numbers c.self.inside.hub (hub_seen g.N.Naming.numbers c.close.result.history) (runs_of g.row.J.Denot c.self.inside.unstarted.items)
    c.run_in_scope-left.result.passes.items c.run_in_scope-left.ensures.left.back c.close.ensures.actors)
