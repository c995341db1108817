use Rattle.std.proofs.Common.{◌≡◌, ◌∙◌, ◌+◌, arith, rules, refl, sym, subst}
use Rattle.napi_types.specs.declared.entry.Actor.TheVariants as actor
use Rattle.env_loop.specs.Bursts.{made_by, AddsEntriesOf}
use Rattle.env_loop.specs.declared.run.HubTurn.TheVariants as turn
use Rattle.env_loop.proofs.Bursts.{needed-comes, nothing-done, no-entries, one-entry, entries-then, one-turn, turns-then, stops-at-asks}
use Rattle.env_loop.proofs.run.EnvRun.hub_burst.Goals as goal

pub returns-then-ne-clause-made : goal.returns-then-ne-clause-made
returns-then-ne-clause-made g c =
    let stays : c.hub_turn-first.new.hub ≡ c.args.hub.now = search rules in
    subst (λ s. AddsEntriesOf actor.Env 0 c.args.hub.now s) (sym stays) (no-entries actor.Env c.args.hub.now)

pub returns-then-ne-clause-nothing : goal.returns-then-ne-clause-nothing
returns-then-ne-clause-nothing g c = λ nothing.
    let t = c.hub_turn-first.ensures in
    let idle = t.nothing.0 nothing in
    let stays : c.hub_turn-first.new.hub ≡ c.args.hub.now = t.hub (λ made. let no : turn.Nothing ≡ turn.Made = sym nothing ∙ made in cc) in
    nothing-done c.args.self.now c.hub_turn-first.new.self c.args.hub.now c.hub_turn-first.new.hub (t.stays nothing) stays idle.0 idle.1
    (needed-comes c.args.self.now c.requires.needs)

pub returns-clause-made : goal.returns-clause-made
returns-clause-made g c =
    let made : c.hub_turn-first.result ≡ turn.Made = search rules in
    let k = c.more_turns-more.result.made in
    entries-then actor.Env 1 k (k + 1) c.args.hub.now c.hub_turn-first.new.hub c.more_turns-more.new.hub (omega arith)
    (one-entry actor.Env c.args.hub.now c.hub_turn-first.new.hub (c.hub_turn-first.ensures.made made)) c.more_turns-more.ensures.burst.grew

pub returns-clause-asks : goal.returns-clause-asks
returns-clause-asks g c =
    let n = g.N.Naming.numbers in
    let t = c.hub_turn-first.ensures in
    let made : c.hub_turn-first.result ≡ turn.Made = search rules in
    stops-at-asks n _ _ c.hub_turn-first.result c.more_turns-more.result.made _ _ _ t.plans.same made c.more_turns-more.ensures.on
    (one-turn n c.hub_turn-first.result _ c.args.self.now c.args.hub.now _ c.hub_turn-first.new.self c.hub_turn-first.new.hub _ t.made t.hub t.journal t.addons t.limit t.fits
    t.others t.goes)

pub returns-clause-goes : goal.returns-clause-goes
returns-clause-goes g c =
    let n = g.N.Naming.numbers in
    let t = c.hub_turn-first.ensures in
    let first = made_by c.hub_turn-first.result in
    let more = c.more_turns-more.result.made in
    (turns-then n _ _ first more (first + more) c.args.self.now c.hub_turn-first.new.self c.more_turns-more.new.self c.args.hub.now c.hub_turn-first.new.hub
    c.more_turns-more.new.hub _ _ _ t.plans.same refl
    (one-turn n c.hub_turn-first.result _ c.args.self.now c.args.hub.now _ c.hub_turn-first.new.self c.hub_turn-first.new.hub _ t.made t.hub t.journal t.addons t.limit t.fits
    t.others t.goes)
    c.more_turns-more.ensures.burst).goes
