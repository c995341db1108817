use Rattle.std.proofs.Common.{◌≡◌, ◌≢◌, ◌∙◌, ◌+◌, true, arith, rules, refl, ap}
use Rattle.addon_trait.proofs.SamePlans.{plans-none, plans-then}
use Rattle.env_loop.specs.Bursts.{made_by, hub_is_next}
use Rattle.env_loop.specs.declared.run.HubTurn.{HubTurn}
use Rattle.env_loop.specs.declared.run.HubTurn.TheVariants as turn
use Rattle.env_loop.proofs.Bursts.{no-turn, turns-then, none-more, on-more, on-idle}
use Rattle.env_loop.proofs.run.EnvRun.more_turns.Goals as goal

pub loop-made-init : goal.loop-made-init
loop-made-init g c = record {
  plans = plans-none _ _;
  on = no-turn g.N.Naming.numbers _ c.args.self.now c.args.self.now c.args.hub.now _ refl refl c.requires.fits (λ s firsts of f. f);
  burst = no-turn g.N.Naming.numbers _ c.args.self.now c.args.self.now c.args.hub.now _ refl refl c.requires.fits (λ s firsts of f. f);
  paid = c.requires.paid;
}

pub silent_turn-last-requires-clause-enough : goal.silent_turn-last-requires-clause-enough
silent_turn-last-requires-clause-enough g c κs within =
    let same = c.loop-made.invariant.burst.kept.addons in
    let count = c.loop-made.invariant.plans.count in
    omega (arith, same, count, c.requires.enough)

pub returns-then-ne-clause-burst : goal.returns-then-ne-clause-burst
returns-then-ne-clause-burst g c =
    let i = c.loop-made.invariant in
    let last : c.silent_turn-last.result ≢ turn.Made = search rules in
    turns-then g.N.Naming.numbers _ _ c.loop-made.made (made_by c.silent_turn-last.result) c.loop-made.made c.args.self.now c.loop-made.self c.silent_turn-last.new.self
    c.args.hub.now c.loop-made.hub c.silent_turn-last.new.hub _ _ _ i.plans.same (none-more c.silent_turn-last.result c.loop-made.made last) i.burst
    c.silent_turn-last.ensures.burst

pub returns-then-ne-clause-on : goal.returns-then-ne-clause-on
returns-then-ne-clause-on g c =
    let i = c.loop-made.invariant in
    let last : c.silent_turn-last.result ≢ turn.Made = search rules in
    on-idle g.N.Naming.numbers _ _ c.silent_turn-last.result c.loop-made.made _ _ _ i.plans.same last i.on c.silent_turn-last.ensures.burst

pub loop-made-preserved : goal.loop-made-preserved
loop-made-preserved g c =
    let i = c.loop-made.invariant in
    let t = c.silent_turn-last.ensures in
    let made : c.silent_turn-last.result ≡ turn.Made = search rules in
    let comes : hub_is_next c.loop-made.self ≡ true = search rules in
    record {
      plans = plans-then _ _ _ _ i.plans t.plans;
      on = on-more g.N.Naming.numbers _ _ c.silent_turn-last.result c.loop-made.made (c.loop-made.made + 1) _ _ _ i.plans.same refl made i.on comes t.burst;
      burst = turns-then g.N.Naming.numbers _ _ c.loop-made.made (made_by c.silent_turn-last.result) (c.loop-made.made + 1) c.args.self.now c.loop-made.self
          c.silent_turn-last.new.self c.args.hub.now c.loop-made.hub c.silent_turn-last.new.hub _ _ _ i.plans.same
          (ap (λ (r : HubTurn). c.loop-made.made + made_by r) made) i.burst t.burst;
      paid = t.paid made;
    }
