use Rattle.std.proofs.Common.{◌∙◌, refl, sym, rules}
use Rattle.addon_trait.proofs.SamePlans.{plans-none, plans-then}
use Rattle.runner.proofs.EnvironmentAtTheLock.{opened-has-run, has-run-then, others-then}
use Rattle.runner.proofs.SameStrays.{same-pass-none, same-pass-then, same-strays-none, same-strays-then, ended-strays-then, unstarted-strays-are}
use Rattle.runner.proofs.environment.run_env.Goals as goal

pub loop-init : goal.loop-init
loop-init g c =
    let strays = unstarted-strays-are g.N.Naming.numbers c.args.hub.now c.args.strays.now.items c.requires.strays in (
      tt,
      tt,
      record {
        plans = plans-none _ _;
        same = same-pass-none c.args.pass.now c.requires.free;
        ran = opened-has-run g.N.Naming.numbers _ c.args.pass.now c.args.env.now _ c.requires.opened c.requires.own;
        addons = refl;
        others = refl;
        strays = strays;
        same_strays = same-strays-none g.N.Naming.numbers c.args.hub.now c.args.strays.now.items strays;
      },
    )

pub loop-preserved : goal.loop-preserved
loop-preserved g c =
    let i = c.loop.invariant.2 in
    let t = c.turn.ensures in (
      tt,
      tt,
      record {
        plans = plans-then _ _ _ _ i.plans t.plans;
        same = same-pass-then c.args.pass.now c.loop.pass c.turn.new.pass i.same t.same;
        ran = has-run-then g.N.Naming.numbers _ _ c.args.env.now c.loop.env c.turn.new.env c.loop.pass c.turn.new.pass _ _ _ i.plans.same (sym i.addons) t.ran i.ran;
        addons = t.addons ∙ i.addons;
        others = others-then _ _ _ _ _ i.addons i.others t.others;
        strays = t.strays;
        same_strays = same-strays-then c.args.strays.now.items c.loop.strays.items c.turn.new.strays.items i.same_strays t.same_strays;
      },
    )

pub returns-then-turn-clause-ran : goal.returns-then-turn-clause-ran
returns-then-turn-clause-ran g c =
    let i = c.loop.invariant.2 in
    has-run-then g.N.Naming.numbers _ _ c.args.env.now c.loop.env c.turn.new.env c.loop.pass c.turn.new.pass _ _ _ i.plans.same (sym i.addons) c.turn.ensures.ran i.ran

pub returns-then-turn-clause-strays : goal.returns-then-turn-clause-strays
returns-then-turn-clause-strays g c = search (rules, ended-strays-then)
