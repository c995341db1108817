use Rattle.std.proofs.Common.{arith, ℕ, [], ◌∷◌, length, length-append, map, ap, ◌∙◌, ◌≡◌, sym, refl}
use Rattle.std.proofs.lemmas.List.{length-map, map-append}
use Rattle.napi_types.specs.declared.lists.AddonPlan.{AddonPlan}
use Rattle.script_run.proofs.Loading.{loaded-start, loaded-below, loaded-turn, loaded-end}
use Rattle.script_run.proofs.running.load_all.Goals as goal

pub loop-addon-init : goal.loop-addon-init
loop-addon-init g c =
    let all : c.into_iter-addon-iterator.result.iter.rest.items ≡ c.args.given = cc in
    let none : c.into_iter-addon-iterator.result.count ≡ 0 = cc in
    let left : c.into_iter-addon-iterator.result.iter.rest.len ≡ length c.into_iter-addon-iterator.result.iter.rest.items = cc in
    record {
      place = none;
      left = left;
      count = refl;
      seen = refl;
      loaded =
          loaded-start c.args.given c.into_iter-addon-iterator.result.iter.rest.items _ _ all
          (rw (length-map c.args.addons.now.items _) c.requires.enough) (rw (length-map c.args.addons.now.items _) c.requires.enough);
    }

pub load_at-requires : goal.load_at-requires
load_at-requires g c =
    let h = c.in-Some.ensures.steps in
    let l = c.loop-addon.invariant in
    let below = loaded-below c.args.given _ c.loop-addon.addon-iterator.iter.rest.items _ c.in-Some.plan l.loaded.parted h.0.0 in
    omega (arith, below, l.place, h.1, l.count, c.requires.enough)

pub loop-addon-preserved : goal.loop-addon-preserved
loop-addon-preserved g c =
    let h = c.in-Some.ensures.steps in
    let l = c.loop-addon.invariant in
    let now = c.load_at.ensures in
    let more = map-append (λ (y : ℕ × AddonPlan). y.1) c.loop-addon.yielded ((c.in-Some.addon, c.in-Some.plan) ∷ []) in
    let longer = ap length more ∙ length-append (map (λ (y : ℕ × AddonPlan). y.1) c.loop-addon.yielded) (c.in-Some.plan ∷ []) in
    record {
      place = omega (arith, longer, l.place, h.2);
      left = omega (arith, l.left, h.0.1, ap length h.0.0);
      count = now.count ∙ l.count;
      seen = now.seen ∙ l.seen;
      loaded =
          loaded-turn c.args.given _ c.loop-addon.addon-iterator.iter.rest.items _ c.next.new.self.iter.rest.items _ _ _ _ _ _ c.in-Some.plan c.in-Some.addon
          l.loaded h.0.0 (h.1 ∙ l.place) more now.plans now.regs;
    }

pub returns-clause-plans : goal.returns-clause-plans
returns-clause-plans g c = let l = c.loop-addon.invariant in (loaded-end _ _ _ _ _ _ _ l.loaded (sym l.left ∙ c.in-None.ensures.steps.0.0)).told

pub returns-clause-blank : goal.returns-clause-blank
returns-clause-blank g c = let l = c.loop-addon.invariant in (loaded-end _ _ _ _ _ _ _ l.loaded (sym l.left ∙ c.in-None.ensures.steps.0.0)).blank

pub returns-clause-others : goal.returns-clause-others
returns-clause-others g c = c.loop-addon.invariant.loaded.others
