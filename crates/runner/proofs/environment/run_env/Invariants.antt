use Rattle.std.proofs.Common.{◌≡◌, ℕ, List, Option, map, drop}
use Rattle.std.specs.List.{All, AllZip}
use Rattle.napi_types.specs.declared.duties.DueInfo.{DueInfo}
use Rattle.napi_types.specs.declared.op.Op.{Op}
use Rattle.addon_trait.specs.Addons.{TellSamePlans}
use Rattle.hub_lock.specs.SeenTurns.{SamePass}
use Rattle.runner.specs.Environments.{HasFollowedOnAtPass}
use Rattle.runner.specs.ActorsAtTheLock.{IsStray, IsSameStray}
use Rattle.runner.proofs.environment.run_env.Given as goal

-- the run was followed from the start to here, beside the pass, and the strays stand beside theirs
abbrev pub invariant-loop : goal.invariant-loop
invariant-loop g l =
    let first_plans : List (Option (List (List Op))) = map (λ b. (goal.Addon-dyn g (b.vtable, b.value)).plan b.value) l.fn.addons.items in
    let first_regs : List (List ℕ) = map (λ b. (goal.Addon-dyn g (b.vtable, b.value)).regs b.value) l.fn.addons.items in
    let first_seen : List (List DueInfo) = map (λ b. (goal.Addon-dyn g (b.vtable, b.value)).seen b.value) l.fn.addons.items in
    let regs : List (List ℕ) = map (λ b. (goal.Addon-dyn g (b.vtable, b.value)).regs b.value) l.addons.items in
    let seen : List (List DueInfo) = map (λ b. (goal.Addon-dyn g (b.vtable, b.value)).seen b.value) l.addons.items in
    (goal.iterator-loop g).can_next l.iterator'
    × (goal.iterator-loop g).is_finite l.iterator'
    × record {
      plans : TellSamePlans (λ b. (goal.Addon-dyn g (b.vtable, b.value)).plan b.value) l.fn.addons.items l.addons.items;
      same : SamePass l.fn.pass l.pass;
      ran : HasFollowedOnAtPass g.N.Naming.numbers first_plans l.fn.env (record { registers = first_regs; seen = first_seen }) l.pass l.env
          (record { registers = regs; seen = seen });
      addons : l.env.core.env.addons ≡ l.fn.env.core.env.addons;
      others : drop l.fn.env.core.env.addons regs ≡ drop l.fn.env.core.env.addons first_regs;
      strays : All (IsStray g.N.Naming.numbers l.hub) l.strays.items;
      same_strays : AllZip IsSameStray l.fn.strays.items l.strays.items;
    }
