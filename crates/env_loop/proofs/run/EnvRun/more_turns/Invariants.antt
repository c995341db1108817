use Rattle.std.proofs.Common.{◌≡◌, ℕ, List, Option, map}
use Rattle.napi_types.specs.declared.duties.DueInfo.{DueInfo}
use Rattle.napi_types.specs.declared.op.Op.{Op}
use Rattle.addon_trait.specs.Addons.{TellSamePlans}
use Rattle.env_loop.specs.Bursts.{NothingPending, IsBurst, TurnsOn}
use Rattle.env_loop.proofs.run.EnvRun.more_turns.Given as goal

-- the turns so far made this many entries, and nothing is pending
abbrev pub invariant-loop-made : goal.invariant-loop-made
invariant-loop-made g l =
    let first_plans : List (Option (List (List Op))) = map (λ b. (goal.Addon-dyn g (b.vtable, b.value)).plan b.value) l.fn.addons.items in
    let first_regs : List (List ℕ) = map (λ b. (goal.Addon-dyn g (b.vtable, b.value)).regs b.value) l.fn.addons.items in
    let first_seen : List (List DueInfo) = map (λ b. (goal.Addon-dyn g (b.vtable, b.value)).seen b.value) l.fn.addons.items in
    let regs : List (List ℕ) = map (λ b. (goal.Addon-dyn g (b.vtable, b.value)).regs b.value) l.addons.items in
    let seen : List (List DueInfo) = map (λ b. (goal.Addon-dyn g (b.vtable, b.value)).seen b.value) l.addons.items in
    record {
      plans : TellSamePlans (λ b. (goal.Addon-dyn g (b.vtable, b.value)).plan b.value) l.fn.addons.items l.addons.items;
      on : TurnsOn g.N.Naming.numbers first_plans l.made (record { run = l.fn.self; hub = l.fn.hub; addons = record { registers = first_regs; seen = first_seen } })
          (record { run = l.self; hub = l.hub; addons = record { registers = regs; seen = seen } });
      burst : IsBurst g.N.Naming.numbers first_plans l.made l.fn.self l.fn.hub (record { registers = first_regs; seen = first_seen }) l.self l.hub (record { registers = regs; seen = seen });
      paid : NothingPending l.self;
    }
