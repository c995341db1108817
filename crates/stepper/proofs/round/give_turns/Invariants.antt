use Rattle.std.proofs.Common.{◌≡◌, ℕ, List, Option, map, take}
use Rattle.napi_types.specs.declared.duties.DueInfo.{DueInfo}
use Rattle.napi_types.specs.declared.op.Op.{Op}
use Rattle.addon_trait.specs.Addons.{TellSamePlans}
use Rattle.stepper.specs.GivenTurns.{run_at, moment_of}
use Rattle.stepper.specs.Stepping.{Steps}
use Rattle.stepper.proofs.round.give_turns.Given as goal

-- the turns up to here led from the start to here
abbrev pub invariant-loop-who : goal.invariant-loop-who
invariant-loop-who g l =
    let first_plans : List (Option (List (List Op))) = map (λ b. (goal.Addon-dyn g (b.vtable, b.value)).plan b.value) l.fn.addons.items in
    let first_regs : List (List ℕ) = map (λ b. (goal.Addon-dyn g (b.vtable, b.value)).regs b.value) l.fn.addons.items in
    let first_seen : List (List DueInfo) = map (λ b. (goal.Addon-dyn g (b.vtable, b.value)).seen b.value) l.fn.addons.items in
    let regs : List (List ℕ) = map (λ b. (goal.Addon-dyn g (b.vtable, b.value)).regs b.value) l.addons.items in
    let seen : List (List DueInfo) = map (λ b. (goal.Addon-dyn g (b.vtable, b.value)).seen b.value) l.addons.items in
    record {
      plans : TellSamePlans (λ b. (goal.Addon-dyn g (b.vtable, b.value)).plan b.value) l.fn.addons.items l.addons.items;
      went : Steps g.N.Naming.numbers first_plans (take l.who-index l.turns) (moment_of (run_at l.fn.env l.fn.hub first_regs first_seen) l.fn.actors.items)
          (moment_of (run_at l.env l.hub regs seen) l.actors.items);
    }
