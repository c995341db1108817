use Rattle.std.proofs.Common.{◌≡◌, ◌++◌, ℕ, true, List, Option, map}
use Rattle.std.specs.List.{All}
use Rattle.napi_types.specs.declared.duties.DueInfo.{DueInfo}
use Rattle.napi_types.specs.declared.op.Op.{Op}
use Rattle.addon_trait.specs.Addons.{TellSamePlans}
use Rattle.stepper.specs.TakingPart.{turns_of, rounds_of}
use Rattle.stepper.specs.GivenTurns.{run_at, moment_of}
use Rattle.stepper.specs.Stepping.{RestsAt, Steps, measure}
use Rattle.stepper.proofs.stepping.step_all.Given as goal

-- the turns of the schedule, and then those of so many rounds, led from the start to here
abbrev pub invariant-rounds : goal.invariant-rounds
invariant-rounds g l =
    let first_plans : List (Option (List (List Op))) = map (λ b. (goal.Addon-dyn g (b.vtable, b.value)).plan b.value) l.fn.addons.items in
    let first_regs : List (List ℕ) = map (λ b. (goal.Addon-dyn g (b.vtable, b.value)).regs b.value) l.fn.addons.items in
    let first_seen : List (List DueInfo) = map (λ b. (goal.Addon-dyn g (b.vtable, b.value)).seen b.value) l.fn.addons.items in
    let regs : List (List ℕ) = map (λ b. (goal.Addon-dyn g (b.vtable, b.value)).regs b.value) l.addons.items in
    let seen : List (List DueInfo) = map (λ b. (goal.Addon-dyn g (b.vtable, b.value)).seen b.value) l.addons.items in
    record {
      plans : TellSamePlans (λ b. (goal.Addon-dyn g (b.vtable, b.value)).plan b.value) l.fn.addons.items l.addons.items;
      went : (rounds : ℕ) × Steps g.N.Naming.numbers first_plans (turns_of l.schedule ++ rounds_of g.N.Naming.numbers rounds)
          (moment_of (run_at l.fn.env l.fn.hub first_regs first_seen) l.fn.actors.items) (moment_of (run_at l.env l.hub regs seen) l.actors.items);
      rest : l.resting ≡ true → All (RestsAt g.N.Naming.numbers l.hub) l.actors.items;
    }

-- each round comes nearer to the end
abbrev pub decreases-rounds : goal.decreases-rounds
decreases-rounds g l = measure g.N.Naming.numbers l.env l.hub
