use Rattle.std.proofs.Common.{◌≡◌, ◌∷◌, ℕ, true, List, Option, length, map, take}
use Rattle.std.specs.List.{All}
use Rattle.napi_types.specs.declared.duties.DueInfo.{DueInfo}
use Rattle.napi_types.specs.declared.entry.Actor.TheVariants as actor
use Rattle.napi_types.specs.declared.op.Op.{Op}
use Rattle.addon_trait.specs.Addons.{TellSamePlans}
use Rattle.stepper.specs.TakingPart.{actors_of}
use Rattle.stepper.specs.GivenTurns.{run_at, moment_of}
use Rattle.stepper.specs.Stepping.{RestsAt, Steps}
use Rattle.stepper.proofs.RoundSteps.{Progress}
use Rattle.stepper.proofs.round.round.Given as goal

-- the turns of the round up to here led from its start to here. All came nearer to the end, or else the environment had nothing to do, and each whose turn was has
-- ended or waits
abbrev pub invariant-loop-place : goal.invariant-loop-place
invariant-loop-place g l =
    let first_plans : List (Option (List (List Op))) = map (λ b. (goal.Addon-dyn g (b.vtable, b.value)).plan b.value) l.fn.addons.items in
    let first_regs : List (List ℕ) = map (λ b. (goal.Addon-dyn g (b.vtable, b.value)).regs b.value) l.fn.addons.items in
    let first_seen : List (List DueInfo) = map (λ b. (goal.Addon-dyn g (b.vtable, b.value)).seen b.value) l.fn.addons.items in
    let regs : List (List ℕ) = map (λ b. (goal.Addon-dyn g (b.vtable, b.value)).regs b.value) l.addons.items in
    let seen : List (List DueInfo) = map (λ b. (goal.Addon-dyn g (b.vtable, b.value)).seen b.value) l.addons.items in
    record {
      plans : TellSamePlans (λ b. (goal.Addon-dyn g (b.vtable, b.value)).plan b.value) l.fn.addons.items l.addons.items;
      many : length l.actors.items ≡ length l.fn.actors.items;
      went : Steps g.N.Naming.numbers first_plans (actor.Env ∷ take l.place (actors_of g.N.Naming.numbers))
          (moment_of (run_at l.fn.env l.fn.hub first_regs first_seen) l.fn.actors.items) (moment_of (run_at l.env l.hub regs seen) l.actors.items);
      rest : l.resting ≡ true → All (RestsAt g.N.Naming.numbers l.hub) (take l.place l.actors.items);
      progress : Progress g.N.Naming.numbers (run_at l.fn.env l.fn.hub first_regs first_seen) (run_at l.env l.hub regs seen) (take l.place l.actors.items);
    }
