use Rattle.std.proofs.Common.{◌≡◌, ℕ, List, Option, length, map}
use Rattle.napi_types.specs.declared.duties.DueInfo.{DueInfo}
use Rattle.napi_types.specs.declared.op.Op.{Op}
use Rattle.napi_types.specs.declared.lists.AddonPlan.{AddonPlan}
use Rattle.script_run.proofs.Loading.{Loaded}
use Rattle.script_run.proofs.running.load_all.Given as goal

-- the addons whose plans were taken from the list are loaded
abbrev pub invariant-loop-addon : goal.invariant-loop-addon
invariant-loop-addon g l =
    let first_plans : List (Option (List (List Op))) = map (λ b. (goal.Addon-dyn g (b.vtable, b.value)).plan b.value) l.fn.addons.items in
    let first_regs : List (List ℕ) = map (λ b. (goal.Addon-dyn g (b.vtable, b.value)).regs b.value) l.fn.addons.items in
    let plans : List (Option (List (List Op))) = map (λ b. (goal.Addon-dyn g (b.vtable, b.value)).plan b.value) l.addons.items in
    let regs : List (List ℕ) = map (λ b. (goal.Addon-dyn g (b.vtable, b.value)).regs b.value) l.addons.items in
    let first_seen : List (List DueInfo) = map (λ b. (goal.Addon-dyn g (b.vtable, b.value)).seen b.value) l.fn.addons.items in
    let seen : List (List DueInfo) = map (λ b. (goal.Addon-dyn g (b.vtable, b.value)).seen b.value) l.addons.items in
    let done : List AddonPlan = map (λ y. y.1) l.yielded in
    record {
      place : l.addon-iterator.count ≡ length done;
      left : l.addon-iterator.iter.rest.len ≡ length l.addon-iterator.iter.rest.items;
      count : length l.addons.items ≡ length l.fn.addons.items;
      seen : seen ≡ first_seen;
      loaded : Loaded l.fn.given done l.addon-iterator.iter.rest.items first_plans plans first_regs regs;
    }
