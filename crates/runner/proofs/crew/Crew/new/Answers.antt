use Rattle.std.proofs.Common.{◌≡◌, ◌∙◌, ◌+◌, length, map, ap, sym, subst, arith}
use Rattle.std.specs.List.{range_with_len}
use Rattle.std.proofs.lemmas.List.FromFn.{length-map-range_with_len}
use Rattle.turn_lock.specs.Passes.{new_pass}
use Rattle.runner.specs.Crews.{HasStartRoom}
use Rattle.runner.proofs.MadeCrews.{all-actors-many, idle-many, unstarted-many, runs-are, members-are}
use Rattle.runner.proofs.crew.Crew.new.Goals as goal

pub passes_for-count-requires-clause-actors : goal.passes_for-count-requires-clause-actors
passes_for-count-requires-clause-actors g c κs within =
    omega (arith, c.len.ensures, c.args.actors.ok.0, all-actors-many g.N.Naming.numbers c.args.actors.items c.requires.order)

pub equipment_for-requires-clause-few : goal.equipment_for-requires-clause-few
equipment_for-requires-clause-few g c κs within =
    let many = all-actors-many g.N.Naming.numbers c.args.actors.items c.requires.order in
    omega (arith, c.args.actors.ok.0, many, c.passes_for-count.ensures, c.passes_for-count.type_inv)

pub with_passes-first-requires-clause-passes : goal.with_passes-first-requires-clause-passes
with_passes-first-requires-clause-passes g c =
    let idle = c.in-Ok.equipment.idle in
    let passes = c.in_ok-hub.passes in
    let many = idle-many g.N.Naming.numbers idle.items c.args.actors.items c.in-Ok.ensures.idle c.requires.order in
    let made : length passes.items ≡ c.passes_for-count.result =
    ap length c.in_ok-hub.ensures.made ∙ length-map-range_with_len (new_pass c.in_ok-hub.hub.lock) 0 c.passes_for-count.result in
    omega (arith, passes.ok.0, made, c.passes_for-count.ensures, idle.ok.0, many)

pub invariant_of-result : goal.invariant_of-result
invariant_of-result g c =
    let n = g.N.Naming.numbers in
    let hub = c.in_ok-hub.hub in
    let idle = c.in-Ok.equipment.idle in
    let first = c.with_passes-first.result.0 in
    let unstarted = c.with_passes-first.result.1 in
    let actors = c.args.actors.items in
    let runs = runs-are unstarted.items idle.items actors c.with_passes-first.ensures.actors c.in-Ok.ensures.idle in
    let waits = unstarted-many unstarted.items idle.items c.with_passes-first.ensures.actors in
    let count = ap (λ m. map (new_pass hub.lock) (range_with_len 0 m)) (sym c.in_ok-hub.ensures.passes) in
    let passes = c.with_passes-first.ensures.passes ∙ c.in_ok-hub.ensures.made ∙ count in
    record {
      members = members-are n hub first unstarted.items actors runs c.requires.order c.requires.fresh passes;
      words = omega (arith, c.in-Ok.ensures.words, idle.ok.0, waits);
      room = subst (λ k. HasStartRoom k c.in-Ok.equipment.places) (idle.ok.0 ∙ sym waits) c.in-Ok.ensures.places;
    }

pub returns : goal.returns
returns g c =
    runs-are c.with_passes-first.result.1.items c.in-Ok.equipment.idle.items c.args.actors.items c.with_passes-first.ensures.actors c.in-Ok.ensures.idle
