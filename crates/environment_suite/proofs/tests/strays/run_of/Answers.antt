use Rattle.std.proofs.Common.{rules, ◌≡◌, false, map, subst, sym}
use Rattle.std.specs.List.{All, range_with_len}
use Rattle.environment_suite.proofs.EndedStrays.{hold-none, numbers-back, free-back, locked-back}
use Rattle.environment_suite.proofs.tests.strays.run_of.Goals as goal

pub passes_behind-requires : goal.passes_behind-requires
passes_behind-requires g c = hold-none g.N.Naming.numbers c.strays_of-strays.result.items c.run_env.new.strays.items c.run_env.ensures.strays

pub close-requires-clause-every : goal.close-requires-clause-every
close-requires-clause-every g c κs within =
    let zero : c.take_pass-first.result.number ≡ 0 = search rules in
    let four : c.ample-hub.result.0.passes ≡ 4 = search rules in
    rw c.passes_behind.ensures (rw four (numbers-back g.N.Naming.numbers c.ample-hub.result.0 c.take_pass-first.result c.run_env.new.pass c.strays_of-strays.result.items c.run_env.new.strays.items
    c.run_env.ensures.same c.run_env.ensures.strays zero c.strays_of-strays.ensures.numbers))

pub close-requires-clause-lock : goal.close-requires-clause-lock
close-requires-clause-lock g c κs within =
    let of-hub : c.take_pass-first.result.lock ≡ c.ample-hub.result.0.lock = search rules in
    subst (All (λ p. p.lock ≡ c.ample-hub.result.0.lock)) (sym c.passes_behind.ensures) (locked-back g.N.Naming.numbers c.ample-hub.result.0 c.take_pass-first.result c.run_env.new.pass
    c.strays_of-strays.result.items c.run_env.new.strays.items c.run_env.ensures.same c.run_env.ensures.strays of-hub c.strays_of-strays.ensures.fresh)

pub close-requires-clause-free : goal.close-requires-clause-free
close-requires-clause-free g c κs within =
    subst (All (λ p. p.holds ≡ false)) (sym c.passes_behind.ensures) (free-back g.N.Naming.numbers c.ample-hub.result.0 c.take_pass-first.result c.run_env.new.pass
    c.strays_of-strays.result.items c.run_env.new.strays.items c.run_env.ensures.same c.run_env.ensures.strays)
