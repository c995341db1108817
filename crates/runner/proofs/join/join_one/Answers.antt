use Rattle.std.proofs.Common.{rules, ◌≡◌, ◌∙◌, ◌∷◌, length, vec_len, slice_index_or, sym, ap, subst, arith}
use Rattle.env_loop.specs.ActorTurns.{HoldsNoWork}
use Rattle.runner.specs.StartRoom.{Fills, IsEndedAt}
use Rattle.runner.proofs.JoinedActors.{given-runs, next-stray, stray-holds-none}
use Rattle.runner.proofs.join.join_one.Goals as goal

pub ended_pass-requires-after_bounds : goal.ended_pass-requires-after_bounds
ended_pass-requires-after_bounds g c κs within =
    let n = g.N.Naming.numbers in
    let h = c.args.hub.now in
    let given = given-runs n h c.requires.0 c.requires.1 c.in-Runs.child c.requires.2 c.args.strays.now.items
    (subst (λ d. Fills (IsEndedAt n h) n h c.requires.0 c.requires.1 (d ∷ c.requires.2) c.args.strays.now.items) c.in-Runs.is c.requires.3) in
    (c.requires.0, given.0, c.in-Runs.child.promise.given.value, given.1, c.join.ensures)

pub remove-requires : goal.remove-requires
remove-requires g c =
    let n = g.N.Naming.numbers in
    let h = c.args.hub.now in
    let next = next-stray n h c.requires.0 c.requires.1 c.requires.2 c.args.strays.now.items
    (subst (λ d. Fills (IsEndedAt n h) n h c.requires.0 c.requires.1 (d ∷ c.requires.2) c.args.strays.now.items) c.in-Stray.is c.requires.3) in
    let len : length c.args.strays.now.items ≡ vec_len c.args.strays.now = search rules in
    let some : length c.args.strays.now.items ≡ length (next.stray ∷ next.rest) = ap length next.strays in
    omega (arith, len, some)

pub stray_pass-requires-after_bounds : goal.stray_pass-requires-after_bounds
stray_pass-requires-after_bounds g c κs within =
    let n = g.N.Naming.numbers in
    let h = c.args.hub.now in
    let next = next-stray n h c.requires.0 c.requires.1 c.requires.2 c.args.strays.now.items
    (subst (λ d. Fills (IsEndedAt n h) n h c.requires.0 c.requires.1 (d ∷ c.requires.2) c.args.strays.now.items) c.in-Stray.is c.requires.3) in
    let is : c.remove.result ≡ next.stray = c.remove.ensures.value ∙ ap (λ xs. slice_index_or xs 0 c.remove.result) next.strays in
    subst (λ s. HoldsNoWork s.actor) (sym is) (stray-holds-none n h c.requires.0 next.actor next.stray next.ended)

pub returns-in-Runs : goal.returns-in-Runs
returns-in-Runs g c = λ k a actors later f.
    let n = g.N.Naming.numbers in
    let h = c.args.hub.now in
    let runs = subst (λ d. Fills (IsEndedAt n h) n h k (a ∷ actors) (d ∷ later) c.args.strays.now.items) c.in-Runs.is f in
    (c.ended_pass.ensures k a c.in-Runs.child.promise.given.value runs.0 c.join.ensures, runs.1)
