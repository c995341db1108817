use Rattle.std.proofs.Common.{rules, ◌≡◌, ◌+◌, [], length, vec_len, subst}
use Rattle.std.proofs.lemmas.List.{nil_from_length}
use Rattle.std.specs.Vec.Iter.{into_iter_items}
use Rattle.runner.proofs.FilledPlaces.{FillsBehind, behind-all}
use Rattle.runner.proofs.start.start_all.Goals as goal

pub returns-clause-fills : goal.returns-clause-fills
returns-clause-fills g c =
    let n = g.N.Naming.numbers in
    let all = c.loop-unstarted in
    let len : length (into_iter_items all.unstarted-iterator) ≡ 0 = search rules in
    let none : into_iter_items all.unstarted-iterator ≡ [] = nil_from_length _ len in
    behind-all n c.args.hub.now (1 + vec_len all.children) c.args.crew.items all.children.items all.strays.items
    (subst (λ xs. FillsBehind n c.args.hub.now (1 + vec_len all.children) xs c.args.crew.items all.children.items all.strays.items) none all.invariant.5)
