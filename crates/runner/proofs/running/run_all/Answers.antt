use Rattle.std.proofs.Common.{rules, ◌≡◌, ◌∙◌, [], ◌∷◌, ◌++◌, ap}
use Rattle.runner.specs.Crews.{runs_of}
use Rattle.runner.specs.StartRoom.{IsNumberedPass}
use Rattle.runner.proofs.AllHandedBack.{all-back, of-first, ran-from}
use Rattle.runner.proofs.FilledPlaces.{unstarted-strays, ended-places}
use Rattle.runner.proofs.running.run_all.Goals as goal

pub run_env-requires-clause-strays : goal.run_env-requires-clause-strays
run_env-requires-clause-strays g c κs within =
    unstarted-strays g.N.Naming.numbers c.args.hub.now 1
    (runs_of g.row.J.Denot c.args.crew.items) c.start_all.new.children.items c.start_all.new.strays.items c.start_all.ensures.fills

pub join_all-requires-clause-fills : goal.join_all-requires-clause-fills
join_all-requires-clause-fills g c κs within = (
  runs_of g.row.J.Denot c.args.crew.items,
  ended-places g.N.Naming.numbers c.args.hub.now 1 (runs_of g.row.J.Denot c.args.crew.items) c.start_all.new.children.items c.start_all.new.strays.items c.run_env.new.strays.items
      c.start_all.ensures.fills c.run_env.ensures.strays,
)

pub returns-clause-left : goal.returns-clause-left
returns-clause-left g c =
    let n = g.N.Naming.numbers in
    let h = c.args.hub.now in
    let actors = runs_of g.row.J.Denot c.args.crew.items in
    let first = c.run_env.new.pass in
    let empty : c.into_lists-children.result.2.items ≡ [] = search rules in
    let old : c.push_reserved.new.self.items ≡ first ∷ [] = c.push_reserved.ensures.items ∙ ap (λ ps. ps ++ first ∷ []) empty in
    let behind = c.join_all.ensures actors
    (ended-places n h 1 actors c.start_all.new.children.items c.start_all.new.strays.items c.run_env.new.strays.items c.start_all.ensures.fills c.run_env.ensures.strays) in
    let is : IsNumberedPass h 0 first = record {
      lock = c.run_env.ensures.same.lock ∙ c.requires.crew.numbered.lock;
      number = c.run_env.ensures.same.number ∙ c.requires.crew.numbered.number;
      free = c.run_env.ensures.same.free;
    } in record {
      gone = c.run_env.ensures.gone;
      back = all-back n h actors first c.push_reserved.new.self.items c.join_all.new.passes.items is old behind;
      ran = of-first _ n h actors first c.push_reserved.new.self.items c.join_all.new.passes.items old behind
          (ran-from _ _ _ _ _ _ _ _ c.into_run-env.ensures.run c.run_env.ensures.ran);
    }
