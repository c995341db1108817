use Rattle.std.proofs.Common.{◌≡◌, ◌∙◌, is_some, option_map, refl, ap}
use Rattle.async_work.specs.WorkPlaces.{place_seen, places_seen, standing_job, place_at, held_job}
use Rattle.async_work.proofs.Ids.{place_at-seen, place-read, none-read, seen-numbered}
use Rattle.async_work.proofs.place.give_number.Goals as goal
use Rattle.async_work.proofs.place.give_number.Goals.{After-replace-standing}

pub unreachable-requires : goal.unreachable-requires
unreachable-requires g c =
    let none = none-read g.J.Job.spec c.args.places.now c.args.id c.get.result c.get.ensures c.in_default.is in
    let no = ap (λ o. is_some (held_job o)) none in
    let has = c.requires in
    cc

-- the job of the place that was there
job_is : (g : _) (c : After-replace-standing g)
    → held_job (place_at (places_seen g.J.Job.spec c.args.places.now) c.args.id) ≡ standing_job g.J.Job.spec c.replace-standing.result.standing
job_is g c = ap held_job (place_at-seen g.J.Job.spec c.args.places.now c.args.id ∙ ap (option_map (place_seen g.J.Job.spec)) c.replace-standing.ensures.given)

pub unreachable-requires-in-Numbered : goal.unreachable-requires-in-Numbered
unreachable-requires-in-Numbered g c =
    let none = job_is g (goal.at.unreachable-requires-in-Numbered g c).After-replace-standing ∙ ap (standing_job g.J.Job.spec) c.in-Numbered.is in
    let no = ap is_some none in
    let has = c.requires in
    cc

pub returns-clause-job : goal.returns-clause-job
returns-clause-job g c = job_is g (goal.at.returns-clause-job g c).After-replace-standing ∙ ap (standing_job g.J.Job.spec) c.in-Created.is

pub returns-clause-numbered : goal.returns-clause-numbered
returns-clause-numbered g c =
    seen-numbered g.J.Job.spec c.args.places.now c.replace-standing.new.self c.args.id c.args.number _ c.in-Some.place.now
    (place-read g.J.Job.spec c.args.places.now c.args.id c.get.result c.in-Some.place c.get.ensures c.in-Some.is) c.replace-standing.ensures.replaced refl
