use Rattle.std.proofs.Common.{◌∙◌, sym, ap, option_map}
use Rattle.async_work.specs.WorkPlaces.{place_seen}
use Rattle.async_work.proofs.Ids.{seen_of, place_at-seen}
use Rattle.async_work.proofs.place.place_of.Goals as goal

pub returns : goal.returns
returns g c =
    seen_of (place_seen g.J.Job.spec) c.get.result ∙ ap (option_map (place_seen g.J.Job.spec)) c.get.ensures
    ∙ sym (place_at-seen g.J.Job.spec c.args.places.now c.args.id)
