use Rattle.std.proofs.Common.{◌≡◌, ◌∙◌, ◌+◌, ◌<◌, ◌^◌, length, Some, None, refl, ap, sym, subst, arith}
use Rattle.std.proofs.lemmas.List.{length-map}
use Rattle.generation_slab.specs.HeldPlaces.{with_held}
use Rattle.napi_types.specs.parts.Pool.{WorkPool, with_work}
use Rattle.async_work.specs.Queue.{outcome_seen}
use Rattle.async_work.specs.WorkPlaces.{places_seen}
use Rattle.async_work.proofs.Ids.{places-rise, seen-made}
use Rattle.async_work.proofs.KeepingPools.{kept-more, kept-created}
use Rattle.async_work.proofs.Viewing.{view-created}
use Rattle.async_work.proofs.pool.Pool.create.Goals as goal
use Rattle.async_work.proofs.pool.Pool.create.Goals.{In_ok-id}

pub invariant_of-self-in_err-id : goal.invariant_of-self-in_err-id
invariant_of-self-in_err-id g c =
    rw (c.reserve.ensures.works, c.reserve_amply.ensures.items, c.in_err-id.ensures.err)
    (kept-more _ _ _ _ _ _ _ _ _ _ _ c.self.invariant _ _ c.reserve.ensures.kept c.reserve_amply.ensures.capacity)

-- one work more
more : (g : _) (c : In_ok-id g) → places_seen g.J.Job.spec c.make.new.self ≡ with_held c.in_ok-id.id
    (record {
      spec = c.args.spec;
      addon = c.args.addon;
      entry = c.args.entry;
      payload = c.args.payload;
      number = None;
      job = Some (g.J.Job.spec c.of.result);
    }) (places_seen g.J.Job.spec c.self.inside.places)
more g c = seen-made g.J.Job.spec c.self.inside.places c.make.new.self c.in_ok-id.id _ c.in_ok-id.ensures.held

few : (g : _) (c : In_ok-id g) → length c.self.inside.places.issued + 2 < 2 ^ 48
few g c = subst (λ (p : WorkPool). length p.issued + 2 < 2 ^ 48) (sym c.self.view_is) c.requires

pub invariant_of-self-2 : goal.invariant_of-self-2
invariant_of-self-2 g c =
    let out_long = length-map c.self.inside.finished.items (outcome_seen g.J.Job.spec) in
    rw (c.reserve.ensures.works, c.reserve_amply.ensures.items, c.in_ok-id.ensures.issued)
    (kept-created _ _ _ _ _ _ _ _ _ _ _ c.self.invariant _ c.in_ok-id.id _ _ _ _ (places-rise g.J.Job.spec c.self.inside.places) (few g (goal.at.invariant_of-self-2 g c).In_ok-id)
    c.in_ok-id.ensures.fresh
    (more g (goal.at.invariant_of-self-2 g c).In_ok-id) refl (ap (λ s. Some s) c.of.ensures) refl
    c.in_ok-reserve.ensures.room
    (omega (arith, out_long, c.self.inside.finished.ok.0, c.in_ok-reserve_amply.ensures.ok, c.reserve_amply.ensures.len)))

pub returns-clause-made : goal.returns-clause-made
returns-clause-made g c =
    rw (c.reserve.ensures.works, c.reserve_amply.ensures.items)
    (view-created _ _ _ _ _ _ _ c.in_ok-id.id _ (more g (goal.at.returns-clause-made g c).In_ok-id) c.in_ok-id.ensures.issued refl)
    ∙ ap (with_work c.in_ok-id.id c.args.spec c.args.addon c.args.entry c.args.payload) c.self.view_is
