use Rattle.std.proofs.Common.{◌∙◌, ◌<◌, length, sym, ap, refl, arith}
use Rattle.std.specs.Option.{option_map_or}
use Rattle.async_work.specs.Queue.{QueueSeen, Done, stage_seen, queue_stage_at}
use Rattle.async_work.proofs.KeptQueue.{stage-before, stage-beyond, stage-at}
use Rattle.async_work.proofs.queue.WorkQueue.stage.Goals as goal

pub returns-in_err-place : goal.returns-in_err-place
returns-in_err-place g c =
    ap (λ o. option_map_or (λ s. stage_seen g.J.Job.spec s.now) o Done) c.from_residual.ensures
    ∙ sym (sym (ap (λ (l : QueueSeen). queue_stage_at l.works c.args.number) c.self.view_is)
    ∙ stage-before g.J.Job.spec c.self.inside.dropped c.self.inside.works.items c.args.number c.in_err-place.ensures)

pub returns-in_err-get : goal.returns-in_err-get
returns-in_err-get g c =
    let past = c.in_err-get.ensures.variant.1 in
    let nowhere : c.in_ok-place.place < length c.self.inside.works.items → ⊥ = λ within.
    let some = past (omega (arith, within, c.self.inside.works.ok.0)) in cc in
    ap (λ o. option_map_or (λ s. stage_seen g.J.Job.spec s.now) o Done) c.from_residual-in_err-get.ensures
    ∙ sym (sym (ap (λ (l : QueueSeen). queue_stage_at l.works c.args.number) c.self.view_is)
    ∙ stage-beyond g.J.Job.spec c.self.inside.dropped c.self.inside.works.items c.args.number c.in_ok-place.place c.in_ok-place.ensures.0
    c.in_ok-place.ensures.1 nowhere)

pub returns : goal.returns
returns g c =
    let within = c.in_ok-get.ensures.variant.0 refl in
    sym (sym (ap (λ (l : QueueSeen). queue_stage_at l.works c.args.number) c.self.view_is)
    ∙ stage-at g.J.Job.spec c.self.inside.dropped c.self.inside.works.items c.args.number c.in_ok-place.place c.in_ok-get.field-0.now c.in_ok-place.ensures.0
    c.in_ok-place.ensures.1 (omega (arith, within, c.self.inside.works.ok.0)) c.in_ok-get.ensures.lookup)
