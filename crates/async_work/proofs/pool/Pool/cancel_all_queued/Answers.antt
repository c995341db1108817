use Rattle.std.proofs.Common.{◌≡◌, ◌∙◌, true, Some, None, IfSome, filter, not, length, ◌<◌, ◌==◌, sym, ap, subst}
use Rattle.napi_types.specs.plain.Lists.{has_number, head, tail}
use Rattle.napi_types.specs.parts.Pool.{WorkPool}
use Rattle.async_work.specs.Draining.{IsDraining}
use Rattle.async_work.proofs.Draining.{has-first, none-first, draining-start, draining-more, draining-less, draining-end}
use Rattle.async_work.proofs.KeepingPools.{kept-closed}
use Rattle.async_work.proofs.pool.Pool.cancel_all_queued.Goals as goal
use Rattle.async_work.proofs.pool.Pool.cancel_all_queued.Goals.{After-cancel_queued, After-self-1}

pub loop-number-init : goal.loop-number-init
loop-number-init g c = draining-start _

pub cancel_queued-requires-after_bounds : goal.cancel_queued-requires-after_bounds
cancel_queued-requires-after_bounds g c = λ κs lives. ap (λ (p : WorkPool). has_number c.in-Some.number p.queued) c.first_queued.ensures.same
    ∙ has-first _ c.in-Some.number (sym c.first_queued.ensures.first ∙ c.in-Some.is)

first : (g : _) (c : After-cancel_queued g) → head c.first_queued.new.self.queued ≡ Some c.in-Some.number
first g c = ap (λ (p : WorkPool). head p.queued) c.first_queued.ensures.same ∙ sym c.first_queued.ensures.first ∙ c.in-Some.is

rest : (g : _) (c : After-cancel_queued g) → IfSome (head c.first_queued.new.self.queued) (λ n. filter (λ m. not
    (m == n)) c.first_queued.new.self.queued ≡ tail c.first_queued.new.self.queued)
rest g c = subst (λ (p : WorkPool). IfSome (head p.queued) (λ n. filter (λ m. not (m == n)) p.queued ≡ tail p.queued))
    (sym c.first_queued.ensures.same) c.first_queued.ensures.rest

pub loop-number-preserved : goal.loop-number-preserved
loop-number-preserved g c =
    draining-more _ c.first_queued.new.self c.cancel_queued.new.self c.in-Some.number (first g c) (rest g c) c.cancel_queued.ensures
    (subst (IsDraining _) (sym c.first_queued.ensures.same) c.loop-number.invariant)

pub loop-number-smaller : goal.loop-number-smaller
loop-number-smaller g c =
    let less = draining-less c.args.self.now c.first_queued.new.self c.cancel_queued.new.self c.in-Some.number (first g c) (rest g c) c.cancel_queued.ensures in
    subst (λ (p : WorkPool). length c.cancel_queued.new.self.queued < length p.queued) c.first_queued.ensures.same less

empty : (g : _) (c : After-self-1 g) → head c.first_queued.new.self.queued ≡ None
empty g c = ap (λ (p : WorkPool). head p.queued) c.first_queued.ensures.same ∙ sym c.first_queued.ensures.first ∙ c.in_default.is

pub invariant_of-self : goal.invariant_of-self
invariant_of-self g c =
    kept-closed _ _ _ _ _ _ _ _ _ _ _ _ c.self-2.invariant (none-first _ (ap (λ (p : WorkPool). head p.queued) c.self-2.view_is ∙ empty g c))

pub returns-clause-drained : goal.returns-clause-drained
returns-clause-drained g c =
    ap (λ (p : WorkPool). record p { closing = true }) c.self-2.view_is
    ∙ draining-end _ _ (subst (IsDraining _) (sym c.first_queued.ensures.same) c.loop-number.invariant) (empty g c)
