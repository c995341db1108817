use Rattle.std.proofs.Common.{◌≡◌, ◌∙◌, ◌==◌, not, filter, IfSome, sym, ap, subst, arith}
use Rattle.napi_types.specs.plain.Lists.{head, tail}
use Rattle.napi_types.specs.parts.Pool.{WorkPool}
use Rattle.async_work.proofs.KeepingPools.{kept-passed, none-waits, next-waits, rest-waits}
use Rattle.async_work.proofs.Queueing.{rising-waiting}
use Rattle.async_work.proofs.pool.Pool.first_queued.Goals as goal

pub invariant_of-self : goal.invariant_of-self
invariant_of-self g c =
    kept-passed _ _ _ _ _ _ _ _ _ _ _ c.self.invariant _ c.next_queued-self-inside.ensures.within.1 c.next_queued-self-inside.ensures.passed

pub returns-then-self-end-clause-first : goal.returns-then-self-end-clause-first
returns-then-self-end-clause-first g c =
    sym (ap head (none-waits _ _ _ c.self.invariant.numbered_work c.next_queued-self-inside.ensures.within.1 c.next_queued-self-inside.ensures.passed
    (omega (arith, c.len-end.ensures, c.if-self-end.true)))) ∙ ap (λ (p : WorkPool). head p.queued) c.self.view_is

pub returns-then-self-end-clause-rest : goal.returns-then-self-end-clause-rest
returns-then-self-end-clause-rest g c =
    subst (λ (p : WorkPool). IfSome (head p.queued) (λ n. filter (λ m. not (m == n)) p.queued ≡ tail p.queued)) c.self.view_is
    (rest-waits _ (rising-waiting c.self.inside.line.works))

pub invariant_of-self-2 : goal.invariant_of-self-2
invariant_of-self-2 g c =
    kept-passed _ _ _ _ _ _ _ _ _ _ _ c.self.invariant _ c.next_queued-self-inside.ensures.within.1 c.next_queued-self-inside.ensures.passed

pub returns-clause-first : goal.returns-clause-first
returns-clause-first g c =
    let here = c.next_queued-self-inside.ensures.queued (omega (arith, c.next_queued-self-inside.ensures.within.1, c.len-end.ensures, c.if-self-end.false)) in
    sym (ap head (next-waits _ _ _ c.self.invariant.numbered_work c.next_queued-self-inside.ensures.within.1 c.next_queued-self-inside.ensures.passed here))
    ∙ ap (λ (p : WorkPool). head p.queued) c.self.view_is

pub returns-clause-rest : goal.returns-clause-rest
returns-clause-rest g c =
    subst (λ (p : WorkPool). IfSome (head p.queued) (λ n. filter (λ m. not (m == n)) p.queued ≡ tail p.queued)) c.self.view_is
    (rest-waits _ (rising-waiting c.self.inside.line.works))
