use Rattle.std.proofs.Common.{◌≡◌, ◌∙◌, ◌==◌, not, ap, sym, is_some, length, map, arith}
use Rattle.std.specs.VecDeque.{deque_len}
use Rattle.std.proofs.lemmas.List.{length-map}
use Rattle.napi_types.specs.parts.Pool.{WorkPool, first_completion}
use Rattle.async_work.specs.Queue.{outcome_seen}
use Rattle.async_work.proofs.Ids.{places-rise}
use Rattle.async_work.proofs.FirstCompletions.{completion-there}
use Rattle.async_work.proofs.pool.Pool.has_finished.Goals as goal

pub returns : goal.returns
returns g c =
    let len : deque_len c.self.inside.finished ≡ length (map (outcome_seen g.J.Job.spec) c.self.inside.finished.items) =
    omega (arith, length-map c.self.inside.finished.items (outcome_seen g.J.Job.spec)) in
    ap not (c.is_empty.ensures ∙ ap (λ n. n == 0) len)
    ∙ sym (completion-there _ _ _ _ _ _ _ _ _ _ _ (places-rise g.J.Job.spec c.self.inside.places) c.self.invariant)
    ∙ ap (λ (p : WorkPool). is_some (first_completion p)) c.self.view_is
