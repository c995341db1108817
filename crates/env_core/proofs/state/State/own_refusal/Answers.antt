use Rattle.env_core.proofs.OwnRefusals.{created-refusal}
use Rattle.env_core.proofs.state.State.own_refusal.Goals as goal

pub returns-in-CreateThreadsafeFunction : goal.returns-in-CreateThreadsafeFunction
returns-in-CreateThreadsafeFunction c =
    let v = c.in-CreateThreadsafeFunction in
    rw v.is
    (created-refusal c.args.self.now v.function v.entry v.field-2 v.count v.field-4 v.field-5 c.why_not_creating.result (rw v.is at c.in_default.ensures)
    (c.why_not_creating.ensures v.field-2 v.field-4 v.field-5))
