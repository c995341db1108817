use Rattle.shared_hub.specs.SharedTries.{given_by}
use Rattle.shared_hub.proofs.HandedCalls.{env-never-waits}
use Rattle.shared_hub.proofs.hub.calls.reply_to.Goals as goal

pub unreachable-requires : goal.unreachable-requires
unreachable-requires g c =
    env-never-waits c.args.parts.now c.answer.new.self (given_by c.args.call.now) c.args.call.now.call c.requires.shared
    (rw (c.in-Ok-None.field-0-is, c.given_of.ensures) at c.in-Ok-None.ensures.ok)
