use Rattle.script_host.proofs.OneKind.{some-kind, one-kind}
use Rattle.script_host.proofs.laws.commands_are_of_one_kind.Goals as goal

pub returns : goal.returns
returns c = record { some = some-kind; one = one-kind }
