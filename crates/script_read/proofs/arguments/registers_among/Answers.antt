use Rattle.std.proofs.Common.{sym}
use Rattle.script_read.proofs.Items.{registers-many}
use Rattle.script_read.proofs.arguments.registers_among.Goals as goal

pub returns-in_default : goal.returns-in_default
returns-in_default c = sym (registers-many _ c.in_default.len_at_least)
