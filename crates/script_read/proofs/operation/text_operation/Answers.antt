use Rattle.std.proofs.Common.{sym}
use Rattle.script_read.proofs.Items.{text-few, text-many}
use Rattle.script_read.proofs.operation.text_operation.Goals as goal

pub returns-in_default : goal.returns-in_default
returns-in_default c = record { found = sym (text-few _ _ _ c.in_default.len_below) }

pub returns-in_default-2 : goal.returns-in_default-2
returns-in_default-2 c = record { found = sym (text-many _ _ _ c.in_default.len_at_least) }
