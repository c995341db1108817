use Rattle.std.proofs.Common.{sym}
use Rattle.script_read.proofs.Items.{more-one, more-many}
use Rattle.script_read.proofs.forms.with_more_arguments.Goals as goal

pub returns-in_default : goal.returns-in_default
returns-in_default c = sym (more-one _ _ _ _ _ _ _ _ c.in_default.len_at_least c.in_default.len_below)

pub returns-in_default-2 : goal.returns-in_default-2
returns-in_default-2 c = sym (more-many _ _ _ _ _ _ _ _ c.in_default.len_at_least)
