use Rattle.std.proofs.Common.{sym}
use Rattle.script_read.proofs.Items.{job-few, job-many}
use Rattle.script_read.proofs.arguments.job_of.Goals as goal

pub returns-in_default : goal.returns-in_default
returns-in_default c = sym (job-few _ c.in_default.len_below)

pub returns-in_default-2 : goal.returns-in_default-2
returns-in_default-2 c = sym (job-many _ c.in_default.len_at_least)
