use Rattle.std.proofs.Common.{sym}
use Rattle.script_read.proofs.Items.{thread-none, thread-many}
use Rattle.script_read.proofs.threads.thread_operation_named.Goals as goal

pub returns-in_default : goal.returns-in_default
returns-in_default c = sym (thread-none _ _ c.in_default.len_below)

pub returns-in_default-2 : goal.returns-in_default-2
returns-in_default-2 c = sym (thread-many _ _ c.in_default.len_at_least)
