use Rattle.std.proofs.Common.{append_assoc}
use Rattle.napi_types.proofs.script.ScriptPart.written.Goals as goal

pub returns-in-Entry : goal.returns-in-Entry
returns-in-Entry c = rw c.in-Entry.is (simp append_assoc c.format-in-Entry.ensures.ok)

pub returns-in-Operation : goal.returns-in-Operation
returns-in-Operation c = rw c.in-Operation.is (simp append_assoc c.format-in-Operation.ensures.ok)

pub returns-in-ThreadOperation : goal.returns-in-ThreadOperation
returns-in-ThreadOperation c = rw c.in-ThreadOperation.is (simp append_assoc c.format-in-ThreadOperation.ensures.ok)
