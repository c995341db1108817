use Rattle.std.proofs.Common.{◌+◌, arith}
use Rattle.parts_suite.proofs.FewItems.{more-few}
use Rattle.parts_suite.proofs.tests.function_list.ask.Goals as goal

pub returns : goal.returns
returns g c = more-few c.args.calls (c.args.calls + 1) (omega arith) c.change.new.functions (c.change.ensures c.args.calls c.requires.few)
