use Rattle.parts_suite.proofs.FewItems.{call-few}
use Rattle.parts_suite.proofs.tests.function_list.call.Goals as goal

pub returns : goal.returns
returns g c =
    let left = rw c.ample.ensures at c.call-tried.ensures.called in
    rw left (call-few c.args.calls c.args.payload _ _ c.args.functions.now c.requires.few)
