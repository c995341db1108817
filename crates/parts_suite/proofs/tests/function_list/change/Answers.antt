use Rattle.std.proofs.Common.{true, false, refl}
use Rattle.napi_types.specs.parts.Functions.{with_referenced}
use Rattle.parts_suite.proofs.FewItems.{acquire-few, release-few, kept-few, move-few, close-few}
use Rattle.parts_suite.proofs.tests.function_list.change.Goals as goal

pub returns-in-Acquire : goal.returns-in-Acquire
returns-in-Acquire c = λ n few. rw c.acquire.ensures.acquired (acquire-few n _ _ c.args.functions.now few)

pub returns-in-Release : goal.returns-in-Release
returns-in-Release c = λ n few. rw c.release.ensures.released (release-few n _ _ _ c.args.functions.now few)

pub returns-in-Refer : goal.returns-in-Refer
returns-in-Refer c = λ n few. rw c.refer.ensures.referred (kept-few n (λ f. with_referenced true) (λ f h. refl) _ c.args.functions.now few)

pub returns-in-Unrefer : goal.returns-in-Unrefer
returns-in-Unrefer c = λ n few. rw c.unrefer.ensures.unreferred (kept-few n (λ f. with_referenced false) (λ f h. refl) _ c.args.functions.now few)

pub returns-in-Move : goal.returns-in-Move
returns-in-Move c = λ n few. rw c.take_move.ensures.left (move-few n _ c.args.functions.now few)

pub returns-in-CloseAll : goal.returns-in-CloseAll
returns-in-CloseAll c = λ n few. rw c.close_all_open.ensures (close-few n c.args.functions.now few)
