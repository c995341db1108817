use Rattle.std.proofs.Common.{codes}
use Rattle.napi_types.proofs.plain.Options.{at-err}
use Rattle.outside.proofs.Pieces.{cut-first, cut-second, cut-third, three-known}
use Rattle.outside.proofs.message.put_path.Goals as goal

pub returns-in_err-put_text-clause-err : goal.returns-in_err-put_text-clause-err
returns-in_err-put_text-clause-err g c = at-err _ (cut-first _ _ (codes "refused shape ") c.args.path.now (codes "\n") c.in_err-put_text.ensures.err)

pub returns-in_err-put_name-clause-err : goal.returns-in_err-put_name-clause-err
returns-in_err-put_name-clause-err g c =
    at-err _ (cut-second _ _ _ (codes "refused shape ") c.args.path.now (codes "\n") c.in_ok-put_text.ensures.ok c.in_err-put_name.ensures.err)

pub returns-in_err-put_text-2-clause-err : goal.returns-in_err-put_text-2-clause-err
returns-in_err-put_text-2-clause-err g c =
    at-err _ (cut-third _ _ _ _ (codes "refused shape ") c.args.path.now (codes "\n") c.in_ok-put_text.ensures.ok c.in_ok-put_name.ensures.ok c.in_err-put_text-2.ensures.err)

pub returns-clause-ok : goal.returns-clause-ok
returns-clause-ok g c =
    three-known _ _ _ _ (codes "refused shape ") c.args.path.now (codes "\n") c.in_ok-put_text.ensures.ok c.in_ok-put_name.ensures.ok c.in_ok-put_text-2.ensures.ok
