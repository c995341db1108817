use Rattle.std.proofs.Common.{◌+◌, ◌++◌, ◌∷◌, [], ap, ◌∙◌}
use Rattle.napi_types.specs.declared.call.Release.TheVariants as release
use Rattle.napi_types.specs.declared.op.Op.{Op}
use Rattle.napi_types.specs.declared.op.Op.TheVariants as op
use Rattle.script_run.specs.Load.{calls_from, thread_operations}
use Rattle.script_run.proofs.load.thread_operations.Goals as goal

pub returns : goal.returns
unfolding thread_operations
returns c =
    let last : Op = op.ThreadRelease 1 release.Release in
    c.of.ensures ∙ c.push_reserved.ensures.items ∙
    ap (λ l. l ++ last ∷ []) (c.add_calls.ensures.added ∙ ap (λ l. l ++ calls_from (c.args.number + c.args.thread) 6250) c.in_ok-operations.ensures.items)
