use Rattle.std.proofs.Common.{◌≡◌, ◌∙◌, ◌+◌, take, get_or, sym, ap}
use Rattle.std.proofs.lemmas.List.{take_all}
use Rattle.napi_types.specs.parts.Promises.{promises_left}
use Rattle.wrap_tag.specs.Wraps.{is_one_of}
use Rattle.wrap_tag.proofs.FreeingRows.{take-next}
use Rattle.env_registry.proofs.FreedPromises.{left-none, left-more}
use Rattle.env_registry.proofs.registry.promises.take_away.Goals as goal

pub loop-value-init : goal.loop-value-init
loop-value-init c = sym (left-none c.args.promises.now.promises)

pub loop-value-preserved : goal.loop-value-preserved
loop-value-preserved c =
    let i = c.loop-value.value-index in
    let next : take (i + 1) c.args.values.now ≡ _ = take-next c.args.values.now i (record { 0 = 0 }) c.loop-value-test.true in
    left-more (take i c.args.values.now) (get_or c.args.values.now i (record { 0 = 0 })) c.args.promises.now.promises c.loop-value.promises.promises _ c.loop-value.invariant c.gone.ensures
    ∙ ap (λ vs. promises_left (is_one_of vs) c.args.promises.now.promises) (sym next)

pub returns : goal.returns
returns c =
    c.loop-value.invariant ∙ ap (λ vs. promises_left (is_one_of vs) c.args.promises.now.promises) (take_all c.loop-value.value-index c.args.values.now c.loop-value-test.false)
