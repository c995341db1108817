use Rattle.std.proofs.Common.{◌∙◌, true, false, sym, ap, Some}
use Rattle.env_core.proofs.Looking.{told-error, target-unknown, target-told, stored-live}
use Rattle.env_core.proofs.handles.target.Goals as goal

pub returns-in_err-value-clause-refusal : goal.returns-in_err-value-clause-refusal
returns-in_err-value-clause-refusal c =
    told-error c.from_residual.result c.in_err-value.field-0.0 c.from_residual.ensures.1 ∙ ap Some c.in_err-value.ensures.refused
    ∙ target-unknown c.args.store.now c.args.scopes.now c.args.handle c.args.takes c.in_err-value.ensures.unknown

pub returns-then-not-accepts-clause-refusal : goal.returns-then-not-accepts-clause-refusal
returns-then-not-accepts-clause-refusal c =
    target-told c.args.store.now c.args.scopes.now c.args.handle c.args.takes c.in_ok-value.value c.in_ok-value.ensures.ok false (sym c.accepts.ensures ∙ c.if-not-accepts.true)

pub returns-clause-refusal : goal.returns-clause-refusal
returns-clause-refusal c =
    target-told c.args.store.now c.args.scopes.now c.args.handle c.args.takes c.in_ok-value.value c.in_ok-value.ensures.ok true (sym c.accepts.ensures ∙ c.if-not-accepts.false)

pub returns-clause-live : goal.returns-clause-live
returns-clause-live c = stored-live c.args.store.now c.in_ok-value.value c.in_ok-value.ensures.ok.body

pub returns-clause-number : goal.returns-clause-number
returns-clause-number c = sym c.in_ok-value.ensures.ok.number
