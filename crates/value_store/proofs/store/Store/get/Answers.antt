use Rattle.std.proofs.Common.{◌∙◌, ap, sym, Some, option_map}
use Rattle.value_store.specs.Contents.{value_of_record}
use Rattle.value_store.proofs.Graphs.{graph-read}
use Rattle.value_store.proofs.StoreCalls.{good-view, value-read}
use Rattle.value_store.proofs.store.Store.get.Goals as goal

pub returns-in_err-get-clause-value : goal.returns-in_err-get-clause-value
returns-in_err-get-clause-value c =
    c.from_residual.ensures ∙ ap (option_map value_of_record) c.in_err-get.ensures ∙ sym (value-read c.self.inside.values c.self.inside.made c.self.inside.starting c.self.invariant c.args.self.now c.self.view_is c.args.id.0)

pub returns-in_err-get-clause-graph : goal.returns-in_err-get-clause-graph
returns-in_err-get-clause-graph c = graph-read c.args.self.now (good-view c.self.inside.values c.self.inside.made c.self.inside.starting c.self.invariant c.args.self.now c.self.view_is) c.args.id.0

pub returns-clause-value : goal.returns-clause-value
returns-clause-value c =
    ap Some c.info.ensures ∙ ap (option_map value_of_record) c.in_ok-get.ensures ∙ sym (value-read c.self.inside.values c.self.inside.made c.self.inside.starting c.self.invariant c.args.self.now c.self.view_is c.args.id.0)

pub returns-clause-graph : goal.returns-clause-graph
returns-clause-graph c = graph-read c.args.self.now (good-view c.self.inside.values c.self.inside.made c.self.inside.starting c.self.invariant c.args.self.now c.self.view_is) c.args.id.0
