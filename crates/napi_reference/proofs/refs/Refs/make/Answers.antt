use Rattle.napi_reference.proofs.ReferenceChanges.{made, fresh}
use Rattle.napi_reference.proofs.refs.Refs.make.Goals as goal

pub returns-clause-fresh : goal.returns-clause-fresh
returns-clause-fresh c = fresh c.self.inside.rows c.args.self.now c.self.view_is c.in_ok-number.number c.in_ok-number.ensures.fresh

pub returns-clause-made : goal.returns-clause-made
returns-clause-made c =
    made c.self.inside.rows c.make.new.self c.args.self.now c.self.view_is c.in_ok-number.number c.args.value c.args.count c.in_ok-number.ensures.held c.in_ok-number.ensures.issued
