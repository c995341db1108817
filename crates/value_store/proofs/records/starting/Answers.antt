use Rattle.value_store.proofs.Starting.{all-kept, all-graph}
use Rattle.value_store.proofs.records.starting.Goals as goal

pub returns-clause-kept : goal.returns-clause-kept
returns-clause-kept c =
    all-kept c.args.values.now c.reserve.new.self c.put.new.values c.put-2.new.values c.put-3.new.values c.put-4.new.values c.put-5.new.values c.put.result c.put-2.result c.put-3.result c.put-4.result c.put-5.result
    c.requires.empty c.requires.none c.reserve.ensures.kept c.put.ensures.added c.put-2.ensures.added c.put-3.ensures.added c.put-4.ensures.added c.put-5.ensures.added

pub returns-clause-graph : goal.returns-clause-graph
returns-clause-graph c =
    all-graph c.args.values.now c.reserve.new.self c.put.new.values c.put-2.new.values c.put-3.new.values c.put-4.new.values c.put-5.new.values c.put.result c.put-2.result c.put-3.result c.put-4.result c.put-5.result
    c.requires.empty c.requires.none c.reserve.ensures.kept c.put.ensures.added c.put-2.ensures.added c.put-3.ensures.added c.put-4.ensures.added c.put-5.ensures.added
