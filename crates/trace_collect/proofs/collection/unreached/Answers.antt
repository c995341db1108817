use Rattle.std.proofs.Common.{◌∙◌, sym}
use Rattle.std.proofs.lemmas.List.{length-map}
use Rattle.napi_types.specs.declared.ids.ValueId.{ValueId}
use Rattle.value_store.specs.StoreChanges.{numbers_of}
use Rattle.trace_collect.proofs.Unreached.{sorted-distinct, sorted-unreached, sorted-rising, roots-kept, kept-graph, freed-count, unreached-can-free}
use Rattle.trace_collect.proofs.collection.unreached.Goals as goal

pub returns-clause-rising : goal.returns-clause-rising
returns-clause-rising c =
    let apart = sorted-distinct c.args.store.now c.in_ok-marks.ensures.once (numbers_of c.args.roots.now) c.in_ok-marks.marks c.in_ok-list.list.items c.sorted.result.items c.in_ok-list.ensures c.sorted.ensures.permutation in
    sorted-rising c.sorted.result.items c.sorted.ensures.sorted apart

pub returns-clause-unreached : goal.returns-clause-unreached
returns-clause-unreached c =
    sorted-unreached c.args.store.now c.in_ok-marks.ensures.once (numbers_of c.args.roots.now) c.in_ok-marks.marks c.in_ok-list.list.items c.sorted.result.items c.in_ok-list.ensures c.sorted.ensures.permutation
    c.in_ok-marks.ensures.size c.in_ok-marks.ensures.marked

pub returns-clause-roots : goal.returns-clause-roots
returns-clause-roots c = roots-kept c.args.store.now c.in_ok-marks.ensures.once c.in_ok-marks.ensures.sound (numbers_of c.args.roots.now) (numbers_of c.sorted.result.items) (returns-clause-unreached c)

pub returns-clause-can_free : goal.returns-clause-can_free
returns-clause-can_free c =
    let apart = sorted-distinct c.args.store.now c.in_ok-marks.ensures.once (numbers_of c.args.roots.now) c.in_ok-marks.marks c.in_ok-list.list.items c.sorted.result.items c.in_ok-list.ensures c.sorted.ensures.permutation in
    unreached-can-free c.args.store.now c.in_ok-marks.ensures.once c.in_ok-marks.ensures.sound (numbers_of c.args.roots.now) (numbers_of c.sorted.result.items) (returns-clause-unreached c) c.requires.starting apart

pub returns-clause-kept : goal.returns-clause-kept
returns-clause-kept c = kept-graph c.args.store.now c.in_ok-marks.ensures.once c.in_ok-marks.ensures.sound (numbers_of c.args.roots.now) (numbers_of c.sorted.result.items) (returns-clause-unreached c)

pub returns-clause-count : goal.returns-clause-count
returns-clause-count c =
    let apart = sorted-distinct c.args.store.now c.in_ok-marks.ensures.once (numbers_of c.args.roots.now) c.in_ok-marks.marks c.in_ok-list.list.items c.sorted.result.items c.in_ok-list.ensures c.sorted.ensures.permutation in
    sym (length-map c.sorted.result.items (λ (v : ValueId). v.0))
    ∙ freed-count c.args.store.now c.in_ok-marks.ensures.once c.in_ok-marks.ensures.sound (numbers_of c.args.roots.now) (numbers_of c.sorted.result.items) (returns-clause-unreached c) apart
