use Rattle.std.proofs.Common.{◌≡◌, ◌+◌, length, ap, arith}
use Rattle.napi_types.specs.parts.Graph.{live}
use Rattle.value_store.specs.StoreChanges.{numbers_of}
use Rattle.trace_collect.specs.MarkedValues.{unmarked_count}
use Rattle.trace_collect.proofs.Marking.{room-kept}
use Rattle.trace_collect.proofs.Reached.{marking-start, marked-all}
use Rattle.trace_collect.proofs.Unmarked.{unmarked-none}
use Rattle.trace_collect.proofs.marks.mark_reached.Goals as goal

pub mark_each-requires-clause-room : goal.mark_each-requires-clause-room
mark_each-requires-clause-room c =
    let count : unmarked_count c.args.store.now c.args.marks.now ≡ length (live c.args.store.now) = unmarked-none c.args.store.now c.args.marks.now c.requires.size c.requires.unmarked in
    let none : length c.args.left.now.items ≡ 0 = ap length c.requires.empty in
    omega (arith, count, none, c.requires.room)

pub follow-requires-clause-room : goal.follow-requires-clause-room
follow-requires-clause-room c =
    let count : unmarked_count c.args.store.now c.args.marks.now ≡ length (live c.args.store.now) = unmarked-none c.args.store.now c.args.marks.now c.requires.size c.requires.unmarked in
    let none : length c.args.left.now.items ≡ 0 = ap length c.requires.empty in
    let same : length c.mark_each.new.left.items + unmarked_count c.args.store.now c.mark_each.new.marks ≡ length c.args.left.now.items + unmarked_count c.args.store.now c.args.marks.now =
    room-kept c.args.store.now _ _ _ _ _ c.mark_each.ensures.marked in
    omega (arith, count, none, same, c.mark_each.ensures.capacity, c.requires.room)

pub returns-clause-marked : goal.returns-clause-marked
returns-clause-marked c =
    let first = rw c.requires.empty at c.mark_each.ensures.marked in
    let started = marking-start c.args.store.now c.requires.once c.requires.sound (numbers_of c.args.roots.now) c.requires.live c.args.marks.now _ _ c.requires.unmarked first in
    marked-all c.args.store.now c.requires.once c.requires.sound (numbers_of c.args.roots.now) c.requires.live c.follow.new.marks (c.follow.ensures.followed (numbers_of c.args.roots.now) started)
