use Rattle.std.proofs.Common.{◌<◌, length, arith}
use Rattle.deferred.proofs.Settling.{settled-none, next-settled}
use Rattle.deferred.proofs.row.settle_all.Goals as goal

pub loop-place-init : goal.loop-place-init
loop-place-init c = record { settled = settled-none c.args.state c.args.book.now.book; spare = omega arith }

pub loop-place-preserved : goal.loop-place-preserved
loop-place-preserved c =
    let ns = c.args.reactions.now in
    let within : c.loop-place.place < length ns.items = omega (arith, c.loop-place-test.true, c.len-place-end.ensures, ns.ok.0) in
    record {
      settled = next-settled c.args.state ns.items c.loop-place.place _ c.args.book.now.book c.loop-place.book.book c.settle_one.new.book.book
          c.loop-place.invariant.settled c.settle_one.ensures.settled within c.index.ensures;
      spare = omega (arith, c.loop-place.invariant.spare, c.settle_one.ensures.spare);
    }
