use Rattle.std.proofs.Common.{◌≡◌, ◌≤◌, take}
use Rattle.napi_types.specs.parts.Promises.{reactions_settled}
use Rattle.deferred.proofs.row.settle_all.Given as goal

abbrev pub invariant-loop-place : goal.invariant-loop-place
invariant-loop-place l = record {
  settled : l.book.book ≡ reactions_settled l.state (take l.place l.reactions.items) l.initial.book.book;
  spare : l.initial.book.spare ≤ l.book.spare;
}
