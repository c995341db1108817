use Rattle.std.proofs.Common.{◌≡◌, ◌≤◌, take}
use Rattle.napi_types.specs.parts.Attachments.{is_attached_to, left_on}
use Rattle.napi_types.specs.parts.Book.{due_where}
use Rattle.wrap_tag.specs.Wraps.{is_one_of}
use Rattle.wrap_tag.proofs.wraps.Wraps.gone_all.Given as goal

abbrev pub invariant-loop-value : goal.invariant-loop-value
invariant-loop-value l = record {
  forgotten : l.self.attachments ≡ left_on (is_one_of (take l.value-index l.values)) l.initial.self.attachments;
  due : l.book.book ≡ due_where (is_attached_to (is_one_of (take l.value-index l.values)) l.initial.self.attachments) l.initial.book.book;
  spare : l.initial.self.spare ≤ l.self.spare;
  room : l.initial.book.spare ≤ l.book.spare;
}
