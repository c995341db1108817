use Rattle.std.proofs.Common.{◌≡◌, ◌∙◌, ◌+◌, take, get_or, sym, ap, arith}
use Rattle.std.proofs.lemmas.List.{take_all}
use Rattle.napi_types.specs.parts.Attachments.{left_on, is_attached_to}
use Rattle.napi_types.specs.parts.Book.{due_where}
use Rattle.wrap_tag.specs.Wraps.{is_one_of}
use Rattle.wrap_tag.proofs.FreeingRows.{left_on-none, due-none, take-next, given-value, left-more, due-more}
use Rattle.wrap_tag.proofs.wraps.Wraps.gone_all.Goals as goal

pub loop-value-init : goal.loop-value-init
loop-value-init c = record { forgotten = sym (left_on-none c.args.self.now.attachments); due = sym (due-none c.args.self.now.attachments c.args.book.now.book); spare = omega arith; room = omega arith }

pub gone-requires : goal.gone-requires
gone-requires c =
    given-value c.args.values.now c.loop-value.value-index _ c.loop-value-test.true c.args.self.now.attachments c.loop-value.self.attachments c.args.book.now.book c.loop-value.book.book
    c.loop-value.invariant.forgotten c.loop-value.invariant.due c.requires

pub loop-value-preserved : goal.loop-value-preserved
loop-value-preserved c =
    let next : take (c.loop-value.value-index + 1) c.args.values.now ≡ _ = take-next c.args.values.now c.loop-value.value-index (record { 0 = 0 }) c.loop-value-test.true in
    record {
      forgotten = left-more (take c.loop-value.value-index c.args.values.now) (get_or c.args.values.now c.loop-value.value-index (record { 0 = 0 })) c.args.self.now.attachments c.loop-value.self.attachments _ c.loop-value.invariant.forgotten c.gone.ensures.forgotten
          ∙ ap (λ vs. left_on (is_one_of vs) c.args.self.now.attachments) (sym next);
      due = due-more (take c.loop-value.value-index c.args.values.now) (get_or c.args.values.now c.loop-value.value-index (record { 0 = 0 })) c.args.self.now.attachments c.loop-value.self.attachments c.args.book.now.book c.loop-value.book.book _
          c.loop-value.invariant.forgotten c.loop-value.invariant.due c.gone.ensures.due
          ∙ ap (λ vs. due_where (is_attached_to (is_one_of vs) c.args.self.now.attachments) c.args.book.now.book) (sym next);
      spare = omega arith;
      room = omega arith;
    }

pub returns-clause-forgotten : goal.returns-clause-forgotten
returns-clause-forgotten c =
    c.loop-value.invariant.forgotten ∙ ap (λ vs. left_on (is_one_of vs) c.args.self.now.attachments) (take_all c.loop-value.value-index c.args.values.now c.loop-value-test.false)

pub returns-clause-due : goal.returns-clause-due
returns-clause-due c =
    c.loop-value.invariant.due ∙ ap (λ vs. due_where (is_attached_to (is_one_of vs) c.args.self.now.attachments) c.args.book.now.book)
    (take_all c.loop-value.value-index c.args.values.now c.loop-value-test.false)
