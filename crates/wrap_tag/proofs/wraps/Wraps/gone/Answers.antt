use Rattle.std.proofs.Common.{◌≡◌, ◌∙◌, ℕ, ◌==◌, sym, ap, refl}
use Rattle.napi_types.specs.plain.Lists.{has_number}
use Rattle.napi_types.specs.parts.Attachments.{tickets_of, left_on}
use Rattle.wrap_tag.specs.ValueRows.{tickets_of_row}
use Rattle.wrap_tag.proofs.AttachingRows.{maps-left}
use Rattle.wrap_tag.proofs.FreeingRows.{has-tickets_of}
use Rattle.wrap_tag.proofs.Dues.{due_where-same, given-among}
use Rattle.wrap_tag.proofs.wraps.Wraps.gone.Goals as goal

pub make_due-requires : goal.make_due-requires
make_due-requires c =
    let told : (n : ℕ) → has_number n (tickets_of_row c.take.result) ≡ has_number n (tickets_of c.args.self.now.attachments c.args.value.0) =
    λ n. ap (λ row. has_number n (tickets_of_row row)) c.take.ensures.row ∙ sym (has-tickets_of n c.args.value.0 c.self.inside.rows.entries c.self.invariant) ∙ ap (λ s. has_number n (tickets_of s.attachments c.args.value.0)) c.self.view_is in
    given-among (tickets_of c.args.self.now.attachments c.args.value.0) (tickets_of_row c.take.result) c.args.book.now.book (λ n is. sym (told n) ∙ is) c.requires

pub returns-clause-forgotten : goal.returns-clause-forgotten
returns-clause-forgotten c =
    maps-left c.args.value.0 _ c.self.inside.rows.entries c.take.new.rows.entries c.self.invariant c.take.ensures.taken refl ∙ ap (λ s. left_on (λ v. v == c.args.value.0) s.attachments) c.self.view_is

pub returns-clause-due : goal.returns-clause-due
returns-clause-due c =
    let told : (n : ℕ) → has_number n (tickets_of_row c.take.result) ≡ has_number n (tickets_of c.args.self.now.attachments c.args.value.0) =
    λ n. ap (λ row. has_number n (tickets_of_row row)) c.take.ensures.row ∙ sym (has-tickets_of n c.args.value.0 c.self.inside.rows.entries c.self.invariant) ∙ ap (λ s. has_number n (tickets_of s.attachments c.args.value.0)) c.self.view_is in
    c.make_due.ensures.due ∙ due_where-same (λ n. has_number n (tickets_of_row c.take.result)) (λ n. has_number n (tickets_of c.args.self.now.attachments c.args.value.0)) c.args.book.now.book told
