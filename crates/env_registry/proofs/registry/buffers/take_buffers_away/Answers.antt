use Rattle.std.proofs.Common.{◌≡◌, ◌∙◌, ◌+◌, ℕ, take, get_or, Option, Some, sym, ap, subst, refl, arith}
use Rattle.std.proofs.lemmas.List.{take_all}
use Rattle.napi_types.specs.declared.ids.ValueId.{ValueId}
use Rattle.napi_types.specs.parts.Book.{Book, due_where}
use Rattle.napi_types.specs.parts.Buffers.{IsGivenTicket, is_this_ticket, buffer_ticket, buffers_left}
use Rattle.wrap_tag.specs.Wraps.{is_one_of}
use Rattle.wrap_tag.proofs.FreeingRows.{take-next}
use Rattle.env_registry.specs.KeptRegistry.{IsDueAlready}
use Rattle.env_registry.proofs.FreedBuffers.{left-no-buffers, left-more-buffers, gone-given, gone-same, among}
use Rattle.env_registry.proofs.registry.buffers.take_buffers_away.Goals as goal

pub loop-value-init : goal.loop-value-init
loop-value-init c = (sym (left-no-buffers c.args.buffers.now.buffers), refl, omega arith)

pub gone-requires : goal.gone-requires
gone-requires c =
    let i = c.loop-value.value-index in
    let values = c.args.values.now in
    let x : ValueId = get_or values i (record { 0 = 0 }) in
    let book : Book = c.args.book.now.book in
    let inside : is_one_of values x.0 ≡ _ = among values (record { 0 = 0 }) i c.loop-value-test.true in
    subst (IsGivenTicket (buffer_ticket c.loop-value.buffers.buffers x.0)) (sym c.loop-value.invariant.1)
    (gone-given (is_one_of (take i values)) c.args.buffers.now.buffers c.loop-value.buffers.buffers x.0 book c.loop-value.invariant.0 (λ t is. c.requires.due x.0 t inside is))

pub loop-value-preserved : goal.loop-value-preserved
loop-value-preserved c =
    let i = c.loop-value.value-index in
    let values = c.args.values.now in
    let x : ValueId = get_or values i (record { 0 = 0 }) in
    let book : Book = c.args.book.now.book in
    let inside : is_one_of values x.0 ≡ _ = among values (record { 0 = 0 }) i c.loop-value-test.true in
    let next : take (i + 1) values ≡ _ = take-next values i (record { 0 = 0 }) c.loop-value-test.true in
    let test : ℕ → _ = is_this_ticket (buffer_ticket c.loop-value.buffers.buffers x.0) in (
      left-more-buffers (take i values) x c.args.buffers.now.buffers c.loop-value.buffers.buffers _ c.loop-value.invariant.0 c.gone.ensures.forgotten
          ∙ ap (λ vs. buffers_left (is_one_of vs) c.args.buffers.now.buffers) (sym next),
      c.gone.ensures.due ∙ ap (due_where test) c.loop-value.invariant.1
          ∙ gone-same (is_one_of (take i values)) c.args.buffers.now.buffers c.loop-value.buffers.buffers x.0 book c.loop-value.invariant.0 (λ t is. c.requires.due x.0 t inside is),
      omega (arith, c.loop-value.invariant.2, c.gone.ensures.spare),
    )

pub returns-clause-left : goal.returns-clause-left
returns-clause-left c =
    c.loop-value.invariant.0 ∙ ap (λ vs. buffers_left (is_one_of vs) c.args.buffers.now.buffers) (take_all c.loop-value.value-index c.args.values.now c.loop-value-test.false)

pub returns-clause-same : goal.returns-clause-same
returns-clause-same c = c.loop-value.invariant.1

pub returns-clause-spare : goal.returns-clause-spare
returns-clause-spare c = c.loop-value.invariant.2
