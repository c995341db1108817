use Rattle.std.proofs.Common.{◌≡◌, ◌∙◌, [], ap, refl, sym}
use Rattle.napi_types.specs.declared.duties.DueInfo.{DueInfo}
use Rattle.napi_types.specs.parts.Book.{is_begun, is_at}
use Rattle.napi_types.specs.environment.Environment.{Environment}
use Rattle.finalizer_queue.specs.KeptBook.{ticket_number}
use Rattle.finalizer_queue.proofs.Taken.{takes-begun}
use Rattle.env_core.proofs.Beginning.{begun-first, state-begun}
use Rattle.env_core.proofs.state.State.begin_due.Goals as goal

pub invariant_of-self-2 : goal.invariant_of-self-2
invariant_of-self-2 c =
    let s = c.self.inside in
    let f = c.begin_frame-begin in
    let book = c.begin_due.new.self.parts.book in
    let none : s.frames ≡ [] = ap (λ (e : Environment). e.frames) c.self.view_is ∙ c.requires.alone in (
      state-begun s.store s.scopes f.new.scopes s.frames f.new.frames s.exceptions.pending _ c.self.invariant.0 f.ensures.scopes f.ensures.frames
          (λ h. c.in_ok-due.ensures.uncalled (sym (ap (λ (d : DueInfo). d.cause) c.info.ensures) ∙ h)),
      rw c.begin_due.ensures.rest c.self.invariant.1,
      begun-first s.frames f.new.frames book _ c.info.result.now.duty none f.ensures.frames refl
          (ap (λ (d : DueInfo). is_at is_begun book (ticket_number d.duty)) c.info.ensures ∙ takes-begun s.registry.parts.book book c.in_ok-due.due c.in_ok-due.ensures.begun),
      rw c.begin_due.ensures.rest c.self.invariant.3,
    )
