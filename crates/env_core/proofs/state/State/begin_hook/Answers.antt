use Rattle.std.proofs.Common.{◌≡◌, ◌∙◌, [], ap, refl, sym}
use Rattle.napi_types.specs.declared.duties.DueInfo.{DueInfo}
use Rattle.napi_types.specs.declared.entry.HostStep.TheVariants as host
use Rattle.napi_types.specs.plain.Entries.{host_entry}
use Rattle.napi_types.specs.parts.Book.{is_begun, is_at, due_info}
use Rattle.napi_types.specs.parts.Frames.{frame_of_duty, begin_told}
use Rattle.napi_types.specs.environment.Environment.{Environment}
use Rattle.napi_types.specs.environment.Hooked.{is_from_finals_on}
use Rattle.napi_types.specs.environment.Tickets.{ticket_in}
use Rattle.finalizer_queue.specs.KeptBook.{ticket_number}
use Rattle.env_values.specs.SeenValues.{heap_of}
use Rattle.env_core.specs.contracts.state.State.{the_view}
use Rattle.env_core.proofs.Beginning.{last-waits, hook-begun, begun-hook, begun-first, state-begun}
use Rattle.env_core.proofs.state.State.begin_hook.Goals as goal

pub begin_hook-requires : goal.begin_hook-requires
begin_hook-requires c =
    let e = the_view c.self.inside in
    last-waits e (rw (← c.self.view_is) at c.requires.hooked) (ap is_from_finals_on (rw (← c.self.view_is) at c.requires.phase))

pub invariant_of-self-2 : goal.invariant_of-self-2
invariant_of-self-2 c =
    let s = c.self.inside in
    let k = c.in_ok-due.ensures.begun in
    let f = c.begin_frame-begin in
    let book = c.begin_hook.new.self.parts.book in
    let none : s.frames ≡ [] = ap (λ (e : Environment). e.frames) c.self.view_is ∙ c.requires.alone in
    let told : c.info.result.now ≡ due_info k.ticket k.registration = c.info.ensures ∙ k.told in (
      state-begun s.store s.scopes f.new.scopes s.frames f.new.frames s.exceptions.pending _ c.self.invariant.0 f.ensures.scopes f.ensures.frames
          (λ h. c.in_ok-due.ensures.uncalled (sym (ap (λ (d : DueInfo). d.cause) c.info.ensures) ∙ h)),
      rw k.begun c.self.invariant.1,
      begun-first s.frames f.new.frames book _ c.info.result.now.duty none f.ensures.frames refl
          (ap (λ (d : DueInfo). is_at is_begun book (ticket_number d.duty)) told ∙ hook-begun s.registry.parts c.begin_hook.new.self.parts c.in_ok-due.due k),
      rw k.begun c.self.invariant.3,
    )

pub returns-clause-begun : goal.returns-clause-begun
returns-clause-begun c =
    let s = c.self.inside in
    let k = c.in_ok-due.ensures.begun in
    let f = c.begin_frame-begin in
    let at = rw (← c.self.view_is) at c.requires.phase in
    let told : c.info.result.now ≡ due_info k.ticket k.registration = c.info.ensures ∙ k.told in
    rw (← c.self.view_is) (record {
      ticket = k.ticket;
      registration = k.registration;
      next = ap (ticket_in (the_view s)) at ∙ k.last;
      registered = k.registered;
      told = k.told;
      entry = f.ensures.entry ∙ ap (λ d. host_entry host.Begin (begin_told (frame_of_duty d))) told;
      after = rw k.begun (begun-hook (the_view s) k.ticket k.registration (heap_of s.store f.new.scopes) f.new.frames c.info.result.now at told (ap (heap_of s.store) f.ensures.scopes) f.ensures.frames);
    })
