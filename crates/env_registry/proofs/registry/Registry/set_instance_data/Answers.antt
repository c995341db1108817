use Rattle.std.proofs.Common.{◌∙◌, length, option_map, ap, arith, refl}
use Rattle.napi_types.specs.declared.ids.Ticket.{Ticket}
use Rattle.napi_types.specs.environment.Registering.{registered_only}
use Rattle.env_registry.specs.KeptRegistry.{KeptRegistry}
use Rattle.env_registry.specs.Registering.{finalizer_registration, duty_if, withdrawn_if}
use Rattle.env_registry.proofs.Keeping.{kept-asked, kept-dropped}
use Rattle.env_registry.proofs.Withdrawn.{length-withdrawn, gone-is, next-is}
use Rattle.env_registry.proofs.registry.Registry.set_instance_data.Goals as goal

pub register_if-ticket-requires-clause-few : goal.register_if-ticket-requires-clause-few
register_if-ticket-requires-clause-few c =
    let book = c.self.inside.book.book in
    let had = option_map (λ (t : Ticket). t.0) c.ticket.result in
    let gone = gone-is book c.reserve_if.new.book.book c.withdraw_if-dropped.new.book.book had c.reserve_if.ensures.same c.withdraw_if-dropped.ensures.withdrawn in
    omega (arith, ap length gone, length-withdrawn (registered_only book had) book, ap (λ (r : KeptRegistry). length r.parts.book) c.self.view_is, c.requires.few)

pub invariant_of-self-2 : goal.invariant_of-self-2
invariant_of-self-2 c =
    let s = c.self.inside in
    let had = option_map (λ (t : Ticket). t.0) c.ticket.result in
    let t = registered_only s.book.book had in
    let gone = gone-is s.book.book c.reserve_if.new.book.book c.withdraw_if-dropped.new.book.book had c.reserve_if.ensures.same c.withdraw_if-dropped.ensures.withdrawn in (
      rw (c.register_if-ticket.ensures.registered, gone)
          (kept-asked s.wraps.attachments (withdrawn_if t s.book.book) c.args.finalizer (kept-dropped s.wraps.attachments s.book.book t c.self.invariant.0)),
      c.self.invariant.1,
    )

pub returns-clause-made : goal.returns-clause-made
returns-clause-made c =
    let book = c.self.inside.book.book in
    let had = option_map (λ (t : Ticket). t.0) c.ticket.result in
    let gone = gone-is book c.reserve_if.new.book.book c.withdraw_if-dropped.new.book.book had c.reserve_if.ensures.same c.withdraw_if-dropped.ensures.withdrawn in
    rw (← c.self.view_is)
    (c.duty_of.ensures ∙ ap duty_if (next-is book c.withdraw_if-dropped.new.book.book (registered_only book had) _ (option_map finalizer_registration c.args.finalizer) gone c.register_if-ticket.ensures.ticket))

pub returns-clause-set : goal.returns-clause-set
returns-clause-set c =
    let book = c.self.inside.book.book in
    let had = option_map (λ (t : Ticket). t.0) c.ticket.result in
    let gone = gone-is book c.reserve_if.new.book.book c.withdraw_if-dropped.new.book.book had c.reserve_if.ensures.same c.withdraw_if-dropped.ensures.withdrawn in
    let made = next-is book c.withdraw_if-dropped.new.book.book (registered_only book had) _ (option_map finalizer_registration c.args.finalizer) gone c.register_if-ticket.ensures.ticket in
    rw (← c.self.view_is) (rw (c.set.ensures, made, c.register_if-ticket.ensures.registered, gone, c.ticket.ensures) refl)
