use Rattle.std.proofs.Common.{◌∙◌, ap, refl}
use Rattle.napi_types.specs.plain.Lists.{tail}
use Rattle.napi_types.specs.parts.Frames.{duty_of}
use Rattle.napi_types.specs.environment.Environment.{Environment}
use Rattle.env_values.specs.SeenValues.{seen_frame}
use Rattle.env_core.specs.contracts.state.State.{the_view}
use Rattle.env_core.proofs.Beginning.{begun-none, innermost-begun, left-with}
use Rattle.env_core.proofs.Ending.{state-left}
use Rattle.env_core.proofs.Promising.{promised-ended, seen-ended}
use Rattle.env_core.proofs.SeenScopes.{map-tail}
use Rattle.env_core.proofs.state.State.end_duty.Goals as goal

pub end_ticket-requires : goal.end_ticket-requires
end_ticket-requires c =
    let s = c.self.inside in
    let same = ap (λ (e : Environment). e.frames) (c.self.view_is ∙ c.clear_at_end-out.ensures.cleared) in
    innermost-begun s.frames s.registry.parts.book c.args.begun.duty (ap duty_of same ∙ c.requires.duty) c.requires.local c.self.invariant.2

pub invariant_of-self : goal.invariant_of-self
invariant_of-self c =
    let s = c.self.inside in
    let same = ap (λ (e : Environment). e.frames) (c.self.view_is ∙ c.clear_at_end-out.ensures.cleared) in (
      state-left s.store s.scopes c.leave_frame.new.self s.frames c.pop.new.self s.exceptions.pending s.exceptions.pending c.self.invariant.0 c.leave_frame.ensures c.pop.ensures c.self.invariant.0.pending,
      rw c.end_ticket.ensures c.self.invariant.1,
      begun-none c.pop.new.self c.end_ticket.new.self.parts.book (c.pop.ensures ∙ ap tail same ∙ c.requires.alone),
      rw c.end_ticket.ensures (record {
        promises = promised-ended s.store s.registry.parts.promises c.args.begun.duty c.self.invariant.3.promises;
        buffers = c.self.invariant.3.buffers;
      }),
    )

pub returns-clause-after : goal.returns-clause-after
returns-clause-after c =
    let s = c.self.inside in
    left-with c.args.self.now (the_view s) _ c.args.cut c.args.begun.duty (c.self.view_is ∙ c.clear_at_end-out.ensures.cleared) c.requires.duty
    (rw (
      c.leave_frame.ensures,
      c.pop.ensures,
      c.end_ticket.ensures,
      map-tail (seen_frame s.store) s.scopes.frames,
      seen-ended s.store s.registry.parts.promises c.args.begun.duty,
    ) refl)
