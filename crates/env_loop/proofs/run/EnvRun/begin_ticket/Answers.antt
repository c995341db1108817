use Rattle.std.proofs.Common.{◌∙◌, Some, ap}
use Rattle.std.proofs.lemmas.List.{length-map}
use Rattle.napi_types.specs.declared.duties.DueInfo.{DueInfo}
use Rattle.env_loop.proofs.Turns.{idle-seen}
use Rattle.env_loop.proofs.TicketTurns.{ticket-running, ticket-turn-seen}
use Rattle.env_loop.proofs.run.EnvRun.begin_ticket.Goals as goal

pub invariant_of-self : goal.invariant_of-self
invariant_of-self g c =
    ticket-running _ _ _ _ _ c.in-Some.due (idle-seen _ _ c.self.view_is c.self.invariant c.requires.unowed c.requires.alone) c.in-Some.ensures.begun
    (c.keep.ensures ∙ ap (λ (d : DueInfo). Some d) c.begin_at-started.ensures.begun)

pub returns-clause-made : goal.returns-clause-made
returns-clause-made g c =
    ticket-turn-seen _ _ _ _ _ c.next_local.new.self c.keep.new.begun c.in-Some.due c.info.result.now c.self.view_is
    (idle-seen _ _ c.self.view_is c.self.invariant c.requires.unowed c.requires.alone) c.requires.next c.in-Some.ensures.begun
    (rw (length-map c.args.addons.now.items _) c.requires.enough) (rw (length-map c.args.addons.now.items _) c.requires.enough)
    c.info.ensures c.begin_at-started.ensures.regs c.begin_at-started.ensures.seen (c.keep.ensures ∙ ap (λ (d : DueInfo). Some d) c.begin_at-started.ensures.begun)
