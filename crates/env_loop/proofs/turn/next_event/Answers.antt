use Rattle.std.proofs.Common.{◌≡◌, ◌∙◌, sym}
use Rattle.napi_types.specs.declared.entry.Phase.TheVariants as phase
use Rattle.env_loop.proofs.TicketTurns.{ticket-is-next}
use Rattle.env_loop.proofs.turn.next_event.Goals as goal

pub returns-in-Hooks : goal.returns-in-Hooks
returns-in-Hooks c = ticket-is-next c.args.core.now.env (λ live. let no : phase.Hooks ≡ phase.Live = c.in-Hooks.ensures ∙ live in cc) (sym c.if-has_local.ensures)

pub returns-in-Finals : goal.returns-in-Finals
returns-in-Finals c = ticket-is-next c.args.core.now.env (λ live. let no : phase.Finals ≡ phase.Live = c.in-Finals.ensures ∙ live in cc) (sym c.if-has_local-2.ensures)
