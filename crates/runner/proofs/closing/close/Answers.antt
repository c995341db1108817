use Rattle.std.proofs.Common.{◌≡◌, ◌∙◌, ap, subst}
use mathlib.Core.List.{IsPrefix}
use Rattle.turn_lock.specs.Rows.{own_rows}
use Rattle.shared_hub.specs.HubStates.{HubSeen}
use Rattle.shared_hub.specs.KeptHubs.{IsLedHub}
use Rattle.runner.proofs.ClosedRuns.{led-whole, ended-whole, all-stay, passes-left}
use Rattle.runner.proofs.closing.close.Goals as goal

pub returns-clause-seen : goal.returns-clause-seen
returns-clause-seen g c =
    passes-left g.N.Naming.numbers c.close.result.value c.into_record.result (c.into_record.ensures.history ∙ ap (λ (s : HubSeen). s.history) c.into_inner-state.ensures)
    (λ p rows. IsPrefix p.seen rows) c.args.passes.items c.close.ensures.seen

pub returns-clause-own : goal.returns-clause-own
returns-clause-own g c =
    passes-left g.N.Naming.numbers c.close.result.value c.into_record.result (c.into_record.ensures.history ∙ ap (λ (s : HubSeen). s.history) c.into_inner-state.ensures)
    (λ p rows. p.own ≡ own_rows p.number rows) c.args.passes.items c.close.ensures.own

pub returns-clause-led : goal.returns-clause-led
returns-clause-led g c = led-whole g.N.Naming.numbers c.into_inner-state.result c.into_record.result c.invariant.ensures c.into_record.ensures.history

pub returns-clause-ended : goal.returns-clause-ended
returns-clause-ended g c =
    ended-whole g.N.Naming.numbers c.close.result.value
    (subst (IsLedHub g.N.Naming.numbers) c.into_inner-state.ensures c.invariant.ensures) c.into_record.result c.args.env
    (c.into_record.ensures.history ∙ ap (λ (s : HubSeen). s.history) c.into_inner-state.ensures) c.into_record.ensures.journal c.requires.gone
    c.args.hub.passes c.args.passes.items c.requires.every c.close.ensures.seen c.close.ensures.own

pub returns-clause-actors : goal.returns-clause-actors
returns-clause-actors g c =
    all-stay g.N.Naming.numbers c.close.result.value (subst (IsLedHub g.N.Naming.numbers) c.into_inner-state.ensures c.invariant.ensures) c.into_record.result
    (c.into_record.ensures.history ∙ ap (λ (s : HubSeen). s.history) c.into_inner-state.ensures) c.args.passes.items c.close.ensures.seen c.close.ensures.own
