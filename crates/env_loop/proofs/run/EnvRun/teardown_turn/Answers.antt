use Rattle.std.proofs.Common.{◌<◌, ap, subst, sym, ◌∙◌}
use Rattle.std.proofs.lemmas.List.{length-map}
use Rattle.napi_types.proofs.hub.HubDuties.{delivery-of_hub}
use Rattle.env_core.specs.Core.{Core}
use Rattle.env_loop.specs.RecordedRuns.{Run}
use Rattle.env_loop.proofs.Deliveries.{delivered-there, delivery-turn}
use Rattle.env_loop.proofs.EventTurns.{at-hub}
use Rattle.env_loop.proofs.PlainEvents.{moved-turn, plain-running}
use Rattle.env_loop.proofs.TearTurns.{tears-at, torn-local, torn-open, torn-moves, torn-begins}
use Rattle.env_loop.proofs.run.EnvRun.teardown_turn.Goals as goal

pub invariant_of-self : goal.invariant_of-self
invariant_of-self g c =
    let n = g.N.Naming.numbers in
    let run : Run = record { core = c.self.inside.core; begun = c.self.inside.begun; ending = c.self.inside.ending } in
    let at = at-hub n run c.args.self.now c.args.hub.now c.self.view_is c.self.invariant c.requires.unowed c.requires.needs c.requires.led c.requires.fits in
    let t = tears-at n run c.args.self.now c.args.hub.now c.self.view_is at c.requires.later in
    let e = c.in-Moved.ensures in
    let m =
    torn-moves g.row.J.Denot n run c.args.hub.now c.teardown_step.new.hub c.teardown_step.new.core t
    (λ none. let no = e.nothing.1 (torn-local n run c.args.hub.now t, none) in cc)
    e.step (record { event = e.event; abandoned = e.abandoned; drained = e.drained; finals = e.finals; closed = e.closed; finished = e.finished }) in
    plain-running n run c.args.hub.now c.teardown_step.new.hub c.teardown_step.new.core at m

pub deliver-requires-clause-hub : goal.deliver-requires-clause-hub
deliver-requires-clause-hub g c = λ κs inside.
    let n = g.N.Naming.numbers in
    let run : Run = record { core = c.self.inside.core; begun = c.self.inside.begun; ending = c.self.inside.ending } in
    let at = at-hub n run c.args.self.now c.args.hub.now c.self.view_is c.self.invariant c.requires.unowed c.requires.needs c.requires.led c.requires.fits in
    let t = tears-at n run c.args.self.now c.args.hub.now c.self.view_is at c.requires.later in
    let e = c.in-Begin.ensures in
    let b =
    torn-begins g.row.J.Denot n run c.args.hub.now c.teardown_step.new.hub c.in-Begin.due c.in-Begin.field-1 t
    (λ none. let no = e.nothing.1 (torn-local n run c.args.hub.now t, none) in cc) e.step e.event in
    (delivery-of_hub c.args.hub.now.hub c.in-Begin.due b.move).ours

pub deliver-requires-clause-uncalled : goal.deliver-requires-clause-uncalled
deliver-requires-clause-uncalled g c = λ κs inside.
    let n = g.N.Naming.numbers in
    let run : Run = record { core = c.self.inside.core; begun = c.self.inside.begun; ending = c.self.inside.ending } in
    let at = at-hub n run c.args.self.now c.args.hub.now c.self.view_is c.self.invariant c.requires.unowed c.requires.needs c.requires.led c.requires.fits in
    let t = tears-at n run c.args.self.now c.args.hub.now c.self.view_is at c.requires.later in
    let e = c.in-Begin.ensures in
    let b =
    torn-begins g.row.J.Denot n run c.args.hub.now c.teardown_step.new.hub c.in-Begin.due c.in-Begin.field-1 t
    (λ none. let no = e.nothing.1 (torn-local n run c.args.hub.now t, none) in cc) e.step e.event in
    (delivery-of_hub c.args.hub.now.hub c.in-Begin.due b.move).uncalled

pub deliver-requires-clause-there : goal.deliver-requires-clause-there
deliver-requires-clause-there g c = λ κs inside.
    let n = g.N.Naming.numbers in
    let run : Run = record { core = c.self.inside.core; begun = c.self.inside.begun; ending = c.self.inside.ending } in
    let at = at-hub n run c.args.self.now c.args.hub.now c.self.view_is c.self.invariant c.requires.unowed c.requires.needs c.requires.led c.requires.fits in
    let t = tears-at n run c.args.self.now c.args.hub.now c.self.view_is at c.requires.later in
    let e = c.in-Begin.ensures in
    let b =
    torn-begins g.row.J.Denot n run c.args.hub.now c.teardown_step.new.hub c.in-Begin.due c.in-Begin.field-1 t
    (λ none. let no = e.nothing.1 (torn-local n run c.args.hub.now t, none) in cc) e.step e.event in
    subst (λ (k : Core). c.in-Begin.due.addon < k.env.addons) (sym (e.core (λ z. cc)))
    (delivered-there run.core.env.addons c.args.hub.now.hub c.in-Begin.due at.fits.owned b.move)

pub deliver-requires-clause-lasts : goal.deliver-requires-clause-lasts
deliver-requires-clause-lasts g c = λ κs inside.
    let n = g.N.Naming.numbers in
    let run : Run = record { core = c.self.inside.core; begun = c.self.inside.begun; ending = c.self.inside.ending } in
    let at = at-hub n run c.args.self.now c.args.hub.now c.self.view_is c.self.invariant c.requires.unowed c.requires.needs c.requires.led c.requires.fits in
    let t = tears-at n run c.args.self.now c.args.hub.now c.self.view_is at c.requires.later in
    λ gone. torn-open n run c.args.hub.now t (ap (λ (k : Core). k.env.phase) (sym (c.in-Begin.ensures.core (λ z. cc))) ∙ gone)

pub returns-in-Moved-clause-turn : goal.returns-in-Moved-clause-turn
returns-in-Moved-clause-turn g c =
    let n = g.N.Naming.numbers in
    let run : Run = record { core = c.self.inside.core; begun = c.self.inside.begun; ending = c.self.inside.ending } in
    let at = at-hub n run c.args.self.now c.args.hub.now c.self.view_is c.self.invariant c.requires.unowed c.requires.needs c.requires.led c.requires.fits in
    let t = tears-at n run c.args.self.now c.args.hub.now c.self.view_is at c.requires.later in
    let e = c.in-Moved.ensures in
    let m =
    torn-moves g.row.J.Denot n run c.args.hub.now c.teardown_step.new.hub c.teardown_step.new.core t
    (λ none. let no = e.nothing.1 (torn-local n run c.args.hub.now t, none) in cc)
    e.step (record { event = e.event; abandoned = e.abandoned; drained = e.drained; finals = e.finals; closed = e.closed; finished = e.finished }) in
    moved-turn n _ run c.args.self.now c.args.hub.now c.teardown_step.new.hub _ c.teardown_step.new.core c.self.view_is at m

pub returns-in-Begin-clause-turn : goal.returns-in-Begin-clause-turn
returns-in-Begin-clause-turn g c =
    let n = g.N.Naming.numbers in
    let run : Run = record { core = c.self.inside.core; begun = c.self.inside.begun; ending = c.self.inside.ending } in
    let at = at-hub n run c.args.self.now c.args.hub.now c.self.view_is c.self.invariant c.requires.unowed c.requires.needs c.requires.led c.requires.fits in
    let t = tears-at n run c.args.self.now c.args.hub.now c.self.view_is at c.requires.later in
    let e = c.in-Begin.ensures in
    let b =
    torn-begins g.row.J.Denot n run c.args.hub.now c.teardown_step.new.hub c.in-Begin.due c.in-Begin.field-1 t
    (λ none. let no = e.nothing.1 (torn-local n run c.args.hub.now t, none) in cc) e.step e.event in
    delivery-turn n _ run (record run { core = c.teardown_step.new.core }) c.args.self.now c.deliver.new.self c.args.hub.now c.teardown_step.new.hub _ _
    c.in-Begin.due c.self.view_is at b (rw (length-map c.args.addons.now.items _) c.requires.enough)
    (rw (length-map c.args.addons.now.items _) c.requires.enough)
    (ap (λ (k : Core). record run { core = k }) (e.core (λ z. cc)) ∙ c.self.view_is) c.deliver.ensures.began
