use Rattle.std.proofs.Common.{◌≡◌, ◌<◌, ◌↔◌, true, false, Some, None, ap, subst, sym, ◌∙◌}
use Rattle.std.proofs.lemmas.List.{length-map}
use Rattle.napi_types.specs.declared.entry.LoopEnd.TheVariants as loop_end
use Rattle.napi_types.specs.hub.HubMoves.{Delivers, hub_move}
use Rattle.napi_types.specs.hub.HubOwners.{IsOwnedHub}
use Rattle.napi_types.specs.runs.Choice.{local_choice}
use Rattle.napi_types.specs.runs.Loop.{EndsLoop}
use Rattle.napi_types.proofs.hub.HubDuties.{delivery-of_hub}
use Rattle.env_core.specs.Core.{Core}
use Rattle.env_loop.specs.RecordedRuns.{Run, IsRunning}
use Rattle.env_loop.specs.contracts.run.EnvRun.{the_view}
use Rattle.env_loop.proofs.Deliveries.{delivered-there, delivery-turn}
use Rattle.env_loop.proofs.EventTurns.{at-hub}
use Rattle.env_loop.proofs.LoopTurns.{loop-next, close-moves, loop_end-moves}
use Rattle.env_loop.proofs.PlainEvents.{moved-turn, plain-running}
use Rattle.env_loop.proofs.run.EnvRun.loop_turn.Goals.{then-not-exit+in-Nothing, else-not-exit}
use Rattle.env_loop.proofs.run.EnvRun.loop_turn.Goals as goal

pub deliver-requires-clause-hub : goal.deliver-requires-clause-hub
deliver-requires-clause-hub g c = λ κs inside. (delivery-of_hub c.args.hub.now.hub c.in-Begin.due (sym c.in-Begin.ensures.taken)).ours

pub deliver-requires-clause-uncalled : goal.deliver-requires-clause-uncalled
deliver-requires-clause-uncalled g c = λ κs inside. (delivery-of_hub c.args.hub.now.hub c.in-Begin.due (sym c.in-Begin.ensures.taken)).uncalled

pub deliver-requires-clause-there : goal.deliver-requires-clause-there
deliver-requires-clause-there g c = λ κs inside.
    let run : Run = record { core = c.self.inside.core; begun = c.self.inside.begun; ending = c.self.inside.ending } in
    let owned = subst (λ (r : Run). IsOwnedHub r.core.env.addons c.args.hub.now.hub) (sym c.self.view_is) c.requires.fits.owned in
    let move = sym c.in-Begin.ensures.taken in
    subst (λ (k : Core). c.in-Begin.due.addon < k.env.addons) (sym (c.in-Begin.ensures.begun c.in-Begin.due move))
    (delivered-there run.core.env.addons c.args.hub.now.hub c.in-Begin.due owned move)

pub returns-in-Begin-clause-turn : goal.returns-in-Begin-clause-turn
returns-in-Begin-clause-turn g c =
    let n = g.N.Naming.numbers in
    let run : Run = record { core = c.self.inside.core; begun = c.self.inside.begun; ending = c.self.inside.ending } in
    let at = at-hub n run c.args.self.now c.args.hub.now c.self.view_is c.self.invariant c.requires.unowed c.requires.needs c.requires.led c.requires.fits in
    let here = ap (λ (r : Run). r.core.env.phase) c.self.view_is ∙ c.requires.live in
    let e = c.in-Begin.ensures in
    let move = sym e.taken in
    let next =
    loop-next n run c.args.hub.now (Some (Delivers c.in-Begin.due)) at here
    (λ e. let no : false ≡ true = sym c.if-not-exit.true ∙ c.is_exit-exit.ensures.1 e in cc) move in
    delivery-turn n _ run (record run { core = c.poll_into.new.core }) c.args.self.now c.deliver.new.self c.args.hub.now c.poll_into.new.hub _ _ c.in-Begin.due
    c.self.view_is at (record { next = next; move = move; adds = e.event })
    (rw (length-map c.args.addons.now.items _) c.requires.enough) (rw (length-map c.args.addons.now.items _) c.requires.enough)
    (ap (λ (k : Core). record run { core = k }) (e.begun c.in-Begin.due move) ∙ c.self.view_is) c.deliver.ensures.began

pub invariant_of-self-in-Closed : goal.invariant_of-self-in-Closed
invariant_of-self-in-Closed g c =
    let n = g.N.Naming.numbers in
    let run : Run = record { core = c.self.inside.core; begun = c.self.inside.begun; ending = c.self.inside.ending } in
    let at = at-hub n run c.args.self.now c.args.hub.now c.self.view_is c.self.invariant c.requires.unowed c.requires.needs c.requires.led c.requires.fits in
    let here = ap (λ (r : Run). r.core.env.phase) c.self.view_is ∙ c.requires.live in
    let e = c.poll_into.ensures in
    let m =
    close-moves g.row.J.Denot n run c.args.hub.now c.poll_into.new.hub c.poll_into.new.core c.poll_into.result at here
    (λ e. let no : false ≡ true = sym c.if-not-exit.true ∙ c.is_exit-exit.ensures.1 e in cc)
    (record { is = c.in-Closed.is; taken = e.taken; adds = e.event; closed = e.closed; finished = e.finished }) in
    plain-running n run c.args.hub.now c.poll_into.new.hub c.poll_into.new.core at m

pub returns-in-Closed-clause-turn : goal.returns-in-Closed-clause-turn
returns-in-Closed-clause-turn g c =
    let n = g.N.Naming.numbers in
    let run : Run = record { core = c.self.inside.core; begun = c.self.inside.begun; ending = c.self.inside.ending } in
    let at = at-hub n run c.args.self.now c.args.hub.now c.self.view_is c.self.invariant c.requires.unowed c.requires.needs c.requires.led c.requires.fits in
    let here = ap (λ (r : Run). r.core.env.phase) c.self.view_is ∙ c.requires.live in
    let e = c.poll_into.ensures in
    let m =
    close-moves g.row.J.Denot n run c.args.hub.now c.poll_into.new.hub c.poll_into.new.core c.poll_into.result at here
    (λ e. let no : false ≡ true = sym c.if-not-exit.true ∙ c.is_exit-exit.ensures.1 e in cc)
    (record { is = c.in-Closed.is; taken = e.taken; adds = e.event; closed = e.closed; finished = e.finished }) in
    moved-turn n _ run c.args.self.now c.args.hub.now c.poll_into.new.hub _ c.poll_into.new.core c.self.view_is at m

pub returns-in_default-clause-turn : goal.returns-in_default-clause-turn
returns-in_default-clause-turn g c =
    let n = g.N.Naming.numbers in
    let run : Run = record { core = c.self.inside.core; begun = c.self.inside.begun; ending = c.self.inside.ending } in
    let mid : Run = the_view c.if-not-exit.self-inside in
    let still : mid ≡ run = elim c.if-not-exit.branch [
      | then-not-exit+in-Nothing w ↦ ap the_view w.self-inside-is
          ∙ ap (λ (k : Core). record run { core = k }) (w.in-Nothing.ensures.nothing (sym w.in-Nothing.ensures.taken))
      | else-not-exit w ↦ ap the_view w.self-inside-is
    ] in
    let polled : (c.if-not-exit.hub ≡ c.args.hub.now) × (c.is_exit-exit.result ≡ false → hub_move c.args.hub.now.hub ≡ None) = elim c.if-not-exit.branch [
      | then-not-exit+in-Nothing w ↦ (w.hub-is ∙ w.in-Nothing.ensures.event, λ z. sym w.in-Nothing.ensures.taken)
      | else-not-exit w ↦ (w.hub-is, λ z. let no : true ≡ false = sym w.if-not-exit.false ∙ z in cc)
    ] in
    let same : mid ≡ c.args.self.now = still ∙ c.self.view_is in
    let running : IsRunning mid.core mid.begun mid.ending = subst (λ (r : Run). IsRunning r.core r.begun r.ending) (sym still) c.self.invariant in
    let at = at-hub n mid c.args.self.now c.args.hub.now same running c.requires.unowed c.requires.needs c.requires.led c.requires.fits in
    let here = ap (λ (r : Run). r.core.env.phase) same ∙ c.requires.live in
    let asked =
    subst (λ (r : Run). (c.is_exit-exit.result ≡ true) ↔ (local_choice r.core.env ≡ Some (EndsLoop loop_end.Exit))) (sym still) c.is_exit-exit.ensures in
    moved-turn n _ mid c.args.self.now c.args.hub.now c.loop_end.new.self _ c.advance.new.self same at
    (loop_end-moves n mid c.args.hub.now c.if-not-exit.hub c.loop_end.new.self c.advance.new.self c.is_exit-exit.result c.in_default.field-0
    c.position.result at here asked polled.1 polled.0 c.in_default.ensures.reason c.in_default.ensures.ended c.position.ensures c.advance.ensures)
