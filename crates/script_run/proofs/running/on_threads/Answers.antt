use Rattle.std.proofs.Common.{◌≡◌, ap, arith, sym, length, [], refl, true, false, is_some, ◌∙◌}
use Rattle.std.proofs.lemmas.List.{length-map}
use Rattle.shared_hub.specs.HubStates.{hub_seen}
use Rattle.script_run.proofs.Ran.{ran-of}
use Rattle.script_run.proofs.Loading.{others-stay, whole-ended}
use Rattle.script_run.proofs.EndedActors.{in-order, all-unstarted, threads-did, workers-did}
use Rattle.script_run.proofs.running.on_threads.Goals as goal

pub new-requires-clause-few : goal.new-requires-clause-few
new-requires-clause-few g c κs within =
    let few = c.requires.small.actors in
    rw c.requires.named (omega (arith, few.threads_few, few.workers_few))

pub new-requires-clause-order : goal.new-requires-clause-order
new-requires-clause-order g c κs within =
    in-order _ c.args.script.threads c.args.script.workers c.in_ok-opening.opening.actors.items c.in_ok-opening.ensures.actors _ c.requires.named

pub new-requires-clause-fresh : goal.new-requires-clause-fresh
new-requires-clause-fresh g c κs within =
    all-unstarted _ c.args.script.threads c.args.script.workers c.in_ok-opening.opening.actors.items c.in_ok-opening.ensures.actors

pub returns-clause-ran : goal.returns-clause-ran
returns-clause-ran g c =
    let script = c.args.script in
    let last = c.run.ensures.actors in
    ran-of script _ _ _ c.run.result c.requires.small (ap length c.items-2.ensures) (rw (length-map c.args.addons.now.items _) c.requires.enough)
    (whole-ended script.addons _ _ _ _ _ (length script.threads) script.workers _ _ c.in_ok-opening.opening.env _ (rw (length-map c.args.addons.now.items _) c.requires.enough)
    (ap length c.items.ensures) refl c.in_ok-opening.ensures.env c.requires.named c.load_all.ensures.plans c.load_all.ensures.blank
    c.run.result c.run.result.journal c.run.result.history _ _ c.load_all.ensures.seen c.run.ensures.ended refl refl)
    (c.run.ensures.plans.same ∙ c.load_all.ensures.plans)
    (others-stay _ _ _ _ _ _ c.in_ok-opening.opening.env _ _ _ refl c.in_ok-opening.ensures.env (ap length c.items.ensures)
    c.run.ensures.others c.load_all.ensures.others)
    (threads-did _ _ _ script.threads script.workers _ c.requires.named (hub_seen g.N.Naming.numbers c.run.result.history) c.in-Ok.crew last.0
    (c.in-Ok.ensures ∙ c.in_ok-opening.ensures.actors) last.1 last.2 last.3 c.run.result.history refl)
    (workers-did 0 [] 0 script.threads script.workers _ c.requires.named (hub_seen g.N.Naming.numbers c.run.result.history) c.in-Ok.crew last.0
    (c.in-Ok.ensures ∙ c.in_ok-opening.ensures.actors) last.1 last.2 last.3 c.run.result.history refl)
    (λ words is. (let no : true ≡ false = sym (ap (λ o. is_some o) is) ∙ sym c.is_some.ensures ∙ c.if-is_some.false in cc))
