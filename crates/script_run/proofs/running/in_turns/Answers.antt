use Rattle.std.proofs.Common.{ap, length, [], refl, unwrap_or, ◌∙◌}
use Rattle.std.proofs.lemmas.List.{length-map}
use Rattle.script_run.proofs.Ran.{ran-of}
use Rattle.script_run.proofs.Loading.{others-stay, whole-ended, whole-arose}
use Rattle.script_run.proofs.EndedActors.{in-order, all-unstarted, scripts-have, threads-did, workers-did, all-free}
use Rattle.script_run.proofs.running.in_turns.Goals as goal

pub step_all-requires-clause-order : goal.step_all-requires-clause-order
step_all-requires-clause-order g c κs within =
    in-order _ c.args.script.threads c.args.script.workers c.in_ok-opening.opening.actors.items c.in_ok-opening.ensures.actors _ c.requires.named

pub step_all-requires-clause-fresh : goal.step_all-requires-clause-fresh
step_all-requires-clause-fresh g c κs within =
    all-unstarted _ c.args.script.threads c.args.script.workers c.in_ok-opening.opening.actors.items c.in_ok-opening.ensures.actors

pub retire_all-requires : goal.retire_all-requires
retire_all-requires g c =
    let ran = c.step_all.ensures in
    all-free 0 [] 0 c.args.script.threads c.args.script.workers _ c.requires.named c.step_all.new.hub c.in_ok-opening.opening.actors.items c.step_all.new.actors.items
    c.in_ok-opening.ensures.actors ran.same ran.stands ran.over c.invariant.ensures

pub returns-clause-ran : goal.returns-clause-ran
returns-clause-ran g c =
    let script = c.args.script in
    let ran = c.step_all.ensures in
    ran-of script _ _ _ c.into_record.result c.requires.small (ap length c.items-2.ensures) (rw (length-map c.args.addons.now.items _) c.requires.enough)
    (whole-ended script.addons _ _ _ _ _ (length script.threads) script.workers _ _ c.in_ok-opening.opening.env _ (rw (length-map c.args.addons.now.items _) c.requires.enough)
    (ap length c.items.ensures) refl c.in_ok-opening.ensures.env c.requires.named c.load_all.ensures.plans c.load_all.ensures.blank
    _ c.into_record.result.journal c.into_record.result.history _ _ c.load_all.ensures.seen ran.ended c.into_record.ensures.journal c.into_record.ensures.history)
    (ran.plans.same ∙ c.load_all.ensures.plans)
    (others-stay _ _ _ _ _ _ c.in_ok-opening.opening.env _ _ _ refl c.in_ok-opening.ensures.env (ap length c.items.ensures)
    ran.others c.load_all.ensures.others)
    (threads-did _ _ _ script.threads script.workers _ c.requires.named c.step_all.new.hub c.in_ok-opening.opening.actors.items c.step_all.new.actors.items
    c.in_ok-opening.ensures.actors ran.same ran.stands ran.over c.into_record.result.history c.into_record.ensures.history)
    (workers-did 0 [] 0 script.threads script.workers _ c.requires.named c.step_all.new.hub c.in_ok-opening.opening.actors.items c.step_all.new.actors.items
    c.in_ok-opening.ensures.actors ran.same ran.stands ran.over c.into_record.result.history c.into_record.ensures.history)
    (λ words is.
    whole-arose script.addons _ _ _ _ _ (length script.threads) script.workers _ _ c.in_ok-opening.opening.env _ (rw (length-map c.args.addons.now.items _) c.requires.enough)
    (ap length c.items.ensures) refl c.in_ok-opening.ensures.env c.requires.named c.load_all.ensures.plans c.load_all.ensures.blank
    _ c.into_record.result.journal c.into_record.result.history script.threads _ _ words (c.words_of.ensures ∙ ap (λ o. unwrap_or o []) is) ran.arose
    (scripts-have _ script.threads script.workers c.in_ok-opening.opening.actors.items c.in_ok-opening.ensures.actors)
    c.into_record.ensures.journal c.into_record.ensures.history)
