use Rattle.std.proofs.Common.{arith, refl, inl, [], ◌∷◌, ◌∙◌, ap, sym}
use Rattle.std.proofs.lemmas.List.{length-map}
use Rattle.napi_types.specs.plain.Guards.{is_shared}
use Rattle.napi_types.specs.plain.Lists.{head}
use Rattle.env_core.specs.Core.{Core}
use Rattle.env_core.specs.Standing.{machine_frame}
use Rattle.env_loop.specs.declared.run.FrameEnd.TheVariants as end
use Rattle.env_loop.specs.RecordedRuns.{Run, pending_at_hub}
use Rattle.env_loop.proofs.CallTurns.{replied-turn, replied-running, entered-turn, entered-running, entered-idle, target-there, is-true, not-shared, shared-more, shared-running}
use Rattle.env_loop.proofs.CutTurns.{stopped-ends}
use Rattle.env_loop.proofs.EndTurns.{ends-turn-at}
use Rattle.env_loop.proofs.FrameTurns.{stands-some, duty-told}
use Rattle.env_loop.proofs.MadeTurns.{turn-made, turn-owes}
use Rattle.env_loop.proofs.RegisterTurns.{told-from, given-from}
use Rattle.env_loop.proofs.run.EnvRun.step_turn.Goals as goal

-- ITS CALL STOPPED
pub returns-in-Stop-clause-goes : goal.returns-in-Stop-clause-goes
returns-in-Stop-clause-goes g c =
    let top = ap (λ (r : Run). head r.core.env.frames) c.self.view_is ∙ c.requires.stands in
    let idle = ap (λ (r : Run). r.core.awaited) c.self.view_is ∙ c.requires.idle in
    let unended = ap (λ (r : Run). r.ending) c.self.view_is ∙ c.requires.unended in
    rw (← c.self.view_is) (ends-turn-at _ _ _ _ _ _ _ _ _ _ (end.Cut c.why.result) c.end_turn.result
    (stopped-ends (record { sound = c.self.invariant.sound; top = top; asked = c.requires.asked }) idle unended c.requires.within c.args.call.now
    c.in-Stop.status c.why.result c.step.new.self refl
    c.why.ensures (record { local = c.in-Stop.ensures.cause; shared = c.in-Stop.ensures.shared }))
    (duty-told _ _ top) (ap (λ x. record { core = x; begun = c.self.inside.begun; ending = c.self.inside.ending }) c.in-Stop.ensures.stop)
    refl refl
    c.end_turn.ensures.ends c.end_turn.ensures.seen c.end_turn.ensures.turn)

-- IT IS REPLIED TO
pub invariant_of-self : goal.invariant_of-self
invariant_of-self g c =
    let top = ap (λ (r : Run). head r.core.env.frames) c.self.view_is ∙ c.requires.stands in
    let idle = ap (λ (r : Run). r.core.awaited) c.self.view_is ∙ c.requires.idle in
    let unended = ap (λ (r : Run). r.ending) c.self.view_is ∙ c.requires.unended in
    replied-running c.self.inside.core (record { sound = c.self.invariant.sound; top = top; asked = c.requires.asked }) c.args.call.now c.in-Reply.reply
    c.step.new.self
    c.self.inside.begun c.self.inside.ending idle unended c.requires.within c.in-Reply.ensures.reply c.self.invariant.held

pub returns-in-Reply-clause-goes : goal.returns-in-Reply-clause-goes
returns-in-Reply-clause-goes g c =
    let top = ap (λ (r : Run). head r.core.env.frames) c.self.view_is ∙ c.requires.stands in
    let idle = ap (λ (r : Run). r.core.awaited) c.self.view_is ∙ c.requires.idle in
    let unended = ap (λ (r : Run). r.ending) c.self.view_is ∙ c.requires.unended in
    let local = not-shared c.args.call.now c.in-Reply.ensures.shared in
    let told = told-from _ _ _ _ _ (machine_frame c.args.frame.now ∷ []) c.in-Reply.reply refl refl
    (c.note_at.ensures.others, c.note_at.ensures.kept) in
    rw (← c.self.view_is) (replied-turn {old = record { core = c.self.inside.core; begun = c.self.inside.begun; ending = c.self.inside.ending }}
    (record { sound = c.self.invariant.sound; top = top; asked = c.requires.asked }) c.args.call.now c.in-Reply.reply c.step.new.self _ idle unended
    c.requires.within refl local
    c.in-Reply.ensures.reply told.0 told.1 c.note_at.ensures.seen)

-- IT ENTERS A FRAME
pub enter_at-requires : goal.enter_at-requires
enter_at-requires g c =
    let there = target-there c.self.inside.core c.args.call.now c.in-Enter.target c.in-Enter.gifts c.step.new.self c.self.invariant.sound c.in-Enter.ensures.enter
    in
    let same = ap (λ (r : Run). r.core.env.addons) c.self.view_is in
    omega (arith, there, same, c.requires.enough)

pub invariant_of-self-in-Enter : goal.invariant_of-self-in-Enter
invariant_of-self-in-Enter g c =
    let top = ap (λ (r : Run). head r.core.env.frames) c.self.view_is ∙ c.requires.stands in
    let idle = ap (λ (r : Run). r.core.awaited) c.self.view_is ∙ c.requires.idle in
    let unended = ap (λ (r : Run). r.ending) c.self.view_is ∙ c.requires.unended in
    entered-running c.self.inside.core (record { sound = c.self.invariant.sound; top = top; asked = c.requires.asked }) c.args.call.now c.in-Enter.target
    c.in-Enter.gifts c.step.new.self
    c.self.inside.begun c.self.inside.ending idle unended c.requires.within c.in-Enter.ensures.enter c.self.invariant.held

pub returns-in-Enter-clause-turn : goal.returns-in-Enter-clause-turn
returns-in-Enter-clause-turn g c =
    let idle = ap (λ (r : Run). r.core.awaited) c.self.view_is ∙ c.requires.idle in
    let unended = ap (λ (r : Run). r.ending) c.self.view_is ∙ c.requires.unended in
    sym (turn-made (record { core = c.step.new.self; begun = c.self.inside.begun; ending = c.self.inside.ending }) c.args.self.now.core.env
    (entered-idle c.self.inside.core c.args.call.now c.in-Enter.target c.in-Enter.gifts c.step.new.self idle c.in-Enter.ensures.enter) unended
    (stands-some _ _ c.requires.stands))

pub returns-in-Enter-clause-goes : goal.returns-in-Enter-clause-goes
returns-in-Enter-clause-goes g c =
    let top = ap (λ (r : Run). head r.core.env.frames) c.self.view_is ∙ c.requires.stands in
    let idle = ap (λ (r : Run). r.core.awaited) c.self.view_is ∙ c.requires.idle in
    let unended = ap (λ (r : Run). r.ending) c.self.view_is ∙ c.requires.unended in
    let same = ap (λ (r : Run). r.core.env.addons) c.self.view_is in
    rw (← c.self.view_is) (entered-turn {old = record { core = c.self.inside.core; begun = c.self.inside.begun; ending = c.self.inside.ending }}
    (record { sound = c.self.invariant.sound; top = top; asked = c.requires.asked }) c.args.call.now c.in-Enter.target c.in-Enter.gifts c.step.new.self _ idle
    unended c.requires.within refl
    c.in-Enter.ensures.enter (rw (length-map c.args.addons.now.items _) (omega (arith, same, c.requires.enough)))
    (given-from _ _ _ _ _ refl c.enter_at.ensures.regs) c.enter_at.ensures.seen)

-- IT IS HANDED TO THE HUB
pub invariant_of-self-in-Shared : goal.invariant_of-self-in-Shared
invariant_of-self-in-Shared g c =
    let top = ap (λ (r : Run). head r.core.env.frames) c.self.view_is ∙ c.requires.stands in
    let unended = ap (λ (r : Run). r.ending) c.self.view_is ∙ c.requires.unended in
    let shared = is-true (is_shared c.args.call.now) c.in-Shared.ensures.local in
    shared-running c.self.inside.core (record { sound = c.self.invariant.sound; top = top; asked = c.requires.asked }) c.args.call.now c.in-Shared.field-0
    c.step.new.self
    c.self.inside.begun c.self.inside.ending c.requires.within shared unended (c.in-Shared.ensures.shared shared) c.self.invariant.held

pub returns-in-Shared-clause-turn : goal.returns-in-Shared-clause-turn
returns-in-Shared-clause-turn g c =
    let shared = is-true (is_shared c.args.call.now) c.in-Shared.ensures.local in
    let run : Run = record { core = c.step.new.self; begun = c.self.inside.begun; ending = c.self.inside.ending } in
    let owes = ap (λ (x : Core). pending_at_hub (record run { core = x })) ((c.in-Shared.ensures.shared shared).1) in
    sym (turn-owes run c.args.self.now.core.env owes)

pub returns-in-Shared-clause-goes : goal.returns-in-Shared-clause-goes
returns-in-Shared-clause-goes g c =
    let top = ap (λ (r : Run). head r.core.env.frames) c.self.view_is ∙ c.requires.stands in
    let unended = ap (λ (r : Run). r.ending) c.self.view_is ∙ c.requires.unended in
    let shared = is-true (is_shared c.args.call.now) c.in-Shared.ensures.local in
    inl (rw (← c.self.view_is) (shared-more {old = record { core = c.self.inside.core; begun = c.self.inside.begun; ending = c.self.inside.ending }}
    (record { sound = c.self.invariant.sound; top = top; asked = c.requires.asked }) c.args.call.now c.in-Shared.field-0 c.step.new.self _ unended refl
    (c.in-Shared.ensures.shared shared) refl refl))
