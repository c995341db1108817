use Rattle.std.proofs.Common.{arith, refl, [], ◌∷◌, ◌∙◌, ap}
use Rattle.napi_types.specs.plain.Lists.{head}
use Rattle.env_core.specs.Standing.{machine_frame}
use Rattle.env_loop.specs.declared.run.FrameEnd.TheVariants as end
use Rattle.env_loop.specs.RecordedRuns.{Run}
use Rattle.env_loop.proofs.CallTurns.{on-last, replied-turn, replied-running}
use Rattle.env_loop.proofs.CutTurns.{stopped-ends, stopped-local-so}
use Rattle.env_loop.proofs.EndTurns.{ends-turn-at, left-may}
use Rattle.env_loop.proofs.FrameTurns.{head-below, duty-told}
use Rattle.env_loop.proofs.RegisterTurns.{told-from}
use Rattle.env_loop.proofs.run.EnvRun.ask_turn.Goals as goal

pub ask_of-requires : goal.ask_of-requires
ask_of-requires g c =
    let there = head-below _ _ (machine_frame c.args.frame.now) c.requires.stands c.requires.sound.owned.frames in
    omega (arith, there, c.requires.enough)

-- IT LEAVES
pub returns-in-Leave-clause-goes : goal.returns-in-Leave-clause-goes
returns-in-Leave-clause-goes g c =
    ends-turn-at _ _ _ c.args.self.now c.args.self.now _ _ _ _ c.in-Leave.value end.Leaves c.end_turn.result
    (left-may c.in-Leave.value (record { sound = c.requires.sound; top = c.requires.stands; asked = c.in-Leave.ensures.asked }) c.requires.idle
    c.requires.unended c.requires.within)
    (duty-told _ _ c.requires.stands) refl c.ask_of.ensures.plans.same c.ask_of.ensures.regs c.end_turn.ensures.ends
    (c.end_turn.ensures.seen ∙ c.ask_of.ensures.seen) c.end_turn.ensures.turn

-- IT IS REPLIED TO AT ONCE
pub invariant_of-self : goal.invariant_of-self
invariant_of-self g c =
    let top = ap (λ (r : Run). head r.core.env.frames) c.self.view_is ∙ c.requires.stands in
    let idle = ap (λ (r : Run). r.core.awaited) c.self.view_is ∙ c.requires.idle in
    let unended = ap (λ (r : Run). r.ending) c.self.view_is ∙ c.requires.unended in
    replied-running c.self.inside.core (record { sound = c.self.invariant.sound; top = top; asked = c.in-Do.ensures.asked }) c.in-Do.call c.in-Some.reply.now
    c.answer.new.self
    c.self.inside.begun c.self.inside.ending idle unended c.requires.within (on-last c.self.inside.core c.answer.new.self c.in-Do.call c.in-Some.reply.now c.in-Some.ensures c.in-Ok.ensures.reply) c.self.invariant.held

pub returns-in-Some-clause-goes : goal.returns-in-Some-clause-goes
returns-in-Some-clause-goes g c =
    let top = ap (λ (r : Run). head r.core.env.frames) c.self.view_is ∙ c.requires.stands in
    let idle = ap (λ (r : Run). r.core.awaited) c.self.view_is ∙ c.requires.idle in
    let unended = ap (λ (r : Run). r.ending) c.self.view_is ∙ c.requires.unended in
    let local = c.is_answered_at_once.ensures.local c.if-is_answered_at_once.true in
    let told = told-from _ _ _ _ _ (machine_frame c.args.frame.now ∷ []) c.in-Some.reply.now c.ask_of.ensures.plans.same c.ask_of.ensures.regs
    (c.note_at.ensures.others, c.note_at.ensures.kept) in
    rw (← c.self.view_is) (replied-turn {old = record { core = c.self.inside.core; begun = c.self.inside.begun; ending = c.self.inside.ending }}
    (record { sound = c.self.invariant.sound; top = top; asked = c.in-Do.ensures.asked }) c.in-Do.call c.in-Some.reply.now c.answer.new.self _ idle unended
    c.requires.within refl local
    (on-last c.self.inside.core c.answer.new.self c.in-Do.call c.in-Some.reply.now c.in-Some.ensures c.in-Ok.ensures.reply) told.0 told.1 (c.note_at.ensures.seen ∙ c.ask_of.ensures.seen))

-- IT STOPPED AT ONCE
pub returns-in-Err-clause-goes : goal.returns-in-Err-clause-goes
returns-in-Err-clause-goes g c =
    let top = ap (λ (r : Run). head r.core.env.frames) c.self.view_is ∙ c.requires.stands in
    let idle = ap (λ (r : Run). r.core.awaited) c.self.view_is ∙ c.requires.idle in
    let unended = ap (λ (r : Run). r.ending) c.self.view_is ∙ c.requires.unended in
    let local = c.is_answered_at_once.ensures.local c.if-is_answered_at_once.true in
    rw (← c.self.view_is) (ends-turn-at _ _ _ _ _ _ _ _ _ _ (end.Cut c.why.result) c.end_turn-in-Err.result
    (stopped-ends (record { sound = c.self.invariant.sound; top = top; asked = c.in-Do.ensures.asked }) idle unended c.requires.within c.in-Do.call
    c.in-Err.status c.why.result c.answer.new.self refl
    c.why.ensures (stopped-local-so c.self.inside.core c.in-Do.call c.in-Err.status c.answer.new.self local c.in-Err.ensures.cause))
    (duty-told _ _ top) (ap (λ x. record { core = x; begun = c.self.inside.begun; ending = c.self.inside.ending }) c.in-Err.ensures.stop)
    c.ask_of.ensures.plans.same c.ask_of.ensures.regs
    c.end_turn-in-Err.ensures.ends (c.end_turn-in-Err.ensures.seen ∙ c.ask_of.ensures.seen) c.end_turn-in-Err.ensures.turn)

-- IT IS SHARED, OR OF A FUNCTION
pub step_turn-requires-clause-asked : goal.step_turn-requires-clause-asked
step_turn-requires-clause-asked g c = rw (c.ask_of.ensures.plans.same, c.ask_of.ensures.regs) c.in-Do.ensures.asked

pub returns-in-Do-2-clause-goes : goal.returns-in-Do-2-clause-goes
returns-in-Do-2-clause-goes g c = rw (← c.ask_of.ensures.plans.same, ← c.ask_of.ensures.regs, ← c.ask_of.ensures.seen) c.step_turn.ensures.goes
