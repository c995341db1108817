use Rattle.std.proofs.Common.{arith, refl, ap, sym, ◌∙◌, None}
use Rattle.napi_types.specs.declared.entry.Why.TheVariants as why
use Rattle.napi_types.specs.plain.Lists.{head}
use Rattle.env_core.specs.Standing.{machine_frame}
use Rattle.env_loop.specs.declared.run.FrameEnd.TheVariants as end
use Rattle.env_loop.specs.RecordedRuns.{Run, pending_at_hub}
use Rattle.env_loop.proofs.CutTurns.{owed-ends, spent-ends}
use Rattle.env_loop.proofs.MadeTurns.{unowed-idle}
use Rattle.env_loop.proofs.EndTurns.{ends-turn-at}
use Rattle.env_loop.proofs.FrameTurns.{head-within, duty-told}
use Rattle.env_loop.proofs.LocalTurns.{ends-owed, ends-none}
use Rattle.env_loop.proofs.run.EnvRun.frame_turn.Goals as goal

pub returns-in-Some-clause-goes : goal.returns-in-Some-clause-goes
returns-in-Some-clause-goes g c =
    let run : Run = record { core = c.self.inside.core; begun = c.self.inside.begun; ending = c.self.inside.ending } in
    let top = ap (λ (r : Run). head r.core.env.frames) c.self.view_is ∙ c.requires.stands in
    let unowed = ap (λ (r : Run). pending_at_hub r) c.self.view_is ∙ c.requires.unowed in
    rw (← c.self.view_is) (ends-turn-at _ _ _ run c.args.self.now _ _ _ _ None c.in-Some.end c.end_turn.result
    (owed-ends _ run _ c.in-Some.end c.self.invariant unowed c.in-Some.is)
    (duty-told _ _ top) (sym c.self.view_is) refl refl c.end_turn.ensures.ends c.end_turn.ensures.seen c.end_turn.ensures.turn)

pub returns-then-frame-ge-MOST_ASKS-clause-goes : goal.returns-then-frame-ge-MOST_ASKS-clause-goes
returns-then-frame-ge-MOST_ASKS-clause-goes g c =
    let run : Run = record { core = c.self.inside.core; begun = c.self.inside.begun; ending = c.self.inside.ending } in
    let top = ap (λ (r : Run). head r.core.env.frames) c.self.view_is ∙ c.requires.stands in
    let unowed = ap (λ (r : Run). pending_at_hub r) c.self.view_is ∙ c.requires.unowed in
    let most = head-within c.self.inside.core.env.frames (machine_frame c.args.frame.now) top c.self.invariant.sound.asks in
    rw (← c.self.view_is) (ends-turn-at _ _ _ run c.args.self.now _ _ _ _ None (end.Cut why.Asks) c.end_turn-then-frame-ge-MOST_ASKS.result
    (spent-ends _ run _ (machine_frame c.args.frame.now) c.self.invariant.sound (unowed-idle run unowed) c.in_default.is top
    (omega (arith, most, c.if-frame-ge-MOST_ASKS.true)))
    (duty-told _ _ top) (sym c.self.view_is) refl refl c.end_turn-then-frame-ge-MOST_ASKS.ensures.ends c.end_turn-then-frame-ge-MOST_ASKS.ensures.seen
    c.end_turn-then-frame-ge-MOST_ASKS.ensures.turn)

pub returns-in-Some-clause-ends : goal.returns-in-Some-clause-ends
returns-in-Some-clause-ends g c =
    let run : Run = record { core = c.self.inside.core; begun = c.self.inside.begun; ending = c.self.inside.ending } in
    let top = ap (λ (r : Run). head r.core.env.frames) c.self.view_is ∙ c.requires.stands in
    ends-owed _ _ _ run c.args.self.now c.end_turn.new.self c.in-Some.end _ c.self.view_is (duty-told _ _ top) (sym c.in-Some.is) c.requires.unowed c.end_turn.ensures.ends
