use Rattle.std.proofs.Common.{IfSome, sym, subst}
use Rattle.napi_types.specs.environment.SharedCalls.{after_shared}
use Rattle.env_core.specs.Sharing.{IsAwaitedIn, MayAwait, IsAnswer}
use Rattle.env_core.proofs.Sharing.{idle-may, rooting-wanted, core-shared, answered-keeps}
use Rattle.env_core.proofs.env.EnvCore.settle.Goals as goal

pub take_in-requires-clause-place : goal.take_in-requires-clause-place
take_in-requires-clause-place c = λ rooting.
    let s = c.self.inside in
    let shared = c.in-Some.shared in
    let is = sym c.in-Some.ensures.value in
    let there : IsAwaitedIn s.state s.root_room shared = subst (λ o. MayAwait s.state s.root_room o) is c.self.invariant.1 in
    let answer : IsAnswer shared c.args.reply =
    subst (λ o. IfSome o (λ x. IsAnswer x c.args.reply)) is (rw (← c.self.view_is) at c.requires.refused) in
    there.place (rooting-wanted shared c.args.reply answer rooting)

pub invariant_of-self : goal.invariant_of-self
invariant_of-self c =
    let s = c.self.inside in
    let made = c.in-Some.shared.call in (
      rw c.take_in.ensures
          (core-shared s.state (after_shared made c.args.reply s.state) s.journal c.note.new.self c.args.position c.self.invariant.0 (answered-keeps made c.args.reply s.state) c.note.ensures),
      idle-may c.take_in.new.self c.take_in.new.room c.take.new.self c.take.ensures.after,
    )
