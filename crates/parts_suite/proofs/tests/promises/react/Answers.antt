use Rattle.std.proofs.Common.{◌≡◌, ◌++◌, ◌∷◌, [], ℕ, List, IsSome, refl, sym, subst}
use Rattle.napi_types.specs.declared.ids.ValueId.{ValueId}
use Rattle.napi_types.specs.parts.Promises.{Promises, promise_at, reactions_of}
use Rattle.parts_suite.proofs.ManyPromises.{AreRegistered, reacted, there-reacted, reactions-reacted, kept-registered, next-registered}
use Rattle.parts_suite.proofs.tests.promises.react.Goals as goal

pub returns-clause-promise : goal.returns-clause-promise
returns-clause-promise g c =
    let p = c.args.deferreds.now.promises in
    reacted p c.react.new.self.promises 9 c.register-ticket.result.0 (λ (w : ValueId). w.0) c.promise_of.result c.react.result c.ample-2.result
    c.promise_of.ensures c.react.ensures.added c.react.ensures.there c.ample-2.ensures (λ (s : Promises). IsSome (promise_at s 9))
    c.requires.promise (there-reacted p 9 c.register-ticket.result.0 c.requires.promise)

pub returns-clause-deferreds : goal.returns-clause-deferreds
returns-clause-deferreds g c =
    let p = c.args.deferreds.now.promises in
    reacted p c.react.new.self.promises 9 c.register-ticket.result.0 (λ (w : ValueId). w.0) c.promise_of.result c.react.result c.ample-2.result
    c.promise_of.ensures c.react.ensures.added c.react.ensures.there c.ample-2.ensures (λ (s : Promises). s.deferreds ≡ p.deferreds) refl refl

pub returns-clause-registered : goal.returns-clause-registered
returns-clause-registered g c =
    let p = c.args.deferreds.now.promises in
    let before = c.args.book.now.book in
    let kept = c.reserve.new.self.book in
    let book = c.register-ticket.new.self.book in
    let n = c.register-ticket.result.0 in
    reacted p c.react.new.self.promises 9 n (λ (w : ValueId). w.0) c.promise_of.result c.react.result c.ample-2.result
    c.promise_of.ensures c.react.ensures.added c.react.ensures.there c.ample-2.ensures (λ (s : Promises). AreRegistered book (reactions_of s 9))
    (kept-registered before kept book _ (reactions_of p 9) c.reserve.ensures.same c.register-ticket.ensures.noted c.requires.registered)
    (subst (λ (ns : List ℕ). AreRegistered book ns) (sym (reactions-reacted p 9 n c.requires.promise))
    (next-registered before kept book _ n (reactions_of p 9) c.reserve.ensures.same c.register-ticket.ensures.noted c.register-ticket.ensures.ticket refl c.requires.registered))
