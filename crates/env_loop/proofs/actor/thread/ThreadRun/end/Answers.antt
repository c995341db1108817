use Rattle.std.proofs.Common.{◌≡◌, ◌∙◌, Bool, false, drop, ap, sym, subst}
use Rattle.napi_types.specs.hub.Actors.{thread_calls, EndsThread}
use Rattle.shared_hub.specs.HubStates.{hub_room}
use Rattle.shared_hub.specs.SharedTries.{actor_end_told}
use Rattle.env_loop.specs.ActorRuns.{ThreadSeen, IsThreadOf}
use Rattle.env_loop.proofs.ThreadEntries.{thread-there, makes-end}
use Rattle.env_loop.proofs.actor.thread.ThreadRun.end.Goals as goal

pub actor_end-requires-after_bounds : goal.actor_end-requires-after_bounds
actor_end-requires-after_bounds g c κs within =
    let t : ThreadSeen = record { number = c.self.inside.number; operations = c.self.inside.operations; made = c.self.inside.made; over = c.self.inside.over } in
    let of : IsThreadOf g.N.Naming.numbers c.args.hub.now t = subst (λ (u : ThreadSeen). IsThreadOf g.N.Naming.numbers c.args.hub.now u) (sym c.self.view_is) c.requires.stands in
    let here : c.self.inside.over ≡ false = ap (λ (u : ThreadSeen). u.over) c.self.view_is ∙ c.requires.there in
    (thread-there g.N.Naming.numbers c.args.hub.now t c.invariant.ensures of here c.requires.live, c.requires.cause)

pub returns-clause-stands : goal.returns-clause-stands
returns-clause-stands g c =
    let t : ThreadSeen = record { number = c.self.inside.number; operations = c.self.inside.operations; made = c.self.inside.made; over = c.self.inside.over } in
    let of : IsThreadOf g.N.Naming.numbers c.args.hub.now t = subst (λ (u : ThreadSeen). IsThreadOf g.N.Naming.numbers c.args.hub.now u) (sym c.self.view_is) c.requires.stands in
    let here : c.self.inside.over ≡ false = ap (λ (u : ThreadSeen). u.over) c.self.view_is ∙ c.requires.there in
    makes-end g.N.Naming.numbers c.args.hub.now c.actor_end.new.self c.self.inside.number c.self.inside.made c.self.inside.operations c.invariant.ensures
    (subst (λ (b : Bool). IsThreadOf g.N.Naming.numbers c.args.hub.now (record t { over = b })) here of) c.args.cut
    (subst (λ (u : ThreadSeen). EndsThread (hub_room g.N.Naming.numbers c.args.hub.now) (drop u.made (thread_calls u.operations)) (actor_end_told c.args.cut)) (sym c.self.view_is)
    c.requires.exact)
    c.actor_end.ensures.next
