use Rattle.std.proofs.Common.{◌≡◌, ◌<◌, ◌≤◌, ◌+◌, ◌∷◌, List, Bool, true, drop, length, ap, sym, subst, refl, rules}
use Rattle.std.proofs.lemmas.Bool.{ltb-true, ltb-false}
use Rattle.napi_types.specs.declared.call.Call.{Call}
use Rattle.napi_types.specs.declared.entry.Actor.TheVariants as actor
use Rattle.napi_types.specs.declared.entry.Out.TheVariants as out
use Rattle.napi_types.specs.declared.status.Status.{Status}
use Rattle.napi_types.specs.hub.Actors.{thread_calls, EndsThread}
use Rattle.napi_types.specs.hub.ThreadSteps.{is_gone_on, nothing_given}
use Rattle.shared_hub.specs.HubStates.{HubSeen, hub_room}
use Rattle.shared_hub.specs.declared.tries.ThreadTried.TheVariants as tried
use Rattle.env_loop.specs.ActorRuns.{ThreadSeen, IsThreadOf, ThreadBlocked, StoppedAt, calls_left}
use Rattle.env_loop.proofs.ThreadEntries.{next-call, no-call, thread-there, makes-call, stops-so, waits-here, none-stopped, stopped-at}
use Rattle.env_loop.proofs.actor.thread.ThreadRun.turn.Goals as goal
use Rattle.env_loop.proofs.actor.thread.ThreadRun.turn.Goals.{After-call_of}

pub end-requires-clause-exact : goal.end-requires-clause-exact
end-requires-clause-exact g c κs within =
    let past : length c.self.inside.operations ≤ c.self.inside.made =
    ltb-false c.self.inside.made (length c.self.inside.operations) (sym (rw c.items.ensures at c.in_default.ensures.lookup.0)) in
    subst (λ (u : ThreadSeen). EndsThread (hub_room g.N.Naming.numbers c.args.hub.now) (drop u.made (thread_calls u.operations)) out.Nothing) c.self.view_is
    (subst (λ (cs : List Call). EndsThread (hub_room g.N.Naming.numbers c.args.hub.now) cs out.Nothing)
    (sym (no-call c.self.inside.operations c.self.inside.made c.self.invariant.kinds past)) refl)

pub thread_call-requires-clause-there : goal.thread_call-requires-clause-there
thread_call-requires-clause-there g c κs within =
    let live : is_gone_on c.args.hub.now.hub.stage ≡ true = search rules in
    thread-there g.N.Naming.numbers c.args.hub.now
    (record { number = c.self.inside.number; operations = c.self.inside.operations; made = c.self.inside.made; over = c.self.inside.over })
    c.invariant.ensures (subst (λ (u : ThreadSeen). IsThreadOf g.N.Naming.numbers c.args.hub.now u) (sym c.self.view_is) c.requires) c.if-self.false live

waits-no-stop : {s : Status} → tried.Wait ≡ tried.Stop s → ⊥
waits-no-stop is = cc

-- the call that was made is the next one
next : (g : _) (c : After-call_of g) → drop c.self.inside.made (thread_calls c.self.inside.operations)
    ≡ c.call_of.result ∷ drop (c.self.inside.made + 1) (thread_calls c.self.inside.operations)
next g c =
    let inside : c.self.inside.made < length c.self.inside.operations =
    ltb-true c.self.inside.made (length c.self.inside.operations) (sym (rw c.items.ensures at c.in-Some.ensures.lookup.0)) in
    next-call c.self.inside.operations c.self.inside.made c.in-Some.operation.now c.call_of.result c.self.invariant.kinds inside
    (rw c.items.ensures at c.in-Some.ensures.lookup.1) c.call_of.ensures.asked

pub end-requires-in-Stop-clause-exact : goal.end-requires-in-Stop-clause-exact
end-requires-in-Stop-clause-exact g c κs within =
    let at = (goal.at.end-requires-in-Stop-clause-exact g c).After-call_of in
    subst (λ (s : HubSeen). EndsThread (hub_room g.N.Naming.numbers s) (drop c.args.self.now.made (thread_calls c.args.self.now.operations)) (out.Cut c.cause_of.result)) (sym c.in-Stop.ensures.stop)
    (subst (λ (u : ThreadSeen). EndsThread (hub_room g.N.Naming.numbers c.args.hub.now) (drop u.made (thread_calls u.operations)) (out.Cut c.cause_of.result)) c.self.view_is
    (subst (λ (cs : List Call). EndsThread (hub_room g.N.Naming.numbers c.args.hub.now) cs (out.Cut c.cause_of.result)) (sym (next g at))
    (stops-so (hub_room g.N.Naming.numbers c.args.hub.now) c.args.hub.now.hub (actor.Thread c.self.inside.number) nothing_given c.call_of.result
    (drop (c.self.inside.made + 1) (thread_calls c.self.inside.operations)) c.in-Stop.status c.cause_of.result c.in-Stop.ensures.cause
    (λ is. c.in-Stop.ensures.full.0 (ap (λ s. tried.Stop s) is)) (λ is. c.in-Stop.ensures.memory (ap (λ s. tried.Stop s) is)) c.cause_of.ensures.full c.cause_of.ensures.memory)))

pub returns-in-Reply-clause-stands : goal.returns-in-Reply-clause-stands
returns-in-Reply-clause-stands g c =
    let at = (goal.at.returns-in-Reply-clause-stands g c).After-call_of in
    let t : ThreadSeen = record { number = c.self.inside.number; operations = c.self.inside.operations; made = c.self.inside.made; over = c.self.inside.over } in
    let of : IsThreadOf g.N.Naming.numbers c.args.hub.now t = subst (λ (u : ThreadSeen). IsThreadOf g.N.Naming.numbers c.args.hub.now u) (sym c.self.view_is) c.requires in
    subst (λ (b : Bool). IsThreadOf g.N.Naming.numbers c.thread_call.new.self (record t { made = c.self.inside.made + 1; over = b })) (sym c.if-self.false)
    (makes-call g.N.Naming.numbers c.args.hub.now c.thread_call.new.self c.self.inside.number c.self.inside.made c.self.inside.operations c.invariant.ensures
    (subst (λ (b : Bool). IsThreadOf g.N.Naming.numbers c.args.hub.now (record t { over = b })) c.if-self.false of) c.call_of.result c.in-Reply.field-0 (next g at)
    c.in-Reply.ensures.reply)

pub returns-in-Wait-clause-blocked : goal.returns-in-Wait-clause-blocked
returns-in-Wait-clause-blocked g c = λ _.
    let at = (goal.at.returns-in-Wait-clause-blocked g c).After-call_of in
    subst (λ (u : ThreadSeen). ThreadBlocked (hub_room g.N.Naming.numbers c.args.hub.now) c.args.hub.now.hub u) c.self.view_is
    (waits-here (hub_room g.N.Naming.numbers c.args.hub.now) c.args.hub.now.hub
    (record { number = c.self.inside.number; operations = c.self.inside.operations; made = c.self.inside.made; over = c.self.inside.over }) c.call_of.result
    (drop (c.self.inside.made + 1) (thread_calls c.self.inside.operations)) c.if-self.false (next g at) c.call_of.ensures.kind
    (λ is. waits-no-stop (c.in-Wait.ensures.full.1 is)) c.in-Wait.ensures.waits)

pub returns-in_default-clause-cut : goal.returns-in_default-clause-cut
returns-in_default-clause-cut g c = λ _.
    let past : length c.self.inside.operations ≤ c.self.inside.made =
    ltb-false c.self.inside.made (length c.self.inside.operations) (sym (rw c.items.ensures at c.in_default.ensures.lookup.0)) in
    subst (λ (u : ThreadSeen). StoppedAt (hub_room g.N.Naming.numbers c.args.hub.now) c.args.hub.now.hub u.number (calls_left u)) c.self.view_is
    (none-stopped (hub_room g.N.Naming.numbers c.args.hub.now) c.args.hub.now.hub
    (record { number = c.self.inside.number; operations = c.self.inside.operations; made = c.self.inside.made; over = c.self.inside.over }) c.if-self.false
    (no-call c.self.inside.operations c.self.inside.made c.self.invariant.kinds past))

pub returns-in-Stop-clause-cut : goal.returns-in-Stop-clause-cut
returns-in-Stop-clause-cut g c = λ _.
    let at = (goal.at.returns-in-Stop-clause-cut g c).After-call_of in
    subst (λ (u : ThreadSeen). StoppedAt (hub_room g.N.Naming.numbers c.args.hub.now) c.args.hub.now.hub u.number (calls_left u)) c.self.view_is
    (stopped-at (hub_room g.N.Naming.numbers c.args.hub.now) c.args.hub.now.hub
    (record { number = c.self.inside.number; operations = c.self.inside.operations; made = c.self.inside.made; over = c.self.inside.over }) c.call_of.result
    (drop (c.self.inside.made + 1) (thread_calls c.self.inside.operations)) c.in-Stop.status c.if-self.false (next g at) c.in-Stop.ensures.cause
    (λ is. c.in-Stop.ensures.full.0 (ap (λ s. tried.Stop s) is)) (λ is. c.in-Stop.ensures.memory (ap (λ s. tried.Stop s) is)))
