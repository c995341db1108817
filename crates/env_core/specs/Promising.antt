-- Promises and deferreds, as the machine sees them.
use Rattle.std.specs.Prelude.{◌≡◌, ℕ, ◌==◌, cond, true, List, map, Option}
use Rattle.std.specs.List.{All}
use Rattle.std.specs.Option.{IsSomeAnd, option_and_then}
use Rattle.napi_types.specs.declared.call.Call.{Call}
use Rattle.napi_types.specs.declared.call.Call.TheVariants as call
use Rattle.napi_types.specs.declared.ids.DeferredId.{DeferredId}
use Rattle.napi_types.specs.declared.ids.HandleId.{HandleId}
use Rattle.napi_types.specs.plain.Lists.{as_map}
use Rattle.napi_types.specs.parts.Frames.{Frame, duty_of, ticket_of}
use Rattle.napi_types.specs.parts.Graph.{StoreState, IsLive, number_in, graph_of}
use Rattle.napi_types.specs.parts.Promises.{Promise, Deferred, Promises, is_reaction_of, reaction_promise}
use Rattle.napi_types.specs.parts.Values.{link_of}
use Rattle.napi_types.specs.environment.PromiseCalls.{resolved}
use Rattle.env_values.specs.SeenValues.{IsPromiseIn}

-- a promise has the creation number of its value, where the crate below has the store's number, and so has the promise of a deferred
abbrev pub seen_promise : StoreState → Promise → Promise
seen_promise store p = record p { value = number_in store p.value }

abbrev pub seen_deferred : StoreState → Deferred → Deferred
seen_deferred store d = record d { promise = number_in store d.promise }

-- all promises and deferreds
abbrev pub promises_seen : StoreState → Promises → Promises
promises_seen store p = record {
  promises = as_map (λ r. r.value) (map (seen_promise store) p.promises);
  deferreds = map (seen_deferred store) p.deferreds;
  issued = p.issued;
}

-- each promise is a live value, and that of each deferred is a value that is a promise
pub record PromisesAreLive (store : StoreState) (p : Promises) : Type 0 where
  pub promises : All (λ r. IsLive store r.value) p.promises
  pub deferreds : All (λ d. IsPromiseIn store d.promise) p.deferreds

-- the call that settles a deferred with this state, resolved or rejected
abbrev pub settling_call : ℕ → DeferredId → HandleId → Call
settling_call state d h = cond (state == resolved) (call.ResolveDeferred d h) (call.RejectDeferred d h)

-- a promise has the reaction that is the innermost of these frames
abbrev pub IsReactedTo : List Frame → Promises → ℕ → Type 0
IsReactedTo fs p v = IsSomeAnd (ticket_of (duty_of fs)) (λ t. is_reaction_of p v t ≡ true)

-- the value that settled the promise of which the innermost of these frames is a reaction
abbrev pub settler_seen : StoreState → Promises → List Frame → Option ℕ
settler_seen store p fs = option_and_then (link_of (graph_of store)) (option_and_then (reaction_promise p) (ticket_of (duty_of fs)))
