-- Nothing refuses a call that finds no memory.
use Rattle.std.proofs.Common.{◌≡◌, ◌∙◌, true, IsTrue, ap, sym, refl, Option, None, Result, Ok, Err, OnErr}
use Rattle.std.specs.Option.{option_or}
use Rattle.napi_types.specs.declared.call.Call.{Call}
use Rattle.napi_types.specs.declared.call.Call.TheVariants as call
use Rattle.napi_types.specs.declared.ids.ScopeKind.{ScopeKind}
use Rattle.napi_types.specs.declared.ids.ScopeKind.TheVariants as scope_kind
use Rattle.napi_types.specs.declared.ids.TextNo.{TextNo}
use Rattle.napi_types.specs.declared.status.Status.{Status}
use Rattle.napi_types.specs.plain.CallKinds.{is_value_call}
use Rattle.napi_types.specs.plain.Guards.{is_growing}
use Rattle.napi_types.specs.parts.Graph.{StoreState}
use Rattle.napi_types.specs.parts.HeapRefusals.{refusal_in}
use Rattle.napi_types.specs.parts.NamedNumbers.{is_known}
use Rattle.napi_types.specs.parts.ReferenceRefusals.{reference_refusal}
use Rattle.napi_types.specs.parts.References.{ReferenceMap}
use Rattle.napi_types.specs.environment.Environment.{Environment}
use Rattle.napi_types.specs.environment.Moments.{refusal_by_moment}
use Rattle.napi_types.specs.environment.Refusals.{refusal_by_state, refusal_before_depth}
use Rattle.env_core.specs.State.{opening_call, FindsNoMemory}
use Rattle.env_core.proofs.CoreExceptions.{thrown-refusal}
use Rattle.env_core.proofs.Referring.{referring, NamesReference, by-reference, seen-refusal}
use Rattle.env_core.proofs.ValueAnswers.{timely-value}

-- a call stops so where its parts say that it leaves all as it was, and that nothing refuses it
pub stopped : {A E : Type 0} (old new : Environment) (c : Call) (refused : Option Status) (r : Result A E)
    → OnErr r (new ≡ old) → OnErr r (IsTrue (is_growing c)) → OnErr r (refused ≡ None) → OnErr r (FindsNoMemory old c refused new)
stopped old new c refused (Ok x) same grows none = tt
stopped old new c refused (Err x) same grows none = record { same = same; grows = grows; unrefused = none }

-- CALLS AT A RIGHT MOMENT
-- a scope is opened
pub opening_unrefused : (e : Environment) (kind : ScopeKind) → refusal_by_state e (opening_call kind) ≡ None
opening_unrefused e scope_kind.Plain = refl
opening_unrefused e scope_kind.Escapable = refl

-- an error is thrown whose texts are known
pub thrown-unrefused : (e : Environment) (code : Option TextNo) (message : TextNo) → true ≡ is_known e.texts e.heap (call.ThrowError code message)
    → refusal_by_state e (call.ThrowError code message) ≡ None
thrown-unrefused e code message known = ap (λ o. option_or o None) (thrown-refusal e.texts e.heap code message true (sym known))

-- neither references nor the heap tell a refusal
pub reference-unrefused : (e : Environment) (s : StoreState) (m : ReferenceMap) (c : Call) → None ≡ reference_refusal m c
    → NamesReference (referring e s m) c → refusal_by_state (referring e s m) c ≡ None
reference-unrefused e s m c h only = by-reference (referring e s m) c None (seen-refusal s m c ∙ sym h) only

-- a call on values finds no memory
pub value-unrefused : {A E : Type 0} (e : Environment) (c : Call) (r : Result A E) → is_value_call c ≡ true → OnErr r (refusal_in e.texts e.heap c ≡ None)
    → OnErr r (refusal_by_state e c ≡ None)
value-unrefused e c (Ok x) h none = tt
value-unrefused e c (Err x) h none = timely-value e c h ∙ none

-- THE MOMENT
-- a call at a right moment finds no memory
pub stopped-in-time : {A E : Type 0} (old new : Environment) (c : Call) (r : Result A E) → None ≡ refusal_by_moment old c
    → OnErr r (FindsNoMemory old c (refusal_by_state old c) new) → OnErr r (FindsNoMemory old c (refusal_before_depth old c) new)
stopped-in-time old new c (Ok x) h stops = tt
stopped-in-time old new c (Err x) h stops =
    record { same = stops.same; grows = stops.grows; unrefused = ap (λ o. option_or o (refusal_by_state old c)) (sym h) ∙ stops.unrefused }
