-- The heap where the store or the scopes change.
use Rattle.std.proofs.Common.{◌≡◌, ◌∙◌, ℕ, ◌==◌, true, false, Bool, Option, Some, None, option_map, ap, sym, refl}
use Rattle.std.specs.Option.{unwrap_or}
use Rattle.std.proofs.lemmas.List.Elements.{All-weaker}
use borrow.Author.Tests.{eqb-true}
use Rattle.napi_types.specs.parts.Graph.{StoreState, IsLive, value_of, number_in, graph_of}
use Rattle.napi_types.specs.parts.Heap.{handle_value}
use Rattle.napi_types.specs.parts.HeapChanges.{with_changed}
use Rattle.napi_types.specs.parts.Scopes.{OpenHandle, held_by_frames}
use Rattle.napi_types.specs.parts.Values.{Value, value_changed}
use Rattle.handle_scope.specs.HandleScopes.{HandleScopes}
use Rattle.value_store.specs.StoreChanges.{ChangesOnly}
use Rattle.value_store.proofs.Callers.{changes-live}
use Rattle.value_store.proofs.Lookup.{other-number}
use Rattle.env_values.specs.SeenValues.{heap_of, HoldsLive}
use Rattle.env_values.proofs.SeenValues.{seen-same}

-- ONE VALUE CHANGES
-- a change that keeps the creation number
abbrev pub KeepsNumber : (Value → Value) → Type 0
KeepsNumber change = (v : Value) → (change v).number ≡ v.number

-- each value has the creation number that it had
pub number-kept : (s t : StoreState) (id : ℕ) (change : Value → Value) → KeepsNumber change → ChangesOnly s t id change → (n : ℕ) → number_in t n ≡ number_in s n
number-kept s t id change keeps step n = by (n == id) refl
  where
    kept : (o : Option Value) → unwrap_or (option_map (λ (v : Value). v.number) (option_map change o)) 0 ≡ unwrap_or (option_map (λ v. v.number) o) 0
    kept None = refl
    kept (Some v) = keeps v

    by : (b : Bool) → (n == id) ≡ b → number_in t n ≡ number_in s n
    by true e =
        let same : n ≡ id = eqb-true n id e in
        ap (number_in t) same ∙ ap (λ o. unwrap_or (option_map (λ (v : Value). v.number) o) 0) step.named ∙ kept (value_of s id) ∙ ap (number_in s) (sym same)
    by false e = ap (λ o. unwrap_or (option_map (λ (v : Value). v.number) o) 0) (step.others n (other-number n id e))

pub changed-heap : (s t : StoreState) (scopes : HandleScopes) (id : ℕ) (change seen : Value → Value) → KeepsNumber change → ChangesOnly s t id change
    → graph_of t ≡ value_changed (number_in s id) seen (graph_of s)
    → heap_of t scopes ≡ record (heap_of s scopes) { values = value_changed (number_in s id) seen (graph_of s) }
changed-heap s t scopes id change seen keeps step graph =
    ap (λ vs. record (heap_of t scopes) { values = vs }) graph
    ∙ ap (λ m. record (heap_of t scopes) { values = value_changed (number_in s id) seen (graph_of s); made = m }) step.nothing_issued.made
    ∙ ap (λ fs. record (heap_of s scopes) { values = value_changed (number_in s id) seen (graph_of s); scopes = fs })
    (seen-same s t scopes.frames (λ k d less. number-kept s t id change keeps step _))

-- each held value is live as before
pub changed-live : (s t : StoreState) (scopes : HandleScopes) (id : ℕ) (change : Value → Value) → ChangesOnly s t id change → HoldsLive s scopes → HoldsLive t scopes
changed-live s t scopes id change step = All-weaker (λ (p : OpenHandle). IsLive s p.value) (λ p. IsLive t p.value) (λ p. changes-live s t id change step p.value) (held_by_frames scopes.frames)

-- the value of a handle is changed so
pub with_changed-heap : (s t : StoreState) (scopes : HandleScopes) (h id : ℕ) (change seen : Value → Value) → KeepsNumber change → ChangesOnly s t id change
    → graph_of t ≡ value_changed (number_in s id) seen (graph_of s) → handle_value (heap_of s scopes) h ≡ number_in s id
    → with_changed h seen (heap_of s scopes) ≡ heap_of t scopes
with_changed-heap s t scopes h id change seen keeps step graph number =
    ap (λ n. record (heap_of s scopes) { values = value_changed n seen (graph_of s) }) number
    ∙ sym (changed-heap s t scopes id change seen keeps step graph)
