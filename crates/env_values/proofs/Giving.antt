-- The heap where a handle is given, of a value that was there or of a new one.
use Rattle.std.proofs.Common.{◌≡◌, ◌≢◌, ◌∙◌, ℕ, ◌+◌, ◌==◌, true, false, List, [], ◌∷◌, ◌++◌, map, length, Option, Some, None, option_map, IsSome, ap, sym, refl, subst}
use Rattle.std.specs.Option.{unwrap_or}
use Rattle.std.proofs.lemmas.List.Elements.{All-weaker}
use Rattle.std.proofs.lemmas.Bool.{or_parts}
use Rattle.napi_types.specs.declared.body.Body.{Body}
use Rattle.napi_types.specs.declared.entry.Out.TheVariants as out
use Rattle.napi_types.specs.declared.ids.HandleId.{HandleId}
use Rattle.napi_types.specs.declared.ids.TextNo.{TextNo}
use Rattle.napi_types.specs.plain.Lists.{first_changed, has_number}
use Rattle.napi_types.specs.plain.Replies.{accepts}
use Rattle.napi_types.specs.parts.Graph.{StoreState, IsLive, IsSoundStore, value_of, number_in, graph_of}
use Rattle.napi_types.specs.parts.Heap.{Heap}
use Rattle.napi_types.specs.parts.HeapChanges.{handle_of, with_handle, with_list, with_thrown}
use Rattle.napi_types.specs.parts.NewValues.{list_of, thrown_strings, thrown_of}
use Rattle.napi_types.specs.parts.ScopeChanges.{hold_in}
use Rattle.napi_types.specs.parts.Scopes.{OpenHandle, held_by_frames}
use Rattle.napi_types.specs.parts.Values.{Value}
use Rattle.handle_scope.specs.HandleScopes.{HandleScopes, with_issued_handle}
use Rattle.value_store.specs.StoreChanges.{MakesValue, MakesList}
use Rattle.value_store.proofs.Callers.{makes-live}
use Rattle.env_values.specs.SeenValues.{seen_frame, heap_of, HoldsLive}
use Rattle.env_values.proofs.Held.{held-holds}
use Rattle.env_values.proofs.SeenValues.{IsSame, seen-same, held-seen}

-- HELD VALUES STAY LIVE
pub issued-live : (s : StoreState) (scopes after : HandleScopes) (v : ℕ) → after ≡ with_issued_handle v scopes → IsLive s v → HoldsLive s scopes → HoldsLive s after
issued-live s scopes after v is live held =
    let P : HandleScopes → Type 0 = λ x. HoldsLive s x in
    subst P (sym is) (held-holds (λ n. IsLive s n) (record { handle = scopes.handles + 1; value = v }) scopes.frames live held)

pub more-live : (s t : StoreState) (scopes : HandleScopes) → ((n : ℕ) → IsLive s n → IsLive t n) → HoldsLive s scopes → HoldsLive t scopes
more-live s t scopes more = All-weaker (λ (p : OpenHandle). IsLive s p.value) (λ p. IsLive t p.value) (λ p. more p.value) (held_by_frames scopes.frames)

-- THE HEAP
-- two states of a store agree on what is live in the first
abbrev pub Agrees : StoreState → StoreState → Type 0
Agrees s t = (n : ℕ) → IsLive s n → number_in t n ≡ number_in s n

pub seen-alike : (s t : StoreState) (scopes : HandleScopes) → Agrees s t → HoldsLive s scopes → map (seen_frame t) scopes.frames ≡ map (seen_frame s) scopes.frames
seen-alike s t scopes agrees held =
    seen-same s t scopes.frames (All-weaker (λ (p : OpenHandle). IsLive s p.value) (λ p. IsSame s t p) (λ p. agrees p.value) (held_by_frames scopes.frames) held)

-- a handle of a value under the number n is given, where the store came to another state
pub given-heap : (s t : StoreState) (scopes after : HandleScopes) (id n : ℕ) → Agrees s t → HoldsLive s scopes → number_in t id ≡ n → after ≡ with_issued_handle id scopes
    → heap_of t after ≡ with_handle n (record (heap_of s scopes) { values = graph_of t; made = t.made })
given-heap s t scopes after id n agrees held number is =
    ap (heap_of t) is
    ∙ ap (λ fs. record (heap_of t (with_issued_handle id scopes)) { scopes = fs }) (held-seen t (record { handle = scopes.handles + 1; value = id }) scopes.frames)
    ∙ ap (λ m. record (heap_of t (with_issued_handle id scopes)) { scopes = first_changed (hold_in (record { handle = scopes.handles + 1; value = m })) (map (seen_frame t) scopes.frames) }) number
    ∙ ap (λ fs. record (heap_of t (with_issued_handle id scopes)) { scopes = first_changed (hold_in (record { handle = scopes.handles + 1; value = n })) fs }) (seen-alike s t scopes agrees held)

-- the answer that gives it
pub given-answer : (before after : Heap) (v : ℕ) (h : HandleId) → h.0 ≡ before.handles + 1 → after ≡ with_handle v before → handle_of v before ≡ accepts (out.Handle h) after
given-answer before after v h number is =
    ap (λ n. accepts (out.Handle (record { 0 = n })) (with_handle v before)) (sym number) ∙ ap (λ (heap : Heap). accepts (out.Handle h) heap) (sym is)

-- A NEW VALUE
pub makes-others : (s t : StoreState) (id : ℕ) (v : Value) → IsSoundStore s → MakesValue s t id v → (n : ℕ) → IsLive s n → value_of t n ≡ value_of s n
makes-others s t id v sound step n live = step.others n (λ same. stands same)
  where
    stands : n ≡ id → ⊥
    stands same =
        let was : has_number n s.issued ≡ true = sound.given n live in
        let fresh : has_number id s.issued ≡ false = (or_parts (0 == id) (has_number id s.issued) step.fresh).1 in
        let both : has_number n s.issued ≡ false = subst (λ (k : ℕ). has_number k s.issued ≡ false) (sym same) fresh in
        cc

pub makes-agrees : (s t : StoreState) (id : ℕ) (v : Value) → IsSoundStore s → MakesValue s t id v → Agrees s t
makes-agrees s t id v sound step n live = ap (λ o. unwrap_or (option_map (λ (v : Value). v.number) o) 0) (makes-others s t id v sound step n live)

-- the store has it as v, and its graph as w
pub made-heap : (s t : StoreState) (scopes after : HandleScopes) (id : ℕ) (v w : Value) → IsSoundStore s → MakesValue s t id v → v.number ≡ s.made + 1 → graph_of t ≡ graph_of s ++ w ∷ []
    → HoldsLive s scopes → after ≡ with_issued_handle id scopes → heap_of t after ≡ with_handle (s.made + 1) (record (heap_of s scopes) { values = graph_of s ++ w ∷ []; made = s.made + 1 })
made-heap s t scopes after id v w sound step number graph held is =
    given-heap s t scopes after id (s.made + 1) (makes-agrees s t id v sound step) held (ap (λ o. unwrap_or (option_map (λ (u : Value). u.number) o) 0) step.named ∙ number) is
    ∙ ap (λ vs. with_handle (s.made + 1) (record (heap_of s scopes) { values = vs; made = t.made })) graph
    ∙ ap (λ m. with_handle (s.made + 1) (record (heap_of s scopes) { values = graph_of s ++ w ∷ []; made = m })) step.made

-- a value under a new number is live, and every held value with it
pub made-live : (s t : StoreState) (scopes after : HandleScopes) (id : ℕ) (v : Value) → MakesValue s t id v → HoldsLive s scopes → after ≡ with_issued_handle id scopes → HoldsLive t after
made-live s t scopes after id v step held is =
    issued-live t scopes after id is (subst (λ (o : Option Value). IsSome o) (sym step.named) refl) (more-live s t scopes (makes-live s t id v step) held)

-- A NEW LIST
pub list-agrees : (s t : StoreState) (id n : ℕ) → IsSoundStore s → MakesList s t id n → Agrees s t
list-agrees s t id n sound step m live = ap (λ o. unwrap_or (option_map (λ (v : Value). v.number) o) 0) (step.others m (sound.given m live))

pub list-live : (s t : StoreState) (id n : ℕ) → IsSoundStore s → MakesList s t id n → (m : ℕ) → IsLive s m → IsLive t m
list-live s t id n sound step m live = subst (λ (o : Option Value). IsSome o) (sym (step.others m (sound.given m live))) live

pub some-live : (o : Option Value) (n : ℕ) → option_map (λ (v : Value). v.number) o ≡ Some n → IsSome o
some-live None n e = cc
some-live (Some v) n e = refl

pub listed-heap : (s t : StoreState) (scopes after : HandleScopes) (id : ℕ) (bs : List Body) → IsSoundStore s → MakesList s t id (length bs) → graph_of t ≡ graph_of s ++ list_of s.made bs
    → HoldsLive s scopes → after ≡ with_issued_handle id scopes → heap_of t after ≡ with_handle (s.made + length bs + 1) (with_list bs (heap_of s scopes))
listed-heap s t scopes after id bs sound step graph held is =
    given-heap s t scopes after id (s.made + length bs + 1) (list-agrees s t id (length bs) sound step) held (ap (λ o. unwrap_or o 0) step.number) is
    ∙ ap (λ vs. with_handle (s.made + length bs + 1) (record (heap_of s scopes) { values = vs; made = t.made })) graph
    ∙ ap (λ m. with_handle (s.made + length bs + 1) (record (heap_of s scopes) { values = graph_of s ++ list_of s.made bs; made = m })) step.made

pub listed-live : (s t : StoreState) (scopes after : HandleScopes) (id n : ℕ) → IsSoundStore s → MakesList s t id n → HoldsLive s scopes → after ≡ with_issued_handle id scopes → HoldsLive t after
listed-live s t scopes after id n sound step held is =
    issued-live t scopes after id is (some-live (value_of t id) (s.made + n + 1) step.number) (more-live s t scopes (list-live s t id n sound step) held)

-- AN ERROR THAT IS THROWN
-- new strings of its texts, and the error
pub thrown-heap : (s t : StoreState) (scopes : HandleScopes) (code : Option TextNo) (message : TextNo) → Agrees s t → HoldsLive s scopes
    → t.made ≡ s.made + length (thrown_strings code message) + 1 → graph_of t ≡ graph_of s ++ thrown_of s.made code message
    → heap_of t scopes ≡ with_thrown code message (heap_of s scopes)
thrown-heap s t scopes code message agrees held made graph =
    ap (λ fs. record (heap_of t scopes) { scopes = fs }) (seen-alike s t scopes agrees held)
    ∙ ap (λ vs. record (heap_of s scopes) { values = vs; made = t.made }) graph
    ∙ ap (λ m. record (heap_of s scopes) { values = graph_of s ++ thrown_of s.made code message; made = m }) made
