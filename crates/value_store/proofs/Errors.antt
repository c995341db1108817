-- What an error has and names.
use Rattle.std.proofs.Common.{◌≡◌, ℕ, ◌+◌, nat_eq, [], ◌∷◌, ◌++◌, Option, Some, None, IfSome, option_map, refl}
use Rattle.std.specs.List.{All}
use Rattle.std.proofs.lemmas.List.Elements.{All-nil, All-cons}
use Rattle.std.proofs.lemmas.Map.Keys.{IsDistinct-cons}
use Rattle.napi_types.specs.declared.ids.ValueId.{ValueId}
use Rattle.napi_types.specs.plain.Texts.{message_text, code_text}
use Rattle.napi_types.specs.parts.Graph.{StoreState, number_in, renamed, graph_of}
use Rattle.napi_types.specs.parts.NewValues.{error_of}
use Rattle.napi_types.specs.parts.Properties.{HasDistinctNames}
use Rattle.napi_types.specs.parts.Values.{Value, children}
use Rattle.value_store.proofs.PropertyNames.{distinct-none}

-- the number in the store of a code, where there is one
abbrev pub code_number : Option ValueId → Option ℕ
code_number code = option_map (λ (c : ValueId). c.0) code

-- `message` and `code` are two names
pub error-names : (n : ℕ) (code : Option ℕ) (message : ℕ) → let v : Value = error_of n code message in HasDistinctNames v.properties
error-names n None message = IsDistinct-cons nat_eq message_text [] tt distinct-none
error-names n (Some code) message = IsDistinct-cons nat_eq message_text (code_text ∷ []) (refl, tt) (IsDistinct-cons nat_eq code_text [] tt distinct-none)

-- an error names its message and its code, and nothing else
pub error-children : (P : ℕ → Type 0) (n : ℕ) (code : Option ValueId) (message : ℕ) → IfSome code (λ c. P c.0) → P message → All P (children (error_of n (code_number code) message))
error-children P n None message coded said = All-cons P message [] said (All-nil P)
error-children P n (Some code) message coded said = All-cons P message (code.0 ∷ []) said (All-cons P code.0 [] coded (All-nil P))

-- and it is named so by creation numbers
pub error-named : (s : StoreState) (n : ℕ) (code : Option ValueId) (message : ℕ) → renamed s (error_of n (code_number code) message) ≡ error_of n (option_map (λ c. number_in s c.0) code) (number_in s message)
error-named s n None message = refl
error-named s n (Some code) message = refl

pub error-graph : (s : StoreState) (made : ℕ) (code : Option ValueId) (message : ℕ)
    → graph_of s ++ renamed s (error_of (made + 1) (code_number code) message) ∷ [] ≡ graph_of s ++ error_of (made + 1) (option_map (λ c. number_in s c.0) code) (number_in s message) ∷ []
error-graph s made None message = refl
error-graph s made (Some code) message = refl
