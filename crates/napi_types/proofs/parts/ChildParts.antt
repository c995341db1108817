-- What is said of each child of a value: of what its properties name, of what its elements name, and of its link.
use Rattle.std.proofs.Common.{ℕ, List, ◌++◌, map, option_to_list}
use Rattle.std.specs.List.{All, filter_map}
use Rattle.std.proofs.lemmas.List.Elements.{All-append}
use Rattle.napi_types.specs.parts.Values.{Value, children}
use Rattle.napi_types.proofs.plain.Lists.{All-left, All-right}

-- what its properties name, and what its elements name
abbrev by_properties : Value → List ℕ
by_properties v = map (λ p. p.value) v.properties

abbrev by_elements : Value → List ℕ
by_elements v = filter_map (λ e. e) v.elements

pub children-of : (P : ℕ → Type 0) (v : Value) → All P (by_properties v) → All P (by_elements v) → All P (option_to_list v.link) → All P (children v)
children-of P v ps es link =
    All-append P (by_properties v ++ by_elements v) (option_to_list v.link) (All-append P (by_properties v) (by_elements v) ps es) link

pub properties-of : (P : ℕ → Type 0) (v : Value) → All P (children v) → All P (by_properties v)
properties-of P v all = All-left P (by_properties v) (by_elements v) (All-left P (by_properties v ++ by_elements v) (option_to_list v.link) all)

pub elements-of : (P : ℕ → Type 0) (v : Value) → All P (children v) → All P (by_elements v)
elements-of P v all = All-right P (by_properties v) (by_elements v) (All-left P (by_properties v ++ by_elements v) (option_to_list v.link) all)

pub link-of : (P : ℕ → Type 0) (v : Value) → All P (children v) → All P (option_to_list v.link)
link-of P v all = All-right P (by_properties v ++ by_elements v) (option_to_list v.link) all
