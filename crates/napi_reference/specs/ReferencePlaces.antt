-- The places where references stand, as their callers go over them, and the map that they stand for.
use Rattle.std.specs.Prelude.{◌≡◌, ℕ, nat_eq, List, map, Option, Some, None, IfSome}
use Rattle.std.specs.List.{All, IsDistinct, filter_map}
use Rattle.napi_types.specs.plain.Lists.{found, as_map}
use Rattle.napi_types.specs.parts.References.{Reference, ReferenceMap, reference_at, strong_value}

-- each place, with the reference that stands there, if one does, and the numbers that were issued
pub record ReferencePlaces : Type 0 where
  pub places : List (Option Reference)
  pub issued : List ℕ

-- the references that stand at places
abbrev pub standing : List (Option Reference) → List Reference
standing places = filter_map (λ place. place) places

-- the map from numbers to references, at whatever place each stands
abbrev pub map_of : ReferencePlaces → ReferenceMap
map_of p = record { rows = as_map (λ r. r.number) (standing p.places); issued = p.issued }

-- each reference of the map stands at exactly one place: what the map has under a number stands at a place, and under no number does anything stand at two
pub record EachReferenceStandsOnce (p : ReferencePlaces) : Type 0 where
  pub there : (n : ℕ) → reference_at (map_of p) n ≡ found (λ r. r.number) n (standing p.places)
  pub apart : IsDistinct nat_eq (map (λ r. r.number) (standing p.places))

-- the value that a strong reference at a place keeps
abbrev pub strong_in : Option Reference → Option ℕ
strong_in None = None
strong_in (Some r) = strong_value r

-- of each value that a reference has, P holds
abbrev pub AllValues : (ℕ → Type 0) → ReferenceMap → Type 0
AllValues P m = All (λ r. IfSome r.value P) m.rows
