-- References as the machine sees them, and the weak ones that calls on values want besides.
use Rattle.std.specs.Prelude.{◌≡◌, ℕ, Bool, true, false, ◌&&◌, ◌∷◌, Option, is_none, map, option_map}
use Rattle.napi_types.specs.declared.entry.Out.{Out}
use Rattle.napi_types.specs.declared.entry.Out.TheVariants as out
use Rattle.napi_types.specs.plain.Lists.{has_number}
use Rattle.napi_types.specs.parts.Graph.{StoreState, IsLive, number_in}
use Rattle.napi_types.specs.parts.References.{Reference, ReferenceMap, with_reference}
use Rattle.napi_reference.specs.ReferencePlaces.{AllValues}

-- a reference has the creation number of its value, where the crate below has the store's number
abbrev pub seen_reference : StoreState → Reference → Reference
seen_reference store r = record r { value = option_map (number_in store) r.value }

-- all references
abbrev pub references_seen : StoreState → ReferenceMap → ReferenceMap
references_seen store m = record m { rows = map (seen_reference store) m.rows }

-- the value of each reference is live, where it was not collected
abbrev pub RefersToLive : StoreState → ReferenceMap → Type 0
RefersToLive store m = AllValues (IsLive store) m

-- A WEAK REFERENCE
-- a call wants a reference, and names no finalizer
abbrev pub wants_alone : Option ℕ → Bool → Bool
wants_alone finalizer wanted = is_none finalizer && wanted

-- where one is wanted the result is that of a new reference to the value, whose count is 0, and else nothing changes
abbrev pub RefersIf : Bool → ℕ → ReferenceMap → Out → ReferenceMap → Type 0
RefersIf true v old (out.Ref r) new = (has_number r.0 (0 ∷ old.issued) ≡ false) × (new ≡ with_reference r.0 v 0 old)
RefersIf false v old out.Nothing new = new ≡ old
RefersIf wanted v old o new = ⊥
