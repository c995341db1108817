-- How the rows that are held stand for the places of the references.
use Rattle.std.specs.Prelude.{ℕ, ◌==◌, Bool, cond, map, Option, Some, None, option_map}
use Rattle.generation_slab.specs.HeldPlaces.{HeldValue, HeldPlaces, with_value}
use Rattle.napi_types.specs.declared.ids.ValueId.{ValueId}
use Rattle.napi_types.specs.parts.References.{Reference}
use Rattle.napi_reference.specs.declared.rows.ReferenceRow.{ReferenceRow}
use Rattle.napi_reference.specs.ReferencePlaces.{ReferencePlaces}

-- the reference of a number whose row this is
abbrev pub reference_of : ℕ → ReferenceRow → Reference
reference_of n row = record { number = n; value = option_map (λ v. v.0) row.value; count = row.count }

abbrev pub reference_held : HeldValue ReferenceRow → Reference
reference_held h = reference_of h.number h.value

-- a reference stands where its row does
abbrev pub references_in : HeldPlaces ReferenceRow → ReferencePlaces
references_in s = record { places = map (option_map reference_held) s.places; issued = s.issued }

-- the value of a row as these values are collected
abbrev pub id_left : (ℕ → Bool) → Option ValueId → Option ValueId
id_left collected None = None
id_left collected (Some v) = cond (collected v.0) None (Some v)

-- a row with the count 0 loses its value as it is collected, and any other stays as it is
abbrev pub weak_emptied : (ℕ → Bool) → ReferenceRow → ReferenceRow
weak_emptied collected row = cond (row.count == 0) (record row { value = id_left collected row.value }) row

-- and so does each that stands at a place
abbrev pub held_emptied : (ℕ → Bool) → HeldValue ReferenceRow → HeldValue ReferenceRow
held_emptied collected h = with_value (weak_emptied collected h.value) h

abbrev pub rows_emptied : (ℕ → Bool) → HeldPlaces ReferenceRow → HeldPlaces ReferenceRow
rows_emptied collected s = record s { places = map (option_map (held_emptied collected)) s.places }
