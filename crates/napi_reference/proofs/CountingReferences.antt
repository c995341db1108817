-- Which calls are refused, by the row of the reference that they name.
use Rattle.std.proofs.Common.{◌≡◌, ◌∙◌, ℕ, ◌<◌, true, false, Some, None, is_some, refl, sym}
use Rattle.napi_types.specs.declared.call.Call.{Call}
use Rattle.napi_types.specs.declared.call.Call.TheVariants as call
use Rattle.napi_types.specs.declared.ids.RefId.{RefId}
use Rattle.napi_types.specs.declared.status.Status.TheVariants as status
use Rattle.napi_types.specs.plain.Lists.{singleton}
use Rattle.napi_types.specs.parts.ReferenceRefusals.{references_of, count_refusal, reference_refusal}
use Rattle.napi_types.specs.parts.References.{ReferenceMap, has_reference, most_count}
use Rattle.napi_types.proofs.plain.Found.{apart-above, apart-below}
use Rattle.napi_reference.specs.declared.rows.ReferenceRow.{ReferenceRow}
use Rattle.napi_reference.proofs.ReferenceNumbers.{IsReferenceRow, valued}

-- a call that names a reference that is not there is refused
pub refused_unknown : (m : ReferenceMap) (n : ℕ) (c : Call) → references_of c ≡ singleton n → has_reference m n ≡ false
    → reference_refusal m c ≡ Some status.InvalidArg
refused_unknown m n c names absent = rw (names, absent) refl

-- one that names a reference that is there is refused for its count alone
pub refused_known : (m : ReferenceMap) (n : ℕ) (c : Call) → references_of c ≡ singleton n → has_reference m n ≡ true → reference_refusal m c ≡ count_refusal m c
refused_known m n c names there = rw (names, there) refl

pub add_of_gone : (m : ReferenceMap) (id : RefId) (row : ReferenceRow) → IsReferenceRow m id.0 row → is_some row.value ≡ false → None ≡ reference_refusal m (call.ReferenceRef id)
add_of_gone m id row is gone = sym (refused_known m id.0 (call.ReferenceRef id) refl is.there ∙ rw (valued m id.0 row is, gone) refl)

pub add_of_full : (m : ReferenceMap) (id : RefId) (row : ReferenceRow) → IsReferenceRow m id.0 row → is_some row.value ≡ true → row.count ≡ most_count → Some status.GenericFailure ≡ reference_refusal m (call.ReferenceRef id)
add_of_full m id row is here full = sym (refused_known m id.0 (call.ReferenceRef id) refl is.there ∙ rw (valued m id.0 row is, here, is.count, full) refl)

pub add_of_less : (m : ReferenceMap) (id : RefId) (row : ReferenceRow) → IsReferenceRow m id.0 row → is_some row.value ≡ true → row.count < most_count → None ≡ reference_refusal m (call.ReferenceRef id)
add_of_less m id row is here less = sym (refused_known m id.0 (call.ReferenceRef id) refl is.there ∙ rw (valued m id.0 row is, here, is.count, apart-below row.count most_count less) refl)

pub take_of_none : (m : ReferenceMap) (id : RefId) (row : ReferenceRow) → IsReferenceRow m id.0 row → row.count ≡ 0 → Some status.GenericFailure ≡ reference_refusal m (call.ReferenceUnref id)
take_of_none m id row is none = sym (refused_known m id.0 (call.ReferenceUnref id) refl is.there ∙ rw (is.count, none) refl)

pub take_of_some : (m : ReferenceMap) (id : RefId) (row : ReferenceRow) → IsReferenceRow m id.0 row → 0 < row.count → None ≡ reference_refusal m (call.ReferenceUnref id)
take_of_some m id row is some = sym (refused_known m id.0 (call.ReferenceUnref id) refl is.there ∙ rw (is.count, apart-above 0 row.count some) refl)
