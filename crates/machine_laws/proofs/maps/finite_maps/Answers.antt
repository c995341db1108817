use Rattle.std.proofs.Common.{◌≡◌, ℕ, List, Some, [], ◌∷◌, refl, ap}
use Rattle.napi_types.specs.plain.Lists.{with_number}
use Rattle.napi_types.specs.parts.References.{Reference, ReferenceMap}
use Rattle.napi_types.proofs.plain.Found.{found-same}
use Rattle.machine_laws.specs.MapLaws.{ReferencesHaveNoOrder, PlacesHaveNoOrder}
use Rattle.machine_laws.proofs.Unordered.{with_record-swap, with_record-there, with_record-others, numbers-swap, put-more}
use Rattle.machine_laws.proofs.maps.finite_maps.Goals as goal

same-map : (rs qs : List Reference) (is js : List ℕ) → rs ≡ qs → is ≡ js → let m : ReferenceMap = record { rows = rs; issued = is } in m ≡ record { rows = qs; issued = js }
same-map rs qs is js e f = cc

references-law : ReferencesHaveNoOrder
references-law m n value count =
    let number : Reference → ℕ = λ r. r.number in
    let r : Reference = record { number = n; value = Some value; count = count } in
    record {
      there = with_record-there number r m.rows;
      others = λ k apart. with_record-others number r k m.rows apart;
      order = λ k w c apart. same-map _ _ _ _ (with_record-swap number r (record { number = k; value = Some w; count = c }) m.rows apart) (numbers-swap n k m.issued);
    }

pub returns-clause-references : goal.returns-clause-references
returns-clause-references c = references-law

pub returns-clause-numbers : goal.returns-clause-numbers
returns-clause-numbers c = numbers-swap

pub returns-clause-records : goal.returns-clause-records
returns-clause-records c = found-same (λ (r : Reference). r.number)

abbrev first_number : List Reference → ℕ
first_number [] = 0
first_number (r ∷ rs) = r.number

pub returns-clause-rising : goal.returns-clause-rising
returns-clause-rising c = record { later_first = refl; earlier_first = refl; falling = λ same. let one : 1 ≡ 2 = ap first_number same in cc }

places-law : PlacesHaveNoOrder
places-law p at n value count inside empty new =
    ap (λ (rs : List Reference). record { rows = rs; issued = with_number n p.issued }) (put-more (record { number = n; value = Some value; count = count }) p.places at inside empty new)

pub returns-clause-places : goal.returns-clause-places
returns-clause-places c = places-law
