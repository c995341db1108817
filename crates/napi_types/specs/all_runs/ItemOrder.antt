-- The order in which the items of a thread-safe function are accepted and begin.
use Rattle.std.specs.Prelude.{◌≡◌, ℕ, ◌==◌, cond, flat_map, List, [], ◌∷◌, length, Option, Some}
use Rattle.napi_types.specs.declared.entry.Duty.{Duty}
use Rattle.napi_types.specs.declared.entry.Duty.TheVariants as duty
use Rattle.napi_types.specs.declared.entry.Entry.{Entry}
use Rattle.napi_types.specs.plain.Entries.{begun_duty}
use Rattle.napi_types.specs.plain.Lists.{up_to}

-- the number of the item of this function that is named, where one is
abbrev pub named_item : ℕ → Option Duty → List ℕ
named_item f (Some (duty.Item g n)) = cond (g.0 == f) (n ∷ []) []
named_item f _ = []

-- the items of the function that are accepted along the entries, in their order, and those whose frames begin
abbrev pub items_made : ℕ → List Entry → List ℕ
items_made f xs = flat_map (λ x. named_item f x.reply.made) xs

abbrev pub items_begun : ℕ → List Entry → List ℕ
items_begun f xs = flat_map (λ x. named_item f (begun_duty x.what x.reply.out)) xs

-- its items count from 1, in the order in which they are accepted, and begin in that order, none left out
pub record CountItems (f : ℕ) (xs : List Entry) : Type 0 where
  pub made : items_made f xs ≡ up_to (length (items_made f xs))
  pub begun : items_begun f xs ≡ up_to (length (items_begun f xs))
