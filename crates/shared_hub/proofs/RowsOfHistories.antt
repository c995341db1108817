-- The rows of a history.
use Rattle.std.proofs.Common.{◌≡◌, ◌≢◌, ◌∙◌, ℕ, false, [], ◌∷◌, ◌++◌, refl, ap}
use Rattle.std.proofs.lemmas.List.{length-map}
use Rattle.std.proofs.lemmas.List.Elements.{All-nil, All-cons, All-head, All-tail}
use Rattle.napi_types.specs.declared.entry.Actor.{Actor}
use Rattle.napi_types.specs.declared.entry.Actor.TheVariants as actor
use Rattle.napi_types.specs.declared.entry.Entry.{Entry}
use Rattle.napi_types.specs.plain.Entries.{is_environment}
use Rattle.napi_types.specs.plain.Lists.{tail, head}
use Rattle.std.specs.Option.{option_map_or}
use Rattle.turn_lock.specs.declared.told.Row.{Row}
use Rattle.shared_hub.specs.HubRows.{pass_of, row_of, rows_of, RowsAreAsMany, RowsGoOn, HistoriesGoOnAsRows, OtherRowsAreOfOthers}

pub rows-many : RowsAreAsMany
rows-many threads history = length-map history (row_of threads)

pub rows-go-on : RowsGoOn
rows-go-on threads [] rest = refl
rows-go-on threads (x ∷ prefix) rest = ap (λ rs. row_of threads x ∷ rs) (rows-go-on threads prefix rest)

pub histories-go-on : HistoriesGoOnAsRows
histories-go-on threads [] after rows is = (after, refl, is)
histories-go-on threads (x ∷ before) [] rows is = absurd (empty is)
  where
    empty : [] ≡ row_of threads x ∷ (rows_of threads before ++ rows) → ⊥
    empty e = cc
histories-go-on threads (x ∷ before) (y ∷ after) rows is =
    let later = histories-go-on threads before after rows (ap tail is) in
    let first : y ≡ x = ap (λ rs. option_map_or (λ (r : Row). r.entry) (head rs) y) is in
    (later.0, ap (λ z. z ∷ after) first ∙ ap (λ zs. x ∷ zs) later.1, later.2)

pub other-actor : (threads : ℕ) (a : Actor) → pass_of threads a ≢ 0 → is_environment a ≡ false
other-actor threads actor.Env other = absurd (other refl)
other-actor threads (actor.Thread t) other = refl
other-actor threads (actor.Worker w) other = refl

pub others-of_rows : OtherRowsAreOfOthers
others-of_rows threads [] other = All-nil (λ (x : Entry). is_environment x.actor ≡ false)
others-of_rows threads (x ∷ history) other =
    All-cons (λ (y : Entry). is_environment y.actor ≡ false) x history (other-actor threads x.actor (All-head (λ (r : Row). r.pass ≢ 0) (row_of threads x) (rows_of threads history) other))
    (others-of_rows threads history (All-tail (λ (r : Row). r.pass ≢ 0) (row_of threads x) (rows_of threads history) other))
