-- The places of a history that are taken do not become fewer as others go on.
use Rattle.std.proofs.Common.{◌≡◌, ◌≤◌, ℕ, ◌+◌, suc, Bool, true, false, ◌||◌, nat_lt, min, List, [], ◌∷◌, ◌++◌, length, length-append, refl, sym, subst, arith}
use Rattle.std.proofs.lemmas.List.Elements.{All-head, All-tail}
use Rattle.napi_types.specs.declared.entry.Entry.{Entry}
use Rattle.napi_types.specs.plain.Entries.{is_environment}
use Rattle.napi_types.specs.plain.Guards.{is_growing}
use Rattle.napi_types.specs.plain.Lists.{singleton}
use Rattle.napi_types.specs.plain.Room.{Room, need, first_places}
use Rattle.napi_types.specs.hub.HistoryLaws.{OthersOccupyNoLess, CallsStayPressed}
use Rattle.napi_types.specs.hub.HistoryRoom.{history_room, reserved_history}
use Rattle.napi_types.specs.hub.HubSteps.{hub_step, hub_along}
use Rattle.napi_types.specs.hub.Replays.{HubReplays}
use Rattle.napi_types.proofs.hub.GrowingHistories.{leads-more}
use Rattle.napi_types.proofs.hub.OthersLower.{others-lower-nothing}

length-one : (history : List Entry) (x : Entry) → length (history ++ singleton x) ≡ length history + 1
length-one history x = length-append history (singleton x)

pub others-occupy-no-less : OthersOccupyNoLess
others-occupy-no-less limit threads workers history [] h led others replays = omega arith
others-occupy-no-less limit threads workers history (x ∷ xs) h led others replays =
    let other : is_environment x.actor ≡ false = All-head (λ (y : Entry). is_environment y.actor ≡ false) x xs others in
    let low : reserved_history h ≤ reserved_history (hub_step h x).after + 1 = others-lower-nothing limit threads workers history h x led other replays.0 in
    let more : _ =
    others-occupy-no-less limit threads workers (history ++ singleton x) xs (hub_step h x).after
    (leads-more limit threads workers history h x led replays.0 replays.1)
    (All-tail (λ (y : Entry). is_environment y.actor ≡ false) x xs others)
    (subst (λ n. HubReplays limit (hub_step h x).after n xs) (sym (length-one history x)) replays.2) in
    by (length history) (length (history ++ singleton x)) (length xs) (reserved_history h) (reserved_history (hub_step h x).after)
    (reserved_history (hub_along (hub_step h x).after xs)) (length-one history x) low more
  where
    by : (n k l r s t : ℕ) → k ≡ n + 1 → r ≤ s + 1 → k + s ≤ k + l + t → n + r ≤ n + suc l + t
    by n k l r s t same low more = omega (arith, same, low, more)

-- CALLS
less-stays : (l a b k : ℕ) → a ≤ b → nat_lt l (a + k) ≡ true → nat_lt l (b + k) ≡ true
less-stays l a b k le is = grind (arith, le, is)

pub calls-stay-pressed : CallsStayPressed
calls-stay-pressed limit threads workers history rest h c led others replays =
    let r : Room = history_room h (length history) limit in
    let q : Room = history_room (hub_along h rest) (length history + length rest) limit in
    let le : r.occupied ≤ q.occupied = others-occupy-no-less limit threads workers history rest h led others replays in
    record {
      full = λ is. less-stays limit r.occupied q.occupied (need c) le is;
      wants = λ is. wants (is_growing c) (nat_lt (min first_places limit) (r.occupied + need c)) (nat_lt (min first_places limit) (q.occupied + need c))
          (less-stays (min first_places limit) r.occupied q.occupied (need c) le) is;
    }
  where
    wants : (g a b : Bool) → (a ≡ true → b ≡ true) → (g || a) ≡ true → (g || b) ≡ true
    wants true a b f is = refl
    wants false a b f is = f is
