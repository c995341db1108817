-- A history that grows at its end, and its prefixes.
use Rattle.std.proofs.Common.{◌≡◌, ◌∙◌, ℕ, ◌+◌, suc, List, [], ◌∷◌, ◌++◌, length, IsTrue, refl, ap, sym, subst, arith}
use Rattle.napi_types.specs.declared.entry.Entry.{Entry}
use Rattle.napi_types.specs.plain.Lists.{singleton}
use Rattle.napi_types.specs.plain.Room.{fits_in}
use Rattle.napi_types.specs.hub.HistoryLaws.{LeadsTo, PrefixesReplay}
use Rattle.napi_types.specs.hub.HistoryRoom.{history_room}
use Rattle.napi_types.specs.hub.Hub.{Hub, new_hub}
use Rattle.napi_types.specs.hub.HubSteps.{IsHubNext, hub_step, hub_along}
use Rattle.napi_types.specs.hub.Replays.{HubReplays}

pub along-more : (h : Hub) (xs : List Entry) (x : Entry) → hub_along h (xs ++ singleton x) ≡ (hub_step (hub_along h xs) x).after
along-more h [] x = refl
along-more h (y ∷ ys) x = along-more (hub_step h y).after ys x

pub replays-more : (limit : ℕ) (h : Hub) (n : ℕ) (xs : List Entry) (x : Entry) → HubReplays limit h n xs → IsHubNext (hub_along h xs) x
    → IsTrue (fits_in (history_room (hub_along h xs) (n + length xs) limit) x.what) → HubReplays limit h n (xs ++ singleton x)
replays-more limit h n [] x replays next fits = (next, subst (λ k. IsTrue (fits_in (history_room h k limit) x.what)) (zero-right n) fits, tt)
  where
    zero-right : (n : ℕ) → n + 0 ≡ n
    zero-right n = omega arith
replays-more limit h n (y ∷ ys) x replays next fits = (
  replays.0,
  replays.1,
  replays-more limit (hub_step h y).after (n + 1) ys x replays.2 next
      (subst (λ k. IsTrue (fits_in (history_room (hub_along (hub_step h y).after ys) k limit) x.what)) (right n (length ys)) fits),
)
  where
    right : (n k : ℕ) → n + suc k ≡ n + 1 + k
    right n k = omega arith

-- one entry more leads to the hub after it
pub leads-more : (limit threads workers : ℕ) (history : List Entry) (h : Hub) (x : Entry) → LeadsTo limit threads workers history h → IsHubNext h x
    → IsTrue (fits_in (history_room h (length history) limit) x.what) → LeadsTo limit threads workers (history ++ singleton x) (hub_step h x).after
leads-more limit threads workers history h x led next fits = record {
  replays = replays-more limit (new_hub threads workers) 0 history x led.replays (subst (λ g. IsHubNext g x) (sym led.hub) next)
      (subst (λ n. IsTrue (fits_in (history_room (hub_along (new_hub threads workers) history) n limit) x.what)) (zero-left (length history))
      (subst (λ g. IsTrue (fits_in (history_room g (length history) limit) x.what)) (sym led.hub) fits));
  hub = along-more (new_hub threads workers) history x ∙ ap (λ g. (hub_step g x).after) led.hub;
}
  where
    zero-left : (n : ℕ) → n ≡ 0 + n
    zero-left n = omega arith

-- FRONTS
pub along-parts : (h : Hub) (prefix rest : List Entry) → hub_along h (prefix ++ rest) ≡ hub_along (hub_along h prefix) rest
along-parts h [] rest = refl
along-parts h (x ∷ prefix) rest = along-parts (hub_step h x).after prefix rest

prefix-replays : (limit : ℕ) (h : Hub) (n : ℕ) (prefix rest : List Entry) → HubReplays limit h n (prefix ++ rest) → HubReplays limit h n prefix
prefix-replays limit h n [] rest replays = tt
prefix-replays limit h n (x ∷ prefix) rest replays = (replays.0, replays.1, prefix-replays limit (hub_step h x).after (n + 1) prefix rest replays.2)

replays-behind : (limit : ℕ) (h : Hub) (n : ℕ) (prefix rest : List Entry) → HubReplays limit h n (prefix ++ rest)
    → HubReplays limit (hub_along h prefix) (n + length prefix) rest
replays-behind limit h n [] rest replays = subst (λ k. HubReplays limit h k rest) (same n) replays
  where
    same : (k : ℕ) → k ≡ k + 0
    same k = omega arith
replays-behind limit h n (x ∷ prefix) rest replays =
    subst (λ k. HubReplays limit (hub_along (hub_step h x).after prefix) k rest) (same n (length prefix))
    (replays-behind limit (hub_step h x).after (n + 1) prefix rest replays.2)
  where
    same : (k l : ℕ) → k + 1 + l ≡ k + suc l
    same k l = omega arith

pub prefixes-replay : PrefixesReplay
prefixes-replay limit threads workers prefix rest h led = record {
  leads = record { replays = prefix-replays limit (new_hub threads workers) 0 prefix rest led.replays; hub = refl };
  replays =
      subst (λ n. HubReplays limit (hub_along (new_hub threads workers) prefix) n rest) (zero-more (length prefix))
      (replays-behind limit (new_hub threads workers) 0 prefix rest led.replays);
  hub = sym (along-parts (new_hub threads workers) prefix rest) ∙ led.hub;
}
  where
    zero-more : (n : ℕ) → 0 + n ≡ n
    zero-more n = omega arith
