-- The places that the history owes, as the fields tell them.
use Rattle.std.proofs.Common.{◌≡◌, ◌≤◌, ℕ, ◌+◌, sum_by, List, length, ap, subst, arith, is_some}
use Rattle.std.specs.List.{All}
use Rattle.std.proofs.lemmas.List.Elements.{All-weaker}
use Rattle.napi_types.specs.declared.entry.Entry.{Entry}
use Rattle.napi_types.specs.plain.Room.{one_if, most_entries}
use Rattle.napi_types.specs.parts.Functions.{FunctionState, accepted_items}
use Rattle.napi_types.specs.parts.Pool.{WorkPool}
use Rattle.napi_types.specs.hub.HistoryLaws.{IsHubWithin}
use Rattle.napi_types.specs.hub.HistoryRoom.{work_places, function_places, reserved_history}
use Rattle.napi_types.specs.hub.Hub.{Hub, stage_places, threads_left, workers_left}
use Rattle.napi_types.proofs.hub.HubBounds.{hubs-are-within}
use Rattle.shared_hub.specs.declared.naming.Numbers.{Numbers}
use Rattle.shared_hub.specs.declared.progress.HubProgress.{HubProgress}
use Rattle.shared_hub.specs.HubParts.{HubParts, parts_places, ArePartsWithin}
use Rattle.shared_hub.specs.HubProgress.{hub_stage, progress_places}
use Rattle.shared_hub.specs.HubStates.{led_by}
use Rattle.shared_hub.specs.KeptHubs.{IsKeptHistory, AreFieldsOf}
use Rattle.shared_hub.proofs.HubHistories.{leads}

pub places-of_fields : (h : Hub) (parts : HubParts) (p : HubProgress) → AreFieldsOf h parts p → progress_places p + parts_places parts ≡ reserved_history h
places-of_fields h parts p f =
    by (stage_places h.stage) (stage_places (hub_stage p.stage)) (length (threads_left h)) p.threads_left (length (workers_left h)) p.workers_left
    (work_places h.pool) (work_places parts.pool) (sum_by function_places h.functions) (sum_by function_places parts.functions) (one_if (is_some h.standing)) (one_if p.stands)
    (ap stage_places f.stage) f.threads_are f.workers_are (ap work_places f.pool) (ap (sum_by function_places) f.functions) (ap one_if f.standing)
  where
    by : (a b c d e g i j k l m o : ℕ) → a ≡ b → c ≡ d → e ≡ g → i ≡ j → k ≡ l → m ≡ o → b + d + g + o + (j + l) ≡ a + c + e + i + k + m
    by a b c d e g i j k l m o ab cd eg ij kl mo = omega (arith, ab, cd, eg, ij, kl, mo)

pub parts-within : (n : Numbers) (history : List Entry) (limit capacity : ℕ) (parts : HubParts) (p : HubProgress) → IsKeptHistory n history limit capacity
    → AreFieldsOf (led_by n history) parts p → parts_places parts ≤ most_entries
parts-within n history limit capacity parts p k f =
    by (progress_places p) (parts_places parts) (reserved_history (led_by n history)) (length history) limit most_entries (places-of_fields (led_by n history) parts p f) k.within k.small
  where
    by : (a b r l m o : ℕ) → a + b ≡ r → l + r ≤ m → m ≤ o → b ≤ o
    by a b r l m o is le most = omega (arith, is, le, most)

-- the works and the functions of a hub are within what a history may have
pub parts-fit : (n : Numbers) (history : List Entry) (limit capacity : ℕ) (parts : HubParts) (p : HubProgress) → IsKeptHistory n history limit capacity
    → AreFieldsOf (led_by n history) parts p → ArePartsWithin parts
parts-fit n history limit capacity parts p k f =
    let h : Hub = led_by n history in
    let within : IsHubWithin (length history) h = hubs-are-within n.limits.history n.threads n.workers history h (leads n history limit capacity k) in
    let short : length history ≤ most_entries = by (length history) (reserved_history h) limit most_entries k.within k.small in
    record {
      issued = far _ _ _ (subst (λ (q : WorkPool). length q.issued ≤ length history) f.pool within.issued) short;
      numbered = far _ _ _ (subst (λ (q : WorkPool). q.numbered ≤ length history) f.pool within.numbered) short;
      functions = far _ _ _ (subst (λ (fs : List FunctionState). length fs ≤ length history) f.functions within.functions) short;
      items = more-few (length history) short parts.functions (subst (λ (fs : List FunctionState). All (λ g. accepted_items g ≤ length history) fs) f.functions within.items);
      places = parts-within n history limit capacity parts p k f;
    }
  where
    by : (l r m o : ℕ) → l + r ≤ m → m ≤ o → l ≤ o
    by l r m o le most = omega (arith, le, most)

    far : (a b d : ℕ) → a ≤ b → b ≤ d → a ≤ d
    far a b d ab bd = omega (arith, ab, bd)

    more-few : (l : ℕ) → l ≤ most_entries → (fs : List FunctionState) → All (λ g. accepted_items g ≤ l) fs → All (λ g. accepted_items g ≤ most_entries) fs
    more-few l le fs few = All-weaker (λ (g : FunctionState). accepted_items g ≤ l) (λ (g : FunctionState). accepted_items g ≤ most_entries) (λ g small. far _ _ _ small le) fs few
