-- A run that is followed goes on at the hub; where it begins, and what it is at its end.
use Rattle.std.proofs.Common.{◌≡◌, ◌∙◌, ℕ, false, List, [], refl, ap, subst, sym, append-nil, None}
use Rattle.std.proofs.lemmas.List.Elements.{All-nil}
use Rattle.napi_types.specs.declared.duties.DueInfo.{DueInfo}
use Rattle.napi_types.specs.declared.entry.Entry.{Entry}
use Rattle.napi_types.specs.plain.Entries.{is_environment}
use Rattle.napi_types.specs.scripts.Plans.{Plan}
use Rattle.napi_types.specs.hub.Hub.{new_hub}
use Rattle.napi_types.specs.hub.HubSteps.{hub_along}
use Rattle.napi_types.specs.hub.Replays.{HubReplays}
use Rattle.napi_types.specs.runs.Setting.{Setting, opens_with, opening_of}
use Rattle.env_core.specs.Core.{Core, opened_core}
use Rattle.shared_hub.specs.HubStates.{HubSeen}
use Rattle.shared_hub.specs.KeptHubs.{IsLedHub}
use Rattle.shared_hub.specs.declared.naming.Numbers.{Numbers}
use Rattle.env_loop.specs.FollowedRuns.{IsRecordedWithPending, IsFollowed, taken_in, HasNumbers, FollowsOnAt}
use Rattle.env_loop.specs.RecordedRuns.{Run, opened_run}
use Rattle.env_loop.specs.Recording.{AddonStates, IsOf, IsBehindOwn}
use Rattle.env_loop.specs.OpenedAndGone.{OpenedRunsAreFollowed, GoneRunsHaveEnded}
use Rattle.env_loop.proofs.FollowedRuns.{others-taken-in}
use Rattle.env_loop.proofs.Recordings.{opened-recorded, gone_change-ended}

-- AT THE HUB
-- the history of the hub has led to it from the opening of each script with these numbers, ..
pub hub-is : (n : Numbers) (s : Setting) (before : HubSeen) → IsLedHub n before → HasNumbers s n → hub_along (opening_of s).hub before.history ≡ before.hub
hub-is n s before k numbers =
    ap (λ t. hub_along (new_hub t s.workers) before.history) numbers.threads
    ∙ ap (λ w. hub_along (new_hub n.threads w) before.history) numbers.workers
    ∙ k.led.hub

-- .. and replays from there
pub replays-in : (n : Numbers) (s : Setting) (before : HubSeen) → IsLedHub n before → HasNumbers s n → HubReplays s.limits.history (opening_of s).hub 0 before.history
replays-in n s before k numbers =
    let L : ℕ → Type 0 = λ l. HubReplays l (new_hub s.threads s.workers) 0 before.history in
    let T : ℕ → Type 0 = λ t. HubReplays n.limits.history (new_hub t s.workers) 0 before.history in
    let W : ℕ → Type 0 = λ w. HubReplays n.limits.history (new_hub n.threads w) 0 before.history in
    subst L (sym numbers.limit) (subst T (sym numbers.threads) (subst W (sym numbers.workers) k.led.replays))

-- a run that is recorded over the whole history is followed, where the environment made the last entry unless an end is pending
pub followed-whole : (s : Setting) (run : Run) (history : List Entry) (all : AddonStates) (firsts : List (List DueInfo))
    → IsRecordedWithPending s run history all firsts
    → (run.ending ≡ None → IsBehindOwn run.core history)
    → IsFollowed s run history all firsts
followed-whole s run history all firsts r own = record {
  prefix = history;
  rest = [];
  history_is = sym (append-nil history);
  others = All-nil (λ (x : Entry). is_environment x.actor ≡ false);
  joined = r;
  own = own;
}

-- it is so behind a turn at the hub
pub record IsRecordedAtHub (s : Setting) (run : Run) (history : List Entry) (all : AddonStates) (firsts : List (List DueInfo)) : Type 0 where
  pub joined : IsRecordedWithPending s run history all firsts
  pub own : run.ending ≡ None → IsBehindOwn run.core history

-- so a run that is followed goes on at the hub, where it does over the whole history
pub goes-at-hub : (n : Numbers) (plans : List Plan) (old new : Run) (before after : HubSeen) (all now : AddonStates) → IsLedHub n before
    → ((s : Setting) (firsts : List (List DueInfo)) → HasNumbers s n → IsOf s plans old.core → IsRecordedWithPending s
    (taken_in before.history old) before.history all firsts
    → IsRecordedAtHub s new after.history now firsts)
    → FollowsOnAt n plans old before.history all new after.history now
goes-at-hub n plans old new before after all now k turn = λ s firsts numbers of f.
    let r : IsRecordedAtHub s new after.history now firsts =
    turn s firsts numbers of (others-taken-in s old before.history all firsts (replays-in n s before k numbers) f) in
    followed-whole s new after.history now firsts r.joined r.own

-- WHERE IT BEGINS
pub opened-followed : OpenedRunsAreFollowed
opened-followed s core all is blank =
    let P : Core → Type 0 = λ c. IsFollowed s (opened_run c) [] all all.seen in
    subst P (sym is)
    (followed-whole s (opened_run (opened_core (opens_with s) s.limits.journal)) [] all all.seen
    (record { recorded = opened-recorded s all blank; owed = record { call = tt; end = tt } }) (λ none. refl))

-- ITS END
pub gone-ended : GoneRunsHaveEnded
gone-ended s run history all firsts replays f gone =
    gone_change-ended s (taken_in history run).core (hub_along (opening_of s).hub history) history all firsts (others-taken-in s run history all firsts replays f).recorded gone
