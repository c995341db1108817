-- A run goes on by a turn of the environment alone, over the same history and beside the same hub.
use Rattle.std.proofs.Common.{◌≡◌, ◌≤◌, ℕ, List, length, Option, None, IfSome, subst, sym, ◌∙◌}
use Rattle.napi_types.specs.declared.entry.Entry.{Entry}
use Rattle.napi_types.specs.declared.entry.Phase.{Phase}
use Rattle.napi_types.specs.scripts.Plans.{Plan}
use Rattle.napi_types.specs.hub.Hub.{Stage, IsStageOf}
use Rattle.napi_types.specs.hub.HubOwners.{IsOwnedHub}
use Rattle.napi_types.specs.hub.HubSteps.{hub_along}
use Rattle.napi_types.specs.runs.Setting.{opening_of}
use Rattle.shared_hub.specs.HubStates.{HubSeen}
use Rattle.env_loop.specs.Recording.{AddonStates, RecordsOwn, KeepsRecord}
use Rattle.env_loop.specs.RecordedRuns.{Run, hub_begun, FitsHub}
use Rattle.env_loop.specs.FollowedRuns.{FollowsOn}

-- a fact of what is there holds where nothing is
pub if_some-none : {A : Type 0} (P : A → Type 0) {o : Option A} → o ≡ None → IfSome o P
if_some-none {A} P {o} none = let Q : Option A → Type 0 = λ x. IfSome x P in subst Q (sym none) tt

-- a turn goes on over each history, where nothing is pending before it and after it
pub local-goes : (plans : List Plan) (old new : Run) (all now : AddonStates) → KeepsRecord plans old.core all new.core now → old.ending ≡ None
    → new.core.awaited ≡ None → new.ending ≡ None
    → (history : List Entry) → FollowsOn plans old history all new history now
local-goes plans old new all now turn free idle unended history = λ s firsts of f.
    let was : RecordsOwn s old.core (hub_along (opening_of s).hub f.prefix) f.prefix all firsts = record { recorded = f.joined.recorded; own = f.own free } in
    let is : RecordsOwn s new.core (hub_along (opening_of s).hub f.prefix) f.prefix now firsts = turn s
    (hub_along (opening_of s).hub f.prefix) f.prefix firsts of was in
    record {
      prefix = f.prefix;
      rest = f.rest;
      history_is = f.history_is;
      others = f.others;
      joined = record {
        recorded = is.recorded;
        owed = record { call = if_some-none _ idle; end = if_some-none _ unended };
      };
      own = λ none. is.own;
    }

-- THE HUB BESIDE IT
-- each stage of the first phase is one of the second
abbrev pub KeepsStages : Phase → Phase → Type 0
KeepsStages p q = (s : Stage) → IsStageOf p s → IsStageOf q s

-- so it is where they are the same phase
pub stages-same : (p q : Phase) → q ≡ p → KeepsStages p q
stages-same p q same = λ s is. subst (λ r. IsStageOf r s) (sym same) is

-- a run fits with the same hubs where the stages of its phase, its addons, its position and the hub's duty whose frame stands are as before
pub fits-local : (old new : Run) → KeepsStages old.core.env.phase new.core.env.phase → hub_begun new.begun ≡ hub_begun old.begun
    → new.core.env.addons ≡ old.core.env.addons → new.core.position ≡ old.core.position → (seen : HubSeen) → FitsHub old seen → FitsHub new seen
fits-local old new keeps begun addons position seen f =
    let O : ℕ → Type 0 = λ n. IsOwnedHub n seen.hub in
    let N : ℕ → Type 0 = λ n. n ≤ length seen.history in
    record {
      stage = keeps seen.hub.stage f.stage;
      standing = f.standing ∙ sym begun;
      owned = subst O (sym addons) f.owned;
      noted = subst N (sym position) f.noted;
    }
