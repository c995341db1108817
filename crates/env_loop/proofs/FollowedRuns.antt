-- A run that is followed takes in what others added, with what is pending.
use Rattle.std.proofs.Common.{◌∙◌, ◌+◌, ◌≤◌, arith, ℕ, Bool, true, false, not, ◌&&◌, ◌||◌, cond, List, ◌++◌, ◌≡◌, length, refl, ap, subst, sym, length-append, append_assoc, Option, Some, None}
use Rattle.std.specs.Prelude.{IfSome}
use Rattle.std.specs.List.{All}
use Rattle.std.proofs.lemmas.List.Elements.{All-append}
use Rattle.napi_types.specs.declared.call.Ask.{Ask}
use Rattle.napi_types.specs.declared.call.Ask.TheVariants as ask
use Rattle.napi_types.specs.declared.call.Call.{Call}
use Rattle.napi_types.specs.declared.duties.DueInfo.{DueInfo}
use Rattle.napi_types.specs.declared.entry.Entry.{Entry}
use Rattle.napi_types.specs.declared.entry.Why.{Why}
use Rattle.napi_types.specs.declared.entry.Why.TheVariants as why
use Rattle.napi_types.specs.plain.Entries.{is_environment}
use Rattle.napi_types.specs.plain.Guards.{is_shared}
use Rattle.napi_types.specs.plain.Lists.{singleton}
use Rattle.napi_types.specs.plain.Room.{Room, is_full, may_want_memory}
use Rattle.napi_types.specs.scripts.Plans.{Registers}
use Rattle.napi_types.specs.environment.Changes.{may_call}
use Rattle.napi_types.specs.environment.JournalRoom.{journal_room}
use Rattle.napi_types.specs.hub.HistoryLaws.{KeepsHub, LeadsTo, GoesOnBehind, StaysPressed}
use Rattle.napi_types.specs.hub.HistoryRoom.{history_room}
use Rattle.napi_types.specs.hub.Hub.{Hub, IsStageOf}
use Rattle.napi_types.specs.hub.HubOwners.{IsOwnedHub}
use Rattle.napi_types.specs.hub.HubSteps.{hub_along, hub_step}
use Rattle.napi_types.specs.hub.Replays.{HubReplays}
use Rattle.napi_types.specs.runs.Machine.{Machine}
use Rattle.napi_types.specs.runs.Setting.{Setting, opening_of}
use Rattle.napi_types.specs.runs.Step.{may_cut}
use Rattle.napi_types.specs.all_runs.Joined.{AreJoined, GoesOnJoined, with_others, gone_on}
use Rattle.napi_types.proofs.hub.GrowingHistories.{prefixes-replay}
use Rattle.napi_types.proofs.hub.OthersKeep.{others-keep-hub}
use Rattle.napi_types.proofs.hub.Occupied.{calls-stay-pressed}
use Rattle.napi_types.proofs.all_runs.Joining.{others-join}
use Rattle.napi_types.proofs.all_runs.LedHubs.{prefixes-join}
use Rattle.env_core.specs.Core.{Core}
use Rattle.shared_hub.specs.HubStates.{HubSeen, AddsEntry}
use Rattle.env_loop.specs.declared.run.FrameEnd.{FrameEnd}
use Rattle.env_loop.specs.declared.run.FrameEnd.TheVariants as end
use Rattle.env_loop.specs.Recording.{AddonStates, machine_of, HasSeen, IsRecorded}
use Rattle.env_loop.specs.RecordedRuns.{Run, FitsHub}
use Rattle.env_loop.specs.FollowedRuns.{MayEndSo, PendingIsAsked, IsRecordedWithPending, taken_in, FittingRunsStand, OthersAreTakenIn, OthersMayAdd}

-- THE RUN
module _ (s : Setting) (core : Core) (prefix rest : List Entry) (all : AddonStates) (firsts : List (List DueInfo))
    (r : IsRecorded s core (hub_along (opening_of s).hub prefix) prefix all firsts) (g : GoesOnJoined s r.asks core.journal prefix rest)
    (k : GoesOnBehind s.limits.history s.threads s.workers prefix rest (hub_along (opening_of s).hub (prefix ++ rest))) where
  taken : IsRecorded s (record core { position = length (prefix ++ rest) }) (hub_along (opening_of s).hub (prefix ++ rest)) (prefix ++ rest) all firsts
  taken = record {
    asks = with_others r.asks rest;
    own = r.own;
    run = g.run;
    final = g.machine ∙ ap (gone_on rest) r.final
        ∙ ap (λ h. record (machine_of s.limits core h prefix) { history_length = length prefix + length rest }) k.hub
        ∙ ap (λ n. record (machine_of s.limits core (hub_along (opening_of s).hub (prefix ++ rest)) prefix) { history_length = n })
        (sym (length-append prefix rest));
    registers = g.registers ∙ r.registers;
    count = r.count;
    agrees = r.agrees;
    seen = subst (λ l. HasSeen firsts l all.seen) (sym g.begun) r.seen;
    limit = r.limit;
    position = refl;
    rises = g.rises;
    parted = g.parted;
    placed = g.placed r.placed;
  }

-- WHAT IS OWED
and-then : (x a b : Bool) → (a ≡ true → b ≡ true) → (x && a) ≡ true → (x && b) ≡ true
and-then true a b f is = f is
and-then false a b f is = is

and-first : (a b x : Bool) → (a ≡ true → b ≡ true) → (a && x) ≡ true → (b && x) ≡ true
and-first true b x f is = ap (λ (y : Bool). y && x) (f refl) ∙ is
and-first false b x f is = cc

-- a shared call that may be cut still may, where the hub and the history are such that each call stays pressed
module _ (m : Machine) (h : Hub) (n : ℕ)
    (full : (c : Call) → is_full (history_room m.hub m.history_length m.limits.history) c ≡ true → is_full (history_room h n m.limits.history) c ≡ true)
    (wants : (c : Call) → may_want_memory (history_room m.hub m.history_length m.limits.history) c ≡ true
    → may_want_memory (history_room h n m.limits.history) c ≡ true) where
  abbrev old_room : Bool → Room
  old_room b = cond b (history_room m.hub m.history_length m.limits.history) (journal_room m.env m.journal_length m.limits.journal)

  abbrev new_room : Bool → Room
  new_room b = cond b (history_room h n m.limits.history) (journal_room m.env m.journal_length m.limits.journal)

  full-on : (b : Bool) (c : Call) → (may_call m.env && is_full (old_room b) c) ≡ true → (may_call m.env && is_full (new_room b) c) ≡ true
  full-on true c is = and-then (may_call m.env) _ _ (full c) is
  full-on false c is = is

  memory-on : (b : Bool) (c : Call) → (may_call m.env && may_want_memory (old_room b) c && (b || not (is_full (old_room b) c))) ≡ true
      → (may_call m.env && may_want_memory (new_room b) c && (b || not (is_full (new_room b) c))) ≡ true
  memory-on true c is = and-first _ _ true (and-then (may_call m.env) _ _ (wants c)) is
  memory-on false c is = is

  cut-stays : (a : Ask) (w : Why) → may_cut m a w ≡ true → may_cut (record m { hub = h; history_length = n }) a w ≡ true
  cut-stays a why.Asks is = is
  cut-stays (ask.Do c) why.Full is = full-on (is_shared c) c is
  cut-stays (ask.Do c) why.Memory is = memory-on (is_shared c) c is
  cut-stays (ask.Leave v) why.Full is = is
  cut-stays (ask.Leave v) why.Memory is = is

  -- so the frame may still end as is pending
  end-stays : (s : Setting) (rss : Registers) (how : FrameEnd) → MayEndSo s rss m how → MayEndSo s rss (record m { hub = h; history_length = n }) how
  end-stays s rss end.Leaves may = may
  end-stays s rss (end.Cut w) may = (may.0, may.1, cut-stays may.0 w may.2, may.3)

  owed-end : (s : Setting) (rss : Registers) (o : Option FrameEnd) → IfSome o (MayEndSo s rss m) → IfSome o (MayEndSo s rss (record m { hub = h; history_length = n }))
  owed-end s rss None may = may
  owed-end s rss (Some how) may = end-stays s rss how may

module _ (s : Setting) (run : Run) (prefix rest : List Entry) (all : AddonStates) (others : All (λ x. is_environment x.actor ≡ false) rest)
    (o : PendingIsAsked s all.registers (machine_of s.limits run.core (hub_along (opening_of s).hub prefix) prefix) run)
    (k : GoesOnBehind s.limits.history s.threads s.workers prefix rest (hub_along (opening_of s).hub (prefix ++ rest))) where
  pressed : (c : Call) → StaysPressed s.limits.history (hub_along (opening_of s).hub prefix) (length prefix) rest c
  pressed c = calls-stay-pressed s.limits.history s.threads s.workers prefix rest (hub_along (opening_of s).hub prefix) c k.leads others k.replays

  abbrev Owed : Hub → ℕ → Type 0
  Owed h n =
      PendingIsAsked s all.registers (record (machine_of s.limits run.core (hub_along (opening_of s).hub prefix) prefix) { hub = h; history_length = n })
      (taken_in (prefix ++ rest) run)

  owed-stays : PendingIsAsked s all.registers (machine_of s.limits run.core (hub_along (opening_of s).hub (prefix ++ rest)) (prefix ++ rest))
      (taken_in (prefix ++ rest) run)
  owed-stays =
      let h : Hub = hub_along (opening_of s).hub prefix in
      let behind : Owed (hub_along h rest) (length prefix + length rest) = record {
        call = o.call;
        end =
            owed-end (machine_of s.limits run.core h prefix) (hub_along h rest) (length prefix + length rest)
            (λ c. (pressed c).full) (λ c. (pressed c).wants) s all.registers run.ending o.end;
      } in
      subst (λ g. Owed g (length (prefix ++ rest))) k.hub (subst (λ n. Owed (hub_along h rest) n) (sym (length-append prefix rest)) behind)

-- BOTH
pub others-taken-in : OthersAreTakenIn
others-taken-in s run history all firsts replays f =
    let led : LeadsTo s.limits.history s.threads s.workers (f.prefix ++ f.rest) (hub_along (opening_of s).hub (f.prefix ++ f.rest)) =
    record { replays = subst (λ ks. HubReplays s.limits.history (opening_of s).hub 0 ks) f.history_is replays; hub = refl } in
    let behind : GoesOnBehind s.limits.history s.threads s.workers f.prefix f.rest (hub_along (opening_of s).hub (f.prefix ++ f.rest)) =
    prefixes-replay s.limits.history s.threads s.workers f.prefix f.rest _ led in
    let r : IsRecorded s run.core (hub_along (opening_of s).hub f.prefix) f.prefix all firsts = f.joined.recorded in
    let joined : AreJoined s r.asks run.core.journal f.prefix f.rest =
    prefixes-join s r.asks run.core.journal f.prefix f.rest _ r.run r.rises r.parted led f.others in
    let whole : IsRecordedWithPending s (taken_in (f.prefix ++ f.rest) run) (f.prefix ++ f.rest) all firsts = record {
      recorded = taken s run.core f.prefix f.rest all firsts r (others-join s r.asks run.core.journal f.prefix f.rest joined) behind;
      owed = owed-stays s run f.prefix f.rest all f.others f.joined.owed behind;
    } in
    subst (λ ks. IsRecordedWithPending s (taken_in ks run) ks all firsts) (sym f.history_is) whole

pub others-may-add : OthersMayAdd
others-may-add s run history rest all firsts f added = record {
  prefix = f.prefix;
  rest = f.rest ++ rest;
  history_is = ap (λ xs. xs ++ rest) f.history_is ∙ append_assoc f.prefix f.rest rest;
  others = All-append (λ (x : Entry). is_environment x.actor ≡ false) f.rest rest f.others added;
  joined = f.joined;
  own = f.own;
}

-- a run fits with its hub as another actor goes on
pub fitting-runs-stand : FittingRunsStand
fitting-runs-stand r before after x fits other adds = record {
  stage = subst (IsStageOf r.core.env.phase) (sym (ap (λ (h : Hub). h.stage) adds.hub ∙ kept.standing.stage)) fits.stage;
  standing = ap (λ (h : Hub). h.standing) adds.hub ∙ kept.standing.standing ∙ fits.standing;
  owned = subst (IsOwnedHub r.core.env.addons) (sym adds.hub) (kept.owned r.core.env.addons fits.owned);
  noted = omega (arith, fits.noted, ap length adds.history ∙ length-append before.history (singleton x));
}
  where
    kept : KeepsHub before.hub (hub_step before.hub x).after
    kept = others-keep-hub before.hub x other adds.next
