-- In every run to its end each thread has come to its end.
use Rattle.std.proofs.Common.{◌≡◌, ◌∙◌, ℕ, zero, suc, ◌+◌, ◌<◌, ◌≤◌, ◌==◌, Bool, true, false, not, cond, List, [], ◌∷◌, length, filter, IsTrue, refl, ap, sym, arith, Option, Some, None, is_none, is_some}
use Rattle.std.specs.List.{All, range_with_len, sum_by}
use Rattle.std.proofs.lemmas.Bool.Decides.{nat_tests}
use Rattle.std.proofs.lemmas.List.Elements.{All-nil, All-cons, All-head, All-tail}
use Rattle.napi_types.specs.declared.call.Ask.{Ask}
use Rattle.napi_types.specs.declared.call.Call.{Call}
use Rattle.napi_types.specs.declared.entry.Actor.{Actor}
use Rattle.napi_types.specs.declared.entry.Actor.TheVariants as actor
use Rattle.napi_types.specs.declared.entry.Entry.{Entry}
use Rattle.napi_types.specs.plain.Entries.{is_environment}
use Rattle.napi_types.specs.plain.Lists.{has_number}
use Rattle.napi_types.specs.plain.Room.{one_if}
use Rattle.napi_types.specs.hub.Actors.{is_thread, left_after, left_along}
use Rattle.napi_types.specs.hub.HistoryRoom.{work_places, function_places, reserved_history}
use Rattle.napi_types.specs.hub.Hub.{Hub, threads_left, workers_left, stage_places}
use Rattle.napi_types.specs.hub.HubSteps.{hub_step}
use Rattle.napi_types.specs.runs.Machine.{Machine}
use Rattle.napi_types.specs.runs.Run.{IsRunBy, final}
use Rattle.napi_types.specs.runs.Setting.{Setting, opening_of, final_of}
use Rattle.napi_types.specs.runs.Step.{has_room, step_of}
use Rattle.napi_types.specs.all_runs.HubLaws.{ThreadsComeToTheirEnd, ThreadsKeepAsOthersGoOn, PrefixesOfThreadsKeep}
use Rattle.napi_types.proofs.plain.Conditions.{and-right}
use Rattle.napi_types.proofs.plain.Found.{same-tells}
use Rattle.napi_types.proofs.hub.ThreadEnds.{step-left, step-threads, LeftSo}
use Rattle.napi_types.proofs.runs.HubsOfRuns.{hub-kept, env-kept}
use Rattle.napi_types.proofs.runs.Runs.{along-entries}
use Rattle.napi_types.proofs.all_runs.HistoryRooms.{HubRoomy, HistorySuffices, hub-run, opening-hub}
use Rattle.napi_types.proofs.all_runs.Rooms.{final-stage}
use Rattle.napi_types.proofs.all_runs.Scripts.{scripts-stay, prefixes-keep}

-- ALONG A RUN
of-left : (t : ℕ) (m : Machine) (a : Ask) (x : Entry) (left : Option (List Call)) (who : Actor) → x.actor ≡ who → IsTrue (step_of m a x who).may → LeftSo t m.hub left
    → LeftSo t (step_of m a x who).after.hub (cond (is_thread t who) (left_after left x.what) left)
of-left t m a x left actor.Env is may so = env-kept (λ h. LeftSo t h left) own m a x.reply.out m.env.frames may so
  where
    own : (h : Hub) (y : Entry) → is_environment y.actor ≡ true → IsTrue (hub_step h y).may → LeftSo t h left → LeftSo t (hub_step h y).after left
    own h y env may so = by y.actor refl (step-left t h y left may so)
      where
        by : (who : Actor) → y.actor ≡ who → LeftSo t (hub_step h y).after (cond (is_thread t y.actor) (left_after left y.what) left) → LeftSo t (hub_step h y).after left
        by actor.Env is so = ap (λ (v : Actor). is_none (cond (is_thread t v) (left_after left y.what) left)) (sym is) ∙ so
        by (actor.Thread u) is so = let no : false ≡ true = sym (ap is_environment is) ∙ env in cc
        by (actor.Worker w) is so = let no : false ≡ true = sym (ap is_environment is) ∙ env in cc
of-left t m a x left who is may so =
    ap (λ (v : Actor). is_none (cond (is_thread t v) (left_after left x.what) left)) (sym is)
    ∙ step-left t m.hub x left (and-right (has_room m x.what) (hub_step m.hub x).may may) so

along-left : (t : ℕ) (m : Machine) (bs : List Ask) (xs : List Entry) → IsRunBy m bs xs → (left : Option (List Call)) → LeftSo t m.hub left
    → LeftSo t (final m bs xs).hub (left_along t left xs)
along-left t =
    along-entries (λ m bs xs. (left : Option (List Call)) → LeftSo t m.hub left → LeftSo t (final m bs xs).hub (left_along t left xs)) (λ m left so. so)
    (λ m a bs x xs next rest left so. rest (cond (is_thread t x.actor) (left_after left x.what) left) (of-left t m a x left x.actor refl next.1 so))

same-threads : (s : Setting) (bs : List Ask) (xs : List Entry) → IsRunBy (opening_of s) bs xs → (final_of s bs xs).hub.threads ≡ s.threads
same-threads s bs xs run =
    hub-kept (λ (h : Hub). h.threads ≡ s.threads) (λ h y may same. step-threads h y may ∙ same) (opening_of s) bs xs run refl

-- AT ITS END
-- one that has not ended is left
pub some-left : (a n t : ℕ) (ended : List ℕ) → a ≤ t → t < a + n → has_number t ended ≡ false → 1 ≤ length (filter (λ k. not (has_number k ended)) (range_with_len a n))
some-left a zero t ended low high gone = absurd (omega (arith, low, high))
some-left a (suc n) t ended low high gone =
    by (a == t) refl (not (has_number a ended)) refl (λ above. some-left (a + 1) n t ended above (omega (arith, high)) gone)
  where
    rest : List ℕ
    rest = filter (λ k. not (has_number k ended)) (range_with_len (a + 1) n)

    wrong : (b : Bool) → not b ≡ false → b ≡ false → ⊥
    wrong true n g = let no : true ≡ false = g in cc
    wrong false n g = let no : true ≡ false = n in cc

    above : (a t : ℕ) → a ≤ t → (a == t) ≡ false → a + 1 ≤ t
    above a t low apart = grind (arith, nat_tests)

    by : (b : Bool) → (a == t) ≡ b → (c : Bool) → not (has_number a ended) ≡ c → (a + 1 ≤ t → 1 ≤ length rest) → 1 ≤ length (cond c (a ∷ rest) rest)
    by b is true left later = omega arith
    by true is false left later = absurd (wrong (has_number a ended) left (ap (λ m. has_number m ended) (same-tells a t is) ∙ gone))
    by false is false left later = later (above a t low is)

-- where the hub owes nothing no thread is left
no-thread-left : (h : Hub) → reserved_history h ≡ 0 → length (threads_left h) ≡ 0
no-thread-left h none =
    by (stage_places h.stage) (length (threads_left h)) (length (workers_left h)) (work_places h.pool) (sum_by function_places h.functions) (one_if (is_some h.standing)) none
  where
    by : (a b c d e f : ℕ) → a + b + c + d + e + f ≡ 0 → b ≡ 0
    by a b c d e f h = omega (arith, h)

pub threads-come-to-their-end : ThreadsComeToTheirEnd
threads-come-to-their-end s bs xs t calls below whole =
    let r : HubRoomy (HistorySuffices s) s.limits (final_of s bs xs) = hub-run (HistorySuffices s) s.limits (opening_of s) bs xs (opening-hub s) whole.run.steps in
    let none : length (threads_left h) ≡ 0 = no-thread-left h (r.spent (final-stage s bs xs whole.run.steps whole.gone)) in
    let so : LeftSo t h (left_along t (Some calls) xs) = along-left t (opening_of s) bs xs whole.run.steps (Some calls) refl in
    last (left_along t (Some calls) xs) (so ∙ gone (has_number t h.ended_threads) refl none)
  where
    h : Hub
    h = (final_of s bs xs).hub

    last : (o : Option (List Call)) → is_none o ≡ true → o ≡ None
    last None is = refl
    last (Some cs) is = cc

    below_count : (n : ℕ) → n ≡ s.threads → t < 0 + n
    below_count n same = omega (arith, below, same)

    gone : (b : Bool) → has_number t h.ended_threads ≡ b → length (threads_left h) ≡ 0 → b ≡ true
    gone true is none = refl
    gone false is none =
        let some : 1 ≤ length (threads_left h) =
        some-left 0 h.threads t h.ended_threads (omega arith) (below_count h.threads (same-threads s bs xs whole.run.steps)) is in
        absurd (omega (arith, some, none))

-- THEIR SCRIPTS
-- entries of no thread are none of each
none-of : (t : ℕ) (rest : List Entry) → All (λ x. (u : ℕ) → is_thread u x.actor ≡ false) rest → All (λ x. is_thread t x.actor ≡ false) rest
none-of t [] others = All-nil (λ (x : Entry). is_thread t x.actor ≡ false)
none-of t (x ∷ xs) others =
    All-cons (λ (y : Entry). is_thread t y.actor ≡ false) x xs (All-head (λ (y : Entry). (u : ℕ) → is_thread u y.actor ≡ false) x xs others t)
    (none-of t xs (All-tail (λ (y : Entry). (u : ℕ) → is_thread u y.actor ≡ false) x xs others))

pub threads-keep-on : ThreadsKeepAsOthersGoOn
threads-keep-on s scripts history rest others keep = record {
  count = keep.count;
  each = λ t operations there. scripts-stay s t operations history rest (none-of t rest others) (keep.each t operations there);
}

pub prefixes-of-threads-keep : PrefixesOfThreadsKeep
prefixes-of-threads-keep s scripts prefix rest keep = record {
  count = keep.count;
  each = λ t operations there. prefixes-keep s t operations prefix rest (keep.each t operations there);
}
