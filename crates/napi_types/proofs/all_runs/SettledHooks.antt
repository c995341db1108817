-- In every run each asynchronous hook that began is settled where the drain comes.
use Rattle.std.proofs.Common.{◌≡◌, ◌≢◌, ◌∙◌, ◌⊎◌, ◌≤◌, ◌<◌, ◌+◌, ℕ, zero, suc, ◌==◌, nat_eq, Bool, true, false, IsTrue, List, [], ◌∷◌, ◌++◌, map, length, Some, inl, inr, refl, ap, sym, subst, arith}
use Rattle.std.specs.List.{All, IsDistinct}
use Rattle.std.proofs.lemmas.List.{append-nil, append_assoc, flat_map_more}
use Rattle.std.proofs.lemmas.List.Elements.{All-nil, All-cons, All-append, All-weaker}
use Rattle.std.proofs.lemmas.Bool.{eqb-true}
use Rattle.std.proofs.lemmas.Option.{same_Some}
use Rattle.napi_types.specs.declared.call.Ask.{Ask}
use Rattle.napi_types.specs.declared.call.Call.{Call}
use Rattle.napi_types.specs.declared.entry.Entry.{Entry}
use Rattle.napi_types.specs.declared.entry.HostStep.{HostStep}
use Rattle.napi_types.specs.declared.entry.HostStep.TheVariants as host
use Rattle.napi_types.specs.declared.entry.Out.{Out}
use Rattle.napi_types.specs.declared.entry.Out.TheVariants as out
use Rattle.napi_types.specs.declared.entry.Phase.{Phase}
use Rattle.napi_types.specs.declared.entry.Phase.TheVariants as phase
use Rattle.napi_types.specs.declared.entry.What.{What}
use Rattle.napi_types.specs.declared.entry.What.TheVariants as what
use Rattle.napi_types.specs.plain.Entries.{host_entry}
use Rattle.napi_types.specs.plain.Phases.{next_phase}
use Rattle.napi_types.specs.plain.Room.{one_if}
use Rattle.napi_types.specs.parts.AsyncHooks.{AsyncHook}
use Rattle.napi_types.specs.parts.Book.{new_ticket}
use Rattle.napi_types.specs.parts.Hooks.{Hook}
use Rattle.napi_types.specs.environment.Changes.{issued_number, with_none_waiting}
use Rattle.napi_types.specs.environment.Entering.{asked_change}
use Rattle.napi_types.specs.environment.Ends.{end_change}
use Rattle.napi_types.specs.environment.Environment.{Environment}
use Rattle.napi_types.specs.environment.SharedCalls.{shared_entry}
use Rattle.napi_types.specs.hub.Hub.{Hub, Stage, Before, Live, LoopEnded, HooksAbandoned, Drained, Final, IsStageOf}
use Rattle.napi_types.specs.hub.HubMoves.{HubMove, Delivers, Closes, Finishes}
use Rattle.napi_types.specs.hub.HubEvents.{delivery_entry}
use Rattle.napi_types.specs.hub.HubSteps.{hub_step}
use Rattle.napi_types.specs.runs.Choice.{choice, waiting_hooks}
use Rattle.napi_types.specs.runs.Loop.{Event, Moves, Abandons, Drains}
use Rattle.napi_types.specs.runs.Machine.{Machine}
use Rattle.napi_types.specs.runs.Run.{IsNext, IsRunBy, after, final}
use Rattle.napi_types.specs.runs.Setting.{Setting, opening_of, final_of}
use Rattle.napi_types.specs.runs.Step.{Step, event_step, move_step, by_hub, has_room, step}
use Rattle.napi_types.specs.all_runs.AbandonedHooks.{AddedHook, hooks_added, times_abandoned, unfinished_hooks, is_abandon, IsSettled, TellsUnfinished, HooksAreSettled}
use Rattle.napi_types.specs.all_runs.Order.{tickets_begun}
use Rattle.napi_types.proofs.plain.Conditions.{and-right}
use Rattle.napi_types.proofs.environment.Cases.{asked-by}
use Rattle.napi_types.proofs.environment.FrameEnds.{ended-ends}
use Rattle.napi_types.proofs.hub.HubKeeps.{hub_step-what}
use Rattle.napi_types.proofs.runs.Chosen as choices
use Rattle.napi_types.proofs.runs.Chosen.{OwnChoice, NoChoice, HubChoice, chosen-in-phase}
use Rattle.napi_types.proofs.runs.Forms as form
use Rattle.napi_types.proofs.runs.Forms.{Form, form-of, shared-what, ended-what, event_what, event-what, other-what}
use Rattle.napi_types.proofs.runs.NewNumbers.{next-new}
use Rattle.napi_types.proofs.runs.SharedSteps.{shares-still, moves-still, others-still, end-stage, is_of_others, others-told}
use Rattle.napi_types.proofs.runs.StepCases.{StepCase, calls, ends, opens, inits, begins, vanishes, shares, leaves, passes, moves, others, abandons, event_before, Passes, stage-moved}
use Rattle.napi_types.proofs.all_runs.AbandonedHooks.{HooksTold, BegunBelow, told-step, abandoned-one, unfinished-count, told-numbers, NoHookWaits, none-unsettled, none-counted, abandoned-none, still-none}
use Rattle.napi_types.proofs.all_runs.HookRows as row
use Rattle.napi_types.proofs.all_runs.HookRows.{HookNews, hook_news, HookStep, StepOfHooks, hook-step}
use Rattle.napi_types.proofs.all_runs.NamedWorks.{InTwoParts, parts-of}
use Rattle.napi_types.proofs.all_runs.Onces.{book-grows}
use Rattle.napi_types.proofs.all_runs.Orderly.{Orderly, orderly-opens, orderly-run, along-orderly}
use Rattle.napi_types.proofs.all_runs.Orders.{tickets_told, MayBegin, MayBeginAt, hooks-fewer}

-- HOW OFTEN HOOKS MAY STILL BE ABANDONED
abbrev abandons_left : Stage → ℕ
abandons_left Before = 1
abandons_left Live = 1
abandons_left LoopEnded = 1
abandons_left HooksAbandoned = 0
abandons_left Drained = 0
abandons_left Final = 0

-- a step takes one where it is `abandon`
abbrev TakesItsPlace : Machine → Step → Type 0
TakesItsPlace m s = one_if (is_abandon s.entry.what) + abandons_left s.after.hub.stage ≤ abandons_left m.hub.stage

takes-none : (w : What) (old new : Stage) → is_abandon w ≡ false → abandons_left new ≤ abandons_left old
    → one_if (is_abandon w) + abandons_left new ≤ abandons_left old
takes-none w old new calm falls = by (is_abandon w) (abandons_left new) (abandons_left old) calm falls
  where
    by : (b : Bool) (k n : ℕ) → b ≡ false → k ≤ n → one_if b + k ≤ n
    by true k n is less = cc
    by false k n is less = omega (arith, less)

same-left : (old new : Stage) → new ≡ old → abandons_left new ≤ abandons_left old
same-left old new same = let is : abandons_left new ≡ abandons_left old = ap abandons_left same in omega (arith, is)

asked-calm : (e : Environment) (c : Call) (n : ℕ) → is_abandon (asked_change e c n).entry.what ≡ false
asked-calm e c n = asked-by e c n (λ d. is_abandon d.entry.what ≡ false) refl (λ receiver f args none. refl)

event-calm : (p : Phase) → is_abandon (what.Host (event_before p)) ≡ false
event-calm phase.Init = refl
event-calm phase.Live = refl
event-calm phase.Hooks = refl
event-calm phase.Drain = refl
event-calm phase.Finals = refl
event-calm phase.Gone = refl

others-calm : (w : What) → is_of_others w ≡ true → is_abandon w ≡ false
others-calm (what.Host host.Abandon) its = cc
others-calm (what.Host _) its = refl
others-calm (what.Call c) its = refl

move-calm : (m : Machine) (move : HubMove) → is_abandon (move_step m move).entry.what ≡ false
move-calm m (Delivers d) = ap is_abandon (hub_step-what m.hub (delivery_entry d))
move-calm m (Closes n) = ap is_abandon (hub_step-what m.hub (host_entry host.CloseTsfn (out.Function (record { 0 = n }))))
move-calm m (Finishes n) = ap is_abandon (hub_step-what m.hub (host_entry host.FinishTsfn (out.Function (record { 0 = n }))))

-- a phase that starts
passed-falls : (q p : Phase) (old new : Stage) → next_phase q ≡ Some p → p ≢ phase.Gone → IsStageOf q old → IsStageOf p new
    → abandons_left new ≤ abandons_left old
passed-falls phase.Init p old new next never before far = early old before (abandons_left new) (most new)
  where
    most : (s : Stage) → abandons_left s ≤ 1
    most Before = omega arith
    most Live = omega arith
    most LoopEnded = omega arith
    most HooksAbandoned = omega arith
    most Drained = omega arith
    most Final = omega arith

    early : (s : Stage) → s ≡ Before → (n : ℕ) → n ≤ 1 → n ≤ abandons_left s
    early s is n most = rw is most
passed-falls phase.Live p old new next never before far = early old before (abandons_left new) (most new)
  where
    most : (s : Stage) → abandons_left s ≤ 1
    most Before = omega arith
    most Live = omega arith
    most LoopEnded = omega arith
    most HooksAbandoned = omega arith
    most Drained = omega arith
    most Final = omega arith

    early : (s : Stage) → s ≡ Live → (n : ℕ) → n ≤ 1 → n ≤ abandons_left s
    early s is n most = rw is most
passed-falls phase.Hooks p old new next never before far =
    let here : new ≡ Drained = subst (λ r. IsStageOf r new) (sym (same_Some phase.Drain p next)) far in
    let none : abandons_left new ≡ 0 = ap abandons_left here in
    omega (arith, none)
passed-falls phase.Drain p old new next never before far =
    let here : new ≡ Final = subst (λ r. IsStageOf r new) (sym (same_Some phase.Finals p next)) far in
    let none : abandons_left new ≡ 0 = ap abandons_left here in
    omega (arith, none)
passed-falls phase.Finals p old new next never before far = absurd (never (sym (same_Some phase.Gone p next)))
passed-falls phase.Gone p old new next never before far = cc

stage-step : (m : Machine) (s : Step) → Orderly m → StepCase m s → IsTrue s.may → TakesItsPlace m s
stage-step m s h (calls c n may alone) ok = takes-none s.entry.what m.hub.stage s.after.hub.stage (asked-calm m.env c n) (omega arith)
stage-step m s h (ends v cut may alone) ok = takes-none s.entry.what m.hub.stage s.after.hub.stage (ap is_abandon (ended-ends v cut m.env).is) (omega arith)
stage-step m s h opens ok = omega arith
stage-step m s h (inits n) ok = omega arith
stage-step m s h (begins n r there next may) ok = omega arith
stage-step m s h (vanishes last) ok = omega arith
stage-step m s h (shares c o shared answers) ok =
    takes-none s.entry.what m.hub.stage s.after.hub.stage (ap is_abandon (hub_step-what m.hub (shared_entry m.env c o)))
    (same-left m.hub.stage s.after.hub.stage (shares-still m c o).stage)
stage-step m s h (leaves v cut may ours) ok =
    let x : Entry = (end_change v cut m.env).entry in
    takes-none s.entry.what m.hub.stage s.after.hub.stage (ap is_abandon (hub_step-what m.hub x ∙ (ended-ends v cut m.env).is))
    (same-left m.hub.stage s.after.hub.stage (end-stage m.hub x (ended-ends v cut m.env).who (ended-ends v cut m.env).is))
stage-step m s h (passes p o q) ok =
    takes-none s.entry.what m.hub.stage s.after.hub.stage (ap (λ (x : Entry). is_abandon x.what) q.entry ∙ event-calm p)
    (passed-falls m.env.phase p m.hub.stage s.after.hub.stage q.next q.never h.stage q.far)
stage-step m s h (abandons here far none alone) ok =
    let after_it : s.after.hub.stage ≡ HooksAbandoned = stage-moved m host.Abandon LoopEnded far in
    let gone : abandons_left s.after.hub.stage ≡ 0 = ap abandons_left after_it in
    let before : abandons_left m.hub.stage ≡ 1 = ap abandons_left far in
    at-most (is_abandon s.entry.what) (abandons_left s.after.hub.stage) (abandons_left m.hub.stage) gone before
  where
    at-most : (b : Bool) (k n : ℕ) → k ≡ 0 → n ≡ 1 → one_if b + k ≤ n
    at-most true k n gone one = omega (arith, gone, one)
    at-most false k n gone one = omega (arith, gone, one)
stage-step m s h (moves move next moving alone) ok =
    takes-none s.entry.what m.hub.stage s.after.hub.stage (move-calm m move) (same-left m.hub.stage s.after.hub.stage (moves-still m move).stage)
stage-step m s h (others x other) ok =
    takes-none s.entry.what m.hub.stage s.after.hub.stage
    (ap is_abandon (hub_step-what m.hub x) ∙ others-calm x.what (others-told m.hub x other (and-right (has_room m x.what) (hub_step m.hub x).may ok)))
    (same-left m.hub.stage s.after.hub.stage (others-still m x other).stage)

-- WHERE HOOKS WERE ABANDONED
-- the hub has come there before the step, or the step abandons them
record IsAbandoning (m : Machine) (s : Step) : Type 0 where
  pub here : m.env.phase ≡ phase.Hooks
  pub empty : m.env.hooks ≡ []
  pub now : s.after.env ≡ with_none_waiting m.env

ended-loop : (m : Machine) (o : Out) → m.hub.stage ≡ Live → (by_hub m host.LoopEnd phase.Hooks o).after.hub.stage ≢ HooksAbandoned
ended-loop m (out.Ended w) far is = let moved : (by_hub m host.LoopEnd phase.Hooks (out.Ended w)).after.hub.stage ≡ LoopEnded =
    stage-moved m host.LoopEnd Live far in cc
ended-loop m _ far is = let no : Live ≡ HooksAbandoned = sym far ∙ is in cc

from-live : (p : Phase) → next_phase p ≡ Some phase.Hooks → p ≡ phase.Live
from-live phase.Live next = refl
from-live phase.Init next = cc
from-live phase.Hooks next = cc
from-live phase.Drain next = cc
from-live phase.Finals next = cc
from-live phase.Gone next = cc

passed-not : (m : Machine) (p : Phase) (o : Out) → Orderly m → Passes m p o → (by_hub m (event_before p) p o).after.hub.stage ≢ HooksAbandoned
passed-not m phase.Hooks o h q is = ended-loop m o (subst (λ p. IsStageOf p m.hub.stage) (from-live m.env.phase q.next) h.stage) is
passed-not m phase.Init o h q is = let no : Before ≡ HooksAbandoned = sym q.far ∙ is in cc
passed-not m phase.Live o h q is = let no : Live ≡ HooksAbandoned = sym q.far ∙ is in cc
passed-not m phase.Drain o h q is = let no : Drained ≡ HooksAbandoned = sym q.far ∙ is in cc
passed-not m phase.Finals o h q is = let no : Final ≡ HooksAbandoned = sym q.far ∙ is in cc
passed-not m phase.Gone o h q is = absurd (q.never refl)

stage-was : (m : Machine) (s : Step) → Orderly m → StepCase m s → s.after.hub.stage ≡ HooksAbandoned → (m.hub.stage ≡ HooksAbandoned) ⊎ IsAbandoning m s
stage-was m s h (calls c n may alone) there = inl there
stage-was m s h (ends v cut may alone) there = inl there
stage-was m s h opens there = inl there
stage-was m s h (inits n) there = inl there
stage-was m s h (begins n r registered next may) there = inl there
stage-was m s h (vanishes last) there = inl there
stage-was m s h (shares c o shared answers) there = inl (sym (shares-still m c o).stage ∙ there)
stage-was m s h (leaves v cut may ours) there =
    let x : Entry = (end_change v cut m.env).entry in inl (sym (end-stage m.hub x (ended-ends v cut m.env).who (ended-ends v cut m.env).is) ∙ there)
stage-was m s h (passes p o q) there = absurd (passed-not m p o h q there)
stage-was m s h (abandons here far none alone) there = inr (record { here = here; empty = none; now = refl })
stage-was m s h (moves move next moving alone) there = inl (sym (moves-still m move).stage ∙ there)
stage-was m s h (others x other) there = inl (sym (others-still m x other).stage ∙ there)

-- then no hook waits, and none may begin
record NoHookIsLeft (e : Environment) : Type 0 where
  pub none : NoHookWaits e.async_hooks
  pub never : (t : ℕ) → MayBeginAt e t → ⊥

abbrev NoneIsLeftAt : Machine → Type 0
NoneIsLeftAt m = m.hub.stage ≡ HooksAbandoned → NoHookIsLeft m.env

phase-of-hooks : (p : Phase) (s : Stage) → IsStageOf p s → s ≡ HooksAbandoned → p ≡ phase.Hooks
phase-of-hooks phase.Hooks s far is = refl
phase-of-hooks phase.Init s far is = let no : Before ≡ HooksAbandoned = sym far ∙ is in cc
phase-of-hooks phase.Live s far is = let no : Live ≡ HooksAbandoned = sym far ∙ is in cc
phase-of-hooks phase.Drain s far is = let no : Drained ≡ HooksAbandoned = sym far ∙ is in cc
phase-of-hooks phase.Finals s far is = let no : Final ≡ HooksAbandoned = sym far ∙ is in cc
phase-of-hooks phase.Gone s far is = let no : Final ≡ HooksAbandoned = sym far ∙ is in cc

given-up : (e : Environment) → e.phase ≡ phase.Hooks → e.hooks ≡ [] → NoHookIsLeft (with_none_waiting e)
given-up e here empty = record {
  none = abandoned-none e.async_hooks;
  never = λ t may.
      let no : false ≡ true = subst (λ hooks. MayBegin phase.Hooks hooks t) empty (subst (λ p. MayBegin p e.hooks t) here may) in
      cc;
}

left-step : (m : Machine) (s : Step) → Orderly m → Orderly s.after → StepOfHooks m s → StepCase m s → NoneIsLeftAt m → NoneIsLeftAt s.after
left-step m s h k told case left there = by (stage-was m s h case there)
  where
    by : (m.hub.stage ≡ HooksAbandoned) ⊎ IsAbandoning m s → NoHookIsLeft s.after.env
    by (inr q) = subst NoHookIsLeft (sym q.now) (given-up m.env q.here q.empty)
    by (inl before) =
        let was : NoHookIsLeft m.env = left before in
        let here : m.env.phase ≡ phase.Hooks = phase-of-hooks m.env.phase m.hub.stage h.stage before in
        record {
          none = still-none m.env.async_hooks m.env.hooks (new_ticket m.env.book) _ s.after.env.async_hooks
              (λ t stands. was.never t (subst (λ p. MayBegin p m.env.hooks t) (sym here) stands)) told was.none;
          never = λ t may. was.never t (hooks-fewer m s h k case t may);
        }

-- ALONG A RUN
-- what the entries of a run tell, where it has come to this machine
record HooksAlong (xs : List Entry) (m : Machine) : Type 0 where
  pub told : HooksTold xs m.env.async_hooks
  pub below : BegunBelow (new_ticket m.env.book) xs
  pub once : times_abandoned xs + abandons_left m.hub.stage ≤ 1
  pub left : NoneIsLeftAt m

-- what begins was given
begun-within : (old : List AsyncHook) (list : List Hook) (bound : ℕ) (news : HookNews) (new : List AsyncHook) → HookStep old list bound news new
    → All (λ t. t < bound) news.begun
begun-within old list bound _ _ row.rests = All-nil (λ t. t < bound)
begun-within old list bound _ _ (row.passes_by t within apart) = All-cons (λ t. t < bound) t [] within (All-nil (λ t. t < bound))
begun-within old list bound _ _ (row.adds n t fresh above) = All-nil (λ t. t < bound)
begun-within old list bound _ _ (row.removes n there) = All-nil (λ t. t < bound)
begun-within old list bound _ _ (row.starts t within stands set) = All-cons (λ t. t < bound) t [] within (All-nil (λ t. t < bound))
begun-within old list bound _ _ row.gives_up = All-nil (λ t. t < bound)

along-step : (ys : List Entry) (m : Machine) (a : Ask) (x : Entry) → Orderly m → IsNext m a x → StepCase m (step m a x) → Orderly (after m a x)
    → HooksAlong ys m
    → HooksAlong (ys ++ x ∷ []) (after m a x)
along-step ys m a x h next case k along =
    let s : Step = step m a x in
    let bound : ℕ = new_ticket m.env.book in
    let later : ℕ = new_ticket (after m a x).env.book in
    let grows : length m.env.book ≤ length (after m a x).env.book = book-grows m a x h next in
    let wider : (t : ℕ) → t < bound → t < later = λ t less. omega (arith, less, grows) in
    let told : StepOfHooks m s = hook-step m s h (next-new m a x next) case next.1 in
    let same : hook_news x ≡ hook_news s.entry = ap hook_news next.0 in
    let begun : All (λ t. t < bound) (tickets_told x) =
    subst (λ (w : HookNews). All (λ t. t < bound) w.begun) (sym same)
    (begun-within m.env.async_hooks m.env.hooks bound (hook_news s.entry) s.after.env.async_hooks told) in
    record {
      told = told-step ys x m.env.async_hooks along.told m.env.hooks bound (hook_news s.entry) s.after.env.async_hooks same along.below told;
      below = subst (All (λ t. t < later)) (flat_map_more tickets_told [] ys x)
          (All-append (λ t. t < later) (tickets_begun ys) (tickets_told x) (All-weaker (λ t. t < bound) (λ t. t < later) wider (tickets_begun ys) along.below)
          (All-weaker (λ t. t < bound) (λ t. t < later) wider (tickets_told x) begun));
      once = places (times_abandoned ys) (times_abandoned (ys ++ x ∷ [])) (one_if (is_abandon x.what)) (abandons_left m.hub.stage)
          (abandons_left (after m a x).hub.stage) along.once (abandoned-one ys x)
          (subst (λ (y : Entry). one_if (is_abandon y.what) + abandons_left (after m a x).hub.stage ≤ abandons_left m.hub.stage) (sym next.0)
          (stage-step m s h case next.1));
      left = left-step m s h k told case along.left;
    }
  where
    places : (n k one old new : ℕ) → n + old ≤ 1 → k ≡ n + one → one + new ≤ old → k + new ≤ 1
    places n k one old new first more less = omega (arith, first, more, less)

run-along : (m : Machine) (bs : List Ask) (xs : List Entry) → Orderly m → IsRunBy m bs xs → (ys : List Entry) → HooksAlong ys m
    → HooksAlong (ys ++ xs) (final m bs xs)
run-along = along-orderly (λ m bs xs. (ys : List Entry) → HooksAlong ys m → HooksAlong (ys ++ xs) (final m bs xs))
    (λ m ys along. subst (λ l. HooksAlong l m) (sym (append-nil ys)) along)
    (λ m a bs x xs h next s k rest ys along.
    subst (λ l. HooksAlong l (final (after m a x) bs xs)) (append_assoc ys (x ∷ []) xs) (rest (ys ++ x ∷ []) (along-step ys m a x h next s k along)))

opens-along : (s : Setting) → HooksAlong [] (opening_of s)
opens-along s = record {
  told = record { names = refl; known = λ n absent. refl; states = All-nil _ };
  below = All-nil (λ t. t < 1);
  once = omega arith;
  left = λ there. cc;
}

hooks-along : (s : Setting) (bs : List Ask) (xs : List Entry) → IsRunBy (opening_of s) bs xs → HooksAlong xs (final_of s bs xs)
hooks-along s bs xs run = run-along (opening_of s) bs xs (orderly-opens s) run [] (opens-along s)

-- WHERE IT COMES TO AN END
-- an event that was chosen where no frame stands
data IsChosenStep (m : Machine) (event : HostStep) : Step → Type 0 where
  event_of : (v : Event) → choice m ≡ Some v → event_what v ≡ event → IsChosenStep m event (event_step m v)

-- `abandon` and the drain are events
abbrev abandons_or_drains : What → Bool
abandons_or_drains (what.Host host.Abandon) = true
abandons_or_drains (what.Host host.Drain) = true
abandons_or_drains _ = false

asked-small : (e : Environment) (c : Call) (n : ℕ) → abandons_or_drains (asked_change e c n).entry.what ≡ false
asked-small e c n = asked-by e c n (λ d. abandons_or_drains d.entry.what ≡ false) refl (λ receiver f args none. refl)

others-small : (w : What) → is_of_others w ≡ true → abandons_or_drains w ≡ false
others-small (what.Host host.Abandon) its = cc
others-small (what.Host host.Drain) its = cc
others-small (what.Host _) its = refl
others-small (what.Call c) its = refl

same-host : (a b : HostStep) → what.Host a ≡ what.Host b → a ≡ b
same-host a b is = cc

great-apart : (w : What) (event : HostStep) → w ≡ what.Host event → abandons_or_drains (what.Host event) ≡ true → abandons_or_drains w ≡ false → ⊥
great-apart w event is great small = let no : true ≡ false = sym great ∙ sym (ap abandons_or_drains is) ∙ small in cc

form-event : (m : Machine) (s : Step) (event : HostStep) → abandons_or_drains (what.Host event) ≡ true → Form m s → IsTrue s.may → s.entry.what ≡ what.Host event
    → IsChosenStep m event s
form-event m s event great (form.calls f fs stands c o local) may is = absurd (great-apart s.entry.what event is great (asked-small m.env c (issued_number o)))
form-event m s event great (form.shares f fs stands c o shared told) may is = absurd (great-apart s.entry.what event is great (ap abandons_or_drains (shared-what m c o)))
form-event m s event great (form.ends f fs stands v cut b ours its) may is = absurd
    (great-apart s.entry.what event is great (ap abandons_or_drains (ended-what m v cut b ours)))
form-event m _ event great (form.happens alone v chosen) may is = event_of v chosen (same-host (event_what v) event (sym (event-what m v may) ∙ is))
form-event m s event great (form.others x other same) may is =
    absurd (great-apart s.entry.what event is great (others-small s.entry.what (other-what m x other may)))

next-event : (m : Machine) (a : Ask) (x : Entry) (event : HostStep) → abandons_or_drains (what.Host event) ≡ true → IsNext m a x → x.what ≡ what.Host event
    → IsChosenStep m event (step m a x)
next-event m a x event great next is = form-event m (step m a x) event great (form-of m a x next) next.1 (sym (ap (λ (y : Entry). y.what) next.0) ∙ is)

-- the environment alone chooses neither
own-small : (e : Environment) (p : Phase) (v : Event) → OwnChoice e p v → abandons_or_drains (what.Host (event_what v)) ≡ false
own-small e _ _ (choices.opens opened) = refl
own-small e _ _ (choices.inits opened left) = refl
own-small e _ _ (choices.exits asked) = refl
own-small e _ _ (choices.due_in_loop n unasked lowest) = refl
own-small e _ _ (choices.hooks h last) = refl
own-small e _ _ (choices.due_at_end n lowest) = refl
own-small e _ _ (choices.ends lowest) = refl

-- so the hub does
hub-chosen : (m : Machine) (v : Event) → abandons_or_drains (what.Host (event_what v)) ≡ true → choice m ≡ Some v → HubChoice m.hub (waiting_hooks m.env) m.hub.stage v
hub-chosen m v great chosen = by (chosen-in-phase m v chosen)
  where
    by : OwnChoice m.env m.env.phase v ⊎ NoChoice m.env m.env.phase × HubChoice m.hub (waiting_hooks m.env) m.hub.stage v
        → HubChoice m.hub (waiting_hooks m.env) m.hub.stage v
    by (inl mine) = let no : true ≡ false = sym great ∙ own-small m.env m.env.phase v mine in cc
    by (inr its) = its.1

-- hooks are abandoned where some wait, and none were abandoned before
record AbandonsSome (m : Machine) (s : Step) : Type 0 where
  pub result : s.entry.reply.out ≡ out.Unsigned (waiting_hooks m.env)
  pub some : (waiting_hooks m.env == 0) ≡ false
  pub stage : m.hub.stage ≡ LoopEnded

hub-abandons : (h : Hub) (waiting : ℕ) (s : Stage) (v : Event) → v ≡ Abandons → HubChoice h waiting s v → ((waiting == 0) ≡ false) × (s ≡ LoopEnded)
hub-abandons h waiting _ _ is (choices.abandons some still quiet) = (some, refl)
hub-abandons h waiting _ _ is _ = cc

abandon-event : (m : Machine) (s : Step) → IsChosenStep m host.Abandon s → AbandonsSome m s
abandon-event m _ (event_of Abandons chosen is) =
    let its = hub-abandons m.hub (waiting_hooks m.env) m.hub.stage Abandons refl (hub-chosen m Abandons refl chosen) in
    record { result = refl; some = its.0; stage = its.1 }
abandon-event m _ (event_of (Moves (Delivers d)) chosen is) = cc
abandon-event m _ (event_of (Moves (Closes n)) chosen is) = cc
abandon-event m _ (event_of (Moves (Finishes n)) chosen is) = cc
abandon-event m _ (event_of _ chosen is) = cc

-- the drain comes where none waits, or once hooks were abandoned
abbrev MayDrain : Machine → Type 0
MayDrain m = (waiting_hooks m.env ≡ 0) ⊎ (m.hub.stage ≡ HooksAbandoned)

hub-drains : (h : Hub) (waiting : ℕ) (s : Stage) (v : Event) → v ≡ Drains → HubChoice h waiting s v → (waiting ≡ 0) ⊎ (s ≡ HooksAbandoned)
hub-drains h waiting _ _ is (choices.drains none) = inl (eqb-true waiting 0 none)
hub-drains h waiting _ _ is choices.drains_later = inr refl
hub-drains h waiting _ _ is _ = cc

drain-event : (m : Machine) (s : Step) → IsChosenStep m host.Drain s → MayDrain m
drain-event m _ (event_of Drains chosen is) = hub-drains m.hub (waiting_hooks m.env) m.hub.stage Drains refl (hub-chosen m Drains refl chosen)
drain-event m _ (event_of (Moves (Delivers d)) chosen is) = cc
drain-event m _ (event_of (Moves (Closes n)) chosen is) = cc
drain-event m _ (event_of (Moves (Finishes n)) chosen is) = cc
drain-event m _ (event_of _ chosen is) = cc

-- THE LAW
-- what holds where an entry of the run comes next
next-holds : (P : List Entry → Entry → Type 0)
    → ((before : List Entry) (m : Machine) (a : Ask) (x : Entry) → HooksAlong before m → IsNext m a x → P before x)
    → (s : Setting) (bs : List Ask) (before later : List Entry) (x : Entry) → IsRunBy (opening_of s) bs (before ++ x ∷ later) → P before x
next-holds P each s bs before later x run = by parts.rest parts.later
  where
    parts : InTwoParts (opening_of s) bs before (x ∷ later)
    parts = parts-of (opening_of s) bs before (x ∷ later) run

    by : (rest : List Ask) → IsRunBy (final (opening_of s) parts.prefix before) rest (x ∷ later) → P before x
    by [] run = absurd run
    by (a ∷ cs) run = each before (final_of s parts.prefix before) a x (hooks-along s parts.prefix before parts.run) run.0

counted-next : (before : List Entry) (m : Machine) (a : Ask) (x : Entry) → HooksAlong before m → IsNext m a x → x.what ≡ what.Host host.Abandon
    → TellsUnfinished before x
counted-next before m a x along next is =
    let it : AbandonsSome m (step m a x) = abandon-event m (step m a x) (next-event m a x host.Abandon refl next is) in
    let left : abandons_left m.hub.stage ≡ 1 = ap abandons_left it.stage in
    let none : times_abandoned before ≡ 0 = omega (arith, along.once, left) in
    let count : length (unfinished_hooks before) ≡ waiting_hooks m.env = unfinished-count before m.env.async_hooks none along.told in
    record {
      result = ap (λ (y : Entry). y.reply.out) next.0 ∙ it.result ∙ ap out.Unsigned (sym count);
      some = some (waiting_hooks m.env) (length (unfinished_hooks before)) it.some count;
    }
  where
    some : (n k : ℕ) → (n == 0) ≡ false → k ≡ n → 0 < k
    some zero k is same = cc
    some (suc n) k is same = omega (arith, same)

settled-next : (before : List Entry) (m : Machine) (a : Ask) (x : Entry) → HooksAlong before m → IsNext m a x → x.what ≡ what.Host host.Drain
    → All (IsSettled before) (hooks_added before)
settled-next before m a x along next is = by (drain-event m (step m a x) (next-event m a x host.Drain refl next is))
  where
    by : MayDrain m → All (IsSettled before) (hooks_added before)
    by (inl none) = none-unsettled before m.env.async_hooks along.told (none-counted m.env.async_hooks none)
    by (inr late) = none-unsettled before m.env.async_hooks along.told (along.left late).none

-- the numbers of the hooks are those that the entries tell
pub hooks-settled : HooksAreSettled
hooks-settled s bs xs run =
    let m : Machine = final_of s bs xs in
    let along : HooksAlong xs m = hooks-along s bs xs run.steps in
    let orderly : Orderly m = orderly-run s bs xs run.steps in
    record {
      apart = subst (λ ns. IsDistinct nat_eq ns)
          (told-numbers m.env.async_hooks ∙ ap (map (λ (h : AddedHook). h.number)) along.told.names) orderly.hooked.async.apart;
      once = omega (arith, along.once);
      counted = λ before later x parts is.
          next-holds (λ ys y. y.what ≡ what.Host host.Abandon → TellsUnfinished ys y) counted-next s bs before later x
          (subst (IsRunBy (opening_of s) bs) parts run.steps) is;
      settled = λ before later x parts is.
          next-holds (λ ys y. y.what ≡ what.Host host.Drain → All (IsSettled ys) (hooks_added ys)) settled-next s bs before later x
          (subst (IsRunBy (opening_of s) bs) parts run.steps) is;
    }
