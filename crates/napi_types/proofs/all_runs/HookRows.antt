-- What each entry tells of asynchronous hooks, and what becomes of them in the environment.
use Rattle.std.proofs.Common.{◌≡◌, ◌≢◌, ◌∙◌, ◌≤◌, ◌<◌, ℕ, ◌==◌, Bool, true, false, cond, IsTrue, List, [], ◌∷◌, map, is_some, Option, Some, None, slice_index_or, refl, ap, sym, subst, arith}
use Rattle.std.specs.List.{All}
use Rattle.std.specs.Option.{option_or, option_map_or}
use Rattle.std.proofs.lemmas.Bool.{eqb-true}
use Rattle.std.proofs.lemmas.Option.{same_Some}
use Rattle.napi_types.specs.declared.call.Call.{Call}
use Rattle.napi_types.specs.declared.call.Call.TheVariants as call
use Rattle.napi_types.specs.declared.entry.Cause.TheVariants as cause
use Rattle.napi_types.specs.declared.entry.Duty.{Duty}
use Rattle.napi_types.specs.declared.entry.Entry.{Entry}
use Rattle.napi_types.specs.declared.entry.HostStep.TheVariants as host
use Rattle.napi_types.specs.declared.entry.Out.{Out}
use Rattle.napi_types.specs.declared.entry.Out.TheVariants as out
use Rattle.napi_types.specs.declared.entry.Phase.{Phase}
use Rattle.napi_types.specs.declared.entry.Phase.TheVariants as phase
use Rattle.napi_types.specs.declared.entry.Reply.{Reply}
use Rattle.napi_types.specs.declared.entry.What.{What}
use Rattle.napi_types.specs.declared.entry.What.TheVariants as what
use Rattle.napi_types.specs.declared.entry.Why.{Why}
use Rattle.napi_types.specs.declared.ids.AsyncHookId.{AsyncHookId}
use Rattle.napi_types.specs.declared.ids.HandleId.{HandleId}
use Rattle.napi_types.specs.declared.status.Status.{Status}
use Rattle.napi_types.specs.declared.status.Status.TheVariants as status
use Rattle.napi_types.specs.declared.view.ViewInfo.{ViewInfo}
use Rattle.napi_types.specs.plain.Entries.{host_entry, is_begin}
use Rattle.napi_types.specs.plain.Guards.{is_shared}
use Rattle.napi_types.specs.plain.Lists.{has, has_number}
use Rattle.napi_types.specs.plain.Replies.{Answer, plain, accepts}
use Rattle.napi_types.specs.parts.AsyncHooks.{AsyncHook, HookState, Set, is_set, is_held, async_hook, has_async_hook, set_ticket, with_async_hook, with_removed, with_begun, with_abandoned}
use Rattle.napi_types.specs.parts.Attachments.{wrap_ticket}
use Rattle.napi_types.specs.parts.Book.{Registration, registration_at, may_begin_in, is_owed, cause_at, new_ticket}
use Rattle.napi_types.specs.parts.Frames.{caller_of}
use Rattle.napi_types.specs.parts.Heap.{handle_value}
use Rattle.napi_types.specs.parts.Hooks.{Hook, hook_ticket}
use Rattle.napi_types.specs.parts.InstanceData.{instance_ticket}
use Rattle.napi_types.specs.parts.Promises.{deferred_promise}
use Rattle.napi_types.specs.parts.References.{referred_value}
use Rattle.napi_types.specs.environment.BufferCalls.{view_asked, making_view}
use Rattle.napi_types.specs.environment.Calls.{effect, answer, answer_unless_deep}
use Rattle.napi_types.specs.environment.Changes.{is_fresh_result}
use Rattle.napi_types.specs.environment.Ends.{end_change}
use Rattle.napi_types.specs.environment.Entering.{enter_change, asked_change}
use Rattle.napi_types.specs.environment.Environment.{Environment}
use Rattle.napi_types.specs.environment.HookCalls.{unhooked}
use Rattle.napi_types.specs.environment.Hooked.{is_from_finals_on, StandsWhileSet, IsForHook}
use Rattle.napi_types.specs.environment.PromiseCalls.{settling, resolved, rejected, reaction_value, reaction_told}
use Rattle.napi_types.specs.environment.ReferenceCalls.{value_told, counted_up}
use Rattle.napi_types.specs.environment.Refusals.{group_refusal, refusal_by_state, refusal_before_depth, depth_refusal, refusal}
use Rattle.napi_types.specs.environment.Moments.{refusal_by_moment}
use Rattle.napi_types.specs.parts.HeapRefusals.{refusal_in}
use Rattle.napi_types.specs.environment.Registering.{registered_only, withdrawing}
use Rattle.napi_types.specs.environment.Registry.{registry_of}
use Rattle.napi_types.specs.environment.SharedCalls.{shared_entry}
use Rattle.napi_types.specs.environment.Tickets.{hooks_waiting, ticket_in}
use Rattle.napi_types.specs.hub.HubMoves.{HubMove, Delivers, Closes, Finishes}
use Rattle.napi_types.specs.hub.HubEvents.{delivery_entry}
use Rattle.napi_types.specs.hub.HubSteps.{hub_step}
use Rattle.napi_types.specs.runs.Choice.{waiting_hooks}
use Rattle.napi_types.specs.runs.Machine.{Machine}
use Rattle.napi_types.specs.runs.Step.{Step, move_step, has_room}
use Rattle.napi_types.specs.all_runs.AbandonedHooks.{AddedHook, hook_added, number_removed, is_abandon}
use Rattle.napi_types.specs.all_runs.Order.{told_ticket}
use Rattle.napi_types.proofs.plain.Conditions.{and-right}
use Rattle.napi_types.proofs.plain.Lists.{any-map, none-first, none-last, not-unless}
use Rattle.napi_types.proofs.plain.Found.{has-found}
use Rattle.napi_types.proofs.parts.Books.{leaves-in}
use Rattle.napi_types.proofs.parts.Moved.{at-cause, registration-within}
use Rattle.napi_types.proofs.environment.Cases.{asked-by, ended-by}
use Rattle.napi_types.proofs.environment.Effects.{registered-by}
use Rattle.napi_types.proofs.environment.FrameChanges.{registry-parts, enter_change-keeps}
use Rattle.napi_types.proofs.environment.FrameEnds.{ended-ends}
use Rattle.napi_types.proofs.environment.HookedSteps.{GivesNew, new-number}
use Rattle.napi_types.proofs.environment.Registrations.{registered-holds}
use Rattle.napi_types.proofs.hub.HubKeeps.{hub_step-what}
use Rattle.napi_types.proofs.runs.NewNumbers.{IsNewIn}
use Rattle.napi_types.proofs.runs.SharedSteps.{StandsStill, shares-still, moves-still, others-still, is_of_others, others-told}
use Rattle.napi_types.proofs.runs.StepCases.{StepCase, calls, ends, opens, inits, begins, vanishes, shares, leaves, passes, moves, others, abandons, event_before}
use Rattle.napi_types.proofs.all_runs.NoRefusals.{no-refusal-accepts}
use Rattle.napi_types.proofs.all_runs.Orderly.{IsSpent, Orderly, is_drained}
use Rattle.napi_types.proofs.all_runs.Orders.{tickets_told, shares-plain, moves-plain, others-plain, IsHookIn, last-among, none-due, passed-begins}

-- WHAT AN ENTRY TELLS
-- the asynchronous hooks that it adds, the numbers of those that it removes, the tickets whose frames begin, and whether it is `abandon`
pub record HookNews : Type 0 where
  pub added : List AddedHook
  pub removed : List ℕ
  pub begun : List ℕ
  pub abandons : Bool

abbrev pub hook_news : Entry → HookNews
hook_news x = record {
  added = hook_added x.what x.reply.out x.reply.made;
  removed = number_removed x.what x.reply.status;
  begun = tickets_told x;
  abandons = is_abandon x.what;
}

-- what becomes of these hooks at an entry that tells this, where this is the list of hooks, and tickets from the bound on are new
pub data HookStep (old : List AsyncHook) (list : List Hook) (bound : ℕ) : HookNews → List AsyncHook → Type 0 where
  rests : HookStep old list bound (record { added = []; removed = []; begun = []; abandons = false }) old
  -- the frame of a ticket begins that is none of theirs
  passes_by : (t : ℕ) → t < bound → All (λ h. (h.ticket == t) ≡ false) old
      → HookStep old list bound (record { added = []; removed = []; begun = t ∷ []; abandons = false }) old
  -- one more, one that is removed, one whose frame begins, and all that wait are abandoned
  adds : (n t : ℕ) → has_number n (map (λ h. h.number) old) ≡ false → bound ≤ t
      → HookStep old list bound (record { added = record { number = n; ticket = t } ∷ []; removed = []; begun = []; abandons = false })
      (with_async_hook n t old)
  removes : (n : ℕ) → has_number n (map (λ h. h.number) old) ≡ true
      → HookStep old list bound (record { added = []; removed = n ∷ []; begun = []; abandons = false }) (with_removed n old)
  starts : (t : ℕ) → t < bound → IsHookIn list t → All (λ h. (h.ticket == t) ≡ true → h.state ≡ Set) old
      → HookStep old list bound (record { added = []; removed = []; begun = t ∷ []; abandons = false }) (with_begun t old)
  gives_up : HookStep old list bound (record { added = []; removed = []; begun = []; abandons = true }) (with_abandoned old)

-- an entry that tells nothing of them, after which they are as they were
rests-by : (old new : List AsyncHook) (list : List Hook) (bound : ℕ) (added : List AddedHook) (removed begun : List ℕ) (gone : Bool) → added ≡ []
    → removed ≡ [] → begun ≡ []
    → gone ≡ false → new ≡ old → HookStep old list bound (record { added = added; removed = removed; begun = begun; abandons = gone }) new
rests-by old new list bound added removed begun gone none lost kept calm same = rw none (rw lost (rw kept (rw calm (rw same rests))))

-- `abandon`
gives_up-by : (old : List AsyncHook) (list : List Hook) (bound : ℕ) (added : List AddedHook) (removed begun : List ℕ) (gone : Bool) → added ≡ []
    → removed ≡ [] → begun ≡ []
    → gone ≡ true → HookStep old list bound (record { added = added; removed = removed; begun = begun; abandons = gone }) (with_abandoned old)
gives_up-by old list bound added removed begun gone none lost kept is = rw none (rw lost (rw kept (rw is gives_up)))

-- CALLS
abbrev call_news : Call → Reply → HookNews
call_news c r = record { added = hook_added (what.Call c) r.out r.made; removed = number_removed (what.Call c) r.status; begun = []; abandons = false }

-- one that is refused
refused-news : (c : Call) (s : Status) → s ≢ status.Ok → call_news c (plain s out.Nothing) ≡ record { added = []; removed = []; begun = []; abandons = false }
refused-news (call.RemoveAsyncCleanupHook hook) status.Ok never = absurd (never refl)
refused-news (call.RemoveAsyncCleanupHook hook) _ never = refl
refused-news (call.AddAsyncCleanupHook entry argument) s never = refl
refused-news _ s never = refl

-- the answer of a call that tells nothing of them
abbrev LeavesHooks : Environment → Answer Environment → Type 0
LeavesHooks e a = a.after.async_hooks ≡ e.async_hooks

-- a hook that may be removed is one of them
held-there : (n : ℕ) (hooks : List AsyncHook) → has_async_hook n hooks ≡ true → has_number n (map (λ h. h.number) hooks) ≡ true
held-there n hooks is =
    any-map (λ m. m == n) (λ (h : AsyncHook). h.number) hooks ∙ has-found (λ (h : AsyncHook). h.number) n hooks ∙ by (async_hook n hooks) is
  where
    by : (o : Option AsyncHook) → option_map_or (λ (h : AsyncHook). is_held h.state) o false ≡ true → is_some o ≡ true
    by None is = cc
    by (Some h) is = refl

may-be-removed : (e : Environment) (hook : AsyncHookId) → refusal e (call.RemoveAsyncCleanupHook hook) ≡ None
    → has_number hook.0 (map (λ h. h.number) e.async_hooks) ≡ true
may-be-removed e hook none =
    let c : Call = call.RemoveAsyncCleanupHook hook in
    let early : refusal_before_depth e c ≡ None = none-first (refusal_before_depth e c) (depth_refusal e.frames c) none in
    let timely : refusal_by_state e c ≡ None = none-last (refusal_by_moment e c) (refusal_by_state e c) early in
    let own : group_refusal e c ≡ None = none-last (refusal_in e.texts e.heap c) (group_refusal e c) timely in
    held-there hook.0 e.async_hooks (not-unless (has_async_hook hook.0 e.async_hooks) status.InvalidArg own)

module _ (e : Environment) where
  counted-rests : (r : ℕ) (v : Option ℕ) → LeavesHooks e (counted_up r e v)
  counted-rests r None = refl
  counted-rests r (Some v) = refl

  value-rests : (v : Option ℕ) → LeavesHooks e (value_told e v)
  value-rests None = refl
  value-rests (Some v) = refl

  settling-rests : (n v state : ℕ) (p : Option ℕ) → LeavesHooks e (settling e n v state p)
  settling-rests n v state None = refl
  settling-rests n v state (Some p) = refl

  reading-rests : (v : Option ℕ) → LeavesHooks e (reaction_told e v)
  reading-rests None = refl
  reading-rests (Some v) = refl

  viewing-rests : (about : Option ViewInfo) → LeavesHooks e (making_view e about)
  viewing-rests None = refl
  viewing-rests (Some about) = refl

withdrawn-rests : (e : Environment) (t : Option ℕ) (a : Answer Environment) → LeavesHooks e a → LeavesHooks e (withdrawing t a)
withdrawn-rests e None a same = same
withdrawn-rests e (Some n) a same = same

-- each call but the two
effect-rests : (e : Environment) (c : Call) (n : ℕ) → ((entry argument : ℕ) → c ≢ call.AddAsyncCleanupHook entry argument)
    → ((hook : AsyncHookId) → c ≢ call.RemoveAsyncCleanupHook hook) → LeavesHooks e (effect e c n)
effect-rests e (call.ReferenceRef r) n plain lasting = counted-rests e r.0 (referred_value e.references r.0)
effect-rests e (call.GetReferenceValue r) n plain lasting = value-rests e (referred_value e.references r.0)
effect-rests e (call.Wrap v payload None hint false) n plain lasting = refl
effect-rests e (call.Wrap v payload None hint true) n plain lasting = refl
effect-rests e (call.Wrap v payload (Some entry) hint false) n plain lasting = refl
effect-rests e (call.Wrap v payload (Some entry) hint true) n plain lasting = refl
effect-rests e (call.RemoveWrap v) n plain lasting =
    withdrawn-rests e (registered_only e.book (wrap_ticket e.attachments (handle_value e.heap v.0))) _ refl
effect-rests e (call.AddFinalizer v payload entry hint false) n plain lasting = refl
effect-rests e (call.AddFinalizer v payload entry hint true) n plain lasting = refl
effect-rests e (call.CreateExternal payload None hint) n plain lasting = refl
effect-rests e (call.CreateExternal payload (Some entry) hint) n plain lasting = refl
effect-rests e (call.SetInstanceData payload None hint) n plain lasting =
    withdrawn-rests e (registered_only e.book (instance_ticket e.instances (caller_of e.frames))) _ refl
effect-rests e (call.SetInstanceData payload (Some entry) hint) n plain lasting =
    withdrawn-rests e (registered_only e.book (instance_ticket e.instances (caller_of e.frames))) _ refl
effect-rests e (call.RemoveEnvCleanupHook entry argument) n plain lasting =
    withdrawn-rests e (registered_only e.book (hook_ticket (caller_of e.frames) entry argument e.hooks)) _ refl
effect-rests e (call.AddAsyncCleanupHook entry argument) n plain lasting = absurd (plain entry argument refl)
effect-rests e (call.RemoveAsyncCleanupHook hook) n plain lasting = absurd (lasting hook refl)
effect-rests e (call.ResolveDeferred d v) n plain lasting = settling-rests e d.0 (handle_value e.heap v.0) resolved (deferred_promise e.promises d.0)
effect-rests e (call.RejectDeferred d v) n plain lasting = settling-rests e d.0 (handle_value e.heap v.0) rejected (deferred_promise e.promises d.0)
effect-rests e call.GetReactionValue n plain lasting = reading-rests e (reaction_value e)
effect-rests e (call.CreateTypedarray kind h offset count) n plain lasting =
    viewing-rests e (view_asked e.buffers kind (handle_value e.heap h.0) offset count)
effect-rests e c n plain lasting = refl

abbrev CallStep : Environment → Call → Answer Environment → Type 0
CallStep e c a = HookStep e.async_hooks e.hooks (new_ticket e.book) (call_news c a.reply) a.after.async_hooks

effect-step : (e : Environment) (c : Call) (n : ℕ) → refusal e c ≡ None → IsTrue (is_fresh_result e (effect e c n).reply.out) → CallStep e c (effect e c n)
effect-step e (call.AddAsyncCleanupHook entry argument) n none fresh =
    adds n (new_ticket e.book) (new-number n (map (λ h. h.number) e.async_hooks) fresh) (omega arith)
effect-step e (call.RemoveAsyncCleanupHook hook) n none fresh =
    let t : Option ℕ = set_ticket hook.0 e.async_hooks in
    let left : Environment = record e { hooks = unhooked t e.hooks; async_hooks = with_removed hook.0 e.async_hooks } in
    registered-by e.book t (λ s. CallStep e (call.RemoveAsyncCleanupHook hook) (withdrawing s (accepts out.Nothing left)))
    (removes hook.0 (may-be-removed e hook none)) (λ k there is. removes hook.0 (may-be-removed e hook none))
effect-step e c n none fresh =
    subst (HookStep e.async_hooks e.hooks (new_ticket e.book) _) (sym (effect-rests e c n (λ entry argument is. cc) (λ hook is. cc))) rests

refused-step : (e : Environment) (c : Call) (s : Status) → s ≢ status.Ok
    → HookStep e.async_hooks e.hooks (new_ticket e.book) (call_news c (plain s out.Nothing)) e.async_hooks
refused-step e c s never = subst (λ news. HookStep e.async_hooks e.hooks (new_ticket e.book) news e.async_hooks) (sym (refused-news c s never)) rests

call-step : (e : Environment) (c : Call) (n : ℕ) → IsTrue (is_fresh_result e (answer e c n).reply.out) → CallStep e c (answer e c n)
call-step e c n = at (refusal_before_depth e c) (depth_refusal e.frames c) refl refl
  where
    never : (s : Status) (early deep : Option Status) → refusal_before_depth e c ≡ early → depth_refusal e.frames c ≡ deep → option_or early deep ≡ Some s
        → s ≢ status.Ok
    never s early deep is its told ok =
        no-refusal-accepts e c (ap (λ o. option_or o (depth_refusal e.frames c)) is ∙ ap (λ o. option_or early o) its ∙ told ∙ ap (λ r. Some r) ok)

    at : (early deep : Option Status) → refusal_before_depth e c ≡ early → depth_refusal e.frames c ≡ deep
        → IsTrue (is_fresh_result e (answer_unless_deep e c n early deep).reply.out) → CallStep e c (answer_unless_deep e c n early deep)
    at None None is its fresh = effect-step e c n (ap (λ o. option_or o (depth_refusal e.frames c)) is ∙ its) fresh
    at (Some s) None is its fresh = refused-step e c s (never s (Some s) None is its refl)
    at (Some s) (Some u) is its fresh = refused-step e c s (never s (Some s) (Some u) is its refl)
    at None (Some s) is its fresh = refused-step e c s (never s None (Some s) is its refl)

asked-step : (e : Environment) (c : Call) (n : ℕ) → GivesNew e (asked_change e c n).entry
    → HookStep e.async_hooks e.hooks (new_ticket e.book) (hook_news (asked_change e c n).entry) (asked_change e c n).after.async_hooks
asked-step e c n =
    asked-by e c n (λ d. GivesNew e d.entry → HookStep e.async_hooks e.hooks (new_ticket e.book) (hook_news d.entry) d.after.async_hooks) (call-step e c n)
    (λ receiver f args none fresh.
    subst (HookStep e.async_hooks e.hooks (new_ticket e.book) _)
    (sym (registry-parts (registry_of e) (enter_change receiver f args e).after (enter_change-keeps receiver f args e).registry).async_hooks) rests)

-- OTHER ENTRIES
-- an entry that neither adds nor removes, and is not `abandon`
record TellsNoHook (w : What) : Type 0 where
  pub added : (o : Out) (made : Option Duty) → hook_added w o made ≡ []
  pub removed : (s : Status) → number_removed w s ≡ []
  pub stays : is_abandon w ≡ false

plain-step : (old new : List AsyncHook) (list : List Hook) (bound : ℕ) (x : Entry) (w : What) → x.what ≡ w → TellsNoHook w → tickets_told x ≡ [] → new ≡ old
    → HookStep old list bound (hook_news x) new
plain-step old new list bound x w is none tickets same =
    rests-by old new list bound _ _ _ _ (ap (λ v. hook_added v x.reply.out x.reply.made) is ∙ none.added x.reply.out x.reply.made)
    (ap (λ v. number_removed v x.reply.status) is ∙ none.removed x.reply.status) tickets (ap is_abandon is ∙ none.stays) same

shared-none : (c : Call) → is_shared c ≡ true → TellsNoHook (what.Call c)
shared-none (call.AddAsyncCleanupHook entry argument) shared = cc
shared-none (call.RemoveAsyncCleanupHook hook) shared = cc
shared-none _ shared = record { added = λ o made. refl; removed = λ s. refl; stays = refl }

others-tell_none : (w : What) → is_of_others w ≡ true → TellsNoHook w
others-tell_none (what.Call (call.AddAsyncCleanupHook entry argument)) its = cc
others-tell_none (what.Call (call.RemoveAsyncCleanupHook hook)) its = cc
others-tell_none (what.Call _) its = record { added = λ o made. refl; removed = λ s. refl; stays = refl }
others-tell_none (what.Host host.Abandon) its = cc
others-tell_none (what.Host _) its = record { added = λ o made. refl; removed = λ s. refl; stays = refl }

still-hooks : (m n : Machine) → StandsStill m n → n.env.async_hooks ≡ m.env.async_hooks
still-hooks m n still = (registry-parts (registry_of m.env) n.env still.registry).async_hooks

-- the end of a frame
ended-step : (e : Environment) (v : Option HandleId) (cut : Option Why) (x : Entry) → x.what ≡ what.Host host.End → tickets_told x ≡ []
    → HookStep e.async_hooks e.hooks (new_ticket e.book) (hook_news x) (end_change v cut e).after.async_hooks
ended-step e v cut x is tickets =
    plain-step e.async_hooks (end_change v cut e).after.async_hooks e.hooks (new_ticket e.book) x (what.Host host.End) is
    (record { added = λ o made. refl; removed = λ s. refl; stays = refl }) tickets
    (ended-by v cut e (λ why d. d.after.async_hooks ≡ e.async_hooks) (λ w. refl) (λ p. refl) refl refl)

no-ticket : (x : Entry) → x.what ≡ what.Host host.End → tickets_told x ≡ []
no-ticket x is = end x.what is
  where
    end : (w : What) → w ≡ what.Host host.End → tickets_told (record x { what = w }) ≡ []
    end (what.Host host.Begin) is = cc
    end _ is = refl

-- the frame of a ticket: but in Hooks it is none of theirs
never-theirs : (m : Machine) (n : ℕ) (r : Registration) (p : Phase) → m.env.phase ≡ p → p ≢ phase.Hooks → Orderly m → registration_at m.env.book n ≡ Some r
    → ticket_in m.env p ≡ Some n → may_begin_in p r.state ≡ true → r.cause ≢ cause.Hook
never-theirs m n r phase.Live here other h there next may why = none-due m.env n r h.hooked (ap is_from_finals_on here) there why may
never-theirs m n r phase.Hooks here other h there next may why = other refl
never-theirs m n r phase.Finals here other h there next may why =
    let over : is_owed r.state ≡ false = registered-holds IsSpent n m.env.book r there (h.spent (ap is_drained here)) why in
    let no : true ≡ false = sym ((leaves-in phase.Finals).before r.state may) ∙ over in
    cc
never-theirs m n r _ here other h there next may why = cc

apart-of : (e : Environment) (n : ℕ) (r : Registration) → registration_at e.book n ≡ Some r → r.cause ≢ cause.Hook → (h : AsyncHook) → IsForHook e.book h
    → (h.ticket == n) ≡ false
apart-of e n r there other h is = by (h.ticket == n) (eqb-true h.ticket n)
  where
    by : (b : Bool) → (b ≡ true → h.ticket ≡ n) → b ≡ false
    by false same = refl
    by true same = absurd (other (same_Some r.cause cause.Hook (sym (at-cause e.book n r there) ∙ ap (cause_at e.book) (sym (same refl)) ∙ is)))

set-only : (s : HookState) → is_set s ≡ true → s ≡ Set
set-only Set is = refl
set-only _ is = cc

begun-step : (m : Machine) (n : ℕ) (r : Registration) (p : Phase) → m.env.phase ≡ p → Orderly m → n < new_ticket m.env.book
    → registration_at m.env.book n ≡ Some r
    → ticket_in m.env p ≡ Some n → may_begin_in p r.state ≡ true
    → HookStep m.env.async_hooks m.env.hooks (new_ticket m.env.book) (record { added = []; removed = []; begun = n ∷ []; abandons = false })
    (hooks_waiting p n m.env.async_hooks)
begun-step m n r phase.Hooks here h within there next may =
    starts n within (last-among m.env.hooks n next) (λ k d inside. set (slice_index_or m.env.async_hooks k d) (h.hooked.async.set k d inside))
  where
    set : (x : AsyncHook) → StandsWhileSet m.env.hooks x → (x.ticket == n) ≡ true → x.state ≡ Set
    set x is same =
        set-only x.state (is ∙ ap (λ t. has (λ (y : Hook). y.ticket) t m.env.hooks) (eqb-true x.ticket n same) ∙ last-among m.env.hooks n next)
begun-step m n r p here h within there next may = passing (λ is. cc)
  where
    passing : p ≢ phase.Hooks → HookStep m.env.async_hooks m.env.hooks (new_ticket m.env.book)
        (record { added = []; removed = []; begun = n ∷ []; abandons = false }) m.env.async_hooks
    passing other =
        passes_by n within (λ k d inside.
        apart-of m.env n r there (never-theirs m n r p here other h there next may) (slice_index_or m.env.async_hooks k d) (h.hooked.async.given k d inside))

-- EACH STEP
-- the hub's event that starts a phase
passed-tell_none : (p : Phase) → TellsNoHook (what.Host (event_before p))
passed-tell_none phase.Init = record { added = λ o made. refl; removed = λ s. refl; stays = refl }
passed-tell_none phase.Live = record { added = λ o made. refl; removed = λ s. refl; stays = refl }
passed-tell_none phase.Hooks = record { added = λ o made. refl; removed = λ s. refl; stays = refl }
passed-tell_none phase.Drain = record { added = λ o made. refl; removed = λ s. refl; stays = refl }
passed-tell_none phase.Finals = record { added = λ o made. refl; removed = λ s. refl; stays = refl }
passed-tell_none phase.Gone = record { added = λ o made. refl; removed = λ s. refl; stays = refl }

-- a move of the hub
move-tells_none : (m : Machine) (move : HubMove) → TellsNoHook (move_step m move).entry.what
move-tells_none m (Delivers d) = by (hub_step-what m.hub (delivery_entry d))
  where
    by : {w : What} → w ≡ what.Host host.Begin → TellsNoHook w
    by is = subst TellsNoHook (sym is) (record { added = λ o made. refl; removed = λ s. refl; stays = refl })
move-tells_none m (Closes n) = by (hub_step-what m.hub (host_entry host.CloseTsfn (out.Function (record { 0 = n }))))
  where
    by : {w : What} → w ≡ what.Host host.CloseTsfn → TellsNoHook w
    by is = subst TellsNoHook (sym is) (record { added = λ o made. refl; removed = λ s. refl; stays = refl })
move-tells_none m (Finishes n) = by (hub_step-what m.hub (host_entry host.FinishTsfn (out.Function (record { 0 = n }))))
  where
    by : {w : What} → w ≡ what.Host host.FinishTsfn → TellsNoHook w
    by is = subst TellsNoHook (sym is) (record { added = λ o made. refl; removed = λ s. refl; stays = refl })

abbrev pub StepOfHooks : Machine → Step → Type 0
StepOfHooks m s = HookStep m.env.async_hooks m.env.hooks (new_ticket m.env.book) (hook_news s.entry) s.after.env.async_hooks

pub hook-step : (m : Machine) (s : Step) → Orderly m → IsNewIn m s → StepCase m s → IsTrue s.may → StepOfHooks m s
hook-step m _ h new (calls c n may alone) ok = asked-step m.env c n (new refl)
hook-step m _ h new (ends v cut may alone) ok =
    let x : Entry = (end_change v cut m.env).entry in
    ended-step m.env v cut x (ended-ends v cut m.env).is (no-ticket x (ended-ends v cut m.env).is)
hook-step m _ h new opens ok = rests
hook-step m _ h new (inits n) ok = rests
hook-step m _ h new (begins n r there next may) ok = begun-step m n r m.env.phase refl h (registration-within m.env.book n r there) there next may
hook-step m _ h new (vanishes last) ok = rests
hook-step m s h new (shares c o shared answers) ok =
    plain-step m.env.async_hooks s.after.env.async_hooks m.env.hooks (new_ticket m.env.book) s.entry (what.Call c)
    (hub_step-what m.hub (shared_entry m.env c o)) (shared-none c shared)
    (shares-plain m c o).tickets (still-hooks m s.after (shares-still m c o))
hook-step m s h new (leaves v cut may ours) ok =
    let is : s.entry.what ≡ what.Host host.End = hub_step-what m.hub (end_change v cut m.env).entry ∙ (ended-ends v cut m.env).is in
    ended-step m.env v cut s.entry is (no-ticket s.entry is)
hook-step m s h new (passes p o q) ok =
    plain-step m.env.async_hooks m.env.async_hooks m.env.hooks (new_ticket m.env.book) s.entry (what.Host (event_before p))
    (ap (λ (x : Entry). x.what) q.entry) (passed-tell_none p)
    (ap tickets_told q.entry ∙ ap (λ b. cond b (told_ticket o) []) (passed-begins p)) refl
hook-step m s h new (abandons here far none alone) ok =
    let is : s.entry.what ≡ what.Host host.Abandon = hub_step-what m.hub (host_entry host.Abandon (out.Unsigned (waiting_hooks m.env))) in
    gives_up-by m.env.async_hooks m.env.hooks (new_ticket m.env.book) _ _ _ _ (ap (λ w. hook_added w s.entry.reply.out s.entry.reply.made) is)
    (ap (λ w. number_removed w s.entry.reply.status) is) (ap (λ w. cond (is_begin w) (told_ticket s.entry.reply.out) []) is) (ap is_abandon is)
hook-step m s h new (moves move next moving alone) ok =
    plain-step m.env.async_hooks s.after.env.async_hooks m.env.hooks (new_ticket m.env.book) s.entry s.entry.what refl (move-tells_none m move)
    (moves-plain m move next).tickets
    (still-hooks m s.after (moves-still m move))
hook-step m s h new (others x other) ok =
    plain-step m.env.async_hooks s.after.env.async_hooks m.env.hooks (new_ticket m.env.book) s.entry x.what (hub_step-what m.hub x)
    (others-tell_none x.what (others-told m.hub x other (and-right (has_room m x.what) (hub_step m.hub x).may ok))) (others-plain m x other ok).tickets
    (still-hooks m s.after (others-still m x other))
