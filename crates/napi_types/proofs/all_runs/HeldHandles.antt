-- Each handle that a scope holds was issued, and each frame that stands has its scopes: so a new handle has its value.
use Rattle.std.proofs.Common.{◌≡◌, ◌≢◌, ◌∙◌, ◌≤◌, ℕ, suc, ◌+◌, ◌==◌, Bool, true, false, cond, List, [], ◌∷◌, ◌++◌, length, Option, Some, None, option_map, refl, ap, sym, subst, arith}
use Rattle.std.specs.List.{All}
use Rattle.std.specs.Option.{option_or, unwrap_or}
use Rattle.std.proofs.lemmas.List.Elements.{All-nil, All-head, All-tail, All-cons, All-push, All-weaker}
use Rattle.napi_types.specs.declared.call.Call.{Call}
use Rattle.napi_types.specs.declared.call.Call.TheVariants as call
use Rattle.napi_types.specs.declared.entry.Duty.{Duty}
use Rattle.napi_types.specs.declared.entry.Out.{Out}
use Rattle.napi_types.specs.declared.entry.Out.TheVariants as out
use Rattle.napi_types.specs.declared.entry.Why.{Why}
use Rattle.napi_types.specs.declared.ids.HandleId.{HandleId}
use Rattle.napi_types.specs.plain.Lists.{tail, first_changed}
use Rattle.napi_types.specs.plain.Replies.{accepts}
use Rattle.napi_types.specs.parts.AsyncHooks.{set_ticket, with_removed}
use Rattle.napi_types.specs.parts.Frames.{Frame, caller_of}
use Rattle.napi_types.specs.parts.Heap.{Heap, handle_value}
use Rattle.napi_types.specs.parts.HeapCalls.{addon_effect}
use Rattle.napi_types.specs.parts.HeapChanges.{with_handle, with_frame, without_frame}
use Rattle.napi_types.specs.parts.Hooks.{hook_ticket}
use Rattle.napi_types.specs.parts.ScopeChanges.{hold_at, hold_in, inside, escape_at}
use Rattle.napi_types.specs.parts.Scopes.{OpenHandle, Scope, FrameScopes, no_handles, value_in, value_in_scopes, gives}
use Rattle.napi_types.specs.parts.Values.{undefined_value}
use Rattle.napi_types.specs.environment.Calls.{answer, effect}
use Rattle.napi_types.specs.environment.Ends.{end_change}
use Rattle.napi_types.specs.environment.Entering.{enter_change, asked_change}
use Rattle.napi_types.specs.environment.Environment.{Environment, OpenedWith, new_environment}
use Rattle.napi_types.specs.environment.HookCalls.{unhooked}
use Rattle.napi_types.specs.environment.Registering.{withdrawing}
use Rattle.napi_types.specs.hub.HubMoves.{HubMove, Delivers, Closes, Finishes}
use Rattle.napi_types.specs.runs.Machine.{Machine}
use Rattle.napi_types.specs.runs.Step.{Step, shared_call_step, move_step}
use Rattle.napi_types.proofs.plain.Found.{apart-below}
use Rattle.napi_types.proofs.plain.Lists.{length-changed, length-tail}
use Rattle.napi_types.proofs.environment.AnswersKeep.{call_change-keeps}
use Rattle.napi_types.proofs.environment.Cases.{answer-by, asked-by, ended-by}
use Rattle.napi_types.proofs.environment.Effects as does
use Rattle.napi_types.proofs.environment.Effects.{Effect, registered-by, effect-of}
use Rattle.napi_types.proofs.runs.SharedSteps.{after_shared-alone}
use Rattle.napi_types.proofs.runs.StepCases.{StepCase, calls, ends, opens, inits, begins, vanishes, shares, leaves, passes, moves, others, abandons}
use Rattle.napi_types.proofs.all_runs.PromiseHistory.{found-push}
use Rattle.napi_types.proofs.all_runs.PromiseStates.{has-none}

-- THE SCOPES
-- these handles were issued, where so many were
abbrev AreUpTo : ℕ → List OpenHandle → Type 0
AreUpTo n hs = All (λ p. p.handle ≤ n) hs

pub record FrameFits (n : ℕ) (f : FrameScopes) : Type 0 where
  pub own : AreUpTo n f.own
  pub opened : All (λ s. AreUpTo n s.held) f.opened

abbrev AllFit : ℕ → List FrameScopes → Type 0
AllFit n fs = All (FrameFits n) fs

abbrev pub HeapFits : Heap → Type 0
HeapFits heap = AllFit heap.handles heap.scopes

wider-handles : (m n : ℕ) (hs : List OpenHandle) → m ≤ n → AreUpTo m hs → AreUpTo n hs
wider-handles m n hs less all = All-weaker (λ p. p.handle ≤ m) (λ p. p.handle ≤ n) (λ p is. omega (arith, is, less)) hs all

wider : (m n : ℕ) (fs : List FrameScopes) → m ≤ n → AllFit m fs → AllFit n fs
wider m n fs less all = All-weaker (FrameFits m) (FrameFits n) (λ f fits. record {
  own = wider-handles m n f.own less fits.own;
  opened = All-weaker (λ s. AreUpTo m s.held) (λ s. AreUpTo n s.held) (λ s is. wider-handles m n s.held less is) f.opened fits.opened;
}) fs all

-- a handle more in a frame
held-fits : (n : ℕ) (p : OpenHandle) (own : List OpenHandle) (ss : List Scope) → p.handle ≤ n → AreUpTo n own → All (λ s. AreUpTo n s.held) ss
    → FrameFits n (hold_at p own ss)
held-fits n p own [] less mine theirs = record { own = All-push (λ q. q.handle ≤ n) own p mine less; opened = theirs }
held-fits n p own (s ∷ ss) less mine theirs = record {
  own = mine;
  opened = All-cons (λ (s : Scope). AreUpTo n s.held) (record s { held = s.held ++ p ∷ [] }) ss
      (All-push (λ q. q.handle ≤ n) s.held p (All-head (λ (s : Scope). AreUpTo n s.held) s ss theirs) less) (All-tail (λ (s : Scope). AreUpTo n s.held) s ss theirs);
}

changed-fits : (n : ℕ) (change : FrameScopes → FrameScopes) → ((f : FrameScopes) → FrameFits n f → FrameFits n (change f)) → (fs : List FrameScopes) → AllFit n fs
    → AllFit n (first_changed change fs)
changed-fits n change keeps [] all = all
changed-fits n change keeps (f ∷ fs) all =
    All-cons (FrameFits n) (change f) fs (keeps f (All-head (FrameFits n) f fs all)) (All-tail (FrameFits n) f fs all)

escaped-fits : (n k : ℕ) (p : OpenHandle) (own : List OpenHandle) (ss : List Scope) → p.handle ≤ n → AreUpTo n own → All (λ s. AreUpTo n s.held) ss
    → FrameFits n (escape_at k p own ss)
escaped-fits n k p own [] less mine theirs = record { own = mine; opened = theirs }
escaped-fits n k p own (s ∷ ss) less mine theirs =
    by (s.number == k) (escaped-fits n k p own ss less mine (All-tail (λ (s : Scope). AreUpTo n s.held) s ss theirs))
  where
    rest : All (λ s. AreUpTo n s.held) ss
    rest = All-tail (λ (s : Scope). AreUpTo n s.held) s ss theirs

    by : (b : Bool) → FrameFits n (escape_at k p own ss) → FrameFits n (cond b (inside (record s { used = true }) (hold_at p own ss)) (inside s (escape_at k p own ss)))
    by true f =
        let f : FrameFits n (hold_at p own ss) = held-fits n p own ss less mine rest in
        record { own = f.own; opened = All-cons (λ (s : Scope). AreUpTo n s.held) (record s { used = true }) _ (All-head (λ (s : Scope). AreUpTo n s.held) s ss theirs) f.opened }
    by false f =
        record { own = f.own; opened = All-cons (λ (s : Scope). AreUpTo n s.held) s _ (All-head (λ (s : Scope). AreUpTo n s.held) s ss theirs) f.opened }

empty-fits : (n : ℕ) → FrameFits n no_handles
empty-fits n = record { own = All-nil (λ p. p.handle ≤ n); opened = All-nil (λ s. AreUpTo n s.held) }

-- THE HEAP
handle-fits : (heap : Heap) (v : ℕ) → HeapFits heap → HeapFits (with_handle v heap)
handle-fits heap v fits =
    let n : ℕ = heap.handles + 1 in
    changed-fits n (hold_in (record { handle = n; value = v }))
    (λ f is. held-fits n (record { handle = n; value = v }) f.own f.opened (omega arith) is.own is.opened) heap.scopes
    (wider heap.handles n heap.scopes (omega arith) fits)

tail-fits : (n : ℕ) (fs : List FrameScopes) → AllFit n fs → AllFit n (tail fs)
tail-fits n [] all = all
tail-fits n (f ∷ fs) all = All-tail (FrameFits n) f fs all

frame-fits : (heap : Heap) → HeapFits heap → HeapFits (with_frame heap)
frame-fits heap fits = All-cons (FrameFits heap.handles) no_handles heap.scopes (empty-fits heap.handles) fits

tail-scopes : (n : ℕ) (ss : List Scope) → All (λ s. AreUpTo n s.held) ss → All (λ s. AreUpTo n s.held) (tail ss)
tail-scopes n [] all = all
tail-scopes n (s ∷ ss) all = All-tail (λ (s : Scope). AreUpTo n s.held) s ss all

heap-fits : (addon : ℕ) (heap : Heap) (c : Call) (k : ℕ) → HeapFits heap → HeapFits (addon_effect addon heap c k).after
heap-fits addon heap (call.CreateFunction entry payload) k h = handle-fits heap _ h
heap-fits addon heap call.GetUndefined k h = handle-fits heap _ h
heap-fits addon heap call.GetNull k h = handle-fits heap _ h
heap-fits addon heap call.GetGlobal k h = handle-fits heap _ h
heap-fits addon heap (call.GetBoolean b) k h = handle-fits heap _ h
heap-fits addon heap (call.CreateInt64 i) k h = handle-fits heap _ h
heap-fits addon heap (call.CreateBigintInt64 i) k h = handle-fits heap _ h
heap-fits addon heap (call.CreateStringUtf8 t) k h = handle-fits heap _ h
heap-fits addon heap (call.CreateSymbol d) k h = handle-fits heap _ h
heap-fits addon heap call.CreateObject k h = handle-fits heap _ h
heap-fits addon heap call.CreateArray k h = handle-fits heap _ h
heap-fits addon heap (call.CreateError code message) k h = handle-fits heap _ h
heap-fits addon heap (call.GetNamedProperty o name) k h = handle-fits heap _ h
heap-fits addon heap (call.GetElement o at) k h = handle-fits heap _ h
heap-fits addon heap (call.GetPropertyNames o) k h = handle-fits heap _ h
heap-fits addon heap call.OpenHandleScope k h =
    changed-fits heap.handles _ (λ f is. record {
      own = is.own;
      opened = All-cons (λ (s : Scope). AreUpTo heap.handles s.held) _ f.opened (All-nil (λ p. p.handle ≤ heap.handles)) is.opened;
    }) heap.scopes h
heap-fits addon heap call.OpenEscapableHandleScope k h =
    changed-fits heap.handles _ (λ f is. record {
      own = is.own;
      opened = All-cons (λ (s : Scope). AreUpTo heap.handles s.held) _ f.opened (All-nil (λ p. p.handle ≤ heap.handles)) is.opened;
    }) heap.scopes h
heap-fits addon heap (call.CloseHandleScope s) k h =
    changed-fits heap.handles _ (λ f is. record { own = is.own; opened = tail-scopes heap.handles f.opened is.opened }) heap.scopes h
heap-fits addon heap (call.CloseEscapableHandleScope s) k h =
    changed-fits heap.handles _ (λ f is. record { own = is.own; opened = tail-scopes heap.handles f.opened is.opened }) heap.scopes h
heap-fits addon heap (call.EscapeHandle s x) k h =
    let n : ℕ = heap.handles + 1 in
    changed-fits n _ (λ f is. escaped-fits n s.0 (record { handle = n; value = handle_value heap x.0 }) f.own f.opened (omega arith) is.own is.opened) heap.scopes
    (wider heap.handles n heap.scopes (omega arith) h)
heap-fits addon heap c k h = h

-- THE ENVIRONMENT
does-fits : (c : Call) (e : Environment) {made dropped : Option Duty} (d : Environment) → Effect c e made dropped d → HeapFits e.heap → HeapFits d.heap
does-fits c e _ (does.tells k) h = heap-fits (caller_of e.frames) e.heap c k h
does-fits c e _ (does.makes payload) h = handle-fits e.heap _ h
does-fits c e _ does.clears h = handle-fits e.heap _ h
does-fits c e _ (does.recalls r v is) h = handle-fits e.heap _ h
does-fits c e _ (does.promises n) h = handle-fits e.heap _ h
does-fits c e _ (does.reads v is) h = handle-fits e.heap _ h
does-fits c e _ (does.makes_buffer size t) h = handle-fits e.heap _ h
does-fits c e _ (does.makes_view about) h = handle-fits e.heap _ h
does-fits c e _ (does.removes_hook entry argument) h =
    let t : Option ℕ = hook_ticket (caller_of e.frames) entry argument e.hooks in
    registered-by e.book t (λ s. HeapFits (withdrawing s (accepts out.Nothing (record e { hooks = unhooked t e.hooks }))).after.heap) h (λ k here is. h)
does-fits c e _ (does.removes_async number) h =
    let t : Option ℕ = set_ticket number e.async_hooks in
    let left : Environment = record e { hooks = unhooked t e.hooks; async_hooks = with_removed number e.async_hooks } in
    registered-by e.book t (λ s. HeapFits (withdrawing s (accepts out.Nothing left)).after.heap) h (λ k here is. h)
does-fits c e _ (does.registers {d} payload entry hint before step) h = does-fits c e d before h
does-fits c e _ (does.attaches {d} {a} before on) h = does-fits c e d before h
does-fits c e _ (does.sets {d} i before on) h = does-fits c e d before h
does-fits c e d _ h = h

-- the handles were issued, and each frame has its scopes
pub record HandlesFit (e : Environment) : Type 0 where
  pub heap : HeapFits e.heap
  pub frames : length e.heap.scopes ≡ length e.frames

answer-fits : (e : Environment) (c : Call) (n : ℕ) → HeapFits e.heap → HeapFits (answer e c n).after.heap
answer-fits e c n h =
    answer-by e c n (λ a. HeapFits a.after.heap) (λ s. h) (λ s. h) (λ none. does-fits c e (effect e c n).after (effect-of e c n) h)

entered-fits : (receiver : Option HandleId) (f : HandleId) (args : _) (e : Environment) → HandlesFit e → HandlesFit (enter_change receiver f args e).after
entered-fits None f args e h = record {
  heap = handle-fits (with_frame e.heap) _ (frame-fits e.heap h.heap);
  frames = ap suc (h.frames ∙ sym (length-changed _ e.frames));
}
entered-fits (Some r) f args e h = record { heap = frame-fits e.heap h.heap; frames = ap suc (h.frames ∙ sym (length-changed _ e.frames)) }

asked-fits : (e : Environment) (c : Call) (n : ℕ) → HandlesFit e → HandlesFit (asked_change e c n).after
asked-fits e c n h =
    asked-by e c n (λ d. HandlesFit d.after)
    (record { heap = answer-fits e c n h.heap; frames = (call_change-keeps e c n).heap.depth ∙ h.frames ∙ sym (call_change-keeps e c n).depth })
    (λ receiver f args none. entered-fits receiver f args e h)

ended-fits : (e : Environment) (v : Option HandleId) (cut : Option Why) → HandlesFit e → HandlesFit (end_change v cut e).after
ended-fits e v cut h =
    let heap : HeapFits (without_frame e.heap) = tail-fits e.heap.handles e.heap.scopes h.heap in
    let frames : length (tail e.heap.scopes) ≡ length (tail e.frames) = length-tail e.heap.scopes e.frames h.frames in
    ended-by v cut e (λ why d. HandlesFit d.after) (λ w. record { heap = heap; frames = frames }) (λ p. record { heap = heap; frames = frames })
    (record { heap = handle-fits (without_frame e.heap) _ heap; frames = length-changed _ (tail e.heap.scopes) ∙ frames })
    (record { heap = heap; frames = frames })

shared-fits : (m : Machine) (c : Call) (o : Out) → HandlesFit m.env → HandlesFit (shared_call_step m c o).after.env
shared-fits m c o h =
    subst HandlesFit (sym (after_shared-alone c (shared_call_step m c o).entry.reply m.env))
    (record { heap = h.heap; frames = h.frames ∙ sym (length-changed _ m.env.frames) })

move-fits : (m : Machine) (move : HubMove) → HandlesFit m.env → HandlesFit (move_step m move).after.env
move-fits m (Delivers d) h = record { heap = frame-fits m.env.heap h.heap; frames = ap suc h.frames }
move-fits m (Closes n) h = h
move-fits m (Finishes n) h = record { heap = h.heap; frames = h.frames }

pub opening-fits : (given : OpenedWith) → HandlesFit (new_environment given)
opening-fits given = record { heap = All-nil (FrameFits 0); frames = refl }

-- each step keeps it
pub fits-step : (m : Machine) (s : Step) → StepCase m s → HandlesFit m.env → HandlesFit s.after.env
fits-step m _ (calls c n may alone) h = asked-fits m.env c n h
fits-step m _ (ends v cut may alone) h = ended-fits m.env v cut h
fits-step m _ opens h = record { heap = h.heap; frames = h.frames }
fits-step m _ (inits n) h = record { heap = frame-fits m.env.heap h.heap; frames = ap suc h.frames }
fits-step m _ (begins n r there next may) h = record { heap = frame-fits m.env.heap h.heap; frames = ap suc h.frames }
fits-step m _ (vanishes last) h = record { heap = h.heap; frames = h.frames }
fits-step m _ (shares c o shared answers) h = shared-fits m c o h
fits-step m _ (leaves v cut may ours) h = ended-fits m.env v cut h
fits-step m _ (passes p o q) h = record { heap = h.heap; frames = h.frames }
fits-step m _ (abandons here far none alone) h = record { heap = h.heap; frames = h.frames }
fits-step m _ (moves move next moving alone) h = move-fits m move h
fits-step m _ (others x other) h = h

-- where a frame stands a scope is open
pub scopes-stand : (e : Environment) → HandlesFit e → e.frames ≢ [] → e.heap.scopes ≢ []
scopes-stand e h stands none = stands (by e.frames (sym h.frames ∙ ap length none))
  where
    by : (fs : List Frame) → length fs ≡ 0 → fs ≡ []
    by [] is = refl
    by (f ∷ fs) is = absurd (omega (arith, is))

-- A NEW HANDLE
value-new : (hs : List OpenHandle) (n v : ℕ) → AreUpTo n hs → value_in (hs ++ record { handle = n + 1; value = v } ∷ []) (n + 1) ≡ Some v
value-new hs n v all =
    ap (option_map (λ (p : OpenHandle). p.value)) (found-push (λ (p : OpenHandle). p.handle) hs (record { handle = n + 1; value = v })
    (has-none (λ (p : OpenHandle). p.handle) (n + 1) hs
    (All-weaker (λ (p : OpenHandle). p.handle ≤ n) (λ p. (p.handle == n + 1) ≡ false) (λ p is. apart-below p.handle (n + 1) (omega (arith, is))) hs all)))

new-given : (fs : List FrameScopes) (n v : ℕ) → fs ≢ [] → AllFit n fs → gives (first_changed (hold_in (record { handle = n + 1; value = v })) fs) (n + 1) ≡ Some v
new-given [] n v stands all = absurd (stands refl)
new-given (f ∷ fs) n v stands all = by f.own f.opened (All-head (FrameFits n) f fs all).own (All-head (FrameFits n) f fs all).opened
  where
    by : (own : List OpenHandle) (ss : List Scope) → AreUpTo n own → All (λ s. AreUpTo n s.held) ss
        → gives (hold_at (record { handle = n + 1; value = v }) own ss ∷ fs) (n + 1) ≡ Some v
    by own [] mine theirs = ap (λ o. option_or o (gives fs (n + 1))) (value-new own n v mine)
    by own (s ∷ ss) mine theirs =
        ap (λ o. option_or (option_or o (value_in_scopes ss (n + 1))) (option_or (value_in own (n + 1)) (gives fs (n + 1))))
        (value-new s.held n v (All-head (λ (s : Scope). AreUpTo n s.held) s ss theirs))

pub new-handle : (heap : Heap) (v : ℕ) → heap.scopes ≢ [] → HeapFits heap → handle_value (with_handle v heap) (heap.handles + 1) ≡ v
new-handle heap v stands fits = ap (λ o. unwrap_or o undefined_value) (new-given heap.scopes heap.handles v stands fits)
