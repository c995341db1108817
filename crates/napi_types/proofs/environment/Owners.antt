-- Each frame runs an addon of the script, and each function belongs to one: every event keeps it.
use Rattle.std.proofs.Common.{◌≡◌, ◌≢◌, ◌<◌, ◌≤◌, arith, ℕ, ◌+◌, ◌==◌, Bool, true, false, cond, List, [], ◌∷◌, ◌++◌, refl, sym, ◌∙◌, subst, Option, Some, None, option_map, not, IsTrue}
use Rattle.std.specs.List.{All, list_all}
use Rattle.std.specs.Option.{option_or}
use Rattle.std.proofs.lemmas.List.Elements.{All-append, All-cons, All-nil, All-head, All-tail, All-push}
use Rattle.napi_types.specs.declared.body.Body.{Body}
use Rattle.napi_types.specs.declared.body.Body.TheVariants as body
use Rattle.napi_types.specs.declared.call.Args.{Args}
use Rattle.napi_types.specs.declared.call.Call.{Call}
use Rattle.napi_types.specs.declared.call.Call.TheVariants as call
use Rattle.napi_types.specs.declared.entry.Duty.{Duty}
use Rattle.napi_types.specs.declared.entry.Out.TheVariants as out
use Rattle.napi_types.specs.declared.entry.Why.{Why}
use Rattle.napi_types.specs.declared.ids.HandleId.{HandleId}
use Rattle.napi_types.specs.declared.ids.TextNo.{TextNo}
use Rattle.napi_types.specs.declared.status.Status.TheVariants as status
use Rattle.napi_types.specs.declared.entry.Phase.{Phase}
use Rattle.napi_types.specs.declared.entry.Cause.TheVariants as cause
use Rattle.napi_types.specs.plain.Lists.{tail, has_number}
use Rattle.napi_types.specs.plain.Replies.{accepts}
use Rattle.napi_types.specs.parts.AsyncHooks.{set_ticket, with_removed}
use Rattle.napi_types.specs.parts.Bodies.{promise_tag, buffer_tag, view_tag, is_function, function_addon, text_of}
use Rattle.napi_types.specs.parts.Book.{Registration, registration_at, due_info}
use Rattle.napi_types.specs.parts.Frames.{Frame, frame_of, frame_of_duty, caller_of, ask_counted, asks_made, most_asks}
use Rattle.napi_types.specs.parts.FunctionCalls.{callee_of}
use Rattle.napi_types.specs.parts.Heap.{Heap, handle_body, handle_properties}
use Rattle.napi_types.specs.parts.HeapCalls.{addon_effect}
use Rattle.napi_types.specs.parts.HeapChanges.{with_thrown}
use Rattle.napi_types.specs.parts.HeapRefusals.{kind_refusal, row_refusal, refusal_in}
use Rattle.napi_types.specs.parts.Hooks.{hook_ticket}
use Rattle.napi_types.specs.parts.NamedNumbers.{unknown_refusal}
use Rattle.napi_types.specs.parts.NewValues.{made_after, list_of, thrown_strings, thrown_of}
use Rattle.napi_types.specs.parts.Properties.{Property}
use Rattle.napi_types.specs.parts.PropertyCalls.{names_of}
use Rattle.napi_types.specs.parts.Values.{Value, fresh_value, linked_value, starting_values, value_changed, body_of, those_of}
use Rattle.napi_types.specs.environment.Asks.{AsksWithin}
use Rattle.napi_types.specs.environment.Calls.{effect, answer}
use Rattle.napi_types.specs.environment.Changes.{call_change, init_change, in_phase}
use Rattle.napi_types.specs.environment.Ends.{end_change}
use Rattle.napi_types.specs.environment.Entering.{enter_change, asked_change}
use Rattle.napi_types.specs.environment.Environment.{Environment}
use Rattle.napi_types.specs.environment.HookCalls.{unhooked}
use Rattle.napi_types.specs.environment.Moments.{refusal_by_moment}
use Rattle.napi_types.specs.environment.Owners.{BelongsTo, IsOwned}
use Rattle.napi_types.specs.environment.Refusals.{refusal_by_state, refusal_before_depth, depth_refusal, refusal, group_refusal}
use Rattle.napi_types.specs.environment.Registering.{withdrawing}
use Rattle.napi_types.specs.environment.Registry.{registry_of}
use Rattle.napi_types.specs.environment.Roots.{reach}
use Rattle.napi_types.specs.environment.Tickets.{ticket_change}
use Rattle.napi_types.proofs.plain.Conditions.{and-left, and-right, not-true}
use Rattle.napi_types.proofs.plain.Lists.{none-first, none-last, not-unless}
use Rattle.napi_types.proofs.parts.Moves.{MovesKeep, each-kept}
use Rattle.napi_types.proofs.environment.AnswersKeep.{answer-keeps}
use Rattle.napi_types.proofs.environment.Effects as does
use Rattle.napi_types.proofs.environment.Effects.{Effect, registered-by, effect-of}
use Rattle.napi_types.proofs.environment.FrameChanges.{KeepsButFrame, ended-keeps, KeepsAndEnters, enter_change-keeps, registry-parts}
use Rattle.napi_types.proofs.environment.Registrations.{registered-holds, call-kept, ended-kept, begun-kept, phase-kept}
use Rattle.napi_types.proofs.environment.Cases.{answer-by, asked-by}

-- VALUES
abbrev IsOurValue : ℕ → Value → Type 0
IsOurValue n v = BelongsTo n v.body

abbrev pub Below : ℕ → Frame → Type 0
Below n f = f.addon < n

-- a ticket whose frame runs one of them
abbrev Entered : ℕ → Registration → Type 0
Entered n r = r.addon < n

entered-kept : (n : ℕ) → MovesKeep (All (Entered n))
entered-kept n = each-kept (Entered n) (λ move r entered. entered)

abbrev NoFunction : Body → Type 0
NoFunction b = is_function b ≡ false

abbrev AreOwned : ℕ → List Value → Type 0
AreOwned n vs = All (IsOurValue n) vs

-- what is no function belongs to nobody
no-function : (n : ℕ) (b : Body) → is_function b ≡ false → BelongsTo n b
no-function n b h = λ k. let z : true ≡ false = sym k ∙ h in cc

one-more : (n m : ℕ) (b : Body) (vs : List Value) → AreOwned n vs → BelongsTo n b → AreOwned n (vs ++ fresh_value m b ∷ [])
one-more n m b vs all here = All-push (IsOurValue n) vs (fresh_value m b) all here

made-owned : (n m : ℕ) (bs : List Body) → All NoFunction bs → AreOwned n (made_after m bs)
made-owned n m [] none = All-nil (IsOurValue n)
made-owned n m (b ∷ bs) none =
    All-cons (IsOurValue n) (fresh_value (m + 1) b) (made_after (m + 1) bs) (no-function n b (All-head NoFunction b bs none)) (made-owned n (m + 1) bs (All-tail NoFunction b bs none))

names-none : (ps : List Property) → All NoFunction (names_of ps)
names-none [] = All-nil NoFunction
names-none (p ∷ ps) = All-cons NoFunction (body.Str (record { 0 = p.name })) (names_of ps) refl (names-none ps)

list-owned : (n m : ℕ) (bs : List Body) → All NoFunction bs → AreOwned n (list_of m bs)
list-owned n m bs none = All-push (IsOurValue n) (made_after m bs) _ (made-owned n m bs none) (no-function n (body.Object true false) refl)

strings-none : (code : Option TextNo) (message : TextNo) → All NoFunction (thrown_strings code message)
strings-none None message = All-cons NoFunction (body.Str message) [] refl (All-nil NoFunction)
strings-none (Some code) message = All-cons NoFunction (body.Str message) (body.Str code ∷ []) refl (All-cons NoFunction (body.Str code) [] refl (All-nil NoFunction))

thrown-owned : (n : ℕ) (heap : Heap) (code : Option TextNo) (message : TextNo) → AreOwned n heap.values → AreOwned n (with_thrown code message heap).values
thrown-owned n heap code message all =
    All-append (IsOurValue n) heap.values (thrown_of heap.made code message) all
    (All-push (IsOurValue n) (made_after heap.made (thrown_strings code message)) _ (made-owned n heap.made (thrown_strings code message) (strings-none code message))
    (no-function n (body.Object false true) refl))

changed-owned : (n k : ℕ) (change : Value → Value) (vs : List Value) → ((v : Value) → (change v).body ≡ v.body) → AreOwned n vs → AreOwned n (value_changed k change vs)
changed-owned n k change [] same all = All-nil (IsOurValue n)
changed-owned n k change (v ∷ vs) same all =
    All-cons (IsOurValue n) (cond (v.number == k) (change v) v) (value_changed k change vs) (here (v.number == k)) (changed-owned n k change vs same (All-tail (IsOurValue n) v vs all))
  where
    here : (b : Bool) → BelongsTo n (cond b (change v) v).body
    here true = subst (λ (x : Body). BelongsTo n x) (sym (same v)) (All-head (IsOurValue n) v vs all)
    here false = All-head (IsOurValue n) v vs all

-- what a value's number names belongs to one of them too
pub body-owned : (n k : ℕ) (vs : List Value) → AreOwned n vs → BelongsTo n (body_of vs k)
body-owned n k [] all = λ h. cc
body-owned n k (v ∷ vs) all = here (v.number == k) refl (body-owned n k vs (All-tail (IsOurValue n) v vs all))
  where
    here : (b : Bool) → (v.number == k) ≡ b → BelongsTo n (body_of vs k) → BelongsTo n (body_of (v ∷ vs) k)
    here true h later = rw h (All-head (IsOurValue n) v vs all)
    here false h later = rw h later

-- CALLS
heap-owned : (n addon : ℕ) (heap : Heap) (c : Call) (k : ℕ) → addon < n → AreOwned n heap.values → AreOwned n (addon_effect addon heap c k).after.values
heap-owned n addon heap (call.CreateFunction entry payload) k there all = one-more n _ _ heap.values all (λ h. there)
heap-owned n addon heap (call.CreateInt64 i) k there all = one-more n _ _ heap.values all (no-function n (body.Number i) refl)
heap-owned n addon heap (call.CreateBigintInt64 i) k there all = one-more n _ _ heap.values all (no-function n (body.Bigint i) refl)
heap-owned n addon heap (call.CreateStringUtf8 t) k there all = one-more n _ _ heap.values all (no-function n (body.Str t) refl)
heap-owned n addon heap (call.CreateSymbol d) k there all = one-more n _ _ heap.values all (no-function n (body.Symbol (option_map (λ h. text_of (handle_body heap h.0)) d)) refl)
heap-owned n addon heap call.CreateObject k there all = one-more n _ _ heap.values all (no-function n (body.Object false false) refl)
heap-owned n addon heap call.CreateArray k there all = one-more n _ _ heap.values all (no-function n (body.Object true false) refl)
heap-owned n addon heap (call.CreateError code message) k there all = All-push (IsOurValue n) heap.values _ all (no-function n (body.Object false true) refl)
heap-owned n addon heap (call.SetNamedProperty o name v) k there all = changed-owned n _ _ heap.values (λ x. refl) all
heap-owned n addon heap (call.DeleteProperty o name) k there all = changed-owned n _ _ heap.values (λ x. refl) all
heap-owned n addon heap (call.SetElement o at v) k there all = changed-owned n _ _ heap.values (λ x. refl) all
heap-owned n addon heap (call.GetPropertyNames o) k there all = All-append (IsOurValue n) heap.values _ all (list-owned n heap.made (names_of (handle_properties heap o.0)) (names-none (handle_properties heap o.0)))
heap-owned n addon heap c k there all = all

-- a collection takes values away
kept-owned : (n : ℕ) (alive : List ℕ) (vs : List Value) → AreOwned n vs → AreOwned n (those_of alive vs)
kept-owned n alive [] all = All-nil (IsOurValue n)
kept-owned n alive (v ∷ vs) all = here (has_number v.number alive) refl (kept-owned n alive vs (All-tail (IsOurValue n) v vs all))
  where
    here : (b : Bool) → has_number v.number alive ≡ b → AreOwned n (those_of alive vs) → AreOwned n (those_of alive (v ∷ vs))
    here true h later = rw h (All-cons (IsOurValue n) v (those_of alive vs) (All-head (IsOurValue n) v vs all) later)
    here false h later = rw h later

does-owned : (n : ℕ) (c : Call) (e : Environment) {made dropped : Option Duty} (d : Environment) → caller_of e.frames < n → AreOwned n e.heap.values
    → Effect c e made dropped d → AreOwned n d.heap.values
does-owned n c e _ there all (does.tells k) = heap-owned n (caller_of e.frames) e.heap c k there all
does-owned n c e _ there all (does.makes payload) = one-more n _ _ e.heap.values all (no-function n (body.External payload) refl)
does-owned n c e _ there all (does.raises code message) = thrown-owned n e.heap code message all
does-owned n c e _ there all (does.promises k) =
    All-push (IsOurValue n) e.heap.values (linked_value (e.heap.made + 1) promise_tag None) all (no-function n (body.Linked promise_tag None) refl)
does-owned n c e _ there all (does.makes_buffer size t) =
    All-push (IsOurValue n) e.heap.values (linked_value (e.heap.made + 1) buffer_tag None) all (no-function n (body.Linked buffer_tag None) refl)
does-owned n c e _ there all (does.makes_view about) =
    All-push (IsOurValue n) e.heap.values (linked_value (e.heap.made + 1) view_tag (Some about.buffer.0)) all (no-function n (body.Linked view_tag None) refl)
does-owned n c e _ there all (does.settles k h state p is) = changed-owned n p _ e.heap.values (λ x. refl) all
does-owned n c e _ there all does.collects = kept-owned n (reach e) e.heap.values all
does-owned n c e _ there all (does.removes_hook entry argument) =
    let t : Option ℕ = hook_ticket (caller_of e.frames) entry argument e.hooks in
    registered-by e.book t (λ s. AreOwned n (withdrawing s (accepts out.Nothing (record e { hooks = unhooked t e.hooks }))).after.heap.values) all
    (λ k here is. all)
does-owned n c e _ there all (does.removes_async number) =
    let t : Option ℕ = set_ticket number e.async_hooks in
    let left : Environment = record e { hooks = unhooked t e.hooks; async_hooks = with_removed number e.async_hooks } in
    registered-by e.book t (λ s. AreOwned n (withdrawing s (accepts out.Nothing left)).after.heap.values) all (λ k here is. all)
does-owned n c e _ there all (does.registers {d} payload entry hint before step) = does-owned n c e d there all before
does-owned n c e _ there all (does.attaches {d} {a} before on) = does-owned n c e d there all before
does-owned n c e _ there all (does.sets {d} i before on) = does-owned n c e d there all before
does-owned n c e _ there all _ = all

answer-owned : (n : ℕ) (e : Environment) (c : Call) (k : ℕ) → caller_of e.frames < n → AreOwned n e.heap.values → AreOwned n (answer e c k).after.heap.values
answer-owned n e c k there all =
    answer-by e c k (λ a. AreOwned n a.after.heap.values) (λ s. all) (λ s. thrown-owned n e.heap None _ all)
    (λ none. does-owned n c e (effect e c k).after there all (effect-of e c k))

-- FRAMES
pub counted-owned : (n : ℕ) (fs : List Frame) → All (Below n) fs → All (Below n) (ask_counted fs)
counted-owned n [] all = All-nil (Below n)
counted-owned n (f ∷ fs) all = All-cons (Below n) (record f { asks = f.asks + 1 }) fs (All-head (Below n) f fs all) (All-tail (Below n) f fs all)

tail-owned : (n : ℕ) (fs : List Frame) → All (Below n) fs → All (Below n) (tail fs)
tail-owned n [] all = All-nil (Below n)
tail-owned n (f ∷ fs) all = All-tail (Below n) f fs all

pub caller-owned : (n : ℕ) (fs : List Frame) → fs ≢ [] → All (Below n) fs → caller_of fs < n
caller-owned n [] stands all = absurd (stands refl)
caller-owned n (f ∷ fs) stands all = All-head (Below n) f fs all

call_change-owned : (n : ℕ) (e : Environment) (c : Call) (k : ℕ) → e.frames ≢ [] → IsOwned n e → IsOwned n (call_change e c k).after
call_change-owned n e c k stands o =
    let P : List Frame → Type 0 = λ fs. All (Below n) (ask_counted fs) in
    record {
      frames = subst P (sym (answer-keeps e c k).frames) (counted-owned n e.frames o.frames);
      functions = answer-owned n e c k (caller-owned n e.frames stands o.frames) o.functions;
      tickets = call-kept (All (Entered n)) (entered-kept n) e c k
          (λ made r who why book old. All-push (Entered n) book r old (subst (λ a. a < n) (sym who) (caller-owned n e.frames stands o.frames))) o.tickets;
    }

-- a call that nothing refuses is not refused by its row
pub row-unrefused : (e : Environment) (c : Call) → refusal e c ≡ None → row_refusal e.heap c ≡ None
row-unrefused e c h =
    let early : refusal_before_depth e c ≡ None = none-first (refusal_before_depth e c) (depth_refusal e.frames c) h in
    let timely : refusal_by_state e c ≡ None = none-last (refusal_by_moment e c) (refusal_by_state e c) early in
    let within : refusal_in e.texts e.heap c ≡ None = none-first (refusal_in e.texts e.heap c) (group_refusal e c) timely in
    let later : option_or (kind_refusal e.heap c) (row_refusal e.heap c) ≡ None = none-last (unknown_refusal e.texts e.heap c) _ within in
    none-last (kind_refusal e.heap c) (row_refusal e.heap c) later

-- only a function is called
pub function-call_change : (e : Environment) (receiver : Option HandleId) (f : HandleId) (args : Args) → refusal e (call.CallFunction receiver f args) ≡ None
    → is_function (handle_body e.heap f.0) ≡ true
function-call_change e receiver f args h = not-unless (is_function (handle_body e.heap f.0)) status.InvalidArg (row-unrefused e (call.CallFunction receiver f args) h)

-- an accepted call of a function enters a frame of an addon that is there
pub callee-owned : (n : ℕ) (e : Environment) (receiver : Option HandleId) (f : HandleId) (args : Args) → refusal e (call.CallFunction receiver f args) ≡ None → IsOwned n e
    → function_addon (handle_body e.heap f.0) < n
callee-owned n e receiver f args h o = body-owned n _ e.heap.values o.functions (function-call_change e receiver f args h)

enter_change-owned : (n : ℕ) (e : Environment) (receiver : Option HandleId) (f : HandleId) (args : Args) → refusal e (call.CallFunction receiver f args) ≡ None → IsOwned n e
    → IsOwned n (enter_change receiver f args e).after
enter_change-owned n e receiver f args h o =
    let k : KeepsAndEnters e (enter_change receiver f args e).after f = enter_change-keeps receiver f args e in
    let P : List Frame → Type 0 = λ fs. All (Below n) fs in
    let Q : List Value → Type 0 = λ vs. AreOwned n vs in
    record {
      frames = subst P (sym k.frames) (All-cons (Below n) (callee_of e.heap f) (ask_counted e.frames) (callee-owned n e receiver f args h o) (counted-owned n e.frames o.frames));
      functions = subst Q (sym k.values) o.functions;
      tickets = subst (λ b. All (Entered n) b) (sym (registry-parts (registry_of e) (enter_change receiver f args e).after k.registry).book) o.tickets;
    }

-- EVERY EVENT
pub owned-asked : (n : ℕ) (e : Environment) (c : Call) (k : ℕ) → e.frames ≢ [] → IsOwned n e → IsOwned n (asked_change e c k).after
owned-asked n e c k stands o =
    asked-by e c k (λ d. IsOwned n d.after) (call_change-owned n e c k stands o) (λ receiver f args none. enter_change-owned n e receiver f args none o)

pub owned-ended : (n : ℕ) (e : Environment) (v : Option HandleId) (cut : Option Why) → IsOwned n e → IsOwned n (end_change v cut e).after
owned-ended n e v cut o =
    let k : KeepsButFrame e (end_change v cut e).after = ended-keeps v cut e in
    let P : List Frame → Type 0 = λ fs. All (Below n) fs in
    let Q : List Value → Type 0 = λ vs. AreOwned n vs in
    record {
      frames = subst P (sym k.frames) (tail-owned n e.frames o.frames);
      functions = subst Q (sym k.values) o.functions;
      tickets = ended-kept (All (Entered n)) (entered-kept n) e v cut o.tickets;
    }

pub owned-init : (n : ℕ) (e : Environment) (addon : ℕ) → addon < n → IsOwned n e → IsOwned n (init_change addon e).after
owned-init n e addon there o = record { frames = All-cons (Below n) (frame_of cause.Init addon 0) e.frames there o.frames; functions = o.functions; tickets = o.tickets }

pub owned-ticket : (n : ℕ) (e : Environment) (t : ℕ) (r : Registration) → registration_at e.book t ≡ Some r → IsOwned n e → IsOwned n (ticket_change t r e).after
owned-ticket n e t r there o = record {
  frames = All-cons (Below n) (frame_of_duty (due_info t r)) e.frames (registered-holds (Entered n) t e.book r there o.tickets) o.frames;
  functions = o.functions;
  tickets = begun-kept (All (Entered n)) (entered-kept n) e.phase t e.book o.tickets;
}

pub owned-phase : (n : ℕ) (e : Environment) (p : Phase) → IsOwned n e → IsOwned n (in_phase p e)
owned-phase n e p o = record { frames = o.frames; functions = o.functions; tickets = phase-kept (All (Entered n)) (entered-kept n) p e.book o.tickets }

-- the starting values are no functions
none-owned : (n : ℕ) (vs : List Value) → IsTrue (list_all (λ v. not (is_function v.body)) vs) → AreOwned n vs
none-owned n [] none = All-nil (IsOurValue n)
none-owned n (v ∷ vs) none =
    All-cons (IsOurValue n) v vs (no-function n v.body (not-true (is_function v.body) (and-left _ (list_all (λ x. not (is_function x.body)) vs) none)))
    (none-owned n vs (and-right (not (is_function v.body)) _ none))

pub owned-opening : (n : ℕ) → AreOwned n starting_values
owned-opening n = none-owned n starting_values refl

-- ASKS
abbrev Spare : Frame → Type 0
Spare f = f.asks ≤ most_asks

counted-within : (fs : List Frame) → asks_made fs < most_asks → All Spare fs → All Spare (ask_counted fs)
counted-within [] below all = All-nil Spare
counted-within (f ∷ fs) below all = All-cons Spare (record f { asks = f.asks + 1 }) fs (omega (arith, below)) (All-tail Spare f fs all)

tail-within : (fs : List Frame) → All Spare fs → All Spare (tail fs)
tail-within [] all = All-nil Spare
tail-within (f ∷ fs) all = All-tail Spare f fs all

call_change-within : (e : Environment) (c : Call) (k : ℕ) → asks_made e.frames < most_asks → AsksWithin e → AsksWithin (call_change e c k).after
call_change-within e c k below all =
    let P : List Frame → Type 0 = λ fs. All Spare (ask_counted fs) in
    subst P (sym (answer-keeps e c k).frames) (counted-within e.frames below all)

pub within-asked : (e : Environment) (c : Call) (k : ℕ) → asks_made e.frames < most_asks → AsksWithin e → AsksWithin (asked_change e c k).after
within-asked e c k below all = asked-by e c k (λ d. AsksWithin d.after) (call_change-within e c k below all) (λ receiver f args none. entered receiver f args)
  where
    entered : (receiver : Option HandleId) (f : HandleId) (args : Args) → AsksWithin (enter_change receiver f args e).after
    entered receiver f args =
        let P : List Frame → Type 0 = λ fs. All Spare fs in
        let more : All Spare (callee_of e.heap f ∷ ask_counted e.frames) =
        All-cons Spare (callee_of e.heap f) _ (omega arith) (counted-within e.frames below all) in
        subst P (sym (enter_change-keeps receiver f args e).frames) more

pub within-ended : (e : Environment) (v : Option HandleId) (cut : Option Why) → AsksWithin e → AsksWithin (end_change v cut e).after
within-ended e v cut all =
    let P : List Frame → Type 0 = λ fs. All Spare fs in
    subst P (sym (ended-keeps v cut e).frames) (tail-within e.frames all)

pub within-ticket : (e : Environment) (t : ℕ) (r : Registration) → AsksWithin e → AsksWithin (ticket_change t r e).after
within-ticket e t r all = All-cons Spare (frame_of_duty (due_info t r)) e.frames (omega arith) all

pub within-init : (e : Environment) (addon : ℕ) → AsksWithin e → AsksWithin (init_change addon e).after
within-init e addon all = All-cons Spare (frame_of cause.Init addon 0) e.frames (omega arith) all
