-- What every call of the environment keeps, and by how much it may grow.
use Rattle.std.proofs.Common.{◌≡◌, ◌≤◌, ℕ, zero, suc, ◌+◌, ◌*◌, nat_lt, Bool, true, false, not, cond, List, [], ◌∷◌, length, refl, sym, ap, ◌∙◌, Option, Some, None, is_some, arith}
use Rattle.std.proofs.lemmas.List.{length-map}
use Rattle.std.specs.Option.{option_or}
use Rattle.napi_types.specs.declared.call.Call.{Call}
use Rattle.napi_types.specs.declared.call.Call.TheVariants as call
use Rattle.napi_types.specs.declared.entry.Duty.{Duty}
use Rattle.napi_types.specs.declared.entry.Out.TheVariants as out
use Rattle.napi_types.specs.declared.entry.Phase.{Phase}
use Rattle.napi_types.specs.declared.entry.Reply.{Reply}
use Rattle.napi_types.specs.declared.ids.TextNo.{TextNo}
use Rattle.napi_types.specs.declared.status.Status.{Status}
use Rattle.napi_types.specs.declared.status.Status.TheVariants as status
use Rattle.napi_types.specs.plain.Guards.{is_registering}
use Rattle.napi_types.specs.plain.Replies.{Answer, accepts}
use Rattle.napi_types.specs.plain.Room.{one_if, need}
use Rattle.napi_types.specs.parts.AsyncHooks.{AsyncHook, set_ticket, with_removed}
use Rattle.napi_types.specs.parts.Book.{Book, is_owed, owed_tickets}
use Rattle.napi_types.specs.parts.Buffers.{Buffers}
use Rattle.napi_types.specs.parts.Frames.{Frame, caller_of, ask_counted, is_hub_duty, local_frames}
use Rattle.napi_types.specs.parts.Heap.{Heap, handle_properties}
use Rattle.napi_types.specs.parts.HeapCalls.{heap_effect, addon_effect, heap_answer_unless, heap_answer}
use Rattle.napi_types.specs.parts.HeapChanges.{with_handle, with_thrown}
use Rattle.napi_types.specs.parts.HeapRefusals.{refusal_in, kind_refusal, row_refusal}
use Rattle.napi_types.specs.parts.Hooks.{hook_ticket, Hook}
use Rattle.napi_types.specs.parts.NamedNumbers.{unknown_refusal}
use Rattle.napi_types.specs.parts.Promises.{state_now}
use Rattle.napi_types.specs.parts.PropertyCalls.{names_of}
use Rattle.napi_types.specs.parts.References.{ReferenceMap}
use Rattle.napi_types.specs.environment.Calls.{effect, answer}
use Rattle.napi_types.specs.environment.Changes.{call_change}
use Rattle.napi_types.specs.environment.Environment.{Environment}
use Rattle.napi_types.specs.environment.HookCalls.{unhooked}
use Rattle.napi_types.specs.environment.JournalRoom.{reserved_journal}
use Rattle.napi_types.specs.environment.Moments.{is_tearing, guard_refusal, registering_refusal, refusal_by_moment}
use Rattle.napi_types.specs.environment.Refusals.{refusal_by_state, refusal_before_depth, group_refusal}
use Rattle.napi_types.specs.environment.PromiseCalls.{reaction_state}
use Rattle.napi_types.specs.environment.Registering.{withdrawing}
use Rattle.napi_types.proofs.plain.Maps.{length-with_record}
use Rattle.napi_types.proofs.plain.Lists.{length-changed, not-when, none-first, none-last}
use Rattle.napi_types.proofs.plain.CallFacts.{needs-place}
use Rattle.napi_types.proofs.parts.BookSteps.{BookStep, stays, adds, drops, collects, settles, step-owed}
use Rattle.napi_types.proofs.environment.Cases.{answer-by}
use Rattle.napi_types.proofs.environment.Effects as does
use Rattle.napi_types.proofs.environment.Effects.{Effect, registered-by, effect-of}
use Rattle.napi_types.proofs.environment.Told.{MayReply, told_plain, told_made, told_dropped, effect-told, answer-told}

-- what a call keeps of a heap: how many frames have scopes. It issues one number of each kind at most, and makes as many values as an array of names has, with
-- the array
pub record HeapKeeps (old new : Heap) : Type 0 where
  pub depth : length new.scopes ≡ length old.scopes
  pub handles : new.handles ≤ old.handles + 1
  pub scopes : length new.scope_numbers ≤ length old.scope_numbers + 1
  pub made : new.made ≤ old.made + 65537

same : (heap : Heap) → HeapKeeps heap heap
same heap = record { depth = refl; handles = omega arith; scopes = omega arith; made = omega arith }

-- a handle is given, after so many values were made
handled : (old heap : Heap) (v : ℕ) → heap.scopes ≡ old.scopes → heap.handles ≡ old.handles → heap.scope_numbers ≡ old.scope_numbers → heap.made ≤ old.made + 65537
    → HeapKeeps old (with_handle v heap)
handled old heap v s h n m = record {
  depth = length-changed _ heap.scopes ∙ ap length s;
  handles = omega (arith, h);
  scopes = omega (arith, ap length n);
  made = m;
}

in-scopes : (heap : Heap) (new : Heap) → length new.scopes ≡ length heap.scopes → new.handles ≤ heap.handles + 1 → length new.scope_numbers ≤ length heap.scope_numbers + 1 → new.made ≡ heap.made → HeapKeeps heap new
in-scopes heap new d h n m = record { depth = d; handles = omega (arith, h); scopes = n; made = omega (arith, m) }

in-scopes-made : (heap : Heap) (new : Heap) → length new.scopes ≡ length heap.scopes → new.handles ≤ heap.handles + 1 → length new.scope_numbers ≤ length heap.scope_numbers + 1 → new.made ≤ heap.made + 65537 → HeapKeeps heap new
in-scopes-made heap new d h n m = record { depth = d; handles = omega (arith, h); scopes = n; made = m }

none-third : (a b c : Option Status) → option_or a (option_or b c) ≡ None → c ≡ None
none-third None None c h = h
none-third None (Some s) c h = cc
none-third (Some s) b c h = cc

few : (n : ℕ) → nat_lt 65536 n ≡ false → n ≤ 65536
few n h = grind arith

named : (old : Heap) (n k : ℕ) → n ≡ k → k ≤ 65536 → old.made + n + 1 ≤ old.made + 65537
named old n k e h = omega arith

heap_effect-keeps : (texts : ℕ) (heap : Heap) (c : Call) (n : ℕ) → refusal_in texts heap c ≡ None → HeapKeeps heap (heap_effect heap c n).after
heap_effect-keeps texts heap call.GetUndefined n h = handled heap heap _ refl refl refl (omega arith)
heap_effect-keeps texts heap call.GetNull n h = handled heap heap _ refl refl refl (omega arith)
heap_effect-keeps texts heap call.GetGlobal n h = handled heap heap _ refl refl refl (omega arith)
heap_effect-keeps texts heap (call.GetBoolean b) n h = handled heap heap _ refl refl refl (omega arith)
heap_effect-keeps texts heap (call.CreateInt64 i) n h = handled heap _ _ refl refl refl (omega arith)
heap_effect-keeps texts heap (call.CreateBigintInt64 i) n h = handled heap _ _ refl refl refl (omega arith)
heap_effect-keeps texts heap (call.CreateStringUtf8 t) n h = handled heap _ _ refl refl refl (omega arith)
heap_effect-keeps texts heap (call.CreateSymbol d) n h = handled heap _ _ refl refl refl (omega arith)
heap_effect-keeps texts heap call.CreateObject n h = handled heap _ _ refl refl refl (omega arith)
heap_effect-keeps texts heap call.CreateArray n h = handled heap _ _ refl refl refl (omega arith)
heap_effect-keeps texts heap (call.CreateError code message) n h = handled heap _ _ refl refl refl (omega arith)
heap_effect-keeps texts heap (call.GetNamedProperty o name) n h = handled heap heap _ refl refl refl (omega arith)
heap_effect-keeps texts heap (call.GetElement o at) n h = handled heap heap _ refl refl refl (omega arith)
heap_effect-keeps texts heap (call.GetPropertyNames o) n h =
    let ps = handle_properties heap o.0 in
    let c : Call = call.GetPropertyNames o in
    let row : row_refusal heap c ≡ None = none-third (unknown_refusal texts heap c) (kind_refusal heap c) (row_refusal heap c) h in
    handled heap _ _ refl refl refl (named heap (length (names_of ps)) (length ps) (length-map ps _) (few (length ps) (not-when (nat_lt 65536 (length ps)) status.InvalidArg row)))
heap_effect-keeps texts heap call.OpenHandleScope n h = in-scopes heap _ (length-changed _ heap.scopes) (omega arith) (length-with_record (λ m. m) n heap.scope_numbers) refl
heap_effect-keeps texts heap call.OpenEscapableHandleScope n h = in-scopes heap _ (length-changed _ heap.scopes) (omega arith) (length-with_record (λ m. m) n heap.scope_numbers) refl
heap_effect-keeps texts heap (call.CloseHandleScope s) n h = in-scopes heap _ (length-changed _ heap.scopes) (omega arith) (omega arith) refl
heap_effect-keeps texts heap (call.CloseEscapableHandleScope s) n h = in-scopes heap _ (length-changed _ heap.scopes) (omega arith) (omega arith) refl
heap_effect-keeps texts heap (call.EscapeHandle s v) n h = in-scopes heap _ (length-changed _ heap.scopes) (omega arith) (omega arith) refl
heap_effect-keeps texts heap (call.SetNamedProperty o name v) n h = in-scopes heap _ refl (omega arith) (omega arith) refl
heap_effect-keeps texts heap (call.DeleteProperty o name) n h = in-scopes heap _ refl (omega arith) (omega arith) refl
heap_effect-keeps texts heap (call.SetElement o at v) n h = in-scopes heap _ refl (omega arith) (omega arith) refl
heap_effect-keeps texts heap _ n h = same heap

addon_effect-keeps : (texts addon : ℕ) (heap : Heap) (c : Call) (n : ℕ) → refusal_in texts heap c ≡ None → HeapKeeps heap (addon_effect addon heap c n).after
addon_effect-keeps texts addon heap (call.CreateFunction entry payload) n h = handled heap _ _ refl refl refl (omega arith)
addon_effect-keeps texts addon heap c n h = heap_effect-keeps texts heap c n h

by-refusal : (texts addon : ℕ) (heap : Heap) (c : Call) (n : ℕ) (s : Option Status) → refusal_in texts heap c ≡ s → HeapKeeps heap (heap_answer_unless addon heap c n s).after
by-refusal texts addon heap c n None h = addon_effect-keeps texts addon heap c n h
by-refusal texts addon heap c n (Some s) h = same heap

pub heap_answer-keeps : (texts addon : ℕ) (heap : Heap) (c : Call) (n : ℕ) → HeapKeeps heap (heap_answer texts addon heap c n).after
heap_answer-keeps texts addon heap c n = by-refusal texts addon heap c n (refusal_in texts heap c) refl

-- what no call and no frame changes: how many addons there are, whether the opening stands, the init frames that began, and the phase. A field more of the
-- environment that none of them changes is one line more in each of these
pub record Course : Type 0 where
  pub addons : ℕ
  pub opened : Bool
  pub inits : ℕ
  pub phase : Phase

abbrev pub course_of : Environment → Course
course_of e = record { addons = e.addons; opened = e.opened; inits = e.inits; phase = e.phase }

pub record SameCourse (old new : Environment) : Type 0 where
  pub addons : new.addons ≡ old.addons
  pub opened : new.opened ≡ old.opened
  pub inits : new.inits ≡ old.inits
  pub phase : new.phase ≡ old.phase

pub course-parts : (old new : Environment) → course_of new ≡ course_of old → SameCourse old new
course-parts old new same = record {
  addons = ap (λ (c : Course). c.addons) same;
  opened = ap (λ (c : Course). c.opened) same;
  inits = ap (λ (c : Course). c.inits) same;
  phase = ap (λ (c : Course). c.phase) same;
}

-- what an answer keeps of the environment: all but the heap, the references, what is attached to values, the book and the pending exception. It issues one
-- reference number and one deferred at most, and changes the book in one of the ways of a call
pub record KeepsBy (old : Environment) (made dropped : Option Duty) (new : Environment) : Type 0 where
  pub course : course_of new ≡ course_of old
  pub frames : new.frames ≡ old.frames
  pub heap : HeapKeeps old.heap new.heap
  pub references : length new.references.issued ≤ length old.references.issued + 1
  pub deferreds : length new.promises.issued ≤ length old.promises.issued + 1
  pub book : BookStep (caller_of old.frames) old.book made dropped new.book

abbrev pub KeepsTheRest : Environment → Answer Environment → Type 0
KeepsTheRest old a = KeepsBy old a.reply.made a.reply.dropped a.after

-- the values, the references and the pending exception are others
keeps-parts : (e : Environment) (heap : Heap) (m : ReferenceMap) (p : Option ℕ) → HeapKeeps e.heap heap → length m.issued ≤ length e.references.issued + 1
    → KeepsBy e None None (record e { heap = heap; references = m; pending = p })
keeps-parts e heap m p h issued = record { course = refl; frames = refl; heap = h; references = issued; deferreds = omega arith; book = stays e.book refl }

-- the book changes
keeps-book : {made dropped : Option Duty} (e : Environment) (book : Book) (hooks : List Hook) (others : List AsyncHook)
    → BookStep (caller_of e.frames) e.book made dropped book → KeepsBy e made dropped (record e { book = book; hooks = hooks; async_hooks = others })
keeps-book e book hooks others step = record { course = refl; frames = refl; heap = same e.heap; references = omega arith; deferreds = omega arith; book = step }

-- the values and the buffers change
linked-keeps : (e : Environment) (b : Buffers) {heap : Heap} → HeapKeeps e.heap heap → KeepsBy e None None (record e { heap = heap; buffers = b })
linked-keeps e b h = record { course = refl; frames = refl; heap = h; references = omega arith; deferreds = omega arith; book = stays e.book refl }

thrown-keeps : (heap : Heap) (code : Option TextNo) (message : TextNo) → HeapKeeps heap (with_thrown code message heap)
thrown-keeps heap None message = in-scopes-made heap _ refl (omega arith) (omega arith) (omega arith)
thrown-keeps heap (Some code) message = in-scopes-made heap _ refl (omega arith) (omega arith) (omega arith)

-- a reaction is registered, or due at once
pub reaction-owed : (state : ℕ) → is_owed (reaction_state state) ≡ true
reaction-owed zero = refl
reaction-owed (suc n) = refl

does-keeps : (c : Call) (e : Environment) {made dropped : Option Duty} (d : Environment) → refusal_in e.texts e.heap c ≡ None → Effect c e made dropped d
    → KeepsBy e made dropped d
does-keeps c e _ none does.rests = keeps-book e e.book e.hooks e.async_hooks (stays e.book refl)
does-keeps c e _ none (does.tells n) = keeps-parts e _ _ _ (addon_effect-keeps e.texts (caller_of e.frames) e.heap c n none) (omega arith)
does-keeps c e _ none (does.makes payload) = keeps-parts e _ _ _ (handled e.heap _ _ refl refl refl (omega arith)) (omega arith)
does-keeps c e _ none (does.throws h) = keeps-parts e _ _ _ (same e.heap) (omega arith)
does-keeps c e _ none (does.raises code message) = keeps-parts e _ _ _ (thrown-keeps e.heap code message) (omega arith)
does-keeps c e _ none does.clears = keeps-parts e _ _ _ (handled e.heap e.heap _ refl refl refl (omega arith)) (omega arith)
does-keeps c e _ none (does.recalls r v is) = keeps-parts e _ _ _ (handled e.heap e.heap _ refl refl refl (omega arith)) (omega arith)
does-keeps c e _ none (does.refers n h count) = keeps-parts e _ _ _ (same e.heap) (length-with_record (λ m. m) n e.references.issued)
does-keeps c e _ none (does.deletes r) = keeps-parts e _ _ _ (same e.heap) (omega arith)
does-keeps c e _ none (does.counts r count) = keeps-parts e _ _ _ (same e.heap) (omega arith)
does-keeps c e _ none does.collects =
    record { course = refl; frames = refl; heap = in-scopes e.heap _ refl (omega arith) (omega arith) refl; references = omega arith; deferreds = omega arith; book = collects _ _ refl }
does-keeps c e _ none (does.promises n) = record {
  course = refl;
  frames = refl;
  heap = handled e.heap _ _ refl refl refl (omega arith);
  references = omega arith;
  deferreds = length-with_record (λ m. m) n e.promises.issued;
  book = stays e.book refl;
}
does-keeps c e _ none (does.settles n h state p is) = record {
  course = refl;
  frames = refl;
  heap = in-scopes e.heap _ refl (omega arith) (omega arith) refl;
  references = omega arith;
  deferreds = omega arith;
  book = settles state _ _ refl;
}
does-keeps c e _ none (does.reacts v entry payload) = record {
  course = refl;
  frames = refl;
  heap = same e.heap;
  references = omega arith;
  deferreds = omega arith;
  book = adds _ _ (reaction-owed (state_now e.promises v)) refl (λ h. cc) refl;
}
does-keeps c e _ none (does.reads v is) = keeps-parts e _ _ _ (handled e.heap e.heap _ refl refl refl (omega arith)) (omega arith)
does-keeps c e _ none (does.makes_buffer size t) = linked-keeps e _ (handled e.heap _ _ refl refl refl (omega arith))
does-keeps c e _ none (does.makes_view about) = linked-keeps e _ (handled e.heap _ _ refl refl refl (omega arith))
does-keeps c e _ none (does.detaches v) = linked-keeps e _ (same e.heap)
does-keeps c e _ none (does.writes v at number) = linked-keeps e _ (same e.heap)
does-keeps c e _ none (does.adds_hook entry argument) = keeps-book e _ _ _ (adds _ _ refl refl (λ h. cc) refl)
does-keeps c e _ none (does.removes_hook entry argument) =
    let o : Option ℕ = hook_ticket (caller_of e.frames) entry argument e.hooks in
    registered-by e.book o (λ t. KeepsTheRest e (withdrawing t (accepts out.Nothing (record e { hooks = unhooked o e.hooks })))) (keeps-book e _ _ _ (stays e.book refl))
    (λ t here is. keeps-book e _ _ _ (drops t _ is refl))
does-keeps c e _ none (does.adds_async entry argument number is) = keeps-book e _ _ _ (adds _ _ refl refl (λ h. cc) refl)
does-keeps c e _ none (does.removes_async number) =
    let o : Option ℕ = set_ticket number e.async_hooks in
    let left : Environment = record e { hooks = unhooked o e.hooks; async_hooks = with_removed number e.async_hooks } in
    registered-by e.book o (λ t. KeepsTheRest e (withdrawing t (accepts out.Nothing left))) (keeps-book e _ _ _ (stays e.book refl))
    (λ t here is. keeps-book e _ _ _ (drops t _ is refl))
does-keeps c e _ none (does.withdraws t on is) = keeps-book e _ _ _ (drops t _ is refl)
does-keeps c e _ none (does.asks_exit is) = record { course = refl; frames = refl; heap = same e.heap; references = omega arith; deferreds = omega arith; book = stays e.book refl }
does-keeps c e _ none (does.registers {d} payload entry hint before step) =
    let k : KeepsBy e _ _ d = does-keeps c e d none before in
    record { course = k.course; frames = k.frames; heap = k.heap; references = k.references; deferreds = k.deferreds; book = step }
does-keeps c e _ none (does.attaches {d} before on) =
    let k : KeepsBy e _ _ d = does-keeps c e d none before in
    record { course = k.course; frames = k.frames; heap = k.heap; references = k.references; deferreds = k.deferreds; book = k.book }
does-keeps c e _ none (does.sets {d} i before on) =
    let k : KeepsBy e _ _ d = does-keeps c e d none before in
    record { course = k.course; frames = k.frames; heap = k.heap; references = k.references; deferreds = k.deferreds; book = k.book }

-- a call that nothing refuses early is not refused by what it reads in the heap
unrefused : (e : Environment) (c : Call) → refusal_before_depth e c ≡ None → refusal_in e.texts e.heap c ≡ None
unrefused e c h =
    let timely : refusal_by_state e c ≡ None = none-last (refusal_by_moment e c) (refusal_by_state e c) h in
    none-first (refusal_in e.texts e.heap c) (group_refusal e c) timely

pub answer-keeps : (e : Environment) (c : Call) (n : ℕ) → KeepsTheRest e (answer e c n)
answer-keeps e c n =
    answer-by e c n (KeepsTheRest e) (λ s. keeps-book e e.book e.hooks e.async_hooks (stays e.book refl)) (λ s. keeps-parts e _ _ _ (thrown-keeps e.heap None _) (omega arith))
    (λ none. does-keeps c e (effect e c n).after (unrefused e c none) (effect-of e c n))

-- WHAT IS MADE
-- a call that makes a duty has places for its frame, and is one that registers
pub record MakesFor (c : Call) (made : Option Duty) : Type 0 where
  pub places : 1 + 2 * one_if (is_some made) ≤ need c
  pub registers : is_some made ≡ true → is_registering c ≡ true

makes-none : (c : Call) (made : Option Duty) → 1 ≤ need c → made ≡ None → MakesFor c made
makes-none c made one none = rw none (record { places = omega (arith, one); registers = λ h. cc })

told-makes : (c : Call) (r : Reply) → MayReply c r → MakesFor c r.made
told-makes c _ (told_plain r unframed none kept) = makes-none c r.made (needs-place c) none
told-makes c _ (told_made r d registers places t) = record { places = omega (arith, places); registers = λ h. registers }
told-makes c _ (told_dropped r d may accepted t) = told-makes c r t

pub answer-makes : (e : Environment) (c : Call) (n : ℕ) → MakesFor c (answer e c n).reply.made
answer-makes e c n = told-makes c (answer e c n).reply (answer-told e c n)

-- in the teardown a call that registers is refused, so no duty is made
torn : (e : Environment) (c : Call) → is_tearing e.phase ≡ true → is_registering c ≡ true → refusal_by_moment e c ≡ None → ⊥
torn e c tearing registers none =
    let late : registering_refusal e c ≡ None = none-last (guard_refusal e c) (registering_refusal e c) none in
    let is : registering_refusal e c ≡ Some status.GenericFailure = rw (registers, tearing) refl in
    let no : Some status.GenericFailure ≡ None = sym is ∙ late in
    cc

not-some : (o : Option Duty) → (is_some o ≡ true → ⊥) → o ≡ None
not-some None h = refl
not-some (Some d) h = absurd (h refl)

pub torn-makes-none : (e : Environment) (c : Call) (n : ℕ) → is_tearing e.phase ≡ true → (answer e c n).reply.made ≡ None
torn-makes-none e c n tearing =
    answer-by e c n (λ a. a.reply.made ≡ None) (λ s. refl) (λ s. refl)
    (λ is. not-some _ (λ some.
    torn e c tearing ((told-makes c (effect e c n).reply (effect-told e c n)).registers some) (none-first (refusal_by_moment e c) (refusal_by_state e c) is)))

-- A CALL'S ENTRY
-- what a call of this entry keeps: the addons, the opening, the init frames that began, the phase, and how many frames stand; one of them has made one ask
-- more. The book changes in one of the ways of a call, and there are places for the duty that is made
pub record KeepsButAsk (c : Call) (old : Environment) (r : Reply) (new : Environment) : Type 0 where
  pub course : course_of new ≡ course_of old
  pub depth : length new.frames ≡ length old.frames
  pub local : length (local_frames new.frames) ≡ length (local_frames old.frames)
  pub heap : HeapKeeps old.heap new.heap
  pub references : length new.references.issued ≤ length old.references.issued + 1
  pub deferreds : length new.promises.issued ≤ length old.promises.issued + 1
  pub book : BookStep (caller_of old.frames) old.book r.made r.dropped new.book
  pub makes : MakesFor c r.made

-- an ask that is counted is none of a frame more
pub local-counted : (fs : List Frame) → length (local_frames (ask_counted fs)) ≡ length (local_frames fs)
local-counted [] = refl
local-counted (f ∷ fs) = by (is_hub_duty f.duty)
  where
    by : (b : Bool) → length (cond (not b) (record f { asks = f.asks + 1 } ∷ local_frames fs) (local_frames fs)) ≡ length (cond (not b) (f ∷ local_frames fs) (local_frames fs))
    by true = refl
    by false = refl

pub call_change-keeps : (e : Environment) (c : Call) (n : ℕ) → KeepsButAsk c e (call_change e c n).entry.reply (call_change e c n).after
call_change-keeps e c n = record {
  course = (answer-keeps e c n).course;
  depth = length-changed _ (answer e c n).after.frames ∙ ap length (answer-keeps e c n).frames;
  local = local-counted (answer e c n).after.frames ∙ ap (λ fs. length (local_frames fs)) (answer-keeps e c n).frames;
  heap = (answer-keeps e c n).heap;
  references = (answer-keeps e c n).references;
  deferreds = (answer-keeps e c n).deferreds;
  book = (answer-keeps e c n).book;
  makes = answer-makes e c n;
}

-- the law of room: the places that are reserved after a call, and two for a duty that it withdrew, are those before it and two for a duty that it made
pub call-reserved : (e : Environment) (c : Call) (r : Reply) (new : Environment) → KeepsButAsk c e r new
    → reserved_journal new + 2 * one_if (is_some r.dropped) ≡ reserved_journal e + 2 * one_if (is_some r.made)
call-reserved e c r new k =
    let course = course-parts e new k.course in
    let waits : owed_tickets new.book + one_if (is_some r.dropped) ≡ owed_tickets e.book + one_if (is_some r.made) = step-owed (caller_of e.frames) e.book r.made r.dropped new.book k.book in
    rw (course.opened, course.phase, course.addons, course.inits, k.local) (omega (arith, waits))
