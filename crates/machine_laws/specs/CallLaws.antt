-- Laws over all calls in all environments.
use Rattle.std.specs.Option.{option_or, unwrap_or}
use Rattle.std.specs.Prelude.{◌≡◌, ◌<◌, ℕ, ℤ, ◌+◌, ◌*◌, nat_lt, Bool, true, false, ◌&&◌, not, List, [], ◌∷◌, map, length, Option, Some, None, filter, is_some, slice_get, codes, ◌⊎◌}
use Rattle.napi_types.specs.declared.body.Body.TheVariants as body
use Rattle.napi_types.specs.declared.call.Call.{Call}
use Rattle.napi_types.specs.declared.call.Call.TheVariants as call
use Rattle.napi_types.specs.declared.call.CallGroup.{CallGroup}
use Rattle.napi_types.specs.declared.call.CallGroup.TheVariants.{OnValues, OnProperties, OnFunctions, OnScopes, OnReferences, OnWraps, OnExternals, OnEntering, OnExceptions, OnInstances, OnHooks, OnPromises, OnBuffers, OnWorks, OnTsfns, OnVersion, OnCollection, OnExit}
use Rattle.napi_types.specs.declared.call.JobSpec.{JobSpec}
use Rattle.napi_types.specs.declared.call.Mode.{Mode}
use Rattle.napi_types.specs.declared.entry.Out.TheVariants as out
use Rattle.napi_types.specs.declared.ids.AsyncHookId.{AsyncHookId}
use Rattle.napi_types.specs.declared.ids.HandleId.{HandleId}
use Rattle.napi_types.specs.declared.ids.ScopeId.{ScopeId}
use Rattle.napi_types.specs.declared.ids.TsfnId.{TsfnId}
use Rattle.napi_types.specs.declared.ids.WorkId.{WorkId}
use Rattle.napi_types.specs.declared.status.Status.{Status}
use Rattle.napi_types.specs.declared.status.Status.TheVariants as status
use Rattle.napi_types.specs.plain.CallKinds.{is_calling}
use Rattle.napi_types.specs.plain.Guards.{is_registering, is_shared, is_growing}
use Rattle.napi_types.specs.plain.Lists.{has_number}
use Rattle.napi_types.specs.plain.Replies.{Answer, plain}
use Rattle.napi_types.specs.plain.Room.{one_if, need}
use Rattle.napi_types.specs.plain.Texts.{fixed_texts, message_text, code_text}
use Rattle.napi_types.specs.parts.Frames.{ask_counted}
use Rattle.napi_types.specs.parts.Heap.{Heap, handle_body}
use Rattle.napi_types.specs.parts.HeapRefusals.{kind_refusal, row_refusal, refusal_in}
use Rattle.napi_types.specs.parts.Hooks.{hook_ticket}
use Rattle.napi_types.specs.parts.NamedNumbers.{handles_of, texts_of, unknown_refusal}
use Rattle.napi_types.specs.parts.ReferenceRefusals.{references_of, reference_refusal}
use Rattle.napi_types.specs.parts.Scopes.{gives}
use Rattle.napi_types.specs.environment.BufferCalls.{buffer_refusal}
use Rattle.napi_types.specs.environment.Calls.{answer, with_depth_error}
use Rattle.napi_types.specs.environment.Changes.{call_change}
use Rattle.napi_types.specs.environment.Environment.{Environment}
use Rattle.napi_types.specs.environment.Groups.{call_group}
use Rattle.napi_types.specs.environment.HookCalls.{hook_refusal}
use Rattle.napi_types.specs.environment.Moments.{refusal_by_moment}
use Rattle.napi_types.specs.environment.PromiseCalls.{promise_refusal}
use Rattle.napi_types.specs.environment.ReferenceCalls.{referring_refusal}
use Rattle.napi_types.specs.environment.Refusals.{refusal_by_state, refusal_before_depth, depth_refusal, refusal}
use Rattle.napi_types.specs.environment.WrapCalls.{attachment_refusal}

-- the call is refused as one at a wrong moment, or else as an invalid argument; it tells nothing, and leaves the environment as it was
pub record RefusesArgument (e : Environment) (c : Call) : Type 0 where
  pub refusal : refusal e c ≡ Some (unwrap_or (refusal_by_moment e c) status.InvalidArg)
  pub reply : (n : ℕ) → (answer e c n).reply ≡ plain (unwrap_or (refusal_by_moment e c) status.InvalidArg) out.Nothing
  pub after : (n : ℕ) → (answer e c n).after ≡ e

-- each call that names a handle which no open scope holds is refused, whatever else it names
abbrev pub RefusesUnknownHandles : Type 0
RefusesUnknownHandles = (e : Environment) (c : Call) (h : ℕ) → has_number h (handles_of c) ≡ true → gives e.heap.scopes h ≡ None → RefusesArgument e c

-- the same of each of these calls by itself, whatever the table says of the handles that calls name: of `typeof`, of those on externals, wraps and type tags,
-- and of the one that makes a thread-safe function
pub record RefusesUnknownByRow (e : Environment) (h : HandleId) : Type 0 where
  pub typeof : RefusesArgument e (call.Typeof h)
  pub external : RefusesArgument e (call.GetValueExternal h)
  pub wrap : (payload : ℕ) (finalizer : Option ℕ) (hint : ℕ) (ref : Bool) → RefusesArgument e (call.Wrap h payload finalizer hint ref)
  pub unwrap : RefusesArgument e (call.Unwrap h)
  pub remove : RefusesArgument e (call.RemoveWrap h)
  pub tag : (lower upper : ℕ) → RefusesArgument e (call.TypeTagObject h lower upper)
  pub check : (lower upper : ℕ) → RefusesArgument e (call.CheckObjectTypeTag h lower upper)
  pub finalizer : (payload finalizer hint : ℕ) (ref : Bool) → RefusesArgument e (call.AddFinalizer h payload finalizer hint ref)
  pub function : (entry : Option ℕ) (most initial : ℕ) (finalizer : Option ℕ) (context : ℕ)
      → RefusesArgument e (call.CreateThreadsafeFunction (Some h) entry most initial finalizer context)

abbrev pub RefusesUnknownInEachRow : Type 0
RefusesUnknownInEachRow = (e : Environment) (h : HandleId) → gives e.heap.scopes h.0 ≡ None → RefusesUnknownByRow e h

-- a call whose handles open scopes hold, and whose texts stand in the table, is refused for none of them
abbrev pub TakesKnownHandles : Type 0
TakesKnownHandles = (e : Environment) (c : Call) → ((h : ℕ) → has_number h (handles_of c) ≡ true → is_some (gives e.heap.scopes h) ≡ true)
    → ((t : ℕ) → has_number t (texts_of c) ≡ true → nat_lt t e.texts ≡ true) → unknown_refusal e.texts e.heap c ≡ None

-- a type tag may be on an external, but nothing is wrapped in one, and no finalizer is added to one
pub record TagsExternalsOnly (heap : Heap) (h : HandleId) : Type 0 where
  pub tag : (lower upper : ℕ) → kind_refusal heap (call.TypeTagObject h lower upper) ≡ None
  pub check : (lower upper : ℕ) → kind_refusal heap (call.CheckObjectTypeTag h lower upper) ≡ None
  pub wrap : (payload : ℕ) (finalizer : Option ℕ) (hint : ℕ) (ref : Bool)
      → kind_refusal heap (call.Wrap h payload finalizer hint ref) ≡ Some status.ObjectExpected
  pub unwrap : kind_refusal heap (call.Unwrap h) ≡ Some status.ObjectExpected
  pub remove : kind_refusal heap (call.RemoveWrap h) ≡ Some status.ObjectExpected
  pub finalizer : (payload finalizer hint : ℕ) (ref : Bool) → kind_refusal heap (call.AddFinalizer h payload finalizer hint ref) ≡ Some status.ObjectExpected

abbrev pub ExternalsAreTaggedOnly : Type 0
ExternalsAreTaggedOnly = (heap : Heap) (h : HandleId) (payload : ℕ) → handle_body heap h.0 ≡ body.External payload → TagsExternalsOnly heap h

-- an external is read, and a number is not
pub record ReadsExternalsOnly (heap : Heap) (h : HandleId) : Type 0 where
  pub external : (payload : ℕ) → handle_body heap h.0 ≡ body.External payload → row_refusal heap (call.GetValueExternal h) ≡ None
  pub number : (n : ℤ) → handle_body heap h.0 ≡ body.Number n → row_refusal heap (call.GetValueExternal h) ≡ Some status.InvalidArg

abbrev pub OnlyExternalsAreRead : Type 0
OnlyExternalsAreRead = (heap : Heap) (h : HandleId) → ReadsExternalsOnly heap h

-- the heap refuses no thread-safe function of a function, nor one of none with a call-js entry, where a thread holds it. It refuses that of a number, one with
-- neither, and one that nobody holds
pub record ServesFunctionsOnly (heap : Heap) (most count : ℕ) (finalizer : Option ℕ) (context : ℕ) : Type 0 where
  pub function : (h : HandleId) (entry : Option ℕ) (addon runs payload : ℕ) → handle_body heap h.0 ≡ body.Function addon runs payload → 0 < count
      → row_refusal heap (call.CreateThreadsafeFunction (Some h) entry most count finalizer context) ≡ None
  pub entered : (entry : ℕ) → 0 < count → row_refusal heap (call.CreateThreadsafeFunction None (Some entry) most count finalizer context) ≡ None
  pub number : (h : HandleId) (entry : Option ℕ) (n : ℤ) → handle_body heap h.0 ≡ body.Number n
      → row_refusal heap (call.CreateThreadsafeFunction (Some h) entry most count finalizer context) ≡ Some status.InvalidArg
  pub neither : row_refusal heap (call.CreateThreadsafeFunction None None most count finalizer context) ≡ Some status.InvalidArg
  pub unheld : (f : Option HandleId) (entry : Option ℕ)
      → row_refusal heap (call.CreateThreadsafeFunction f entry most 0 finalizer context) ≡ Some status.InvalidArg

abbrev pub OnlyFunctionsAreServed : Type 0
OnlyFunctionsAreServed = (heap : Heap) (most count : ℕ) (finalizer : Option ℕ) (context : ℕ) → ServesFunctionsOnly heap most count finalizer context

-- a call whose entry stands in the journal needs a place for its entry, one for the end of the frame that it enters, and two for the frame of what it registers
abbrev pub EachDutyHasPlaces : Type 0
EachDutyHasPlaces = (c : Call) → is_shared c ≡ false → need c ≡ 1 + one_if (is_calling c) + 2 * one_if (is_registering c)

-- the call queues a work
abbrev pub is_queuing : Call → Bool
is_queuing (call.QueueAsyncWork _) = true
is_queuing _ = false

-- a call that registers grows, but that which queues a work does not
abbrev pub RegisteringCallsGrow : Type 0
RegisteringCallsGrow = (c : Call) → is_registering c ≡ true → is_growing c ≡ not (is_queuing c)

-- the places that calls on works and on thread-safe functions need, and which calls grow: those that wrap and make an external also without a finalizer
pub record NeedsAndGrowth : Type 0 where
  pub work_needs : (job : JobSpec) (completion payload : ℕ) → need (call.CreateAsyncWork job completion payload) ≡ 1
  pub queue_needs : (w : WorkId) → need (call.QueueAsyncWork w) ≡ 5
  pub function_needs : (f : Option HandleId) (entry : Option ℕ) (most initial context : ℕ)
      → need (call.CreateThreadsafeFunction f entry most initial None context) ≡ 3
  pub finalized_needs : (f : Option HandleId) (entry : Option ℕ) (most initial finalizer context : ℕ)
      → need (call.CreateThreadsafeFunction f entry most initial (Some finalizer) context) ≡ 5
  pub item_needs : (f : TsfnId) (payload : ℕ) (mode : Mode) → need (call.CallThreadsafeFunction f payload mode) ≡ 3
  pub tag_grows : (h : HandleId) (lower upper : ℕ) → is_growing (call.TypeTagObject h lower upper) ≡ true
  pub wrap_grows : (h : HandleId) (payload hint : ℕ) (ref : Bool) → is_growing (call.Wrap h payload None hint ref) ≡ true
  pub external_grows : (payload hint : ℕ) → is_growing (call.CreateExternal payload None hint) ≡ true
  pub queue_stays : (w : WorkId) → is_growing (call.QueueAsyncWork w) ≡ false
  pub typeof_stays : (h : HandleId) → is_growing (call.Typeof h) ≡ false
  pub escape_stays : (s : ScopeId) (h : HandleId) → is_growing (call.EscapeHandle s h) ≡ false
  pub unwrap_stays : (h : HandleId) → is_growing (call.Unwrap h) ≡ false
  pub delete_stays : (w : WorkId) → is_growing (call.DeleteAsyncWork w) ≡ false

-- the groups of calls
abbrev pub every_group : List CallGroup
every_group =
    OnValues ∷ OnProperties ∷ OnFunctions ∷ OnScopes ∷ OnReferences ∷ OnWraps ∷ OnExternals ∷ OnEntering ∷ OnExceptions ∷ OnInstances
    ∷ OnHooks ∷ OnPromises ∷ OnBuffers ∷ OnWorks ∷ OnTsfns ∷ OnVersion ∷ OnCollection ∷ OnExit ∷ []

-- what each of them says of a call
abbrev pub groups : Environment → Call → ℕ → List (Option (Answer Environment))
groups e c n = map (λ g. (call_group g).answers e c n) every_group

-- each call that is not shared, but the call of a function, which enters a frame, has a row: exactly one group of calls answers it, and none answers another
-- call
abbrev pub EveryCallHasARow : Type 0
EveryCallHasARow = (e : Environment) (c : Call) (n : ℕ) → length (filter is_some (groups e c n)) ≡ one_if (not (is_shared c) && not (is_calling c))

-- a refused call answers the first refusal that applies and tells nothing; it leaves the environment as it was, but that the depth limit leaves its error
-- pending
pub record RefusalsChangeNothing (e : Environment) (c : Call) (n : ℕ) (s : Status) : Type 0 where
  pub reply : refusal e c ≡ Some s → (answer e c n).reply ≡ plain s out.Nothing
  pub after : refusal_before_depth e c ≡ Some s → (answer e c n).after ≡ e
  pub depth : refusal_before_depth e c ≡ None → depth_refusal e.frames c ≡ Some s → (answer e c n).after ≡ with_depth_error e

abbrev pub RefusedCallsChangeNothing : Type 0
RefusedCallsChangeNothing = (e : Environment) (c : Call) (n : ℕ) (s : Status) → RefusalsChangeNothing e c n s

-- the texts that name an error's properties are `message` and `code`, which every table of texts begins with
pub record ErrorNamesAreFixed : Type 0 where
  pub message : slice_get fixed_texts message_text ≡ Some (codes "message")
  pub code : slice_get fixed_texts code_text ≡ Some (codes "code")

-- a call that names a reference names no handle and no text, so which of the two tables is asked first shows nowhere
pub record NamesReferencesAlone (e : Environment) (c : Call) : Type 0 where
  pub alone : (references_of c ≡ []) ⊎ ((handles_of c ≡ []) × (texts_of c ≡ []))
  pub order : option_or (reference_refusal e.references c) (refusal_in e.texts e.heap c) ≡ option_or (refusal_in e.texts e.heap c) (reference_refusal e.references c)

abbrev pub ReferencesAreNamedAlone : Type 0
ReferencesAreNamedAlone = (e : Environment) (c : Call) → NamesReferencesAlone e c

-- the first refusal that the heap tells, or else that of a deferred or a reaction, that of a buffer or a view, that of a value to which no reference is made,
-- or that of what is attached to a value
abbrev pub attached_refusal : Environment → Call → Option Status
attached_refusal e c =
    option_or (refusal_in e.texts e.heap c)
    (option_or (promise_refusal e c) (option_or (buffer_refusal e c) (option_or (referring_refusal e c) (attachment_refusal e.attachments e.heap c))))

-- a call on hooks names no reference, no handle and no text, so it shows nowhere either whether the hooks are asked before all that or after it
pub record NamesHooksAlone (e : Environment) (c : Call) : Type 0 where
  pub alone : (hook_refusal e c ≡ None) ⊎ ((references_of c ≡ []) × (handles_of c ≡ []) × (texts_of c ≡ []))
  pub first : refusal_by_state e c ≡ option_or (hook_refusal e c) (option_or (reference_refusal e.references c) (attached_refusal e c))
  pub order : refusal_by_state e c ≡ option_or (option_or (reference_refusal e.references c) (attached_refusal e c)) (hook_refusal e c)

abbrev pub HooksAreNamedAlone : Type 0
HooksAreNamedAlone = (e : Environment) (c : Call) → NamesHooksAlone e c

-- an asynchronous hook is known by its number alone
pub record IsKnownByNumber (e : Environment) (n : ℕ) : Type 0 where
  -- the call that adds one is refused for no hook: none is doubled
  pub added : (entry argument : ℕ) → hook_refusal e (call.AddAsyncCleanupHook entry argument) ≡ None
  -- it leaves which plain hook is known by an addon, an entry and an argument, so that no call on plain hooks finds it
  pub plain : (entry argument : ℕ) → refusal e (call.AddAsyncCleanupHook entry argument) ≡ None → (addon other about : ℕ)
      → hook_ticket addon other about (answer e (call.AddAsyncCleanupHook entry argument) n).after.hooks ≡ hook_ticket addon other about e.hooks
  -- one that was removed is unknown: removing it again is refused
  pub once : (hook : AsyncHookId) → refusal e (call.RemoveAsyncCleanupHook hook) ≡ None
      → hook_refusal (answer e (call.RemoveAsyncCleanupHook hook) n).after (call.RemoveAsyncCleanupHook hook) ≡ Some status.InvalidArg

abbrev pub AsyncHooksAreKnownByNumber : Type 0
AsyncHooksAreKnownByNumber = (e : Environment) (n : ℕ) → IsKnownByNumber e n

-- `exit` is never refused and tells nothing; it leaves all as it was, but that exit was asked, that its frame made an ask more, and that the last status is 0
pub record AsksToExitAlone (e : Environment) (n : ℕ) : Type 0 where
  pub refusal : refusal e call.Exit ≡ None
  pub reply : (answer e call.Exit n).reply ≡ plain status.Ok out.Nothing
  pub after : (call_change e call.Exit n).after ≡ record e { exit_asked = true; frames = ask_counted e.frames; last = status.Ok }

abbrev pub ExitChangesNothingElse : Type 0
ExitChangesNothingElse = (e : Environment) (n : ℕ) → AsksToExitAlone e n
