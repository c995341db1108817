-- The environment's state as the machine sees it.
use Rattle.std.specs.Prelude.{◌≡◌, ℕ, ◌+◌, ◌<◌, ◌^◌, Bool, true, false, List, ◌∷◌, length, map, Option, None, option_map, IfSome, IsTrue}
use Rattle.napi_types.specs.declared.call.Args.{Args}
use Rattle.napi_types.specs.declared.call.Call.{Call}
use Rattle.napi_types.specs.declared.call.Call.TheVariants as call
use Rattle.napi_types.specs.declared.ids.ScopeId.{ScopeId}
use Rattle.napi_types.specs.declared.ids.ScopeKind.{ScopeKind}
use Rattle.napi_types.specs.declared.ids.ScopeKind.TheVariants as scope_kind
use Rattle.napi_types.specs.declared.ids.HandleId.{HandleId}
use Rattle.napi_types.specs.declared.entry.Cause.{Cause}
use Rattle.napi_types.specs.declared.entry.Cause.TheVariants as cause
use Rattle.napi_types.specs.declared.entry.Entry.{Entry}
use Rattle.napi_types.specs.declared.entry.HostStep.TheVariants as host
use Rattle.napi_types.specs.declared.entry.Out.TheVariants as out
use Rattle.napi_types.specs.declared.entry.Reply.{Reply}
use Rattle.napi_types.specs.declared.entry.Target.{Target}
use Rattle.napi_types.specs.declared.status.Status.{Status}
use Rattle.napi_types.specs.plain.Entries.{host_entry}
use Rattle.napi_types.specs.plain.Guards.{is_growing}
use Rattle.napi_types.specs.plain.Replies.{Answer}
use Rattle.napi_types.specs.parts.Frames.{Frame}
use Rattle.napi_types.specs.parts.FunctionCalls.{callee_of, call_gifts, receiver_handle, with_receiver}
use Rattle.napi_types.specs.parts.Graph.{StoreState, IsLive, number_in}
use Rattle.napi_types.specs.parts.HeapChanges.{with_frame}
use Rattle.napi_types.specs.parts.Properties.{most_names}
use Rattle.napi_types.specs.parts.References.{ReferenceMap}
use Rattle.napi_types.specs.environment.Calls.{answer_unless, answer}
use Rattle.napi_types.specs.environment.Changes.{call_change, call_entry, issued_number, is_fresh_result}
use Rattle.napi_types.specs.environment.Entering.{is_entering, enter_change}
use Rattle.napi_types.specs.environment.Environment.{Environment, TsfnRoot}
use Rattle.napi_types.specs.environment.Refusals.{refusal_by_state, refusal}
use Rattle.handle_scope.specs.HandleScopes.{HandleScopes}
use Rattle.env_core.specs.declared.state.calling.Called.{Called}
use Rattle.env_core.specs.declared.state.calling.Called.TheVariants as called_of
use Rattle.env_values.specs.SeenValues.{heap_of, HoldsLive}
use Rattle.env_core.specs.TsfnRooting.{RootsAreLive}
use Rattle.env_core.specs.Referring.{RefersToLive}

-- whether a call of the frame around it began a frame
abbrev pub is_by_call : Cause → Bool
is_by_call cause.Call = true
is_by_call _ = false

-- the pending exception as the machine sees it, by the creation number of its value
abbrev pub pending_seen : StoreState → Option ℕ → Option ℕ
pending_seen store pending = option_map (number_in store) pending

-- each frame that stands has its scopes, which know what frames a call began; what they hold is live, and so are the pending exception, the values of
-- references, and those that thread-safe functions keep
pub record IsState (store : StoreState) (scopes : HandleScopes) (standing : List Frame) (thrown : Option ℕ) (references : ReferenceMap)
    (functions : List TsfnRoot) : Type 0 where
  pub live : HoldsLive store scopes
  pub frames : length scopes.frames ≡ length standing
  pub calls : scopes.by_call ≡ map (λ f. is_by_call f.cause) standing
  pub pending : IfSome thrown (IsLive store)
  pub referred : RefersToLive store references
  pub rooted : RootsAreLive store functions

-- numbers are left for all that one call may issue: values, a handle, a scope, a reference, a ticket and a deferred
pub record HasNumbersFor (e : Environment) : Type 0 where
  pub values : e.heap.made + most_names + 8 < 2 ^ 48
  pub handles : e.heap.handles < 2 ^ 62
  pub scopes : length e.heap.scope_numbers < 2 ^ 62
  pub references : length e.references.issued + 2 < 2 ^ 48
  pub tickets : length e.book < 2 ^ 62
  pub deferreds : length e.promises.issued < 2 ^ 62

-- the call that opens a scope of a kind, and the one that closes it
abbrev pub opening_call : ScopeKind → Call
opening_call scope_kind.Plain = call.OpenHandleScope
opening_call scope_kind.Escapable = call.OpenEscapableHandleScope

abbrev pub closing_call : ScopeKind → ScopeId → Call
closing_call scope_kind.Plain scope = call.CloseHandleScope scope
closing_call scope_kind.Escapable scope = call.CloseEscapableHandleScope scope

-- the call's entry is the machine's, with a fresh number where it gives one, and the environment is the one after it
pub record Calls (old : Environment) (c : Call) (x : Entry) (new : Environment) : Type 0 where
  pub fresh : IsTrue (is_fresh_result old x.reply.out)
  pub entry : x ≡ (call_change old c (issued_number x.reply.out)).entry
  pub after : new ≡ (call_change old c (issued_number x.reply.out)).after

-- a reply is the one of this answer, with a fresh number where it gives one, and the environment is what the answer leaves
pub record AnswersBy (told : ℕ → Answer Environment) (old : Environment) (r : Reply) (new : Environment) : Type 0 where
  pub fresh : IsTrue (is_fresh_result old r.out)
  pub reply : r ≡ (told (issued_number r.out)).reply
  pub after : new ≡ (told (issued_number r.out)).after

-- the machine's answer to a call
abbrev pub Answers : Environment → Call → Reply → Environment → Type 0
Answers old c r new = AnswersBy (answer old c) old r new

-- the same where the call comes at a right moment, so that it is not asked whether it is guarded or registers
abbrev pub AnswersInTime : Environment → Call → Reply → Environment → Type 0
AnswersInTime old c r new = AnswersBy (λ n. answer_unless old c n (refusal_by_state old c)) old r new

-- the call grows, nothing that is asked before memory refuses it, and the environment is as it was
pub record FindsNoMemory (old : Environment) (c : Call) (refused : Option Status) (new : Environment) : Type 0 where
  pub same : new ≡ old
  pub grows : IsTrue (is_growing c)
  pub unrefused : refused ≡ None

-- CALLS OF FUNCTIONS
-- a call that is refused answers at once, as every other call does
pub record RefusesCall (old : Environment) (c : Call) (x : Entry) (new : Environment) : Type 0 where
  pub at_once : is_entering old c ≡ false
  pub calls : Calls old c x new

-- nothing refuses it, this is the entry that the function's frame runs, and these are the frame's gifts
pub record IsAccepted (e : Environment) (receiver : Option HandleId) (f : HandleId) (args : Args) (target : Target) (gifts : List ℕ) : Type 0 where
  pub accepted : refusal e (call.CallFunction receiver f args) ≡ None
  pub addon : target.addon ≡ (callee_of e.heap f).addon
  pub entry : target.entry ≡ (callee_of e.heap f).entry
  pub runs : target.torn_runs ≡ false
  pub gifts_are : gifts ≡ call_gifts e.heap receiver f args

-- the begin of the frame that a call enters
abbrev pub begin_entry : Target → Entry
begin_entry target = host_entry host.Begin (out.Begin cause.Call target.addon target.entry None)

-- one that is accepted enters the frame of the function
pub record EntersCall (old : Environment) (receiver : Option HandleId) (f : HandleId) (args : Args) (target : Target) (gifts : List ℕ) (new : Environment) : Type 0 where
  pub called : IsAccepted old receiver f args target gifts
  pub begun : begin_entry target ≡ (enter_change receiver f args old).entry
  pub after : new ≡ (enter_change receiver f args old).after

abbrev pub CallsFunction : Environment → Option HandleId → HandleId → Args → Called → Environment → Type 0
CallsFunction old receiver f args (called_of.Refused r) new =
    RefusesCall old (call.CallFunction receiver f args) (call_entry old (call.CallFunction receiver f args) r) new
CallsFunction old receiver f args (called_of.Entered target gifts) new = EntersCall old receiver f args target gifts new

-- the scopes of the frame that a call begins: a handle of undefined lies in them where the call names no receiver, and this is the receiver's handle
pub record BeginsScopes (store : StoreState) (old : HandleScopes) (receiver : Option HandleId) (h : HandleId) (new : HandleScopes) : Type 0 where
  pub heap : heap_of store new ≡ with_receiver receiver (with_frame (heap_of store old))
  pub frames : length new.frames ≡ length old.frames + 1
  pub calls : new.by_call ≡ true ∷ old.by_call
  pub live : HoldsLive store new
  pub handle : h.0 ≡ receiver_handle (heap_of store old) receiver

-- the same scopes, whatever places are spare
pub record SameScopes (old new : HandleScopes) : Type 0 where
  pub frames : new.frames ≡ old.frames
  pub calls : new.by_call ≡ old.by_call
  pub handles : new.handles ≡ old.handles
  pub numbers : new.scope_numbers ≡ old.scope_numbers
