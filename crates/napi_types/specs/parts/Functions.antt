-- A thread-safe function (the manual's `napi_threadsafe_function`): what it is, and how each of its calls answers and changes it.
use Rattle.std.specs.Prelude.{ℕ, ◌+◌, ◌-◌, ◌==◌, Bool, true, false, cond, not, ◌&&◌, nat_lt, List, [], ◌∷◌, ◌++◌, length, Option, Some, is_some}
use Rattle.std.specs.Option.{unwrap_or}
use Rattle.napi_types.specs.declared.call.Mode.{Mode}
use Rattle.napi_types.specs.declared.call.Mode.TheVariants as mode
use Rattle.napi_types.specs.declared.call.Release.{Release}
use Rattle.napi_types.specs.declared.call.Release.TheVariants as release
use Rattle.napi_types.specs.declared.duties.DueInfo.{DueInfo}
use Rattle.napi_types.specs.declared.entry.Actor.{Actor}
use Rattle.napi_types.specs.declared.entry.Cause.TheVariants as cause
use Rattle.napi_types.specs.declared.entry.Duty.TheVariants as duty
use Rattle.napi_types.specs.declared.entry.Target.{Target}
use Rattle.napi_types.specs.declared.entry.TsfnState.{TsfnState}
use Rattle.napi_types.specs.declared.entry.TsfnState.TheVariants.{Open, Closing, Finished, Done}
use Rattle.napi_types.specs.declared.status.Status.{Status}
use Rattle.napi_types.specs.declared.status.Status.TheVariants as status
use Rattle.napi_types.specs.plain.Entries.{is_environment}
use Rattle.napi_types.specs.plain.Lists.{head, tail, singleton, when}

pub record FunctionState : Type 0 where
  -- its number, the addon that created it, and where its items are delivered
  pub id : ℕ
  pub addon : ℕ
  pub target : Target
  -- how many items may wait, 0 for any number; the payloads of those that wait, the first to be delivered first; and how many were taken out
  pub maximum : ℕ
  pub items : List ℕ
  pub taken : ℕ
  -- how many threads hold it (the manual's thread count), how far it has come, and whether the loop waits for it
  pub count : ℕ
  pub state : TsfnState
  pub referenced : Bool
  -- the entry of its finalizer, where it has one, and its context
  pub finalizer : Option ℕ
  pub context : ℕ

-- a function as it is created: open, referenced, and with no items
abbrev pub new_function : ℕ → ℕ → Target → ℕ → ℕ → Option ℕ → ℕ → FunctionState
new_function id addon target maximum count finalizer context = record {
  id = id;
  addon = addon;
  target = target;
  maximum = maximum;
  items = [];
  taken = 0;
  count = count;
  state = Open;
  referenced = true;
  finalizer = finalizer;
  context = context;
}

-- STATES
abbrev pub is_open : TsfnState → Bool
is_open Open = true
is_open _ = false

abbrev pub is_closing : TsfnState → Bool
is_closing Closing = true
is_closing _ = false

abbrev pub is_finished : TsfnState → Bool
is_finished Finished = true
is_finished _ = false

abbrev pub is_done : TsfnState → Bool
is_done Done = true
is_done _ = false

-- ITEMS
-- how many items were accepted: those that were taken out, and those that wait
abbrev pub accepted_items : FunctionState → ℕ
accepted_items f = f.taken + length f.items

-- no further item may wait
abbrev pub is_full_queue : FunctionState → Bool
is_full_queue f = nat_lt 0 f.maximum && (length f.items == f.maximum)

-- CALLING
abbrev pub is_blocking : Mode → Bool
is_blocking mode.Blocking = true
is_blocking _ = false

-- what a call answers while the queue is full; none where it waits, as the blocking call of a thread does
abbrev pub full_status : Actor → Mode → Option Status
full_status who m = cond (is_blocking m) (when (is_environment who) status.WouldDeadlock) (Some status.QueueFull)

-- what a call answers; none where it waits
abbrev pub call_status : Actor → Mode → FunctionState → Option Status
call_status who m f =
    cond (f.count == 0) (Some status.InvalidArg)
    (cond (not (is_open f.state)) (Some status.Closing) (cond (is_full_queue f) (full_status who m) (Some status.Ok)))

-- what it leaves: an accepted item waits behind all others; a call on a function that is not open takes one off the count
abbrev pub called : Option Status → ℕ → FunctionState → FunctionState
called (Some status.Ok) payload f = record f { items = f.items ++ singleton payload }
called (Some status.Closing) payload f = record f { count = f.count - 1 }
called _ payload f = f

-- ACQUIRING AND RELEASING
-- the greatest count
abbrev pub most_threads : ℕ
most_threads = 4294967295

abbrev pub acquire_status : FunctionState → Status
acquire_status f =
    cond (not (is_open f.state)) status.Closing
    (cond (f.count == 0) status.InvalidArg (cond (f.count == most_threads) status.GenericFailure status.Ok))

-- an accepted acquisition counts up
abbrev pub acquired : Status → FunctionState → FunctionState
acquired status.Ok f = record f { count = f.count + 1 }
acquired _ f = f

abbrev pub release_status : FunctionState → Status
release_status f = cond (f.count == 0) status.InvalidArg status.Ok

-- only an open function begins to close
abbrev pub closed_state : TsfnState → TsfnState
closed_state Open = Closing
closed_state s = s

abbrev pub closed : FunctionState → FunctionState
closed f = record f { state = closed_state f.state }

-- an abort closes the function
abbrev pub closed_by : Release → FunctionState → FunctionState
closed_by release.Abort f = closed f
closed_by release.Release f = f

-- an accepted release counts down
abbrev pub released : Status → Release → FunctionState → FunctionState
released status.Ok m f = closed_by m (record f { count = f.count - 1 })
released _ m f = f

-- whether the loop waits for it
abbrev pub with_referenced : Bool → FunctionState → FunctionState
with_referenced b f = record f { referenced = b }

-- DELIVERING
-- the first item is taken out
abbrev pub with_item_taken : FunctionState → FunctionState
with_item_taken f = record f { items = tail f.items; taken = f.taken + 1 }

-- the first item is taken out, where one waits
abbrev pub first_taken : FunctionState → FunctionState
first_taken f = cond (is_some (head f.items)) (with_item_taken f) f

-- what the item of this payload, the next to be taken out, tells as it is delivered while the function is open: its payload, that it is not torn, the context
abbrev pub item_info : FunctionState → ℕ → DueInfo
item_info f payload = record {
  duty = duty.Item (record { 0 = f.id }) (f.taken + 1);
  cause = cause.Item;
  addon = f.target.addon;
  entry = f.target.entry;
  status = status.Ok;
  gifts = payload ∷ 1 ∷ f.context ∷ 0 ∷ 0 ∷ 0 ∷ 0 ∷ 0 ∷ [];
  runs = true;
}

-- and once it is closing: that it is torn; without a call-js entry its frame makes no asks
abbrev pub torn_info : FunctionState → ℕ → DueInfo
torn_info f payload = record (item_info f payload) {
  cause = cause.Torn;
  gifts = payload ∷ 0 ∷ f.context ∷ 0 ∷ 0 ∷ 0 ∷ 0 ∷ 0 ∷ [];
  runs = f.target.torn_runs;
}

-- FINISHING
-- a closing function whose queue is empty is finished where it has a finalizer, and done where it has none
abbrev pub finished : FunctionState → FunctionState
finished f = record f { state = cond (is_some f.finalizer) Finished Done }

-- what its finalizer tells: it runs in the addon that created the function, and is given the context
abbrev pub function_info : FunctionState → DueInfo
function_info f = record {
  duty = duty.Function (record { 0 = f.id });
  cause = cause.Finalize;
  addon = f.addon;
  entry = unwrap_or f.finalizer 0;
  status = status.Ok;
  gifts = f.context ∷ 0 ∷ 0 ∷ 0 ∷ 0 ∷ 0 ∷ 0 ∷ 0 ∷ [];
  runs = true;
}

-- a finished function is done once its finalizer begins
abbrev pub done : FunctionState → FunctionState
done f = record f { state = Done }
