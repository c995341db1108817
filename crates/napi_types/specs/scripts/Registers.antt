-- The registers of an addon, and what its plan asks: a plan has a list of operations for each entry, and an addon has 32 registers.
use Rattle.std.specs.Prelude.{ℕ, ◌++◌, Bool, true, false, cond, min, nat_lt, List, [], ◌∷◌, take, set, replicate, slice_get, slice_index, Option, Some, None, option_and_then, option_map, option_to_list, is_some}
use Rattle.std.specs.Int.{cast_unsigned, w64}
use Rattle.napi_types.specs.declared.call.Args.{Args}
use Rattle.napi_types.specs.declared.call.Ask.{Ask}
use Rattle.napi_types.specs.declared.call.Ask.TheVariants as ask
use Rattle.napi_types.specs.declared.call.Call.TheVariants as call
use Rattle.napi_types.specs.declared.ids.HandleId.{HandleId}
use Rattle.napi_types.specs.declared.op.Regs.{Regs}
use Rattle.napi_types.specs.declared.op.Op.{Op}
use Rattle.napi_types.specs.declared.op.Op.TheVariants as op
use Rattle.napi_types.specs.declared.entry.Out.{Out}
use Rattle.napi_types.specs.declared.entry.Out.TheVariants as out
use Rattle.napi_types.specs.declared.entry.Reply.{Reply}
use Rattle.napi_types.specs.declared.status.Status.{Status}
use Rattle.napi_types.specs.declared.status.Status.TheVariants as status
use Rattle.napi_types.specs.plain.Lists.{singleton}
use Rattle.napi_types.specs.plain.Numbers.{kind_number}

-- the number in a register, 0 past the last one
abbrev pub register_at : List ℕ → ℕ → ℕ
register_at rs r = slice_index rs r

-- the handle whose number is in a register
abbrev pub handle_in : List ℕ → ℕ → HandleId
handle_in rs r = record { 0 = register_at rs r }

-- the handle of the place among the arguments of a call, 0 from the count on
abbrev pub argument_in : List ℕ → Regs → ℕ → HandleId
argument_in rs list place = cond (nat_lt place (min list.count 4)) (handle_in rs (slice_index list.regs place)) (record { 0 = 0 })

-- the arguments of a call of a function, whose handles are in registers: at most four
abbrev pub arguments_in : List ℕ → Regs → Args
arguments_in rs list = record {
  count = min list.count 4;
  handles = argument_in rs list 0 ∷ argument_in rs list 1 ∷ argument_in rs list 2 ∷ argument_in rs list 3 ∷ [];
}

-- an operation filled from registers
abbrev pub operation_ask : Op → List ℕ → Ask
operation_ask (op.GetUndefined w) rs = ask.Do call.GetUndefined
operation_ask (op.GetNull w) rs = ask.Do call.GetNull
operation_ask (op.GetGlobal w) rs = ask.Do call.GetGlobal
operation_ask (op.GetBoolean flag w) rs = ask.Do (call.GetBoolean flag)
operation_ask (op.CreateInt64 number w) rs = ask.Do (call.CreateInt64 number)
operation_ask (op.CreateBigintInt64 number w) rs = ask.Do (call.CreateBigintInt64 number)
operation_ask (op.CreateStringUtf8 text w) rs = ask.Do (call.CreateStringUtf8 text)
operation_ask (op.CreateSymbol description w) rs = ask.Do (call.CreateSymbol (option_map (handle_in rs) description))
operation_ask (op.CreateObject w) rs = ask.Do call.CreateObject
operation_ask (op.CreateArray w) rs = ask.Do call.CreateArray
operation_ask (op.CreateFunction entry payload w) rs = ask.Do (call.CreateFunction entry payload)
operation_ask (op.CreateExternal payload entry hint w) rs = ask.Do (call.CreateExternal payload entry hint)
operation_ask (op.CreateError code message w) rs = ask.Do (call.CreateError (option_map (handle_in rs) code) (handle_in rs message))
operation_ask (op.Typeof value w) rs = ask.Do (call.Typeof (handle_in rs value))
operation_ask (op.IsArray value w) rs = ask.Do (call.IsArray (handle_in rs value))
operation_ask (op.IsError value w) rs = ask.Do (call.IsError (handle_in rs value))
operation_ask (op.GetValueInt64 value w) rs = ask.Do (call.GetValueInt64 (handle_in rs value))
operation_ask (op.GetValueBigintInt64 value w) rs = ask.Do (call.GetValueBigintInt64 (handle_in rs value))
operation_ask (op.GetValueBool value w) rs = ask.Do (call.GetValueBool (handle_in rs value))
operation_ask (op.GetValueStringUtf8 value w) rs = ask.Do (call.GetValueStringUtf8 (handle_in rs value))
operation_ask (op.GetValueExternal value w) rs = ask.Do (call.GetValueExternal (handle_in rs value))
operation_ask (op.GetArrayLength value w) rs = ask.Do (call.GetArrayLength (handle_in rs value))
operation_ask (op.StrictEquals left right w) rs = ask.Do (call.StrictEquals (handle_in rs left) (handle_in rs right))
operation_ask (op.SetNamedProperty object name value) rs = ask.Do (call.SetNamedProperty (handle_in rs object) name (handle_in rs value))
operation_ask (op.GetNamedProperty object name w) rs = ask.Do (call.GetNamedProperty (handle_in rs object) name)
operation_ask (op.HasNamedProperty object name w) rs = ask.Do (call.HasNamedProperty (handle_in rs object) name)
operation_ask (op.DeleteProperty object name w) rs = ask.Do (call.DeleteProperty (handle_in rs object) name)
operation_ask (op.GetPropertyNames object w) rs = ask.Do (call.GetPropertyNames (handle_in rs object))
operation_ask (op.SetElement object index value) rs = ask.Do (call.SetElement (handle_in rs object) index (handle_in rs value))
operation_ask (op.GetElement object index w) rs = ask.Do (call.GetElement (handle_in rs object) index)
operation_ask (op.HasElement object index w) rs = ask.Do (call.HasElement (handle_in rs object) index)
operation_ask (op.OpenHandleScope w) rs = ask.Do call.OpenHandleScope
operation_ask (op.OpenEscapableHandleScope w) rs = ask.Do call.OpenEscapableHandleScope
operation_ask (op.CloseHandleScope scope) rs = ask.Do (call.CloseHandleScope (record { 0 = register_at rs scope }))
operation_ask (op.CloseEscapableHandleScope scope) rs = ask.Do (call.CloseEscapableHandleScope (record { 0 = register_at rs scope }))
operation_ask (op.EscapeHandle scope value w) rs = ask.Do (call.EscapeHandle (record { 0 = register_at rs scope }) (handle_in rs value))
operation_ask (op.CreateReference value count w) rs = ask.Do (call.CreateReference (handle_in rs value) count)
operation_ask (op.DeleteReference reference) rs = ask.Do (call.DeleteReference (record { 0 = register_at rs reference }))
operation_ask (op.ReferenceRef reference w) rs = ask.Do (call.ReferenceRef (record { 0 = register_at rs reference }))
operation_ask (op.ReferenceUnref reference w) rs = ask.Do (call.ReferenceUnref (record { 0 = register_at rs reference }))
operation_ask (op.GetReferenceValue reference w) rs = ask.Do (call.GetReferenceValue (record { 0 = register_at rs reference }))
operation_ask (op.Wrap object payload entry hint w) rs = ask.Do (call.Wrap (handle_in rs object) payload entry hint (is_some w))
operation_ask (op.Unwrap object w) rs = ask.Do (call.Unwrap (handle_in rs object))
operation_ask (op.RemoveWrap object w) rs = ask.Do (call.RemoveWrap (handle_in rs object))
operation_ask (op.TypeTagObject object lower upper) rs = ask.Do (call.TypeTagObject (handle_in rs object) lower upper)
operation_ask (op.CheckObjectTypeTag object lower upper w) rs = ask.Do (call.CheckObjectTypeTag (handle_in rs object) lower upper)
operation_ask (op.AddFinalizer object payload entry hint w) rs = ask.Do (call.AddFinalizer (handle_in rs object) payload entry hint (is_some w))
operation_ask (op.CallFunction receiver function arguments w) rs = ask.Do (call.CallFunction (option_map (handle_in rs) receiver) (handle_in rs function) (arguments_in rs arguments))
operation_ask (op.Throw error) rs = ask.Do (call.Throw (handle_in rs error))
operation_ask (op.ThrowError code message) rs = ask.Do (call.ThrowError code message)
operation_ask (op.IsExceptionPending w) rs = ask.Do call.IsExceptionPending
operation_ask (op.GetAndClearLastException w) rs = ask.Do call.GetAndClearLastException
operation_ask (op.GetLastErrorInfo w) rs = ask.Do call.GetLastErrorInfo
operation_ask (op.SetInstanceData payload entry hint) rs = ask.Do (call.SetInstanceData payload entry hint)
operation_ask (op.GetInstanceData w) rs = ask.Do call.GetInstanceData
operation_ask (op.AddEnvCleanupHook entry argument) rs = ask.Do (call.AddEnvCleanupHook entry argument)
operation_ask (op.RemoveEnvCleanupHook entry argument) rs = ask.Do (call.RemoveEnvCleanupHook entry argument)
operation_ask (op.AddAsyncCleanupHook entry argument w) rs = ask.Do (call.AddAsyncCleanupHook entry argument)
operation_ask (op.RemoveAsyncCleanupHook hook) rs = ask.Do (call.RemoveAsyncCleanupHook (record { 0 = register_at rs hook }))
operation_ask (op.CreatePromise deferred w) rs = ask.Do call.CreatePromise
operation_ask (op.ResolveDeferred deferred value) rs = ask.Do (call.ResolveDeferred (record { 0 = register_at rs deferred }) (handle_in rs value))
operation_ask (op.RejectDeferred deferred value) rs = ask.Do (call.RejectDeferred (record { 0 = register_at rs deferred }) (handle_in rs value))
operation_ask (op.IsPromise value w) rs = ask.Do (call.IsPromise (handle_in rs value))
operation_ask (op.AddReaction promise entry payload) rs = ask.Do (call.AddReaction (handle_in rs promise) entry payload)
operation_ask (op.GetReactionValue w) rs = ask.Do call.GetReactionValue
operation_ask (op.CreateArraybuffer length w) rs = ask.Do (call.CreateArraybuffer length)
operation_ask (op.CreateExternalArraybuffer length payload entry hint w) rs = ask.Do (call.CreateExternalArraybuffer length payload entry hint)
operation_ask (op.IsArraybuffer value w) rs = ask.Do (call.IsArraybuffer (handle_in rs value))
operation_ask (op.IsDetachedArraybuffer value w) rs = ask.Do (call.IsDetachedArraybuffer (handle_in rs value))
operation_ask (op.GetArraybufferInfo buffer w) rs = ask.Do (call.GetArraybufferInfo (handle_in rs buffer))
operation_ask (op.DetachArraybuffer buffer) rs = ask.Do (call.DetachArraybuffer (handle_in rs buffer))
operation_ask (op.CreateTypedarray kind buffer offset length w) rs = ask.Do (call.CreateTypedarray kind (handle_in rs buffer) offset length)
operation_ask (op.GetView view index w) rs = ask.Do (call.GetView (handle_in rs view) index)
operation_ask (op.SetView view index value) rs = ask.Do (call.SetView (handle_in rs view) index value)
operation_ask (op.CreateAsyncWork job entry payload w) rs = ask.Do (call.CreateAsyncWork job entry payload)
operation_ask (op.DeleteAsyncWork work) rs = ask.Do (call.DeleteAsyncWork (record { 0 = register_at rs work }))
operation_ask (op.CancelAsyncWork work) rs = ask.Do (call.CancelAsyncWork (record { 0 = register_at rs work }))
operation_ask (op.QueueAsyncWork work) rs = ask.Do (call.QueueAsyncWork (record { 0 = register_at rs work }))
operation_ask (op.CreateThreadsafeFunction function entry maximum count finalizer context w) rs = ask.Do (call.CreateThreadsafeFunction (option_map (handle_in rs) function) entry maximum count finalizer context)
operation_ask (op.CallThreadsafeFunction function payload mode) rs = ask.Do (call.CallThreadsafeFunction (record { 0 = register_at rs function }) payload mode)
operation_ask (op.AcquireThreadsafeFunction function) rs = ask.Do (call.AcquireThreadsafeFunction (record { 0 = register_at rs function }))
operation_ask (op.ReleaseThreadsafeFunction function mode) rs = ask.Do (call.ReleaseThreadsafeFunction (record { 0 = register_at rs function }) mode)
operation_ask (op.RefThreadsafeFunction function) rs = ask.Do (call.RefThreadsafeFunction (record { 0 = register_at rs function }))
operation_ask (op.UnrefThreadsafeFunction function) rs = ask.Do (call.UnrefThreadsafeFunction (record { 0 = register_at rs function }))
operation_ask (op.GetThreadsafeFunctionContext function w) rs = ask.Do (call.GetThreadsafeFunctionContext (record { 0 = register_at rs function }))
operation_ask (op.GetVersion w) rs = ask.Do call.GetVersion
operation_ask (op.Collect w) rs = ask.Do call.Collect
operation_ask op.Exit rs = ask.Do call.Exit
operation_ask (op.Return r) rs = ask.Leave (option_map (handle_in rs) r)
operation_ask (op.ThreadCall f n m) rs = ask.Do (call.CallThreadsafeFunction (record { 0 = f }) n m)
operation_ask (op.ThreadAcquire f) rs = ask.Do (call.AcquireThreadsafeFunction (record { 0 = f }))
operation_ask (op.ThreadRelease f m) rs = ask.Do (call.ReleaseThreadsafeFunction (record { 0 = f }) m)

-- a number, and a second one where there is one, as a list
abbrev pub one_or_two : Option (ℕ × Option ℕ) → List ℕ
one_or_two None = []
one_or_two (Some p) = p.0 ∷ option_to_list p.1

-- the registers that keep an operation's result, in the order of its numbers
abbrev pub result_registers : Op → List ℕ
result_registers (op.GetUndefined w) = singleton w
result_registers (op.GetNull w) = singleton w
result_registers (op.GetGlobal w) = singleton w
result_registers (op.GetBoolean _ w) = singleton w
result_registers (op.CreateInt64 _ w) = singleton w
result_registers (op.CreateBigintInt64 _ w) = singleton w
result_registers (op.CreateStringUtf8 _ w) = singleton w
result_registers (op.CreateSymbol _ w) = singleton w
result_registers (op.CreateObject w) = singleton w
result_registers (op.CreateArray w) = singleton w
result_registers (op.CreateFunction _ _ w) = singleton w
result_registers (op.CreateExternal _ _ _ w) = singleton w
result_registers (op.CreateError _ _ w) = singleton w
result_registers (op.Typeof _ w) = singleton w
result_registers (op.IsArray _ w) = singleton w
result_registers (op.IsError _ w) = singleton w
result_registers (op.GetValueInt64 _ w) = singleton w
result_registers (op.GetValueBigintInt64 _ w) = singleton w
result_registers (op.GetValueBool _ w) = singleton w
result_registers (op.GetValueStringUtf8 _ w) = singleton w
result_registers (op.GetValueExternal _ w) = singleton w
result_registers (op.GetArrayLength _ w) = singleton w
result_registers (op.StrictEquals _ _ w) = singleton w
result_registers (op.GetNamedProperty _ _ w) = singleton w
result_registers (op.HasNamedProperty _ _ w) = singleton w
result_registers (op.DeleteProperty _ _ w) = singleton w
result_registers (op.GetPropertyNames _ w) = singleton w
result_registers (op.GetElement _ _ w) = singleton w
result_registers (op.HasElement _ _ w) = singleton w
result_registers (op.OpenHandleScope w) = singleton w
result_registers (op.OpenEscapableHandleScope w) = singleton w
result_registers (op.EscapeHandle _ _ w) = singleton w
result_registers (op.CreateReference _ _ w) = singleton w
result_registers (op.ReferenceRef _ w) = singleton w
result_registers (op.ReferenceUnref _ w) = singleton w
result_registers (op.GetReferenceValue _ w) = singleton w
result_registers (op.Wrap _ _ _ _ w) = option_to_list w
result_registers (op.Unwrap _ w) = singleton w
result_registers (op.RemoveWrap _ w) = singleton w
result_registers (op.CheckObjectTypeTag _ _ _ w) = singleton w
result_registers (op.AddFinalizer _ _ _ _ w) = option_to_list w
result_registers (op.CallFunction _ _ _ w) = singleton w
result_registers (op.IsExceptionPending w) = singleton w
result_registers (op.GetAndClearLastException w) = singleton w
result_registers (op.GetLastErrorInfo w) = singleton w
result_registers (op.GetInstanceData w) = singleton w
result_registers (op.AddAsyncCleanupHook _ _ w) = singleton w
result_registers (op.CreatePromise deferred w) = deferred ∷ singleton w
result_registers (op.IsPromise _ w) = singleton w
result_registers (op.GetReactionValue w) = singleton w
result_registers (op.CreateArraybuffer _ w) = singleton w
result_registers (op.CreateExternalArraybuffer _ _ _ _ w) = singleton w
result_registers (op.IsArraybuffer _ w) = singleton w
result_registers (op.IsDetachedArraybuffer _ w) = singleton w
result_registers (op.GetArraybufferInfo _ w) = singleton w
result_registers (op.CreateTypedarray _ _ _ _ w) = singleton w
result_registers (op.GetView _ _ w) = singleton w
result_registers (op.CreateAsyncWork _ _ _ w) = singleton w
result_registers (op.CreateThreadsafeFunction _ _ _ _ _ _ w) = singleton w
result_registers (op.GetThreadsafeFunctionContext _ w) = singleton w
result_registers (op.GetVersion w) = singleton w
result_registers (op.Collect w) = singleton w
result_registers _ = []

-- a flag as a number
abbrev pub flag_number : Bool → ℕ
flag_number true = 1
flag_number false = 0

-- the numbers that registers keep of a result: a signed one modulo 2 ^ 64, and 0 where there is no handle
abbrev pub register_values : Out → List ℕ
register_values (out.Handle h) = singleton h.0
register_values out.NoHandle = singleton 0
register_values (out.Scope s) = singleton s.0
register_values (out.Ref r) = singleton r.0
register_values (out.AsyncHook h) = singleton h.0
register_values (out.Promise d h) = d.0 ∷ singleton h.0
register_values (out.Work w) = singleton w.0
register_values (out.Function f) = singleton f.0
register_values (out.Signed i) = singleton (cast_unsigned w64 i)
register_values (out.Unsigned n) = singleton n
register_values (out.Flag b) = singleton (flag_number b)
register_values (out.Text t) = singleton t.0
register_values (out.Kind k) = singleton (kind_number k)
register_values _ = []

-- the operation of an entry at a step, both counted from 0
abbrev pub operation : List (List Op) → ℕ → ℕ → Option Op
operation plan entry step = option_and_then (λ ops. slice_get ops step) (slice_get plan entry)

-- what is asked at an operation: after the last one a frame leaves without a handle
abbrev pub next_ask : Option Op → List ℕ → Ask
next_ask None rs = ask.Leave None
next_ask (Some o) rs = operation_ask o rs

-- what an addon of this plan and these registers asks in a frame of that entry at that step
abbrev pub plan_ask : List (List Op) → List ℕ → ℕ → ℕ → Ask
plan_ask plan rs entry step = next_ask (operation plan entry step) rs

-- the registers with numbers put in some of them, pairwise, as many as there are of both; they stay where there is no such register
abbrev pub put_results : List ℕ → List ℕ → List ℕ → List ℕ
put_results rs (r ∷ ws) (n ∷ ns) = put_results (set rs r n) ws ns
put_results rs _ _ = rs

-- the registers with the result of a call in those that keep it; they stay where the call was refused
abbrev pub put_accepted_result : List ℕ → List ℕ → Out → Status → List ℕ
put_accepted_result rs ws o status.Ok = put_results rs ws (register_values o)
put_accepted_result rs ws o _ = rs

-- the registers that keep the result of an operation, if there is one
abbrev pub keeping_registers : Option Op → List ℕ
keeping_registers None = []
keeping_registers (Some o) = result_registers o

-- the registers after the reply to what the plan asked in a frame of that entry at that step
abbrev pub registers_after_reply : List (List Op) → List ℕ → ℕ → ℕ → Reply → List ℕ
registers_after_reply plan rs entry step reply = put_accepted_result rs (keeping_registers (operation plan entry step)) reply.out reply.status

-- the registers of an addon that was loaded
abbrev pub blank_registers : List ℕ
blank_registers = replicate 32 0

-- the registers with a frame's eight gifts in registers 24 to 31
abbrev pub with_gifts : List ℕ → List ℕ → List ℕ
with_gifts gifts rs = take 24 rs ++ gifts
