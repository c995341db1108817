-- The operations of a script. The name of one says what kind of operation it is, and the table says, a line an operation, what its arguments are read as.
-- Where two numbers have the same form, as the register of an argument and the register that keeps the result, they stand in the order of the operation's own.
use Rattle.std.specs.Prelude.{ℕ, pos, false, List, [], ◌∷◌, Option, Some, None, option_map, codes, bytes_eq, find}
use Rattle.std.specs.Option.{option_or}
use Rattle.serde_json.specs.Data.{Data, string, array, Items, no_items, item}
use Rattle.napi_types.specs.declared.call.Ask.{Ask}
use Rattle.napi_types.specs.declared.ids.TextNo.{TextNo}
use Rattle.napi_types.specs.declared.call.Ask.TheVariants as ask
use Rattle.napi_types.specs.declared.call.JobSpec.TheVariants as job
use Rattle.napi_types.specs.declared.call.Mode.TheVariants as mode
use Rattle.napi_types.specs.declared.call.Release.TheVariants as release
use Rattle.napi_types.specs.declared.op.Op.{Op}
use Rattle.napi_types.specs.declared.op.Op.TheVariants as op
use Rattle.napi_types.specs.plain.Texts.{text_number, with_text}
use Rattle.napi_types.specs.scripts.Names.{call_name}
use Rattle.napi_types.specs.scripts.Registers.{operation_ask, blank_registers}
use Rattle.napi_types.specs.scripts.ScriptArguments.{◌>>=◌, whole, signed, flag, text_argument, register, register_or_none, short, entry_number, entry_or_none, text_or_none, mode_number, release_number, job_in, registers_in, register_list}

-- the name by which a script asks this
abbrev pub ask_name : Ask → List ℕ
ask_name (ask.Do c) = call_name c
ask_name (ask.Leave v) = codes "return"

-- the name of an operation: that of its call, and `return`
abbrev pub operation_name : Op → List ℕ
operation_name o = ask_name (operation_ask o blank_registers)

-- the operation of a name among some
unfoldable pub named : List ℕ → List Op → Option Op
named name ops = find (λ o. bytes_eq (operation_name o) name) ops

-- THE KINDS
-- each operation of an addon once, with any arguments
abbrev pub operations : List Op
operations = op.Exit ∷ op.GetUndefined 0 ∷ op.GetNull 0 ∷ op.GetGlobal 0 ∷ op.CreateObject 0 ∷ op.CreateArray 0 ∷ op.OpenHandleScope 0
    ∷ op.OpenEscapableHandleScope 0 ∷ op.IsExceptionPending 0 ∷ op.GetAndClearLastException 0 ∷ op.GetLastErrorInfo 0 ∷ op.GetInstanceData 0
    ∷ op.GetVersion 0 ∷ op.Collect 0 ∷ op.CloseHandleScope 0 ∷ op.CloseEscapableHandleScope 0 ∷ op.DeleteReference 0 ∷ op.Throw 0
    ∷ op.RemoveAsyncCleanupHook 0 ∷ op.CreatePromise 0 0 ∷ op.ResolveDeferred 0 0 ∷ op.RejectDeferred 0 0 ∷ op.IsPromise 0 0
    ∷ op.AddReaction 0 0 0 ∷ op.GetReactionValue 0 ∷ op.CreateArraybuffer 0 0 ∷ op.CreateExternalArraybuffer 0 0 0 0 0 ∷ op.IsArraybuffer 0 0
    ∷ op.IsDetachedArraybuffer 0 0 ∷ op.GetArraybufferInfo 0 0 ∷ op.DetachArraybuffer 0 ∷ op.CreateTypedarray 0 0 0 0 0 ∷ op.GetView 0 0 0
    ∷ op.SetView 0 0 0 ∷ op.DeleteAsyncWork 0
    ∷ op.CancelAsyncWork 0 ∷ op.QueueAsyncWork 0 ∷ op.AcquireThreadsafeFunction 0 ∷ op.RefThreadsafeFunction 0 ∷ op.UnrefThreadsafeFunction 0
    ∷ op.Return None ∷ op.Typeof 0 0 ∷ op.IsArray 0 0 ∷ op.IsError 0 0 ∷ op.GetValueInt64 0 0 ∷ op.GetValueBigintInt64 0 0 ∷ op.GetValueBool 0 0
    ∷ op.GetValueStringUtf8 0 0 ∷ op.GetValueExternal 0 0 ∷ op.GetArrayLength 0 0 ∷ op.GetPropertyNames 0 0 ∷ op.ReferenceRef 0 0 ∷ op.ReferenceUnref 0 0
    ∷ op.GetReferenceValue 0 0 ∷ op.Unwrap 0 0 ∷ op.RemoveWrap 0 0 ∷ op.GetThreadsafeFunctionContext 0 0 ∷ op.GetBoolean false 0 ∷ op.CreateInt64 (pos 0) 0
    ∷ op.CreateBigintInt64 (pos 0) 0 ∷ op.CreateSymbol None 0 ∷ op.AddEnvCleanupHook 0 0 ∷ op.RemoveEnvCleanupHook 0 0
    ∷ op.ReleaseThreadsafeFunction 0 release.Release ∷ op.StrictEquals 0 0 0 ∷ op.EscapeHandle 0 0 0 ∷ op.CreateFunction 0 0 0 ∷ op.CreateError None 0 0
    ∷ op.SetElement 0 0 0 ∷ op.GetElement 0 0 0 ∷ op.HasElement 0 0 0 ∷ op.CreateReference 0 0 0 ∷ op.TypeTagObject 0 0 0 ∷ op.SetInstanceData 0 None 0
    ∷ op.AddAsyncCleanupHook 0 0 0
    ∷ op.CallThreadsafeFunction 0 0 mode.Nonblocking ∷ op.CreateExternal 0 None 0 0 ∷ op.CheckObjectTypeTag 0 0 0 0
    ∷ op.CallFunction None 0 (register_list 0 0 0 0 0) 0 ∷ op.CreateAsyncWork (job.Sum 0) 0 0 0 ∷ op.Wrap 0 0 None 0 None ∷ op.AddFinalizer 0 0 0 0 None
    ∷ op.CreateThreadsafeFunction None None 0 0 None 0 0 ∷ op.CreateStringUtf8 (record { 0 = 0 }) 0 ∷ op.SetNamedProperty 0 (record { 0 = 0 }) 0
    ∷ op.GetNamedProperty 0 (record { 0 = 0 }) 0 ∷ op.HasNamedProperty 0 (record { 0 = 0 }) 0 ∷ op.DeleteProperty 0 (record { 0 = 0 }) 0
    ∷ op.ThrowError None (record { 0 = 0 }) ∷ []

-- THE TABLE
-- an operation of so many arguments, where each has its form
abbrev pub from_one : {A : Type 0} → (A → Op) → Option A → Option Op
from_one make o = option_map make o

abbrev pub from_two : {A B : Type 0} → (A → B → Op) → Option A → Option B → Option Op
from_two make o p = o >>= λ x. p >>= λ y. Some (make x y)

abbrev pub from_three : {A B C : Type 0} → (A → B → C → Op) → Option A → Option B → Option C → Option Op
from_three make o p q = o >>= λ x. p >>= λ y. q >>= λ z. Some (make x y z)

abbrev pub from_four : {A B C D : Type 0} → (A → B → C → D → Op) → Option A → Option B → Option C → Option D → Option Op
from_four make o p q r = o >>= λ x. p >>= λ y. q >>= λ z. r >>= λ v. Some (make x y z v)

abbrev pub from_five : {A B C D E : Type 0} → (A → B → C → D → E → Op) → Option A → Option B → Option C → Option D → Option E → Option Op
from_five make o p q r s = o >>= λ x. p >>= λ y. q >>= λ z. r >>= λ v. s >>= λ w. Some (make x y z v w)

abbrev pub from_seven : {A B C D E F G : Type 0} → (A → B → C → D → E → F → G → Op)
    → Option A → Option B → Option C → Option D → Option E → Option F → Option G → Option Op
from_seven make o p q r s t u = o >>= λ x. p >>= λ y. q >>= λ z. r >>= λ v. s >>= λ w. t >>= λ a. u >>= λ b. Some (make x y z v w a b)

-- a register
unfoldable pub with_register : Op → ℕ → Option Op
with_register (op.GetUndefined _) x = Some (op.GetUndefined x)
with_register (op.GetNull _) x = Some (op.GetNull x)
with_register (op.GetGlobal _) x = Some (op.GetGlobal x)
with_register (op.CreateObject _) x = Some (op.CreateObject x)
with_register (op.CreateArray _) x = Some (op.CreateArray x)
with_register (op.OpenHandleScope _) x = Some (op.OpenHandleScope x)
with_register (op.OpenEscapableHandleScope _) x = Some (op.OpenEscapableHandleScope x)
with_register (op.IsExceptionPending _) x = Some (op.IsExceptionPending x)
with_register (op.GetAndClearLastException _) x = Some (op.GetAndClearLastException x)
with_register (op.GetLastErrorInfo _) x = Some (op.GetLastErrorInfo x)
with_register (op.GetInstanceData _) x = Some (op.GetInstanceData x)
with_register (op.GetVersion _) x = Some (op.GetVersion x)
with_register (op.Collect _) x = Some (op.Collect x)
with_register (op.CloseHandleScope _) x = Some (op.CloseHandleScope x)
with_register (op.CloseEscapableHandleScope _) x = Some (op.CloseEscapableHandleScope x)
with_register (op.DeleteReference _) x = Some (op.DeleteReference x)
with_register (op.Throw _) x = Some (op.Throw x)
with_register (op.RemoveAsyncCleanupHook _) x = Some (op.RemoveAsyncCleanupHook x)
with_register (op.GetReactionValue _) x = Some (op.GetReactionValue x)
with_register (op.DetachArraybuffer _) x = Some (op.DetachArraybuffer x)
with_register (op.DeleteAsyncWork _) x = Some (op.DeleteAsyncWork x)
with_register (op.CancelAsyncWork _) x = Some (op.CancelAsyncWork x)
with_register (op.QueueAsyncWork _) x = Some (op.QueueAsyncWork x)
with_register (op.AcquireThreadsafeFunction _) x = Some (op.AcquireThreadsafeFunction x)
with_register (op.RefThreadsafeFunction _) x = Some (op.RefThreadsafeFunction x)
with_register (op.UnrefThreadsafeFunction _) x = Some (op.UnrefThreadsafeFunction x)
with_register _ x = None

-- one argument
unfoldable pub with_one_argument : Op → Data → Option Op
with_one_argument (op.Return _) a = from_one op.Return (register_or_none a)
with_one_argument kind a = register a >>= with_register kind

-- two registers
unfoldable pub with_two_registers : Op → ℕ → ℕ → Option Op
with_two_registers (op.Typeof _ _) x y = Some (op.Typeof x y)
with_two_registers (op.IsArray _ _) x y = Some (op.IsArray x y)
with_two_registers (op.IsError _ _) x y = Some (op.IsError x y)
with_two_registers (op.CreatePromise _ _) x y = Some (op.CreatePromise x y)
with_two_registers (op.ResolveDeferred _ _) x y = Some (op.ResolveDeferred x y)
with_two_registers (op.RejectDeferred _ _) x y = Some (op.RejectDeferred x y)
with_two_registers (op.IsPromise _ _) x y = Some (op.IsPromise x y)
with_two_registers (op.IsArraybuffer _ _) x y = Some (op.IsArraybuffer x y)
with_two_registers (op.IsDetachedArraybuffer _ _) x y = Some (op.IsDetachedArraybuffer x y)
with_two_registers (op.GetArraybufferInfo _ _) x y = Some (op.GetArraybufferInfo x y)
with_two_registers (op.GetValueInt64 _ _) x y = Some (op.GetValueInt64 x y)
with_two_registers (op.GetValueBigintInt64 _ _) x y = Some (op.GetValueBigintInt64 x y)
with_two_registers (op.GetValueBool _ _) x y = Some (op.GetValueBool x y)
with_two_registers (op.GetValueStringUtf8 _ _) x y = Some (op.GetValueStringUtf8 x y)
with_two_registers (op.GetValueExternal _ _) x y = Some (op.GetValueExternal x y)
with_two_registers (op.GetArrayLength _ _) x y = Some (op.GetArrayLength x y)
with_two_registers (op.GetPropertyNames _ _) x y = Some (op.GetPropertyNames x y)
with_two_registers (op.ReferenceRef _ _) x y = Some (op.ReferenceRef x y)
with_two_registers (op.ReferenceUnref _ _) x y = Some (op.ReferenceUnref x y)
with_two_registers (op.GetReferenceValue _ _) x y = Some (op.GetReferenceValue x y)
with_two_registers (op.Unwrap _ _) x y = Some (op.Unwrap x y)
with_two_registers (op.RemoveWrap _ _) x y = Some (op.RemoveWrap x y)
with_two_registers (op.GetThreadsafeFunctionContext _ _) x y = Some (op.GetThreadsafeFunctionContext x y)
with_two_registers _ x y = None

-- two arguments of which none is a text
unfoldable pub with_two_arguments : ℕ → Op → Data → Data → Option Op
with_two_arguments entries (op.GetBoolean _ _) a b = from_two op.GetBoolean (flag a) (register b)
with_two_arguments entries (op.CreateInt64 _ _) a b = from_two op.CreateInt64 (signed a) (register b)
with_two_arguments entries (op.CreateBigintInt64 _ _) a b = from_two op.CreateBigintInt64 (signed a) (register b)
with_two_arguments entries (op.CreateSymbol _ _) a b = from_two op.CreateSymbol (register_or_none a) (register b)
with_two_arguments entries (op.AddEnvCleanupHook _ _) a b = from_two op.AddEnvCleanupHook (entry_number entries a) (whole b)
with_two_arguments entries (op.RemoveEnvCleanupHook _ _) a b = from_two op.RemoveEnvCleanupHook (entry_number entries a) (whole b)
with_two_arguments entries (op.CreateArraybuffer _ _) a b = from_two op.CreateArraybuffer (whole a) (register b)
with_two_arguments entries (op.ReleaseThreadsafeFunction _ _) a b = from_two op.ReleaseThreadsafeFunction (register a) (release_number b)
with_two_arguments entries kind a b = do
  x ← register a
  y ← register b
  with_two_registers kind x y

-- three arguments of which none is a text
unfoldable pub with_three_arguments : ℕ → Op → Data → Data → Data → Option Op
with_three_arguments entries (op.StrictEquals _ _ _) a b c = from_three op.StrictEquals (register a) (register b) (register c)
with_three_arguments entries (op.EscapeHandle _ _ _) a b c = from_three op.EscapeHandle (register a) (register b) (register c)
with_three_arguments entries (op.CreateFunction _ _ _) a b c = from_three op.CreateFunction (entry_number entries a) (whole b) (register c)
with_three_arguments entries (op.CreateError _ _ _) a b c = from_three op.CreateError (register_or_none a) (register b) (register c)
with_three_arguments entries (op.SetElement _ _ _) a b c = from_three op.SetElement (register a) (whole b) (register c)
with_three_arguments entries (op.GetElement _ _ _) a b c = from_three op.GetElement (register a) (whole b) (register c)
with_three_arguments entries (op.HasElement _ _ _) a b c = from_three op.HasElement (register a) (whole b) (register c)
with_three_arguments entries (op.CreateReference _ _ _) a b c = from_three op.CreateReference (register a) (short b) (register c)
with_three_arguments entries (op.TypeTagObject _ _ _) a b c = from_three op.TypeTagObject (register a) (whole b) (whole c)
with_three_arguments entries (op.SetInstanceData _ _ _) a b c = from_three op.SetInstanceData (whole a) (entry_or_none entries b) (whole c)
with_three_arguments entries (op.AddAsyncCleanupHook _ _ _) a b c = from_three op.AddAsyncCleanupHook (entry_number entries a) (whole b) (register c)
with_three_arguments entries (op.AddReaction _ _ _) a b c = from_three op.AddReaction (register a) (entry_number entries b) (whole c)
with_three_arguments entries (op.GetView _ _ _) a b c = from_three op.GetView (register a) (whole b) (register c)
with_three_arguments entries (op.SetView _ _ _) a b c = from_three op.SetView (register a) (whole b) (whole c)
with_three_arguments entries (op.CallThreadsafeFunction _ _ _) a b c = from_three op.CallThreadsafeFunction (register a) (whole b) (mode_number c)
with_three_arguments entries _ a b c = None

-- four arguments
unfoldable pub with_four_arguments : ℕ → Op → Data → Data → Data → Data → Option Op
with_four_arguments entries (op.CreateExternal _ _ _ _) a b c d = from_four op.CreateExternal (whole a) (entry_or_none entries b) (whole c) (register d)
with_four_arguments entries (op.CheckObjectTypeTag _ _ _ _) a b c d = from_four op.CheckObjectTypeTag (register a) (whole b) (whole c) (register d)
with_four_arguments entries (op.CallFunction _ _ _ _) a b c d = from_four op.CallFunction (register_or_none a) (register b) (registers_in c) (register d)
with_four_arguments entries (op.CreateAsyncWork _ _ _ _) a b c d = from_four op.CreateAsyncWork (job_in a) (entry_number entries b) (whole c) (register d)
with_four_arguments entries _ a b c d = None

-- five arguments
unfoldable pub with_five_arguments : ℕ → Op → Data → Data → Data → Data → Data → Option Op
with_five_arguments entries (op.Wrap _ _ _ _ _) a b c d e = from_five op.Wrap (register a) (whole b) (entry_or_none entries c) (whole d) (register_or_none e)
with_five_arguments entries (op.AddFinalizer _ _ _ _ _) a b c d e =
    from_five op.AddFinalizer (register a) (whole b) (entry_number entries c) (whole d) (register_or_none e)
with_five_arguments entries (op.CreateExternalArraybuffer _ _ _ _ _) a b c d e =
    from_five op.CreateExternalArraybuffer (whole a) (whole b) (entry_number entries c) (whole d) (register e)
with_five_arguments entries (op.CreateTypedarray _ _ _ _ _) a b c d e =
    from_five op.CreateTypedarray (whole a) (register b) (whole c) (whole d) (register e)
with_five_arguments entries _ a b c d e = None

-- seven arguments
unfoldable pub with_seven_arguments : ℕ → Op → Data → Data → Data → Data → Data → Data → Data → Option Op
with_seven_arguments entries (op.CreateThreadsafeFunction _ _ _ _ _ _ _) a b c d e f g =
    from_seven op.CreateThreadsafeFunction (register_or_none a) (entry_or_none entries b) (short c) (short d) (entry_or_none entries e) (whole f) (register g)
with_seven_arguments entries _ a b c d e f g = None

-- no argument
unfoldable pub without_arguments : Op → Option Op
without_arguments op.Exit = Some op.Exit
without_arguments _ = None

-- five arguments or more
unfoldable pub with_more_arguments : ℕ → Op → Data → Data → Data → Data → Data → Items → Option Op
with_more_arguments entries kind a b c d e no_items = with_five_arguments entries kind a b c d e
with_more_arguments entries kind a b c d e (item f (item g no_items)) = with_seven_arguments entries kind a b c d e f g
with_more_arguments entries kind a b c d e _ = None

-- the operation of a kind with these arguments, where none of them is a text
unfoldable pub plain_operation : ℕ → Op → Items → Option Op
plain_operation entries kind no_items = without_arguments kind
plain_operation entries kind (item a no_items) = with_one_argument kind a
plain_operation entries kind (item a (item b no_items)) = with_two_arguments entries kind a b
plain_operation entries kind (item a (item b (item c no_items))) = with_three_arguments entries kind a b c
plain_operation entries kind (item a (item b (item c (item d no_items)))) = with_four_arguments entries kind a b c d
plain_operation entries kind (item a (item b (item c (item d (item e rest))))) = with_more_arguments entries kind a b c d e rest

-- TEXTS
-- an operation, with the table that its texts make
pub record NumberedOperation : Type 0 where
  pub operation : Op
  pub texts : List (List ℕ)

-- an operation with a table
abbrev pub numbered : List (List ℕ) → Op → NumberedOperation
numbered table o = record { operation = o; texts = table }

-- a string of a text
unfoldable pub with_string : List (List ℕ) → Data → Data → Option NumberedOperation
with_string table a b = do
  x ← text_argument a
  y ← register b
  Some (numbered (with_text table x) (op.CreateStringUtf8 (record { 0 = text_number table x }) y))

-- a register, the number of a text and a register
unfoldable pub with_object_and_name : Op → ℕ → TextNo → ℕ → Option Op
with_object_and_name (op.SetNamedProperty _ _ _) x y z = Some (op.SetNamedProperty x y z)
with_object_and_name (op.GetNamedProperty _ _ _) x y z = Some (op.GetNamedProperty x y z)
with_object_and_name (op.HasNamedProperty _ _ _) x y z = Some (op.HasNamedProperty x y z)
with_object_and_name (op.DeleteProperty _ _ _) x y z = Some (op.DeleteProperty x y z)
with_object_and_name _ x y z = None

-- a register, a text and a register
unfoldable pub with_name : List (List ℕ) → Op → Data → Data → Data → Option NumberedOperation
with_name table kind a b c = do
  x ← register a
  y ← text_argument b
  z ← register c
  option_map (numbered (with_text table y)) (with_object_and_name kind x (record { 0 = text_number table y }) z)

-- an error with a message whose text comes after the code's
unfoldable pub thrown : List (List ℕ) → Option TextNo → List ℕ → NumberedOperation
thrown table code message = numbered (with_text table message) (op.ThrowError code (record { 0 = text_number table message }))

-- an error with its code, or none, and its message
unfoldable pub thrown_with : List (List ℕ) → Option (List ℕ) → List ℕ → NumberedOperation
thrown_with table None message = thrown table None message
thrown_with table (Some code) message = thrown (with_text table code) (Some (record { 0 = text_number table code })) message

-- an error's code, which is a text or none, and its message
unfoldable pub with_error_texts : List (List ℕ) → Data → Data → Option NumberedOperation
with_error_texts table a b = do
  x ← text_or_none a
  y ← text_argument b
  Some (thrown_with table x y)

-- two arguments of which one is a text
unfoldable pub with_texts : List (List ℕ) → Op → Data → Data → Option NumberedOperation
with_texts table (op.CreateStringUtf8 _ _) a b = with_string table a b
with_texts table (op.ThrowError _ _) a b = with_error_texts table a b
with_texts table _ a b = None

-- the operation of a kind with these arguments, where one of them is a text
unfoldable pub text_operation : List (List ℕ) → Op → Items → Option NumberedOperation
text_operation table kind (item a (item b no_items)) = with_texts table kind a b
text_operation table kind (item a (item b (item c no_items))) = with_name table kind a b c
text_operation table kind _ = None

-- THE OPERATION
-- the operation of a kind with these arguments
unfoldable pub operation_of : ℕ → List (List ℕ) → Op → Items → Option NumberedOperation
operation_of entries table kind args = option_or (option_map (numbered table) (plain_operation entries kind args)) (text_operation table kind args)

-- the operation of a name with these arguments
unfoldable pub operation_named : ℕ → List (List ℕ) → List ℕ → Items → Option NumberedOperation
operation_named entries table name args = named name operations >>= λ kind. operation_of entries table kind args

-- the operation that a value is, in an addon with so many entries: an array of its name and its arguments
unfoldable pub operation_in : ℕ → List (List ℕ) → Data → Option NumberedOperation
operation_in entries table (array (item (string name) args)) = operation_named entries table name args
operation_in entries table _ = None

-- a thread's acquiring of a function, by the function's own number
unfoldable pub thread_acquire : List ℕ → Data → Option Op
thread_acquire name a = do
  x ← whole a
  named name (op.ThreadAcquire x ∷ [])

-- a thread's release of a function
unfoldable pub thread_release : List ℕ → Data → Data → Option Op
thread_release name a b = do
  x ← whole a
  y ← release_number b
  named name (op.ThreadRelease x y ∷ [])

-- a thread's call of a function
unfoldable pub thread_call : List ℕ → Data → Data → Data → Option Op
thread_call name a b c = do
  x ← whole a
  y ← whole b
  z ← mode_number c
  named name (op.ThreadCall x y z ∷ [])

-- the operation of a thread of this name with these arguments
unfoldable pub thread_operation_named : List ℕ → Items → Option Op
thread_operation_named name (item a no_items) = thread_acquire name a
thread_operation_named name (item a (item b no_items)) = thread_release name a b
thread_operation_named name (item a (item b (item c no_items))) = thread_call name a b c
thread_operation_named name _ = None

-- the operation of a thread that a value is: an array of its name and its arguments
unfoldable pub thread_operation : Data → Option Op
thread_operation (array (item (string name) args)) = thread_operation_named name args
thread_operation _ = None
