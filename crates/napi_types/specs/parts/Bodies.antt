-- What a value is, beside its properties and elements, and what a call may expect of it.
use Rattle.std.specs.Prelude.{◌≡◌, ℕ, ◌==◌, ℤ, pos, int_le, Bool, true, false, not, ◌&&◌, Option, None, option_map}
use Rattle.napi_types.specs.declared.body.Body.{Body}
use Rattle.napi_types.specs.declared.ids.TextNo.{TextNo}
use Rattle.napi_types.specs.declared.status.Kind.{Kind}
use Rattle.napi_types.specs.declared.body.Body.TheVariants as body
use Rattle.napi_types.specs.declared.status.Kind.TheVariants as kind

-- the kind that `typeof` tells; an array is an object
abbrev pub kind_of : Body → Kind
kind_of body.Undefined = kind.Undefined
kind_of body.Null = kind.Null
kind_of (body.Boolean b) = kind.Boolean
kind_of (body.Number n) = kind.Number
kind_of (body.Bigint n) = kind.Bigint
kind_of (body.Str t) = kind.String
kind_of (body.Symbol t) = kind.Symbol
kind_of (body.Object array error) = kind.Object
kind_of (body.Function addon entry payload) = kind.Function
kind_of (body.External payload) = kind.External
kind_of (body.Linked tag to) = kind.Object

-- objects and functions have properties and elements; an array, an error and a linked value are objects
abbrev pub is_object_like : Body → Bool
is_object_like (body.Object array error) = true
is_object_like (body.Function addon entry payload) = true
is_object_like (body.Linked tag to) = true
is_object_like _ = false

-- the values that a call may expect
abbrev pub is_string : Body → Bool
is_string (body.Str t) = true
is_string _ = false

abbrev pub is_number : Body → Bool
is_number (body.Number n) = true
is_number _ = false

abbrev pub is_bigint : Body → Bool
is_bigint (body.Bigint n) = true
is_bigint _ = false

abbrev pub is_boolean : Body → Bool
is_boolean (body.Boolean b) = true
is_boolean _ = false

abbrev pub is_array : Body → Bool
is_array (body.Object array error) = array
is_array _ = false

abbrev pub is_function : Body → Bool
is_function (body.Function addon entry payload) = true
is_function _ = false

abbrev pub is_external : Body → Bool
is_external (body.External payload) = true
is_external _ = false

-- a linked value has at most one hidden child
abbrev pub is_linked : Body → Bool
is_linked (body.Linked tag to) = true
is_linked _ = false

-- a promise is a linked value with the tag 1, whose child is the value that settled it
abbrev pub promise_tag : ℕ
promise_tag = 1

abbrev pub is_promise_body : Body → Bool
is_promise_body (body.Linked tag to) = tag == promise_tag
is_promise_body _ = false

-- a buffer is a linked value with the tag 3 and no child, and a view one with the tag 2, whose child is its buffer
abbrev pub buffer_tag : ℕ
buffer_tag = 3

abbrev pub view_tag : ℕ
view_tag = 2

-- the child that a body names, by its number: that of a value that is to be made. The body of a value that is there names none, its child stands beside the body
abbrev pub child_of : Body → Option ℕ
child_of (body.Linked tag to) = option_map (λ v. v.0) to
child_of _ = None

abbrev pub NamesNoChild : Body → Type 0
NamesNoChild b = child_of b ≡ None

-- the body that names no child
abbrev pub without_child : Body → Body
without_child (body.Linked tag to) = body.Linked tag None
without_child b = b

-- what a reference may be to
abbrev pub is_referable : Body → Bool
is_referable (body.Object array error) = true
is_referable (body.Function addon entry payload) = true
is_referable (body.Linked tag to) = true
is_referable (body.External payload) = true
is_referable (body.Symbol t) = true
is_referable _ = false

-- what a type tag may be on
abbrev pub is_taggable : Body → Bool
is_taggable (body.Object array error) = true
is_taggable (body.Function addon entry payload) = true
is_taggable (body.Linked tag to) = true
is_taggable (body.External payload) = true
is_taggable _ = false

-- the addon and the entry that a function runs, and its payload; a value of another kind is refused before it is read so
abbrev pub function_addon : Body → ℕ
function_addon (body.Function addon entry payload) = addon
function_addon _ = 0

abbrev pub function_entry : Body → ℕ
function_entry (body.Function addon entry payload) = entry
function_entry _ = 0

abbrev pub function_payload : Body → ℕ
function_payload (body.Function addon entry payload) = payload
function_payload _ = 0

-- the payload of an external; a value of another kind is refused before it is read so
abbrev pub external_payload : Body → ℕ
external_payload (body.External payload) = payload
external_payload _ = 0

-- an error is an object that was created as one, whatever its properties are
abbrev pub is_error_body : Body → Bool
is_error_body (body.Object array error) = error
is_error_body _ = false

-- the number that a number or a bigint is, the flag that a boolean is, the text that a string is; a value of another kind is refused before it is read so
abbrev pub signed_of : Body → ℤ
signed_of (body.Number n) = n
signed_of (body.Bigint n) = n
signed_of _ = pos 0

abbrev pub flag_of : Body → Bool
flag_of (body.Boolean b) = b
flag_of _ = false

abbrev pub text_of : Body → TextNo
text_of (body.Str t) = t
text_of _ = record { 0 = 0 }

-- two signed numbers, and two flags, are the same
abbrev pub same_signed : ℤ → ℤ → Bool
same_signed a b = int_le a b && int_le b a

abbrev pub same_flag : Bool → Bool → Bool
same_flag true b = b
same_flag false b = not b

-- strict equality (`===`) of two values, each told by what it is and its number: numbers, bigints, booleans and strings by content, and all else by identity.
-- Equal texts have equal numbers. Undefined and null are one value each
abbrev pub strictly_equal : Body → ℕ → Body → ℕ → Bool
strictly_equal (body.Number a) m (body.Number b) n = same_signed a b
strictly_equal (body.Bigint a) m (body.Bigint b) n = same_signed a b
strictly_equal (body.Boolean a) m (body.Boolean b) n = same_flag a b
strictly_equal (body.Str a) m (body.Str b) n = a.0 == b.0
strictly_equal _ m _ n = m == n
