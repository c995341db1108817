-- The versions of Node-API, and the numbers of statuses and value kinds. The manual gives all but 1000 and 1001, which are this project's own.
use Rattle.std.specs.Prelude.{ℕ, Bool, ◌&&◌, nat_le}
use Rattle.napi_types.specs.declared.status.Status.{Status}
use Rattle.napi_types.specs.declared.status.Status.TheVariants as status
use Rattle.napi_types.specs.declared.status.Kind.{Kind}
use Rattle.napi_types.specs.declared.status.Kind.TheVariants as kind

-- the lowest version that a script may ask for (the manual's `NAPI_VERSION`), and the highest, which `get_version` tells whatever the script asked for
abbrev pub lowest_version : ℕ
lowest_version = 9

abbrev pub highest_version : ℕ
highest_version = 10

-- whether a script may ask for a version
abbrev pub is_supported : ℕ → Bool
is_supported version = nat_le lowest_version version && nat_le version highest_version

-- whether what version 10 changed holds at a version
abbrev pub is_ten_or_later : ℕ → Bool
is_ten_or_later version = nat_le 10 version

-- a status's number: the manual's `napi_status`
abbrev pub status_number : Status → ℕ
status_number status.Ok = 0
status_number status.InvalidArg = 1
status_number status.ObjectExpected = 2
status_number status.StringExpected = 3
status_number status.NameExpected = 4
status_number status.FunctionExpected = 5
status_number status.NumberExpected = 6
status_number status.BooleanExpected = 7
status_number status.ArrayExpected = 8
status_number status.GenericFailure = 9
status_number status.PendingException = 10
status_number status.Cancelled = 11
status_number status.EscapeCalledTwice = 12
status_number status.HandleScopeMismatch = 13
status_number status.CallbackScopeMismatch = 14
status_number status.QueueFull = 15
status_number status.Closing = 16
status_number status.BigintExpected = 17
status_number status.DateExpected = 18
status_number status.ArraybufferExpected = 19
status_number status.DetachableArraybufferExpected = 20
status_number status.WouldDeadlock = 21
status_number status.NoExternalBuffersAllowed = 22
status_number status.CannotRunJs = 23
status_number status.NoMemory = 1000
status_number status.TraceFull = 1001

-- a value kind's number: the manual's `napi_valuetype`
abbrev pub kind_number : Kind → ℕ
kind_number kind.Undefined = 0
kind_number kind.Null = 1
kind_number kind.Boolean = 2
kind_number kind.Number = 3
kind_number kind.String = 4
kind_number kind.Symbol = 5
kind_number kind.Object = 6
kind_number kind.Function = 7
kind_number kind.External = 8
kind_number kind.Bigint = 9
