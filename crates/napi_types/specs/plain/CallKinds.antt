-- Calls of one kind: those that give or create a value, those that tell what one is, those on values, `exit`, and the call of a function.
use Rattle.std.specs.Prelude.{Bool, true, false}
use Rattle.napi_types.specs.declared.call.Call.{Call}
use Rattle.napi_types.specs.declared.call.Call.TheVariants as call
use Rattle.napi_types.specs.declared.call.CallGroup.{CallGroup}
use Rattle.napi_types.specs.declared.call.CallGroup.TheVariants.{OnValues, OnProperties, OnFunctions, OnEntering}
use Rattle.napi_types.specs.plain.CallFacts.{group_of}

-- the calls on values that give a handle of a starting value, or create a value
abbrev pub is_creating : Call → Bool
is_creating call.GetUndefined = true
is_creating call.GetNull = true
is_creating call.GetGlobal = true
is_creating (call.GetBoolean _) = true
is_creating (call.CreateInt64 _) = true
is_creating (call.CreateBigintInt64 _) = true
is_creating (call.CreateStringUtf8 _) = true
is_creating (call.CreateSymbol _) = true
is_creating call.CreateObject = true
is_creating call.CreateArray = true
is_creating (call.CreateFunction _ _) = true
is_creating (call.CreateError _ _) = true
is_creating _ = false

-- the calls that tell what one value is
abbrev pub is_telling : Call → Bool
is_telling (call.Typeof _) = true
is_telling (call.IsArray _) = true
is_telling (call.IsError _) = true
is_telling (call.GetValueInt64 _) = true
is_telling (call.GetValueBigintInt64 _) = true
is_telling (call.GetValueBool _) = true
is_telling (call.GetValueStringUtf8 _) = true
is_telling (call.GetValueExternal _) = true
is_telling (call.IsPromise _) = true
is_telling _ = false

-- the groups of which values and the handles to them tell all: the calls on values, on properties and elements, and the one that makes a function
abbrev pub is_value_group : CallGroup → Bool
is_value_group OnValues = true
is_value_group OnProperties = true
is_value_group OnFunctions = true
is_value_group _ = false

-- a call of one of them
abbrev pub is_value_call : Call → Bool
is_value_call c = is_value_group (group_of c)

-- the call that asks that the loop ends
abbrev pub is_exiting : Call → Bool
is_exiting call.Exit = true
is_exiting _ = false

-- the group of the call of a function, which enters a frame
abbrev pub is_entering_group : CallGroup → Bool
is_entering_group OnEntering = true
is_entering_group _ = false

-- the call of a function
abbrev pub is_calling : Call → Bool
is_calling c = is_entering_group (group_of c)
