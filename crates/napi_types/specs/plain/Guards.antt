-- Which calls are guarded, which register something that the environment has to do later, and which are shared.
use Rattle.std.specs.Prelude.{Bool, true, false}
use Rattle.napi_types.specs.declared.call.Call.{Call}
use Rattle.napi_types.specs.declared.call.CallGroup.{CallGroup}
use Rattle.napi_types.specs.declared.call.CallGroup.TheVariants.{OnWorks, OnTsfns}
use Rattle.napi_types.specs.plain.CallFacts.{facts_of, group_of}

-- a call that could run code of the runtime, and is refused while an exception is pending and in the teardown
abbrev pub is_guarded : Call → Bool
is_guarded c = (facts_of c).guarded

-- a call that registers a finalizer, a hook, a work, a thread-safe function or an item of one, and is refused in the teardown; where a finalizer may be
-- left out, only with one
abbrev pub is_registering : Call → Bool
is_registering c = (facts_of c).registers

-- the groups of the calls on works and on thread-safe functions, whose entries stand in the history
abbrev pub is_shared_group : CallGroup → Bool
is_shared_group OnWorks = true
is_shared_group OnTsfns = true
is_shared_group _ = false

-- a call of one of them
abbrev pub is_shared : Call → Bool
is_shared c = is_shared_group (group_of c)

-- a call that takes memory beside that of its places in the list of its entry. Such is one whose result is a newly issued number, `escape_handle` excepted,
-- whose place was kept when the scope opened, and one that registers, `queue_async_work` excepted. So are those that set a property or an element, wrap or tag,
-- or make an error, and a collection
abbrev pub is_growing : Call → Bool
is_growing c = (facts_of c).grows
