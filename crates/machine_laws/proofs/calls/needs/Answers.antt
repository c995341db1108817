use Rattle.std.proofs.Common.{Some, None, refl}
use Rattle.napi_types.specs.declared.call.Call.TheVariants as call
use Rattle.machine_laws.specs.CallLaws.{EachDutyHasPlaces, RegisteringCallsGrow}
use Rattle.machine_laws.proofs.calls.needs.Goals as goal

places : EachDutyHasPlaces
places (call.CreateExternal payload None hint) local = refl
places (call.CreateExternal payload (Some entry) hint) local = refl
places (call.Wrap object payload None hint ref) local = refl
places (call.Wrap object payload (Some entry) hint ref) local = refl
places (call.SetInstanceData payload None hint) local = refl
places (call.SetInstanceData payload (Some entry) hint) local = refl
places (call.CreateAsyncWork job entry payload) local = cc
places (call.QueueAsyncWork w) local = cc
places (call.CreateThreadsafeFunction f entry most initial finalizer context) local = cc
places (call.CallThreadsafeFunction f payload mode) local = cc
places _ local = refl

grows : RegisteringCallsGrow
grows (call.CreateExternal payload finalizer hint) registers = refl
grows (call.Wrap object payload finalizer hint ref) registers = refl
grows (call.AddFinalizer object payload finalizer hint ref) registers = refl
grows (call.SetInstanceData payload finalizer hint) registers = registers
grows (call.AddEnvCleanupHook entry arg) registers = refl
grows (call.AddAsyncCleanupHook entry argument) registers = refl
grows (call.AddReaction h entry payload) registers = refl
grows (call.CreateExternalArraybuffer size payload entry hint) registers = refl
grows (call.CreateAsyncWork job entry payload) registers = refl
grows (call.QueueAsyncWork w) registers = refl
grows (call.CreateThreadsafeFunction f entry most initial finalizer context) registers = refl
grows (call.CallThreadsafeFunction f payload mode) registers = refl
grows _ registers = cc

pub returns-clause-places : goal.returns-clause-places
returns-clause-places c = places

pub returns-clause-memory : goal.returns-clause-memory
returns-clause-memory c = grows
