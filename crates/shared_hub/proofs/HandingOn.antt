-- What a hub's state is made of may be handed to another thread.
use denote.RattleType.{RattleType}
use denote.Param.Send.{IsSend, sendable, struct_send, recorded_send, view_send}
use denote.Struct.Declared.{shape}
use Rattle.std.proofs.Crossing.{crosses, Vec-send}
use Rattle.std.specs.contracts.alloc.Global as heap
use Rattle.std.specs.contracts.impls.GlobalAllocator.TheImpl.{ghosts}
use Rattle.std.specs.contracts.vec.Vec as vec
use Rattle.napi_types.specs.contracts.entry.Entry as entry
use Rattle.napi_types.proofs.call.JobSpec.TheSendSync as spec_sent
use Rattle.napi_types.proofs.duties.DueInfo.TheSendSync as info_sent
use Rattle.napi_types.proofs.duties.Lines.TheLaws.TheKnot.{send-Lines}
use Rattle.napi_types.proofs.entry.Entry.TheSendSync as entry_sent
use Rattle.napi_types.proofs.entry.TsfnState.TheSendSync as state_sent
use Rattle.async_work.specs.contracts.pool.Pool as pool
use Rattle.async_work.specs.declared.job.Job as job
use Rattle.tsfn.proofs.function.TsfnNew.TheSendSync as about_sent
use Rattle.tsfn.specs.contracts.functions.Functions as functions
use Rattle.shared_hub.specs.contracts.hub.HubState as state
use Rattle.shared_hub.specs.contracts.hub.HubState.TheInside as inside
use Rattle.shared_hub.specs.contracts.parts.SharedParts as parts
use Rattle.shared_hub.specs.contracts.parts.SharedParts.TheInside as parts_inside
use Rattle.shared_hub.specs.declared.naming.Naming as naming

-- the entries
pub entries-send : IsSend (vec.the_row entry.the_row heap.the_row ghosts)
entries-send = Vec-send entry.the_row entry_sent.the_send

-- the works
pub pool-send : (J : RattleType) (spec : job.Ghosts J.Denot) → IsSend J → IsSend (pool.the_row J spec)
pool-send J spec j = search (sendable, crosses, send-Lines, info_sent.the_field_send, spec_sent.the_field_send) depth 40

-- the functions
pub functions-send : IsSend functions.the_row
functions-send = search (sendable, crosses, send-Lines, info_sent.the_field_send, state_sent.the_field_send, about_sent.the_field_send) depth 40

-- the state, whose jobs may
pub state-send : (J N : RattleType) (spec : job.Ghosts J.Denot) (n : naming.Ghosts N.Denot) → IsSend J → IsSend N → IsSend (state.the_row J N spec n)
state-send J N spec n j k =
    let both : IsSend (parts.the_row J spec) =
    view_send _ _ _ _ _ (recorded_send _ _ _ (parts_inside.the_type J spec).to_one
    (struct_send (shape (parts_inside.the_type J spec)) (pool-send J spec j, (functions-send, tt)))) in
    let fields : IsSend (inside.the_row J N spec n) =
    recorded_send _ _ _ (inside.the_type J N spec n).to_one
    (struct_send (shape (inside.the_type J N spec n))
    (entries-send, (search sendable depth 40, (both, (search sendable depth 40, (search sendable depth 40, (search sendable depth 40, tt))))))) in
    view_send _ _ _ _ _ fields
