-- The hub's step at an event of the environment: a great event, the begin and the end of a duty's frame, and a function that closes or finishes.
use Rattle.std.specs.Prelude.{Bool, true, false, ◌&&◌, length, map, Option, Some, None, is_some, is_none}
use Rattle.std.specs.Option.{unwrap_or}
use Rattle.napi_types.specs.declared.duties.DueInfo.{DueInfo}
use Rattle.napi_types.specs.declared.entry.Entry.{Entry}
use Rattle.napi_types.specs.declared.entry.HostStep.{HostStep}
use Rattle.napi_types.specs.declared.entry.HostStep.TheVariants as host
use Rattle.napi_types.specs.declared.entry.Out.{Out}
use Rattle.napi_types.specs.declared.entry.Out.TheVariants as out
use Rattle.napi_types.specs.plain.Entries.{host_told, host_entry}
use Rattle.napi_types.specs.parts.Frames.{begin_told, frame_of_duty}
use Rattle.napi_types.specs.parts.Functions.{closed, finished}
use Rattle.napi_types.specs.parts.Pool.{drained}
use Rattle.napi_types.specs.hub.Hub.{Hub, Stage, Live, LoopEnded, HooksAbandoned, Drained, stage_after}
use Rattle.napi_types.specs.hub.HubMoves.{HubMove, Delivers, Closes, Finishes, hub_move, in_tsfn, is_quiet, with_delivered}
use Rattle.napi_types.specs.hub.HubStep.{HubStep, no_hub_step}

-- the hub at the stage of one of its great events, where that may come
abbrev pub staged : HostStep → Hub → Hub
staged event h = record h { stage = unwrap_or (stage_after h.stage event) h.stage }

-- a great event, with this result; what else it leaves of the hub is named
abbrev pub great_step : Hub → HostStep → Out → Hub → HubStep
great_step h event o left = record { entry = host_entry event o; after = staged event left; may = is_some (stage_after h.stage event) && is_none h.standing }

-- the loop ends for this reason
abbrev pub loop_end_step : Hub → Entry → Out → HubStep
loop_end_step h x (out.Ended w) = great_step h host.LoopEnd (out.Ended w) h
loop_end_step h x o = no_hub_step h x

-- nothing moves, and nobody is left who could give the hub something to do
abbrev pub is_still : Hub → Bool
is_still h = is_none (hub_move h) && is_quiet h

-- the hooks that wait are abandoned, so many, where the hub is still
abbrev pub abandon_step : Hub → Entry → Out → HubStep
abandon_step h x (out.Unsigned n) = record (great_step h host.Abandon (out.Unsigned n) h) { may = (great_step h host.Abandon (out.Unsigned n) h).may && is_still h }
abandon_step h x o = no_hub_step h x

-- the drain: no work starts any more, those that wait are cancelled, and every open function begins to close
abbrev pub drained_hub : Hub → Hub
drained_hub h = record h { pool = drained h.pool; functions = map closed h.functions }

-- after `go` and before `finals` the hub makes its moves, where no frame of its own stands
abbrev pub is_moving : Stage → Bool
is_moving Live = true
is_moving LoopEnded = true
is_moving HooksAbandoned = true
is_moving Drained = true
is_moving _ = false

abbrev pub may_move : Hub → Bool
may_move h = is_moving h.stage && is_none h.standing

-- the begin of a duty's frame has the duty's status, which tells whether a work was cancelled
abbrev pub delivery_entry : DueInfo → Entry
delivery_entry d = host_told host.Begin d.status (begin_told (frame_of_duty d))

abbrev pub begin_step : Hub → Entry → Option HubMove → HubStep
begin_step h x (Some (Delivers d)) = record { entry = delivery_entry d; after = with_delivered d h; may = may_move h }
begin_step h x _ = no_hub_step h x

-- a function begins to close, and one finishes
abbrev pub close_step : Hub → Entry → Option HubMove → HubStep
close_step h x (Some (Closes n)) = record {
  entry = host_entry host.CloseTsfn (out.Function (record { 0 = n }));
  after = in_tsfn n closed h;
  may = may_move h;
}
close_step h x _ = no_hub_step h x

abbrev pub finish_step : Hub → Entry → Option HubMove → HubStep
finish_step h x (Some (Finishes n)) = record {
  entry = host_entry host.FinishTsfn (out.Function (record { 0 = n }));
  after = in_tsfn n finished h;
  may = may_move h;
}
finish_step h x _ = no_hub_step h x

-- how the frame of a duty ends
abbrev pub is_frame_end : Out → Bool
is_frame_end out.Nothing = true
is_frame_end out.Uncaught = true
is_frame_end (out.Cut w) = true
is_frame_end _ = false

-- the frame of the hub's duty ends, where one stands
abbrev pub frame_end_step : Hub → Entry → Option DueInfo → HubStep
frame_end_step h x None = no_hub_step h x
frame_end_step h x (Some d) = record { entry = host_entry host.End x.reply.out; after = record h { standing = None }; may = is_frame_end x.reply.out }

abbrev pub environment_event : Hub → Entry → HostStep → HubStep
environment_event h x host.Go = great_step h host.Go out.Nothing h
environment_event h x host.LoopEnd = loop_end_step h x x.reply.out
environment_event h x host.Abandon = abandon_step h x x.reply.out
environment_event h x host.Drain = great_step h host.Drain (out.Unsigned (length h.pool.queued)) (drained_hub h)
environment_event h x host.Finals = great_step h host.Finals out.Nothing h
environment_event h x host.Begin = begin_step h x (hub_move h)
environment_event h x host.CloseTsfn = close_step h x (hub_move h)
environment_event h x host.FinishTsfn = finish_step h x (hub_move h)
environment_event h x host.End = frame_end_step h x h.standing
environment_event h x _ = no_hub_step h x
