use denote.Exit.{yes}
use denote.Param.Send.{param_send, arg_send}
use Rattle.shared_hub.proofs.HandingOn.{state-send}
use Rattle.shared_hub.proofs.sending.hand_state.Goals as goal

pub handed-requires-send-T : goal.handed-requires-send-T
handed-requires-send-T g c = λ κs out. param_send 0 _ (arg_send _ yes _ (state-send _ _ g.J.Job g.N.Naming c.type_bounds.send-J c.type_bounds.send-N))
