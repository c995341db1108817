use mathlib.Core.List.{[], ◌∷◌}
use mir.Syntax.{Sym, Lifetime}
use base.Fml.{Lft}
use denote.RattleType.{RattleType}
use denote.Ref.{ShrRef}
use denote.Struct.Declared.{shape}
use denote.Struct.Tuple.{TupleAt, type_at}
use denote.Param.Send.{IsSend, sendable, param_send, arg_send, struct_send, recorded_send, shr_send}
use Rattle.std.proofs.Crossing.{crosses}
use Rattle.std.specs.contracts.sync.atomic.AtomicU64 as atomic
use Rattle.hub_lock.proofs.SharedHubs.{hub_sync}
use Rattle.runner.specs.contracts.unstarted.Unstarted as unstarted
use Rattle.runner.proofs.unstarted.Unstarted.TheSendSync as waiting_sent
use Rattle.runner.proofs.start.start_one.Goals as goal

-- a closure over five things that may go to another thread
five_send : (ν : Sym) (A B C D E : RattleType) → IsSend A → IsSend B → IsSend C → IsSend D → IsSend E → IsSend (TupleAt ν (A ∷ B ∷ C ∷ D ∷ E ∷ []))
five_send ν A B C D E a b c d e =
    let T = type_at ν (A ∷ B ∷ C ∷ D ∷ E ∷ []) in recorded_send _ _ _ T.to_one (struct_send (shape T) (a, (b, (c, (d, (e, tt))))))

waiting_send : IsSend unstarted.the_row
waiting_send = search (sendable, waiting_sent.the_send)

word_send : (ℓ : Lifetime) (κ : Lft) → IsSend (ShrRef ℓ κ atomic.the_row)
word_send ℓ κ = search (sendable, crosses)

pub spawn_with-requires-send-F : goal.spawn_with-requires-send-F
spawn_with-requires-send-F g c = λ κs out.
    let hub = hub_sync _ _ g.J.Job g.N.Naming c.type_bounds.send-J c.type_bounds.send-N in
    search (param_send, arg_send, five_send, shr_send, waiting_send, word_send, hub, c.type_bounds.sync-R, c.type_bounds.sync-G) depth 20
