-- What a test knows of passes at the hub, and of the environment's turns there.
use Rattle.std.specs.Prelude.{◌≡◌, ℕ, ◌+◌, ◌<◌, ◌≤◌, false, []}
use Rattle.turn_lock.specs.Passes.{TurnState, PassState}
use Rattle.turn_lock.specs.Rows.{GoesOn}
use Rattle.shared_hub.specs.declared.naming.Numbers.{Numbers}
use Rattle.shared_hub.specs.HubRows.{rows_of}
use Rattle.shared_hub.specs.HubStates.{HubSeen}

-- a thread's or a worker's, which has taken no turn, where there are so many threads
abbrev pub MayEnter : Numbers → ℕ → TurnState → PassState → Type 0
MayEnter n threads t p =
    (p.lock ≡ t.lock) × (p.holds ≡ false) × (p.own ≡ []) × (0 < p.number) × (p.number ≤ n.threads + n.workers) × (threads ≡ n.threads)

-- the environment's, which may take the turn
abbrev pub IsFirstPass : TurnState → PassState → Type 0
IsFirstPass t p = (p.lock ≡ t.lock) × (p.holds ≡ false) × (p.number ≡ 0)

-- the environment alone added entries
abbrev pub IsByEnvironment : ℕ → HubSeen → HubSeen → Type 0
IsByEnvironment threads old new = GoesOn 0 (rows_of threads old.history) (rows_of threads new.history)
