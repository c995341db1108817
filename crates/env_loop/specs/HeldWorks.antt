-- What a worker has in its hands, as its fields have it.
use Rattle.std.specs.Prelude.{◌≡◌, Bool, true}
use Rattle.env_loop.specs.ActorRuns.{HeldWork, NoWork, Started, Executed}
use Rattle.env_loop.specs.declared.actor.worker.Hands.{Hands}
use Rattle.env_loop.specs.declared.actor.worker.Hands.TheVariants as hands

module _ {J : Type 0} where
  abbrev pub held_in : Hands J → HeldWork
  held_in hands.Empty = NoWork
  held_in (hands.Started running) = Started running
  held_in (hands.Executed ran) = Executed ran

-- one that has ended holds nothing
abbrev pub IsWorkerRun : HeldWork → Bool → Type 0
IsWorkerRun held over = over ≡ true → held ≡ NoWork
