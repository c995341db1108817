-- A law of what a command and the bytes of the source come to.
use Rattle.std.specs.Prelude.{ℕ, List, ◌⊎◌}
use Rattle.outside.specs.declared.commands.Command.{Command}
use Rattle.outside.specs.declared.scripts.Demand.{Demand}
use Rattle.script_host.specs.Host.{IsTooLong, IsRefused, IsRunnable}

-- whatever is demanded and asked for, the bytes are too long, or the command is refused or can be run with them, and none is refused that can be run
pub record CommandsAreOfOneKind : Type 0 where
  pub some : (d : Demand) (c : Command) (bytes : List ℕ) (handed : ℕ) → IsTooLong c bytes ⊎ (IsRefused d c bytes handed ⊎ IsRunnable d c bytes handed)
  pub one : (d : Demand) (c : Command) (bytes : List ℕ) (handed : ℕ) → IsRefused d c bytes handed → IsRunnable d c bytes handed → ⊥
