-- A script that the source gave is one that the words ask for.
use Rattle.std.proofs.Common.{◌≡◌, ℕ, List, Some, sym, subst, ◌⊎◌, inl, inr}
use Rattle.napi_types.specs.declared.script.Script.{Script}
use Rattle.outside.specs.Ends.{Input}
use Rattle.outside.specs.Given.{GaveDemanded}
use Rattle.outside.specs.Words.{command_of}
use Rattle.outside.specs.declared.commands.Command.{Command}
use Rattle.outside.specs.declared.commands.Command.TheVariants as command
use Rattle.outside.specs.declared.scripts.Demand.{Demand}
use Rattle.script_host.specs.Host.{IsChosen, IsScriptOf}
use Rattle.script_host.proofs.SmallActors.{small-given}

module _ (d : Demand) (words : List (List ℕ)) (input : Input) (handed : ℕ) where
  -- with each of the two commands that read it
  pub chosen-given : (c : Command) (s : Script) → command_of words ≡ Some c → (c ≡ command.Run) ⊎ (c ≡ command.Summary) → GaveDemanded d input handed s
      → IsChosen d words input handed c s
  chosen-given c s asked which g =
      record { asked = asked; of = by which; small = small-given d input handed s g; enough = g.enough; met = g.met }
    where
      by : (c ≡ command.Run) ⊎ (c ≡ command.Summary) → IsScriptOf c input s
      by (inl run) = subst (λ (x : Command). IsScriptOf x input s) (sym run) g.gave
      by (inr summary) = subst (λ (x : Command). IsScriptOf x input s) (sym summary) g.gave
