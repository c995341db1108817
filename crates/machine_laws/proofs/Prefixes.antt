-- Each prefix of a run is a run.
use Rattle.std.proofs.Common.{◌≡◌, ℕ, zero, suc, List, [], ◌∷◌, take, refl, ap, ◌∙◌}
use Rattle.napi_types.specs.declared.call.Ask.{Ask}
use Rattle.napi_types.specs.declared.entry.Entry.{Entry}
use Rattle.machine_laws.specs.RunLaws.{PrefixesAreRuns}
use Rattle.napi_types.specs.scripts.Plans.{Plan, Registers, loaded_registers}
use Rattle.napi_types.specs.runs.Machine.{Machine}
use Rattle.napi_types.specs.runs.Plan.{asked, asked_along, registers_after}
use Rattle.napi_types.specs.runs.Run.{IsRunBy, after}
use Rattle.napi_types.specs.runs.Setting.{opening_of}

pub steps-prefix : (m : Machine) (bs : List Ask) (xs : List Entry) (n : ℕ) → IsRunBy m bs xs → IsRunBy m (take n bs) (take n xs)
steps-prefix m bs xs zero r = tt
steps-prefix m (a ∷ bs) (x ∷ xs) (suc n) r = (r.0, steps-prefix (after m a x) bs xs n r.1)
steps-prefix m [] [] (suc n) r = tt
steps-prefix m [] (x ∷ xs) (suc n) r = absurd r
steps-prefix m (a ∷ bs) [] (suc n) r = absurd r

asked-prefix : (ps : List Plan) (rss : Registers) (m : Machine) (bs : List Ask) (xs : List Entry) (n : ℕ)
    → take n (asked_along ps rss m bs xs) ≡ asked_along ps rss m (take n bs) (take n xs)
asked-prefix ps rss m bs xs zero = refl
asked-prefix ps rss m (a ∷ bs) (x ∷ xs) (suc n) = ap (λ l. asked ps rss m a x.actor ∷ l) (asked-prefix ps (registers_after ps rss m a x) (after m a x) bs xs n)
asked-prefix ps rss m [] [] (suc n) = refl
asked-prefix ps rss m [] (x ∷ xs) (suc n) = refl
asked-prefix ps rss m (a ∷ bs) [] (suc n) = refl

pub prefixes-are-runs : PrefixesAreRuns
prefixes-are-runs s bs xs n r = record {
  steps = steps-prefix (opening_of s) bs xs n r.steps;
  asked = ap (λ l. take n l) r.asked ∙ asked-prefix s.plans (loaded_registers s.plans) (opening_of s) bs xs n;
}
