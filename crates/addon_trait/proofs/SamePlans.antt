-- Addons that tell the plans that they told.
use Rattle.std.proofs.Common.{◌≡◌, List, length, map, refl, ap, sym, ◌∙◌}
use Rattle.std.proofs.lemmas.List.{length-map}
use Rattle.napi_types.specs.scripts.Plans.{Plan}
use Rattle.addon_trait.specs.Addons.{TellSamePlans}

-- those that tell the same list of plans are as many
pub plans-same : {A : Type 0} (plan : A → Plan) (old new : List A) → map plan new ≡ map plan old → TellSamePlans plan old new
plans-same plan old new same = record { count = sym (length-map new plan) ∙ ap length same ∙ length-map old plan; same = same }

-- where nothing changed
pub plans-none : {A : Type 0} (plan : A → Plan) (addons : List A) → TellSamePlans plan addons addons
plans-none plan addons = record { count = refl; same = refl }

-- one change after the other
pub plans-then : {A : Type 0} (plan : A → Plan) (old middle new : List A) → TellSamePlans plan old middle → TellSamePlans plan middle new → TellSamePlans plan old new
plans-then plan old middle new first later = record { count = later.count ∙ first.count; same = later.same ∙ first.same }
