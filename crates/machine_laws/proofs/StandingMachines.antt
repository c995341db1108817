-- The frame of a duty of the hub stands in the hub too.
use Rattle.std.proofs.Common.{◌≡◌, ◌≢◌, ◌∙◌, true, false, List, [], ◌∷◌, filter, refl, ap, sym, Option, Some, None, IsSome, option_map}
use Rattle.std.specs.List.{All, cons_option}
use Rattle.std.specs.Option.{option_to_list}
use Rattle.std.proofs.lemmas.List.Elements.{All-nil, All-cons}
use Rattle.napi_types.specs.declared.duties.DueInfo.{DueInfo}
use Rattle.napi_types.specs.declared.entry.Cause.TheVariants as cause
use Rattle.napi_types.specs.declared.entry.Duty.{Duty}
use Rattle.napi_types.specs.parts.Duties.{duties_of, AreNested}
use Rattle.napi_types.specs.parts.Frames.{Frame, is_hub_duty}
use Rattle.napi_types.specs.hub.Hub.{Hub}
use Rattle.napi_types.specs.runs.Machine.{Machine}
use Rattle.napi_types.specs.runs.Setting.{final_of}
use Rattle.napi_types.specs.hub.StandingDuties.{hub_duties, standing_duties}
use Rattle.napi_types.proofs.runs.StandingDuties.{StandsInBoth, stands-run, plain-head, hub-head}
use Rattle.machine_laws.specs.Cuts.{StandsInHub, FramesStandInTheHub, HubDutiesStandInTheHub}

pub hub-duties-stand : HubDutiesStandInTheHub
hub-duties-stand s bs xs run = (stands-run s bs xs run).alike

-- each frame
some-stands : (d : Duty) (ds : List Duty) (o : Option DueInfo) → d ∷ ds ≡ option_to_list (option_map (λ (i : DueInfo). i.duty) o) → IsSome o
some-stands d ds None same = cc
some-stands d ds (Some i) same = refl

stands-in : (h : Hub) (f : Frame) (ds : List Duty) → filter (λ d. is_hub_duty (Some d)) (cons_option f.duty ds) ≡ standing_duties h → f.cause ≢ cause.Call → StandsInHub h f
stands-in h f ds alike uncalled ours = (by f.duty ours alike, uncalled)
  where
    by : (o : Option Duty) → is_hub_duty o ≡ true → filter (λ d. is_hub_duty (Some d)) (cons_option o ds) ≡ standing_duties h → IsSome h.standing
    by None theirs same = cc
    by (Some d) theirs same = some-stands d (filter (λ e. is_hub_duty (Some e)) ds) h.standing (sym (hub-head d ds theirs) ∙ same)

-- the frame of a call began for no duty
called-stands : (h : Hub) (f : Frame) → f.duty ≡ None → StandsInHub h f
called-stands h f none ours = let no : false ≡ true = sym (ap is_hub_duty none) ∙ ours in cc

all-stand : (h : Hub) (fs : List Frame) → AreNested fs → hub_duties fs ≡ standing_duties h → All (StandsInHub h) fs
all-stand h [] nested alike = All-nil (StandsInHub h)
all-stand h (f ∷ []) nested alike = All-cons (StandsInHub h) f [] (stands-in h f [] alike nested) (All-nil (StandsInHub h))
all-stand h (f ∷ g ∷ fs) nested alike =
    let plain : is_hub_duty f.duty ≡ false = ap is_hub_duty nested.1 in
    All-cons (StandsInHub h) f (g ∷ fs) (called-stands h f nested.1)
    (all-stand h (g ∷ fs) nested.2 (sym (plain-head f.duty (duties_of (g ∷ fs)) plain) ∙ alike))

pub frames-stand : FramesStandInTheHub
frames-stand s bs xs run =
    let m : Machine = final_of s bs xs in
    let here : StandsInBoth m = stands-run s bs xs run in
    all-stand m.hub m.env.frames here.nested.frames here.alike
