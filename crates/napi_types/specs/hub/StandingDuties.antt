-- The duties of the hub whose frames stand, as the environment has them and as the hub has them.
use Rattle.std.specs.Prelude.{List, Some, filter, option_map}
use Rattle.std.specs.Option.{option_to_list}
use Rattle.napi_types.specs.declared.entry.Duty.{Duty}
use Rattle.napi_types.specs.parts.Duties.{duties_of}
use Rattle.napi_types.specs.parts.Frames.{Frame, is_hub_duty}
use Rattle.napi_types.specs.hub.Hub.{Hub}

-- the duties of the hub that began these frames, and the one that stands in the hub
abbrev pub hub_duties : List Frame → List Duty
hub_duties fs = filter (λ d. is_hub_duty (Some d)) (duties_of fs)

abbrev pub standing_duties : Hub → List Duty
standing_duties h = option_to_list (option_map (λ d. d.duty) h.standing)
