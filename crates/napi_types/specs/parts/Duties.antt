-- The duties of the frames that stand.
use Rattle.std.specs.Prelude.{◌≡◌, ◌≢◌, List, [], ◌∷◌, filter_map, None}
use Rattle.napi_types.specs.declared.entry.Cause.TheVariants as cause
use Rattle.napi_types.specs.declared.entry.Duty.{Duty}
use Rattle.napi_types.specs.parts.Frames.{Frame}

-- those that began one of these frames
abbrev pub duties_of : List Frame → List Duty
duties_of fs = filter_map (λ f. f.duty) fs

-- only the outermost frame is one that no call began, and only it may be one that a duty began: no finalizer runs inside another frame
abbrev pub AreNested : List Frame → Type 0
AreNested [] = Unit {0}
AreNested (f ∷ []) = f.cause ≢ cause.Call
AreNested (f ∷ g ∷ fs) = (f.cause ≡ cause.Call) × (f.duty ≡ None) × AreNested (g ∷ fs)
