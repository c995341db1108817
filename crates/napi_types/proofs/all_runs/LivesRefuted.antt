-- Small tales that the law on the lives of buffers refuses: what no run tells. Beside them stand some that it admits.
use Rattle.std.proofs.Common.{◌≡◌, true, false, List, [], ◌∷◌, ◌++◌, inl, inr, refl}
use Rattle.std.proofs.lemmas.List.Elements.{All-head}
use Rattle.napi_types.specs.all_runs.BufferLives as told
use Rattle.napi_types.specs.all_runs.BufferLives.{LifeFact, ExternalBuffer, ViewOfBuffer, HasNoBufferLeft, LeavesItsBuffer, FollowsLives}

-- an external buffer 6, whose finalizer has the ticket 1, and a view 7 of it
abbrev outside : ExternalBuffer
outside = record { buffer = 6; ticket = 1 }

abbrev window : ViewOfBuffer
window = record { view = 7; buffer = 6 }

abbrev born : List LifeFact
born = told.GivesExternal outside ∷ told.GivesView window ∷ []

-- the finalizer begins while the buffer lives, also where a collection left it
never-alive : HasNoBufferLeft born outside → ⊥
never-alive (inl gone) = let no : true ≡ false = gone in cc
never-alive (inr late) = let no : false ≡ true = late in cc

pub never-living : FollowsLives born (told.Finalizes 1) → ⊥
never-living (told.finalizes_late t left) = never-alive left

abbrev left_both : List LifeFact
left_both = born ++ told.Leaves (6 ∷ 7 ∷ []) ∷ []

never-kept : HasNoBufferLeft left_both outside → ⊥
never-kept (inl gone) = let no : true ≡ false = gone in cc
never-kept (inr late) = let no : false ≡ true = late in cc

pub never-left : FollowsLives left_both (told.Finalizes 1) → ⊥
never-left (told.finalizes_late t left) = never-kept left

-- a collection leaves the view, and not its buffer
pub never-torn : FollowsLives born (told.Leaves (7 ∷ [])) → ⊥
never-torn (told.leaves_buffers ns all) =
    let no : false ≡ true = All-head (LeavesItsBuffer born (7 ∷ [])) window [] all refl refl in cc

-- a view is made of a buffer that was left out
abbrev freed : List LifeFact
freed = born ++ told.Leaves [] ∷ []

pub never-lost : FollowsLives freed (told.GivesView (record { view = 8; buffer = 6 })) → ⊥
never-lost (told.gives_view w lives) = let no : false ≡ true = lives in cc

-- the finalizer begins once the buffer was left out, or after `finals`
pub begins-freed : FollowsLives freed (told.Finalizes 1)
begins-freed = told.finalizes_late 1 (inl refl)

pub begins-at_finals : FollowsLives (born ++ told.ComesToFinals ∷ []) (told.Finalizes 1)
begins-at_finals = told.finalizes_late 1 (inr refl)
