-- The works by their ids, each held under its own. A job is seen as what it computes.
use Rattle.std.specs.Prelude.{ℕ, ◌==◌, Bool, cond, List, map, Option, Some, None, option_map}
use Rattle.std.specs.Option.{option_and_then, is_none}
use Rattle.generation_slab.specs.HeldPlaces.{HeldValue, HeldPlaces, held, with_value}
use Rattle.napi_types.specs.declared.call.JobSpec.{JobSpec}
use Rattle.napi_types.specs.parts.Works.{Work}
use Rattle.napi_types.specs.plain.Lists.{found}
use Rattle.async_work.specs.declared.place.WorkPlace.{WorkPlace}
use Rattle.async_work.specs.declared.place.Standing.{Standing}
use Rattle.async_work.specs.declared.place.Standing.TheVariants as standing

-- a work without its id, and what the job computes that it holds, where it was not queued yet
pub record Placed : Type 0 where
  pub spec : JobSpec
  pub addon : ℕ
  pub entry : ℕ
  pub payload : ℕ
  pub number : Option ℕ
  pub job : Option JobSpec

module _ {J : Type 0} (spec : J → JobSpec) where
  abbrev pub standing_number : Standing J → Option ℕ
  standing_number (standing.Created job slip) = None
  standing_number (standing.Numbered n) = Some n

  abbrev pub standing_job : Standing J → Option JobSpec
  standing_job (standing.Created job slip) = Some (spec job)
  standing_job (standing.Numbered n) = None

  abbrev pub place_seen : WorkPlace J → Placed
  place_seen p = record {
    spec = p.spec;
    addon = p.addon;
    entry = p.entry;
    payload = p.payload;
    number = standing_number p.standing;
    job = standing_job p.standing;
  }

  abbrev pub held_seen : HeldValue (WorkPlace J) → HeldValue Placed
  held_seen h = record { number = h.number; value = place_seen h.value }

  -- all works, as a finite map by their ids
  abbrev pub places_seen : HeldPlaces (WorkPlace J) → List (HeldValue Placed)
  places_seen places = map held_seen (held places)

-- the work of an id, without it
abbrev pub place_at : List (HeldValue Placed) → ℕ → Option Placed
place_at places id = option_map (λ h. h.value) (found (λ h. h.number) id places)

-- what the job computes that a place holds
abbrev pub held_job : Option Placed → Option JobSpec
held_job place = option_and_then (λ (p : Placed). p.job) place

-- it was not queued
abbrev pub is_unqueued : HeldValue Placed → Bool
is_unqueued h = is_none h.value.number

-- a place whose work is queued under a number
abbrev pub with_place_number : ℕ → Placed → Placed
with_place_number n p = record p { number = Some n; job = None }

-- the work of this id is queued under a number
abbrev pub with_number_at : ℕ → ℕ → List (HeldValue Placed) → List (HeldValue Placed)
with_number_at id n places = map (λ h. cond (h.number == id) (with_value (with_place_number n h.value) h) h) places

-- with its id
abbrev pub work_of : ℕ → Placed → Work
work_of id p = record { id = id; spec = p.spec; addon = p.addon; entry = p.entry; payload = p.payload; number = p.number }

-- the works at all places
abbrev pub work_held : HeldValue Placed → Work
work_held h = work_of h.number h.value

abbrev pub works_of : List (HeldValue Placed) → List Work
works_of places = map work_held places
