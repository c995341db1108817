-- Two addons that ask nothing.
use Rattle.std.specs.Prelude.{◌≡◌, ℕ, List, [], ◌∷◌, ◌++◌, set, Some}
use Rattle.napi_types.specs.declared.entry.Cause.TheVariants as cause
use Rattle.napi_types.specs.declared.entry.Duty.{Duty}
use Rattle.napi_types.specs.declared.entry.Entry.{Entry}
use Rattle.napi_types.specs.declared.entry.HostStep.TheVariants as host
use Rattle.napi_types.specs.declared.entry.Out.TheVariants as out
use Rattle.napi_types.specs.plain.Entries.{host_entry}
use Rattle.napi_types.specs.runs.Setting.{Setting}
use Rattle.machine_laws.specs.LegalRuns.{IsRun}
use Rattle.machine_laws.specs.RunWords.{script_of_plans, init_begins, opening_entries, frame_end, great_events, gone_entry}

-- the script: each addon has one entry without operations
abbrev pub setting : Setting
setting = script_of_plans (Some ([] ∷ []) ∷ Some ([] ∷ []) ∷ [])

-- what comes after the frames
abbrev pub later : List Entry
later = great_events ++ gone_entry ∷ []

-- the whole run
abbrev pub trace : List Entry
trace = opening_entries ++ frame_end ∷ init_begins 1 ∷ frame_end ∷ later

-- near misses are no runs
pub record IsStrict : Type 0 where
  -- `go` does not come before the second addon's frame
  pub go : IsRun setting (opening_entries ++ frame_end ∷ later) → ⊥
  -- which is that of no other addon
  pub second : (addon : ℕ) → IsRun setting (set trace 3 (init_begins addon)) → addon ≡ 1
  -- and a begin tells of no duty that did not begin its frame
  pub duty : (d : Duty) → IsRun setting (set trace 1 (host_entry host.Begin (out.Begin cause.Init 0 0 (Some d)))) → ⊥
