-- What a worker picks, and what a completion takes.
use Rattle.std.specs.Prelude.{ℕ, ◌∷◌, [], Bool, true, false, cond, Option, Some, None, option_map}
use Rattle.std.specs.Option.{option_and_then}
use Rattle.napi_types.specs.declared.call.JobSpec.{JobSpec}
use Rattle.napi_types.specs.declared.duties.DueInfo.{DueInfo}
use Rattle.napi_types.specs.declared.entry.Cause.TheVariants as cause
use Rattle.napi_types.specs.declared.entry.Duty.TheVariants as duty
use Rattle.napi_types.specs.declared.status.Status.{Status}
use Rattle.napi_types.specs.plain.Lists.{head}
use Rattle.napi_types.specs.plain.Numbers.{status_number}
use Rattle.napi_types.specs.parts.Pool.{WorkPool, work_numbered}
use Rattle.napi_types.specs.parts.Works.{is_cancelled}
use Rattle.async_work.specs.Executing.{StartedWork}
use Rattle.async_work.specs.declared.pool.Finished.{Finished}
use Rattle.async_work.specs.declared.pool.Picked.{Picked}
use Rattle.async_work.specs.declared.pool.Picked.TheVariants as picked

module _ {J : Type 0} where
  abbrev pub is_closing : Picked J → Bool
  is_closing picked.Closing = true
  is_closing _ = false

  abbrev pub is_nothing : Picked J → Bool
  is_nothing picked.Nothing = true
  is_nothing _ = false

  -- the work that was picked, where one was
  abbrev pub picked_work : Picked J → Option StartedWork
  picked_work (picked.Job running) = Some running
  picked_work _ = None

  -- what the completion tells as it begins
  abbrev pub finished_info : Finished J → DueInfo
  finished_info f = record {
    duty = duty.Work f.number;
    cause = cause.Complete;
    addon = f.addon;
    entry = f.entry;
    status = f.status;
    gifts = status_number f.status ∷ f.value ∷ f.payload ∷ 0 ∷ 0 ∷ 0 ∷ 0 ∷ 0 ∷ [];
    runs = true;
  }

-- the work of a number, as a worker starts it
abbrev pub work_to_start : WorkPool → ℕ → Option StartedWork
work_to_start p n = option_map (λ w. record { number = n; spec = w.spec }) (work_numbered p n)

-- the work that starts first, where one waits
abbrev pub first_to_start : WorkPool → Option StartedWork
first_to_start p = option_and_then (work_to_start p) (head p.queued)

-- what the job computes that did not run, of a work that ended with this status
abbrev pub unspent_spec : WorkPool → ℕ → Status → Option JobSpec
unspent_spec p n status = cond (is_cancelled status) (option_map (λ w. w.spec) (work_numbered p n)) None
