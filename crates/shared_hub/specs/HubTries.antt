-- What calls of the hub come out as.
use Rattle.std.specs.Prelude.{◌≡◌, ℕ, Option, Some, None}
use Rattle.napi_types.specs.declared.call.JobSpec.{JobSpec}
use Rattle.napi_types.specs.declared.duties.DueInfo.{DueInfo}
use Rattle.napi_types.specs.declared.entry.Actor.TheVariants as actor
use Rattle.napi_types.specs.declared.entry.Duty.{Duty}
use Rattle.napi_types.specs.declared.entry.Duty.TheVariants as duty
use Rattle.napi_types.specs.declared.entry.HostStep.TheVariants as host
use Rattle.napi_types.specs.declared.entry.Out.TheVariants as out
use Rattle.napi_types.specs.declared.entry.Reply.{Reply}
use Rattle.napi_types.specs.declared.status.Status.{Status}
use Rattle.napi_types.specs.plain.Entries.{host_entry}
use Rattle.napi_types.specs.parts.Pool.{WorkPool}
use Rattle.napi_types.specs.hub.HubEvents.{delivery_entry}
use Rattle.napi_types.specs.hub.HubMoves.{HubMove, Delivers, Closes, Finishes}
use Rattle.napi_types.specs.hub.HubStep.{actor_told}
use Rattle.async_work.specs.Picking.{unspent_spec}
use Rattle.async_work.specs.declared.pool.Picked.{Picked}
use Rattle.async_work.specs.declared.pool.Picked.TheVariants as picked
use Rattle.shared_hub.specs.declared.tries.Polled.{Polled}
use Rattle.shared_hub.specs.declared.tries.Polled.TheVariants as polled
use Rattle.shared_hub.specs.declared.tries.ThreadTried.{ThreadTried}
use Rattle.shared_hub.specs.declared.tries.ThreadTried.TheVariants as tried
use Rattle.shared_hub.specs.HubStates.{HubSeen, AddsEntry}

-- A CALL OF A THREAD
-- a fact of the reply, where it has one
abbrev pub IfAnswered : ThreadTried → (Reply → Type 0) → Type 0
IfAnswered (tried.Reply r) P = P r
IfAnswered _ P = Unit {0}

-- a fact, where it waits
abbrev pub IfWaiting : ThreadTried → Type 0 → Type 0
IfWaiting tried.Wait P = P
IfWaiting _ P = Unit {0}

-- a fact of the status, where it stopped
abbrev pub IfStopped : ThreadTried → (Status → Type 0) → Type 0
IfStopped (tried.Stop s) P = P s
IfStopped _ P = Unit {0}

-- A MOVE, AND A START
module _ {J : Type 0} where
  -- the hub's move, none where there was nothing to do
  abbrev pub polled_move : Polled J → Option HubMove
  polled_move (polled.Begin due job) = Some (Delivers due)
  polled_move (polled.Closed f) = Some (Closes f.0)
  polled_move (polled.Finished f) = Some (Finishes f.0)
  polled_move polled.Nothing = None

  -- the move adds its entry; where there was nothing to do nothing changes
  abbrev pub AddsMove : HubSeen → Polled J → HubSeen → Type 0
  AddsMove old (polled.Begin due job) new = AddsEntry old (delivery_entry due) new
  AddsMove old (polled.Closed f) new = AddsEntry old (host_entry host.CloseTsfn (out.Function f)) new
  AddsMove old (polled.Finished f) new = AddsEntry old (host_entry host.FinishTsfn (out.Function f)) new
  AddsMove old polled.Nothing new = new ≡ old

  -- a start adds its entry; where the worker starts nothing, nothing changes
  abbrev pub AddsStart : ℕ → HubSeen → Picked J → HubSeen → Type 0
  AddsStart worker old (picked.Job running) new = AddsEntry old (actor_told (actor.Worker worker) host.Start (out.Duty (duty.Work running.number))) new
  AddsStart worker old _ new = new ≡ old

  -- a fact of what a duty tells and of the job that is handed out with it, where one begins
  abbrev pub IfBegun : Polled J → (DueInfo → Option J → Type 0) → Type 0
  IfBegun (polled.Begin due job) P = P due job
  IfBegun _ P = Unit {0}

  -- a fact, where no duty begins
  abbrev pub IfNoneBegun : Polled J → Type 0 → Type 0
  IfNoneBegun (polled.Begin due job) P = Unit {0}
  IfNoneBegun _ P = P

-- what the job computes that did not run, of a work that was cancelled; none of another duty
abbrev pub unspent_of_duty : WorkPool → DueInfo → Duty → Option JobSpec
unspent_of_duty p d (duty.Work n) = unspent_spec p n d.status
unspent_of_duty p d _ = None

abbrev pub unspent_job : WorkPool → DueInfo → Option JobSpec
unspent_job p d = unspent_of_duty p d d.duty
