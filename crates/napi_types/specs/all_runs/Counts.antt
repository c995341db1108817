-- How often a duty is made, withdrawn and begun along the entries of a run, and how often its work starts.
use Rattle.std.specs.Prelude.{◌≡◌, ◌<◌, ◌≤◌, ◌-◌, ℕ, ◌==◌, Bool, true, false, not, ◌&&◌, List, count_by, Option, Some, None, is_some}
use Rattle.std.specs.List.{All}
use Rattle.napi_types.specs.declared.call.Call.TheVariants as call
use Rattle.napi_types.specs.declared.entry.Duty.{Duty}
use Rattle.napi_types.specs.declared.entry.Duty.TheVariants as duty
use Rattle.napi_types.specs.declared.entry.Entry.{Entry}
use Rattle.napi_types.specs.declared.entry.What.{What}
use Rattle.napi_types.specs.declared.entry.What.TheVariants as what
use Rattle.napi_types.specs.declared.status.Status.TheVariants as status
use Rattle.napi_types.specs.plain.Entries.{begun_duty, started_duty}
use Rattle.napi_types.specs.parts.Works.{is_cancelled}

-- DUTIES
-- whether both are the same ticket, work, item or function
abbrev pub is_same_duty : Duty → Duty → Bool
is_same_duty (duty.Ticket t) (duty.Ticket u) = t.0 == u.0
is_same_duty (duty.Work m) (duty.Work n) = m == n
is_same_duty (duty.Item f m) (duty.Item g n) = (f.0 == g.0) && (m == n)
is_same_duty (duty.Function f) (duty.Function g) = f.0 == g.0
is_same_duty _ _ = false

-- whether this duty is there
abbrev pub is_duty : Duty → Option Duty → Bool
is_duty d None = false
is_duty d (Some e) = is_same_duty d e

-- COUNTS
-- how often a call makes the duty, how often one withdraws it, and how often its frame begins
abbrev pub made : Duty → List Entry → ℕ
made d xs = count_by (λ x. is_duty d x.reply.made) xs

abbrev pub dropped : Duty → List Entry → ℕ
dropped d xs = count_by (λ x. is_duty d x.reply.dropped) xs

abbrev pub begun : Duty → List Entry → ℕ
begun d xs = count_by (λ x. is_duty d (begun_duty x.what x.reply.out)) xs

-- how often the work of a duty starts
abbrev pub started : Duty → List Entry → ℕ
started d xs = count_by (λ x. is_duty d (started_duty x.what x.reply.out)) xs

-- how often its completion begins as one that was cancelled, and as one that was not
abbrev pub begun_cancelled : Duty → List Entry → ℕ
begun_cancelled d xs = count_by (λ x. is_duty d (begun_duty x.what x.reply.out) && is_cancelled x.reply.status) xs

abbrev pub begun_uncancelled : Duty → List Entry → ℕ
begun_uncancelled d xs = count_by (λ x. is_duty d (begun_duty x.what x.reply.out) && not (is_cancelled x.reply.status)) xs

-- ONCE
-- what becomes of a duty: it is made at most once, and withdrawn at most once; it begins exactly once where it is made and not withdrawn; where it is withdrawn it
-- was made, and never begins; and it never begins where it is not made
pub record IsOnce (d : Duty) (xs : List Entry) : Type 0 where
  pub singly : made d xs ≤ 1
  pub singly_dropped : dropped d xs ≤ 1
  pub kept : made d xs ≡ 1 → dropped d xs ≡ 0 → begun d xs ≡ 1
  pub withdrawn : 0 < dropped d xs → (made d xs ≡ 1) × (begun d xs ≡ 0)
  pub others : made d xs ≡ 0 → begun d xs ≡ 0

-- the calls that may withdraw
abbrev pub may_withdraw : What → Bool
may_withdraw (what.Call (call.RemoveWrap _)) = true
may_withdraw (what.Call (call.SetInstanceData _ _ _)) = true
may_withdraw (what.Call (call.RemoveEnvCleanupHook _ _)) = true
may_withdraw (what.Call (call.RemoveAsyncCleanupHook _)) = true
may_withdraw _ = false

-- where an entry withdraws a duty it is one of these calls, and accepted
pub record WithdrawsRightly (x : Entry) : Type 0 where
  pub call : is_some x.reply.dropped ≡ true → may_withdraw x.what ≡ true
  pub accepted : is_some x.reply.dropped ≡ true → x.reply.status ≡ status.Ok

-- the same of all duties
pub record Once (xs : List Entry) : Type 0 where
  pub each : (d : Duty) → IsOnce d xs
  pub withdrawals : All WithdrawsRightly xs

-- WORKS
-- the completion of a duty's work begins as one that was not cancelled exactly as often as the work starts, and as cancelled exactly as often as the work was queued
-- and never starts
pub record TellsStarts (d : Duty) (xs : List Entry) : Type 0 where
  pub uncancelled : begun_uncancelled d xs ≡ started d xs
  pub cancelled : begun_cancelled d xs ≡ made d xs - started d xs
