-- What an accepted cancel of a work leads to.
use Rattle.std.specs.Prelude.{◌≡◌, ℕ, ◌==◌, cond, List, [], ◌∷◌, ◌++◌, Option, Some, None}
use Rattle.std.specs.Option.{option_or}
use Rattle.napi_types.specs.declared.call.Call.TheVariants as call
use Rattle.napi_types.specs.declared.entry.Duty.{Duty}
use Rattle.napi_types.specs.declared.entry.Duty.TheVariants as duty
use Rattle.napi_types.specs.declared.entry.Entry.{Entry}
use Rattle.napi_types.specs.declared.entry.What.{What}
use Rattle.napi_types.specs.declared.entry.What.TheVariants as what
use Rattle.napi_types.specs.declared.ids.WorkId.{WorkId}
use Rattle.napi_types.specs.declared.status.Status.TheVariants as status
use Rattle.napi_types.specs.all_runs.Counts.{started, begun_cancelled}

-- the work never starts, and its completion begins as cancelled, with status 11, once
pub record IsCancelledOnce (n : ℕ) (xs : List Entry) : Type 0 where
  pub never : started (duty.Work n) xs ≡ 0
  pub cancelled : begun_cancelled (duty.Work n) xs ≡ 1

-- the number under which this entry queues the work of an id, where it does
abbrev pub queued_now : ℕ → What → Option Duty → Option ℕ
queued_now w (what.Call (call.QueueAsyncWork v)) (Some (duty.Work n)) = cond (v.0 == w) (Some n) None
queued_now w _ _ = None

-- the number under which the last accepted queueing among the entries queues it, or else the one before them
abbrev pub queued_from : ℕ → Option ℕ → List Entry → Option ℕ
queued_from w before [] = before
queued_from w before (x ∷ xs) = queued_from w (option_or (queued_now w x.what x.reply.made) before) xs

abbrev pub last_queued : ℕ → List Entry → Option ℕ
last_queued w xs = queued_from w None xs

-- the last accepted queueing of the work of this id among these entries made a number. The work of that number never starts along the whole run, and its
-- completion begins as cancelled, once
pub record CancelsLastQueued (w : WorkId) (before whole : List Entry) : Type 0 where
  pub number : ℕ
  pub queued : last_queued w.0 before ≡ Some number
  pub once : IsCancelledOnce number whole

-- each accepted `cancel_async_work` among the entries cancels the work that was last queued under its id before it
abbrev pub CancelsHold : List Entry → Type 0
CancelsHold whole =
    (before later : List Entry) (x : Entry) (w : WorkId) → whole ≡ before ++ x ∷ later → x.what ≡ what.Call (call.CancelAsyncWork w) → x.reply.status ≡ status.Ok
    → CancelsLastQueued w before whole
