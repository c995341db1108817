-- Laws over all runs.
use Rattle.std.specs.Prelude.{◌≡◌, ◌+◌, ◌*◌, ◌≤◌, Bool, true, false, List, length}
use Rattle.std.specs.List.{All}
use Rattle.napi_types.specs.declared.call.Ask.{Ask}
use Rattle.napi_types.specs.declared.entry.Entry.{Entry}
use Rattle.napi_types.specs.declared.entry.Phase.TheVariants as phase
use Rattle.napi_types.specs.declared.entry.Duty.{Duty}
use Rattle.napi_types.specs.declared.entry.Duty.TheVariants as duty
use Rattle.napi_types.specs.declared.ids.Ticket.{Ticket}
use Rattle.napi_types.specs.environment.JournalRoom.{reserved_journal}
use Rattle.napi_types.specs.hub.HistoryRoom.{reserved_history}
use Rattle.napi_types.specs.runs.Machine.{Machine}
use Rattle.napi_types.specs.runs.Run.{IsRunBy}
use Rattle.napi_types.specs.runs.Setting.{Setting, RunsBy, EndsBy, final_of}
use Rattle.napi_types.specs.all_runs.CollectionLaw.{KeepsReached}
use Rattle.napi_types.specs.all_runs.Counts.{IsOnce, WithdrawsRightly, Once}
use Rattle.napi_types.specs.all_runs.Order.{TicketsCount, HooksFall, FinalsRise}

-- the machine counts the entries of the run; entries and reserved places of each list are within its limit, and at the end of the run no place is left reserved
pub record HasRoom (s : Setting) (xs : List Entry) (m : Machine) : Type 0 where
  pub counted : m.journal_length + m.history_length ≡ length xs
  pub journal : m.journal_length + reserved_journal m.env ≤ s.limits.journal
  pub history : m.history_length + reserved_history m.hub ≤ s.limits.history
  pub none_left : m.env.phase ≡ phase.Gone → (reserved_journal m.env ≡ 0) × (reserved_history m.hub ≡ 0)

-- where the limits have room for the events that every run has, the room suffices at the end of every run, and so at every moment. In the journal these are the
-- opening, `gone`, and the begin and the end of each init frame; in the history the hub's five great events, and the end of each thread and each worker
abbrev pub RoomSuffices : Type 0
RoomSuffices = (s : Setting) (bs : List Ask) (xs : List Entry)
    → 2 + 2 * length s.plans ≤ s.limits.journal → 5 + s.threads + s.workers ≤ s.limits.history → RunsBy s bs xs → HasRoom s xs (final_of s bs xs)

-- every collection of a run keeps exactly what the roots reach, empties the references to all else, and takes away what is attached to it
abbrev pub CollectionsKeepWhatIsReached : Type 0
CollectionsKeepWhatIsReached = (m : Machine) (bs : List Ask) (xs : List Entry) → IsRunBy m bs xs → KeepsReached m bs xs

-- in every run of a script the tickets that calls make count from 1
abbrev pub TicketsAreCounted : Type 0
TicketsAreCounted = (s : Setting) (bs : List Ask) (xs : List Entry) → RunsBy s bs xs → TicketsCount xs

-- in every run of a script hooks begin in the reverse of the order in which they were added, and what was left to the end in the order of registration
abbrev pub TicketsBeginInOrder : Type 0
TicketsBeginInOrder = (s : Setting) (bs : List Ask) (xs : List Entry) → RunsBy s bs xs → HooksFall xs × FinalsRise xs

-- a ticket: the duty of a finalizer, of a hook or of a reaction
abbrev pub is_ticket : Duty → Bool
is_ticket (duty.Ticket t) = true
is_ticket _ = false

-- in every run to its end each finalizer, each hook and each reaction that is made and not withdrawn begins exactly once, and one that is withdrawn never
abbrev pub TicketsAreOnce : Type 0
TicketsAreOnce = (s : Setting) (bs : List Ask) (xs : List Entry) → EndsBy s bs xs → (t : Ticket) → IsOnce (duty.Ticket t) xs

-- in every run only an accepted `remove_wrap`, `set_instance_data`, `remove_env_cleanup_hook` or `remove_async_cleanup_hook` withdraws a duty
abbrev pub WithdrawnByTheirCalls : Type 0
WithdrawnByTheirCalls = (s : Setting) (bs : List Ask) (xs : List Entry) → RunsBy s bs xs → All WithdrawsRightly xs

-- in every run to its end, whatever threads and workers do, each duty that is made and not withdrawn begins exactly once, and one that is withdrawn never;
-- those calls alone withdraw
abbrev pub EveryDutyIsOnce : Type 0
EveryDutyIsOnce = (s : Setting) (bs : List Ask) (xs : List Entry) → EndsBy s bs xs → Once xs
