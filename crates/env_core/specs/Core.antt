-- The environment and its journal.
use Rattle.std.specs.Prelude.{◌≡◌, ℕ, ◌+◌, ◌*◌, ◌≤◌, List, [], ◌∷◌, ◌++◌, length, nat_lt, cond, Option, Some, None}
use Rattle.napi_types.specs.declared.entry.Local.{Local}
use Rattle.napi_types.specs.declared.entry.Phase.{Phase}
use Rattle.napi_types.specs.declared.entry.Phase.TheVariants as phase
use Rattle.napi_types.specs.declared.entry.SharedCall.{SharedCall}
use Rattle.napi_types.specs.plain.Room.{Room, most_entries}
use Rattle.napi_types.specs.environment.Changes.{Change, opening_change, gone_change, in_phase, with_none_waiting}
use Rattle.napi_types.specs.environment.Environment.{Environment, OpenedWith, new_environment}
use Rattle.napi_types.specs.environment.Hooked.{IsHooked}
use Rattle.napi_types.specs.environment.Promised.{IsPromised}
use Rattle.napi_types.specs.environment.JournalRoom.{journal_room, reserved_journal}
use Rattle.env_core.specs.Journal.{JournalSeen}

-- the environment, its journal, the journal's limit, the length of the history as it was noted last, and the call that was handed to the hub and that the hub
-- has not answered yet, where there is one
pub record Core : Type 0 where
  pub env : Environment
  pub journal : List Local
  pub limit : ℕ
  pub position : ℕ
  pub awaited : Option SharedCall

-- a change of the environment leaves its entry in the journal, at the position that was noted last
abbrev pub after_change : Change → Core → Core
after_change c core = record core { env = c.after; journal = core.journal ++ record { at = core.position; entry = c.entry } ∷ [] }

-- a core as it opens: what its environment is opened with, and the journal's limit
abbrev pub opened_core : OpenedWith → ℕ → Core
opened_core given limit =
    after_change (opening_change (new_environment given)) (record { env = new_environment given; journal = []; limit = limit; position = 0; awaited = None })

-- a phase starts at an event of the hub, after which the history has that length; the last one starts at an entry of its own
abbrev pub after_phase : Phase → ℕ → Core → Core
after_phase phase.Gone position core = after_change (gone_change core.env) core
after_phase p position core = record core { env = in_phase p core.env; position = position }

-- a core that notes the length of the history after an event of the hub that starts no phase
abbrev pub at_position : ℕ → Core → Core
at_position position core = record core { position = position }

-- the hooks that wait are abandoned, at an event of the hub after which the history has that length
abbrev pub after_abandon : ℕ → Core → Core
after_abandon position core = record core { env = with_none_waiting core.env; position = position }

-- the addon whose init frame is next, where one is to come
abbrev pub next_init : Environment → Option ℕ
next_init e = cond (nat_lt e.inits e.addons) (Some e.inits) None

-- the room in the journal
abbrev pub room_in : Core → Room
room_in core = journal_room core.env (length core.journal) core.limit

-- the promised places are the reserved ones, each number and each ticket that was given out has an entry, no entry made more than 65,537 values, the hooks fit
-- the book, and the deferreds fit the values
pub record IsCore (e : Environment) (pages : JournalSeen) : Type 0 where
  pub reserved : pages.promised ≡ reserved_journal e
  pub within : length pages.entries + pages.promised ≤ pages.limit
  pub small : pages.limit ≤ most_entries
  pub handles : e.heap.handles ≤ length pages.entries
  pub scopes : length e.heap.scope_numbers ≤ length pages.entries
  pub references : length e.references.issued ≤ length pages.entries
  pub tickets : length e.book ≤ length pages.entries
  pub deferreds : length e.promises.issued ≤ length pages.entries
  pub values : e.heap.made ≤ 65537 * length pages.entries + 5
  pub hooked : IsHooked e
  pub promised : IsPromised e
