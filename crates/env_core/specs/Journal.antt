-- The journal as a list of entries beside its promised places.
use Rattle.std.specs.Prelude.{ℕ, ◌+◌, ◌-◌, ◌<◌, ◌≤◌, List, length, min, Option, None, option_map, slice_get}
use Rattle.napi_types.specs.declared.call.Call.{Call}
use Rattle.napi_types.specs.declared.entry.Actor.TheVariants as actor
use Rattle.napi_types.specs.declared.entry.Entry.{Entry}
use Rattle.napi_types.specs.declared.entry.Local.{Local}
use Rattle.napi_types.specs.declared.entry.Reply.{Reply}
use Rattle.napi_types.specs.declared.entry.What.TheVariants as what
use Rattle.napi_types.specs.plain.Room.{first_places, most_entries}

-- the entries, how many places are promised, the limit, and the length of the history as it was noted last
pub record JournalSeen : Type 0 where
  pub entries : List Local
  pub promised : ℕ
  pub limit : ℕ
  pub position : ℕ

-- so many places more pass a bound
abbrev pub Exceeds : JournalSeen → ℕ → ℕ → Type 0
Exceeds p places bound = bound < length p.entries + p.promised + places

-- entries and promised places stay within the limit and have their memory, and so have the first places
pub record FitsJournal (entries promised limit capacity : ℕ) : Type 0 where
  pub within : entries + promised ≤ limit
  pub small : limit ≤ most_entries
  pub memory : entries + promised ≤ capacity
  pub first : min first_places limit ≤ capacity

-- the entry of a call of the environment, by how many frames stand, the number of the ask in its frame, the call and its reply
abbrev pub told_entry : ℕ → ℕ → Call → Reply → Entry
told_entry depth step c r = record { actor = actor.Env; depth = depth; step = step; what = what.Call c; reply = r; given = None }

-- the reply of the last of these entries
abbrev pub last_reply : List Local → Option Reply
last_reply xs = option_map (λ x. x.entry.reply) (slice_get xs (length xs - 1))
