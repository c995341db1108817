-- Laws of summaries, and three with their numbers.
use Rattle.std.specs.Prelude.{◌≡◌, ℕ, List, [], ◌∷◌, ◌++◌, length, map, codes, Option, None, Some}
use Rattle.napi_types.specs.declared.call.Call.TheVariants as call
use Rattle.napi_types.specs.declared.call.Mode.TheVariants as mode
use Rattle.napi_types.specs.declared.entry.Actor.TheVariants as actor
use Rattle.napi_types.specs.declared.entry.Duty.{Duty}
use Rattle.napi_types.specs.declared.entry.Duty.TheVariants as duty
use Rattle.napi_types.specs.declared.entry.Entry.{Entry}
use Rattle.napi_types.specs.declared.entry.Local.{Local}
use Rattle.napi_types.specs.declared.entry.Out.TheVariants as out
use Rattle.napi_types.specs.declared.entry.What.TheVariants as what
use Rattle.napi_types.specs.declared.status.Status.{Status}
use Rattle.napi_types.specs.declared.status.Status.TheVariants as status
use Rattle.napi_types.specs.plain.Weave.{RisesBetween, weave}
use Rattle.napi_types.specs.scripts.Summary.{summary}
use Rattle.trace_text.specs.SummaryCounts.{counts_of, plus}
use Rattle.trace_text.specs.Examples.{busy}

-- THE ORDER
-- no number of a summary depends on the order of the entries
pub record SummariesHaveNoOrder : Type 0 where
  -- two neighbours that change places
  pub neighbours : (xs ys : List Entry) (x y : Entry) → summary (xs ++ x ∷ y ∷ ys) ≡ summary (xs ++ y ∷ x ∷ ys)
  -- the entries of a run, and those of its journal with those of its history behind them
  pub lists : (journal : List Local) (history : List Entry) → RisesBetween 0 (length history) journal →
      summary (weave journal history) ≡ summary (map (λ local. local.entry) journal ++ history)
  -- so the numbers of a run are the sums of those of its two lists
  pub sums : (journal : List Local) (history : List Entry) → RisesBetween 0 (length history) journal →
      counts_of (weave journal history) ≡ plus (counts_of (map (λ local. local.entry) journal)) (counts_of history)

-- EXAMPLES
-- a thread's call of function 1 with this payload
abbrev pub item_call : ℕ → Status → Option Duty → Entry
item_call payload s made = record {
  actor = actor.Thread 0;
  depth = 0;
  step = 0;
  what = what.Call (call.CallThreadsafeFunction (record { 0 = 1 }) payload mode.Nonblocking);
  reply = record { status = s; out = out.Nothing; dropped = None; made = made };
  given = None;
}

-- the first item of that function
abbrev pub first_item : Option Duty
first_item = Some (duty.Item (record { 0 = 1 }) 1)

-- three lists of entries, none of a run, and their summaries
pub record Summaries : Type 0 where
  -- a refused call adds no payload, and no item
  pub refused : summary (item_call 9 status.QueueFull None ∷ []) ≡
      codes "entries 1\ncalls 1\naccepted 0\nitems 0\nworks 0\nstarted 0\ncompletions 0\nfinalizers 0\nhooks 0\nwithdrawn 0\nrefused 1\npayload 0\n"
  -- payloads add up in 64 bits
  pub wraps : summary (item_call 18446744073709551615 status.Ok first_item ∷ item_call 2 status.Ok first_item ∷ []) ≡
      codes "entries 2\ncalls 2\naccepted 2\nitems 0\nworks 0\nstarted 0\ncompletions 0\nfinalizers 0\nhooks 0\nwithdrawn 0\nrefused 0\npayload 1\n"
  -- the begin of a completion is no call, whatever its status; each duty that it tells is counted
  pub busy : summary (busy ∷ []) ≡
      codes "entries 1\ncalls 0\naccepted 1\nitems 0\nworks 0\nstarted 0\ncompletions 1\nfinalizers 0\nhooks 0\nwithdrawn 1\nrefused 0\npayload 0\n"
