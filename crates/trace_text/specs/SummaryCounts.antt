-- The twelve numbers of a summary, and how those of two lists of entries add up.
use Rattle.std.specs.Prelude.{ℕ, ◌+◌, ◌<◌, ◌%◌, ◌^◌, List, ◌++◌, length, map, filter, codes, nat_le}
use Rattle.napi_types.specs.declared.entry.Entry.{Entry}
use Rattle.napi_types.specs.declared.entry.Local.{Local}
use Rattle.napi_types.specs.scripts.Summary.{calls_in, refused_in, accepted_in, items_in, works_in, started_in, completions_in, finalizers_in, hooks_in, withdrawn_in, payloads_in, number_line}
use Rattle.trace_text.specs.declared.counts.Counts.{Counts}

-- those of these entries
abbrev pub counts_of : List Entry → Counts
counts_of xs = record {
  entries = length xs;
  calls = calls_in xs;
  accepted = accepted_in xs;
  items = items_in xs;
  works = works_in xs;
  started = started_in xs;
  completions = completions_in xs;
  finalizers = finalizers_in xs;
  hooks = hooks_in xs;
  withdrawn = withdrawn_in xs;
  refused = refused_in xs;
  payload = payloads_in xs;
}

-- those of two lists together
abbrev pub plus : Counts → Counts → Counts
plus a b = record {
  entries = a.entries + b.entries;
  calls = a.calls + b.calls;
  accepted = a.accepted + b.accepted;
  items = a.items + b.items;
  works = a.works + b.works;
  started = a.started + b.started;
  completions = a.completions + b.completions;
  finalizers = a.finalizers + b.finalizers;
  hooks = a.hooks + b.hooks;
  withdrawn = a.withdrawn + b.withdrawn;
  refused = a.refused + b.refused;
  payload = (a.payload + b.payload) % 2 ^ 64;
}

-- numbers that two lists may have, so that their sums are numbers of 64 bits
pub record AreCountable (counts : Counts) : Type 0 where
  pub entries : counts.entries < 2 ^ 63
  pub calls : counts.calls < 2 ^ 63
  pub accepted : counts.accepted < 2 ^ 63
  pub items : counts.items < 2 ^ 63
  pub works : counts.works < 2 ^ 63
  pub started : counts.started < 2 ^ 63
  pub completions : counts.completions < 2 ^ 63
  pub finalizers : counts.finalizers < 2 ^ 63
  pub hooks : counts.hooks < 2 ^ 63
  pub withdrawn : counts.withdrawn < 2 ^ 63
  pub refused : counts.refused < 2 ^ 63

-- the entries of a journal that stand in the weave with a history of this length
abbrev pub placed : ℕ → List Local → List Entry
placed last journal = map (λ local. local.entry) (filter (λ local. nat_le local.at last) journal)

-- the summary that tells these numbers
abbrev pub counts_text : Counts → List ℕ
counts_text counts =
    number_line (codes "entries") counts.entries
    ++ number_line (codes "calls") counts.calls
    ++ number_line (codes "accepted") counts.accepted
    ++ number_line (codes "items") counts.items
    ++ number_line (codes "works") counts.works
    ++ number_line (codes "started") counts.started
    ++ number_line (codes "completions") counts.completions
    ++ number_line (codes "finalizers") counts.finalizers
    ++ number_line (codes "hooks") counts.hooks
    ++ number_line (codes "withdrawn") counts.withdrawn
    ++ number_line (codes "refused") counts.refused
    ++ number_line (codes "payload") counts.payload
