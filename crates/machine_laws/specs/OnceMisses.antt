-- Near misses of what becomes of duties: entries as those of a run in which one duty is made, withdrawn or begun otherwise.
use Rattle.std.specs.Prelude.{List, [], ◌++◌, set}
use Rattle.napi_types.specs.declared.call.Call.TheVariants as call
use Rattle.napi_types.specs.declared.entry.Entry.{Entry}
use Rattle.napi_types.specs.declared.entry.Out.TheVariants as out
use Rattle.napi_types.specs.declared.status.Status.TheVariants as status
use Rattle.napi_types.specs.all_runs.Counts.{Once}
use Rattle.machine_laws.specs.RunWords.{call_dropping, ticket, handle}
use Rattle.machine_laws.specs.WrapTwice.{trace, trace_with, wrapped_again, runs}

-- in the run a first finalizer is withdrawn, and a second one begins once. The question for the payload withdraws that one in place of its begin, ..
abbrev pub withdrawn_elsewhere : List Entry
withdrawn_elsewhere = set (trace_with []) 8 (call_dropping 6 (call.Unwrap (handle 1)) status.Ok (out.Unsigned 7) (ticket 2))

-- .. and the removal withdraws the first one, and is refused
abbrev pub withdrawn_where_refused : List Entry
withdrawn_where_refused = set trace 6 (call_dropping 4 (call.RemoveWrap (handle 1)) status.InvalidArg out.Nothing (ticket 1))

-- each duty is once in the run, and not in these
pub record OnceIsStrict : Type 0 where
  pub run : Once trace
  -- the finalizer that is not withdrawn begins twice, ..
  pub twice : Once (trace_with (runs 2 ++ runs 2)) → ⊥
  -- .. or never, ..
  pub never : Once (trace_with []) → ⊥
  -- .. or the withdrawn one begins besides, ..
  pub withdrawn : Once (trace_with (runs 1 ++ runs 2)) → ⊥
  -- .. or one that no call made, ..
  pub unmade : Once (trace_with (runs 2 ++ runs 3)) → ⊥
  -- .. or two calls make the same one, ..
  pub remade : Once (set trace 5 (wrapped_again status.Ok (ticket 2))) → ⊥
  -- .. or a call withdraws one that is none of those which may, or is refused
  pub elsewhere : Once withdrawn_elsewhere → ⊥
  pub refused : Once withdrawn_where_refused → ⊥
