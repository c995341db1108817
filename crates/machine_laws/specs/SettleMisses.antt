-- Near misses of what becomes of asynchronous hooks: entries as those of two worked runs in which one is left out, comes besides, or tells otherwise.
use Rattle.std.specs.Prelude.{◌≡◌, ℕ, List, ◌∷◌, ◌++◌, set, take, drop, None}
use Rattle.napi_types.specs.declared.entry.Entry.{Entry}
use Rattle.napi_types.specs.declared.status.Status.TheVariants as status
use Rattle.napi_types.specs.all_runs.AbandonedHooks.{SettlesHooks}
use Rattle.machine_laws.specs.HookAbandoned as hook_abandoned
use Rattle.machine_laws.specs.HookRemovedByCompletion as hook_removed
use Rattle.machine_laws.specs.HubWords.{next_after, abandons}
use Rattle.machine_laws.specs.RunWords.{ticket, left_out}

-- where a hook is abandoned, `abandon` comes twice
abbrev pub abandoned_twice : List Entry
abandoned_twice = take 12 hook_abandoned.trace ++ abandons 1 ∷ drop 12 hook_abandoned.trace

-- where a completion removes a hook, the removal is refused
abbrev pub removal_refused : List Entry
removal_refused = set hook_removed.trace 18 (hook_removed.removed 5 status.InvalidArg None)

-- the hooks of the two runs are settled, and not those of these entries
pub record SettlingIsStrict : Type 0 where
  pub abandoned : SettlesHooks hook_abandoned.trace
  pub removed : SettlesHooks hook_removed.trace
  -- the drain comes though the hook was not abandoned, ..
  pub unabandoned : SettlesHooks (left_out 11 hook_abandoned.trace) → ⊥
  -- .. or nobody removed it, or the removal was refused, or removed another one, ..
  pub unremoved : SettlesHooks (left_out 18 hook_removed.trace) → ⊥
  pub refused : SettlesHooks removal_refused → ⊥
  pub another : SettlesHooks (set hook_removed.trace 18 (hook_removed.removed 6 status.Ok None)) → ⊥
  -- .. or `abandon` tells another number, ..
  pub miscounted : (n : ℕ) → SettlesHooks (set hook_abandoned.trace 11 (abandons n)) → n ≡ 1
  -- .. or comes before the hook has begun, or where each was removed, or twice, ..
  pub early : (n : ℕ) → SettlesHooks (set hook_abandoned.trace 9 (abandons n)) → ⊥
  pub idle : (n : ℕ) → SettlesHooks (next_after 20 hook_removed.trace (abandons n)) → ⊥
  pub twice : SettlesHooks abandoned_twice → ⊥
  -- .. or two hooks have one number
  pub doubled : SettlesHooks (set hook_abandoned.trace 3 (hook_abandoned.added_again 5 (ticket 2))) → ⊥
