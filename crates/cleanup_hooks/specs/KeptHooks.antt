-- How the two maps stand for the list of hooks.
use Rattle.std.specs.Prelude.{◌≡◌, ℕ, ◌==◌, Bool, false, ◌&&◌, List, map, Option, Some, None, is_none}
use Rattle.std.specs.Option.{option_cmp, option_map_or}
use Rattle.std.specs.declared.cmp.Ordering.{Ordering}
use Rattle.std.specs.Ordering.{nat_cmp, ordering_then}
use Rattle.std.specs.BTreeMap.{BTreeMap, IsOrdered, get}
use Rattle.napi_types.specs.parts.Hooks.{Hook}
use Rattle.cleanup_hooks.specs.declared.key.HookKey.{HookKey}

-- the order of what hooks are known by: by the addon, then by the entry, then by the argument, and then by the number
abbrev pub key_cmp : HookKey → HookKey → Ordering
key_cmp k l = ordering_then (nat_cmp k.addon l.addon) (ordering_then (nat_cmp k.entry l.entry)
    (ordering_then (nat_cmp k.argument l.argument) (option_cmp nat_cmp k.number l.number)))

-- the hook of a ticket that is known so
abbrev pub hook_of : ℕ × HookKey → Hook
hook_of e = record { addon = e.1.addon; entry = e.1.entry; argument = e.1.argument; ticket = e.0; number = e.1.number }

-- a hook has this number, or none
abbrev pub has_number_of : Option ℕ → Option ℕ → Bool
has_number_of None m = is_none m
has_number_of (Some n) m = option_map_or (λ k. k == n) m false

-- a hook is known so
abbrev pub has_key : HookKey → Hook → Bool
has_key k h = (h.addon == k.addon) && (h.entry == k.entry) && (h.argument == k.argument) && has_number_of k.number h.number

-- the hooks, in the order of their tickets
abbrev pub hooks_of : List (ℕ × HookKey) → List Hook
hooks_of es = map hook_of es

-- the tickets rise, and each of the two maps is the other turned round: so no two hooks are known by the same
pub record AreKeptHooks (by_ticket : BTreeMap ℕ HookKey) (by_key : BTreeMap HookKey ℕ) : Type 0 where
  pub rising : IsOrdered nat_cmp by_ticket
  pub known : (ticket : ℕ) (key : HookKey) → get nat_cmp by_ticket ticket ≡ Some key → get key_cmp by_key key ≡ Some ticket
  pub numbered : (ticket : ℕ) (key : HookKey) → get key_cmp by_key key ≡ Some ticket → get nat_cmp by_ticket ticket ≡ Some key
