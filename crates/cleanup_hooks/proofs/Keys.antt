-- The tests of the two maps and of the list find what is the same, and nothing else.
use Rattle.std.proofs.Common.{◌≡◌, ℕ, true, arith, Decides}
use Rattle.std.specs.Ordering.{nat_cmp, is_eq, eq_by_cmp}
use Rattle.cleanup_hooks.specs.declared.key.HookKey.{HookKey}
use Rattle.cleanup_hooks.specs.KeptHooks.{key_cmp, hook_of, has_key}

pub number-decides : (m n : ℕ) → Decides (eq_by_cmp nat_cmp m n) (m ≡ n)
number-decides m n = (λ h. grind arith, λ h. grind arith)

key-same : (k l : HookKey) → is_eq (key_cmp k l) ≡ true → k ≡ l
key-same k l h = grind arith

same-key : (k : HookKey) → is_eq (key_cmp k k) ≡ true
same-key k = grind arith

pub key-decides : (k l : HookKey) → Decides (eq_by_cmp key_cmp k l) (k ≡ l)
key-decides k l = (key-same k l, λ h. rw (← h) (same-key k))

-- by the test of the list
pub same-hook : (k : HookKey) (n : ℕ) → has_key k (hook_of (n, k)) ≡ true
same-hook k n = grind arith

pub hook-same : (k l : HookKey) (n : ℕ) → has_key k (hook_of (n, l)) ≡ true → k ≡ l
hook-same k l n h = grind arith
