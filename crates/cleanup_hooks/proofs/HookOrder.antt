-- What a change of the map by tickets is in the list of hooks.
use Rattle.std.proofs.Common.{◌≡◌, ◌∙◌, ℕ, suc, ◌-◌, ◌<◌, ◌==◌, Bool, true, false, not, cond, List, [], ◌∷◌, ◌++◌, length, Some, None, refl, ap, sym, arith}
use Rattle.std.specs.List.{All, AllByRecursion, slice_get}
use Rattle.std.specs.List.Sorted.{IsStrictlySortedBy}
use Rattle.std.specs.Map.{keys_of, lookup, remove_entry}
use Rattle.std.specs.BTreeMap.{insert_entry, is_at}
use Rattle.std.specs.Ordering.{nat_cmp, is_eq}
use Rattle.std.specs.declared.cmp.Ordering.TheVariants.{Less, Greater}
use Rattle.std.proofs.lemmas.List.Elements.{All-head, All-tail}
use Rattle.std.proofs.lemmas.Map.Keys.{sorted_head, sorted_tail}
use Rattle.napi_types.specs.parts.Hooks.{Hook, last_hook, without_hook}
use Rattle.cleanup_hooks.specs.declared.key.HookKey.{HookKey}
use Rattle.cleanup_hooks.specs.KeptHooks.{hook_of, hooks_of}
use Rattle.cleanup_hooks.proofs.Keys.{number-decides}
use Rattle.napi_types.proofs.plain.Found.{same-self}

-- the ticket of a hook is below n
abbrev IsBelow : ℕ → Hook → Type 0
IsBelow n h = h.ticket < n

-- an entry whose ticket is above all others is the last hook
pub hooks_of-insert_entry : (es : List (ℕ × HookKey)) (n : ℕ) (k : HookKey) → All (λ h. h.ticket < n) (hooks_of es) → hooks_of (insert_entry nat_cmp es n k) ≡ hooks_of es ++ hook_of (n, k) ∷ []
hooks_of-insert_entry [] n k below = refl
hooks_of-insert_entry (e ∷ es) n k below =
    let past : nat_cmp n e.0 ≡ Greater = after n e.0 (All-head (IsBelow n) (hook_of e) (hooks_of es) below) in
    rw past (ap (λ hs. hook_of e ∷ hs) (hooks_of-insert_entry es n k (All-tail (IsBelow n) (hook_of e) (hooks_of es) below)))
  where
    after : (a b : ℕ) → b < a → nat_cmp a b ≡ Greater
    after a b h = grind arith

-- no entry has such a ticket yet
pub lookup-past : (es : List (ℕ × HookKey)) (n : ℕ) → All (λ h. h.ticket < n) (hooks_of es) → lookup (is_at (nat_cmp n)) es ≡ None
lookup-past [] n below = refl
lookup-past (e ∷ es) n below =
    let past : is_eq (nat_cmp n e.0) ≡ false = apart n e.0 (All-head (IsBelow n) (hook_of e) (hooks_of es) below) in
    rw past (lookup-past es n (All-tail (IsBelow n) (hook_of e) (hooks_of es) below))
  where
    apart : (a b : ℕ) → b < a → is_eq (nat_cmp a b) ≡ false
    apart a b h = grind arith

-- hooks stay whose tickets are above n
without_hook-above : (es : List (ℕ × HookKey)) (n : ℕ) → AllByRecursion (λ m. nat_cmp n m ≡ Less) (keys_of es) → without_hook n (hooks_of es) ≡ hooks_of es
without_hook-above [] n above = refl
without_hook-above (e ∷ es) n above = rw (other n e.0 above.0) (ap (λ hs. hook_of e ∷ hs) (without_hook-above es n above.1))
  where
    other : (a b : ℕ) → nat_cmp a b ≡ Less → (b == a) ≡ false
    other a b h = grind arith

-- the entry of a ticket is its hook
pub hooks_of_remove_entry : (es : List (ℕ × HookKey)) (n : ℕ) → IsStrictlySortedBy nat_cmp (keys_of es) → hooks_of (remove_entry (is_at (nat_cmp n)) es) ≡ without_hook n (hooks_of es)
hooks_of_remove_entry [] n rising = refl
hooks_of_remove_entry (e ∷ es) n rising = by (is_eq (nat_cmp n e.0)) refl (hooks_of_remove_entry es n (sorted_tail nat_cmp e.0 (keys_of es) rising))
  where
    same-test : (a b : ℕ) → not (b == a) ≡ not (is_eq (nat_cmp a b))
    same-test a b = grind arith

    by : (b : Bool) → is_eq (nat_cmp n e.0) ≡ b → hooks_of (remove_entry (is_at (nat_cmp n)) es) ≡ without_hook n (hooks_of es)
        → hooks_of (cond b es (e ∷ remove_entry (is_at (nat_cmp n)) es)) ≡ without_hook n (hook_of e ∷ hooks_of es)
    by true is later =
        let same : n ≡ e.0 = (number-decides n e.0).0 is in
        let above : AllByRecursion (λ m. nat_cmp n m ≡ Less) (keys_of es) = rw same (sorted_head nat_cmp e.0 (keys_of es) rising) in
        rw (same-test n e.0, is) (sym (without_hook-above es n above))
    by false is later = rw (same-test n e.0, is) (ap (λ hs. hook_of e ∷ hs) later)

-- the last entry is the hook of its ticket
pub without_hook_push : (es : List (ℕ × HookKey)) (n : ℕ) (k : HookKey) → All (λ m. nat_cmp m n ≡ Less) (keys_of es) → without_hook n (hooks_of (es ++ (n, k) ∷ [])) ≡ hooks_of es
without_hook_push [] n k below = rw (same-self n) refl
without_hook_push (e ∷ es) n k below =
    let other : (e.0 == n) ≡ false = apart e.0 n (All-head (λ m. nat_cmp m n ≡ Less) e.0 (keys_of es) below) in
    rw other (ap (λ hs. hook_of e ∷ hs) (without_hook_push es n k (All-tail (λ m. nat_cmp m n ≡ Less) e.0 (keys_of es) below)))
  where
    apart : (a b : ℕ) → nat_cmp a b ≡ Less → (a == b) ≡ false
    apart a b h = grind arith

-- and the hook that was added last
pub last_hook_push : (es : List (ℕ × HookKey)) (e : ℕ × HookKey) → last_hook (hooks_of (es ++ e ∷ [])) ≡ Some (hook_of e)
last_hook_push [] e = refl
last_hook_push (f ∷ []) e = refl
last_hook_push (f ∷ g ∷ es) e = last_hook_push (g ∷ es) e

pub last_hook_at : (es : List (ℕ × HookKey)) (e : ℕ × HookKey) → slice_get es (length es - 1) ≡ Some e → last_hook (hooks_of es) ≡ Some (hook_of e)
last_hook_at [] e is = let no : ⊥ = cc in absurd no
last_hook_at (f ∷ []) e is = let same : f ≡ e = cc in ap (λ g. Some (hook_of g)) same
last_hook_at (f ∷ g ∷ es) e is = last_hook_at (g ∷ es) e (ap (slice_get (g ∷ es)) (less es) ∙ sym (ap (slice_get (f ∷ g ∷ es)) (place es)) ∙ is)
  where
    less : (es : List (ℕ × HookKey)) → suc (length es) - 1 ≡ length es
    less es = omega arith

    place : (es : List (ℕ × HookKey)) → suc (suc (length es)) - 1 ≡ suc (length es)
    place es = omega arith
