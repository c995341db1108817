-- The two maps stay each other turned round where a hook is added to both, or removed from both.
use Rattle.std.proofs.Common.{◌≡◌, ◌∙◌, ℕ, Bool, true, false, cond, Some, None, refl, ap, sym}
use Rattle.std.specs.Map.{lookup}
use Rattle.std.specs.BTreeMap.{BTreeMap, IsOrdered, get, is_at}
use Rattle.std.specs.Ordering.{nat_cmp, eq_by_cmp}
use Rattle.cleanup_hooks.specs.declared.key.HookKey.{HookKey}
use Rattle.cleanup_hooks.specs.KeptHooks.{key_cmp, AreKeptHooks}
use Rattle.cleanup_hooks.proofs.Keys.{number-decides, key-decides}
use Rattle.cleanup_hooks.proofs.Turned.{turned-put, turned-taken}

module _ (by_ticket new_by_ticket : BTreeMap ℕ HookKey) (by_key new_by_key : BTreeMap HookKey ℕ) (n : ℕ) (k : HookKey) where
  -- the ticket n and the key k are now in both, and were in none
  pub kept-added : AreKeptHooks by_ticket by_key → get nat_cmp by_ticket n ≡ None → get key_cmp by_key k ≡ None
      → ((m : ℕ) → get nat_cmp new_by_ticket m ≡ cond (eq_by_cmp nat_cmp n m) (Some k) (get nat_cmp by_ticket m))
      → ((l : HookKey) → get key_cmp new_by_key l ≡ cond (eq_by_cmp key_cmp k l) (Some n) (get key_cmp by_key l))
      → IsOrdered nat_cmp new_by_ticket → AreKeptHooks new_by_ticket new_by_key
  kept-added kept no_ticket no_key at_ticket at_key rising = record {
    rising = rising;
    known = turned-put _ _ number-decides key-decides _ _ _ _ n k kept.known no_key at_ticket at_key;
    numbered = λ m l. turned-put _ _ key-decides number-decides _ _ _ _ k n (λ l m. kept.numbered m l) no_ticket at_key at_ticket l m;
  }

  -- they are now in none, and were in both
  pub kept-removed : AreKeptHooks by_ticket by_key → get nat_cmp by_ticket n ≡ Some k
      → ((m : ℕ) → get nat_cmp new_by_ticket m ≡ cond (eq_by_cmp nat_cmp n m) None (get nat_cmp by_ticket m))
      → ((l : HookKey) → get key_cmp new_by_key l ≡ cond (eq_by_cmp key_cmp k l) None (get key_cmp by_key l))
      → IsOrdered nat_cmp new_by_ticket → AreKeptHooks new_by_ticket new_by_key
  kept-removed kept there at_ticket at_key rising = record {
    rising = rising;
    known = turned-taken _ _ number-decides key-decides _ _ _ _ n k kept.known (kept.known n k there) at_ticket at_key;
    numbered = λ m l. turned-taken _ _ key-decides number-decides _ _ _ _ k n (λ l m. kept.numbered m l) there at_key at_ticket l m;
  }

  -- the key was put into one of them, and taken out again
  pub kept-restored : (between : BTreeMap HookKey ℕ) → AreKeptHooks by_ticket by_key → get key_cmp by_key k ≡ None → new_by_ticket.entries ≡ by_ticket.entries
      → ((l : HookKey) → get key_cmp between l ≡ cond (eq_by_cmp key_cmp k l) (Some n) (get key_cmp by_key l))
      → ((l : HookKey) → get key_cmp new_by_key l ≡ cond (eq_by_cmp key_cmp k l) None (get key_cmp between l))
      → IsOrdered nat_cmp new_by_ticket → AreKeptHooks new_by_ticket new_by_key
  kept-restored between kept no_key same put taken rising = record {
    rising = rising;
    known = λ m l is. restored l ∙ kept.known m l (sym (stays m) ∙ is);
    numbered = λ m l is. stays m ∙ kept.numbered m l (sym (restored l) ∙ is);
  }
    where
      stays : (m : ℕ) → get nat_cmp new_by_ticket m ≡ get nat_cmp by_ticket m
      stays m = ap (λ es. lookup (is_at (nat_cmp m)) es) same

      by : (l : HookKey) (b : Bool) → eq_by_cmp key_cmp k l ≡ b → cond b None (cond b (Some n) (get key_cmp by_key l)) ≡ get key_cmp by_key l
      by l true is = sym no_key ∙ ap (get key_cmp by_key) ((key-decides k l).0 is)
      by l false is = refl

      restored : (l : HookKey) → get key_cmp new_by_key l ≡ get key_cmp by_key l
      restored l = taken l ∙ ap (cond (eq_by_cmp key_cmp k l) None) (put l) ∙ by l (eq_by_cmp key_cmp k l) refl
