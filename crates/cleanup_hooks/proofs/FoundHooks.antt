-- What the map by keys finds is the ticket of the hook that is known so.
use Rattle.std.proofs.Common.{◌≡◌, ◌∙◌, ℕ, zero, suc, Bool, true, false, cond, List, [], ◌∷◌, Option, Some, None, option_map, refl, ap, sym}
use Rattle.std.specs.List.{find, slice_get}
use Rattle.std.specs.BTreeMap.{BTreeMap, get, is_at}
use Rattle.std.specs.Ordering.{nat_cmp}
use Rattle.std.proofs.lemmas.Cmp.{nat_cmp_total}
use Rattle.std.proofs.lemmas.Map.Entries.{btree_map_get_place, place_from_lookup}
use Rattle.napi_types.specs.parts.Hooks.{Hook}
use Rattle.cleanup_hooks.specs.declared.key.HookKey.{HookKey}
use Rattle.cleanup_hooks.specs.KeptHooks.{key_cmp, hook_of, hooks_of, has_key, AreKeptHooks}
use Rattle.cleanup_hooks.proofs.Keys.{same-hook, hook-same}

-- the hook h passes a test, and stands at a place
record HookStandsAt (test : Hook → Bool) (es : List (ℕ × HookKey)) (h : Hook) : Type 0 where
  place : ℕ
  entry : ℕ × HookKey
  there : slice_get es place ≡ Some entry
  hook : h ≡ hook_of entry
  passes : test h ≡ true

-- a hook that is found passes, and stands somewhere
found-place : (test : Hook → Bool) (es : List (ℕ × HookKey)) (h : Hook) → find test (hooks_of es) ≡ Some h → HookStandsAt test es h
found-place test [] h is = let no : ⊥ = cc in absurd no
found-place test (e ∷ es) h is = by (test (hook_of e)) refl is (found-place test es h)
  where
    by : (b : Bool) → test (hook_of e) ≡ b → cond b (Some (hook_of e)) (find test (hooks_of es)) ≡ Some h → (find test (hooks_of es) ≡ Some h → HookStandsAt test es h) → HookStandsAt test (e ∷ es) h
    by true here told later = let same : hook_of e ≡ h = cc in record { place = 0; entry = e; there = refl; hook = sym same; passes = ap test (sym same) ∙ here }
    by false here told later = let past = later told in record { place = suc past.place; entry = past.entry; there = past.there; hook = past.hook; passes = past.passes }

-- where none passes it, none does at any place
none-passes : (test : Hook → Bool) (es : List (ℕ × HookKey)) (i : ℕ) (e : ℕ × HookKey) → find test (hooks_of es) ≡ None → slice_get es i ≡ Some e → test (hook_of e) ≡ false
none-passes test [] i e none is = let no : ⊥ = cc in absurd no
none-passes test (f ∷ es) i e none is = by i is (test (hook_of f)) refl none (λ j. none-passes test es j e)
  where
    by : (i : ℕ) → slice_get (f ∷ es) i ≡ Some e → (b : Bool) → test (hook_of f) ≡ b → cond b (Some (hook_of f)) (find test (hooks_of es)) ≡ None
        → ((j : ℕ) → find test (hooks_of es) ≡ None → slice_get es j ≡ Some e → test (hook_of e) ≡ false) → test (hook_of e) ≡ false
    by i is true here told later = let no : ⊥ = cc in absurd no
    by zero is false here told later = let same : f ≡ e = cc in ap (λ g. test (hook_of g)) (sym same) ∙ here
    by (suc i) is false here told later = later i told is

pub found : (by_ticket : BTreeMap ℕ HookKey) (by_key : BTreeMap HookKey ℕ) → AreKeptHooks by_ticket by_key → (key : HookKey) → get key_cmp by_key key
    ≡ option_map (λ h. h.ticket) (find (has_key key) (hooks_of by_ticket.entries))
found by_ticket by_key kept key = by (find test (hooks_of by_ticket.entries)) refl (get key_cmp by_key key) refl
  where
    test : Hook → Bool
    test = has_key key

    by : (o : Option Hook) → find test (hooks_of by_ticket.entries) ≡ o → (t : Option ℕ) → get key_cmp by_key key ≡ t → t ≡ option_map (λ (h : Hook). h.ticket) o
    by None is None got = refl
    by (Some h) is t got =
        let place = found-place test by_ticket.entries h is in
        let e = place.entry in
        let same : key ≡ e.1 = hook-same key e.1 e.0 (ap test (sym place.hook) ∙ place.passes) in
        let there : get nat_cmp by_ticket e.0 ≡ Some e.1 = btree_map_get_place nat_cmp_total by_ticket place.place e.0 e.1 kept.rising place.there in
        let told : get key_cmp by_key e.1 ≡ Some e.0 = kept.known e.0 e.1 there in
        sym got ∙ ap (get key_cmp by_key) same ∙ told ∙ ap (λ (g : Hook). Some g.ticket) (sym place.hook)
    by None is (Some n) got =
        let there = kept.numbered n key got in
        let place = place_from_lookup (is_at (nat_cmp n)) by_ticket.entries key there in
        let fails = none-passes test by_ticket.entries place.0 (place.1, key) is place.2 in
        let passes = same-hook key place.1 in
        let no : ⊥ = cc in absurd no
