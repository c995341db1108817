-- The hooks of the list fit the asynchronous ones, whatever is added, removed or begins.
use Rattle.std.proofs.Common.{◌≡◌, ◌∙◌, ℕ, ◌<◌, ◌==◌, ◌||◌, Bool, true, false, cond, List, [], ◌∷◌, ◌++◌, map, Option, Some, None, option_map, IfSome, IsSome, refl, ap, sym, subst, arith, rules}
use Rattle.std.specs.List.{All, find, list_any}
use Rattle.std.specs.Option.{option_or}
use Rattle.std.proofs.lemmas.Bool.{or_from}
use Rattle.std.proofs.lemmas.Option.{same_Some}
use Rattle.std.proofs.lemmas.List.Elements.{All-head, All-tail, All-push, All-filter, All-weaker}
use Rattle.std.proofs.lemmas.List.Folds.{find-append, list_any-append, list_any_none}
use Rattle.napi_types.specs.plain.Lists.{has_number}
use Rattle.napi_types.specs.parts.AsyncHooks.{AsyncHook, HookState, Waiting, Abandoned, Removed, async_hook, is_waiting, in_state, with_async_hook, with_removed, with_begun, with_abandoned}
use Rattle.napi_types.specs.parts.Hooks.{Hook, without_hook}
use Rattle.napi_types.specs.environment.HookCalls.{unhooked}
use Rattle.napi_types.proofs.plain.Found.{apart-below, apart-above, same-self}
use Rattle.cleanup_hooks.specs.declared.key.HookKey.{HookKey}
use Rattle.cleanup_hooks.specs.HookLists.{HookLists, FitsNumber, AreNumbered}
use Rattle.cleanup_hooks.specs.KeptHooks.{has_key}

-- ONLY STATES CHANGE
-- a change that keeps number and ticket
abbrev pub KeepsNumberAndTicket : (AsyncHook → AsyncHook) → Type 0
KeepsNumberAndTicket f = (h : AsyncHook) → ((f h).number ≡ h.number) × ((f h).ticket ≡ h.ticket)

found-kept : (f : AsyncHook → AsyncHook) → KeepsNumberAndTicket f → (n : ℕ) (hooks : List AsyncHook) → option_map (λ h. h.ticket) (async_hook n (map f hooks)) ≡ option_map (λ h. h.ticket) (async_hook n hooks)
found-kept f keeps n [] = refl
found-kept f keeps n (h ∷ hs) = ap (λ m. option_map (λ (x : AsyncHook). x.ticket) (cond (m == n) (Some (f h)) (async_hook n (map f hs)))) (keeps h).0 ∙ by (h.number == n) (found-kept f keeps n hs)
  where
    by : (b : Bool) → option_map (λ (x : AsyncHook). x.ticket) (async_hook n (map f hs)) ≡ option_map (λ (x : AsyncHook). x.ticket) (async_hook n hs)
        → option_map (λ (x : AsyncHook). x.ticket) (cond b (Some (f h)) (async_hook n (map f hs))) ≡ option_map (λ (x : AsyncHook). x.ticket) (cond b (Some h) (async_hook n hs))
    by true later = ap Some (keeps h).1
    by false later = later

any-kept : (f : AsyncHook → AsyncHook) → KeepsNumberAndTicket f → (t : ℕ) (hooks : List AsyncHook) → list_any (λ h. h.ticket == t) (map f hooks) ≡ list_any (λ h. h.ticket == t) hooks
any-kept f keeps t [] = refl
any-kept f keeps t (h ∷ hs) =
    ap (λ m. (m == t) || list_any (λ (x : AsyncHook). x.ticket == t) (map f hs)) (keeps h).1 ∙ ap (λ b. (h.ticket == t) || b) (any-kept f keeps t hs)

fits-kept : (f : AsyncHook → AsyncHook) → KeepsNumberAndTicket f → (hooks : List AsyncHook) (t : ℕ) (n : Option ℕ) → FitsNumber hooks t n → FitsNumber (map f hooks) t n
fits-kept f keeps hooks t (Some n) fits = found-kept f keeps n hooks ∙ fits
fits-kept f keeps hooks t None fits = any-kept f keeps t hooks ∙ fits

numbered-kept : (f : AsyncHook → AsyncHook) → KeepsNumberAndTicket f → (hooks : List AsyncHook) (list : List Hook) → AreNumbered hooks list → AreNumbered (map f hooks) list
numbered-kept f keeps hooks list all =
    All-weaker (λ (h : Hook). FitsNumber hooks h.ticket h.number) (λ (h : Hook). FitsNumber (map f hooks) h.ticket h.number) (λ h fits. fits-kept f keeps hooks h.ticket h.number fits) list all

names-cond : (test : AsyncHook → Bool) (s : HookState) → KeepsNumberAndTicket (λ h. cond (test h) (in_state s h) h)
names-cond test s h = by (test h)
  where
    by : (b : Bool) → ((cond b (in_state s h) h).number ≡ h.number) × ((cond b (in_state s h) h).ticket ≡ h.ticket)
    by true = (refl, refl)
    by false = (refl, refl)

pub numbered-removed : (n : ℕ) (hooks : List AsyncHook) (list : List Hook) → AreNumbered hooks list → AreNumbered (with_removed n hooks) list
numbered-removed n hooks list all = numbered-kept (λ h. cond (h.number == n) (in_state Removed h) h) (names-cond (λ h. h.number == n) Removed) hooks list all

pub numbered-begun : (t : ℕ) (hooks : List AsyncHook) (list : List Hook) → AreNumbered hooks list → AreNumbered (with_begun t hooks) list
numbered-begun t hooks list all = numbered-kept (λ h. cond (h.ticket == t) (in_state Waiting h) h) (names-cond (λ h. h.ticket == t) Waiting) hooks list all

pub numbered-abandoned : (hooks : List AsyncHook) (list : List Hook) → AreNumbered hooks list → AreNumbered (with_abandoned hooks) list
numbered-abandoned hooks list all = numbered-kept (λ h. cond (is_waiting h.state) (in_state Abandoned h) h) (names-cond (λ h. is_waiting h.state) Abandoned) hooks list all

-- HOOKS LEAVE THE LIST
pub numbered-without : (t : ℕ) (hooks : List AsyncHook) (list : List Hook) → AreNumbered hooks list → AreNumbered hooks (without_hook t list)
numbered-without t hooks list all = All-filter _ (λ (h : Hook). FitsNumber hooks h.ticket h.number) list all

pub numbered-unhooked : (o : Option ℕ) (hooks : List AsyncHook) (list : List Hook) → AreNumbered hooks list → AreNumbered hooks (unhooked o list)
numbered-unhooked None hooks list all = all
numbered-unhooked (Some t) hooks list all = numbered-without t hooks list all

-- ONE HOOK MORE
-- a plain one, whose ticket is above those of all asynchronous ones
pub numbered-plain : (hooks : List AsyncHook) (list : List Hook) (h : Hook) → h.number ≡ None → All (λ x. x.ticket < h.ticket) hooks → AreNumbered hooks list → AreNumbered hooks (list ++ h ∷ [])
numbered-plain hooks list h plain below all =
    All-push (λ (x : Hook). FitsNumber hooks x.ticket x.number) list h all
    (subst (FitsNumber hooks h.ticket) (sym plain) (list_any_none (λ (x : AsyncHook). x.ticket == h.ticket) hooks
    (All-weaker (λ (x : AsyncHook). x.ticket < h.ticket) (λ (x : AsyncHook). (x.ticket == h.ticket) ≡ false) (λ x less. apart-below x.ticket h.ticket less) hooks below)))

-- an asynchronous one
fits-more : (hooks : List AsyncHook) (x : AsyncHook) (t : ℕ) (n : Option ℕ) → t < x.ticket → FitsNumber hooks t n → FitsNumber (hooks ++ x ∷ []) t n
fits-more hooks x t None below fits =
    list_any-append (λ (h : AsyncHook). h.ticket == t) hooks (x ∷ []) ∙ or_from (list_any (λ (h : AsyncHook). h.ticket == t) hooks) ((x.ticket == t) || false) fits
    (or_from (x.ticket == t) false (apart-above t x.ticket below) refl)
fits-more hooks x t (Some n) below fits =
    ap (option_map (λ (h : AsyncHook). h.ticket)) (find-append (λ (h : AsyncHook). h.number == n) hooks (x ∷ [])) ∙ by (async_hook n hooks) fits
  where
    by : (o : Option AsyncHook) → option_map (λ (h : AsyncHook). h.ticket) o ≡ Some t → option_map (λ (h : AsyncHook). h.ticket) (option_or o (async_hook n (x ∷ []))) ≡ Some t
    by (Some h) is = is
    by None is = let no : ⊥ = cc in absurd no

none-found : (n : ℕ) (hooks : List AsyncHook) → has_number n (map (λ h. h.number) hooks) ≡ false → async_hook n hooks ≡ None
none-found n [] fresh = refl
none-found n (h ∷ hs) fresh = by (h.number == n) fresh (λ f. none-found n hs f)
  where
    by : (b : Bool) → (b || has_number n (map (λ (x : AsyncHook). x.number) hs)) ≡ false → (has_number n (map (λ (x : AsyncHook). x.number) hs) ≡ false → async_hook n hs ≡ None)
        → cond b (Some h) (async_hook n hs) ≡ None
    by true fresh later = let no : ⊥ = cc in absurd no
    by false fresh later = later fresh

tail-fresh : (n : ℕ) (ns : List ℕ) → has_number n (0 ∷ ns) ≡ false → has_number n ns ≡ false
tail-fresh n ns fresh = by (0 == n) fresh
  where
    by : (b : Bool) → (b || has_number n ns) ≡ false → has_number n ns ≡ false
    by true fresh = let no : ⊥ = cc in absurd no
    by false fresh = fresh

fits-new : (hooks : List AsyncHook) (n t : ℕ) → has_number n (0 ∷ map (λ h. h.number) hooks) ≡ false → FitsNumber (with_async_hook n t hooks) t (Some n)
fits-new hooks n t fresh =
    let none : async_hook n hooks ≡ None = none-found n hooks (tail-fresh n (map (λ (h : AsyncHook). h.number) hooks) fresh) in
    ap (option_map (λ (h : AsyncHook). h.ticket)) (find-append (λ (h : AsyncHook). h.number == n) hooks _)
    ∙ rw (none, same-self n) refl

pub numbered-async : (hooks : List AsyncHook) (list : List Hook) (h : Hook) (n : ℕ) → h.number ≡ Some n → has_number n (0 ∷ map (λ x. x.number) hooks) ≡ false
    → All (λ x. x.ticket < h.ticket) list → AreNumbered hooks list → AreNumbered (with_async_hook n h.ticket hooks) (list ++ h ∷ [])
numbered-async hooks list h n is fresh below all =
    let more : List AsyncHook = with_async_hook n h.ticket hooks in
    All-push (λ (x : Hook). FitsNumber more x.ticket x.number) list h (each list below all)
    (subst (FitsNumber more h.ticket) (sym is) (fits-new hooks n h.ticket fresh))
  where
    each : (xs : List Hook) → All (λ x. x.ticket < h.ticket) xs → AreNumbered hooks xs → AreNumbered (with_async_hook n h.ticket hooks) xs
    each xs below all = λ i x inside. fits-more hooks _ _ _ (below i x inside) (all i x inside)

-- so no hook of the list is known by a number that is new
known-number : (key : HookKey) (h : Hook) (n : ℕ) → key.number ≡ Some n → has_key key h ≡ true → h.number ≡ Some n
known-number key h n is known = grind arith

pub new-unknown : (hooks : List AsyncHook) (list : List Hook) (key : HookKey) (n : ℕ) → key.number ≡ Some n → has_number n (0 ∷ map (λ x. x.number) hooks) ≡ false
    → AreNumbered hooks list → find (has_key key) list ≡ None
new-unknown hooks [] key n is fresh all = refl
new-unknown hooks (h ∷ hs) key n is fresh all = by (has_key key h) refl (new-unknown hooks hs key n is fresh (All-tail (λ (x : Hook). FitsNumber hooks x.ticket x.number) h hs all))
  where
    P : Hook → Type 0
    P x = FitsNumber hooks x.ticket x.number

    by : (b : Bool) → has_key key h ≡ b → find (has_key key) hs ≡ None → cond b (Some h) (find (has_key key) hs) ≡ None
    by true known later =
        let fits : FitsNumber hooks h.ticket (Some n) = subst (FitsNumber hooks h.ticket) (known-number key h n is known) (All-head P h hs all) in
        let none : async_hook n hooks ≡ None = none-found n hooks (tail-fresh n (map (λ (x : AsyncHook). x.number) hooks) fresh) in
        let no : ⊥ = cc in absurd no
    by false known later = later

-- A HOOK THAT WAS ADDED IS TAKEN OUT AGAIN
pub without-added : (list : List Hook) (h : Hook) → All (λ x. x.ticket < h.ticket) list → without_hook h.ticket (list ++ h ∷ []) ≡ list
without-added [] h below = rw (same-self h.ticket) refl
without-added (x ∷ xs) h below =
    rw (apart-below x.ticket h.ticket (All-head (λ (y : Hook). y.ticket < h.ticket) x xs below))
    (ap (λ hs. x ∷ hs) (without-added xs h (All-tail (λ (y : Hook). y.ticket < h.ticket) x xs below)))

-- A HOOK BEGINS
other-apart : (t : ℕ) (hooks : List AsyncHook) → list_any (λ h. h.ticket == t) hooks ≡ false → with_begun t hooks ≡ hooks
other-apart t [] none = refl
other-apart t (h ∷ hs) none = by (h.ticket == t) none (λ n. other-apart t hs n)
  where
    by : (b : Bool) → (b || list_any (λ (x : AsyncHook). x.ticket == t) hs) ≡ false → (list_any (λ (x : AsyncHook). x.ticket == t) hs ≡ false → with_begun t hs ≡ hs)
        → cond b (in_state Waiting h) h ∷ with_begun t hs ≡ h ∷ hs
    by true none later = let no : ⊥ = cc in absurd no
    by false none later = ap (λ xs. h ∷ xs) (later none)

-- a plain hook begins: no asynchronous one does
pub plain-begins : (hooks : List AsyncHook) (t : ℕ) (n : Option ℕ) → n ≡ None → FitsNumber hooks t n → with_begun t hooks ≡ hooks
plain-begins hooks t None is fits = other-apart t hooks fits
plain-begins hooks t (Some m) is fits = let no : ⊥ = cc in absurd no

-- the asynchronous one of its number begins
pub async-begins : (hooks new : List AsyncHook) (t n : ℕ) → FitsNumber hooks t (Some n) → IfSome (async_hook n hooks) (λ h. new ≡ with_begun h.ticket hooks) → new ≡ with_begun t hooks
async-begins hooks new t n fits begun = by (async_hook n hooks) fits begun
  where
    by : (o : Option AsyncHook) → option_map (λ (h : AsyncHook). h.ticket) o ≡ Some t → IfSome o (λ h. new ≡ with_begun h.ticket hooks) → new ≡ with_begun t hooks
    by (Some h) is begun = begun ∙ ap (λ m. with_begun m hooks) (same_Some h.ticket t is)
    by None is begun = let no : ⊥ = cc in absurd no

pub async-there : (hooks : List AsyncHook) (t n : ℕ) → FitsNumber hooks t (Some n) → IsSome (async_hook n hooks)
async-there hooks t n fits = by (async_hook n hooks) fits
  where
    by : (o : Option AsyncHook) → option_map (λ (h : AsyncHook). h.ticket) o ≡ Some t → IsSome o
    by (Some h) is = search rules
    by None is = let no : ⊥ = cc in absurd no

-- the last hook of the list fits
All-back : (P : Hook → Type 0) (xs ys : List Hook) → All P (xs ++ ys) → All P ys
All-back P [] ys all = all
All-back P (x ∷ xs) ys all = All-back P xs ys (All-tail P x (xs ++ ys) all)

last-fits : (hooks : List AsyncHook) (list rest : List Hook) (h : Hook) → list ≡ rest ++ h ∷ [] → AreNumbered hooks list → FitsNumber hooks h.ticket h.number
last-fits hooks list rest h is all =
    let P : Hook → Type 0 = λ x. FitsNumber hooks x.ticket x.number in
    All-head P h [] (All-back P rest (h ∷ []) (subst (All P) is all))

pub taken-fits : (hooks : List AsyncHook) (list rest : List Hook) (t : ℕ) (n : Option ℕ) → (h : Hook) × (h.ticket ≡ t) × (h.number ≡ n) × (list ≡ rest ++ h ∷ []) → AreNumbered hooks list
    → FitsNumber hooks t n
taken-fits hooks list rest t n (h, same_ticket, same_number, is) all = rw (← same_ticket, ← same_number) (last-fits hooks list rest h is all)

-- BOTH LISTS
pub lists-same : (a b : List Hook) (x y : List AsyncHook) → a ≡ b → x ≡ y → ◌≡◌ {A = HookLists} (record { hooks = a; async_hooks = x }) (record { hooks = b; async_hooks = y })
lists-same a b x y left right = ap (λ (hs : List Hook). record { hooks = hs; async_hooks = x }) left ∙ ap (λ (hs : List AsyncHook). record { hooks = b; async_hooks = hs }) right
