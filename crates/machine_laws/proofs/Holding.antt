-- What the open scopes of all frames hold, as scopes change.
use Rattle.std.proofs.Common.{◌≡◌, ◌<◌, ◌≤◌, arith, ℕ, ◌+◌, ◌==◌, Bool, true, false, ◌&&◌, cond, List, [], ◌∷◌, ◌++◌, map, refl, ap, subst, inl, inr, ◌⊎◌, Option, Some, None, option_map}
use Rattle.std.specs.List.{All, count_by}
use Rattle.std.specs.Option.{option_or}
use Rattle.std.proofs.lemmas.Bool.{eqb-true, eq-eqb, and_from, and_parts}
use Rattle.std.proofs.lemmas.List.Elements.{All-head, All-tail}
use Rattle.std.proofs.lemmas.Option.{same_Some, none-some}
use Rattle.napi_types.specs.declared.ids.ScopeKind.{ScopeKind}
use Rattle.napi_types.specs.plain.Lists.{first_changed, tail, singleton, found}
use Rattle.napi_types.specs.parts.ScopeChanges.{hold_at, hold_in, open_in, close_in, inside, escape_at, escape_in}
use Rattle.napi_types.specs.parts.Scopes.{OpenHandle, Scope, FrameScopes, no_handles, value_in, value_in_scopes, gives, held_by_scopes, held_by_frame, held_by_frames}
use Rattle.machine_laws.specs.Consistency.{held_handles, values_of_handles}
use Rattle.napi_types.proofs.plain.Tallies.{tally-append}
use Rattle.machine_laws.proofs.Counting.{Within, within-map, one_when, count-cons}

-- ONE FRAME
-- how often what passes a test is held by a frame, and by its scopes
in-frame : (p : OpenHandle → Bool) (f : FrameScopes) → count_by p (held_by_frame f) ≡ count_by p f.own + count_by p (held_by_scopes f.opened)
in-frame p f = tally-append p f.own (held_by_scopes f.opened)

in-scopes : (p : OpenHandle → Bool) (s : Scope) (ss : List Scope) → count_by p (held_by_scopes (s ∷ ss)) ≡ count_by p (held_by_scopes ss) + count_by p s.held
in-scopes p s ss = tally-append p (held_by_scopes ss) s.held

in-inside : (p : OpenHandle → Bool) (s : Scope) (f : FrameScopes) → count_by p (held_by_frame (inside s f)) ≡ count_by p (held_by_frame f) + count_by p s.held
in-inside p s f = omega (arith, in-frame p (inside s f), in-frame p f, in-scopes p s f.opened)

-- a frame's scopes become others, which hold no more than they did, and these handles
abbrev pub HoldsMore : List OpenHandle → FrameScopes → FrameScopes → Type 0
HoldsMore more old new = Within (held_by_frame new) (held_by_frame old) more

holds-at : (x : OpenHandle) (own : List OpenHandle) (ss : List Scope) → HoldsMore (singleton x) (record { own = own; opened = ss }) (hold_at x own ss)
holds-at x own [] p =
    omega (
      arith,
      in-frame p (record { own = own ++ singleton x; opened = [] }),
      in-frame p (record { own = own; opened = [] }),
      tally-append p own
          (singleton x),
    )
holds-at x own (s ∷ ss) p =
    omega (
      arith,
      in-inside p (record s { held = s.held ++ singleton x }) (record { own = own; opened = ss }),
      in-inside p s (record { own = own; opened = ss }),
      tally-append p s.held (singleton x),
    )

pub holds-in : (x : OpenHandle) (f : FrameScopes) → HoldsMore (singleton x) f (hold_in x f)
holds-in x f = holds-at x f.own f.opened

pub opens-in : (kind : ScopeKind) (n : ℕ) (f : FrameScopes) → HoldsMore [] f (open_in kind n f)
opens-in kind n f p = omega (arith, in-inside p (record { number = n; kind = kind; used = false; held = [] }) f)

closes-from : (own : List OpenHandle) (ss : List Scope) → HoldsMore [] (record { own = own; opened = ss }) (record { own = own; opened = tail ss })
closes-from own [] p = omega arith
closes-from own (s ∷ ss) p = omega (arith, in-inside p s (record { own = own; opened = ss }))

pub closes-in : (f : FrameScopes) → HoldsMore [] f (close_in f)
closes-in f = closes-from f.own f.opened

escapes-at : (n : ℕ) (x : OpenHandle) (own : List OpenHandle) (ss : List Scope)
    → HoldsMore (singleton x) (record { own = own; opened = ss }) (escape_at n x own ss)
escapes-at n x own [] p = omega arith
escapes-at n x own (s ∷ ss) p = here (s.number == n) (escapes-at n x own ss p)
  where
    frame : FrameScopes
    frame = record { own = own; opened = ss }

    after : Bool → FrameScopes
    after b = cond b (inside (record s { used = true }) (hold_at x own ss)) (inside s (escape_at n x own ss))

    here : (b : Bool) → count_by p (held_by_frame (escape_at n x own ss)) ≤ count_by p (held_by_frame frame) + count_by p (singleton x)
        → count_by p (held_by_frame (after b)) ≤ count_by p (held_by_frame (inside s frame)) + count_by p (singleton x)
    here true later = omega (arith, in-inside p (record s { used = true }) (hold_at x own ss), in-inside p s frame, holds-at x own ss p)
    here false later = omega (arith, later, in-inside p s (escape_at n x own ss), in-inside p s frame)

pub escapes-in : (n : ℕ) (x : OpenHandle) (f : FrameScopes) → HoldsMore (singleton x) f (escape_in n x f)
escapes-in n x f = escapes-at n x f.own f.opened

-- ALL FRAMES
in-frames : (p : OpenHandle → Bool) (f : FrameScopes) (fs : List FrameScopes)
    → count_by p (held_by_frames (f ∷ fs)) ≡ count_by p (held_by_frames fs) + count_by p (held_by_frame f)
in-frames p f fs = tally-append p (held_by_frames fs) (held_by_frame f)

pub holds-first : (more : List OpenHandle) (change : FrameScopes → FrameScopes) (fs : List FrameScopes) → ((f : FrameScopes) → HoldsMore more f (change f))
    → Within (held_by_frames (first_changed change fs)) (held_by_frames fs) more
holds-first more change [] h p = omega arith
holds-first more change (f ∷ fs) h p = omega (arith, h f p, in-frames p f fs, in-frames p (change f) fs)

pub holds-entered : (fs : List FrameScopes) → Within (held_by_frames (no_handles ∷ fs)) (held_by_frames fs) []
holds-entered fs p = omega (arith, in-frames p no_handles fs)

pub holds-left : (fs : List FrameScopes) → Within (held_by_frames (tail fs)) (held_by_frames fs) []
holds-left [] p = omega arith
holds-left (f ∷ fs) p = omega (arith, in-frames p f fs)

-- so is it with the handles, and with their values
pub within-handles : (fs gs : List FrameScopes) (more : List OpenHandle) → Within (held_by_frames fs) (held_by_frames gs) more
    → Within (held_handles fs) (held_handles gs) (map (λ x. x.handle) more)
within-handles fs gs more w = within-map (λ (x : OpenHandle). x.handle) (held_by_frames fs) (held_by_frames gs) more w

pub within-values : (fs gs : List FrameScopes) (more : List OpenHandle) → Within (held_by_frames fs) (held_by_frames gs) more
    → Within (values_of_handles fs) (values_of_handles gs) (map (λ x. x.value) more)
within-values fs gs more w = within-map (λ (x : OpenHandle). x.value) (held_by_frames fs) (held_by_frames gs) more w

-- THE VALUE OF A HANDLE
-- a handle of that number that is to that value
abbrev pub is_held_as : ℕ → ℕ → OpenHandle → Bool
is_held_as h v x = (x.handle == h) && (x.value == v)

cases-or : (a b : Option ℕ) (v : ℕ) → option_or a b ≡ Some v → (a ≡ Some v) ⊎ (b ≡ Some v)
cases-or None b v h = inr h
cases-or (Some w) b v h = inl h

held-in : (hs : List OpenHandle) (h v : ℕ) → value_in hs h ≡ Some v → 0 < count_by (is_held_as h v) hs
held-in [] h v e = absurd (none-some v e)
held-in (x ∷ hs) h v e = here (x.handle == h) refl e (held-in hs h v)
  where
    here : (b : Bool) → (x.handle == h) ≡ b → option_map (λ (y : OpenHandle). y.value) (cond b (Some x) (found (λ (y : OpenHandle). y.handle) h hs)) ≡ Some v
        → (value_in hs h ≡ Some v → 0 < count_by (is_held_as h v) hs) → 0 < count_by (is_held_as h v) (x ∷ hs)
    here true same is later =
        let both : is_held_as h v x ≡ true = and_from (x.handle == h) (x.value == v) same (eq-eqb x.value v (same_Some x.value v is)) in
        omega (arith, count-cons (is_held_as h v) x hs, ap one_when both)
    here false other is later = omega (arith, later is, count-cons (is_held_as h v) x hs)

held-in-scopes : (ss : List Scope) (h v : ℕ) → value_in_scopes ss h ≡ Some v → 0 < count_by (is_held_as h v) (held_by_scopes ss)
held-in-scopes [] h v e = absurd (none-some v e)
held-in-scopes (s ∷ ss) h v e =
    elim (cases-or (value_in s.held h) (value_in_scopes ss h) v e) [
      | inl here ↦ omega (arith, held-in s.held h v here, in-scopes (is_held_as h v) s ss)
      | inr later ↦ omega (arith, held-in-scopes ss h v later, in-scopes (is_held_as h v) s ss)
    ]

-- a handle's value is that of a handle that is held
pub gives-held : (fs : List FrameScopes) (h v : ℕ) → gives fs h ≡ Some v → 0 < count_by (is_held_as h v) (held_by_frames fs)
gives-held [] h v e = absurd (none-some v e)
gives-held (f ∷ fs) h v e =
    elim (cases-or (value_in_scopes f.opened h) (option_or (value_in f.own h) (gives fs h)) v e) [
      | inl opened ↦ omega (arith, held-in-scopes f.opened h v opened, in-frame (is_held_as h v) f, in-frames (is_held_as h v) f fs)
      | inr rest ↦
          elim (cases-or (value_in f.own h) (gives fs h) v rest) [
            | inl own ↦ omega (arith, held-in f.own h v own, in-frame (is_held_as h v) f, in-frames (is_held_as h v) f fs)
            | inr outer ↦ omega (arith, gives-held fs h v outer, in-frames (is_held_as h v) f fs)
          ]
    ]

-- what holds of each handle's number, or of each handle's value, holds of those of one that is held
pub held-all : (P : ℕ → Type 0) (f : OpenHandle → ℕ) (h v n : ℕ) → ((x : OpenHandle) → is_held_as h v x ≡ true → f x ≡ n) → (hs : List OpenHandle) → All P (map f hs)
    → 0 < count_by (is_held_as h v) hs → P n
held-all P f h v n same [] all some = absurd (omega (arith, some))
held-all P f h v n same (x ∷ hs) all some = here (is_held_as h v x) refl (held-all P f h v n same hs (All-tail P (f x) (map f hs) all))
  where
    here : (b : Bool) → is_held_as h v x ≡ b → (0 < count_by (is_held_as h v) hs → P n) → P n
    here true e later = subst P (same x e) (All-head P (f x) (map f hs) all)
    here false e later = later (omega (arith, some, count-cons (is_held_as h v) x hs, ap one_when e))

pub held-handle : (h v : ℕ) (x : OpenHandle) → is_held_as h v x ≡ true → x.handle ≡ h
held-handle h v x e = eqb-true x.handle h (and_parts (x.handle == h) (x.value == v) e).0

pub held-value : (h v : ℕ) (x : OpenHandle) → is_held_as h v x ≡ true → x.value ≡ v
held-value h v x e = eqb-true x.value v (and_parts (x.handle == h) (x.value == v) e).1
