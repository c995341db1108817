-- Scopes as the machine sees them.
use Rattle.std.proofs.Common.{◌≡◌, ℕ, ◌==◌, Bool, true, false, cond, List, [], ◌∷◌, map, Option, Some, None, option_map, refl, ap, ◌∙◌}
use Rattle.std.specs.List.{All}
use Rattle.std.specs.Option.{option_or}
use Rattle.std.proofs.lemmas.List.{map-append}
use Rattle.std.proofs.lemmas.List.Elements.{All-head, All-tail}
use Rattle.napi_types.specs.plain.Lists.{found, first_changed}
use Rattle.napi_types.specs.parts.Graph.{StoreState, number_in}
use Rattle.napi_types.specs.parts.ScopeChanges.{hold_in, hold_at, inside, escape_at, escape_in}
use Rattle.napi_types.specs.parts.Scopes.{OpenHandle, Scope, FrameScopes, value_in, value_in_scopes, gives, held_by_scopes, held_by_frame, held_by_frames}
use Rattle.napi_types.proofs.plain.Lists.{All-left, All-right}
use Rattle.env_values.specs.SeenValues.{seen_held, seen_scope, seen_frame}

module _ (s : StoreState) where
  value_in-seen : (hs : List OpenHandle) (h : ℕ) → value_in (map (seen_held s) hs) h ≡ option_map (number_in s) (value_in hs h)
  value_in-seen [] h = refl
  value_in-seen (p ∷ hs) h = by (value_in-seen hs h) (p.handle == h)
    where
      by : value_in (map (seen_held s) hs) h ≡ option_map (number_in s) (value_in hs h) → (b : Bool) → option_map (λ (q : OpenHandle). q.value) (cond b (Some (seen_held s p)) (found (λ q. q.handle) h (map (seen_held s) hs))) ≡ option_map (number_in s) (option_map (λ (q : OpenHandle). q.value) (cond b (Some p) (found (λ q. q.handle) h hs)))
      by rest true = refl
      by rest false = rest

  either-seen : (a b : Option ℕ) (x y : Option ℕ) → a ≡ option_map (number_in s) x → b ≡ option_map (number_in s) y → option_or a b ≡ option_map (number_in s) (option_or x y)
  either-seen a b x y e f = ap (λ o. option_or o b) e ∙ ap (λ o. option_or (option_map (number_in s) x) o) f ∙ by x
    where
      by : (x : Option ℕ) → option_or (option_map (number_in s) x) (option_map (number_in s) y) ≡ option_map (number_in s) (option_or x y)
      by None = refl
      by (Some n) = refl

  value_in_scopes-seen : (ss : List Scope) (h : ℕ) → value_in_scopes (map (seen_scope s) ss) h ≡ option_map (number_in s) (value_in_scopes ss h)
  value_in_scopes-seen [] h = refl
  value_in_scopes-seen (x ∷ ss) h =
      either-seen (value_in (map (seen_held s) x.held) h) (value_in_scopes (map (seen_scope s) ss) h) (value_in x.held h) (value_in_scopes ss h)
      (value_in-seen x.held h) (value_in_scopes-seen ss h)

  -- a handle gives the creation number of its value
  pub gives-seen : (fs : List FrameScopes) (h : ℕ) → gives (map (seen_frame s) fs) h ≡ option_map (number_in s) (gives fs h)
  gives-seen [] h = refl
  gives-seen (f ∷ fs) h =
      either-seen _ _ (value_in_scopes f.opened h) (option_or (value_in f.own h) (gives fs h)) (value_in_scopes-seen f.opened h)
      (either-seen (value_in (map (seen_held s) f.own) h) (gives (map (seen_frame s) fs) h) (value_in f.own h) (gives fs h) (value_in-seen f.own h) (gives-seen fs h))

  held-seen-at : (p : OpenHandle) (own : List OpenHandle) (ss : List Scope) → seen_frame s (hold_at p own ss) ≡ hold_at (seen_held s p) (map (seen_held s) own) (map (seen_scope s) ss)
  held-seen-at p own [] = ap (λ l. record { own = l; opened = [] }) (map-append (seen_held s) own (p ∷ []))
  held-seen-at p own (x ∷ ss) = ap (λ l. record { own = map (seen_held s) own; opened = record x { held = l } ∷ map (seen_scope s) ss }) (map-append (seen_held s) x.held (p ∷ []))

  -- one handle more is seen as one handle more
  pub held-seen : (p : OpenHandle) (fs : List FrameScopes) → map (seen_frame s) (first_changed (hold_in p) fs) ≡ first_changed (hold_in (seen_held s p)) (map (seen_frame s) fs)
  held-seen p [] = refl
  held-seen p (f ∷ fs) = ap (λ g. g ∷ map (seen_frame s) fs) (held-seen-at p f.own f.opened)

  escaped-seen-at : (n : ℕ) (p : OpenHandle) (own : List OpenHandle) (ss : List Scope)
      → seen_frame s (escape_at n p own ss) ≡ escape_at n (seen_held s p) (map (seen_held s) own) (map (seen_scope s) ss)
  escaped-seen-at n p own [] = refl
  escaped-seen-at n p own (x ∷ ss) = by (escaped-seen-at n p own ss) (x.number == n)
    where
      by : seen_frame s (escape_at n p own ss) ≡ escape_at n (seen_held s p) (map (seen_held s) own) (map (seen_scope s) ss) → (b : Bool)
          → seen_frame s (cond b (inside (record x { used = true }) (hold_at p own ss)) (inside x (escape_at n p own ss)))
          ≡ cond b (inside (record (seen_scope s x) { used = true }) (hold_at (seen_held s p) (map (seen_held s) own) (map (seen_scope s) ss)))
          (inside (seen_scope s x) (escape_at n (seen_held s p) (map (seen_held s) own) (map (seen_scope s) ss)))
      by rest true = ap (inside (seen_scope s (record x { used = true }))) (held-seen-at p own ss)
      by rest false = ap (inside (seen_scope s x)) rest

  -- a handle that escapes is seen as one that escapes
  pub escaped-seen : (n : ℕ) (p : OpenHandle) (fs : List FrameScopes) → map (seen_frame s) (first_changed (escape_in n p) fs) ≡ first_changed (escape_in n (seen_held s p)) (map (seen_frame s) fs)
  escaped-seen n p [] = refl
  escaped-seen n p (f ∷ fs) = ap (λ g. g ∷ map (seen_frame s) fs) (escaped-seen-at n p f.own f.opened)

-- two states of a store see scopes alike, where each held value has the same creation number in both
module _ (s t : StoreState) where
  abbrev pub IsSame : OpenHandle → Type 0
  IsSame p = number_in t p.value ≡ number_in s p.value

  same-held : (hs : List OpenHandle) → All IsSame hs → map (seen_held t) hs ≡ map (seen_held s) hs
  same-held [] all = refl
  same-held (p ∷ hs) all = let here : number_in t p.value ≡ number_in s p.value = All-head IsSame p hs all in
      ap (λ n. record { handle = p.handle; value = n } ∷ map (seen_held t) hs) here
      ∙ ap (λ l. seen_held s p ∷ l) (same-held hs (All-tail IsSame p hs all))

  same-scopes : (ss : List Scope) → All IsSame (held_by_scopes ss) → map (seen_scope t) ss ≡ map (seen_scope s) ss
  same-scopes [] all = refl
  same-scopes (x ∷ ss) all =
      ap (λ l. record x { held = l } ∷ map (seen_scope t) ss) (same-held x.held (All-right IsSame (held_by_scopes ss) x.held all))
      ∙ ap (λ l. seen_scope s x ∷ l) (same-scopes ss (All-left IsSame (held_by_scopes ss) x.held all))

  same-frame : (f : FrameScopes) → All IsSame (held_by_frame f) → seen_frame t f ≡ seen_frame s f
  same-frame f all =
      ap (λ l. record { own = l; opened = map (seen_scope t) f.opened }) (same-held f.own (All-left IsSame f.own (held_by_scopes f.opened) all))
      ∙ ap (λ l. record { own = map (seen_held s) f.own; opened = l }) (same-scopes f.opened (All-right IsSame f.own (held_by_scopes f.opened) all))

  pub seen-same : (fs : List FrameScopes) → All IsSame (held_by_frames fs) → map (seen_frame t) fs ≡ map (seen_frame s) fs
  seen-same [] all = refl
  seen-same (f ∷ fs) all =
      ap (λ g. g ∷ map (seen_frame t) fs) (same-frame f (All-right IsSame (held_by_frames fs) (held_by_frame f) all))
      ∙ ap (λ l. seen_frame s f ∷ l) (seen-same fs (All-left IsSame (held_by_frames fs) (held_by_frame f) all))
