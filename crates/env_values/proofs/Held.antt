-- What holds of each handle that open scopes hold.
use Rattle.std.proofs.Common.{◌≡◌, ℕ, ◌==◌, Bool, true, false, List, [], ◌∷◌, ◌++◌, Option, Some, None, option_map, subst, cond}
use Rattle.std.specs.List.{All}
use Rattle.std.specs.Option.{option_or}
use Rattle.std.proofs.lemmas.List.Elements.{All-nil, All-cons, All-head, All-tail, All-append}
use Rattle.napi_types.specs.plain.Lists.{found, first_changed}
use Rattle.napi_types.specs.parts.ScopeChanges.{hold_in, hold_at, inside, escape_at, escape_in}
use Rattle.napi_types.specs.parts.Scopes.{OpenHandle, Scope, FrameScopes, value_in, value_in_scopes, gives, held_by_scopes, held_by_frame, held_by_frames}
use Rattle.napi_types.proofs.plain.Lists.{All-left, All-right}

module _ (P : ℕ → Type 0) where
  abbrev OfValue : OpenHandle → Type 0
  OfValue p = P p.value

  in-held : (hs : List OpenHandle) (h v : ℕ) → All OfValue hs → value_in hs h ≡ Some v → P v
  in-held [] h v all is = cc
  in-held (p ∷ hs) h v all is = by (in-held hs h v (All-tail OfValue p hs all)) (p.handle == h) is
    where
      by : (value_in hs h ≡ Some v → P v) → (b : Bool) → option_map (λ (q : OpenHandle). q.value) (cond b (Some p) (found (λ q. q.handle) h hs)) ≡ Some v → P v
      by rest true e = let same : p.value ≡ v = cc in subst P same (All-head OfValue p hs all)
      by rest false e = rest e

  first-of : (a b : Option ℕ) (v : ℕ) → (a ≡ Some v → P v) → (b ≡ Some v → P v) → option_or a b ≡ Some v → P v
  first-of None b v left right is = right is
  first-of (Some x) b v left right is = left is

  in-scopes : (ss : List Scope) (h v : ℕ) → All OfValue (held_by_scopes ss) → value_in_scopes ss h ≡ Some v → P v
  in-scopes [] h v all is = cc
  in-scopes (s ∷ ss) h v all is =
      first-of (value_in s.held h) (value_in_scopes ss h) v (in-held s.held h v (All-right OfValue (held_by_scopes ss) s.held all))
      (in-scopes ss h v (All-left OfValue (held_by_scopes ss) s.held all)) is

  -- what holds of each held value holds of the one that a handle gives
  pub given-holds : (fs : List FrameScopes) (h v : ℕ) → All OfValue (held_by_frames fs) → gives fs h ≡ Some v → P v
  given-holds [] h v all is = cc
  given-holds (f ∷ fs) h v all is =
      let here : All OfValue (held_by_frame f) = All-right OfValue (held_by_frames fs) (held_by_frame f) all in
      first-of (value_in_scopes f.opened h) (option_or (value_in f.own h) (gives fs h)) v
      (in-scopes f.opened h v (All-right OfValue f.own (held_by_scopes f.opened) here))
      (first-of (value_in f.own h) (gives fs h) v (in-held f.own h v (All-left OfValue f.own (held_by_scopes f.opened) here))
      (given-holds fs h v (All-left OfValue (held_by_frames fs) (held_by_frame f) all))) is

  alone : (p : OpenHandle) → P p.value → All OfValue (p ∷ [])
  alone p here = All-cons OfValue p [] here (All-nil OfValue)

  one-more : (p : OpenHandle) (own : List OpenHandle) (ss : List Scope) → P p.value → All OfValue (own ++ held_by_scopes ss) → All OfValue (held_by_frame (hold_at p own ss))
  one-more p own [] here all = All-append OfValue (own ++ p ∷ []) [] (All-append OfValue own (p ∷ []) (All-left OfValue own [] all) (alone p here)) (All-nil OfValue)
  one-more p own (s ∷ ss) here all =
      let inner : All OfValue (held_by_scopes ss ++ s.held) = All-right OfValue own (held_by_scopes ss ++ s.held) all in
      All-append OfValue own (held_by_scopes ss ++ (s.held ++ p ∷ [])) (All-left OfValue own (held_by_scopes ss ++ s.held) all)
      (All-append OfValue (held_by_scopes ss) (s.held ++ p ∷ []) (All-left OfValue (held_by_scopes ss) s.held inner)
      (All-append OfValue s.held (p ∷ []) (All-right OfValue (held_by_scopes ss) s.held inner) (alone p here)))

  -- it holds of each held value where the innermost scope holds one handle more
  pub held-holds : (p : OpenHandle) (fs : List FrameScopes) → P p.value → All OfValue (held_by_frames fs) → All OfValue (held_by_frames (first_changed (hold_in p) fs))
  held-holds p [] here all = all
  held-holds p (f ∷ fs) here all =
      All-append OfValue (held_by_frames fs) (held_by_frame (hold_in p f)) (All-left OfValue (held_by_frames fs) (held_by_frame f) all)
      (one-more p f.own f.opened here (All-right OfValue (held_by_frames fs) (held_by_frame f) all))

  inside-holds : (s : Scope) (f : FrameScopes) → All OfValue s.held → All OfValue (held_by_frame f) → All OfValue (held_by_frame (inside s f))
  inside-holds s f held all =
      All-append OfValue f.own (held_by_scopes f.opened ++ s.held) (All-left OfValue f.own (held_by_scopes f.opened) all)
      (All-append OfValue (held_by_scopes f.opened) s.held (All-right OfValue f.own (held_by_scopes f.opened) all) held)

  one-escaped : (n : ℕ) (p : OpenHandle) (own : List OpenHandle) (ss : List Scope) → P p.value → All OfValue (own ++ held_by_scopes ss) → All OfValue (held_by_frame (escape_at n p own ss))
  one-escaped n p own [] here all = all
  one-escaped n p own (s ∷ ss) here all =
      let inner : All OfValue (held_by_scopes ss ++ s.held) = All-right OfValue own (held_by_scopes ss ++ s.held) all in
      let outer : All OfValue (own ++ held_by_scopes ss) =
      All-append OfValue own (held_by_scopes ss) (All-left OfValue own (held_by_scopes ss ++ s.held) all) (All-left OfValue (held_by_scopes ss) s.held inner) in
      let held : All OfValue s.held = All-right OfValue (held_by_scopes ss) s.held inner in
      by (inside-holds (record s { used = true }) (hold_at p own ss) held (one-more p own ss here outer))
      (inside-holds s (escape_at n p own ss) held (one-escaped n p own ss here outer)) (s.number == n)
    where
      by : All OfValue (held_by_frame (inside (record s { used = true }) (hold_at p own ss))) → All OfValue (held_by_frame (inside s (escape_at n p own ss))) → (b : Bool)
          → All OfValue (held_by_frame (cond b (inside (record s { used = true }) (hold_at p own ss)) (inside s (escape_at n p own ss))))
      by found further true = found
      by found further false = further

  -- it holds of each held value where one handle more escapes
  pub escaped-holds : (n : ℕ) (p : OpenHandle) (fs : List FrameScopes) → P p.value → All OfValue (held_by_frames fs) → All OfValue (held_by_frames (first_changed (escape_in n p) fs))
  escaped-holds n p [] here all = all
  escaped-holds n p (f ∷ fs) here all =
      All-append OfValue (held_by_frames fs) (held_by_frame (escape_in n p f)) (All-left OfValue (held_by_frames fs) (held_by_frame f) all)
      (one-escaped n p f.own f.opened here (All-right OfValue (held_by_frames fs) (held_by_frame f) all))
