-- The value that the scopes of all frames give for a handle: what the stack gives, or else what waits in the marks.
use Rattle.std.proofs.Common.{◌≡◌, ◌∙◌, ℕ, ◌≤◌, List, [], ◌∷◌, ◌++◌, length, reverse, take, drop, refl, ap, sym, subst, arith, Option}
use Rattle.std.specs.Option.{option_or}
use Rattle.std.proofs.lemmas.List.{take-append-drop, length-take-le}
use Rattle.napi_types.specs.parts.Scopes.{OpenHandle, FrameScopes, gives, value_in, value_in_scopes}
use Rattle.handle_scope.specs.declared.scopes.ScopeMark.{ScopeMark}
use Rattle.handle_scope.specs.declared.scopes.FrameMark.{FrameMark}
use Rattle.handle_scope.specs.Marks.{waiting_handle, all_waiting, scopes_above, frames_marked, AreScopesWithin, AreFramesWithin, AreInOrder, AreScopesInOrder, AreFramesInOrder, Rises}
use Rattle.handle_scope.proofs.Lookups.{option_or-assoc, value_in-either, value_in-append}
use Rattle.handle_scope.proofs.Marks.{start-le, within-closed, take-closed, reverse-parts}

-- the later part of the stack may be asked first
later-first : (n : ℕ) (hs : List OpenHandle) (h most : ℕ) → AreInOrder hs most → option_or (value_in (drop n hs) h) (value_in (take n hs) h) ≡ value_in hs h
later-first n hs h most o =
    let R : List OpenHandle → Type 0 = λ x. Rises (λ p. p.handle) x in
    value_in-either (take n hs) (drop n hs) h (subst R (sym (take-append-drop n hs)) o.rise) ∙ ap (λ x. value_in x h) (take-append-drop n hs)

-- what a frame's scopes give, or else the stack below them, or else anything else
gives-scopes : (start : ℕ) (ss : List ScopeMark) (hs : List OpenHandle) (h most : ℕ) (rest : Option ℕ) → AreScopesWithin start ss (length hs) → AreScopesInOrder ss hs most
    → option_or (value_in_scopes (scopes_above start ss hs).opened h) (option_or (value_in (scopes_above start ss hs).own h) (option_or (value_in (take start hs) h) rest))
    ≡ option_or (value_in hs h) (option_or (value_in (all_waiting ss) h) rest)
gives-scopes start [] hs h most rest w o =
    sym (option_or-assoc (value_in (drop start hs) h) (value_in (take start hs) h) rest)
    ∙ ap (λ x. option_or x rest) (later-first start hs h most o)
gives-scopes start (s ∷ ss) hs h most rest w o =
    let closed : List OpenHandle = take s.start hs ++ waiting_handle s in
    let inner : FrameScopes = scopes_above start ss closed in
    let last : Option ℕ = value_in (drop s.start hs) h in
    let below : Option ℕ = value_in (take s.start hs) h in
    let outer : Option ℕ = value_in (all_waiting ss) h in
    let here : Option ℕ = value_in (waiting_handle s) h in
    let begins : start ≤ s.start = start-le start ss s.start w.1 in
    option_or-assoc last (value_in_scopes inner.opened h) (option_or (value_in inner.own h) (option_or (value_in (take start hs) h) rest))
    ∙ ap (λ l. option_or last (option_or (value_in_scopes inner.opened h) (option_or (value_in inner.own h) (option_or (value_in l h) rest)))) (sym (take-closed start s hs begins w.0))
    ∙ ap (option_or last) (gives-scopes start ss closed h most rest (within-closed start s ss hs w) o.1)
    ∙ ap (λ x. option_or last (option_or x (option_or outer rest))) (value_in-append (take s.start hs) (waiting_handle s) h)
    ∙ ap (option_or last) (option_or-assoc below here (option_or outer rest))
    ∙ sym (option_or-assoc last below (option_or here (option_or outer rest)))
    ∙ ap (λ x. option_or x (option_or here (option_or outer rest))) (later-first s.start hs h most o.0)
    ∙ ap (option_or (value_in hs h)) (sym (option_or-assoc here outer rest))
    ∙ ap (λ x. option_or (value_in hs h) (option_or x rest)) (sym (value_in-append (waiting_handle s) (all_waiting ss) h))

all-append : (xs ys : List ScopeMark) (h : ℕ) → value_in (all_waiting (xs ++ ys)) h ≡ option_or (value_in (all_waiting xs) h) (value_in (all_waiting ys) h)
all-append [] ys h = refl
all-append (x ∷ xs) ys h =
    value_in-append (waiting_handle x) (all_waiting (xs ++ ys)) h
    ∙ ap (option_or (value_in (waiting_handle x) h)) (all-append xs ys h)
    ∙ sym (option_or-assoc (value_in (waiting_handle x) h) (value_in (all_waiting xs) h) (value_in (all_waiting ys) h))
    ∙ ap (λ o. option_or o (value_in (all_waiting ys) h)) (sym (value_in-append (waiting_handle x) (all_waiting xs) h))

-- the scopes give what the stack gives, or else what waits in the marks
pub gives-frames : (fs : List FrameMark) (ss : List ScopeMark) (hs : List OpenHandle) (h most : ℕ) → AreFramesWithin fs ss (length hs) → AreFramesInOrder fs ss hs most
    → gives (frames_marked fs ss hs) h ≡ option_or (value_in hs h) (value_in (all_waiting (reverse ss)) h)
gives-frames [] ss [] h most w o = ap (λ l. value_in (all_waiting (reverse l)) h) (sym w.0)
gives-frames [] ss (x ∷ hs) h most w o = absurd (omega (arith, w.1))
gives-frames (f ∷ fs) ss hs h most w o =
    let ms : List ScopeMark = reverse (drop f.scopes ss) in
    let rs : List ScopeMark = reverse (take f.scopes ss) in
    let begins : f.start ≤ length hs = start-le f.start ms (length hs) w.1 in
    let N : ℕ → Type 0 = λ n. AreFramesWithin fs (take f.scopes ss) n in
    let outer : AreFramesWithin fs (take f.scopes ss) (length (take f.start hs)) = subst N (sym (length-take-le f.start hs begins)) w.2 in
    let here : FrameScopes = scopes_above f.start ms hs in
    ap (λ x. option_or (value_in_scopes here.opened h) (option_or (value_in here.own h) x)) (gives-frames fs (take f.scopes ss) (take f.start hs) h most outer o.1)
    ∙ gives-scopes f.start ms hs h most (value_in (all_waiting rs) h) w.1 o.0
    ∙ ap (option_or (value_in hs h)) (sym (all-append ms rs h))
    ∙ ap (λ l. option_or (value_in hs h) (value_in (all_waiting l) h)) (reverse-parts f.scopes ss)
