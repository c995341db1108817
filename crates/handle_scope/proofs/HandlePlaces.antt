-- The handle places of all frames, and which mark or which handle stands at each.
use Rattle.std.proofs.Common.{◌≡◌, ◌∙◌, ℕ, suc, ◌+◌, ◌-◌, ◌<◌, ◌≤◌, cond, List, [], ◌∷◌, ◌++◌, length, map, reverse, take, drop, get_or, refl, ap, sym, subst, arith, inl, inr, append_assoc, append-nil, Option, Some, None, option_map, Err}
use Rattle.std.specs.Option.{is_some, option_to_list}
use Rattle.std.specs.List.Sorted.{IsSearchInRange, IsBinarySearchResult}
use Rattle.std.specs.Ordering.{nat_cmp}
use Rattle.std.proofs.lemmas.Bool.{cases_lt}
use Rattle.std.proofs.lemmas.List.{take-append-le, drop-append-le, take-take, take-append-drop, reverse-append, length-append, length-take-le, length-reverse, length-map, length-drop, map-append, get_or_append_left, get_or-append-add, get_or-append_right, get_or-map, get_or-drop, get_or-take, reverse-reverse}
use Rattle.napi_types.specs.parts.Scopes.{OpenHandle, FrameScopes}
use Rattle.handle_scope.specs.HandleScopes.{held_places, frame_places, handle_places}
use Rattle.handle_scope.specs.declared.scopes.HeldHandle.{HeldHandle}
use Rattle.handle_scope.specs.declared.scopes.ScopeMark.{ScopeMark}
use Rattle.handle_scope.specs.declared.scopes.FrameMark.{FrameMark}
use Rattle.handle_scope.specs.Marks.{held_of, waiting_handle, scopes_above, frames_marked, places_marked, AreScopesWithin, AreFramesWithin, AreStartsWithin, ArePlaced, Rises, AreAtMost}
use Rattle.handle_scope.proofs.HandleNumbers.{Rises-push, AreAtMost-push, IsGap, HasAt, search-gap}
use Rattle.handle_scope.proofs.Marks.{start-le, within-closed, take-closed, reverse-parts}

-- THE MARKS IN ORDER
starts-more : (ms : List ScopeMark) (end more : ℕ) → end ≤ more → AreStartsWithin ms end → AreStartsWithin ms more
starts-more [] end more le w = tt
starts-more (m ∷ ms) end more le w = (omega (arith, w.0), w.1)

-- the marks of a frame's scopes stand inside those of the frames around it
starts-join : (start : ℕ) (ms rs : List ScopeMark) (end : ℕ) → AreScopesWithin start ms end → AreStartsWithin rs start → AreStartsWithin (ms ++ rs) end
starts-join start [] rs end w r = starts-more rs start end w r
starts-join start (m ∷ ms) rs end w r = (w.0, starts-join start ms rs m.start w.1 r)

pub starts-frames : (fs : List FrameMark) (ss : List ScopeMark) (end : ℕ) → AreFramesWithin fs ss end → AreStartsWithin (reverse ss) end
starts-frames [] ss end w = let S : List ScopeMark → Type 0 = λ l. AreStartsWithin (reverse l) end in subst S (sym w.0) tt
starts-frames (f ∷ fs) ss end w =
    let S : List ScopeMark → Type 0 = λ l. AreStartsWithin l end in
    subst S (reverse-parts f.scopes ss)
    (starts-join f.start (reverse (drop f.scopes ss)) (reverse (take f.scopes ss)) end w.1 (starts-frames fs (take f.scopes ss) f.start w.2))

-- THE PLACES OF THE FRAMES
joined : (n m : ℕ) (hs : List OpenHandle) → n ≤ m → m ≤ length hs → drop n (take m hs) ++ drop m hs ≡ drop n hs
joined n m hs le within =
    sym (drop-append-le n (take m hs) (drop m hs) (omega (arith, length-take-le m hs within))) ∙ ap (drop n) (take-append-drop m hs)

held_places-append : (xs ys : List OpenHandle) → held_places xs ++ held_places ys ≡ held_places (xs ++ ys)
held_places-append xs ys = sym (map-append (λ (p : OpenHandle). Some p.value) xs ys)

-- one handle more at the end is one place more
places-push : (p : OpenHandle) (ms : List ScopeMark) (hs : List OpenHandle) → AreStartsWithin ms (length hs)
    → places_marked ms (hs ++ p ∷ []) ≡ places_marked ms hs ++ Some p.value ∷ []
places-push p [] hs w = sym (held_places-append hs (p ∷ []))
places-push p (m ∷ ms) hs w =
    let v : Option ℕ = option_map (λ (e : HeldHandle). e.value.0) m.escaped in
    ap (λ l. places_marked ms l ++ v ∷ held_places (drop m.start (hs ++ p ∷ []))) (take-append-le m.start hs (p ∷ []) w.0)
    ∙ ap (λ l. places_marked ms (take m.start hs) ++ v ∷ held_places l) (drop-append-le m.start hs (p ∷ []) w.0)
    ∙ ap (λ l. places_marked ms (take m.start hs) ++ v ∷ l) (sym (held_places-append (drop m.start hs) (p ∷ [])))
    ∙ sym (append_assoc (places_marked ms (take m.start hs)) (v ∷ held_places (drop m.start hs)) (Some p.value ∷ []))

-- the place of a scope's mark is free, or the handle that waits there has it
places-waiting : (o : Option HeldHandle) (ms : List ScopeMark) (hs : List OpenHandle) → AreStartsWithin ms (length hs)
    → places_marked ms (hs ++ map held_of (option_to_list o)) ++ cond (is_some o) [] (None ∷ []) ≡ places_marked ms hs ++ option_map (λ e. e.value.0) o ∷ []
places-waiting None ms hs w = ap (λ l. places_marked ms l ++ None ∷ []) (append-nil hs)
places-waiting (Some e) ms hs w = append-nil (places_marked ms (hs ++ held_of e ∷ [])) ∙ places-push (held_of e) ms hs w

places-split : (rs : List ScopeMark) (start : ℕ) (hs : List OpenHandle) → AreStartsWithin rs start → start ≤ length hs
    → places_marked rs (take start hs) ++ held_places (drop start hs) ≡ places_marked rs hs
places-split [] start hs w le = held_places-append (take start hs) (drop start hs) ∙ ap held_places (take-append-drop start hs)
places-split (r ∷ rs) start hs w le =
    let v : Option ℕ = option_map (λ (e : HeldHandle). e.value.0) r.escaped in
    append_assoc (places_marked rs (take r.start (take start hs))) (v ∷ held_places (drop r.start (take start hs))) (held_places (drop start hs))
    ∙ ap (λ l. places_marked rs (take r.start (take start hs)) ++ v ∷ l) (held_places-append (drop r.start (take start hs)) (drop start hs))
    ∙ ap (λ l. places_marked rs (take r.start (take start hs)) ++ v ∷ held_places l) (joined r.start start hs w.0 le)
    ∙ ap (λ l. places_marked rs l ++ v ∷ held_places (drop r.start hs)) (take-take r.start start hs w.0)

-- the places of a frame come after those of the frames around it
places-scopes : (start : ℕ) (ms rs : List ScopeMark) (hs : List OpenHandle) → AreScopesWithin start ms (length hs) → AreStartsWithin rs start
    → places_marked rs (take start hs) ++ frame_places (scopes_above start ms hs).own (scopes_above start ms hs).opened ≡ places_marked (ms ++ rs) hs
places-scopes start [] rs hs w r = places-split rs start hs r w
places-scopes start (m ∷ ms) rs hs w r =
    let closed : List OpenHandle = take m.start hs ++ waiting_handle m in
    let inner : FrameScopes = scopes_above start ms closed in
    let outer : List (Option ℕ) = places_marked rs (take start hs) in
    let free : List (Option ℕ) = cond (is_some m.escaped) [] (None ∷ []) in
    let last : List (Option ℕ) = held_places (drop m.start hs) in
    let v : Option ℕ = option_map (λ (e : HeldHandle). e.value.0) m.escaped in
    let begins : start ≤ m.start = start-le start ms m.start w.1 in
    let N : ℕ → Type 0 = λ n. AreStartsWithin (ms ++ rs) n in
    let starts : AreStartsWithin (ms ++ rs) (length (take m.start hs)) = subst N (sym (length-take-le m.start hs w.0)) (starts-join start ms rs m.start w.1 r) in
    sym (append_assoc outer (frame_places inner.own inner.opened ++ free) last)
    ∙ ap (λ l. l ++ last) (sym (append_assoc outer (frame_places inner.own inner.opened) free))
    ∙ ap (λ l. ((places_marked rs l ++ frame_places inner.own inner.opened) ++ free) ++ last) (sym (take-closed start m hs begins w.0))
    ∙ ap (λ l. (l ++ free) ++ last) (places-scopes start ms rs closed (within-closed start m ms hs w) r)
    ∙ ap (λ l. l ++ last) (places-waiting m.escaped (ms ++ rs) (take m.start hs) starts)
    ∙ append_assoc (places_marked (ms ++ rs) (take m.start hs)) (v ∷ []) last

-- the places of all frames are those that the marks part
pub places-frames : (fs : List FrameMark) (ss : List ScopeMark) (hs : List OpenHandle) → AreFramesWithin fs ss (length hs)
    → handle_places (frames_marked fs ss hs) ≡ places_marked (reverse ss) hs
places-frames [] ss [] w = ap (λ l. places_marked (reverse l) []) (sym w.0)
places-frames [] ss (h ∷ hs) w = absurd (omega (arith, w.1))
places-frames (f ∷ fs) ss hs w =
    let ms : List ScopeMark = reverse (drop f.scopes ss) in
    let rs : List ScopeMark = reverse (take f.scopes ss) in
    let here : FrameScopes = scopes_above f.start ms hs in
    let begins : f.start ≤ length hs = start-le f.start ms (length hs) w.1 in
    let N : ℕ → Type 0 = λ n. AreFramesWithin fs (take f.scopes ss) n in
    let outer : AreFramesWithin fs (take f.scopes ss) (length (take f.start hs)) = subst N (sym (length-take-le f.start hs begins)) w.2 in
    ap (λ l. l ++ frame_places here.own here.opened) (places-frames fs (take f.scopes ss) (take f.start hs) outer)
    ∙ places-scopes f.start ms rs hs w.1 (starts-frames fs (take f.scopes ss) f.start w.2)
    ∙ ap (λ l. places_marked l hs) (reverse-parts f.scopes ss)

-- there is a place for each handle of the stack and for each mark
pub length-places : (ms : List ScopeMark) (hs : List OpenHandle) → AreStartsWithin ms (length hs) → length (places_marked ms hs) ≡ length hs + length ms
length-places [] hs w = omega (arith, length-map hs (λ (p : OpenHandle). Some p.value))
length-places (m ∷ ms) hs w =
    let v : Option ℕ = option_map (λ (e : HeldHandle). e.value.0) m.escaped in
    let below : List OpenHandle = take m.start hs in
    let len : length below ≡ m.start = length-take-le m.start hs w.0 in
    let N : ℕ → Type 0 = λ n. AreStartsWithin ms n in
    let inner : length (places_marked ms below) ≡ length below + length ms = length-places ms below (subst N (sym len) w.1) in
    omega (arith, inner, length-append (places_marked ms below) (v ∷ held_places (drop m.start hs)), length-map (drop m.start hs) (λ (p : OpenHandle). Some p.value), length-drop m.start hs, w.0)

-- WHAT STANDS AT A PLACE
pub reverse-cons : {A : Type 0} (x : A) (xs : List A) → reverse (x ∷ xs) ≡ reverse xs ++ x ∷ []
reverse-cons x xs = reverse-append (x ∷ []) xs

-- the marks' own places are below the end of them all
places-below : (ms : List ScopeMark) (end : ℕ) → AreStartsWithin ms end → ArePlaced ms → AreAtMost (λ m. m.place + 1) (reverse ms) (end + length ms)
places-below [] end w p = record { at = λ i d inside. absurd (omega arith) }
places-below (m ∷ ms) end w p =
    let P : List ScopeMark → Type 0 = λ l. AreAtMost (λ (s : ScopeMark). s.place + 1) l (end + suc (length ms)) in
    subst P (sym (reverse-cons m ms))
    (AreAtMost-push (λ (s : ScopeMark). s.place + 1) (reverse ms) m (m.start + length ms) (end + suc (length ms)) (places-below ms m.start w.1 p.1) (omega (arith, w.0)) (omega (arith, w.0, p.0)))

-- and they rise
places-rise-next : (ms : List ScopeMark) (end : ℕ) → AreStartsWithin ms end → ArePlaced ms → Rises (λ m. m.place + 1) (reverse ms)
places-rise-next [] end w p = record { rise = λ i j d lt inside. absurd (omega arith) }
places-rise-next (m ∷ ms) end w p =
    let P : List ScopeMark → Type 0 = λ l. Rises (λ (s : ScopeMark). s.place + 1) l in
    subst P (sym (reverse-cons m ms))
    (Rises-push (λ (s : ScopeMark). s.place + 1) (reverse ms) m (m.start + length ms) (places-rise-next ms m.start w.1 p.1) (places-below ms m.start w.1 p.1) (omega (arith, p.0)))

places-rise : (ms : List ScopeMark) (end : ℕ) → AreStartsWithin ms end → ArePlaced ms → Rises (λ m. m.place) (reverse ms)
places-rise ms end w p =
    let next : Rises (λ (s : ScopeMark). s.place + 1) (reverse ms) = places-rise-next ms end w p in
    record { rise = λ i j d lt inside. let up : (get_or (reverse ms) i d).place + 1 < (get_or (reverse ms) j d).place + 1 = next.rise i j d lt inside in omega arith }

-- the place of a mark has the handle that waits in it
place-mark : (ms : List ScopeMark) (hs : List OpenHandle) (i at : ℕ) (d : ScopeMark) → AreStartsWithin ms (length hs) → ArePlaced ms → i < length ms
    → (get_or (reverse ms) i d).place ≡ at → get_or (places_marked ms hs) at None ≡ option_map (λ e. e.value.0) (get_or (reverse ms) i d).escaped
place-mark [] hs i at d w p inside e = absurd (omega arith)
place-mark (m ∷ ms) hs i at d w p inside e =
    let v : Option ℕ = option_map (λ (x : HeldHandle). x.value.0) m.escaped in
    let below : List OpenHandle = take m.start hs in
    let last : List (Option ℕ) = v ∷ held_places (drop m.start hs) in
    let len : length below ≡ m.start = length-take-le m.start hs w.0 in
    let N : ℕ → Type 0 = λ n. AreStartsWithin ms n in
    let within : AreStartsWithin ms (length below) = subst N (sym len) w.1 in
    let count : length (places_marked ms below) ≡ length below + length ms = length-places ms below within in
    let marks : length (reverse ms) ≡ length ms = length-reverse ms in
    elim (cases_lt i (length ms)) [
      | inl first ↦
          let same : get_or (reverse (m ∷ ms)) i d ≡ get_or (reverse ms) i d =
          ap (λ l. get_or l i d) (reverse-cons m ms) ∙ get_or_append_left (reverse ms) (m ∷ []) d i (omega arith) in
          let here : (get_or (reverse ms) i d).place ≡ at = ap (λ (s : ScopeMark). s.place) (sym same) ∙ e in
          let low : (get_or (reverse ms) i d).place + 1 ≤ m.start + length ms = (places-below ms m.start w.1 p.1).at i d (omega arith) in
          get_or_append_left (places_marked ms below) last None at (omega arith)
          ∙ place-mark ms below i at d within p.1 first here
          ∙ ap (λ (s : ScopeMark). option_map (λ (x : HeldHandle). x.value.0) s.escaped) (sym same)
      | inr past ↦
          let index : i ≡ length (reverse ms) + 0 = omega arith in
          let same : get_or (reverse (m ∷ ms)) i d ≡ m =
          ap (λ l. get_or l i d) (reverse-cons m ms) ∙ ap (λ k. get_or (reverse ms ++ m ∷ []) k d) index ∙ get_or-append-add (reverse ms) (m ∷ []) 0 d in
          let here : m.place ≡ at = ap (λ (s : ScopeMark). s.place) (sym same) ∙ e in
          let there : at ≡ length (places_marked ms below) + 0 = omega (arith, p.0) in
          ap (λ k. get_or (places_marked ms below ++ last) k None) there
          ∙ get_or-append-add (places_marked ms below) last 0 None
          ∙ ap (λ (s : ScopeMark). option_map (λ (x : HeldHandle). x.value.0) s.escaped) (sym same)
    ]

-- what stands at a place that is no mark's own, where so many marks have theirs before it
pub record IsHeldPlace (ms : List ScopeMark) (hs : List OpenHandle) (at gap : ℕ) (d : OpenHandle) : Type 0 where
  pub back : gap ≤ at
  pub inside : at - gap < length hs
  pub value : get_or (places_marked ms hs) at None ≡ Some (get_or hs (at - gap) d).value

-- the gap is that of the outer marks too, where the innermost is past it
gap-outer : (m : ScopeMark) (ms : List ScopeMark) (at gap : ℕ) → gap ≤ length ms → IsGap (λ s. s.place) (reverse (m ∷ ms)) at gap → IsGap (λ s. s.place) (reverse ms) at gap
gap-outer m ms at gap le g =
    let P : List ScopeMark → Type 0 = λ l. IsGap (λ (s : ScopeMark). s.place) l at gap in
    let whole : IsGap (λ (s : ScopeMark). s.place) (reverse ms ++ m ∷ []) at gap = subst P (reverse-cons m ms) g in
    let len : length (reverse ms) ≡ length ms = length-reverse ms in
    record {
      inside = omega arith;
      below = λ i d lt. rw (← get_or_append_left (reverse ms) (m ∷ []) d i (omega arith)) (whole.below i d lt);
      above = λ i d from inside. rw (← get_or_append_left (reverse ms) (m ∷ []) d i inside) (whole.above i d from (omega (arith, length-append (reverse ms) (m ∷ []))));
    }

-- the innermost mark's own place, below or above the one that is looked for
record IsPast (m : ScopeMark) (ms : List ScopeMark) (at gap : ℕ) : Type 0 where
  pub most : gap ≤ suc (length ms)
  pub above : gap ≤ length ms → at < m.place
  pub below : gap ≡ suc (length ms) → m.place < at

gap-last : (m : ScopeMark) (ms : List ScopeMark) (at gap : ℕ) → IsGap (λ s. s.place) (reverse (m ∷ ms)) at gap → IsPast m ms at gap
gap-last m ms at gap g =
    let P : List ScopeMark → Type 0 = λ l. IsGap (λ (s : ScopeMark). s.place) l at gap in
    let whole : IsGap (λ (s : ScopeMark). s.place) (reverse ms ++ m ∷ []) at gap = subst P (reverse-cons m ms) g in
    let len : length (reverse ms) ≡ length ms = length-reverse ms in
    let more : length (reverse ms ++ m ∷ []) ≡ length (reverse ms) + 1 = length-append (reverse ms) (m ∷ []) in
    let last : get_or (reverse ms ++ m ∷ []) (length (reverse ms) + 0) m ≡ m = get_or-append-add (reverse ms) (m ∷ []) 0 m in
    record {
      most = omega (arith, whole.inside);
      above = λ le. subst (λ (s : ScopeMark). at < s.place) last (whole.above (length (reverse ms) + 0) m (omega arith) (omega arith));
      below = λ e. subst (λ (s : ScopeMark). s.place < at) last (whole.below (length (reverse ms) + 0) m (omega arith));
    }

held_places-at : (hs : List OpenHandle) (i : ℕ) (d : OpenHandle) → i < length hs → get_or (held_places hs) i None ≡ Some (get_or hs i d).value
held_places-at hs i d inside = get_or-map (λ (p : OpenHandle). Some p.value) hs i d None inside

place-held : (ms : List ScopeMark) (hs : List OpenHandle) (at gap : ℕ) (d : OpenHandle) → AreStartsWithin ms (length hs) → ArePlaced ms → at < length hs + length ms
    → IsGap (λ s. s.place) (reverse ms) at gap → IsHeldPlace ms hs at gap d
place-held [] hs at gap d w p inside g =
    let none : gap ≡ 0 = omega (arith, g.inside) in
    let here : at - gap ≡ at = omega arith in
    record {
      back = omega arith;
      inside = omega arith;
      value = held_places-at hs at d (omega arith) ∙ ap (λ k. Some (get_or hs k d).value) (sym here);
    }
place-held (m ∷ ms) hs at gap d w p inside g =
    let v : Option ℕ = option_map (λ (x : HeldHandle). x.value.0) m.escaped in
    let below : List OpenHandle = take m.start hs in
    let last : List (Option ℕ) = v ∷ held_places (drop m.start hs) in
    let len : length below ≡ m.start = length-take-le m.start hs w.0 in
    let N : ℕ → Type 0 = λ n. AreStartsWithin ms n in
    let within : AreStartsWithin ms (length below) = subst N (sym len) w.1 in
    let count : length (places_marked ms below) ≡ length below + length ms = length-places ms below within in
    let past : IsPast m ms at gap = gap-last m ms at gap g in
    elim (cases_lt (length ms) gap) [
      | inl after ↦
          let every : gap ≡ suc (length ms) = omega (arith, past.most) in
          let over : m.place < at = past.below every in
          let place : m.place ≡ m.start + length ms = p.0 in
          let index : at - length (places_marked ms below) ≡ suc (at - gap - m.start) = omega arith in
          let rest : at - gap - m.start < length (drop m.start hs) = omega (arith, length-drop m.start hs, w.0) in
          let whole : m.start + (at - gap - m.start) ≡ at - gap = omega arith in
          record {
            back = omega arith;
            inside = omega (arith, w.0);
            value =
                get_or-append_right (places_marked ms below) last (length (places_marked ms below)) at None refl (omega arith)
                ∙ ap (λ k. get_or last k None) index
                ∙ held_places-at (drop m.start hs) (at - gap - m.start) d rest
                ∙ ap (λ (q : OpenHandle). Some q.value) (get_or-drop m.start hs (at - gap - m.start) d)
                ∙ ap (λ k. Some (get_or hs k d).value) whole;
          }
      | inr before ↦
          let under : at < m.place = past.above before in
          let place : m.place ≡ m.start + length ms = p.0 in
          let inner : IsHeldPlace ms below at gap d = place-held ms below at gap d within p.1 (omega arith) (gap-outer m ms at gap before g) in
          let low : at - gap < m.start = omega (arith, inner.inside) in
          record {
            back = inner.back;
            inside = omega (arith, w.0);
            value =
                get_or_append_left (places_marked ms below) last None at (omega arith)
                ∙ inner.value
                ∙ ap (λ (q : OpenHandle). Some q.value) (get_or-take m.start hs (at - gap) d low);
          }
    ]

-- the same by the marks with the innermost last, as they are kept
pub mark-at : (ss : List ScopeMark) (hs : List HeldHandle) (i at : ℕ) (d : ScopeMark) → AreStartsWithin (reverse ss) (length hs) → ArePlaced (reverse ss) → HasAt (λ s. s.place) ss at i
    → get_or (places_marked (reverse ss) (map held_of hs)) at None ≡ option_map (λ e. e.value.0) (get_or ss i d).escaped
mark-at ss hs i at d w p h =
    let N : ℕ → Type 0 = λ n. AreStartsWithin (reverse ss) n in
    let back : reverse (reverse ss) ≡ ss = reverse-reverse ss in
    place-mark (reverse ss) (map held_of hs) i at d (subst N (sym (length-map hs held_of)) w) p (omega (arith, h.inside, length-reverse ss))
    (ap (λ l. (get_or l i d).place) back ∙ h.same d)
    ∙ ap (λ l. option_map (λ (e : HeldHandle). e.value.0) (get_or l i d).escaped) back

held-place : (ss : List ScopeMark) (hs : List HeldHandle) (at gap : ℕ) (d : HeldHandle) → AreStartsWithin (reverse ss) (length hs) → ArePlaced (reverse ss) → at < length hs + length ss
    → IsGap (λ s. s.place) ss at gap → IsHeldPlace (reverse ss) (map held_of hs) at gap (held_of d)
held-place ss hs at gap d w p inside g =
    let N : ℕ → Type 0 = λ n. AreStartsWithin (reverse ss) n in
    let G : List ScopeMark → Type 0 = λ l. IsGap (λ (s : ScopeMark). s.place) l at gap in
    place-held (reverse ss) (map held_of hs) at gap (held_of d) (subst N (sym (length-map hs held_of)) w) p
    (omega (arith, inside, length-map hs held_of, length-reverse ss)) (subst G (sym (reverse-reverse ss)) g)

pub held-value : (ss : List ScopeMark) (hs : List HeldHandle) (at gap : ℕ) (d : HeldHandle) → IsHeldPlace (reverse ss) (map held_of hs) at gap (held_of d)
    → Some (get_or hs (at - gap) d).value.0 ≡ get_or (places_marked (reverse ss) (map held_of hs)) at None
held-value ss hs at gap d h =
    sym (h.value ∙ ap (λ (q : OpenHandle). Some q.value) (get_or-map held_of hs (at - gap) d (held_of d) (omega (arith, h.inside, length-map hs held_of))))

marks-rise : (ss : List ScopeMark) (end : ℕ) → AreStartsWithin (reverse ss) end → ArePlaced (reverse ss) → Rises (λ s. s.place) ss
marks-rise ss end w p = let R : List ScopeMark → Type 0 = λ l. Rises (λ s. s.place) l in subst R (reverse-reverse ss) (places-rise (reverse ss) end w p)

-- where a search by place finds a gap, a handle of the stack stands
pub held-found : (ss : List ScopeMark) (hs : List HeldHandle) (at gap : ℕ) (d : HeldHandle) → AreStartsWithin (reverse ss) (length hs) → ArePlaced (reverse ss) → at < length hs + length ss
    → IsSearchInRange (Err gap) (length ss) → IsBinarySearchResult (λ s. nat_cmp s.place at) ss (Err gap) → IsHeldPlace (reverse ss) (map held_of hs) at gap (held_of d)
held-found ss hs at gap d w p inside in_range parted =
    held-place ss hs at gap d w p inside (search-gap (λ (s : ScopeMark). s.place) ss at gap (marks-rise ss (length hs) w p) in_range parted)
