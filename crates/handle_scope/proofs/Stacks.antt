-- The stack, its marks and the escapes through each call: the scopes that they stand for, and what they keep.
use Rattle.std.proofs.Common.{◌≡◌, ◌≢◌, ◌∙◌, ℕ, suc, ◌+◌, ◌*◌, ◌-◌, Bool, true, false, cond, get_or, ◌<◌, ◌≤◌, List, [], ◌∷◌, ◌++◌, length, map, reverse, take, drop, refl, ap, sym, subst, arith, Option, Some, None, sum_by}
use Rattle.std.specs.Option.{is_some, option_or, option_to_list}
use Rattle.std.proofs.Math.ListN.{set}
use Rattle.std.proofs.Math.Seq.{map-set_same}
use Rattle.std.proofs.lemmas.List.{map-append, length-map, length-append, length-take-le, length-take, take-map, length-reverse, take_all, length-drop, length-set, get_or-drop}
use Rattle.std.proofs.lemmas.List.Sums.{sum_by-take-le, sum_by_push, sum_by-set}
use Rattle.napi_types.specs.declared.ids.ScopeKind.{ScopeKind}
use Rattle.napi_types.specs.plain.Lists.{first_changed, tail, head}
use Rattle.napi_types.specs.parts.ScopeChanges.{hold_in, open_in, close_in, escape_in}
use Rattle.napi_types.specs.parts.ScopeRefusals.{closing, escaping}
use Rattle.napi_types.specs.parts.Scopes.{OpenHandle, opened_scopes, gives, value_in}
use Rattle.handle_scope.specs.HandleScopes.{handle_places}
use Rattle.handle_scope.specs.declared.scopes.HeldHandle.{HeldHandle}
use Rattle.handle_scope.specs.declared.scopes.ScopeMark.{ScopeMark}
use Rattle.handle_scope.specs.declared.scopes.FrameMark.{FrameMark}
use Rattle.handle_scope.specs.declared.scopes.Escape.{Escape}
use Rattle.handle_scope.specs.Marks.{held_of, waiting_handle, all_waiting, scopes_above, frames_marked, frames_of, places_marked, call_places, place_left, free_escapes, AreFramesWithin, AreStartsWithin, ArePlaced, AreCallsInside, Rises, AreAtMost, AreFramesInOrder, IsStack, IsTracked, IsEscapable, FitsStack}
use Rattle.handle_scope.proofs.HandleNumbers.{Rises-take, Rises-drop, Rises-front, Rises-push, Rises-same, AreAtMost-take, AreAtMost-front, AreAtMost-push, AreAtMost-more, AreAtMost-same, HasAt}
use Rattle.handle_scope.proofs.Marks.{reverse-push, start-le, frames-hold, within-hold, order-hold, frames-open, opened_mark, within-open, order-open, placed-open, ClosesScope, frames-close, none-opened, within-enter, order-enter, frames-order-first, placed-left, Escapes, frames-escape, escaped_mark, placed-escape}
use Rattle.handle_scope.proofs.HandlePlaces.{starts-frames, places-frames, length-places}
use Rattle.handle_scope.proofs.Escapes.{tracked-take, tracked-front, tracked-open, tracked-escape, free-most}
use Rattle.handle_scope.proofs.Gives.{gives-frames}
use Rattle.handle_scope.proofs.EscapeRefusals.{closing-scopes, escaping-scopes}

-- the frames part the stack as contracts see it
parted-held : (fs : List FrameMark) (ss : List ScopeMark) (hs : List HeldHandle) → AreFramesWithin fs ss (length hs) → AreFramesWithin fs ss (length (map held_of hs))
parted-held fs ss hs w = let N : ℕ → Type 0 = λ n. AreFramesWithin fs ss n in subst N (sym (length-map hs held_of)) w

-- a frame stands, so there is a mark of it
some-mark : (fs : List FrameMark) (ss : List ScopeMark) (hs : List HeldHandle) → frames_of fs ss hs ≢ [] → reverse fs ≢ []
some-mark fs ss hs some e = some (ap (λ l. frames_marked l ss (map held_of hs)) e)

module _ (fs : List FrameMark) (ss : List ScopeMark) (hs : List HeldHandle) (handles numbers : ℕ) (k : IsStack fs ss hs handles numbers) where
  pub frames-issued : (x : HeldHandle) → frames_of fs ss (hs ++ x ∷ []) ≡ first_changed (hold_in (held_of x)) (frames_of fs ss hs)
  frames-issued x =
      ap (frames_marked (reverse fs) ss) (map-append held_of hs (x ∷ []))
      ∙ frames-hold (held_of x) (reverse fs) ss (map held_of hs) (parted-held (reverse fs) ss hs k.parted)

  stack-issued : (x : HeldHandle) → frames_of fs ss hs ≢ [] → x.handle ≡ handles + 1 → IsStack fs ss (hs ++ x ∷ []) (handles + 1) numbers
  stack-issued x some e =
      let O : List OpenHandle → Type 0 = λ l. AreFramesInOrder (reverse fs) ss l (handles + 1) in
      record {
        parted = within-hold (reverse fs) ss (length hs) (length (hs ++ x ∷ [])) (some-mark fs ss hs some) (omega (arith, length-append hs (x ∷ []))) k.parted;
        placed = k.placed;
        in_order = subst O (sym (map-append held_of hs (x ∷ [])))
            (order-hold (held_of x) (reverse fs) ss (map held_of hs) handles (handles + 1) (parted-held (reverse fs) ss hs k.parted) (omega arith) (omega arith) k.in_order);
        numbers_rise = k.numbers_rise;
        numbers_issued = k.numbers_issued;
      }

  pub frames-opened : (n : ℕ) (kind : ScopeKind) (at place : ℕ) → at ≡ length hs
      → frames_of fs (ss ++ opened_mark n kind at place ∷ []) hs ≡ first_changed (open_in kind n) (frames_of fs ss hs)
  frames-opened n kind at place e =
      frames-open n kind at place (reverse fs) ss (map held_of hs) (parted-held (reverse fs) ss hs k.parted) (e ∙ sym (length-map hs held_of))

  stack-opened : (n : ℕ) (kind : ScopeKind) (at place : ℕ) → frames_of fs ss hs ≢ [] → at ≡ length hs → place ≡ at + length ss → n ≡ numbers + 1
      → IsStack fs (ss ++ opened_mark n kind at place ∷ []) hs handles (numbers + 1)
  stack-opened n kind at place some e there next =
      let m : ScopeMark = opened_mark n kind at place in
      record {
        parted = within-open m (reverse fs) ss (length hs) (some-mark fs ss hs some) k.parted e;
        placed = placed-open m ss there k.placed;
        in_order = order-open n kind at place (reverse fs) ss (map held_of hs) handles (parted-held (reverse fs) ss hs k.parted) (e ∙ sym (length-map hs held_of)) k.in_order;
        numbers_rise = Rises-push (λ (s : ScopeMark). s.number) ss m numbers k.numbers_rise k.numbers_issued (omega arith);
        numbers_issued = AreAtMost-push (λ (s : ScopeMark). s.number) ss m numbers (numbers + 1) k.numbers_issued (omega arith) (omega arith);
      }

  stack-entered : (f : FrameMark) → f.start ≡ length hs → f.scopes ≡ length ss → IsStack (fs ++ f ∷ []) ss hs handles numbers
  stack-entered f e g =
      let F : List FrameMark → Type 0 = λ l. AreFramesWithin l ss (length hs) in
      let O : List FrameMark → Type 0 = λ l. AreFramesInOrder l ss (map held_of hs) handles in
      record {
        parted = subst F (sym (reverse-push fs f)) (within-enter f (reverse fs) ss (length hs) e g k.parted);
        placed = k.placed;
        in_order = subst O (sym (reverse-push fs f)) (order-enter f (reverse fs) ss (map held_of hs) handles (e ∙ sym (length-map hs held_of)) g k.in_order);
        numbers_rise = k.numbers_rise;
        numbers_issued = k.numbers_issued;
      }

  -- the marks lie in order in the stack
  pub starts-stack : AreStartsWithin (reverse ss) (length hs)
  starts-stack = starts-frames (reverse fs) ss (length hs) k.parted

  pub places-stack : handle_places (frames_of fs ss hs) ≡ places_marked (reverse ss) (map held_of hs)
  places-stack = places-frames (reverse fs) ss (map held_of hs) (parted-held (reverse fs) ss hs k.parted)

  pub length-handle_places : length (handle_places (frames_of fs ss hs)) ≡ length hs + length ss
  length-handle_places =
      let N : ℕ → Type 0 = λ n. AreStartsWithin (reverse ss) n in
      let count : length (places_marked (reverse ss) (map held_of hs)) ≡ length (map held_of hs) + length (reverse ss) =
      length-places (reverse ss) (map held_of hs) (subst N (sym (length-map hs held_of)) starts-stack) in
      ap length places-stack ∙ omega (arith, count, length-map hs held_of, length-reverse ss)

  pub gives-stack : (h : ℕ) → gives (frames_of fs ss hs) h ≡ option_or (value_in (map held_of hs) h) (value_in (all_waiting (reverse ss)) h)
  gives-stack h = gives-frames (reverse fs) ss (map held_of hs) h handles (parted-held (reverse fs) ss hs k.parted) k.in_order

  -- the handles of the stack rise
  pub handles-rise : Rises (λ p. p.handle) (map held_of hs)
  handles-rise = (frames-order-first (reverse fs) ss (map held_of hs) handles k.in_order).rise

-- a frame that ends leaves the stack as it was before the frame
pub frames-left : (fs : List FrameMark) (f : FrameMark) (ss : List ScopeMark) (hs : List HeldHandle)
    → frames_of fs (take f.scopes ss) (take f.start hs) ≡ tail (frames_of (fs ++ f ∷ []) ss hs)
frames-left fs f ss hs =
    ap (frames_marked (reverse fs) (take f.scopes ss)) (sym (take-map held_of f.start hs))
    ∙ sym (ap (λ l. tail (frames_marked l ss (map held_of hs))) (reverse-push fs f))

stack-left : (fs : List FrameMark) (f : FrameMark) (ss : List ScopeMark) (hs : List HeldHandle) (handles numbers : ℕ)
    → IsStack (fs ++ f ∷ []) ss hs handles numbers → IsStack fs (take f.scopes ss) (take f.start hs) handles numbers
stack-left fs f ss hs handles numbers k =
    let F : List FrameMark → Type 0 = λ l. AreFramesWithin l ss (length hs) in
    let O : List FrameMark → Type 0 = λ l. AreFramesInOrder l ss (map held_of hs) handles in
    let H : List OpenHandle → Type 0 = λ l. AreFramesInOrder (reverse fs) (take f.scopes ss) l handles in
    let w : AreFramesWithin (f ∷ reverse fs) ss (length hs) = subst F (reverse-push fs f) k.parted in
    let o : AreFramesInOrder (f ∷ reverse fs) ss (map held_of hs) handles = subst O (reverse-push fs f) k.in_order in
    let begins : f.start ≤ length hs = start-le f.start (reverse (drop f.scopes ss)) (length hs) w.1 in
    let N : ℕ → Type 0 = λ n. AreFramesWithin (reverse fs) (take f.scopes ss) n in
    record {
      parted = subst N (sym (length-take-le f.start hs begins)) w.2;
      placed = placed-left f.scopes ss k.placed;
      in_order = subst H (take-map held_of f.start hs) o.1;
      numbers_rise = Rises-take (λ (s : ScopeMark). s.number) f.scopes ss k.numbers_rise;
      numbers_issued = AreAtMost-take (λ (s : ScopeMark). s.number) f.scopes ss numbers k.numbers_issued;
    }

-- a scope that closes
closes : (fs : List FrameMark) (ss : List ScopeMark) (m : ScopeMark) (hs : List HeldHandle) (handles numbers : ℕ)
    → IsStack fs (ss ++ m ∷ []) hs handles numbers → opened_scopes (frames_of fs (ss ++ m ∷ []) hs) ≢ []
    → ClosesScope (reverse fs) ss m (map held_of hs)
closes fs ss m hs handles numbers k some =
    frames-close (reverse fs) ss m (map held_of hs) some (parted-held (reverse fs) (ss ++ m ∷ []) hs k.parted)

held-closed : (m : ScopeMark) (hs : List HeldHandle) → map held_of (take m.start hs ++ option_to_list m.escaped) ≡ take m.start (map held_of hs) ++ waiting_handle m
held-closed m hs = map-append held_of (take m.start hs) (option_to_list m.escaped) ∙ ap (λ l. l ++ waiting_handle m) (sym (take-map held_of m.start hs))

pub frames-closed : (fs : List FrameMark) (ss : List ScopeMark) (m : ScopeMark) (hs : List HeldHandle) (handles numbers : ℕ)
    → IsStack fs (ss ++ m ∷ []) hs handles numbers → opened_scopes (frames_of fs (ss ++ m ∷ []) hs) ≢ []
    → frames_of fs ss (take m.start hs ++ option_to_list m.escaped) ≡ first_changed close_in (frames_of fs (ss ++ m ∷ []) hs)
frames-closed fs ss m hs handles numbers k some =
    ap (frames_marked (reverse fs) ss) (held-closed m hs) ∙ (closes fs ss m hs handles numbers k some).frames

stack-closed : (fs : List FrameMark) (ss : List ScopeMark) (m : ScopeMark) (hs : List HeldHandle) (handles numbers : ℕ)
    → IsStack fs (ss ++ m ∷ []) hs handles numbers → opened_scopes (frames_of fs (ss ++ m ∷ []) hs) ≢ []
    → IsStack fs ss (take m.start hs ++ option_to_list m.escaped) handles numbers
stack-closed fs ss m hs handles numbers k some =
    let c : ClosesScope (reverse fs) ss m (map held_of hs) = closes fs ss m hs handles numbers k some in
    let N : ℕ → Type 0 = λ n. AreFramesWithin (reverse fs) ss n in
    let P : List ScopeMark → Type 0 = λ l. ArePlaced l in
    let O : List OpenHandle → Type 0 = λ l. AreFramesInOrder (reverse fs) ss l handles in
    record {
      parted = subst N (sym (ap length (held-closed m hs)) ∙ length-map (take m.start hs ++ option_to_list m.escaped) held_of) c.within;
      placed = (subst P (reverse-push ss m) k.placed).1;
      in_order = subst O (sym (held-closed m hs)) (c.in_order handles k.in_order);
      numbers_rise = Rises-front (λ (s : ScopeMark). s.number) ss (m ∷ []) k.numbers_rise;
      numbers_issued = AreAtMost-front (λ (s : ScopeMark). s.number) ss (m ∷ []) numbers k.numbers_issued;
    }

length-marked : (fs : List FrameMark) (ss : List ScopeMark) (hs : List OpenHandle) → length (frames_marked fs ss hs) ≡ length fs
length-marked [] ss hs = refl
length-marked (f ∷ fs) ss hs = ap suc (length-marked fs (take f.scopes ss) (take f.start hs))

pub length-frames : (fs : List FrameMark) (ss : List ScopeMark) (hs : List HeldHandle) → length (frames_of fs ss hs) ≡ length fs
length-frames fs ss hs = length-marked (reverse fs) ss (map held_of hs) ∙ length-reverse fs

-- THE INNERMOST FRAME
-- the innermost frame's mark, and its scopes
record Innermost (f : FrameMark) (fs : List FrameMark) (ss : List ScopeMark) (hs : List OpenHandle) (end : ℕ) : Type 0 where
  pub inside : f.scopes ≤ length ss
  pub opened : opened_scopes (frames_marked fs ss hs) ≡ (scopes_above f.start (reverse (drop f.scopes ss)) hs).opened

innermost-marked : (f : FrameMark) (fs : List FrameMark) (ss : List ScopeMark) (hs : List OpenHandle) (end : ℕ) → head fs ≡ Some f → AreFramesWithin fs ss end
    → Innermost f fs ss hs end
innermost-marked f [] ss hs end e w = cc
innermost-marked f (g ∷ fs) ss hs end e w =
    let same : g ≡ f = cc in
    let P : FrameMark → Type 0 = λ x. Innermost x (g ∷ fs) ss hs end in
    subst P same (record { inside = w.0; opened = refl })

innermost-inside : (f : FrameMark) (fs : List FrameMark) (ss : List ScopeMark) (hs : List HeldHandle) (handles numbers : ℕ)
    → IsStack fs ss hs handles numbers → head (reverse fs) ≡ Some f → f.scopes ≤ length ss
innermost-inside f fs ss hs handles numbers k e = (innermost-marked f (reverse fs) ss (map held_of hs) (length hs) e k.parted).inside

pub closing-frames : (n : ℕ) (kind : ScopeKind) (f : FrameMark) (fs : List FrameMark) (ss : List ScopeMark) (hs : List HeldHandle) (handles numbers : ℕ)
    → IsStack fs ss hs handles numbers → head (reverse fs) ≡ Some f
    → closing n kind (scopes_above 0 (reverse (drop f.scopes ss)) []).opened ≡ closing n kind (opened_scopes (frames_of fs ss hs))
closing-frames n kind f fs ss hs handles numbers k e =
    closing-scopes n kind 0 f.start (reverse (drop f.scopes ss)) [] (map held_of hs)
    ∙ ap (closing n kind) (sym (innermost-marked f (reverse fs) ss (map held_of hs) (length hs) e k.parted).opened)

pub escaping-frames : (n : ℕ) (f : FrameMark) (fs : List FrameMark) (ss : List ScopeMark) (hs : List HeldHandle) (handles numbers : ℕ)
    → IsStack fs ss hs handles numbers → head (reverse fs) ≡ Some f
    → escaping n (scopes_above 0 (reverse (drop f.scopes ss)) []).opened ≡ escaping n (opened_scopes (frames_of fs ss hs))
escaping-frames n f fs ss hs handles numbers k e =
    escaping-scopes n 0 f.start (reverse (drop f.scopes ss)) [] (map held_of hs)
    ∙ ap (escaping n) (sym (innermost-marked f (reverse fs) ss (map held_of hs) (length hs) e k.parted).opened)

-- the rest of a list as a slice of it
pub rest-slice : {A : Type 0} (k : ℕ) (l : List A) → take (length l - k) (drop k l) ≡ drop k l
rest-slice k l = take_all (length l - k) (drop k l) (omega (arith, length-drop k l))

-- the innermost mark leaves the marks, where a scope is open
pub none-closed : (fs : List FrameMark) (ss : List ScopeMark) (hs : List HeldHandle) → ss ≡ [] → opened_scopes (frames_of fs ss hs) ≡ []
none-closed fs ss hs e = ap (λ l. opened_scopes (frames_of fs l hs)) e ∙ none-opened (reverse fs) (map held_of hs)

-- AN ESCAPE
pub record Escaped (n : ℕ) (fs : List FrameMark) (ss : List ScopeMark) (at : ℕ) (x : HeldHandle) (d : ScopeMark) (hs : List HeldHandle) (handles numbers : ℕ) : Type 0 where
  pub frames : frames_of fs (set ss at (escaped_mark (get_or ss at d) x)) hs ≡ first_changed (escape_in n (held_of x)) (frames_of fs ss hs)
  pub stack : IsStack fs (set ss at (escaped_mark (get_or ss at d) x)) hs (handles + 1) numbers
  pub inside : at < length ss
  pub none : (get_or ss at d).escaped ≡ None

stack-escaped : (n : ℕ) (fs : List FrameMark) (ss : List ScopeMark) (at : ℕ) (x : HeldHandle) (d : ScopeMark) (hs : List HeldHandle) (handles numbers : ℕ)
    → IsStack fs ss hs handles numbers → x.handle ≡ handles + 1 → at < length ss → (get_or ss at d).escaped ≡ None → Escapes n (reverse fs) ss at x d (map held_of hs)
    → Escaped n fs ss at x d hs handles numbers
stack-escaped n fs ss at x d hs handles numbers k e inside none s =
    let after : List ScopeMark = set ss at (escaped_mark (get_or ss at d) x) in
    let N : ℕ → Type 0 = λ l. AreFramesWithin (reverse fs) after l in
    let same : map (λ (m : ScopeMark). m.number) ss ≡ map (λ (m : ScopeMark). m.number) after =
    sym (map-set_same (λ (m : ScopeMark). m.number) ss at (escaped_mark (get_or ss at d) x) d refl) in
    record {
      frames = s.frames;
      inside = inside;
      none = none;
      stack = record {
        parted = subst N (length-map hs held_of) s.within;
        placed = placed-escape ss at d x inside k.placed;
        in_order = s.in_order handles (handles + 1) (omega arith) (omega arith) k.in_order;
        numbers_rise = Rises-same (λ (m : ScopeMark). m.number) ss after same k.numbers_rise;
        numbers_issued = AreAtMost-same (λ (m : ScopeMark). m.number) ss after numbers same k.numbers_issued;
      };
    }

-- a scope of the innermost frame is one of all
escapable-there : (n k i : ℕ) (ss : List ScopeMark) → IsEscapable (drop k ss) n i → k ≤ length ss → IsEscapable ss n (k + i)
escapable-there n k i ss e le = record {
  inside = omega (arith, e.inside, length-drop k ss);
  same = λ d. ap (λ (s : ScopeMark). s.number) (sym (get_or-drop k ss i d)) ∙ e.same d;
  free = λ d. ap (λ (s : ScopeMark). s.escaped) (sym (get_or-drop k ss i d)) ∙ e.free d;
}

escapes-marked : (n : ℕ) (f : FrameMark) (fs : List FrameMark) (ss : List ScopeMark) (i : ℕ) (x : HeldHandle) (d : ScopeMark) (hs : List OpenHandle) → head fs ≡ Some f
    → AreFramesWithin fs ss (length hs) → Rises (λ s. s.number) ss → IsEscapable (drop f.scopes ss) n i → Escapes n fs ss (f.scopes + i) x d hs
escapes-marked n f [] ss i x d hs e w r s = cc
escapes-marked n f (g ∷ fs) ss i x d hs e w r s =
    let same : g ≡ f = cc in
    let there : IsEscapable (drop g.scopes ss) n i = subst (λ (y : FrameMark). IsEscapable (drop y.scopes ss) n i) (sym same) s in
    let has : HasAt (λ s. s.number) (drop g.scopes ss) n i = record { inside = there.inside; same = there.same } in
    subst (λ (y : FrameMark). Escapes n (g ∷ fs) ss (y.scopes + i) x d hs) same
    (frames-escape n g fs ss i x d hs w (Rises-drop (λ (s : ScopeMark). s.number) g.scopes ss r) has (there.free d) (get_or-drop g.scopes ss i d))

pub frames-escaped : (n : ℕ) (f : FrameMark) (fs : List FrameMark) (ss : List ScopeMark) (i : ℕ) (x : HeldHandle) (d : ScopeMark) (hs : List HeldHandle) (handles numbers : ℕ)
    → IsStack fs ss hs handles numbers → head (reverse fs) ≡ Some f → IsEscapable (drop f.scopes ss) n i → x.handle ≡ handles + 1
    → Escaped n fs ss (f.scopes + i) x d hs handles numbers
frames-escaped n f fs ss i x d hs handles numbers k e s next =
    let le : f.scopes ≤ length ss = innermost-inside f fs ss hs handles numbers k e in
    let there : IsEscapable ss n (f.scopes + i) = escapable-there n f.scopes i ss s le in
    stack-escaped n fs ss (f.scopes + i) x d hs handles numbers k next there.inside (there.free d)
    (escapes-marked n f (reverse fs) ss i x d (map held_of hs) e (parted-held (reverse fs) ss hs k.parted) k.numbers_rise s)

-- WHAT IS KEPT
-- a scope from which a handle escaped lets none escape after it
pub free-fewer : (ss : List ScopeMark) (at : ℕ) (x : HeldHandle) (d : ScopeMark) → at < length ss → (get_or ss at d).escaped ≡ None
    → sum_by free_escapes (set ss at (escaped_mark (get_or ss at d) x)) + 1 ≡ sum_by free_escapes ss
free-fewer ss at x d inside none =
    let m : ScopeMark = escaped_mark (get_or ss at d) x in
    let here : free_escapes (get_or ss at d) ≡ 1 = ap (λ o. cond (is_some o) 0 1) none in
    let changed : sum_by free_escapes (set ss at m) + free_escapes (get_or ss at d) ≡ sum_by free_escapes ss + 0 = sum_by-set free_escapes ss at m d inside in
    omega arith

one-most : (o : Option HeldHandle) → length (option_to_list o) ≤ 1
one-most None = omega arith
one-most (Some h) = omega arith

no-marks : (fs : List FrameMark) (ss : List ScopeMark) (hs : List OpenHandle) → fs ≢ [] → frames_marked fs ss hs ≢ []
no-marks [] ss hs some e = some refl
no-marks (f ∷ fs) ss hs some e = cc

module _ (fs : List FrameMark) (ss : List ScopeMark) (hs : List HeldHandle) (es : List Escape) (handles numbers spare calls frame_places held_places escape_places : ℕ)
    (k : FitsStack fs ss hs es handles numbers spare calls frame_places held_places escape_places) where
  pub kept-issued : (x : HeldHandle) → frames_of fs ss hs ≢ [] → x.handle ≡ handles + 1 → 0 < spare
      → FitsStack fs ss (hs ++ x ∷ []) es (handles + 1) numbers (spare - 1) calls frame_places held_places escape_places
  kept-issued x some e more = record {
    stack = stack-issued fs ss hs handles numbers k.stack x some e;
    tracked = k.tracked;
    escapes_issued = AreAtMost-more (λ (y : Escape). y.handle) es handles (handles + 1) (omega arith) k.escapes_issued;
    calls_inside = k.calls_inside;
    calls_counted = k.calls_counted;
    frames_fit = k.frames_fit;
    held_fits = omega (arith, k.held_fits, length-append hs (x ∷ []));
    escapes_fit = k.escapes_fit;
    escapes_few = k.escapes_few;
  }

  pub kept-opened : (n : ℕ) (kind : ScopeKind) (at place held_more escapes_more : ℕ) → frames_of fs ss hs ≢ [] → at ≡ length hs → place ≡ at + length ss → n ≡ numbers + 1
      → length hs + (length ss + calls + spare + 1) ≤ held_more → length es + (length ss + 1) ≤ escapes_more
      → FitsStack fs (ss ++ opened_mark n kind at place ∷ []) hs es handles (numbers + 1) spare calls frame_places held_more escapes_more
  kept-opened n kind at place held_more escapes_more some e there next held_room escape_room =
      let m : ScopeMark = opened_mark n kind at place in
      let sum : sum_by free_escapes (ss ++ m ∷ []) ≡ sum_by free_escapes ss + 1 = sum_by_push free_escapes ss m in
      record {
        stack = stack-opened fs ss hs handles numbers k.stack n kind at place some e there next;
        tracked = tracked-open ss m es refl k.tracked;
        escapes_issued = k.escapes_issued;
        calls_inside = k.calls_inside;
        calls_counted = k.calls_counted;
        frames_fit = k.frames_fit;
        held_fits = omega (arith, held_room, length-append ss (m ∷ []));
        escapes_fit = omega (arith, escape_room, sum, free-most ss);
        escapes_few = omega (arith, k.escapes_few, sum, length-append ss (m ∷ []));
      }

  kept-entered-by : (f : FrameMark) (held_more : ℕ) → f.start ≡ length hs → f.scopes ≡ length ss → (f.by_call ≡ true → frames_of fs ss hs ≢ [])
      → length hs + (length ss + (calls + call_places f.by_call + spare)) ≤ held_more
      → FitsStack (fs ++ f ∷ []) ss hs es handles numbers spare (calls + call_places f.by_call) frame_places held_more escape_places
  kept-entered-by f held_more e g inside room =
      let C : List FrameMark → Type 0 = λ l. AreCallsInside l in
      record {
        stack = stack-entered fs ss hs handles numbers k.stack f e g;
        tracked = k.tracked;
        escapes_issued = k.escapes_issued;
        calls_inside = subst C (sym (reverse-push fs f)) ((λ called. some-mark fs ss hs (inside called)), k.calls_inside);
        calls_counted = ap (λ n. n + call_places f.by_call) k.calls_counted ∙ sym (sum_by_push (λ (y : FrameMark). call_places y.by_call) fs f);
        frames_fit = k.frames_fit;
        held_fits = room;
        escapes_fit = k.escapes_fit;
        escapes_few = k.escapes_few;
      }

  pub kept-entered : (start scopes : ℕ) → start ≡ length hs → scopes ≡ length ss
      → FitsStack (fs ++ record { start = start; scopes = scopes; by_call = false } ∷ []) ss hs es handles numbers spare calls frame_places held_places escape_places
  kept-entered start scopes e g =
      let f : FrameMark = record { start = start; scopes = scopes; by_call = false } in
      let P : ℕ → Type 0 = λ n. FitsStack (fs ++ f ∷ []) ss hs es handles numbers spare n frame_places held_places escape_places in
      let same : calls + 0 ≡ calls = omega arith in
      subst P same (kept-entered-by f held_places e g (λ called. cc) (omega (arith, k.held_fits)))

  pub kept-called : (start scopes held_more : ℕ) → start ≡ length hs → scopes ≡ length ss → frames_of fs ss hs ≢ [] → length hs + (length ss + calls + spare + 1) ≤ held_more
      → FitsStack (fs ++ record { start = start; scopes = scopes; by_call = true } ∷ []) ss hs es handles numbers spare (calls + 1) frame_places held_more escape_places
  kept-called start scopes held_more e g some room =
      kept-entered-by (record { start = start; scopes = scopes; by_call = true }) held_more e g (λ called. some) (omega arith)

-- the escapes that are left once those of closed scopes may have been dropped
pub record Forgets (ss : List ScopeMark) (es left : List Escape) : Type 0 where
  pub tracked : IsTracked ss es → IsTracked ss left
  pub issued : (most : ℕ) → AreAtMost (λ e. e.handle) es most → AreAtMost (λ e. e.handle) left most
  pub shorter : length left ≤ length es
  pub few : Rises (λ e. e.handle) es → length left ≤ 2 * length ss + 1

pub kept-closed : (fs : List FrameMark) (ss : List ScopeMark) (m : ScopeMark) (hs : List HeldHandle) (es left : List Escape) (handles numbers spare calls frame_places held_places escape_places : ℕ)
    → FitsStack fs (ss ++ m ∷ []) hs es handles numbers spare calls frame_places held_places escape_places → opened_scopes (frames_of fs (ss ++ m ∷ []) hs) ≢ [] → Forgets ss es left
    → FitsStack fs ss (take m.start hs ++ option_to_list m.escaped) left handles numbers spare calls frame_places held_places escape_places
kept-closed fs ss m hs es left handles numbers spare calls frame_places held_places escape_places k some g = record {
  stack = stack-closed fs ss m hs handles numbers k.stack some;
  tracked = g.tracked (tracked-front ss m es k.tracked);
  escapes_issued = g.issued handles k.escapes_issued;
  calls_inside = k.calls_inside;
  calls_counted = k.calls_counted;
  frames_fit = k.frames_fit;
  held_fits = omega (arith, k.held_fits, length-append ss (m ∷ []), length-append (take m.start hs) (option_to_list m.escaped), length-take m.start hs, one-most m.escaped);
  escapes_fit = omega (arith, k.escapes_fit, g.shorter, sum_by_push free_escapes ss m);
  escapes_few = omega (arith, g.few k.tracked.rise, free-most ss);
}

-- a scope that closes begins where there is memory
pub kept-cut : (fs : List FrameMark) (ss : List ScopeMark) (m : ScopeMark) (hs : List HeldHandle) (es : List Escape) (handles numbers spare calls frame_places held_places escape_places : ℕ)
    → FitsStack fs (ss ++ m ∷ []) hs es handles numbers spare calls frame_places held_places escape_places → opened_scopes (frames_of fs (ss ++ m ∷ []) hs) ≢ [] → m.start < held_places
kept-cut fs ss m hs es handles numbers spare calls frame_places held_places escape_places k some =
    let c : ClosesScope (reverse fs) ss m (map held_of hs) = closes fs ss m hs handles numbers k.stack some in
    omega (arith, c.inside, length-map hs held_of, k.held_fits, length-append ss (m ∷ []))

-- the innermost frame leaves its caller a place, where a call entered it
pub place-left : (fs : List FrameMark) (f : FrameMark) → place_left (map (λ y. y.by_call) (reverse (fs ++ f ∷ []))) ≡ call_places f.by_call
place-left fs f = ap (λ l. place_left (map (λ (y : FrameMark). y.by_call) l)) (reverse-push fs f)

called-of : (b : Bool) → 0 < call_places b → b ≡ true
called-of true more = refl
called-of false more = absurd (omega arith)

pub kept-left : (fs : List FrameMark) (f : FrameMark) (ss : List ScopeMark) (hs : List HeldHandle) (es left : List Escape) (handles numbers spare calls ended spared frame_places held_places escape_places : ℕ)
    → FitsStack (fs ++ f ∷ []) ss hs es handles numbers spare calls frame_places held_places escape_places → Forgets (take f.scopes ss) es left
    → ended ≡ call_places f.by_call → spared ≤ call_places f.by_call
    → FitsStack fs (take f.scopes ss) (take f.start hs) left handles numbers (spare + spared) (calls - ended) frame_places held_places escape_places
kept-left fs f ss hs es left handles numbers spare calls ended spared frame_places held_places escape_places k g e le =
    let C : List FrameMark → Type 0 = λ l. AreCallsInside l in
    record {
      stack = stack-left fs f ss hs handles numbers k.stack;
      tracked = g.tracked (tracked-take f.scopes ss es k.tracked);
      escapes_issued = g.issued handles k.escapes_issued;
      calls_inside = (subst C (reverse-push fs f) k.calls_inside).1;
      calls_counted = omega (arith, k.calls_counted, sum_by_push (λ (y : FrameMark). call_places y.by_call) fs f);
      frames_fit = k.frames_fit;
      held_fits = omega (arith, k.held_fits, length-take f.start hs, length-take f.scopes ss, k.calls_counted, sum_by_push (λ (y : FrameMark). call_places y.by_call) fs f);
      escapes_fit = omega (arith, k.escapes_fit, g.shorter, sum_by-take-le free_escapes ss f.scopes);
      escapes_few = omega (arith, g.few k.tracked.rise, free-most (take f.scopes ss));
    }

-- a frame that a call entered stands inside another one
pub caller-stands : (fs : List FrameMark) (f : FrameMark) (ss : List ScopeMark) (hs : List HeldHandle) → AreCallsInside (reverse (fs ++ f ∷ [])) → 0 < call_places f.by_call → frames_of fs ss hs ≢ []
caller-stands fs f ss hs c called none =
    let C : List FrameMark → Type 0 = λ l. AreCallsInside l in
    let outer : reverse fs ≢ [] = (subst C (reverse-push fs f) c).0 (called-of f.by_call called) in
    no-marks (reverse fs) ss (map held_of hs) outer none

pub kept-escaped : (n : ℕ) (fs : List FrameMark) (ss : List ScopeMark) (at : ℕ) (x : HeldHandle) (d : ScopeMark) (hs : List HeldHandle) (es : List Escape) (handles numbers spare calls frame_places held_places escape_places : ℕ)
    → FitsStack fs ss hs es handles numbers spare calls frame_places held_places escape_places → x.handle ≡ handles + 1 → Escaped n fs ss at x d hs handles numbers
    → FitsStack fs (set ss at (escaped_mark (get_or ss at d) x)) hs (es ++ record { handle = x.handle; scope = at } ∷ []) (handles + 1) numbers spare calls frame_places held_places escape_places
kept-escaped n fs ss at x d hs es handles numbers spare calls frame_places held_places escape_places k e s =
    let m : ScopeMark = escaped_mark (get_or ss at d) x in
    let y : Escape = record { handle = x.handle; scope = at } in
    record {
      stack = s.stack;
      tracked = tracked-escape ss at d x es handles s.inside k.escapes_issued (omega arith) k.tracked;
      escapes_issued = AreAtMost-push (λ (z : Escape). z.handle) es y handles (handles + 1) k.escapes_issued (omega arith) (omega arith);
      calls_inside = k.calls_inside;
      calls_counted = k.calls_counted;
      frames_fit = k.frames_fit;
      held_fits = omega (arith, k.held_fits, length-set ss at m);
      escapes_fit = omega (arith, k.escapes_fit, free-fewer ss at x d s.inside s.none, length-append es (y ∷ []));
      escapes_few = omega (arith, k.escapes_few, free-fewer ss at x d s.inside s.none, length-append es (y ∷ []), length-set ss at m);
    }
