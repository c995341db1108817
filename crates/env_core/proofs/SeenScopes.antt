-- Scopes as the machine sees them: how what is seen goes along with a close, and what is left was held before.
use Rattle.std.proofs.Common.{◌≡◌, ℕ, ◌==◌, ◌||◌, ◌&&◌, Bool, true, false, cond, not, List, [], ◌∷◌, ◌++◌, map, Option, Some, None, option_map, refl, ap, subst, sym, ◌∙◌, append_assoc}
use Rattle.std.specs.Option.{option_or}
use Rattle.std.specs.List.{All}
use Rattle.std.proofs.lemmas.List.{append-nil}
use Rattle.napi_types.specs.declared.ids.ScopeKind.{ScopeKind}
use Rattle.napi_types.specs.declared.ids.ScopeKind.TheVariants as scope_kind
use Rattle.napi_types.specs.declared.status.Status.TheVariants as status
use Rattle.napi_types.specs.plain.Lists.{first_changed, tail, when}
use Rattle.napi_types.specs.parts.Graph.{StoreState}
use Rattle.napi_types.specs.parts.ScopeChanges.{open_in, close_in}
use Rattle.napi_types.specs.parts.ScopeRefusals.{has_scope, is_kind, closing, escapable_scope, refuses_escape, escaping}
use Rattle.napi_types.specs.parts.Scopes.{OpenHandle, Scope, FrameScopes, held_by_scopes, held_by_frames, opened_scopes}
use Rattle.napi_types.proofs.plain.Lists.{All-left}
use Rattle.env_values.specs.SeenValues.{seen_held, seen_scope, seen_frame}

-- WHAT IS SEEN
pub map-tail : {A B : Type 0} (f : A → B) (xs : List A) → map f (tail xs) ≡ tail (map f xs)
map-tail f [] = refl
map-tail f (x ∷ xs) = refl

pub seen-opened : (store : StoreState) (kind : ScopeKind) (n : ℕ) (fs : List FrameScopes) → map (seen_frame store) (first_changed (open_in kind n) fs) ≡ first_changed (open_in kind n) (map (seen_frame store) fs)
seen-opened store kind n [] = refl
seen-opened store kind n (f ∷ fs) = refl

pub seen-closed : (store : StoreState) (fs : List FrameScopes) → map (seen_frame store) (first_changed close_in fs) ≡ first_changed close_in (map (seen_frame store) fs)
seen-closed store [] = refl
seen-closed store (f ∷ fs) =
    let seen : List Scope → List FrameScopes = λ ss. record { own = map (seen_held store) f.own; opened = ss } ∷ map (seen_frame store) fs in
    ap seen (map-tail (seen_scope store) f.opened)

-- WHY A SCOPE CANNOT BE CLOSED reads numbers alone
has_scope-seen : (store : StoreState) (n : ℕ) (ss : List Scope) → has_scope n (map (seen_scope store) ss) ≡ has_scope n ss
has_scope-seen store n [] = refl
has_scope-seen store n (s ∷ ss) = ap (λ b. (s.number == n) || b) (has_scope-seen store n ss)

closing-among : (store : StoreState) (n : ℕ) (kind : ScopeKind) (ss : List Scope) → closing n kind (map (seen_scope store) ss) ≡ closing n kind ss
closing-among store n kind [] = refl
closing-among store n kind (s ∷ ss) =
    ap (λ b. option_or (when (not b) status.InvalidArg) (when (not ((s.number == n) && is_kind s.kind kind)) status.HandleScopeMismatch)) (has_scope-seen store n (s ∷ ss))

opened-seen : (store : StoreState) (fs : List FrameScopes) → opened_scopes (map (seen_frame store) fs) ≡ map (seen_scope store) (opened_scopes fs)
opened-seen store [] = refl
opened-seen store (f ∷ fs) = refl

pub closing-seen : (store : StoreState) (n : ℕ) (kind : ScopeKind) (fs : List FrameScopes) → closing n kind (opened_scopes (map (seen_frame store) fs)) ≡ closing n kind (opened_scopes fs)
closing-seen store n kind fs = ap (closing n kind) (opened-seen store fs) ∙ closing-among store n kind (opened_scopes fs)

-- WHY A HANDLE CANNOT ESCAPE reads numbers, kinds and uses alone
escapable-seen : (store : StoreState) (n : ℕ) (ss : List Scope) → escapable_scope n (map (seen_scope store) ss) ≡ option_map (seen_scope store) (escapable_scope n ss)
escapable-seen store n [] = refl
escapable-seen store n (s ∷ ss) = by (escapable-seen store n ss) ((s.number == n) && is_kind s.kind scope_kind.Escapable)
  where
    by : escapable_scope n (map (seen_scope store) ss) ≡ option_map (seen_scope store) (escapable_scope n ss) → (b : Bool)
        → cond b (Some (seen_scope store s)) (escapable_scope n (map (seen_scope store) ss)) ≡ option_map (seen_scope store) (cond b (Some s) (escapable_scope n ss))
    by rest true = refl
    by rest false = rest

refuses-seen : (store : StoreState) (o : Option Scope) → refuses_escape (option_map (seen_scope store) o) ≡ refuses_escape o
refuses-seen store None = refl
refuses-seen store (Some s) = refl

pub escaping-seen : (store : StoreState) (n : ℕ) (fs : List FrameScopes) → escaping n (opened_scopes (map (seen_frame store) fs)) ≡ escaping n (opened_scopes fs)
escaping-seen store n fs = ap (escaping n) (opened-seen store fs) ∙ ap refuses_escape (escapable-seen store n (opened_scopes fs)) ∙ refuses-seen store (escapable_scope n (opened_scopes fs))

-- WHAT SCOPES HOLD
-- what is left after a close was held before
all-closed_among : (P : OpenHandle → Type 0) (hs own : List OpenHandle) (ss : List Scope) → All P (hs ++ (own ++ held_by_scopes ss)) → All P (hs ++ (own ++ held_by_scopes (tail ss)))
all-closed_among P hs own [] h = h
all-closed_among P hs own (s ∷ ss) h =
    let e : hs ++ (own ++ (held_by_scopes ss ++ s.held)) ≡ (hs ++ (own ++ held_by_scopes ss)) ++ s.held = simp append_assoc in
    All-left P (hs ++ (own ++ held_by_scopes ss)) s.held (subst (All P) e h)

pub all-closed : (P : OpenHandle → Type 0) (fs : List FrameScopes) → All P (held_by_frames fs) → All P (held_by_frames (first_changed close_in fs))
all-closed P [] h = h
all-closed P (f ∷ fs) h = all-closed_among P (held_by_frames fs) f.own f.opened h

-- a scope that opens holds nothing
pub all-opened : (P : OpenHandle → Type 0) (kind : ScopeKind) (n : ℕ) (fs : List FrameScopes) → All P (held_by_frames fs) → All P (held_by_frames (first_changed (open_in kind n) fs))
all-opened P kind n [] h = h
all-opened P kind n (f ∷ fs) h =
    let e : held_by_frames fs ++ (f.own ++ (held_by_scopes f.opened ++ [])) ≡ held_by_frames fs ++ (f.own ++ held_by_scopes f.opened) =
    ap (λ l. held_by_frames fs ++ (f.own ++ l)) (append-nil (held_by_scopes f.opened)) in
    subst (All P) (sym e) h
