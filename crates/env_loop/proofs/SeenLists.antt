-- The duties that begin along a run, and what addons have seen of them.
use Rattle.std.proofs.Common.{◌≡◌, ◌≢◌, ◌<◌, ◌∙◌, ℕ, ◌==◌, true, false, cond, List, [], ◌∷◌, ◌++◌, length, set, Option, None, refl, ap, subst, sym, arith, append_assoc, append-nil, inl, inr}
use Rattle.std.specs.Option.{option_to_list}
use Rattle.std.proofs.lemmas.Bool.{cases_eq}
use Rattle.std.proofs.lemmas.List.{get_or-set_same, get_or-set_other}
use Rattle.napi_types.specs.declared.duties.DueInfo.{DueInfo}
use Rattle.napi_types.specs.parts.Frames.{Frame}
use Rattle.napi_types.specs.environment.Environment.{Environment}
use Rattle.napi_types.specs.runs.Begins.{of_addon}
use Rattle.napi_types.specs.runs.Choice.{local_choice}
use Rattle.napi_types.specs.runs.Loop.{Event}
use Rattle.napi_types.proofs.runs.Runs.{of_addon-append}
use Rattle.addon_trait.specs.Addons.{seen_of}
use Rattle.env_loop.specs.Recording.{HasSeen}
use Rattle.env_loop.specs.Turns.{ticket_info_of, ticket_info_at, next_ticket_info}

-- WHAT BEGINS
-- no ticket begins while a frame stands, ..
begins-over-none : (e : Environment) (fs : List Frame) → fs ≢ [] → ticket_info_at e fs ≡ None
begins-over-none e [] some = absurd (some refl)
begins-over-none e (f ∷ fs) some = refl

pub begins-none : (e : Environment) → e.frames ≢ [] → next_ticket_info e ≡ None
begins-none e some = begins-over-none e e.frames some

-- .. and else the one that is the event that the environment decides, where it is a ticket
pub begins-chosen : (e : Environment) (o : Option Event) → e.frames ≡ [] → local_choice e ≡ o → next_ticket_info e ≡ ticket_info_of e o
begins-chosen e o alone chosen = ap (ticket_info_at e) alone ∙ ap (ticket_info_of e) chosen

-- WHAT IS SEEN
pub seen-same : (all now : List (List DueInfo)) → now ≡ all → HasSeen all [] now
seen-same all now same = λ addon. ap (λ l. seen_of l addon) same ∙ sym (append-nil (seen_of all addon))

-- where no ticket begins what was seen stays
pub seen-stays : (e : Environment) (all now : List (List DueInfo)) → next_ticket_info e ≡ None → now ≡ all
    → HasSeen all (option_to_list (next_ticket_info e)) now
seen-stays e all now none same = let P : Option DueInfo → Type 0 = λ d. HasSeen all (option_to_list d) now in subst P (sym none) (seen-same all now same)

pub seen-more : (firsts all now : List (List DueInfo)) (begun more : List DueInfo) → HasSeen firsts begun all → HasSeen all more now
    → HasSeen firsts (begun ++ more) now
seen-more firsts all now begun more so_far next = λ addon.
    next addon ∙ ap (λ l. l ++ of_addon addon more) (so_far addon) ∙ append_assoc (seen_of firsts addon) (of_addon addon begun) (of_addon addon more)
    ∙ ap (λ l. seen_of firsts addon ++ l) (sym (of_addon-append addon begun more))

-- the addon of a duty that begins has seen it, and no other addon
one-of : (addon : ℕ) (d : DueInfo) → d.addon ≡ addon → of_addon addon (d ∷ []) ≡ d ∷ []
one-of addon d same = ap (λ b. cond b (d ∷ []) []) (is-same d.addon addon same)
  where
    is-same : (a b : ℕ) → a ≡ b → (a == b) ≡ true
    is-same a b e = grind arith

none-of : (addon : ℕ) (d : DueInfo) → d.addon ≢ addon → of_addon addon (d ∷ []) ≡ []
none-of addon d other = ap (λ b. cond b (d ∷ []) []) (is-other d.addon addon other)
  where
    is-other : (a b : ℕ) → a ≢ b → (a == b) ≡ false
    is-other a b e = grind arith

pub seen-begun : (all now : List (List DueInfo)) (d : DueInfo) → d.addon < length all → now ≡ set all d.addon (seen_of all d.addon ++ d ∷ [])
    → HasSeen all (d ∷ []) now
seen-begun all now d inside given = λ addon. elim (cases_eq d.addon addon) [
  | inl same ↦
      let A : ℕ → Type 0 = λ k. seen_of now k ≡ seen_of all k ++ of_addon k (d ∷ []) in
      subst A same
      (ap (λ l. seen_of l d.addon) given ∙ get_or-set_same all d.addon (seen_of all d.addon ++ d ∷ []) [] inside
      ∙ ap (λ l. seen_of all d.addon ++ l) (sym (one-of d.addon d refl)))
  | inr other ↦
      ap (λ l. seen_of l addon) given ∙ get_or-set_other all d.addon addon (seen_of all d.addon ++ d ∷ []) [] (λ e. other (sym e))
      ∙ sym (append-nil (seen_of all addon)) ∙ ap (λ l. seen_of all addon ++ l) (sym (none-of addon d other))
]
