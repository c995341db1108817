-- The roots of the store's state are the machine's.
use Rattle.std.proofs.Common.{◌≡◌, ℕ, zero, suc, ◌+◌, ◌<◌, arith, append_assoc, length, take, get_or, slice_index_or, ◌==◌, ◌||◌, Bool, true, false, cond, List, [], ◌∷◌, ◌++◌, map, filter_map, Option, Some, None, option_map, IfSome, refl, ap, sym, ◌∙◌, subst}
use Rattle.std.specs.List.{All, cons_option}
use Rattle.std.proofs.lemmas.List.{map-append, append-nil, take_more}
use Rattle.std.proofs.lemmas.List.Elements.{filter_map-append, All-nil, All-cons, All-append, All-map}
use Rattle.std.proofs.lemmas.List.Folds.{list_any-append}
use Rattle.std.specs.Option.{option_to_list}
use Rattle.napi_types.specs.plain.Lists.{has_number, HaveSameNumbers}
use Rattle.napi_types.specs.parts.Graph.{StoreState, IsSoundStore, IsLive, number_in}
use Rattle.napi_types.specs.parts.Promises.{Promises, promise_roots}
use Rattle.napi_types.specs.parts.Reach.{numbers}
use Rattle.napi_types.specs.parts.References.{Reference, ReferenceMap, strong_value, strong_values}
use Rattle.napi_types.specs.parts.Scopes.{OpenHandle, Scope, FrameScopes, held_by_scopes, held_by_frame, held_by_frames}
use Rattle.napi_types.specs.parts.Values.{starting_values}
use Rattle.napi_types.specs.environment.Environment.{Environment, TsfnRoot}
use Rattle.napi_types.specs.environment.Roots.{roots}
use Rattle.napi_types.proofs.plain.Maps.{among-holds, all-among}
use Rattle.napi_types.proofs.plain.Conditions.{alike}
use Rattle.trace_collect.proofs.MarkMembers.{has-map, from-map}
use Rattle.handle_scope.specs.HandleScopes.{HandleScopes, held_places, free_place, frame_places, handle_places}
use Rattle.env_values.specs.SeenValues.{seen_held, seen_scope, seen_frame, heap_of, HoldsLive}
use Rattle.napi_reference.specs.ReferencePlaces.{strong_in}
use Rattle.napi_reference.proofs.KeepingReferences.{strong_values-AllValues}
use Rattle.trace_collect.specs.Collects.{HoldsStarting}
use Rattle.env_core.specs.TsfnRooting.{tsfn_roots_seen, RootsAreLive}
use Rattle.env_core.specs.Referring.{seen_reference, references_seen, RefersToLive}
use Rattle.deferred.specs.KeptPromises.{AreMaps}
use Rattle.env_core.specs.Promising.{promises_seen, PromisesAreLive}
use Rattle.env_core.specs.Rooting.{AreStarting, AreRoots, held_values}
use Rattle.env_core.specs.State.{pending_seen}
use Rattle.env_core.proofs.Promising.{promise_roots-seen, promise_roots-live}
use Rattle.env_core.proofs.TsfnRooting.{values-seen}

-- THE SAME NUMBERS
-- what some of these numbers give, the others give
mapped-within : (f : ℕ → ℕ) (ms ns : List ℕ) → ((n : ℕ) → has_number n ms ≡ true → has_number n ns ≡ true) → (k : ℕ) → has_number k (map f ms) ≡ true → has_number k (map f ns) ≡ true
mapped-within f ms ns within k h =
    let r = from-map f ms k h in
    subst (λ j. has_number j (map f ns) ≡ true) r.2 (has-map f ns r.0 (within r.0 r.1))

pub same-mapped : (f : ℕ → ℕ) (ms ns : List ℕ) → HaveSameNumbers ms ns → HaveSameNumbers (map f ms) (map f ns)
same-mapped f ms ns same =
    λ k. alike (has_number k (map f ms)) (has_number k (map f ns)) (mapped-within f ms ns (λ n h. sym (same n) ∙ h) k) (mapped-within f ns ms (λ n h. same n ∙ h) k)

pub same-after : (ls ms ns : List ℕ) → HaveSameNumbers ms ns → HaveSameNumbers (ls ++ ms) (ls ++ ns)
same-after ls ms ns same =
    λ n. list_any-append (λ m. m == n) ls ms ∙ ap (λ b. has_number n ls || b) (same n) ∙ sym (list_any-append (λ m. m == n) ls ns)

pub same-before : (ls ms ns : List ℕ) → HaveSameNumbers ms ns → HaveSameNumbers (ms ++ ls) (ns ++ ls)
same-before ls ms ns same =
    λ n. list_any-append (λ m. m == n) ms ls ∙ ap (λ b. b || has_number n ls) (same n) ∙ sym (list_any-append (λ m. m == n) ns ls)

pub same-holds : (P : ℕ → Type 0) (ms ns : List ℕ) → HaveSameNumbers ms ns → All P ms → All P ns
same-holds P ms ns same all = all-among P ns (λ n here. among-holds P ms n all (same n ∙ here))

-- THE MACHINE'S ROOTS
-- the environment with these values, scopes, references, roots of functions, pending exception and promises
abbrev pub whole_environment : Environment → StoreState → HandleScopes → ReferenceMap → List TsfnRoot → Option ℕ → Promises → Environment
whole_environment e s scopes m rs p ps = record e {
  heap = heap_of s scopes;
  references = references_seen s m;
  tsfn_roots = tsfn_roots_seen s rs;
  pending = pending_seen s p;
  promises = promises_seen s ps;
}

-- the roots but the promises
abbrev plain_roots : Environment → List ℕ
plain_roots e =
    numbers starting_values ++ map (λ h. h.value) (held_by_frames e.heap.scopes) ++ strong_values e.references ++ map (λ r. r.value) e.tsfn_roots ++ option_to_list e.pending

abbrev tsfn_root_values : List TsfnRoot → List ℕ
tsfn_root_values rs = map (λ r. r.value) rs

abbrev handle_values : List OpenHandle → List ℕ
handle_values hs = map (λ h. h.value) hs

module _ (s : StoreState) where
  held-seen : (hs : List OpenHandle) → handle_values (map (seen_held s) hs) ≡ map (number_in s) (handle_values hs)
  held-seen [] = refl
  held-seen (h ∷ hs) = ap (λ l. number_in s h.value ∷ l) (held-seen hs)

  -- two lists of handles that are seen so are seen so together
  joined : (hs ks xs ys : List OpenHandle) → handle_values hs ≡ map (number_in s) (handle_values xs) → handle_values ks ≡ map (number_in s) (handle_values ys)
      → handle_values (hs ++ ks) ≡ map (number_in s) (handle_values (xs ++ ys))
  joined hs ks xs ys e f =
      map-append (λ (h : OpenHandle). h.value) hs ks ∙ ap (λ l. l ++ handle_values ks) e ∙ ap (λ l. map (number_in s) (handle_values xs) ++ l) f
      ∙ sym (map-append (number_in s) (handle_values xs) (handle_values ys)) ∙ ap (map (number_in s)) (sym (map-append (λ (h : OpenHandle). h.value) xs ys))

  scopes-seen : (ss : List Scope) → handle_values (held_by_scopes (map (seen_scope s) ss)) ≡ map (number_in s) (handle_values (held_by_scopes ss))
  scopes-seen [] = refl
  scopes-seen (x ∷ ss) = joined (held_by_scopes (map (seen_scope s) ss)) (map (seen_held s) x.held) (held_by_scopes ss) x.held (scopes-seen ss) (held-seen x.held)

  frame-seen : (f : FrameScopes) → handle_values (held_by_frame (seen_frame s f)) ≡ map (number_in s) (handle_values (held_by_frame f))
  frame-seen f = joined (map (seen_held s) f.own) (held_by_scopes (map (seen_scope s) f.opened)) f.own (held_by_scopes f.opened) (held-seen f.own) (scopes-seen f.opened)

  frames-seen : (fs : List FrameScopes) → handle_values (held_by_frames (map (seen_frame s) fs)) ≡ map (number_in s) (handle_values (held_by_frames fs))
  frames-seen [] = refl
  frames-seen (f ∷ fs) = joined (held_by_frames (map (seen_frame s) fs)) (held_by_frame (seen_frame s f)) (held_by_frames fs) (held_by_frame f) (frames-seen fs) (frame-seen f)

  strong-seen : (r : Reference) → strong_value (seen_reference s r) ≡ option_map (number_in s) (strong_value r)
  strong-seen r = by (r.count == 0)
    where
      by : (b : Bool) → cond b None (option_map (number_in s) r.value) ≡ option_map (number_in s) (cond b None r.value)
      by true = refl
      by false = refl

  rows-strong : (rs : List Reference) → filter_map strong_value (map (seen_reference s) rs) ≡ map (number_in s) (filter_map strong_value rs)
  rows-strong [] = refl
  rows-strong (r ∷ rs) = by (strong_value (seen_reference s r)) (strong_value r) (strong-seen r) (rows-strong rs) refl refl
    where
      by : (a b : Option ℕ) → a ≡ option_map (number_in s) b → filter_map strong_value (map (seen_reference s) rs) ≡ map (number_in s) (filter_map strong_value rs)
          → strong_value (seen_reference s r) ≡ a → strong_value r ≡ b
          → filter_map strong_value (map (seen_reference s) (r ∷ rs)) ≡ map (number_in s) (filter_map strong_value (r ∷ rs))
      by a None e rest f g = rw (f ∙ e, g) rest
      by a (Some v) e rest f g = rw (f ∙ e, g) (ap (λ l. number_in s v ∷ l) rest)

  pending-at : (p : Option ℕ) → option_to_list (pending_seen s p) ≡ map (number_in s) (option_to_list p)
  pending-at None = refl
  pending-at (Some v) = refl

  -- the roots but the promises, in the order of the machine
  in-order : (e : Environment) (scopes : HandleScopes) (m : ReferenceMap) (rs : List TsfnRoot) (p : Option ℕ) (ps : Promises) (starting : List ℕ)
      → AreStarting s starting
      → map (number_in s) (starting ++ held_values scopes ++ strong_values m ++ tsfn_root_values rs ++ option_to_list p)
      ≡ plain_roots (whole_environment e s scopes m rs p ps)
  in-order e scopes m rs p ps starting are =
      let n : List ℕ → List ℕ = map (number_in s) in
      let first : List ℕ = numbers starting_values in
      let held : List ℕ = held_values scopes in
      let seen : List ℕ = handle_values (held_by_frames (map (seen_frame s) scopes.frames)) in
      let strong : List ℕ = strong_values m in
      let functions : List ℕ = tsfn_root_values rs in
      let last : List ℕ = option_to_list p in
      map-append (number_in s) (starting ++ held ++ strong ++ functions) last
      ∙ ap (λ l. l ++ n last) (map-append (number_in s) (starting ++ held ++ strong) functions)
      ∙ ap (λ l. l ++ n functions ++ n last) (map-append (number_in s) (starting ++ held) strong)
      ∙ ap (λ l. l ++ n strong ++ n functions ++ n last) (map-append (number_in s) starting held)
      ∙ ap (λ l. l ++ n held ++ n strong ++ n functions ++ n last) are.numbers_are
      ∙ ap (λ l. first ++ l ++ n strong ++ n functions ++ n last) (sym (frames-seen scopes.frames))
      ∙ ap (λ l. first ++ seen ++ l ++ n functions ++ n last) (sym (rows-strong m.rows))
      ∙ ap (λ l. first ++ seen ++ strong_values (references_seen s m) ++ l ++ n last) (sym (values-seen s rs))
      ∙ ap (λ l. first ++ seen ++ strong_values (references_seen s m) ++ tsfn_root_values (tsfn_roots_seen s rs) ++ l) (sym (pending-at p))

  -- and in any order
  pub roots-seen : (e : Environment) (scopes : HandleScopes) (m : ReferenceMap) (rs : List TsfnRoot) (p : Option ℕ) (ps : Promises) (ids : List ℕ)
      → IsSoundStore s → PromisesAreLive s ps → AreMaps ps → AreRoots s scopes m rs p ps ids
      → HaveSameNumbers (map (number_in s) ids) (roots (whole_environment e s scopes m rs p ps))
  roots-seen e scopes m rs p ps ids sound live maps r =
      let first : List ℕ = r.starting ++ held_values scopes ++ strong_values m ++ tsfn_root_values rs ++ option_to_list p in
      let last : List ℕ = promise_roots ps in
      λ n. same-mapped (number_in s) ids (first ++ last) r.are n
      ∙ ap (has_number n) (map-append (number_in s) first last)
      ∙ ap (λ l. has_number n (l ++ map (number_in s) last)) (in-order e scopes m rs p ps r.starting r.are_starting)
      ∙ same-after (plain_roots (whole_environment e s scopes m rs p ps)) (map (number_in s) last) (promise_roots (promises_seen s ps))
      (promise_roots-seen s sound ps live maps) n

-- the starting values are among them
starts-with : (which : ℕ) (ns : List ℕ) → which < 5 → has_number (which + 1) (numbers starting_values ++ ns) ≡ true
starts-with zero ns h = refl
starts-with (suc zero) ns h = refl
starts-with (suc (suc zero)) ns h = refl
starts-with (suc (suc (suc zero))) ns h = refl
starts-with (suc (suc (suc (suc zero)))) ns h = refl
starts-with (suc (suc (suc (suc (suc which))))) ns h = absurd (omega (arith, h))

pub roots-start : (s : StoreState) (scopes : HandleScopes) (m : ReferenceMap) (rs : List TsfnRoot) (p : Option ℕ) (ps : Promises) (ids : List ℕ)
    → AreRoots s scopes m rs p ps ids → HoldsStarting s ids
roots-start s scopes m rs p ps ids r which h =
    let n : List ℕ → List ℕ = map (number_in s) in
    let rest : List ℕ = held_values scopes ++ (strong_values m ++ (tsfn_root_values rs ++ (option_to_list p ++ promise_roots ps))) in
    let all : List ℕ = r.starting ++ held_values scopes ++ strong_values m ++ tsfn_root_values rs ++ option_to_list p ++ promise_roots ps in
    let are : all ≡ r.starting ++ rest = simp append_assoc in
    let seen : n all ≡ numbers starting_values ++ n rest = ap n are ∙ map-append (number_in s) r.starting rest ∙ ap (λ l. l ++ n rest) r.are_starting.numbers_are in
    same-mapped (number_in s) ids all r.are (which + 1) ∙ ap (has_number (which + 1)) seen ∙ starts-with which (n rest) h

-- WHAT IS PUSHED
-- the places of handles that are filled have the values that scopes hold
held_places-values : (hs : List OpenHandle) → filter_map (λ place. place) (held_places hs) ≡ handle_values hs
held_places-values [] = refl
held_places-values (h ∷ hs) = ap (λ l. h.value ∷ l) (held_places-values hs)

free-none : (x : Scope) → filter_map (λ place. place) (free_place x) ≡ []
free-none x = by x.used
  where
    by : (b : Bool) → filter_map (λ (place : Option ℕ). place) (cond b [] (None ∷ [])) ≡ []
    by true = refl
    by false = refl

frame-values : (own : List OpenHandle) (ss : List Scope) → filter_map (λ place. place) (frame_places own ss) ≡ handle_values (own ++ held_by_scopes ss)
frame-values own [] = held_places-values own ∙ ap handle_values (sym (append-nil own))
frame-values own (x ∷ ss) =
    let f : List (Option ℕ) → List ℕ = filter_map (λ place. place) in
    let split : f ((frame_places own ss ++ free_place x) ++ held_places x.held) ≡ f (frame_places own ss ++ free_place x) ++ f (held_places x.held) = filter_map-append (λ place. place) (frame_places own ss ++ free_place x) (held_places x.held) in
    let inner : f (frame_places own ss ++ free_place x) ≡ f (frame_places own ss) = filter_map-append (λ place. place) (frame_places own ss) (free_place x) ∙ ap (λ l. f (frame_places own ss) ++ l) (free-none x) ∙ append-nil (f (frame_places own ss)) in
    split ∙ ap (λ l. l ++ f (held_places x.held)) (inner ∙ frame-values own ss) ∙ ap (λ l. handle_values (own ++ held_by_scopes ss) ++ l) (held_places-values x.held)
    ∙ sym (map-append (λ (h : OpenHandle). h.value) (own ++ held_by_scopes ss) x.held) ∙ ap handle_values (append_assoc own (held_by_scopes ss) x.held)

pub places-values : (fs : List FrameScopes) → filter_map (λ place. place) (handle_places fs) ≡ handle_values (held_by_frames fs)
places-values [] = refl
places-values (f ∷ fs) =
    let g : List (Option ℕ) → List ℕ = filter_map (λ place. place) in
    let split : g (handle_places fs ++ frame_places f.own f.opened) ≡ g (handle_places fs) ++ g (frame_places f.own f.opened) = filter_map-append (λ place. place) (handle_places fs) (frame_places f.own f.opened) in
    split ∙ ap (λ l. l ++ g (frame_places f.own f.opened)) (places-values fs) ∙ ap (λ l. handle_values (held_by_frames fs) ++ l) (frame-values f.own f.opened)
    ∙ sym (map-append (λ (h : OpenHandle). h.value) (held_by_frames fs) (f.own ++ held_by_scopes f.opened))

-- one place more
pub place-more : (es : List (Option ℕ)) (at : ℕ) (e : Option ℕ) → at < length es → e ≡ slice_index_or es at None
    → filter_map (λ place. place) (take (at + 1) es) ≡ filter_map (λ place. place) (take at es) ++ option_to_list e
place-more es at e less is =
    ap (filter_map (λ (place : Option ℕ). place)) (take_more es at None less)
    ∙ filter_map-append (λ (place : Option ℕ). place) (take at es) (get_or es at None ∷ [])
    ∙ ap (λ o. filter_map (λ (place : Option ℕ). place) (take at es) ++ filter_map (λ (place : Option ℕ). place) (o ∷ [])) (sym is)
    ∙ ap (λ l. filter_map (λ (place : Option ℕ). place) (take at es) ++ l) (one e)
  where
    one : (e : Option ℕ) → filter_map (λ (place : Option ℕ). place) (e ∷ []) ≡ option_to_list e
    one None = refl
    one (Some n) = refl

-- what was pushed, with one place more
pub pushed-more : (olds now next : List ℕ) (es : List (Option ℕ)) (at : ℕ) (e : Option ℕ) → at < length es → e ≡ slice_index_or es at None
    → now ≡ olds ++ filter_map (λ place. place) (take at es) → next ≡ now ++ option_to_list e → next ≡ olds ++ filter_map (λ place. place) (take (at + 1) es)
pushed-more olds now next es at e less is before more =
    more ∙ ap (λ l. l ++ option_to_list e) before ∙ append_assoc olds (filter_map (λ place. place) (take at es)) (option_to_list e)
    ∙ ap (λ l. olds ++ l) (sym (place-more es at e less is))

-- the values at the places of strong references
pub strong-places : (ps : List (Option Reference)) → filter_map (λ place. place) (map strong_in ps) ≡ filter_map strong_in ps
strong-places [] = refl
strong-places (p ∷ ps) = by (strong_in p) (strong-places ps)
  where
    by : (o : Option ℕ) → filter_map (λ (place : Option ℕ). place) (map strong_in ps) ≡ filter_map strong_in ps
        → filter_map (λ (place : Option ℕ). place) (o ∷ map strong_in ps) ≡ cons_option o (filter_map strong_in ps)
    by None rest = rest
    by (Some n) rest = ap (λ l. n ∷ l) rest

pub strong-at : (ps : List (Option Reference)) (at : ℕ) → slice_index_or (map strong_in ps) at None ≡ strong_in (slice_index_or ps at None)
strong-at [] at = refl
strong-at (p ∷ ps) zero = refl
strong-at (p ∷ ps) (suc at) = strong-at ps at

-- WHAT THE ROOTS ARE
pending-live : (s : StoreState) (p : Option ℕ) → IfSome p (IsLive s) → All (IsLive s) (option_to_list p)
pending-live s None live = All-nil (IsLive s)
pending-live s (Some v) live = All-cons (IsLive s) v [] live (All-nil (IsLive s))

-- what was gathered are the roots
pub gathered : (s : StoreState) (scopes : HandleScopes) (m : ReferenceMap) (rs : List TsfnRoot) (p : Option ℕ) (ps : Promises)
    (first second third fourth fifth ids : List ℕ)
    → HoldsLive s scopes → RefersToLive s m → RootsAreLive s rs → IfSome p (IsLive s) → PromisesAreLive s ps → AreStarting s first
    → second ≡ first ++ held_values scopes → HaveSameNumbers third (second ++ strong_values m) → fourth ≡ third ++ tsfn_root_values rs
    → fifth ≡ fourth ++ option_to_list p → HaveSameNumbers ids (fifth ++ promise_roots ps) → AreRoots s scopes m rs p ps ids
gathered s scopes m rs p ps first second third fourth fifth ids held referred rooted pending promised start a b c d e =
    let L : ℕ → Type 0 = IsLive s in
    let last : List ℕ = promise_roots ps in
    let outer : List ℕ = first ++ held_values scopes ++ strong_values m in
    let most : List ℕ = outer ++ tsfn_root_values rs ++ option_to_list p in
    let all : List ℕ = most ++ last in
    let but_promises : HaveSameNumbers fifth most =
    λ n. ap (has_number n) (d ∙ ap (λ l. l ++ option_to_list p) c)
    ∙ same-before (option_to_list p) (third ++ tsfn_root_values rs) (second ++ strong_values m ++ tsfn_root_values rs) (same-before (tsfn_root_values rs) third (second ++ strong_values m) b) n
    ∙ ap (λ l. has_number n (l ++ strong_values m ++ tsfn_root_values rs ++ option_to_list p)) a in
    let are : HaveSameNumbers ids all = λ n. e n ∙ same-before last fifth most but_promises n in
    let live : All L all =
    All-append L most last
    (All-append L (outer ++ tsfn_root_values rs) (option_to_list p)
    (All-append L outer (tsfn_root_values rs)
    (All-append L (first ++ held_values scopes) (strong_values m)
    (All-append L first (held_values scopes) start.live (All-map L (λ (h : OpenHandle). h.value) (held_by_frames scopes.frames) held))
    (strong_values-AllValues L m referred))
    (All-map L (λ (r : TsfnRoot). r.value) rs rooted)) (pending-live s p pending))
    (promise_roots-live s ps promised) in
    record { starting = first; are_starting = start; are = are; live = same-holds L all ids (λ n. sym (are n)) live }
