-- What a collection leaves, and what it answers.
use Rattle.std.proofs.Common.{◌≡◌, ℕ, Bool, true, false, cond, not, List, [], ◌∷◌, ◌++◌, length, map, Option, Some, None, IfSome, IsSome, option_map, refl, ap, sym, subst, ◌∙◌}
use Rattle.std.specs.List.{All}
use Rattle.std.specs.Option.{unwrap_or, option_to_list}
use Rattle.std.proofs.lemmas.List.Elements.{All-nil, All-cons, All-head, All-tail}
use Rattle.napi_types.specs.declared.call.Call.TheVariants as call
use Rattle.napi_types.specs.declared.entry.Out.TheVariants as out
use Rattle.napi_types.specs.declared.status.Status.TheVariants as status
use Rattle.napi_types.specs.plain.Lists.{has_number}
use Rattle.napi_types.specs.plain.Replies.{plain}
use Rattle.napi_types.specs.parts.Attachments.{Attachments, left_on, is_attached_to}
use Rattle.napi_types.specs.parts.Book.{Book, due_where}
use Rattle.napi_types.specs.parts.Buffers.{Buffers, buffers_left}
use Rattle.napi_types.specs.parts.Frames.{Frame}
use Rattle.napi_types.specs.parts.Graph.{StoreState, IsSoundStore, IsLive, number_in, graph_of}
use Rattle.napi_types.specs.parts.Heap.{Heap}
use Rattle.napi_types.specs.parts.Promises.{Promises, promise_roots, promises_left}
use Rattle.napi_types.specs.parts.Reach.{reach_from}
use Rattle.napi_types.specs.parts.References.{Reference, ReferenceMap, strong_values, value_left, emptied}
use Rattle.napi_types.specs.parts.Scopes.{OpenHandle, held_by_frames}
use Rattle.napi_types.specs.parts.Values.{Value, those_of, all_but}
use Rattle.napi_types.specs.environment.Collection.{is_freed, collected}
use Rattle.napi_types.specs.environment.Environment.{Environment, TsfnRoot}
use Rattle.napi_types.specs.environment.Roots.{roots, reach}
use Rattle.napi_types.proofs.plain.Lists.{All-left, All-right}
use Rattle.napi_types.proofs.parts.Reaching.{reach_from-same}
use Rattle.value_store.specs.StoreChanges.{Frees}
use Rattle.handle_scope.specs.HandleScopes.{HandleScopes}
use Rattle.env_values.specs.SeenValues.{seen_frame, heap_of}
use Rattle.env_values.proofs.SeenValues.{IsSame, seen-same}
use Rattle.trace_collect.specs.Collects.{reached, AreUnreached}
use Rattle.deferred.specs.KeptPromises.{AreMaps}
use Rattle.env_core.specs.Promising.{promises_seen, PromisesAreLive}
use Rattle.env_core.specs.TsfnRooting.{root_seen, tsfn_roots_seen, RootsAreLive}
use Rattle.env_core.specs.Referring.{seen_reference, references_seen, RefersToLive}
use Rattle.env_core.specs.Rooting.{AreRoots, held_values}
use Rattle.env_core.specs.State.{pending_seen, IsState, AnswersInTime}
use Rattle.env_core.proofs.Rooting.{whole_environment, roots-seen, same-holds}

-- the store freed exactly the live values that are not alive, and the roots are not among them
pub record FreesOthers (s t : StoreState) (roots freed alive : List ℕ) : Type 0 where
  pub frees : Frees s t freed
  pub told : (id : ℕ) → IsLive s id → has_number id freed ≡ not (has_number (number_in s id) alive)
  pub kept : All (λ r. has_number r freed ≡ false) roots

-- what the collection of the store promises is this
told-by : (s : StoreState) (roots freed : List ℕ) → AreUnreached s roots freed → (id : ℕ) → IsLive s id → has_number id freed ≡ not (has_number (number_in s id) (reached s roots))
told-by s roots freed all id live = by (has_number id freed) refl (has_number (number_in s id) (reached s roots)) refl
  where
    by : (a : Bool) → has_number id freed ≡ a → (b : Bool) → has_number (number_in s id) (reached s roots) ≡ b → has_number id freed ≡ not (has_number (number_in s id) (reached s roots))
    by true h b e = h ∙ sym (ap not ((all id).0 h).1)
    by false h true e = h ∙ sym (ap not e)
    by false h false e = let none : ⊥ = cc (h, (all id).1 (live, e)) in absurd none

pub frees-others : (s t : StoreState) (roots freed : List ℕ) → AreUnreached s roots freed → Frees s t freed → All (λ r. has_number r freed ≡ false) roots → FreesOthers s t roots freed (reached s roots)
frees-others s t roots freed all frees kept = record { frees = frees; told = told-by s roots freed all; kept = kept }

module _ (s t : StoreState) (ids freed alive : List ℕ) (c : FreesOthers s t ids freed alive) where
  -- a value that was not freed is what it was
  pub stays-live : (id : ℕ) → has_number id freed ≡ false → IsLive s id → IsLive t id
  stays-live id h live = subst (λ (o : Option Value). IsSome o) (sym (c.frees.others id h)) live

  pub stays-number : (id : ℕ) → has_number id freed ≡ false → number_in t id ≡ number_in s id
  stays-number id h = ap (λ (o : Option Value). unwrap_or (option_map (λ v. v.number) o) 0) (c.frees.others id h)

  -- REFERENCES
  left-live : (v : Option ℕ) → IfSome v (IsLive s) → IfSome (value_left (λ id. has_number id freed) v) (IsLive t)
  left-live None live = tt
  left-live (Some id) live = by (has_number id freed) refl
    where
      by : (b : Bool) → has_number id freed ≡ b → IfSome (cond b None (Some id)) (IsLive t)
      by true h = tt
      by false h = stays-live id h live

  rows-left : (rs : List Reference) → All (λ r. IfSome r.value (IsLive s)) rs → All (λ r. IfSome r.value (IsLive t)) (map (λ (r : Reference). record r { value = value_left (λ id. has_number id freed) r.value }) rs)
  rows-left [] all = All-nil (λ (r : Reference). IfSome r.value (IsLive t))
  rows-left (r ∷ rs) all =
      let P : Reference → Type 0 = λ r. IfSome r.value (IsLive s) in
      let Q : Reference → Type 0 = λ r. IfSome r.value (IsLive t) in
      All-cons Q (record r { value = value_left (λ id. has_number id freed) r.value }) _ (left-live r.value (All-head P r rs all)) (rows-left rs (All-tail P r rs all))

  pub emptied-live : (m : ReferenceMap) → RefersToLive s m → RefersToLive t (emptied (λ id. has_number id freed) m)
  emptied-live m live = rows-left m.rows live

  seen-left : (v : Option ℕ) → IfSome v (IsLive s) → option_map (number_in t) (value_left (λ id. has_number id freed) v) ≡ value_left (λ n. not (has_number n alive)) (option_map (number_in s) v)
  seen-left None live = refl
  seen-left (Some id) live = ap (λ b. option_map (number_in t) (cond b None (Some id))) (c.told id live) ∙ by (not (has_number (number_in s id) alive)) (c.told id live)
    where
      by : (b : Bool) → has_number id freed ≡ b → option_map (number_in t) (cond b None (Some id)) ≡ cond b None (Some (number_in s id))
      by true h = refl
      by false h = ap Some (stays-number id h)

  rows-emptied : (rs : List Reference) → All (λ r. IfSome r.value (IsLive s)) rs
      → map (seen_reference t) (map (λ (r : Reference). record r { value = value_left (λ id. has_number id freed) r.value }) rs)
      ≡ map (λ (r : Reference). record r { value = value_left (λ n. not (has_number n alive)) r.value }) (map (seen_reference s) rs)
  rows-emptied [] all = refl
  rows-emptied (r ∷ rs) all =
      let P : Reference → Type 0 = λ r. IfSome r.value (IsLive s) in
      let after : List Reference = map (seen_reference t) (map (λ (x : Reference). record x { value = value_left (λ id. has_number id freed) x.value }) rs) in
      ap (λ v. record r { value = v } ∷ after) (seen-left r.value (All-head P r rs all))
      ∙ ap (λ l. record r { value = value_left (λ n. not (has_number n alive)) (option_map (number_in s) r.value) } ∷ l) (rows-emptied rs (All-tail P r rs all))

  seen-emptied : (m : ReferenceMap) → RefersToLive s m → references_seen t (emptied (λ id. has_number id freed) m) ≡ emptied (λ n. not (has_number n alive)) (references_seen s m)
  seen-emptied m live = ap (λ l. record m { rows = l }) (rows-emptied m.rows live)

  -- HANDLES
  held-kept : (hs : List OpenHandle) → All (λ r. has_number r freed ≡ false) (map (λ h. h.value) hs) → All (λ p. IsLive s p.value) hs → All (λ p. IsLive t p.value) hs
  held-kept [] kept live = All-nil (λ (p : OpenHandle). IsLive t p.value)
  held-kept (h ∷ hs) kept live =
      let K : ℕ → Type 0 = λ r. has_number r freed ≡ false in
      All-cons (λ (p : OpenHandle). IsLive t p.value) h hs (stays-live h.value (All-head K h.value _ kept) (All-head (λ (p : OpenHandle). IsLive s p.value) h hs live))
      (held-kept hs (All-tail K h.value _ kept) (All-tail (λ (p : OpenHandle). IsLive s p.value) h hs live))

  held-same : (hs : List OpenHandle) → All (λ r. has_number r freed ≡ false) (map (λ h. h.value) hs) → All (IsSame s t) hs
  held-same [] kept = All-nil (IsSame s t)
  held-same (h ∷ hs) kept =
      let K : ℕ → Type 0 = λ r. has_number r freed ≡ false in
      All-cons (IsSame s t) h hs (stays-number h.value (All-head K h.value _ kept)) (held-same hs (All-tail K h.value _ kept))

  -- THE PENDING EXCEPTION
  thrown-kept : (p : Option ℕ) → All (λ r. has_number r freed ≡ false) (option_to_list p) → pending_seen t p ≡ pending_seen s p
  thrown-kept None kept = refl
  thrown-kept (Some v) kept = ap Some (stays-number v (All-head (λ (r : ℕ). has_number r freed ≡ false) v [] kept))

  thrown-live : (p : Option ℕ) → All (λ r. has_number r freed ≡ false) (option_to_list p) → IfSome p (IsLive s) → IfSome p (IsLive t)
  thrown-live None kept live = tt
  thrown-live (Some v) kept live = stays-live v (All-head (λ (r : ℕ). has_number r freed ≡ false) v [] kept) live

  -- ROOTS OF FUNCTIONS
  functions-live : (rs : List TsfnRoot) → All (λ r. has_number r freed ≡ false) (map (λ f. f.value) rs) → RootsAreLive s rs → RootsAreLive t rs
  functions-live [] kept live = All-nil (λ (f : TsfnRoot). IsLive t f.value)
  functions-live (f ∷ fs) kept live =
      let K : ℕ → Type 0 = λ r. has_number r freed ≡ false in
      let L : TsfnRoot → Type 0 = λ g. IsLive s g.value in
      All-cons (λ (g : TsfnRoot). IsLive t g.value) f fs (stays-live f.value (All-head K f.value _ kept) (All-head L f fs live))
      (functions-live fs (All-tail K f.value _ kept) (All-tail L f fs live))

  functions-kept : (rs : List TsfnRoot) → All (λ r. has_number r freed ≡ false) (map (λ f. f.value) rs) → tsfn_roots_seen t rs ≡ tsfn_roots_seen s rs
  functions-kept [] kept = refl
  functions-kept (f ∷ fs) kept =
      let K : ℕ → Type 0 = λ r. has_number r freed ≡ false in
      let first : root_seen t f ≡ root_seen s f = ap (λ v. record f { value = v }) (stays-number f.value (All-head K f.value _ kept)) in
      ap (λ g. g ∷ map (root_seen t) fs) first ∙ ap (λ l. root_seen s f ∷ l) (functions-kept fs (All-tail K f.value _ kept))

-- the roots that are no starting values are kept, each kind
record KeepsRoots (freed : List ℕ) (scopes : HandleScopes) (m : ReferenceMap) (rs : List TsfnRoot) (p : Option ℕ) : Type 0 where
  pub held : All (λ r. has_number r freed ≡ false) (map (λ h. h.value) (held_by_frames scopes.frames))
  pub strong : All (λ r. has_number r freed ≡ false) (strong_values m)
  pub functions : All (λ r. has_number r freed ≡ false) (map (λ f. f.value) rs)
  pub pending : All (λ r. has_number r freed ≡ false) (option_to_list p)

keeps-roots : (s t : StoreState) (scopes : HandleScopes) (m : ReferenceMap) (rs : List TsfnRoot) (p : Option ℕ) (ps : Promises) (ids freed alive : List ℕ)
    → AreRoots s scopes m rs p ps ids → FreesOthers s t ids freed alive
    → KeepsRoots freed scopes m rs p
keeps-roots s t scopes m rs p ps ids freed alive r c =
    let K : ℕ → Type 0 = λ id. has_number id freed ≡ false in
    let held : List ℕ = held_values scopes in
    let strong : List ℕ = strong_values m in
    let functions : List ℕ = map (λ (f : TsfnRoot). f.value) rs in
    let most_of : List ℕ = r.starting ++ held ++ strong ++ functions ++ option_to_list p in
    let all : All K most_of = All-left K most_of (promise_roots ps) (same-holds K ids (most_of ++ promise_roots ps) r.are c.kept) in
    let most : All K (r.starting ++ held ++ strong ++ functions) = All-left K (r.starting ++ held ++ strong ++ functions) (option_to_list p) all in
    let outer : All K (r.starting ++ held ++ strong) = All-left K (r.starting ++ held ++ strong) functions most in
    record {
      held = All-right K r.starting held (All-left K (r.starting ++ held) strong outer);
      strong = All-right K (r.starting ++ held) strong outer;
      functions = All-right K (r.starting ++ held ++ strong) functions most;
      pending = All-right K (r.starting ++ held ++ strong ++ functions) (option_to_list p) all;
    }

-- no strong reference names a value that is freed
pub strong-kept : (s t : StoreState) (scopes : HandleScopes) (m : ReferenceMap) (rs : List TsfnRoot) (p : Option ℕ) (ps : Promises) (ids freed alive : List ℕ)
    → AreRoots s scopes m rs p ps ids → FreesOthers s t ids freed alive
    → All (λ r. has_number r freed ≡ false) (strong_values m)
strong-kept s t scopes m rs p ps ids freed alive r c = (keeps-roots s t scopes m rs p ps ids freed alive r c).strong

-- what is left is a state
pub state-collected : (s t : StoreState) (scopes : HandleScopes) (frames : List Frame) (m n : ReferenceMap) (rs : List TsfnRoot) (p : Option ℕ) (ps : Promises) (ids freed alive : List ℕ)
    → IsState s scopes frames p m rs → AreRoots s scopes m rs p ps ids → FreesOthers s t ids freed alive → n ≡ emptied (λ v. has_number v freed) m → IsState t scopes frames p n rs
state-collected s t scopes frames m n rs p ps ids freed alive i r c e =
    let k : KeepsRoots freed scopes m rs p = keeps-roots s t scopes m rs p ps ids freed alive r c in
    record {
      live = held-kept s t ids freed alive c (held_by_frames scopes.frames) k.held i.live;
      frames = i.frames;
      calls = i.calls;
      pending = thrown-live s t ids freed alive c p k.pending i.pending;
      referred = subst (λ (x : ReferenceMap). RefersToLive t x) (sym e) (emptied-live s t ids freed alive c m i.referred);
      rooted = functions-live s t ids freed alive c rs k.functions i.rooted;
    }

-- and it is what the machine's collection leaves
pub collected-answers : (e : Environment) (s t : StoreState) (scopes : HandleScopes) (frames : List Frame) (m n : ReferenceMap) (rs : List TsfnRoot) (p : Option ℕ) (ps : Promises) (ids freed alive : List ℕ) (count : ℕ)
    → IsSoundStore s → PromisesAreLive s ps → AreMaps ps → IsState s scopes frames p m rs → AreRoots s scopes m rs p ps ids → alive ≡ reach_from (graph_of s) (map (number_in s) ids) → FreesOthers s t ids freed alive
    → graph_of t ≡ those_of alive (graph_of s) → count ≡ length (all_but alive (graph_of s)) → n ≡ emptied (λ v. has_number v freed) m
    → (hung : Attachments) (book : Book) (seen_ps : Promises) (seen_bs : Buffers) → hung ≡ left_on (is_freed alive) e.attachments → book ≡ due_where
    (is_attached_to (is_freed alive) e.attachments) e.book → seen_ps ≡ promises_left (is_freed alive) (promises_seen s ps)
    → seen_bs ≡ buffers_left (is_freed alive) e.buffers
    → AnswersInTime (whole_environment e s scopes m rs p ps) call.Collect (plain status.Ok (out.Unsigned count))
    (record (whole_environment e t scopes n rs p ps) { attachments = hung; book = book; promises = seen_ps; buffers = seen_bs })
collected-answers e s t scopes frames m n rs p ps ids freed alive count sound promised maps i r are c graph counted empty hung book seen_ps seen_bs left due gone parted =
    let before : Environment = whole_environment e s scopes m rs p ps in
    let k : KeepsRoots freed scopes m rs p = keeps-roots s t scopes m rs p ps ids freed alive r c in
    let reached : alive ≡ reach before =
    are ∙ reach_from-same (graph_of s) (map (number_in s) ids) (roots before) (roots-seen s e scopes m rs p ps ids sound promised maps r) in
    let values : graph_of t ≡ those_of (reach before) (graph_of s) = graph ∙ ap (λ a. those_of a (graph_of s)) reached in
    let seen : map (seen_frame t) scopes.frames ≡ map (seen_frame s) scopes.frames = seen-same s t scopes.frames (held-same s t ids freed alive c (held_by_frames scopes.frames) k.held) in
    let heap : heap_of t scopes ≡ record (heap_of s scopes) { values = those_of (reach before) (graph_of s) } =
    ap (λ (l : List Value). record (heap_of t scopes) { values = l }) values
    ∙ ap (λ l. record (heap_of t scopes) { values = those_of (reach before) (graph_of s); scopes = l }) seen
    ∙ ap (λ made. record (heap_of s scopes) { values = those_of (reach before) (graph_of s); made = made }) c.frees.nothing_issued.made in
    let references : references_seen t n ≡ emptied (λ v. not (has_number v (reach before))) (references_seen s m) =
    ap (references_seen t) empty ∙ seen-emptied s t ids freed alive c m i.referred ∙ ap (λ a. emptied (λ v. not (has_number v a)) (references_seen s m)) reached in
    let pending : pending_seen t p ≡ pending_seen s p = thrown-kept s t ids freed alive c p k.pending in
    let functions : tsfn_roots_seen t rs ≡ tsfn_roots_seen s rs = functions-kept s t ids freed alive c rs k.functions in
    let alive_here : Environment → List ℕ → Environment = λ x l. record x {
      attachments = left_on (is_freed l) e.attachments;
      book = due_where
          (is_attached_to (is_freed l) e.attachments) e.book;
      promises = promises_left (is_freed l) (promises_seen s ps);
      buffers = buffers_left (is_freed l) e.buffers;
    } in
    let step : Heap → ReferenceMap → List TsfnRoot → Option ℕ → Environment =
    λ h l f q. record e { heap = h; references = l; attachments = hung; book = book; tsfn_roots = f; pending = q; promises = seen_ps; buffers = seen_bs } in
    record {
      fresh = refl;
      reply = ap (λ l. plain status.Ok (out.Unsigned l)) (counted ∙ ap (λ a. length (all_but a (graph_of s))) reached);
      after =
          ap (λ h. step h (references_seen t n) (tsfn_roots_seen t rs) (pending_seen t p)) heap
          ∙ ap (λ l. step (collected (reach before) before).heap l (tsfn_roots_seen t rs) (pending_seen t p)) references
          ∙ ap (λ f. step (collected (reach before) before).heap (collected (reach before) before).references f (pending_seen t p)) functions
          ∙ ap (λ q. step (collected (reach before) before).heap (collected (reach before) before).references (tsfn_roots_seen s rs) q) pending
          ∙ ap (λ l. record (collected (reach before) before) { attachments = l; book = book; promises = seen_ps; buffers = seen_bs }) left
          ∙ ap (λ l. record (collected (reach before) before) { attachments = left_on (is_freed alive) e.attachments; book = l; promises = seen_ps; buffers = seen_bs }) due
          ∙ ap (λ l. record (collected (reach before) before) {
            attachments = left_on (is_freed alive) e.attachments;
            book = due_where (is_attached_to (is_freed alive) e.attachments) e.book;
            promises = l;
            buffers = seen_bs;
          }) gone
          ∙ ap (λ l. record (collected (reach before) before) {
            attachments = left_on (is_freed alive) e.attachments;
            book = due_where (is_attached_to (is_freed alive) e.attachments) e.book;
            promises = promises_left (is_freed alive) (promises_seen s ps);
            buffers = l;
          }) parted
          ∙ ap (alive_here (collected (reach before) before)) reached;
    }
