-- What is attached to values, as some of them are freed.
use Rattle.std.proofs.Common.{◌≡◌, ◌∙◌, ℕ, ◌==◌, ◌&&◌, ◌||◌, Bool, true, false, not, cond, List, [], ◌∷◌, map, filter, get_or, Option, Some, None, option_map, refl, ap, sym}
use Rattle.std.specs.List.{All, list_any, filter_map, cons_option}
use Rattle.std.proofs.lemmas.List.Elements.{All-head, All-tail, All-filter}
use Rattle.std.proofs.lemmas.List.Folds.{list_any-append}
use Rattle.std.proofs.lemmas.Bool.{not-true}
use Rattle.napi_types.specs.plain.Lists.{has_number}
use Rattle.napi_types.specs.parts.Attachments.{Wrapped, Tagged, Attached, Attachments, left_on, is_attached_to}
use Rattle.napi_types.specs.parts.Book.{Book, due_where}
use Rattle.napi_types.specs.parts.Graph.{StoreState, IsSoundStore, IsLive, number_in}
use Rattle.napi_types.specs.parts.Promises.{Promise, Deferred, Promises, promises_left}
use Rattle.napi_types.specs.parts.Values.{Value}
use Rattle.napi_types.specs.environment.Collection.{is_freed}
use Rattle.napi_types.proofs.plain.Found.{passing, map-rising}
use Rattle.napi_types.proofs.plain.Lists.{any-map}
use Rattle.wrap_tag.proofs.Dues.{due_where-same}
use Rattle.env_registry.specs.KeptRegistry.{AreOnce}
use Rattle.env_values.specs.SeenValues.{IsPromiseIn}
use Rattle.env_core.specs.Promising.{seen_promise, seen_deferred, promises_seen, PromisesAreLive}
use Rattle.env_core.specs.Attaching.{seen_wrap, seen_tag, seen_attached, attachments_seen, AreAttachedToLive}
use Rattle.env_core.proofs.Attaching.{number-apart}
use Rattle.env_core.proofs.Collecting.{FreesOthers, stays-live, stays-number}
use Rattle.env_core.proofs.Promising.{deferreds-live}
use Rattle.env_core.proofs.Renaming.{any-filter, listed-filter, seen-filter, list_any-seen}

-- TESTS ON LISTS
any-same : {A : Type 0} (p q : A → Bool) (xs : List A) → All (λ x. p x ≡ q x) xs → list_any p xs ≡ list_any q xs
any-same p q [] same = refl
any-same p q (x ∷ xs) same = ap (λ b. b || list_any p xs) (All-head (λ y. p y ≡ q y) x xs same) ∙ ap (λ b. q x || b) (any-same p q xs (All-tail (λ y. p y ≡ q y) x xs same))

-- a test of what is there
abbrev holds_of : (ℕ → Bool) → Option ℕ → Bool
holds_of p None = false
holds_of p (Some n) = p n

any-filter_map : {A : Type 0} (p : ℕ → Bool) (g : A → Option ℕ) (q : A → Bool) (xs : List A)
    → list_any p (filter_map g (filter q xs)) ≡ list_any (λ x. q x && holds_of p (g x)) xs
any-filter_map p g q [] = refl
any-filter_map p g q (x ∷ xs) = by (q x) (any-filter_map p g q xs)
  where
    first : (o : Option ℕ) → list_any p (filter_map g (filter q xs)) ≡ list_any (λ y. q y && holds_of p (g y)) xs
        → list_any p (cons_option o (filter_map g (filter q xs))) ≡ (holds_of p o || list_any (λ y. q y && holds_of p (g y)) xs)
    first None rest = rest
    first (Some n) rest = ap (λ b. p n || b) rest

    by : (b : Bool) → list_any p (filter_map g (filter q xs)) ≡ list_any (λ y. q y && holds_of p (g y)) xs
        → list_any p (filter_map g (cond b (x ∷ filter q xs) (filter q xs))) ≡ ((b && holds_of p (g x)) || list_any (λ y. q y && holds_of p (g y)) xs)
    by true rest = first (g x) rest
    by false rest = rest

-- WHAT IS FREED
module _ (s t : StoreState) (ids freed alive : List ℕ) (c : FreesOthers s t ids freed alive) (sound : IsSoundStore s) (a : Attachments) (i : AreAttachedToLive s a) where
  not-freed : (id : ℕ) → not (has_number id freed) ≡ true → has_number id freed ≡ false
  not-freed id is = not-true (has_number id freed) is

  told : (id : ℕ) → IsLive s id → not (is_freed alive (number_in s id)) ≡ not (has_number id freed)
  told id live = ap not (sym (c.told id live))

  -- of the values that are attached to, those that stay are seen as they were
  kept : {A : Type 0} (value : A → ℕ) (see new : A → A) (xs : List A) → ((x : A) → number_in t (value x) ≡ number_in s (value x) → new x ≡ see x) → All (λ x. not (has_number (value x) freed) ≡ true → new x ≡ see x) xs
  kept value see new xs same = λ k x inside stays. same (get_or xs k x) (stays-number s t ids freed alive c (value (get_or xs k x)) (not-freed (value (get_or xs k x)) stays))

  tests : {A : Type 0} (value : A → ℕ) (xs : List A) → All (λ x. IsLive s (value x)) xs → All (λ x. not (is_freed alive (number_in s (value x))) ≡ not (has_number (value x) freed)) xs
  tests value xs live = λ k x inside. told (value (get_or xs k x)) (live k x inside)

  pub seen-left : attachments_seen t (left_on (λ v. has_number v freed) a) ≡ left_on (is_freed alive) (attachments_seen s a)
  seen-left =
      let stays : ℕ → Bool = λ v. not (has_number v freed) in
      let lives : ℕ → Bool = λ n. not (is_freed alive n) in
      let apart = number-apart s sound in
      let wraps = seen-filter (λ (w : Wrapped). w.value) (number_in s) (seen_wrap s) (λ w. refl) (IsLive s) apart (seen_wrap t) stays lives a.wraps (tests (λ (w : Wrapped). w.value) a.wraps i.wraps)
      (kept (λ (w : Wrapped). w.value) (seen_wrap s) (seen_wrap t) a.wraps (λ w same. ap (λ n. record w { value = n }) same)) in
      let tags = seen-filter (λ (w : Tagged). w.value) (number_in s) (seen_tag s) (λ w. refl) (IsLive s) apart (seen_tag t) stays lives a.tags (tests (λ (w : Tagged). w.value) a.tags i.tags)
      (kept (λ (w : Tagged). w.value) (seen_tag s) (seen_tag t) a.tags (λ w same. ap (λ n. record w { value = n }) same)) in
      let tickets = listed-filter (λ (w : Attached). w.value) (number_in s) (seen_attached s) (λ w. refl) (IsLive s) apart (seen_attached t) stays lives a.tickets
      (tests (λ (w : Attached). w.value) a.tickets i.tickets) (kept (λ (w : Attached). w.value) (seen_attached s) (seen_attached t) a.tickets (λ w same. ap (λ n. record w { value = n }) same)) in
      let here : Attachments = attachments_seen t (left_on (λ v. has_number v freed) a) in
      let there : Attachments = left_on (is_freed alive) (attachments_seen s a) in
      ap (λ l. record { wraps = l; tags = here.tags; tickets = here.tickets }) wraps
      ∙ ap (λ l. record { wraps = there.wraps; tags = l; tickets = here.tickets }) tags
      ∙ ap (λ l. record { wraps = there.wraps; tags = there.tags; tickets = l }) tickets

  -- THE TICKETS THAT FALL DUE
  abbrev hit : ℕ → ℕ → Bool
  hit n m = m == n

  freed-same : (id n : ℕ) (o : Option ℕ) → IsLive s id → (has_number id freed && holds_of (hit n) o) ≡ (is_freed alive (number_in s id) && holds_of (hit n) o)
  freed-same id n o live = ap (λ b. b && holds_of (hit n) o) (c.told id live)

  hangs-same : AreOnce a → (n : ℕ) → is_attached_to (λ v. has_number v freed) a n ≡ is_attached_to (is_freed alive) (attachments_seen s a) n
  hangs-same once n =
      let mine : Wrapped → Bool = λ w. has_number w.value freed && holds_of (hit n) w.ticket in
      let seen : Wrapped → Bool = λ w. is_freed alive w.value && holds_of (hit n) w.ticket in
      let wraps : list_any (hit n) (filter_map (λ w. w.ticket) (filter (λ w. has_number w.value freed) a.wraps))
      ≡ list_any (hit n) (filter_map (λ w. w.ticket) (filter (λ w. is_freed alive w.value) (attachments_seen s a).wraps)) =
      any-filter_map (hit n) (λ (w : Wrapped). w.ticket) (λ w. has_number w.value freed) a.wraps
      ∙ any-same mine (λ w. seen (seen_wrap s w)) a.wraps (λ k w inside. freed-same (get_or a.wraps k w).value n (get_or a.wraps k w).ticket (i.wraps k w inside))
      ∙ sym (any-map seen (seen_wrap s) a.wraps)
      ∙ sym (list_any-seen (λ (w : Wrapped). w.value) (number_in s) (seen_wrap s) (λ w. refl) (IsLive s) (number-apart s sound) seen a.wraps i.wraps
      (map-rising (λ (w : Wrapped). w.value) a.wraps once.wraps))
      ∙ sym (any-filter_map (hit n) (λ (w : Wrapped). w.ticket) (λ w. is_freed alive w.value) (attachments_seen s a).wraps) in
      let tickets : list_any (hit n) (map (λ t. t.ticket) (filter (λ t. has_number t.value freed) a.tickets))
      ≡ list_any (hit n) (map (λ t. t.ticket) (filter (λ t. is_freed alive t.value) (attachments_seen s a).tickets)) =
      any-filter (hit n) (λ (x : Attached). x.ticket) (λ x. has_number x.value freed) a.tickets
      ∙ any-same (λ (x : Attached). has_number x.value freed && hit n x.ticket) (λ x. is_freed alive (number_in s x.value) && hit n x.ticket) a.tickets
      (λ k x inside. ap (λ b. b && hit n (get_or a.tickets k x).ticket) (c.told (get_or a.tickets k x).value (i.tickets k x inside)))
      ∙ sym (any-map (λ (x : Attached). is_freed alive x.value && hit n x.ticket) (seen_attached s) a.tickets)
      ∙ sym (any-filter (hit n) (λ (x : Attached). x.ticket) (λ x. is_freed alive x.value) (attachments_seen s a).tickets) in
      list_any-append (hit n) (filter_map (λ w. w.ticket) (filter (λ w. has_number w.value freed) a.wraps)) (map (λ t. t.ticket) (filter (λ t. has_number t.value freed) a.tickets))
      ∙ ap (λ b. b || list_any (hit n) (map (λ t. t.ticket) (filter (λ t. has_number t.value freed) a.tickets))) wraps
      ∙ ap (λ b. list_any (hit n) (filter_map (λ w. w.ticket) (filter (λ w. is_freed alive w.value) (attachments_seen s a).wraps)) || b) tickets
      ∙ sym (list_any-append (hit n) (filter_map (λ w. w.ticket) (filter (λ w. is_freed alive w.value) (attachments_seen s a).wraps))
      (map (λ t. t.ticket) (filter (λ t. is_freed alive t.value) (attachments_seen s a).tickets)))

  pub due-seen : (book : Book) → AreOnce a → due_where (is_attached_to (λ v. has_number v freed) a) book ≡ due_where
      (is_attached_to (is_freed alive) (attachments_seen s a)) book
  due-seen book once = due_where-same (is_attached_to (λ v. has_number v freed) a) (is_attached_to (is_freed alive) (attachments_seen s a)) book
      (hangs-same once)

  -- WHAT IS LEFT
  live-left : {A : Type 0} (value : A → ℕ) (xs : List A) → All (λ x. IsLive s (value x)) xs → All (λ x. IsLive t (value x)) (filter (λ x. not (has_number (value x) freed)) xs)
  live-left {A = A} value xs live =
      let stays : A → Bool = λ x. not (has_number (value x) freed) in
      λ k x inside. stays-live s t ids freed alive c (value (get_or (filter stays xs) k x)) (not-freed (value (get_or (filter stays xs) k x)) (passing value stays xs k x inside))
      (All-filter stays (λ y. IsLive s (value y)) xs live k x inside)

  pub attached-left : AreAttachedToLive t (left_on (λ v. has_number v freed) a)
  attached-left = record {
    wraps = live-left (λ (w : Wrapped). w.value) a.wraps i.wraps;
    tags = live-left (λ (w : Tagged). w.value) a.tags i.tags;
    tickets = live-left (λ (w : Attached). w.value) a.tickets i.tickets;
  }

-- WHAT VALUES WITH A HIDDEN CHILD ARE FOR
module _ (s t : StoreState) (ids freed alive : List ℕ) (c : FreesOthers s t ids freed alive) where
  freed-not : (id : ℕ) → not (has_number id freed) ≡ true → has_number id freed ≡ false
  freed-not id is = not-true (has_number id freed) is

  pub stays-told : {A : Type 0} (value : A → ℕ) (xs : List A) → All (λ x. IsLive s (value x)) xs
      → All (λ x. not (is_freed alive (number_in s (value x))) ≡ not (has_number (value x) freed)) xs
  stays-told value xs live = λ k x inside. ap not (sym (c.told (value (get_or xs k x)) (live k x inside)))

  pub stays-seen : {A : Type 0} (value : A → ℕ) (see new : A → A) (xs : List A) → ((x : A) → number_in t (value x) ≡ number_in s (value x) → new x ≡ see x)
      → All (λ x. not (has_number (value x) freed) ≡ true → new x ≡ see x) xs
  stays-seen value see new xs same =
      λ k x inside stays. same (get_or xs k x) (stays-number s t ids freed alive c (value (get_or xs k x)) (freed-not (value (get_or xs k x)) stays))

  -- what stays holds of what is not freed
  pub left-hold : {A : Type 0} (P Q : A → Type 0) (value : A → ℕ) (xs : List A) → ((x : A) → has_number (value x) freed ≡ false → P x → Q x) → All P xs
      → All Q (filter (λ x. not (has_number (value x) freed)) xs)
  left-hold {A = A} P Q value xs holds all =
      let stays : A → Bool = λ x. not (has_number (value x) freed) in
      λ k x inside. holds (get_or (filter stays xs) k x) (freed-not (value (get_or (filter stays xs) k x)) (passing value stays xs k x inside))
      (All-filter stays P xs all k x inside)

-- THE PROMISES
module _ (s t : StoreState) (ids freed alive : List ℕ) (c : FreesOthers s t ids freed alive) (sound : IsSoundStore s) (p : Promises) (i : PromisesAreLive s p) where
  pub promises-left : promises_seen t (promises_left (λ v. has_number v freed) p) ≡ promises_left (is_freed alive) (promises_seen s p)
  promises-left =
      let stays : ℕ → Bool = λ v. not (has_number v freed) in
      let lives : ℕ → Bool = λ n. not (is_freed alive n) in
      let promises = seen-filter (λ (r : Promise). r.value) (number_in s) (seen_promise s) (λ r. refl) (IsLive s) (number-apart s sound) (seen_promise t) stays lives
      p.promises (stays-told s t ids freed alive c (λ (r : Promise). r.value) p.promises i.promises)
      (stays-seen s t ids freed alive c (λ (r : Promise). r.value) (seen_promise s) (seen_promise t) p.promises (λ r same. ap (λ n. record r { value = n }) same)) in
      let deferreds = listed-filter (λ (d : Deferred). d.promise) (number_in s) (seen_deferred s) (λ d. refl) (IsLive s) (number-apart s sound) (seen_deferred t) stays lives
      p.deferreds (stays-told s t ids freed alive c (λ (d : Deferred). d.promise) p.deferreds (deferreds-live s p.deferreds i.deferreds))
      (stays-seen s t ids freed alive c (λ (d : Deferred). d.promise) (seen_deferred s) (seen_deferred t) p.deferreds (λ d same. ap (λ n. record d { promise = n }) same)) in
      let there : Promises = promises_left (is_freed alive) (promises_seen s p) in
      ap (λ l. record { promises = l; deferreds = map (seen_deferred t) (filter (λ d. not (has_number d.promise freed)) p.deferreds); issued = p.issued }) promises
      ∙ ap (λ l. record { promises = there.promises; deferreds = l; issued = p.issued }) deferreds

  pub promised-left : PromisesAreLive t (promises_left (λ v. has_number v freed) p)
  promised-left = record {
    promises = left-hold s t ids freed alive c (λ (r : Promise). IsLive s r.value) (λ r. IsLive t r.value) (λ r. r.value) p.promises
        (λ r stays live. stays-live s t ids freed alive c r.value stays live) i.promises;
    deferreds = left-hold s t ids freed alive c (λ (d : Deferred). IsPromiseIn s d.promise) (λ d. IsPromiseIn t d.promise) (λ d. d.promise) p.deferreds
        (λ d stays is. ap (option_map (λ (v : Value). v.body)) (c.frees.others d.promise stays) ∙ is) i.deferreds;
  }
