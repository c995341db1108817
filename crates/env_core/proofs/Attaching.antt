-- What is attached to values as the machine sees it, and what the calls on it answer.
use Rattle.std.proofs.Common.{◌≡◌, ◌∙◌, ℕ, ◌==◌, ◌&&◌, ◌||◌, Bool, true, false, not, List, [], ◌∷◌, map, get_or, Option, Some, None, is_some, IsSome, option_map, refl, ap, sym}
use Rattle.std.specs.List.{All}
use Rattle.std.specs.Option.{unwrap_or, option_or}
use Rattle.std.proofs.lemmas.List.Elements.{All-head, All-tail, All-nil, All-filter}
use Rattle.napi_types.specs.declared.call.Call.{Call}
use Rattle.napi_types.specs.declared.call.Call.TheVariants as call
use Rattle.napi_types.specs.declared.entry.Out.TheVariants as out
use Rattle.napi_types.specs.declared.ids.HandleId.{HandleId}
use Rattle.napi_types.specs.declared.status.Status.{Status}
use Rattle.napi_types.specs.declared.status.Status.TheVariants as status
use Rattle.napi_types.specs.plain.Lists.{as_map, when, unless}
use Rattle.napi_types.specs.plain.Replies.{accepts, plain}
use Rattle.napi_types.specs.parts.Attachments.{Wrapped, Tagged, Attached, Attachments, no_attachments, wrap_of, tag_of, is_wrapped, is_tagged, wrap_payload, has_tag, with_wrap, without_wrap, with_tag}
use Rattle.napi_types.specs.parts.Kinds.{expects}
use Rattle.napi_types.specs.parts.Graph.{StoreState, IsSoundStore, IsLive, value_of, number_in}
use Rattle.napi_types.specs.parts.Heap.{handle_value}
use Rattle.napi_types.specs.parts.Scopes.{gives}
use Rattle.napi_types.specs.parts.Values.{Value}
use Rattle.napi_types.specs.environment.Environment.{Environment}
use Rattle.napi_types.specs.environment.Refusals.{refusal_by_state}
use Rattle.napi_types.proofs.plain.Found.{same-tells, same-self, has-found}
use Rattle.napi_types.proofs.plain.Maps.{All-with_record}
use Rattle.env_registry.specs.KeptRegistry.{AreOnce}
use Rattle.env_values.specs.SeenValues.{KeepsValues}
use Rattle.env_core.specs.declared.handles.Attachable.{Attachable}
use Rattle.env_core.specs.declared.handles.Attachable.TheVariants as takes
use Rattle.env_core.specs.Attaching.{seen_wrap, seen_tag, seen_attached, attachments_seen, AreAttachedToLive, is_accepted, target_refusal}
use Rattle.env_core.specs.Referring.{wants_alone}
use Rattle.env_core.specs.State.{AnswersInTime}
use Rattle.env_core.proofs.Referring.{refused-timely, accepted-timely}
use Rattle.env_core.proofs.Renaming.{same-renamed, found-seen, has-seen, seen-with_record, seen-filter}

-- no two live values have one creation number
pub number-apart : (s : StoreState) → IsSoundStore s → (m n : ℕ) → IsLive s m → IsLive s n → number_in s m ≡ number_in s n → m ≡ n
number-apart s sound m n one other same = by (value_of s m) (value_of s n) refl refl one other same
  where
    by : (v w : Option Value) → value_of s m ≡ v → value_of s n ≡ w → IsSome v → IsSome w
        → unwrap_or (option_map (λ (x : Value). x.number) v) 0 ≡ unwrap_or (option_map (λ (x : Value). x.number) w) 0 → m ≡ n
    by None w first second there here alike = let no : ⊥ = cc in absurd no
    by (Some v) None first second there here alike = let no : ⊥ = cc in absurd no
    by (Some v) (Some w) first second there here alike = sound.apart m n v w first second alike

-- WHAT IS READ
module _ (s : StoreState) (sound : IsSoundStore s) where
  pub seen-wrap_of : (a : Attachments) (v : ℕ) → IsLive s v → All (λ w. IsLive s w.value) a.wraps → wrap_of (attachments_seen s a) (number_in s v) ≡ option_map (seen_wrap s) (wrap_of a v)
  seen-wrap_of a v live all = found-seen (λ (w : Wrapped). w.value) (number_in s) (seen_wrap s) (λ w. refl) (IsLive s) (number-apart s sound) v a.wraps live all

  pub seen-tag_of : (a : Attachments) (v : ℕ) → IsLive s v → All (λ t. IsLive s t.value) a.tags → tag_of (attachments_seen s a) (number_in s v) ≡ option_map (seen_tag s) (tag_of a v)
  seen-tag_of a v live all = found-seen (λ (t : Tagged). t.value) (number_in s) (seen_tag s) (λ t. refl) (IsLive s) (number-apart s sound) v a.tags live all

  -- CHANGES
  pub seen-with_wrap : (a : Attachments) (v payload : ℕ) (ticket : Option ℕ) → IsLive s v → All (λ w. IsLive s w.value) a.wraps → as_map (λ w. w.value) a.wraps ≡ a.wraps → is_wrapped a v ≡ false
      → attachments_seen s (with_wrap v payload ticket a) ≡ with_wrap (number_in s v) payload ticket (attachments_seen s a)
  seen-with_wrap a v payload ticket live all once absent =
      ap (λ l. record { wraps = l; tags = (attachments_seen s a).tags; tickets = (attachments_seen s a).tickets })
      (seen-with_record (λ (w : Wrapped). w.value) (number_in s) (seen_wrap s) (λ w. refl) (IsLive s) (number-apart s sound) (record { value = v; payload = payload; ticket = ticket }) a.wraps live all once absent)

  pub seen-with_tag : (a : Attachments) (v lower upper : ℕ) → IsLive s v → All (λ t. IsLive s t.value) a.tags → as_map (λ t. t.value) a.tags ≡ a.tags → is_tagged a v ≡ false
      → attachments_seen s (with_tag v lower upper a) ≡ with_tag (number_in s v) lower upper (attachments_seen s a)
  seen-with_tag a v lower upper live all once absent =
      ap (λ l. record { wraps = (attachments_seen s a).wraps; tags = l; tickets = (attachments_seen s a).tickets })
      (seen-with_record (λ (t : Tagged). t.value) (number_in s) (seen_tag s) (λ t. refl) (IsLive s) (number-apart s sound) (record { value = v; lower = lower; upper = upper }) a.tags live all once absent)

  pub seen-without_wrap : (a : Attachments) (v : ℕ) → IsLive s v → All (λ w. IsLive s w.value) a.wraps → attachments_seen s (without_wrap v a) ≡ without_wrap (number_in s v) (attachments_seen s a)
  seen-without_wrap a v live all =
      ap (λ l. record { wraps = l; tags = (attachments_seen s a).tags; tickets = (attachments_seen s a).tickets })
      (seen-filter (λ (w : Wrapped). w.value) (number_in s) (seen_wrap s) (λ w. refl) (IsLive s) (number-apart s sound) (seen_wrap s) (λ n. not (n == v)) (λ n. not (n == number_in s v)) a.wraps
      (λ k w inside. ap not (same-renamed (λ (w : Wrapped). w.value) (number_in s) (seen_wrap s) (λ w. refl) (IsLive s) (number-apart s sound) (get_or a.wraps k w).value v (all k w inside) live)) (λ k w inside passes. refl))

-- WHAT HOLDS
pub attached-new : (s : StoreState) → AreAttachedToLive s no_attachments
attached-new s = record {
  wraps = All-nil (λ (w : Wrapped). IsLive s w.value);
  tags = All-nil (λ (t : Tagged). IsLive s t.value);
  tickets = All-nil (λ (t : Attached). IsLive s t.value);
}

pub attached-with_wrap : (s : StoreState) (a : Attachments) (v payload : ℕ) (ticket : Option ℕ) → AreAttachedToLive s a → IsLive s v
    → AreAttachedToLive s (with_wrap v payload ticket a)
attached-with_wrap s a v payload ticket i live =
    let wrap : Wrapped = record { value = v; payload = payload; ticket = ticket } in
    record {
      wraps = All-with_record (λ (w : Wrapped). w.value) wrap (λ w. IsLive s w.value) a.wraps live i.wraps;
      tags = i.tags;
      tickets = i.tickets;
    }

pub attached-without_wrap : (s : StoreState) (a : Attachments) (v : ℕ) → AreAttachedToLive s a → AreAttachedToLive s (without_wrap v a)
attached-without_wrap s a v i = record {
  wraps = All-filter (λ (w : Wrapped). not (w.value == v)) (λ w. IsLive s w.value) a.wraps i.wraps;
  tags = i.tags;
  tickets = i.tickets;
}

pub attached-with_tag : (s : StoreState) (a : Attachments) (v lower upper : ℕ) → AreAttachedToLive s a → IsLive s v → AreAttachedToLive s (with_tag v lower upper a)
attached-with_tag s a v lower upper i live =
    let tag : Tagged = record { value = v; lower = lower; upper = upper } in
    record {
      wraps = i.wraps;
      tags = All-with_record (λ (t : Tagged). t.value) tag (λ t. IsLive s t.value) a.tags live i.tags;
      tickets = i.tickets;
    }

-- VALUES THAT STAY
module _ (s t : StoreState) (kept : KeepsValues s t) where
  pub attached-kept : (a : Attachments) → AreAttachedToLive s a → AreAttachedToLive t a
  attached-kept a i = record {
    wraps = λ k w inside. kept.live (get_or a.wraps k w).value (i.wraps k w inside);
    tags = λ k w inside. kept.live (get_or a.tags k w).value (i.tags k w inside);
    tickets = λ k w inside. kept.live (get_or a.tickets k w).value (i.tickets k w inside);
  }

  pub listed-kept : {A : Type 0} (value : A → ℕ) (see new : A → A) (xs : List A) → ((x : A) → number_in t (value x) ≡ number_in s (value x) → new x ≡ see x) → All (λ x. IsLive s (value x)) xs
      → map new xs ≡ map see xs
  listed-kept value see new [] same live = refl
  listed-kept value see new (x ∷ xs) same live =
      ap (λ y. y ∷ map new xs) (same x (kept.numbers (value x) (All-head (λ y. IsLive s (value y)) x xs live)))
      ∙ ap (λ ys. see x ∷ ys) (listed-kept value see new xs same (All-tail (λ y. IsLive s (value y)) x xs live))

  pub attachments-kept : (a : Attachments) → AreAttachedToLive s a → attachments_seen t a ≡ attachments_seen s a
  attachments-kept a i =
      let wraps : map (seen_wrap t) a.wraps ≡ map (seen_wrap s) a.wraps =
      listed-kept (λ (w : Wrapped). w.value) (seen_wrap s) (seen_wrap t) a.wraps (λ w same. ap (λ n. record w { value = n }) same) i.wraps in
      let tags : map (seen_tag t) a.tags ≡ map (seen_tag s) a.tags =
      listed-kept (λ (w : Tagged). w.value) (seen_tag s) (seen_tag t) a.tags (λ w same. ap (λ n. record w { value = n }) same) i.tags in
      let tickets : map (seen_attached t) a.tickets ≡ map (seen_attached s) a.tickets =
      listed-kept (λ (w : Attached). w.value) (seen_attached s) (seen_attached t) a.tickets (λ w same. ap (λ n. record w { value = n }) same) i.tickets in
      ap (λ l. record { wraps = as_map (λ w. w.value) l; tags = (attachments_seen t a).tags; tickets = (attachments_seen t a).tickets }) wraps
      ∙ ap (λ l. record { wraps = (attachments_seen s a).wraps; tags = as_map (λ w. w.value) l; tickets = (attachments_seen t a).tickets }) tags
      ∙ ap (λ l. record { wraps = (attachments_seen s a).wraps; tags = (attachments_seen s a).tags; tickets = l }) tickets

-- WHAT A CALL ANSWERS
-- the environment with these attachments
abbrev pub attaching : Environment → StoreState → Attachments → Environment
attaching e s a = record e { attachments = attachments_seen s a }

-- a call that names one handle, of which it takes these kinds, is refused for it, or else for what the call says, or else for what is attached
regrouped : (b : Bool) (o row : Option Status) → option_or (unless ((b && true) && true) status.InvalidArg) (option_or o row) ≡ option_or (option_or (unless b status.InvalidArg) o) row
regrouped true None row = refl
regrouped true (Some st) row = refl
regrouped false o row = refl

pub timely-row : (e : Environment) (h : HandleId) (kinds : Attachable) (row hung : Option Status)
    → option_or (option_or (unless ((is_some (gives e.heap.scopes h.0) && true) && true) status.InvalidArg) (option_or (expects e.heap h (is_accepted kinds) status.ObjectExpected) row)) hung
    ≡ option_or (option_or (target_refusal kinds e.heap h) row) hung
timely-row e h kinds row hung = ap (λ o. option_or o hung) (regrouped (is_some (gives e.heap.scopes h.0)) (expects e.heap h (is_accepted kinds) status.ObjectExpected) row)

-- what is attached to the value of a handle tells why a call is refused
abbrev pub wrapped_here : Environment → HandleId → Bool
wrapped_here e h = is_wrapped e.attachments (handle_value e.heap h.0)

pub timely-wrap : (e : Environment) (h : HandleId) (payload : ℕ) (finalizer : Option ℕ) (hint : ℕ) (wanted : Bool)
    → refusal_by_state e (call.Wrap h payload finalizer hint wanted)
    ≡ option_or (option_or (target_refusal takes.Objects e.heap h) (when (wants_alone finalizer wanted) status.InvalidArg)) (when (wrapped_here e h) status.InvalidArg)
timely-wrap e h payload None hint wanted = timely-row e h takes.Objects (when wanted status.InvalidArg) (when (wrapped_here e h) status.InvalidArg)
timely-wrap e h payload (Some entry) hint wanted = timely-row e h takes.Objects None (when (wrapped_here e h) status.InvalidArg)

pub timely-finalizer : (e : Environment) (h : HandleId) (payload entry hint : ℕ) (wanted : Bool)
    → refusal_by_state e (call.AddFinalizer h payload entry hint wanted) ≡ option_or (option_or (target_refusal takes.Objects e.heap h) None) None
timely-finalizer e h payload entry hint wanted = timely-row e h takes.Objects None None

pub timely-unwrap : (e : Environment) (h : HandleId)
    → refusal_by_state e (call.Unwrap h) ≡ option_or (option_or (target_refusal takes.Objects e.heap h) None) (unless (wrapped_here e h) status.InvalidArg)
timely-unwrap e h = timely-row e h takes.Objects None (unless (wrapped_here e h) status.InvalidArg)

pub timely-remove : (e : Environment) (h : HandleId)
    → refusal_by_state e (call.RemoveWrap h) ≡ option_or (option_or (target_refusal takes.Objects e.heap h) None) (unless (wrapped_here e h) status.InvalidArg)
timely-remove e h = timely-row e h takes.Objects None (unless (wrapped_here e h) status.InvalidArg)

pub timely-tag : (e : Environment) (h : HandleId) (lower upper : ℕ)
    → refusal_by_state e (call.TypeTagObject h lower upper)
    ≡ option_or (option_or (target_refusal takes.ObjectsAndExternals e.heap h) None) (when (is_tagged e.attachments (handle_value e.heap h.0)) status.InvalidArg)
timely-tag e h lower upper = timely-row e h takes.ObjectsAndExternals None (when (is_tagged e.attachments (handle_value e.heap h.0)) status.InvalidArg)

pub timely-check : (e : Environment) (h : HandleId) (lower upper : ℕ)
    → refusal_by_state e (call.CheckObjectTypeTag h lower upper) ≡ option_or (option_or (target_refusal takes.ObjectsAndExternals e.heap h) None) None
timely-check e h lower upper = timely-row e h takes.ObjectsAndExternals None None

-- a call is refused for its handle
pub target-refused : (e : Environment) (c : Call) (o row hung : Option Status) (st : Status) → refusal_by_state e c ≡ option_or (option_or o row) hung
    → Some st ≡ o
    → AnswersInTime e c (plain st out.Nothing) e
target-refused e c o row hung st is why = refused-timely e c st (is ∙ ap (λ p. option_or (option_or p row) hung) (sym why))

-- its handle is taken: only what the call says, and then what is attached, can refuse it
pub target-taken : (e : Environment) (c : Call) (o row hung : Option Status) → refusal_by_state e c ≡ option_or (option_or o row) hung → None ≡ o
    → refusal_by_state e c ≡ option_or row hung
target-taken e c o row hung is none = is ∙ ap (λ p. option_or (option_or p row) hung) (sym none)

-- what is not there is none
pub untold : {A : Type 0} (o : Option A) → is_some o ≡ false → None ≡ o
untold None h = refl
untold (Some x) h = cc

-- a value that has no wrap
pub wrap-free : (a : Attachments) (v : ℕ) → None ≡ option_map (λ (w : Wrapped). w.payload) (wrap_of a v) → is_wrapped a v ≡ false
wrap-free a v is = has-found (λ (w : Wrapped). w.value) v a.wraps ∙ by (wrap_of a v) is
  where
    by : (p : Option Wrapped) → None ≡ option_map (λ (w : Wrapped). w.payload) p → is_some p ≡ false
    by None at = refl
    by (Some w) at = let no : ⊥ = cc in absurd no

-- the halves of a tag
abbrev pub halves : Tagged → ℕ × ℕ
halves t = (t.lower, t.upper)

-- halves that are read are those of this tag
abbrev pub is_tag : ℕ → ℕ → Option (ℕ × ℕ) → Bool
is_tag lower upper None = false
is_tag lower upper (Some t) = (t.0 == lower) && (t.1 == upper)

pub tag-same : (low high lower upper : ℕ) (b : Bool) (o : Option (ℕ × ℕ)) → o ≡ Some (low, high) → low ≡ lower → b ≡ (high == upper) → b ≡ is_tag lower upper o
tag-same low high lower upper b o is same told =
    told ∙ ap (λ k. k && (high == upper)) (sym (ap (λ n. low == n) (sym same) ∙ same-self low)) ∙ sym (ap (is_tag lower upper) is)

pub tag-other : (low high lower upper : ℕ) (b : Bool) (o : Option (ℕ × ℕ)) → o ≡ Some (low, high) → (low ≡ lower → ⊥) → b ≡ (low == lower) → b ≡ is_tag lower upper o
tag-other low high lower upper b o is differs told = told ∙ by (low == lower) refl ∙ sym (ap (is_tag lower upper) is)
  where
    by : (k : Bool) → (low == lower) ≡ k → k ≡ k && (high == upper)
    by true at = absurd (differs (same-tells low lower at))
    by false at = refl

-- the answers of the calls, where the handle's value is this one
module _ (e : Environment) (s : StoreState) (sound : IsSoundStore s) (a : Attachments) (i : AreAttachedToLive s a) (h : HandleId) (v : ℕ) (live : IsLive s v)
    (number : number_in s v ≡ handle_value e.heap h.0) where
  pub seen-is_wrapped : (o : Option ℕ) → o ≡ option_map (λ (w : Wrapped). w.payload) (wrap_of a v) → wrapped_here (attaching e s a) h ≡ is_some o
  seen-is_wrapped o is =
      ap (is_wrapped (attachments_seen s a)) (sym number)
      ∙ has-seen (λ (w : Wrapped). w.value) (number_in s) (seen_wrap s) (λ w. refl) (IsLive s) (number-apart s sound) v a.wraps live i.wraps
      ∙ has-found (λ (w : Wrapped). w.value) v a.wraps ∙ mapped (wrap_of a v) ∙ ap is_some (sym is)
    where
      mapped : (p : Option Wrapped) → is_some p ≡ is_some (option_map (λ (w : Wrapped). w.payload) p)
      mapped None = refl
      mapped (Some w) = refl

  pub seen-payload : (payload : ℕ) → Some payload ≡ option_map (λ (w : Wrapped). w.payload) (wrap_of a v) → payload ≡ wrap_payload (attachments_seen s a) (handle_value e.heap h.0)
  seen-payload payload is =
      ap (λ o. unwrap_or o 0) is ∙ mapped (wrap_of a v) ∙ sym (ap (λ o. unwrap_or (option_map (λ (w : Wrapped). w.payload) o) 0) (seen-wrap_of s sound a v live i.wraps))
      ∙ ap (wrap_payload (attachments_seen s a)) number
    where
      mapped : (p : Option Wrapped) → unwrap_or (option_map (λ (w : Wrapped). w.payload) p) 0 ≡ unwrap_or (option_map (λ (w : Wrapped). w.payload) (option_map (seen_wrap s) p)) 0
      mapped None = refl
      mapped (Some w) = refl

  pub seen-is_tagged : (o : Option (ℕ × ℕ)) → o ≡ option_map halves (tag_of a v) → is_tagged (attachments_seen s a) (handle_value e.heap h.0) ≡ is_some o
  seen-is_tagged o is =
      ap (is_tagged (attachments_seen s a)) (sym number)
      ∙ has-seen (λ (t : Tagged). t.value) (number_in s) (seen_tag s) (λ t. refl) (IsLive s) (number-apart s sound) v a.tags live i.tags
      ∙ has-found (λ (t : Tagged). t.value) v a.tags ∙ mapped (tag_of a v) ∙ ap is_some (sym is)
    where
      mapped : (p : Option Tagged) → is_some p ≡ is_some (option_map halves p)
      mapped None = refl
      mapped (Some t) = refl

  pub seen-has_tag : (lower upper : ℕ) (o : Option (ℕ × ℕ)) → o ≡ option_map halves (tag_of a v)
      → is_tag lower upper o ≡ has_tag (attachments_seen s a) (handle_value e.heap h.0) lower upper
  seen-has_tag lower upper o is =
      ap (is_tag lower upper) is ∙ mapped (tag_of a v)
      ∙ sym (ap (λ p. unwrap_or (option_map (λ (t : Tagged). (t.lower == lower) && (t.upper == upper)) p) false) (seen-tag_of s sound a v live i.tags))
      ∙ ap (λ n. has_tag (attachments_seen s a) n lower upper) number
    where
      mapped : (p : Option Tagged) → is_tag lower upper (option_map halves p)
          ≡ unwrap_or (option_map (λ (t : Tagged). (t.lower == lower) && (t.upper == upper)) (option_map (seen_tag s) p)) false
      mapped None = refl
      mapped (Some t) = refl

  -- WRAPS
  pub wrap-refused : (payload hint : ℕ) (finalizer : Option ℕ) (wanted : Bool) (o : Option ℕ) → None ≡ target_refusal takes.Objects e.heap h
      → o ≡ option_map (λ (w : Wrapped). w.payload) (wrap_of a v) → wants_alone finalizer wanted || is_some o ≡ true
      → AnswersInTime (attaching e s a) (call.Wrap h payload finalizer hint wanted) (plain status.InvalidArg out.Nothing) (attaching e s a)
  wrap-refused payload hint finalizer wanted o taken is either =
      refused-timely (attaching e s a) (call.Wrap h payload finalizer hint wanted) status.InvalidArg
      (target-taken (attaching e s a) (call.Wrap h payload finalizer hint wanted) (target_refusal takes.Objects e.heap h) (when (wants_alone finalizer wanted) status.InvalidArg)
      (when (wrapped_here (attaching e s a) h) status.InvalidArg) (timely-wrap (attaching e s a) h payload finalizer hint wanted) taken
      ∙ ap (λ b. option_or (when (wants_alone finalizer wanted) status.InvalidArg) (when b status.InvalidArg)) (seen-is_wrapped o is) ∙ by (wants_alone finalizer wanted) (is_some o) either)
    where
      by : (b c : Bool) → b || c ≡ true → option_or (when b status.InvalidArg) (when c status.InvalidArg) ≡ Some status.InvalidArg
      by true c at = refl
      by false true at = refl
      by false false at = cc

  pub wrap-unrefused : (payload hint : ℕ) (finalizer : Option ℕ) (wanted : Bool) (o : Option ℕ) → None ≡ target_refusal takes.Objects e.heap h
      → o ≡ option_map (λ (w : Wrapped). w.payload) (wrap_of a v) → wants_alone finalizer wanted ≡ false → is_some o ≡ false
      → refusal_by_state (attaching e s a) (call.Wrap h payload finalizer hint wanted) ≡ None
  wrap-unrefused payload hint finalizer wanted o taken is apart free =
      target-taken (attaching e s a) (call.Wrap h payload finalizer hint wanted) (target_refusal takes.Objects e.heap h) (when (wants_alone finalizer wanted) status.InvalidArg)
      (when (wrapped_here (attaching e s a) h) status.InvalidArg) (timely-wrap (attaching e s a) h payload finalizer hint wanted) taken
      ∙ ap (λ b. option_or (when (wants_alone finalizer wanted) status.InvalidArg) (when b status.InvalidArg)) (seen-is_wrapped o is ∙ free)
      ∙ ap (λ b. option_or (when b status.InvalidArg) None) apart

  pub unwrap-answers : (payload : ℕ) → None ≡ target_refusal takes.Objects e.heap h → Some payload ≡ option_map (λ (w : Wrapped). w.payload) (wrap_of a v)
      → AnswersInTime (attaching e s a) (call.Unwrap h) (plain status.Ok (out.Unsigned payload)) (attaching e s a)
  unwrap-answers payload taken is =
      accepted-timely (attaching e s a) (attaching e s a) (call.Unwrap h) (out.Unsigned payload)
      (target-taken (attaching e s a) (call.Unwrap h) (target_refusal takes.Objects e.heap h) None (unless (wrapped_here (attaching e s a) h) status.InvalidArg) (timely-unwrap (attaching e s a) h) taken
      ∙ ap (λ b. unless b status.InvalidArg) (seen-is_wrapped (Some payload) is))
      refl (ap (λ k. accepts (out.Unsigned k) (attaching e s a)) (sym (seen-payload payload is)))

  pub unwrap-refused : None ≡ target_refusal takes.Objects e.heap h → None ≡ option_map (λ (w : Wrapped). w.payload) (wrap_of a v)
      → AnswersInTime (attaching e s a) (call.Unwrap h) (plain status.InvalidArg out.Nothing) (attaching e s a)
  unwrap-refused taken is =
      refused-timely (attaching e s a) (call.Unwrap h) status.InvalidArg
      (target-taken (attaching e s a) (call.Unwrap h) (target_refusal takes.Objects e.heap h) None (unless (wrapped_here (attaching e s a) h) status.InvalidArg) (timely-unwrap (attaching e s a) h) taken
      ∙ ap (λ b. unless b status.InvalidArg) (seen-is_wrapped None is))

  pub remove-unrefused : (payload : ℕ) → None ≡ target_refusal takes.Objects e.heap h → Some payload ≡ option_map (λ (w : Wrapped). w.payload) (wrap_of a v)
      → refusal_by_state (attaching e s a) (call.RemoveWrap h) ≡ None
  remove-unrefused payload taken is =
      target-taken (attaching e s a) (call.RemoveWrap h) (target_refusal takes.Objects e.heap h) None (unless (wrapped_here (attaching e s a) h) status.InvalidArg) (timely-remove (attaching e s a) h) taken
      ∙ ap (λ b. unless b status.InvalidArg) (seen-is_wrapped (Some payload) is)

  pub remove-refused : None ≡ target_refusal takes.Objects e.heap h → None ≡ option_map (λ (w : Wrapped). w.payload) (wrap_of a v)
      → AnswersInTime (attaching e s a) (call.RemoveWrap h) (plain status.InvalidArg out.Nothing) (attaching e s a)
  remove-refused taken is =
      refused-timely (attaching e s a) (call.RemoveWrap h) status.InvalidArg
      (target-taken (attaching e s a) (call.RemoveWrap h) (target_refusal takes.Objects e.heap h) None (unless (wrapped_here (attaching e s a) h) status.InvalidArg) (timely-remove (attaching e s a) h) taken
      ∙ ap (λ b. unless b status.InvalidArg) (seen-is_wrapped None is))

  -- TYPE TAGS
  untagged : None ≡ option_map halves (tag_of a v) → is_tagged a v ≡ false
  untagged is = has-found (λ (t : Tagged). t.value) v a.tags ∙ by (tag_of a v) is
    where
      by : (p : Option Tagged) → None ≡ option_map halves p → is_some p ≡ false
      by None at = refl
      by (Some t) at = let no : ⊥ = cc in absurd no

  pub tag-refused : (lower upper : ℕ) (o : Option (ℕ × ℕ)) → None ≡ target_refusal takes.ObjectsAndExternals e.heap h → o ≡ option_map halves (tag_of a v) → is_some o ≡ true
      → AnswersInTime (attaching e s a) (call.TypeTagObject h lower upper) (plain status.InvalidArg out.Nothing) (attaching e s a)
  tag-refused lower upper o taken is there =
      refused-timely (attaching e s a) (call.TypeTagObject h lower upper) status.InvalidArg
      (target-taken (attaching e s a) (call.TypeTagObject h lower upper) (target_refusal takes.ObjectsAndExternals e.heap h) None
      (when (is_tagged (attachments_seen s a) (handle_value e.heap h.0)) status.InvalidArg) (timely-tag (attaching e s a) h lower upper) taken
      ∙ ap (λ b. when b status.InvalidArg) (seen-is_tagged o is ∙ there))

  pub tag-unrefused : (lower upper : ℕ) (o : Option (ℕ × ℕ)) → None ≡ target_refusal takes.ObjectsAndExternals e.heap h → o ≡ option_map halves (tag_of a v) → is_some o ≡ false
      → refusal_by_state (attaching e s a) (call.TypeTagObject h lower upper) ≡ None
  tag-unrefused lower upper o taken is absent =
      target-taken (attaching e s a) (call.TypeTagObject h lower upper) (target_refusal takes.ObjectsAndExternals e.heap h) None
      (when (is_tagged (attachments_seen s a) (handle_value e.heap h.0)) status.InvalidArg) (timely-tag (attaching e s a) h lower upper) taken
      ∙ ap (λ b. when b status.InvalidArg) (seen-is_tagged o is ∙ absent)

  pub tag-answers : (lower upper : ℕ) → AreOnce a → None ≡ option_map halves (tag_of a v)
      → refusal_by_state (attaching e s a) (call.TypeTagObject h lower upper) ≡ None
      → AnswersInTime (attaching e s a) (call.TypeTagObject h lower upper) (plain status.Ok out.Nothing) (attaching e s (with_tag v lower upper a))
  tag-answers lower upper once free none =
      accepted-timely (attaching e s a) (attaching e s (with_tag v lower upper a)) (call.TypeTagObject h lower upper) out.Nothing none refl
      (ap (λ x. accepts out.Nothing (record e { attachments = x }))
      (ap (λ n. with_tag n lower upper (attachments_seen s a)) (sym number) ∙ sym (seen-with_tag s sound a v lower upper live i.tags once.tags (untagged free))))

  pub check-answers : (lower upper : ℕ) (o : Option (ℕ × ℕ)) (b : Bool) → None ≡ target_refusal takes.ObjectsAndExternals e.heap h → o ≡ option_map halves (tag_of a v)
      → b ≡ is_tag lower upper o → AnswersInTime (attaching e s a) (call.CheckObjectTypeTag h lower upper) (plain status.Ok (out.Flag b)) (attaching e s a)
  check-answers lower upper o b taken is tagged =
      accepted-timely (attaching e s a) (attaching e s a) (call.CheckObjectTypeTag h lower upper) (out.Flag b)
      (target-taken (attaching e s a) (call.CheckObjectTypeTag h lower upper) (target_refusal takes.ObjectsAndExternals e.heap h) None None (timely-check (attaching e s a) h lower upper) taken)
      refl (ap (λ x. accepts (out.Flag x) (attaching e s a)) (sym (tagged ∙ seen-has_tag lower upper o is)))
