-- The account of a thread-safe function: each item is given a number and has one place until it is delivered, and so has its finalizer.
use Rattle.std.proofs.Common.{◌≡◌, ◌∙◌, ℕ, suc, ◌+◌, ◌-◌, ◌<◌, ◌≤◌, ◌==◌, Bool, true, false, not, cond, nat_lt, ◌&&◌, List, [], ◌∷◌, ◌++◌, length, length-append, map, refl, ap, sym, subst, arith, Option, Some, None, option_map, is_some}
use Rattle.std.specs.List.{All}
use Rattle.std.specs.Option.{option_or}
use Rattle.std.proofs.lemmas.Bool.Decides.{nat_tests}
use Rattle.napi_types.specs.declared.call.Release.{Release}
use Rattle.napi_types.specs.declared.call.Release.TheVariants as release
use Rattle.napi_types.specs.declared.entry.Duty.{Duty}
use Rattle.napi_types.specs.declared.entry.Duty.TheVariants as duty
use Rattle.napi_types.specs.declared.entry.Target.{Target}
use Rattle.napi_types.specs.declared.entry.TsfnState.{TsfnState}
use Rattle.napi_types.specs.declared.entry.TsfnState.TheVariants.{Open, Closing, Finished, Done}
use Rattle.napi_types.specs.declared.ids.TsfnId.{TsfnId}
use Rattle.napi_types.specs.declared.status.Status.{Status}
use Rattle.napi_types.specs.declared.status.Status.TheVariants as status
use Rattle.napi_types.specs.plain.Lists.{found, head, tail, singleton}
use Rattle.napi_types.specs.plain.Room.{one_if}
use Rattle.napi_types.specs.parts.Functions.{FunctionState, new_function, accepted_items, is_finished, is_done, called, acquired, released, with_referenced, closed_state, closed, first_taken, with_item_taken, finished, done}
use Rattle.napi_types.specs.hub.Hub.{Hub}
use Rattle.napi_types.specs.hub.HubCalls.{tsfn_at, item_made, finalizer_duty, new_function_number}
use Rattle.napi_types.specs.all_runs.Counts.{is_duty}
use Rattle.napi_types.specs.all_runs.DutyPlaces.{has_item, owes_finalizer, function_passes}
use Rattle.napi_types.proofs.plain.Found.{found-append, found-All, found-number, same-self, same-tells, found-map}
use Rattle.napi_types.proofs.hub.HubDutySteps.{ChangesFunction, calls, acquires, releases, refers, closes, finishes, delivers, owes, HubDutyStep, keeps, queues, cancels, starts, works, drains, creates, changes, completes}
use Rattle.napi_types.proofs.hub.HubFunctions.{AreSoundFrom, function_changed_at}
use Rattle.napi_types.proofs.all_runs.WorkAccounts.{span-more, span-less}

-- TESTS
-- the item of this number was accepted
abbrev pub was_accepted : ℕ → FunctionState → Bool
was_accepted n f = nat_lt 0 n && not (nat_lt (accepted_items f) n)

abbrev pub has_finalizer : FunctionState → Bool
has_finalizer f = is_some f.finalizer

-- one that is finished has a finalizer
abbrev pub FinishesWell : FunctionState → Type 0
FinishesWell f = is_finished f.state ≡ true → is_some f.finalizer ≡ true

-- ONE FUNCTION
-- how a change of a function moves its duties
record ChangeAccount (f : FunctionState) (made begun : Option Duty) (g : FunctionState) : Type 0 where
  pub accepted : (t : TsfnId) (j : ℕ) → t.0 ≡ f.id → one_if (was_accepted j g) ≡ one_if (was_accepted j f) + one_if (is_duty (duty.Item t j) made)
  pub items : (t : TsfnId) (j : ℕ) → t.0 ≡ f.id
      → one_if (has_item j g) + one_if (is_duty (duty.Item t j) begun) ≡ one_if (has_item j f) + one_if (is_duty (duty.Item t j) made)
  pub finalizer : (t : TsfnId) → t.0 ≡ f.id → one_if (has_finalizer g) ≡ one_if (has_finalizer f) + one_if (is_duty (duty.Function t) made)
  pub owed : (t : TsfnId) → t.0 ≡ f.id
      → one_if (owes_finalizer g) + one_if (is_duty (duty.Function t) begun) ≡ one_if (owes_finalizer f) + one_if (is_duty (duty.Function t) made)

plus : (n : ℕ) → n ≡ n + 0
plus n = omega arith

kept : (f g : FunctionState) → g.taken ≡ f.taken → g.items ≡ f.items → g.finalizer ≡ f.finalizer → is_done g.state ≡ is_done f.state
    → ChangeAccount f None None g
kept f g taken items finalizer over = record {
  accepted = λ t j of. rw (taken, items) (plus (one_if (was_accepted j f)));
  items = λ t j of. rw (taken, items) refl;
  finalizer = λ t of. rw finalizer (plus (one_if (has_finalizer f)));
  owed = λ t of. rw (finalizer, over) refl;
}

closed-done : (s : TsfnState) → is_done (closed_state s) ≡ is_done s
closed-done Open = refl
closed-done Closing = refl
closed-done Finished = refl
closed-done Done = refl

is-item : (f : FunctionState) (t : TsfnId) (j n : ℕ) → t.0 ≡ f.id → is_duty (duty.Item t j) (Some (duty.Item (record { 0 = f.id }) n)) ≡ (j == n)
is-item f t j n of = ap (λ b. b && (j == n)) (ap (λ m. m == f.id) of ∙ same-self f.id)

is-function : (f : FunctionState) (t : TsfnId) → t.0 ≡ f.id → is_duty (duty.Function t) (Some (duty.Function (record { 0 = f.id }))) ≡ true
is-function f t of = ap (λ m. m == f.id) of ∙ same-self f.id

called-account : (f : FunctionState) (payload : ℕ) (s : Status) → ChangeAccount f (item_made s f) None (called (Some s) payload f)
called-account f payload status.Ok =
    let more : length (f.items ++ singleton payload) ≡ length f.items + 1 = length-append f.items (singleton payload) in
    let next : f.taken + length (f.items ++ singleton payload) ≡ f.taken + length f.items + 1 = omega (arith, more) in
    record {
      accepted = λ t j of.
          ap (λ n. one_if (nat_lt 0 j && not (nat_lt n j))) next ∙ span-more 0 (f.taken + length f.items) j (omega arith)
          ∙ ap (λ b. one_if (was_accepted j f) + one_if b) (sym (is-item f t j (accepted_items f + 1) of));
      items = λ t j of.
          sym (plus (one_if (nat_lt f.taken j && not (nat_lt (f.taken + length (f.items ++ singleton payload)) j))))
          ∙ ap (λ n. one_if (nat_lt f.taken j && not (nat_lt n j))) next ∙ span-more f.taken (f.taken + length f.items) j (omega arith)
          ∙ ap (λ b. one_if (has_item j f) + one_if b) (sym (is-item f t j (accepted_items f + 1) of));
      finalizer = λ t of. plus (one_if (has_finalizer f));
      owed = λ t of. refl;
    }
called-account f payload status.Closing = kept f (record f { count = f.count - 1 }) refl refl refl refl
called-account f payload _ = kept f f refl refl refl refl

acquired-account : (f : FunctionState) (s : Status) → ChangeAccount f None None (acquired s f)
acquired-account f status.Ok = kept f (record f { count = f.count + 1 }) refl refl refl refl
acquired-account f _ = kept f f refl refl refl refl

released-account : (f : FunctionState) (s : Status) (m : Release) → ChangeAccount f None None (released s m f)
released-account f status.Ok release.Release = kept f (released status.Ok release.Release f) refl refl refl refl
released-account f status.Ok release.Abort = kept f (released status.Ok release.Abort f) refl refl refl (closed-done f.state)
released-account f _ m = kept f f refl refl refl refl

finished-account : (f : FunctionState) → f.state ≡ Closing → ChangeAccount f None None (finished f)
finished-account f is = record {
  accepted = λ t j of. plus (one_if (was_accepted j f));
  items = λ t j of. refl;
  finalizer = λ t of. plus (one_if (has_finalizer f));
  owed = λ t of. ap (λ b. one_if b + 0) (by (is_some f.finalizer) ∙ ap (λ s. is_some f.finalizer && not (is_done s)) (sym is));
}
  where
    by : (b : Bool) → (b && not (is_done (cond b Finished Done))) ≡ (b && true)
    by true = refl
    by false = refl

delivered-account : (f : FunctionState) (payload : ℕ) (later : List ℕ) → f.items ≡ payload ∷ later
    → ChangeAccount f None (Some (duty.Item (record { 0 = f.id }) (f.taken + 1))) (first_taken f)
delivered-account f payload later items =
    let is : first_taken f ≡ with_item_taken f = ap (λ o. cond (is_some (head o)) (with_item_taken f) f) items in
    let left : length (tail f.items) ≡ length later = ap (λ l. length (tail l)) items in
    let all : length f.items ≡ suc (length later) = ap length items in
    let same : f.taken + 1 + length (tail f.items) ≡ f.taken + length f.items = omega (arith, left, all) in
    subst (λ g. ChangeAccount f None (Some (duty.Item (record { 0 = f.id }) (f.taken + 1))) g) (sym is) (record {
      accepted = λ t j of. ap (λ n. one_if (nat_lt 0 j && not (nat_lt n j))) same ∙ plus (one_if (was_accepted j f));
      items = λ t j of.
          ap (λ n. one_if (nat_lt (f.taken + 1) j && not (nat_lt n j)) + one_if (is_duty (duty.Item t j) (Some (duty.Item (record { 0 = f.id }) (f.taken + 1))))) same
          ∙ ap (λ b. one_if (nat_lt (f.taken + 1) j && not (nat_lt (f.taken + length f.items) j)) + one_if b) (is-item f t j (f.taken + 1) of)
          ∙ span-less f.taken (f.taken + length f.items) j (omega (arith, all)) ∙ plus (one_if (has_item j f));
      finalizer = λ t of. plus (one_if (has_finalizer f));
      owed = λ t of. refl;
    })

owed-account : (f : FunctionState) → f.state ≡ Finished → FinishesWell f → ChangeAccount f None (Some (duty.Function (record { 0 = f.id }))) (done f)
owed-account f is well = record {
  accepted = λ t j of. plus (one_if (was_accepted j f));
  items = λ t j of. refl;
  finalizer = λ t of. plus (one_if (has_finalizer f));
  owed = λ t of.
      let there : is_some f.finalizer ≡ true = well (ap is_finished is) in
      rw (there, is, is-function f t of) refl;
}

change-account : (f : FunctionState) (change : FunctionState → FunctionState) (made begun : Option Duty) → FinishesWell f → ChangesFunction f change made begun
    → ChangeAccount f made begun (change f)
change-account f _ _ _ well (calls payload s) = called-account f payload s
change-account f _ _ _ well (acquires s) = acquired-account f s
change-account f _ _ _ well (releases s m) = released-account f s m
change-account f _ _ _ well (refers b) = kept f (with_referenced b f) refl refl refl refl
change-account f _ _ _ well closes = kept f (closed f) refl refl refl (closed-done f.state)
change-account f _ _ _ well (finishes is) = finished-account f is
change-account f _ _ _ well (delivers payload later items) = delivered-account f payload later items
change-account f _ _ _ well (owes is) = owed-account f is well

-- OTHER FUNCTIONS
-- a change says nothing of the duties of another function
record SparesFunction (t : TsfnId) (made begun : Option Duty) : Type 0 where
  pub made_item : (j : ℕ) → is_duty (duty.Item t j) made ≡ false
  pub begun_item : (j : ℕ) → is_duty (duty.Item t j) begun ≡ false
  pub made_final : is_duty (duty.Function t) made ≡ false
  pub begun_final : is_duty (duty.Function t) begun ≡ false

none-apart : (t : TsfnId) → SparesFunction t None None
none-apart t = record { made_item = λ j. refl; begun_item = λ j. refl; made_final = refl; begun_final = refl }

made-apart : (f : FunctionState) (t : TsfnId) (s : Status) → (t.0 == f.id) ≡ false → SparesFunction t (item_made s f) None
made-apart f t status.Ok apart =
    record { made_item = λ j. ap (λ b. b && (j == accepted_items f + 1)) apart; begun_item = λ j. refl; made_final = refl; begun_final = refl }
made-apart f t _ apart = none-apart t

change-apart : (f : FunctionState) (t : TsfnId) (change : FunctionState → FunctionState) (made begun : Option Duty) → (t.0 == f.id) ≡ false
    → ChangesFunction f change made begun
    → SparesFunction t made begun
change-apart f t _ _ _ apart (calls payload s) = made-apart f t s apart
change-apart f t _ _ _ apart (acquires s) = none-apart t
change-apart f t _ _ _ apart (releases s m) = none-apart t
change-apart f t _ _ _ apart (refers b) = none-apart t
change-apart f t _ _ _ apart closes = none-apart t
change-apart f t _ _ _ apart (finishes is) = none-apart t
change-apart f t _ _ _ apart (delivers payload later is) =
    record { made_item = λ j. refl; begun_item = λ j. ap (λ b. b && (j == f.taken + 1)) apart; made_final = refl; begun_final = refl }
change-apart f t _ _ _ apart (owes is) = record { made_item = λ j. refl; begun_item = λ j. refl; made_final = refl; begun_final = apart }

-- THE FUNCTIONS BY THEIR NUMBERS
-- a change keeps the number, of whatever function
pub keeps-id : (f : FunctionState) (change : FunctionState → FunctionState) (made begun : Option Duty) → ChangesFunction f change made begun
    → (y : FunctionState) → (change y).id ≡ y.id
keeps-id f _ _ _ (calls payload s) y = called-id s
  where
    called-id : (s : Status) → (called (Some s) payload y).id ≡ y.id
    called-id status.Ok = refl
    called-id status.Closing = refl
    called-id _ = refl
keeps-id f _ _ _ (acquires s) y = acquired-id s
  where
    acquired-id : (s : Status) → (acquired s y).id ≡ y.id
    acquired-id status.Ok = refl
    acquired-id _ = refl
keeps-id f _ _ _ (releases s m) y = released-id s m
  where
    released-id : (s : Status) (m : Release) → (released s m y).id ≡ y.id
    released-id status.Ok release.Release = refl
    released-id status.Ok release.Abort = refl
    released-id _ m = refl
keeps-id f _ _ _ (refers b) y = refl
keeps-id f _ _ _ closes y = refl
keeps-id f _ _ _ (finishes is) y = refl
keeps-id f _ _ _ (delivers payload later is) y = by (is_some (head y.items))
  where
    by : (b : Bool) → (cond b (with_item_taken y) y).id ≡ y.id
    by true = refl
    by false = refl
keeps-id f _ _ _ (owes is) y = refl

abbrev pub numbered_function : ℕ → List FunctionState → Option FunctionState
numbered_function m fs = found (λ (f : FunctionState). f.id) m fs

-- where each function is changed and keeps its number
pub found-mapped : (m : ℕ) (change : FunctionState → FunctionState) → ((y : FunctionState) → (change y).id ≡ y.id) → (fs : List FunctionState)
    → numbered_function m (map change fs) ≡ option_map change (numbered_function m fs)
found-mapped m change same fs = found-map (λ (f : FunctionState). f.id) change same m fs

one-id : (k : ℕ) (change : FunctionState → FunctionState) → ((y : FunctionState) → (change y).id ≡ y.id) → (y : FunctionState)
    → (cond (y.id == k) (change y) y).id ≡ y.id
one-id k change same y = by (y.id == k)
  where
    by : (b : Bool) → (cond b (change y) y).id ≡ y.id
    by true = same y
    by false = refl

-- the one of this number is changed, and no other
pub found-changed : (f : FunctionState) (change : FunctionState → FunctionState) → ((y : FunctionState) → (change y).id ≡ y.id) → (fs : List FunctionState)
    → numbered_function f.id fs ≡ Some f
    → numbered_function f.id (function_changed_at f.id change fs) ≡ Some (change f)
found-changed f change same fs there =
    found-mapped f.id (λ (y : FunctionState). cond (y.id == f.id) (change y) y) (one-id f.id change same) fs
    ∙ ap (option_map (λ (y : FunctionState). cond (y.id == f.id) (change y) y)) there ∙ ap (λ b. Some (cond b (change f) f)) (same-self f.id)

pub found-other : (m k : ℕ) (change : FunctionState → FunctionState) → ((y : FunctionState) → (change y).id ≡ y.id) → (fs : List FunctionState)
    → (m == k) ≡ false
    → numbered_function m (function_changed_at k change fs) ≡ numbered_function m fs
found-other m k change same fs apart =
    found-mapped m (λ (y : FunctionState). cond (y.id == k) (change y) y) (one-id k change same) fs ∙ by (numbered_function m fs) refl
  where
    by : (o : Option FunctionState) → numbered_function m fs ≡ o → option_map (λ (y : FunctionState). cond (y.id == k) (change y) y) o ≡ o
    by None there = refl
    by (Some y) there = ap (λ b. Some (cond b (change y) y)) (ap (λ n. n == k) (found-number (λ (g : FunctionState). g.id) m fs y there) ∙ apart)

-- a number that none has yet
pub none-above : (late : Bool) (k m : ℕ) (fs : List FunctionState) → AreSoundFrom late k fs → k + length fs ≤ m → numbered_function m fs ≡ None
none-above late k m [] sound above = refl
none-above late k m (f ∷ fs) sound above =
    ap (λ b. cond b (Some f) (numbered_function m fs)) (apart f.id (omega (arith, sound.0, above))) ∙ none-above late (suc k) m fs sound.2 (omega (arith, above))
  where
    apart : (n : ℕ) → n < m → (n == m) ≡ false
    apart n lt = grind (arith, nat_tests)

-- IN THE HUB
-- how a step changes the places of an item and of a finalizer
abbrev pub accepted_at : TsfnId → ℕ → Hub → ℕ
accepted_at t j h = one_if (function_passes (was_accepted j) (tsfn_at h t.0))

abbrev pub item_at : TsfnId → ℕ → Hub → ℕ
item_at t j h = one_if (function_passes (has_item j) (tsfn_at h t.0))

abbrev pub finalizer_at : TsfnId → Hub → ℕ
finalizer_at t h = one_if (function_passes has_finalizer (tsfn_at h t.0))

abbrev pub owed_finalizer_at : TsfnId → Hub → ℕ
owed_finalizer_at t h = one_if (function_passes owes_finalizer (tsfn_at h t.0))

pub record FunctionAccount (t : TsfnId) (h : Hub) (made begun : Option Duty) (n : Hub) : Type 0 where
  pub accepted : (j : ℕ) → accepted_at t j n ≡ accepted_at t j h + one_if (is_duty (duty.Item t j) made)
  pub items : (j : ℕ) → item_at t j n + one_if (is_duty (duty.Item t j) begun) ≡ item_at t j h + one_if (is_duty (duty.Item t j) made)
  pub finalizer : finalizer_at t n ≡ finalizer_at t h + one_if (is_duty (duty.Function t) made)
  pub owed : owed_finalizer_at t n + one_if (is_duty (duty.Function t) begun) ≡ owed_finalizer_at t h + one_if (is_duty (duty.Function t) made)

-- the function of the number is as it was
unchanged : (t : TsfnId) (h n : Hub) (made begun : Option Duty) → tsfn_at n t.0 ≡ tsfn_at h t.0 → SparesFunction t made begun
    → FunctionAccount t h made begun n
unchanged t h n made begun is apart = record {
  accepted = λ j. rw (is, apart.made_item j) (plus (accepted_at t j h));
  items = λ j. rw (is, apart.made_item j, apart.begun_item j) refl;
  finalizer = rw (is, apart.made_final) (plus (finalizer_at t h));
  owed = rw (is, apart.made_final, apart.begun_final) refl;
}

-- or is another
became : (t : TsfnId) (h n : Hub) (made begun : Option Duty) (f g : FunctionState) → t.0 ≡ f.id → tsfn_at h t.0 ≡ Some f → tsfn_at n t.0 ≡ Some g
    → ChangeAccount f made begun g → FunctionAccount t h made begun n
became t h n made begun f g of before now a = record {
  accepted = λ j. rw (before, now) (a.accepted t j of);
  items = λ j. rw (before, now) (a.items t j of);
  finalizer = rw (before, now) (a.finalizer t of);
  owed = rw (before, now) (a.owed t of);
}

made-work : (t : TsfnId) (n : ℕ) → SparesFunction t (Some (duty.Work n)) None
made-work t n = record { made_item = λ j. refl; begun_item = λ j. refl; made_final = refl; begun_final = refl }

begun-work : (t : TsfnId) (n : ℕ) → SparesFunction t None (Some (duty.Work n))
begun-work t n = record { made_item = λ j. refl; begun_item = λ j. refl; made_final = refl; begun_final = refl }

-- all are closed
shut-account : (t : TsfnId) (h n : Hub) → n.functions ≡ map closed h.functions → FunctionAccount t h None None n
shut-account t h n functions = by (tsfn_at h t.0) refl
  where
    now : tsfn_at n t.0 ≡ option_map closed (tsfn_at h t.0)
    now = ap (numbered_function t.0) functions ∙ found-mapped t.0 closed (λ y. refl) h.functions

    by : (o : Option FunctionState) → tsfn_at h t.0 ≡ o → FunctionAccount t h None None n
    by None there = unchanged t h n None None (now ∙ ap (option_map closed) there ∙ sym there) (none-apart t)
    by (Some f) there =
        became t h n None None f (closed f) (sym (found-number (λ (g : FunctionState). g.id) t.0 h.functions f there)) there (now ∙ ap (option_map closed) there)
        (kept f (closed f) refl refl refl (closed-done f.state))

-- one more is created
created-account : (late : Bool) (t : TsfnId) (h : Hub) (addon : ℕ) (target : Target) (maximum count : ℕ) (finalizer : Option ℕ) (context : ℕ) (n : Hub)
    → AreSoundFrom late 1 h.functions → n.functions ≡ h.functions ++ singleton
    (new_function (new_function_number h) addon target maximum count finalizer context)
    → FunctionAccount t h (finalizer_duty (new_function_number h) finalizer) None n
created-account late t h addon target maximum count finalizer context n sound functions = by (new_function_number h == t.0) refl
  where
    new : FunctionState
    new = new_function (new_function_number h) addon target maximum count finalizer context

    now : tsfn_at n t.0 ≡ option_or (tsfn_at h t.0) (cond (new_function_number h == t.0) (Some new) None)
    now = ap (numbered_function t.0) functions ∙ found-append (λ (f : FunctionState). f.id) t.0 h.functions (singleton new)

    never : (j : ℕ) → one_if (nat_lt 0 j && not (nat_lt (0 + 0) j)) ≡ 0
    never j = by (nat_lt 0 j)
      where
        by : (b : Bool) → one_if (b && not b) ≡ 0
        by true = refl
        by false = refl

    no-item : (o : Option ℕ) (j : ℕ) → is_duty (duty.Item t j) (finalizer_duty (new_function_number h) o) ≡ false
    no-item None j = refl
    no-item (Some entry) j = refl

    owes-it : (o : Option ℕ) → t.0 ≡ new_function_number h → is_duty (duty.Function t) (finalizer_duty (new_function_number h) o) ≡ is_some o
    owes-it None of = refl
    owes-it (Some entry) of = ap (λ m. m == new_function_number h) of ∙ same-self (new_function_number h)

    others : (o : Option ℕ) → (t.0 == new_function_number h) ≡ false → is_duty (duty.Function t) (finalizer_duty (new_function_number h) o) ≡ false
    others None apart = refl
    others (Some entry) apart = apart

    and-all : (b : Bool) → one_if (b && true) + 0 ≡ 0 + one_if b
    and-all true = refl
    and-all false = refl

    turned : (a b : ℕ) (c : Bool) → (a == b) ≡ c → (b == a) ≡ c
    turned a b c is = grind (arith, nat_tests)

    by : (b : Bool) → (new_function_number h == t.0) ≡ b → FunctionAccount t h (finalizer_duty (new_function_number h) finalizer) None n
    by true is =
        let of : t.0 ≡ new_function_number h = sym (same-tells (new_function_number h) t.0 is) in
        let before : tsfn_at h t.0 ≡ None = none-above late 1 t.0 h.functions sound (omega (arith, of)) in
        let there : tsfn_at n t.0 ≡ Some new = now ∙ ap (λ o. option_or o (cond (new_function_number h == t.0) (Some new) None)) before ∙ ap
        (λ b. cond b (Some new) None) is in
        record {
          accepted = λ j. rw (before, there, no-item finalizer j) (never j);
          items = λ j. rw (before, there, no-item finalizer j) (ap (λ m. m + 0) (never j));
          finalizer = rw (before, there, owes-it finalizer of) (sym (none (one_if (is_some finalizer))));
          owed = rw (before, there, owes-it finalizer of) (and-all (is_some finalizer));
        }
      where
        none : (m : ℕ) → 0 + m ≡ m
        none m = omega arith
    by false is =
        unchanged t h n _ None (now ∙ ap (λ b. option_or (tsfn_at h t.0) (cond b (Some new) None)) is ∙ left (tsfn_at h t.0))
        (record { made_item = no-item finalizer; begun_item = λ j. refl; made_final = others finalizer (turned (new_function_number h) t.0 false is); begun_final = refl })
      where
        left : (o : Option FunctionState) → option_or o None ≡ o
        left None = refl
        left (Some f) = refl

-- EACH STEP
pub function-account : (late : Bool) (t : TsfnId) (h : Hub) (made begun started : Option Duty) (s : Status) (n : Hub) → AreSoundFrom late 1 h.functions
    → All FinishesWell h.functions → HubDutyStep h made begun started s n → FunctionAccount t h made begun n
function-account late t h _ _ _ _ _ sound well (keeps s n e) = unchanged t h n None None (ap (numbered_function t.0) e.functions) (none-apart t)
function-account late t h _ _ _ _ _ sound well (queues s id) = unchanged t h _ _ None refl (made-work t _)
function-account late t h _ _ _ _ _ sound well (cancels s m n waits is) =
    unchanged t h n None None (ap (λ (g : Hub). numbered_function t.0 g.functions) is) (none-apart t)
function-account late t h _ _ _ _ _ sound well (starts s w m later waits free) = unchanged t h _ None None refl (none-apart t)
function-account late t h _ _ _ _ _ sound well (works s w m runs) = unchanged t h _ None None refl (none-apart t)
function-account late t h _ _ _ _ _ sound well (drains s n pool functions) = shut-account t h n functions
function-account late t h _ _ _ _ _ sound well (creates s addon target maximum count finalizer context) =
    created-account late t h addon target maximum count finalizer context _ sound refl
function-account late t h _ _ _ _ _ sound well (completes o os n first pool functions) =
    unchanged t h n None _ (ap (numbered_function t.0) functions) (begun-work t o.work)
function-account late t h _ _ _ _ _ sound well (changes s f change made begun n there how pool functions) = by (t.0 == f.id) refl
  where
    by : (b : Bool) → (t.0 == f.id) ≡ b → FunctionAccount t h made begun n
    by true is =
        let of : t.0 ≡ f.id = same-tells t.0 f.id is in
        became t h n made begun f (change f) of (ap (tsfn_at h) of ∙ there)
        (ap (tsfn_at n) of ∙ ap (numbered_function f.id) functions ∙ found-changed f change (keeps-id f change made begun how) h.functions there)
        (change-account f change made begun (found-well f there) how)
      where
        found-well : (f : FunctionState) → numbered_function f.id h.functions ≡ Some f → FinishesWell f
        found-well f there = found-All (λ (g : FunctionState). g.id) FinishesWell f.id h.functions f well there
    by false is =
        unchanged t h n made begun (ap (numbered_function t.0) functions ∙ found-other t.0 f.id change (keeps-id f change made begun how) h.functions is) (change-apart f t change made begun is how)
