-- What becomes of asynchronous hooks along a run: how far each has come in the environment is what the entries tell.
use Rattle.std.proofs.Common.{◌≡◌, ◌≢◌, ◌∙◌, ◌≤◌, ◌<◌, ◌+◌, ℕ, suc, ◌==◌, Bool, true, false, not, ◌&&◌, ◌||◌, cond, List, [], ◌∷◌, ◌++◌, map, filter, length, slice_index_or, inl, inr, refl, ap, sym, subst, arith}
use Rattle.std.specs.List.{All}
use Rattle.std.proofs.lemmas.Bool.{eqb-true, or_left, or_right, or_from, or_parts}
use Rattle.std.proofs.lemmas.List.{append-nil, append_assoc, flat_map_more, map-append}
use Rattle.std.proofs.lemmas.List.Elements.{All-nil, All-head, All-tail, All-cons, All-push, All-map, All-weaker}
use Rattle.std.proofs.lemmas.List.Folds.{list_any-append}
use Rattle.napi_types.specs.declared.entry.Entry.{Entry}
use Rattle.napi_types.specs.plain.Lists.{has, has_number}
use Rattle.napi_types.specs.plain.Room.{one_if}
use Rattle.napi_types.specs.parts.AsyncHooks.{AsyncHook, HookState, Set, Waiting, Abandoned, Removed, is_waiting, in_state, count_waiting, with_async_hook, with_removed, with_begun, with_abandoned}
use Rattle.napi_types.specs.all_runs.AbandonedHooks.{AddedHook, hook_added, number_removed, is_abandon, hooks_added, numbers_removed, times_abandoned, is_unfinished, unfinished_hooks, IsAbandoned, IsSettled}
use Rattle.napi_types.specs.all_runs.Order.{tickets_begun}
use Rattle.napi_types.specs.parts.Hooks.{Hook}
use Rattle.napi_types.proofs.plain.Conditions.{and-false}
use Rattle.napi_types.proofs.plain.Found.{apart-below, same-self, turned}
use Rattle.napi_types.proofs.plain.Lists.{of-map}
use Rattle.napi_types.proofs.plain.Tallies.{tally-cons, tally-append, tally-one}
use Rattle.napi_types.proofs.environment.AsyncHooked.{KeepsNames, begun-keeps, abandoned-keeps, removed-keeps, same-told, same-rows}
use Rattle.napi_types.proofs.all_runs.HookRows as row
use Rattle.napi_types.proofs.all_runs.HookRows.{HookNews, hook_news, HookStep}
use Rattle.napi_types.proofs.all_runs.Orders.{tickets_told, IsHookIn}

-- WHAT THE ENTRIES TELL OF A HOOK
-- a hook of the environment by its number and its ticket
abbrev pub name_of : ℕ → ℕ → AddedHook
name_of n t = record { number = n; ticket = t }

abbrev pub as_added : AsyncHook → AddedHook
as_added h = name_of h.number h.ticket

-- how far it has come, where its frame began or not, it was removed or not, and it was abandoned
abbrev pub StateBy : Bool → Bool → Type 0 → HookState → Type 0
StateBy begun removed abandoned Set = (begun ≡ false) × (removed ≡ false)
StateBy begun removed abandoned Waiting = (begun ≡ true) × (removed ≡ false)
StateBy begun removed abandoned Abandoned = (removed ≡ false) × abandoned
StateBy begun removed abandoned Removed = removed ≡ true

abbrev pub hook_has_begun : List Entry → ℕ → Bool
hook_has_begun xs t = has_number t (tickets_begun xs)

abbrev pub is_removed : List Entry → ℕ → Bool
is_removed xs n = has_number n (numbers_removed xs)

abbrev pub StateTold : List Entry → AsyncHook → Type 0
StateTold xs h = StateBy (hook_has_begun xs h.ticket) (is_removed xs h.number) (IsAbandoned (as_added h) xs) h.state

-- the hooks of the environment are those that the entries add, each has come as far as they tell, and no other was removed
pub record HooksTold (xs : List Entry) (hooks : List AsyncHook) : Type 0 where
  pub names : map as_added hooks ≡ hooks_added xs
  pub known : (n : ℕ) → has_number n (map (λ h. h.number) hooks) ≡ false → is_removed xs n ≡ false
  pub states : All (StateTold xs) hooks

-- the numbers of the hooks
pub told-numbers : (hooks : List AsyncHook) → map (λ h. h.number) hooks ≡ map (λ h. h.number) (map as_added hooks)
told-numbers [] = refl
told-numbers (h ∷ hooks) = ap (λ ns. h.number ∷ ns) (told-numbers hooks)

-- tickets that began are below the new one
abbrev pub BegunBelow : ℕ → List Entry → Type 0
BegunBelow bound xs = All (λ t. t < bound) (tickets_begun xs)

never-begun : (t bound : ℕ) (ts : List ℕ) → bound ≤ t → All (λ k. k < bound) ts → has_number t ts ≡ false
never-begun t bound [] above all = refl
never-begun t bound (k ∷ ts) above all =
    let less : k < bound = All-head (λ m. m < bound) k ts all in
    or_from (k == t) (has_number t ts) (apart-below k t (omega (arith, less, above))) (never-begun t bound ts above (All-tail (λ m. m < bound) k ts all))

-- A STATE STAYS
state-stays : {a b c d : Bool} {A B : Type 0} (s : HookState) → b ≡ a → d ≡ c → (A → B) → StateBy a c A s → StateBy b d B s
state-stays Set begun removed abandoned k = (begun ∙ k.0, removed ∙ k.1)
state-stays Waiting begun removed abandoned k = (begun ∙ k.0, removed ∙ k.1)
state-stays Abandoned begun removed abandoned k = (removed ∙ k.0, abandoned k.1)
state-stays Removed begun removed abandoned k = removed ∙ k

-- ONE ENTRY MORE
module _ (xs : List Entry) (x : Entry) where
  now : List Entry
  now = xs ++ x ∷ []

  added-more : hooks_added (xs ++ x ∷ []) ≡ hooks_added xs ++ (hook_news x).added
  added-more = sym (flat_map_more (λ (y : Entry). hook_added y.what y.reply.out y.reply.made) [] xs x)

  begun-one : (t : ℕ) → hook_has_begun (xs ++ x ∷ []) t ≡ (hook_has_begun xs t || has_number t (hook_news x).begun)
  begun-one t =
      ap (has_number t) (sym (flat_map_more tickets_told [] xs x)) ∙ list_any-append (λ m. m == t) (tickets_begun xs) (hook_news x).begun

  removed-one : (n : ℕ) → is_removed (xs ++ x ∷ []) n ≡ (is_removed xs n || has_number n (hook_news x).removed)
  removed-one n =
      ap (has_number n) (sym (flat_map_more (λ (y : Entry). number_removed y.what y.reply.status) [] xs x))
      ∙ list_any-append (λ m. m == n) (numbers_removed xs) (hook_news x).removed

  pub abandoned-one : times_abandoned (xs ++ x ∷ []) ≡ times_abandoned xs + one_if (hook_news x).abandons
  abandoned-one = tally-append (λ (y : Entry). is_abandon y.what) xs (x ∷ [])
      ∙ ap (λ n. times_abandoned xs + n) (tally-one (λ (y : Entry). is_abandon y.what) x)

  -- one that was abandoned was so before
  still-abandoned : (h : AddedHook) → IsAbandoned h xs → IsAbandoned h (xs ++ x ∷ [])
  still-abandoned h k = record {
    before = k.before;
    event = k.event;
    later = k.later ++ x ∷ [];
    parts = ap (λ ys. ys ++ x ∷ []) k.parts ∙ append_assoc k.before (k.event ∷ k.later) (x ∷ []);
    abandons = k.abandons;
    unfinished = k.unfinished;
  }

or-none : (a b : Bool) → b ≡ false → (a || b) ≡ a
or-none true b is = refl
or-none false b is = is

same-name : (change : AsyncHook → AsyncHook) → KeepsNames change → (h : AsyncHook) → as_added (change h) ≡ as_added h
same-name change keeps h = by (keeps.number h) (keeps.ticket h)
  where
    by : {m n t u : ℕ} → m ≡ n → t ≡ u → name_of m t ≡ name_of n u
    by numbers tickets = rw numbers (rw tickets refl)

-- an unfinished hook is among them
unfinished-there : (xs : List Entry) (hs : List AddedHook)
    → All (λ h. is_unfinished xs h ≡ true → has (λ k. k.number) h.number (filter (is_unfinished xs) hs) ≡ true) hs
unfinished-there xs [] = All-nil (λ (h : AddedHook). is_unfinished xs h ≡ true → has (λ (k : AddedHook). k.number) h.number [] ≡ true)
unfinished-there xs (h ∷ hs) = by (is_unfinished xs h) refl (unfinished-there xs hs)
  where
    P : List AddedHook → AddedHook → Type 0
    P ks g = is_unfinished xs g ≡ true → has (λ (k : AddedHook). k.number) g.number ks ≡ true

    by : (b : Bool) → is_unfinished xs h ≡ b → All (P (filter (is_unfinished xs) hs)) hs
        → All (P (cond b (h ∷ filter (is_unfinished xs) hs) (filter (is_unfinished xs) hs))) (h ∷ hs)
    by true is rest =
        All-cons (P (h ∷ filter (is_unfinished xs) hs)) h hs
        (λ u. or_left (h.number == h.number) (has (λ (k : AddedHook). k.number) h.number (filter (is_unfinished xs) hs)) (same-self h.number))
        (All-weaker (P (filter (is_unfinished xs) hs)) (P (h ∷ filter (is_unfinished xs) hs))
        (λ g later u. or_right (h.number == g.number) _ (later u)) hs rest)
    by false is rest = All-cons (P (filter (is_unfinished xs) hs)) h hs (λ u. let no : true ≡ false = sym u ∙ is in cc) rest

unfinished-by : (begun removed : Bool) → begun ≡ true → removed ≡ false → (begun && not removed) ≡ true
unfinished-by begun removed b r = rw b (rw r refl)

waiting-only : (s : HookState) → is_waiting s ≡ true → s ≡ Waiting
waiting-only Waiting is = refl
waiting-only _ is = cc

waits-not : (s : HookState) → is_waiting s ≡ false → s ≢ Waiting
waits-not s is same = let no : true ≡ false = sym (ap is_waiting same) ∙ is in cc

module _ (xs : List Entry) (x : Entry) (old : List AsyncHook) (k : HooksTold xs old) where
  -- a hook that this entry does not tell of
  untold : (h : AsyncHook) (s : HookState) → has_number h.ticket (hook_news x).begun ≡ false → has_number h.number (hook_news x).removed ≡ false
      → StateBy (hook_has_begun xs h.ticket) (is_removed xs h.number) (IsAbandoned (as_added h) xs) s
      → StateBy (hook_has_begun (xs ++ x ∷ []) h.ticket) (is_removed (xs ++ x ∷ []) h.number) (IsAbandoned (as_added h) (xs ++ x ∷ [])) s
  untold h s begun removed state =
      state-stays s (begun-one xs x h.ticket ∙ or-none (hook_has_begun xs h.ticket) _ begun) (removed-one xs x h.number ∙ or-none (is_removed xs h.number) _ removed)
      (still-abandoned xs x (as_added h)) state

  -- the hooks are the same ones, and each state is what the entries tell
  mapped-told : (change : AsyncHook → AsyncHook) → KeepsNames change → (hook_news x).added ≡ []
      → ((n : ℕ) → has_number n (map (λ (h : AsyncHook). h.number) old) ≡ false → has_number n (hook_news x).removed ≡ false)
      → All (λ h. StateTold (xs ++ x ∷ []) (change h)) old → HooksTold (xs ++ x ∷ []) (map change old)
  mapped-told change keeps none fewer states = record {
    names = same-told change keeps as_added (same-name change keeps) old ∙ k.names ∙ sym (append-nil (hooks_added xs))
        ∙ ap (λ hs. hooks_added xs ++ hs) (sym none) ∙ sym (added-more xs x);
    known = λ n absent.
        let was : has_number n (map (λ (h : AsyncHook). h.number) old) ≡ false =
        ap (has_number n) (sym (same-told change keeps (λ h. h.number) keeps.number old)) ∙ absent in
        removed-one xs x n ∙ or_from (is_removed xs n) (has_number n (hook_news x).removed) (k.known n was) (fewer n was);
    states = All-map (StateTold (xs ++ x ∷ [])) change old states;
  }

  abbrev numbers : List ℕ
  numbers = map (λ (h : AsyncHook). h.number) old

  -- they are as they were, and the frame of a ticket begins that is none of theirs, or no frame of a ticket
  unmoved-told : (hook_news x).added ≡ [] → (hook_news x).removed ≡ [] → All (λ h. has_number h.ticket (hook_news x).begun ≡ false) old
      → HooksTold (xs ++ x ∷ []) old
  unmoved-told none lost apart =
      subst (HooksTold (xs ++ x ∷ [])) (same-rows old)
      (mapped-told (λ h. h) (record { number = λ h. refl; ticket = λ h. refl }) none (λ n absent. ap (has_number n) lost)
      (λ j d inside. let h : AsyncHook = slice_index_or old j d in
      untold h h.state (apart j d inside) (ap (has_number h.number) lost) (k.states j d inside)))

  -- one more
  added-told : (n t bound : ℕ) → (hook_news x).added ≡ name_of n t ∷ [] → (hook_news x).removed ≡ [] → (hook_news x).begun ≡ []
      → has_number n numbers ≡ false → bound ≤ t → BegunBelow bound xs → HooksTold (xs ++ x ∷ []) (with_async_hook n t old)
  added-told n t bound one lost kept fresh above below = record {
    names = map-append as_added old (fresh_hook ∷ []) ∙ ap (λ hs. hs ++ name_of n t ∷ []) k.names ∙ ap (λ hs. hooks_added xs ++ hs) (sym one)
        ∙ sym (added-more xs x);
    known = λ m absent.
        let parts = or_parts (has_number m numbers) (has_number m (n ∷ []))
        (sym (ap (has_number m) (map-append (λ (h : AsyncHook). h.number) old (fresh_hook ∷ [])) ∙ list_any-append (λ j. j == m) numbers (n ∷ [])) ∙ absent) in
        removed-one xs x m ∙ or-none (is_removed xs m) _ (ap (has_number m) lost) ∙ k.known m parts.0;
    states = All-push (StateTold (xs ++ x ∷ [])) old fresh_hook
        (λ j d inside. let h : AsyncHook = slice_index_or old j d in
        untold h h.state (ap (has_number h.ticket) kept) (ap (has_number h.number) lost) (k.states j d inside)) (
          begun-one xs x t ∙ or-none (hook_has_begun xs t) _ (ap (has_number t) kept) ∙ never-begun t bound (tickets_begun xs) above below,
          removed-one xs x n ∙ or-none (is_removed xs n) _ (ap (has_number n) lost) ∙ k.known n fresh,
        );
  }
    where
      fresh_hook : AsyncHook
      fresh_hook = record { number = n; ticket = t; state = Set }

  -- one is removed
  removed-told : (n : ℕ) → (hook_news x).added ≡ [] → (hook_news x).removed ≡ n ∷ [] → (hook_news x).begun ≡ [] → has_number n numbers ≡ true
      → HooksTold (xs ++ x ∷ []) (with_removed n old)
  removed-told n none lost kept there =
      mapped-told (λ h. cond (h.number == n) (in_state Removed h) h) (removed-keeps n) none fewer
      (λ j d inside. let h : AsyncHook = slice_index_or old j d in by h (h.number == n) refl (k.states j d inside))
    where
      fewer : (m : ℕ) → has_number m numbers ≡ false → has_number m (hook_news x).removed ≡ false
      fewer m absent = ap (has_number m) lost ∙ or_from (n == m) false (other (n == m) refl) refl
        where
          other : (b : Bool) → (n == m) ≡ b → (n == m) ≡ false
          other false is = is
          other true is = let no : true ≡ false = sym there ∙ ap (λ j. has_number j numbers) (eqb-true n m is) ∙ absent in cc

      by : (h : AsyncHook) (b : Bool) → (h.number == n) ≡ b → StateTold xs h → StateTold (xs ++ x ∷ []) (cond b (in_state Removed h) h)
      by h true is state =
          removed-one xs x h.number ∙ or_right (is_removed xs h.number) _
          (ap (has_number h.number) lost ∙ or_left (n == h.number) false (turned n h.number ∙ is))
      by h false is state =
          untold h h.state (ap (has_number h.ticket) kept) (ap (has_number h.number) lost ∙ or_from (n == h.number) false (turned n h.number ∙ is) refl) state

  -- the frame of one begins
  started-told : (t : ℕ) → (hook_news x).added ≡ [] → (hook_news x).removed ≡ [] → (hook_news x).begun ≡ t ∷ []
      → All (λ h. (h.ticket == t) ≡ true → h.state ≡ Set) old → HooksTold (xs ++ x ∷ []) (with_begun t old)
  started-told t none lost one set =
      mapped-told (λ h. cond (h.ticket == t) (in_state Waiting h) h) (begun-keeps t) none (λ n absent. ap (has_number n) lost)
      (λ j d inside. let h : AsyncHook = slice_index_or old j d in by h (h.ticket == t) refl (set j d inside) (k.states j d inside))
    where
      by : (h : AsyncHook) (b : Bool) → (h.ticket == t) ≡ b → ((h.ticket == t) ≡ true → h.state ≡ Set) → StateTold xs h
          → StateTold (xs ++ x ∷ []) (cond b (in_state Waiting h) h)
      by h true is first state =
          let was : StateBy (hook_has_begun xs h.ticket) (is_removed xs h.number) (IsAbandoned (as_added h) xs) Set =
          subst (StateBy (hook_has_begun xs h.ticket) (is_removed xs h.number) (IsAbandoned (as_added h) xs)) (first is) state in (
            begun-one xs x h.ticket ∙ or_right (hook_has_begun xs h.ticket) _
                (ap (has_number h.ticket) one ∙ or_left (t == h.ticket) false (turned t h.ticket ∙ is)),
            removed-one xs x h.number ∙ or-none (is_removed xs h.number) _ (ap (has_number h.number) lost) ∙ was.1,
          )
      by h false is first state =
          untold h h.state (ap (has_number h.ticket) one ∙ or_from (t == h.ticket) false (turned t h.ticket ∙ is) refl) (ap (has_number h.number) lost) state

  -- all that wait are abandoned
  given_up-told : (hook_news x).added ≡ [] → (hook_news x).removed ≡ [] → (hook_news x).begun ≡ [] → (hook_news x).abandons ≡ true
      → HooksTold (xs ++ x ∷ []) (with_abandoned old)
  given_up-told none lost kept gone =
      mapped-told (λ h. cond (is_waiting h.state) (in_state Abandoned h) h) abandoned-keeps none (λ n absent. ap (has_number n) lost)
      (λ j d inside. let h : AsyncHook = slice_index_or old j d in by h (is_waiting h.state) refl (there j d inside) (k.states j d inside))
    where
      Among : AddedHook → Type 0
      Among g = is_unfinished xs g ≡ true → has (λ (j : AddedHook). j.number) g.number (unfinished_hooks xs) ≡ true

      there : All (λ h. Among (as_added h)) old
      there = of-map Among as_added old (subst (All Among) (sym k.names) (unfinished-there xs (hooks_added xs)))

      by : (h : AsyncHook) (b : Bool) → is_waiting h.state ≡ b → Among (as_added h) → StateTold xs h → StateTold (xs ++ x ∷ []) (cond b (in_state Abandoned h) h)
      by h true is among state =
          let was : StateBy (hook_has_begun xs h.ticket) (is_removed xs h.number) (IsAbandoned (as_added h) xs) Waiting =
          subst (StateBy (hook_has_begun xs h.ticket) (is_removed xs h.number) (IsAbandoned (as_added h) xs)) (waiting-only h.state is) state in (
            removed-one xs x h.number ∙ or-none (is_removed xs h.number) _ (ap (has_number h.number) lost) ∙ was.1,
            record {
              before = xs;
              event = x;
              later = [];
              parts = refl;
              abandons = gone;
              unfinished = among (unfinished-by (hook_has_begun xs h.ticket) (is_removed xs h.number) was.0 was.1);
            },
          )
      by h false is among state = untold h h.state (ap (has_number h.ticket) kept) (ap (has_number h.number) lost) state

  -- each entry
  pub told-step : (list : List Hook) (bound : ℕ) (news : HookNews) (new : List AsyncHook) → hook_news x ≡ news → BegunBelow bound xs
      → HookStep old list bound news new
      → HooksTold (xs ++ x ∷ []) new
  told-step list bound _ _ is below row.rests =
      unmoved-told (ap (λ (w : HookNews). w.added) is) (ap (λ (w : HookNews). w.removed) is)
      (λ j d inside. ap (λ (w : HookNews). has_number (slice_index_or old j d).ticket w.begun) is)
  told-step list bound _ _ is below (row.passes_by t within apart) =
      unmoved-told (ap (λ (w : HookNews). w.added) is) (ap (λ (w : HookNews). w.removed) is)
      (λ j d inside. let h : AsyncHook = slice_index_or old j d in
      ap (λ (w : HookNews). has_number h.ticket w.begun) is ∙ or_from (t == h.ticket) false (turned t h.ticket ∙ apart j d inside) refl)
  told-step list bound _ _ is below (row.adds n t fresh above) =
      added-told n t bound (ap (λ (w : HookNews). w.added) is) (ap (λ (w : HookNews). w.removed) is) (ap (λ (w : HookNews). w.begun) is) fresh above below
  told-step list bound _ _ is below (row.removes n there) =
      removed-told n (ap (λ (w : HookNews). w.added) is) (ap (λ (w : HookNews). w.removed) is) (ap (λ (w : HookNews). w.begun) is) there
  told-step list bound _ _ is below (row.starts t within stands set) =
      started-told t (ap (λ (w : HookNews). w.added) is) (ap (λ (w : HookNews). w.removed) is) (ap (λ (w : HookNews). w.begun) is) set
  told-step list bound _ _ is below row.gives_up =
      given_up-told (ap (λ (w : HookNews). w.added) is) (ap (λ (w : HookNews). w.removed) is) (ap (λ (w : HookNews). w.begun) is)
      (ap (λ (w : HookNews). w.abandons) is)

-- HOW MANY ARE UNFINISHED
-- an event that abandons among the entries
abandoned-some : (h : AddedHook) (xs : List Entry) → IsAbandoned h xs → 0 < times_abandoned xs
abandoned-some h xs k =
    some (times_abandoned k.later) (times_abandoned k.before) (times_abandoned (k.event ∷ k.later)) (times_abandoned xs)
    (tally-cons (λ (y : Entry). is_abandon y.what) k.event k.later ∙ ap (λ b. one_if b + times_abandoned k.later) k.abandons)
    (ap times_abandoned k.parts ∙ tally-append (λ (y : Entry). is_abandon y.what) k.before (k.event ∷ k.later))
  where
    some : (l a b c : ℕ) → b ≡ 1 + l → c ≡ a + b → 0 < c
    some l a b c one all = omega (arith, one, all)

-- before any were abandoned, those that wait are the unfinished ones
waiting-unfinished : (xs : List Entry) (h : AsyncHook) → times_abandoned xs ≡ 0 → StateTold xs h → is_unfinished xs (as_added h) ≡ is_waiting h.state
waiting-unfinished xs h none = by h.state
  where
    first : (a b : Bool) → a ≡ false → (a && b) ≡ false
    first a b is = rw is refl

    last : (a b : Bool) → b ≡ true → (a && not b) ≡ false
    last a b is = rw is (and-false a)

    by : (s : HookState) → StateBy (hook_has_begun xs h.ticket) (is_removed xs h.number) (IsAbandoned (as_added h) xs) s → is_unfinished xs (as_added h) ≡ is_waiting s
    by Set state = first (hook_has_begun xs h.ticket) _ state.0
    by Waiting state = unfinished-by (hook_has_begun xs h.ticket) (is_removed xs h.number) state.0 state.1
    by Abandoned state = let some : 0 < times_abandoned xs = abandoned-some (as_added h) xs state.1 in absurd (omega (arith, some, none))
    by Removed state = last (hook_has_begun xs h.ticket) (is_removed xs h.number) state

same-count : (p : AddedHook → Bool) (hooks : List AsyncHook) → All (λ h. p (as_added h) ≡ is_waiting h.state) hooks
    → length (filter p (map as_added hooks)) ≡ count_waiting hooks
same-count p [] all = refl
same-count p (h ∷ hooks) all =
    let P : AsyncHook → Type 0 = λ g. p (as_added g) ≡ is_waiting g.state in
    ap (λ b. length (cond b (as_added h ∷ filter p (map as_added hooks)) (filter p (map as_added hooks)))) (All-head P h hooks all)
    ∙ by (is_waiting h.state) (same-count p hooks (All-tail P h hooks all))
  where
    by : (b : Bool) → length (filter p (map as_added hooks)) ≡ count_waiting hooks
        → length (cond b (as_added h ∷ filter p (map as_added hooks)) (filter p (map as_added hooks))) ≡ length
        (cond b (h ∷ filter (λ (g : AsyncHook). is_waiting g.state) hooks) (filter (λ (g : AsyncHook). is_waiting g.state) hooks))
    by true rest = ap suc rest
    by false rest = rest

pub unfinished-count : (xs : List Entry) (hooks : List AsyncHook) → times_abandoned xs ≡ 0 → HooksTold xs hooks
    → length (unfinished_hooks xs) ≡ count_waiting hooks
unfinished-count xs hooks none k =
    ap (λ hs. length (filter (is_unfinished xs) hs)) (sym k.names)
    ∙ same-count (is_unfinished xs) hooks
    (All-weaker (StateTold xs) (λ h. is_unfinished xs (as_added h) ≡ is_waiting h.state) (λ h. waiting-unfinished xs h none) hooks k.states)

-- WHERE NONE WAITS
abbrev pub NoHookWaits : List AsyncHook → Type 0
NoHookWaits hooks = All (λ h. is_waiting h.state ≡ false) hooks

-- each that began is settled
pub none-unsettled : (xs : List Entry) (hooks : List AsyncHook) → HooksTold xs hooks → NoHookWaits hooks → All (IsSettled xs) (hooks_added xs)
none-unsettled xs hooks k none =
    subst (All (IsSettled xs)) k.names
    (All-map (IsSettled xs) as_added hooks
    (λ j d inside. let h : AsyncHook = slice_index_or hooks j d in settled h h.state (none j d inside) (k.states j d inside)))
  where
    settled : (h : AsyncHook) (s : HookState) → is_waiting s ≡ false → StateBy (hook_has_begun xs h.ticket) (is_removed xs h.number) (IsAbandoned (as_added h) xs) s
        → IsSettled xs (as_added h)
    settled h Set calm state begun = let no : true ≡ false = sym begun ∙ state.0 in cc
    settled h Waiting calm state begun = cc
    settled h Abandoned calm state begun = inr state.1
    settled h Removed calm state begun = inl state

pub none-counted : (hooks : List AsyncHook) → count_waiting hooks ≡ 0 → NoHookWaits hooks
none-counted [] none = All-nil (λ (h : AsyncHook). is_waiting h.state ≡ false)
none-counted (h ∷ hooks) none = by (is_waiting h.state) refl none (none-counted hooks)
  where
    waiting : List AsyncHook
    waiting = filter (λ (g : AsyncHook). is_waiting g.state) hooks

    by : (b : Bool) → is_waiting h.state ≡ b → length (cond b (h ∷ waiting) waiting) ≡ 0 → (count_waiting hooks ≡ 0 → NoHookWaits hooks) → NoHookWaits (h ∷ hooks)
    by true is none later = let no : ⊥ = cc in absurd no
    by false is none later = All-cons (λ (g : AsyncHook). is_waiting g.state ≡ false) h hooks is (later none)

pub abandoned-none : (old : List AsyncHook) → NoHookWaits (with_abandoned old)
abandoned-none old =
    All-map (λ (h : AsyncHook). is_waiting h.state ≡ false) (λ (h : AsyncHook). cond (is_waiting h.state) (in_state Abandoned h) h) old
    (λ j d inside. let h : AsyncHook = slice_index_or old j d in by h (is_waiting h.state) refl)
  where
    by : (h : AsyncHook) (b : Bool) → is_waiting h.state ≡ b → is_waiting (cond b (in_state Abandoned h) h).state ≡ false
    by h true is = refl
    by h false is = is

-- none waits after an entry, unless a hook of the list begins
pub still-none : (old : List AsyncHook) (list : List Hook) (bound : ℕ) (news : HookNews) (new : List AsyncHook) → ((t : ℕ) → IsHookIn list t → ⊥)
    → HookStep old list bound news new → NoHookWaits old → NoHookWaits new
still-none old list bound _ _ empty row.rests none = none
still-none old list bound _ _ empty (row.passes_by t within apart) none = none
still-none old list bound _ _ empty (row.adds n t fresh above) none = All-push (λ (h : AsyncHook). is_waiting h.state ≡ false) old _ none refl
still-none old list bound _ _ empty (row.removes n there) none =
    All-map (λ (h : AsyncHook). is_waiting h.state ≡ false) (λ (h : AsyncHook). cond (h.number == n) (in_state Removed h) h) old
    (All-weaker (λ (h : AsyncHook). is_waiting h.state ≡ false) (λ h. is_waiting (cond (h.number == n) (in_state Removed h) h).state ≡ false)
    (λ h. by h (h.number == n)) old none)
  where
    by : (h : AsyncHook) (b : Bool) → is_waiting h.state ≡ false → is_waiting (cond b (in_state Removed h) h).state ≡ false
    by h true calm = refl
    by h false calm = calm
still-none old list bound _ _ empty (row.starts t within stands set) none = absurd (empty t stands)
still-none old list bound _ _ empty row.gives_up none = abandoned-none old
