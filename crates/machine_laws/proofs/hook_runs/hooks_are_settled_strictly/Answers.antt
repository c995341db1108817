use Rattle.std.proofs.Common.{◌≡◌, ◌<◌, ◌≤◌, ℕ, nat_eq, true, false, List, [], ◌∷◌, ◌++◌, take, drop, set, arith, ap, refl, sym, subst, ◌∙◌, ◌⊎◌, inl, inr, None}
use Rattle.std.specs.List.{All, list_any}
use Rattle.std.proofs.lemmas.Bool.{or_left, or_right}
use Rattle.std.proofs.lemmas.List.Elements.{All-head}
use Rattle.std.proofs.lemmas.Map.Keys.{IsDistinct-head}
use Rattle.napi_types.specs.declared.entry.Entry.{Entry}
use Rattle.napi_types.specs.declared.status.Status.TheVariants as status
use Rattle.napi_types.specs.plain.Lists.{has_number}
use Rattle.napi_types.specs.all_runs.AbandonedHooks.{AddedHook, hooks_added, numbers_removed, is_abandon, IsAbandoned, IsSettled, SettlesHooks}
use Rattle.napi_types.proofs.all_runs.SettledHooks.{hooks-settled}
use Rattle.machine_laws.specs.HookAbandoned as hook_abandoned
use Rattle.machine_laws.specs.HookRemovedByCompletion as hook_removed
use Rattle.machine_laws.specs.HubWords.{next_after, abandons, drains}
use Rattle.machine_laws.specs.LegalRuns.{EndsAsTold, told_asks}
use Rattle.machine_laws.specs.RunWords.{ticket, left_out}
use Rattle.machine_laws.specs.SettleMisses.{abandoned_twice, removal_refused}
use Rattle.machine_laws.proofs.Misses.{told_number}
use Rattle.machine_laws.proofs.RowLists.{ends-of}
use Rattle.machine_laws.proofs.hook_runs.hooks_are_settled_strictly.Goals as goal

-- THE RUNS
abandoned-ends : EndsAsTold hook_abandoned.setting hook_abandoned.trace
abandoned-ends = ends-of hook_abandoned.setting (told_asks hook_abandoned.setting hook_abandoned.trace) hook_abandoned.trace (refl, refl) refl refl

removed-ends : EndsAsTold hook_removed.setting hook_removed.trace
removed-ends = ends-of hook_removed.setting (told_asks hook_removed.setting hook_removed.trace) hook_removed.trace (refl, refl) refl refl

-- WHERE A HOOK IS LEFT
-- an entry that stands among others is one of them
stands-among : (before later : List Entry) (x : Entry) → is_abandon x.what ≡ true → list_any (λ (y : Entry). is_abandon y.what) (before ++ x ∷ later) ≡ true
stands-among [] later x is = or_left (is_abandon x.what) (list_any (λ (y : Entry). is_abandon y.what) later) is
stands-among (y ∷ before) later x is =
    or_right (is_abandon y.what) (list_any (λ (z : Entry). is_abandon z.what) (before ++ x ∷ later)) (stands-among before later x is)

-- so where no `abandon` stands nothing is abandoned, and a hook that began and was not removed is not settled
left-unsettled : (h : AddedHook) (xs : List Entry) → list_any (λ (y : Entry). is_abandon y.what) xs ≡ false → has_number h.number (numbers_removed xs) ≡ false
    → (has_number h.number (numbers_removed xs) ≡ true) ⊎ IsAbandoned h xs → ⊥
left-unsettled h xs none kept (inl removed) = let z : false ≡ true = sym kept ∙ removed in cc
left-unsettled h xs none kept (inr a) =
    let z : false ≡ true = sym none ∙ ap (list_any (λ (y : Entry). is_abandon y.what)) a.parts ∙ stands-among a.before a.later a.event a.abandons in cc

-- the first of the two hooks is left where the drain comes
abbrev first : AddedHook
first = record { number = 5; ticket = 1 }

abbrev second : AddedHook
second = record { number = 6; ticket = 2 }

first-left : (xs : List Entry) → hooks_added xs ≡ first ∷ second ∷ [] → All (IsSettled xs) (hooks_added xs) → IsSettled xs first
first-left xs same all = All-head (IsSettled xs) first (second ∷ []) (subst (All (IsSettled xs)) same all)

not-unabandoned : SettlesHooks (left_out 11 hook_abandoned.trace) → ⊥
not-unabandoned s =
    let before : List Entry = take 11 hook_abandoned.trace in
    left-unsettled first before refl refl (first-left before refl (s.settled before (drop 13 hook_abandoned.trace) (drains 0) refl refl) refl)

not-unremoved : SettlesHooks (left_out 18 hook_removed.trace) → ⊥
not-unremoved s =
    let before : List Entry = take 19 (left_out 18 hook_removed.trace) in
    left-unsettled first before refl refl (first-left before refl (s.settled before (drop 21 hook_removed.trace) (drains 0) refl refl) refl)

not-refused : SettlesHooks removal_refused → ⊥
not-refused s =
    let before : List Entry = take 20 removal_refused in
    left-unsettled first before refl refl (first-left before refl (s.settled before (drop 21 hook_removed.trace) (drains 0) refl refl) refl)

not-another : SettlesHooks (set hook_removed.trace 18 (hook_removed.removed 6 status.Ok None)) → ⊥
not-another s =
    let before : List Entry = take 20 (set hook_removed.trace 18 (hook_removed.removed 6 status.Ok None)) in
    left-unsettled first before refl refl (first-left before refl (s.settled before (drop 21 hook_removed.trace) (drains 0) refl refl) refl)

-- WHAT ABANDON TELLS
is-counted : (n : ℕ) → SettlesHooks (set hook_abandoned.trace 11 (abandons n)) → n ≡ 1
is-counted n s =
    ap (told_number n) (s.counted (take 11 hook_abandoned.trace) (drop 12 hook_abandoned.trace) (abandons n) refl refl).result

not-early : (n : ℕ) → SettlesHooks (set hook_abandoned.trace 9 (abandons n)) → ⊥
not-early n s =
    let z : 0 < 0 = (s.counted (take 9 hook_abandoned.trace) (drop 10 hook_abandoned.trace) (abandons n) refl refl).some in absurd (omega (arith, z))

not-idle : (n : ℕ) → SettlesHooks (next_after 20 hook_removed.trace (abandons n)) → ⊥
not-idle n s = let z : 0 < 0 = (s.counted (take 20 hook_removed.trace) [] (abandons n) refl refl).some in absurd (omega (arith, z))

not-twice : SettlesHooks abandoned_twice → ⊥
not-twice s = let z : 2 ≤ 1 = s.once in absurd (omega (arith, z))

not-doubled : SettlesHooks (set hook_abandoned.trace 3 (hook_abandoned.added_again 5 (ticket 2))) → ⊥
not-doubled s = let z : true ≡ false = (IsDistinct-head nat_eq 5 (5 ∷ []) s.apart).0 in cc

pub returns : goal.returns
returns c = record {
  abandoned = hooks-settled hook_abandoned.setting (told_asks hook_abandoned.setting hook_abandoned.trace) hook_abandoned.trace abandoned-ends.run;
  removed = hooks-settled hook_removed.setting (told_asks hook_removed.setting hook_removed.trace) hook_removed.trace removed-ends.run;
  unabandoned = not-unabandoned;
  unremoved = not-unremoved;
  refused = not-refused;
  another = not-another;
  miscounted = is-counted;
  early = not-early;
  idle = not-idle;
  twice = not-twice;
  doubled = not-doubled;
}
