-- References as the machine sees them, and what the calls on them answer.
use Rattle.std.proofs.Common.{◌≡◌, ℕ, ◌+◌, ◌-◌, ◌==◌, ◌||◌, Bool, true, false, cond, not, List, [], ◌∷◌, map, Option, Some, None, is_some, IsSome, IfSome, option_map, Result, Ok, Err, IfOk, IfErr, OnErr, refl, ap, sym, subst, ◌∙◌}
use Rattle.std.specs.List.{list_all}
use Rattle.std.specs.Option.{unwrap_or}
use Rattle.std.specs.Result.{result_err}
use Rattle.napi_types.specs.declared.call.Call.{Call}
use Rattle.napi_types.specs.declared.call.Call.TheVariants as call
use Rattle.napi_types.specs.declared.entry.Out.{Out}
use Rattle.napi_types.specs.declared.entry.Out.TheVariants as out
use Rattle.napi_types.specs.declared.entry.Reply.{Reply}
use Rattle.napi_types.specs.declared.ids.HandleId.{HandleId}
use Rattle.napi_types.specs.declared.ids.RefId.{RefId}
use Rattle.napi_types.specs.declared.status.Status.{Status}
use Rattle.napi_types.specs.declared.status.Status.TheVariants as status
use Rattle.napi_types.specs.plain.Lists.{found, has, has_number, with_number}
use Rattle.napi_types.specs.plain.Replies.{Answer, accepts, plain}
use Rattle.napi_types.specs.parts.Graph.{StoreState, IsLive, number_in}
use Rattle.napi_types.specs.parts.Heap.{Heap, handle_value}
use Rattle.napi_types.specs.parts.HeapChanges.{with_handle, handle_of}
use Rattle.napi_types.specs.parts.ReferenceRefusals.{references_of, count_refusal, reference_refusal}
use Rattle.napi_types.specs.parts.References.{Reference, ReferenceMap, has_reference, reference_at, referred_value, reference_count, with_reference, without_reference, with_count}
use Rattle.napi_types.specs.environment.Calls.{effect, answer_unless}
use Rattle.napi_types.specs.environment.Changes.{issued_number, is_fresh_result}
use Rattle.napi_types.specs.environment.Environment.{Environment, in_heap}
use Rattle.napi_types.specs.environment.ReferenceCalls.{counted_up, value_told}
use Rattle.napi_types.specs.environment.Refusals.{refusal_by_state}
use Rattle.napi_types.proofs.plain.Maps.{map-filter, map-with_record}
use Rattle.handle_scope.specs.HandleScopes.{HandleScopes}
use Rattle.env_values.specs.SeenValues.{heap_of}
use Rattle.env_values.proofs.Giving.{given-answer}
use Rattle.napi_reference.specs.ReferencePlaces.{ReferencePlaces, map_of}
use Rattle.napi_reference.proofs.KeepingReferences.{AllValues-with_count, referred_value-AllValues}
use Rattle.env_core.specs.Referring.{seen_reference, references_seen, RefersToLive}
use Rattle.env_core.specs.State.{AnswersInTime}

-- WHAT IS SEEN
module _ (s : StoreState) where
  rows-has : (rs : List Reference) (n : ℕ) → has (λ r. r.number) n (map (seen_reference s) rs) ≡ has (λ r. r.number) n rs
  rows-has [] n = refl
  rows-has (r ∷ rs) n = ap (λ b. (r.number == n) || b) (rows-has rs n)

  pub seen-has : (m : ReferenceMap) (n : ℕ) → has_reference (references_seen s m) n ≡ has_reference m n
  seen-has m n = rows-has m.rows n

  rows-found : (rs : List Reference) (n : ℕ) → found (λ r. r.number) n (map (seen_reference s) rs) ≡ option_map (seen_reference s) (found (λ r. r.number) n rs)
  rows-found [] n = refl
  rows-found (r ∷ rs) n = by (rows-found rs n) (r.number == n)
    where
      by : found (λ x. x.number) n (map (seen_reference s) rs) ≡ option_map (seen_reference s) (found (λ x. x.number) n rs) → (b : Bool)
          → cond b (Some (seen_reference s r)) (found (λ x. x.number) n (map (seen_reference s) rs)) ≡ option_map (seen_reference s) (cond b (Some r) (found (λ x. x.number) n rs))
      by rest true = refl
      by rest false = rest

  value-at : (o : Option Reference) → unwrap_or (option_map (λ (r : Reference). r.value) (option_map (seen_reference s) o)) None ≡ option_map (number_in s) (unwrap_or (option_map (λ (r : Reference). r.value) o) None)
  value-at None = refl
  value-at (Some r) = refl

  pub seen-value : (m : ReferenceMap) (n : ℕ) → referred_value (references_seen s m) n ≡ option_map (number_in s) (referred_value m n)
  seen-value m n = ap (λ o. unwrap_or (option_map (λ (r : Reference). r.value) o) None) (rows-found m.rows n) ∙ value-at (reference_at m n)

  count-at : (o : Option Reference) → unwrap_or (option_map (λ (r : Reference). r.count) (option_map (seen_reference s) o)) 0 ≡ unwrap_or (option_map (λ (r : Reference). r.count) o) 0
  count-at None = refl
  count-at (Some r) = refl

  pub seen-count : (m : ReferenceMap) (n : ℕ) → reference_count (references_seen s m) n ≡ reference_count m n
  seen-count m n = ap (λ o. unwrap_or (option_map (λ (r : Reference). r.count) o) 0) (rows-found m.rows n) ∙ count-at (reference_at m n)

  is_some-map : (o : Option ℕ) → is_some (option_map (number_in s) o) ≡ is_some o
  is_some-map None = refl
  is_some-map (Some v) = refl

  all-has : (m : ReferenceMap) (ns : List ℕ) → list_all (has_reference (references_seen s m)) ns ≡ list_all (has_reference m) ns
  all-has m [] = refl
  all-has m (n ∷ ns) = rw (seen-has m n, all-has m ns) refl

  counts-seen : (m : ReferenceMap) (c : Call) → count_refusal (references_seen s m) c ≡ count_refusal m c
  counts-seen m (call.ReferenceRef r) = rw (seen-value m r.0, seen-count m r.0, is_some-map (referred_value m r.0)) refl
  counts-seen m (call.ReferenceUnref r) = rw (seen-count m r.0) refl
  counts-seen m _ = refl

  -- why a call on a reference is refused reads numbers and counts, and whether there is a value
  pub seen-refusal : (m : ReferenceMap) (c : Call) → reference_refusal (references_seen s m) c ≡ reference_refusal m c
  seen-refusal m c = rw (all-has m (references_of c), counts-seen m c) refl

  pub seen-with : (n v count : ℕ) (m : ReferenceMap) → references_seen s (with_reference n v count m) ≡ with_reference n (number_in s v) count (references_seen s m)
  seen-with n v count m =
      ap (λ l. record { rows = l; issued = with_number n m.issued }) (map-with_record (λ (r : Reference). r.number) (seen_reference s) (λ r. refl) _ m.rows)

  pub seen-without : (n : ℕ) (m : ReferenceMap) → references_seen s (without_reference n m) ≡ without_reference n (references_seen s m)
  seen-without n m =
      ap (λ l. record { rows = l; issued = m.issued }) (map-filter (seen_reference s) (λ r. not (r.number == n)) (λ r. not (r.number == n)) (λ r. refl) m.rows)

  abbrev recounted : ℕ → ℕ → Reference → Reference
  recounted n count r = cond (r.number == n) (record r { count = count }) r

  rows-counted : (n count : ℕ) (rs : List Reference) → map (seen_reference s) (map (recounted n count) rs) ≡ map (recounted n count) (map (seen_reference s) rs)
  rows-counted n count [] = refl
  rows-counted n count (r ∷ rs) = by _ _ (rows-counted n count rs) (r.number == n)
    where
      by : (xs ys : List Reference) → xs ≡ ys → (b : Bool)
          → seen_reference s (cond b (record r { count = count }) r) ∷ xs ≡ cond b (record (seen_reference s r) { count = count }) (seen_reference s r) ∷ ys
      by xs ys rest true = ap (λ l. seen_reference s (record r { count = count }) ∷ l) rest
      by xs ys rest false = ap (λ l. seen_reference s r ∷ l) rest

  pub seen-counted : (n count : ℕ) (m : ReferenceMap) → references_seen s (with_count n count m) ≡ with_count n count (references_seen s m)
  seen-counted n count m = ap (λ l. record { rows = l; issued = m.issued }) (rows-counted n count m.rows)

-- WHAT A CALL ANSWERS
-- one that is refused
pub refused-timely : (e : Environment) (c : Call) (s : Status) → refusal_by_state e c ≡ Some s → AnswersInTime e c (plain s out.Nothing) e
refused-timely e c s why = record {
  fresh = refl;
  reply = ap (λ (o : Option Status). (answer_unless e c 0 o).reply) (sym why);
  after = ap (λ (o : Option Status). (answer_unless e c 0 o).after) (sym why);
}

-- one that is accepted, whatever duties its reply tells
pub replied-timely : (e new : Environment) (c : Call) (r : Reply) → refusal_by_state e c ≡ None → is_fresh_result e r.out ≡ true
    → effect e c (issued_number r.out) ≡ record { reply = r; after = new } → AnswersInTime e c r new
replied-timely e new c r none fresh is =
    let answer : answer_unless e c (issued_number r.out) (refusal_by_state e c) ≡ record { reply = r; after = new } = ap
    (answer_unless e c (issued_number r.out)) none
    ∙ is in
    record {
      fresh = fresh;
      reply = ap (λ (a : Answer Environment). a.reply) (sym answer);
      after = ap (λ (a : Answer Environment). a.after) (sym answer);
    }

-- the same where it tells none
pub accepted-timely : (e new : Environment) (c : Call) (o : Out) → refusal_by_state e c ≡ None → is_fresh_result e o ≡ true
    → effect e c (issued_number o) ≡ accepts o new → AnswersInTime e c (plain status.Ok o) new
accepted-timely e new c o none fresh is = replied-timely e new c (plain status.Ok o) none fresh is

-- a call that nothing else refuses is refused for its reference alone
abbrev pub NamesReference : Environment → Call → Type 0
NamesReference e c = refusal_by_state e c ≡ reference_refusal e.references c

pub by-reference : (e : Environment) (c : Call) (o : Option Status) → reference_refusal e.references c ≡ o → NamesReference e c → refusal_by_state e c ≡ o
by-reference e c o h only = only ∙ h

-- A CALL ON A REFERENCE
-- the environment with these references
abbrev pub referring : Environment → StoreState → ReferenceMap → Environment
referring e s m = record e { references = references_seen s m }

-- it is refused, and changes nothing
pub refused-answers : (e : Environment) (s : StoreState) (m n : ReferenceMap) (c : Call) (st : Status) → Some st ≡ reference_refusal m c
    → NamesReference (referring e s m) c → n ≡ m
    → AnswersInTime (referring e s m) c (plain st out.Nothing) (referring e s n)
refused-answers e s m n c st h k same =
    let P : ReferenceMap → Type 0 = λ x. AnswersInTime (referring e s m) c (plain st out.Nothing) (referring e s x) in
    subst P (sym same) (refused-timely (referring e s m) c st (by-reference (referring e s m) c (Some st) (seen-refusal s m c ∙ sym h) k))

accepted-answers : (e : Environment) (s : StoreState) (m n : ReferenceMap) (c : Call) (o : Out) → None ≡ reference_refusal m c
    → NamesReference (referring e s m) c → is_fresh_result (referring e s m) o ≡ true
    → effect (referring e s m) c (issued_number o) ≡ accepts o (referring e s n) → AnswersInTime (referring e s m) c (plain status.Ok o) (referring e s n)
accepted-answers e s m n c o h k fresh is =
    accepted-timely (referring e s m) (referring e s n) c o (by-reference (referring e s m) c None (seen-refusal s m c ∙ sym h) k) fresh is

pub made-answers : (e : Environment) (s : StoreState) (m n : ReferenceMap) (h : HandleId) (v count : ℕ) (r : RefId)
    → refusal_by_state e (call.CreateReference h count) ≡ None
    → has_number r.0 (0 ∷ m.issued) ≡ false → number_in s v ≡ handle_value e.heap h.0 → n ≡ with_reference r.0 v count m
    → AnswersInTime (referring e s m) (call.CreateReference h count) (plain status.Ok (out.Ref r)) (referring e s n)
made-answers e s m n h v count r none fresh is made =
    accepted-answers e s m n (call.CreateReference h count) (out.Ref r) refl none (ap not fresh)
    (ap (λ w. accepts (out.Ref r) (record e { references = with_reference r.0 w count (references_seen s m) })) (sym is)
    ∙ ap (λ (x : ReferenceMap). accepts (out.Ref r) (record e { references = x })) (sym (ap (references_seen s) made ∙ seen-with s r.0 v count m)))

pub deleted-answers : (e : Environment) (s : StoreState) (m n : ReferenceMap) (r : RefId) → None ≡ reference_refusal m (call.DeleteReference r) → n ≡ without_reference r.0 m
    → AnswersInTime (referring e s m) (call.DeleteReference r) (plain status.Ok out.Nothing) (referring e s n)
deleted-answers e s m n r h is =
    accepted-answers e s m n (call.DeleteReference r) out.Nothing h refl refl
    (ap (λ (x : ReferenceMap). accepts out.Nothing (record e { references = x })) (sym (ap (references_seen s) is ∙ seen-without s r.0 m)))

pub lowered-answers : (e : Environment) (s : StoreState) (m n : ReferenceMap) (r : RefId) (count : ℕ) → None ≡ reference_refusal m (call.ReferenceUnref r)
    → count ≡ reference_count m r.0 - 1 → n ≡ with_count r.0 count m
    → AnswersInTime (referring e s m) (call.ReferenceUnref r) (plain status.Ok (out.Unsigned count)) (referring e s n)
lowered-answers e s m n r count h counted is =
    accepted-answers e s m n (call.ReferenceUnref r) (out.Unsigned count) h refl refl
    (ap (λ k. accepts (out.Unsigned (k - 1)) (record e { references = with_count r.0 (k - 1) (references_seen s m) })) (seen-count s m r.0)
    ∙ ap (λ k. accepts (out.Unsigned k) (record e { references = with_count r.0 k (references_seen s m) })) (sym counted)
    ∙ ap (λ (x : ReferenceMap). accepts (out.Unsigned count) (record e { references = x })) (sym (ap (references_seen s) is ∙ seen-counted s r.0 count m)))

pub raised-answers : (e : Environment) (s : StoreState) (m n : ReferenceMap) (r : RefId) (count : ℕ) → None ≡ reference_refusal m (call.ReferenceRef r)
    → (IsSome (referred_value m r.0) → count ≡ reference_count m r.0 + 1) → (IsSome (referred_value m r.0) → n ≡ with_count r.0 count m)
    → (referred_value m r.0 ≡ None → count ≡ 0) → (referred_value m r.0 ≡ None → n ≡ m)
    → AnswersInTime (referring e s m) (call.ReferenceRef r) (plain status.Ok (out.Unsigned count)) (referring e s n)
raised-answers e s m n r count h counted is none same = accepted-answers e s m n (call.ReferenceRef r) (out.Unsigned count) h refl refl (ap (counted_up r.0 (referring e s m)) (seen-value s m r.0) ∙ by (referred_value m r.0) refl)
  where
    by : (v : Option ℕ) → referred_value m r.0 ≡ v → counted_up r.0 (referring e s m) (option_map (number_in s) v) ≡ accepts (out.Unsigned count) (referring e s n)
    by None e1 =
        ap (λ k. accepts (out.Unsigned k) (referring e s m)) (sym (none e1)) ∙ ap (λ x. accepts (out.Unsigned count) (referring e s x)) (sym (same e1))
    by (Some v) e1 =
        let there : IsSome (referred_value m r.0) = subst (λ (o : Option ℕ). IsSome o) (sym e1) refl in
        ap (λ k. accepts (out.Unsigned (k + 1)) (record e { references = with_count r.0 (k + 1) (references_seen s m) })) (seen-count s m r.0)
        ∙ ap (λ k. accepts (out.Unsigned k) (record e { references = with_count r.0 k (references_seen s m) })) (sym (counted there))
        ∙ ap (λ (x : ReferenceMap). accepts (out.Unsigned count) (record e { references = x })) (sym (ap (references_seen s) (is there) ∙ seen-counted s r.0 count m))

-- the value of a reference was collected
pub gone-answers : (e : Environment) (s : StoreState) (m : ReferenceMap) (r : RefId) → None ≡ reference_refusal m (call.GetReferenceValue r) → None ≡ referred_value m r.0
    → AnswersInTime (referring e s m) (call.GetReferenceValue r) (plain status.Ok out.NoHandle) (referring e s m)
gone-answers e s m r h none =
    accepted-answers e s m m (call.GetReferenceValue r) out.NoHandle h refl refl (ap (value_told (referring e s m)) (seen-value s m r.0 ∙ ap (option_map (number_in s)) (sym none)))

-- or it is there, and gets a handle
pub told-answers : (e : Environment) (s : StoreState) (m : ReferenceMap) (old new : HandleScopes) (r : RefId) (h : HandleId) (v : ℕ)
    → e.heap ≡ heap_of s old → None ≡ reference_refusal m (call.GetReferenceValue r) → Some v ≡ referred_value m r.0
    → h.0 ≡ old.handles + 1 → heap_of s new ≡ with_handle (number_in s v) (heap_of s old)
    → AnswersInTime (referring e s m) (call.GetReferenceValue r) (plain status.Ok (out.Handle h)) (record (referring e s m) { heap = heap_of s new })
told-answers e s m old new r h v heap none some next held =
    accepted-timely (referring e s m) (record (referring e s m) { heap = heap_of s new }) (call.GetReferenceValue r) (out.Handle h)
    (by-reference (referring e s m) (call.GetReferenceValue r) None (seen-refusal s m (call.GetReferenceValue r) ∙ sym none) refl) refl
    (ap (value_told (referring e s m)) (seen-value s m r.0 ∙ ap (option_map (number_in s)) (sym some))
    ∙ ap (λ (x : Heap). in_heap (referring e s m) (handle_of (number_in s v) x)) heap
    ∙ ap (λ (a : Answer Heap). in_heap (referring e s m) a) (given-answer (heap_of s old) (heap_of s new) (number_in s v) h next held))

-- the same of a count that is told or refused
pub lowered-told : (e : Environment) (s : StoreState) (m n : ReferenceMap) (r : RefId) (o : Result ℕ Status) (reply : Reply) → result_err o ≡ reference_refusal m (call.ReferenceUnref r)
    → IfOk o (λ count. count ≡ reference_count m r.0 - 1) → IfOk o (λ count. n ≡ with_count r.0 count m) → OnErr o (n ≡ m)
    → IfOk o (λ count. reply ≡ plain status.Ok (out.Unsigned count)) → IfErr o (λ st. reply ≡ plain st out.Nothing)
    → AnswersInTime (referring e s m) (call.ReferenceUnref r) reply (referring e s n)
lowered-told e s m n r (Ok count) reply h counted is err ok why =
    subst (λ (x : Reply). AnswersInTime (referring e s m) (call.ReferenceUnref r) x (referring e s n)) (sym ok) (lowered-answers e s m n r count h counted is)
lowered-told e s m n r (Err st) reply h counted is err ok why =
    subst (λ (x : Reply). AnswersInTime (referring e s m) (call.ReferenceUnref r) x (referring e s n)) (sym why) (refused-answers e s m n (call.ReferenceUnref r) st h refl err)

pub raised-told : (e : Environment) (s : StoreState) (m n : ReferenceMap) (r : RefId) (o : Result ℕ Status) (reply : Reply) → result_err o ≡ reference_refusal m (call.ReferenceRef r)
    → (IsSome (referred_value m r.0) → IfOk o (λ count. count ≡ reference_count m r.0 + 1)) → (IsSome (referred_value m r.0) → IfOk o (λ count. n ≡ with_count r.0 count m))
    → (referred_value m r.0 ≡ None → IfOk o (λ count. count ≡ 0)) → (referred_value m r.0 ≡ None → n ≡ m) → OnErr o (n ≡ m)
    → IfOk o (λ count. reply ≡ plain status.Ok (out.Unsigned count)) → IfErr o (λ st. reply ≡ plain st out.Nothing)
    → AnswersInTime (referring e s m) (call.ReferenceRef r) reply (referring e s n)
raised-told e s m n r (Ok count) reply h counted is none same err ok why =
    subst (λ (x : Reply). AnswersInTime (referring e s m) (call.ReferenceRef r) x (referring e s n)) (sym ok) (raised-answers e s m n r count h counted is none same)
raised-told e s m n r (Err st) reply h counted is none same err ok why =
    subst (λ (x : Reply). AnswersInTime (referring e s m) (call.ReferenceRef r) x (referring e s n)) (sym why) (refused-answers e s m n (call.ReferenceRef r) st h refl err)

-- WHAT STAYS LIVE
pub raised-live : (s : StoreState) (m n : ReferenceMap) (r count : ℕ) → RefersToLive s m → (IsSome (referred_value m r) → n ≡ with_count r count m) → (referred_value m r ≡ None → n ≡ m) → RefersToLive s n
raised-live s m n r count live counted same = by (referred_value m r) refl
  where
    by : (v : Option ℕ) → referred_value m r ≡ v → RefersToLive s n
    by None h = subst (RefersToLive s) (sym (same h)) live
    by (Some v) h =
        let there : IsSome (referred_value m r) = subst (λ (o : Option ℕ). IsSome o) (sym h) refl in
        subst (RefersToLive s) (sym (counted there)) (AllValues-with_count (IsLive s) r count m live)

-- what an error leaves as it was, the map of it too
pub err-mapped : (o : Result ℕ Status) (old new : ReferencePlaces) → OnErr o (new ≡ old) → OnErr o (map_of new ≡ map_of old)
err-mapped (Ok count) old new err = tt
err-mapped (Err st) old new err = ap map_of err

-- the same of a count that is told or refused
pub lowered-told-live : (s : StoreState) (m n : ReferenceMap) (r : ℕ) (o : Result ℕ Status) → RefersToLive s m → IfOk o (λ count. n ≡ with_count r count m) → OnErr o (n ≡ m) → RefersToLive s n
lowered-told-live s m n r (Ok count) live is err = subst (RefersToLive s) (sym is) (AllValues-with_count (IsLive s) r count m live)
lowered-told-live s m n r (Err st) live is err = subst (RefersToLive s) (sym err) live

pub raised-told-live : (s : StoreState) (m n : ReferenceMap) (r : ℕ) (o : Result ℕ Status) → RefersToLive s m → (IsSome (referred_value m r) → IfOk o (λ count. n ≡ with_count r count m))
    → (referred_value m r ≡ None → n ≡ m) → OnErr o (n ≡ m) → RefersToLive s n
raised-told-live s m n r (Ok count) live counted same err = raised-live s m n r count live counted same
raised-told-live s m n r (Err st) live counted same err = subst (RefersToLive s) (sym err) live

-- the value that a reference has is live
pub value-live : (s : StoreState) (m : ReferenceMap) (r v : ℕ) → Some v ≡ referred_value m r → RefersToLive s m → IsLive s v
value-live s m r v h live = subst (λ (o : Option ℕ). IfSome o (IsLive s)) (sym h) (referred_value-AllValues (IsLive s) m r live)
