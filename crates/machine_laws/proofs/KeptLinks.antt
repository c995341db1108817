-- The links of values, as values are made, changed and collected: none but that of a promise that is settled changes.
use Rattle.std.proofs.Common.{◌≡◌, ◌∙◌, ◌<◌, ℕ, ◌==◌, ◌||◌, Bool, true, false, cond, List, [], ◌∷◌, ◌++◌, refl, ap, sym, Option, Some, None, option_map}
use Rattle.std.specs.List.{All}
use Rattle.std.specs.Option.{option_and_then}
use Rattle.std.proofs.lemmas.List.Elements.{All-head, All-tail}
use Rattle.napi_types.specs.declared.call.Call.{Call}
use Rattle.napi_types.specs.declared.call.Call.TheVariants as call
use Rattle.napi_types.specs.declared.ids.TextNo.{TextNo}
use Rattle.napi_types.specs.plain.Lists.{has_number}
use Rattle.napi_types.specs.parts.Heap.{Heap}
use Rattle.napi_types.specs.parts.HeapCalls.{addon_effect}
use Rattle.napi_types.specs.parts.HeapChanges.{with_thrown}
use Rattle.napi_types.specs.parts.Reach.{numbers}
use Rattle.napi_types.specs.parts.Values.{Value, value_at, value_changed, linked_value, link_of, with_link, those_of}
use Rattle.napi_types.proofs.plain.Found.{apart-below, found-changed, found-filter, found-number, same-self, same-tells}
use Rattle.machine_laws.specs.Consistency.{IsLiveAmong}

-- what was live has the link that it had
abbrev pub KeepsLinks : List Value → List Value → Type 0
KeepsLinks old new = (n : ℕ) → IsLiveAmong old n → link_of new n ≡ link_of old n

-- what was live and had a link has it
abbrev pub HasLinksOf : List Value → List Value → Type 0
HasLinksOf old new = (n m : ℕ) → IsLiveAmong old n → link_of old n ≡ Some m → link_of new n ≡ Some m

pub links-kept : (old new : List Value) → KeepsLinks old new → HasLinksOf old new
links-kept old new keeps n m live is = keeps n live ∙ is

abbrev value_number : Value → ℕ
value_number v = v.number

abbrev value_link : Value → Option ℕ
value_link v = v.link

-- VALUES THAT ARE MADE
pub links-more : (vs ws : List Value) → KeepsLinks vs (vs ++ ws)
links-more [] ws n live = cc
links-more (v ∷ vs) ws n live = by (v.number == n) refl live (links-more vs ws n)
  where
    by : (b : Bool) → (v.number == n) ≡ b → b || has_number n (numbers vs) ≡ true → (IsLiveAmong vs n → link_of (vs ++ ws) n ≡ link_of vs n)
        → link_of (v ∷ vs ++ ws) n ≡ link_of (v ∷ vs) n
    by true same there later = rw same refl
    by false other there later = rw other (later there)

-- a new linked value has the one that it is made with
pub link-new : (n tag : ℕ) (to : Option ℕ) (vs : List Value) → All (λ k. k < n) (numbers vs) → link_of (vs ++ linked_value n tag to ∷ []) n ≡ to
link-new n tag to [] below = rw (same-self n) refl
link-new n tag to (v ∷ vs) below =
    rw (apart-below v.number n (All-head (λ k. k < n) v.number (numbers vs) below)) (link-new n tag to vs (All-tail (λ k. k < n) v.number (numbers vs) below))

-- VALUES THAT ARE CHANGED
-- one value keeps its number and its link
links-changed : (k : ℕ) (change : Value → Value) (vs : List Value) → ((v : Value) → (change v).number ≡ v.number) → ((v : Value) → (change v).link ≡ v.link)
    → KeepsLinks vs (value_changed k change vs)
links-changed k change vs number link n live =
    ap (option_and_then value_link) (found-changed value_number _ (λ v. numbered v (v.number == k)) n vs) ∙ by (value_at vs n)
  where
    numbered : (v : Value) (b : Bool) → (cond b (change v) v).number ≡ v.number
    numbered v true = number v
    numbered v false = refl

    linked : (v : Value) (b : Bool) → (cond b (change v) v).link ≡ v.link
    linked v true = link v
    linked v false = refl

    by : (o : Option Value) → option_and_then value_link (option_map (λ v. cond (v.number == k) (change v) v) o) ≡ option_and_then value_link o
    by None = refl
    by (Some v) = linked v (v.number == k)

-- a value gets another link: it has that, ..
module _ (k to : ℕ) where
  abbrev relinked : Value → Value
  relinked v = cond (v.number == k) (with_link to v) v

  relinked-number : (v : Value) (b : Bool) → (cond b (with_link to v) v).number ≡ v.number
  relinked-number v true = refl
  relinked-number v false = refl

  relinked-at : (n : ℕ) (vs : List Value) → value_at (value_changed k (with_link to) vs) n ≡ option_map relinked (value_at vs n)
  relinked-at n vs = found-changed value_number _ (λ v. relinked-number v (v.number == k)) n vs

  pub link-set : (vs : List Value) → IsLiveAmong vs k → link_of (value_changed k (with_link to) vs) k ≡ Some to
  link-set vs live = ap (option_and_then value_link) (relinked-at k vs) ∙ by vs live
    where
      by : (ws : List Value) → IsLiveAmong ws k → option_and_then value_link (option_map relinked (value_at ws k)) ≡ Some to
      by [] there = cc
      by (v ∷ ws) there = here (v.number == k) refl there (by ws)
        where
          here : (b : Bool) → (v.number == k) ≡ b → b || has_number k (numbers ws) ≡ true
              → (IsLiveAmong ws k → option_and_then value_link (option_map relinked (value_at ws k)) ≡ Some to)
              → option_and_then value_link (option_map relinked (value_at (v ∷ ws) k)) ≡ Some to
          here true same it later = rw (same, same) refl
          here false other it later = rw other (later it)

  -- .. and no other does
  pub link-other : (n : ℕ) (vs : List Value) → (n == k) ≡ false → link_of (value_changed k (with_link to) vs) n ≡ link_of vs n
  link-other n vs other = ap (option_and_then value_link) (relinked-at n vs) ∙ by (value_at vs n) refl
    where
      by : (o : Option Value) → value_at vs n ≡ o → option_and_then value_link (option_map relinked o) ≡ option_and_then value_link o
      by None is = refl
      by (Some v) is = ap (λ b. (cond b (with_link to v) v).link) (ap (λ m. m == k) (found-number value_number n vs v is) ∙ other)

-- a value that had none gets one: each that had one has it
pub linked-others : (k to : ℕ) (vs : List Value) → link_of vs k ≡ None → HasLinksOf vs (value_changed k (with_link to) vs)
linked-others k to vs none n m live is = by (n == k) refl
  where
    by : (b : Bool) → (n == k) ≡ b → link_of (value_changed k (with_link to) vs) n ≡ Some m
    by true same = let no : None ≡ Some m = sym none ∙ ap (link_of vs) (sym (same-tells n k same)) ∙ is in cc
    by false other = link-other k to n vs other ∙ is

-- VALUES THAT STAY
pub link-stays : (alive : List ℕ) (n : ℕ) (vs : List Value) → has_number n alive ≡ true → link_of (those_of alive vs) n ≡ link_of vs n
link-stays alive n vs stays =
    ap (option_and_then value_link) (found-filter value_number (λ m. has_number m alive) n vs ∙ ap (λ b. cond b (value_at vs n) None) stays)

-- CALLS
pub thrown-links : (heap : Heap) (code : Option TextNo) (message : TextNo) → KeepsLinks heap.values (with_thrown code message heap).values
thrown-links heap code message = links-more heap.values _

pub heap-links : (addon : ℕ) (heap : Heap) (c : Call) (k : ℕ) → KeepsLinks heap.values (addon_effect addon heap c k).after.values
heap-links addon heap (call.CreateFunction entry payload) k = links-more heap.values _
heap-links addon heap (call.CreateInt64 i) k = links-more heap.values _
heap-links addon heap (call.CreateBigintInt64 i) k = links-more heap.values _
heap-links addon heap (call.CreateStringUtf8 t) k = links-more heap.values _
heap-links addon heap (call.CreateSymbol d) k = links-more heap.values _
heap-links addon heap call.CreateObject k = links-more heap.values _
heap-links addon heap call.CreateArray k = links-more heap.values _
heap-links addon heap (call.CreateError code message) k = links-more heap.values _
heap-links addon heap (call.SetNamedProperty o name v) k = links-changed _ _ heap.values (λ x. refl) (λ x. refl)
heap-links addon heap (call.DeleteProperty o name) k = links-changed _ _ heap.values (λ x. refl) (λ x. refl)
heap-links addon heap (call.SetElement o at v) k = links-changed _ _ heap.values (λ x. refl) (λ x. refl)
heap-links addon heap (call.GetPropertyNames o) k = links-more heap.values _
heap-links addon heap c k = λ n live. refl
