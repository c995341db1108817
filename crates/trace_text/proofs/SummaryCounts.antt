-- Counts over two lists of entries, and over their weave.
use Rattle.std.proofs.Common.{◌≡◌, ℕ, suc, ◌+◌, ◌*◌, ◌<◌, ◌≤◌, ◌%◌, ◌/◌, ◌^◌, ◌==◌, Bool, true, false, cond, not, ◌&&◌, is_some, List, [], ◌∷◌, ◌++◌, length, get_or, take, map, refl, sym, ◌∙◌, ap, arith, length-take, lt_of_le_of_lt, le-leb, add-mul, div-add-mod', sum_by}
use Rattle.std.proofs.lemmas.List.{take_more, map-append, length-map}
use Rattle.std.proofs.lemmas.List.Elements.{filter-append}
use Rattle.std.proofs.lemmas.List.Sums.{sum_by-append, sum_by-cons, length-filter, count_by-le-length}
use Rattle.std.proofs.lemmas.Bool.Decides.{nat_tests}
use Rattle.std.proofs.Math.Nat.{add-mul-mod_self_right}
use Rattle.std.specs.List.{filter}
use Rattle.std.specs.Prelude.{nat_le}
use Rattle.napi_types.specs.declared.entry.Entry.{Entry}
use Rattle.napi_types.specs.declared.entry.Local.{Local}
use Rattle.napi_types.specs.plain.Numbers.{status_number}
use Rattle.napi_types.specs.plain.Room.{most_entries}
use Rattle.napi_types.specs.plain.Weave.{RisesBetween, put_at, weave, weave_from}
use Rattle.napi_types.specs.scripts.Summary.{is_call, is_start, is_begin_with, is_of_item, is_of_completion, is_of_finalizer, is_of_hook, is_item, is_work, accepted_payload}
use Rattle.napi_types.proofs.plain.Weaves.{bounds-rise}
use Rattle.trace_text.specs.SummaryCounts.{AreCountable, counts_of, placed, plus, counts_text}
use Rattle.trace_text.specs.SummaryLaws.{SummariesHaveNoOrder}

-- a remainder of a sum, from the remainders
mod-sum : (m a b : ℕ) → 0 < m → (a % m + b % m) % m ≡ (a + b) % m
mod-sum m a b some =
    let one = div-add-mod' a m in
    let two = div-add-mod' b m in
    let whole : a + b ≡ (a % m + b % m) + (a / m + b / m) * m = grind arith in
    sym (ap (λ n. n % m) whole ∙ add-mul-mod_self_right (a % m + b % m) (a / m + b / m) m)

-- the length of a list as a sum
length-sum : (xs : List Entry) → length xs ≡ sum_by (λ x. 1) xs
length-sum [] = refl
length-sum (x ∷ xs) = let rest = length-sum xs in let more = sum_by-cons (λ (y : Entry). 1) x xs in omega arith

-- entries whose sums are those of two lists, whatever is summed up, have the numbers of the two together
counts-add : (xs ys zs : List Entry) → ((f : Entry → ℕ) → sum_by f zs ≡ sum_by f xs + sum_by f ys) →
    counts_of zs ≡ plus (counts_of xs) (counts_of ys)
counts-add xs ys zs adds =
    let long : length zs ≡ length xs + length ys =
    length-sum zs ∙ adds (λ x. 1) ∙ sym (ap (λ n. n + sum_by (λ y. 1) ys) (length-sum xs)) ∙
    sym (ap (λ n. length xs + n) (length-sum ys)) in
    let payloads : sum_by accepted_payload zs % 2 ^ 64 ≡ (sum_by accepted_payload xs % 2 ^ 64 + sum_by accepted_payload ys % 2 ^ 64) % 2 ^ 64 =
    ap (λ n. n % 2 ^ 64) (adds accepted_payload) ∙ sym (mod-sum (2 ^ 64) (sum_by accepted_payload xs) (sum_by accepted_payload ys) (omega arith)) in
    rw (
      long,
      payloads,
      adds (λ x. cond (is_call x.what) 1 0),
      adds (λ x. cond (is_item x.reply.made) 1 0),
      adds (λ x. cond (is_begin_with is_of_item x.what x.reply.out) 1 0),
      adds (λ x. cond (is_work x.reply.made) 1 0),
      adds (λ x. cond (is_start x.what) 1 0),
      adds (λ x. cond (is_begin_with is_of_completion x.what x.reply.out) 1 0),
      adds (λ x. cond (is_begin_with is_of_finalizer x.what x.reply.out) 1 0),
      adds (λ x. cond (is_begin_with is_of_hook x.what x.reply.out) 1 0),
      adds (λ x. cond (is_some x.reply.dropped) 1 0),
      adds (λ x. cond (is_call x.what && not (status_number x.reply.status == 0)) 1 0),
    ) refl

-- those of two lists are those of the one and those of the other
pub counts_of-append : (xs ys : List Entry) → counts_of (xs ++ ys) ≡ plus (counts_of xs) (counts_of ys)
counts_of-append xs ys = counts-add xs ys (xs ++ ys) (λ f. sum_by-append f xs ys)

-- FEW
few : (xs : List Entry) → length xs < 2 ^ 63 → AreCountable (counts_of xs)
few xs short = record {
  entries = short;
  calls = lt_of_le_of_lt (count_by-le-length (λ x. is_call x.what) xs) short;
  accepted = lt_of_le_of_lt (count_by-le-length (λ x. is_item x.reply.made) xs) short;
  items = lt_of_le_of_lt (count_by-le-length (λ x. is_begin_with is_of_item x.what x.reply.out) xs) short;
  works = lt_of_le_of_lt (count_by-le-length (λ x. is_work x.reply.made) xs) short;
  started = lt_of_le_of_lt (count_by-le-length (λ x. is_start x.what) xs) short;
  completions = lt_of_le_of_lt (count_by-le-length (λ x. is_begin_with is_of_completion x.what x.reply.out) xs) short;
  finalizers = lt_of_le_of_lt (count_by-le-length (λ x. is_begin_with is_of_finalizer x.what x.reply.out) xs) short;
  hooks = lt_of_le_of_lt (count_by-le-length (λ x. is_begin_with is_of_hook x.what x.reply.out) xs) short;
  withdrawn = lt_of_le_of_lt (count_by-le-length (λ x. is_some x.reply.dropped) xs) short;
  refused = lt_of_le_of_lt (count_by-le-length (λ x. is_call x.what && not (status_number x.reply.status == 0)) xs) short;
}

-- one entry
pub few-one : (x : Entry) → AreCountable (counts_of (x ∷ []))
few-one x = few (x ∷ []) (omega arith)

-- a prefix of a history
pub few-prefix : (xs : List Entry) (i : ℕ) → length xs ≤ most_entries → AreCountable (counts_of (take i xs))
few-prefix xs i short = few (take i xs) (omega (arith, length-take i xs))

-- no more entries of a journal stand in a weave than it has
placed-le : (last : ℕ) (journal : List Local) → length (placed last journal) ≤ length journal
placed-le last journal =
    let test : Local → Bool = λ l. nat_le l.at last in
    let all : length (placed last journal) ≡ length (filter test journal) = length-map (filter test journal) (λ (l : Local). l.entry) in
    omega (arith, length-filter test journal, count_by-le-length test journal)

-- those of a prefix of a journal
pub few-placed : (last i : ℕ) (journal : List Local) → length journal ≤ most_entries → AreCountable (counts_of (placed last (take i journal)))
few-placed last i journal short = few (placed last (take i journal)) (omega (arith, placed-le last (take i journal), length-take i journal))

pub few-placed-one : (last : ℕ) (local : Local) → AreCountable (counts_of (placed last (local ∷ [])))
few-placed-one last local = few (placed last (local ∷ [])) (omega (arith, placed-le last (local ∷ [])))

pub few-placed-all : (last : ℕ) (journal : List Local) → length journal ≤ most_entries → AreCountable (counts_of (placed last journal))
few-placed-all last journal short = few (placed last journal) (omega (arith, placed-le last journal))

pub few-all : (xs : List Entry) → length xs ≤ most_entries → AreCountable (counts_of xs)
few-all xs short = few xs (omega arith)

-- ONE MORE
-- one entry of a history
pub history-more : (xs : List Entry) (i : ℕ) (d : Entry) → i < length xs →
    counts_of (take (i + 1) xs) ≡ plus (counts_of (take i xs)) (counts_of (get_or xs i d ∷ []))
history-more xs i d within = ap counts_of (take_more xs i d within) ∙ counts_of-append (take i xs) (get_or xs i d ∷ [])

placed-append : (last : ℕ) (xs ys : List Local) → placed last (xs ++ ys) ≡ placed last xs ++ placed last ys
placed-append last xs ys =
    ap (map (λ (l : Local). l.entry)) (filter-append (λ (l : Local). nat_le l.at last) xs ys) ∙
    map-append (λ (l : Local). l.entry) (filter (λ (l : Local). nat_le l.at last) xs) (filter (λ (l : Local). nat_le l.at last) ys)

-- one entry of a journal
pub journal-more : (journal : List Local) (last : ℕ) (i : ℕ) (d : Local) → i < length journal →
    counts_of (placed last (take (i + 1) journal)) ≡
    plus (counts_of (placed last (take i journal))) (counts_of (placed last (get_or journal i d ∷ [])))
journal-more journal last i d within =
    ap (λ js. counts_of (placed last js)) (take_more journal i d within) ∙
    ap counts_of (placed-append last (take i journal) (get_or journal i d ∷ [])) ∙
    counts_of-append (placed last (take i journal)) (placed last (get_or journal i d ∷ []))

-- THE WEAVE
module _ (f : Entry → ℕ) where
  -- the sum over the entries of a journal that pass a test
  abbrev passed : (Local → Bool) → List Local → ℕ
  passed test journal = sum_by f (map (λ (l : Local). l.entry) (filter test journal))

  -- one entry more in front of those that passed, or none
  added-passed : (a : Bool) (x : Local) (xs : List Local) →
      sum_by f (map (λ (l : Local). l.entry) (cond a (x ∷ xs) xs)) ≡ cond a 1 0 * f x.entry + sum_by f (map (λ (l : Local). l.entry) xs)
  added-passed true x xs = sum_by-cons f x.entry (map (λ (l : Local). l.entry) xs) ∙ omega arith
  added-passed false x xs = omega arith

  -- a test that is passed where one of two is, which are never passed together
  passed-two : (a b c : Local → Bool) → ((l : Local) → cond (c l) 1 0 ≡ cond (a l) 1 0 + cond (b l) 1 0) → (journal : List Local) →
      passed c journal ≡ passed a journal + passed b journal
  passed-two a b c apart [] = refl
  passed-two a b c apart (x ∷ xs) =
      let rest = passed-two a b c apart xs in
      let one = added-passed (a x) x (filter a xs) in
      let two = added-passed (b x) x (filter b xs) in
      let three = added-passed (c x) x (filter c xs) in
      let times : cond (c x) 1 0 * f x.entry ≡ cond (a x) 1 0 * f x.entry + cond (b x) 1 0 * f x.entry =
      ap (λ n. n * f x.entry) (apart x) ∙ add-mul (cond (a x) 1 0) (cond (b x) 1 0) (f x.entry) in
      omega (arith, one, two, three, times, rest)

  -- a test that is never passed
  passed-none : (journal : List Local) → passed (λ l. false) journal ≡ 0
  passed-none [] = refl
  passed-none (x ∷ xs) = passed-none xs

  -- a place between two, as a test
  abbrev within : ℕ → ℕ → Local → Bool
  within first last l = nat_le first l.at && nat_le l.at last

  at-one : (p a : ℕ) → cond (nat_le p a && nat_le a (p + 0)) 1 0 ≡ cond (a == p) 1 0 + 0
  at-one p a = grind (arith, nat_tests)

  at-more : (p n a : ℕ) → cond (nat_le p a && nat_le a (p + suc n)) 1 0 ≡ cond (a == p) 1 0 + cond (nat_le (p + 1) a && nat_le a (p + 1 + n)) 1 0
  at-more p n a = grind (arith, nat_tests)

  -- the sum over a weave is that over the entries of the journal that stand in it, and that over the history
  weave-sum : (p : ℕ) (journal : List Local) (history : List Entry) →
      sum_by f (weave_from p journal history) ≡ passed (within p (p + length history)) journal + sum_by f history
  weave-sum p journal [] =
      let split = passed-two (λ l. l.at == p) (λ l. false) (within p (p + 0)) (λ l. at-one p l.at) journal in
      omega (arith, split, passed-none journal)
  weave-sum p journal (x ∷ xs) =
      let split = passed-two (λ l. l.at == p) (within (p + 1) (p + 1 + length xs)) (within p (p + suc (length xs))) (λ l. at-more p (length xs) l.at) journal in
      let later = weave_from (p + 1) journal xs in
      let parts = sum_by-append f (put_at (λ l. l.entry) p journal) (x ∷ later) in
      let one = sum_by-cons f x later in
      let two = sum_by-cons f x xs in
      omega (arith, split, parts, one, two, weave-sum (p + 1) journal xs)

  at-start : (n a : ℕ) → cond (nat_le 0 a && nat_le a (0 + n)) 1 0 ≡ cond (nat_le a n) 1 0 + 0
  at-start n a = grind (arith, nat_tests)

  whole-sum : (journal : List Local) (history : List Entry) →
      sum_by f (weave journal history) ≡ sum_by f (placed (length history) journal) + sum_by f history
  whole-sum journal history =
      let n = length history in
      let split = passed-two (λ l. nat_le l.at n) (λ l. false) (within 0 (0 + n)) (λ l. at-start n l.at) journal in
      omega (arith, split, passed-none journal, weave-sum 0 journal history)

-- the numbers of a weave are those of the entries of the journal that stand in it, and those of the history
pub counts_of-weave : (journal : List Local) (history : List Entry) →
    counts_of (weave journal history) ≡ plus (counts_of (placed (length history) journal)) (counts_of history)
counts_of-weave journal history = counts-add (placed (length history) journal) history (weave journal history) (λ f. whole-sum f journal history)

-- THE ORDER
-- entries with the same sums have the same numbers
counts-same : (xs ys : List Entry) → ((f : Entry → ℕ) → sum_by f xs ≡ sum_by f ys) → counts_of xs ≡ counts_of ys
counts-same xs ys same =
    counts-add [] ys xs (λ f. same f ∙ omega arith) ∙ sym (counts-add [] ys ys (λ f. let e : sum_by f ys ≡ 0 + sum_by f ys = omega arith in e))

-- neighbours that change places
neighbours-sum : (f : Entry → ℕ) (xs ys : List Entry) (x y : Entry) → sum_by f (xs ++ x ∷ y ∷ ys) ≡ sum_by f (xs ++ y ∷ x ∷ ys)
neighbours-sum f xs ys x y =
    omega (
      arith,
      sum_by-append f xs (x ∷ y ∷ ys),
      sum_by-append f xs (y ∷ x ∷ ys),
      sum_by-cons f x (y ∷ ys),
      sum_by-cons f y ys,
      sum_by-cons f y (x ∷ ys),
      sum_by-cons f x ys,
    )

-- every entry of a journal that rises to the end of the history stands in the weave
placed-whole : (least last : ℕ) (journal : List Local) → RisesBetween least last journal →
    placed last journal ≡ map (λ (l : Local). l.entry) journal
placed-whole least last [] rises = refl
placed-whole least last (x ∷ xs) rises =
    let bound = bounds-rise x.at last xs rises.1 in
    ap (λ b. map (λ (l : Local). l.entry) (cond b (x ∷ filter (λ l. nat_le l.at last) xs) (filter (λ l. nat_le l.at last) xs))) (le-leb x.at last bound) ∙
    ap (λ rest. x.entry ∷ rest) (placed-whole x.at last xs rises.1)

pub sums-of-lists : (journal : List Local) (history : List Entry) → RisesBetween 0 (length history) journal →
    counts_of (weave journal history) ≡ plus (counts_of (map (λ (l : Local). l.entry) journal)) (counts_of history)
sums-of-lists journal history rises =
    counts_of-weave journal history ∙
    ap (λ xs. plus (counts_of xs) (counts_of history)) (placed-whole 0 (length history) journal rises)

pub no-order : SummariesHaveNoOrder
no-order = record {
  neighbours = λ xs ys x y. ap counts_text (counts-same (xs ++ x ∷ y ∷ ys) (xs ++ y ∷ x ∷ ys) (λ f. neighbours-sum f xs ys x y));
  lists = λ journal history rises. ap counts_text (sums-of-lists journal history rises ∙
      sym (counts_of-append (map (λ (l : Local). l.entry) journal) history));
  sums = sums-of-lists;
}
