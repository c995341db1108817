-- How far a thread or a worker is along a history that grows at its end.
use Rattle.std.proofs.Common.{◌≡◌, ◌∙◌, ℕ, suc, ◌+◌, Bool, true, false, cond, List, [], ◌∷◌, ◌++◌, length, refl, ap, sym, subst, arith, Option, Some, None}
use Rattle.std.proofs.lemmas.List.Elements.{All-head, All-tail}
use Rattle.std.specs.List.{All}
use Rattle.napi_types.specs.declared.call.Call.{Call}
use Rattle.napi_types.specs.declared.entry.Entry.{Entry}
use Rattle.napi_types.specs.plain.Lists.{singleton}
use Rattle.napi_types.specs.plain.Room.{one_if}
use Rattle.napi_types.specs.hub.Actors.{is_thread, IsNextOfThread, left_after, KeepsScriptFrom, left_along, is_worker, WorkerState, Free, worker_after, does_next, worker_along}
use Rattle.napi_types.specs.hub.ActorLaws.{entries_of_thread, ThreadsGoOn, ThreadsStandAsOthersGoOn, WorkersGoOn, WorkersStandAsOthersGoOn}
use Rattle.napi_types.specs.hub.HistoryRoom.{history_room}
use Rattle.napi_types.specs.hub.Hub.{Hub, new_hub}
use Rattle.napi_types.specs.hub.HubSteps.{hub_step, hub_along}
use Rattle.napi_types.proofs.plain.Tallies.{none-more, tally-cons, tally-append, tally-one}

-- A THREAD'S NEXT ENTRY
next-left : (t : ℕ) (left : Option (List Call)) (xs : List Entry) (x : Entry)
    → left_along t left (xs ++ singleton x) ≡ cond (is_thread t x.actor) (left_after (left_along t left xs) x.what) (left_along t left xs)
next-left t left [] x = refl
next-left t left (y ∷ ys) x = next-left t (cond (is_thread t y.actor) (left_after left y.what) left) ys x

-- the entries of a list's head and its tail
counted : (b : Bool) (made n : ℕ) → cond b (made + 1) made + n ≡ made + (one_if b + n)
counted true made n = omega arith
counted false made n = omega arith

-- the entry is the thread's next one, in a history of n entries that led to this hub
abbrev NextAt : ℕ → Hub → ℕ → ℕ → Option (List Call) → Entry → Type 0
NextAt limit h n made left x = IsNextOfThread (history_room h n limit) made left x x.what

-- whatever the numbers are written as
next-at : (limit : ℕ) (h : Hub) (n m made count : ℕ) (left here : Option (List Call)) (x : Entry) → n ≡ m → made ≡ count → left ≡ here
    → NextAt limit h n made left x → NextAt limit h m count here x
next-at limit h n m made count left here x length_is made_is left_is next =
    subst (λ k. NextAt limit h k count here x) length_is
    (subst (λ k. NextAt limit h n k here x) made_is (subst (λ o. NextAt limit h n made o x) left_is next))

no-more : (k : ℕ) → k + 0 ≡ k
no-more k = omega arith

behind : (n k : ℕ) → n + suc k ≡ n + 1 + k
behind n k = omega arith

-- the calls that are left, and how many entries were made, behind an entry
abbrev left_behind : ℕ → Option (List Call) → Entry → Option (List Call)
left_behind t left y = cond (is_thread t y.actor) (left_after left y.what) left

abbrev made_behind : ℕ → ℕ → Entry → ℕ
made_behind t made y = cond (is_thread t y.actor) (made + 1) made

next-keeps : (limit t : ℕ) (h : Hub) (n made : ℕ) (left : Option (List Call)) (xs : List Entry) (x : Entry) → KeepsScriptFrom limit t h n made left xs
    → (is_thread t x.actor ≡ true → NextAt limit (hub_along h xs) (n + length xs) (made + entries_of_thread t xs) (left_along t left xs) x)
    → KeepsScriptFrom limit t h n made left (xs ++ singleton x)
next-keeps limit t h n made left [] x keeps next =
    (λ its. next-at limit h (n + 0) n (made + 0) made left left x (no-more n) (no-more made) refl (next its), tt)
next-keeps limit t h n made left (y ∷ ys) x keeps next = (
  keeps.0,
  next-keeps limit t (hub_step h y).after (n + 1) (made_behind t made y) (left_behind t left y) ys x keeps.1 (λ its.
      next-at limit (hub_along (hub_step h y).after ys) (n + suc (length ys)) (n + 1 + length ys) (made + entries_of_thread t (y ∷ ys))
      (made_behind t made y + entries_of_thread t ys) (left_along t (left_behind t left y) ys) (left_along t (left_behind t left y) ys) x
      (behind n (length ys)) made_is refl (next its)),
)
  where
    made_is : made + entries_of_thread t (y ∷ ys) ≡ made_behind t made y + entries_of_thread t ys
    made_is = ap (λ k. made + k) (tally-cons (λ (z : Entry). is_thread t z.actor) y ys) ∙ sym (counted (is_thread t y.actor) made (entries_of_thread t ys))

pub threads-go-on : ThreadsGoOn
threads-go-on limit threads workers t made calls left history x k its next = record {
  keeps = next-keeps limit t (new_hub threads workers) 0 0 (Some calls) history x k.keeps (λ its.
      next-at limit (hub_along (new_hub threads workers) history) (length history) (0 + length history) made (0 + entries_of_thread t history) left
      (left_along t (Some calls) history) x (sym (none-more (length history))) (sym (none-more (entries_of_thread t history) ∙ k.made_is)) (sym k.left_is) next);
  made_is = tally-append (λ (z : Entry). is_thread t z.actor) history (singleton x) ∙ ap (λ n. n + entries_of_thread t (singleton x)) k.made_is
      ∙ ap (λ n. made + n) (tally-one (λ (z : Entry). is_thread t z.actor) x ∙ ap one_if its);
  left_is = next-left t (Some calls) history x ∙ ap (λ b. cond b (left_after before x.what) before) its ∙ ap (λ o. left_after o x.what) k.left_is;
}
  where
    before : Option (List Call)
    before = left_along t (Some calls) history

-- ENTRIES OF OTHERS THAN THE THREAD
abbrev pub AreOthers : ℕ → List Entry → Type 0
AreOthers t xs = All (λ x. is_thread t x.actor ≡ false) xs

others-head : (t : ℕ) (x : Entry) (xs : List Entry) → AreOthers t (x ∷ xs) → is_thread t x.actor ≡ false
others-head t x xs others = All-head (λ (y : Entry). is_thread t y.actor ≡ false) x xs others

others-tail : (t : ℕ) (x : Entry) (xs : List Entry) → AreOthers t (x ∷ xs) → AreOthers t xs
others-tail t x xs others = All-tail (λ (y : Entry). is_thread t y.actor ≡ false) x xs others

others-keep : (limit t : ℕ) (h : Hub) (n made : ℕ) (left : Option (List Call)) (xs : List Entry) → AreOthers t xs → KeepsScriptFrom limit t h n made left xs
others-keep limit t h n made left [] others = tt
others-keep limit t h n made left (x ∷ xs) others = (
  λ its. absurd (no (sym (others-head t x xs others) ∙ its)),
  others-keep limit t (hub_step h x).after (n + 1) (made_behind t made x) (left_behind t left x) xs
      (others-tail t x xs others),
)
  where
    no : false ≡ true → ⊥
    no h = cc

pub more-keep : (limit t : ℕ) (h : Hub) (n made : ℕ) (left : Option (List Call)) (xs rest : List Entry) → AreOthers t rest
    → KeepsScriptFrom limit t h n made left xs → KeepsScriptFrom limit t h n made left (xs ++ rest)
more-keep limit t h n made left [] rest others keeps = others-keep limit t h n made left rest others
more-keep limit t h n made left (x ∷ xs) rest others keeps =
    (keeps.0, more-keep limit t (hub_step h x).after (n + 1) (made_behind t made x) (left_behind t left x) xs rest others keeps.1)

others-none : (t : ℕ) (rest : List Entry) → AreOthers t rest → entries_of_thread t rest ≡ 0
others-none t [] others = refl
others-none t (x ∷ xs) others =
    tally-cons (λ (z : Entry). is_thread t z.actor) x xs ∙ ap (λ b. one_if b + entries_of_thread t xs) (others-head t x xs others)
    ∙ none-more (entries_of_thread t xs) ∙ others-none t xs (others-tail t x xs others)

others-left : (t : ℕ) (left : Option (List Call)) (rest : List Entry) → AreOthers t rest → left_along t left rest ≡ left
others-left t left [] others = refl
others-left t left (x ∷ xs) others =
    ap (λ b. left_along t (cond b (left_after left x.what) left) xs) (others-head t x xs others) ∙ others-left t left xs (others-tail t x xs others)

more-left : (t : ℕ) (left : Option (List Call)) (xs rest : List Entry) → AreOthers t rest → left_along t left (xs ++ rest) ≡ left_along t left xs
more-left t left [] rest others = others-left t left rest others
more-left t left (x ∷ xs) rest others = more-left t (left_behind t left x) xs rest others

pub threads-stand : ThreadsStandAsOthersGoOn
threads-stand limit threads workers t made calls left history rest k others = record {
  keeps = more-keep limit t (new_hub threads workers) 0 0 (Some calls) history rest others k.keeps;
  made_is = tally-append (λ (z : Entry). is_thread t z.actor) history rest ∙ ap (λ n. entries_of_thread t history + n) (others-none t rest others)
      ∙ no-more (entries_of_thread t history) ∙ k.made_is;
  left_is = more-left t (Some calls) history rest others ∙ k.left_is;
}

-- WORKERS
next-along : (w : ℕ) (s : Option WorkerState) (xs : List Entry) (x : Entry) → worker_along w s (xs ++ singleton x) ≡ does_next w x (worker_along w s xs)
next-along w s [] x = refl
next-along w s (y ∷ ys) x = next-along w (does_next w y s) ys x

pub workers-go-on : WorkersGoOn
workers-go-on w s history x stands its =
    next-along w (Some Free) history x ∙ ap (does_next w x) stands ∙ ap (λ b. cond b (worker_after s x.what) (Some s)) its

rests : (w : ℕ) (s : Option WorkerState) (x : Entry) → is_worker w x.actor ≡ false → does_next w x s ≡ s
rests w None x other = refl
rests w (Some s) x other = ap (λ b. cond b (worker_after s x.what) (Some s)) other

more-along : (w : ℕ) (s : Option WorkerState) (xs rest : List Entry) → All (λ x. is_worker w x.actor ≡ false) rest
    → worker_along w s (xs ++ rest) ≡ worker_along w s xs
more-along w s [] [] others = refl
more-along w s [] (x ∷ xs) others =
    ap (λ o. worker_along w o xs) (rests w s x (All-head (λ (y : Entry). is_worker w y.actor ≡ false) x xs others))
    ∙ more-along w s [] xs (All-tail (λ (y : Entry). is_worker w y.actor ≡ false) x xs others)
more-along w s (x ∷ xs) rest others = more-along w (does_next w x s) xs rest others

pub workers-stand : WorkersStandAsOthersGoOn
workers-stand w history rest others = more-along w (Some Free) history rest others
