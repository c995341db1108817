-- Promises and deferreds (the manual's `napi_create_promise`): a finite map from promises to their state and their reactions, and one from the deferreds that
-- are not settled to their promises. A reaction is known by its ticket.
use Rattle.std.specs.Prelude.{ℕ, ◌==◌, Bool, not, cond, List, [], ◌∷◌, ◌++◌, map, filter, find, Option, option_map}
use Rattle.std.specs.Option.{unwrap_or}
use Rattle.napi_types.specs.parts.Book.{Book, Registration, is_registered, made_due, moved, with_hint, changed_where}
use Rattle.napi_types.specs.plain.Lists.{found, has_number, is_empty, with_record, with_number}

-- a promise: its state, which is 0 while it is pending, 1 resolved and 2 rejected, and the tickets of its reactions that have not ended, in the order of adding
pub record Promise : Type 0 where
  pub value : ℕ
  pub state : ℕ
  pub reactions : List ℕ

-- a deferred that is not settled, and its promise
pub record Deferred : Type 0 where
  pub number : ℕ
  pub promise : ℕ

-- the promises by their values, the deferreds by their numbers, and the numbers that were issued
pub record Promises : Type 0 where
  pub promises : List Promise
  pub deferreds : List Deferred
  pub issued : List ℕ

-- before the first is made
abbrev pub no_promises : Promises
no_promises = record { promises = []; deferreds = []; issued = [] }

-- READ
-- the promise that a value is, where it is one
abbrev pub promise_at : Promises → ℕ → Option Promise
promise_at p v = found (λ r. r.value) v p.promises

-- its state
abbrev pub promise_state : Promises → ℕ → Option ℕ
promise_state p v = option_map (λ r. r.state) (promise_at p v)

-- the state that a reaction is given which is added now; a value that is no promise is refused before it is read so
abbrev pub state_now : Promises → ℕ → ℕ
state_now p v = unwrap_or (promise_state p v) 0

-- the tickets of its reactions; a value that is no promise has none
abbrev pub reactions_of : Promises → ℕ → List ℕ
reactions_of p v = unwrap_or (option_map (λ r. r.reactions) (promise_at p v)) []

-- a ticket is that of a reaction of this promise that has not ended
abbrev pub is_reaction_of : Promises → ℕ → ℕ → Bool
is_reaction_of p v ticket = has_number ticket (reactions_of p v)

-- the promise of a reaction that has not ended
abbrev pub reaction_promise : Promises → ℕ → Option ℕ
reaction_promise p ticket = option_map (λ r. r.value) (find (λ r. has_number ticket r.reactions) p.promises)

-- the promise of a deferred that is not settled
abbrev pub deferred_promise : Promises → ℕ → Option ℕ
deferred_promise p n = option_map (λ d. d.promise) (found (λ d. d.number) n p.deferreds)

-- the promises that a collection keeps: those whose deferred is not settled, and those with a reaction that has not ended
abbrev pub promise_roots : Promises → List ℕ
promise_roots p = map (λ d. d.promise) p.deferreds ++ map (λ r. r.value) (filter (λ r. not (is_empty r.reactions)) p.promises)

-- CHANGED
-- a value becomes a promise that is pending, with this deferred; what it was before is gone
abbrev pub with_promise : ℕ → ℕ → Promises → Promises
with_promise v n p = record {
  promises = with_record (λ r. r.value) (record { value = v; state = 0; reactions = [] }) p.promises;
  deferreds = with_record (λ d. d.number) (record { number = n; promise = v }) (filter (λ d. not (d.promise == v)) p.deferreds);
  issued = with_number n p.issued;
}

-- the promise of a value is changed
abbrev pub promise_changed : (Promise → Promise) → ℕ → List Promise → List Promise
promise_changed change v promises = map (λ (r : Promise). cond (r.value == v) (change r) r) promises

-- a deferred is settled: its promise has the new state
abbrev pub with_settled : ℕ → ℕ → ℕ → Promises → Promises
with_settled n v state p = record p {
  promises = promise_changed (λ r. record r { state = state }) v p.promises;
  deferreds = filter (λ d. not (d.number == n)) p.deferreds;
}

-- a promise has one reaction more, behind the others
abbrev pub with_reaction : ℕ → ℕ → Promises → Promises
with_reaction v ticket p = record p { promises = promise_changed (λ r. record r { reactions = r.reactions ++ ticket ∷ [] }) v p.promises }

-- a reaction has ended, and its promise no longer has it
abbrev pub without_reaction : ℕ → Promises → Promises
without_reaction ticket p = record p { promises = map (λ (r : Promise). record r { reactions = filter (λ m. not (m == ticket)) r.reactions }) p.promises }

-- a value is gone, and with it what it was as a promise, with its reactions and its deferred
abbrev pub without_promise : ℕ → Promises → Promises
without_promise v p = record p { promises = filter (λ r. not (r.value == v)) p.promises; deferreds = filter (λ d. not (d.promise == v)) p.deferreds }

-- the values that pass the test are gone, and with each what it was as a promise
abbrev pub promises_left : (ℕ → Bool) → Promises → Promises
promises_left gone p = record p { promises = filter (λ r. not (gone r.value)) p.promises; deferreds = filter (λ d. not (gone d.promise)) p.deferreds }

-- IN THE BOOK
-- a reaction that is registered where its promise is settled is given the new state as its hint, and then falls due
abbrev pub made_settled : ℕ → Registration → Registration
made_settled state r = cond (is_registered r.state) (moved made_due (with_hint state r)) r

-- and so is each of these
abbrev pub reactions_settled : ℕ → List ℕ → Book → Book
reactions_settled state tickets book = changed_where (made_settled state) (λ n. has_number n tickets) book
