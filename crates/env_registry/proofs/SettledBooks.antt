-- The book where reactions are settled, and where one is due at once.
use Rattle.std.proofs.Common.{◌≡◌, ◌≢◌, ◌∙◌, ℕ, zero, suc, ◌+◌, ◌==◌, cond, List, [], ◌∷◌, ◌++◌, length, Result, Ok, Err, IfOk, OnErr, refl, ap, sym, subst, arith}
use Rattle.napi_types.specs.parts.Attachments.{Attachments}
use Rattle.napi_types.specs.parts.Book.{Book, Registration, Registered, Due, made_due, moved, moved_at, changed_from, new_ticket, with_registration}
use Rattle.napi_types.specs.parts.Promises.{Promises, reactions_settled}
use Rattle.napi_types.specs.environment.PromiseCalls.{reaction_state}
use Rattle.napi_types.proofs.plain.Found.{apart-below, same-self}
use Rattle.finalizer_queue.specs.KeptBook.{KeptBook}
use Rattle.env_registry.specs.KeptRegistry.{IsKeptRegistry}
use Rattle.env_registry.proofs.Keeping.{kept-settled}

-- the book after a deferred was settled, or refused
pub kept-either : {T E : Type 0} (a : Attachments) (p q : Promises) (old new : KeptBook) (state : ℕ) (tickets : T → List ℕ) (r : Result T E)
    → IfOk r (λ v. new.book ≡ reactions_settled state (tickets v) old.book) → OnErr r ((q ≡ p) × (new ≡ old)) → IsKeptRegistry a old.book → IsKeptRegistry a new.book
kept-either a p q old new state tickets (Ok v) due err k = subst (IsKeptRegistry a) (sym due) (kept-settled a old.book state (tickets v) k)
kept-either a p q old new state tickets (Err e) due err k = subst (λ (b : KeptBook). IsKeptRegistry a b.book) (sym err.1) k

-- A REACTION THAT IS DUE AT ONCE
-- the last registration is changed
at-end : (f : Registration → Registration) (k n : ℕ) (xs : Book) (r : Registration) → n ≡ k + length xs
    → changed_from k f (λ m. m == n) (xs ++ r ∷ []) ≡ xs ++ f r ∷ []
at-end f k n [] r is = ap (λ b. cond b (f r) r ∷ []) (ap (λ m. k == m) (is ∙ last k) ∙ same-self k)
  where
    last : (k : ℕ) → k + 0 ≡ k
    last k = omega arith
at-end f k n (x ∷ xs) r is =
    ap (λ b. cond b (f x) x ∷ changed_from (suc k) f (λ m. m == n) (xs ++ r ∷ [])) (apart-below k n (omega (arith, is)))
    ∙ ap (λ rs. x ∷ rs) (at-end f (suc k) n xs r (is ∙ next k (length xs)))
  where
    next : (k l : ℕ) → k + suc l ≡ suc k + l
    next k l = omega arith

pushed-due : (book : Book) (r : Registration) → moved_at made_due (new_ticket book) (with_registration r book) ≡ with_registration (moved made_due r) book
pushed-due book r = at-end (moved made_due) 1 (new_ticket book) book r (omega arith)

settled-state : (state : ℕ) → state ≢ 0 → reaction_state state ≡ Due
settled-state zero settled = absurd (settled refl)
settled-state (suc n) settled = refl

pub registered-due : (book now new : Book) (r : Registration) (state ticket : ℕ) → r.state ≡ Registered → state ≢ 0
    → ticket ≡ length book + 1 → now ≡ book ++ r ∷ [] → new ≡ moved_at made_due ticket now → new ≡ with_registration (record r { state = reaction_state state }) book
registered-due book now new r state ticket registered settled given noted due =
    due ∙ ap (moved_at made_due ticket) noted ∙ ap (λ n. moved_at made_due n (book ++ r ∷ [])) given ∙ pushed-due book r
    ∙ ap (λ s. with_registration (record r { state = s }) book) (ap made_due registered ∙ sym (settled-state state settled))
