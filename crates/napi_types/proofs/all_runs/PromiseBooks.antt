-- What the book and the values keep of reactions and of promises, where something else changes.
use Rattle.std.proofs.Common.{◌≡◌, ◌≢◌, ◌∙◌, ◌⊎◌, ◌≤◌, ◌<◌, ℕ, ◌+◌, ◌==◌, Bool, true, false, cond, List, [], ◌∷◌, ◌++◌, Option, Some, None, is_some, option_map, inl, inr, ⊎_elim, refl, ap, sym, arith}
use Rattle.std.specs.List.{All}
use Rattle.std.specs.Option.{option_and_then, option_or}
use Rattle.napi_types.specs.declared.entry.Cause.TheVariants as cause
use Rattle.napi_types.specs.declared.entry.Duty.{Duty}
use Rattle.napi_types.specs.plain.Lists.{found, has_number}
use Rattle.napi_types.specs.parts.Book.{Book, Registration, TicketState, Begun, is_owed, made_ended, changed_where, moved, moved_at, registration_at, with_registration, cause_at}
use Rattle.napi_types.specs.parts.Values.{Value, value_at, link_of, value_changed, with_link, those_of}
use Rattle.napi_types.proofs.plain.Found.{found-append, found-map, found-filter, found-number, found-All, apart-below, apart-above, same-self}
use Rattle.napi_types.proofs.parts.Books.{ended-keeps}
use Rattle.napi_types.proofs.parts.Moved.{IsUnder, BeginsFor, under, at-cause, registration_at-changed_where, registration_at-before, registration_at-either, KeepsCause, cause_at-changed_where}
use Rattle.napi_types.proofs.environment.FrameChanges.{book_left}
use Rattle.napi_types.proofs.environment.Registrations.{left-kept}

-- THE BOOK
-- what is under the ticket of a reaction is still there: it is owed as before, and is the same as long as it is
pub record StaysUnder (c : Book) (n : ℕ) (r : Registration) : Type 0 where
  pub registration : Registration
  pub there : registration_at c n ≡ Some registration
  pub cause : registration.cause ≡ cause.Reaction
  pub owed : is_owed registration.state ≡ is_owed r.state
  pub same : is_owed r.state ≡ true → registration ≡ r

-- so it is for each, and no other is one of a reaction
pub record SameReactions (b c : Book) : Type 0 where
  pub forth : (n : ℕ) (r : Registration) → registration_at b n ≡ Some r → r.cause ≡ cause.Reaction → StaysUnder c n r
  pub back : (n : ℕ) → cause_at c n ≡ Some cause.Reaction → cause_at b n ≡ Some cause.Reaction

pub same-reactions : (b : Book) → SameReactions b b
same-reactions b = record {
  forth = λ n r there why. record { registration = r; there = there; cause = why; owed = refl; same = λ is. refl };
  back = λ n is. is;
}

pub both-same : (b c d : Book) → SameReactions b c → SameReactions c d → SameReactions b d
both-same b c d first second = record {
  forth = λ n r there why.
      let s : StaysUnder c n r = first.forth n r there why in
      let t : StaysUnder d n s.registration = second.forth n s.registration s.there s.cause in
      record {
        registration = t.registration;
        there = t.there;
        cause = t.cause;
        owed = t.owed ∙ s.owed;
        same = λ is. t.same (s.owed ∙ is) ∙ s.same is;
      };
  back = λ n is. first.back n (second.back n is);
}

-- one registration more, of no reaction
pub push-same : (r : Registration) (b : Book) → r.cause ≢ cause.Reaction → SameReactions b (with_registration r b)
push-same r b other = record {
  forth = λ n q there why. record { registration = q; there = registration_at-before b r n q there; cause = why; owed = refl; same = λ is. refl };
  back = λ n is.
      let u : IsUnder (BeginsFor cause.Reaction) (with_registration r b) n = under (with_registration r b) n cause.Reaction is in
      ⊎_elim (λ old. at-cause b n u.registration old ∙ ap Some u.holds) (λ new. absurd (other (ap (λ (q : Registration). q.cause) new.1 ∙ u.holds)))
      (registration_at-either b r n u.registration u.there);
}

-- a change of registrations that keeps what is owed of reactions
pub changed-same : (change : Registration → Registration) → KeepsCause change → (test : ℕ → Bool) (b : Book)
    → ((n : ℕ) (r : Registration) → registration_at b n ≡ Some r → r.cause ≡ cause.Reaction → test n ≡ true
    → (is_owed (change r).state ≡ is_owed r.state) × (is_owed r.state ≡ true → change r ≡ r))
    → SameReactions b (changed_where change test b)
changed-same change keeps test b each = record { forth = forth; back = λ n is. sym (cause_at-changed_where change keeps test b n) ∙ is }
  where
    forth : (n : ℕ) (r : Registration) → registration_at b n ≡ Some r → r.cause ≡ cause.Reaction → StaysUnder (changed_where change test b) n r
    forth n r there why =
        by (test n) (each n r there why) (registration_at-changed_where change test b n ∙ ap (option_map (λ (q : Registration). cond (test n) (change q) q)) there)
      where
        by : (t : Bool) → (t ≡ true → (is_owed (change r).state ≡ is_owed r.state) × (is_owed r.state ≡ true → change r ≡ r))
            → registration_at (changed_where change test b) n ≡ Some (cond t (change r) r) → StaysUnder (changed_where change test b) n r
        by true its now =
            record { registration = change r; there = now; cause = keeps r ∙ why; owed = (its refl).0; same = (its refl).1 }
        by false its now = record { registration = r; there = now; cause = why; owed = refl; same = λ is. refl }

-- one of tickets that are of no reaction
pub others-same : (change : Registration → Registration) → KeepsCause change → (test : ℕ → Bool) (b : Book)
    → ((n : ℕ) → test n ≡ true → cause_at b n ≢ Some cause.Reaction) → SameReactions b (changed_where change test b)
others-same change keeps test b theirs =
    changed-same change keeps test b (λ n r there why is. absurd (theirs n is (at-cause b n r there ∙ ap Some why)))

-- a ticket ends
ended-same : (s : TicketState) → is_owed s ≡ true → made_ended s ≡ s
ended-same Begun is = cc
ended-same _ is = refl

pub end-same : (t : ℕ) (b : Book) → SameReactions b (moved_at made_ended t b)
end-same t b =
    changed-same (moved made_ended) (λ r. refl) (λ m. m == t) b
    (λ n r there why is. (ended-keeps r.state, λ owed. ap (λ s. record r { state = s }) (ended-same r.state owed)))

pub left-same : (c : _) (d : Option Duty) (b : Book) → SameReactions b (book_left c d b)
left-same c d b = left-kept (SameReactions b) b (λ t. end-same t b) c d (same-reactions b)

-- VALUES
-- a number is none of those that values newly got where so many were made before, and then so many
abbrev pub IsNotNew : ℕ → ℕ → ℕ → Type 0
IsNotNew m k n = (n ≤ m) ⊎ (k < n)

-- each value that is there stays, and has the link that it had; and of all others a new one alone may have one
pub record KeepsEachLink (m k : ℕ) (old new : List Value) : Type 0 where
  pub stays : (n : ℕ) → is_some (value_at old n) ≡ true → is_some (value_at new n) ≡ true
  pub links : (n : ℕ) → IsNotNew m k n → link_of new n ≡ link_of old n

pub same-links : {m k : ℕ} (vs : List Value) → KeepsEachLink m k vs vs
same-links vs = record { stays = λ n is. is; links = λ n old. refl }

-- new values have none
pub none-linked : (n : ℕ) (ws : List Value) → All (λ w. w.link ≡ None) ws → link_of ws n ≡ None
none-linked n ws all = by (found (λ (w : Value). w.number) n ws) refl
  where
    by : (o : Option Value) → value_at ws n ≡ o → option_and_then (λ (w : Value). w.link) o ≡ None
    by None is = refl
    by (Some w) is = found-All (λ (w : Value). w.number) (λ w. w.link ≡ None) n ws w all is

append-stays : (vs ws : List Value) (n : ℕ) → is_some (value_at vs n) ≡ true → is_some (value_at (vs ++ ws) n) ≡ true
append-stays vs ws n is = ap is_some (found-append (λ (w : Value). w.number) n vs ws) ∙ some (value_at vs n) (value_at ws n) is
  where
    some : (a b : Option Value) → is_some a ≡ true → is_some (option_or a b) ≡ true
    some None b is = cc
    some (Some v) b is = refl

append-link : (vs ws : List Value) (n : ℕ) → link_of ws n ≡ None → link_of (vs ++ ws) n ≡ link_of vs n
append-link vs ws n none =
    ap (option_and_then (λ (w : Value). w.link)) (found-append (λ (w : Value). w.number) n vs ws) ∙ by (value_at vs n) (value_at ws n) none
  where
    by : (a b : Option Value) → option_and_then (λ (w : Value). w.link) b ≡ None
        → option_and_then (λ (w : Value). w.link) (option_or a b) ≡ option_and_then (λ (w : Value). w.link) a
    by None b none = none
    by (Some v) b none = refl

pub more-links : {m k : ℕ} (vs ws : List Value) → All (λ w. w.link ≡ None) ws → KeepsEachLink m k vs (vs ++ ws)
more-links vs ws all = record { stays = append-stays vs ws; links = λ n old. append-link vs ws n (none-linked n ws all) }

-- a new value with a link
pub more-linked : (m : ℕ) (vs : List Value) (w : Value) → w.number ≡ m + 1 → KeepsEachLink m (m + 1) vs (vs ++ w ∷ [])
more-linked m vs w is = record { stays = append-stays vs (w ∷ []); links = λ n old. append-link vs (w ∷ []) n (other n old) }
  where
    apart : (n : ℕ) → IsNotNew m (m + 1) n → (m + 1 == n) ≡ false
    apart n (inl below) = apart-above n (m + 1) (omega (arith, below))
    apart n (inr above) = apart-below (m + 1) n above

    other : (n : ℕ) → IsNotNew m (m + 1) n → link_of (w ∷ []) n ≡ None
    other n old = rw (ap (λ k. k == n) is ∙ apart n old) refl

-- a value that is changed
pub found-changed : (k : ℕ) (change : Value → Value) → ((v : Value) → (change v).number ≡ v.number) → (vs : List Value) (n : ℕ)
    → value_at (value_changed k change vs) n ≡ option_map (λ v. cond (v.number == k) (change v) v) (value_at vs n)
found-changed k change number vs n = found-map (λ (v : Value). v.number) (λ v. cond (v.number == k) (change v) v) (λ v. by v (v.number == k)) n vs
  where
    by : (v : Value) (b : Bool) → (cond b (change v) v).number ≡ v.number
    by v true = number v
    by v false = refl

some-map : {A B : Type 0} (f : A → B) (o : Option A) → is_some o ≡ true → is_some (option_map f o) ≡ true
some-map f None is = cc
some-map f (Some x) is = refl

pub changed-stays : (k : ℕ) (change : Value → Value) → ((v : Value) → (change v).number ≡ v.number) → (vs : List Value) (n : ℕ) → is_some (value_at vs n) ≡ true
    → is_some (value_at (value_changed k change vs) n) ≡ true
changed-stays k change number vs n is = ap is_some (found-changed k change number vs n) ∙ some-map _ (value_at vs n) is

pub changed-links : {m j : ℕ} (k : ℕ) (change : Value → Value) → ((v : Value) → (change v).number ≡ v.number) → ((v : Value) → (change v).link ≡ v.link) → (vs : List Value)
    → KeepsEachLink m j vs (value_changed k change vs)
changed-links k change number link vs = record {
  stays = changed-stays k change number vs;
  links = λ n old. ap (option_and_then (λ (w : Value). w.link)) (found-changed k change number vs n) ∙ by (value_at vs n);
}
  where
    each : (v : Value) (b : Bool) → (cond b (change v) v).link ≡ v.link
    each v true = link v
    each v false = refl

    by : (o : Option Value) → option_and_then (λ (w : Value). w.link) (option_map (λ v. cond (v.number == k) (change v) v) o) ≡ option_and_then (λ (w : Value). w.link) o
    by None = refl
    by (Some v) = each v (v.number == k)

-- a value gets a link, and no other does
pub linked-own : (k x : ℕ) (vs : List Value) → is_some (value_at vs k) ≡ true → link_of (value_changed k (with_link x) vs) k ≡ Some x
linked-own k x vs is = ap (option_and_then (λ (w : Value). w.link)) (found-changed k (with_link x) (λ v. refl) vs k) ∙ by (value_at vs k) refl is
  where
    by : (o : Option Value) → value_at vs k ≡ o → is_some o ≡ true
        → option_and_then (λ (w : Value). w.link) (option_map (λ v. cond (v.number == k) (with_link x v) v) o) ≡ Some x
    by None there is = cc
    by (Some v) there is =
        let same : v.number ≡ k = found-number (λ (w : Value). w.number) k vs v there in
        ap (λ b. (cond b (with_link x v) v).link) (ap (λ n. n == k) same ∙ same-self k)

pub linked-other : (k x : ℕ) (vs : List Value) (n : ℕ) → (n == k) ≡ false → link_of (value_changed k (with_link x) vs) n ≡ link_of vs n
linked-other k x vs n apart = ap (option_and_then (λ (w : Value). w.link)) (found-changed k (with_link x) (λ v. refl) vs n) ∙ by (value_at vs n) refl
  where
    by : (o : Option Value) → value_at vs n ≡ o
        → option_and_then (λ (w : Value). w.link) (option_map (λ v. cond (v.number == k) (with_link x v) v) o) ≡ option_and_then (λ (w : Value). w.link) o
    by None there = refl
    by (Some v) there =
        let same : v.number ≡ n = found-number (λ (w : Value). w.number) n vs v there in
        ap (λ b. (cond b (with_link x v) v).link) (ap (λ m. m == k) same ∙ apart)

-- the values that stay
pub those-same : (alive : List ℕ) (vs : List Value) (n : ℕ) → has_number n alive ≡ true → value_at (those_of alive vs) n ≡ value_at vs n
those-same alive vs n is =
    found-filter (λ (w : Value). w.number) (λ m. has_number m alive) n vs ∙ ap (λ b. cond b (value_at vs n) None) is

pub those-none : (alive : List ℕ) (vs : List Value) (n : ℕ) → link_of vs n ≡ None → link_of (those_of alive vs) n ≡ None
those-none alive vs n none =
    ap (option_and_then (λ (w : Value). w.link)) (found-filter (λ (w : Value). w.number) (λ m. has_number m alive) n vs) ∙ by (has_number n alive)
  where
    by : (b : Bool) → option_and_then (λ (w : Value). w.link) (cond b (value_at vs n) None) ≡ None
    by true = none
    by false = refl
