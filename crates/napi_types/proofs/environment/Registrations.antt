-- A statement on books that every move of a ticket keeps is kept by calls, ends of frames, begins and phases.
use Rattle.std.proofs.Common.{◌≡◌, ◌≢◌, ◌∙◌, ◌==◌, ℕ, zero, suc, true, false, Option, Some, is_some, refl, subst, sym}
use Rattle.std.specs.List.{All}
use Rattle.std.proofs.lemmas.List.Elements.{All-push}
use Rattle.std.proofs.lemmas.Option.{get_or_from_slice_get, slice_get_within}
use Rattle.napi_types.specs.declared.call.Call.{Call}
use Rattle.napi_types.specs.declared.entry.Cause.{Cause}
use Rattle.napi_types.specs.declared.entry.Cause.TheVariants as cause
use Rattle.napi_types.specs.declared.entry.Duty.{Duty}
use Rattle.napi_types.specs.declared.entry.Duty.TheVariants as duty
use Rattle.napi_types.specs.declared.entry.Phase.{Phase}
use Rattle.napi_types.specs.declared.entry.Phase.TheVariants as phase
use Rattle.napi_types.specs.declared.entry.Reply.{Reply}
use Rattle.napi_types.specs.declared.entry.Why.{Why}
use Rattle.napi_types.specs.declared.ids.HandleId.{HandleId}
use Rattle.napi_types.specs.plain.Lists.{has_number}
use Rattle.napi_types.specs.parts.Book.{Book, Registration, is_registered, made_due, made_withdrawn, made_ended, moved, moved_at, registration_at, begun_in, owed_tickets, with_registration, made_begun}
use Rattle.napi_types.specs.parts.Frames.{caller_of, cause_of, duty_of}
use Rattle.napi_types.specs.environment.Calls.{answer}
use Rattle.napi_types.specs.environment.Changes.{call_change, book_in}
use Rattle.napi_types.specs.environment.Ends.{end_change}
use Rattle.napi_types.specs.environment.Entering.{enter_change, asked_change}
use Rattle.napi_types.specs.environment.Environment.{Environment}
use Rattle.napi_types.specs.environment.Moments.{is_tearing}
use Rattle.napi_types.specs.environment.Registry.{registry_of}
use Rattle.napi_types.proofs.plain.Lists.{none-there}
use Rattle.napi_types.proofs.parts.BookSteps.{BookStep, stays, adds, drops, collects, settles, swaps}
use Rattle.napi_types.proofs.parts.Books.{NoneRegistered, owed-due_where}
use Rattle.napi_types.proofs.parts.Moves.{Falls, Settles, Withdraws, Begins, Ends, unregistered-moved, MovesKeep, each-kept, changed_where-both, settled-moves}
use Rattle.napi_types.proofs.environment.AnswersKeep.{call_change-keeps, torn-makes-none}
use Rattle.napi_types.proofs.environment.FrameChanges.{book_left, registry-parts, ended-keeps, left-parts, enter_change-keeps}
use Rattle.napi_types.proofs.environment.Cases.{asked-by}

-- what holds of every registration holds of what is under a ticket
pub registered-holds : (P : Registration → Type 0) (t : ℕ) (book : Book) (r : Registration) → registration_at book t ≡ Some r → All P book → P r
registered-holds P zero book r there all = let no : ⊥ = cc in absurd no
registered-holds P (suc p) book r there all = subst P (get_or_from_slice_get book p r r there) (all p r (slice_get_within book p r there))

-- what a call of this addon registers keeps it, if the call registers anything
abbrev pub NewKeeps : (Book → Type 0) → ℕ → Option Duty → Type 0
NewKeeps Q addon made =
    is_some made ≡ true → (r : Registration) → r.addon ≡ addon → r.cause ≢ cause.Call → (book : Book) → Q book → Q (with_registration r book)

-- the end of a frame keeps it, where the end of its ticket does
pub left-kept : (Q : Book → Type 0) (book : Book) → ((t : ℕ) → Q (moved_at made_ended t book)) → (c : Cause) (d : Option Duty) → Q book → Q (book_left c d book)
left-kept Q book ends cause.Call d q = q
left-kept Q book ends _ (Some (duty.Ticket t)) q = ends t.0
left-kept Q book ends _ _ q = q

-- A STATEMENT ON BOOKS
module _ (Q : Book → Type 0) (kept : MovesKeep Q) where
  same-book : (b c : Book) → c ≡ b → Q b → Q c
  same-book b c same q = subst Q (sym same) q

  step-kept : (addon : ℕ) (b : Book) (made dropped : Option Duty) (c : Book) → NewKeeps Q addon made → BookStep addon b made dropped c → Q b → Q c
  step-kept addon b _ _ _ new (stays c e) q = same-book b c e q
  step-kept addon b _ _ _ new (adds r c s who why e) q = same-book _ c e (new refl r who why b q)
  step-kept addon b _ _ _ new (drops n c h e) q = same-book _ c e (kept Withdraws (λ m. m == n) b q)
  step-kept addon b _ _ _ new (collects test c e) q = same-book _ c e (kept Falls test b q)
  step-kept addon b _ _ _ new (settles state tickets c e) q =
      same-book _ c (e ∙ settled-moves state tickets b) (kept (Settles state) (λ n. has_number n tickets) b q)
  step-kept addon b _ _ _ new (swaps n r c h s who why e) q =
      same-book _ c e (new refl r who why (moved_at made_withdrawn n b) (kept Withdraws (λ m. m == n) b q))

  pub call-kept : (e : Environment) (c : Call) (n : ℕ) → NewKeeps Q (caller_of e.frames) (call_change e c n).entry.reply.made → Q e.book
      → Q (call_change e c n).after.book
  call-kept e c n new q =
      let r : Reply = (call_change e c n).entry.reply in
      step-kept (caller_of e.frames) e.book r.made r.dropped (call_change e c n).after.book new (call_change-keeps e c n).book q

  pub asked-kept : (e : Environment) (c : Call) (n : ℕ) → NewKeeps Q (caller_of e.frames) (call_change e c n).entry.reply.made → Q e.book
      → Q (asked_change e c n).after.book
  asked-kept e c n new q =
      asked-by e c n (λ d. Q d.after.book) (call-kept e c n new q)
      (λ receiver f args none.
      same-book _ _ (registry-parts (registry_of e) (enter_change receiver f args e).after (enter_change-keeps receiver f args e).registry).book q)

  pub ended-kept : (e : Environment) (v : Option HandleId) (cut : Option Why) → Q e.book → Q (end_change v cut e).after.book
  ended-kept e v cut q =
      same-book _ _ (left-parts e (end_change v cut e).after (ended-keeps v cut e)).book
      (left-kept Q e.book (λ t. kept Ends (λ m. m == t) e.book q) (cause_of e.frames) (duty_of e.frames) q)

  pub begun-kept : (p : Phase) (n : ℕ) (b : Book) → Q b → Q (moved_at (begun_in p) n b)
  begun-kept phase.Hooks n b q =
      subst Q (changed_where-both (moved made_due) (moved made_begun) (λ m. m == n) b)
      (kept Begins (λ m. m == n) _ (kept Falls (λ m. m == n) b q))
  begun-kept _ n b q = kept Begins (λ m. m == n) b q

  pub phase-kept : (p : Phase) (b : Book) → Q b → Q (book_in p b)
  phase-kept phase.Finals b q = kept Falls (λ n. true) b q
  phase-kept _ b q = q

-- WHY THE FRAME OF A TICKET BEGINS
-- no call begins the frame of a ticket
abbrev pub AreUncalled : Book → Type 0
AreUncalled book = All (λ r. r.cause ≢ cause.Call) book

uncalled-kept : MovesKeep AreUncalled
uncalled-kept = each-kept (λ r. r.cause ≢ cause.Call) (λ move r uncalled. uncalled)

pub uncalled-asked : (e : Environment) (c : Call) (n : ℕ) → AreUncalled e.book → AreUncalled (asked_change e c n).after.book
uncalled-asked e c n all = asked-kept AreUncalled uncalled-kept e c n (λ made r who why book old. All-push (λ q. q.cause ≢ cause.Call) book r old why) all

pub uncalled-ended : (e : Environment) (v : Option HandleId) (cut : Option Why) → AreUncalled e.book → AreUncalled (end_change v cut e).after.book
uncalled-ended e v cut all = ended-kept AreUncalled uncalled-kept e v cut all

pub uncalled-begun : (p : Phase) (n : ℕ) (b : Book) → AreUncalled b → AreUncalled (moved_at (begun_in p) n b)
uncalled-begun p n b all = begun-kept AreUncalled uncalled-kept p n b all

pub uncalled-phase : (p : Phase) (b : Book) → AreUncalled b → AreUncalled (book_in p b)
uncalled-phase p b all = phase-kept AreUncalled uncalled-kept p b all

-- NONE IS REGISTERED
pub none-kept : MovesKeep NoneRegistered
none-kept = each-kept (λ r. is_registered r.state ≡ false) (λ move r. unregistered-moved move r.state)

-- in the teardown no call registers
pub torn-new : (Q : Book → Type 0) (e : Environment) (c : Call) (n : ℕ) → is_tearing e.phase ≡ true
    → NewKeeps Q (caller_of e.frames) (call_change e c n).entry.reply.made
torn-new Q e c n tearing made = absurd (none-there (answer e c n).reply.made (torn-makes-none e c n tearing) made)

pub none-asked : (e : Environment) (c : Call) (n : ℕ) → is_tearing e.phase ≡ true → NoneRegistered e.book → NoneRegistered (asked_change e c n).after.book
none-asked e c n tearing all = asked-kept NoneRegistered none-kept e c n (torn-new NoneRegistered e c n tearing) all

-- what the start of a phase makes of the book
pub owed-in : (p : Phase) (book : Book) → owed_tickets (book_in p book) ≡ owed_tickets book
owed-in phase.Finals book = owed-due_where (λ n. true) book
owed-in _ book = refl

pub none-ended : (e : Environment) (v : Option HandleId) (cut : Option Why) → NoneRegistered e.book → NoneRegistered (end_change v cut e).after.book
none-ended e v cut all = ended-kept NoneRegistered none-kept e v cut all

pub none-begun : (p : Phase) (n : ℕ) (b : Book) → NoneRegistered b → NoneRegistered (moved_at (begun_in p) n b)
none-begun p n b all = begun-kept NoneRegistered none-kept p n b all
