-- What holds at every moment of a run of the tickets that are still to begin.
use Rattle.std.proofs.Common.{◌≡◌, ◌≢◌, ◌∙◌, ℕ, suc, Bool, true, false, [], get_or, refl, ap, sym, Option, Some, subst, ◌⊎◌, inl, inr, List, ◌∷◌}
use Rattle.std.specs.List.{All}
use Rattle.std.proofs.lemmas.Option.{slice_get-get_or}
use Rattle.napi_types.specs.declared.call.Call.{Call}
use Rattle.napi_types.specs.declared.entry.Cause.TheVariants as cause
use Rattle.napi_types.specs.declared.entry.Entry.{Entry}
use Rattle.napi_types.specs.declared.entry.Phase.{Phase}
use Rattle.napi_types.specs.declared.entry.Phase.TheVariants as phase
use Rattle.napi_types.specs.declared.entry.Why.{Why}
use Rattle.napi_types.specs.declared.ids.HandleId.{HandleId}
use Rattle.napi_types.specs.declared.call.Ask.{Ask}
use Rattle.napi_types.specs.declared.entry.HostStep.TheVariants as host
use Rattle.napi_types.specs.plain.Lists.{has}
use Rattle.napi_types.specs.plain.Phases.{next_phase}
use Rattle.napi_types.specs.parts.Book.{Book, Registration, is_owed, registration_at}
use Rattle.napi_types.specs.parts.Hooks.{Hook}
use Rattle.napi_types.specs.environment.Changes.{book_in}
use Rattle.napi_types.specs.environment.Ends.{end_change}
use Rattle.napi_types.specs.environment.Entering.{asked_change}
use Rattle.napi_types.specs.environment.Environment.{Environment}
use Rattle.napi_types.specs.environment.Hooked.{is_from_finals_on, IsHooked}
use Rattle.napi_types.specs.environment.Moments.{is_tearing}
use Rattle.napi_types.specs.environment.Registry.{registry_of}
use Rattle.napi_types.specs.hub.Hub.{IsStageOf, is_of_hooks, LoopEnded}
use Rattle.napi_types.specs.runs.Loop.{Abandons}
use Rattle.napi_types.specs.runs.Machine.{Machine}
use Rattle.napi_types.specs.runs.Setting.{Setting, opens_with, opening_of, final_of}
use Rattle.napi_types.specs.runs.Step.{Step, step, event_step}
use Rattle.napi_types.specs.runs.Run.{IsNext, IsRunBy, after}
use Rattle.napi_types.proofs.parts.Books.{NoneRegistered, all_due-none}
use Rattle.napi_types.proofs.parts.Moved.{at-state, at-cause}
use Rattle.napi_types.proofs.parts.Moves.{MovesKeep, each-kept, unowed-moved}
use Rattle.napi_types.proofs.environment.AnswersKeep.{SameCourse, course-parts}
use Rattle.napi_types.proofs.environment.FrameChanges.{HasRegistry, registry-parts, ended-keeps, asked_change-fits}
use Rattle.napi_types.proofs.environment.FrameEnds.{ended-ends}
use Rattle.napi_types.proofs.environment.HookedSteps.{unchanged, hooked-opening, hooked-opened, hooked-init, hooked-asked, hooked-ended, hooked-begun, hooked-phase, hooked-gone, hooked-abandoned}
use Rattle.napi_types.proofs.environment.Registrations.{asked-kept, ended-kept, begun-kept, phase-kept, torn-new, none-asked, none-ended, none-begun}
use Rattle.napi_types.proofs.runs.SharedSteps.{StandsStill, shares-still, moves-still, others-still, end-stage}
use Rattle.napi_types.proofs.runs.NewNumbers.{IsNewIn, next-new}
use Rattle.napi_types.proofs.runs.StepCases.{StepCase, calls, ends, opens, inits, begins, vanishes, shares, leaves, passes, moves, others, InPhase, stage-in, still-in-phase, step-case, abandons, stage-moved}
use Rattle.napi_types.proofs.runs.Runs.{along-entries, along-run}

-- WHAT HOLDS
-- the drain has come
abbrev pub is_drained : Phase → Bool
is_drained phase.Drain = true
is_drained phase.Finals = true
is_drained phase.Gone = true
is_drained _ = false

-- a hook that is neither registered nor due
abbrev pub IsSpent : Registration → Type 0
IsSpent r = r.cause ≡ cause.Hook → is_owed r.state ≡ false

spent-kept : MovesKeep (All IsSpent)
spent-kept = each-kept IsSpent (λ move r spent hook. unowed-moved move r.state (spent hook))

-- the hub has come to a stage of the phase; from `finals` on none is registered, and once the drain has come no hook is registered or due
pub record Orderly (m : Machine) : Type 0 where
  pub stage : InPhase m
  pub hooked : IsHooked m.env
  pub settled : is_from_finals_on m.env.phase ≡ true → NoneRegistered m.env.book
  pub spent : is_drained m.env.phase ≡ true → All IsSpent m.env.book

pub late-tears : (p : Phase) → is_from_finals_on p ≡ true → is_tearing p ≡ true
late-tears phase.Finals h = refl
late-tears phase.Gone h = refl
late-tears _ h = cc

drained-tears : (p : Phase) → is_drained p ≡ true → is_tearing p ≡ true
drained-tears phase.Init h = cc
drained-tears phase.Live h = cc
drained-tears phase.Hooks h = cc
drained-tears _ h = refl

-- the drain comes from Hooks, or has come before
drain-next : (q p : Phase) → next_phase q ≡ Some p → is_drained p ≡ true → (p ≡ phase.Drain) × (is_from_finals_on q ≡ false) ⊎ is_drained q ≡ true
drain-next phase.Init p next is = let same : phase.Live ≡ p = cc in let no : false ≡ true = ap is_drained same ∙ is in cc
drain-next phase.Live p next is = let same : phase.Hooks ≡ p = cc in let no : false ≡ true = ap is_drained same ∙ is in cc
drain-next phase.Hooks p next is = let same : phase.Drain ≡ p = cc in inl (sym same, refl)
drain-next _ p next is = inr refl

-- up to `finals`, where no hook is left in the list, none is registered or due
all-spent : (e : Environment) → IsHooked e → is_from_finals_on e.phase ≡ false → e.hooks ≡ [] → All IsSpent e.book
all-spent e hooked early none k d inside why = by (is_owed r.state) refl
  where
    r : Registration
    r = get_or e.book k d

    there : registration_at e.book (suc k) ≡ Some r
    there = slice_get-get_or e.book k d inside

    by : (b : Bool) → is_owed r.state ≡ b → b ≡ false
    by false owed = refl
    by true owed =
        let left : has (λ h. h.ticket) (suc k) e.hooks ≡ true =
        hooked.others early (suc k) (at-cause e.book (suc k) r there ∙ ap Some why) (at-state is_owed e.book (suc k) r there ∙ owed) in
        let no : false ≡ true = sym (ap (λ hooks. has (λ (h : Hook). h.ticket) (suc k) hooks) none) ∙ left in
        cc

-- the hub starts a phase
pub settled-passed : (p : Phase) (book : Book) → p ≢ phase.Gone → is_from_finals_on p ≡ true → NoneRegistered (book_in p book)
settled-passed phase.Finals book never late = all_due-none book
settled-passed phase.Gone book never late = absurd (never refl)
settled-passed _ book never late = cc

spent-passed : (e : Environment) (p : Phase) → next_phase e.phase ≡ Some p → (p ≡ phase.Drain → e.hooks ≡ []) → IsHooked e → (is_drained e.phase ≡ true → All IsSpent e.book)
    → is_drained p ≡ true → All IsSpent (book_in p e.book)
spent-passed e p next left hooked spent is = phase-kept (All IsSpent) spent-kept p e.book (by (drain-next e.phase p next is))
  where
    by : (p ≡ phase.Drain) × (is_from_finals_on e.phase ≡ false) ⊎ is_drained e.phase ≡ true → All IsSpent e.book
    by (inl h) = all-spent e hooked h.1 (left h.0)
    by (inr h) = spent h

spent-asked : (e : Environment) (c : Call) (n : ℕ) → is_tearing e.phase ≡ true → All IsSpent e.book → All IsSpent (asked_change e c n).after.book
spent-asked e c n tearing all = asked-kept (All IsSpent) spent-kept e c n (torn-new (All IsSpent) e c n tearing) all

-- nothing of it changes
orderly-still : (m n : Machine) → StandsStill m n → Orderly m → Orderly n
orderly-still m n still h =
    let same : HasRegistry (registry_of m.env) n.env = registry-parts (registry_of m.env) n.env still.registry in
    record {
      stage = still-in-phase m n still.phase still.stage h.stage;
      hooked = unchanged m.env n.env still.phase still.registry h.hooked;
      settled = λ p. subst NoneRegistered (sym same.book) (h.settled (ap is_from_finals_on (sym still.phase) ∙ p));
      spent = λ p. subst (λ book. All IsSpent book) (sym same.book) (h.spent (ap is_drained (sym still.phase) ∙ p));
    }

-- a frame ends, and the hub's stage stays
orderly-ended : (m n : Machine) (v : Option HandleId) (cut : Option Why) → n.hub.stage ≡ m.hub.stage → n.env ≡ (end_change v cut m.env).after → Orderly m → Orderly n
orderly-ended m n v cut far same h =
    let d : Environment = (end_change v cut m.env).after in
    let course : SameCourse m.env d = course-parts m.env d (ended-keeps v cut m.env).course in
    let phase : n.env.phase ≡ m.env.phase = ap (λ (e : Environment). e.phase) same ∙ course.phase in
    record {
      stage = still-in-phase m n phase far h.stage;
      hooked = subst IsHooked (sym same) (hooked-ended v cut m.env h.hooked);
      settled = λ p. subst (λ (e : Environment). NoneRegistered e.book) (sym same) (none-ended m.env v cut (h.settled (ap is_from_finals_on (sym phase) ∙ p)));
      spent =
          λ p. subst (λ (e : Environment). All IsSpent e.book) (sym same)
          (ended-kept (All IsSpent) spent-kept m.env v cut (h.spent (ap is_drained (sym phase) ∙ p)));
    }

-- each step keeps it that gives no number twice
orderly-step : (m : Machine) (s : Step) → Orderly m → IsNewIn m s → StepCase m s → Orderly s.after
orderly-step m _ h new (calls c n may alone) =
    let d : Environment = (asked_change m.env c n).after in
    let course : SameCourse m.env d = course-parts m.env d (asked_change-fits m.env c n).course in
    record {
      stage = subst (λ p. IsStageOf p m.hub.stage) (sym course.phase) h.stage;
      hooked = hooked-asked m.env c n (new refl) h.hooked;
      settled = λ p. let late : is_from_finals_on m.env.phase ≡ true = ap is_from_finals_on (sym course.phase) ∙ p in none-asked m.env c n
          (late-tears m.env.phase late) (h.settled late);
      spent = λ p. let drained : is_drained m.env.phase ≡ true = ap is_drained (sym course.phase) ∙ p in spent-asked m.env c n (drained-tears m.env.phase drained) (h.spent drained);
    }
orderly-step m s h new (ends v cut may alone) = orderly-ended m s.after v cut refl refl h
orderly-step m _ h new opens = record { stage = h.stage; hooked = hooked-opened m.env h.hooked; settled = h.settled; spent = h.spent }
orderly-step m _ h new (inits n) = record { stage = h.stage; hooked = hooked-init n m.env h.hooked; settled = h.settled; spent = h.spent }
orderly-step m _ h new (begins n r there next may) = record {
  stage = h.stage;
  hooked = hooked-begun n r m.env there may h.hooked;
  settled = λ p. none-begun m.env.phase n m.env.book (h.settled p);
  spent = λ p. begun-kept (All IsSpent) spent-kept m.env.phase n m.env.book (h.spent p);
}
orderly-step m _ h new (vanishes last) = record {
  stage = stage-in m phase.Finals h.stage last;
  hooked = hooked-gone m.env h.hooked;
  settled = λ p. h.settled (ap is_from_finals_on last);
  spent = λ p. h.spent (ap is_drained last);
}
orderly-step m s h new (shares c o shared answers) = orderly-still m s.after (shares-still m c o) h
orderly-step m s h new (leaves v cut may ours) =
    let x : Entry = (end_change v cut m.env).entry in
    orderly-ended m s.after v cut (end-stage m.hub x (ended-ends v cut m.env).who (ended-ends v cut m.env).is) refl h
orderly-step m _ h new (passes p o q) = record {
  stage = q.far;
  hooked = hooked-phase p m.env q.next h.hooked;
  settled = settled-passed p m.env.book q.never;
  spent = spent-passed m.env p q.next q.left h.hooked h.spent;
}
orderly-step m _ h new (abandons here far none alone) = record {
  stage = subst (λ p. IsStageOf p (event_step m Abandons).after.hub.stage) (sym here) (ap is_of_hooks (stage-moved m host.Abandon LoopEnded far));
  hooked = hooked-abandoned m.env h.hooked;
  settled = h.settled;
  spent = h.spent;
}
orderly-step m s h new (moves move next moving alone) = orderly-still m s.after (moves-still m move) h
orderly-step m s h new (others x other) = orderly-still m s.after (others-still m x other) h

-- and so does each step that comes next
pub next-orderly : (m : Machine) (a : Ask) (x : Entry) → Orderly m → IsNext m a x → Orderly (after m a x)
next-orderly m a x h next = orderly-step m (step m a x) h (next-new m a x next) (step-case m a x h.stage next)

-- what the empty run has, and each run that is longer by an entry at its start, every run has that starts orderly
pub along-orderly : (Q : Machine → List Ask → List Entry → Type 0) → ((m : Machine) → Q m [] [])
    → ((m : Machine) (a : Ask) (bs : List Ask) (x : Entry) (xs : List Entry) → Orderly m → IsNext m a x → StepCase m (step m a x) → Orderly (after m a x)
    → Q (after m a x) bs xs → Q m (a ∷ bs) (x ∷ xs))
    → (m : Machine) (bs : List Ask) (xs : List Entry) → Orderly m → IsRunBy m bs xs → Q m bs xs
along-orderly Q none more m bs xs h run =
    along-entries (λ m bs xs. Orderly m → Q m bs xs) (λ m h. none m) (λ m a bs x xs next rest h.
    let s : StepCase m (step m a x) = step-case m a x h.stage next in
    let k : Orderly (after m a x) = next-orderly m a x h next in
    more m a bs x xs h next s k (rest k)) m bs xs run h

pub orderly-opens : (s : Setting) → Orderly (opening_of s)
orderly-opens s = record { stage = refl; hooked = hooked-opening (opens_with s); settled = λ p. cc; spent = λ p. cc }

-- the step that comes next in a run
pub next-case : (m : Machine) (a : Ask) (x : Entry) → Orderly m → IsNext m a x → StepCase m (step m a x)
next-case m a x h next = step-case m a x h.stage next

-- every machine of a run is orderly
pub orderly-run : (s : Setting) (bs : List Ask) (xs : List Entry) → IsRunBy (opening_of s) bs xs → Orderly (final_of s bs xs)
orderly-run s bs xs run = along-run Orderly (λ m a x next h. next-orderly m a x h next) (opening_of s) bs xs run (orderly-opens s)
