-- What holds of finalizers at every moment of a run.
use Rattle.std.proofs.Common.{◌≡◌, ◌∙◌, ℕ, false, List, [], refl, ap, sym, Option, Some, None, option_map}
use Rattle.std.specs.Option.{unwrap_or}
use Rattle.napi_types.specs.declared.call.Ask.{Ask}
use Rattle.napi_types.specs.declared.entry.Entry.{Entry}
use Rattle.napi_types.specs.declared.entry.HostStep.TheVariants as host
use Rattle.napi_types.specs.declared.entry.Phase.TheVariants as phase
use Rattle.napi_types.specs.declared.entry.What.TheVariants as what
use Rattle.napi_types.specs.parts.Book.{Book, Registration, is_registered, is_at, registration_at, lowest_due}
use Rattle.napi_types.specs.environment.Hooked.{is_from_finals_on}
use Rattle.napi_types.specs.runs.Machine.{Machine}
use Rattle.napi_types.specs.runs.Run.{IsNext, IsRunBy, final}
use Rattle.napi_types.specs.runs.Setting.{opening_of, final_of}
use Rattle.napi_types.specs.runs.Step.{step}
use Rattle.napi_types.proofs.parts.Books.{NoneRegistered, none-owed_tickets}
use Rattle.napi_types.proofs.environment.Registrations.{registered-holds}
use Rattle.napi_types.proofs.runs.SharedSteps.{is_of_others}
use Rattle.napi_types.proofs.runs.Forms.{form-of, by-env}
use Rattle.napi_types.proofs.runs.Nested.{IsNested, form-nested, opens-nested}
use Rattle.napi_types.proofs.runs.StepCases.{stage-in}
use Rattle.napi_types.proofs.runs.Runs.{along-run}
use Rattle.napi_types.proofs.all_runs.Orderly.{orderly-run}
use Rattle.machine_laws.specs.Choices.{begins_due_tickets_in, IsOfTicket, GoneComesOnlyAfterFinals}
use Rattle.machine_laws.specs.FinalizerLaws.{OnlyTheOutermostFrameHasADuty, NoneIsRegisteredFromFinalsOn}
use Rattle.machine_laws.proofs.BeginningFrames.{lowest-first}
use Rattle.machine_laws.proofs.Choosing.{gone-last, hub-in-phase}

-- ONLY THE OUTERMOST FRAME
run-nested : (m : Machine) (bs : List Ask) (xs : List Entry) → IsNested m.env → IsRunBy m bs xs → IsNested (final m bs xs).env
run-nested m bs xs here run = along-run (λ m. IsNested m.env) (λ m a x next. form-nested m (step m a x) (form-of m a x next)) m bs xs run here

pub only-outermost : OnlyTheOutermostFrameHasADuty
only-outermost s bs xs run = (run-nested (opening_of s) bs xs (opens-nested s) run).frames

-- NONE IS REGISTERED
-- where none of the book is, no ticket is
not-registered : (book : Book) (n : ℕ) → NoneRegistered book → is_at is_registered book n ≡ false
not-registered book n none = by (registration_at book n) refl
  where
    by : (o : Option Registration) → registration_at book n ≡ o → unwrap_or (option_map (λ (r : Registration). is_registered r.state) o) false ≡ false
    by None there = refl
    by (Some r) there = registered-holds (λ (q : Registration). is_registered q.state ≡ false) n book r there none

pub none-registered : NoneIsRegisteredFromFinalsOn
none-registered s bs xs n run last = not-registered (final_of s bs xs).env.book n ((orderly-run s bs xs run).settled last)

-- GONE
-- where a ticket is due `gone` does not come
none-due : (m : Machine) (a : Ask) (x : Entry) (o : Option ℕ) → lowest_due m.env.book ≡ o → m.env.frames ≡ [] → m.env.phase ≡ phase.Finals → IsNext m a x
    → x.what ≡ what.Host host.Gone → o ≡ None
none-due m a x None lowest alone last next is = refl
none-due m a x (Some n) lowest alone last next is =
    let t : IsOfTicket m n x = lowest-first m n a x alone (ap (begins_due_tickets_in m.env) last) lowest (by-env m a x next (ap is_of_others is)) next in
    let z : what.Host host.Gone ≡ what.Host host.Begin = sym is ∙ ap (λ (y : Entry). y.what) t.entry in
    cc

pub gone-of-runs : GoneComesOnlyAfterFinals
gone-of-runs s bs xs a x run next is =
    let m : Machine = final_of s bs xs in
    let last : (m.env.frames ≡ []) × (m.env.phase ≡ phase.Finals) = gone-last m a x next is in
    let none : NoneRegistered m.env.book = (orderly-run s bs xs run).settled (ap is_from_finals_on last.1) in
    record {
      phase = last.1;
      alone = last.0;
      stage = stage-in m phase.Finals (hub-in-phase s bs xs run) last.1;
      spent = none-owed_tickets m.env.book none (none-due m a x (lowest_due m.env.book) refl last.0 last.1 next is);
    }
