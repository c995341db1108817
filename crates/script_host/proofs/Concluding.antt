-- What a top call says of its status, from what came of the words and what was written of it.
use Rattle.std.proofs.Common.{◌≡◌, ◌∙◌, ℕ, ◌==◌, true, List, refl, ap, sym, subst, arith}
use Rattle.std.proofs.Common.{Option, Some, None, Result, Ok, Err, OnOk, ◌⊎◌, inl, inr}
use Rattle.napi_types.specs.declared.lists.Record.{Record}
use Rattle.napi_types.specs.declared.script.Script.{Script}
use Rattle.napi_types.specs.plain.Edge.{HasRisen}
use Rattle.outside.specs.Ends.{Input, Output}
use Rattle.outside.specs.Given.{is_met, GaveTooMuch, CausesOfReading}
use Rattle.outside.specs.Words.{command_of, line_status}
use Rattle.outside.specs.Written.{text_written, IsCounted, IsStatus, IsRunStatus, WroteOutcome, WroteText}
use Rattle.outside.specs.declared.commands.Command.{Command}
use Rattle.outside.specs.declared.commands.Command.TheVariants as command
use Rattle.outside.specs.declared.message.Message.{Message}
use Rattle.outside.specs.declared.message.Message.TheVariants as line
use Rattle.outside.specs.declared.scripts.Demand.{Demand}
use Rattle.script_run.specs.Load.{load_script}
use Rattle.script_run.specs.Runs.{Handed, HasRun}
use Rattle.script_host.specs.Host.{Causes, CausesOfLoad, Concluded, IsScriptOf, RanOrRefused}
use Rattle.script_host.proofs.Hosts.{line-known, refused-of, fault-told}
use Rattle.script_host.proofs.Complete.{too-long-line, too-long-run, refused-line, refused-run, only-memory, load-line}

-- no line has a status of a run
not-run : (l : Message) → IsRunStatus (line_status l) → ⊥
not-run line.Usage (inl e) = omega (arith, e)
not-run line.Usage (inr e) = omega (arith, e)
not-run line.NotJson (inl e) = omega (arith, e)
not-run line.NotJson (inr e) = omega (arith, e)
not-run (line.Shape path) (inl e) = omega (arith, e)
not-run (line.Shape path) (inr e) = omega (arith, e)
not-run (line.Limit which) (inl e) = omega (arith, e)
not-run (line.Limit which) (inr e) = omega (arith, e)
not-run line.TooManyAddons (inl e) = omega (arith, e)
not-run line.TooManyAddons (inr e) = omega (arith, e)
not-run line.Schedule (inl e) = omega (arith, e)
not-run line.Schedule (inr e) = omega (arith, e)
not-run line.NoMemory (inl e) = omega (arith, e)
not-run line.NoMemory (inr e) = omega (arith, e)
not-run line.ReadFault (inl e) = omega (arith, e)
not-run line.ReadFault (inr e) = omega (arith, e)
not-run line.TooLong (inl e) = omega (arith, e)
not-run line.TooLong (inr e) = omega (arith, e)

-- of a source that is read a line tells no usage, a fault with 4 and too many bytes with 7
module _ (d : Demand) (input : Input) (handed : ℕ) where
  reading-used : (l : Message) → CausesOfReading d l input handed → line_status l ≡ 2 → ⊥
  reading-used line.Usage cause e = absurd cause
  reading-used line.NotJson cause e = omega (arith, e)
  reading-used (line.Shape path) cause e = omega (arith, e)
  reading-used (line.Limit which) cause e = omega (arith, e)
  reading-used line.TooManyAddons cause e = omega (arith, e)
  reading-used line.Schedule cause e = omega (arith, e)
  reading-used line.NoMemory cause e = omega (arith, e)
  reading-used line.ReadFault cause e = omega (arith, e)
  reading-used line.TooLong cause e = omega (arith, e)

  reading-fault : (l : Message) → CausesOfReading d l input handed → line_status l ≡ 4 → HasRisen input.faults input.faults_after
  reading-fault line.Usage cause e = absurd cause
  reading-fault line.NotJson cause e = absurd (omega (arith, e))
  reading-fault (line.Shape path) cause e = absurd (omega (arith, e))
  reading-fault (line.Limit which) cause e = absurd (omega (arith, e))
  reading-fault line.TooManyAddons cause e = absurd (omega (arith, e))
  reading-fault line.Schedule cause e = absurd (omega (arith, e))
  reading-fault line.NoMemory cause e = absurd (omega (arith, e))
  reading-fault line.ReadFault cause e = cause
  reading-fault line.TooLong cause e = absurd (omega (arith, e))

  reading-long : (l : Message) → CausesOfReading d l input handed → line_status l ≡ 7 → GaveTooMuch input
  reading-long line.Usage cause e = absurd cause
  reading-long line.NotJson cause e = absurd (omega (arith, e))
  reading-long (line.Shape path) cause e = absurd (omega (arith, e))
  reading-long (line.Limit which) cause e = absurd (omega (arith, e))
  reading-long line.TooManyAddons cause e = absurd (omega (arith, e))
  reading-long line.Schedule cause e = absurd (omega (arith, e))
  reading-long line.NoMemory cause e = absurd (omega (arith, e))
  reading-long line.ReadFault cause e = absurd (omega (arith, e))
  reading-long line.TooLong cause e = cause

  -- of a load a line has the status 3 or 6
  load-status : (l : Message) (n k : ℕ) → CausesOfLoad d l (load_script n) handed → line_status l ≡ k → (k ≡ 3) ⊎ (k ≡ 6)
  load-status l n k cause e = by (load-line d l (load_script n) handed cause)
    where
      by : (line_status l ≡ 3) ⊎ (line_status l ≡ 6) → (k ≡ 3) ⊎ (k ≡ 6)
      by (inl three) = inl (sym e ∙ three)
      by (inr six) = inr (sym e ∙ six)

  neither : (k : ℕ) → (3 ≡ k → ⊥) → (6 ≡ k → ⊥) → (k ≡ 3) ⊎ (k ≡ 6) → ⊥
  neither k a b (inl e) = a (sym e)
  neither k a b (inr e) = b (sym e)

  -- the same, by what the words ask for
  used : (l : Message) (o : Option Command) → Causes d l o input handed → line_status l ≡ 2 → o ≡ None
  used l None cause e = refl
  used l (Some command.Run) cause e = absurd (reading-used l cause e)
  used l (Some command.Summary) cause e = absurd (reading-used l cause e)
  used l (Some (command.Load n)) cause e = absurd (neither 2 (λ x. omega (arith, x)) (λ x. omega (arith, x)) (load-status l n 2 cause e))

  unused : (l : Message) (o : Option Command) → Causes d l o input handed → o ≡ None → line_status l ≡ 2
  unused l o cause e = let P : Option Command → Type 0 = λ x. Causes d l x input handed in ap line_status (subst P e cause)

  faulty : (l : Message) (o : Option Command) → Causes d l o input handed → line_status l ≡ 4 → HasRisen input.faults input.faults_after
  faulty l None cause e = let no : 2 ≡ 4 = sym (ap line_status cause) ∙ e in absurd (omega (arith, no))
  faulty l (Some command.Run) cause e = reading-fault l cause e
  faulty l (Some command.Summary) cause e = reading-fault l cause e
  faulty l (Some (command.Load n)) cause e = absurd (neither 4 (λ x. omega (arith, x)) (λ x. omega (arith, x)) (load-status l n 4 cause e))

  long : (l : Message) (o : Option Command) → Causes d l o input handed → line_status l ≡ 7 → GaveTooMuch input
  long l None cause e = let no : 2 ≡ 7 = sym (ap line_status cause) ∙ e in absurd (omega (arith, no))
  long l (Some command.Run) cause e = reading-long l cause e
  long l (Some command.Summary) cause e = reading-long l cause e
  long l (Some (command.Load n)) cause e = absurd (neither 7 (λ x. omega (arith, x)) (λ x. omega (arith, x)) (load-status l n 7 cause e))

-- a status of a run is no other
run-is-not : (status k : ℕ) → IsRunStatus status → status ≡ k → (0 ≡ k → ⊥) → (5 ≡ k → ⊥) → ⊥
run-is-not status k (inl e) is a b = a (sym e ∙ is)
run-is-not status k (inr e) is a b = b (sym e ∙ is)

run-known : (status : ℕ) → IsRunStatus status → IsStatus status
run-known status (inl e) = subst IsStatus (sym e) refl
run-known status (inr e) = subst IsStatus (sym e) refl

-- WHAT IT SAYS
module _ (d : Demand) (words : List (List ℕ)) (input : Input) (output : Output) (before : Handed) (handed : ℕ) (left : Record) (after : Handed) (status : ℕ) where
  -- of the status, its cause and the faults
  pub concluded : (r : Result (Command × List (List ℕ)) Message) → RanOrRefused d words input before handed left after r → WroteOutcome r left output status
      → ((r ≡ Err line.ReadFault → ⊥) → input.faults_after ≡ input.faults) → Concluded d words input output handed status
  concluded (Ok made) is wrote counted = record {
    known = run-known status wrote.run;
    refused = λ no. absurd (no wrote.run);
    usage = (λ e. absurd (run-is-not status 2 wrote.run e (λ x. omega (arith, x)) (λ x. omega (arith, x))), λ e. (let no : Some made.0 ≡ None = sym is.chosen.asked ∙ e in cc));
    no_script = λ e. absurd (run-is-not status 3 wrote.run e (λ x. omega (arith, x)) (λ x. omega (arith, x)));
    read_fault = λ e. absurd (run-is-not status 4 wrote.run e (λ x. omega (arith, x)) (λ x. omega (arith, x)));
    write_fault = wrote.fault;
    too_long = λ e. absurd (run-is-not status 7 wrote.run e (λ x. omega (arith, x)) (λ x. omega (arith, x)));
    read_fault_told = λ differs. absurd (differs (counted (λ e. cc)));
    write_fault_told = λ _. wrote.told;
    too_long_told = λ c bytes asked long. absurd (too-long-run d words input handed c bytes asked long made.0 is.chosen.asked is.script is.chosen.of);
    refused_told = λ c bytes asked bad.
        absurd (refused-run d words input handed c bytes asked bad made.0 is.chosen.asked is.script is.chosen.of is.chosen.enough is.chosen.met);
    complete = λ _ _ _ _. inl wrote.run;
  }
  concluded (Err l) cause wrote counted =
      let no_run : IsRunStatus status → ⊥ = λ run. not-run l (subst IsRunStatus wrote.status_is run) in
      record {
        known = subst IsStatus (sym wrote.status_is) (line-known l);
        refused = λ _. (l, wrote.status_is, cause, wrote.line);
        usage = (λ e. used d input handed l (command_of words) cause (sym wrote.status_is ∙ e), λ e. wrote.status_is ∙ unused d input handed l (command_of words) cause e);
        no_script = λ e. refused-of d l (command_of words) input handed cause (sym wrote.status_is ∙ e);
        read_fault = λ e. faulty d input handed l (command_of words) cause (sym wrote.status_is ∙ e);
        write_fault = λ e. absurd (no_run (inr e));
        too_long = λ e. long d input handed l (command_of words) cause (sym wrote.status_is ∙ e);
        read_fault_told = λ differs. wrote.status_is ∙ fault-told l input.faults input.faults_after (λ other. counted (λ e. other (cc))) differs;
        write_fault_told = λ run. absurd (no_run run);
        too_long_told = λ c bytes asked bad.
            (let P : ℕ → Type 0 = λ k. (k ≡ 7) ⊎ (k ≡ 6) in subst P (sym wrote.status_is) (too-long-line d words input handed c bytes asked bad l cause));
        refused_told = λ c bytes asked bad.
            (let P : ℕ → Type 0 = λ k. (k ≡ 3) ⊎ (k ≡ 6) in subst P (sym wrote.status_is) (refused-line d words input handed c bytes asked bad l cause));
        complete = λ c bytes asked fit. inr (wrote.status_is ∙ only-memory d words input handed c bytes asked fit l cause);
      }

  -- of the run, and of the text that was written of it
  pub ran-so : (r : Result (Command × List (List ℕ)) Message) → RanOrRefused d words input before handed left after r → WroteOutcome r left output status
      → IsRunStatus status → (c : Command) × (s : Script) × (command_of words ≡ Some c) × IsScriptOf c input s × (is_met d s ≡ true) × HasRun s before left after
      × WroteText (status == 0) output (text_written c s.texts left)
  ran-so (Ok made) is wrote _ =
      let P : List (List ℕ) → Type 0 = λ texts. WroteText (status == 0) output (text_written made.0 texts left) in
      (made.0, is.script, is.chosen.asked, is.chosen.of, is.chosen.met, is.run, subst P is.texts_are wrote.text)
  ran-so (Err l) cause wrote run = absurd (not-run l (subst IsRunStatus wrote.status_is run))

  -- the lists of a run can be written
  pub counted-of : (r : Result (Command × List (List ℕ)) Message) → RanOrRefused d words input before handed left after r → OnOk r (IsCounted left)
  counted-of (Ok made) is = record { rises = is.run.run.rises; journal = is.run.journal; history = is.run.history }
  counted-of (Err l) cause = tt
