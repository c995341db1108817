-- Laws of runs: they compute.
use Rattle.std.proofs.Common.{◌≡◌, ◌&&◌, List, [], ◌∷◌, IsTrue, refl, ap, subst}
use Rattle.std.specs.Option.{unwrap_or}
use Rattle.napi_types.specs.declared.entry.Entry.{Entry}
use Rattle.napi_types.specs.declared.call.Ask.{Ask}
use Rattle.napi_types.specs.plain.Lists.{head, tail}
use Rattle.napi_types.specs.runs.Machine.{Machine}
use Rattle.napi_types.specs.runs.Run.{after, IsRunBy}
use Rattle.napi_types.specs.runs.Step.{Step, step}
use Rattle.napi_types.proofs.plain.Conditions.{and-left, and-right, and-both}
use Rattle.napi_types.proofs.runs.Runs.{along-entries}
use Rattle.machine_laws.specs.Computing.{ComputesBy, steps, all_may, entries_of_steps, is_paired}

-- two facts on whole lists make a run
pub run-of : (m : Machine) (bs : List Ask) (xs : List Entry) → ComputesBy m bs xs → IsRunBy m bs xs
run-of m (a ∷ bs) (x ∷ xs) c =
    let s : Step = step m a x in
    let paired : IsTrue (is_paired bs xs) = and-left (is_paired bs xs) (s.may && all_may (steps s.after bs xs)) c.1 in
    let may : IsTrue (s.may && all_may (steps s.after bs xs)) = and-right (is_paired bs xs) (s.may && all_may (steps s.after bs xs)) c.1 in (
      (ap (λ l. unwrap_or (head l) x) c.0, and-left s.may (all_may (steps s.after bs xs)) may),
      run-of s.after bs xs (
        ap tail c.0,
        and-both (is_paired bs xs) (all_may (steps s.after bs xs)) paired (and-right s.may (all_may (steps s.after bs xs)) may),
      ),
    )
run-of m [] [] c = tt
run-of m [] (x ∷ xs) c = cc
run-of m (a ∷ bs) [] c = cc

-- the entries of a run are those that its asks compute
pub entries-of : (m : Machine) (bs : List Ask) (xs : List Entry) → IsRunBy m bs xs → xs ≡ entries_of_steps (steps m bs xs)
entries-of = along-entries (λ m bs xs. xs ≡ entries_of_steps (steps m bs xs)) (λ m. refl) (λ m a bs x xs next rest.
    let P : Entry → Type 0 = λ y. x ∷ xs ≡ y ∷ entries_of_steps (steps (after m a x) bs xs) in
    subst P next.0 (ap (λ l. x ∷ l) rest))

-- a run is what computes to be one
pub computes-of : (m : Machine) (bs : List Ask) (xs : List Entry) → IsRunBy m bs xs → ComputesBy m bs xs
computes-of m bs xs r = (entries-of m bs xs r, may-of m bs xs r)
  where
    may-of : (m : Machine) (bs : List Ask) (xs : List Entry) → IsRunBy m bs xs → IsTrue (is_paired bs xs && all_may (steps m bs xs))
    may-of = along-entries (λ m bs xs. IsTrue (is_paired bs xs && all_may (steps m bs xs))) (λ m. refl) (λ m a bs x xs next rest.
        let later : List Step = steps (after m a x) bs xs in
        and-both (is_paired bs xs) ((step m a x).may && all_may later) (and-left (is_paired bs xs) (all_may later) rest)
        (and-both (step m a x).may (all_may later) next.1 (and-right (is_paired bs xs) (all_may later) rest)))
