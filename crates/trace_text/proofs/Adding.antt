-- Pieces of a text one after another.
use Rattle.std.proofs.Common.{◌≡◌, ℕ, ◌+◌, ◌-◌, ◌<◌, ◌≤◌, Bool, true, false, List, [], ◌∷◌, ◌++◌, length, get_or, take, drop, append_assoc, refl, subst, sym, ◌∙◌, ap, arith, Some, None}
use Rattle.std.proofs.lemmas.List.{append-nil, take-append-drop, take_rest, take_more}
use Rattle.std.proofs.lemmas.List.Concat.{flat_map-append}
use Rattle.std.specs.List.{flat_map}
use Rattle.std.proofs.Math.Seq.{take-add}
use Rattle.std.specs.declared.option.Option.{Option}
use Rattle.std.specs.Io.KnownBytes.{append_known}
use Rattle.napi_types.specs.plain.Edge.{HasRisen, TookPrefix}
use Rattle.trace_text.specs.Writing.{Adds, Waiting, Took, Stand, stand}

-- what a sink took in two steps
pub append_known-append : (had : Option (List ℕ)) (xs ys : List ℕ) →
    append_known (append_known had xs) ys ≡ append_known had (xs ++ ys)
append_known-append None xs ys = refl
append_known-append (Some had) xs ys = ap Some (append_assoc had xs ys)

-- a write after the first bytes of a piece
pub put_step : (had t u : Option (List ℕ)) (at n : ℕ) (bytes : List ℕ) → t ≡ append_known had (take at bytes) →
    u ≡ append_known t (take n (take (length bytes - at) (drop at bytes))) → u ≡ append_known had (take (at + n) bytes)
put_step had t u at n bytes before step =
    step ∙ ap (λ rest. append_known t (take n rest)) (take_rest bytes at) ∙ ap (λ o. append_known o (take n (drop at bytes))) before ∙
    append_known-append had (take at bytes) (take n (drop at bytes)) ∙ ap (append_known had) (sym (take-add at n bytes))

-- a fault after the first bytes of a piece
pub put_fault : (had t u : Option (List ℕ)) (at : ℕ) (bytes : List ℕ) → t ≡ append_known had (take at bytes) →
    u ≡ append_known t [] → TookPrefix had bytes u
put_fault had t u at bytes before step = record {
  prefix = take at bytes;
  rest = drop at bytes;
  whole_is = take-append-drop at bytes;
  took = step ∙ ap (λ o. append_known o []) before ∙ append_known-append had (take at bytes) [] ∙
      ap (append_known had) (append-nil (take at bytes));
}

-- the mark rose in one of two steps
marked_then : {a b c : Bool} {f g h : ℕ} → f ≤ g → g ≤ h →
    (b ≡ true → a ≡ false → HasRisen f g) → (c ≡ true → b ≡ false → HasRisen g h) → c ≡ true → a ≡ false → HasRisen f h
marked_then {b = true} le me one two ct af = let r : HasRisen _ _ = one refl af in omega arith
marked_then {b = false} le me one two ct af = let r : HasRisen _ _ = two ct refl in omega arith

-- a piece, and then a piece
pub adds_then : {a b c : Stand} {xs ys : List ℕ} → Adds a xs b → Adds b ys c → Adds a (xs ++ ys) c
adds_then {a = a} {b = b} {c = c} {xs = xs} {ys = ys} one two = record {
  goes_on = λ had before h.
      let P : List ℕ → Type 0 = λ bytes. Took had bytes c in
      subst P (append_assoc before xs ys) (two.goes_on had (before ++ xs) (one.goes_on had before h));
  later = (let p = one.later in let q = two.later in omega arith);
  marked = marked_then {b = b.failed} one.later two.later one.marked two.marked;
  fine = λ now. one.fine (two.fine now);
  counted = λ now. two.counted now ∙ one.counted (two.fine now);
}

-- a piece, and then another one between two of the same bytes
pub adds_between : {a b c : Stand} {xs : List ℕ} (space ys : List ℕ) → Adds a xs b → Adds b (space ++ ys ++ space) c → Adds a (xs ++ space ++ ys ++ space) c
adds_between {a = a} {b = b} {c = c} {xs = xs} space ys one two =
    let P : List ℕ → Type 0 = λ bytes. Adds a bytes c in
    let apart : xs ++ (space ++ ys ++ space) ≡ xs ++ space ++ ys ++ space =
    sym (append_assoc xs (space ++ ys) space) ∙ ap (λ bytes. bytes ++ space) (sym (append_assoc xs space ys)) in
    subst P apart (adds_then one two)

-- the pieces of a list up to a place, and then that of the element there
pub adds_more : {X : Type 0} {a b c : Stand} (f : X → List ℕ) (xs : List X) (i : ℕ) (d : X) → i < length xs →
    Adds a (flat_map f (take i xs)) b → Adds b (f (get_or xs i d)) c → Adds a (flat_map f (take (i + 1) xs)) c
adds_more {X = X} {a = a} {b = b} {c = c} f xs i d within before piece =
    let P : List ℕ → Type 0 = λ bytes. Adds a bytes c in
    let last : flat_map f (get_or xs i d ∷ []) ≡ f (get_or xs i d) = append-nil (f (get_or xs i d)) in
    let grown : flat_map f (take (i + 1) xs) ≡ flat_map f (take i xs) ++ f (get_or xs i d) =
    ap (flat_map f) (take_more xs i d within) ∙ flat_map-append f (take i xs) (get_or xs i d ∷ []) ∙
    ap (λ bytes. flat_map f (take i xs) ++ bytes) last in
    subst P (sym grown) (adds_then before piece)

-- no piece
pub adds_none : (a : Stand) → Adds a [] a
adds_none a = record {
  goes_on = λ had before h. let P : List ℕ → Type 0 = λ bytes. Took had bytes a in
      subst P (sym (append-nil before)) h;
  later = omega arith;
  marked = λ failed fine. cc;
  fine = λ now. now;
  counted = λ _. refl;
}

-- bytes that a sink took a prefix of, and the others held, were added behind those held before
pub adds_by : (a b : Stand) (bytes : List ℕ) → a.failed ≡ false → a.faults ≤ b.faults →
    (b.failed ≡ true → HasRisen a.faults b.faults) → (b.failed ≡ false → b.faults ≡ a.faults) → Took a.taken (a.held ++ bytes) b → Adds a bytes b
adds_by a b bytes fine later marked counted took = record {
  goes_on = λ had before h.
      let first = h.prefix in
      let next = took.prefix in
      record {
        prefix = record {
          prefix = first.prefix ++ next.prefix;
          rest = next.rest;
          whole_is = append_assoc first.prefix next.prefix next.rest ∙ ap (λ xs. first.prefix ++ xs) next.whole_is ∙
              ap (λ xs. first.prefix ++ (xs ++ bytes)) (sym (h.waiting fine)) ∙
              sym (append_assoc first.prefix first.rest bytes) ∙ ap (λ xs. xs ++ bytes) first.whole_is;
          took = next.took ∙ ap (λ o. append_known o next.prefix) first.took ∙ append_known-append had first.prefix next.prefix;
        };
        waiting = took.waiting;
      };
  later = later;
  marked = λ failed _. marked failed;
  fine = λ _. fine;
  counted = counted;
}

append_known-nil : (had : Option (List ℕ)) → had ≡ append_known had []
append_known-nil None = refl
append_known-nil (Some had) = ap Some (sym (append-nil had))

-- nothing taken, and all held
pub took_none : (now : Stand) → Took now.taken now.held now
took_none now = record {
  prefix = record { prefix = []; rest = now.held; whole_is = refl; took = append_known-nil now.taken };
  waiting = λ _. refl;
}

-- all taken, and nothing held
pub took_all : (had : Option (List ℕ)) (bytes : List ℕ) (now : Stand) → now.held ≡ [] → now.taken ≡ append_known had bytes →
    Took had bytes now
took_all had bytes now none taken = record {
  prefix = record { prefix = bytes; rest = []; whole_is = append-nil bytes; took = taken };
  waiting = λ _. sym none;
}

-- a prefix taken, where the writing failed
pub took_prefix : (had : Option (List ℕ)) (bytes : List ℕ) (now : Stand) → now.failed ≡ true → TookPrefix had bytes now.taken →
    Took had bytes now
took_prefix had bytes now failed prefix = record { prefix = prefix; waiting = λ fine. cc }

-- bytes that are held behind the others
pub adds_held : (taken : Option (List ℕ)) (faults : ℕ) (old new : Waiting) (bytes : List ℕ) →
    new ≡ record old { bytes = old.bytes ++ bytes } → Adds (stand taken faults old) bytes (stand taken faults new)
adds_held taken faults old new bytes same =
    let P : Waiting → Type 0 = λ held. Adds (stand taken faults old) bytes (stand taken faults held) in
    subst P (sym same) (record {
      goes_on = λ had before h.
          let first = h.prefix in
          record {
            prefix = record {
              prefix = first.prefix;
              rest = first.rest ++ bytes;
              whole_is = sym (append_assoc first.prefix first.rest bytes) ∙ ap (λ xs. xs ++ bytes) first.whole_is;
              took = first.took;
            };
            waiting = λ fine. ap (λ xs. xs ++ bytes) (h.waiting fine);
          };
      later = omega arith;
      marked = λ failed fine. cc;
      fine = λ now. now;
      counted = λ _. refl;
    })

-- bytes that are lost, since the writing failed before
pub adds_lost : (taken : Option (List ℕ)) (faults : ℕ) (old new : Waiting) (bytes : List ℕ) → old.failed ≡ true → new.failed ≡ true →
    Adds (stand taken faults old) bytes (stand taken faults new)
adds_lost taken faults old new bytes before now = record {
  goes_on = λ had whole h.
      let first = h.prefix in
      record {
        prefix = record {
          prefix = first.prefix;
          rest = first.rest ++ bytes;
          whole_is = sym (append_assoc first.prefix first.rest bytes) ∙ ap (λ xs. xs ++ bytes) first.whole_is;
          took = first.took;
        };
        waiting = λ fine. cc;
      };
  later = omega arith;
  marked = λ failed fine. cc;
  fine = λ fine. cc;
  counted = λ _. refl;
}

-- bytes that were written after the others
pub adds_written : (t u : Option (List ℕ)) (f g : ℕ) (old new : Waiting) (bytes whole : List ℕ) → old.failed ≡ false →
    new ≡ record { bytes = []; failed = false } → whole ≡ old.bytes ++ bytes → u ≡ append_known t whole → g ≡ f →
    Adds (stand t f old) bytes (stand u g new)
adds_written t u f g old new bytes whole fine same parts took counted =
    let P : Waiting → Type 0 = λ held. Adds (stand t f old) bytes (stand u g held) in
    let b = stand u g (record { bytes = []; failed = false }) in
    subst P (sym same) (adds_by (stand t f old) b bytes fine (omega arith) (λ failed. cc) (λ _. counted)
    (took_all t (old.bytes ++ bytes) b refl (took ∙ ap (append_known t) parts)))

-- bytes at which the writing failed
pub adds_cut : (t u : Option (List ℕ)) (f g : ℕ) (old new : Waiting) (bytes whole : List ℕ) → old.failed ≡ false →
    new ≡ record { bytes = []; failed = true } → whole ≡ old.bytes ++ bytes → TookPrefix t whole u → f ≤ g → HasRisen f g →
    Adds (stand t f old) bytes (stand u g new)
adds_cut t u f g old new bytes whole fine same parts took later risen =
    let P : Waiting → Type 0 = λ held. Adds (stand t f old) bytes (stand u g held) in
    let Q : List ℕ → Type 0 = λ xs. TookPrefix t xs u in
    let b = stand u g (record { bytes = []; failed = true }) in
    subst P (sym same) (adds_by (stand t f old) b bytes fine later (λ _. risen) (λ fine. cc)
    (took_prefix t (old.bytes ++ bytes) b refl (subst Q parts took)))

-- a text that was added and written out
took_of : (had : Option (List ℕ)) (faults : ℕ) (first : Waiting) (mid end : Stand) (whole : List ℕ) →
    first ≡ record { bytes = []; failed = false } → Adds (stand had faults first) whole mid → Adds mid [] end → Took had whole end
took_of had faults first mid end whole fresh adds out =
    let start = stand had faults (record { bytes = []; failed = false }) in
    let P : Waiting → Type 0 = λ held. Adds (stand had faults held) whole mid in
    let Q : List ℕ → Type 0 = λ bytes. Took had bytes end in
    subst Q (append-nil whole) ((adds_then (subst P fresh adds) out).goes_on had [] (took_none start))

-- what a sink took of a text that was added and written out, in full where the writing did not fail
pub adds_whole : (had : Option (List ℕ)) (faults : ℕ) (first : Waiting) (mid end : Stand) (whole : List ℕ) →
    first ≡ record { bytes = []; failed = false } → Adds (stand had faults first) whole mid → Adds mid [] end →
    end.held ≡ [] → end.failed ≡ false → end.taken ≡ append_known had whole
adds_whole had faults first mid end whole fresh adds out none fine =
    let took = took_of had faults first mid end whole fresh adds out in
    let rest : took.prefix.rest ≡ [] = took.waiting fine ∙ none in
    took.prefix.took ∙ ap (append_known had)
    (sym (append-nil took.prefix.prefix) ∙ ap (λ xs. took.prefix.prefix ++ xs) (sym rest) ∙ took.prefix.whole_is)

-- and a prefix in any case
pub adds_prefix : (had : Option (List ℕ)) (faults : ℕ) (first : Waiting) (mid end : Stand) (whole : List ℕ) →
    first ≡ record { bytes = []; failed = false } → Adds (stand had faults first) whole mid → Adds mid [] end →
    TookPrefix had whole end.taken
adds_prefix had faults first mid end whole fresh adds out = (took_of had faults first mid end whole fresh adds out).prefix

-- and where the writing did not fail, no fault was counted
pub adds_counted : (had : Option (List ℕ)) (faults : ℕ) (first : Waiting) (mid end : Stand) (whole : List ℕ) →
    Adds (stand had faults first) whole mid → Adds mid [] end → end.failed ≡ false → end.faults ≡ faults
adds_counted had faults first mid end whole adds out fine = (adds_then adds out).counted fine
