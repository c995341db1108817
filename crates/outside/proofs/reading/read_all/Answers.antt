use Rattle.std.proofs.Common.{◌≡◌, ℕ, ◌+◌, ◌≤◌, List, ◌++◌, length, take, append_assoc, refl, sym, ap, ◌∙◌, arith, length-append, Some, None}
use Rattle.std.specs.Prelude.{Option}
use Rattle.std.specs.Io.KnownBytes.{prepend_known}
use Rattle.std.proofs.lemmas.List.{length-take}
use Rattle.outside.specs.Reading.{longest_source, GavePrefix}
use Rattle.outside.proofs.reading.read_all.Goals as goal

prepend_known-append : (xs ys : List ℕ) (left : Option (List ℕ)) → prepend_known xs (prepend_known ys left) ≡ prepend_known (xs ++ ys) left
prepend_known-append xs ys None = refl
prepend_known-append xs ys (Some left) = ap Some (sym (append_assoc xs ys left))

-- what a source gave before a read and in it
prefix_and_piece : (old mid new : Option (List ℕ)) (prefix piece : List ℕ) (count : ℕ) → old ≡ prepend_known prefix mid →
    mid ≡ prepend_known (take count piece) new → length prefix + count ≤ longest_source + 1 → GavePrefix old new
prefix_and_piece old mid new prefix piece count before read within = record {
  prefix = prefix ++ take count piece;
  within = omega (arith, length-append prefix (take count piece), length-take count piece);
  gave = before ∙ ap (prepend_known prefix) read ∙ prepend_known-append prefix (take count piece) new;
}

pub returns-then-is_err-clause-prefix : goal.returns-then-is_err-clause-prefix
returns-then-is_err-clause-prefix g c =
    let fits = c.in-Ok.ensures.within in
    prefix_and_piece _ _ _ _ _ _ c.loop-piece.invariant.taken c.in-Ok.ensures.gives (omega (arith, fits, c.read.auto.into, length-take {A = ℕ}))
