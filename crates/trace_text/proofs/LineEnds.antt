-- The end of a line that tells no duty.
use Rattle.std.proofs.Common.{◌≡◌, ℕ, false, ◌||◌, List, ◌++◌, is_some, Some, None, refl, codes, decimal, sym, ap, ◌∙◌, append_assoc}
use Rattle.std.proofs.lemmas.List.{append-nil}
use Rattle.std.specs.declared.option.Option.{Option}
use Rattle.std.specs.Fmt.{digits}
use Rattle.napi_types.specs.declared.entry.Duty.{Duty}
use Rattle.napi_types.specs.declared.entry.Reply.{Reply}
use Rattle.napi_types.specs.declared.status.Status.TheVariants as status_of
use Rattle.napi_types.specs.plain.Numbers.{status_number}
use Rattle.napi_types.specs.scripts.Text.{out_text, marked}
use Rattle.trace_text.specs.LineEnds.{line_end}

-- no duty is told
untold : (text : List ℕ) (dropped made : Option Duty) → (is_some dropped || is_some made) ≡ false →
    text ++ codes "\n" ≡ text ++ marked (codes " -") dropped ++ marked (codes " +") made ++ codes "\n"
untold text None None none = rw (append-nil text, append-nil text) refl
untold text None (Some m) none = let no : ⊥ = cc in absurd no
untold text (Some d) made none = let no : ⊥ = cc in absurd no

-- what was accepted and tells no duty ends so
pub accepted_end : (texts : List (List ℕ)) (reply : Reply) → reply.status ≡ status_of.Ok → (is_some reply.dropped || is_some reply.made) ≡ false →
    codes " 0 " ++ out_text texts reply.out ++ codes "\n" ≡ line_end texts reply
unfolding digits
accepted_end texts reply ok none = rw ok (untold (codes " 0 " ++ out_text texts reply.out) reply.dropped reply.made none)

-- a piece behind others, which stand behind a prefix
behind : (p x y q : List ℕ) → p ++ x ≡ q → p ++ (x ++ y) ≡ q ++ y
behind p x y q is = sym (append_assoc p x y) ∙ ap (λ prefix. prefix ++ y) is

-- seven pieces behind a prefix
seven_behind : (p a b c d e f g : List ℕ) → p ++ (a ++ b ++ c ++ d ++ e ++ f ++ g) ≡ p ++ a ++ b ++ c ++ d ++ e ++ f ++ g
seven_behind p a b c d e f g =
    behind p (a ++ b ++ c ++ d ++ e ++ f) g _ (behind p (a ++ b ++ c ++ d ++ e) f _ (behind p (a ++ b ++ c ++ d) e _
    (behind p (a ++ b ++ c) d _ (behind p (a ++ b) c _ (behind p a b _ refl)))))

-- the end of a line behind its prefix
pub line_of_end : (prefix : List ℕ) (texts : List (List ℕ)) (reply : Reply) →
    prefix ++ line_end texts reply ≡
    prefix ++ codes " " ++ decimal (status_number reply.status) ++ codes " " ++ out_text texts reply.out ++
    marked (codes " -") reply.dropped ++ marked (codes " +") reply.made ++ codes "\n"
line_of_end prefix texts reply =
    seven_behind prefix (codes " ") (decimal (status_number reply.status)) (codes " ") (out_text texts reply.out)
    (marked (codes " -") reply.dropped) (marked (codes " +") reply.made) (codes "\n")
