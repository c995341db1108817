use Rattle.std.proofs.Common.{◌∙◌, ◌++◌, drop, length, ap, [], ◌∷◌}
use Rattle.std.specs.Int.{w64, from_le_bytes}
use Rattle.array_buffers.proofs.Bytes.{number-padded, eight-zeros}
use Rattle.array_buffers.proofs.row.number_of.Goals as goal

pub returns : goal.returns
returns c =
    c.from_le_bytes.ensures
    ∙ ap (λ bs. from_le_bytes w64 (bs ++ drop (length c.args.bytes.now) (0 ∷ 0 ∷ 0 ∷ 0 ∷ 0 ∷ 0 ∷ 0 ∷ 0 ∷ []))) c.copy_from_slice.ensures.after
    ∙ number-padded c.args.bytes.now _ (eight-zeros (length c.args.bytes.now))
