use Rattle.std.proofs.Common.{◌∙◌, Some, None, option_map, sym, ap, arith}
use Rattle.std.specs.Option.{option_copied}
use Rattle.napi_types.specs.parts.Buffers.{buffer_bytes}
use Rattle.array_buffers.proofs.Kept.{seen, buffer-now, length-now, length-small}
use Rattle.array_buffers.proofs.buffers.Buffers.length.Goals as goal

pub returns-in_err-row : goal.returns-in_err-row
returns-in_err-row c =
    c.from_residual.ensures
    ∙ ap (option_map buffer_bytes) (buffer-now _ _ _ _ (seen c.self.view_is) c.self.invariant c.args.value.0 None (sym (ap option_copied c.in_err-row.was) ∙ c.get.ensures.value))

pub overflow_cast-result : goal.overflow_cast-result
overflow_cast-result c =
    omega (arith, c.length.ensures, length-small _ _ _ _ (seen c.self.view_is) c.self.invariant c.args.value.0 c.in_ok-row.row.now (sym (ap option_copied c.in_ok-row.was) ∙ c.get.ensures.value))

pub returns : goal.returns
returns c =
    ap Some c.length.ensures
    ∙ length-now _ _ _ _ (seen c.self.view_is) c.self.invariant c.args.value.0 c.in_ok-row.row.now (sym (ap option_copied c.in_ok-row.was) ∙ c.get.ensures.value)
