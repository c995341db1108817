-- The end of a line: what stands behind the name of its entry.
use Rattle.std.specs.Prelude.{ℕ, List, ◌++◌, codes, decimal}
use Rattle.napi_types.specs.declared.entry.Reply.{Reply}
use Rattle.napi_types.specs.plain.Numbers.{status_number}
use Rattle.napi_types.specs.scripts.Text.{out_text, marked}

-- status and result, then the duty withdrawn and the duty made
abbrev pub line_end : List (List ℕ) → Reply → List ℕ
line_end texts reply =
    codes " " ++ decimal (status_number reply.status) ++ codes " " ++ out_text texts reply.out ++
    marked (codes " -") reply.dropped ++ marked (codes " +") reply.made ++ codes "\n"
