use Rattle.std.specs.Prelude.{◌++◌, codes, decimal}
use Rattle.napi_types.specs.scripts.Names.{what_name}
use Rattle.std.proofs.Common.{sym}
use Rattle.napi_types.specs.scripts.Text.{actor_text}
use Rattle.trace_text.proofs.Adding.{adds_then, adds_between}
use Rattle.trace_text.proofs.LineEnds.{line_of_end}
use Rattle.trace_text.proofs.line.add_line.Goals as goal

pub returns : goal.returns
returns g c =
    let what = rw (c.as_bytes.ensures.value, c.name.ensures) at c.add.ensures in
    let entry = c.args.entry.now in
    let prefix = decimal c.args.number.now ++ codes " " ++ actor_text entry.actor ++ codes " " ++ what_name entry.what in
    rw (sym (line_of_end prefix c.args.texts.now entry.reply)) (adds_then (adds_then
    (adds_between (codes " ") (actor_text entry.actor) c.add_line_number.ensures c.add_actor.ensures) what) c.add_end.ensures)
