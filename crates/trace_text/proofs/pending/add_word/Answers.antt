use Rattle.trace_text.proofs.Adding.{adds_held}
use Rattle.trace_text.proofs.pending.add_word.Goals as goal

pub returns-then-has_room : goal.returns-then-has_room
returns-then-has_room g c = adds_held _ _ _ _ _ c.hold_word.ensures
