use Rattle.std.proofs.Common.{◌∙◌, length, ap}
use Rattle.std.proofs.lemmas.List.{length-map}
use Rattle.trace_collect.proofs.Unmarked.{vacant-unmarked}
use Rattle.trace_collect.proofs.marks.reached.Goals as goal

pub mark_reached-requires-clause-size : goal.mark_reached-requires-clause-size
mark_reached-requires-clause-size c = ap length c.in_ok-marks.ensures.vacant ∙ length-map c.args.store.now.places _

pub mark_reached-requires-clause-unmarked : goal.mark_reached-requires-clause-unmarked
mark_reached-requires-clause-unmarked c = vacant-unmarked c.args.store.now c.in_ok-marks.marks c.in_ok-marks.ensures.vacant
