use Rattle.std.proofs.Common.{arith, ℕ, List, [], ◌∷◌, ◌++◌, length, length-append, append_assoc, map, ap, sym, ◌∙◌}
use Rattle.std.proofs.lemmas.List.{map-append}
use Rattle.napi_types.specs.declared.op.Op.{Op}
use Rattle.script_run.proofs.EndedActors.{thread-pushed}
use Rattle.script_run.proofs.actors.add_threads.Goals as goal

pub loop-number-preserved : goal.loop-number-preserved
loop-number-preserved c =
    let h = c.in-Some.ensures.steps in
    let l = c.loop-number.invariant in
    let now = c.push_reserved.ensures in
    let done : List (List Op) = map (λ (y : ℕ × List Op). y.1) c.loop-number.yielded in
    let later = c.next.new.self.iter.rest.items in
    let more = map-append (λ (y : ℕ × List Op). y.1) c.loop-number.yielded ((c.in-Some.number, c.in-Some.operations) ∷ []) in
    let longer = ap length more ∙ length-append done (c.in-Some.operations ∷ []) in
    record {
      place = omega (arith, longer, l.place, h.2);
      left = omega (arith, l.left, h.0.1, ap length h.0.0);
      parted = ap (λ d. d ++ later) more ∙ append_assoc done (c.in-Some.operations ∷ []) later ∙ ap (λ r. done ++ r) (sym h.0.0) ∙ l.parted;
      added =
          thread-pushed _ done _ c.in-Some.operations c.in-Some.number c.args.actors.now.items c.loop-number.actors.items c.push_reserved.new.self.items _ l.added
          (h.1 ∙ l.place) c.thread.ensures now.items more;
      len = omega (arith, now.len, l.len, longer);
      capacity = now.capacity ∙ l.capacity;
    }
