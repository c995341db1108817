use Rattle.std.proofs.Common.{map, string_bytes, refl, ap, sym, ◌∙◌}
use Rattle.std.proofs.lemmas.List.{map-id}
use Rattle.std.proofs.lemmas.Iterator.Adapters.{YieldsList-from_vec, YieldsList-from_skip}
use Rattle.std.proofs.lemmas.Iterator.Consumers.{YieldsList-at, YieldsList-end}
use Rattle.napi_host.proofs.texts.Goals as goal

pub returns : goal.returns
returns c =
    let given = YieldsList-from_vec {s = c.args.given} _ refl c.args.given.rest.ok.0 in
    let skipped = YieldsList-from_skip 1 (YieldsList-at c.skip-word-items.ensures.source given) c.skip-word-items.ensures.count in
    let yielded = YieldsList-end (YieldsList-at c.into_iter-word-iterator.ensures.into_iter_gives skipped)
    c.loop-word.yielded _ c.loop-word.yielded_by _ c.next.new.self c.in-None.is c.next.ensures.steps in
    c.loop-word.invariant ∙ ap (map string_bytes) (sym (map-id c.loop-word.yielded) ∙ yielded.0)
