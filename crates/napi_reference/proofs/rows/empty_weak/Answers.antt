use Rattle.std.proofs.Common.{◌∙◌, map, arith}
use Rattle.napi_types.specs.plain.Lists.{has_number}
use Rattle.napi_reference.proofs.Emptying.{place-next}
use Rattle.napi_reference.proofs.rows.empty_weak.Goals as goal

pub loop-at-preserved : goal.loop-at-preserved
loop-at-preserved c = (
  place-next (λ v. has_number v (map (λ f. f.0) c.args.values.now)) c.args.rows.now.places c.loop-at.rows.places c.empty_at.new.rows.places c.loop-at.at
      (omega (arith, c.loop-at-test.true, c.places-at-end.ensures.places)) c.loop-at.invariant.0 c.empty_at.ensures.places,
  c.empty_at.ensures.issued ∙ c.loop-at.invariant.1,
  c.empty_at.ensures.room ∙ c.loop-at.invariant.2,
)
