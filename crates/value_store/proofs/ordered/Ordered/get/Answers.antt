use Rattle.std.proofs.Common.{◌∙◌, ℕ, nat_eq, Option, option_map, ap, sym}
use Rattle.std.specs.Map.{lookup}
use Rattle.napi_types.specs.declared.ids.ValueId.{ValueId}
use Rattle.value_store.proofs.OrderedMaps.{never-both, found, missing}
use Rattle.value_store.proofs.ordered.Ordered.get.Goals as goal

pub returns-in_err-number : goal.returns-in_err-number
returns-in_err-number c =
    c.from_residual.ensures ∙ sym (missing c.self.inside.by_number c.self.inside.by_name c.args.name c.self.invariant (sym c.in_err-number.ensures.value))
    ∙ ap (lookup (nat_eq c.args.name)) c.self.view_is

pub returns-in-Some : goal.returns-in-Some
returns-in-Some c =
    let there = found c.self.inside.by_number c.self.inside.by_name c.args.name c.self.invariant c.in_ok-number.number.now (sym c.in_ok-number.ensures.value) in
    ap (λ (o : Option (ℕ × ValueId)). option_map (λ p. p.1) o) (c.in-Some.ensures.value ∙ there.1) ∙ sym there.2 ∙ ap (lookup (nat_eq c.args.name)) c.self.view_is

pub returns-in-None : goal.returns-in-None
returns-in-None c =
    let there = found c.self.inside.by_number c.self.inside.by_name c.args.name c.self.invariant c.in_ok-number.number.now (sym c.in_ok-number.ensures.value) in
    absurd (never-both (c.args.name, there.0) (c.in-None.ensures.value ∙ there.1))
