use Rattle.std.proofs.Common.{◌∙◌, ◌++◌, ◌∷◌, [], ap, sym}
use Rattle.std.proofs.lemmas.List.{append_assoc, append-nil}
use Rattle.napi_types.specs.declared.body.Body.TheVariants as body
use Rattle.napi_types.specs.parts.PropertyCalls.{names_of}
use Rattle.env_values.proofs.names.names.Goals as goal

pub loop-name-preserved : goal.loop-name-preserved
loop-name-preserved c =
    ap (λ bs. bs ++ names_of c.next.new.self) c.in_ok-push.ensures.items
    ∙ append_assoc c.loop-name.names.items (body.Str c.in-Some.name ∷ []) (names_of c.next.new.self)
    ∙ sym (ap (λ ps. c.loop-name.names.items ++ names_of ps) c.in-Some.ensures.next) ∙ c.loop-name.invariant

pub returns : goal.returns
returns c =
    sym (append-nil c.loop-name.names.items) ∙ sym (ap (λ ps. c.loop-name.names.items ++ names_of ps) c.in_default.ensures.next) ∙ c.loop-name.invariant
