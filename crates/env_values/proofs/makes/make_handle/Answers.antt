use Rattle.std.proofs.Common.{◌≡◌, ◌∙◌, ◌+◌, Option, option_map, IsSome, ap, refl, subst, sym}
use Rattle.std.specs.Option.{unwrap_or}
use Rattle.napi_types.specs.parts.HeapChanges.{with_value}
use Rattle.napi_types.specs.parts.Values.{Value, fresh_value}
use Rattle.handle_scope.specs.HandleScopes.{HandleScopes, with_issued_handle, with_reserved_place}
use Rattle.env_values.specs.SeenValues.{heap_of}
use Rattle.env_values.proofs.Giving.{given-answer, made-heap, made-live}
use Rattle.env_values.proofs.KeepingHeaps.{keeps_made}
use Rattle.env_values.proofs.makes.make_handle.Goals as goal

pub returns-clause-gives : goal.returns-clause-gives
returns-clause-gives c =
    let s = c.args.store.now in
    let scopes = c.args.scopes.now in
    let after = c.issue_reserved.new.self in
    let value = fresh_value (s.made + 1) c.args.body in
    let issued : after ≡ with_issued_handle c.in_ok-value.value.0 (with_reserved_place scopes) = c.issue_reserved.ensures.issued ∙ ap (with_issued_handle c.in_ok-value.value.0) c.in_ok-reserve.ensures.ok in
    given-answer (with_value c.args.body (heap_of s scopes)) (heap_of c.make.new.self after) (s.made + 1) c.issue_reserved.result
    (c.issue_reserved.ensures.handle ∙ ap (λ (x : HandleScopes). x.handles + 1) c.in_ok-reserve.ensures.ok)
    (made-heap s c.make.new.self (with_reserved_place scopes) after c.in_ok-value.value.0 value value c.invariant.ensures c.in_ok-value.ensures.made refl c.in_ok-value.ensures.graph c.requires.able.give.live issued)

pub returns-clause-keeps : goal.returns-clause-keeps
returns-clause-keeps c =
    let scopes = c.args.scopes.now in
    let issued : c.issue_reserved.new.self ≡ with_issued_handle c.in_ok-value.value.0 (with_reserved_place scopes) =
    c.issue_reserved.ensures.issued ∙ ap (with_issued_handle c.in_ok-value.value.0) c.in_ok-reserve.ensures.ok in
    record {
      scopes = record { live = made-live c.args.store.now c.make.new.self (with_reserved_place scopes) c.issue_reserved.new.self c.in_ok-value.value.0 _ c.in_ok-value.ensures.made c.requires.able.give.live issued; calls = ap (λ (x : HandleScopes). x.by_call) issued };
      values = keeps_made c.args.store.now c.make.new.self c.in_ok-value.value.0 _ c.invariant.ensures c.in_ok-value.ensures.made;
    }

pub returns-clause-live : goal.returns-clause-live
returns-clause-live c = subst (λ (o : Option Value). IsSome o) (sym c.in_ok-value.ensures.made.named) refl

pub returns-clause-number : goal.returns-clause-number
returns-clause-number c = ap (λ (o : Option Value). unwrap_or (option_map (λ (v : Value). v.number) o) 0) c.in_ok-value.ensures.made.named
