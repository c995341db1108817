use Rattle.std.proofs.Common.{◌≡◌, ◌∙◌, ◌+◌, ap, refl, option_map}
use Rattle.napi_types.specs.declared.ids.ValueId.{ValueId}
use Rattle.napi_types.specs.parts.Graph.{number_in}
use Rattle.napi_types.specs.parts.HeapChanges.{with_error}
use Rattle.napi_types.specs.parts.NewValues.{error_of}
use Rattle.handle_scope.specs.HandleScopes.{HandleScopes, with_issued_handle, with_reserved_place}
use Rattle.env_values.specs.SeenValues.{heap_of}
use Rattle.env_values.proofs.Giving.{given-answer, made-heap, made-live}
use Rattle.env_values.proofs.KeepingHeaps.{keeps_made}
use Rattle.env_values.proofs.errors.give_error.Goals as goal

pub returns-clause-gives : goal.returns-clause-gives
returns-clause-gives c =
    let s = c.args.store.now in
    let scopes = c.args.scopes.now in
    let after = c.issue_reserved.new.self in
    let code = option_map (λ (v : ValueId). number_in s v.0) c.args.code in
    let message = number_in s c.args.message.0 in
    let issued : after ≡ with_issued_handle c.in_ok-error.error.0 (with_reserved_place scopes) = c.issue_reserved.ensures.issued ∙ ap (with_issued_handle c.in_ok-error.error.0) c.in_ok-reserve.ensures.ok in
    given-answer (with_error code message (heap_of s scopes)) (heap_of c.error_value.new.store after) (s.made + 1) c.issue_reserved.result
    (c.issue_reserved.ensures.handle ∙ ap (λ (x : HandleScopes). x.handles + 1) c.in_ok-reserve.ensures.ok)
    (made-heap s c.error_value.new.store (with_reserved_place scopes) after c.in_ok-error.error.0 (error_of (s.made + 1) (option_map (λ (v : ValueId). v.0) c.args.code) c.args.message.0) (error_of (s.made + 1) code message)
    c.invariant.ensures c.in_ok-error.ensures.made refl c.in_ok-error.ensures.graph c.requires.able.give.live issued)

pub returns-clause-keeps : goal.returns-clause-keeps
returns-clause-keeps c =
    let scopes = c.args.scopes.now in
    let issued : c.issue_reserved.new.self ≡ with_issued_handle c.in_ok-error.error.0 (with_reserved_place scopes) =
    c.issue_reserved.ensures.issued ∙ ap (with_issued_handle c.in_ok-error.error.0) c.in_ok-reserve.ensures.ok in
    record {
      scopes = record { live = made-live c.args.store.now c.error_value.new.store (with_reserved_place scopes) c.issue_reserved.new.self c.in_ok-error.error.0 _ c.in_ok-error.ensures.made c.requires.able.give.live issued; calls = ap (λ (x : HandleScopes). x.by_call) issued };
      values = keeps_made c.args.store.now c.error_value.new.store c.in_ok-error.error.0 _ c.invariant.ensures c.in_ok-error.ensures.made;
    }
