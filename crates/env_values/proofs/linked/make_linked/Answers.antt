use Rattle.std.proofs.Common.{◌≡◌, ◌∙◌, ◌+◌, option_map, ap, refl}
use Rattle.napi_types.specs.parts.Graph.{number_in}
use Rattle.napi_types.specs.parts.Values.{linked_value}
use Rattle.handle_scope.specs.HandleScopes.{HandleScopes, with_issued_handle, with_reserved_place}
use Rattle.env_values.proofs.Giving.{made-heap, made-live}
use Rattle.env_values.proofs.KeepingHeaps.{keeps_made}
use Rattle.env_values.proofs.linked.make_linked.Goals as goal

pub returns-clause-heap : goal.returns-clause-heap
returns-clause-heap c =
    let s = c.args.store.now in
    let scopes = c.args.scopes.now in
    let after = c.issue_reserved.new.self in
    let stored = linked_value (s.made + 1) c.args.tag (option_map (λ x. x.0) c.args.to) in
    let seen = linked_value (s.made + 1) c.args.tag (option_map (λ x. number_in s x.0) c.args.to) in
    let issued : after ≡ with_issued_handle c.in_ok-value.value.0 (with_reserved_place scopes) =
    c.issue_reserved.ensures.issued ∙ ap (with_issued_handle c.in_ok-value.value.0) c.in_ok-reserve.ensures.ok in
    made-heap s c.make_linked.new.self (with_reserved_place scopes) after c.in_ok-value.value.0 stored seen c.invariant.ensures
    c.in_ok-value.ensures.made refl c.in_ok-value.ensures.graph c.requires.able.give.live issued

pub returns-clause-keeps : goal.returns-clause-keeps
returns-clause-keeps c =
    let scopes = c.args.scopes.now in
    let issued : c.issue_reserved.new.self ≡ with_issued_handle c.in_ok-value.value.0 (with_reserved_place scopes) =
    c.issue_reserved.ensures.issued ∙ ap (with_issued_handle c.in_ok-value.value.0) c.in_ok-reserve.ensures.ok in
    record {
      scopes = record {
        live = made-live c.args.store.now c.make_linked.new.self (with_reserved_place scopes) c.issue_reserved.new.self c.in_ok-value.value.0 _
            c.in_ok-value.ensures.made c.requires.able.give.live issued;
        calls = ap (λ (x : HandleScopes). x.by_call) issued;
      };
      values = keeps_made c.args.store.now c.make_linked.new.self c.in_ok-value.value.0 _ c.invariant.ensures c.in_ok-value.ensures.made;
    }
