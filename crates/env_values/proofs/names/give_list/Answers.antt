use Rattle.std.proofs.Common.{◌≡◌, ◌∙◌, ◌+◌, length, ap}
use Rattle.napi_types.specs.parts.HeapChanges.{with_list}
use Rattle.handle_scope.specs.HandleScopes.{HandleScopes, with_issued_handle, with_reserved_place}
use Rattle.env_values.specs.SeenValues.{heap_of}
use Rattle.env_values.proofs.Giving.{given-answer, listed-heap, listed-live}
use Rattle.env_values.proofs.KeepingHeaps.{keeps_listed}
use Rattle.env_values.proofs.names.give_list.Goals as goal

pub returns-clause-gives : goal.returns-clause-gives
returns-clause-gives c =
    let s = c.args.store.now in
    let scopes = c.args.scopes.now in
    let bodies = c.args.bodies.now in
    let after = c.issue_reserved.new.self in
    let issued : after ≡ with_issued_handle c.in_ok-value.value.0 (with_reserved_place scopes) = c.issue_reserved.ensures.issued ∙ ap (with_issued_handle c.in_ok-value.value.0) c.in_ok-reserve.ensures.ok in
    given-answer (with_list bodies (heap_of s scopes)) (heap_of c.make_list.new.self after) (s.made + length bodies + 1) c.issue_reserved.result
    (c.issue_reserved.ensures.handle ∙ ap (λ (x : HandleScopes). x.handles + 1) c.in_ok-reserve.ensures.ok)
    (listed-heap s c.make_list.new.self (with_reserved_place scopes) after c.in_ok-value.value.0 bodies c.invariant.ensures c.in_ok-value.ensures.listed c.in_ok-value.ensures.graph c.requires.able.give.live issued)

pub returns-clause-keeps : goal.returns-clause-keeps
returns-clause-keeps c =
    let scopes = c.args.scopes.now in
    let issued : c.issue_reserved.new.self ≡ with_issued_handle c.in_ok-value.value.0 (with_reserved_place scopes) =
    c.issue_reserved.ensures.issued ∙ ap (with_issued_handle c.in_ok-value.value.0) c.in_ok-reserve.ensures.ok in
    record {
      scopes = record { live = listed-live c.args.store.now c.make_list.new.self (with_reserved_place scopes) c.issue_reserved.new.self c.in_ok-value.value.0 (length c.args.bodies.now) c.invariant.ensures c.in_ok-value.ensures.listed c.requires.able.give.live issued; calls = ap (λ (x : HandleScopes). x.by_call) issued };
      values = keeps_listed c.args.store.now c.make_list.new.self c.in_ok-value.value.0
          (length c.args.bodies.now) c.invariant.ensures c.in_ok-value.ensures.listed;
    }
