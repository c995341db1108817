use Rattle.std.proofs.Common.{◌≡◌, None, sym, subst}
use Rattle.napi_types.specs.declared.call.Call.TheVariants as call
use Rattle.napi_types.specs.parts.Graph.{IsLive}
use Rattle.napi_types.specs.environment.Refusals.{refusal_by_state}
use Rattle.napi_reference.specs.ReferencePlaces.{map_of}
use Rattle.napi_reference.proofs.KeepingReferences.{AllValues-with_reference}
use Rattle.env_core.specs.Referring.{RefersToLive}
use Rattle.env_core.specs.contracts.state.State.{the_view}
use Rattle.env_core.proofs.Referring.{made-answers}
use Rattle.env_core.proofs.state.State.create_reference.Goals as goal

pub invariant_of-self-2 : goal.invariant_of-self-2
invariant_of-self-2 c =
    let s = c.self.inside in
    let i = c.self.invariant.0 in (
      record {
        live = i.live;
        frames = i.frames;
        calls = i.calls;
        pending = i.pending;
        referred =
            subst (RefersToLive s.store) (sym c.in_ok-reference.ensures.made)
            (AllValues-with_reference (IsLive s.store) c.in_ok-reference.reference.0 c.value_of-value.result.0 c.args.count (map_of s.references) c.value_of-value.ensures.live i.referred);
        rooted = i.rooted;
      },
      c.self.invariant.1,
      c.self.invariant.2,
      c.self.invariant.3,
    )

pub returns-clause-ok : goal.returns-clause-ok
returns-clause-ok c =
    let s = c.self.inside in
    let none : refusal_by_state (the_view s) (call.CreateReference c.args.handle c.args.count) ≡ None =
    sym (rw (← c.self.view_is) at c.if-not-may_refer_to.ensures) in
    rw (← c.self.view_is)
    (rw c.plain-2.ensures
    (made-answers (the_view s) s.store (map_of s.references) (map_of c.make.new.self) c.args.handle c.value_of-value.result.0 c.args.count c.in_ok-reference.reference none
    c.in_ok-reference.ensures.fresh c.value_of-value.ensures.number c.in_ok-reference.ensures.made))
