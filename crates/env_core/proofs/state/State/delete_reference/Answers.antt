use Rattle.std.proofs.Common.{ap, subst, sym, refl}
use Rattle.napi_types.specs.declared.call.Call.TheVariants as call
use Rattle.napi_types.specs.parts.Graph.{IsLive}
use Rattle.napi_types.specs.parts.References.{ReferenceMap}
use Rattle.napi_reference.specs.ReferencePlaces.{map_of}
use Rattle.napi_reference.proofs.KeepingReferences.{AllValues-without_reference}
use Rattle.env_core.specs.Referring.{RefersToLive}
use Rattle.env_core.specs.contracts.state.State.{the_view}
use Rattle.env_core.proofs.Referring.{refused-answers, deleted-answers}
use Rattle.env_core.proofs.state.State.delete_reference.Goals.{in-Ok, in-Err}
use Rattle.env_core.proofs.state.State.delete_reference.Goals as goal

pub invariant_of-self : goal.invariant_of-self
invariant_of-self c =
    let s = c.self.inside in
    let i = c.self.invariant.0 in
    let P : ReferenceMap → Type 0 = λ m. RefersToLive s.store m in (
      record {
        live = i.live;
        frames = i.frames;
        calls = i.calls;
        pending = i.pending;
        referred = elim c.match-delete.branch [
          | in-Ok w ↦ subst P (sym w.in-Ok.ensures.deleted) (AllValues-without_reference (IsLive s.store) c.args.reference.0 (map_of s.references) i.referred)
          | in-Err w ↦ subst P (sym (ap map_of w.in-Err.ensures.err)) i.referred
        ];
        rooted = i.rooted;
      },
      c.self.invariant.1,
      c.self.invariant.2,
      c.self.invariant.3,
    )

pub returns : goal.returns
returns c =
    let s = c.self.inside in
    let m = map_of s.references in
    let n = map_of c.delete.new.self in
    elim c.match-delete.branch [
      | in-Ok w ↦ rw (← c.self.view_is)
          (rw (w.result-is, w.plain.ensures) (deleted-answers (the_view s) s.store m n c.args.reference w.in-Ok.ensures.refusal w.in-Ok.ensures.deleted))
      | in-Err w ↦ rw (← c.self.view_is)
          (rw (w.result-is, w.plain-in-Err.ensures)
          (refused-answers (the_view s) s.store m n (call.DeleteReference c.args.reference) w.in-Err.status w.in-Err.ensures.refusal refl (ap map_of w.in-Err.ensures.err)))
    ]
