use Rattle.std.proofs.Common.{◌≡◌, true, subst, sym}
use Rattle.napi_types.specs.declared.call.Call.TheVariants as call_of
use Rattle.napi_types.specs.parts.NamedNumbers.{is_known}
use Rattle.napi_types.specs.environment.Environment.{Environment}
use Rattle.napi_types.proofs.plain.Options.{at-err}
use Rattle.napi_reference.specs.ReferencePlaces.{map_of}
use Rattle.env_core.specs.contracts.state.State.{the_view}
use Rattle.env_values.specs.SeenValues.{heap_of}
use Rattle.env_values.proofs.Giving.{thrown-heap}
use Rattle.env_core.proofs.Attaching.{attachments-kept}
use Rattle.env_core.proofs.Buffering.{buffers-kept}
use Rattle.env_core.proofs.Promising.{promises-kept}
use Rattle.env_core.proofs.TsfnRooting.{roots-kept}
use Rattle.env_core.proofs.CoreExceptions.{accepted-thrown}
use Rattle.env_core.proofs.Unrefused.{thrown-unrefused}
use Rattle.env_core.proofs.ValueAnswers.{references-kept}
use Rattle.env_core.proofs.state.State.throw_error.Goals as goal

pub returns-clause-ok : goal.returns-clause-ok
returns-clause-ok c =
    let s = c.self.inside in
    let t = c.thrown_value.new.store in
    let k = c.in_ok-error.ensures in
    let P : Environment → Type 0 = λ e. true ≡ is_known e.texts e.heap (call_of.ThrowError c.args.code c.args.message) in
    let known : is_known s.texts (heap_of s.store s.scopes) (call_of.ThrowError c.args.code c.args.message) ≡ true = sym (subst P (sym c.self.view_is) c.if-not-knows.ensures) in
    rw (← c.self.view_is)
    (rw (
      c.plain-2.ensures,
      c.set.ensures,
      references-kept s.store t (map_of s.references) k.kept c.self.invariant.0.referred,
      roots-kept s.store t s.tsfn_roots k.kept c.self.invariant.0.rooted,
      attachments-kept s.store t k.kept s.registry.parts.attachments c.self.invariant.1,
      promises-kept s.store t k.kept s.registry.parts.promises c.self.invariant.3.promises,
      buffers-kept s.store t k.kept c.invariant.ensures s.registry.parts.buffers c.self.invariant.3.buffers,
    )
    (accepted-thrown (the_view s) s.store t s.scopes c.args.code c.args.message c.in_ok-error.error.0 known
    (thrown-heap s.store t s.scopes c.args.code c.args.message k.kept.numbers c.self.invariant.0.live k.made k.graph) k.number))

pub returns-in_err-error-clause-unrefused : goal.returns-in_err-error-clause-unrefused
returns-in_err-error-clause-unrefused c = at-err _ (thrown-unrefused c.args.self.now c.args.code c.args.message c.if-not-knows.ensures)
