-- The environment's own refusal of the creation of a thread-safe function.
use Rattle.std.proofs.Common.{◌≡◌, ℕ, Option, Some, None, refl, sym, ap, ◌∙◌}
use Rattle.std.specs.Option.{option_or}
use Rattle.napi_types.specs.declared.call.Call.{Call}
use Rattle.napi_types.specs.declared.call.Call.TheVariants as call
use Rattle.napi_types.specs.declared.ids.HandleId.{HandleId}
use Rattle.napi_types.specs.declared.status.Status.{Status}
use Rattle.napi_types.specs.environment.Environment.{Environment}
use Rattle.napi_types.specs.environment.Moments.{refusal_by_moment}
use Rattle.napi_types.specs.environment.Refusals.{refusal, refusal_by_state}

or-none : (o : Option Status) → option_or o None ≡ o
or-none None = refl
or-none (Some s) = refl

-- its moment refuses it first
pub created-refusal : (e : Environment) (f : Option HandleId) (entry : Option ℕ) (maximum count : ℕ) (finalizer : Option ℕ) (context : ℕ) (r : Option Status)
    → None ≡ refusal_by_moment e (call.CreateThreadsafeFunction f entry maximum count finalizer context)
    → r ≡ refusal_by_state e (call.CreateThreadsafeFunction f entry maximum count finalizer context) → r ≡ refusal e
    (call.CreateThreadsafeFunction f entry maximum count finalizer context)
created-refusal e f entry maximum count finalizer context r moment timely =
    let c : Call = call.CreateThreadsafeFunction f entry maximum count finalizer context in
    timely ∙ sym (or-none (refusal_by_state e c)) ∙ ap (λ o. option_or (option_or o (refusal_by_state e c)) None) moment
