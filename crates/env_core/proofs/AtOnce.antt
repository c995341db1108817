-- A step that answers at once enters no frame, and hands no call to the hub.
use Rattle.std.proofs.Common.{◌≡◌, ◌∙◌, ℕ, List, Option, Some, None, refl, ap}
use Rattle.napi_types.specs.declared.call.Call.{Call}
use Rattle.napi_types.specs.declared.entry.Reply.{Reply}
use Rattle.napi_types.specs.declared.entry.Target.{Target}
use Rattle.napi_types.specs.declared.status.Status.{Status}
use Rattle.napi_types.specs.plain.Replies.{Answer, refuses}
use Rattle.napi_types.specs.environment.Calls.{answer, answer_unless_deep, with_depth_error}
use Rattle.napi_types.specs.environment.Changes.{Change, call_entry, issued_number, with_noted_status}
use Rattle.napi_types.specs.environment.Environment.{Environment}
use Rattle.napi_types.specs.environment.Refusals.{refusal_before_depth, depth_refusal}
use Rattle.env_core.specs.Core.{Core, after_change}
use Rattle.env_core.specs.CoreSteps.{IfEnter, IfReply, IsAtOnce, IsLocal, RefusedAs, Replies}
use Rattle.env_core.specs.declared.env.Stepped.{Stepped}
use Rattle.env_core.specs.declared.env.Stepped.TheVariants as stepped

pub never-enters : (s : Stepped) (P : Target → List ℕ → Type 0) → IsAtOnce s → IfEnter s P
never-enters (stepped.Enter t gifts) P never = absurd never
never-enters (stepped.Shared c) P never = absurd never
never-enters (stepped.Reply r) P once = tt
never-enters (stepped.Stop w) P once = tt

pub stays-local : (s : Stepped) → IsAtOnce s → IsLocal s
stays-local (stepped.Enter t gifts) never = absurd never
stays-local (stepped.Shared c) never = absurd never
stays-local (stepped.Reply r) once = tt
stays-local (stepped.Stop w) once = tt

-- what a reply is, it is also so
pub if-reply : (s : Stepped) (P Q : Reply → Type 0) → ((r : Reply) → P r → Q r) → IfReply s P → IfReply s Q
if-reply (stepped.Reply r) P Q more p = more r p
if-reply (stepped.Enter t gifts) P Q more p = tt
if-reply (stepped.Shared c) P Q more p = tt
if-reply (stepped.Stop w) P Q more p = tt

-- A REFUSAL
abbrev as-change : Environment → Call → Answer Environment → Change
as-change e c a = record { entry = call_entry e c a.reply; after = with_noted_status c a.reply.status a.after }

refused-as : (old new : Core) (c : Call) (s : Status) (e : Environment) (r : Reply) → Replies old c r new → answer old.env c (issued_number r.out) ≡ refuses s e
    → RefusedAs old c s e r new
refused-as old new c s e r k is = record {
  reply = k.answer ∙ ap (λ a. (as-change old.env c a).entry.reply) is;
  after = k.after ∙ ap (λ a. after_change (as-change old.env c a) old) is;
}

-- a refusal that comes before the depth limit is the answer
pub refused-early : (old new : Core) (c : Call) (s : Status) → refusal_before_depth old.env c ≡ Some s → (r : Reply) → Replies old c r new
    → RefusedAs old c s old.env r new
refused-early old new c s is r k =
    refused-as old new c s old.env r k
    (ap (λ o. answer_unless_deep old.env c (issued_number r.out) o (depth_refusal old.env.frames c)) is ∙ by (depth_refusal old.env.frames c))
  where
    by : (o : Option Status) → answer_unless_deep old.env c (issued_number r.out) (Some s) o ≡ refuses s old.env
    by None = refl
    by (Some deep) = refl

-- and where none does, the depth limit's
pub refused-deep : (old new : Core) (c : Call) (s : Status) → refusal_before_depth old.env c ≡ None → depth_refusal old.env.frames c ≡ Some s → (r : Reply) → Replies old c r new
    → RefusedAs old c s (with_depth_error old.env) r new
refused-deep old new c s none is r k =
    refused-as old new c s (with_depth_error old.env) r k
    (ap (λ o. answer_unless_deep old.env c (issued_number r.out) o (depth_refusal old.env.frames c)) none
    ∙ ap (λ o. answer_unless_deep old.env c (issued_number r.out) None o) is)
