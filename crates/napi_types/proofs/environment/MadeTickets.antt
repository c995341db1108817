-- A call of the environment that registers makes the next ticket.
use Rattle.std.proofs.Common.{◌≡◌, ◌∙◌, ℕ, ◌+◌, ◌==◌, true, false, refl, ap, Option, Some, None}
use Rattle.std.specs.Option.{option_or}
use Rattle.napi_types.specs.declared.call.Call.{Call}
use Rattle.napi_types.specs.declared.call.Call.TheVariants as call
use Rattle.napi_types.specs.declared.status.Status.{Status}
use Rattle.napi_types.specs.plain.DutyCalls.{makes_duty}
use Rattle.napi_types.specs.plain.Guards.{is_shared}
use Rattle.napi_types.specs.plain.Replies.{Answer}
use Rattle.napi_types.specs.parts.Book.{made_withdrawn, moved, new_ticket, ticket_duty}
use Rattle.napi_types.specs.parts.Frames.{caller_of}
use Rattle.napi_types.specs.parts.InstanceData.{instance_ticket}
use Rattle.napi_types.specs.environment.Calls.{effect, answer_unless_deep}
use Rattle.napi_types.specs.environment.Environment.{Environment}
use Rattle.napi_types.specs.environment.MadeTickets.{UnrefusedCallsMakeTheirTicket}
use Rattle.napi_types.specs.environment.Refusals.{refusal_before_depth, depth_refusal}
use Rattle.napi_types.specs.environment.Registering.{registered_only, withdrawing}
use Rattle.napi_types.proofs.parts.Books.{length-changed_where}

-- a call that nothing refuses has its effect
has-effect : (e : Environment) (c : Call) (n : ℕ) (early deep : Option Status) → option_or early deep ≡ None → answer_unless_deep e c n early deep ≡ effect e c n
has-effect e c n None None none = refl
has-effect e c n (Some s) deep none = cc
has-effect e c n None (Some s) none = cc

-- one that withdraws keeps how many tickets there are
withdrawn-ticket : (t : Option ℕ) (a : Answer Environment) → new_ticket (withdrawing t a).after.book ≡ new_ticket a.after.book
withdrawn-ticket None a = refl
withdrawn-ticket (Some n) a = ap (λ k. k + 1) (length-changed_where (moved made_withdrawn) (λ m. m == n) a.after.book)

makes-ticket : (e : Environment) (c : Call) (n : ℕ) → makes_duty c ≡ true → is_shared c ≡ false → (effect e c n).reply.made ≡ Some (ticket_duty (new_ticket e.book))
makes-ticket e (call.Wrap v payload (Some entry) hint false) n makes local = refl
makes-ticket e (call.Wrap v payload (Some entry) hint true) n makes local = refl
makes-ticket e (call.Wrap v payload None hint wanted) n makes local = cc
makes-ticket e (call.AddFinalizer v payload entry hint false) n makes local = refl
makes-ticket e (call.AddFinalizer v payload entry hint true) n makes local = refl
makes-ticket e (call.CreateExternal payload (Some entry) hint) n makes local = refl
makes-ticket e (call.CreateExternal payload None hint) n makes local = cc
makes-ticket e (call.SetInstanceData payload (Some entry) hint) n makes local =
    ap (λ k. Some (ticket_duty k)) (withdrawn-ticket (registered_only e.book (instance_ticket e.instances (caller_of e.frames))) _)
makes-ticket e (call.SetInstanceData payload None hint) n makes local = cc
makes-ticket e (call.AddEnvCleanupHook entry argument) n makes local = refl
makes-ticket e (call.AddAsyncCleanupHook entry argument) n makes local = refl
makes-ticket e (call.AddReaction h entry payload) n makes local = refl
makes-ticket e (call.CreateExternalArraybuffer size payload entry hint) n makes local = refl
makes-ticket e (call.CreateThreadsafeFunction f entry maximum count finalizer context) n makes local = cc
makes-ticket e _ n makes local = cc

pub unrefused-makes : UnrefusedCallsMakeTheirTicket
unrefused-makes e c n makes local none =
    ap (λ (a : Answer Environment). a.reply.made) (has-effect e c n (refusal_before_depth e c) (depth_refusal e.frames c) none) ∙ makes-ticket e c n makes local
