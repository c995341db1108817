-- A call's entry, and the environment after it, from their parts.
use Rattle.std.proofs.Common.{◌≡◌, ◌∙◌, ℕ, length, ap, sym, subst, List}
use Rattle.napi_types.specs.declared.call.Call.{Call}
use Rattle.napi_types.specs.declared.entry.Reply.{Reply}
use Rattle.napi_types.specs.declared.entry.Entry.{Entry}
use Rattle.napi_types.specs.parts.Frames.{Frame, asks_made}
use Rattle.napi_types.specs.environment.Calls.{answer}
use Rattle.napi_types.specs.environment.Changes.{with_noted_status, call_change, call_entry, issued_number}
use Rattle.napi_types.specs.environment.Environment.{Environment}
use Rattle.napi_types.proofs.environment.AnswersKeep.{answer-keeps}
use Rattle.env_core.specs.Journal.{told_entry}
use Rattle.env_core.specs.State.{Answers, Calls}

pub after-call_change : (e mid new : Environment) (c : Call) (n : ℕ) (r : Reply)
    → r ≡ (answer e c n).reply → mid ≡ (answer e c n).after → new ≡ with_noted_status c r.status mid → new ≡ (call_change e c n).after
after-call_change e mid new c n r q m h = h ∙ ap (λ x. with_noted_status c x.status mid) q ∙ ap (λ x. with_noted_status c (answer e c n).reply.status x) m

-- the call was answered, and then its entry was written
pub calls-told : (old mid new : Environment) (c : Call) (r : Reply) (x : Entry) → Answers old c r mid → x ≡ call_entry mid c r → new ≡ with_noted_status c r.status mid → Calls old c x new
calls-told old mid new c r x k e h =
    let P : Entry → Type 0 = λ y. Calls old c y new in
    let same : mid.frames ≡ old.frames = ap (λ (s : Environment). s.frames) k.after ∙ (answer-keeps old c (issued_number r.out)).frames in
    subst P (sym e) (record {
      fresh = k.fresh;
      entry = ap (λ (fs : List Frame). told_entry (length fs) (asks_made fs) c r) same ∙ ap (λ q. call_entry old c q) k.reply;
      after = after-call_change old mid new c (issued_number r.out) r k.reply k.after h;
    })

-- the call was answered, its status noted and its ask counted
pub calls-noted : (old mid new : Environment) (c : Call) (r : Reply) → Answers old c r mid → new ≡ with_noted_status c r.status mid → Calls old c (call_entry old c r) new
calls-noted old mid new c r k h = record {
  fresh = k.fresh;
  entry = ap (λ q. call_entry old c q) k.reply;
  after = after-call_change old mid new c (issued_number r.out) r k.reply k.after h;
}

-- as many asks were made once it was answered
pub asks-answered : (old mid : Environment) (c : Call) (r : Reply) → Answers old c r mid → asks_made mid.frames ≡ asks_made old.frames
asks-answered old mid c r k = ap (λ (s : Environment). asks_made s.frames) k.after ∙ ap asks_made (answer-keeps old c (issued_number r.out)).frames
