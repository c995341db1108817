-- The step of what a frame asks: its call, its end, or a cut.
use Rattle.std.proofs.Common.{◌≡◌, ℕ, ◌&&◌, not, Bool, true, false, List, ◌∷◌, length, refl, ap, sym, ◌∙◌, Option, Some, None}
use Rattle.napi_types.specs.declared.call.Ask.{Ask}
use Rattle.napi_types.specs.declared.call.Ask.TheVariants as ask
use Rattle.napi_types.specs.declared.call.Call.{Call}
use Rattle.napi_types.specs.declared.entry.Actor.TheVariants as actor
use Rattle.napi_types.specs.declared.entry.Entry.{Entry}
use Rattle.napi_types.specs.declared.entry.Out.{Out}
use Rattle.napi_types.specs.declared.entry.Out.TheVariants as out
use Rattle.napi_types.specs.declared.entry.Why.{Why}
use Rattle.napi_types.specs.declared.ids.HandleId.{HandleId}
use Rattle.napi_types.specs.plain.Entries.{cut_of}
use Rattle.napi_types.specs.plain.Guards.{is_shared}
use Rattle.napi_types.specs.plain.Room.{is_full}
use Rattle.napi_types.specs.parts.Frames.{Frame, duty_of, is_hub_duty}
use Rattle.napi_types.specs.environment.Calls.{answer}
use Rattle.napi_types.specs.environment.Changes.{issued_number, is_fresh_result, may_ask, may_call}
use Rattle.napi_types.specs.environment.Ends.{end_out, end_change}
use Rattle.napi_types.specs.environment.Entering.{asked_change}
use Rattle.napi_types.specs.environment.Environment.{Environment}
use Rattle.napi_types.specs.environment.JournalRoom.{journal_room}
use Rattle.napi_types.specs.hub.Hub.{Hub}
use Rattle.napi_types.specs.runs.Begins.{told_at}
use Rattle.napi_types.specs.runs.CallRoom.{room_of}
use Rattle.napi_types.specs.runs.Machine.{Machine}
use Rattle.napi_types.specs.runs.Setting.{Setting}
use Rattle.napi_types.specs.runs.Step.{Step, step, step_of, locally, env_step, frame_step, call_step_on, end_step_on, may_cut}
use Rattle.napi_types.proofs.environment.Cases.{ended-by}
use Rattle.napi_types.proofs.environment.Told.{tells_frame, told-unframed, answer-told}
use Rattle.napi_types.proofs.all_runs.Rooms.{local-room}
use Rattle.env_core.specs.Core.{Core, room_in}
use Rattle.env_loop.specs.Recording.{machine_of}

-- WHAT IS TOLD
-- a result tells of no cut, and of no duty that begins
pub record TellsNoFrame (o : Out) : Type 0 where
  pub uncut : cut_of o ≡ None
  pub untold : (m : Machine) → told_at m o ≡ None

-- what tells of no frame is so, and what a call answers
pub no-frame : (o : Out) → tells_frame o ≡ false → TellsNoFrame o
no-frame (out.Begin why addon entry duty) unframed = cc
no-frame (out.Cut why) unframed = cc
no-frame o unframed = record { uncut = refl; untold = λ m. refl }

pub reply-tells : (e : Environment) (c : Call) (n : ℕ) → TellsNoFrame (answer e c n).reply.out
reply-tells e c n = no-frame (answer e c n).reply.out (told-unframed c (answer e c n).reply (answer-told e c n))

-- and so does the end of a frame tell of no duty that begins
end-untold : (m : Machine) (cut : Option Why) (p : Option ℕ) → told_at m (end_out cut p) ≡ None
end-untold m (Some w) p = refl
end-untold m None None = refl
end-untold m None (Some v) = refl

pub ended-untold : (m : Machine) (v : Option HandleId) (cut : Option Why) (e : Environment) → told_at m (end_change v cut e).entry.reply.out ≡ None
ended-untold m v cut e = ended-by v cut e (λ why d. told_at m d.entry.reply.out ≡ None) (λ w. refl) (λ p. refl) refl (end-untold m cut e.pending)

-- STEPS
pub two_may : (a b : Bool) → a ≡ true → b ≡ true → (a && b) ≡ true
two_may a b p q = rw (p, q) refl

pub both_may : (a b c : Bool) → a ≡ true → b ≡ true → c ≡ false → (a && b && not c) ≡ true
both_may a b c p q r = rw (p, q, r) refl

pub call-next : (m : Machine) (a : Ask) (c : Call) (o : Out) (n : ℕ) (f : Frame) (fs : List Frame) → m.env.frames ≡ f ∷ fs → ask.Do c ≡ a → is_shared c ≡ false
    → cut_of o ≡ None → issued_number o ≡ n
    → may_call m.env ≡ true → is_fresh_result m.env o ≡ true → is_full (room_of m c) c ≡ false
    → env_step m a o m.env.frames ≡ locally m (asked_change m.env c n) true
call-next m a c o n f fs stands made local uncut number may fresh fits =
    ap (env_step m a o) stands
    ∙ ap (λ b. frame_step m b o (cut_of o)) (sym made)
    ∙ ap (frame_step m (ask.Do c) o) uncut
    ∙ ap (λ b. call_step_on b m c o) local
    ∙ ap (λ k. locally m (asked_change m.env c k) (may_call m.env && is_fresh_result m.env o && not (is_full (room_of m c) c))) number
    ∙ ap (locally m (asked_change m.env c n)) (both_may (may_call m.env) (is_fresh_result m.env o) (is_full (room_of m c) c) may fresh fits)

pub leave-next : (m : Machine) (a : Ask) (v : Option HandleId) (o : Out) (f : Frame) (fs : List Frame) → m.env.frames ≡ f ∷ fs
    → is_hub_duty (duty_of m.env.frames) ≡ false
    → ask.Leave v ≡ a → cut_of o ≡ None → may_ask m.env ≡ true
    → env_step m a o m.env.frames ≡ locally m (end_change v None m.env) true
leave-next m a v o f fs stands local left uncut may =
    ap (env_step m a o) stands
    ∙ ap (λ b. frame_step m b o (cut_of o)) (sym left)
    ∙ ap (frame_step m (ask.Leave v) o) uncut
    ∙ ap (λ b. end_step_on b m (end_change v None m.env) (may_ask m.env)) local
    ∙ ap (locally m (end_change v None m.env)) may

pub cut-next : (m : Machine) (a : Ask) (w : Why) (o : Out) (f : Frame) (fs : List Frame) → m.env.frames ≡ f ∷ fs → is_hub_duty (duty_of m.env.frames) ≡ false
    → cut_of o ≡ Some w → may_cut m a w ≡ true
    → env_step m a o m.env.frames ≡ locally m (end_change None (Some w) m.env) true
cut-next m a w o f fs stands local told may =
    ap (env_step m a o) stands
    ∙ ap (frame_step m a o) told
    ∙ ap (λ b. end_step_on b m (end_change None (Some w) m.env) (may_cut m a w)) local
    ∙ ap (locally m (end_change None (Some w) m.env)) may

-- an entry of the environment is read as one
pub by-env : (m : Machine) (a : Ask) (x : Entry) (st : Step) → x.actor ≡ actor.Env → env_step m a x.reply.out m.env.frames ≡ st → step m a x ≡ st
by-env m a x st who next = ap (step_of m a x) who ∙ next

-- the room that a core has is the machine's, for a local call
pub same-room : (s : Setting) (core : Core) (hub : Hub) (history : List Entry) (c : Call) → is_shared c ≡ false → core.limit ≡ s.limits.journal
    → room_in core ≡ room_of (machine_of s.limits core hub history) c
same-room s core hub history c local e =
    ap (λ n. journal_room core.env (length core.journal) n) e ∙ sym (local-room (machine_of s.limits core hub history) c local)
