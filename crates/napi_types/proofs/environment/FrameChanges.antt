-- What the begin and the end of frames keep.
use Rattle.std.proofs.Common.{◌≡◌, ◌≤◌, ℕ, suc, ◌+◌, ◌*◌, false, ◌∷◌, length, refl, ap, Option, Some, None, arith, is_none, is_some}
use Rattle.napi_types.specs.declared.call.Args.{Args}
use Rattle.napi_types.specs.declared.call.Call.{Call}
use Rattle.napi_types.specs.declared.call.Call.TheVariants as call
use Rattle.napi_types.specs.declared.entry.Cause.{Cause}
use Rattle.napi_types.specs.declared.entry.Cause.TheVariants as cause
use Rattle.napi_types.specs.declared.entry.Duty.{Duty}
use Rattle.napi_types.specs.declared.entry.Duty.TheVariants as duty
use Rattle.napi_types.specs.declared.entry.Reply.{Reply}
use Rattle.napi_types.specs.declared.entry.Why.{Why}
use Rattle.napi_types.specs.declared.ids.HandleId.{HandleId}
use Rattle.napi_types.specs.declared.status.Status.{Status}
use Rattle.napi_types.specs.plain.Lists.{tail}
use Rattle.napi_types.specs.plain.Room.{one_if, need}
use Rattle.napi_types.specs.parts.Book.{Book, owed_tickets}
use Rattle.napi_types.specs.parts.Frames.{caller_of, cause_of, duty_of, ask_counted, local_frames}
use Rattle.napi_types.specs.parts.FunctionCalls.{callee_of}
use Rattle.napi_types.specs.environment.Changes.{call_change}
use Rattle.napi_types.specs.parts.Promises.{Promises}
use Rattle.napi_types.specs.environment.Ends.{duty_ended, reaction_ended, end_change_by, uncut_call_end, end_change}
use Rattle.napi_types.specs.environment.Entering.{is_entering, enter_change, function_change, asked_change}
use Rattle.napi_types.specs.environment.Environment.{Environment}
use Rattle.napi_types.specs.environment.Refusals.{refusal}
use Rattle.napi_types.specs.environment.Registry.{Registry, registry_of}
use Rattle.napi_types.proofs.parts.BookSteps.{step-owed}
use Rattle.napi_types.proofs.parts.Books.{owed-ended}
use Rattle.napi_types.proofs.environment.AnswersKeep.{course_of, KeepsButAsk, call_change-keeps, local-counted}

-- THE REGISTRY
-- an environment has the parts of a registry
pub record HasRegistry (r : Registry) (e : Environment) : Type 0 where
  pub attachments : e.attachments ≡ r.attachments
  pub book : e.book ≡ r.book
  pub hooks : e.hooks ≡ r.hooks
  pub async_hooks : e.async_hooks ≡ r.async_hooks
  pub instances : e.instances ≡ r.instances
  pub promises : e.promises ≡ r.promises
  pub buffers : e.buffers ≡ r.buffers

pub registry-parts : (r : Registry) (e : Environment) → registry_of e ≡ r → HasRegistry r e
registry-parts r e same = record {
  attachments = ap (λ (s : Registry). s.attachments) same;
  book = ap (λ (s : Registry). s.book) same;
  hooks = ap (λ (s : Registry). s.hooks) same;
  async_hooks = ap (λ (s : Registry). s.async_hooks) same;
  instances = ap (λ (s : Registry). s.instances) same;
  promises = ap (λ (s : Registry). s.promises) same;
  buffers = ap (λ (s : Registry). s.buffers) same;
}

-- THE END OF A FRAME
-- the registry after the end of a duty. Of the registry the end of a frame changes this and nothing else
abbrev pub registry_ended : Option Duty → Registry → Registry
registry_ended d r = record r { book = duty_ended d r.book; promises = reaction_ended d r.promises }

-- the duty that ends with a frame that began for this reason: none with that of a call
abbrev pub ending_duty : Cause → Option Duty → Option Duty
ending_duty cause.Call d = None
ending_duty _ d = d

-- the book after such a frame, and the promises
abbrev pub book_left : Cause → Option Duty → Book → Book
book_left c d book = duty_ended (ending_duty c d) book

abbrev pub promises_after : Cause → Option Duty → Promises → Promises
promises_after c d p = reaction_ended (ending_duty c d) p

-- what the end of a frame keeps: all but its frame and its scopes, its duty, the pending exception and the last status; it issues one handle at most.
-- The frame began for this reason
pub record KeepsButFrameBy (c : Cause) (old new : Environment) : Type 0 where
  pub course : course_of new ≡ course_of old
  pub frames : new.frames ≡ tail old.frames
  pub values : new.heap.values ≡ old.heap.values
  pub made : new.heap.made ≡ old.heap.made
  pub handles : new.heap.handles ≤ old.heap.handles + 1
  pub scope_numbers : new.heap.scope_numbers ≡ old.heap.scope_numbers
  pub references : new.references ≡ old.references
  pub registry : registry_of new ≡ registry_ended (ending_duty c (duty_of old.frames)) (registry_of old)

-- the same, for the reason for which the innermost one began
abbrev pub KeepsButFrame : Environment → Environment → Type 0
KeepsButFrame old new = KeepsButFrameBy (cause_of old.frames) old new

left-keeps : (v : Option HandleId) (e : Environment) (pending : Option ℕ) → KeepsButFrameBy cause.Call e (uncut_call_end v e pending).after
left-keeps v e (Some p) =
    record { course = refl; frames = refl; values = refl; made = refl; handles = omega arith; scope_numbers = refl; references = refl; registry = refl }
left-keeps v e None =
    record { course = refl; frames = refl; values = refl; made = refl; handles = omega arith; scope_numbers = refl; references = refl; registry = refl }

by-cause : (v : Option HandleId) (cut : Option Why) (e : Environment) (c : Cause) → KeepsButFrameBy c e (end_change_by v cut e c).after
by-cause v (Some w) e cause.Call =
    record { course = refl; frames = refl; values = refl; made = refl; handles = omega arith; scope_numbers = refl; references = refl; registry = refl }
by-cause v None e cause.Call = left-keeps v e e.pending
by-cause v cut e _ =
    record { course = refl; frames = refl; values = refl; made = refl; handles = omega arith; scope_numbers = refl; references = refl; registry = refl }

pub ended-keeps : (v : Option HandleId) (cut : Option Why) (e : Environment) → KeepsButFrame e (end_change v cut e).after
ended-keeps v cut e = by-cause v cut e (cause_of e.frames)

-- the registry in its parts
pub left-parts : (old new : Environment) → KeepsButFrame old new
    → HasRegistry (registry_ended (ending_duty (cause_of old.frames) (duty_of old.frames)) (registry_of old)) new
left-parts old new k = registry-parts (registry_ended (ending_duty (cause_of old.frames) (duty_of old.frames)) (registry_of old)) new k.registry

-- no ticket comes or goes with the end of a frame
owed-duty : (d : Option Duty) (book : Book) → owed_tickets (duty_ended d book) ≡ owed_tickets book
owed-duty (Some (duty.Ticket t)) book = owed-ended t.0 book
owed-duty (Some (duty.Work n)) book = refl
owed-duty (Some (duty.Item f n)) book = refl
owed-duty (Some (duty.Function f)) book = refl
owed-duty None book = refl

pub owed-left : (c : Cause) (d : Option Duty) (book : Book) → owed_tickets (book_left c d book) ≡ owed_tickets book
owed-left c d book = owed-duty (ending_duty c d) book

-- THE BEGIN OF A CALL'S FRAME
-- what an accepted call of a function keeps: all but its frame and its scope; it makes no value, and issues one handle at most
pub record KeepsAndEnters (old new : Environment) (f : HandleId) : Type 0 where
  pub course : course_of new ≡ course_of old
  pub frames : new.frames ≡ callee_of old.heap f ∷ ask_counted old.frames
  pub values : new.heap.values ≡ old.heap.values
  pub made : new.heap.made ≡ old.heap.made
  pub handles : new.heap.handles ≤ old.heap.handles + 1
  pub scope_numbers : new.heap.scope_numbers ≡ old.heap.scope_numbers
  pub references : new.references ≡ old.references
  pub registry : registry_of new ≡ registry_of old

pub enter_change-keeps : (receiver : Option HandleId) (f : HandleId) (args : Args) (e : Environment) → KeepsAndEnters e (enter_change receiver f args e).after f
enter_change-keeps None f args e =
    record { course = refl; frames = refl; values = refl; made = refl; handles = omega arith; scope_numbers = refl; references = refl; registry = refl }
enter_change-keeps (Some h) f args e =
    record { course = refl; frames = refl; values = refl; made = refl; handles = omega arith; scope_numbers = refl; references = refl; registry = refl }

-- WHAT A CALL COMES TO
-- a call that enters no frame answers at once
at-once : (receiver : Option HandleId) (f : HandleId) (args : Args) (n : ℕ) (e : Environment) (s : Option Status) → is_none s ≡ false
    → function_change receiver f args n e s ≡ call_change e (call.CallFunction receiver f args) n
at-once receiver f args n e (Some s) h = refl
at-once receiver f args n e None h = cc

pub asked_change-call_change : (e : Environment) (c : Call) (n : ℕ) → is_entering e c ≡ false → asked_change e c n ≡ call_change e c n
asked_change-call_change e (call.CallFunction receiver f args) n h = at-once receiver f args n e (refusal e (call.CallFunction receiver f args)) h
asked_change-call_change e c n h = refl

-- an accepted call of a function enters its frame
pub asked_change-enter_change : (e : Environment) (receiver : Option HandleId) (f : HandleId) (args : Args) (n : ℕ) → refusal e (call.CallFunction receiver f args) ≡ None
    → asked_change e (call.CallFunction receiver f args) n ≡ enter_change receiver f args e
asked_change-enter_change e receiver f args n h = ap (λ s. function_change receiver f args n e s) h

-- what a call keeps, and how many ends and frames it owes: no more than it has places for
pub record KeepsButFrames (old new : Environment) (places : ℕ) : Type 0 where
  pub course : course_of new ≡ course_of old
  pub owed : length (local_frames new.frames) + 2 * owed_tickets new.book + 1 ≤ length (local_frames old.frames) + 2 * owed_tickets old.book + places

call_change-fits : (e : Environment) (c : Call) (n : ℕ) → KeepsButFrames e (call_change e c n).after (need c)
call_change-fits e c n =
    let r : Reply = (call_change e c n).entry.reply in
    let new : Environment = (call_change e c n).after in
    let k : KeepsButAsk c e r new = call_change-keeps e c n in
    let waits : owed_tickets new.book + one_if (is_some r.dropped) ≡ owed_tickets e.book + one_if (is_some r.made) = step-owed (caller_of e.frames) e.book r.made r.dropped new.book k.book in
    record { course = k.course; owed = owed (length (local_frames new.frames)) (length (local_frames e.frames)) (owed_tickets new.book) (owed_tickets e.book) (one_if (is_some r.made)) (one_if (is_some r.dropped)) (need c) k.local waits k.makes.places }
  where
    owed : (a b w v m d n : ℕ) → a ≡ b → w + d ≡ v + m → 1 + 2 * m ≤ n → a + 2 * w + 1 ≤ b + 2 * v + n
    owed a b w v m d n same waits places = omega (arith, same, waits, places)

function_change-fits : (receiver : Option HandleId) (f : HandleId) (args : Args) (n : ℕ) (e : Environment) (s : Option Status)
    → KeepsButFrames e (function_change receiver f args n e s).after 2
function_change-fits receiver f args n e (Some s) = call_change-fits e (call.CallFunction receiver f args) n
function_change-fits receiver f args n e None =
    let new : Environment = (enter_change receiver f args e).after in
    let k : KeepsAndEnters e new f = enter_change-keeps receiver f args e in
    record {
      course = k.course;
      owed = two (length (local_frames new.frames)) (length (local_frames e.frames)) (length (local_frames (ask_counted e.frames))) (owed_tickets new.book) (owed_tickets e.book)
          (ap (λ fs. length (local_frames fs)) k.frames) (local-counted e.frames) (ap owed_tickets (registry-parts (registry_of e) new k.registry).book);
    }
  where
    two : (a b c w v : ℕ) → a ≡ suc c → c ≡ b → w ≡ v → a + 2 * w + 1 ≤ b + 2 * v + 2
    two a b c w v h k same = omega (arith, h, k, same)

pub asked_change-fits : (e : Environment) (c : Call) (n : ℕ) → KeepsButFrames e (asked_change e c n).after (need c)
asked_change-fits e (call.CallFunction receiver f args) n = function_change-fits receiver f args n e (refusal e (call.CallFunction receiver f args))
asked_change-fits e c n = call_change-fits e c n
