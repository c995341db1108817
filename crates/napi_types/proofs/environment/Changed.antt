-- How a local call and the end of a frame change the environment: one part of it after another. What does not read those parts is kept by all of them.
use Rattle.std.proofs.Common.{◌≡◌, ◌∙◌, ℕ, true, List, refl, Option, None}
use Rattle.napi_types.specs.declared.call.Call.{Call}
use Rattle.napi_types.specs.declared.call.Call.TheVariants as call
use Rattle.napi_types.specs.declared.entry.Duty.{Duty}
use Rattle.napi_types.specs.declared.entry.Out.TheVariants as out
use Rattle.napi_types.specs.declared.entry.Why.{Why}
use Rattle.napi_types.specs.declared.ids.HandleId.{HandleId}
use Rattle.napi_types.specs.declared.status.Status.{Status}
use Rattle.napi_types.specs.plain.Replies.{accepts}
use Rattle.napi_types.specs.plain.Lists.{tail}
use Rattle.napi_types.specs.parts.AsyncHooks.{AsyncHook, set_ticket, with_removed}
use Rattle.napi_types.specs.parts.Attachments.{Attachments}
use Rattle.napi_types.specs.parts.Book.{Book}
use Rattle.napi_types.specs.parts.Buffers.{Buffers}
use Rattle.napi_types.specs.parts.Frames.{Frame, caller_of}
use Rattle.napi_types.specs.parts.Heap.{Heap}
use Rattle.napi_types.specs.parts.Hooks.{Hook, hook_ticket}
use Rattle.napi_types.specs.parts.InstanceData.{Instances}
use Rattle.napi_types.specs.parts.Promises.{Promises}
use Rattle.napi_types.specs.parts.References.{ReferenceMap}
use Rattle.napi_types.specs.environment.Calls.{effect, answer}
use Rattle.napi_types.specs.environment.Changes.{call_change}
use Rattle.napi_types.specs.environment.Ends.{end_change}
use Rattle.napi_types.specs.environment.Entering.{asked_change}
use Rattle.napi_types.specs.environment.Environment.{Environment}
use Rattle.napi_types.specs.environment.HookCalls.{unhooked}
use Rattle.napi_types.specs.environment.Registering.{withdrawing}
use Rattle.napi_types.proofs.environment.Cases.{answer-by, asked-by, ended-by}
use Rattle.napi_types.proofs.environment.Effects as does
use Rattle.napi_types.proofs.environment.Effects.{Effect, registered-by, effect-of}

-- what the call may make of the environment
pub data Changed (c : Call) (e : Environment) : Environment → Type 0 where
  stays : Changed c e e
  heap : (d : Environment) (h : Heap) → Changed c e d → Changed c e (record d { heap = h })
  frames : (d : Environment) (fs : List Frame) → Changed c e d → Changed c e (record d { frames = fs })
  references : (d : Environment) (m : ReferenceMap) → Changed c e d → Changed c e (record d { references = m })
  attachments : (d : Environment) (a : Attachments) → Changed c e d → Changed c e (record d { attachments = a })
  book : (d : Environment) (b : Book) → Changed c e d → Changed c e (record d { book = b })
  hooks : (d : Environment) (hs : List Hook) → Changed c e d → Changed c e (record d { hooks = hs })
  async_hooks : (d : Environment) (hs : List AsyncHook) → Changed c e d → Changed c e (record d { async_hooks = hs })
  promises : (d : Environment) (p : Promises) → Changed c e d → Changed c e (record d { promises = p })
  buffers : (d : Environment) (b : Buffers) → Changed c e d → Changed c e (record d { buffers = b })
  instances : (d : Environment) (i : Instances) → Changed c e d → Changed c e (record d { instances = i })
  pending : (d : Environment) (p : Option ℕ) → Changed c e d → Changed c e (record d { pending = p })
  last : (d : Environment) (s : Status) → Changed c e d → Changed c e (record d { last = s })
  exits : (d : Environment) → c ≡ call.Exit → Changed c e d → Changed c e (record d { exit_asked = true })

-- what reads none of the parts
pub record Ignores {A : Type 0} (f : Environment → A) : Type 0 where
  pub heap : (d : Environment) (h : Heap) → f (record d { heap = h }) ≡ f d
  pub frames : (d : Environment) (fs : List Frame) → f (record d { frames = fs }) ≡ f d
  pub references : (d : Environment) (m : ReferenceMap) → f (record d { references = m }) ≡ f d
  pub attachments : (d : Environment) (a : Attachments) → f (record d { attachments = a }) ≡ f d
  pub book : (d : Environment) (b : Book) → f (record d { book = b }) ≡ f d
  pub hooks : (d : Environment) (hs : List Hook) → f (record d { hooks = hs }) ≡ f d
  pub async_hooks : (d : Environment) (hs : List AsyncHook) → f (record d { async_hooks = hs }) ≡ f d
  pub promises : (d : Environment) (p : Promises) → f (record d { promises = p }) ≡ f d
  pub buffers : (d : Environment) (b : Buffers) → f (record d { buffers = b }) ≡ f d
  pub instances : (d : Environment) (i : Instances) → f (record d { instances = i }) ≡ f d
  pub pending : (d : Environment) (p : Option ℕ) → f (record d { pending = p }) ≡ f d
  pub last : (d : Environment) (s : Status) → f (record d { last = s }) ≡ f d

-- is kept by all calls but those that change what is asked for by exit
pub changed-keeps : {A : Type 0} (f : Environment → A) (c : Call) (e d : Environment) → Ignores f
    → (c ≡ call.Exit → (g : Environment) → f (record g { exit_asked = true }) ≡ f g) → Changed c e d → f d ≡ f e
changed-keeps f c e _ i x stays = refl
changed-keeps f c e _ i x (heap d h r) = i.heap d h ∙ changed-keeps f c e d i x r
changed-keeps f c e _ i x (frames d fs r) = i.frames d fs ∙ changed-keeps f c e d i x r
changed-keeps f c e _ i x (references d m r) = i.references d m ∙ changed-keeps f c e d i x r
changed-keeps f c e _ i x (attachments d a r) = i.attachments d a ∙ changed-keeps f c e d i x r
changed-keeps f c e _ i x (book d b r) = i.book d b ∙ changed-keeps f c e d i x r
changed-keeps f c e _ i x (hooks d hs r) = i.hooks d hs ∙ changed-keeps f c e d i x r
changed-keeps f c e _ i x (async_hooks d hs r) = i.async_hooks d hs ∙ changed-keeps f c e d i x r
changed-keeps f c e _ i x (promises d p r) = i.promises d p ∙ changed-keeps f c e d i x r
changed-keeps f c e _ i x (buffers d b r) = i.buffers d b ∙ changed-keeps f c e d i x r
changed-keeps f c e _ i x (instances d j r) = i.instances d j ∙ changed-keeps f c e d i x r
changed-keeps f c e _ i x (pending d p r) = i.pending d p ∙ changed-keeps f c e d i x r
changed-keeps f c e _ i x (last d s r) = i.last d s ∙ changed-keeps f c e d i x r
changed-keeps f c e _ i x (exits d is r) = x is d ∙ changed-keeps f c e d i x r

-- EACH CALL
does-changed : (c : Call) (e : Environment) {made dropped : Option Duty} (d : Environment) → Effect c e made dropped d → Changed c e d
does-changed c e _ does.rests = stays
does-changed c e _ (does.tells n) = heap e _ stays
does-changed c e _ (does.makes payload) = heap e _ stays
does-changed c e _ (does.throws h) = pending e _ stays
does-changed c e _ (does.raises code message) = pending (record e { heap = _ }) _ (heap e _ stays)
does-changed c e _ does.clears = pending (record e { heap = _ }) None (heap e _ stays)
does-changed c e _ (does.recalls r v is) = heap e _ stays
does-changed c e _ (does.refers n h count) = references e _ stays
does-changed c e _ (does.deletes r) = references e _ stays
does-changed c e _ (does.counts r count) = references e _ stays
does-changed c e _ does.collects =
    buffers (record e { heap = _; references = _; attachments = _; book = _; promises = _ }) _
    (promises (record e { heap = _; references = _; attachments = _; book = _ }) _
    (book (record e { heap = _; references = _; attachments = _ }) _
    (attachments (record e { heap = _; references = _ }) _ (references (record e { heap = _ }) _ (heap e _ stays)))))
does-changed c e _ (does.promises n) = promises (record e { heap = _ }) _ (heap e _ stays)
does-changed c e _ (does.settles n h state p is) = book (record e { heap = _; promises = _ }) _ (promises (record e { heap = _ }) _ (heap e _ stays))
does-changed c e _ (does.reacts v entry payload) = book (record e { promises = _ }) _ (promises e _ stays)
does-changed c e _ (does.reads v is) = heap e _ stays
does-changed c e _ (does.makes_buffer size t) = heap (record e { buffers = _ }) _ (buffers e _ stays)
does-changed c e _ (does.makes_view about) = heap (record e { buffers = _ }) _ (buffers e _ stays)
does-changed c e _ (does.detaches v) = buffers e _ stays
does-changed c e _ (does.writes v at number) = buffers e _ stays
does-changed c e _ (does.adds_hook entry argument) = book (record e { hooks = _ }) _ (hooks e _ stays)
does-changed c e _ (does.removes_hook entry argument) =
    let t : Option ℕ = hook_ticket (caller_of e.frames) entry argument e.hooks in
    registered-by e.book t (λ s. Changed c e (withdrawing s (accepts out.Nothing (record e { hooks = unhooked t e.hooks }))).after)
    (hooks e _ stays) (λ n here is. book (record e { hooks = _ }) _ (hooks e _ stays))
does-changed c e _ (does.adds_async entry argument number is) =
    book (record e { hooks = _; async_hooks = _ }) _ (async_hooks (record e { hooks = _ }) _ (hooks e _ stays))
does-changed c e _ (does.removes_async number) =
    let t : Option ℕ = set_ticket number e.async_hooks in
    let left : List AsyncHook = with_removed number e.async_hooks in
    let changed : Changed c e (record e { hooks = unhooked t e.hooks; async_hooks = left }) = async_hooks (record e { hooks = _ }) left (hooks e _ stays) in
    registered-by e.book t
    (λ s. Changed c e (withdrawing s (accepts out.Nothing (record e { hooks = unhooked t e.hooks; async_hooks = left }))).after)
    changed (λ n here is. book (record e { hooks = _; async_hooks = left }) _ changed)
does-changed c e _ (does.withdraws t on is) = book e _ stays
does-changed c e _ (does.asks_exit is) = exits e is stays
does-changed c e _ (does.registers {d} payload entry hint before step) = book d _ (does-changed c e d before)
does-changed c e _ (does.attaches {d} {a} before there) = attachments d a (does-changed c e d before)
does-changed c e _ (does.sets {d} i before there) = instances d _ (does-changed c e d before)

effect-changed : (e : Environment) (c : Call) (n : ℕ) → Changed c e (effect e c n).after
effect-changed e c n = does-changed c e (effect e c n).after (effect-of e c n)

pub answer-changed : (e : Environment) (c : Call) (n : ℕ) → Changed c e (answer e c n).after
answer-changed e c n =
    answer-by e c n (λ a. Changed c e a.after) (λ s. stays) (λ s. pending (record e { heap = _ }) _ (heap e _ stays)) (λ none. effect-changed e c n)

pub call-changed : (e : Environment) (c : Call) (n : ℕ) → Changed c e (call_change e c n).after
call-changed e c n = frames (record (answer e c n).after { last = _ }) _ (last (answer e c n).after _ (answer-changed e c n))

pub asked-changed : (e : Environment) (c : Call) (n : ℕ) → Changed c e (asked_change e c n).after
asked-changed e c n = asked-by e c n (λ d. Changed c e d.after) (call-changed e c n)
    (λ receiver f args none. frames (record e { heap = _; last = _ }) _ (last (record e { heap = _ }) _ (heap e _ stays)))

-- AND EACH END OF A FRAME
pub ended-changed : (c : Call) (v : Option HandleId) (cut : Option Why) (e : Environment) → Changed c e (end_change v cut e).after
ended-changed c v cut e =
    let left : (h : Heap) → Changed c e (record e { heap = h; frames = tail e.frames }) = λ h. frames (record e { heap = h }) _ (heap e h stays) in
    let ends : (h : Heap) (s : Status) → Changed c e (record e { heap = h; frames = tail e.frames; last = s }) =
    λ h s. last (record e { heap = h; frames = tail e.frames }) s (left h) in
    ended-by v cut e (λ why d. Changed c e d.after) (λ w. ends _ _) (λ p. ends _ _) (ends _ _)
    (promises (record e { heap = _; frames = _; pending = _; book = _ }) _
    (book (record e { heap = _; frames = _; pending = _ }) _ (pending (record e { heap = _; frames = _ }) _ (left _))))
