-- Where a frame stands: what may come next.
use Rattle.std.proofs.Common.{◌≡◌, ◌≢◌, ◌<◌, ℕ, ◌==◌, ◌&&◌, ◌||◌, ◌⊎◌, inl, inr, false, cond, List, ◌∷◌, IsTrue, refl, ap, sym, ◌∙◌, subst, Option, Some, None, IsSome, arith, ◌+◌, Bool, true, not, nat_lt}
use Rattle.napi_types.specs.declared.call.Ask.{Ask}
use Rattle.napi_types.specs.declared.call.Ask.TheVariants as ask
use Rattle.napi_types.specs.declared.call.Call.{Call}
use Rattle.napi_types.specs.declared.call.Call.TheVariants as call
use Rattle.napi_types.specs.declared.duties.DueInfo.{DueInfo}
use Rattle.napi_types.specs.declared.entry.Actor.TheVariants as actor
use Rattle.napi_types.specs.declared.entry.Cause.{Cause}
use Rattle.napi_types.specs.declared.entry.Cause.TheVariants as cause
use Rattle.napi_types.specs.declared.entry.Entry.{Entry}
use Rattle.napi_types.specs.declared.entry.HostStep.TheVariants as host
use Rattle.napi_types.specs.declared.entry.Out.{Out}
use Rattle.napi_types.specs.declared.entry.Why.{Why}
use Rattle.napi_types.specs.declared.entry.Why.TheVariants as why
use Rattle.napi_types.specs.declared.ids.HandleId.{HandleId}
use Rattle.napi_types.specs.plain.Entries.{host_entry, cut_of}
use Rattle.napi_types.specs.plain.Guards.{is_registering, is_shared, is_growing}
use Rattle.napi_types.specs.plain.Room.{Room, may_want_memory, need, is_full}
use Rattle.napi_types.specs.parts.Frames.{Frame, cause_of, duty_of, is_asking, is_hub_duty, asks_made}
use Rattle.napi_types.specs.environment.Changes.{Change, is_fresh_result, may_ask, may_call}
use Rattle.napi_types.specs.environment.Ends.{end_out, end_change_by, end_change}
use Rattle.napi_types.specs.environment.Environment.{Environment}
use Rattle.napi_types.specs.environment.JournalRoom.{journal_room}
use Rattle.napi_types.specs.environment.SharedCalls.{shared_entry}
use Rattle.napi_types.specs.hub.HistoryRoom.{history_room}
use Rattle.napi_types.specs.hub.Hub.{Hub}
use Rattle.napi_types.specs.hub.HubStep.{HubStep}
use Rattle.napi_types.specs.hub.HubEvents.{is_frame_end, frame_end_step}
use Rattle.napi_types.specs.hub.HubSteps.{hub_step}
use Rattle.napi_types.specs.runs.CallRoom.{room_of}
use Rattle.napi_types.specs.runs.Machine.{Machine}
use Rattle.napi_types.specs.runs.Run.{IsNext}
use Rattle.napi_types.specs.runs.Step.{Step, may_cut, call_step_on, end_step_on, frame_step, step}
use Rattle.napi_types.proofs.plain.Conditions.{and-left, and-right, and-both}
use Rattle.napi_types.proofs.plain.CallFacts.{needs-place}
use Rattle.napi_types.proofs.environment.FrameEnds.{Ends, ended-ends}
use Rattle.napi_types.proofs.runs.Forms.{frame-next}
use Rattle.napi_types.proofs.runs.SharedSteps.{hub_step-end}
use Rattle.machine_laws.specs.Cuts.{cut_by, StandsInHub, IsCutFull, first_called, two_left}
use Rattle.std.proofs.lemmas.Bool.{or_left, or_right, lt-ltb}
use Rattle.machine_laws.proofs.Others.{by-env-alone}

-- whatever a frame may leave is one entry: so it is the only one that may come of the environment
pub only-in-frame : (m : Machine) (a : Ask) (f : Frame) (fs : List Frame) (y : Entry) → m.env.frames ≡ f ∷ fs
    → ((o : Out) (w : Option Why) → IsTrue (frame_step m a o w).may → (frame_step m a o w).entry ≡ y)
    → (x : Entry) → x.actor ≡ actor.Env → IsNext m a x → x ≡ y
only-in-frame m a f fs y e k x who n =
    let s : step m a x ≡ frame_step m a x.reply.out (cut_of x.reply.out) = frame-next m a x f fs who e in
    let P : Step → Type 0 = λ t. IsTrue t.may in
    n.0 ∙ ap (λ t. t.entry) s ∙ k x.reply.out (cut_of x.reply.out) (subst P s n.1)

-- WHAT MAY COME
-- of a call, whose frame may make it and where there is room
pub call-may : (m : Machine) (c : Call) (o : Out) (b : Bool) → IsTrue (call_step_on b m c o).may → IsTrue (may_call m.env)
call-may m c o false h = and-left (may_call m.env) (is_fresh_result m.env o) (and-left (may_call m.env && is_fresh_result m.env o) (not (is_full (room_of m c) c)) h)
call-may m c o true h =
    and-left (may_call m.env) (not (is_full (room_of m c) c))
    (and-left (may_call m.env && not (is_full (room_of m c) c)) (hub_step m.hub (shared_entry m.env c o)).may h)

pub call-room : (m : Machine) (c : Call) (o : Out) (b : Bool) → IsTrue (call_step_on b m c o).may → IsTrue (not (is_full (room_of m c) c))
call-room m c o false h = and-right (may_call m.env && is_fresh_result m.env o) (not (is_full (room_of m c) c)) h
call-room m c o true h =
    and-right (may_call m.env) (not (is_full (room_of m c) c))
    (and-left (may_call m.env && not (is_full (room_of m c) c)) (hub_step m.hub (shared_entry m.env c o)).may h)

-- of a frame's end
pub end-may : (m : Machine) (c : Change) (may ours : Bool) → IsTrue (end_step_on ours m c may).may → IsTrue may
end-may m c may false h = h
end-may m c may true h = and-left may (hub_step m.hub c.entry).may h

-- of a cut at a call
pub cut-may : (m : Machine) (c : Call) (w : Why) → IsTrue (may_cut m (ask.Do c) w) → (w ≡ why.Asks → ⊥) → IsTrue (may_call m.env)
cut-may m c why.Full h other = and-left (may_call m.env) (is_full (room_of m c) c) h
cut-may m c why.Memory h other =
    and-left (may_call m.env) (may_want_memory (room_of m c) c)
    (and-left (may_call m.env && may_want_memory (room_of m c) c) (is_shared c || not (is_full (room_of m c) c)) h)
cut-may m c why.Asks h other = absurd (other refl)

-- THE END OF A FRAME
-- that of an outermost one is no call's
outermost-end : (v : Option HandleId) (cut : Option Why) (e : Environment) (c : Cause) → c ≢ cause.Call
    → (end_change_by v cut e c).entry ≡ host_entry host.End (end_change_by v cut e c).entry.reply.out
outermost-end v cut e cause.Call other = absurd (other refl)
outermost-end v cut e _ other = refl

outermost-out : (v : Option HandleId) (cut : Option Why) (e : Environment) (c : Cause) → c ≢ cause.Call → is_frame_end (end_change_by v cut e c).entry.reply.out ≡ true
outermost-out v cut e cause.Call other = absurd (other refl)
outermost-out v cut e _ other = told cut e.pending
  where
    told : (cut : Option Why) (pending : Option ℕ) → is_frame_end (end_out cut pending) ≡ true
    told (Some w) pending = refl
    told None (Some p) = refl
    told None None = refl

-- the hub's step of it has the same entry, and may come
record EndsInHub (h : Hub) (x : Entry) : Type 0 where
  pub entry : (hub_step h x).entry ≡ x
  pub may : IsTrue (hub_step h x).may

stood-end : (h : Hub) (x : Entry) (d : Option DueInfo) → IsSome d → x ≡ host_entry host.End x.reply.out → is_frame_end x.reply.out ≡ true
    → ((frame_end_step h x d).entry ≡ x) × IsTrue (frame_end_step h x d).may
stood-end h x (Some d) some is told = (sym is, told)
stood-end h x None some is told = cc

ends-in-hub : (m : Machine) (f : Frame) (fs : List Frame) (v : Option HandleId) (cut : Option Why) → m.env.frames ≡ f ∷ fs → IsSome m.hub.standing → f.cause ≢ cause.Call
    → EndsInHub m.hub (end_change v cut m.env).entry
ends-in-hub m f fs v cut stands some uncalled =
    let x : Entry = (end_change v cut m.env).entry in
    let other : cause_of m.env.frames ≢ cause.Call = λ z. uncalled (sym (ap cause_of stands) ∙ z) in
    let both = stood-end m.hub x m.hub.standing some (outermost-end v cut m.env (cause_of m.env.frames) other) (outermost-out v cut m.env (cause_of m.env.frames) other) in
    let same : hub_step m.hub x ≡ frame_end_step m.hub x m.hub.standing = hub_step-end m.hub x (ended-ends v cut m.env).who (ended-ends v cut m.env).is in
    record { entry = ap (λ (t : HubStep). t.entry) same ∙ both.0; may = subst (λ (t : HubStep). IsTrue t.may) (sym same) both.1 }

-- so it has one entry, on whichever list it stands
pub end-entry : (m : Machine) (f : Frame) (fs : List Frame) (v : Option HandleId) (cut : Option Why) (may ours : Bool) → m.env.frames ≡ f ∷ fs → is_hub_duty f.duty ≡ ours
    → StandsInHub m.hub f → (end_step_on ours m (end_change v cut m.env) may).entry ≡ (end_change v cut m.env).entry
end-entry m f fs v cut may false stands is fits = refl
end-entry m f fs v cut may true stands is fits = (ends-in-hub m f fs v cut stands (fits is).0 (fits is).1).entry

end-comes : (m : Machine) (f : Frame) (fs : List Frame) (v : Option HandleId) (cut : Option Why) (may ours : Bool) → m.env.frames ≡ f ∷ fs → is_hub_duty f.duty ≡ ours
    → StandsInHub m.hub f → IsTrue may → IsTrue (end_step_on ours m (end_change v cut m.env) may).may
end-comes m f fs v cut may false stands is fits here = here
end-comes m f fs v cut may true stands is fits here = and-both may (hub_step m.hub (end_change v cut m.env).entry).may here (ends-in-hub m f fs v cut stands (fits is).0 (fits is).1).may

abbrev is_ours : Machine → Bool
is_ours m = is_hub_duty (duty_of m.env.frames)

pub ours-of : (m : Machine) (f : Frame) (fs : List Frame) → m.env.frames ≡ f ∷ fs → is_hub_duty f.duty ≡ is_ours m
ours-of m f fs stands = sym (ap (λ l. is_hub_duty (duty_of l)) stands)

-- the end that a frame leaves may come
pub left-next : (m : Machine) (f : Frame) (fs : List Frame) (a : Ask) (v : Option HandleId) (cut : Option Why) (may : Bool) → m.env.frames ≡ f ∷ fs → StandsInHub m.hub f
    → frame_step m a (end_change v cut m.env).entry.reply.out cut ≡ end_step_on (is_ours m) m (end_change v cut m.env) may → IsTrue may
    → IsNext m a (end_change v cut m.env).entry
left-next m f fs a v cut may stands fits same here =
    let y : Entry = (end_change v cut m.env).entry in
    let ends : Ends cut y = ended-ends v cut m.env in
    let P : Step → Type 0 = λ t. (y ≡ t.entry) × IsTrue t.may in
    let s : step m a y ≡ end_step_on (is_ours m) m (end_change v cut m.env) may = frame-next m a y f fs ends.who stands ∙ ap (frame_step m a y.reply.out) ends.told ∙ same in
    subst P (sym s) (sym (end-entry m f fs v cut may (is_ours m) stands (ours-of m f fs stands) fits), end-comes m f fs v cut may (is_ours m) stands (ours-of m f fs stands) fits here)

-- THE LAST ASK
-- a frame that made its last ask may not ask
spent-asks : (e : Environment) → asks_made e.frames ≡ 65536 → IsTrue (may_ask e) → ⊥
spent-asks e s h = let k : IsTrue false = rw s at h in cc

-- nor make a call
spent-calls : (e : Environment) → asks_made e.frames ≡ 65536 → IsTrue (may_call e) → ⊥
spent-calls e s h = spent-asks e s (and-left (may_ask e) (is_asking e.frames) h)

-- a frame that is cut ends so
ended-cut : (e : Environment) (w : Why) (c : Cause) → (end_change_by None (Some w) e c).entry ≡ cut_by c w
ended-cut e w cause.Call = refl
ended-cut e w c = refl

pub cut-entry : (e : Environment) (w : Why) (f : Frame) (fs : List Frame) → e.frames ≡ f ∷ fs → (end_change None (Some w) e).entry ≡ cut_by f.cause w
cut-entry e w f fs s = ended-cut e w (cause_of e.frames) ∙ ap (λ l. cut_by (cause_of l) w) s

cut-told : (m : Machine) (f : Frame) (fs : List Frame) (a : Ask) (w : Why) → m.env.frames ≡ f ∷ fs → StandsInHub m.hub f
    → (end_step_on (is_ours m) m (end_change None (Some w) m.env) (may_cut m a w)).entry ≡ cut_by f.cause w
cut-told m f fs a w stands fits = end-entry m f fs None (Some w) (may_cut m a w) (is_ours m) stands (ours-of m f fs stands) fits ∙ cut-entry m.env w f fs stands

pub spent-only : (m : Machine) (a : Ask) (f : Frame) (fs : List Frame) → m.env.frames ≡ f ∷ fs → StandsInHub m.hub f → asks_made m.env.frames ≡ 65536 → (o : Out) (w : Option Why)
    → IsTrue (frame_step m a o w).may → (frame_step m a o w).entry ≡ cut_by f.cause why.Asks
spent-only m a f fs e fits s o (Some why.Asks) h = cut-told m f fs a why.Asks e fits
spent-only m (ask.Do c) f fs e fits s o (Some why.Full) h =
    absurd (spent-calls m.env s (cut-may m c why.Full (end-may m (end_change None (Some why.Full) m.env) (may_cut m (ask.Do c) why.Full) (is_ours m) h) (λ z. cc)))
spent-only m (ask.Do c) f fs e fits s o (Some why.Memory) h =
    absurd (spent-calls m.env s (cut-may m c why.Memory (end-may m (end_change None (Some why.Memory) m.env) (may_cut m (ask.Do c) why.Memory) (is_ours m) h) (λ z. cc)))
spent-only m (ask.Do c) f fs e fits s o None h = absurd (spent-calls m.env s (call-may m c o (is_shared c) h))
spent-only m (ask.Leave v) f fs e fits s o (Some why.Full) h =
    let no : IsTrue false = end-may m (end_change None (Some why.Full) m.env) false (is_ours m) h in cc
spent-only m (ask.Leave v) f fs e fits s o (Some why.Memory) h =
    let no : IsTrue false = end-may m (end_change None (Some why.Memory) m.env) false (is_ours m) h in cc
spent-only m (ask.Leave v) f fs e fits s o None h = absurd (spent-asks m.env s (end-may m (end_change v None m.env) (may_ask m.env) (is_ours m) h))

pub asks-next : (m : Machine) (f : Frame) (fs : List Frame) (a : Ask) → m.env.frames ≡ f ∷ fs → StandsInHub m.hub f → asks_made m.env.frames ≡ 65536
    → IsNext m a (cut_by f.cause why.Asks)
asks-next m f fs a e fits s =
    subst (IsNext m a) (cut-entry m.env why.Asks f fs e) (left-next m f fs a None (Some why.Asks) (may_cut m a why.Asks) e fits refl (rw s refl))

pub not-last : (n : ℕ) → n < 65536 → IsTrue (n == 65536) → ⊥
not-last n h k = grind arith

-- the cut after the last ask does not come before it
told-cut : (c : Cause) (w : Why) → cut_of (cut_by c w).reply.out ≡ Some w
told-cut cause.Call w = refl
told-cut c w = refl

told-actor : (c : Cause) (w : Why) → (cut_by c w).actor ≡ actor.Env
told-actor cause.Call w = refl
told-actor c w = refl

pub early-none : (m : Machine) (f : Frame) (fs : List Frame) (a : Ask) → m.env.frames ≡ f ∷ fs → f.asks < 65536 → IsNext m a (cut_by f.cause why.Asks) → ⊥
early-none m f fs a e h n =
    let x : Entry = cut_by f.cause why.Asks in
    let P : Step → Type 0 = λ t. IsTrue t.may in
    let s : step m a x ≡ frame_step m a x.reply.out (Some why.Asks) =
    frame-next m a x f fs (told-actor f.cause why.Asks) e ∙ ap (frame_step m a x.reply.out) (told-cut f.cause why.Asks) in
    let k : IsTrue (asks_made m.env.frames == 65536) = end-may m (end_change None (Some why.Asks) m.env) (may_cut m a why.Asks) (is_ours m) (subst P s n.1) in
    not-last f.asks h (rw e at k)

-- WHERE A CALL IS FULL
-- it is where the places of its list are taken
pub taken-full : (limit : ℕ) (c : Call) → is_full (record { limit = limit; occupied = limit }) c ≡ true
taken-full limit c = lt-ltb limit (limit + need c) (omega (arith, needs-place c))

both-full : (b : Bool) (history journal : Room) (c : Call) → is_full history c ≡ true → is_full journal c ≡ true → is_full (cond b history journal) c ≡ true
both-full true history journal c one two = one
both-full false history journal c one two = two

-- and it may want memory in a list of few places
pub taken-wants : (c : Call) → may_want_memory (record { limit = 5; occupied = 5 }) c ≡ true
taken-wants c = or_right (is_growing c) (nat_lt 5 (5 + need c)) (lt-ltb 5 (5 + need c) (omega (arith, needs-place c)))

pub full-there : (c : Call) → is_full (room_of first_called c) c ≡ true
full-there c = both-full (is_shared c) (history_room first_called.hub 0 5) (journal_room first_called.env 3 5) c (taken-full 5 c) (taken-full 5 c)

-- where two places are left in the journal a call that registers is
needs-three : (c : Call) → is_shared c ≡ false → is_registering c ≡ true → need c ≡ 3
needs-three (call.CreateExternal payload None hint) alone registers = cc
needs-three (call.CreateExternal payload (Some entry) hint) alone registers = refl
needs-three (call.Wrap h payload None hint wanted) alone registers = cc
needs-three (call.Wrap h payload (Some entry) hint wanted) alone registers = refl
needs-three (call.AddFinalizer h payload entry hint wanted) alone registers = refl
needs-three (call.SetInstanceData payload None hint) alone registers = cc
needs-three (call.SetInstanceData payload (Some entry) hint) alone registers = refl
needs-three (call.AddEnvCleanupHook entry argument) alone registers = refl
needs-three (call.AddAsyncCleanupHook entry argument) alone registers = refl
needs-three (call.AddReaction h entry payload) alone registers = refl
needs-three (call.CreateAsyncWork job completion payload) alone registers = cc
needs-three (call.QueueAsyncWork w) alone registers = cc
needs-three (call.CreateThreadsafeFunction f entry most initial finalizer context) alone registers = cc
needs-three (call.CallThreadsafeFunction f payload mode) alone registers = cc
needs-three c alone registers = cc

pub two-full : (c : Call) → is_registering c ≡ true → is_full (room_of two_left c) c ≡ true
two-full c registers = by (is_shared c) refl
  where
    by : (b : Bool) → is_shared c ≡ b → is_full (cond b (history_room two_left.hub 0 5) (journal_room two_left.env 2 6)) c ≡ true
    by true shared = taken-full 5 c
    by false alone = ap (λ n. nat_lt 6 (4 + n)) (needs-three c alone registers)

-- where a call is full its frame is cut
not-both : (b : Bool) → IsTrue b → IsTrue (not b) → ⊥
not-both true h k = cc
not-both false h k = cc

-- for want of memory only where it is shared
wanted-shares : (m : Machine) (c : Call) → is_full (room_of m c) c ≡ true → IsTrue (may_cut m (ask.Do c) why.Memory) → is_shared c ≡ true
wanted-shares m c full h =
    let either : IsTrue (is_shared c || not (is_full (room_of m c) c)) =
    and-right (may_call m.env && may_want_memory (room_of m c) c) (is_shared c || not (is_full (room_of m c) c)) h in
    by (is_shared c) (is_full (room_of m c) c) full either
  where
    by : (a b : Bool) → b ≡ true → IsTrue (a || not b) → a ≡ true
    by true b is either = refl
    by false true is either = cc
    by false false is either = cc

-- whatever may come there
full-or-wanted : (m : Machine) (c : Call) (f : Frame) (fs : List Frame) → m.env.frames ≡ f ∷ fs → StandsInHub m.hub f → is_full (room_of m c) c ≡ true
    → IsTrue (not (asks_made m.env.frames == 65536)) → (o : Out) (w : Option Why) → IsTrue (frame_step m (ask.Do c) o w).may
    → ((frame_step m (ask.Do c) o w).entry ≡ cut_by f.cause why.Full) ⊎ ((frame_step m (ask.Do c) o w).entry ≡ cut_by f.cause why.Memory) × (is_shared c ≡ true)
full-or-wanted m c f fs e fits full early o (Some why.Full) h = inl (cut-told m f fs (ask.Do c) why.Full e fits)
full-or-wanted m c f fs e fits full early o (Some why.Asks) h =
    absurd (not-both (asks_made m.env.frames == 65536) (end-may m (end_change None (Some why.Asks) m.env) (may_cut m (ask.Do c) why.Asks) (is_ours m) h) early)
full-or-wanted m c f fs e fits full early o (Some why.Memory) h =
    let k : IsTrue (may_cut m (ask.Do c) why.Memory) = end-may m (end_change None (Some why.Memory) m.env) (may_cut m (ask.Do c) why.Memory) (is_ours m) h in
    inr (cut-told m f fs (ask.Do c) why.Memory e fits, wanted-shares m c full k)
full-or-wanted m c f fs e fits full early o None h = absurd (not-both (is_full (room_of m c) c) full (call-room m c o (is_shared c) h))

-- where a call is full the cut comes, where the frame may call
cut-comes : (m : Machine) (c : Call) (w : Why) (f : Frame) (fs : List Frame) → m.env.frames ≡ f ∷ fs → StandsInHub m.hub f → IsTrue (may_cut m (ask.Do c) w)
    → IsNext m (ask.Do c) (cut_by f.cause w)
cut-comes m c w f fs e fits may =
    subst (IsNext m (ask.Do c)) (cut-entry m.env w f fs e) (left-next m f fs (ask.Do c) None (Some w) (may_cut m (ask.Do c) w) e fits refl may)

full-next : (m : Machine) (c : Call) (f : Frame) (fs : List Frame) → m.env.frames ≡ f ∷ fs → StandsInHub m.hub f → is_full (room_of m c) c ≡ true
    → IsTrue (not (asks_made m.env.frames == 65536)) → (x : Entry) → x.actor ≡ actor.Env → IsNext m (ask.Do c) x
    → (x ≡ cut_by f.cause why.Full) ⊎ (x ≡ cut_by f.cause why.Memory) × (is_shared c ≡ true)
full-next m c f fs e fits full early x who next =
    let s : step m (ask.Do c) x ≡ frame_step m (ask.Do c) x.reply.out (cut_of x.reply.out) = frame-next m (ask.Do c) x f fs who e in
    let is : x ≡ (frame_step m (ask.Do c) x.reply.out (cut_of x.reply.out)).entry = next.0 ∙ ap (λ (t : Step). t.entry) s in
    elim (full-or-wanted m c f fs e fits full early x.reply.out (cut_of x.reply.out) (subst (λ (t : Step). IsTrue t.may) s next.1)) [
      | inl there ↦ inl (is ∙ there)
      | inr there ↦ inr (is ∙ there.0, there.1)
    ]

-- the init frame of a machine without threads and workers is cut as full, where the history has no place
pub cut-full : (m : Machine) (c : Call) (f : Frame) (fs : List Frame) → m.env.frames ≡ f ∷ fs → f.cause ≡ cause.Init → is_hub_duty f.duty ≡ false
    → m.hub.threads ≡ 0 → m.hub.workers ≡ 0 → IsTrue (may_call m.env) → IsTrue (not (asks_made m.env.frames == 65536))
    → is_full (room_of m c) c ≡ true → (is_shared c ≡ true → may_want_memory (room_of m c) c ≡ true) → IsCutFull m c
cut-full m c f fs e init plain no_threads no_workers calls early full wants = record {
  full = subst (λ by. IsNext m (ask.Do c) (cut_by by why.Full)) init (cut-comes m c why.Full f fs e fits (and-both (may_call m.env) (is_full (room_of m c) c) calls full));
  local = λ alone y next. local alone y (there y next);
  wanted = λ shares. subst (λ by. IsNext m (ask.Do c) (cut_by by why.Memory)) init (cut-comes m c why.Memory f fs e fits (wanted shares));
  shared = λ shares y next. shared y (there y next);
}
  where
    fits : StandsInHub m.hub f
    fits ours = let no : false ≡ true = sym plain ∙ ours in cc

    there : (y : Entry) → IsNext m (ask.Do c) y → (y ≡ cut_by f.cause why.Full) ⊎ (y ≡ cut_by f.cause why.Memory) × (is_shared c ≡ true)
    there y next = full-next m c f fs e fits full early y (by-env-alone m (ask.Do c) y no_threads no_workers next) next

    wanted : is_shared c ≡ true → IsTrue (may_cut m (ask.Do c) why.Memory)
    wanted shares =
        and-both (may_call m.env && may_want_memory (room_of m c) c) (is_shared c || not (is_full (room_of m c) c))
        (and-both (may_call m.env) (may_want_memory (room_of m c) c) calls (wants shares)) (or_left (is_shared c) (not (is_full (room_of m c) c)) shares)

    local : is_shared c ≡ false → (y : Entry) → (y ≡ cut_by f.cause why.Full) ⊎ (y ≡ cut_by f.cause why.Memory) × (is_shared c ≡ true) → y ≡ cut_by cause.Init why.Full
    local alone y (inl is) = is ∙ ap (λ by. cut_by by why.Full) init
    local alone y (inr is) = let no : false ≡ true = sym alone ∙ is.1 in cc

    shared : (y : Entry) → (y ≡ cut_by f.cause why.Full) ⊎ (y ≡ cut_by f.cause why.Memory) × (is_shared c ≡ true)
        → (y ≡ cut_by cause.Init why.Full) ⊎ (y ≡ cut_by cause.Init why.Memory)
    shared y (inl is) = inl (is ∙ ap (λ by. cut_by by why.Full) init)
    shared y (inr is) = inr (is.0 ∙ ap (λ by. cut_by by why.Memory) init)
