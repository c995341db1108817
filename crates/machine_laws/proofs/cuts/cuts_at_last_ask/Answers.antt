use Rattle.std.proofs.Common.{◌≡◌, ap, ◌∙◌, ◌<◌, ◌==◌, Bool, false, cond, List, ◌∷◌, IsTrue, refl, subst, Option, Some, None}
use Rattle.std.proofs.lemmas.Bool.{lt-ltb}
use Rattle.napi_types.specs.declared.call.Ask.{Ask}
use Rattle.napi_types.specs.declared.call.Ask.TheVariants as ask
use Rattle.napi_types.specs.declared.call.Call.{Call}
use Rattle.napi_types.specs.declared.entry.Actor.TheVariants as actor
use Rattle.napi_types.specs.declared.entry.Entry.{Entry}
use Rattle.napi_types.specs.declared.entry.Out.{Out}
use Rattle.napi_types.specs.declared.entry.Why.{Why}
use Rattle.napi_types.specs.declared.entry.Why.TheVariants as why
use Rattle.napi_types.specs.declared.ids.HandleId.{HandleId}
use Rattle.napi_types.specs.plain.Entries.{cut_of}
use Rattle.napi_types.specs.plain.Guards.{is_shared}
use Rattle.napi_types.specs.parts.Frames.{asks_made, Frame, is_asking, duty_of, is_hub_duty}
use Rattle.napi_types.specs.scripts.Plans.{Plan, plan_of, Registers, registers_of}
use Rattle.napi_types.specs.environment.Changes.{may_ask, may_call}
use Rattle.napi_types.specs.environment.Ends.{end_change}
use Rattle.napi_types.specs.environment.Environment.{Environment}
use Rattle.napi_types.specs.runs.Machine.{Machine}
use Rattle.napi_types.specs.runs.Plan.{frame_ask, frames_ask, asked}
use Rattle.napi_types.specs.runs.Run.{IsNext}
use Rattle.napi_types.specs.runs.Step.{Step, may_cut, frame_step, step}
use Rattle.napi_types.proofs.plain.Conditions.{and-right}
use Rattle.napi_types.proofs.runs.Forms.{frame-next}
use Rattle.machine_laws.specs.Cuts.{cut_by, CutAtLastAsk, NotBeforeLastAsk, IsOnlyOfEnvironment, StandsInHub, OnlyLeavesWithoutAsks}
use Rattle.machine_laws.proofs.Cutting.{only-in-frame, spent-only, asks-next, early-none, call-may, cut-may, end-may, end-entry, ours-of, left-next, not-last}
use Rattle.machine_laws.proofs.cuts.cuts_at_last_ask.Goals as goal

last : CutAtLastAsk
last m f fs a e fits s =
    let spent : asks_made m.env.frames ≡ 65536 = ap asks_made e ∙ s in
    (asks-next m f fs a e fits spent, only-in-frame m a f fs (cut_by f.cause why.Asks) e (spent-only m a f fs e fits spent))

early : NotBeforeLastAsk
early m f fs a e s n = early-none m f fs a e s n

pub returns-clause-last : goal.returns-clause-last
returns-clause-last c = last

pub returns-clause-early : goal.returns-clause-early
returns-clause-early c = early

asked-none : (m : Machine) (f : Frame) (fs : List Frame) → m.env.frames ≡ f ∷ fs → f.makes_asks ≡ false → (ps : List Plan) (rss : Registers) (a : Ask)
    → asked ps rss m a actor.Env ≡ ask.Leave None
asked-none m f fs stands silent ps rss a =
    ap (λ l. frames_ask ps rss l a) stands
    ∙ ap (λ b. cond b (frame_ask (plan_of ps f.addon) (registers_of rss f.addon) f a) (ask.Leave None)) silent

-- it makes no call
no-call : (e : Environment) (f : Frame) (fs : List Frame) → e.frames ≡ f ∷ fs → f.makes_asks ≡ false → IsTrue (may_call e) → ⊥
no-call e f fs stands silent h =
    let k : IsTrue (is_asking e.frames) = and-right (may_ask e) (is_asking e.frames) h in
    let none : IsTrue false = subst (λ b. IsTrue b) (ap is_asking stands ∙ silent) k in cc

-- it made fewer asks than it may
not-spent : (e : Environment) (f : Frame) (fs : List Frame) → e.frames ≡ f ∷ fs → f.asks < 65536 → IsTrue (asks_made e.frames == 65536) → ⊥
not-spent e f fs stands below h = not-last f.asks below (rw stands at h)

-- whether its end stands in the history
abbrev is_ours : Machine → Bool
is_ours m = is_hub_duty (duty_of m.env.frames)

none-at-call : (m : Machine) (f : Frame) (fs : List Frame) → m.env.frames ≡ f ∷ fs → f.makes_asks ≡ false → f.asks < 65536
    → (c : Call) (o : Out) (w : Option Why)
    → IsTrue (frame_step m (ask.Do c) o w).may → ⊥
none-at-call m f fs stands silent below c o (Some why.Asks) h =
    not-spent m.env f fs stands below (end-may m (end_change None (Some why.Asks) m.env) (may_cut m (ask.Do c) why.Asks) (is_ours m) h)
none-at-call m f fs stands silent below c o (Some why.Full) h =
    no-call m.env f fs stands silent (cut-may m c why.Full (end-may m (end_change None (Some why.Full) m.env) (may_cut m (ask.Do c) why.Full) (is_ours m) h) (λ z. cc))
none-at-call m f fs stands silent below c o (Some why.Memory) h =
    no-call m.env f fs stands silent (cut-may m c why.Memory (end-may m (end_change None (Some why.Memory) m.env) (may_cut m (ask.Do c) why.Memory) (is_ours m) h) (λ z. cc))
none-at-call m f fs stands silent below c o None h = no-call m.env f fs stands silent (call-may m c o (is_shared c) h)

calls : (m : Machine) (f : Frame) (fs : List Frame) → m.env.frames ≡ f ∷ fs → f.makes_asks ≡ false → f.asks < 65536 → (c : Call) (x : Entry) → x.actor ≡ actor.Env
    → IsNext m (ask.Do c) x → ⊥
calls m f fs stands silent below c x who next =
    let s : step m (ask.Do c) x ≡ frame_step m (ask.Do c) x.reply.out (cut_of x.reply.out) = frame-next m (ask.Do c) x f fs who stands in
    none-at-call m f fs stands silent below c x.reply.out (cut_of x.reply.out) (subst (λ (t : Step). IsTrue t.may) s next.1)

-- its end may come
only-end : (m : Machine) (f : Frame) (fs : List Frame) → m.env.frames ≡ f ∷ fs → StandsInHub m.hub f → f.asks < 65536 → (v : Option HandleId) (o : Out) (w : Option Why)
    → IsTrue (frame_step m (ask.Leave v) o w).may → (frame_step m (ask.Leave v) o w).entry ≡ (end_change v None m.env).entry
only-end m f fs stands fits below v o None h = end-entry m f fs v None (may_ask m.env) (is_ours m) stands (ours-of m f fs stands) fits
only-end m f fs stands fits below v o (Some why.Asks) h =
    absurd (not-spent m.env f fs stands below (end-may m (end_change None (Some why.Asks) m.env) (may_cut m (ask.Leave v) why.Asks) (is_ours m) h))
only-end m f fs stands fits below v o (Some why.Full) h = let no : IsTrue false = end-may m (end_change None (Some why.Full) m.env) false (is_ours m) h in cc
only-end m f fs stands fits below v o (Some why.Memory) h = let no : IsTrue false = end-may m (end_change None (Some why.Memory) m.env) false (is_ours m) h in cc

leaves : (m : Machine) (f : Frame) (fs : List Frame) → m.env.frames ≡ f ∷ fs → StandsInHub m.hub f → f.asks < 65536 → (v : Option HandleId)
    → IsOnlyOfEnvironment m (ask.Leave v) (end_change v None m.env).entry
leaves m f fs stands fits below v = (
  left-next m f fs (ask.Leave v) v None (may_ask m.env) stands fits refl (rw stands (lt-ltb f.asks 65536 below)),
  only-in-frame m (ask.Leave v) f fs (end_change v None m.env).entry stands (only-end m f fs stands fits below v),
)

law : OnlyLeavesWithoutAsks
law m f fs stands fits silent below = record {
  asked = asked-none m f fs stands silent;
  leaves = leaves m f fs stands fits below;
  calls = calls m f fs stands silent below;
}

pub returns-clause-leaves : goal.returns-clause-leaves
returns-clause-leaves c = law
