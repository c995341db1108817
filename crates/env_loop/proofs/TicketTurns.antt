-- The frame of a ticket begins.
use Rattle.std.proofs.Common.{◌≡◌, ◌<◌, ◌≤◌, ◌++◌, ◌∙◌, ℕ, nat_lt, Bool, true, false, cond, List, [], ◌∷◌, length, set, Option, Some, None, is_some, option_map, refl, ap, subst, sym, arith}
use Rattle.std.specs.Option.{option_or, option_to_list}
use Rattle.std.proofs.lemmas.List.Elements.{All-head}
use Rattle.napi_types.specs.declared.call.Ask.TheVariants as ask
use Rattle.napi_types.specs.declared.duties.DueInfo.{DueInfo}
use Rattle.napi_types.specs.declared.entry.Entry.{Entry}
use Rattle.napi_types.specs.declared.entry.LoopEnd.TheVariants as loop_end
use Rattle.napi_types.specs.declared.entry.Phase.{Phase}
use Rattle.napi_types.specs.declared.entry.Phase.TheVariants as phase
use Rattle.napi_types.specs.parts.Book.{Registration, registration_at, lowest_due, due_info}
use Rattle.napi_types.specs.parts.Duties.{duties_of}
use Rattle.napi_types.specs.parts.Frames.{Frame, frame_of_duty}
use Rattle.napi_types.specs.scripts.Plans.{Plan}
use Rattle.napi_types.specs.environment.Environment.{Environment}
use Rattle.napi_types.specs.environment.Hooked.{IsHooked}
use Rattle.napi_types.specs.environment.Owners.{IsOwned}
use Rattle.napi_types.specs.environment.Tickets.{ticket_change, ticket_in, next_ticket}
use Rattle.napi_types.specs.hub.Hub.{Hub}
use Rattle.napi_types.specs.runs.Begins.{duty_info}
use Rattle.napi_types.specs.runs.Choice.{hub_choice, local_choice, local_choice_in, waiting_hooks}
use Rattle.napi_types.specs.runs.Loop.{Opens, Inits, Tickets, EndsLoop, IsGone}
use Rattle.napi_types.specs.runs.Machine.{Machine}
use Rattle.napi_types.specs.runs.Plan.{with_addon_gifts, with_begun_gifts}
use Rattle.napi_types.specs.runs.Setting.{Setting}
use Rattle.napi_types.specs.runs.Step.{step, chosen, env_step, locally, ticket_step}
use Rattle.napi_types.proofs.environment.HookedSteps.{hooked-begun}
use Rattle.napi_types.proofs.environment.Owners.{owned-ticket, within-ticket}
use Rattle.napi_types.proofs.environment.Registrations.{uncalled-begun}
use Rattle.napi_types.proofs.environment.StandingFrames.{nested-ticket}
use Rattle.env_core.proofs.Cores.{next-may}
use Rattle.addon_trait.specs.Addons.{seen_of}
use Rattle.env_core.specs.Core.{Core, after_change}
use Rattle.env_core.specs.CoreSteps.{BeginsTicket}
use Rattle.env_loop.specs.declared.run.FrameEnd.{FrameEnd}
use Rattle.env_loop.specs.declared.turn.NextEvent.TheVariants as next
use Rattle.env_loop.specs.Recording.{AddonStates, HasSeen, machine_of, IsRecorded, RecordsOwn, KeepsRecord}
use Rattle.env_loop.specs.RecordedRuns.{Run, IsSoundEnvironment, HoldsDuty, IsRunning, hub_begun}
use Rattle.env_loop.specs.Turns.{next_ticket_info, IsNextEvent, IsMadeTurn}
use Rattle.env_loop.proofs.LocalGoing.{local-goes}
use Rattle.env_loop.proofs.MadeTurns.{made-turn, running-idle}
use Rattle.env_loop.proofs.Recordings.{own-grown}
use Rattle.env_loop.proofs.RegisterTurns.{Kept, begun-touched, others-given, given-others, given-kept}
use Rattle.env_loop.proofs.SeenLists.{begins-chosen, seen-begun}
use Rattle.env_loop.proofs.Turns.{IsIdleRun}

-- THE NEXT EVENT
-- where the frame of a ticket is the event that the environment decides, that ticket is next, and in the loop exit was not asked
pub record NextTicket (e : Environment) (n : ℕ) : Type 0 where
  pub next : next_ticket e ≡ Some n
  pub unasked : e.phase ≡ phase.Live → e.exit_asked ≡ false

never-opened : (opened more : Bool) (k n : ℕ) → cond opened (cond more (Some (Inits k)) None) (Some Opens) ≡ Some (Tickets n) → ⊥
never-opened true true k n is = cc
never-opened true false k n is = cc
never-opened false more k n is = cc

in-loop : (asked : Bool) (o : Option ℕ) (n : ℕ) → cond asked (Some (EndsLoop loop_end.Exit)) (option_map Tickets o) ≡ Some (Tickets n)
    → (asked ≡ false) × (o ≡ Some n)
in-loop true o n is = cc
in-loop false None n is = cc
in-loop false (Some k) n is = (refl, cc)

at-last : (o : Option ℕ) (n : ℕ) → option_or (option_map Tickets o) (Some IsGone) ≡ Some (Tickets n) → o ≡ Some n
at-last None n is = cc
at-last (Some k) n is = cc

ticket-first : (e : Environment) (p : Phase) (n : ℕ) → local_choice_in e p ≡ Some (Tickets n)
    → (ticket_in e p ≡ Some n) × (p ≡ phase.Live → e.exit_asked ≡ false)
ticket-first e phase.Init n is = absurd (never-opened e.opened (nat_lt e.inits e.addons) e.inits n is)
ticket-first e phase.Live n is = let k = in-loop e.exit_asked (lowest_due e.book) n is in (k.1, λ live. k.0)
ticket-first e phase.Hooks n is = ((in-loop false (ticket_in e phase.Hooks) n is).1, λ live. cc)
ticket-first e phase.Drain n is = cc
ticket-first e phase.Finals n is = (at-last (lowest_due e.book) n is, λ live. cc)
ticket-first e phase.Gone n is = cc

pub next-ticket-is : (e : Environment) (n : ℕ) → local_choice e ≡ Some (Tickets n) → NextTicket e n
next-ticket-is e n is = let k = ticket-first e e.phase n is in record { next = k.0; unasked = k.1 }

-- and where one is, while exit was not asked in the loop, its frame is that event
some-there : (o : Option ℕ) → is_some o ≡ true → (n : ℕ) × (o ≡ Some n)
some-there None is = cc
some-there (Some n) is = (n, refl)

ticket-decided : (e : Environment) (p : Phase) (n : ℕ) → (p ≡ phase.Live → e.exit_asked ≡ false) → ticket_in e p ≡ Some n
    → local_choice_in e p ≡ Some (Tickets n)
ticket-decided e phase.Init n unasked is = cc
ticket-decided e phase.Live n unasked is = ap (λ b. cond b (Some (EndsLoop loop_end.Exit)) (option_map Tickets (lowest_due e.book))) (unasked refl) ∙ ap (option_map Tickets) is
ticket-decided e phase.Hooks n unasked is = ap (option_map Tickets) is
ticket-decided e phase.Drain n unasked is = cc
ticket-decided e phase.Finals n unasked is = ap (λ o. option_or (option_map Tickets o) (Some IsGone)) is
ticket-decided e phase.Gone n unasked is = cc

pub ticket-is-next : (e : Environment) → (e.phase ≡ phase.Live → e.exit_asked ≡ false) → is_some (next_ticket e) ≡ true
    → IsNextEvent next.Ticket (local_choice e)
ticket-is-next e unasked some = let k = some-there (next_ticket e) some in (k.0, ticket-decided e e.phase k.0 unasked k.1)

-- in the loop, where exit was not asked
pub loop_ticket : (e : Environment) → e.phase ≡ phase.Live → e.exit_asked ≡ false → is_some (next_ticket e) ≡ true → IsNextEvent next.Ticket (local_choice e)
loop_ticket e live unasked some = ticket-is-next e (λ _. unasked) some

-- one that begins is the one that is next
pub same-ticket : (e : Environment) (n k : ℕ) → local_choice e ≡ Some (Tickets n) → next_ticket e ≡ Some k → local_choice e ≡ Some (Tickets k)
same-ticket e n k is next = is ∙ ap (option_map Tickets) (sym (next-ticket-is e n is).next ∙ next)

-- A RECORDED RUN GOES ON
ticket-next : (m : Machine) (n : ℕ) (r : Registration) → IsHooked m.env → m.env.frames ≡ [] → local_choice m.env ≡ Some (Tickets n)
    → registration_at m.env.book n ≡ Some r → step m (ask.Leave None) (ticket_change n r m.env).entry ≡ locally m (ticket_change n r m.env) true
ticket-next m n r hooked alone is there =
    ap (env_step m (ask.Leave None) (ticket_change n r m.env).entry.reply.out) alone
    ∙ ap (λ o. chosen m (option_or o (hub_choice m.hub (waiting_hooks m.env)))) is ∙ ap (ticket_step m n) there
    ∙ ap (locally m (ticket_change n r m.env)) (next-may m.env n r hooked (next-ticket-is m.env n is).next there)

ticket-grown : (s : Setting) (core : Core) (hub : Hub) (history : List Entry) (all : AddonStates) (firsts : List (List DueInfo)) (own : RecordsOwn s core hub history all firsts)
    (now : AddonStates) (n : ℕ) (r : Registration)
    → IsHooked core.env → core.env.frames ≡ [] → local_choice core.env ≡ Some (Tickets n) → registration_at core.env.book n ≡ Some r
    → Kept s.plans now.registers (with_addon_gifts own.recorded.own r.addon (due_info n r).gifts) → HasSeen all.seen (due_info n r ∷ []) now.seen
    → RecordsOwn s (after_change (ticket_change n r core.env) core) hub history now firsts
ticket-grown s core hub history all firsts own now n r hooked alone is there kept seen =
    let m : Machine = machine_of s.limits core hub history in
    let told : duty_info m (Some (due_info n r).duty) ≡ Some (due_info n r) = ap (option_map (due_info n)) there in
    let P : Option DueInfo → Type 0 = λ d. HasSeen all.seen (option_to_list d) now.seen in
    let rec : IsRecorded s core hub history all firsts = own.recorded in
    own-grown s core hub history all firsts own (ask.Leave None) (ticket_change n r core.env) (with_addon_gifts rec.own r.addon (due_info n r).gifts) now
    (ticket-next m n r hooked alone is there) refl (rw alone refl) (ap (with_begun_gifts rec.own core.env.heap (ask.Leave None)) told)
    kept.count kept.agrees (subst P (sym told) seen)

-- ITS TURN
-- the environment stays sound
pub sound-ticket : (core mid : Core) (due : DueInfo) (b : BeginsTicket core due mid) → IsSoundEnvironment core.env → core.env.frames ≡ []
    → IsSoundEnvironment (ticket_change b.ticket b.registration core.env).after
sound-ticket core mid due b sound alone = record {
  opened = sound.opened;
  owned = owned-ticket core.env.addons core.env b.ticket b.registration b.registered sound.owned;
  asks = within-ticket core.env b.ticket b.registration sound.asks;
  nested = nested-ticket b.ticket b.registration core.env b.registered sound.uncalled alone;
  uncalled = uncalled-begun core.env.phase b.ticket core.env.book sound.uncalled;
  hooked = hooked-begun b.ticket b.registration core.env b.registered (next-may core.env b.ticket b.registration sound.hooked b.next b.registered) sound.hooked;
  gone = λ g. absurd (not-gone core.env.phase g b.next);
}
  where
    not-gone : (p : Phase) → p ≡ phase.Gone → ticket_in core.env p ≡ Some b.ticket → ⊥
    not-gone phase.Gone g is = cc
    not-gone _ g is = cc

-- the addon of a ticket that begins is there
pub ticket-there : (core mid : Core) (due : DueInfo) → BeginsTicket core due mid → IsSoundEnvironment core.env → due.addon < core.env.addons
ticket-there core mid due b sound =
    let owned : IsOwned core.env.addons (ticket_change b.ticket b.registration core.env).after =
    owned-ticket core.env.addons core.env b.ticket b.registration b.registered sound.owned in
    let P : DueInfo → Type 0 = λ d. d.addon < core.env.addons in
    subst P (sym b.told) (All-head (λ (f : Frame). f.addon < core.env.addons) (frame_of_duty (due_info b.ticket b.registration)) core.env.frames owned.frames)

pub ticket-turn : (ps : List Plan) (all now : AddonStates) (old new : Run) (mid : Core) (due : DueInfo) → IsIdleRun old.core old.begun old.ending
    → IsNextEvent next.Ticket (local_choice old.core.env) → BeginsTicket old.core due mid
    → old.core.env.addons ≤ length all.registers → old.core.env.addons ≤ length all.seen
    → now.registers ≡ with_addon_gifts all.registers due.addon due.gifts → now.seen ≡ set all.seen due.addon (seen_of all.seen due.addon ++ due ∷ [])
    → new ≡ record old { core = mid; begun = Some due }
    → IsMadeTurn ps old all new now
ticket-turn ps all now old new mid due idle event b enough as_many given seen made =
    let core : Core = old.core in
    let n : ℕ = b.ticket in
    let r : Registration = b.registration in
    let d : DueInfo = due_info n r in
    let there : due.addon < core.env.addons = ticket-there core mid due b idle.sound in
    let inside : due.addon < length all.registers = omega (arith, there, enough) in
    let within : due.addon < length all.seen = omega (arith, there, as_many) in
    let chosen_is : local_choice core.env ≡ Some (Tickets n) = same-ticket core.env event.0 n event.1 b.next in
    let told : next_ticket_info core.env ≡ Some due =
    begins-chosen core.env (Some (Tickets n)) idle.alone chosen_is ∙ ap (option_map (due_info n)) b.registered ∙ ap (λ (x : DueInfo). Some x) (sym b.told) in
    let saw : HasSeen all.seen (due ∷ []) now.seen = seen-begun all.seen now.seen due within seen in
    let P : Option DueInfo → Type 0 = λ o. HasSeen all.seen (option_to_list o) now.seen in
    let is : new.core ≡ after_change (ticket_change n r core.env) core = ap (λ (x : Run). x.core) made ∙ b.after in
    let unended : new.ending ≡ None = ap (λ (x : Run). x.ending) made ∙ idle.ended in
    let local : hub_begun (Some due) ≡ None = ap (λ (x : DueInfo). hub_begun (Some x)) b.told in
    let C : Core → Type 0 = λ c. KeepsRecord ps core all c now in
    let T : DueInfo → Type 0 = λ (x : DueInfo). HasSeen all.seen (x ∷ []) now.seen in
    let G : DueInfo → Type 0 = λ (x : DueInfo). now.registers ≡ with_addon_gifts all.registers x.addon x.gifts in
    let given_it : now.registers ≡ with_addon_gifts all.registers r.addon d.gifts = subst G b.told given in
    let L : DueInfo → Type 0 = λ (x : DueInfo). x.addon < core.env.addons in
    let own : r.addon < core.env.addons = subst L b.told there in
    made-turn ps old new all now (ticket_change n r core.env) is idle.awaited unended
    (ap (λ (x : Run). hub_begun x.begun) made ∙ local ∙ sym (ap hub_begun idle.none)) refl (λ s is. is)
    (given-others core.env.addons all.registers now.registers due.addon due.gifts there given)
    (begun-touched core.env.frames core.env.frames (frame_of_duty d) d.duty all.registers now.registers idle.alone refl
    (others-given all.registers now.registers r.addon d.gifts (omega (arith, own, enough)) given_it))
    (subst P (sym told) saw)
    (local-goes ps old new all now
    (subst C (sym is)
    (λ s hub history firsts of records.
    let rec : IsRecorded s core hub history all firsts = records.recorded in
    let below : r.addon < length s.plans = omega (arith, of.count, own) in
    ticket-grown s core hub history all firsts records now n r idle.sound.hooked idle.alone chosen_is b.registered
    (given-kept s.plans all.registers rec.own now.registers r.addon d.gifts rec.count rec.agrees below (omega (arith, own, enough)) given_it) (subst T b.told saw)))
    idle.ended (ap (λ (c : Core). c.awaited) is ∙ idle.awaited) unended)

-- what a run keeps
pub ticket-running : (core mid : Core) (begun after : Option DueInfo) (ending : Option FrameEnd) (due : DueInfo) → IsIdleRun core begun ending
    → BeginsTicket core due mid → after ≡ Some due
    → IsRunning mid after ending
ticket-running core mid begun after ending due idle b kept =
    let n : ℕ = b.ticket in
    let r : Registration = b.registration in
    let made : mid.env ≡ (ticket_change n r core.env).after = ap (λ (c : Core). c.env) b.after in
    let held : HoldsDuty mid.env.frames after =
    ap (λ (e : Environment). duties_of e.frames) made ∙ ap (λ fs. duties_of (frame_of_duty (due_info n r) ∷ fs)) idle.alone
    ∙ ap (λ (x : DueInfo). x.duty ∷ []) (sym b.told) ∙ ap (λ o. option_to_list (option_map (λ (x : DueInfo). x.duty) o)) (sym kept) in
    let S : Environment → Type 0 = λ e. IsSoundEnvironment e in
    running-idle mid after ending (subst S (sym made) (sound-ticket core mid due b idle.sound idle.alone)) held (ap (λ (c : Core). c.awaited) b.after ∙ idle.awaited) idle.ended

-- the turn of a run as it is seen
pub ticket-turn-seen : (ps : List Plan) (all now : AddonStates) (inside old : Run) (mid : Core) (begun : Option DueInfo) (due info : DueInfo) → inside ≡ old
    → IsIdleRun inside.core inside.begun inside.ending
    → IsNextEvent next.Ticket (local_choice old.core.env) → BeginsTicket inside.core due mid
    → old.core.env.addons ≤ length all.registers → old.core.env.addons ≤ length all.seen → info ≡ due
    → now.registers ≡ with_addon_gifts all.registers info.addon due.gifts → now.seen ≡ set all.seen info.addon (seen_of all.seen info.addon ++ due ∷ []) → begun ≡ Some due
    → IsMadeTurn ps old all (record { core = mid; begun = begun; ending = inside.ending }) now
ticket-turn-seen ps all now inside old mid begun due info same idle event b enough as_many told given seen kept =
    let new : Run = record { core = mid; begun = begun; ending = inside.ending } in
    let P : Run → Type 0 = λ r. IsMadeTurn ps r all new now in
    let N : Run → Type 0 = λ r. IsNextEvent next.Ticket (local_choice r.core.env) in
    let A : Run → Type 0 = λ r. r.core.env.addons ≤ length all.registers in
    let B : Run → Type 0 = λ r. r.core.env.addons ≤ length all.seen in
    subst P same (ticket-turn ps all now inside new mid due idle (subst N (sym same) event) b (subst A (sym same) enough) (subst B (sym same) as_many)
    (given ∙ ap (λ (x : DueInfo). with_addon_gifts all.registers x.addon due.gifts) told)
    (seen ∙ ap (λ (x : DueInfo). set all.seen x.addon (seen_of all.seen x.addon ++ due ∷ [])) told)
    (ap (λ o. record { core = mid; begun = o; ending = inside.ending }) kept))
