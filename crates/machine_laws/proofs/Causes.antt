-- Why the frame of a ticket begins tells when it does, in a run.
use Rattle.std.proofs.Common.{◌≡◌, ◌∙◌, ℕ, true, false, refl, ap, sym, Some, ◌⊎◌, inl, inr}
use Rattle.std.proofs.lemmas.Bool.{or_right}
use Rattle.napi_types.specs.declared.call.Ask.{Ask}
use Rattle.napi_types.specs.declared.entry.Actor.TheVariants as actor
use Rattle.napi_types.specs.declared.entry.Cause.{Cause}
use Rattle.napi_types.specs.declared.entry.Cause.TheVariants as cause
use Rattle.napi_types.specs.declared.entry.Duty.{Duty}
use Rattle.napi_types.specs.declared.entry.Entry.{Entry}
use Rattle.napi_types.specs.declared.entry.Out.{Out}
use Rattle.napi_types.specs.declared.entry.Out.TheVariants as out
use Rattle.napi_types.specs.declared.entry.HostStep.TheVariants as host
use Rattle.napi_types.specs.declared.entry.Phase.{Phase}
use Rattle.napi_types.specs.declared.entry.Phase.TheVariants as phase
use Rattle.napi_types.specs.declared.entry.What.TheVariants as what
use Rattle.napi_types.specs.plain.Entries.{host_entry}
use Rattle.napi_types.specs.parts.Book.{Registration, ticket_duty, is_registered, is_due, is_owed, registration_at, due_info, cause_at}
use Rattle.napi_types.specs.parts.Frames.{frame_of_duty, begin_told}
use Rattle.napi_types.specs.parts.Hooks.{Hook, last_hook}
use Rattle.napi_types.specs.environment.Environment.{Environment}
use Rattle.napi_types.specs.environment.Hooked.{is_from_finals_on, StandsIn, IsHooked}
use Rattle.napi_types.specs.runs.Machine.{Machine}
use Rattle.napi_types.specs.runs.Run.{IsNext}
use Rattle.napi_types.specs.runs.Setting.{final_of}
use Rattle.napi_types.proofs.parts.Moved.{at-cause}
use Rattle.napi_types.proofs.environment.HookedSteps.{last-holds}
use Rattle.napi_types.proofs.environment.Registrations.{registered-holds}
use Rattle.napi_types.proofs.hub.HubDuties.{delivery-of_hub}
use Rattle.napi_types.proofs.runs.Forms.{by-env}
use Rattle.napi_types.proofs.runs.SharedSteps.{is_of_others}
use Rattle.napi_types.proofs.all_runs.Orderly.{is_drained, IsSpent, Orderly, orderly-run}
use Rattle.napi_types.proofs.all_runs.Orders.{none-due}
use Rattle.machine_laws.specs.Choices.{begins_due_tickets_in, IsOfTicket, IsOfHook, BeginsLowest, BeginsLastHook, BeginsOfHub}
use Rattle.machine_laws.specs.FinalizerLaws.{FinalizersBeginInTheLoopOrAtTheEnd, HooksBeginAfterTheLoop}
use Rattle.machine_laws.specs.PromiseLaws.{ReactionsBeginInTheLoopOrAtTheEnd}
use Rattle.machine_laws.proofs.BeginningFrames.{lowest-first, hook-first, tickets-begin}

-- the cause that a begin tells
abbrev cause_told : Cause → Out → Cause
cause_told c (out.Begin told addon entry d) = told
cause_told c _ = c

-- the frame of a ticket begins for what the ticket was registered for
of-ticket : (x : Entry) (n : ℕ) (r : Registration) (c : Cause) (addon entry : ℕ) (d : Duty) → x.reply.out ≡ out.Begin c addon entry (Some d)
    → x ≡ host_entry host.Begin (begin_told (frame_of_duty (due_info n r))) → r.cause ≡ c
of-ticket x n r c addon entry d told is = sym (ap (λ (y : Entry). cause_told c y.reply.out) is) ∙ ap (cause_told c) told

-- that of a hook is its own
hook-cause : (e : Environment) (h : Hook) (r : Registration) → IsHooked e → last_hook e.hooks ≡ Some h → registration_at e.book h.ticket ≡ Some r → r.cause ≡ cause.Hook
hook-cause e h r hooked last there =
    let stands : cause_at e.book h.ticket ≡ Some cause.Hook = (last-holds (StandsIn e.phase e.book) e.hooks h hooked.hooks last).cause in
    let same : Some r.cause ≡ Some cause.Hook = sym (at-cause e.book h.ticket r there) ∙ stands in
    cc

-- and where due tickets begin no hook is due
no-hook-due : (m : Machine) (p : Phase) (n : ℕ) (r : Registration) → m.env.phase ≡ p → Orderly m → begins_due_tickets_in m.env p ≡ true → registration_at m.env.book n ≡ Some r
    → is_due r.state ≡ true → r.cause ≡ cause.Hook → ⊥
no-hook-due m phase.Live n r here orderly begins there due why = none-due m.env n r orderly.hooked (ap is_from_finals_on here) there why due
no-hook-due m phase.Finals n r here orderly begins there due why =
    let spent : is_owed r.state ≡ false = registered-holds IsSpent n m.env.book r there (orderly.spent (ap is_drained here)) why in
    let no : true ≡ false = sym (or_right (is_registered r.state) (is_due r.state) due) ∙ spent in
    cc
no-hook-due m phase.Init n r here orderly begins there due why = cc
no-hook-due m phase.Hooks n r here orderly begins there due why = cc
no-hook-due m phase.Drain n r here orderly begins there due why = cc
no-hook-due m phase.Gone n r here orderly begins there due why = cc

-- that of a duty of the hub is none of a hook
no-hook-of_hub : (m : Machine) (x : Entry) (addon entry : ℕ) (d : Duty) → BeginsOfHub m d x → x.reply.out ≡ out.Begin cause.Hook addon entry (Some d) → ⊥
no-hook-of_hub m x addon entry d b told =
    let why : b.info.cause ≡ cause.Hook = sym (ap (λ (y : Entry). cause_told cause.Hook y.reply.out) b.entry) ∙ ap (cause_told cause.Hook) told in
    (delivery-of_hub m.hub b.info b.next).no_hook why

-- a begin is the environment's
begin-env : (m : Machine) (a : Ask) (x : Entry) → IsNext m a x → x.what ≡ what.Host host.Begin → x.actor ≡ actor.Env
begin-env m a x next is = by-env m a x next (ap is_of_others is)

pub finalizers-begin : FinalizersBeginInTheLoopOrAtTheEnd
finalizers-begin s bs xs a x addon entry d run next is told = by (tickets-begin m a x cause.Finalize addon entry d next is told)
  where
    m : Machine
    m = final_of s bs xs

    by : BeginsLowest m d ⊎ BeginsLastHook m d ⊎ BeginsOfHub m d x → BeginsLowest m d ⊎ BeginsOfHub m d x
    by (inl lowest) = inl lowest
    by (inr (inr hub)) = inr hub
    by (inr (inl hook)) =
        let t : IsOfHook m hook.hook x = hook-first m hook.hook a x hook.alone hook.moment hook.last (begin-env m a x next is) next in
        let other : cause.Finalize ≡ cause.Hook =
        sym (of-ticket x hook.hook.ticket t.registration cause.Finalize addon entry d told t.entry)
        ∙ hook-cause m.env hook.hook t.registration (orderly-run s bs xs run).hooked hook.last t.there in
        absurd cc

pub reactions-begin : ReactionsBeginInTheLoopOrAtTheEnd
reactions-begin s bs xs a x addon entry ticket run next is told = by (tickets-begin m a x cause.Reaction addon entry d next is told)
  where
    m : Machine
    m = final_of s bs xs

    d : Duty
    d = ticket_duty ticket

    by : BeginsLowest m d ⊎ BeginsLastHook m d ⊎ BeginsOfHub m d x → BeginsLowest m d
    by (inl lowest) = lowest
    by (inr (inr hub)) =
        let no : false ≡ true = hub.ours in
        absurd cc
    by (inr (inl hook)) =
        let t : IsOfHook m hook.hook x = hook-first m hook.hook a x hook.alone hook.moment hook.last (begin-env m a x next is) next in
        let other : cause.Reaction ≡ cause.Hook =
        sym (of-ticket x hook.hook.ticket t.registration cause.Reaction addon entry d told t.entry)
        ∙ hook-cause m.env hook.hook t.registration (orderly-run s bs xs run).hooked hook.last t.there in
        absurd cc

pub hooks-begin : HooksBeginAfterTheLoop
hooks-begin s bs xs a x addon entry d run next is told = by (tickets-begin m a x cause.Hook addon entry d next is told)
  where
    m : Machine
    m = final_of s bs xs

    by : BeginsLowest m d ⊎ BeginsLastHook m d ⊎ BeginsOfHub m d x → BeginsLastHook m d
    by (inl lowest) =
        let t : IsOfTicket m lowest.ticket x = lowest-first m lowest.ticket a x lowest.alone lowest.moment lowest.lowest (begin-env m a x next is) next in
        let why : t.registration.cause ≡ cause.Hook = of-ticket x lowest.ticket t.registration cause.Hook addon entry d told t.entry in
        absurd (no-hook-due m m.env.phase lowest.ticket t.registration refl (orderly-run s bs xs run) lowest.moment t.there t.due why)
    by (inr (inl hook)) = hook
    by (inr (inr hub)) = absurd (no-hook-of_hub m x addon entry d hub told)
