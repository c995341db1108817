-- The event that is next where no frame stands may come.
use Rattle.std.proofs.Common.{◌≡◌, ◌∙◌, ℕ, nat_lt, Bool, true, false, cond, ◌&&◌, IsTrue, refl, ap, sym, subst, Option, Some, None, is_some, is_none, option_map, IfSome}
use Rattle.std.specs.Option.{option_or, unwrap_or}
use Rattle.napi_types.specs.declared.entry.HostStep.{HostStep}
use Rattle.napi_types.specs.declared.entry.HostStep.TheVariants as host
use Rattle.napi_types.specs.declared.entry.LoopEnd.TheVariants as loop_end
use Rattle.napi_types.specs.declared.entry.Out.TheVariants as out
use Rattle.napi_types.specs.declared.entry.Phase.{Phase}
use Rattle.napi_types.specs.declared.entry.Phase.TheVariants as phase
use Rattle.napi_types.specs.plain.Entries.{host_entry}
use Rattle.napi_types.specs.parts.Book.{Registration, TicketState, registration_at, lowest_due, is_at, is_due, may_begin_in}
use Rattle.napi_types.specs.parts.Hooks.{Hook, last_hook}
use Rattle.napi_types.specs.environment.Hooked.{is_from_finals_on, IsHooked}
use Rattle.napi_types.specs.hub.Hub.{Stage, Before, Live, LoopEnded, Drained, Final, stage_after, IsStageOf, HooksAbandoned, is_of_hooks}
use Rattle.napi_types.specs.hub.HubEvents.{begin_step, close_step, finish_step, delivery_entry, is_moving, is_still}
use Rattle.napi_types.specs.hub.HubMoves.{HubMove, Delivers, Closes, Finishes, hub_move, idle_reason, is_idle, is_quiet, is_spent}
use Rattle.napi_types.specs.runs.Choice.{choice, local_choice_in, hub_choice, hub_choice_at, finals_choice, waiting_hooks}
use Rattle.napi_types.specs.runs.Loop.{Event, Opens, Inits, Tickets, Moves, Goes, EndsLoop, FinalsCome, IsGone, Abandons, Drains}
use Rattle.napi_types.specs.runs.Machine.{Machine}
use Rattle.napi_types.specs.runs.Setting.{final_of}
use Rattle.napi_types.specs.runs.Step.{ticket_step, move_step, event_step}
use Rattle.napi_types.specs.all_runs.Goings.{NextEventsMayCome}
use Rattle.napi_types.proofs.parts.Books.{lowest-due}
use Rattle.napi_types.proofs.parts.Moved.{IsUnder, PassesTest}
use Rattle.napi_types.proofs.environment.HookedSteps.{hook-registered}
use Rattle.napi_types.proofs.runs.StandingDuties.{none-standing}
use Rattle.napi_types.proofs.all_runs.Orderly.{Orderly, orderly-run}
use Rattle.std.proofs.lemmas.Bool.{and_from}
use Rattle.std.specs.Prelude.{◌==◌}

-- GREAT EVENTS
great : (m : Machine) (event : HostStep) (s : Stage) → m.hub.stage ≡ s → m.hub.standing ≡ None → is_some (stage_after s event) ≡ true
    → IsTrue (is_some (stage_after m.hub.stage event) && is_none m.hub.standing)
great m event s far alone comes = rw (far, alone, comes) refl

-- TICKETS
at-may : (p : Phase) (m : Machine) (n : ℕ) (o : Option Registration) → registration_at m.env.book n ≡ o → m.env.phase ≡ p
    → unwrap_or (option_map (λ (r : Registration). may_begin_in p r.state) o) false ≡ true → IsTrue (ticket_step m n o).may
at-may p m n None there here may = let no : false ≡ true = may in cc
at-may p m n (Some r) there here may = ap (λ q. may_begin_in q r.state) here ∙ may

ticket-may : (p : Phase) (m : Machine) (n : ℕ) → m.env.phase ≡ p → is_at (may_begin_in p) m.env.book n ≡ true → IsTrue (event_step m (Tickets n)).may
ticket-may p m n here may = at-may p m n (registration_at m.env.book n) refl here may

due-may : (p : Phase) (m : Machine) (n : ℕ) → m.env.phase ≡ p → ((s : TicketState) → may_begin_in p s ≡ is_due s) → lowest_due m.env.book ≡ Some n
    → IsTrue (event_step m (Tickets n)).may
due-may p m n here same lowest =
    let k : IsUnder (PassesTest is_due) m.env.book n = lowest-due m.env.book n lowest in
    ticket-may p m n here (ap (λ o. unwrap_or (option_map (λ (r : Registration). may_begin_in p r.state) o) false) k.there ∙ same k.registration.state ∙ k.holds)

-- MOVES
move-may : (m : Machine) (move : HubMove) → hub_move m.hub ≡ Some move → is_moving m.hub.stage ≡ true → m.hub.standing ≡ None → IsTrue (move_step m move).may
move-may m (Delivers d) next moving alone =
    subst (λ o. IsTrue (begin_step m.hub (delivery_entry d) o).may) (sym next) (rw (moving, alone) refl)
move-may m (Closes n) next moving alone =
    subst (λ o. IsTrue (close_step m.hub (host_entry host.CloseTsfn (out.Function (record { 0 = n }))) o).may) (sym next) (rw (moving, alone) refl)
move-may m (Finishes n) next moving alone =
    subst (λ o. IsTrue (finish_step m.hub (host_entry host.FinishTsfn (out.Function (record { 0 = n }))) o).may) (sym next) (rw (moving, alone) refl)

-- EACH PHASE
abbrev May : Machine → Option Event → Type 0
May m o = IfSome o (λ event. IsTrue (event_step m event).may)

idle-may : (m : Machine) (idle quiet : Bool) → m.hub.stage ≡ Live → m.hub.standing ≡ None
    → May m (option_map EndsLoop (cond idle (Some loop_end.Idle) (cond quiet (Some loop_end.Quiet) None)))
idle-may m true quiet far alone = great m host.LoopEnd Live far alone refl
idle-may m false true far alone = great m host.LoopEnd Live far alone refl
idle-may m false false far alone = tt

going-may : (m : Machine) (o : Option HubMove) → hub_move m.hub ≡ o → m.hub.stage ≡ Live → m.hub.standing ≡ None
    → May m (option_or (option_map Moves o) (option_map EndsLoop (idle_reason m.hub)))
going-may m (Some move) next far alone = move-may m move next (ap is_moving far) alone
going-may m None next far alone = idle-may m (is_idle m.hub) (is_quiet m.hub) far alone

init-may : (m : Machine) (b c : Bool) → m.hub.stage ≡ Before → m.hub.standing ≡ None → May m (option_or (cond b (cond c (Some (Inits m.env.inits)) None) (Some Opens)) (Some Goes))
init-may m false c far alone = refl
init-may m true true far alone = refl
init-may m true false far alone = great m host.Go Before far alone refl

live-may : (m : Machine) (exit : Bool) (o : Option ℕ) → lowest_due m.env.book ≡ o → m.env.phase ≡ phase.Live → m.hub.stage ≡ Live → m.hub.standing ≡ None
    → May m (option_or (cond exit (Some (EndsLoop loop_end.Exit)) (option_map Tickets o)) (hub_choice_at m.hub (waiting_hooks m.env) Live))
live-may m true o lowest here far alone = great m host.LoopEnd Live far alone refl
live-may m false (Some n) lowest here far alone = due-may phase.Live m n here (λ s. refl) lowest
live-may m false None lowest here far alone = going-may m (hub_move m.hub) refl far alone

hooks-may : (m : Machine) (o : Option Hook) → last_hook m.env.hooks ≡ o → IsHooked m.env → m.env.phase ≡ phase.Hooks → m.hub.stage ≡ LoopEnded
    → m.hub.standing ≡ None
    → May m (option_or (option_map Tickets (option_map (λ (h : Hook). h.ticket) o)) (hub_choice_at m.hub (waiting_hooks m.env) LoopEnded))
hooks-may m (Some h) last hooked here far alone =
    ticket-may phase.Hooks m h.ticket here (hook-registered m.env h hooked (ap is_from_finals_on here) last)
hooks-may m None last hooked here far alone = by (waiting_hooks m.env == 0)
  where
    quiet-may : (quiet : Bool) → is_quiet m.hub ≡ quiet → hub_move m.hub ≡ None → May m (cond quiet (Some Abandons) None)
    quiet-may true quiet still = and_from _ (is_still m.hub) (great m host.Abandon LoopEnded far alone refl) (and_from _ (is_quiet m.hub) (ap is_none still) quiet)
    quiet-may false quiet still = tt

    waiting-may : (o : Option HubMove) → hub_move m.hub ≡ o → May m (option_or (option_map Moves o) (cond (is_quiet m.hub) (Some Abandons) None))
    waiting-may (Some move) next = move-may m move next (ap is_moving far) alone
    waiting-may None next = quiet-may (is_quiet m.hub) refl next

    by : (unwaited : Bool) → May m (cond unwaited (Some Drains) (option_or (option_map Moves (hub_move m.hub)) (cond (is_quiet m.hub) (Some Abandons) None)))
    by true = great m host.Drain LoopEnded far alone refl
    by false = waiting-may (hub_move m.hub) refl

-- once hooks were abandoned
abandoned-may : (m : Machine) (o : Option Hook) → last_hook m.env.hooks ≡ o → IsHooked m.env → m.env.phase ≡ phase.Hooks → m.hub.stage ≡ HooksAbandoned
    → m.hub.standing ≡ None
    → May m (option_or (option_map Tickets (option_map (λ (h : Hook). h.ticket) o)) (hub_choice_at m.hub (waiting_hooks m.env) HooksAbandoned))
abandoned-may m (Some h) last hooked here far alone =
    ticket-may phase.Hooks m h.ticket here (hook-registered m.env h hooked (ap is_from_finals_on here) last)
abandoned-may m None last hooked here far alone = great m host.Drain HooksAbandoned far alone refl

drained-may : (m : Machine) (o : Option HubMove) → hub_move m.hub ≡ o → m.hub.stage ≡ Drained → m.hub.standing ≡ None → May m (option_or (option_map Moves o) (finals_choice m.hub))
drained-may m (Some move) next far alone = move-may m move next (ap is_moving far) alone
drained-may m None next far alone = by (is_spent m.hub)
  where
    by : (b : Bool) → May m (cond b (Some FinalsCome) None)
    by true = great m host.Finals Drained far alone refl
    by false = tt

finals-may : (m : Machine) (o : Option ℕ) → lowest_due m.env.book ≡ o → m.env.phase ≡ phase.Finals
    → May m (option_or (option_or (option_map Tickets o) (Some IsGone)) (hub_choice_at m.hub (waiting_hooks m.env) Final))
finals-may m (Some n) lowest here = due-may phase.Finals m n here (λ s. refl) lowest
finals-may m None lowest here = refl

-- by the stage to which the hub has come
at-stage : (m : Machine) (s : Stage) (own : Option Event) → m.hub.stage ≡ s → May m (option_or own (hub_choice_at m.hub (waiting_hooks m.env) s))
    → May m (option_or own (hub_choice m.hub (waiting_hooks m.env)))
at-stage m s own far may = subst (λ t. May m (option_or own (hub_choice_at m.hub (waiting_hooks m.env) t))) (sym far) may

phase-may : (m : Machine) (p : Phase) → m.env.phase ≡ p → IsStageOf p m.hub.stage → IsHooked m.env → m.hub.standing ≡ None
    → May m (option_or (local_choice_in m.env p) (hub_choice m.hub (waiting_hooks m.env)))
phase-may m phase.Init here far hooked alone =
    at-stage m Before (local_choice_in m.env phase.Init) far (init-may m m.env.opened (nat_lt m.env.inits m.env.addons) far alone)
phase-may m phase.Live here far hooked alone =
    at-stage m Live (local_choice_in m.env phase.Live) far (live-may m m.env.exit_asked (lowest_due m.env.book) refl here far alone)
phase-may m phase.Hooks here far hooked alone = by m.hub.stage refl far
  where
    by : (s : Stage) → m.hub.stage ≡ s → is_of_hooks s ≡ true → May m (option_or (local_choice_in m.env phase.Hooks) (hub_choice m.hub (waiting_hooks m.env)))
    by LoopEnded at of = at-stage m LoopEnded (local_choice_in m.env phase.Hooks) at (hooks-may m (last_hook m.env.hooks) refl hooked here at alone)
    by HooksAbandoned at of = at-stage m HooksAbandoned (local_choice_in m.env phase.Hooks) at (abandoned-may m (last_hook m.env.hooks) refl hooked here at alone)
    by _ at of = cc
phase-may m phase.Drain here far hooked alone = at-stage m Drained None far (drained-may m (hub_move m.hub) refl far alone)
phase-may m phase.Finals here far hooked alone =
    at-stage m Final (local_choice_in m.env phase.Finals) far (finals-may m (lowest_due m.env.book) refl here)
phase-may m phase.Gone here far hooked alone = at-stage m Final None far tt

choice-may : (m : Machine) → Orderly m → m.hub.standing ≡ None → May m (choice m)
choice-may m k alone = phase-may m m.env.phase refl k.stage k.hooked alone

pub next-may : NextEventsMayCome
next-may s bs xs event run unframed next =
    subst (λ o. May (final_of s bs xs) o) next (choice-may (final_of s bs xs) (orderly-run s bs xs run) (none-standing s bs xs run unframed))
