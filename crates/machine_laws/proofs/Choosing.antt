-- What may come where no frame stands, and where one does.
use Rattle.std.proofs.Common.{◌≡◌, ◌≤◌, ◌<◌, ◌==◌, ℕ, zero, suc, Bool, true, false, List, [], ◌∷◌, IsTrue, refl, ap, sym, ◌∙◌, subst, Option, Some, None, ◌⊎◌, inl, inr, arith}
use Rattle.std.proofs.lemmas.Bool.{eqb-true, ltb-false}
use Rattle.std.proofs.lemmas.Option.{same_Some}
use Rattle.std.specs.Option.{option_or, unwrap_or}
use Rattle.napi_types.specs.declared.call.Ask.{Ask}
use Rattle.napi_types.specs.declared.call.Ask.TheVariants as ask
use Rattle.napi_types.specs.declared.call.Call.{Call}
use Rattle.napi_types.specs.declared.entry.Actor.TheVariants as actor
use Rattle.napi_types.specs.declared.entry.Entry.{Entry}
use Rattle.napi_types.specs.declared.entry.HostStep.{HostStep}
use Rattle.napi_types.specs.declared.entry.HostStep.TheVariants as host
use Rattle.napi_types.specs.declared.entry.Out.{Out}
use Rattle.napi_types.specs.declared.entry.Phase.{Phase}
use Rattle.napi_types.specs.declared.entry.Phase.TheVariants as phase
use Rattle.napi_types.specs.declared.entry.What.{What}
use Rattle.napi_types.specs.declared.entry.What.TheVariants as what
use Rattle.napi_types.specs.declared.entry.Why.{Why}
use Rattle.napi_types.specs.declared.ids.HandleId.{HandleId}
use Rattle.napi_types.specs.plain.Entries.{cut_of, is_begin}
use Rattle.napi_types.specs.plain.Guards.{is_shared}
use Rattle.napi_types.specs.parts.Book.{Registration, registration_at}
use Rattle.napi_types.specs.parts.Frames.{Frame, duty_of, is_hub_duty}
use Rattle.napi_types.specs.environment.Changes.{issued_number, may_ask}
use Rattle.napi_types.specs.environment.Ends.{end_change}
use Rattle.napi_types.specs.environment.Entering.{asked_change}
use Rattle.napi_types.specs.environment.Environment.{Environment}
use Rattle.napi_types.specs.hub.Hub.{IsStageOf, Hub, Stage, Before, Live, LoopEnded, HooksAbandoned, Drained, Final, stage_after, is_of_hooks}
use Rattle.napi_types.specs.hub.HubEvents.{begin_step, delivery_entry}
use Rattle.napi_types.specs.hub.HubMoves.{Delivers, Closes, Finishes, hub_move, is_quiet, is_spent}
use Rattle.napi_types.specs.runs.Choice.{local_choice, hub_choice, choice, waiting_hooks}
use Rattle.napi_types.specs.runs.Loop.{Event, Opens, Inits, Tickets, Moves, Goes, EndsLoop, Abandons, Drains, FinalsCome, IsGone}
use Rattle.napi_types.specs.runs.Machine.{Machine}
use Rattle.napi_types.specs.runs.Run.{IsNext, IsRunBy, after}
use Rattle.napi_types.specs.runs.Setting.{Setting, opening_of, final_of}
use Rattle.napi_types.specs.runs.Step.{Step, locally, ticket_step, event_step, chosen, may_cut, call_step_on, end_step_on, frame_step, step}
use Rattle.napi_types.proofs.environment.AsyncHooked.{none-waiting}
use Rattle.napi_types.proofs.environment.Cases.{asked-by}
use Rattle.napi_types.proofs.runs.Forms.{Form, form-of, shared-what, ended-what, event_what, event-what, other-what, by-env, frame-next, chosen-next}
use Rattle.napi_types.proofs.runs.Forms as form
use Rattle.napi_types.proofs.environment.FrameEnds.{ended-ends}
use Rattle.napi_types.proofs.runs.SharedSteps.{is_of_others, others-none, end-stage, shares-still, moves-still, others-still}
use Rattle.napi_types.proofs.runs.StepCases.{InPhase}
use Rattle.napi_types.proofs.runs.Runs.{along-run}
use Rattle.napi_types.proofs.runs.Chosen.{chosen-move, OwnChoice, exits, due_in_loop, hooks, due_at_end, ends, own-choice, NoChoice, begun, unhooked, no-choice, HubChoice, goes, abandons, drains, drains_later, finals, hub-choice, chosen-by}
use Rattle.napi_types.proofs.all_runs.Orderly.{Orderly, orderly-opens, orderly-run, next-orderly}
use Rattle.machine_laws.specs.Choices.{is_of_frames, NoneIsChosenInFrames, TellsFrame, BeginsTellTheirFrames, may_come_to, OwnEventsComeFirst, HubEventsComeLast, MayGo, GoComesAfterInitFrames, GoneComesAfterFinals, HubIsInPhase, GoComesOnlyAfterInitFrames, IsReadyToAbandon, AbandonComesOnlyWhereHooksWait, DrainComesNextAfterAbandon, DrainComesOnlyAfterHooks, FinalsComeOnlyOnceAllEnded}

-- IN A FRAME
-- an entry of a frame
abbrev OfFrames : Entry → Type 0
OfFrames x = is_of_frames x.what x.reply.out ≡ true

ended-of : (m : Machine) (v : Option HandleId) (cut : Option Why) (may ours : Bool) → OfFrames (end_step_on ours m (end_change v cut m.env) may).entry
ended-of m v cut may ours = ap (λ w. is_of_frames w (end_step_on ours m (end_change v cut m.env) may).entry.reply.out) (ended-what m v cut may ours)

asked-of : (e : Environment) (c : Call) (n : ℕ) → OfFrames (asked_change e c n).entry
asked-of e c n = asked-by e c n (λ d. OfFrames d.entry) refl (λ receiver f args none. refl)

called-of : (m : Machine) (c : Call) (o : Out) (b : Bool) → OfFrames (call_step_on b m c o).entry
called-of m c o false = asked-of m.env c (issued_number o)
called-of m c o true = ap (λ w. is_of_frames w (call_step_on true m c o).entry.reply.out) (shared-what m c o)

frame-of : (m : Machine) (a : Ask) (o : Out) (cut : Option Why) → OfFrames (frame_step m a o cut).entry
frame-of m a o (Some w) = ended-of m None (Some w) (may_cut m a w) (is_hub_duty (duty_of m.env.frames))
frame-of m (ask.Do c) o None = called-of m c o (is_shared c)
frame-of m (ask.Leave v) o None = ended-of m v None (may_ask m.env) (is_hub_duty (duty_of m.env.frames))

pub none-in-frames : NoneIsChosenInFrames
none-in-frames m f fs a x stands who next =
    ap (λ (y : Entry). is_of_frames y.what y.reply.out) next.0
    ∙ ap (λ (t : Step). is_of_frames t.entry.what t.entry.reply.out) (frame-next m a x f fs who stands)
    ∙ frame-of m a x.reply.out (cut_of x.reply.out)

-- WHAT A BEGIN TELLS
-- where the entry of the step is a begin, it tells of the frame that the step leaves innermost
abbrev StepTells : Step → Type 0
StepTells t = t.entry.what ≡ what.Host host.Begin → TellsFrame t.entry t.after

-- what is no begin
other-tells : (t : Step) (w : What) → t.entry.what ≡ w → is_begin w ≡ false → StepTells t
other-tells t w same other is = let z : true ≡ false = ap is_begin (sym is ∙ same) ∙ other in cc

asked-tells : (m : Machine) (c : Call) (n : ℕ) → StepTells (locally m (asked_change m.env c n) true)
asked-tells m c n =
    asked-by m.env c n (λ d. StepTells (locally m d true)) (λ is. cc) (λ receiver f args none is. record { frame = _; outer = _; stands = refl; told = refl })

ticket-tells : (m : Machine) (n : ℕ) (r : Option Registration) → StepTells (ticket_step m n r)
ticket-tells m n None is = cc
ticket-tells m n (Some r) is = record { frame = _; outer = _; stands = refl; told = refl }

event-tells : (m : Machine) (v : Event) → choice m ≡ Some v → IsTrue (event_step m v).may → StepTells (event_step m v)
event-tells m (Inits n) next may is = record { frame = _; outer = _; stands = refl; told = refl }
event-tells m (Tickets n) next may is = ticket-tells m n (registration_at m.env.book n) is
event-tells m (Moves (Delivers d)) next may is =
    let hubs : hub_move m.hub ≡ Some (Delivers d) = chosen-move m (Delivers d) next in
    record { frame = _; outer = _; stands = refl; told = ap (λ o. (begin_step m.hub (delivery_entry d) o).entry.reply.out) hubs }
event-tells m (Moves (Closes n)) next may is = other-tells (event_step m (Moves (Closes n))) _ (event-what m (Moves (Closes n)) may) refl is
event-tells m (Moves (Finishes n)) next may is = other-tells (event_step m (Moves (Finishes n))) _ (event-what m (Moves (Finishes n)) may) refl is
event-tells m Opens next may is = cc
event-tells m Goes next may is = other-tells (event_step m Goes) _ (event-what m Goes may) refl is
event-tells m (EndsLoop w) next may is = other-tells (event_step m (EndsLoop w)) _ (event-what m (EndsLoop w) may) refl is
event-tells m Abandons next may is = other-tells (event_step m Abandons) _ (event-what m Abandons may) refl is
event-tells m Drains next may is = other-tells (event_step m Drains) _ (event-what m Drains may) refl is
event-tells m FinalsCome next may is = other-tells (event_step m FinalsCome) _ (event-what m FinalsCome may) refl is
event-tells m IsGone next may is = cc

form-tells : (m : Machine) (t : Step) → Form m t → IsTrue t.may → StepTells t
form-tells m _ (form.calls f fs stands c o alone) may is = asked-tells m c (issued_number o) is
form-tells m t (form.shares f fs stands c o shared answers) may is = other-tells t (what.Call c) (shared-what m c o) refl is
form-tells m t (form.ends f fs stands v cut b ours is_ours) may is = other-tells t (what.Host host.End) (ended-what m v cut b ours) refl is
form-tells m _ (form.happens alone event next) may is = event-tells m event next may is
form-tells m t (form.others x other same) may is = other-tells t t.entry.what refl (others-none t.entry.what (other-what m x other may)).begins is

pub begins-tell : BeginsTellTheirFrames
begins-tell m a x next is =
    let t : TellsFrame (step m a x).entry (after m a x) =
    form-tells m (step m a x) (form-of m a x next) next.1 (sym (ap (λ (y : Entry). y.what) next.0) ∙ is) in
    record { frame = t.frame; outer = t.outer; stands = t.stands; told = ap (λ (y : Entry). y.reply.out) next.0 ∙ t.told }

-- WHERE NO FRAME STANDS
-- what comes of the environment is the event that was chosen
pub record Happens (m : Machine) (x : Entry) : Type 0 where
  pub alone : m.env.frames ≡ []
  pub event : Event
  pub next : choice m ≡ Some event
  pub entry : x ≡ (event_step m event).entry
  pub may : IsTrue (event_step m event).may

happens-alone : (m : Machine) (a : Ask) (x : Entry) → m.env.frames ≡ [] → x.actor ≡ actor.Env → IsNext m a x → Happens m x
happens-alone m a x alone who next = by (choice m) refl (next.0 ∙ ap (λ (t : Step). t.entry) same) (subst (λ (t : Step). IsTrue t.may) same next.1)
  where
    same : step m a x ≡ chosen m (choice m)
    same = chosen-next m a x who alone

    by : (o : Option Event) → choice m ≡ o → x ≡ (chosen m o).entry → IsTrue (chosen m o).may → Happens m x
    by None none is may = cc
    by (Some v) next is may = record { alone = alone; event = v; next = next; entry = is; may = may }

-- where another entry than a frame's comes of it, no frame stands
none-stands : (m : Machine) (a : Ask) (x : Entry) (fs : List Frame) → m.env.frames ≡ fs → x.actor ≡ actor.Env → is_of_frames x.what x.reply.out ≡ false → IsNext m a x → fs ≡ []
none-stands m a x [] stands who other next = refl
none-stands m a x (f ∷ fs) stands who other next = let z : true ≡ false = sym (none-in-frames m f fs a x stands who next) ∙ other in cc

pub happens-next : (m : Machine) (a : Ask) (x : Entry) → is_of_others x.what ≡ false → is_of_frames x.what x.reply.out ≡ false → IsNext m a x → Happens m x
happens-next m a x ours other next =
    let who : x.actor ≡ actor.Env = by-env m a x next ours in happens-alone m a x (none-stands m a x m.env.frames refl who other next) who next

-- the entry tells which event it is
pub happens-what : (m : Machine) (x : Entry) (s : HostStep) → x.what ≡ what.Host s → (h : Happens m x) → event_what h.event ≡ s
happens-what m x s is h =
    let same : what.Host (event_what h.event) ≡ what.Host s = sym (event-what m h.event h.may) ∙ sym (ap (λ (y : Entry). y.what) h.entry) ∙ is in cc

-- THE ENVIRONMENT'S EVENTS
-- they do not read the hub, but that it must still end the loop
ticket-next : (m : Machine) (h : Hub) (n : ℕ) (r : Option Registration) (x : Entry) → (x ≡ (ticket_step m n r).entry) × IsTrue (ticket_step m n r).may
    → (x ≡ (ticket_step (record m { hub = h }) n r).entry) × IsTrue (ticket_step (record m { hub = h }) n r).may
ticket-next m h n None x next = next
ticket-next m h n (Some r) x next = next

own-next : (m : Machine) (h : Hub) (p : Phase) (v : Event) (x : Entry) → OwnChoice m.env p v → may_come_to h v ≡ true → (x ≡ (event_step m v).entry) × IsTrue (event_step m v).may
    → (x ≡ (event_step (record m { hub = h }) v).entry) × IsTrue (event_step (record m { hub = h }) v).may
own-next m h _ _ x (exits asked) comes n = (n.0, comes)
own-next m h _ _ x (due_in_loop k unasked lowest) comes n = ticket-next m h k (registration_at m.env.book k) x n
own-next m h _ _ x (hooks k last) comes n = ticket-next m h k.ticket (registration_at m.env.book k.ticket) x n
own-next m h _ _ x (due_at_end k lowest) comes n = ticket-next m h k (registration_at m.env.book k) x n
own-next m h _ _ x _ comes n = n

pub own-first : OwnEventsComeFirst
own-first m v a x alone chosen_own who next =
    let P : Step → Type 0 = λ t. (x ≡ t.entry) × IsTrue t.may in
    let here : step m a x ≡ event_step m v =
    chosen-next m a x who alone ∙ ap (λ c. chosen m (option_or c (hub_choice m.hub (waiting_hooks m.env)))) chosen_own in
    let there : (h : Hub) → step (record m { hub = h }) a x ≡ event_step (record m { hub = h }) v =
    λ h. chosen-next (record m { hub = h }) a x who alone
    ∙ ap (λ c. chosen (record m { hub = h }) (option_or c (hub_choice h (waiting_hooks m.env)))) chosen_own in
    record {
      entry = (subst P here next).0;
      anyhow = λ h comes. subst P (sym (there h)) (own-next m h m.env.phase v x (own-choice m.env m.env.phase v chosen_own) comes (subst P here next));
    }

-- THE HUB'S EVENTS
pub hub-last : HubEventsComeLast
hub-last m a x alone none who next =
    let h : Happens m x = happens-alone m a x alone who next in
    record { event = h.event; next = sym (ap (λ c. option_or c (hub_choice m.hub (waiting_hooks m.env))) none) ∙ h.next; entry = h.entry }

-- GO
-- it is the hub's first event, and no event that the environment decides alone
is-go : (v : Event) → event_what v ≡ host.Go → v ≡ Goes
is-go Goes is = refl
is-go (Moves (Delivers d)) is = cc
is-go _ is = cc

record GoesFrom (m : Machine) : Type 0 where
  pub alone : m.env.frames ≡ []
  pub none : local_choice m.env ≡ None
  pub stage : m.hub.stage ≡ Before

chosen-go : (m : Machine) → m.env.frames ≡ [] → choice m ≡ Some Goes → GoesFrom m
chosen-go m alone is = by (chosen-by m Goes is)
  where
    own : (p : Phase) → OwnChoice m.env p Goes → ⊥
    own p o = elim o [ ]

    first : (s : Stage) → HubChoice m.hub (waiting_hooks m.env) s Goes → s ≡ Before
    first _ goes = refl

    by : (local_choice m.env ≡ Some Goes) ⊎ ((local_choice m.env ≡ None) × (hub_choice m.hub (waiting_hooks m.env) ≡ Some Goes)) → GoesFrom m
    by (inl mine) = absurd (own m.env.phase (own-choice m.env m.env.phase Goes mine))
    by (inr hubs) = record { alone = alone; none = hubs.0; stage = first m.hub.stage (hub-choice m.hub (waiting_hooks m.env) m.hub.stage Goes hubs.1) }

go-from : (m : Machine) (a : Ask) (x : Entry) → IsNext m a x → x.what ≡ what.Host host.Go → GoesFrom m
go-from m a x next is =
    let h : Happens m x = happens-next m a x (ap is_of_others is) (ap (λ w. is_of_frames w x.reply.out) is) next in
    chosen-go m h.alone (h.next ∙ ap Some (is-go h.event (happens-what m x host.Go is h)))

all-begun : (e : Environment) (p : Phase) → p ≡ phase.Init → NoChoice e p → (e.opened ≡ true) × (e.addons ≤ e.inits)
all-begun e _ here (begun opened left) = (opened, ltb-false e.inits e.addons left)
all-begun e _ here _ = cc

pub go-last : GoComesAfterInitFrames
go-last m a x next is =
    let from : GoesFrom m = go-from m a x next is in
    let found : m.env.phase ≡ phase.Init → (m.env.opened ≡ true) × (m.env.addons ≤ m.env.inits) =
    λ init. all-begun m.env m.env.phase init (no-choice m.env m.env.phase from.none) in
    record { alone = from.alone; opened = λ init. (found init).0; begun = λ init. (found init).1 }

-- GONE
is-gone : (v : Event) → event_what v ≡ host.Gone → v ≡ IsGone
is-gone IsGone is = refl
is-gone (Moves (Delivers d)) is = cc
is-gone _ is = cc

chosen-gone : (m : Machine) → choice m ≡ Some IsGone → m.env.phase ≡ phase.Finals
chosen-gone m is = by (chosen-by m IsGone is)
  where
    last : (p : Phase) → OwnChoice m.env p IsGone → p ≡ phase.Finals
    last _ (ends none) = refl

    hubs : (s : Stage) → HubChoice m.hub (waiting_hooks m.env) s IsGone → ⊥
    hubs s o = elim o [ ]

    by : (local_choice m.env ≡ Some IsGone) ⊎ ((local_choice m.env ≡ None) × (hub_choice m.hub (waiting_hooks m.env) ≡ Some IsGone))
        → m.env.phase ≡ phase.Finals
    by (inl mine) = last m.env.phase (own-choice m.env m.env.phase IsGone mine)
    by (inr its) = absurd (hubs m.hub.stage (hub-choice m.hub (waiting_hooks m.env) m.hub.stage IsGone its.1))

pub gone-last : GoneComesAfterFinals
gone-last m a x next is =
    let h : Happens m x = happens-next m a x (ap is_of_others is) (ap (λ w. is_of_frames w x.reply.out) is) next in
    (h.alone, chosen-gone m (h.next ∙ ap Some (is-gone h.event (happens-what m x host.Gone is h))))

-- EVENTS OF RUNS
pub hub-in-phase : HubIsInPhase
hub-in-phase s bs xs run = (orderly-run s bs xs run).stage

before-init : (p : Phase) → IsStageOf p Before → p ≡ phase.Init
before-init phase.Init h = refl
before-init _ h = cc

pub go-of-runs : GoComesOnlyAfterInitFrames
go-of-runs s bs xs a x run next is =
    let m : Machine = final_of s bs xs in
    let init : m.env.phase ≡ phase.Init = before-init m.env.phase (subst (IsStageOf m.env.phase) (go-from m a x next is).stage (hub-in-phase s bs xs run)) in
    let may : MayGo m = go-last m a x next is in
    record { phase = init; alone = may.alone; opened = may.opened init; begun = may.begun init }

-- ABANDON
-- in the stages of the hooks the phase is theirs
pub hooks-phase : (p : Phase) (s : Stage) → IsStageOf p s → is_of_hooks s ≡ true → p ≡ phase.Hooks
hooks-phase phase.Hooks s far is = refl
hooks-phase _ s far is = let z : true ≡ false = sym is ∙ ap is_of_hooks far in cc

pub none-left : (e : Environment) (p : Phase) → p ≡ phase.Hooks → NoChoice e p → e.hooks ≡ []
none-left e _ here (unhooked none) = none
none-left e _ here _ = cc

pub some-wait : (n : ℕ) → (n == 0) ≡ false → 0 < n
some-wait zero some = cc
some-wait (suc n) some = omega arith

-- it is the hub's event while hooks wait
is-abandon : (v : Event) → event_what v ≡ host.Abandon → v ≡ Abandons
is-abandon Abandons is = refl
is-abandon (Moves (Delivers d)) is = cc
is-abandon _ is = cc

record AbandonsFrom (m : Machine) : Type 0 where
  pub none : local_choice m.env ≡ None
  pub stage : m.hub.stage ≡ LoopEnded
  pub waits : 0 < waiting_hooks m.env
  pub unmoved : hub_move m.hub ≡ None
  pub quiet : is_quiet m.hub ≡ true

chosen-abandon : (m : Machine) → choice m ≡ Some Abandons → AbandonsFrom m
chosen-abandon m is = by (chosen-by m Abandons is)
  where
    own : (p : Phase) → OwnChoice m.env p Abandons → ⊥
    own p o = elim o [ ]

    looped : (s : Stage) → m.hub.stage ≡ s → local_choice m.env ≡ None → HubChoice m.hub (waiting_hooks m.env) s Abandons → AbandonsFrom m
    looped _ here none (abandons some unmoved quiet) =
        record { none = none; stage = here; waits = some-wait (waiting_hooks m.env) some; unmoved = unmoved; quiet = quiet }

    by : (local_choice m.env ≡ Some Abandons) ⊎ ((local_choice m.env ≡ None) × (hub_choice m.hub (waiting_hooks m.env) ≡ Some Abandons)) → AbandonsFrom m
    by (inl mine) = absurd (own m.env.phase (own-choice m.env m.env.phase Abandons mine))
    by (inr hubs) = looped m.hub.stage refl hubs.0 (hub-choice m.hub (waiting_hooks m.env) m.hub.stage Abandons hubs.1)

abandon-ready : (m : Machine) (x : Entry) → InPhase m → (h : Happens m x) → h.event ≡ Abandons → IsReadyToAbandon m x
abandon-ready m x far h is =
    let from : AbandonsFrom m = chosen-abandon m (h.next ∙ ap Some is) in
    let here : m.env.phase ≡ phase.Hooks = hooks-phase m.env.phase m.hub.stage far (ap is_of_hooks from.stage) in
    record {
      phase = here;
      alone = h.alone;
      spent = none-left m.env m.env.phase here (no-choice m.env m.env.phase from.none);
      waits = from.waits;
      stage = from.stage;
      unmoved = from.unmoved;
      quiet = from.quiet;
      told = ap (λ (y : Entry). y.reply.out) h.entry ∙ ap (λ v. (event_step m v).entry.reply.out) is;
    }

pub abandon-of-runs : AbandonComesOnlyWhereHooksWait
abandon-of-runs s bs xs a x run next is =
    let m : Machine = final_of s bs xs in
    let h : Happens m x = happens-next m a x (ap is_of_others is) (ap (λ w. is_of_frames w x.reply.out) is) next in
    abandon-ready m x (hub-in-phase s bs xs run) h (is-abandon h.event (happens-what m x host.Abandon is h))

-- BEHIND IT
-- none waits any more, none is left to begin, and no frame stands
record HasNoneLeft (m : Machine) : Type 0 where
  pub unwaited : waiting_hooks m.env ≡ 0
  pub spent : m.env.hooks ≡ []
  pub alone : m.env.frames ≡ []

abbrev LeavesNone : Machine → Type 0
LeavesNone m = m.hub.stage ≡ HooksAbandoned → HasNoneLeft m

-- then the drain is chosen
drain-chosen : (m : Machine) → InPhase m → m.hub.stage ≡ HooksAbandoned → HasNoneLeft m → choice m ≡ Some Drains
drain-chosen m far stage left = rw (hooks-phase m.env.phase m.hub.stage far (ap is_of_hooks stage), left.spent, stage) refl

-- a great event of the hub comes to that stage as `abandon` alone
stage-abandoned : (s : Stage) (event : HostStep) → unwrap_or (stage_after s event) s ≡ HooksAbandoned → (s ≡ HooksAbandoned) ⊎ (event ≡ host.Abandon)
stage-abandoned HooksAbandoned event is = inl refl
stage-abandoned LoopEnded host.Abandon is = inr refl
stage-abandoned LoopEnded host.Drain is = cc
stage-abandoned LoopEnded _ is = cc
stage-abandoned Before host.Go is = cc
stage-abandoned Before _ is = cc
stage-abandoned Live host.LoopEnd is = cc
stage-abandoned Live _ is = cc
stage-abandoned Drained host.Finals is = cc
stage-abandoned Drained _ is = cc
stage-abandoned Final _ is = cc

great-before : (m : Machine) (event : HostStep) → (event ≡ host.Abandon → ⊥) → unwrap_or (stage_after m.hub.stage event) m.hub.stage ≡ HooksAbandoned
    → m.hub.stage ≡ HooksAbandoned
great-before m event other is = by (stage-abandoned m.hub.stage event is)
  where
    by : (m.hub.stage ≡ HooksAbandoned) ⊎ (event ≡ host.Abandon) → m.hub.stage ≡ HooksAbandoned
    by (inl here) = here
    by (inr same) = absurd (other same)

ticket-stage : (m : Machine) (n : ℕ) (r : Option Registration) → (ticket_step m n r).after.hub.stage ≡ m.hub.stage
ticket-stage m n None = refl
ticket-stage m n (Some r) = refl

-- an event comes to it from there, or is `abandon`
event-before : (m : Machine) (v : Event) → (event_step m v).after.hub.stage ≡ HooksAbandoned → (m.hub.stage ≡ HooksAbandoned) ⊎ (v ≡ Abandons)
event-before m Abandons far = inr refl
event-before m (Tickets n) far = inl (sym (ticket-stage m n (registration_at m.env.book n)) ∙ far)
event-before m (Moves move) far = inl (sym (moves-still m move).stage ∙ far)
event-before m Goes far = inl (great-before m host.Go (λ z. cc) far)
event-before m (EndsLoop w) far = inl (great-before m host.LoopEnd (λ z. cc) far)
event-before m Drains far = inl (great-before m host.Drain (λ z. cc) far)
event-before m FinalsCome far = inl (great-before m host.Finals (λ z. cc) far)
event-before m _ far = inl far

drain-leaves : (m : Machine) → m.hub.stage ≡ HooksAbandoned → (event_step m Drains).after.hub.stage ≡ Drained
drain-leaves m far = ap (λ s. unwrap_or (stage_after s host.Drain) s) far

event-leaves : (m : Machine) (v : Event) → InPhase m → LeavesNone m → m.env.frames ≡ [] → choice m ≡ Some v → LeavesNone (event_step m v).after
event-leaves m v far left alone next there = by (event-before m v there)
  where
    by : (m.hub.stage ≡ HooksAbandoned) ⊎ (v ≡ Abandons) → HasNoneLeft (event_step m v).after
    by (inl here) =
        let same : v ≡ Drains = same_Some v Drains (sym next ∙ drain-chosen m far here (left here)) in
        let z : Drained ≡ HooksAbandoned = sym (drain-leaves m here) ∙ ap (λ w. (event_step m w).after.hub.stage) (sym same) ∙ there in
        cc
    by (inr same) =
        let from : AbandonsFrom m = chosen-abandon m (next ∙ ap Some same) in
        let here : m.env.phase ≡ phase.Hooks = hooks-phase m.env.phase m.hub.stage far (ap is_of_hooks from.stage) in
        let done : HasNoneLeft (event_step m Abandons).after = record {
          unwaited = none-waiting m.env.async_hooks;
          spent = none-left m.env m.env.phase here (no-choice m.env m.env.phase from.none);
          alone = alone;
        } in
        subst (λ w. HasNoneLeft (event_step m w).after) (sym same) done

-- where a frame stands the stage is another
stands-apart : (m n : Machine) (f : Frame) (fs : List Frame) → LeavesNone m → m.env.frames ≡ f ∷ fs → n.hub.stage ≡ m.hub.stage → LeavesNone n
stands-apart m n f fs left stands same there =
    let z : f ∷ fs ≡ [] = sym stands ∙ (left (sym same ∙ there)).alone in cc

ended-stage : (m : Machine) (v : Option HandleId) (cut : Option Why) (may ours : Bool)
    → (end_step_on ours m (end_change v cut m.env) may).after.hub.stage ≡ m.hub.stage
ended-stage m v cut may false = refl
ended-stage m v cut may true = end-stage m.hub (end_change v cut m.env).entry (ended-ends v cut m.env).who (ended-ends v cut m.env).is

form-leaves : (m : Machine) (t : Step) → Form m t → InPhase m → LeavesNone m → LeavesNone t.after
form-leaves m t (form.calls f fs stands c o alone) far left = stands-apart m t.after f fs left stands refl
form-leaves m t (form.shares f fs stands c o shared answers) far left = stands-apart m t.after f fs left stands (shares-still m c o).stage
form-leaves m t (form.ends f fs stands v cut b ours is_ours) far left = stands-apart m t.after f fs left stands (ended-stage m v cut b ours)
form-leaves m _ (form.happens alone event next) far left = event-leaves m event far left alone next
form-leaves m t (form.others x other same) far left =
    λ there.
    let none : HasNoneLeft m = left (sym (others-still m x other).stage ∙ there) in
    record { unwaited = none.unwaited; spent = none.spent; alone = none.alone }

abbrev OrderlyLeft : Machine → Type 0
OrderlyLeft m = Orderly m × LeavesNone m

run-leaves : (s : Setting) (bs : List Ask) (xs : List Entry) → IsRunBy (opening_of s) bs xs → LeavesNone (final_of s bs xs)
run-leaves s bs xs run =
    (along-run OrderlyLeft (λ m a x next p. (next-orderly m a x p.0 next, form-leaves m (step m a x) (form-of m a x next) p.0.stage p.1)) (opening_of s) bs xs run
    (orderly-opens s, λ z. cc)).1

pub drain-behind-abandon : DrainComesNextAfterAbandon
drain-behind-abandon s bs xs a x run stage who next =
    let m : Machine = final_of s bs xs in
    let left : HasNoneLeft m = run-leaves s bs xs run stage in
    let h : Happens m x = happens-alone m a x left.alone who next in
    let same : h.event ≡ Drains = same_Some h.event Drains (sym h.next ∙ drain-chosen m (hub-in-phase s bs xs run) stage left) in
    ap (λ (y : Entry). y.what) h.entry ∙ event-what m h.event h.may ∙ ap (λ v. what.Host (event_what v)) same

-- DRAIN
-- `drain` is the hub's event in the phase of the hooks
is-drain : (v : Event) → event_what v ≡ host.Drain → v ≡ Drains
is-drain Drains is = refl
is-drain (Moves (Delivers d)) is = cc
is-drain _ is = cc

record DrainsFrom (m : Machine) : Type 0 where
  pub none : local_choice m.env ≡ None
  pub stage : is_of_hooks m.hub.stage ≡ true
  pub unwaited : LeavesNone m → waiting_hooks m.env ≡ 0

chosen-drain : (m : Machine) → choice m ≡ Some Drains → DrainsFrom m
chosen-drain m is = by (chosen-by m Drains is)
  where
    own : (p : Phase) → OwnChoice m.env p Drains → ⊥
    own p o = elim o [ ]

    looped : (s : Stage) → m.hub.stage ≡ s → local_choice m.env ≡ None → HubChoice m.hub (waiting_hooks m.env) s Drains → DrainsFrom m
    looped _ here none (drains unwaited) = record { none = none; stage = ap is_of_hooks here; unwaited = λ left. eqb-true (waiting_hooks m.env) 0 unwaited }
    looped _ here none drains_later = record { none = none; stage = ap is_of_hooks here; unwaited = λ left. (left here).unwaited }

    by : (local_choice m.env ≡ Some Drains) ⊎ ((local_choice m.env ≡ None) × (hub_choice m.hub (waiting_hooks m.env) ≡ Some Drains)) → DrainsFrom m
    by (inl mine) = absurd (own m.env.phase (own-choice m.env m.env.phase Drains mine))
    by (inr hubs) = looped m.hub.stage refl hubs.0 (hub-choice m.hub (waiting_hooks m.env) m.hub.stage Drains hubs.1)

pub drain-of-runs : DrainComesOnlyAfterHooks
drain-of-runs s bs xs a x run next is =
    let m : Machine = final_of s bs xs in
    let h : Happens m x = happens-next m a x (ap is_of_others is) (ap (λ w. is_of_frames w x.reply.out) is) next in
    let from : DrainsFrom m = chosen-drain m (h.next ∙ ap Some (is-drain h.event (happens-what m x host.Drain is h))) in
    let here : m.env.phase ≡ phase.Hooks = hooks-phase m.env.phase m.hub.stage (hub-in-phase s bs xs run) from.stage in
    record {
      phase = here;
      alone = h.alone;
      spent = none-left m.env m.env.phase here (no-choice m.env m.env.phase from.none);
      unwaited = from.unwaited (run-leaves s bs xs run);
    }

-- `finals` is the hub's event in the phase of the drain
is-finals : (v : Event) → event_what v ≡ host.Finals → v ≡ FinalsCome
is-finals FinalsCome is = refl
is-finals (Moves (Delivers d)) is = cc
is-finals _ is = cc

record FinalsFrom (m : Machine) : Type 0 where
  pub stage : m.hub.stage ≡ Drained
  pub unmoved : hub_move m.hub ≡ None
  pub spent : is_spent m.hub ≡ true

chosen-finals : (m : Machine) → choice m ≡ Some FinalsCome → FinalsFrom m
chosen-finals m is = by (chosen-by m FinalsCome is)
  where
    own : (p : Phase) → OwnChoice m.env p FinalsCome → ⊥
    own p o = elim o [ ]

    last : (s : Stage) → m.hub.stage ≡ s → HubChoice m.hub (waiting_hooks m.env) s FinalsCome → FinalsFrom m
    last _ here (finals unmoved spent) = record { stage = here; unmoved = unmoved; spent = spent }

    by : (local_choice m.env ≡ Some FinalsCome) ⊎ ((local_choice m.env ≡ None) × (hub_choice m.hub (waiting_hooks m.env) ≡ Some FinalsCome)) → FinalsFrom m
    by (inl mine) = absurd (own m.env.phase (own-choice m.env m.env.phase FinalsCome mine))
    by (inr hubs) = last m.hub.stage refl (hub-choice m.hub (waiting_hooks m.env) m.hub.stage FinalsCome hubs.1)

pub drained-phase : (p : Phase) → IsStageOf p Drained → p ≡ phase.Drain
drained-phase phase.Drain h = refl
drained-phase _ h = cc

pub finals-of-runs : FinalsComeOnlyOnceAllEnded
finals-of-runs s bs xs a x run next is =
    let m : Machine = final_of s bs xs in
    let h : Happens m x = happens-next m a x (ap is_of_others is) (ap (λ w. is_of_frames w x.reply.out) is) next in
    let from : FinalsFrom m = chosen-finals m (h.next ∙ ap Some (is-finals h.event (happens-what m x host.Finals is h))) in
    let here : m.env.phase ≡ phase.Drain = drained-phase m.env.phase (subst (IsStageOf m.env.phase) from.stage (hub-in-phase s bs xs run)) in
    record { phase = here; alone = h.alone; unmoved = from.unmoved; spent = from.spent }
