-- When each event is chosen, and what it says that nothing is.
use Rattle.std.proofs.Common.{◌≡◌, ◌∙◌, ℕ, nat_lt, Bool, true, false, cond, List, [], ◌∷◌, refl, Option, Some, None, option_map, ◌⊎◌, inl, inr, subst, ◌<◌}
use Rattle.std.proofs.lemmas.Bool.{ltb-true}
use Rattle.std.specs.Option.{option_or}
use Rattle.napi_types.specs.declared.entry.LoopEnd.TheVariants as loop_end
use Rattle.napi_types.specs.declared.entry.Phase.{Phase}
use Rattle.napi_types.specs.declared.entry.Phase.TheVariants as phase
use Rattle.napi_types.specs.parts.Book.{lowest_due}
use Rattle.napi_types.specs.parts.Hooks.{Hook, last_hook}
use Rattle.napi_types.specs.environment.Environment.{Environment}
use Rattle.napi_types.specs.hub.Hub.{Hub, Stage, Before, Live, LoopEnded, Drained, Final, HooksAbandoned}
use Rattle.napi_types.specs.hub.HubMoves.{HubMove, hub_move, is_idle, is_quiet, idle_reason, is_spent}
use Rattle.napi_types.specs.runs.Choice.{local_choice, local_choice_in, hub_choice, hub_choice_at, choice, finals_choice, waiting_hooks}
use Rattle.napi_types.specs.runs.Loop.{Event, Opens, Inits, Tickets, Moves, Goes, EndsLoop, Drains, FinalsCome, IsGone, Abandons}
use Rattle.napi_types.specs.runs.Machine.{Machine}
use Rattle.std.specs.Prelude.{◌==◌}

-- THE ENVIRONMENT'S
-- an event that the environment decides alone, in this phase
pub data OwnChoice (e : Environment) : Phase → Event → Type 0 where
  opens : e.opened ≡ false → OwnChoice e phase.Init Opens
  inits : e.opened ≡ true → nat_lt e.inits e.addons ≡ true → OwnChoice e phase.Init (Inits e.inits)
  exits : e.exit_asked ≡ true → OwnChoice e phase.Live (EndsLoop loop_end.Exit)
  due_in_loop : (n : ℕ) → e.exit_asked ≡ false → lowest_due e.book ≡ Some n → OwnChoice e phase.Live (Tickets n)
  hooks : (h : Hook) → last_hook e.hooks ≡ Some h → OwnChoice e phase.Hooks (Tickets h.ticket)
  due_at_end : (n : ℕ) → lowest_due e.book ≡ Some n → OwnChoice e phase.Finals (Tickets n)
  ends : lowest_due e.book ≡ None → OwnChoice e phase.Finals IsGone

init-own : (e : Environment) (b c : Bool) (v : Event) → e.opened ≡ b → nat_lt e.inits e.addons ≡ c → cond b (cond c (Some (Inits e.inits)) None) (Some Opens) ≡ Some v
    → OwnChoice e phase.Init v
init-own e false c v opened left is = let same : Opens ≡ v = cc in subst (OwnChoice e phase.Init) same (opens opened)
init-own e true true v opened left is = let same : Inits e.inits ≡ v = cc in subst (OwnChoice e phase.Init) same (inits opened left)
init-own e true false v opened left is = cc

loop-own : (e : Environment) (exit : Bool) (o : Option ℕ) (v : Event) → e.exit_asked ≡ exit → lowest_due e.book ≡ o
    → cond exit (Some (EndsLoop loop_end.Exit)) (option_map Tickets o) ≡ Some v → OwnChoice e phase.Live v
loop-own e true o v asked lowest is = let same : EndsLoop loop_end.Exit ≡ v = cc in subst (OwnChoice e phase.Live) same (exits asked)
loop-own e false (Some n) v asked lowest is = let same : Tickets n ≡ v = cc in subst (OwnChoice e phase.Live) same (due_in_loop n asked lowest)
loop-own e false None v asked lowest is = cc

hooks-own : (e : Environment) (o : Option Hook) (v : Event) → last_hook e.hooks ≡ o → option_map Tickets (option_map (λ (h : Hook). h.ticket) o) ≡ Some v → OwnChoice e phase.Hooks v
hooks-own e (Some h) v last is = let same : Tickets h.ticket ≡ v = cc in subst (OwnChoice e phase.Hooks) same (hooks h last)
hooks-own e None v last is = cc

finals-own : (e : Environment) (o : Option ℕ) (v : Event) → lowest_due e.book ≡ o → option_or (option_map Tickets o) (Some IsGone) ≡ Some v → OwnChoice e phase.Finals v
finals-own e (Some n) v lowest is = let same : Tickets n ≡ v = cc in subst (OwnChoice e phase.Finals) same (due_at_end n lowest)
finals-own e None v lowest is = let same : IsGone ≡ v = cc in subst (OwnChoice e phase.Finals) same (ends lowest)

pub own-choice : (e : Environment) (p : Phase) (v : Event) → local_choice_in e p ≡ Some v → OwnChoice e p v
own-choice e phase.Init v is = init-own e e.opened (nat_lt e.inits e.addons) v refl refl is
own-choice e phase.Live v is = loop-own e e.exit_asked (lowest_due e.book) v refl refl is
own-choice e phase.Hooks v is = hooks-own e (last_hook e.hooks) v refl is
own-choice e phase.Finals v is = finals-own e (lowest_due e.book) v refl is
own-choice e _ v is = cc

-- where it decides nothing alone, in this phase
pub data NoChoice (e : Environment) : Phase → Type 0 where
  begun : e.opened ≡ true → nat_lt e.inits e.addons ≡ false → NoChoice e phase.Init
  waits : e.exit_asked ≡ false → lowest_due e.book ≡ None → NoChoice e phase.Live
  unhooked : e.hooks ≡ [] → NoChoice e phase.Hooks
  drained : NoChoice e phase.Drain
  gone : NoChoice e phase.Gone

init-none : (e : Environment) (b c : Bool) → e.opened ≡ b → nat_lt e.inits e.addons ≡ c → cond b (cond c (Some (Inits e.inits)) None) (Some Opens) ≡ None → NoChoice e phase.Init
init-none e false c opened left is = cc
init-none e true true opened left is = cc
init-none e true false opened left is = begun opened left

loop-none : (e : Environment) (exit : Bool) (o : Option ℕ) → e.exit_asked ≡ exit → lowest_due e.book ≡ o
    → cond exit (Some (EndsLoop loop_end.Exit)) (option_map Tickets o) ≡ None → NoChoice e phase.Live
loop-none e true o asked lowest is = cc
loop-none e false (Some n) asked lowest is = cc
loop-none e false None asked lowest is = waits asked lowest

none-left : (hs : List Hook) → option_map Tickets (option_map (λ (h : Hook). h.ticket) (last_hook hs)) ≡ None → hs ≡ []
none-left [] none = refl
none-left (h ∷ []) none = cc
none-left (h ∷ g ∷ hs) none = let rest : g ∷ hs ≡ [] = none-left (g ∷ hs) none in cc

finals-none : (o : Option ℕ) → option_or (option_map Tickets o) (Some IsGone) ≡ None → ⊥
finals-none (Some n) is = cc
finals-none None is = cc

pub no-choice : (e : Environment) (p : Phase) → local_choice_in e p ≡ None → NoChoice e p
no-choice e phase.Init is = init-none e e.opened (nat_lt e.inits e.addons) refl refl is
no-choice e phase.Live is = loop-none e e.exit_asked (lowest_due e.book) refl refl is
no-choice e phase.Hooks is = unhooked (none-left e.hooks is)
no-choice e phase.Drain is = drained
no-choice e phase.Finals is = absurd (finals-none (lowest_due e.book) is)
no-choice e phase.Gone is = gone

-- THE HUB'S
-- an event of the hub, where so many hooks wait and it has come so far
pub data HubChoice (h : Hub) (waiting : ℕ) : Stage → Event → Type 0 where
  goes : HubChoice h waiting Before Goes
  idles : hub_move h ≡ None → is_idle h ≡ true → HubChoice h waiting Live (EndsLoop loop_end.Idle)
  quiets : hub_move h ≡ None → is_idle h ≡ false → is_quiet h ≡ true → HubChoice h waiting Live (EndsLoop loop_end.Quiet)
  drains : (waiting == 0) ≡ true → HubChoice h waiting LoopEnded Drains
  drains_later : HubChoice h waiting HooksAbandoned Drains
  abandons : (waiting == 0) ≡ false → hub_move h ≡ None → is_quiet h ≡ true → HubChoice h waiting LoopEnded Abandons
  moves_in_hooks : (waiting == 0) ≡ false → (move : HubMove) → hub_move h ≡ Some move → HubChoice h waiting LoopEnded (Moves move)
  finals : hub_move h ≡ None → is_spent h ≡ true → HubChoice h waiting Drained FinalsCome
  moves_in_loop : (move : HubMove) → hub_move h ≡ Some move → HubChoice h waiting Live (Moves move)
  moves_at_end : (move : HubMove) → hub_move h ≡ Some move → HubChoice h waiting Drained (Moves move)

idle-choice : (h : Hub) (waiting : ℕ) (idle quiet : Bool) (v : Event) → hub_move h ≡ None → is_idle h ≡ idle → is_quiet h ≡ quiet
    → option_map EndsLoop (cond idle (Some loop_end.Idle) (cond quiet (Some loop_end.Quiet) None)) ≡ Some v → HubChoice h waiting Live v
idle-choice h waiting true quiet v none idle quietly is = let same : EndsLoop loop_end.Idle ≡ v = cc in subst (HubChoice h waiting Live) same (idles none idle)
idle-choice h waiting false true v none idle quietly is =
    let same : EndsLoop loop_end.Quiet ≡ v = cc in subst (HubChoice h waiting Live) same (quiets none idle quietly)
idle-choice h waiting false false v none idle quietly is = cc

going-choice : (h : Hub) (waiting : ℕ) (o : Option HubMove) (v : Event) → hub_move h ≡ o
    → option_or (option_map Moves o) (option_map EndsLoop (idle_reason h)) ≡ Some v → HubChoice h waiting Live v
going-choice h waiting (Some move) v next is = let same : Moves move ≡ v = cc in subst (HubChoice h waiting Live) same (moves_in_loop move next)
going-choice h waiting None v next is = idle-choice h waiting (is_idle h) (is_quiet h) v next refl refl is

spent-choice : (h : Hub) (waiting : ℕ) (spent : Bool) (v : Event) → hub_move h ≡ None → is_spent h ≡ spent
    → cond spent (Some FinalsCome) None ≡ Some v → HubChoice h waiting Drained v
spent-choice h waiting true v none spent is = let same : FinalsCome ≡ v = cc in subst (HubChoice h waiting Drained) same (finals none spent)
spent-choice h waiting false v none spent is = cc

drained-choice : (h : Hub) (waiting : ℕ) (o : Option HubMove) (v : Event) → hub_move h ≡ o
    → option_or (option_map Moves o) (finals_choice h) ≡ Some v → HubChoice h waiting Drained v
drained-choice h waiting (Some move) v next is = let same : Moves move ≡ v = cc in subst (HubChoice h waiting Drained) same (moves_at_end move next)
drained-choice h waiting None v next is = spent-choice h waiting (is_spent h) v next refl is

quiet-choice : (h : Hub) (waiting : ℕ) (quiet : Bool) (v : Event) → (waiting == 0) ≡ false → hub_move h ≡ None → is_quiet h ≡ quiet
    → cond quiet (Some Abandons) None ≡ Some v → HubChoice h waiting LoopEnded v
quiet-choice h waiting true v some none quiet is = let same : Abandons ≡ v = cc in subst (HubChoice h waiting LoopEnded) same (abandons some none quiet)
quiet-choice h waiting false v some none quiet is = cc

waiting-choice : (h : Hub) (waiting : ℕ) (o : Option HubMove) (v : Event) → (waiting == 0) ≡ false → hub_move h ≡ o
    → option_or (option_map Moves o) (cond (is_quiet h) (Some Abandons) None) ≡ Some v → HubChoice h waiting LoopEnded v
waiting-choice h waiting (Some move) v some next is = let same : Moves move ≡ v = cc in subst (HubChoice h waiting LoopEnded) same (moves_in_hooks some move next)
waiting-choice h waiting None v some next is = quiet-choice h waiting (is_quiet h) v some next refl is

in-hooks : (h : Hub) (waiting : ℕ) (none : Bool) (v : Event) → (waiting == 0) ≡ none
    → cond none (Some Drains) (option_or (option_map Moves (hub_move h)) (cond (is_quiet h) (Some Abandons) None)) ≡ Some v → HubChoice h waiting LoopEnded v
in-hooks h waiting true v none is = let same : Drains ≡ v = cc in subst (HubChoice h waiting LoopEnded) same (drains none)
in-hooks h waiting false v none is = waiting-choice h waiting (hub_move h) v none refl is

pub hub-choice : (h : Hub) (waiting : ℕ) (s : Stage) (v : Event) → hub_choice_at h waiting s ≡ Some v → HubChoice h waiting s v
hub-choice h waiting Before v is = let same : Goes ≡ v = cc in subst (HubChoice h waiting Before) same goes
hub-choice h waiting Live v is = going-choice h waiting (hub_move h) v refl is
hub-choice h waiting LoopEnded v is = in-hooks h waiting (waiting == 0) v refl is
hub-choice h waiting HooksAbandoned v is = let same : Drains ≡ v = cc in subst (HubChoice h waiting HooksAbandoned) same drains_later
hub-choice h waiting Drained v is = drained-choice h waiting (hub_move h) v refl is
hub-choice h waiting Final v is = cc

-- BOTH
-- the event is one that the environment decides alone, or else the hub's
pub chosen-by : (m : Machine) (v : Event) → choice m ≡ Some v
    → (local_choice m.env ≡ Some v) ⊎ ((local_choice m.env ≡ None) × (hub_choice m.hub (waiting_hooks m.env) ≡ Some v))
chosen-by m v is = by (local_choice m.env) refl is
  where
    by : (o : Option Event) → local_choice m.env ≡ o → option_or o (hub_choice m.hub (waiting_hooks m.env)) ≡ Some v
        → (local_choice m.env ≡ Some v) ⊎ ((local_choice m.env ≡ None) × (hub_choice m.hub (waiting_hooks m.env) ≡ Some v))
    by (Some w) here is = inl (here ∙ is)
    by None here is = inr (here, is)

-- it is one of the environment's in its phase, or one of the hub's where that has come so far
pub chosen-in-phase : (m : Machine) (v : Event) → choice m ≡ Some v
    → OwnChoice m.env m.env.phase v ⊎ NoChoice m.env m.env.phase × HubChoice m.hub (waiting_hooks m.env) m.hub.stage v
chosen-in-phase m v is = by (chosen-by m v is)
  where
    by : (local_choice m.env ≡ Some v) ⊎ ((local_choice m.env ≡ None) × (hub_choice m.hub (waiting_hooks m.env) ≡ Some v))
        → OwnChoice m.env m.env.phase v ⊎ NoChoice m.env m.env.phase × HubChoice m.hub (waiting_hooks m.env) m.hub.stage v
    by (inl mine) = inl (own-choice m.env m.env.phase v mine)
    by (inr its) = inr (no-choice m.env m.env.phase its.0, hub-choice m.hub (waiting_hooks m.env) m.hub.stage v its.1)

-- a move is the hub's next one
pub chosen-move : (m : Machine) (move : HubMove) → choice m ≡ Some (Moves move) → hub_move m.hub ≡ Some move
chosen-move m move is = by (chosen-by m (Moves move) is)
  where
    own : (p : Phase) → OwnChoice m.env p (Moves move) → ⊥
    own p o = elim o [ ]

    of-hub : (s : Stage) → HubChoice m.hub (waiting_hooks m.env) s (Moves move) → hub_move m.hub ≡ Some move
    of-hub _ (moves_in_loop _ next) = next
    of-hub _ (moves_in_hooks _ _ next) = next
    of-hub _ (moves_at_end _ next) = next

    by : (local_choice m.env ≡ Some (Moves move)) ⊎ ((local_choice m.env ≡ None) × (hub_choice m.hub (waiting_hooks m.env) ≡ Some (Moves move)))
        → hub_move m.hub ≡ Some move
    by (inl is) = absurd (own m.env.phase (own-choice m.env m.env.phase (Moves move) is))
    by (inr is) = of-hub m.hub.stage (hub-choice m.hub (waiting_hooks m.env) m.hub.stage (Moves move) is.1)

-- an init frame is that of an addon that is there
own-init : (e : Environment) (p : Phase) (k : ℕ) → OwnChoice e p (Inits k) → k < e.addons
own-init e _ _ (inits opened left) = ltb-true e.inits e.addons left

pub chosen-init : (m : Machine) (k : ℕ) → choice m ≡ Some (Inits k) → k < m.env.addons
chosen-init m k is = by (chosen-by m (Inits k) is)
  where
    of-hub : (s : Stage) → HubChoice m.hub (waiting_hooks m.env) s (Inits k) → ⊥
    of-hub s c = elim c [ ]

    by : (local_choice m.env ≡ Some (Inits k)) ⊎ ((local_choice m.env ≡ None) × (hub_choice m.hub (waiting_hooks m.env) ≡ Some (Inits k))) → k < m.env.addons
    by (inl is) = own-init m.env m.env.phase k (own-choice m.env m.env.phase (Inits k) is)
    by (inr is) = absurd (of-hub m.hub.stage (hub-choice m.hub (waiting_hooks m.env) m.hub.stage (Inits k) is.1))
