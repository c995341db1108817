-- Why the loop ends: the machine's choice and the hub's word say the same.
use Rattle.std.proofs.Common.{◌≡◌, ◌∙◌, ℕ, Bool, true, false, cond, refl, ap, Option, Some, None, option_map, is_some}
use Rattle.std.specs.Option.{option_or}
use Rattle.napi_types.specs.declared.entry.LoopEnd.{LoopEnd}
use Rattle.napi_types.specs.declared.entry.LoopEnd.TheVariants as loop_end
use Rattle.napi_types.specs.declared.entry.Phase.TheVariants as phase
use Rattle.napi_types.specs.parts.Book.{lowest_due}
use Rattle.napi_types.specs.hub.Hub.{Stage, Live}
use Rattle.napi_types.specs.hub.HubMoves.{HubMove, hub_move, idle_reason, is_idle, is_quiet, loop_end_of}
use Rattle.napi_types.specs.runs.Choice.{local_choice_in, hub_choice_at, waiting_hooks}
use Rattle.napi_types.specs.runs.Loop.{Moves, Tickets, EndsLoop}
use Rattle.napi_types.specs.runs.LoopEnds.{loop_end_told, LoopsEndForTheReason, LoopsEndIdleOrQuiet}

told-reason : (o : Option HubMove) (reason : Option LoopEnd) → loop_end_told (option_or (option_map Moves o) (option_map EndsLoop reason)) ≡ cond (is_some o) None reason
told-reason (Some move) reason = refl
told-reason None None = refl
told-reason None (Some w) = refl

pub loops-end-for-the-reason : LoopsEndForTheReason
loops-end-for-the-reason m here far =
    ap (λ p. loop_end_told (option_or (local_choice_in m.env p) (hub_choice_at m.hub (waiting_hooks m.env) m.hub.stage))) here
    ∙ ap (λ (t : Stage). loop_end_told (option_or (local_choice_in m.env phase.Live) (hub_choice_at m.hub (waiting_hooks m.env) t))) far
    ∙ by m.env.exit_asked (lowest_due m.env.book)
  where
    by : (exit : Bool) (o : Option ℕ)
        → loop_end_told (option_or (cond exit (Some (EndsLoop loop_end.Exit)) (option_map Tickets o)) (hub_choice_at m.hub (waiting_hooks m.env) Live))
        ≡ loop_end_of exit (is_some o) m.hub
    by true o = refl
    by false (Some n) = refl
    by false None = told-reason (hub_move m.hub) (idle_reason m.hub)

pub loops-end-idle-or-quiet : LoopsEndIdleOrQuiet
loops-end-idle-or-quiet h waiting = ap (option_or (option_map Moves (hub_move h))) (by (is_idle h) (is_quiet h))
  where
    by : (idle quiet : Bool) → option_map EndsLoop (cond idle (Some loop_end.Idle) (cond quiet (Some loop_end.Quiet) None))
        ≡ cond idle (Some (EndsLoop loop_end.Idle)) (cond quiet (Some (EndsLoop loop_end.Quiet)) None)
    by true quiet = refl
    by false true = refl
    by false false = refl
