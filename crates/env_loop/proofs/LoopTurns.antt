-- The hub's events in the loop: its moves, and the loop's end.
use Rattle.std.proofs.Common.{◌≡◌, ◌≢◌, ◌↔◌, ◌⊎◌, inl, inr, ℕ, Bool, true, false, cond, length, refl, ap, subst, sym, ◌∙◌, Option, Some, None, is_some, option_map}
use Rattle.std.specs.Option.{option_or}
use Rattle.napi_types.specs.declared.entry.HostStep.TheVariants as host
use Rattle.napi_types.specs.declared.entry.LoopEnd.{LoopEnd}
use Rattle.napi_types.specs.declared.entry.LoopEnd.TheVariants as loop_end
use Rattle.napi_types.specs.declared.entry.Out.TheVariants as out
use Rattle.napi_types.specs.declared.entry.Phase.TheVariants as phase
use Rattle.napi_types.specs.declared.ids.TsfnId.{TsfnId}
use Rattle.napi_types.specs.plain.Entries.{host_entry}
use Rattle.napi_types.specs.environment.Changes.{in_phase}
use Rattle.napi_types.specs.hub.HubMoves.{HubMove, Closes, Finishes, hub_move, idle_reason, loop_end_of}
use Rattle.napi_types.specs.runs.Choice.{local_choice, hub_choice, hub_choice_at, waiting_hooks}
use Rattle.napi_types.specs.runs.Loop.{Moves, EndsLoop}
use Rattle.env_core.specs.Core.{Core, after_phase, at_position}
use Rattle.env_core.specs.Sharing.{after_finish}
use Rattle.shared_hub.specs.HubStates.{HubSeen, AddsEntry}
use Rattle.shared_hub.specs.HubTries.{polled_move, AddsMove}
use Rattle.shared_hub.specs.declared.naming.Numbers.{Numbers}
use Rattle.shared_hub.specs.declared.tries.Polled.{Polled}
use Rattle.shared_hub.specs.declared.tries.Polled.TheVariants as polled
use Rattle.env_loop.specs.RecordedRuns.{Run}
use Rattle.env_loop.specs.Turns.{hub_event}
use Rattle.env_loop.proofs.EventTurns.{none-unasked, of-hub, AtHub, far-in}
use Rattle.env_loop.proofs.PlainEvents.{end-event, MovesPlainly, closed-moves, finished-moves}

-- where exit was not asked, the hub's move is next, ..
pub loop-next : (n : Numbers) (run : Run) (before : HubSeen) (move : Option HubMove) → AtHub n run before → run.core.env.phase ≡ phase.Live
    → local_choice run.core.env ≢ Some (EndsLoop loop_end.Exit) → hub_move before.hub ≡ move
    → hub_event run.core.env before.hub ≡ option_or (option_map Moves move) (option_map EndsLoop (idle_reason before.hub))
loop-next n run before move at here unasked is =
    of-hub run.core.env before.hub (none-unasked run.core.env at.needs unasked)
    ∙ ap (hub_choice_at before.hub (waiting_hooks run.core.env)) (far-in n run before phase.Live at here)
    ∙ ap (λ o. option_or (option_map Moves o) (option_map EndsLoop (idle_reason before.hub))) is

-- .. and where there is none the loop ends for the hub's reason, if there is one; once exit was asked it ends for that
loop_end-next : (n : Numbers) (run : Run) (before : HubSeen) (exit : Bool) → AtHub n run before → run.core.env.phase ≡ phase.Live
    → (exit ≡ true) ↔ (local_choice run.core.env ≡ Some (EndsLoop loop_end.Exit)) → (exit ≡ false → hub_move before.hub ≡ None)
    → hub_event run.core.env before.hub ≡ option_map EndsLoop (loop_end_of exit false before.hub)
loop_end-next n run before true at here is none = ap (λ o. option_or o (hub_choice before.hub (waiting_hooks run.core.env))) (is.0 refl)
loop_end-next n run before false at here is none =
    loop-next n run before None at here (λ e. let no : false ≡ true = is.1 e in cc) (none refl)
    ∙ ap (λ (o : Option HubMove). option_map EndsLoop (cond (is_some o) None (idle_reason before.hub))) (sym (none refl))

-- a function closes or finishes, and the core takes that in
pub record TakesClose (J : Type 0) (core : Core) (before : HubSeen) (p : Polled J) (new : Core) (after : HubSeen) : Type 0 where
  pub is : ((f : TsfnId) × (p ≡ polled.Closed f)) ⊎ ((f : TsfnId) × (p ≡ polled.Finished f))
  pub taken : polled_move p ≡ hub_move before.hub
  pub adds : AddsMove before p after
  pub closed : (k : ℕ) → hub_move before.hub ≡ Some (Closes k) → new ≡ at_position (length after.history) core
  pub finished : (k : ℕ) → hub_move before.hub ≡ Some (Finishes k) → new ≡ after_finish k (length after.history) core

pub close-moves : (J : Type 0) (n : Numbers) (run : Run) (before after : HubSeen) (new : Core) (p : Polled J) → AtHub n run before
    → run.core.env.phase ≡ phase.Live → local_choice run.core.env ≢ Some (EndsLoop loop_end.Exit) → TakesClose J run.core before p new after
    → MovesPlainly run.core before new after
close-moves J n run before after new p at here unasked t = by t.is
  where
    by : ((f : TsfnId) × (p ≡ polled.Closed f)) ⊎ ((f : TsfnId) × (p ≡ polled.Finished f)) → MovesPlainly run.core before new after
    by (inl closes) =
        let k : ℕ = closes.0.0 in
        let move : hub_move before.hub ≡ Some (Closes k) = sym t.taken ∙ ap (λ (q : Polled J). polled_move q) closes.1 in
        closed-moves n run before after new k at (loop-next n run before (Some (Closes k)) at here unasked move) move
        (subst (λ (q : Polled J). AddsMove before q after) closes.1 t.adds) (t.closed k move)
    by (inr finishes) =
        let k : ℕ = finishes.0.0 in
        let move : hub_move before.hub ≡ Some (Finishes k) = sym t.taken ∙ ap (λ (q : Polled J). polled_move q) finishes.1 in
        finished-moves n run before after new k at (loop-next n run before (Some (Finishes k)) at here unasked move) move
        (subst (λ (q : Polled J). AddsMove before q after) finishes.1 t.adds) (t.finished k move)

pub loop_end-moves : (n : Numbers) (run : Run) (before mid after : HubSeen) (new : Core) (exit : Bool) (w : LoopEnd) (position : ℕ) → AtHub n run before
    → run.core.env.phase ≡ phase.Live → (exit ≡ true) ↔ (local_choice run.core.env ≡ Some (EndsLoop loop_end.Exit))
    → (exit ≡ false → hub_move before.hub ≡ None) → mid ≡ before → Some w ≡ loop_end_of exit false mid.hub
    → AddsEntry mid (host_entry host.LoopEnd (out.Ended w)) after → position ≡ length after.history → new ≡ after_phase phase.Hooks position run.core
    → MovesPlainly run.core before new after
loop_end-moves n run before mid after new exit w position at here is none same reason adds noted made =
    let next : hub_event run.core.env before.hub ≡ Some (EndsLoop w) =
    loop_end-next n run before exit at here is none ∙ ap (λ (s : HubSeen). option_map EndsLoop (loop_end_of exit false s.hub)) (sym same)
    ∙ ap (option_map EndsLoop) (sym reason) in
    record {
      event = EndsLoop w;
      entry = host_entry host.LoopEnd (out.Ended w);
      env = in_phase phase.Hooks run.core.env;
      plain = end-event run.core before.hub w next here (far-in n run before phase.Live at here) at.fits.owned;
      adds = subst (λ s. AddsEntry s (host_entry host.LoopEnd (out.Ended w)) after) same adds;
      made = made ∙ ap (λ k. record run.core { env = in_phase phase.Hooks run.core.env; position = k }) noted;
    }
