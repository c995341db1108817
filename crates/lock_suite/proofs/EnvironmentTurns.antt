-- Turns of the environment at the hub.
use Rattle.std.proofs.Common.{◌≡◌, ◌∙◌, ℕ, ◌++◌, ap, append_assoc, refl, Result, Ok, Err, IfOk, OnErr}
use Rattle.std.proofs.lemmas.List.Elements.{All-append}
use Rattle.napi_types.specs.declared.entry.Entry.{Entry}
use Rattle.napi_types.specs.declared.entry.HostStep.TheVariants as host
use Rattle.napi_types.specs.declared.entry.Out.{Out}
use Rattle.napi_types.specs.declared.entry.Reply.{Reply}
use Rattle.napi_types.specs.declared.entry.SharedCall.{SharedCall}
use Rattle.napi_types.specs.declared.status.Status.{Status}
use Rattle.napi_types.specs.environment.SharedCalls.{handed_entry}
use Rattle.napi_types.specs.plain.Entries.{host_entry}
use Rattle.turn_lock.specs.declared.told.Row.{Row}
use Rattle.shared_hub.specs.HubRows.{pass_of, rows_of}
use Rattle.shared_hub.specs.HubStates.{HubSeen, AddsEntry}
use Rattle.shared_hub.specs.HubTries.{AddsMove}
use Rattle.shared_hub.specs.declared.tries.Polled.{Polled}
use Rattle.shared_hub.specs.declared.tries.Polled.TheVariants as polled
use Rattle.hub_lock.proofs.LookingTurns.{goes-on-none, goes-on-one}
use Rattle.lock_suite.specs.EnvironmentTurns.{IsByEnvironment}

pub stays : (t : ℕ) (old new : HubSeen) → new ≡ old → IsByEnvironment t old new
stays t old new same = goes-on-none 0 t old new same

pub adds : (t : ℕ) (old new : HubSeen) (x : Entry) → pass_of t x.actor ≡ 0 → AddsEntry old x new → IsByEnvironment t old new
adds t old new x own a = goes-on-one 0 t old new x own a.history

pub goes_further : (t : ℕ) (a b c : HubSeen) → IsByEnvironment t a b → IsByEnvironment t b c → IsByEnvironment t a c
goes_further t a b c x y = (
  x.0 ++ y.0,
  y.1 ∙ (ap (λ l. l ++ y.0) x.1 ∙ append_assoc (rows_of t a.history) x.0 y.0),
  All-append (λ (r : Row). r.pass ≡ 0) x.0 y.0 x.2 y.2,
)

-- a move of the hub
pub moves : {J : Type 0} → (t : ℕ) (old new : HubSeen) (m : Polled J) → AddsMove old m new → IsByEnvironment t old new
moves t old new (polled.Begin due job) a = adds t old new _ refl a
moves t old new (polled.Closed f) a = adds t old new _ refl a
moves t old new (polled.Finished f) a = adds t old new _ refl a
moves t old new polled.Nothing a = stays t old new a

-- and the end of its frame
pub moves-and-ends : {J : Type 0} → (t : ℕ) (old between new : HubSeen) (m : Polled J) (told : Out) → AddsMove old m between → AddsEntry between (host_entry host.End told) new
    → IsByEnvironment t old new
moves-and-ends t old between new m told a b = goes_further t old between new (moves t old between m a) (adds t between new (host_entry host.End told) refl b)

-- a shared call, which may stop
pub call-goes-on : (t : ℕ) (old new : HubSeen) (c : SharedCall) (r : Result Reply Status) → IfOk r (λ reply. AddsEntry old (handed_entry c reply) new) → OnErr r (new ≡ old)
    → IsByEnvironment t old new
call-goes-on t old new c (Ok reply) a b = adds t old new (handed_entry c reply) refl a
call-goes-on t old new c (Err s) a b = stays t old new b
