-- The run of a thread stays the hub's as the hub goes.
use Rattle.std.proofs.Common.{refl}
use Rattle.napi_types.specs.declared.entry.HostStep.TheVariants as host
use Rattle.napi_types.specs.declared.entry.Out.TheVariants as out
use Rattle.napi_types.specs.plain.Entries.{host_entry}
use Rattle.shared_hub.specs.HubStates.{HubSeen, AddsEntry}
use Rattle.shared_hub.specs.KeptHubs.{IsLedHub}
use Rattle.shared_hub.specs.declared.naming.Numbers.{Numbers}
use Rattle.env_loop.specs.ActorTurns.{IsActorOf}
use Rattle.env_loop.specs.declared.actor.ActorRun.{ActorRun}
use Rattle.env_loop.specs.declared.actor.ActorRun.TheVariants as run
use Rattle.env_loop.proofs.ActorsStand.{thread-runs-stand}
use Rattle.environment_suite.specs.ThreadTests.{IsOfThread}

pub go-stands : {J : Type 0} (n : Numbers) (s new : HubSeen) (r : ActorRun J) → IsOfThread r → IsLedHub n s → IsActorOf n s r
    → AddsEntry s (host_entry host.Go out.Nothing) new → IsActorOf n new r
go-stands n s new (run.OfThread t) thread k of adds = thread-runs-stand n s new t (host_entry host.Go out.Nothing) k of adds refl
go-stands n s new (run.OfWorker w) thread k of adds = absurd thread
