-- The environment and the hub joined: the environment has seen a prefix of the history, and behind it stand entries of other actors that it has not seen yet.
use Rattle.std.specs.Prelude.{◌≡◌, ◌+◌, false, List, ◌++◌, length, map, None}
use Rattle.std.specs.List.{All}
use Rattle.napi_types.specs.declared.call.Ask.{Ask}
use Rattle.napi_types.specs.declared.call.Ask.TheVariants as ask
use Rattle.napi_types.specs.declared.entry.Entry.{Entry}
use Rattle.napi_types.specs.declared.entry.Local.{Local}
use Rattle.napi_types.specs.plain.Entries.{is_environment}
use Rattle.napi_types.specs.plain.Weave.{weave, RisesBetween}
use Rattle.napi_types.specs.hub.HubSteps.{hub_along}
use Rattle.napi_types.specs.hub.Replays.{HubReplays}
use Rattle.napi_types.specs.runs.Begins.{begun_along}
use Rattle.napi_types.specs.runs.InPlace.{StandInPlace}
use Rattle.napi_types.specs.runs.Machine.{Machine}
use Rattle.napi_types.specs.runs.Parting.{IsParted}
use Rattle.napi_types.specs.runs.Setting.{Setting, RunsBy, opening_of, final_of, final_registers}

-- entries of other actors that go on from a machine
pub record OthersGoOn (m : Machine) (rest : List Entry) : Type 0 where
  pub others : All (λ x. is_environment x.actor ≡ false) rest
  pub replays : HubReplays m.limits.history m.hub m.history_length rest

-- the journal and the prefix of the history are a run, by these asks, each entry on its own list, and others went on from there
pub record AreJoined (s : Setting) (asks : List Ask) (journal : List Local) (prefix rest : List Entry) : Type 0 where
  pub run : RunsBy s asks (weave journal prefix)
  pub rises : RisesBetween 0 (length prefix) journal
  pub parted : IsParted (opening_of s) asks journal prefix
  pub others : OthersGoOn (final_of s asks (weave journal prefix)) rest

-- the asks of a run that others went on with: theirs are none
abbrev pub with_others : List Ask → List Entry → List Ask
with_others asks rest = asks ++ map (λ x. ask.Leave None) rest

-- the machine as others went on by these entries: the hub and the length of the history are those after them, and all else is as it was
abbrev pub gone_on : List Entry → Machine → Machine
gone_on rest m = record m { hub = hub_along m.hub rest; history_length = m.history_length + length rest }

-- so the journal and the whole history are a run. It comes to the machine as the others went on, no frame began in between, the registers are as they were, and
-- where each entry stood in its place each does
pub record GoesOnJoined (s : Setting) (asks : List Ask) (journal : List Local) (prefix rest : List Entry) : Type 0 where
  pub run : RunsBy s (with_others asks rest) (weave journal (prefix ++ rest))
  pub rises : RisesBetween 0 (length (prefix ++ rest)) journal
  pub parted : IsParted (opening_of s) (with_others asks rest) journal (prefix ++ rest)
  pub machine : final_of s (with_others asks rest) (weave journal (prefix ++ rest)) ≡ gone_on rest (final_of s asks (weave journal prefix))
  pub begun : begun_along (opening_of s) (with_others asks rest) (weave journal (prefix ++ rest)) ≡ begun_along (opening_of s) asks (weave journal prefix)
  pub registers : final_registers s (with_others asks rest) (weave journal (prefix ++ rest)) ≡ final_registers s asks (weave journal prefix)
  pub placed : StandInPlace (opening_of s) None asks (weave journal prefix) → StandInPlace (opening_of s) None (with_others asks rest)
      (weave journal (prefix ++ rest))
