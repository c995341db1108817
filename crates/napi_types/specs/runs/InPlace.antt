-- Where the entries of the journal stand among those of the history, along a run.
use Rattle.std.specs.Prelude.{◌&&◌, ◌||◌, Bool, true, false, List, [], ◌∷◌, Option, Some, IsTrue}
use Rattle.std.specs.Option.{option_map_or}
use Rattle.napi_types.specs.declared.call.Ask.{Ask}
use Rattle.napi_types.specs.declared.call.Ask.TheVariants as ask
use Rattle.napi_types.specs.declared.entry.Actor.{Actor}
use Rattle.napi_types.specs.declared.entry.Entry.{Entry}
use Rattle.napi_types.specs.declared.entry.Out.{Out}
use Rattle.napi_types.specs.declared.entry.Out.TheVariants as out
use Rattle.napi_types.specs.declared.entry.Why.TheVariants as why
use Rattle.napi_types.specs.plain.Entries.{is_environment}
use Rattle.napi_types.specs.plain.Guards.{is_shared}
use Rattle.napi_types.specs.plain.Weave.{Side, Journal, History}
use Rattle.napi_types.specs.runs.Machine.{Machine}
use Rattle.napi_types.specs.runs.Run.{after}
use Rattle.napi_types.specs.runs.Step.{step}

-- ONE ENTRY
-- the environment made the entry before, or there is none
abbrev pub is_behind_own : Option Actor → Bool
is_behind_own before = option_map_or is_environment before true

-- the hub answers what is asked
abbrev pub asks_hub : Ask → Bool
asks_hub (ask.Do c) = is_shared c
asks_hub (ask.Leave v) = false

-- the result is that of a frame whose call stopped
abbrev pub is_stopped : Out → Bool
is_stopped (out.Cut why.Memory) = true
is_stopped (out.Cut why.Full) = true
is_stopped _ = false

-- an entry of the journal stands first, or right behind one of the environment; or it is the end of a frame that was cut at a shared call. One of the history stands
-- anywhere
abbrev pub stands_in_place : Side → Option Actor → Ask → Out → Bool
stands_in_place History before a o = true
stands_in_place Journal before a o = is_behind_own before || (asks_hub a && is_stopped o)

-- A RUN
-- who made the last of these entries, or the one before them
abbrev pub last_actor : Option Actor → List Entry → Option Actor
last_actor before [] = before
last_actor before (x ∷ xs) = last_actor (Some x.actor) xs

-- along a run, behind an entry of this actor, each entry stands in its place
abbrev pub StandInPlace : Machine → Option Actor → List Ask → List Entry → Type 0
StandInPlace m before (a ∷ bs) (x ∷ xs) = IsTrue (stands_in_place (step m a x).side before a x.reply.out) × StandInPlace (after m a x) (Some x.actor) bs xs
StandInPlace m before _ _ = Unit {0}
