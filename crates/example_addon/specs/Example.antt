-- The addon of the example in its own terms: what it keeps, what it asks by that, and what it comes to by each reply.
use Rattle.std.specs.Prelude.{ℕ, ◌+◌, ◌-◌, ◌^◌, ◌==◌, min, if◌then◌else◌, List, [], ◌∷◌, replicate, slice_index, Option, Some, None, option_and_then}
use Rattle.std.specs.Option.{option_map_or}
use Rattle.napi_types.specs.declared.call.Args.{Args}
use Rattle.napi_types.specs.declared.call.Ask.{Ask}
use Rattle.napi_types.specs.declared.call.Ask.TheVariants as ask
use Rattle.napi_types.specs.declared.call.Call.TheVariants as call
use Rattle.napi_types.specs.declared.duties.DueInfo.{DueInfo}
use Rattle.napi_types.specs.declared.entry.Out.{Out}
use Rattle.napi_types.specs.declared.entry.Out.TheVariants as out
use Rattle.napi_types.specs.declared.entry.Reply.{Reply}
use Rattle.napi_types.specs.declared.ids.HandleId.{HandleId}
use Rattle.napi_types.specs.declared.ids.RefId.{RefId}
use Rattle.napi_types.specs.declared.status.Status.{Status}
use Rattle.napi_types.specs.declared.status.Status.TheVariants as status
use Rattle.example_addon.specs.declared.Progress.{Progress}
use Rattle.example_addon.specs.declared.Progress.TheVariants as progress

-- what the addon keeps: how far its entry 0 has come, what the last frame was given that a call entered or a duty began, and the duties that began
pub record ExampleState : Type 0 where
  pub progress : Progress
  pub gifts : List ℕ
  pub seen : List DueInfo

-- as it starts: nothing was told, nothing was given, and nothing was seen
abbrev pub starting : ExampleState
starting = record { progress = progress.Start; gifts = replicate 8 0; seen = [] }

-- one handle as the arguments of a call
abbrev pub one_argument : HandleId → Args
one_argument handle = record { count = 1; handles = handle ∷ record { 0 = 0 } ∷ record { 0 = 0 } ∷ record { 0 = 0 } ∷ [] }

-- the first argument, the receiver and the payload, of what a frame was given
abbrev pub first_argument : List ℕ → HandleId
first_argument gifts = record { 0 = slice_index gifts 1 }

abbrev pub given_receiver : List ℕ → HandleId
given_receiver gifts = record { 0 = slice_index gifts 5 }

abbrev pub given_payload : List ℕ → ℕ
given_payload gifts = slice_index gifts 6

-- what entry 0 asks
abbrev pub main_ask : Progress → Ask
main_ask progress.Start = ask.Do call.CreateArray
main_ask (progress.Array array) = ask.Do (call.CreateReference array 2)
main_ask (progress.Referenced array reference times) = ask.Do (call.ReferenceUnref reference)
main_ask (progress.Lowered array times) = ask.Do (call.CreateFunction 1 times)
main_ask (progress.Function array function) = ask.Do (call.CallFunction None function (one_argument array))
main_ask (progress.Returned value) = ask.Do (call.GetArrayLength value)
main_ask progress.Done = ask.Leave None

-- what entry 1 asks: first to set the element, then to leave with its first argument
abbrev pub callback_ask : List ℕ → ℕ → Ask
callback_ask gifts step =
    if step == 0 then ask.Do (call.SetElement (first_argument gifts) (given_payload gifts) (given_receiver gifts))
    else ask.Leave (Some (first_argument gifts))

-- what the addon asks in a frame of this entry at this step; it has two entries
abbrev pub ask_of : ExampleState → ℕ → ℕ → Ask
ask_of addon entry step =
    if entry == 0 then main_ask addon.progress
    else (if entry == 1 then callback_ask addon.gifts step else ask.Leave None)

-- the result of an accepted call
abbrev pub result_by : Status → Out → Option Out
result_by status.Ok result = Some result
result_by _ result = None

abbrev pub accepted_result : Reply → Option Out
accepted_result reply = result_by reply.status reply.out

-- the handle that is told, and the reference
abbrev pub handle_in_result : Out → Option HandleId
handle_in_result (out.Handle handle) = Some handle
handle_in_result _ = None

abbrev pub reference_in_result : Out → Option RefId
reference_in_result (out.Ref reference) = Some reference
reference_in_result _ = None

-- the handle that an accepted call gave, and the reference
abbrev pub given_handle : Reply → Option HandleId
given_handle reply = option_and_then handle_in_result (accepted_result reply)

abbrev pub given_reference : Reply → Option RefId
given_reference reply = option_and_then reference_in_result (accepted_result reply)

-- a count downwards that was accepted is counted, and one that was refused is the last
abbrev pub lowered_after : HandleId → RefId → ℕ → Status → Progress
lowered_after array reference times status.Ok = progress.Referenced array reference (min (times + 1) (2 ^ 64 - 1))
lowered_after array reference times _ = progress.Lowered array times

-- what entry 0 comes to by the reply to its call: nothing is left to do where it is another than the one that it waits for
abbrev pub progress_after : Progress → Reply → Progress
progress_after progress.Start reply = option_map_or (λ array. progress.Array array) (given_handle reply) progress.Done
progress_after (progress.Array array) reply = option_map_or (λ reference. progress.Referenced array reference 0) (given_reference reply) progress.Done
progress_after (progress.Referenced array reference times) reply = lowered_after array reference times reply.status
progress_after (progress.Lowered array times) reply = option_map_or (λ function. progress.Function array function) (given_handle reply) progress.Done
progress_after (progress.Function array function) reply = option_map_or (λ value. progress.Returned value) (given_handle reply) progress.Done
progress_after _ reply = progress.Done

-- what the addon keeps of a reply in a frame of this entry: entry 0 goes on by it, and no other entry heeds it
abbrev pub noted : ExampleState → ℕ → Reply → ExampleState
noted addon entry reply = if entry == 0 then record addon { progress = progress_after addon.progress reply } else addon
