-- What a duty tells as its frame begins.
use Rattle.std.specs.Option.{option_to_list}
use Rattle.std.specs.Prelude.{ℕ, ◌==◌, List, [], ◌∷◌, ◌++◌, filter, Option, Some, None, option_map}
use Rattle.napi_types.specs.declared.call.Ask.{Ask}
use Rattle.napi_types.specs.declared.duties.DueInfo.{DueInfo}
use Rattle.napi_types.specs.declared.entry.Duty.{Duty}
use Rattle.napi_types.specs.declared.entry.Duty.TheVariants as duty
use Rattle.napi_types.specs.declared.entry.Entry.{Entry}
use Rattle.napi_types.specs.declared.entry.Out.{Out}
use Rattle.napi_types.specs.declared.entry.Out.TheVariants as out
use Rattle.napi_types.specs.parts.Book.{registration_at, due_info}
use Rattle.napi_types.specs.hub.HubMoves.{HubMove, Delivers, hub_move}
use Rattle.napi_types.specs.runs.Machine.{Machine}
use Rattle.napi_types.specs.runs.Run.{after}

-- ONE ENTRY
-- what a move of the hub tells, where it is the begin of a frame
abbrev pub delivered_info : Option HubMove → Option DueInfo
delivered_info (Some (Delivers d)) = Some d
delivered_info _ = None

-- what a duty tells as its frame begins: that of a ticket what the book has of it. Every other is the one that the hub delivers next, in a run
abbrev pub duty_info : Machine → Option Duty → Option DueInfo
duty_info m (Some (duty.Ticket ticket)) = option_map (due_info ticket.0) (registration_at m.env.book ticket.0)
duty_info m (Some d) = delivered_info (hub_move m.hub)
duty_info m None = None

-- what the duty tells whose frame begins, where this result tells of one
abbrev pub told_at : Machine → Out → Option DueInfo
told_at m (out.Begin cause addon entry d) = duty_info m d
told_at m _ = None

-- what the duty tells whose frame begins at this entry, if one does
abbrev pub begun_info : Machine → Entry → Option DueInfo
begun_info m x = told_at m x.reply.out

-- A RUN
-- what the duties tell whose frames begin along a run, in their order
abbrev pub begun_along : Machine → List Ask → List Entry → List DueInfo
begun_along m (a ∷ bs) (x ∷ xs) = option_to_list (begun_info m x) ++ begun_along (after m a x) bs xs
begun_along m _ _ = []

-- those whose frames run this addon
abbrev pub of_addon : ℕ → List DueInfo → List DueInfo
of_addon addon infos = filter (λ d. d.addon == addon) infos
