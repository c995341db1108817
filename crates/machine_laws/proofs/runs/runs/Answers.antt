use Rattle.std.proofs.Common.{ℕ, Bool, true, false, IsTrue, refl, Option, Some, None, ap}
use Rattle.napi_types.specs.declared.entry.Why.{Why}
use Rattle.napi_types.specs.declared.ids.HandleId.{HandleId}
use Rattle.napi_types.specs.parts.Book.{Registration, registration_at}
use Rattle.napi_types.specs.environment.Ends.{end_change}
use Rattle.napi_types.specs.hub.HubMoves.{Delivers, Closes, Finishes}
use Rattle.napi_types.specs.runs.Loop.{Event, Tickets, Moves}
use Rattle.napi_types.specs.runs.Machine.{Machine}
use Rattle.napi_types.specs.runs.Plan.{after_entry}
use Rattle.napi_types.specs.runs.Step.{Step, ticket_step, event_step, end_step_on, step}
use Rattle.napi_types.proofs.runs.Forms.{Form, ends, happens, form-of}
use Rattle.machine_laws.specs.RunLaws.{GrowsOn, EntriesCountOnTheirList, OthersLeaveRegisters}
use Rattle.machine_laws.proofs.Computing.{run-of, computes-of}
use Rattle.machine_laws.proofs.Prefixes.{prefixes-are-runs}
use Rattle.machine_laws.proofs.runs.runs.Goals as goal

pub returns-clause-computed : goal.returns-clause-computed
returns-clause-computed c = λ m bs xs. (computes-of m bs xs, run-of m bs xs)

pub returns-clause-prefixes : goal.returns-clause-prefixes
returns-clause-prefixes c = prefixes-are-runs

-- a step that may stand leaves one entry more on its list
abbrev Counts : Machine → Step → Type 0
Counts m s = IsTrue s.may → GrowsOn s.side m s.after

ticket-counts : (m : Machine) (n : ℕ) (r : Option Registration) → Counts m (ticket_step m n r)
ticket-counts m n None t = cc
ticket-counts m n (Some r) t = (refl, refl)

event-counts : (m : Machine) (event : Event) → Counts m (event_step m event)
event-counts m (Tickets n) t = ticket-counts m n (registration_at m.env.book n) t
event-counts m (Moves (Delivers d)) t = (refl, refl)
event-counts m (Moves (Closes n)) t = (refl, refl)
event-counts m (Moves (Finishes n)) t = (refl, refl)
event-counts m _ t = (refl, refl)

end-counts : (m : Machine) (v : Option HandleId) (cut : Option Why) (may ours : Bool) → Counts m (end_step_on ours m (end_change v cut m.env) may)
end-counts m v cut may false t = (refl, refl)
end-counts m v cut may true t = (refl, refl)

form-counts : (m : Machine) (s : Step) → Form m s → Counts m s
form-counts m _ (ends f fs stands v cut may ours is) t = end-counts m v cut may ours t
form-counts m _ (happens alone event next) t = event-counts m event t
form-counts m _ _ t = (refl, refl)

lists-law : EntriesCountOnTheirList
lists-law m a x next = form-counts m (step m a x) (form-of m a x next) next.1

pub returns-clause-lists : goal.returns-clause-lists
returns-clause-lists c = lists-law

registers-law : OthersLeaveRegisters
registers-law n = (
  record { asked = λ ps rss m a. refl; registers = λ ps rss m a x who. ap (after_entry ps rss m a x) who },
  record { asked = λ ps rss m a. refl; registers = λ ps rss m a x who. ap (after_entry ps rss m a x) who },
)

pub returns-clause-registers : goal.returns-clause-registers
returns-clause-registers c = registers-law
