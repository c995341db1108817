use Rattle.napi_types.proofs.environment.MadeTickets.{unrefused-makes}
use Rattle.napi_types.proofs.hub.MadeDuties.{answers-make-their-duty, no-work-refusal}
use Rattle.napi_types.proofs.hub_laws.accepted_calls_make_their_duty.Goals as goal

pub returns-clause-tickets : goal.returns-clause-tickets
returns-clause-tickets c = unrefused-makes

pub returns-clause-duties : goal.returns-clause-duties
returns-clause-duties c = answers-make-their-duty

pub returns-clause-works : goal.returns-clause-works
returns-clause-works c = no-work-refusal
