use Rattle.napi_types.proofs.environment.Handed.{same-entry, shared-refusals}
use Rattle.napi_types.proofs.hub_laws.shared_calls_are_handed.Goals as goal

pub returns-clause-entries : goal.returns-clause-entries
returns-clause-entries c = same-entry

pub returns-clause-refusals : goal.returns-clause-refusals
returns-clause-refusals c = shared-refusals
