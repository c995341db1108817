use Rattle.std.proofs.Common.{ap}
use Rattle.handle_scope.specs.HandleScopes.{HandleScopes}
use Rattle.env_values.proofs.Giving.{issued-live}
use Rattle.env_values.proofs.makes.give.Goals as goal

pub returns-clause-keeps : goal.returns-clause-keeps
returns-clause-keeps c = record {
  live = issued-live c.args.store.now c.args.scopes.now c.issue.new.self c.args.value.0 c.in_ok-issue.ensures.ok c.requires.value c.requires.give.live;
  calls = ap (λ (x : HandleScopes). x.by_call) c.in_ok-issue.ensures.ok;
}
