use Rattle.env_loop.proofs.RunsOverRows.{runs-followed-over, fitting-runs-stand-over}
use Rattle.env_loop.proofs.recorded_laws.runs_are_followed_over_rows.Goals as goal

pub returns-clause-followed : goal.returns-clause-followed
returns-clause-followed c = runs-followed-over

pub returns-clause-fitting : goal.returns-clause-fitting
returns-clause-fitting c = fitting-runs-stand-over
