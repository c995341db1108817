use Rattle.shared_hub.proofs.RowsOfHistories.{rows-many, rows-go-on, histories-go-on}
use Rattle.shared_hub.proofs.rows.rows_go_on_as_histories.Goals as goal

pub returns-clause-many : goal.returns-clause-many
returns-clause-many c = rows-many

pub returns-clause-forth : goal.returns-clause-forth
returns-clause-forth c = rows-go-on

pub returns-clause-back : goal.returns-clause-back
returns-clause-back c = histories-go-on
