use Rattle.shared_hub.proofs.RowsOfHistories.{others-of_rows}
use Rattle.shared_hub.proofs.rows.other_rows_are_of_others.Goals as goal

pub returns : goal.returns
returns c = others-of_rows
