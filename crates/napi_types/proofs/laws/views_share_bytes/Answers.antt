use Rattle.napi_types.proofs.all_runs.BytesRuns.{bytes-shared}
use Rattle.napi_types.proofs.laws.views_share_bytes.Goals as goal

pub returns : goal.returns
returns c = bytes-shared
