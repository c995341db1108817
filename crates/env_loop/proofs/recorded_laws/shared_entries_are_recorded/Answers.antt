use Rattle.env_loop.proofs.SharedEntries.{entries-recorded}
use Rattle.env_loop.proofs.recorded_laws.shared_entries_are_recorded.Goals as goal

pub returns : goal.returns
returns c = entries-recorded
