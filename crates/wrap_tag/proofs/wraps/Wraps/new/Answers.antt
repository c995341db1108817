use Rattle.std.proofs.Common.{◌∙◌, ap}
use Rattle.wrap_tag.specs.ValueRows.{attachments_of}
use Rattle.wrap_tag.proofs.AttachingRows.{attachments_of-none}
use Rattle.wrap_tag.proofs.wraps.Wraps.new.Goals as goal

pub returns : goal.returns
returns c = ap attachments_of c.new.ensures.empty ∙ attachments_of-none
