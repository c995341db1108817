-- What the lines of a list of seen duties tell: the one seen last stands first in them.
use Rattle.std.specs.Prelude.{List, [], ◌∷◌, ◌++◌}
use Rattle.napi_types.specs.declared.duties.DueInfo.{DueInfo}
use Rattle.napi_types.specs.declared.duties.Lines.{Lines}
use Rattle.napi_types.specs.declared.duties.Lines.TheVariants.{Empty, Line'}

-- what they tell, in the order in which it was seen
abbrev pub infos : Lines → List DueInfo
infos Empty = []
infos (Line' told p before) = infos before ++ told.value ∷ []
