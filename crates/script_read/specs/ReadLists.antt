-- What was read of a list so far, before what the rest of it reads.
use Rattle.std.specs.Prelude.{List, ◌++◌}
use Rattle.std.specs.declared.result.Result.TheVariants.{Ok, Err}
use Rattle.napi_types.specs.scripts.ScriptReading.{Reading, Read, read_with}

-- these members, and behind them those that the rest reads
abbrev pub onto : {A : Type 0} → List A → Reading (Read (List A)) → Reading (Read (List A))
onto xs (Ok r) = Ok (read_with r.texts (xs ++ r.found))
onto xs (Err w) = Err w

-- the same where no texts are read
abbrev pub before : {A : Type 0} → List A → Reading (List A) → Reading (List A)
before xs (Ok ys) = Ok (xs ++ ys)
before xs (Err w) = Err w
