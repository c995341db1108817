-- What follows where a call succeeds, and where it fails.
use Rattle.std.proofs.Common.{OnOk, OnErr}
use Rattle.std.specs.declared.result.Result.{Result}
use Rattle.std.specs.declared.result.Result.TheVariants.{Ok, Err}

pub ok-then : {A E : Type 0} {P Q : Type 0} (r : Result A E) → (P → Q) → OnOk r P → OnOk r Q
ok-then (Ok a) f h = f h
ok-then (Err e) f h = tt

pub err-then : {A E : Type 0} {P Q : Type 0} (r : Result A E) → (P → Q) → OnErr r P → OnErr r Q
err-then (Ok a) f h = tt
err-then (Err e) f h = f h
