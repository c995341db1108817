use Rattle.std.proofs.Common.{◌≡◌, ℕ, false, List, map, refl}
use Rattle.std.specs.List.{All, range_with_len}
use Rattle.std.proofs.lemmas.List.Elements.{All-same, All-map}
use Rattle.turn_lock.specs.Passes.{PassState, new_pass}
use Rattle.lock_suite.proofs.tests.many.many_passes.Goals as goal

-- what holds of each new pass holds of all
All-new : (P : PassState → Type 0) (new : ℕ → PassState) (n : ℕ) (passes : List PassState) → ((k : ℕ) → P (new k)) → passes ≡ map new (range_with_len 0 n) → All P passes
All-new P new n passes each made = All-same P passes (map new (range_with_len 0 n)) made (All-map P new (range_with_len 0 n) (λ k d inside. each _))

pub add_each-requires-clause-lock : goal.add_each-requires-clause-lock
add_each-requires-clause-lock g c =
    let lock = c.ample-turn.result.0.lock in
    All-new (λ (p : PassState). p.lock ≡ lock) (new_pass lock) c.args.count c.ample-turn.result.1.items (λ k. refl) (rw c.ample-turn.ensures at c.new-2.ensures.made)

pub add_each-requires-clause-free : goal.add_each-requires-clause-free
add_each-requires-clause-free g c =
    let lock = c.ample-turn.result.0.lock in
    All-new (λ (p : PassState). p.holds ≡ false) (new_pass lock) c.args.count c.ample-turn.result.1.items (λ k. refl) (rw c.ample-turn.ensures at c.new-2.ensures.made)
