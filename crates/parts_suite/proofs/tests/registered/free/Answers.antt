use Rattle.std.proofs.Common.{◌==◌, ◌≤◌, length, map, filter}
use Rattle.std.specs.List.{All}
use Rattle.std.proofs.lemmas.List.Elements.{All-map, All-filter}
use Rattle.napi_types.specs.parts.Attachments.{Attached}
use Rattle.parts_suite.proofs.tests.registered.free.Goals as goal

pub gone-requires : goal.gone-requires
gone-requires c =
    let a = c.args.wraps.now.attachments in
    let n = length c.args.book.now.book in
    let given : All (λ k. (1 ≤ k) × (k ≤ n)) (map (λ (t : Attached). t.ticket) (filter (λ t. t.value == 9) a.tickets)) =
    All-map (λ k. (1 ≤ k) × (k ≤ n)) (λ (t : Attached). t.ticket) (filter (λ t. t.value == 9) a.tickets)
    (All-filter (λ t. t.value == 9) (λ (t : Attached). (1 ≤ t.ticket) × (t.ticket ≤ n)) a.tickets c.requires.given) in
    rw c.requires.bare given
