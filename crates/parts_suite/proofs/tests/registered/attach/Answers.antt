use Rattle.std.proofs.Common.{◌∙◌, ◌<◌, ◌≤◌, length, is_some, ap, arith}
use Rattle.std.proofs.lemmas.List.Elements.{All-weaker}
use Rattle.napi_types.specs.parts.Attachments.{Attached, Attachments}
use Rattle.napi_types.proofs.plain.Found.{found-below, has-found}
use Rattle.napi_types.proofs.plain.Maps.{All-with_record}
use Rattle.parts_suite.proofs.tests.registered.attach.Goals as goal

pub attach-requires-clause-absent : goal.attach-requires-clause-absent
attach-requires-clause-absent g c =
    let ticket = c.register-ticket.result.0 in
    let old = c.args.wraps.now.attachments.tickets in
    let n = length c.args.book.now.book in
    let new : n < ticket = omega arith in
    let below = All-weaker (λ (t : Attached). (1 ≤ t.ticket) × (t.ticket ≤ n)) (λ (t : Attached). t.ticket < ticket) (λ t given. omega (arith, given.1, new)) old c.requires.given in
    rw c.reserve.ensures.same (has-found (λ (t : Attached). t.ticket) ticket old ∙ ap is_some (found-below (λ (t : Attached). t.ticket) ticket old below))

pub returns-clause-given : goal.returns-clause-given
returns-clause-given g c =
    let ticket = c.register-ticket.result.0 in
    let old = c.args.wraps.now.attachments.tickets in
    let n = length c.args.book.now.book in
    let now = length c.register-ticket.new.book.book in
    let all = All-weaker (λ (t : Attached). (1 ≤ t.ticket) × (t.ticket ≤ n)) (λ (t : Attached). (1 ≤ t.ticket) × (t.ticket ≤ now)) (λ t given. (given.0, omega (arith, given.1))) old c.requires.given in
    rw (ap (λ (a : Attachments). a.tickets) c.attach.ensures.attached, c.reserve.ensures.same)
    (All-with_record (λ (t : Attached). t.ticket) (record { value = 9; ticket = ticket }) (λ (t : Attached). (1 ≤ t.ticket) × (t.ticket ≤ now)) old (omega arith, omega arith) all)
