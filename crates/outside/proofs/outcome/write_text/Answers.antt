use Rattle.std.proofs.Common.{◌≡◌, ◌∙◌, ℕ, List, OnOk, OnErr, subst, sym}
use Rattle.std.specs.Io.KnownBytes.{append_known}
use Rattle.napi_types.specs.plain.Edge.{TookPrefix}
use Rattle.outside.specs.declared.commands.Command.TheVariants as command
use Rattle.outside.proofs.Telling.{summary-told}
use Rattle.outside.proofs.outcome.write_text.Goals as goal

pub returns-in-Summary-clause-ok : goal.returns-in-Summary-clause-ok
returns-in-Summary-clause-ok g c =
    let told = summary-told c.args.command c.args.texts.now c.args.left.now c.items-journal.result.now c.items-history.result.now
    (λ run. (let no : command.Summary ≡ command.Run = sym c.in-Summary.is ∙ run in cc)) c.items-journal.ensures c.items-history.ensures in
    let P : List ℕ → Type 0 = λ written. OnOk c.write_summary.result (g.K.Sink.taken c.write_summary.new.sink ≡ append_known (g.K.Sink.taken c.args.sink.now) written) in
    subst P told c.write_summary.ensures.ok

pub returns-in-Summary-clause-err : goal.returns-in-Summary-clause-err
returns-in-Summary-clause-err g c =
    let told = summary-told c.args.command c.args.texts.now c.args.left.now c.items-journal.result.now c.items-history.result.now
    (λ run. (let no : command.Summary ≡ command.Run = sym c.in-Summary.is ∙ run in cc)) c.items-journal.ensures c.items-history.ensures in
    let P : List ℕ → Type 0 = λ written. OnErr c.write_summary.result
    (TookPrefix (g.K.Sink.taken c.args.sink.now) written (g.K.Sink.taken c.write_summary.new.sink)) in
    subst P told c.write_summary.ensures.err

pub returns-in-Load-clause-ok : goal.returns-in-Load-clause-ok
returns-in-Load-clause-ok g c =
    let told = summary-told c.args.command c.args.texts.now c.args.left.now c.items-journal.result.now c.items-history.result.now
    (λ run. (let no : command.Load c.in-Load.field-0 ≡ command.Run = sym c.in-Load.is ∙ run in cc)) c.items-journal.ensures c.items-history.ensures in
    let P : List ℕ → Type 0 = λ written. OnOk c.write_summary-in-Load.result (g.K.Sink.taken c.write_summary-in-Load.new.sink ≡ append_known (g.K.Sink.taken c.args.sink.now) written) in
    subst P told c.write_summary-in-Load.ensures.ok

pub returns-in-Load-clause-err : goal.returns-in-Load-clause-err
returns-in-Load-clause-err g c =
    let told = summary-told c.args.command c.args.texts.now c.args.left.now c.items-journal.result.now c.items-history.result.now
    (λ run. (let no : command.Load c.in-Load.field-0 ≡ command.Run = sym c.in-Load.is ∙ run in cc)) c.items-journal.ensures c.items-history.ensures in
    let P : List ℕ → Type 0 = λ written. OnErr c.write_summary-in-Load.result
    (TookPrefix (g.K.Sink.taken c.args.sink.now) written (g.K.Sink.taken c.write_summary-in-Load.new.sink)) in
    subst P told c.write_summary-in-Load.ensures.err
