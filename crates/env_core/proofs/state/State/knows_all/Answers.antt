use Rattle.std.proofs.Common.{◌∙◌, ◌≡◌, ℕ, Bool, ap, take, is_some}
use Rattle.std.specs.List.{list_all}
use Rattle.napi_types.specs.declared.ids.HandleId.{HandleId}
use Rattle.napi_types.specs.parts.Scopes.{gives}
use Rattle.env_core.proofs.Knowing.{known-call, all-told}
use Rattle.env_core.proofs.state.State.knows_all.Goals as goal

pub returns-then-called : goal.returns-then-called
returns-then-called c =
    let s = c.args.self.now in
    let held : ℕ → Bool = λ n. list_all (λ (h : HandleId). is_some (gives s.heap.scopes h.0)) (take n c.args.args.now.handles) in
    let told : c.holds_each-given.result ≡ held c.min-count.result = c.holds_each-given.ensures in
    told
    ∙ ap held c.min-count.ensures
    ∙ all-told _ _ _ _ _ c.holds_if-received.ensures c.requires.held c.if-called.true
    ∙ known-call s.texts s.heap c.args.receiver c.args.callee.now.handle c.args.args.now
