use Rattle.std.proofs.Common.{◌≡◌, ap, sym, subst, rules, arith, length, List}
use Rattle.std.specs.Option.{is_some}
use Rattle.std.specs.List.{filter}
use Rattle.std.proofs.lemmas.Fn.{filter_same}
use Rattle.handle_scope.specs.declared.scopes.Escape.{Escape}
use Rattle.handle_scope.specs.Marks.{IsTracked, AreAtMost, waiting_value}
use Rattle.handle_scope.proofs.HandleNumbers.{AreAtMost-filter}
use Rattle.handle_scope.proofs.Escapes.{tracked-filter, waiting-few}
use Rattle.handle_scope.proofs.scopes.forget_closed.Goals as goal

pub returns-then-len-scopes-clause-tracked : goal.returns-then-len-scopes-clause-tracked
returns-then-len-scopes-clause-tracked c =
    let left : c.retain.new.self.items ≡ filter (λ e. is_some (waiting_value c.args.scopes.now e)) c.args.escapes.now.items = filter_same _ _ _ (λ x b f' k. search rules) _ _ c.retain.ensures.filtered in
    λ t. subst (λ (l : List Escape). IsTracked c.args.scopes.now l) (sym left) (tracked-filter c.args.scopes.now c.args.escapes.now.items t)

pub returns-then-len-scopes-clause-issued : goal.returns-then-len-scopes-clause-issued
returns-then-len-scopes-clause-issued c =
    let left : c.retain.new.self.items ≡ filter (λ e. is_some (waiting_value c.args.scopes.now e)) c.args.escapes.now.items = filter_same _ _ _ (λ x b f' k. search rules) _ _ c.retain.ensures.filtered in
    λ most a. subst (λ (l : List Escape). AreAtMost (λ e. e.handle) l most) (sym left)
    (AreAtMost-filter (λ (e : Escape). e.handle) (λ e. is_some (waiting_value c.args.scopes.now e)) c.args.escapes.now.items most a)

pub returns-then-len-scopes-clause-few : goal.returns-then-len-scopes-clause-few
returns-then-len-scopes-clause-few c =
    let left : c.retain.new.self.items ≡ filter (λ e. is_some (waiting_value c.args.scopes.now e)) c.args.escapes.now.items = filter_same _ _ _ (λ x b f' k. search rules) _ _ c.retain.ensures.filtered in
    λ rise. omega (arith, ap length left, waiting-few c.args.scopes.now c.args.escapes.now.items rise)
