use Rattle.std.proofs.Common.{◌≡◌, ◌∙◌, ◌++◌, ◌<◌, true, refl, ap, sym}
use Rattle.std.specs.List.{All}
use Rattle.napi_types.specs.plain.Lists.{singleton}
use Rattle.env_core.specs.declared.tsfn_roots.RootRow.{RootRow}
use Rattle.env_core.specs.TsfnRooting.{root_of_row, kept_roots, AreRootRows}
use Rattle.env_core.proofs.TsfnRooting.{rows-closed, closed-kept, rows-pushed, kept-pushed}
use Rattle.env_core.proofs.tsfn_roots.TsfnRoots.push.Goals.{then-capacity-len, else-capacity-len, then-self, else-self}
use Rattle.env_core.proofs.tsfn_roots.TsfnRoots.push.Goals as goal

pub invariant_of-self : goal.invariant_of-self
invariant_of-self c =
    let m = c.if-capacity-len.self-inside in
    let row : RootRow = record { function = c.args.function; value = c.args.value; kept = true } in
    let were : AreRootRows m.rows.items m.dropped m.rises =
    elim c.if-capacity-len.branch [
      | then-capacity-len w ↦ rw (w.self-inside-is, w.close_up.ensures.items) (rows-closed c.self.inside.rows.items c.self.inside.rises c.self.invariant.rising)
      | else-capacity-len w ↦ rw w.self-inside-is c.self.invariant
    ] in
    let above : c.if-self.self ≡ true → (m.rises ≡ true) × All (λ q. q.function.0 < c.args.function.0) m.rows.items =
    λ rises. elim c.if-self.branch [
      | then-self w ↦ (w.if-self.true, w.is_above_newest-self-inside.ensures (sym w.self-is ∙ rises) (were.rising w.if-self.true))
      | else-self w ↦ let no : ⊥ = cc (rises, w.self-is) in absurd no
    ] in
    rw (c.push_back_reserved.ensures.items, c.make_place.ensures.items) (rows-pushed m.rows.items row m.dropped m.rises c.if-self.self were refl above)

pub returns : goal.returns
returns c =
    let m = c.if-capacity-len.self-inside in
    let row : RootRow = record { function = c.args.function; value = c.args.value; kept = true } in
    let same : kept_roots m.rows.items ≡ c.args.self.now =
    elim c.if-capacity-len.branch [
      | then-capacity-len w ↦ rw (w.self-inside-is, w.close_up.ensures.items) (closed-kept c.self.inside.rows.items ∙ c.self.view_is)
      | else-capacity-len w ↦ rw w.self-inside-is c.self.view_is
    ] in
    rw (c.push_back_reserved.ensures.items, c.make_place.ensures.items) (kept-pushed m.rows.items row refl ∙ ap (λ l. l ++ singleton (root_of_row row)) same)
