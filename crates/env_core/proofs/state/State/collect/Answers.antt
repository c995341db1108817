use Rattle.std.proofs.Common.{ℕ, Option, subst, refl, ◌∙◌}
use Rattle.value_store.specs.StoreChanges.{numbers_of}
use Rattle.napi_reference.specs.ReferencePlaces.{map_of}
use Rattle.trace_collect.specs.Collects.{reached}
use Rattle.env_core.specs.Rooting.{AreRoots}
use Rattle.env_core.specs.contracts.state.State.{the_view}
use Rattle.env_core.proofs.Beginning.{begun-still-moved}
use Rattle.env_core.proofs.Rooting.{roots-start}
use Rattle.env_core.proofs.FreeingBuffers.{buffers-left, buffered-left}
use Rattle.env_core.proofs.Freeing.{seen-left, due-seen, attached-left, promises-left, promised-left}
use Rattle.env_core.proofs.Collecting.{frees-others, strong-kept, state-collected, collected-answers}
use Rattle.env_core.proofs.state.State.collect.Goals as goal
use Rattle.napi_types.proofs.parts.Moves.{Falls}

pub collect-requires-clause-starting : goal.collect-requires-clause-starting
collect-requires-clause-starting c =
    let s = c.self.inside in
    let roots = numbers_of c.deref.result.now in
    let P : Option ℕ → Type 0 = λ p. AreRoots s.store s.scopes (map_of s.references) s.tsfn_roots p s.registry.parts.promises roots in
    roots-start s.store s.scopes (map_of s.references) s.tsfn_roots s.exceptions.pending s.registry.parts.promises roots
    (subst P c.pending.ensures (rw c.deref.ensures.value c.in_ok-roots.ensures))

pub empty_of-requires : goal.empty_of-requires
empty_of-requires c =
    let s = c.self.inside in
    let k = c.in_ok-freed.ensures in
    let roots = numbers_of c.deref.result.now in
    let P : Option ℕ → Type 0 = λ p. AreRoots s.store s.scopes (map_of s.references) s.tsfn_roots p s.registry.parts.promises roots in
    let are = subst P c.pending.ensures (rw c.deref.ensures.value c.in_ok-roots.ensures) in
    let freed = numbers_of c.in_ok-freed.freed.items in
    let others = frees-others s.store c.collect.new.store roots freed k.freed k.frees k.roots in
    rw c.deref-2.ensures.value (strong-kept s.store c.collect.new.store s.scopes (map_of s.references) s.tsfn_roots s.exceptions.pending s.registry.parts.promises roots freed
    (reached s.store roots) are others)

pub invariant_of-self-2 : goal.invariant_of-self-2
invariant_of-self-2 c =
    let s = c.self.inside in
    let k = c.in_ok-freed.ensures in
    let roots = numbers_of c.deref.result.now in
    let P : Option ℕ → Type 0 = λ p. AreRoots s.store s.scopes (map_of s.references) s.tsfn_roots p s.registry.parts.promises roots in
    let are = subst P c.pending.ensures (rw c.deref.ensures.value c.in_ok-roots.ensures) in
    let freed = numbers_of c.in_ok-freed.freed.items in
    let others = frees-others s.store c.collect.new.store roots freed k.freed k.frees k.roots in
    let alive = reached s.store roots in (
      state-collected s.store c.collect.new.store s.scopes s.frames (map_of s.references)
          (map_of c.empty_of.new.self) s.tsfn_roots s.exceptions.pending s.registry.parts.promises roots freed alive
          c.self.invariant.0 are others (rw c.deref-2.ensures.value at c.empty_of.ensures.emptied),
      rw (c.gone_all.ensures, c.deref-3.ensures.value)
          (attached-left s.store c.collect.new.store roots freed alive others c.invariant.ensures s.registry.parts.attachments c.self.invariant.1),
      rw c.gone_all.ensures (begun-still-moved s.frames Falls (λ h. cc) s.registry.parts.book _ c.self.invariant.2),
      rw (c.gone_all.ensures, c.deref-3.ensures.value)
          (record {
            promises = promised-left s.store c.collect.new.store roots freed alive others c.invariant.ensures s.registry.parts.promises c.self.invariant.3.promises;
            buffers = buffered-left s.store c.collect.new.store roots freed alive others c.invariant.ensures c.invariant-3.ensures s.registry.parts.buffers
                c.self.invariant.3.buffers;
          }),
    )

pub returns-clause-ok : goal.returns-clause-ok
returns-clause-ok c =
    let s = c.self.inside in
    let k = c.in_ok-freed.ensures in
    let roots = numbers_of c.deref.result.now in
    let P : Option ℕ → Type 0 = λ p. AreRoots s.store s.scopes (map_of s.references) s.tsfn_roots p s.registry.parts.promises roots in
    let are = subst P c.pending.ensures (rw c.deref.ensures.value c.in_ok-roots.ensures) in
    let freed = numbers_of c.in_ok-freed.freed.items in
    let others = frees-others s.store c.collect.new.store roots freed k.freed k.frees k.roots in
    let alive = reached s.store roots in
    rw (← c.self.view_is)
    (rw (c.plain.ensures, c.len.ensures, c.gone_all.ensures)
    (collected-answers (the_view s) s.store c.collect.new.store s.scopes s.frames (map_of s.references)
    (map_of c.empty_of.new.self) s.tsfn_roots s.exceptions.pending s.registry.parts.promises roots freed (reached s.store roots) c.in_ok-freed.freed.len
    c.invariant.ensures c.self.invariant.3.promises c.invariant-2.ensures.maps c.self.invariant.0 are refl others k.graph (c.in_ok-freed.freed.ok.0 ∙ k.count) (rw c.deref-2.ensures.value at c.empty_of.ensures.emptied) _ _ _ _
    (rw c.deref-3.ensures.value
    (seen-left s.store c.collect.new.store roots freed alive others c.invariant.ensures s.registry.parts.attachments c.self.invariant.1))
    (rw c.deref-3.ensures.value
    (due-seen s.store c.collect.new.store roots freed alive others c.invariant.ensures s.registry.parts.attachments c.self.invariant.1 s.registry.parts.book c.invariant-2.ensures.once))
    (rw c.deref-3.ensures.value
    (promises-left s.store c.collect.new.store roots freed alive others c.invariant.ensures s.registry.parts.promises c.self.invariant.3.promises))
    (rw c.deref-3.ensures.value
    (buffers-left s.store c.collect.new.store roots freed alive others c.invariant.ensures c.invariant-3.ensures s.registry.parts.buffers c.self.invariant.3.buffers))))
