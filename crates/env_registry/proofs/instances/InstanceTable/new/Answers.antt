use Rattle.std.proofs.Common.{◌≡◌, ◌∙◌, ℕ, zero, suc, map, option_map, ◌∷◌, replicate, Option, Some, None, ap, refl}
use Rattle.env_registry.specs.Instancing.{instance_seen}
use Rattle.env_registry.proofs.instances.InstanceTable.new.Goals as goal

map-replicate : {A B : Type 0} (f : A → B) (n : ℕ) (x : A) → map f (replicate n x) ≡ replicate n (f x)
map-replicate f zero x = refl
map-replicate f (suc n) x = ap (λ l. f x ∷ l) (map-replicate f n x)

-- what no value has, `None` alone has
only-none : {A : Type 0} (P : Option A → Type 0) → ((x : A) → P (Some x) → ⊥) → (y : Option A) → P y → y ≡ None
only-none P fails None h = refl
only-none P fails (Some x) h = absurd (fails x h)

pub returns : goal.returns
returns c =
    ap (map (option_map instance_seen)) (c.in_ok-places.ensures.items_if_clones_equal (only-none _ (λ x h. h))) ∙ map-replicate (option_map instance_seen) c.args.addons None
