use Rattle.std.proofs.Common.{option_map, sym, Some, arith}
use Rattle.std.proofs.lemmas.List.{map-set, length-map, set_past}
use Rattle.env_registry.specs.Instancing.{instance_seen, instances_seen}
use Rattle.env_registry.proofs.instances.InstanceTable.set.Goals as goal

pub returns-then-place-len : goal.returns-then-place-len
returns-then-place-len c =
    rw (← c.self.view_is) (map-set (option_map instance_seen) c.self.inside.places.items c.args.addon (Some (record { payload = c.args.payload; ticket = c.args.ticket })))

pub returns-else-place-len : goal.returns-else-place-len
returns-else-place-len c =
    rw (← c.self.view_is)
    (sym (set_past (instances_seen c.self.inside.places.items) c.args.addon _
    (omega (arith, c.if-place-len.false, c.len.ensures, length-map c.self.inside.places.items (option_map instance_seen)))))
