use Rattle.std.proofs.Common.{Some, ap, refl}
use Rattle.array_buffers.proofs.Kept.{seen, made-after}
use Rattle.array_buffers.proofs.buffers.Buffers.make_reserved.Goals as goal

pub invariant_of-self : goal.invariant_of-self
invariant_of-self c =
    rw c.length-length.ensures (made-after _ _ _ c.args.self.now.buffers (seen c.self.view_is) c.self.invariant c.args.value.0 c.args.bytes _ (record { bytes = Some c.into_bytes.result; ticket = c.args.ticket }) c.put.new.rows.entries
    (ap Some c.into_bytes.ensures) refl c.put.ensures c.requires.few c.requires.together c.requires.absent c.requires.unviewed).0

pub returns : goal.returns
returns c =
    (made-after _ _ _ c.args.self.now.buffers (seen c.self.view_is) c.self.invariant c.args.value.0 c.args.bytes _ (record { bytes = Some c.into_bytes.result; ticket = c.args.ticket }) c.put.new.rows.entries
    (ap Some c.into_bytes.ensures) refl c.put.ensures c.requires.few c.requires.together c.requires.absent c.requires.unviewed).1
