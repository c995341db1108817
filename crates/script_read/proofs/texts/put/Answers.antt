use Rattle.std.proofs.Common.{◌≡◌, length, arith}
use Rattle.std.specs.BTreeMap.{get_by_text}
use Rattle.std.proofs.lemmas.Map.Text.{btree_map_updates_text}
use Rattle.script_read.proofs.Tables.{put-found}
use Rattle.script_read.proofs.texts.put.Goals as goal

pub returns-clause-found : goal.returns-clause-found
returns-clause-found c = λ other.
    let count : c.len-number.result ≡ length c.args.texts.now.items = omega arith in
    put-found c.args.texts.now.items c.reserve.new.self.items c.push_reserved.new.self.items c.args.text.now _ _ other _ (get_by_text c.args.numbers.now) _
    c.requires.absent c.requires.found count c.in-Ok.ensures.ok c.in_ok-copied.ensures c.in-Ok-reserve.ensures.items c.push_reserved.ensures.items
    (btree_map_updates_text _ c.args.numbers.now c.insert.new.self _ c.in-Ok-insert.ensures.updates other)
