use Rattle.std.proofs.Common.{ℕ, ◌+◌, ◌-◌, ◌*◌, ◌≤◌, true, [], ◌∷◌, ◌++◌, arith}
use Rattle.napi_types.specs.declared.entry.Entry.{Entry}
use Rattle.napi_types.specs.plain.Room.{most_entries}
use Rattle.napi_types.specs.environment.Environment.{OpenedWith, new_environment}
use Rattle.napi_types.proofs.environment.HookedSteps.{hooked-opening}
use Rattle.napi_types.proofs.environment.Promised.{opening-promised}
use Rattle.env_core.specs.Core.{IsCore}
use Rattle.env_core.proofs.env.EnvCore.new.Goals as goal

-- an environment that was opened, with its one entry
opened : (given : OpenedWith) (limit : ℕ) (entry : Entry) → 2 + 2 * given.addons ≤ limit → limit ≤ most_entries
    → IsCore (record (new_environment given) { opened = true })
    (record { entries = [] ++ record { at = 0; entry = entry } ∷ []; promised = 2 + 2 * given.addons - 1; limit = limit; position = 0 })
opened given limit entry room most =
    let h = hooked-opening given in
    record {
      reserved = omega arith;
      within = omega (arith, room);
      small = most;
      handles = omega arith;
      scopes = omega arith;
      references = omega arith;
      tickets = omega arith;
      values = omega arith;
      deferreds = omega arith;
      hooked = record { rise = h.rise; hooks = h.hooks; others = h.others; attached = h.attached; instances = h.instances; reactions = h.reactions; async = h.async };
      promised = record { linked = (opening-promised given).linked; promises = (opening-promised given).promises };
    }

pub invariant_of-result : goal.invariant_of-result
invariant_of-result c =
    rw (c.open.ensures.after, c.in_ok-state.ensures, c.push.ensures, c.in_ok-journal.ensures)
    (opened (record { version = c.args.version; addons = c.args.addons; texts = c.args.texts }) c.args.limits.journal _ c.requires.room c.requires.most, tt)
