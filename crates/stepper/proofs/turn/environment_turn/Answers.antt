use Rattle.std.proofs.Common.{refl, sym}
use Rattle.env_loop.proofs.NeededTurns.{needs-then}
use Rattle.stepper.proofs.EnvironmentTurns.{goes-same, went-at-hub, went-alone}
use Rattle.stepper.proofs.turn.environment_turn.Goals as goal

pub returns-in-Made-clause-went : goal.returns-in-Made-clause-went
returns-in-Made-clause-went g c =
    let k = c.in-Made.ensures in
    went-alone g.N.Naming.numbers _ c.args.env.now c.local_turn.new.self c.args.hub.now _ _ c.invariant.ensures (sym k.turn) (k.made refl) (k.paid refl)
    (k.room refl) k.once k.seen (k.untouched refl)
    (k.fits c.args.hub.now c.requires.stands.fits)
    (record { addons = k.addons; limit = k.limit; others = k.others; goes = λ s firsts numbers. k.goes c.args.hub.now.history s firsts })

pub returns-in-NeedsHub-clause-went : goal.returns-in-NeedsHub-clause-went
returns-in-NeedsHub-clause-went g c =
    let k = c.in-NeedsHub.ensures in
    let h = c.hub_turn.ensures in
    went-at-hub g.N.Naming.numbers _ _ c.hub_turn.result c.args.env.now c.local_turn.new.self c.hub_turn.new.self c.args.hub.now c.hub_turn.new.hub _ _ _
    (k.same (λ e. cc)) (k.unseen (λ e. cc)) k.plans.same c.invariant.ensures
    (record {
      comes = record {
        needs = needs-then c.args.env.now c.local_turn.new.self (k.owes (λ e. cc)) k.turn;
        owes = k.owes (λ e. cc);
        once = k.once;
        stays = k.stays (λ e. cc);
        goes = goes-same _ _ _ _ _ (k.same (λ e. cc)) (k.unseen (λ e. cc)) k.goes;
      };
      answered = c.requires.stands.answered;
      free = k.free;
    })
    (record {
      made = h.made;
      paid = h.paid;
      hub = h.hub;
      full = h.full;
      memory = h.memory;
      cut = h.cut;
      nothing = h.nothing;
      stays = h.stays;
      same = h.same;
      keeps = record { journal = h.journal; limit = h.limit };
      seen = h.seen;
      untouched = h.untouched;
      led = c.invariant-in-NeedsHub.ensures;
    })
    h.fits h.spent
    (record { addons = k.addons; limit = k.limit; others = k.others; goes = λ s firsts numbers. k.goes c.args.hub.now.history s firsts })
    (record { addons = h.addons; limit = h.limit; others = h.others; goes = h.goes })
