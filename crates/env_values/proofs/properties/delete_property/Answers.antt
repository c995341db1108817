use Rattle.std.proofs.Common.{refl}
use Rattle.env_values.proofs.Giving.{more-live}
use Rattle.env_values.proofs.KeepingHeaps.{plain-kind, keeps_changed}
use Rattle.env_values.proofs.properties.delete_property.Goals as goal

pub returns-clause-keeps : goal.returns-clause-keeps
returns-clause-keeps c =
    let values = keeps_changed c.args.store.now c.remove_prop.new.self c.in_ok-object.object.id.0 _
    (plain-kind c.args.store.now c.in_ok-object.object.id.0 _ (λ v. refl) (λ v. refl) (λ v. refl)) c.remove_prop.ensures.removed in record {
      scopes = record { live = more-live c.args.store.now c.remove_prop.new.self c.args.scopes.now values.live c.requires; calls = refl };
      values = values;
    }
