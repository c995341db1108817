use Rattle.value_store.proofs.FewProperties.{place-lookup, none-lookup}
use Rattle.value_store.proofs.properties.get_few.Goals as goal

pub returns-in-Some : goal.returns-in-Some
returns-in-Some c = place-lookup c.args.name c.args.entries.now c.in-Some.place c.in-Some.ensures (0, record { 0 = 0 })

pub returns-in-None : goal.returns-in-None
returns-in-None c = none-lookup c.args.name c.args.entries.now c.in-None.ensures
