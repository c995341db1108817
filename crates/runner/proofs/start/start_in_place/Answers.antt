use Rattle.std.proofs.Common.{[], sym}
use Rattle.std.proofs.lemmas.List.{append-nil}
use Rattle.runner.specs.declared.start.Child.TheVariants as child
use Rattle.runner.proofs.FilledPlaces.{given-is, back-is}
use Rattle.runner.proofs.start.start_in_place.Goals as goal

pub returns-in-Ok-clause-place : goal.returns-in-Ok-clause-place
returns-in-Ok-clause-place g c = record {
  child = child.Runs c.in-Ok.child;
  more = [];
  children = c.push_reserved.ensures.items;
  strays = sym (append-nil c.args.strays.now.items);
  fills = (given-is g.N.Naming.numbers c.args.hub.now c.args.unstarted c.in-Ok.child.promise.given.value c.in-Ok.ensures.started c.requires.waits, tt);
}

pub returns-in-Err-Ran-clause-place : goal.returns-in-Err-Ran-clause-place
returns-in-Err-Ran-clause-place g c = record {
  child = child.Done c.in-Err-Ran.pass;
  more = [];
  children = c.push_reserved-in-Err-Ran.ensures.items;
  strays = sym (append-nil c.args.strays.now.items);
  fills = (back-is g.N.Naming.numbers c.args.hub.now c.args.unstarted c.in-Err-Ran.pass c.requires.waits (rw c.in-Err-Ran.field-0-is at c.in-Err-Ran.ensures.refused), tt);
}
