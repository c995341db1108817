use Rattle.std.proofs.Common.{refl, rules}
use Rattle.napi_types.specs.declared.call.Call.TheVariants as call
use Rattle.env_values.specs.SeenValues.{heap_of}
use Rattle.env_values.proofs.Coming.{comes-of}
use Rattle.env_values.proofs.step.creation.Goals as goal

pub returns-in-CreateInt64-clause-comes : goal.returns-in-CreateInt64-clause-comes
returns-in-CreateInt64-clause-comes c = let comes = c.create_int64.ensures.comes c.args.texts in search rules

pub returns-in-CreateSymbol-clause-comes : goal.returns-in-CreateSymbol-clause-comes
returns-in-CreateSymbol-clause-comes c =
    let before = heap_of c.args.store.now c.args.scopes.now in
    comes-of c.args.texts c.args.addon before _ (call.CreateSymbol c.in-CreateSymbol.description) c.create_symbol.result (heap_of c.create_symbol.new.store c.create_symbol.new.scopes) c.in-CreateSymbol.is refl (c.create_symbol.ensures.comes c.args.texts)

pub returns-in-CreateError-clause-comes : goal.returns-in-CreateError-clause-comes
returns-in-CreateError-clause-comes c =
    let before = heap_of c.args.store.now c.args.scopes.now in
    comes-of c.args.texts c.args.addon before _ (call.CreateError c.in-CreateError.code c.in-CreateError.message) c.create_error.result (heap_of c.create_error.new.store c.create_error.new.scopes) c.in-CreateError.is refl (c.create_error.ensures.comes c.args.texts)
