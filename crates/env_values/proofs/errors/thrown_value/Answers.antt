use Rattle.std.proofs.Common.{length}
use Rattle.napi_types.specs.parts.NewValues.{thrown_strings}
use Rattle.env_values.proofs.KeepingHeaps.{keeps_listed_or_not, listed_live_or_not, listed_number_or_not, listed_made_or_not}
use Rattle.env_values.proofs.errors.thrown_value.Goals as goal

pub returns-clause-live : goal.returns-clause-live
returns-clause-live c = listed_live_or_not c.args.store.now c.make_thrown.new.self (length (thrown_strings c.args.code c.args.message)) c.make_thrown.result c.make_thrown.ensures.listed

pub returns-clause-number : goal.returns-clause-number
returns-clause-number c = listed_number_or_not c.args.store.now c.make_thrown.new.self (length (thrown_strings c.args.code c.args.message)) c.make_thrown.result c.make_thrown.ensures.listed

pub returns-clause-made : goal.returns-clause-made
returns-clause-made c = listed_made_or_not c.args.store.now c.make_thrown.new.self (length (thrown_strings c.args.code c.args.message)) c.make_thrown.result c.make_thrown.ensures.listed

pub returns-clause-kept : goal.returns-clause-kept
returns-clause-kept c = keeps_listed_or_not c.args.store.now c.make_thrown.new.self (length (thrown_strings c.args.code c.args.message)) c.make_thrown.result c.invariant.ensures c.make_thrown.ensures.listed c.make_thrown.ensures.err
