use Rattle.trace_text.proofs.line.add_end_of_kind.Goals as goal

pub returns-in-Undefined : goal.returns-in-Undefined
returns-in-Undefined g c = rw c.in-Undefined.is c.add_word.ensures

pub returns-in-Null : goal.returns-in-Null
returns-in-Null g c = rw c.in-Null.is c.add_word-in-Null.ensures

pub returns-in-Boolean : goal.returns-in-Boolean
returns-in-Boolean g c = rw c.in-Boolean.is c.add_word-in-Boolean.ensures

pub returns-in-Number : goal.returns-in-Number
returns-in-Number g c = rw c.in-Number.is c.add_word-in-Number.ensures

pub returns-in-String : goal.returns-in-String
returns-in-String g c = rw c.in-String.is c.add_word-in-String.ensures

pub returns-in-Symbol : goal.returns-in-Symbol
returns-in-Symbol g c = rw c.in-Symbol.is c.add_word-in-Symbol.ensures

pub returns-in-Object : goal.returns-in-Object
returns-in-Object g c = rw c.in-Object.is c.add_word-in-Object.ensures

pub returns-in-Function : goal.returns-in-Function
returns-in-Function g c = rw c.in-Function.is c.add_word-in-Function.ensures

pub returns-in-External : goal.returns-in-External
returns-in-External g c = rw c.in-External.is c.add_word-in-External.ensures

pub returns-in-Bigint : goal.returns-in-Bigint
returns-in-Bigint g c = rw c.in-Bigint.is c.add_word-in-Bigint.ensures
