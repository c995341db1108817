-- The handles and texts that a call names, each of which it has to know.
use Rattle.std.specs.Prelude.{ℕ, Bool, ◌&&◌, List, nat_lt, Option, is_some}
use Rattle.std.specs.List.{list_all}
use Rattle.napi_types.specs.declared.call.Call.{Call}
use Rattle.napi_types.specs.declared.status.Status.{Status}
use Rattle.napi_types.specs.declared.status.Status.TheVariants as status
use Rattle.napi_types.specs.plain.CallFacts.{facts_of}
use Rattle.napi_types.specs.plain.Lists.{unless}
use Rattle.napi_types.specs.parts.Heap.{Heap}
use Rattle.napi_types.specs.parts.Scopes.{gives}

-- A HANDLE OR A TEXT THAT IS UNKNOWN
-- the handles that a call names
abbrev pub handles_of : Call → List ℕ
handles_of c = (facts_of c).handles

-- the texts that a call names
abbrev pub texts_of : Call → List ℕ
texts_of c = (facts_of c).texts

-- each handle that the call names lies in an open scope, and each text that it names stands in the table, of so many texts
abbrev pub is_known : ℕ → Heap → Call → Bool
is_known texts heap c = list_all (λ h. is_some (gives heap.scopes h)) (handles_of c) && list_all (λ t. nat_lt t texts) (texts_of c)

-- a handle that no open scope holds, and a text past the table, is an invalid argument
abbrev pub unknown_refusal : ℕ → Heap → Call → Option Status
unknown_refusal texts heap c = unless (is_known texts heap c) status.InvalidArg
