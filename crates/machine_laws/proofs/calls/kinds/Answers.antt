use Rattle.std.proofs.Common.{refl, ◌≡◌, ◌<◌, ℕ, ◌==◌, Bool, true, false, Option, Some, None, arith}
use Rattle.std.specs.Option.{option_or}
use Rattle.napi_types.specs.declared.call.Call.TheVariants as call
use Rattle.napi_types.specs.declared.ids.HandleId.{HandleId}
use Rattle.napi_types.specs.declared.status.Status.TheVariants as status
use Rattle.napi_types.specs.plain.Lists.{when, unless}
use Rattle.napi_types.specs.parts.Bodies.{is_function}
use Rattle.napi_types.specs.parts.Heap.{Heap, handle_body}
use Rattle.napi_types.specs.parts.HeapRefusals.{row_refusal}
use Rattle.machine_laws.specs.CallLaws.{ExternalsAreTaggedOnly, OnlyExternalsAreRead, OnlyFunctionsAreServed}
use Rattle.machine_laws.proofs.calls.kinds.Goals as goal

tagged : ExternalsAreTaggedOnly
tagged heap h payload external = record {
  tag = λ lower upper. rw external refl;
  check = λ lower upper. rw external refl;
  wrap = λ payload finalizer hint ref. rw external refl;
  unwrap = rw external refl;
  remove = rw external refl;
  finalizer = λ payload finalizer hint ref. rw external refl;
}

read : OnlyExternalsAreRead
read heap h = record { external = λ payload is. rw is refl; number = λ n is. rw is refl }

pub returns-clause-tagged : goal.returns-clause-tagged
returns-clause-tagged c = tagged

pub returns-clause-read : goal.returns-clause-read
returns-clause-read c = read

some-hold : (n : ℕ) → 0 < n → (n == 0) ≡ false
some-hold n some = grind arith

-- nobody holds it
none-hold : (b : Bool) → option_or (unless b status.InvalidArg) (when true status.InvalidArg) ≡ Some status.InvalidArg
none-hold true = refl
none-hold false = refl

unheld : (heap : Heap) (most : ℕ) (finalizer : Option ℕ) (context : ℕ) (f : Option HandleId) (entry : Option ℕ)
    → row_refusal heap (call.CreateThreadsafeFunction f entry most 0 finalizer context) ≡ Some status.InvalidArg
unheld heap most finalizer context None None = refl
unheld heap most finalizer context None (Some entry) = refl
unheld heap most finalizer context (Some h) entry = none-hold (is_function (handle_body heap h.0))

law : OnlyFunctionsAreServed
law heap most count finalizer context = record {
  function = λ h entry addon runs payload is some. rw (is, some-hold count some) refl;
  entered = λ entry some. rw (some-hold count some) refl;
  number = λ h entry n is. rw is refl;
  neither = refl;
  unheld = unheld heap most finalizer context;
}

pub returns-clause-served : goal.returns-clause-served
returns-clause-served c = law
