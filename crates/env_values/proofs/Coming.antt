-- What a call comes to, of an addon.
use Rattle.std.proofs.Common.{◌≡◌, ◌∙◌, ℕ, Option, None, IsTrue, IsErrAnd, ap, sym, subst}
use Rattle.std.specs.Option.{unwrap_or}
use Rattle.std.specs.declared.result.Result.{Result}
use Rattle.std.specs.declared.result.Result.TheVariants.{Ok, Err}
use Rattle.napi_types.specs.declared.call.Call.{Call}
use Rattle.napi_types.specs.declared.entry.Out.{Out}
use Rattle.napi_types.specs.plain.Guards.{is_growing}
use Rattle.napi_types.specs.plain.Replies.{Answer}
use Rattle.napi_types.specs.parts.FunctionCalls.{on_functions}
use Rattle.napi_types.specs.parts.Heap.{Heap}
use Rattle.napi_types.specs.parts.HeapCalls.{heap_effect}
use Rattle.napi_types.specs.parts.HeapRefusals.{refusal_in}
use Rattle.env_values.specs.declared.stop.Stop.{Stop}
use Rattle.env_values.specs.declared.stop.Stop.TheVariants as stop
use Rattle.env_values.specs.ValueSteps.{Comes, ComesOf}

-- a call that creates no function comes to the same, whichever addon calls
comes-of-any : (texts addon : ℕ) (before : Heap) (c : Call) (r : Result Out Stop) (after : Heap) → on_functions addon before c ≡ None → Comes texts before c r after
    → ComesOf texts addon before c r after
comes-of-any texts addon before c (Ok o) after none (unrefused, is) = (unrefused, ap (λ (a : Option (Answer Heap)). unwrap_or a (heap_effect before c 0)) none ∙ is)
comes-of-any texts addon before c (Err (stop.Refused s)) after none comes = comes
comes-of-any texts addon before c (Err stop.NoMemory) after none comes = comes

-- the same, where the call is this one
pub comes-of : (texts addon : ℕ) (before : Heap) (k c : Call) (r : Result Out Stop) (after : Heap) → k ≡ c → on_functions addon before c ≡ None → Comes texts before c r after
    → ComesOf texts addon before k r after
comes-of texts addon before k c r after is none comes = subst (λ (x : Call). ComesOf texts addon before x r after) (sym is) (comes-of-any texts addon before c r after none comes)

-- a call that finds no memory, which grows and which nothing refuses
pub comes-without_memory : (texts : ℕ) (before after : Heap) (c : Call) (r : Result Out Stop) → IsErrAnd r (λ s. s ≡ stop.NoMemory) → IsTrue (is_growing c) → refusal_in texts before c ≡ None
    → after ≡ before → Comes texts before c r after
comes-without_memory texts before after c (Ok o) wants grows none same = absurd wants
comes-without_memory texts before after c (Err s) wants grows none same = rw wants (grows, none, same)
