-- What a call names, and the first refusal for that.
use Rattle.std.proofs.Common.{◌≡◌, ℕ, ◌==◌, ◌∙◌, ap, sym, refl, Bool, true, false, ◌&&◌, List, [], ◌∷◌, Option, None, inl, inr}
use Rattle.std.proofs.Math.Bool.{and-false}
use Rattle.std.proofs.lemmas.Bool.{eqb-true, eq-eqb, or_cases, or_left, or_right}
use Rattle.std.specs.List.{list_all}
use Rattle.std.specs.Option.{option_or}
use Rattle.napi_types.specs.declared.call.Call.{Call}
use Rattle.napi_types.specs.declared.call.Call.TheVariants as call
use Rattle.napi_types.specs.declared.status.Status.{Status}
use Rattle.napi_types.specs.plain.Lists.{has_number}
use Rattle.napi_types.specs.parts.HeapRefusals.{refusal_in}
use Rattle.napi_types.specs.parts.ReferenceRefusals.{reference_refusal}
use Rattle.napi_types.specs.environment.BufferCalls.{buffer_refusal}
use Rattle.napi_types.specs.environment.Environment.{Environment}
use Rattle.napi_types.specs.environment.HookCalls.{hook_refusal}
use Rattle.napi_types.specs.environment.PromiseCalls.{promise_refusal}
use Rattle.napi_types.specs.environment.Refusals.{refusal_by_state}
use Rattle.napi_types.proofs.plain.Lists.{option_or-none}
use Rattle.machine_laws.specs.CallLaws.{attached_refusal, NamesHooksAlone, ReferencesAreNamedAlone, HooksAreNamedAlone}

pub named-alone : ReferencesAreNamedAlone
named-alone e (call.DeleteReference r) = record { alone = inr (refl, refl); order = option_or-none (reference_refusal e.references (call.DeleteReference r)) }
named-alone e (call.ReferenceRef r) = record { alone = inr (refl, refl); order = option_or-none (reference_refusal e.references (call.ReferenceRef r)) }
named-alone e (call.ReferenceUnref r) = record { alone = inr (refl, refl); order = option_or-none (reference_refusal e.references (call.ReferenceUnref r)) }
named-alone e (call.GetReferenceValue r) = record {
  alone = inr (refl, refl);
  order = option_or-none (reference_refusal e.references (call.GetReferenceValue r));
}
named-alone e c = record { alone = inl refl; order = sym (option_or-none (refusal_in e.texts e.heap c)) }

-- a call that nothing but the references can refuse
on-references : (e : Environment) (c : Call) → hook_refusal e c ≡ None → attached_refusal e c ≡ None
    → refusal_by_state e c ≡ reference_refusal e.references c → NamesHooksAlone e c
on-references e c unhooked unattached alone =
    let r : Option Status = reference_refusal e.references c in
    let within : option_or r (attached_refusal e c) ≡ r = ap (option_or r) unattached ∙ option_or-none r in
    record {
      alone = inl unhooked;
      first = alone ∙ sym (ap (λ o. option_or o (option_or r (attached_refusal e c))) unhooked ∙ within);
      order = alone ∙ sym (ap (λ o. option_or o (hook_refusal e c)) within ∙ ap (option_or r) unhooked ∙ option_or-none r);
    }

-- a call that nothing but the heap and its own group can refuse
on-own : (e : Environment) (c : Call) (own : Option Status) → hook_refusal e c ≡ None → reference_refusal e.references c ≡ None
    → attached_refusal e c ≡ option_or (refusal_in e.texts e.heap c) (option_or own None)
    → refusal_by_state e c ≡ option_or (refusal_in e.texts e.heap c) own → NamesHooksAlone e c
on-own e c own unhooked unreferred attached alone =
    let within : attached_refusal e c ≡ option_or (refusal_in e.texts e.heap c) own =
    attached ∙ ap (option_or (refusal_in e.texts e.heap c)) (option_or-none own) in
    let same : option_or (reference_refusal e.references c) (attached_refusal e c) ≡ refusal_by_state e c =
    ap (λ o. option_or o (attached_refusal e c)) unreferred ∙ within ∙ sym alone in
    record {
      alone = inl unhooked;
      first = sym (ap (λ o. option_or o (option_or (reference_refusal e.references c) (attached_refusal e c))) unhooked ∙ same);
      order = sym (ap (λ o. option_or o (hook_refusal e c)) same ∙ ap (option_or (refusal_by_state e c)) unhooked ∙ option_or-none (refusal_by_state e c));
    }

-- by the promises, and by the buffers
on-promises : (e : Environment) (c : Call) → hook_refusal e c ≡ None → reference_refusal e.references c ≡ None
    → attached_refusal e c ≡ option_or (refusal_in e.texts e.heap c) (option_or (promise_refusal e c) None)
    → refusal_by_state e c ≡ option_or (refusal_in e.texts e.heap c) (promise_refusal e c) → NamesHooksAlone e c
on-promises e c unhooked unreferred attached alone = on-own e c (promise_refusal e c) unhooked unreferred attached alone

on-buffers : (e : Environment) (c : Call) → hook_refusal e c ≡ None → reference_refusal e.references c ≡ None
    → attached_refusal e c ≡ option_or (refusal_in e.texts e.heap c) (option_or (buffer_refusal e c) None)
    → refusal_by_state e c ≡ option_or (refusal_in e.texts e.heap c) (buffer_refusal e c) → NamesHooksAlone e c
on-buffers e c unhooked unreferred attached alone = on-own e c (buffer_refusal e c) unhooked unreferred attached alone

pub hooks-alone : HooksAreNamedAlone
hooks-alone e (call.AddEnvCleanupHook entry argument) = record {
  alone = inr (refl, refl, refl);
  first = sym (option_or-none (hook_refusal e (call.AddEnvCleanupHook entry argument)));
  order = refl;
}
hooks-alone e (call.RemoveEnvCleanupHook entry argument) = record {
  alone = inr (refl, refl, refl);
  first = sym (option_or-none (hook_refusal e (call.RemoveEnvCleanupHook entry argument)));
  order = refl;
}
hooks-alone e (call.AddAsyncCleanupHook entry argument) = record { alone = inl refl; first = refl; order = refl }
hooks-alone e (call.RemoveAsyncCleanupHook hook) = record {
  alone = inr (refl, refl, refl);
  first = sym (option_or-none (hook_refusal e (call.RemoveAsyncCleanupHook hook)));
  order = refl;
}
hooks-alone e (call.DeleteReference r) = on-references e (call.DeleteReference r) refl refl refl
hooks-alone e (call.ReferenceRef r) = on-references e (call.ReferenceRef r) refl refl refl
hooks-alone e (call.ReferenceUnref r) = on-references e (call.ReferenceUnref r) refl refl refl
hooks-alone e (call.GetReferenceValue r) = on-references e (call.GetReferenceValue r) refl refl refl
hooks-alone e (call.ResolveDeferred d v) = on-promises e (call.ResolveDeferred d v) refl refl refl refl
hooks-alone e (call.RejectDeferred d v) = on-promises e (call.RejectDeferred d v) refl refl refl refl
hooks-alone e (call.AddReaction h entry payload) = on-promises e (call.AddReaction h entry payload) refl refl refl refl
hooks-alone e call.GetReactionValue = on-promises e call.GetReactionValue refl refl refl refl
hooks-alone e (call.CreateArraybuffer size) = on-buffers e (call.CreateArraybuffer size) refl refl refl refl
hooks-alone e (call.CreateExternalArraybuffer size payload entry hint) =
    on-buffers e (call.CreateExternalArraybuffer size payload entry hint) refl refl refl refl
hooks-alone e (call.GetArraybufferInfo h) = on-buffers e (call.GetArraybufferInfo h) refl refl refl refl
hooks-alone e (call.DetachArraybuffer h) = on-buffers e (call.DetachArraybuffer h) refl refl refl refl
hooks-alone e (call.CreateTypedarray kind h offset count) = on-buffers e (call.CreateTypedarray kind h offset count) refl refl refl refl
hooks-alone e (call.GetView h at) = on-buffers e (call.GetView h at) refl refl refl refl
hooks-alone e (call.SetView h at number) = on-buffers e (call.SetView h at number) refl refl refl refl
hooks-alone e c = record { alone = inl refl; first = refl; order = sym (option_or-none (option_or (reference_refusal e.references c) (attached_refusal e c))) }

-- one of the list fails the test, so not all pass it
pub fails-all : (p : ℕ → Bool) (ns : List ℕ) (n : ℕ) → has_number n ns ≡ true → p n ≡ false → list_all p ns ≡ false
fails-all p [] n here fails = cc
fails-all p (m ∷ ns) n here fails =
    elim (or_cases (m == n) (has_number n ns) here) [
      | inl same ↦ ap (λ b. b && list_all p ns) (ap p (eqb-true m n same) ∙ fails)
      | inr later ↦ ap (λ b. p m && b) (fails-all p ns n later fails) ∙ and-false (p m)
    ]

-- each of the list passes it
pub passes-all : (p : ℕ → Bool) (ns : List ℕ) → ((n : ℕ) → has_number n ns ≡ true → p n ≡ true) → list_all p ns ≡ true
passes-all p [] each = refl
passes-all p (m ∷ ns) each =
    rw (each m (or_left (m == m) (has_number m ns) (eq-eqb m m refl)))
    (passes-all p ns (λ n here. each n (or_right (m == n) (has_number n ns) here)))
