-- Each collection of a run keeps exactly what the roots reach.
use Rattle.std.proofs.Common.{◌≡◌, ℕ, true, false, IsTrue, List, refl, sym, ◌∙◌, ap, subst}
use Rattle.napi_types.specs.declared.call.Ask.{Ask}
use Rattle.napi_types.specs.declared.call.Call.{Call}
use Rattle.napi_types.specs.declared.call.Call.TheVariants as call
use Rattle.napi_types.specs.declared.entry.Entry.{Entry}
use Rattle.napi_types.specs.declared.entry.HostStep.TheVariants as host
use Rattle.napi_types.specs.declared.entry.What.TheVariants as what
use Rattle.napi_types.specs.plain.Guards.{is_shared}
use Rattle.napi_types.specs.environment.Changes.{issued_number}
use Rattle.napi_types.specs.environment.Entering.{asked_change}
use Rattle.napi_types.specs.environment.Environment.{Environment}
use Rattle.napi_types.specs.environment.Roots.{roots}
use Rattle.napi_types.specs.runs.Machine.{Machine}
use Rattle.napi_types.specs.runs.Run.{after, IsNext, IsRunBy}
use Rattle.napi_types.specs.runs.Step.{Step, step}
use Rattle.napi_types.specs.all_runs.CollectionLaw.{Collects, KeepsReached}
use Rattle.napi_types.proofs.parts.Reaching.{numbers-kept}
use Rattle.napi_types.proofs.environment.Cases.{asked-by}
use Rattle.napi_types.proofs.runs.Forms as form
use Rattle.napi_types.proofs.runs.Forms.{Form, form-of, shared-what, ended-what, event_what, event-what, other-what}
use Rattle.napi_types.proofs.runs.Runs.{along-entries}
use Rattle.napi_types.proofs.runs.SharedSteps.{is_of_others}

-- an entry of a collection
abbrev IsCollection : Entry → Type 0
IsCollection x = x.what ≡ what.Call call.Collect

-- COLLECTIONS
-- nothing refuses one
asked-kept : (e : Environment) (c : Call) (n : ℕ) → IsCollection (asked_change e c n).entry → Collects e (asked_change e c n).after (asked_change e c n).entry
asked-kept e (call.CallFunction receiver f args) n is =
    absurd (asked-by e (call.CallFunction receiver f args) n (λ d. IsCollection d.entry → ⊥) (λ collects. cc) (λ r g given none collects. cc) is)
asked-kept e call.Collect n is = record { values = numbers-kept e.heap.values (roots e); unchanged = refl; references = refl; attachments = refl; book = refl; told = refl }
asked-kept e c n is = cc

-- no shared call is one
not-shared : (c : Call) → is_shared c ≡ true → what.Call c ≡ what.Call call.Collect → ⊥
not-shared call.Collect shares same = cc
not-shared c shares same = cc

-- so only a local call is one
form-kept : (m : Machine) (s : Step) → Form m s → IsTrue s.may → IsCollection s.entry → Collects m.env s.after.env s.entry
form-kept m _ (form.calls f fs stands c o local) may is = asked-kept m.env c (issued_number o) is
form-kept m _ (form.shares f fs stands c o shares told) may is = absurd (not-shared c shares (sym (shared-what m c o) ∙ is))
form-kept m _ (form.ends f fs stands v cut b ours hubs) may is =
    let no : what.Host host.End ≡ what.Call call.Collect = sym (ended-what m v cut b ours) ∙ is in cc
form-kept m _ (form.happens alone event next) may is = let no : what.Host (event_what event) ≡ what.Call call.Collect = sym (event-what m event may) ∙ is in cc
form-kept m _ (form.others x other same) may is = let no : true ≡ false = sym (other-what m x other may) ∙ ap is_of_others is in cc

-- RUNS
pub kept-next : (m : Machine) (a : Ask) (x : Entry) → IsNext m a x → x.what ≡ what.Call call.Collect → Collects m.env (after m a x).env x
kept-next m a x next is =
    let kept : Collects m.env (after m a x).env (step m a x).entry =
    form-kept m (step m a x) (form-of m a x next) next.1 (sym (ap (λ (y : Entry). y.what) next.0) ∙ is) in
    subst (λ (y : Entry). Collects m.env (after m a x).env y) (sym next.0) kept

pub kept-run : (m : Machine) (bs : List Ask) (xs : List Entry) → IsRunBy m bs xs → KeepsReached m bs xs
kept-run = along-entries KeepsReached (λ m. tt) (λ m a bs x xs next rest. (kept-next m a x next, rest))
