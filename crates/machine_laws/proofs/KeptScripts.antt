-- A history that is written out is shown to keep the script of a thread by computing.
use Rattle.std.proofs.Common.{◌≡◌, ℕ, zero, suc, ◌+◌, Bool, true, false, cond, ◌||◌, List, [], ◌∷◌, map, slice_get, Option, Some, None, IsTrue, refl, ap, sym, subst, ◌∙◌}
use Rattle.std.specs.List.{list_all}
use Rattle.std.specs.Option.{unwrap_or}
use Rattle.napi_types.specs.declared.call.Call.{Call}
use Rattle.napi_types.specs.declared.entry.Entry.{Entry}
use Rattle.napi_types.specs.declared.entry.HostStep.TheVariants as host
use Rattle.napi_types.specs.declared.entry.Out.TheVariants as out
use Rattle.napi_types.specs.declared.entry.What.{What}
use Rattle.napi_types.specs.declared.entry.What.TheVariants as what
use Rattle.napi_types.specs.declared.entry.Why.TheVariants as why
use Rattle.napi_types.specs.declared.op.Op.{Op}
use Rattle.napi_types.specs.plain.Lists.{head, tail}
use Rattle.napi_types.specs.plain.Room.{Room, is_full, may_want_memory}
use Rattle.napi_types.specs.hub.Actors.{is_thread, thread_calls, left_after, IsNextOfThread, KeepsScriptFrom}
use Rattle.napi_types.specs.hub.HistoryRoom.{history_room}
use Rattle.napi_types.specs.hub.Hub.{Hub}
use Rattle.napi_types.specs.hub.HubSteps.{hub_step}
use Rattle.napi_types.specs.runs.Setting.{Setting, opening_of}
use Rattle.napi_types.specs.all_runs.HubLaws.{KeepsScript, ThreadsKeep}
use Rattle.napi_types.proofs.plain.Conditions.{and-left, and-right}

-- the entry that must stand as the next one of a thread, and whether it may
abbrev next_of_thread : Room → ℕ → Option (List Call) → Entry → What → Entry × Bool
next_of_thread r made (Some (c ∷ later)) x (what.Call d) = (record x { what = what.Call c; step = made }, true)
next_of_thread r made (Some []) x (what.Host host.ActorEnd) = (record x { reply = record (x.reply) { out = out.Nothing } }, true)
next_of_thread r made (Some (c ∷ later)) x (what.Host host.ActorEnd) =
    (record x { reply = record (x.reply) { out = out.Cut (cond (is_full r c) why.Full why.Memory) } }, is_full r c || may_want_memory r c)
next_of_thread r made left x w = (x, false)

-- one of another actor stands as it is
abbrev next_if : Bool → Room → ℕ → Option (List Call) → Entry → Entry × Bool
next_if true r made left x = next_of_thread r made left x x.what
next_if false r made left x = (x, true)

-- how many calls the thread has made after an entry, and which are left
abbrev calls_made_after : ℕ → ℕ → Entry → ℕ
calls_made_after t made x = cond (is_thread t x.actor) (made + 1) made

abbrev left_of_thread : ℕ → Option (List Call) → Entry → Option (List Call)
left_of_thread t left x = cond (is_thread t x.actor) (left_after left x.what) left

abbrev script_along : ℕ → ℕ → Hub → ℕ → ℕ → Option (List Call) → List Entry → List (Entry × Bool)
script_along limit t h n made left [] = []
script_along limit t h n made left (x ∷ xs) =
    next_if (is_thread t x.actor) (history_room h n limit) made left x
    ∷ script_along limit t (hub_step h x).after (n + 1) (calls_made_after t made x) (left_of_thread t left x) xs

next-of : (r : Room) (made : ℕ) (left : Option (List Call)) (x : Entry) (w : What) → x.what ≡ w → x ≡ (next_of_thread r made left x w).0
    → IsTrue (next_of_thread r made left x w).1 → IsNextOfThread r made left x w
next-of r made (Some (c ∷ later)) x (what.Call d) is same may =
    let w : what.Call d ≡ what.Call c = sym is ∙ ap (λ (y : Entry). y.what) same in
    let z : d ≡ c = cc in
    (z, ap (λ (y : Entry). y.step) same)
next-of r made (Some []) x (what.Host host.ActorEnd) is same may = ap (λ (y : Entry). y.reply.out) same
next-of r made (Some (c ∷ later)) x (what.Host host.ActorEnd) is same may = (ap (λ (y : Entry). y.reply.out) same, may)
next-of r made (Some []) x (what.Call d) is same may = cc
next-of r made None x w is same may = cc
next-of r made left x (what.Host _) is same may = cc

next-if : (b : Bool) (r : Room) (made : ℕ) (left : Option (List Call)) (x : Entry) → x ≡ (next_if b r made left x).0
    → IsTrue (next_if b r made left x).1 → b ≡ true → IsNextOfThread r made left x x.what
next-if true r made left x same may is = next-of r made left x x.what refl same may
next-if false r made left x same may is = cc

keeps-from : (limit t : ℕ) (h : Hub) (n made : ℕ) (left : Option (List Call)) (xs : List Entry)
    → xs ≡ map (λ p. p.0) (script_along limit t h n made left xs) → IsTrue (list_all (λ p. p.1) (script_along limit t h n made left xs))
    → KeepsScriptFrom limit t h n made left xs
keeps-from limit t h n made left [] same may = tt
keeps-from limit t h n made left (x ∷ xs) same may =
    let r : Room = history_room h n limit in
    let here : Entry × Bool = next_if (is_thread t x.actor) r made left x in
    let later : List (Entry × Bool) = script_along limit t (hub_step h x).after (n + 1) (calls_made_after t made x) (left_of_thread t left x) xs in
    let may_later : IsTrue (list_all (λ p. p.1) later) = and-right here.1 (list_all (λ p. p.1) later) may in (
      next-if (is_thread t x.actor) r made left x (ap (λ l. unwrap_or (head l) x) same) (and-left here.1 (list_all (λ p. p.1) later) may),
      keeps-from limit t (hub_step h x).after (n + 1) (calls_made_after t made x) (left_of_thread t left x) xs (ap tail same) may_later,
    )

-- along a whole history
abbrev pub kept_script : Setting → ℕ → List Op → List Entry → List (Entry × Bool)
kept_script s t operations history = script_along s.limits.history t (opening_of s).hub 0 0 (Some (thread_calls operations)) history

-- two facts on it show that the history keeps the script
keeps-script : (s : Setting) (t : ℕ) (operations : List Op) (history : List Entry) → history ≡ map (λ p. p.0) (kept_script s t operations history)
    → IsTrue (list_all (λ p. p.1) (kept_script s t operations history)) → KeepsScript s t operations history
keeps-script s t operations history same may =
    keeps-from s.limits.history t (opening_of s).hub 0 0 (Some (thread_calls operations)) history same may

-- so the one thread of a setting keeps its script, ..
pub one-keeps : (s : Setting) (operations : List Op) (history : List Entry) → s.threads ≡ 1 → history ≡ map (λ p. p.0) (kept_script s 0 operations history)
    → IsTrue (list_all (λ p. p.1) (kept_script s 0 operations history)) → ThreadsKeep s (operations ∷ []) history
one-keeps s operations history one same may = record { count = sym one; each = by }
  where
    by : (t : ℕ) (ops : List Op) → slice_get (operations ∷ []) t ≡ Some ops → KeepsScript s t ops history
    by zero ops there = let is : operations ≡ ops = cc in subst (λ l. KeepsScript s 0 l history) is (keeps-script s 0 operations history same may)
    by (suc t) ops there = cc

-- .. and both threads of another
pub two-keep : (s : Setting) (first second : List Op) (history : List Entry) → s.threads ≡ 2
    → (history ≡ map (λ p. p.0) (kept_script s 0 first history)) × IsTrue (list_all (λ p. p.1) (kept_script s 0 first history))
    → (history ≡ map (λ p. p.0) (kept_script s 1 second history)) × IsTrue (list_all (λ p. p.1) (kept_script s 1 second history))
    → ThreadsKeep s (first ∷ second ∷ []) history
two-keep s first second history two one other = record { count = sym two; each = by }
  where
    by : (t : ℕ) (ops : List Op) → slice_get (first ∷ second ∷ []) t ≡ Some ops → KeepsScript s t ops history
    by zero ops there = let is : first ≡ ops = cc in subst (λ l. KeepsScript s 0 l history) is (keeps-script s 0 first history one.0 one.1)
    by (suc zero) ops there = let is : second ≡ ops = cc in subst (λ l. KeepsScript s 1 l history) is (keeps-script s 1 second history other.0 other.1)
    by (suc (suc t)) ops there = cc
