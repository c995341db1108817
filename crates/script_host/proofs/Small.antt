-- A script has eight addons at most.
use Rattle.std.proofs.Common.{◌≡◌, ◌≤◌, ◌+◌, ℕ, suc, Bool, true, false, nat_le, cond, List, [], ◌∷◌, length, Option, Ok, Err, refl, ap, sym, subst, ◌∙◌, arith}
use Rattle.serde_json.specs.Data.{Data, Items, item, no_items}
use Rattle.serde_json.specs.Events.{items_len}
use Rattle.serde_json.specs.Find.{get, as_array}
use Rattle.std.specs.Prelude.{codes, option_and_then}
use Rattle.napi_types.specs.declared.script.LimitName.{LimitName}
use Rattle.napi_types.specs.declared.script.LimitName.TheVariants as limit
use Rattle.napi_types.specs.declared.script.ScriptPart.{ScriptPart}
use Rattle.napi_types.specs.declared.script.ScriptPart.TheVariants as place
use Rattle.napi_types.specs.declared.script.Script.{Script}
use Rattle.napi_types.specs.declared.script.Mistake.TheVariants as wrong
use Rattle.napi_types.specs.declared.lists.AddonPlan.{AddonPlan}
use Rattle.napi_types.specs.scripts.Script.{addons_in, is_root, version_in, workers_in, threads_in, script}
use Rattle.napi_types.specs.scripts.ScriptAddons.{addon_at}
use Rattle.napi_types.specs.scripts.ScriptReading.{Reading, ◌>>=◌, formed, list_at, within_limit, each, Read, Table, read_with, when_formed}
use Rattle.napi_types.specs.scripts.ScriptThreads.{schedule_in}

-- what follows a part that was read was read too
pub record Both {A B : Type 0} (r : Reading A) (f : A → Reading B) (b : B) : Type 0 where
  pub first : A
  pub was : r ≡ Ok first
  pub then : f first ≡ Ok b

pub both : {A B : Type 0} (r : Reading A) (f : A → Reading B) (b : B) → (r >>= f) ≡ Ok b → Both r f b
both (Ok a) f b e = record { first = a; was = refl; then = e }
both (Err w) f b e = cc

each-length : {A : Type 0} (f : ℕ → Table → Data → Reading (Read A)) (n : ℕ) (table : Table) (ds : Items) (r : Read (List A)) → each f n table ds ≡ Ok r → length r.found ≡ items_len ds
unfolding each
each-length {A} f n table no_items r e = let same : read_with table [] ≡ r = cc in ap (λ (x : Read (List A)). length x.found) (sym same)
each-length {A} f n table (item d ds) r e =
    let one : Both (f n table d) _ r = both (f n table d) _ r e in
    let rest : Both (each f (n + 1) one.first.texts ds) _ r = both (each f (n + 1) one.first.texts ds) _ r one.then in
    let same : read_with rest.first.texts (one.first.found ∷ rest.first.found) ≡ r = cc in
    ap (λ (x : Read (List A)). length x.found) (sym same) ∙ ap suc (each-length f (n + 1) one.first.texts ds rest.first rest.was)

pub within_limit-limit : (which : LimitName) (most n : ℕ) (u : Unit {0}) → within_limit which most n ≡ Ok u → n ≤ most
within_limit-limit which most n u e = by (nat_le n most) refl e
  where
    by : (b : Bool) → nat_le n most ≡ b → cond b (Ok tt) (Err (wrong.Limit which)) ≡ Ok u → n ≤ most
    by true h k = grind arith
    by false h k = cc

pub list-short : (p : ScriptPart) (which : LimitName) (most : ℕ) (found : Option Data) (ds : Items) → list_at p which most found ≡ Ok ds → items_len ds ≤ most
unfolding list_at
list-short p which most found ds e =
    let items : Both (formed p (option_and_then as_array found)) _ ds = both (formed p (option_and_then as_array found)) _ ds e in
    let short : Both (within_limit which most (items_len items.first)) _ ds = both (within_limit which most (items_len items.first)) _ ds items.then in
    let same : items.first ≡ ds = cc in
    subst (λ (l : Items). items_len l ≤ most) same (within_limit-limit which most (items_len items.first) short.first short.was)

addons-few : (found : Option Data) (r : Read (List AddonPlan)) → addons_in found ≡ Ok r → length r.found ≤ 8
unfolding addons_in
addons-few found r e =
    let items : Both (list_at place.Addons limit.Addons 8 found) _ r = both (list_at place.Addons limit.Addons 8 found) _ r e in
    let few : items_len items.first ≤ 8 = list-short place.Addons limit.Addons 8 found items.first items.was in
    omega (arith, few, each-length addon_at 0 _ items.first r items.then)

-- the parts of a script, as they were read
pub record ScriptParts (d : Data) (s : Script) : Type 0 where
  pub version : version_in (get (codes "version") d) ≡ Ok s.version
  pub workers : workers_in (get (codes "workers") d) ≡ Ok s.workers
  pub few : length s.addons ≤ 8
  pub threads : threads_in (get (codes "threads") d) ≡ Ok s.threads
  pub schedule : schedule_in (length s.threads) s.workers (get (codes "schedule") d) ≡ Ok s.schedule

pub parts-of : (d : Data) (s : Script) → script d ≡ Ok s → ScriptParts d s
unfolding script
parts-of d s e =
    let root : Both (when_formed place.Root (is_root d)) _ s = both (when_formed place.Root (is_root d)) _ s e in
    let version : Both (version_in (get (codes "version") d)) _ s = both (version_in (get (codes "version") d)) _ s root.then in
    let workers : Both (workers_in (get (codes "workers") d)) _ s = both (workers_in (get (codes "workers") d)) _ s version.then in
    let addons : Both (addons_in (get (codes "addons") d)) _ s = both (addons_in (get (codes "addons") d)) _ s workers.then in
    let threads : Both (threads_in (get (codes "threads") d)) _ s = both (threads_in (get (codes "threads") d)) _ s addons.then in
    let schedule : Both (schedule_in (length threads.first) workers.first (get (codes "schedule") d)) _ s =
    both (schedule_in (length threads.first) workers.first (get (codes "schedule") d)) _ s threads.then in
    let same : record { version = version.first; workers = workers.first; addons = addons.first.found; threads = threads.first; schedule = schedule.first; texts = addons.first.texts } ≡ s = cc in
    subst (ScriptParts d) same (record {
      version = version.was;
      workers = workers.was;
      few = addons-few (get (codes "addons") d) addons.first addons.was;
      threads = threads.was;
      schedule = schedule.was;
    })
