-- What thread-safe functions keep alive changes with their creation and with their finish alone.
use Rattle.std.proofs.Common.{◌≡◌, ◌∙◌, ℕ, ◌==◌, Bool, true, false, not, cond, List, [], ◌∷◌, ◌++◌, map, filter, IsTrue, refl, ap, sym, subst, Option, Some, None, ◌⊎◌, inl, inr, All}
use Rattle.std.proofs.lemmas.Bool.{eqb-true, eq-eqb, true≢false}
use Rattle.std.proofs.lemmas.List.{append-nil, append_assoc, map-append}
use Rattle.std.proofs.lemmas.List.Elements.{All-head, All-tail, filter-append}
use Rattle.napi_types.specs.declared.call.Call.{Call}
use Rattle.napi_types.specs.declared.call.Call.TheVariants as call
use Rattle.napi_types.specs.declared.entry.Entry.{Entry}
use Rattle.napi_types.specs.declared.entry.HostStep.TheVariants as host
use Rattle.napi_types.specs.declared.entry.Out.{Out}
use Rattle.napi_types.specs.declared.entry.Out.TheVariants as out
use Rattle.napi_types.specs.declared.entry.Reply.{Reply}
use Rattle.napi_types.specs.declared.entry.What.{What}
use Rattle.napi_types.specs.declared.entry.What.TheVariants as what
use Rattle.napi_types.specs.declared.entry.Why.{Why}
use Rattle.napi_types.specs.declared.ids.HandleId.{HandleId}
use Rattle.napi_types.specs.declared.ids.TsfnId.{TsfnId}
use Rattle.napi_types.specs.plain.Entries.{host_entry}
use Rattle.napi_types.specs.plain.Guards.{is_shared}
use Rattle.napi_types.specs.plain.Lists.{singleton}
use Rattle.napi_types.specs.parts.Book.{Registration, registration_at}
use Rattle.napi_types.specs.parts.Heap.{handle_value}
use Rattle.napi_types.specs.environment.Changes.{issued_number}
use Rattle.napi_types.specs.environment.Ends.{end_change}
use Rattle.napi_types.specs.environment.Entering.{asked_change}
use Rattle.napi_types.specs.environment.Environment.{Environment, TsfnRoot}
use Rattle.napi_types.specs.environment.SharedCalls.{with_root, without_root, shared_entry}
use Rattle.napi_types.specs.hub.HubMoves.{HubMove, Delivers, Closes, Finishes, hub_move}
use Rattle.napi_types.specs.hub.HubEvents.{finish_step}
use Rattle.napi_types.specs.hub.HubSteps.{hub_step}
use Rattle.napi_types.specs.runs.Choice.{choice}
use Rattle.napi_types.specs.runs.Loop.{Event, Opens, Inits, Tickets, Moves, Goes, EndsLoop, Abandons, Drains, FinalsCome, IsGone}
use Rattle.napi_types.specs.runs.Machine.{Machine}
use Rattle.napi_types.specs.runs.Run.{after, final}
use Rattle.napi_types.specs.runs.Step.{Step, ticket_step, move_step, event_step, shared_call_step, end_step_on, step}
use Rattle.napi_types.proofs.environment.Changed.{Ignores, changed-keeps, asked-changed, ended-changed}
use Rattle.napi_types.proofs.environment.Cases.{asked-by}
use Rattle.napi_types.proofs.runs.Forms as form
use Rattle.napi_types.proofs.runs.Forms.{Form, form-of, shared-what, ended-what, event_what, event-what, other-what}
use Rattle.napi_types.proofs.runs.SharedSteps.{is_of_others}
use Rattle.napi_types.proofs.runs.Chosen.{chosen-move}
use Rattle.napi_types.proofs.runs.Runs.{along-entries}
use Rattle.machine_laws.specs.TsfnRoots.{kept_by, is_finish_of, tells_finish, KeepsOn, NewFunctionsKeepTheirValue, FunctionsKeepUntilTheyFinish, FinishedFunctionsKeepNone}

-- THE CALLS AND THE ENDS OF FRAMES
-- these keep what functions keep
abbrev Roots : Environment → List TsfnRoot
Roots e = e.tsfn_roots

roots-ignored : Ignores Roots
roots-ignored = record {
  heap = λ d x. refl;
  frames = λ d x. refl;
  references = λ d x. refl;
  attachments = λ d x. refl;
  book = λ d x. refl;
  hooks = λ d x. refl;
  async_hooks = λ d x. refl;
  promises = λ d x. refl;
  buffers = λ d x. refl;
  instances = λ d x. refl;
  pending = λ d x. refl;
  last = λ d x. refl;
}

asked-roots : (e : Environment) (c : Call) (n : ℕ) → Roots (asked_change e c n).after ≡ Roots e
asked-roots e c n = changed-keeps Roots c e (asked_change e c n).after roots-ignored (λ is g. refl) (asked-changed e c n)

ended-roots : (v : Option HandleId) (cut : Option Why) (e : Environment) → Roots (end_change v cut e).after ≡ Roots e
ended-roots v cut e = changed-keeps Roots call.Exit e (end_change v cut e).after roots-ignored (λ is g. refl) (ended-changed call.Exit v cut e)

-- WHAT A FUNCTION KEEPS
keeps-same : (n : ℕ) (old new : Environment) → Roots new ≡ Roots old → KeepsOn n old new
keeps-same n old new same = record {
  more = [];
  kept = ap (λ (rs : List TsfnRoot). map (λ r. r.value) (filter (λ r. r.function == n) rs)) same ∙ sym (append-nil (kept_by n old));
}

keeps-then : (n : ℕ) (a b c : Environment) → KeepsOn n a b → KeepsOn n b c → KeepsOn n a c
keeps-then n a b c one two = record {
  more = one.more ++ two.more;
  kept = two.kept ∙ ap (λ vs. vs ++ two.more) one.kept ∙ append_assoc (kept_by n a) one.more two.more;
}

-- one root more
rooted-more : (n : ℕ) (e : Environment) (r : TsfnRoot)
    → kept_by n (record e { tsfn_roots = e.tsfn_roots ++ singleton r }) ≡ kept_by n e ++ map (λ r. r.value) (filter (λ r. r.function == n) (singleton r))
rooted-more n e r =
    ap (map (λ (r : TsfnRoot). r.value)) (filter-append (λ (r : TsfnRoot). r.function == n) e.tsfn_roots (singleton r))
    ∙ map-append (λ (r : TsfnRoot). r.value) (filter (λ r. r.function == n) e.tsfn_roots) (filter (λ r. r.function == n) (singleton r))

root-keeps : (n : ℕ) (c : Call) (o : Out) (e : Environment) → KeepsOn n e (with_root c o e)
root-keeps n (call.CreateThreadsafeFunction (Some f) entry maximum count finalizer context) (out.Function k) e =
    let r : TsfnRoot = record { function = k.0; value = handle_value e.heap f.0 } in
    record { more = map (λ r. r.value) (filter (λ r. r.function == n) (singleton r)); kept = rooted-more n e r }
root-keeps n (call.CreateThreadsafeFunction (Some f) entry maximum count finalizer context) o e = keeps-same n e e refl
root-keeps n c o e = keeps-same n e e refl

-- those of another function are lost
lost-others : (n k : ℕ) → (k == n) ≡ false → (rs : List TsfnRoot)
    → filter (λ r. r.function == n) (filter (λ r. not (r.function == k)) rs) ≡ filter (λ r. r.function == n) rs
lost-others n k apart [] = refl
lost-others n k apart (r ∷ rs) = by (lost-others n k apart rs) (r.function == k) (r.function == n) refl refl
  where
    left : List TsfnRoot
    left = filter (λ r. not (r.function == k)) rs

    P : TsfnRoot → Bool
    P = λ q. q.function == n

    by : filter P left ≡ filter P rs → (b c : Bool) → (r.function == k) ≡ b → (r.function == n) ≡ c
        → filter P (cond (not b) (r ∷ left) left) ≡ cond c (r ∷ filter P rs) (filter P rs)
    by rest true true other ours =
        let same : k ≡ n = sym (eqb-true r.function k other) ∙ eqb-true r.function n ours in
        absurd (true≢false (sym (eq-eqb k n same) ∙ apart))
    by rest true false other ours = rest
    by rest false c other ours = ap (λ b. cond b (r ∷ filter P left) (filter P left)) ours ∙ ap (λ qs. cond c (r ∷ qs) qs) rest

-- its own are all lost
lost-own : (n k : ℕ) → (k == n) ≡ true → (rs : List TsfnRoot) → filter (λ r. r.function == n) (filter (λ r. not (r.function == k)) rs) ≡ []
lost-own n k same [] = refl
lost-own n k same (r ∷ rs) = by (lost-own n k same rs) (r.function == k) (r.function == n) refl refl
  where
    left : List TsfnRoot
    left = filter (λ r. not (r.function == k)) rs

    P : TsfnRoot → Bool
    P = λ q. q.function == n

    by : filter P left ≡ [] → (b c : Bool) → (r.function == k) ≡ b → (r.function == n) ≡ c → filter P (cond (not b) (r ∷ left) left) ≡ []
    by rest true c other ours = rest
    by rest false true other ours =
        let here : r.function ≡ k = eqb-true r.function n ours ∙ sym (eqb-true k n same) in
        absurd (true≢false (sym (eq-eqb r.function k here) ∙ other))
    by rest false false other ours = ap (λ b. cond b (r ∷ filter P left) (filter P left)) ours ∙ rest

finished-keeps : (n k : ℕ) (e : Environment) → (k == n) ≡ false → KeepsOn n e (without_root k e)
finished-keeps n k e apart = record {
  more = [];
  kept = ap (map (λ (r : TsfnRoot). r.value)) (lost-others n k apart e.tsfn_roots) ∙ sym (append-nil (kept_by n e));
}

-- EVERY STEP
module _ (n : ℕ) (m : Machine) where
  ticket-keeps : (t : ℕ) (r : Option Registration) → KeepsOn n m.env (ticket_step m t r).after.env
  ticket-keeps t None = keeps-same n m.env m.env refl
  ticket-keeps t (Some r) = keeps-same n m.env (ticket_step m t (Some r)).after.env refl

  move-keeps : (move : HubMove) → hub_move m.hub ≡ Some move → is_finish_of n (move_step m move).entry ≡ false → KeepsOn n m.env (move_step m move).after.env
  move-keeps (Delivers d) next none = keeps-same n m.env (move_step m (Delivers d)).after.env refl
  move-keeps (Closes k) next none = keeps-same n m.env m.env refl
  move-keeps (Finishes k) next none =
      let x : Entry = host_entry host.FinishTsfn (out.Function (record { 0 = k })) in
      finished-keeps n k m.env (sym (ap (λ o. is_finish_of n (finish_step m.hub x o).entry) next) ∙ none)

  event-keeps : (event : Event) → choice m ≡ Some event → is_finish_of n (event_step m event).entry ≡ false → KeepsOn n m.env (event_step m event).after.env
  event-keeps (Tickets t) next none = ticket-keeps t (registration_at m.env.book t)
  event-keeps (Moves move) next none = move-keeps move (chosen-move m move next) none
  event-keeps Opens next none = keeps-same n m.env (event_step m Opens).after.env refl
  event-keeps (Inits k) next none = keeps-same n m.env (event_step m (Inits k)).after.env refl
  event-keeps Goes next none = keeps-same n m.env (event_step m Goes).after.env refl
  event-keeps (EndsLoop w) next none = keeps-same n m.env (event_step m (EndsLoop w)).after.env refl
  event-keeps Abandons next none = keeps-same n m.env (event_step m Abandons).after.env refl
  event-keeps Drains next none = keeps-same n m.env (event_step m Drains).after.env refl
  event-keeps FinalsCome next none = keeps-same n m.env (event_step m FinalsCome).after.env refl
  event-keeps IsGone next none = keeps-same n m.env (event_step m IsGone).after.env refl

  shared-keeps : (c : Call) (o : Out) → KeepsOn n m.env (shared_call_step m c o).after.env
  shared-keeps c o =
      let k : KeepsOn n m.env (with_root c (hub_step m.hub (shared_entry m.env c o)).entry.reply.out m.env) = root-keeps n c _ m.env in
      record { more = k.more; kept = k.kept }

  ended-step-keeps : (v : Option HandleId) (cut : Option Why) (may ours : Bool) → KeepsOn n m.env (end_step_on ours m (end_change v cut m.env) may).after.env
  ended-step-keeps v cut may false = keeps-same n m.env (end_change v cut m.env).after (ended-roots v cut m.env)
  ended-step-keeps v cut may true = keeps-same n m.env (end_change v cut m.env).after (ended-roots v cut m.env)

  form-keeps : (t : Step) → Form m t → is_finish_of n t.entry ≡ false → KeepsOn n m.env t.after.env
  form-keeps _ (form.calls f fs stands c o local) none = keeps-same n m.env (asked_change m.env c (issued_number o)).after
      (asked-roots m.env c (issued_number o))
  form-keeps _ (form.shares f fs stands c o shared answers) none = shared-keeps c o
  form-keeps _ (form.ends f fs stands v cut may ours is) none = ended-step-keeps v cut may ours
  form-keeps _ (form.happens alone event next) none = event-keeps event next none
  form-keeps _ (form.others x other same) none = keeps-same n m.env m.env refl

-- RUNS
pub keep-until-they-finish : FunctionsKeepUntilTheyFinish
keep-until-they-finish m bs xs n run =
    along-entries (λ m bs xs. All (λ y. is_finish_of n y ≡ false) xs → KeepsOn n m.env (final m bs xs).env) (λ m none. keeps-same n m.env m.env refl)
    (λ m a bs x xs next rest none.
    let here : is_finish_of n (step m a x).entry ≡ false = subst (λ y. is_finish_of n y ≡ false) next.0 (All-head (λ y. is_finish_of n y ≡ false) x xs none) in
    keeps-then n m.env (after m a x).env (final (after m a x) bs xs).env (form-keeps n m (step m a x) (form-of m a x next) here)
    (rest (All-tail (λ y. is_finish_of n y ≡ false) x xs none))) m bs xs run

-- A NEW FUNCTION
-- the entry of a local call is the call, or the begin of a frame
asked-what : (e : Environment) (c : Call) (n : ℕ) → ((asked_change e c n).entry.what ≡ what.Call c) ⊎ ((asked_change e c n).entry.what ≡ what.Host host.Begin)
asked-what e c n = asked-by e c n (λ d. (d.entry.what ≡ what.Call c) ⊎ (d.entry.what ≡ what.Host host.Begin)) (inl refl) (λ receiver f args none. inr refl)

module _ (m : Machine) (f : HandleId) (entry : Option ℕ) (maximum count : ℕ) (finalizer : Option ℕ) (context : ℕ) (n : TsfnId) where
  abbrev creation : Call
  creation = call.CreateThreadsafeFunction (Some f) entry maximum count finalizer context

  abbrev Kept : Environment → Type 0
  Kept e = kept_by n.0 e ≡ kept_by n.0 m.env ++ singleton (handle_value m.env.heap f.0)

  new-kept : kept_by n.0 (with_root creation (out.Function n) m.env) ≡ kept_by n.0 m.env ++ singleton (handle_value m.env.heap f.0)
  new-kept =
      let r : TsfnRoot = record { function = n.0; value = handle_value m.env.heap f.0 } in
      rooted-more n.0 m.env r ∙ ap (λ b. kept_by n.0 m.env ++ map (λ r. r.value) (cond b (singleton r) [])) (eq-eqb n.0 n.0 refl)

  shared-new : (c : Call) (o : Out) → (shared_call_step m c o).entry.what ≡ what.Call creation → (shared_call_step m c o).entry.reply.out ≡ out.Function n
      → Kept (shared_call_step m c o).after.env
  shared-new c o is told =
      let named : what.Call c ≡ what.Call creation = sym (shared-what m c o) ∙ is in
      let same : c ≡ creation = cc in
      let r : Reply = (hub_step m.hub (shared_entry m.env c o)).entry.reply in
      ap (λ d. kept_by n.0 (with_root d r.out m.env)) same ∙ ap (λ p. kept_by n.0 (with_root creation p m.env)) told ∙ new-kept

  local-new : (c : Call) (o : Out) → is_shared c ≡ false → (asked_change m.env c (issued_number o)).entry.what ≡ what.Call creation → ⊥
  local-new c o local is = by (asked-what m.env c (issued_number o))
    where
      by : ((asked_change m.env c (issued_number o)).entry.what ≡ what.Call c) ⊎ ((asked_change m.env c (issued_number o)).entry.what ≡ what.Host host.Begin)
          → ⊥
      by (inl here) =
          let named : what.Call c ≡ what.Call creation = sym here ∙ is in
          let same : c ≡ creation = cc in
          true≢false (sym (ap is_shared same) ∙ local)
      by (inr begins) = let no : what.Host host.Begin ≡ what.Call creation = sym begins ∙ is in cc

  form-new : (t : Step) → Form m t → IsTrue t.may → t.entry.what ≡ what.Call creation → t.entry.reply.out ≡ out.Function n → Kept t.after.env
  form-new _ (form.calls g gs stands c o local) may is told = absurd (local-new c o local is)
  form-new _ (form.shares g gs stands c o shared answers) may is told = shared-new c o is told
  form-new _ (form.ends g gs stands v cut b ours here) may is told =
      let no : what.Host host.End ≡ what.Call creation = sym (ended-what m v cut b ours) ∙ is in cc
  form-new _ (form.happens alone event next) may is told =
      let no : what.Host (event_what event) ≡ what.Call creation = sym (event-what m event may) ∙ is in cc
  form-new _ (form.others x other same) may is told =
      absurd (true≢false (sym (other-what m x other may) ∙ ap is_of_others is))

pub new-keep-theirs : NewFunctionsKeepTheirValue
new-keep-theirs m a x f entry maximum count finalizer context n next is told =
    form-new m f entry maximum count finalizer context n (step m a x) (form-of m a x next) next.1
    (sym (ap (λ (y : Entry). y.what) next.0) ∙ is) (sym (ap (λ (y : Entry). y.reply.out) next.0) ∙ told)

-- A FUNCTION THAT FINISHES
finish-what : (n : ℕ) (w : What) (o : Out) → tells_finish n w o ≡ true → w ≡ what.Host host.FinishTsfn
finish-what n (what.Host host.FinishTsfn) (out.Function f) is = refl
finish-what n _ _ is = cc

module _ (n : ℕ) (m : Machine) where
  abbrev KeepsNone : Step → Type 0
  KeepsNone t = kept_by n t.after.env ≡ []

  -- no other event is one
  no-finish : (event : Event) → IsTrue (event_step m event).may → (event_step m event).entry.what ≡ what.Host host.FinishTsfn → event_what event ≡ host.FinishTsfn
  no-finish event may is = let same : what.Host (event_what event) ≡ what.Host host.FinishTsfn = sym (event-what m event may) ∙ is in cc

  event-none : (event : Event) → choice m ≡ Some event → event_what event ≡ host.FinishTsfn → is_finish_of n (event_step m event).entry ≡ true → KeepsNone (event_step m event)
  event-none (Moves (Finishes k)) next is finish =
      let x : Entry = host_entry host.FinishTsfn (out.Function (record { 0 = k })) in
      let same : (k == n) ≡ true = sym (ap (λ o. is_finish_of n (finish_step m.hub x o).entry) (chosen-move m (Finishes k) next)) ∙ finish in
      ap (map (λ (r : TsfnRoot). r.value)) (lost-own n k same m.env.tsfn_roots)
  event-none (Moves (Delivers d)) next is finish = cc
  event-none _ next is finish = cc

  local-none : (c : Call) (k : ℕ) → (asked_change m.env c k).entry.what ≡ what.Host host.FinishTsfn → ⊥
  local-none c k is = by (asked-what m.env c k)
    where
      by : ((asked_change m.env c k).entry.what ≡ what.Call c) ⊎ ((asked_change m.env c k).entry.what ≡ what.Host host.Begin) → ⊥
      by (inl here) = let no : what.Call c ≡ what.Host host.FinishTsfn = sym here ∙ is in cc
      by (inr begins) = let no : what.Host host.Begin ≡ what.Host host.FinishTsfn = sym begins ∙ is in cc

  form-none : (t : Step) → Form m t → IsTrue t.may → t.entry.what ≡ what.Host host.FinishTsfn → is_finish_of n t.entry ≡ true → KeepsNone t
  form-none _ (form.calls f fs stands c o local) may is finish = absurd (local-none c (issued_number o) is)
  form-none _ (form.shares f fs stands c o shared answers) may is finish = let no : what.Call c ≡ what.Host host.FinishTsfn = sym (shared-what m c o) ∙ is in cc
  form-none _ (form.ends f fs stands v cut b ours here) may is finish =
      let no : what.Host host.End ≡ what.Host host.FinishTsfn = sym (ended-what m v cut b ours) ∙ is in cc
  form-none _ (form.happens alone event next) may is finish = event-none event next (no-finish event may is) finish
  form-none _ (form.others x other same) may is finish = absurd (true≢false (sym (other-what m x other may) ∙ ap is_of_others is))

pub finished-keep-none : FinishedFunctionsKeepNone
finished-keep-none m a x n next finish =
    let here : is_finish_of n (step m a x).entry ≡ true = subst (λ y. is_finish_of n y ≡ true) next.0 finish in
    form-none n m (step m a x) (form-of m a x next) next.1 (finish-what n (step m a x).entry.what (step m a x).entry.reply.out here) here
