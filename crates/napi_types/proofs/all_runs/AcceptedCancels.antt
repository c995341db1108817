-- An accepted cancel leads to a completion that begins as cancelled.
use Rattle.std.proofs.Common.{◌≡◌, ◌∙◌, ℕ, Bool, true, false, ◌&&◌, ◌||◌, ◌==◌, List, [], ◌∷◌, ◌++◌, IsTrue, refl, ap, sym, subst, Option, Some, None, append_assoc}
use Rattle.std.specs.List.{list_any}
use Rattle.std.specs.Option.{option_and_then}
use Rattle.std.proofs.lemmas.Bool.{or_right}
use Rattle.std.proofs.lemmas.List.Folds.{list_any-append}
use Rattle.napi_types.specs.declared.call.Call.{Call}
use Rattle.napi_types.specs.declared.call.Call.TheVariants as call
use Rattle.napi_types.specs.declared.entry.Entry.{Entry}
use Rattle.napi_types.specs.declared.entry.Given.{Given}
use Rattle.napi_types.specs.declared.entry.HostStep.TheVariants as host
use Rattle.napi_types.specs.declared.entry.Out.TheVariants as out
use Rattle.napi_types.specs.declared.entry.What.{What}
use Rattle.napi_types.specs.declared.entry.What.TheVariants as what
use Rattle.napi_types.specs.declared.ids.WorkId.{WorkId}
use Rattle.napi_types.specs.declared.status.Status.{Status}
use Rattle.napi_types.specs.declared.status.Status.TheVariants as status
use Rattle.napi_types.specs.plain.Entries.{host_entry}
use Rattle.napi_types.specs.plain.Guards.{is_shared}
use Rattle.napi_types.specs.plain.Lists.{singleton, unless}
use Rattle.napi_types.specs.plain.Replies.{accepts}
use Rattle.napi_types.specs.parts.Pool.{WorkPool, number_of_work, cancelled_at, with_cancelled, work_refusal, state_refusal, work_state, work_at}
use Rattle.napi_types.specs.parts.Works.{Work, Outcome, cancelled_outcome, is_queued, is_cancelled}
use Rattle.napi_types.specs.environment.Ends.{end_change}
use Rattle.napi_types.specs.environment.Entering.{asked_change}
use Rattle.napi_types.specs.environment.Environment.{Environment}
use Rattle.napi_types.specs.environment.Refusals.{refusal}
use Rattle.napi_types.specs.environment.SharedCalls.{shared_entry, given_of}
use Rattle.napi_types.specs.hub.GivenSteps.{answer_unless_given, work_number}
use Rattle.napi_types.specs.hub.Hub.{Hub}
use Rattle.napi_types.specs.hub.HubCalls.{unless_refused}
use Rattle.napi_types.specs.hub.HubEvents.{delivery_entry}
use Rattle.napi_types.specs.hub.HubMoves.{Delivers, Closes, Finishes, in_pool}
use Rattle.napi_types.specs.hub.HubStep.{answered_step}
use Rattle.napi_types.specs.hub.HubSteps.{hub_step}
use Rattle.napi_types.specs.runs.Machine.{Machine}
use Rattle.napi_types.specs.runs.Run.{IsNext, IsRunBy, after}
use Rattle.napi_types.specs.runs.Setting.{EndsBy, opening_of, final_of}
use Rattle.napi_types.specs.runs.Step.{Step, has_room, step}
use Rattle.napi_types.specs.all_runs.Cancels.{IsCancelledOnce}
use Rattle.napi_types.specs.all_runs.OnceLaws.{AcceptedCancelsCancel, is_cancelled_in}
use Rattle.napi_types.proofs.plain.Conditions.{and-right}
use Rattle.napi_types.proofs.plain.Found.{same-self}
use Rattle.napi_types.proofs.environment.Cases.{asked-by}
use Rattle.napi_types.proofs.environment.FrameEnds.{ended-ends}
use Rattle.napi_types.proofs.hub.HubKeeps.{hub_step-what, other-calls}
use Rattle.napi_types.proofs.hub.HubRooms.{IsWork, not-refused, WorkWaits, queued-waits}
use Rattle.napi_types.proofs.runs.Runs.{run-more, final-more}
use Rattle.napi_types.proofs.runs.StepCases.{StepCase, calls, ends, opens, inits, begins, vanishes, shares, leaves, passes, moves, others, step-case, abandons}
use Rattle.napi_types.proofs.all_runs.CancelledWorks.{cancelled-once, later-run}
use Rattle.napi_types.proofs.all_runs.HubAccounts.{Accountable, opens-accountable as opens-well, run-accountable}
use Rattle.napi_types.proofs.all_runs.NoRefusals.{no-refusal-accepts}

-- the work of this id waited, and is the last of the finished ones now
record CancelsWork (h : Hub) (w : WorkId) (n : Hub) : Type 0 where
  pub none : work_refusal is_queued h.pool w.0 ≡ None
  pub now : n ≡ in_pool (with_cancelled w.0) h

-- where the entry is an accepted cancel
abbrev CancelsAt : Hub → WorkId → Entry → Hub → Type 0
CancelsAt h w x n = x.what ≡ what.Call (call.CancelAsyncWork w) → x.reply.status ≡ status.Ok → CancelsWork h w n

abbrev is_of_call : What → Bool
is_of_call (what.Call c) = true
is_of_call (what.Host event) = false

no-call : (w : What) (c : Call) → is_of_call w ≡ false → w ≡ what.Call c → ⊥
no-call w c plain is = let both : true ≡ false = sym (ap is_of_call is) ∙ plain in cc

-- THE ENTRY OF A LOCAL CALL
pub called-what : (c d : Call) → what.Call c ≡ what.Call d → c ≡ d
called-what c d is = cc

asked-what : (e : Environment) (c : Call) (n : ℕ) (w : WorkId) → (asked_change e c n).entry.what ≡ what.Call (call.CancelAsyncWork w)
    → c ≡ call.CancelAsyncWork w
asked-what e c n w =
    asked-by e c n (λ d. d.entry.what ≡ what.Call (call.CancelAsyncWork w) → c ≡ call.CancelAsyncWork w) (called-what c (call.CancelAsyncWork w))
    (λ receiver f args none is. let no : ⊥ = cc in absurd no)

-- THE HUB'S ANSWER
by-test : (b : Bool) → unless b status.GenericFailure ≡ Some status.Ok → ⊥
by-test true is = cc
by-test false is = cc

work-refuses : (p : WorkPool) (o : Option Work) → state_refusal is_queued p o ≡ Some status.Ok → ⊥
work-refuses p None is = cc
work-refuses p (Some w) is = by-test (is_queued (work_state p w)) is

cancel-answer : (h : Hub) (x : Entry) (g : Given) (w : WorkId) (may : Bool) (s : Option Status) → (s ≡ Some status.Ok → ⊥)
    → (let t = answered_step h x may (answer_unless_given h g (call.CancelAsyncWork w) (work_number x.reply.out) s) in t.entry.reply.status ≡ status.Ok → CancelsWork h w t.after)
cancel-answer h x g w may (Some s) never is = absurd (never (ap Some is))
cancel-answer h x g w may None never is = by (work_refusal is_queued h.pool w.0) refl is
  where
    by : (o : Option Status) → work_refusal is_queued h.pool w.0 ≡ o
        → (unless_refused h o (accepts out.Nothing (in_pool (with_cancelled w.0) h))).reply.status ≡ status.Ok → CancelsWork h w (unless_refused h o (accepts out.Nothing (in_pool (with_cancelled w.0) h))).after
    by None none is = record { none = none; now = refl }
    by (Some s) some is = absurd (work-refuses h.pool (work_at h.pool w.0) (some ∙ ap Some is))

-- EACH STEP
step-cancels : (m : Machine) (s : Step) (w : WorkId) → StepCase m s → IsTrue s.may → CancelsAt m.hub w s.entry s.after.hub
step-cancels m s w (calls c n may alone) ok is accepted =
    let it : c ≡ call.CancelAsyncWork w = asked-what m.env c n w is in
    let wrong : true ≡ false = sym (ap is_shared it) ∙ alone in cc
step-cancels m s w (ends v cut may alone) ok is accepted = absurd (no-call _ _ (ap is_of_call (ended-ends v cut m.env).is) is)
step-cancels m s w opens ok is accepted = cc
step-cancels m s w (inits n) ok is accepted = cc
step-cancels m s w (begins n r there next may) ok is accepted = cc
step-cancels m s w (vanishes last) ok is accepted = cc
step-cancels m s w (shares c o shared answers) ok is accepted =
    let x : Entry = shared_entry m.env c o in
    let it : c ≡ call.CancelAsyncWork w = called-what c (call.CancelAsyncWork w) (sym (hub_step-what m.hub x) ∙ is) in
    subst (λ d. (hub_step m.hub (shared_entry m.env d o)).entry.reply.status ≡ status.Ok → CancelsWork m.hub w (hub_step m.hub (shared_entry m.env d o)).after) (sym it)
    (cancel-answer m.hub (shared_entry m.env (call.CancelAsyncWork w) o) (given_of m.env (call.CancelAsyncWork w)) w true (refusal m.env (call.CancelAsyncWork w))
    (no-refusal-accepts m.env (call.CancelAsyncWork w))) accepted
step-cancels m s w (leaves v cut may ours) ok is accepted =
    absurd (no-call _ _ (ap is_of_call (ended-ends v cut m.env).is) (sym (hub_step-what m.hub (end_change v cut m.env).entry) ∙ is))
step-cancels m s w (passes p o q) ok is accepted = absurd (no-call _ _ refl (sym (ap (λ (y : Entry). y.what) q.entry) ∙ is))
step-cancels m s w (abandons here far none alone) ok is accepted = cc
step-cancels m s w (moves (Delivers d) next moving alone) ok is accepted = absurd (no-call _ _ refl (sym (hub_step-what m.hub (delivery_entry d)) ∙ is))
step-cancels m s w (moves (Closes n) next moving alone) ok is accepted =
    absurd (no-call _ _ refl (sym (hub_step-what m.hub (host_entry host.CloseTsfn (out.Function (record { 0 = n })))) ∙ is))
step-cancels m s w (moves (Finishes n) next moving alone) ok is accepted =
    absurd (no-call _ _ refl (sym (hub_step-what m.hub (host_entry host.FinishTsfn (out.Function (record { 0 = n })))) ∙ is))
step-cancels m s w (others x other) ok is accepted =
    let wrong : false ≡ true =
    other-calls m.hub x (call.CancelAsyncWork w) other (sym (hub_step-what m.hub x) ∙ is) (and-right (has_room m x.what) (hub_step m.hub x).may ok) in cc

-- THE LAW
last-cancelled : (os : List Outcome) (k : ℕ) → list_any (λ o. (k == o.work) && is_cancelled o.status) (os ++ singleton (cancelled_outcome k)) ≡ true
last-cancelled os k =
    list_any-append (λ (o : Outcome). (k == o.work) && is_cancelled o.status) os (singleton (cancelled_outcome k))
    ∙ or_right (list_any (λ (o : Outcome). (k == o.work) && is_cancelled o.status) os) _ (ap (λ b. (b && true) || false) (same-self k))

pub accepted-cancels : AcceptedCancelsCancel
accepted-cancels s bs cs a xs ys x w prefix whole is accepted =
    let m : Machine = final_of s bs xs in
    let k : Accountable s.limits m = run-accountable s.limits (opening_of s) bs xs (opens-well s) prefix in
    let later : IsRunBy m (a ∷ cs) (x ∷ ys) = later-run (opening_of s) bs (a ∷ cs) xs (x ∷ ys) prefix whole.run.steps in
    let next : IsNext m a x = later.0 in
    let case : StepCase m (step m a x) = step-case m a x k.orderly.stage next in
    let c : CancelsWork m.hub w (after m a x).hub =
    step-cancels m (step m a x) w case next.1 (sym (ap (λ (y : Entry). y.what) next.0) ∙ is) (sym (ap (λ (y : Entry). y.reply.status) next.0) ∙ accepted) in
    let work : IsWork is_queued m.hub.pool w.0 = not-refused is_queued m.hub.pool w.0 c.none in
    let waits : WorkWaits m.hub.pool work.work = queued-waits m.hub.pool work.work work.state in
    let number : number_of_work m.hub.pool w.0 ≡ Some waits.number = ap (λ o. option_and_then (λ (v : Work). v.number) o) work.there ∙ waits.is in
    let stands : is_cancelled_in waits.number (after m a x).hub ≡ true =
    subst (λ (g : Hub). is_cancelled_in waits.number g ≡ true) (sym (c.now ∙ ap (λ o. in_pool (cancelled_at o) m.hub) number))
    (last-cancelled m.hub.pool.finished waits.number) in
    let now : final_of s (bs ++ a ∷ []) (xs ++ x ∷ []) ≡ after m a x = final-more (opening_of s) bs xs a x prefix in
    let split : (bs ++ a ∷ []) ++ cs ≡ bs ++ a ∷ cs = append_assoc bs (a ∷ []) cs in
    let parts : (xs ++ x ∷ []) ++ ys ≡ xs ++ x ∷ ys = append_assoc xs (x ∷ []) ys in
    record {
      number = waits.number;
      queued = number;
      once = subst (λ l. IsCancelledOnce waits.number l) parts
          (cancelled-once s (bs ++ a ∷ []) cs (xs ++ x ∷ []) ys waits.number (run-more (opening_of s) bs xs a x prefix next)
          (subst (λ l. EndsBy s ((bs ++ a ∷ []) ++ cs) l) (sym parts) (subst (λ l. EndsBy s l (xs ++ x ∷ ys)) (sym split) whole))
          (subst (λ (n : Machine). is_cancelled_in waits.number n.hub ≡ true) (sym now) stands));
    }
