-- Only an accepted call of its own withdraws a duty; and what becomes of all duties of a run alone.
use Rattle.std.proofs.Common.{◌≡◌, ℕ, true, not, ◌&&◌, List, IsTrue, refl, sym, subst, Option, Some, None, is_some}
use Rattle.std.specs.List.{All}
use Rattle.std.proofs.lemmas.List.Elements.{All-nil, All-cons}
use Rattle.napi_types.specs.declared.call.Ask.{Ask}
use Rattle.napi_types.specs.declared.call.Call.{Call}
use Rattle.napi_types.specs.declared.call.Call.TheVariants as call
use Rattle.napi_types.specs.declared.entry.Duty.{Duty}
use Rattle.napi_types.specs.declared.entry.Entry.{Entry}
use Rattle.napi_types.specs.declared.entry.HostStep.TheVariants as host
use Rattle.napi_types.specs.declared.entry.Out.TheVariants as out
use Rattle.napi_types.specs.declared.entry.Reply.{Reply}
use Rattle.napi_types.specs.declared.entry.What.{What}
use Rattle.napi_types.specs.declared.entry.What.TheVariants as what
use Rattle.napi_types.specs.declared.entry.Why.{Why}
use Rattle.napi_types.specs.declared.ids.HandleId.{HandleId}
use Rattle.napi_types.specs.declared.status.Status.TheVariants as status
use Rattle.napi_types.specs.plain.Entries.{host_entry}
use Rattle.napi_types.specs.plain.Room.{is_full}
use Rattle.napi_types.specs.environment.Changes.{may_call}
use Rattle.napi_types.specs.environment.Ends.{end_change}
use Rattle.napi_types.specs.environment.Entering.{asked_change}
use Rattle.napi_types.specs.environment.Environment.{Environment}
use Rattle.napi_types.specs.environment.SharedCalls.{shared_entry}
use Rattle.napi_types.specs.hub.Hub.{Hub}
use Rattle.napi_types.specs.hub.HubMoves.{HubMove, Delivers, Closes, Finishes}
use Rattle.napi_types.specs.hub.HubEvents.{delivery_entry}
use Rattle.napi_types.specs.hub.HubSteps.{hub_step}
use Rattle.napi_types.specs.runs.CallRoom.{room_of}
use Rattle.napi_types.specs.runs.Machine.{Machine}
use Rattle.napi_types.specs.runs.Run.{IsNext, IsRunBy}
use Rattle.napi_types.specs.runs.Setting.{opening_of}
use Rattle.napi_types.specs.runs.Step.{Step, move_step, has_room, step}
use Rattle.napi_types.specs.all_runs.Counts.{may_withdraw, WithdrawsRightly}
use Rattle.napi_types.specs.all_runs.Laws.{WithdrawnByTheirCalls}
use Rattle.napi_types.proofs.plain.Conditions.{and-right}
use Rattle.napi_types.proofs.environment.Cases.{asked-by, ended-by}
use Rattle.napi_types.proofs.environment.Told.{MayReply, told_plain, told_made, told_dropped, withdraws, answer-told}
use Rattle.napi_types.proofs.hub.HubDuties.{hub_step-spares}
use Rattle.napi_types.proofs.runs.StepCases.{StepCase, calls, ends, shares, leaves, passes, moves, others, step-case}
use Rattle.napi_types.proofs.all_runs.Orderly.{Orderly, orderly-opens, along-orderly}

-- WHAT A CALL WITHDRAWS
-- what happened withdraws nothing, or it may withdraw and was accepted
record Rightly (w : What) (r : Reply) : Type 0 where
  pub call : is_some r.dropped ≡ true → may_withdraw w ≡ true
  pub accepted : is_some r.dropped ≡ true → r.status ≡ status.Ok

nothing : (w : What) (r : Reply) → r.dropped ≡ None → Rightly w r
nothing w r none = record { call = λ some. absurd (no r.dropped none some); accepted = λ some. absurd (no r.dropped none some) }
  where
    no : (o : Option Duty) → o ≡ None → is_some o ≡ true → ⊥
    no None h some = cc
    no (Some d) h some = cc

may-withdraw : (c : Call) → withdraws c ≡ true → may_withdraw (what.Call c) ≡ true
may-withdraw (call.RemoveWrap v) may = refl
may-withdraw (call.SetInstanceData payload entry hint) may = refl
may-withdraw (call.RemoveEnvCleanupHook entry argument) may = refl
may-withdraw (call.RemoveAsyncCleanupHook hook) may = refl
may-withdraw c may = cc

told-rightly : (c : Call) (r : Reply) → MayReply c r → Rightly (what.Call c) r
told-rightly c _ (told_plain r unframed none kept) = nothing (what.Call c) r kept
told-rightly c _ (told_made r d registers places t) = record { call = (told-rightly c r t).call; accepted = (told-rightly c r t).accepted }
told-rightly c _ (told_dropped r d may accepted t) = record { call = λ some. may-withdraw c may; accepted = λ some. accepted }

-- EVERY ENTRY OF A RUN
abbrev EntryRightly : Entry → Type 0
EntryRightly x = Rightly x.what x.reply

-- an entry of the hub withdraws nothing
hub-rightly : (h : Hub) (x : Entry) → IsTrue (hub_step h x).may → EntryRightly (hub_step h x).entry
hub-rightly h x may = nothing _ _ (hub_step-spares h x may).dropped

move-rightly : (m : Machine) (move : HubMove) → IsTrue (move_step m move).may → EntryRightly (move_step m move).entry
move-rightly m (Delivers d) may = hub-rightly m.hub (delivery_entry d) may
move-rightly m (Closes n) may = hub-rightly m.hub (host_entry host.CloseTsfn (out.Function (record { 0 = n }))) may
move-rightly m (Finishes n) may = hub-rightly m.hub (host_entry host.FinishTsfn (out.Function (record { 0 = n }))) may

end-rightly : (v : Option HandleId) (cut : Option Why) (e : Environment) → EntryRightly (end_change v cut e).entry
end-rightly v cut e = ended-by v cut e (λ why d. EntryRightly d.entry) (λ w. nothing _ _ refl) (λ p. nothing _ _ refl) (nothing _ _ refl) (nothing _ _ refl)

asked-rightly : (e : Environment) (c : Call) (n : ℕ) → EntryRightly (asked_change e c n).entry
asked-rightly e c n = asked-by e c n (λ d. EntryRightly d.entry) (told-rightly c _ (answer-told e c n)) (λ receiver f args none. nothing _ _ refl)

step-rightly : (m : Machine) (s : Step) → StepCase m s → IsTrue s.may → EntryRightly s.entry
step-rightly m _ (calls c n may alone) ok = asked-rightly m.env c n
step-rightly m _ (ends v cut may alone) ok = end-rightly v cut m.env
step-rightly m _ (shares c o shared answers) ok =
    let x : Entry = shared_entry m.env c o in
    hub-rightly m.hub x (and-right (may_call m.env && not (is_full (room_of m c) c)) (hub_step m.hub x).may ok)
step-rightly m _ (leaves v cut may ours) ok =
    let x : Entry = (end_change v cut m.env).entry in
    hub-rightly m.hub x (and-right may (hub_step m.hub x).may ok)
step-rightly m _ (passes p o q) ok = subst EntryRightly (sym q.entry) (nothing _ _ refl)
step-rightly m _ (moves move next moving alone) ok = move-rightly m move ok
step-rightly m _ (others x other) ok = hub-rightly m.hub x (and-right (has_room m x.what) (hub_step m.hub x).may ok)
step-rightly m _ _ ok = nothing _ _ refl

next-rightly : (m : Machine) (a : Ask) (x : Entry) → Orderly m → IsNext m a x → WithdrawsRightly x
next-rightly m a x h next =
    let r : EntryRightly x = subst EntryRightly (sym next.0) (step-rightly m (step m a x) (step-case m a x h.stage next) next.1) in
    record { call = r.call; accepted = r.accepted }

run-rightly : (m : Machine) (bs : List Ask) (xs : List Entry) → Orderly m → IsRunBy m bs xs → All WithdrawsRightly xs
run-rightly = along-orderly (λ m bs xs. All WithdrawsRightly xs) (λ m. All-nil WithdrawsRightly)
    (λ m a bs x xs h next s k rest. All-cons WithdrawsRightly x xs (next-rightly m a x h next) rest)

pub withdrawn-rightly : WithdrawnByTheirCalls
withdrawn-rightly s bs xs run = run-rightly (opening_of s) bs xs (orderly-opens s) run.steps
