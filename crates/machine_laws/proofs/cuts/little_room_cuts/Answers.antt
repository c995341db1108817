use Rattle.std.proofs.Common.{◌≡◌, ◌+◌, true, false, cond, nat_lt, IsTrue, refl, ap, [], ◌∷◌, ◌++◌, ◌∙◌, sym, Option, ℕ, Some, None}
use Rattle.napi_types.specs.declared.call.Args.{Args}
use Rattle.napi_types.specs.declared.call.Ask.TheVariants as ask
use Rattle.napi_types.specs.declared.call.Call.{Call}
use Rattle.napi_types.specs.declared.call.Call.TheVariants as call
use Rattle.napi_types.specs.declared.entry.Cause.TheVariants as cause
use Rattle.napi_types.specs.declared.entry.HostStep.TheVariants as host
use Rattle.napi_types.specs.declared.entry.Out.{Out}
use Rattle.napi_types.specs.declared.entry.Out.TheVariants as out
use Rattle.napi_types.specs.declared.entry.Why.{Why}
use Rattle.napi_types.specs.declared.entry.Why.TheVariants as why
use Rattle.napi_types.specs.declared.ids.HandleId.{HandleId}
use Rattle.napi_types.specs.plain.Entries.{host_entry}
use Rattle.napi_types.specs.plain.Guards.{is_shared, is_registering}
use Rattle.napi_types.specs.plain.Room.{need, is_full, may_want_memory}
use Rattle.napi_types.specs.environment.Changes.{may_call}
use Rattle.napi_types.specs.environment.JournalRoom.{journal_room}
use Rattle.napi_types.specs.hub.HistoryRoom.{history_room}
use Rattle.napi_types.specs.runs.CallRoom.{room_of}
use Rattle.napi_types.specs.runs.Run.{IsNext}
use Rattle.napi_types.specs.runs.Setting.{opening_of, RunsBy}
use Rattle.napi_types.specs.runs.Step.{frame_step}
use Rattle.napi_types.proofs.plain.Conditions.{and-right}
use Rattle.machine_laws.specs.Cuts.{tight, machine_begun, opening_asks, create, object_made, cut_by, IsOnlyNext, IsCutFull, first_called, FullAtSecondCall, LeavesWhereFull, script_within, two_left, external_made}
use Rattle.machine_laws.specs.RunWords.{opening_entries}
use Rattle.machine_laws.proofs.Computing.{run-of}
use Rattle.machine_laws.proofs.Cutting.{cut-full, taken-full, taken-wants, full-there, two-full, only-in-frame}
use Rattle.machine_laws.proofs.Others.{only-alone}
use Rattle.machine_laws.proofs.cuts.little_room_cuts.Goals as goal

-- a local call that needs one place is not full at the first ask
not-full : (c : Call) → is_shared c ≡ false → need c ≡ 1 → is_full (room_of machine_begun c) c ≡ false
not-full c alone one =
    ap (λ b. is_full (cond b (history_room machine_begun.hub 0 5) (journal_room machine_begun.env 2 5)) c) alone ∙ ap (λ n. nat_lt 5 (4 + n)) one

room : (c : Call) → is_shared c ≡ false → need c ≡ 1 → IsNext machine_begun (ask.Do c) (cut_by cause.Init why.Full) → ⊥
room c alone one n =
    let full : IsTrue (is_full (room_of machine_begun c) c) = and-right (may_call machine_begun.env) (is_full (room_of machine_begun c) c) n.1 in
    let no : false ≡ true = sym (not-full c alone one) ∙ full in cc

-- a shared call is
shared : (c : Call) → is_shared c ≡ true → IsCutFull machine_begun c
shared c is =
    let room : room_of machine_begun c ≡ history_room machine_begun.hub 0 5 = ap (λ b. cond b (history_room machine_begun.hub 0 5) (journal_room machine_begun.env 2 5)) is in
    cut-full machine_begun c _ _ refl refl refl refl refl refl refl (ap (λ r. is_full r c) room ∙ taken-full 5 c) (λ shares. ap (λ r. may_want_memory r c) room ∙ taken-wants c)

stays : (h : HandleId) → IsNext machine_begun (ask.Do (call.Typeof h)) (cut_by cause.Init why.Memory) → ⊥
stays h n = cc

calls : (receiver : Option HandleId) (f : HandleId) (args : Args) → IsOnlyNext machine_begun (ask.Do (call.CallFunction receiver f args)) (cut_by cause.Init why.Full)
calls receiver f args =
    let c : Call = call.CallFunction receiver f args in
    let full : IsCutFull machine_begun c = cut-full machine_begun c _ _ refl refl refl refl refl refl refl refl (λ shares. cc) in
    (full.full, full.local refl)

pub returns-clause-first : goal.returns-clause-first
returns-clause-first c = record {
  first = record { steps = run-of (opening_of tight) (opening_asks ++ create ∷ []) (opening_entries ++ object_made ∷ []) (refl, refl); asked = refl };
  room = room;
  shared = shared;
  calls = calls;
  grows = (refl, refl);
  stays = stays;
}

second-wants : (c : Call) → is_shared c ≡ true → may_want_memory (room_of first_called c) c ≡ true
second-wants c shared = ap (λ b. may_want_memory (cond b (history_room first_called.hub 0 5) (journal_room first_called.env 3 5)) c) shared ∙ taken-wants c

second-full : FullAtSecondCall
second-full c = cut-full first_called c _ _ refl refl refl refl refl refl refl (full-there c) (second-wants c)

pub returns-clause-second : goal.returns-clause-second
returns-clause-second c = second-full

registers-want : (c : Call) → is_shared c ≡ true → may_want_memory (room_of two_left c) c ≡ true
registers-want c shared = ap (λ b. may_want_memory (cond b (history_room two_left.hub 0 5) (journal_room two_left.env 2 6)) c) shared ∙ taken-wants c

registers-full : (c : Call) → is_registering c ≡ true → IsCutFull two_left c
registers-full c registers = cut-full two_left c _ _ refl refl refl refl refl refl refl (two-full c registers) (registers-want c)

registers-room : (payload entry hint : ℕ)
    → RunsBy (script_within 7) (opening_asks ++ ask.Do (call.CreateExternal payload (Some entry) hint) ∷ []) (opening_entries ++ external_made payload entry hint ∷ [])
registers-room payload entry hint = record {
  steps = run-of (opening_of (script_within 7)) (opening_asks ++ ask.Do (call.CreateExternal payload (Some entry) hint) ∷ []) (opening_entries ++ external_made payload entry hint ∷ []) (refl, refl);
  asked = refl;
}

pub returns-clause-registers : goal.returns-clause-registers
returns-clause-registers c = record { full = registers-full; refused = λ h payload entry hint wanted. refl; room = registers-room }

leaves-only : (o : Out) (w : Option Why) → IsTrue (frame_step first_called (ask.Leave None) o w).may → (frame_step first_called (ask.Leave None) o w).entry ≡ host_entry host.End out.Nothing
leaves-only o None h = refl
leaves-only o (Some why.Asks) h = cc
leaves-only o (Some why.Full) h = cc
leaves-only o (Some why.Memory) h = cc

leaves : LeavesWhereFull
leaves = only-alone first_called (ask.Leave None) (host_entry host.End out.Nothing) refl refl
    ((refl, refl), only-in-frame first_called (ask.Leave None) _ _ (host_entry host.End out.Nothing) refl leaves-only)

pub returns-clause-leaves : goal.returns-clause-leaves
returns-clause-leaves c = leaves
