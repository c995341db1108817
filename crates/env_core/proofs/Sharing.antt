-- What shared calls and the other events of the history keep of a core.
use Rattle.std.proofs.Common.{◌≡◌, ℕ, ◌+◌, ◌*◌, ◌-◌, ◌==◌, ◌&&◌, true, false, not, [], length, Option, Some, None, is_none, IfSome, refl, sym, ap, subst, ◌∙◌, arith}
use Rattle.std.proofs.lemmas.List.Sums.{length-filter, count_by-le-length}
use Rattle.napi_types.specs.declared.call.Call.{Call}
use Rattle.napi_types.specs.declared.call.Call.TheVariants as call
use Rattle.napi_types.specs.declared.entry.Out.{Out}
use Rattle.napi_types.specs.declared.entry.Out.TheVariants as out
use Rattle.napi_types.specs.declared.entry.Reply.{Reply}
use Rattle.napi_types.specs.declared.entry.SharedCall.{SharedCall}
use Rattle.napi_types.specs.declared.status.Status.{Status}
use Rattle.napi_types.specs.plain.Replies.{plain}
use Rattle.napi_types.specs.plain.Room.{one_if}
use Rattle.napi_types.specs.parts.Book.{owed_tickets}
use Rattle.napi_types.specs.environment.Changes.{with_noted_status, with_none_waiting}
use Rattle.napi_types.specs.environment.Environment.{Environment, TsfnRoot}
use Rattle.napi_types.specs.environment.Hooked.{IsHooked}
use Rattle.napi_types.specs.environment.Promised.{IsPromised}
use Rattle.napi_types.specs.environment.JournalRoom.{gone_place, reserved_journal}
use Rattle.napi_types.specs.environment.SharedCalls.{with_root, without_root, after_shared}
use Rattle.napi_types.proofs.environment.AnswersKeep.{local-counted}
use Rattle.napi_types.proofs.environment.HookedSteps.{unchanged, hooked-abandoned}
use Rattle.napi_types.proofs.environment.Promised.{still-promised}
use Rattle.env_core.specs.Core.{IsCore}
use Rattle.env_core.specs.Journal.{JournalSeen}
use Rattle.env_core.specs.Sharing.{names_function, wants_root, is_rooting, MayAwait, IsAnswer}

-- AWAITING
-- while no frame stands nothing is awaited
pub alone-idle : (e : Environment) (room : ℕ) (a : Option SharedCall) → MayAwait e room a → e.frames ≡ [] → a ≡ None
alone-idle e room None may alone = refl
alone-idle e room (Some s) may alone = absurd (may.standing alone)

-- and where nothing is awaited, anything may be
pub idle-may : (e : Environment) (room : ℕ) (a : Option SharedCall) → a ≡ None → MayAwait e room a
idle-may e room a idle = subst (λ o. MayAwait e room o) (sym idle) tt

-- where the answer to a call makes a root, the call wanted one
pub rooting-wanted : (s : SharedCall) (r : Reply) → IsAnswer s r → is_rooting s.call r.out ≡ true → wants_root s ≡ true
rooting-wanted s r answer rooting = by s.refused refl answer
  where
    named : (o : Out) → is_rooting s.call o ≡ true → names_function s.call ≡ true
    named (out.Function n) is = is
    named _ is = cc

    by : (o : Option Status) → s.refused ≡ o → IfSome o (λ t. r ≡ plain t out.Nothing) → wants_root s ≡ true
    by None at answer = ap (λ o. names_function s.call && is_none o) at ∙ ap (λ b. b && true) (named r.out rooting)
    by (Some t) at answer = let no : true ≡ false = sym rooting ∙ ap (λ (x : Reply). is_rooting s.call x.out) answer in cc

-- EVENTS OF THE HISTORY
-- what they keep of what a core counts: they leave no entry in the journal, and no place of it
pub record KeepsCounted (old new : Environment) : Type 0 where
  pub reserved : reserved_journal new ≡ reserved_journal old
  pub handles : new.heap.handles ≡ old.heap.handles
  pub scopes : new.heap.scope_numbers ≡ old.heap.scope_numbers
  pub references : new.references.issued ≡ old.references.issued
  pub tickets : length new.book ≡ length old.book
  pub values : new.heap.made ≡ old.heap.made
  pub deferreds : new.promises.issued ≡ old.promises.issued
  pub hooked : IsHooked old → IsHooked new
  pub promised : IsPromised old → IsPromised new

pub core-shared : (old new : Environment) (pages after : JournalSeen) (n : ℕ) → IsCore old pages → KeepsCounted old new
    → after ≡ record pages { position = n } → IsCore new after
core-shared old new pages after n c k e = subst (λ (p : JournalSeen). IsCore new p) (sym e) (record {
  reserved = c.reserved ∙ sym k.reserved;
  within = c.within;
  small = c.small;
  handles = omega (arith, c.handles, k.handles);
  scopes = omega (arith, c.scopes, ap length k.scopes);
  references = omega (arith, c.references, ap length k.references);
  tickets = omega (arith, c.tickets, k.tickets);
  values = omega (arith, c.values, k.values);
  deferreds = omega (arith, c.deferreds, ap length k.deferreds);
  hooked = k.hooked c.hooked;
  promised = k.promised c.promised;
})

-- the same places are owed where the frames owe the same
abbrev places_with : Environment → ℕ → ℕ
places_with e n = one_if (not e.opened) + gone_place e.phase + 2 * (e.addons - e.inits) + n + 2 * owed_tickets e.book

-- a shared call that the hub answered
rooted-keeps : (c : Call) (o : Out) (e : Environment) → KeepsCounted e (with_root c o e)
rooted-keeps (call.CreateThreadsafeFunction (Some f) entry maximum count finalizer context) (out.Function n) e =
    record {
      reserved = refl;
      handles = refl;
      scopes = refl;
      references = refl;
      tickets = refl;
      values = refl;
      deferreds = refl;
      hooked = λ h. unchanged e _ refl refl h;
      promised = λ h. still-promised e _ refl refl h;
    }
rooted-keeps _ _ e = record {
  reserved = refl;
  handles = refl;
  scopes = refl;
  references = refl;
  tickets = refl;
  values = refl;
  deferreds = refl;
  hooked = λ h. h;
  promised = λ h. h;
}

noted-keeps : (c : Call) (s : Status) (e : Environment) → KeepsCounted e (with_noted_status c s e)
noted-keeps c s e = record {
  reserved = ap (places_with e) (local-counted e.frames);
  handles = refl;
  scopes = refl;
  references = refl;
  tickets = refl;
  values = refl;
  deferreds = refl;
  hooked = λ h. unchanged e _ refl refl h;
  promised = λ h. still-promised e _ refl refl h;
}

keeps-then : (a b c : Environment) → KeepsCounted a b → KeepsCounted b c → KeepsCounted a c
keeps-then a b c first next = record {
  reserved = next.reserved ∙ first.reserved;
  handles = next.handles ∙ first.handles;
  scopes = next.scopes ∙ first.scopes;
  references = next.references ∙ first.references;
  tickets = next.tickets ∙ first.tickets;
  values = next.values ∙ first.values;
  deferreds = next.deferreds ∙ first.deferreds;
  hooked = λ h. next.hooked (first.hooked h);
  promised = λ h. next.promised (first.promised h);
}

pub answered-keeps : (c : Call) (r : Reply) (e : Environment) → KeepsCounted e (after_shared c r e)
answered-keeps c r e = keeps-then e (with_root c r.out e) (after_shared c r e) (rooted-keeps c r.out e) (noted-keeps c r.status (with_root c r.out e))

-- a thread-safe function has finished
pub finished-keeps : (n : ℕ) (e : Environment) → KeepsCounted e (without_root n e)
finished-keeps n e = record {
  reserved = refl;
  handles = refl;
  scopes = refl;
  references = refl;
  tickets = refl;
  values = refl;
  deferreds = refl;
  hooked = λ h. unchanged e _ refl refl h;
  promised = λ h. still-promised e _ refl refl h;
}

-- its root goes, so there is room as before
pub finished-may : (n : ℕ) (e : Environment) (room : ℕ) (a : Option SharedCall) → MayAwait e room a → MayAwait (without_root n e) room a
finished-may n e room None may = tt
finished-may n e room (Some s) may = record {
  standing = may.standing;
  within = may.within;
  place = λ wants.
      omega (
        arith,
        may.place wants,
        length-filter (λ (r : TsfnRoot). not (r.function == n)) e.tsfn_roots,
        count_by-le-length (λ (r : TsfnRoot). not (r.function == n)) e.tsfn_roots,
      );
}

-- the hooks that wait are abandoned
pub abandoned-keeps : (e : Environment) → KeepsCounted e (with_none_waiting e)
abandoned-keeps e = record {
  reserved = refl;
  handles = refl;
  scopes = refl;
  references = refl;
  tickets = refl;
  values = refl;
  deferreds = refl;
  hooked = hooked-abandoned e;
  promised = λ h. still-promised e _ refl refl h;
}

pub abandoned-may : (e : Environment) (room : ℕ) (a : Option SharedCall) → MayAwait e room a → MayAwait (with_none_waiting e) room a
abandoned-may e room None may = tt
abandoned-may e room (Some s) may = record { standing = may.standing; within = may.within; place = may.place }
