-- A turn of the environment that needs the hub.
use Rattle.std.proofs.Common.{◌≡◌, ◌≢◌, ◌∙◌, ◌⊎◌, inl, inr, ◌↔◌, ℕ, ◌+◌, ◌-◌, ◌*◌, ◌<◌, ◌≤◌, Bool, true, false, cond, ◌||◌, ◌&&◌, List, [], ◌∷◌, length, Option, Some, None, is_some, is_none, IsTrue, refl, ap, sym, subst, arith, length-append}
use Rattle.std.specs.Option.{option_to_list}
use Rattle.napi_types.specs.declared.entry.Actor.TheVariants as actor
use Rattle.napi_types.specs.declared.entry.Entry.{Entry}
use Rattle.napi_types.specs.declared.entry.Local.{Local}
use Rattle.napi_types.specs.declared.entry.SharedCall.{SharedCall}
use Rattle.napi_types.specs.declared.entry.Why.{Why}
use Rattle.napi_types.specs.declared.entry.Why.TheVariants as why
use Rattle.napi_types.specs.plain.Lists.{singleton}
use Rattle.napi_types.specs.plain.Room.{is_full, one_if}
use Rattle.napi_types.specs.parts.Frames.{duty_of, is_hub_duty}
use Rattle.napi_types.specs.scripts.Plans.{Plan}
use Rattle.napi_types.specs.environment.Environment.{Environment}
use Rattle.shared_hub.specs.HubStates.{HubSeen, hub_room}
use Rattle.shared_hub.specs.KeptHubs.{IsLedHub}
use Rattle.shared_hub.specs.SharedTries.{given_by, MayFindNoMemory}
use Rattle.shared_hub.specs.declared.naming.Numbers.{Numbers}
use Rattle.env_core.specs.Sharing.{after_no_answer}
use Rattle.env_loop.specs.declared.run.FrameEnd.{FrameEnd}
use Rattle.env_loop.specs.declared.run.FrameEnd.TheVariants as end
use Rattle.env_loop.specs.declared.turn.LocalTurn.{LocalTurn}
use Rattle.env_loop.specs.declared.run.HubTurn.{HubTurn}
use Rattle.env_loop.specs.declared.run.HubTurn.TheVariants as turn
use Rattle.env_loop.specs.declared.turn.LocalTurn.TheVariants as local
use Rattle.env_loop.specs.ActorRuns.{AddsEntryOf}
use Rattle.env_loop.specs.HubTurns.{SpentAtFinals}
use Rattle.env_loop.specs.FollowedRuns.{FollowsOn}
use Rattle.env_loop.specs.Recording.{AddonStates, HasSeen}
use Rattle.env_loop.specs.RecordedRuns.{Run, OneMore, FitsHub, pending_at_hub}
use Rattle.env_loop.specs.Turns.{IfCut, Awaits, begins_at_hub, next_ticket_info, turn_of, hub_duty_info_of, hub_event, turn_after, needs_hub, OnlyInnermostChanges, OnlyPendingChanged}
use Rattle.stepper.specs.GivenTurns.{RunAtHub, ComesToTheHub, EnvironmentTurns, IsIdle}
use Rattle.stepper.specs.Stepping.{measure, RunKeeps, EnvironmentSteps}
use Rattle.stepper.proofs.OrderedTurns.{keeps-then}

-- what the environment's own turn says of the run that needs the hub
pub record Asked (plans : List Plan) (all : AddonStates) (old owing : Run) : Type 0 where
  pub comes : ComesToTheHub plans all old owing
  pub answered : old.core.awaited ≡ None
  pub free : pending_at_hub old ≡ false → pending_at_hub owing ≡ true → old.ending ≡ None

-- the hub's turn keeps these
pub record HubTurnedAs (n : Numbers) (owing new : Run) : Type 0 where
  pub journal : new.core.journal ≡ owing.core.journal
  pub limit : new.core.limit ≡ owing.core.limit

-- and says this
pub record HubTurned (n : Numbers) (r : HubTurn) (owing : Run) (before : HubSeen) (all : AddonStates) (new : Run) (after : HubSeen) (now : AddonStates) : Type 0 where
  pub made : r ≡ turn.Made → AddsEntryOf actor.Env before after
  pub paid : r ≡ turn.Made → (new.core.awaited ≡ None) × (new.ending ≡ None)
  pub hub : r ≢ turn.Made → after ≡ before
  pub full : (r ≡ turn.Cut why.Full) ↔ Awaits owing.core.awaited (λ c. IsTrue (is_full (hub_room n before) c.call))
  pub memory : r ≡ turn.Cut why.Memory → Awaits owing.core.awaited (λ c. MayFindNoMemory (hub_room n before) before.hub actor.Env (given_by c) c.call)
  pub cut : IfCut r (λ w. (w ≢ why.Asks) × (new ≡ record owing { core = after_no_answer (length before.history) owing.core; ending = Some (end.Cut w) }))
  pub nothing : (r ≡ turn.Nothing) ↔ ((pending_at_hub owing ≡ false) × (hub_event owing.core.env before.hub ≡ None))
  pub stays : r ≡ turn.Nothing → new ≡ owing
  pub same : r ≢ turn.Made → now.registers ≡ all.registers
  pub keeps : HubTurnedAs n owing new
  pub seen : HasSeen all.seen (option_to_list (begins_at_hub owing before.hub)) now.seen
  pub untouched : r ≡ turn.Made → OnlyInnermostChanges owing.core.env.frames new.core.env.frames all.registers now.registers
  pub led : IsLedHub n after

-- what is to be shown
pub record ComesNearer (n : Numbers) (plans : List Plan) (old new : RunAtHub) : Type 0 where
  pub turn : EnvironmentTurns n plans old new
  pub answered : new.run.core.awaited ≡ None
  pub falls : (measure n new.run new.hub < measure n old.run old.hub) ⊎ IsIdle old new

-- a call that a run awaits is pending
owes-awaited : (o : Option SharedCall) (b : Bool) (P : SharedCall → Type 0) → Awaits o P → (is_some o || b) ≡ true
owes-awaited None b P awaits = absurd awaits
owes-awaited (Some c) b P awaits = refl

awaits-some : (o : Option SharedCall) (P : SharedCall → Type 0) → Awaits o P → o ≡ None → ⊥
awaits-some None P awaits none = absurd awaits
awaits-some (Some c) P awaits none = cc

module _ (n : Numbers) (plans : List Plan) (old owing new : Run) (before after : HubSeen) (all now : AddonStates) (a : Asked plans all old owing) where
  -- nothing was pending before a call came to be awaited
  unended : (P : SharedCall → Type 0) → Awaits owing.core.awaited P → old.ending ≡ None
  unended P awaits = by (pending_at_hub old) refl
    where
      by : (b : Bool) → pending_at_hub old ≡ b → old.ending ≡ None
      by true owes =
          let same : owing ≡ old = a.comes.once owes in
          absurd (awaits-some owing.core.awaited P awaits (ap (λ (r : Run). r.core.awaited) same ∙ a.answered))
      by false unowed = a.free unowed (owes-awaited owing.core.awaited (is_some owing.ending && is_hub_duty (duty_of owing.core.env.frames)) P awaits)

  -- the journal and its limit are as they were
  journal-room : HubTurnedAs n owing new → new.core.limit - length new.core.journal ≡ old.core.limit - length old.core.journal
  journal-room k = ap (λ l. l - length new.core.journal) (k.limit ∙ (λ i. (a.comes.owes i).core.limit))
      ∙ ap (λ (js : List Local). old.core.limit - length js) (k.journal ∙ (λ i. (a.comes.owes i).core.journal))

  -- the hub stopped the call
  stopped : (w : Why) → HubTurned n (turn.Cut w) owing before all new after now → (P : SharedCall → Type 0) → Awaits owing.core.awaited P
      → ComesNearer n plans (record { run = old; hub = before; addons = all }) (record { run = new; hub = after; addons = now })
  stopped w t P awaits = record {
    turn = inr (inr (inl (record {
      owing = owing;
      comes = a.comes;
      cause = w;
      full = (λ is. t.full.0 (ap (λ v. turn.Cut v) is), λ full. was (t.full.1 full));
      memory = λ is. t.memory (ap (λ v. turn.Cut v) is);
      no_asks = t.cut.0;
      free = unended P awaits;
      run = t.cut.1;
      hub = t.hub (λ e. cc);
      addons = record { registers = t.same (λ e. cc); seen = sees-none owes t.seen };
    })));
    answered = ap (λ (r : Run). r.core.awaited) t.cut.1;
    falls = inl (less _ _ _ _ _ _ (journal-room t.keeps) (ap (λ (s : HubSeen). n.limits.history - length s.history) (t.hub (λ e. cc)))
        (ap (λ (r : Run). one_if (is_none r.ending)) t.cut.1) (ap (λ e. one_if (is_none e)) (unended P awaits)));
  }
    where
      owes : pending_at_hub owing ≡ true
      owes = owes-awaited owing.core.awaited (is_some owing.ending && is_hub_duty (duty_of owing.core.env.frames)) P awaits

      was : turn.Cut w ≡ turn.Cut why.Full → w ≡ why.Full
      was is = cc

      sees-none : pending_at_hub owing ≡ true → HasSeen all.seen (option_to_list (begins_at_hub owing before.hub)) now.seen → HasSeen all.seen [] now.seen
      sees-none is seen = subst (λ b. HasSeen all.seen (option_to_list (cond b None (hub_duty_info_of (hub_event owing.core.env before.hub)))) now.seen) is seen

      less : (x y z w e f : ℕ) → x ≡ z → y ≡ w → e ≡ 0 → f ≡ 1 → 2 * (x + y) + e < 2 * (z + w) + f
      less x y z w e f is at none some = omega (arith, is, at, none, some)

  -- it had nothing to do
  idled : HubTurned n turn.Nothing owing before all new after now
      → ComesNearer n plans (record { run = old; hub = before; addons = all }) (record { run = new; hub = after; addons = now })
  idled t = record {
    turn = inr (inr (inr (inl idle)));
    answered = ap (λ (r : Run). r.core.awaited) run ∙ a.answered;
    falls = inr idle;
  }
    where
      same : owing ≡ old
      same = a.comes.stays (t.nothing.0 refl).0

      run : new ≡ old
      run = t.stays refl ∙ same

      none : hub_event owing.core.env before.hub ≡ None
      none = (t.nothing.0 refl).1

      idle : IsIdle (record { run = old; hub = before; addons = all }) (record { run = new; hub = after; addons = now })
      idle = record {
        needs = subst (λ (r : Run). needs_hub r) same a.comes.needs;
        unowed = ap pending_at_hub (sym same) ∙ (t.nothing.0 refl).0;
        none = ap (λ (r : Run). hub_event r.core.env before.hub) (sym same) ∙ none;
        run = run;
        hub = t.hub (λ e. cc);
        addons = record {
          registers = t.same (λ e. cc);
          seen = sees (subst (λ b. HasSeen all.seen (option_to_list (cond b None (hub_duty_info_of (hub_event owing.core.env before.hub)))) now.seen)
              (t.nothing.0 refl).0 t.seen);
        };
      }
        where
          sees : HasSeen all.seen (option_to_list (hub_duty_info_of (hub_event owing.core.env before.hub))) now.seen → HasSeen all.seen [] now.seen
          sees seen = subst (λ o. HasSeen all.seen (option_to_list (hub_duty_info_of o)) now.seen) none seen

  -- it made its entry
  made : HubTurned n turn.Made owing before all new after now
      → ComesNearer n plans (record { run = old; hub = before; addons = all }) (record { run = new; hub = after; addons = now })
  made t = record {
    turn = inr (inl (record {
      owing = owing;
      comes = a.comes;
      one = x;
      paid = (t.paid refl).1;
      journal = t.keeps.journal ∙ (λ i. (a.comes.owes i).core.journal);
      seen = t.seen;
      untouched = subst (λ (e : Environment). OnlyInnermostChanges e.frames new.core.env.frames all.registers now.registers) (λ i. (a.comes.owes i).core.env) (t.untouched refl);
    }));
    answered = (t.paid refl).0;
    falls = inl (less _ _ _ _ _ _ _ (one_if (is_none old.ending)) (journal-room t.keeps) longer t.led.within (ap (λ e. one_if (is_none e)) (t.paid refl).1));
  }
    where
      x : AddsEntryOf actor.Env before after
      x = t.made refl

      longer : length after.history ≡ length before.history + 1
      longer = ap length x.adds.history ∙ length-append before.history (singleton x.entry)

      less : (z w limit a b e r : ℕ) (f : ℕ) → z ≡ w → a ≡ b + 1 → a + r ≤ limit → e ≡ 1 → 2 * (z + (limit - a)) + e < 2 * (w + (limit - b)) + f
      less z w limit a b e r f is more within none = omega (arith, is, more, within, none)

  -- so it comes to one of these
  comes : (r : HubTurn) → HubTurned n r owing before all new after now
      → ComesNearer n plans (record { run = old; hub = before; addons = all }) (record { run = new; hub = after; addons = now })
  comes turn.Made t = made t
  comes turn.Nothing t = idled t
  comes (turn.Cut why.Full) t = stopped why.Full t (λ c. IsTrue (is_full (hub_room n before) c.call)) (t.full.0 refl)
  comes (turn.Cut why.Memory) t = stopped why.Memory t (λ c. MayFindNoMemory (hub_room n before) before.hub actor.Env (given_by c) c.call) (t.memory refl)
  comes (turn.Cut why.Asks) t = absurd (t.cut.0 refl)

-- THE WHOLE TURN
-- the addons of the hub's turn are those before it, by what they have and saw
turned-from : (n : Numbers) (r : HubTurn) (owing new : Run) (before after : HubSeen) (all mid now : AddonStates) → mid.registers ≡ all.registers → mid.seen ≡ all.seen
    → HubTurned n r owing before mid new after now → HubTurned n r owing before all new after now
turned-from n r owing new before after all mid now registers seen t = subst (λ (a : AddonStates). HubTurned n r owing before a new after now) same t
  where
    same : mid ≡ all
    same = ap (λ rs. record { registers = rs; seen = mid.seen }) registers ∙ ap (λ ss. record { registers = all.registers; seen = ss }) seen

-- the run that has something pending is gone on to by the same addons
pub goes-same : (plans : List Plan) (old owing : Run) (all mid : AddonStates) → mid.registers ≡ all.registers → mid.seen ≡ all.seen
    → ((history : List Entry) → FollowsOn plans old history all owing history mid) → (history : List Entry) → FollowsOn plans old history all owing history all
goes-same plans old owing all mid registers seen goes history = subst (λ (a : AddonStates). FollowsOn plans old history all owing history a) same (goes history)
  where
    same : mid ≡ all
    same = ap (λ rs. record { registers = rs; seen = mid.seen }) registers ∙ ap (λ ss. record { registers = all.registers; seen = ss }) seen

pub went-at-hub : (n : Numbers) (plans later : List Plan) (r : HubTurn) (old owing new : Run) (before after : HubSeen) (all mid now : AddonStates)
    → mid.registers ≡ all.registers → mid.seen ≡ all.seen → later ≡ plans → IsLedHub n before → Asked plans all old owing → HubTurned n r owing before mid new after now
    → FitsHub new after → SpentAtFinals before.hub after.hub
    → RunKeeps n plans (record { run = old; hub = before; addons = all }) (record { run = owing; hub = before; addons = mid })
    → RunKeeps n later (record { run = owing; hub = before; addons = mid }) (record { run = new; hub = after; addons = now })
    → EnvironmentSteps n plans local.NeedsHub (record { run = old; hub = before; addons = all }) (record { run = new; hub = after; addons = now })
went-at-hub n plans later r old owing new before after all mid now registers seen same led a t fits spent first second = record {
  led = led;
  turn = came.turn;
  stands = record { fits = fits; answered = came.answered };
  kept =
      keeps-then n plans (record { run = old; hub = before; addons = all }) (record { run = owing; hub = before; addons = mid }) (record { run = new; hub = after; addons = now }) first
      (subst (λ ps. RunKeeps n ps (record { run = owing; hub = before; addons = mid }) (record { run = new; hub = after; addons = now })) same second);
  spent = spent;
  was = λ is. cc;
  falls = λ is. came.falls;
  alone = λ is. cc;
}
  where
    came : ComesNearer n plans (record { run = old; hub = before; addons = all }) (record { run = new; hub = after; addons = now })
    came = comes n plans old owing new before after all now a r (turned-from n r owing new before after all mid now registers seen t)

-- A TURN OF ITS OWN
-- a turn that made an entry awaits no call
made-answered : (o : Option SharedCall) (b : Bool) (t : LocalTurn) → cond (is_some o || b) local.NeedsHub t ≡ local.Made → o ≡ None
made-answered None b t made = refl
made-answered (Some c) b t made = cc

-- nothing was pending where it made one
made-unowed : (old new : Run) (b : Bool) → pending_at_hub old ≡ b → (IsTrue (pending_at_hub old) → new ≡ old) → OneMore old.core.journal new.core.journal
    → b ≡ false
made-unowed old new false is once one = refl
made-unowed old new true is once one = absurd (longer (length old.core.journal) (length new.core.journal) (ap length one.last ∙ length-append old.core.journal (one.entry ∷ []))
    (ap (λ (r : Run). length r.core.journal) (once is)))
  where
    longer : (a b : ℕ) → b ≡ a + 1 → b ≡ a → ⊥
    longer a b more same = omega (arith, more, same)

pub went-alone : (n : Numbers) (plans : List Plan) (old new : Run) (before : HubSeen) (all now : AddonStates) → IsLedHub n before → turn_after new old.core.env ≡ local.Made
    → OneMore old.core.journal new.core.journal → new.ending ≡ None → length old.core.journal < old.core.limit → (IsTrue (pending_at_hub old) → new ≡ old)
    → HasSeen all.seen (option_to_list (next_ticket_info old.core.env)) now.seen
    → OnlyInnermostChanges old.core.env.frames new.core.env.frames all.registers now.registers
    → FitsHub new before → RunKeeps n plans (record { run = old; hub = before; addons = all }) (record { run = new; hub = before; addons = now })
    → EnvironmentSteps n plans local.Made (record { run = old; hub = before; addons = all }) (record { run = new; hub = before; addons = now })
went-alone n plans old new before all now led made one paid room once seen untouched fits kept = record {
  led = led;
  turn = inl (record {
    unowed = made-unowed old new
        (pending_at_hub old) refl once one;
    turn = made;
    one = one;
    paid = paid;
    hub = refl;
    seen = seen;
    untouched = untouched;
  });
  stands = record { fits = fits; answered = made-answered new.core.awaited (is_some new.ending && is_hub_duty (duty_of new.core.env.frames)) (turn_of old.core.env) made };
  kept = kept;
  spent = λ final. inl final;
  was = λ is. cc;
  falls = λ is. inl fallen;
  alone = λ is. (refl, fallen);
}
  where
    one-if-within : (o : Option FrameEnd) → one_if (is_none o) ≤ 1
    one-if-within None = omega arith
    one-if-within (Some e) = omega arith

    less : (h limit new-limit a b e f : ℕ) → new-limit ≡ limit → b ≡ a + 1 → a < limit → e ≤ 1 → 2 * ((new-limit - b) + h) + e < 2 * ((limit - a) + h) + f
    less h limit new-limit a b e f same more room within = omega (arith, same, more, room, within)

    fallen : measure n new before < measure n old before
    fallen =
        less _ _ _ _ _ (one_if (is_none new.ending)) (one_if (is_none old.ending)) kept.limit (ap length one.last ∙ length-append old.core.journal (one.entry ∷ [])) room
        (one-if-within new.ending)
