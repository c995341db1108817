-- A recorded run goes on.
use Rattle.std.proofs.Common.{◌≡◌, ℕ, ◌+◌, ◌<◌, true, IsTrue, List, [], ◌∷◌, ◌++◌, length, refl, ap, subst, sym, ◌∙◌, arith, nat_lt, length-append, Some, None}
use Rattle.std.proofs.lemmas.List.{length-map, get_or-map}
use Rattle.napi_types.specs.declared.call.Ask.{Ask}
use Rattle.napi_types.specs.declared.entry.Actor.{Actor}
use Rattle.napi_types.specs.declared.entry.Actor.TheVariants as actor
use Rattle.napi_types.specs.declared.duties.DueInfo.{DueInfo}
use Rattle.napi_types.specs.declared.entry.Entry.{Entry}
use Rattle.napi_types.specs.declared.entry.Local.{Local}
use Rattle.napi_types.specs.declared.entry.Phase.TheVariants as phase
use Rattle.napi_types.specs.declared.call.Ask.TheVariants as ask
use Rattle.std.specs.Option.{option_to_list}
use Rattle.napi_types.specs.plain.Weave.{Side, Journal, weave, sides}
use Rattle.napi_types.specs.parts.Book.{lowest_due}
use Rattle.napi_types.specs.scripts.Plans.{Plan, plan_of, registers_of, Registers, loaded_registers}
use Rattle.napi_types.specs.scripts.Registers.{blank_registers}
use Rattle.napi_types.specs.environment.Changes.{Change, gone_change, init_change}
use Rattle.napi_types.specs.hub.Hub.{Hub}
use Rattle.napi_types.specs.runs.Begins.{begun_info, begun_along}
use Rattle.napi_types.specs.runs.InPlace.{is_behind_own, stands_in_place, last_actor, StandInPlace}
use Rattle.napi_types.specs.runs.Machine.{Machine}
use Rattle.napi_types.specs.runs.Parting.{sides_along}
use Rattle.napi_types.specs.runs.Plan.{after_event, after_entry, frames_ask, asked, registers_after}
use Rattle.napi_types.specs.runs.Run.{after, IsNext}
use Rattle.napi_types.specs.runs.Setting.{Setting, EndsBy, opens_with, opening_of, RunsBy, final_of, final_registers, planned_asks}
use Rattle.napi_types.specs.runs.Step.{Step, step, locally}
use Rattle.napi_types.proofs.plain.Weaves.{weave-local, sides-local, rises-append}
use Rattle.napi_types.proofs.runs.InPlace.{own-placed, last-more, placed-more}
use Rattle.napi_types.proofs.runs.Runs.{run-more, final-more, asked-more, registers-more, sides-more, begun-more}
use Rattle.env_core.specs.Core.{Core, after_change, opened_core}
use Rattle.env_loop.specs.Recording.{AddonStates, machine_of, AgreesWherePlanned, AgreesWith, HasSeen, IsRecorded, RecordsOwn, IsEnded}
use Rattle.env_loop.proofs.KeptPromises.{keeps-promises}
use Rattle.env_loop.proofs.SeenLists.{seen-same, seen-more}

-- what one more entry makes of a run by its asks
pub record Grown (s : Setting) (asks : List Ask) (xs : List Entry) (after : Machine) (registers : Registers) (sides : List Side) (begun : List DueInfo) : Type 0 where
  pub run : RunsBy s asks xs
  pub final : final_of s asks xs ≡ after
  pub registers_are : final_registers s asks xs ≡ registers
  pub sides_are : sides_along (opening_of s) asks xs ≡ sides
  pub begun_are : begun_along (opening_of s) asks xs ≡ begun
  pub placed : StandInPlace (opening_of s) None asks xs

pub grow : (s : Setting) (bs : List Ask) (xs : List Entry) (m : Machine) (rss : Registers) (a : Ask) (x : Entry) (st : Step)
    → RunsBy s bs xs → final_of s bs xs ≡ m → final_registers s bs xs ≡ rss
    → step m a x ≡ st → x ≡ st.entry → IsTrue st.may → a ≡ asked s.plans rss m a x.actor
    → StandInPlace (opening_of s) None bs xs → IsTrue (stands_in_place st.side (last_actor None xs) a x.reply.out)
    → Grown s (bs ++ a ∷ []) (xs ++ x ∷ []) st.after (registers_after s.plans rss m a x) (sides_along (opening_of s) bs xs ++ st.side ∷ [])
    (begun_along (opening_of s) bs xs ++ option_to_list (begun_info m x))
grow s bs xs m rss a x st r f g next entry may here placed at =
    let P : Machine → Type 0 = λ n. IsNext n a x in
    let Q : Step → Type 0 = λ t. (x ≡ t.entry) × IsTrue t.may in
    let S : Step → Type 0 = λ t. IsTrue (stands_in_place t.side (last_actor None xs) a x.reply.out) in
    let is_next : IsNext (final_of s bs xs) a x = subst P (sym f) (subst Q (sym next) (entry, may)) in
    record {
      run = record {
        steps = run-more (opening_of s) bs xs a x r.steps is_next;
        asked =
            ap (λ l. l ++ a ∷ []) r.asked
            ∙ ap (λ b. planned_asks s bs xs ++ b ∷ []) here
            ∙ ap (λ qs. planned_asks s bs xs ++ asked s.plans qs m a x.actor ∷ []) (sym g)
            ∙ ap (λ n. planned_asks s bs xs ++ asked s.plans (final_registers s bs xs) n a x.actor ∷ []) (sym f)
            ∙ sym (asked-more s.plans _ (opening_of s) bs xs a x r.steps);
      };
      final = final-more (opening_of s) bs xs a x r.steps ∙ ap (λ n. after n a x) f ∙ ap (λ t. t.after) next;
      registers_are =
          registers-more s.plans _ (opening_of s) bs xs a x r.steps
          ∙ ap (λ qs. registers_after s.plans qs (final_of s bs xs) a x) g
          ∙ ap (λ n. registers_after s.plans rss n a x) f;
      sides_are =
          sides-more (opening_of s) bs xs a x r.steps
          ∙ ap (λ n. sides_along (opening_of s) bs xs ++ (step n a x).side ∷ []) f
          ∙ ap (λ t. sides_along (opening_of s) bs xs ++ t.side ∷ []) next;
      begun_are =
          begun-more (opening_of s) bs xs a x r.steps
          ∙ ap (λ n. begun_along (opening_of s) bs xs ++ option_to_list (begun_info n x)) f;
      placed = placed-more (opening_of s) None bs xs a x r.steps placed (subst (λ (n : Machine). S (step n a x)) (sym f) (subst S (sym next) at));
    }

-- an entry of the environment at the end of the weave
pub last-own : (journal : List Local) (history xs : List Entry) (x : Entry) → weave journal history ≡ xs ++ x ∷ [] → x.actor ≡ actor.Env
    → IsTrue (is_behind_own (last_actor None (weave journal history)))
last-own journal history xs x woven who =
    ap (λ ys. is_behind_own (last_actor None ys)) woven ∙ ap is_behind_own (last-more None xs x) ∙ ap (λ (w : Actor). is_behind_own (Some w)) who

-- a local event goes into the journal
pub local-grown : (s : Setting) (core : Core) (hub : Hub) (history : List Entry) (all : AddonStates) (firsts : List (List DueInfo)) (r : IsRecorded s core hub history all firsts)
    (a : Ask) (c : Change) (own : Registers) (after_all : AddonStates)
    → step (machine_of s.limits core hub history) a c.entry ≡ locally (machine_of s.limits core hub history) c true
    → IsTrue (stands_in_place Journal (last_actor None (weave core.journal history)) a c.entry.reply.out)
    → c.entry.actor ≡ actor.Env
    → a ≡ frames_ask s.plans r.own core.env.frames a
    → after_event s.plans r.own (machine_of s.limits core hub history) a c.entry.reply c.entry.what ≡ own
    → length own ≡ length s.plans
    → AgreesWith s.plans after_all.registers own
    → HasSeen all.seen (option_to_list (begun_info (machine_of s.limits core hub history) c.entry)) after_all.seen
    → RecordsOwn s (after_change c core) hub history after_all firsts
local-grown s core hub history all firsts r a c own after_all next at who here kept count agrees seen =
    let m : Machine = machine_of s.limits core hub history in
    let xs : List Entry = weave core.journal history in
    let g : Grown s (r.asks ++ a ∷ []) (xs ++ c.entry ∷ []) (locally m c true).after (registers_after s.plans r.own m a c.entry) (sides_along (opening_of s) r.asks xs ++ Journal ∷ [])
    (begun_along (opening_of s) r.asks xs ++ option_to_list (begun_info m c.entry)) =
    grow s r.asks xs m r.own a c.entry (locally m c true) r.run r.final r.registers next refl refl (here ∙ ap (asked s.plans r.own m a) (sym who)) r.placed at in
    let woven : weave (core.journal ++ record { at = core.position; entry = c.entry } ∷ []) history ≡ xs ++ c.entry ∷ [] =
    ap (λ n. weave (core.journal ++ record { at = n; entry = c.entry } ∷ []) history) r.position ∙ weave-local core.journal history c.entry in
    let longer : length core.journal + 1 ≡ length (core.journal ++ record { at = core.position; entry = c.entry } ∷ []) =
    sym (length-append core.journal (record { at = core.position; entry = c.entry } ∷ [])) in
    let R : List Entry → Type 0 = λ ys. RunsBy s (r.asks ++ a ∷ []) ys in
    let B : List DueInfo → Type 0 = λ l. HasSeen firsts l after_all.seen in
    let recorded : IsRecorded s (after_change c core) hub history after_all firsts = record {
      asks = r.asks ++ a ∷ [];
      own = own;
      run = subst R (sym woven) g.run;
      final =
          ap (λ ys. final_of s (r.asks ++ a ∷ []) ys) woven ∙ g.final
          ∙ ap (λ n. record m { env = c.after; journal_length = n }) longer;
      registers = ap (λ ys. final_registers s (r.asks ++ a ∷ []) ys) woven ∙ g.registers_are ∙ ap (after_entry s.plans r.own m a c.entry) who ∙ kept;
      count = count;
      agrees = agrees;
      seen =
          subst B (sym (ap (λ ys. begun_along (opening_of s) (r.asks ++ a ∷ []) ys) woven ∙ g.begun_are))
          (seen-more firsts all.seen after_all.seen (begun_along (opening_of s) r.asks xs) (option_to_list (begun_info m c.entry)) r.seen seen);
      limit = r.limit;
      position = r.position;
      rises = rises-append 0 (length history) core.journal (record { at = core.position; entry = c.entry }) r.position r.rises;
      parted =
          ap (λ ys. sides_along (opening_of s) (r.asks ++ a ∷ []) ys) woven ∙ g.sides_are ∙ ap (λ l. l ++ Journal ∷ []) r.parted
          ∙ sym (ap (λ n. sides (core.journal ++ record { at = n; entry = c.entry } ∷ []) history) r.position ∙ sides-local core.journal history c.entry);
      placed = subst (λ ys. StandInPlace (opening_of s) None (r.asks ++ a ∷ []) ys) (sym woven) g.placed;
    } in
    record { recorded = recorded; own = last-own (core.journal ++ record { at = core.position; entry = c.entry } ∷ []) history xs c.entry woven who }

-- so does one right behind the environment's last entry
pub own-grown : (s : Setting) (core : Core) (hub : Hub) (history : List Entry) (all : AddonStates) (firsts : List (List DueInfo)) (r : RecordsOwn s core hub history all firsts)
    (a : Ask) (c : Change) (own : Registers) (after_all : AddonStates)
    → step (machine_of s.limits core hub history) a c.entry ≡ locally (machine_of s.limits core hub history) c true
    → c.entry.actor ≡ actor.Env
    → a ≡ frames_ask s.plans r.recorded.own core.env.frames a
    → after_event s.plans r.recorded.own (machine_of s.limits core hub history) a c.entry.reply c.entry.what ≡ own
    → length own ≡ length s.plans
    → AgreesWith s.plans after_all.registers own
    → HasSeen all.seen (option_to_list (begun_info (machine_of s.limits core hub history) c.entry)) after_all.seen
    → RecordsOwn s (after_change c core) hub history after_all firsts
own-grown s core hub history all firsts r a c own after_all next =
    local-grown s core hub history all firsts r.recorded a c own after_all next
    (own-placed Journal (last_actor None (weave core.journal history)) a c.entry.reply.out r.own)

-- the environment is gone
pub gone_change-grown : (s : Setting) (core : Core) (hub : Hub) (history : List Entry) (all : AddonStates) (firsts : List (List DueInfo)) → RecordsOwn s core hub history all firsts
    → core.env.frames ≡ [] → core.env.phase ≡ phase.Finals → lowest_due core.env.book ≡ None
    → RecordsOwn s (after_change (gone_change core.env) core) hub history all firsts
gone_change-grown s core hub history all firsts r alone here none =
    let k : IsRecorded s core hub history all firsts = r.recorded in
    own-grown s core hub history all firsts r (ask.Leave None) (gone_change core.env) k.own all (rw (alone, here, none) refl) refl (rw alone refl) refl k.count k.agrees
    (seen-same all.seen all.seen refl)

-- THE INIT FRAMES
-- blank registers are those that the run starts from
pub agrees-blank : (p : Plan) (mine own : List ℕ) → mine ≡ blank_registers → own ≡ blank_registers → AgreesWherePlanned p mine own
agrees-blank None mine own e f = tt
agrees-blank (Some p) mine own e f = e ∙ sym f

-- a core that opened is a recorded run, where the addons' registers are cleared
pub opened-recorded : (s : Setting) (all : AddonStates) → ((addon : ℕ) → addon < length s.plans → registers_of all.registers addon ≡ blank_registers)
    → IsRecorded s (opened_core (opens_with s) s.limits.journal) (opening_of s).hub [] all all.seen
opened-recorded s all blank = record {
  asks = ask.Leave None ∷ [];
  own = loaded_registers s.plans;
  run = record { steps = ((refl, refl), tt); asked = refl };
  final = refl;
  registers = refl;
  count = length-map s.plans (λ (p : Plan). blank_registers);
  agrees = λ addon below. agrees-blank (plan_of s.plans addon) (registers_of all.registers addon) (registers_of (loaded_registers s.plans) addon) (blank addon below)
      (get_or-map (λ (p : Plan). blank_registers) s.plans addon None [] below);
  seen = seen-same all.seen all.seen refl;
  limit = refl;
  position = refl;
  rises = (omega arith, omega arith);
  parted = refl;
  placed = (refl, tt);
}

-- the next addon's init frame begins
pub init-grown : (s : Setting) (core : Core) (hub : Hub) (history : List Entry) (all : AddonStates) (firsts : List (List DueInfo)) → RecordsOwn s core hub history all firsts
    → core.env.frames ≡ [] → core.env.phase ≡ phase.Init → core.env.opened ≡ true → nat_lt core.env.inits core.env.addons ≡ true
    → RecordsOwn s (after_change (init_change core.env.inits core.env) core) hub history all firsts
init-grown s core hub history all firsts r alone here opened more =
    let k : IsRecorded s core hub history all firsts = r.recorded in
    own-grown s core hub history all firsts r (ask.Leave None) (init_change core.env.inits core.env) k.own all (rw (alone, here, opened, more) refl) refl (rw alone refl) refl
    k.count k.agrees
    (seen-same all.seen all.seen refl)

-- THE END
-- a recorded run whose environment is gone came to its end
pub gone_change-ended : (s : Setting) (core : Core) (hub : Hub) (history : List Entry) (all : AddonStates) (firsts : List (List DueInfo)) → IsRecorded s core hub history all firsts
    → core.env.phase ≡ phase.Gone → IsEnded s core.journal history all firsts
gone_change-ended s core hub history all firsts r here = record {
  asks = r.asks;
  ended = ended;
  promises = keeps-promises s r.asks (weave core.journal history) ended;
  journal_length = ap (λ (m : Machine). m.journal_length) r.final;
  history_length = ap (λ (m : Machine). m.history_length) r.final;
  rises = r.rises;
  parted = r.parted;
  placed = r.placed;
  agrees = subst (λ (own : Registers). AgreesWith s.plans all.registers own) (sym r.registers) r.agrees;
  seen = r.seen;
}
  where
    ended : EndsBy s r.asks (weave core.journal history)
    ended = record { run = r.run; gone = ap (λ (m : Machine). m.env.phase) r.final ∙ here }
