-- Where a journal and a prefix of the history are a run, and others went on from there, the journal and the whole history are a run.
use Rattle.std.proofs.Common.{◌≡◌, ◌∙◌, ℕ, ◌+◌, suc, false, List, [], ◌∷◌, ◌++◌, length, length-append, IsTrue, refl, ap, sym, subst, None, arith, append_assoc}
use Rattle.std.proofs.lemmas.List.{append-nil}
use Rattle.std.proofs.lemmas.List.Elements.{All-head, All-tail}
use Rattle.std.specs.Option.{option_to_list}
use Rattle.napi_types.specs.declared.call.Ask.{Ask}
use Rattle.napi_types.specs.declared.call.Ask.TheVariants as ask
use Rattle.napi_types.specs.declared.entry.Actor.{Actor}
use Rattle.napi_types.specs.declared.entry.Actor.TheVariants as actor
use Rattle.napi_types.specs.declared.entry.Entry.{Entry}
use Rattle.napi_types.specs.declared.entry.Local.{Local}
use Rattle.napi_types.specs.declared.entry.Out.{Out}
use Rattle.napi_types.specs.declared.entry.Out.TheVariants as out
use Rattle.napi_types.specs.plain.Entries.{is_environment}
use Rattle.napi_types.specs.plain.Room.{fits_in}
use Rattle.napi_types.specs.plain.Weave.{History, weave, sides, RisesBetween}
use Rattle.napi_types.specs.scripts.Plans.{Plan, Registers, loaded_registers}
use Rattle.napi_types.specs.hub.HistoryRoom.{history_room}
use Rattle.napi_types.specs.hub.HubSteps.{IsHubNext, hub_step, hub_along}
use Rattle.napi_types.specs.runs.Begins.{begun_along, begun_info, told_at}
use Rattle.napi_types.specs.runs.InPlace.{StandInPlace}
use Rattle.napi_types.specs.runs.Machine.{Machine}
use Rattle.napi_types.specs.runs.Parting.{IsParted, sides_along}
use Rattle.napi_types.specs.runs.Plan.{after_entry, asked, registers_after}
use Rattle.napi_types.specs.runs.Run.{IsNext, IsRunBy, after}
use Rattle.napi_types.specs.runs.Setting.{Setting, RunsBy, opening_of, final_of, final_registers, planned_asks}
use Rattle.napi_types.specs.runs.Step.{Step, has_room, other_step, step_of, step}
use Rattle.napi_types.specs.all_runs.HubLaws.{OthersJoin}
use Rattle.napi_types.specs.all_runs.Joined.{OthersGoOn, AreJoined, with_others, gone_on, GoesOnJoined}
use Rattle.napi_types.proofs.plain.Conditions.{and-both}
use Rattle.napi_types.proofs.plain.Weaves.{rises-more, weave-shared, sides-shared}
use Rattle.napi_types.proofs.hub.OthersTell.{tells_begin, other-out}
use Rattle.napi_types.proofs.runs.InPlace.{shared-placed, placed-more}
use Rattle.napi_types.proofs.runs.Runs.{run-more, final-more, asked-more, registers-more, sides-more, begun-more}

-- WHAT OTHERS COME TO
-- the step of another actor is the hub's
pub others-step : (m : Machine) (a : Ask) (x : Entry) (who : Actor) → is_environment who ≡ false → step_of m a x who ≡ other_step m x
others-step m a x actor.Env other = cc
others-step m a x _ other = refl

-- it asks nothing of an addon, and keeps no register
others-ask : (ps : List Plan) (rss : Registers) (m : Machine) (a : Ask) (who : Actor) → is_environment who ≡ false → asked ps rss m a who ≡ ask.Leave None
others-ask ps rss m a actor.Env other = cc
others-ask ps rss m a _ other = refl

others-keep : (ps : List Plan) (rss : Registers) (m : Machine) (a : Ask) (x : Entry) → is_environment x.actor ≡ false → registers_after ps rss m a x ≡ rss
others-keep ps rss m a x other = by x.actor other
  where
    by : (who : Actor) → is_environment who ≡ false → after_entry ps rss m a x who ≡ rss
    by actor.Env other = cc
    by _ other = refl

-- its entry may come next
others-next : (m : Machine) (x : Entry) → is_environment x.actor ≡ false → IsHubNext m.hub x → IsTrue (fits_in (history_room m.hub m.history_length m.limits.history) x.what)
    → IsNext m (ask.Leave None) x
others-next m x other next fits =
    let same : step m (ask.Leave None) x ≡ other_step m x = others-step m (ask.Leave None) x x.actor other in
    subst (λ (s : Step). (x ≡ s.entry) × IsTrue s.may) (sym same) (next.entry, and-both (has_room m x.what) (hub_step m.hub x).may fits next.may)

-- it tells of no frame that begins
not-told : (m : Machine) (o : Out) → tells_begin o ≡ false → told_at m o ≡ None
not-told m (out.Begin cause addon entry d) is = cc
not-told m _ is = refl

none-told : (m : Machine) (x : Entry) → is_environment x.actor ≡ false → IsHubNext m.hub x → begun_info m x ≡ None
none-told m x other next = not-told m x.reply.out (ap (λ (y : Entry). tells_begin y.reply.out) next.entry ∙ other-out m.hub x x.actor other next.may)

-- ONE ENTRY OF ANOTHER
abbrev Others : Entry → Type 0
Others x = is_environment x.actor ≡ false

-- the side of its entry is the history
other-side : (m : Machine) (a : Ask) (x : Entry) → is_environment x.actor ≡ false → (step m a x).side ≡ History
other-side m a x other = ap (λ (s : Step). s.side) (others-step m a x x.actor other)

module _ (s : Setting) (asks : List Ask) (journal : List Local) (prefix : List Entry) (x : Entry) (rest : List Entry) where
  -- the run, with the entry at its end
  joined-more : AreJoined s asks journal prefix (x ∷ rest) → AreJoined s (asks ++ ask.Leave None ∷ []) journal (prefix ++ x ∷ []) rest
  joined-more j =
      let m : Machine = final_of s asks (weave journal prefix) in
      let other : is_environment x.actor ≡ false = All-head Others x rest j.others.others in
      let next : IsNext m (ask.Leave None) x = others-next m x other j.others.replays.0 j.others.replays.1 in
      let longer : weave journal (prefix ++ x ∷ []) ≡ weave journal prefix ++ x ∷ [] = weave-shared journal prefix x j.rises in
      let steps : IsRunBy (opening_of s) (asks ++ ask.Leave None ∷ []) (weave journal prefix ++ x ∷ []) = run-more (opening_of s) asks (weave journal prefix)
      (ask.Leave None) x j.run.steps next in
      let now : final_of s (asks ++ ask.Leave None ∷ []) (weave journal prefix ++ x ∷ []) ≡ after m (ask.Leave None) x =
      final-more (opening_of s) asks (weave journal prefix) (ask.Leave None) x j.run.steps in
      let moved : after m (ask.Leave None) x ≡ (other_step m x).after = ap (λ (t : Step). t.after) (others-step m (ask.Leave None) x x.actor other) in
      let planned : asks ++ ask.Leave None ∷ [] ≡ planned_asks s (asks ++ ask.Leave None ∷ []) (weave journal prefix ++ x ∷ []) =
      sym (asked-more s.plans (loaded_registers s.plans) (opening_of s) asks (weave journal prefix) (ask.Leave None) x j.run.steps
      ∙ ap (λ l. planned_asks s asks (weave journal prefix) ++ l ∷ [])
      (others-ask s.plans (final_registers s asks (weave journal prefix)) m (ask.Leave None) x.actor other)
      ∙ ap (λ l. l ++ ask.Leave None ∷ []) (sym j.run.asked)) in
      let sided : sides_along (opening_of s) (asks ++ ask.Leave None ∷ []) (weave journal prefix ++ x ∷ []) ≡ sides journal (prefix ++ x ∷ []) =
      sides-more (opening_of s) asks (weave journal prefix) (ask.Leave None) x j.run.steps
      ∙ ap (λ t. sides_along (opening_of s) asks (weave journal prefix) ++ t ∷ []) (other-side m (ask.Leave None) x other)
      ∙ ap (λ ts. ts ++ History ∷ []) j.parted ∙ sym (sides-shared journal prefix x j.rises) in
      record {
        run = subst (λ ys. RunsBy s (asks ++ ask.Leave None ∷ []) ys) (sym longer) (record { steps = steps; asked = planned });
        rises = rises-more 0 (length prefix) (length (prefix ++ x ∷ [])) journal (omega (arith, length-append prefix (x ∷ []))) j.rises;
        parted = subst (λ ys. sides_along (opening_of s) (asks ++ ask.Leave None ∷ []) ys ≡ sides journal (prefix ++ x ∷ [])) (sym longer) sided;
        others = subst (λ ys. OthersGoOn (final_of s (asks ++ ask.Leave None ∷ []) ys) rest) (sym longer)
            (subst (λ (n : Machine). OthersGoOn n rest) (sym (now ∙ moved)) (record { others = All-tail Others x rest j.others.others; replays = j.others.replays.2 }));
      }

-- THE LAW
registers-same : (s : Setting) (asks : List Ask) (ys : List Entry) (x : Entry) → IsRunBy (opening_of s) asks ys → is_environment x.actor ≡ false
    → final_registers s (asks ++ ask.Leave None ∷ []) (ys ++ x ∷ []) ≡ final_registers s asks ys
registers-same s asks ys x run other =
    registers-more s.plans (loaded_registers s.plans) (opening_of s) asks ys (ask.Leave None) x run
    ∙ others-keep s.plans (final_registers s asks ys) (final_of s asks ys) (ask.Leave None) x other

machine-next : (s : Setting) (asks : List Ask) (ys : List Entry) (x : Entry) → IsRunBy (opening_of s) asks ys → is_environment x.actor ≡ false
    → final_of s (asks ++ ask.Leave None ∷ []) (ys ++ x ∷ []) ≡ (other_step (final_of s asks ys) x).after
machine-next s asks ys x run other =
    final-more (opening_of s) asks ys (ask.Leave None) x run
    ∙ ap (λ (t : Step). t.after) (others-step (final_of s asks ys) (ask.Leave None) x x.actor other)

begun-same : (s : Setting) (asks : List Ask) (ys : List Entry) (x : Entry) → IsRunBy (opening_of s) asks ys → is_environment x.actor ≡ false
    → IsHubNext (final_of s asks ys).hub x
    → begun_along (opening_of s) (asks ++ ask.Leave None ∷ []) (ys ++ x ∷ []) ≡ begun_along (opening_of s) asks ys
begun-same s asks ys x run other next =
    begun-more (opening_of s) asks ys (ask.Leave None) x run
    ∙ ap (λ o. begun_along (opening_of s) asks ys ++ option_to_list o) (none-told (final_of s asks ys) x other next)
    ∙ append-nil (begun_along (opening_of s) asks ys)

placed-next : (s : Setting) (asks : List Ask) (ys : List Entry) (x : Entry) → IsRunBy (opening_of s) asks ys → is_environment x.actor ≡ false
    → StandInPlace (opening_of s) None asks ys → StandInPlace (opening_of s) None (asks ++ ask.Leave None ∷ []) (ys ++ x ∷ [])
placed-next s asks ys x run other placed =
    placed-more (opening_of s) None asks ys (ask.Leave None) x run placed
    (shared-placed (step (final_of s asks ys) (ask.Leave None) x).side _ (ask.Leave None) x.reply.out (other-side (final_of s asks ys) (ask.Leave None) x other))

-- one entry of others, and then the rest of them
gone_on-none : (m : Machine) → m ≡ gone_on [] m
gone_on-none m = ap (λ n. record m { history_length = n }) (zero-right m.history_length)
  where
    zero-right : (n : ℕ) → n ≡ n + 0
    zero-right n = omega arith

gone_on-more : (m : Machine) (x : Entry) (rest : List Entry) → gone_on rest (other_step m x).after ≡ gone_on (x ∷ rest) m
gone_on-more m x rest = ap (λ n. record m { hub = hub_along m.hub (x ∷ rest); history_length = n }) (right m.history_length (length rest))
  where
    right : (n k : ℕ) → n + 1 + k ≡ n + suc k
    right n k = omega arith

pub others-join : OthersJoin
others-join s asks journal prefix [] j =
    let same : prefix ++ [] ≡ prefix = append-nil prefix in
    let none : asks ++ [] ≡ asks = append-nil asks in
    record {
      run = subst (λ bs. RunsBy s bs (weave journal (prefix ++ []))) (sym none) (subst (λ ks. RunsBy s asks (weave journal ks)) (sym same) j.run);
      rises = subst (λ ks. RisesBetween 0 (length ks) journal) (sym same) j.rises;
      parted = subst (λ bs. IsParted (opening_of s) bs journal (prefix ++ [])) (sym none)
          (subst (λ ks. IsParted (opening_of s) asks journal ks) (sym same) j.parted);
      machine = ap (λ bs. final_of s bs (weave journal (prefix ++ []))) none ∙ ap (λ ks. final_of s asks (weave journal ks)) same
          ∙ gone_on-none (final_of s asks (weave journal prefix));
      begun = ap (λ bs. begun_along (opening_of s) bs (weave journal (prefix ++ []))) none ∙ ap (λ ks. begun_along (opening_of s) asks (weave journal ks)) same;
      registers = ap (λ bs. final_registers s bs (weave journal (prefix ++ []))) none ∙ ap (λ ks. final_registers s asks (weave journal ks)) same;
      placed = λ placed. subst (λ bs. StandInPlace (opening_of s) None bs (weave journal (prefix ++ []))) (sym none)
          (subst (λ ks. StandInPlace (opening_of s) None asks (weave journal ks)) (sym same) placed);
    }
others-join s asks journal prefix (x ∷ rest) j =
    let more : GoesOnJoined s (asks ++ ask.Leave None ∷ []) journal (prefix ++ x ∷ []) rest =
    others-join s (asks ++ ask.Leave None ∷ []) journal (prefix ++ x ∷ []) rest (joined-more s asks journal prefix x rest j) in
    let other : is_environment x.actor ≡ false = All-head Others x rest j.others.others in
    let lists : (prefix ++ x ∷ []) ++ rest ≡ prefix ++ x ∷ rest = append_assoc prefix (x ∷ []) rest in
    let asked : with_others (asks ++ ask.Leave None ∷ []) rest ≡ with_others asks (x ∷ rest) = append_assoc asks (ask.Leave None ∷ []) _ in
    let longer : weave journal (prefix ++ x ∷ []) ≡ weave journal prefix ++ x ∷ [] = weave-shared journal prefix x j.rises in
    record {
      run = subst (λ bs. RunsBy s bs (weave journal (prefix ++ x ∷ rest))) asked
          (subst (λ ks. RunsBy s (with_others (asks ++ ask.Leave None ∷ []) rest) (weave journal ks)) lists more.run);
      rises = subst (λ ks. RisesBetween 0 (length ks) journal) lists more.rises;
      parted = subst (λ bs. IsParted (opening_of s) bs journal (prefix ++ x ∷ rest)) asked
          (subst (λ ks. IsParted (opening_of s) (with_others (asks ++ ask.Leave None ∷ []) rest) journal ks) lists more.parted);
      machine = ap (λ bs. final_of s bs (weave journal (prefix ++ x ∷ rest))) (sym asked)
          ∙ ap (λ ks. final_of s (with_others (asks ++ ask.Leave None ∷ []) rest) (weave journal ks)) (sym lists)
          ∙ more.machine
          ∙ ap (gone_on rest) (ap (λ ys. final_of s (asks ++ ask.Leave None ∷ []) ys) longer ∙ machine-next s asks (weave journal prefix) x j.run.steps other)
          ∙ gone_on-more (final_of s asks (weave journal prefix)) x rest;
      begun = ap (λ bs. begun_along (opening_of s) bs (weave journal (prefix ++ x ∷ rest))) (sym asked)
          ∙ ap (λ ks. begun_along (opening_of s) (with_others (asks ++ ask.Leave None ∷ []) rest) (weave journal ks)) (sym lists)
          ∙ more.begun ∙ ap (λ ys. begun_along (opening_of s) (asks ++ ask.Leave None ∷ []) ys) longer
          ∙ begun-same s asks (weave journal prefix) x j.run.steps other j.others.replays.0;
      registers = ap (λ bs. final_registers s bs (weave journal (prefix ++ x ∷ rest))) (sym asked)
          ∙ ap (λ ks. final_registers s (with_others (asks ++ ask.Leave None ∷ []) rest) (weave journal ks)) (sym lists)
          ∙ more.registers ∙ ap (λ ys. final_registers s (asks ++ ask.Leave None ∷ []) ys) longer ∙ registers-same s asks
          (weave journal prefix) x j.run.steps other;
      placed = λ placed. subst (λ bs. StandInPlace (opening_of s) None bs (weave journal (prefix ++ x ∷ rest))) asked
          (subst (λ ks. StandInPlace (opening_of s) None (with_others (asks ++ ask.Leave None ∷ []) rest) (weave journal ks)) lists
          (more.placed (subst (λ ys. StandInPlace (opening_of s) None (asks ++ ask.Leave None ∷ []) ys) (sym longer)
          (placed-next s asks (weave journal prefix) x j.run.steps other placed))));
    }
