-- An entry of the environment goes into the history of a recorded run.
use Rattle.std.proofs.Common.{◌≡◌, ◌∙◌, ℕ, ◌+◌, List, [], ◌∷◌, ◌++◌, length, refl, ap, subst, sym, arith, length-append, None}
use Rattle.std.specs.Option.{option_to_list}
use Rattle.napi_types.specs.declared.duties.DueInfo.{DueInfo}
use Rattle.napi_types.specs.declared.entry.Entry.{Entry}
use Rattle.napi_types.specs.plain.Weave.{History, weave, RisesBetween}
use Rattle.napi_types.specs.runs.Begins.{begun_info, begun_along}
use Rattle.napi_types.specs.runs.InPlace.{StandInPlace}
use Rattle.napi_types.specs.runs.Machine.{Machine}
use Rattle.napi_types.specs.runs.Parting.{sides_along}
use Rattle.napi_types.specs.runs.Plan.{after_entry, asked, registers_after}
use Rattle.napi_types.specs.runs.Setting.{opening_of, RunsBy, final_of, final_registers}
use Rattle.napi_types.specs.runs.Step.{Step}
use Rattle.napi_types.proofs.plain.Weaves.{weave-shared, sides-shared, rises-more}
use Rattle.env_loop.specs.Recording.{HasSeen, machine_of, IsRecorded}
use Rattle.env_loop.specs.SharedEntries.{shared_step, SharedEntriesAreRecorded}
use Rattle.env_loop.proofs.Recordings.{Grown, grow, last-own}
use Rattle.env_loop.proofs.SeenLists.{seen-more}

pub entries-recorded : SharedEntriesAreRecorded
entries-recorded s core hub later history all now firsts r a x e own next who here kept count agrees seen =
    let m : Machine = machine_of s.limits core hub history in
    let xs : List Entry = weave core.journal history in
    let st : Step = shared_step m x later e in
    let g : Grown s (r.asks ++ a ∷ []) (xs ++ x ∷ []) st.after (registers_after s.plans r.own m a x) (sides_along (opening_of s) r.asks xs ++ History ∷ [])
    (begun_along (opening_of s) r.asks xs ++ option_to_list (begun_info m x)) =
    grow s r.asks xs m r.own a x st r.run r.final r.registers next refl refl (here ∙ ap (asked s.plans r.own m a) (sym who)) r.placed refl in
    let woven : weave core.journal (history ++ x ∷ []) ≡ xs ++ x ∷ [] = weave-shared core.journal history x r.rises in
    let longer : length (history ++ x ∷ []) ≡ length history + 1 = length-append history (x ∷ []) in
    let R : List Entry → Type 0 = λ ys. RunsBy s (r.asks ++ a ∷ []) ys in
    let U : ℕ → Type 0 = λ n. RisesBetween 0 n core.journal in
    let B : List DueInfo → Type 0 = λ l. HasSeen firsts l now.seen in
    let recorded : IsRecorded s (record core { env = e; position = length history + 1 }) later (history ++ x ∷ []) now firsts = record {
      asks = r.asks ++ a ∷ [];
      own = own;
      run = subst R (sym woven) g.run;
      final =
          ap (λ ys. final_of s (r.asks ++ a ∷ []) ys) woven ∙ g.final
          ∙ ap (λ n. record m { env = e; hub = later; history_length = n }) (sym longer);
      registers = ap (λ ys. final_registers s (r.asks ++ a ∷ []) ys) woven ∙ g.registers_are ∙ ap (after_entry s.plans r.own m a x) who ∙ kept;
      count = count;
      agrees = agrees;
      seen =
          subst B (sym (ap (λ ys. begun_along (opening_of s) (r.asks ++ a ∷ []) ys) woven ∙ g.begun_are))
          (seen-more firsts all.seen now.seen (begun_along (opening_of s) r.asks xs) (option_to_list (begun_info m x)) r.seen seen);
      limit = r.limit;
      position = sym longer;
      rises = subst U (sym longer) (rises-more 0 (length history) (length history + 1) core.journal (omega arith) r.rises);
      parted =
          ap (λ ys. sides_along (opening_of s) (r.asks ++ a ∷ []) ys) woven ∙ g.sides_are ∙ ap (λ l. l ++ History ∷ []) r.parted
          ∙ sym (sides-shared core.journal history x r.rises);
      placed = subst (λ ys. StandInPlace (opening_of s) None (r.asks ++ a ∷ []) ys) (sym woven) g.placed;
    } in
    record { recorded = recorded; own = last-own core.journal (history ++ x ∷ []) xs x woven who }
