-- The addons of a script are loaded, and the run comes to its end.
use Rattle.std.proofs.Common.{◌≡◌, ◌≢◌, ◌<◌, ◌≤◌, ℕ, suc, ◌+◌, ◌++◌, List, [], ◌∷◌, length, set, drop, option_map, refl, ap, subst, sym, ◌∙◌, arith, below_more, append_assoc, length-append}
use Rattle.std.specs.List.{All}
use Rattle.std.proofs.lemmas.List.{get_or-set_same, get_or-set_other, drop-set-lt, get_or_append_left, length-set, nil_from_length, append-nil}
use Rattle.napi_types.specs.declared.duties.DueInfo.{DueInfo}
use Rattle.napi_types.specs.declared.entry.Actor.{Actor}
use Rattle.napi_types.specs.declared.entry.Entry.{Entry}
use Rattle.napi_types.specs.declared.entry.Local.{Local}
use Rattle.napi_types.specs.declared.lists.AddonPlan.{AddonPlan}
use Rattle.napi_types.specs.declared.lists.Record.{Record}
use Rattle.napi_types.specs.declared.op.Op.{Op}
use Rattle.napi_types.specs.plain.Room.{most_entries}
use Rattle.napi_types.specs.scripts.Plans.{Plan, plan_of, Registers, registers_of}
use Rattle.napi_types.specs.scripts.Registers.{blank_registers}
use Rattle.napi_types.specs.runs.Setting.{Setting, opens_with}
use Rattle.napi_types.specs.all_runs.TurnsInOrder.{AroseByTurns}
use Rattle.env_core.specs.Core.{Core, opened_core}
use Rattle.shared_hub.specs.declared.naming.Numbers.{Numbers}
use Rattle.addon_trait.specs.Addons.{loaded_at}
use Rattle.env_loop.specs.Recording.{AddonStates, IsEnded, IsOf}
use Rattle.env_loop.specs.RecordedRuns.{Run, opened_run}
use Rattle.env_loop.specs.FollowedRuns.{IsFollowed, HasNumbers}
use Rattle.env_loop.proofs.HubGoing.{opened-followed}
use Rattle.env_loop.specs.OpenedAndGone.{EndsWhole}
use Rattle.env_loop.specs.declared.actor.ActorRun.{ActorRun}
use Rattle.stepper.specs.ListTurns.{HasScript, AroseWhole}
use Rattle.stepper.specs.TakingPart.{turns_of, rounds_of}
use Rattle.script_run.specs.Loading.{told_plans, hub_numbers, setting_with}

-- LOADING
-- as many plans are told as the script gives
pub length-told : (given : List AddonPlan) (plans : List Plan) → length given ≤ length plans → length (told_plans given plans) ≡ length given
length-told [] plans h = refl
length-told (g ∷ given) [] h = absurd (omega arith)
length-told (g ∷ given) (p ∷ plans) h = let shorter : length given ≤ length plans = omega arith in ap (λ n. suc n) (length-told given plans shorter)

-- at most as many plans are told as the script gives
pub length-told-le : (given : List AddonPlan) (plans : List Plan) → length (told_plans given plans) ≤ length given
length-told-le [] plans = omega arith
length-told-le (g ∷ given) [] = omega arith
length-told-le (g ∷ given) (p ∷ plans) = omega (arith, length-told-le given plans)

-- one addon more is loaded
pub loaded-more : (given : List AddonPlan) (g : AddonPlan) (plans : List Plan) → length given < length plans
    → loaded_at (told_plans given plans ++ drop (length given) plans) (length given) g.entries
    ≡ told_plans (given ++ g ∷ []) plans ++ drop (length (given ++ g ∷ [])) plans
loaded-more [] g [] h = absurd (omega arith)
loaded-more [] g (p ∷ plans) h = refl
loaded-more (x ∷ given) g [] h = absurd (omega arith)
loaded-more (x ∷ given) g (p ∷ plans) h =
    let shorter : length given < length plans = omega arith in
    ap (λ l. option_map (λ _. x.entries) p ∷ l) (loaded-more given g plans shorter)

-- one addon's registers more are cleared
pub blank-more : (before after : Registers) (i : ℕ) → i < length before → after ≡ set before i blank_registers
    → ((k : ℕ) → k < i → registers_of before k ≡ blank_registers) → (k : ℕ) → k < i + 1 → registers_of after k ≡ blank_registers
blank-more before after i within e below =
    below_more _ _
    (λ k h. let ne : k ≢ i = omega arith in ap (λ l. registers_of l k) e ∙ get_or-set_other before i k blank_registers [] ne ∙ below k h)
    (ap (λ l. registers_of l i) e ∙ get_or-set_same before i blank_registers [] within)

-- the others stay as they are
pub dropped-more : (first before after : Registers) (i n : ℕ) (x : List ℕ) → after ≡ set before i x → i < n
    → drop n before ≡ drop n first → drop n after ≡ drop n first
dropped-more first before after i n x e below others = ap (drop n) e ∙ drop-set-lt n before i x below ∙ others

-- the addons of the plans that were taken from the list are loaded, and the others are as they were
pub record Loaded (given done rest : List AddonPlan) (first plans : List Plan) (before registers : Registers) : Type 0 where
  pub parted : done ++ rest ≡ given
  pub enough : length given ≤ length first
  pub room : length given ≤ length registers
  pub told : plans ≡ told_plans done first ++ drop (length done) first
  pub blank : (addon : ℕ) → addon < length done → registers_of registers addon ≡ blank_registers
  pub others : drop (length given) registers ≡ drop (length given) before

pub loaded-start : (given rest : List AddonPlan) (first : List Plan) (before : Registers) → rest ≡ given → length given ≤ length first → length given ≤ length before
    → Loaded given [] rest first first before before
loaded-start given rest first before all enough room =
    record { parted = all; enough = enough; room = room; told = refl; blank = λ addon below. absurd (omega arith); others = refl }

-- the number of the next addon is below the number of plans
pub loaded-below : (given done rest later : List AddonPlan) (g : AddonPlan) → done ++ rest ≡ given → rest ≡ g ∷ later → length done < length given
loaded-below given done rest later g parted next = let e = ap length (ap (λ l. done ++ l) (sym next) ∙ parted) in omega (arith, simp length-append at e)

pub loaded-turn : (given done rest more later : List AddonPlan) (first plans loaded : List Plan) (before registers cleared : Registers) (g : AddonPlan) (i : ℕ)
    → Loaded given done rest first plans before registers → rest ≡ g ∷ later → i ≡ length done → more ≡ done ++ g ∷ []
    → loaded ≡ loaded_at plans i g.entries → cleared ≡ set registers i blank_registers
    → Loaded given more later first loaded before cleared
loaded-turn given done rest more later first plans loaded before registers cleared g i l next place grown plans_are registers_are =
    let below : length done < length given = loaded-below given done rest later g l.parted next in
    let within : i < length registers = omega (arith, below, l.room, place) in
    let few : length done < length first = omega (arith, below, l.enough) in
    let P : List AddonPlan → Type 0 = λ m. Loaded given m later first loaded before cleared in
    let one_more : length (done ++ g ∷ []) ≡ i + 1 = length-append done (g ∷ []) ∙ ap (λ n. n + 1) (sym place) in
    subst P (sym grown) (record {
      parted = append_assoc done (g ∷ []) later ∙ ap (λ r. done ++ r) (sym next) ∙ l.parted;
      enough = l.enough;
      room = let e : length cleared ≡ length registers = ap length registers_are ∙ length-set registers i blank_registers in omega (arith, l.room, e);
      told =
          plans_are ∙ ap (λ ps. loaded_at ps i g.entries) l.told
          ∙ ap (λ n. loaded_at (told_plans done first ++ drop (length done) first) n g.entries) place ∙ loaded-more done g first few;
      blank = λ addon under.
          blank-more registers cleared i within registers_are (λ k h. l.blank k (omega (arith, place))) addon (omega (arith, one_more));
      others = dropped-more before registers cleared i (length given) blank_registers registers_are (omega (arith, below, place)) l.others;
    })

-- where no plan is left, all are loaded
pub loaded-end : (given done rest : List AddonPlan) (first plans : List Plan) (before registers : Registers)
    → Loaded given done rest first plans before registers → length rest ≡ 0 → Loaded given given [] first plans before registers
loaded-end given done rest first plans before registers l none =
    let empty : rest ≡ [] = nil_from_length rest none in
    let all : done ≡ given = sym (append-nil done) ∙ ap (λ r. done ++ r) (sym empty) ∙ l.parted in
    let P : List AddonPlan → Type 0 = λ m. Loaded given m [] first plans before registers in
    let Q : List AddonPlan → Type 0 = λ r. Loaded given done r first plans before registers in
    subst P all (subst Q empty l)

-- THE WHOLE RUN
-- the registers of the other addons stay as they are
pub others-stay : (version count texts limit all : ℕ) (core : Core) (start : Run) (first loaded now : Registers)
    → core ≡ opened_core (record { version = version; addons = count; texts = texts }) limit → start ≡ opened_run core → count ≡ all
    → drop start.core.env.addons now ≡ drop start.core.env.addons loaded → drop all loaded ≡ drop all first
    → drop all now ≡ drop all first
others-stay version count texts limit all core start first loaded now opens starts counted later earlier =
    let same : start.core.env.addons ≡ all = ap (λ (r : Run). r.core.env.addons) starts ∙ ap (λ (x : Core). x.env.addons) opens ∙ counted in
    let P : ℕ → Type 0 = λ k. drop k now ≡ drop k loaded in
    subst P same later ∙ earlier

-- a script's run as it began, with its addons loaded, in the words of the crates that go on with it
record BeginsWhole (s : Setting) (n : Numbers) (loaded : List Plan) (start : Run) (all : AddonStates) : Type 0 where
  of : IsOf s loaded start.core
  has : HasNumbers s n
  followed : IsFollowed s start [] all all.seen

module _ (given : List AddonPlan) (handed loaded : List Plan) (version texts count threads workers : ℕ) (n : Numbers) (core : Core) (start : Run) (all : AddonStates)
    (enough : length given ≤ length handed) (counted : count ≡ length given) (opens : core ≡ opened_core (record { version = version; addons = count; texts = texts }) most_entries)
    (starts : start ≡ opened_run core) (named : n ≡ hub_numbers threads workers) (plans : loaded ≡ told_plans given handed ++ drop (length given) handed)
    (blank : (addon : ℕ) → addon < length given → registers_of all.registers addon ≡ blank_registers) where
  abbrev begun : Setting
  begun = setting_with version (told_plans given handed) texts threads workers

  begins : BeginsWhole begun n loaded start all
  begins =
      let told : List Plan = told_plans given handed in
      let as_many : length told ≡ length given = length-told given handed enough in
      let opened : core ≡ opened_core (opens_with begun) most_entries =
      opens ∙ ap (λ k. opened_core (record { version = version; addons = k; texts = texts }) most_entries) (counted ∙ sym as_many) in
      let cleared : (addon : ℕ) → addon < length told → registers_of all.registers addon ≡ blank_registers = λ addon below. blank addon (omega (arith, as_many, below)) in
      record {
        of = record {
          count = sym (ap (λ (c : Core). c.env.addons) (ap (λ (r : Run). r.core) starts ∙ opened));
          first = λ addon below. sym (ap (λ l. plan_of l addon) plans ∙ get_or_append_left told (drop (length given) handed) _ addon below);
        };
        has = record {
          threads = ap (λ (m : Numbers). m.threads) (sym named);
          workers = ap (λ (m : Numbers). m.workers) (sym named);
          limit = ap (λ (m : Numbers). m.limits.history) (sym named);
        };
        followed = subst (λ (r : Run). IsFollowed begun r [] all all.seen) (sym starts) (opened-followed begun core all opened cleared);
      }

  -- it came to its end
  pub whole-ended : (left : Record) (journal : List Local) (history : List Entry) (now : AddonStates) (firsts : List (List DueInfo)) → all.seen ≡ firsts
      → EndsWhole n loaded start all left now → journal ≡ left.journal → history ≡ left.history → IsEnded begun journal history now firsts
  whole-ended left journal history now firsts same_seen ends same_journal same_history =
      let F : List (List DueInfo) → Type 0 = λ x. IsEnded begun left.journal left.history now x in
      let J : List Local → Type 0 = λ x. IsEnded begun x history now firsts in
      let L : List Entry → Type 0 = λ x. IsEnded begun left.journal x now firsts in
      subst J (sym same_journal) (subst L (sym same_history) (subst F same_seen (ends begun all.seen begins.has begins.of begins.followed)))

  -- and arose by the turns of a schedule, and then by those of rounds
  pub whole-arose : {J : Type 0} (left : Record) (journal : List Local) (history : List Entry) (scripts : List (List Op)) (actors : List (ActorRun J))
      (words schedule : List Actor) → words ≡ schedule → AroseWhole n loaded words start all actors left → All (HasScript scripts) actors
      → journal ≡ left.journal → history ≡ left.history
      → (rounds : ℕ) × AroseByTurns begun scripts (turns_of schedule ++ rounds_of (hub_numbers threads workers) rounds) journal history
  whole-arose left journal history scripts actors words schedule same arose have same_journal same_history = (
    arose.0,
    subst (λ (x : List Local). AroseByTurns begun scripts (turns_of schedule ++ rounds_of (hub_numbers threads workers) arose.0) x history) (sym same_journal)
        (subst (λ (x : List Entry). AroseByTurns begun scripts (turns_of schedule ++ rounds_of (hub_numbers threads workers) arose.0) left.journal x) (sym same_history)
        (subst (λ (m : Numbers). AroseByTurns begun scripts (turns_of schedule ++ rounds_of m arose.0) left.journal left.history) named
        (subst (λ (ws : List Actor). AroseByTurns begun scripts (turns_of ws ++ rounds_of n arose.0) left.journal left.history) same
        (arose.1 begun scripts all.seen begins.has begins.of begins.followed have)))),
  )
