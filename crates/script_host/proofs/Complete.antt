-- Which line may stand in place of a text, by the command and the bytes that the source has.
use Rattle.std.proofs.Common.{◌≡◌, ◌<◌, ◌≤◌, ◌∙◌, ℕ, true, false, List, length, refl, ap, sym, subst, arith}
use Rattle.std.proofs.Common.{Option, Some, None, Ok, Err, ◌⊎◌, inl, inr}
use Rattle.std.specs.Prelude.{IfSome}
use Rattle.serde_json.specs.Data.{Data}
use Rattle.napi_types.specs.declared.script.Script.{Script}
use Rattle.napi_types.specs.declared.script.Mistake.{Mistake}
use Rattle.napi_types.specs.declared.script.Mistake.TheVariants as wrong
use Rattle.napi_types.specs.plain.Edge.{HasRisen}
use Rattle.napi_types.specs.scripts.Script.{IsScript, IsWrong, script}
use Rattle.napi_types.specs.scripts.ScriptReading.{IsJson, IsNoJson}
use Rattle.outside.specs.Ends.{Input}
use Rattle.outside.specs.Given.{is_met, Gave, GaveScript, GaveTooMuch, CausesOfReading}
use Rattle.outside.specs.Reading.{longest_source}
use Rattle.outside.specs.Words.{command_of, line_status, reads}
use Rattle.outside.specs.declared.commands.Command.{Command}
use Rattle.outside.specs.declared.commands.Command.TheVariants as command
use Rattle.outside.specs.declared.message.Message.{Message}
use Rattle.outside.specs.declared.message.Message.TheVariants as line
use Rattle.outside.specs.declared.scripts.Demand.{Demand}
use Rattle.outside.specs.declared.scripts.Demand.TheVariants as demand
use Rattle.script_run.specs.Load.{load_script}
use Rattle.script_host.specs.Host.{AreTooLong, AreRefused, HasTooManyAddons, LacksSchedule, AreRunnable}
use Rattle.script_host.specs.Host.{IsScriptOf, IsAskedFor, IsTooLong, IsRefused, IsRunnable, Causes, CausesOfLoad}

-- what a source gave up to its end is all that it had to give
all-given : (input : Input) (bytes given : List ℕ) → Gave input given → input.before ≡ Some bytes → given ≡ bytes
all-given input bytes given gave told = let P : Option (List ℕ) → Type 0 = λ o. IfSome o (λ b. given ≡ b) in subst P told gave.all

-- bytes are a JSON text of one value at most
one-value : (bytes : List ℕ) (d e : Data) → IsJson bytes d → IsJson bytes e → d ≡ e
one-value bytes d e a b = let same : Some d ≡ Some e = sym a.1 ∙ b.1 in cc

no-json : (bytes : List ℕ) (s : Script) → IsScript bytes s → IsNoJson bytes → ⊥
no-json bytes s is none = let no : Some is.0 ≡ None = sym is.1.1 ∙ none is.1.0 in cc

no-wrong : (bytes : List ℕ) (s : Script) (w : Mistake) → IsScript bytes s → IsWrong bytes w → ⊥
no-wrong bytes s w is bad =
    let same : bad.0 ≡ is.0 = one-value bytes bad.0 is.0 bad.1 is.1 in
    let no : Err w ≡ Ok s = sym bad.2 ∙ ap script same ∙ is.2 in
    cc

one-script : (bytes : List ℕ) (s t : Script) → IsScript bytes s → IsScript bytes t → s ≡ t
one-script bytes s t a b =
    let same : a.0 ≡ b.0 = one-value bytes a.0 b.0 a.1 b.1 in
    let both : Ok s ≡ Ok t = sym a.2 ∙ ap script same ∙ b.2 in
    cc

-- bytes that are refused are no script that can run
pub no-refused : (d : Demand) (bytes : List ℕ) (handed : ℕ) → AreRefused d bytes handed → (s : Script) → IsScript bytes s → length s.addons ≤ handed
    → is_met d s ≡ true → ⊥
no-refused d bytes handed bad s is enough met = by bad.why
  where
    by : IsNoJson bytes ⊎ (((w : Mistake) × IsWrong bytes w) ⊎ (HasTooManyAddons bytes handed ⊎ LacksSchedule d bytes handed)) → ⊥
    by (inl none) = no-json bytes s is none
    by (inr (inl wrong_there)) = no-wrong bytes s wrong_there.0 is wrong_there.1
    by (inr (inr (inl many))) =
        let same : many.script ≡ s = one-script bytes many.script s many.is_script is in
        let more : handed < length s.addons = subst (λ (x : Script). handed < length x.addons) same many.more in
        omega (arith, more, enough)
    by (inr (inr (inr lacks))) =
        let same : lacks.script ≡ s = one-script bytes lacks.script s lacks.is_script is in
        let no : true ≡ false = sym met ∙ sym (ap (is_met d) same) ∙ lacks.unmet in
        cc

-- where the source is read, its bytes are told and no read failed
module _ (d : Demand) (input : Input) (handed : ℕ) (bytes : List ℕ) (has : input.before ≡ Some bytes) (readable : ¬ HasRisen input.faults input.faults_after) where
  -- what it gave up to its end are these bytes
  all-told : (given : List ℕ) → Gave input given → given ≡ bytes
  all-told given gave = all-given input bytes given gave has

  -- so it gave no script other than theirs, and nothing else that they are not
  told-short : (given : List ℕ) → Gave input given → length bytes ≤ longest_source
  told-short given gave = subst (λ (b : List ℕ). length b ≤ longest_source) (all-told given gave) gave.within

  told-json : (given : List ℕ) → Gave input given → IsNoJson given → IsNoJson bytes
  told-json given gave none = subst (λ (b : List ℕ). IsNoJson b) (all-told given gave) none

  told-wrong : (given : List ℕ) (w : Mistake) → Gave input given → IsWrong given w → IsWrong bytes w
  told-wrong given w gave bad = subst (λ (b : List ℕ). IsWrong b w) (all-told given gave) bad

  told-script : (s : Script) → GaveScript input s → IsScript bytes s
  told-script s gave = subst (λ (b : List ℕ). IsScript b s) (all-told gave.bytes gave.gave) gave.is_script

  not-long : (given : List ℕ) → AreTooLong bytes → Gave input given → ⊥
  not-long given long gave = let short : length bytes ≤ longest_source = told-short given gave in omega (arith, short, long)

  -- of bytes that are too long no line tells but that they are, or that there was no memory
  long-line : AreTooLong bytes → (l : Message) → CausesOfReading d l input handed → (line_status l ≡ 7) ⊎ (line_status l ≡ 6)
  long-line long line.Usage cause = absurd cause
  long-line long line.NotJson cause = absurd (not-long cause.bytes long cause.gave)
  long-line long (line.Shape path) cause = absurd (not-long cause.bytes long cause.gave)
  long-line long (line.Limit which) cause = absurd (not-long cause.bytes long cause.gave)
  long-line long line.TooManyAddons cause = absurd (not-long cause.gave.bytes long cause.gave.gave)
  long-line long line.Schedule cause = absurd (not-long cause.gave.bytes long cause.gave.gave)
  long-line long line.NoMemory cause = inr refl
  long-line long line.ReadFault cause = absurd (readable cause)
  long-line long line.TooLong cause = inl refl

  long-run : AreTooLong bytes → (s : Script) → GaveScript input s → ⊥
  long-run long s gave = not-long gave.bytes long gave.gave

  long-told : GaveTooMuch input → length bytes ≤ longest_source → ⊥
  long-told gave short =
      let P : Option (List ℕ) → Type 0 = λ o. IfSome o (λ given. longest_source < length given) in
      let long : longest_source < length bytes = subst P has gave.told in
      omega (arith, long, short)

  -- of bytes that are refused no line tells but that they are, or that there was no memory
  bad-line : AreRefused d bytes handed → (l : Message) → CausesOfReading d l input handed → (line_status l ≡ 3) ⊎ (line_status l ≡ 6)
  bad-line bad line.Usage cause = absurd cause
  bad-line bad line.NotJson cause = inl refl
  bad-line bad (line.Shape path) cause = inl refl
  bad-line bad (line.Limit which) cause = inl refl
  bad-line bad line.TooManyAddons cause = inl refl
  bad-line bad line.Schedule cause = inl refl
  bad-line bad line.NoMemory cause = inr refl
  bad-line bad line.ReadFault cause = absurd (readable cause)
  bad-line bad line.TooLong cause = absurd (long-told cause bad.short)

  bad-run : AreRefused d bytes handed → (s : Script) → GaveScript input s → length s.addons ≤ handed → is_met d s ≡ true → ⊥
  bad-run bad s gave enough met = no-refused d bytes handed bad s (told-script s gave) enough met

  -- of a script that can be run no line tells but that there was no memory
  memory-alone : AreRunnable d bytes handed → (l : Message) → CausesOfReading d l input handed → line_status l ≡ 6
  memory-alone fit line.Usage cause = absurd cause
  memory-alone fit line.NotJson cause = absurd (no-json bytes fit.script fit.is_script (told-json cause.bytes cause.gave cause.is_no_json))
  memory-alone fit (line.Shape path) cause =
      let w : Mistake = wrong.Shape cause.has_wrong_shape.0 in
      absurd (no-wrong bytes fit.script w fit.is_script (told-wrong cause.bytes w cause.gave cause.has_wrong_shape.2))
  memory-alone fit (line.Limit which) cause =
      let w : Mistake = wrong.Limit which in
      absurd (no-wrong bytes fit.script w fit.is_script (told-wrong cause.bytes w cause.gave cause.is_wrong))
  memory-alone fit line.TooManyAddons cause =
      let same : cause.script ≡ fit.script = one-script bytes cause.script fit.script (told-script cause.script cause.gave) fit.is_script in
      let more : handed < length fit.script.addons = subst (λ (s : Script). handed < length s.addons) same cause.more in
      absurd (omega (arith, more, fit.enough))
  memory-alone fit line.Schedule cause =
      let same : cause.script ≡ fit.script = one-script bytes cause.script fit.script (told-script cause.script cause.gave) fit.is_script in
      let no : true ≡ false = sym fit.met ∙ sym (ap (is_met d) same) ∙ cause.unmet in
      cc
  memory-alone fit line.NoMemory cause = refl
  memory-alone fit line.ReadFault cause = absurd (readable cause)
  memory-alone fit line.TooLong cause = absurd (long-told cause fit.short)

-- of a load no line tells but that it is refused, or that there was no memory
pub load-line : (d : Demand) (l : Message) (s : Script) (handed : ℕ) → CausesOfLoad d l s handed → (line_status l ≡ 3) ⊎ (line_status l ≡ 6)
load-line demand.Schedule l s handed cause = let is : line_status l ≡ 3 = ap line_status cause in inl is
load-line demand.Nothing line.Usage s handed cause = absurd cause
load-line demand.Nothing line.NotJson s handed cause = absurd cause
load-line demand.Nothing (line.Shape path) s handed cause = absurd cause
load-line demand.Nothing (line.Limit which) s handed cause = absurd cause
load-line demand.Nothing line.TooManyAddons s handed cause = inl refl
load-line demand.Nothing line.Schedule s handed cause = absurd cause
load-line demand.Nothing line.NoMemory s handed cause = inr refl
load-line demand.Nothing line.ReadFault s handed cause = absurd cause
load-line demand.Nothing line.TooLong s handed cause = absurd cause

-- of a load that can be run no line tells but that there was no memory
load-memory : (d : Demand) (l : Message) (n : ℕ) (handed : ℕ) → is_met d (load_script n) ≡ true → length (load_script n).addons ≤ handed
    → CausesOfLoad d l (load_script n) handed → line_status l ≡ 6
load-memory demand.Schedule l n handed met enough cause = cc
load-memory demand.Nothing line.Usage n handed met enough cause = absurd cause
load-memory demand.Nothing line.NotJson n handed met enough cause = absurd cause
load-memory demand.Nothing (line.Shape path) n handed met enough cause = absurd cause
load-memory demand.Nothing (line.Limit which) n handed met enough cause = absurd cause
load-memory demand.Nothing line.TooManyAddons n handed met enough cause = absurd (omega (arith, enough, cause))
load-memory demand.Nothing line.Schedule n handed met enough cause = absurd cause
load-memory demand.Nothing line.NoMemory n handed met enough cause = refl
load-memory demand.Nothing line.ReadFault n handed met enough cause = absurd cause
load-memory demand.Nothing line.TooLong n handed met enough cause = absurd cause

-- the cause of a line, by the command that the words ask for
asked-cause : (d : Demand) (l : Message) (words : List (List ℕ)) (input : Input) (handed : ℕ) (c : Command) → command_of words ≡ Some c
    → Causes d l (command_of words) input handed → Causes d l (Some c) input handed
asked-cause d l words input handed c asked cause = subst (λ (o : Option Command). Causes d l o input handed) asked cause

-- what the words ask for is one command
one-command : (words : List (List ℕ)) (b c : Command) → command_of words ≡ Some b → command_of words ≡ Some c → b ≡ c
one-command words b c eb ec = let same : Some b ≡ Some c = sym eb ∙ ec in cc

-- where the words ask for a command, and the source's bytes are told where it reads them
module _ (d : Demand) (words : List (List ℕ)) (input : Input) (handed : ℕ) where
  -- of bytes that are too long no line tells but that they are, or that there was no memory
  pub too-long-line : (c : Command) (bytes : List ℕ) → IsAskedFor words input c bytes → IsTooLong c bytes → (l : Message)
      → Causes d l (command_of words) input handed → (line_status l ≡ 7) ⊎ (line_status l ≡ 6)
  too-long-line c bytes r long l cause = by c r.asked r.told r.readable long (asked-cause d l words input handed c r.asked cause)
    where
      by : (c : Command) → command_of words ≡ Some c → (reads (Some c) ≡ true → input.before ≡ Some bytes)
          → (reads (Some c) ≡ true → ¬ HasRisen input.faults input.faults_after) → IsTooLong c bytes → Causes d l (Some c) input handed
          → (line_status l ≡ 7) ⊎ (line_status l ≡ 6)
      by command.Run asked told readable long cause = long-line d input handed bytes (told refl) (readable refl) long.1 l cause
      by command.Summary asked told readable long cause = long-line d input handed bytes (told refl) (readable refl) long.1 l cause
      by (command.Load n) asked told readable long cause = let no : true ≡ false = sym long.0 in cc

  -- of a command that is refused no line tells but that it is, or that there was no memory
  pub refused-line : (c : Command) (bytes : List ℕ) → IsAskedFor words input c bytes → IsRefused d c bytes handed → (l : Message)
      → Causes d l (command_of words) input handed → (line_status l ≡ 3) ⊎ (line_status l ≡ 6)
  refused-line c bytes r bad l cause = by c r.told r.readable bad (asked-cause d l words input handed c r.asked cause)
    where
      by : (c : Command) → (reads (Some c) ≡ true → input.before ≡ Some bytes)
          → (reads (Some c) ≡ true → ¬ HasRisen input.faults input.faults_after) → IsRefused d c bytes handed → Causes d l (Some c) input handed
          → (line_status l ≡ 3) ⊎ (line_status l ≡ 6)
      by command.Run told readable bad cause = bad-line d input handed bytes (told refl) (readable refl) bad l cause
      by command.Summary told readable bad cause = bad-line d input handed bytes (told refl) (readable refl) bad l cause
      by (command.Load n) told readable bad cause = load-line d l (load_script n) handed cause

  -- of a command that can be run no line tells but that there was no memory
  pub only-memory : (c : Command) (bytes : List ℕ) → IsAskedFor words input c bytes → IsRunnable d c bytes handed → (l : Message)
      → Causes d l (command_of words) input handed → line_status l ≡ 6
  only-memory c bytes r fit l cause = by c r.told r.readable fit (asked-cause d l words input handed c r.asked cause)
    where
      by : (c : Command) → (reads (Some c) ≡ true → input.before ≡ Some bytes)
          → (reads (Some c) ≡ true → ¬ HasRisen input.faults input.faults_after) → IsRunnable d c bytes handed → Causes d l (Some c) input handed
          → line_status l ≡ 6
      by command.Run told readable fit cause = memory-alone d input handed bytes (told refl) (readable refl) fit l cause
      by command.Summary told readable fit cause = memory-alone d input handed bytes (told refl) (readable refl) fit l cause
      by (command.Load n) told readable fit cause = load-memory d l n handed fit.0 fit.1 cause

  -- and where the script was given, the bytes are not too long, and the command is not refused
  pub too-long-run : (c : Command) (bytes : List ℕ) → IsAskedFor words input c bytes → IsTooLong c bytes → (ran : Command) → command_of words ≡ Some ran
      → (s : Script) → IsScriptOf ran input s → ⊥
  too-long-run c bytes r long ran chosen s gave =
      by c r.told r.readable long (subst (λ (b : Command). IsScriptOf b input s) (one-command words ran c chosen r.asked) gave)
    where
      by : (c : Command) → (reads (Some c) ≡ true → input.before ≡ Some bytes)
          → (reads (Some c) ≡ true → ¬ HasRisen input.faults input.faults_after) → IsTooLong c bytes → IsScriptOf c input s → ⊥
      by command.Run told readable long gave = long-run d input handed bytes (told refl) (readable refl) long.1 s gave
      by command.Summary told readable long gave = long-run d input handed bytes (told refl) (readable refl) long.1 s gave
      by (command.Load n) told readable long gave = let no : true ≡ false = sym long.0 in cc

  pub refused-run : (c : Command) (bytes : List ℕ) → IsAskedFor words input c bytes → IsRefused d c bytes handed → (ran : Command) → command_of words ≡ Some ran
      → (s : Script) → IsScriptOf ran input s → length s.addons ≤ handed → is_met d s ≡ true → ⊥
  refused-run c bytes r bad ran chosen s gave enough met =
      by c r.told r.readable bad (subst (λ (b : Command). IsScriptOf b input s) (one-command words ran c chosen r.asked) gave)
    where
      by : (c : Command) → (reads (Some c) ≡ true → input.before ≡ Some bytes)
          → (reads (Some c) ≡ true → ¬ HasRisen input.faults input.faults_after) → IsRefused d c bytes handed → IsScriptOf c input s → ⊥
      by command.Run told readable bad gave = bad-run d input handed bytes (told refl) (readable refl) bad s gave enough met
      by command.Summary told readable bad gave = bad-run d input handed bytes (told refl) (readable refl) bad s gave enough met
      by (command.Load n) told readable (inl unmet) gave =
          let is : is_met d (load_script n) ≡ true = subst (λ (x : Script). is_met d x ≡ true) gave met in
          let no : true ≡ false = sym is ∙ unmet in
          cc
      by (command.Load n) told readable (inr many) gave =
          let fewer : length (load_script n).addons ≤ handed = subst (λ (x : Script). length x.addons ≤ handed) gave enough in
          absurd (omega (arith, fewer, many))
