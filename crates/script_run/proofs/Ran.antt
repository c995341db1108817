-- What is known of a run that came to its end.
use Rattle.std.proofs.Common.{◌≡◌, ◌<◌, ◌≤◌, ◌+◌, ◌*◌, ℕ, List, ◌++◌, length, drop, slice_get, Option, Some, None, IfSome, refl, subst, arith}
use Rattle.napi_types.specs.declared.duties.DueInfo.{DueInfo}
use Rattle.napi_types.specs.declared.entry.Actor.{Actor}
use Rattle.napi_types.specs.declared.entry.Entry.{Entry}
use Rattle.napi_types.specs.declared.entry.Local.{Local}
use Rattle.napi_types.specs.declared.lists.AddonPlan.{AddonPlan}
use Rattle.napi_types.specs.declared.lists.Record.{Record}
use Rattle.napi_types.specs.declared.op.Op.{Op}
use Rattle.napi_types.specs.declared.script.Script.{Script}
use Rattle.napi_types.specs.plain.Room.{most_entries}
use Rattle.napi_types.specs.plain.Weave.{weave}
use Rattle.napi_types.specs.scripts.Plans.{Plan}
use Rattle.napi_types.specs.hub.Actors.{Free, Over, worker_along}
use Rattle.napi_types.specs.runs.Setting.{Setting, final_of}
use Rattle.napi_types.specs.all_runs.Laws.{HasRoom}
use Rattle.napi_types.specs.all_runs.TurnsInOrder.{AroseByTurns}
use Rattle.napi_types.proofs.all_runs.Rooms.{room-suffices}
use Rattle.env_loop.specs.Recording.{AddonStates, IsEnded}
use Rattle.stepper.specs.TakingPart.{turns_of, rounds_of}
use Rattle.script_run.specs.Loading.{told_plans, setting_with, hub_numbers}
use Rattle.script_run.specs.Runs.{Handed, FollowsSchedule, HasRun, IsSmall, setting_of}
use Rattle.script_run.specs.ScriptActors.{MadeItsScript}
use Rattle.script_run.proofs.Loading.{length-told, length-told-le}

-- the lists of a run with few addons, threads and workers are within their limits
lists-within : (version : ℕ) (given : List AddonPlan) (handed : List Plan) (texts threads workers : ℕ) (journal : List Local) (history : List Entry) (all : AddonStates)
    (firsts : List (List DueInfo)) → length given ≤ 8 → threads ≤ 16 → workers ≤ 8
    → IsEnded (setting_with version (told_plans given handed) texts threads workers) journal history all firsts
    → (length journal ≤ most_entries) × (length history ≤ most_entries)
lists-within version given handed texts threads workers journal history all firsts few some none e =
    let plans : List Plan = told_plans given handed in
    let s : Setting = setting_with version plans texts threads workers in
    let fewer : length plans ≤ 8 = omega (arith, length-told-le given handed) in
    let opens : 2 + 2 * length plans ≤ most_entries = omega arith in
    let owes : 5 + threads + workers ≤ most_entries = omega (arith, some, none) in
    let room : HasRoom s (weave journal history) (final_of s e.asks (weave journal history)) =
    room-suffices s e.asks (weave journal history) opens owes e.ended.run in
    (omega (arith, room.journal, e.journal_length), omega (arith, room.history, e.history_length))

-- a fact of what may be there
if-some : {A : Type 0} (o : Option A) (P : A → Type 0) → ((x : A) → o ≡ Some x → P x) → IfSome o P
if-some None P holds = tt
if-some (Some x) P holds = holds x refl

-- a run of the script's addons, as the top call tells it
pub ran-of : (script : Script) (texts : ℕ) (handed after : Handed) (left : Record) → IsSmall script
    → texts ≡ length script.texts → length script.addons ≤ length handed.plans
    → IsEnded (setting_with script.version (told_plans script.addons handed.plans) texts (length script.threads) script.workers) left.journal left.history (record { registers = after.registers; seen = after.seen }) handed.seen
    → after.plans ≡ told_plans script.addons handed.plans ++ drop (length script.addons) handed.plans
    → drop (length script.addons) after.registers ≡ drop (length script.addons) handed.registers
    → ((t : ℕ) (operations : List Op) → slice_get script.threads t ≡ Some operations
    → MadeItsScript (setting_with script.version (told_plans script.addons handed.plans) texts (length script.threads) script.workers) t operations left.history)
    → ((w : ℕ) → w < script.workers → worker_along w (Some Free) left.history ≡ Some Over)
    → ((words : List Actor) → script.schedule ≡ Some words
    → (rounds : ℕ) × AroseByTurns (setting_with script.version (told_plans script.addons handed.plans) texts (length script.threads) script.workers) script.threads
    (turns_of words ++ rounds_of (hub_numbers (length script.threads) script.workers) rounds) left.journal left.history)
    → HasRun script handed left after
ran-of script texts handed after left small counted enough ended loaded others threads workers arose =
    let states : AddonStates = record { registers = after.registers; seen = after.seen } in
    let E : ℕ → Type 0 = λ n. IsEnded (setting_with script.version (told_plans script.addons handed.plans) n (length script.threads) script.workers) left.journal left.history states handed.seen in
    let e : IsEnded (setting_of script handed.plans) left.journal left.history states handed.seen = subst E counted ended in
    let within : (length left.journal ≤ most_entries) × (length left.history ≤ most_entries) =
    lists-within script.version script.addons handed.plans (length script.texts) (length script.threads) script.workers left.journal left.history states handed.seen
    small.few small.actors.threads_few small.actors.workers_few e in
    record {
      enough = enough;
      run = record {
        asks = e.asks;
        ended = e.ended;
        collected = e.promises.collected;
        rises = e.rises;
        parted = e.parted;
        placed = e.placed;
        agrees = λ addon below. e.agrees addon (omega (arith, length-told script.addons handed.plans enough));
        seen = e.seen;
        counted = e.promises.counted;
        hooks = e.promises.hooks;
        finals = e.promises.finals;
        once = e.promises.once;
        items = e.promises.items;
        threads = λ t operations at.
            subst (λ n. MadeItsScript (setting_with script.version (told_plans script.addons handed.plans) n (length script.threads) script.workers) t operations left.history)
            counted (threads t operations at);
        workers = workers;
        completed = e.promises.completed;
        cancels = e.promises.cancels;
        settled = e.promises.settled;
        promised = e.promises.promised;
        bytes = e.promises.bytes;
        lives = e.promises.lives;
      };
      loaded = loaded;
      others = others;
      scheduled = if-some script.schedule (FollowsSchedule script handed.plans left) (λ words is. (
        (arose words is).0,
        subst (λ n. AroseByTurns (setting_with script.version (told_plans script.addons handed.plans) n (length script.threads) script.workers) script.threads
            (turns_of words ++ rounds_of (hub_numbers (length script.threads) script.workers) (arose words is).0) left.journal left.history)
            counted (arose words is).1,
      ));
      journal = within.0;
      history = within.1;
    }
