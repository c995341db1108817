-- What keeps a promise from being collected, its deferred until that is settled, and its reactions until they end; and when reactions begin.
use Rattle.std.specs.Prelude.{◌≡◌, ℕ, true, false, List, [], Some}
use Rattle.napi_types.specs.declared.call.Ask.{Ask}
use Rattle.napi_types.specs.declared.entry.Cause.TheVariants as cause
use Rattle.napi_types.specs.declared.entry.Entry.{Entry}
use Rattle.napi_types.specs.declared.entry.HostStep.TheVariants as host
use Rattle.napi_types.specs.declared.entry.Out.TheVariants as out
use Rattle.napi_types.specs.declared.entry.What.TheVariants as what
use Rattle.napi_types.specs.plain.Lists.{has_number}
use Rattle.napi_types.specs.parts.Book.{ticket_duty}
use Rattle.napi_types.specs.parts.Promises.{deferred_promise, is_reaction_of, reactions_of, reaction_promise, promise_roots, with_settled}
use Rattle.napi_types.specs.environment.Collection.{collected}
use Rattle.napi_types.specs.environment.Environment.{Environment}
use Rattle.napi_types.specs.environment.Roots.{roots, reach}
use Rattle.napi_types.specs.runs.Run.{IsNext, IsRunBy}
use Rattle.napi_types.specs.runs.Setting.{Setting, opening_of, final_of}
use Rattle.machine_laws.specs.Choices.{BeginsLowest}
use Rattle.machine_laws.specs.Consistency.{IsConsistent}

-- a promise whose deferred is not settled is a root
abbrev pub PendingPromisesAreRoots : Type 0
PendingPromisesAreRoots = (e : Environment) (n v : ℕ) → deferred_promise e.promises n ≡ Some v → has_number v (roots e) ≡ true

-- so a collection changes no deferred
abbrev pub CollectionsKeepDeferreds : Type 0
CollectionsKeepDeferreds = (e : Environment) → IsConsistent e → (collected (reach e) e).promises.deferreds ≡ e.promises.deferreds

-- a promise with a reaction that has not ended is a root too, ..
abbrev pub ReactedPromisesAreRoots : Type 0
ReactedPromisesAreRoots = (e : Environment) (v ticket : ℕ) → is_reaction_of e.promises v ticket ≡ true → has_number v (roots e) ≡ true

-- .. so a collection changes no reactions
abbrev pub CollectionsKeepReactions : Type 0
CollectionsKeepReactions = (e : Environment) (v : ℕ) → IsConsistent e → reactions_of (collected (reach e) e).promises v ≡ reactions_of e.promises v

-- the promise of a reaction is the one that has it, and no other
abbrev pub ReactionsAreOfOnePromise : Type 0
ReactionsAreOfOnePromise = (e : Environment) (v ticket : ℕ) → IsConsistent e → is_reaction_of e.promises v ticket ≡ true
    → reaction_promise e.promises ticket ≡ Some v

-- once its deferred is settled, a promise without reactions is a root no longer for being a promise, whatever state it has
abbrev pub SettledPromisesAreNoRoots : Type 0
SettledPromisesAreNoRoots = (e : Environment) (n v state : ℕ) → IsConsistent e → deferred_promise e.promises n ≡ Some v → reactions_of e.promises v ≡ []
    → has_number v (promise_roots (with_settled n v state e.promises)) ≡ false

-- the frame of a reaction's ticket begins in the loop until exit is asked, or after `finals`, and the ticket is the lowest that is due. So it waits while
-- another frame stands, while hooks begin, and until its promise is settled or `finals` comes
abbrev pub ReactionsBeginInTheLoopOrAtTheEnd : Type 0
ReactionsBeginInTheLoopOrAtTheEnd = (s : Setting) (bs : List Ask) (xs : List Entry) (a : Ask) (x : Entry) (addon entry ticket : ℕ)
    → IsRunBy (opening_of s) bs xs → IsNext (final_of s bs xs) a x → x.what ≡ what.Host host.Begin
    → x.reply.out ≡ out.Begin cause.Reaction addon entry (Some (ticket_duty ticket)) → BeginsLowest (final_of s bs xs) (ticket_duty ticket)
