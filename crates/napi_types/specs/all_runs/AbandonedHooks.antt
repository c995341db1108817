-- What becomes of asynchronous cleanup hooks along the entries of a run: each that began is removed, or is counted where hooks are abandoned.
use Rattle.std.specs.Prelude.{◌≡◌, ◌<◌, ◌≤◌, ◌⊎◌, ℕ, nat_eq, Bool, true, false, not, ◌&&◌, List, [], ◌∷◌, ◌++◌, map, filter, flat_map, length, count_by, Option, Some}
use Rattle.std.specs.List.{All, IsDistinct}
use Rattle.napi_types.specs.declared.call.Ask.{Ask}
use Rattle.napi_types.specs.declared.call.Call.TheVariants as call
use Rattle.napi_types.specs.declared.entry.Duty.{Duty}
use Rattle.napi_types.specs.declared.entry.Duty.TheVariants as duty
use Rattle.napi_types.specs.declared.entry.Entry.{Entry}
use Rattle.napi_types.specs.declared.entry.HostStep.TheVariants as host
use Rattle.napi_types.specs.declared.entry.Out.{Out}
use Rattle.napi_types.specs.declared.entry.Out.TheVariants as out
use Rattle.napi_types.specs.declared.entry.What.{What}
use Rattle.napi_types.specs.declared.entry.What.TheVariants as what
use Rattle.napi_types.specs.declared.status.Status.{Status}
use Rattle.napi_types.specs.declared.status.Status.TheVariants as status
use Rattle.napi_types.specs.plain.Lists.{has, has_number}
use Rattle.napi_types.specs.runs.Setting.{Setting, RunsBy}
use Rattle.napi_types.specs.all_runs.Order.{tickets_begun}

-- WHAT AN ENTRY TELLS
-- an asynchronous hook as it is added: its number and its ticket
pub record AddedHook : Type 0 where
  pub number : ℕ
  pub ticket : ℕ

-- the one that an accepted `add_async_cleanup_hook` adds
abbrev pub hook_told : Out → Option Duty → List AddedHook
hook_told (out.AsyncHook h) (Some (duty.Ticket t)) = record { number = h.0; ticket = t.0 } ∷ []
hook_told _ _ = []

abbrev pub hook_added : What → Out → Option Duty → List AddedHook
hook_added (what.Call (call.AddAsyncCleanupHook entry argument)) o made = hook_told o made
hook_added _ o made = []

-- the number of the one that an accepted `remove_async_cleanup_hook` removes
abbrev pub number_removed : What → Status → List ℕ
number_removed (what.Call (call.RemoveAsyncCleanupHook hook)) status.Ok = hook.0 ∷ []
number_removed _ s = []

-- whether the entry is `abandon`
abbrev pub is_abandon : What → Bool
is_abandon (what.Host host.Abandon) = true
is_abandon _ = false

-- ALONG THE ENTRIES
-- the asynchronous hooks that were added, in their order; the numbers of those that were removed, likewise; and how often hooks were abandoned
abbrev pub hooks_added : List Entry → List AddedHook
hooks_added xs = flat_map (λ x. hook_added x.what x.reply.out x.reply.made) xs

abbrev pub numbers_removed : List Entry → List ℕ
numbers_removed xs = flat_map (λ x. number_removed x.what x.reply.status) xs

abbrev pub times_abandoned : List Entry → ℕ
times_abandoned xs = count_by (λ x. is_abandon x.what) xs

-- the frame of this hook began, and no accepted call removed it
abbrev pub is_unfinished : List Entry → AddedHook → Bool
is_unfinished xs h = has_number h.ticket (tickets_begun xs) && not (has_number h.number (numbers_removed xs))

-- all of them
abbrev pub unfinished_hooks : List Entry → List AddedHook
unfinished_hooks xs = filter (is_unfinished xs) (hooks_added xs)

-- SETTLED
-- an `abandon` among the entries came where this hook was unfinished, and so counted it
pub record IsAbandoned (h : AddedHook) (xs : List Entry) : Type 0 where
  pub before : List Entry
  pub event : Entry
  pub later : List Entry
  pub parts : xs ≡ before ++ event ∷ later
  pub abandons : is_abandon event.what ≡ true
  pub unfinished : has (λ k. k.number) h.number (unfinished_hooks before) ≡ true

-- where this hook began among the entries, an accepted call removed it, or `abandon` counted it
abbrev pub IsSettled : List Entry → AddedHook → Type 0
IsSettled xs h = has_number h.ticket (tickets_begun xs) ≡ true → (has_number h.number (numbers_removed xs) ≡ true) ⊎ IsAbandoned h xs

-- the result of `abandon` is how many hooks are unfinished where it comes, and that is above 0
pub record TellsUnfinished (before : List Entry) (x : Entry) : Type 0 where
  pub result : x.reply.out ≡ out.Unsigned (length (unfinished_hooks before))
  pub some : 0 < length (unfinished_hooks before)

-- THE LAW
-- what the entries of a run tell of its asynchronous hooks
pub record SettlesHooks (xs : List Entry) : Type 0 where
  -- each has a number of its own
  pub apart : IsDistinct nat_eq (map (λ h. h.number) (hooks_added xs))
  -- hooks are abandoned once at most, and those are counted that are unfinished then
  pub once : times_abandoned xs ≤ 1
  pub counted : (before later : List Entry) (x : Entry) → xs ≡ before ++ x ∷ later → x.what ≡ what.Host host.Abandon → TellsUnfinished before x
  -- where the drain comes each that began is settled
  pub settled : (before later : List Entry) (x : Entry) → xs ≡ before ++ x ∷ later → x.what ≡ what.Host host.Drain → All (IsSettled before) (hooks_added before)

-- in every run of a script, as far as it has come
abbrev pub HooksAreSettled : Type 0
HooksAreSettled = (s : Setting) (bs : List Ask) (xs : List Entry) → RunsBy s bs xs → SettlesHooks xs
