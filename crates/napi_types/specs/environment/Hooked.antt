-- What the list of hooks, the book and what else has tickets say of each other.
use Rattle.std.specs.Prelude.{◌≡◌, ℕ, nat_eq, List, Bool, true, false, map, Option, Some, IfSome}
use Rattle.std.specs.List.{All, IsDistinct}
use Rattle.std.specs.Option.{option_and_then}
use Rattle.napi_types.specs.declared.entry.Cause.TheVariants as cause
use Rattle.napi_types.specs.declared.entry.Phase.{Phase}
use Rattle.napi_types.specs.declared.entry.Phase.TheVariants as phase
use Rattle.napi_types.specs.plain.Lists.{has, has_number}
use Rattle.napi_types.specs.parts.AsyncHooks.{AsyncHook, is_set, number_under}
use Rattle.napi_types.specs.parts.Attachments.{tickets_in}
use Rattle.napi_types.specs.parts.Book.{Book, is_at, is_registered, is_owed, TicketsRise, cause_at}
use Rattle.napi_types.specs.parts.Hooks.{Hook}
use Rattle.napi_types.specs.parts.InstanceData.{InstanceData}
use Rattle.napi_types.specs.parts.Promises.{Promise}
use Rattle.napi_types.specs.environment.Environment.{Environment}

-- from `finals` on
abbrev pub is_from_finals_on : Phase → Bool
is_from_finals_on phase.Finals = true
is_from_finals_on phase.Gone = true
is_from_finals_on _ = false

-- the ticket of a hook of the list has the cause of hooks, and is registered up to `finals`
pub record StandsIn (p : Phase) (book : Book) (h : Hook) : Type 0 where
  pub cause : cause_at book h.ticket ≡ Some cause.Hook
  pub registered : is_from_finals_on p ≡ false → is_at is_registered book h.ticket ≡ true

-- instance data that has a ticket has that of a finalizer
abbrev pub HasFinalizer : Book → Option InstanceData → Type 0
HasFinalizer book i = IfSome (option_and_then (λ d. d.ticket) i) (λ n. cause_at book n ≡ Some cause.Finalize)

-- the reactions of a promise have tickets of reactions
abbrev pub HasReactions : Book → Promise → Type 0
HasReactions book p = All (λ n. cause_at book n ≡ Some cause.Reaction) p.reactions

-- the ticket of an asynchronous hook was given for a hook
abbrev pub IsForHook : Book → AsyncHook → Type 0
IsForHook book h = cause_at book h.ticket ≡ Some cause.Hook

-- one is set exactly while a hook of its ticket stands in the list
abbrev pub StandsWhileSet : List Hook → AsyncHook → Type 0
StandsWhileSet hooks h = is_set h.state ≡ has (λ x. x.ticket) h.ticket hooks

-- a hook of the list has the number of the asynchronous hook with its ticket: a plain one has none, since none has its ticket
abbrev pub HasItsNumber : List AsyncHook → Hook → Type 0
HasItsNumber others h = number_under h.ticket others ≡ h.number

-- what the asynchronous hooks, the list of hooks and the book say of each other
pub record AsyncHooksAgree (book : Book) (hooks : List Hook) (others : List AsyncHook) : Type 0 where
  -- each asynchronous hook has a ticket of its own, above those of the earlier ones, which was given for a hook
  pub rise : TicketsRise (map (λ h. h.ticket) others)
  pub given : All (IsForHook book) others
  -- and a number of its own
  pub apart : IsDistinct nat_eq (map (λ h. h.number) others)
  -- those that are set are those that stand in the list, and each stands there with its number
  pub set : All (StandsWhileSet hooks) others
  pub numbered : All (HasItsNumber others) hooks

pub record IsHooked (e : Environment) : Type 0 where
  -- the hooks have rising tickets, and each is registered
  pub rise : TicketsRise (map (λ h. h.ticket) e.hooks)
  pub hooks : All (StandsIn e.phase e.book) e.hooks
  -- up to `finals` no other hook is registered or due
  pub others : is_from_finals_on e.phase ≡ false → (n : ℕ) → cause_at e.book n ≡ Some cause.Hook → is_at is_owed e.book n ≡ true → has
      (λ h. h.ticket) n e.hooks ≡ true
  -- what is attached to values has tickets of finalizers, and so has instance data
  pub attached : (n : ℕ) → has_number n (tickets_in e.attachments) ≡ true → cause_at e.book n ≡ Some cause.Finalize
  pub instances : All (HasFinalizer e.book) e.instances
  -- the reactions of promises have tickets of reactions
  pub reactions : All (HasReactions e.book) e.promises.promises
  -- the asynchronous hooks fit the list and the book
  pub async : AsyncHooksAgree e.book e.hooks e.async_hooks
