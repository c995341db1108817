-- Which ticket is next, and how its frame begins.
use Rattle.std.specs.Prelude.{ℕ, List, ◌∷◌, Option, None, option_map}
use Rattle.napi_types.specs.declared.entry.HostStep.TheVariants as host
use Rattle.napi_types.specs.declared.entry.Phase.{Phase}
use Rattle.napi_types.specs.declared.entry.Phase.TheVariants as phase
use Rattle.napi_types.specs.plain.Entries.{host_entry}
use Rattle.napi_types.specs.parts.AsyncHooks.{AsyncHook, with_begun}
use Rattle.napi_types.specs.parts.Book.{Registration, due_info, moved_at, begun_in, lowest_due}
use Rattle.napi_types.specs.parts.Frames.{frame_of_duty, begin_told}
use Rattle.napi_types.specs.parts.HeapChanges.{with_frame}
use Rattle.napi_types.specs.parts.Hooks.{Hook, without_hook, last_hook}
use Rattle.napi_types.specs.environment.Changes.{Change}
use Rattle.napi_types.specs.environment.Environment.{Environment}

-- the ticket that is next by the phase: in the loop and after `finals` the lowest that is due. In Hooks it is that of the hook that was added last, and in every
-- other phase none: there what is due waits
abbrev pub ticket_in : Environment → Phase → Option ℕ
ticket_in e phase.Live = lowest_due e.book
ticket_in e phase.Hooks = option_map (λ h. h.ticket) (last_hook e.hooks)
ticket_in e phase.Finals = lowest_due e.book
ticket_in e _ = None

-- that of its phase, whether or not exit was asked
abbrev pub next_ticket : Environment → Option ℕ
next_ticket e = ticket_in e e.phase

-- a hook that begins is no longer in the list
abbrev pub hooks_left : Phase → ℕ → List Hook → List Hook
hooks_left phase.Hooks ticket hooks = without_hook ticket hooks
hooks_left _ ticket hooks = hooks

-- an asynchronous one waits from then on
abbrev pub hooks_waiting : Phase → ℕ → List AsyncHook → List AsyncHook
hooks_waiting phase.Hooks ticket hooks = with_begun ticket hooks
hooks_waiting _ ticket hooks = hooks

-- the ticket, of this registration, begins: its frame has a scope of its own; the last status stays
abbrev pub ticket_change : ℕ → Registration → Environment → Change
ticket_change n r e = record {
  entry = host_entry host.Begin (begin_told (frame_of_duty (due_info n r)));
  after = record e {
    book = moved_at (begun_in e.phase) n e.book;
    hooks = hooks_left e.phase n e.hooks;
    async_hooks = hooks_waiting e.phase n e.async_hooks;
    heap = with_frame e.heap;
    frames = frame_of_duty (due_info n r) ∷ e.frames;
  };
}
