-- The environment's state.
use Rattle.std.specs.Prelude.{ℕ, Bool, false, List, [], replicate, Option, None}
use Rattle.napi_types.specs.declared.status.Status.{Status}
use Rattle.napi_types.specs.declared.status.Status.TheVariants as status
use Rattle.napi_types.specs.declared.entry.Phase.{Phase}
use Rattle.napi_types.specs.declared.entry.Phase.TheVariants as phase
use Rattle.napi_types.specs.plain.Replies.{Answer}
use Rattle.napi_types.specs.parts.AsyncHooks.{AsyncHook}
use Rattle.napi_types.specs.parts.Attachments.{Attachments, no_attachments}
use Rattle.napi_types.specs.parts.Book.{Book}
use Rattle.napi_types.specs.parts.Buffers.{Buffers, no_buffers}
use Rattle.napi_types.specs.parts.Frames.{Frame}
use Rattle.napi_types.specs.parts.Heap.{Heap, new_heap}
use Rattle.napi_types.specs.parts.Hooks.{Hook}
use Rattle.napi_types.specs.parts.InstanceData.{Instances}
use Rattle.napi_types.specs.parts.Promises.{Promises, no_promises}
use Rattle.napi_types.specs.parts.References.{ReferenceMap, no_references}

-- the value that a thread-safe function keeps alive
pub record TsfnRoot : Type 0 where
  pub function : ℕ
  pub value : ℕ

-- the state of the environment (`napi_env`)
pub record Environment : Type 0 where
  -- the version that the script asks for
  pub version : ℕ
  -- how many addons and how many texts the script has
  pub addons : ℕ
  pub texts : ℕ
  -- whether the opening stands in the journal, and how many init frames began
  pub opened : Bool
  pub inits : ℕ
  pub phase : Phase
  -- whether a call asked that the loop ends
  pub exit_asked : Bool
  -- the values, and the handles to them
  pub heap : Heap
  -- the frames that stand, the innermost first
  pub frames : List Frame
  pub references : ReferenceMap
  -- what is attached to values, and every finalizer and hook that was registered
  pub attachments : Attachments
  pub book : Book
  -- the cleanup hooks that have not begun and were not removed, in the order of adding; the asynchronous ones, and how far each has come; and the instance data of
  -- each addon
  pub hooks : List Hook
  pub async_hooks : List AsyncHook
  pub instances : Instances
  -- the promises, their deferreds and their reactions
  pub promises : Promises
  -- the array buffers, and the views of them
  pub buffers : Buffers
  -- the values that thread-safe functions keep alive until they finish
  pub tsfn_roots : List TsfnRoot
  -- the creation number of the value that is the pending exception, where one is pending
  pub pending : Option ℕ
  -- the status of the last call
  pub last : Status

-- what an environment is opened with: the version that the script asks for, and how many addons and how many texts it has. A further thing that opens one is a
-- field here
pub record OpenedWith : Type 0 where
  pub version : ℕ
  pub addons : ℕ
  pub texts : ℕ

-- the environment that is opened with that, before its opening
abbrev pub new_environment : OpenedWith → Environment
new_environment given = record {
  version = given.version;
  addons = given.addons;
  texts = given.texts;
  opened = false;
  inits = 0;
  phase = phase.Init;
  exit_asked = false;
  heap = new_heap;
  frames = [];
  references = no_references;
  attachments = no_attachments;
  book = [];
  hooks = [];
  async_hooks = [];
  instances = replicate given.addons None;
  promises = no_promises;
  buffers = no_buffers;
  tsfn_roots = [];
  pending = None;
  last = status.Ok;
}

-- what an environment was opened with
abbrev pub opened_with : Environment → OpenedWith
opened_with e = record { version = e.version; addons = e.addons; texts = e.texts }

-- an environment with another heap
abbrev pub with_heap : Environment → Heap → Environment
with_heap e heap = record e { heap = heap }

-- an answer that is told of the heap, in the environment
abbrev pub in_heap : Environment → Answer Heap → Answer Environment
in_heap e a = record { reply = a.reply; after = with_heap e a.after }
