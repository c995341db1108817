-- What is registered with an environment, and what is attached to its values.
use Rattle.std.specs.Prelude.{List}
use Rattle.napi_types.specs.parts.AsyncHooks.{AsyncHook}
use Rattle.napi_types.specs.parts.Attachments.{Attachments}
use Rattle.napi_types.specs.parts.Book.{Book}
use Rattle.napi_types.specs.parts.Buffers.{Buffers}
use Rattle.napi_types.specs.parts.Hooks.{Hook}
use Rattle.napi_types.specs.parts.InstanceData.{Instances}
use Rattle.napi_types.specs.parts.Promises.{Promises}
use Rattle.napi_types.specs.environment.Environment.{Environment}

-- the parts that have tickets or may come to have some, and the book of these
pub record Registry : Type 0 where
  -- all that is attached to values, and every finalizer and hook that was registered
  pub attachments : Attachments
  pub book : Book
  -- the cleanup hooks that have not begun, how far each asynchronous one has come, and the instance data of each addon
  pub hooks : List Hook
  pub async_hooks : List AsyncHook
  pub instances : Instances
  -- the promises, their deferreds and their reactions
  pub promises : Promises
  -- the array buffers, and the views of them
  pub buffers : Buffers

-- those of an environment
abbrev pub registry_of : Environment → Registry
registry_of e = record {
  attachments = e.attachments;
  book = e.book;
  hooks = e.hooks;
  async_hooks = e.async_hooks;
  instances = e.instances;
  promises = e.promises;
  buffers = e.buffers;
}

-- an environment with others
abbrev pub with_registry : Environment → Registry → Environment
with_registry e r = record e {
  attachments = r.attachments;
  book = r.book;
  hooks = r.hooks;
  async_hooks = r.async_hooks;
  instances = r.instances;
  promises = r.promises;
  buffers = r.buffers;
}
