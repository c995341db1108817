-- What each collection of a run keeps.
use Rattle.std.specs.Prelude.{◌≡◌, List, ◌∷◌, length}
use Rattle.napi_types.specs.declared.call.Ask.{Ask}
use Rattle.napi_types.specs.declared.call.Call.TheVariants as call
use Rattle.napi_types.specs.declared.entry.Entry.{Entry}
use Rattle.napi_types.specs.declared.entry.Out.TheVariants as out
use Rattle.napi_types.specs.declared.entry.What.TheVariants as what
use Rattle.napi_types.specs.declared.status.Status.TheVariants as status
use Rattle.napi_types.specs.plain.Replies.{plain}
use Rattle.napi_types.specs.parts.Attachments.{left_on, is_attached_to}
use Rattle.napi_types.specs.parts.Book.{due_where}
use Rattle.napi_types.specs.parts.Reach.{numbers}
use Rattle.napi_types.specs.parts.References.{emptied}
use Rattle.napi_types.specs.parts.Values.{those_of, all_but}
use Rattle.napi_types.specs.environment.Collection.{is_freed}
use Rattle.napi_types.specs.environment.Environment.{Environment}
use Rattle.napi_types.specs.environment.Roots.{reach}
use Rattle.napi_types.specs.runs.Machine.{Machine}
use Rattle.napi_types.specs.runs.Run.{after}

-- a collection, of this entry, leads from one environment to the other
pub record Collects (old new : Environment) (x : Entry) : Type 0 where
  -- the values that live after it are exactly those that the roots reach
  pub values : numbers new.heap.values ≡ reach old
  -- each of them as it was
  pub unchanged : new.heap.values ≡ those_of (reach old) old.heap.values
  -- the references to the others name none, and all others stay as they were
  pub references : new.references ≡ emptied (is_freed (reach old)) old.references
  -- wraps, type tags and attached finalizers of the others are gone, and all others stay as they were
  pub attachments : new.attachments ≡ left_on (is_freed (reach old)) old.attachments
  -- the registered tickets that hung on a freed value are due, and every other ticket stays as it was
  pub book : new.book ≡ due_where (is_attached_to (is_freed (reach old)) old.attachments) old.book
  -- it is accepted, and tells how many values it freed
  pub told : x.reply ≡ plain status.Ok (out.Unsigned (length (all_but (reach old) old.heap.values)))

-- at these entries, by these asks, each `collect` of the environment is such a collection
abbrev pub KeepsReached : Machine → List Ask → List Entry → Type 0
KeepsReached m (a ∷ bs) (x ∷ xs) = (x.what ≡ what.Call call.Collect → Collects m.env (after m a x).env x) × KeepsReached (after m a x) bs xs
KeepsReached m _ _ = Unit {0}
