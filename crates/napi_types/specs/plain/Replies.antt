-- Replies, and what a call answers and leaves.
use Rattle.std.specs.Prelude.{List, [], None}
use Rattle.napi_types.specs.declared.status.Status.{Status}
use Rattle.napi_types.specs.declared.status.Status.TheVariants as status
use Rattle.napi_types.specs.declared.entry.Out.{Out}
use Rattle.napi_types.specs.declared.entry.Out.TheVariants as out
use Rattle.napi_types.specs.declared.entry.Reply.{Reply}

-- a reply that neither withdraws nor makes a duty
abbrev pub plain : Status → Out → Reply
plain s o = record { status = s; out = o; dropped = None; made = None }

-- what a call answers, and what it leaves of a state
pub record Answer (S : Type 0) : Type 0 where
  pub reply : Reply
  pub after : S

-- a call that is accepted
abbrev pub accepts : {S : Type 0} → Out → S → Answer S
accepts o after = record { reply = plain status.Ok o; after = after }

-- a call that is refused leaves everything as it was
abbrev pub refuses : {S : Type 0} → Status → S → Answer S
refuses s before = record { reply = plain s out.Nothing; after = before }

-- what is told of a call that was accepted; one that was refused tells nothing
abbrev pub if_accepted : {A : Type 0} → Status → List A → List A
if_accepted status.Ok told = told
if_accepted s told = []
