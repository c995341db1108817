use Rattle.std.proofs.Common.{◌∙◌, ◌+◌, ◌-◌, ap, arith}
use Rattle.napi_types.specs.declared.entry.Entry.{Entry}
use Rattle.napi_types.specs.declared.entry.Reply.{Reply}
use Rattle.napi_types.specs.plain.Replies.{plain}
use Rattle.napi_types.specs.environment.Changes.{call_entry}
use Rattle.env_core.specs.Journal.{JournalSeen}
use Rattle.env_core.specs.State.{Calls}
use Rattle.env_core.proofs.Cores.{written, written-call, calls-keep, calls-hooked, calls-promised, core-call_change, replied-last, other-at-once, fits-in, value-need}
use Rattle.env_core.proofs.Sharing.{idle-may}
use Rattle.env_core.proofs.env.EnvCore.answer_on_values.Goals as goal

pub invariant_of-self-in-Ok : goal.invariant_of-self-in-Ok
invariant_of-self-in-Ok c =
    let s = c.self.inside in
    let r : Reply = plain c.in-Ok.status c.in-Ok.out in
    let x : Entry = call_entry s.state c.args.call.now r in
    let calls : Calls s.state c.args.call.now x c.call_on_values.new.self = rw c.in-Ok.is at c.call_on_values.ensures.ok in
    let need = value-need c.args.call.now c.requires.value_call in (
      core-call_change s.state c.call_on_values.new.self s.journal c.push_plain_call.new.self c.args.call.now x (s.journal.promised + 1 - 1) c.self.invariant.0
          (calls-keep s.state c.call_on_values.new.self c.args.call.now x calls) (calls-hooked s.state c.call_on_values.new.self c.args.call.now x calls c.self.invariant.0.hooked)
          (calls-promised s.state c.call_on_values.new.self c.args.call.now x calls c.self.invariant.0.promised)
          (omega (arith, need, c.in_default.ensures.room))
          (omega (arith, need))
          (c.push_plain_call.ensures
          ∙ written-call s.state c.depth-depth.result c.args.step c.args.call.now r (c.promise.new.self.promised - 1) c.promise.new.self c.depth-depth.ensures (rw (← c.self.view_is) at c.requires.ask)
          ∙ ap (λ (p : JournalSeen). written x (p.promised - 1) p) c.in_default.ensures.ok),
      idle-may c.call_on_values.new.self s.root_room s.awaited (rw (← c.self.view_is) at c.requires.idle),
    )

pub returns-in-Ok-clause-reply : goal.returns-in-Ok-clause-reply
returns-in-Ok-clause-reply c =
    let s = c.self.inside in
    let r : Reply = plain c.in-Ok.status c.in-Ok.out in
    let x : Entry = call_entry s.state c.args.call.now r in
    let calls : Calls s.state c.args.call.now x c.call_on_values.new.self = rw c.in-Ok.is at c.call_on_values.ensures.ok in
    rw (← c.self.view_is)
    (replied-last s.state c.call_on_values.new.self s.journal c.push_plain_call.new.self s.awaited c.args.call.now x (s.journal.promised + 1 - 1)
    (c.push_plain_call.ensures
    ∙ written-call s.state c.depth-depth.result c.args.step c.args.call.now r (c.promise.new.self.promised - 1) c.promise.new.self c.depth-depth.ensures (rw (← c.self.view_is) at c.requires.ask)
    ∙ ap (λ (p : JournalSeen). written x (p.promised - 1) p) c.in_default.ensures.ok)
    (other-at-once s.state c.args.call.now c.requires.at_once)
    (fits-in s.state s.journal s.awaited c.args.call.now 1 c.self.invariant.0 (value-need c.args.call.now c.requires.value_call) c.in_default.ensures.room)
    calls)
