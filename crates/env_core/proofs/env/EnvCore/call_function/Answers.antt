use Rattle.std.proofs.Common.{◌∙◌, ◌+◌, ◌-◌, ap}
use Rattle.napi_types.specs.declared.call.Call.{Call}
use Rattle.napi_types.specs.declared.call.Call.TheVariants as call_of
use Rattle.napi_types.specs.declared.entry.Entry.{Entry}
use Rattle.napi_types.specs.environment.Changes.{call_entry}
use Rattle.env_core.specs.Journal.{JournalSeen}
use Rattle.env_core.specs.State.{EntersCall, RefusesCall}
use Rattle.env_core.proofs.Cores.{written, written-call, calls-keep, calls-hooked, calls-promised, called-places, core-call_change, core-entered}
use Rattle.env_core.proofs.Sharing.{idle-may}
use Rattle.env_core.proofs.env.EnvCore.call_function.Goals as goal

pub invariant_of-self-in-Ok-Refused : goal.invariant_of-self-in-Ok-Refused
invariant_of-self-in-Ok-Refused c =
    let s = c.self.inside in
    let r = c.in-Ok-Refused.reply in
    let made : Call = call_of.CallFunction c.args.receiver c.args.function c.args.args.now in
    let x : Entry = call_entry s.state made r in
    let ok : RefusesCall s.state made x c.call_function.new.self = rw c.in-Ok-Refused.field-0-is at c.in-Ok-Refused.ensures.ok in (
      core-call_change s.state c.call_function.new.self s.journal c.give_back.new.self made x (s.journal.promised + 2 - 1 - 1) c.self.invariant.0
          (calls-keep s.state c.call_function.new.self made x ok.calls) (calls-hooked s.state c.call_function.new.self made x ok.calls c.self.invariant.0.hooked)
          (calls-promised s.state c.call_function.new.self made x ok.calls c.self.invariant.0.promised)
          c.in_default.ensures.room (called-places s.state c.args.receiver c.args.function c.args.args.now x c.call_function.new.self s.journal.promised ok.calls)
          (c.give_back.ensures ∙ ap (λ (p : JournalSeen). record p { promised = p.promised - 1 }) c.push_call.ensures
          ∙ written-call s.state c.depth-depth.result c.args.step made r (c.promise.new.self.promised - 1 - 1) c.promise.new.self c.depth-depth.ensures (rw (← c.self.view_is) at c.requires.ask)
          ∙ ap (λ (p : JournalSeen). written x (p.promised - 1 - 1) p) c.in_default.ensures.ok),
      idle-may c.call_function.new.self s.root_room s.awaited (rw (← c.self.view_is) at c.requires.idle),
    )

pub invariant_of-self-in-Ok-Entered : goal.invariant_of-self-in-Ok-Entered
invariant_of-self-in-Ok-Entered c =
    let s = c.self.inside in
    let ok : EntersCall s.state c.args.receiver c.args.function c.args.args.now c.in-Ok-Entered.target c.in-Ok-Entered.gifts c.call_function.new.self =
    rw c.in-Ok-Entered.field-0-is at c.in-Ok-Entered.ensures.ok in (
      core-entered s.state c.call_function.new.self s.journal c.push.new.self c.host_entry.result c.args.receiver c.args.function c.args.args.now c.self.invariant.0
          ok.after c.in_default.ensures.room
          (c.push.ensures ∙ ap (λ (p : JournalSeen). written c.host_entry.result (p.promised - 1) p) c.in_default.ensures.ok),
      idle-may c.call_function.new.self s.root_room s.awaited (rw (← c.self.view_is) at c.requires.idle),
    )
