use Rattle.std.proofs.Common.{◌∙◌, ◌+◌, ◌-◌, ℕ, ap, arith, sym}
use Rattle.napi_types.specs.declared.entry.Entry.{Entry}
use Rattle.napi_types.specs.environment.Changes.{call_entry}
use Rattle.env_core.specs.Journal.{JournalSeen}
use Rattle.env_core.specs.State.{Calls}
use Rattle.env_core.proofs.Cores.{KeepsPlaces, written, written-call, calls-keep, calls-hooked, calls-promised, places-kept, core-call_change, replied-last, other-at-once, fits-in}
use Rattle.env_core.proofs.Sharing.{idle-may}
use Rattle.env_core.proofs.env.EnvCore.answer_other.Goals as goal
use Rattle.env_core.proofs.env.EnvCore.answer_other.Goals.{After-give_back-arg-1}

-- what the reply keeps of the places
kept : (c : After-give_back-arg-1) → KeepsPlaces c.self.inside.journal.promised c.args.call.now c.in-Ok.reply
kept c =
    let s = c.self.inside in
    let calls : Calls s.state c.args.call.now (call_entry s.state c.args.call.now c.in-Ok.reply) c.call.new.self = rw c.in-Ok.is at c.call.ensures.ok in
    places-kept s.state c.call.new.self s.journal c.args.call.now c.in-Ok.reply c.self.invariant.0 (calls-keep s.state c.call.new.self c.args.call.now (call_entry s.state c.args.call.now c.in-Ok.reply) calls)

-- a call has a place for its entry
pub push_call-requires : goal.push_call-requires
push_call-requires c =
    let s = c.self.inside in
    let x : Entry = call_entry s.state c.args.call.now c.in-Ok.reply in
    let calls : Calls s.state c.args.call.now x c.call.new.self = rw c.in-Ok.is at c.call.ensures.ok in
    let k : KeepsPlaces s.journal.promised c.args.call.now x.reply = places-kept s.state c.call.new.self s.journal c.args.call.now x.reply c.self.invariant.0 (calls-keep s.state c.call.new.self c.args.call.now x calls) in
    omega (arith, k.made, c.requires.facts.places, ap (λ (p : JournalSeen). p.promised) c.in_default.ensures.ok)

pub overflow_sub-places : goal.overflow_sub-places
overflow_sub-places c = let k = kept c in omega (arith, c.requires.facts.places, k.made)

pub overflow_sub-places-in-Ok : goal.overflow_sub-places-in-Ok
overflow_sub-places-in-Ok c = let k = kept c in omega (arith, c.requires.facts.places, c.frame_places-kept.ensures, k.made)

pub give_back-requires : goal.give_back-requires
give_back-requires c =
    let k = kept c in
    omega (
      arith,
      c.requires.facts.places,
      c.frame_places-kept.ensures,
      c.frame_places-freed.ensures,
      k.made,
      k.dropped,
      ap (λ (p : JournalSeen). p.promised) c.push_call.ensures,
      ap (λ (p : JournalSeen). p.promised) c.in_default.ensures.ok,
    )

pub invariant_of-self-in-Ok : goal.invariant_of-self-in-Ok
invariant_of-self-in-Ok c =
    let s = c.self.inside in
    let x : Entry = call_entry s.state c.args.call.now c.in-Ok.reply in
    let calls : Calls s.state c.args.call.now x c.call.new.self = rw c.in-Ok.is at c.call.ensures.ok in
    let left : ℕ = c.args.facts.places - 1 - c.frame_places-kept.result + c.frame_places-freed.result in
    let k : KeepsPlaces s.journal.promised c.args.call.now x.reply = places-kept s.state c.call.new.self s.journal c.args.call.now x.reply c.self.invariant.0 (calls-keep s.state c.call.new.self c.args.call.now x calls) in (
      core-call_change s.state c.call.new.self s.journal c.give_back.new.self c.args.call.now x (s.journal.promised + c.args.facts.places - 1 - left) c.self.invariant.0
          (calls-keep s.state c.call.new.self c.args.call.now x calls) (calls-hooked s.state c.call.new.self c.args.call.now x calls c.self.invariant.0.hooked)
          (calls-promised s.state c.call.new.self c.args.call.now x calls c.self.invariant.0.promised)
          (omega (arith, c.requires.facts.places, c.in_default.ensures.room))
          (omega (arith, c.requires.facts.places, c.frame_places-kept.ensures, c.frame_places-freed.ensures, k.made, k.dropped))
          (c.give_back.ensures ∙ ap (λ (p : JournalSeen). record p { promised = p.promised - left }) c.push_call.ensures
          ∙ written-call s.state c.depth-depth.result c.args.step c.args.call.now c.in-Ok.reply (c.promise.new.self.promised - 1 - left) c.promise.new.self c.depth-depth.ensures (rw (← c.self.view_is) at c.requires.ask)
          ∙ ap (λ (p : JournalSeen). written x (p.promised - 1 - left) p) c.in_default.ensures.ok),
      idle-may c.call.new.self s.root_room s.awaited (rw (← c.self.view_is) at c.requires.idle),
    )

pub returns-in-Ok-clause-reply : goal.returns-in-Ok-clause-reply
returns-in-Ok-clause-reply c =
    let s = c.self.inside in
    let x : Entry = call_entry s.state c.args.call.now c.in-Ok.reply in
    let calls : Calls s.state c.args.call.now x c.call.new.self = rw c.in-Ok.is at c.call.ensures.ok in
    let left : ℕ = c.args.facts.places - 1 - c.frame_places-kept.result + c.frame_places-freed.result in
    rw (← c.self.view_is)
    (replied-last s.state c.call.new.self s.journal c.give_back.new.self s.awaited c.args.call.now x (s.journal.promised + c.args.facts.places - 1 - left)
    (c.give_back.ensures ∙ ap (λ (p : JournalSeen). record p { promised = p.promised - left }) c.push_call.ensures
    ∙ written-call s.state c.depth-depth.result c.args.step c.args.call.now c.in-Ok.reply (c.promise.new.self.promised - 1 - left) c.promise.new.self c.depth-depth.ensures (rw (← c.self.view_is) at c.requires.ask)
    ∙ ap (λ (p : JournalSeen). written x (p.promised - 1 - left) p) c.in_default.ensures.ok)
    (other-at-once s.state c.args.call.now c.requires.at_once)
    (fits-in s.state s.journal s.awaited c.args.call.now c.args.facts.places c.self.invariant.0 (sym c.requires.facts.places) c.in_default.ensures.room)
    calls)
