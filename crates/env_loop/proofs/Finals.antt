-- That `finals` comes only where the hub is spent.
use Rattle.std.proofs.Common.{◌≡◌, ◌∙◌, ◌⊎◌, inl, inr, true, refl, sym, is_some, is_none, unwrap_or}
use Rattle.napi_types.specs.declared.entry.Entry.{Entry}
use Rattle.napi_types.specs.declared.entry.HostStep.{HostStep}
use Rattle.napi_types.specs.declared.entry.HostStep.TheVariants as host
use Rattle.napi_types.specs.declared.entry.Out.{Out}
use Rattle.napi_types.specs.declared.entry.What.TheVariants as what
use Rattle.napi_types.specs.hub.Hub.{Hub, Stage, Before, Live, LoopEnded, HooksAbandoned, Drained, Final, stage_after}
use Rattle.napi_types.specs.hub.HubMoves.{is_spent}
use Rattle.napi_types.specs.hub.HubSteps.{IsHubNext, hub_step}
use Rattle.napi_types.proofs.plain.Conditions.{and-left}
use Rattle.napi_types.proofs.hub.HubCases.{HubCase, hub-case, comes_to_finals, goes, ends_loop, abandons, drains, delivers}
use Rattle.napi_types.proofs.hub.HubHolds.{duty-stage}
use Rattle.env_loop.specs.HubTurns.{SpentAtFinals}

-- the great event that comes to the last stage
only-finals : (s : Stage) (event : HostStep) → is_some (stage_after s event) ≡ true → unwrap_or (stage_after s event) s ≡ Final → event ≡ host.Finals
only-finals Drained host.Finals comes final = refl
only-finals Before host.Go comes final = cc
only-finals Live host.LoopEnd comes final = cc
only-finals LoopEnded host.Abandon comes final = cc
only-finals LoopEnded host.Drain comes final = cc
only-finals HooksAbandoned host.Drain comes final = cc
only-finals _ _ comes final = cc

final-before : (h : Hub) (x : Entry) (told : Out) (n : Hub) → HubCase h x told n → n.stage ≡ Final → (h.stage ≡ Final) ⊎ (x.what ≡ what.Host host.Finals)
final-before h x told _ (comes_to_finals is may) final = inr is
final-before h x told _ (goes is may) final = let no : host.Go ≡ host.Finals = only-finals h.stage host.Go (and-left _ (is_none h.standing) may) final in cc
final-before h x told _ (ends_loop is may) final = let no : host.LoopEnd ≡ host.Finals = only-finals h.stage host.LoopEnd (and-left _ (is_none h.standing) may) final in cc
final-before h x told _ (abandons is may still) final =
    let no : host.Abandon ≡ host.Finals = only-finals h.stage host.Abandon (and-left _ (is_none h.standing) may) final in cc
final-before h x told _ (drains is may) final = let no : host.Drain ≡ host.Finals = only-finals h.stage host.Drain (and-left _ (is_none h.standing) may) final in cc
final-before h x told _ (delivers d is next alone) final = inl (sym (duty-stage d.duty h) ∙ final)
final-before h x told _ _ final = inl final

-- an entry that is the hub's next leaves it at its last stage only where it stood there, or where it was spent and `finals` came
pub spent-unless : (h : Hub) (x : Entry) → IsHubNext h x → (x.what ≡ what.Host host.Finals → is_spent h ≡ true) → SpentAtFinals h (hub_step h x).after
spent-unless h x next finals final = by (final-before h x (hub_step h x).entry.reply.out (hub_step h x).after (hub-case h x next.may) final)
  where
    by : (h.stage ≡ Final) ⊎ (x.what ≡ what.Host host.Finals) → (h.stage ≡ Final) ⊎ (is_spent h ≡ true)
    by (inl here) = inl here
    by (inr came) = inr (finals came)
