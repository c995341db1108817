-- What the entry of a frame's end tells.
use Rattle.std.proofs.Common.{◌≡◌, ℕ, refl, Option, Some, None}
use Rattle.napi_types.specs.declared.entry.Actor.TheVariants as actor
use Rattle.napi_types.specs.declared.entry.Entry.{Entry}
use Rattle.napi_types.specs.declared.entry.HostStep.TheVariants as host
use Rattle.napi_types.specs.declared.entry.What.TheVariants as what
use Rattle.napi_types.specs.declared.entry.Why.{Why}
use Rattle.napi_types.specs.declared.ids.HandleId.{HandleId}
use Rattle.napi_types.specs.plain.Entries.{cut_of}
use Rattle.napi_types.specs.environment.Ends.{end_out, end_change}
use Rattle.napi_types.specs.environment.Environment.{Environment}
use Rattle.napi_types.proofs.environment.Cases.{ended-by}

-- who made it, that it is an end, and the cut
pub record Ends (cut : Option Why) (x : Entry) : Type 0 where
  pub who : x.actor ≡ actor.Env
  pub is : x.what ≡ what.Host host.End
  pub told : cut_of x.reply.out ≡ cut

end-told : (cut : Option Why) (p : Option ℕ) → cut_of (end_out cut p) ≡ cut
end-told (Some w) p = refl
end-told None None = refl
end-told None (Some v) = refl

pub ended-ends : (v : Option HandleId) (cut : Option Why) (e : Environment) → Ends cut (end_change v cut e).entry
ended-ends v cut e =
    ended-by v cut e (λ why d. Ends why d.entry) (λ w. record { who = refl; is = refl; told = refl }) (λ p. record { who = refl; is = refl; told = refl })
    (record { who = refl; is = refl; told = refl }) (record { who = refl; is = refl; told = end-told cut e.pending })
