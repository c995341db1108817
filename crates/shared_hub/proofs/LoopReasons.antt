-- Why the loop ends, and when `abandon` and `finals` come.
use Rattle.std.proofs.Common.{◌≡◌, ◌∙◌, Bool, true, false, cond, ◌&&◌, refl, ap, sym, Option, Some, None, is_some, is_none}
use Rattle.std.specs.Bool.{then_some}
use Rattle.napi_types.specs.declared.entry.LoopEnd.TheVariants as loop_end
use Rattle.napi_types.specs.hub.Hub.{Hub}
use Rattle.napi_types.specs.hub.HubMoves.{hub_move, is_idle, is_quiet, idle_reason, loop_end_of}

-- THE LOOP, WHERE EXIT WAS NOT ASKED
pub due-goes-on : (h : Hub) (due : Bool) → due ≡ true → None ≡ loop_end_of false due h
due-goes-on h true is = refl
due-goes-on h false is = cc

pub move-goes-on : (h : Hub) (due : Bool) → due ≡ false → is_some (hub_move h) ≡ true → None ≡ loop_end_of false due h
move-goes-on h true is moves = cc
move-goes-on h false is moves = sym (ap (λ b. cond b None (idle_reason h)) moves)

pub idle-ends : (h : Hub) (due : Bool) → due ≡ false → is_some (hub_move h) ≡ false → is_idle h ≡ true → Some loop_end.Idle ≡ loop_end_of false due h
idle-ends h true is still idle = cc
idle-ends h false is still idle =
    sym (ap (λ b. cond b None (idle_reason h)) still ∙ ap (λ b. cond b (Some loop_end.Idle) (cond (is_quiet h) (Some loop_end.Quiet) None)) idle)

pub quiet-ends : (h : Hub) (due : Bool) → due ≡ false → is_some (hub_move h) ≡ false → is_idle h ≡ false → then_some (is_quiet h) loop_end.Quiet ≡ loop_end_of false due h
quiet-ends h true is still busy = cc
quiet-ends h false is still busy =
    by (is_quiet h) ∙ sym (ap (λ b. cond b None (idle_reason h)) still ∙ ap (λ b. cond b (Some loop_end.Idle) (cond (is_quiet h) (Some loop_end.Quiet) None)) busy)
  where
    by : (b : Bool) → then_some b loop_end.Quiet ≡ cond b (Some loop_end.Quiet) None
    by true = refl
    by false = refl

-- ABANDON AND FINALS
pub move-comes-first : {A : Type 0} (o : Option A) (spent : Bool) → is_some o ≡ true → false ≡ (is_none o && spent)
move-comes-first None spent moves = cc
move-comes-first (Some m) spent moves = refl

pub unspent-waits : {A : Type 0} (o : Option A) (spent : Bool) → spent ≡ false → false ≡ (is_none o && spent)
unspent-waits None spent waits = sym waits
unspent-waits (Some m) spent waits = refl

pub spent-comes : {A : Type 0} (o : Option A) (spent : Bool) → is_some o ≡ false → spent ≡ true → true ≡ (is_none o && spent)
spent-comes None spent still is = sym is
spent-comes (Some m) spent still is = cc

pub quiet-decides : {A : Type 0} (o : Option A) (quiet : Bool) → is_some o ≡ false → quiet ≡ (is_none o && quiet)
quiet-decides None quiet still = refl
quiet-decides (Some m) quiet still = cc
