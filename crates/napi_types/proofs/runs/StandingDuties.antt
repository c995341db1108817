-- The frame of a duty of the hub stands in the hub too.
use Rattle.std.proofs.Common.{◌≡◌, ◌∙◌, ℕ, Bool, true, false, cond, List, [], ◌∷◌, filter, IsTrue, refl, ap, sym, subst, Option, Some, None, option_map}
use Rattle.std.specs.List.{cons_option}
use Rattle.std.specs.Option.{option_to_list}
use Rattle.napi_types.specs.declared.call.Ask.{Ask}
use Rattle.napi_types.specs.declared.call.Call.{Call}
use Rattle.napi_types.specs.declared.duties.DueInfo.{DueInfo}
use Rattle.napi_types.specs.declared.entry.Duty.{Duty}
use Rattle.napi_types.specs.declared.entry.Entry.{Entry}
use Rattle.napi_types.specs.declared.entry.HostStep.TheVariants as host
use Rattle.napi_types.specs.declared.entry.Out.{Out}
use Rattle.napi_types.specs.declared.entry.Out.TheVariants as out
use Rattle.napi_types.specs.declared.entry.Why.{Why}
use Rattle.napi_types.specs.declared.ids.HandleId.{HandleId}
use Rattle.napi_types.specs.plain.Entries.{host_entry}
use Rattle.napi_types.specs.plain.Lists.{tail}
use Rattle.napi_types.specs.parts.Book.{Registration, registration_at}
use Rattle.napi_types.specs.parts.Duties.{duties_of, AreNested}
use Rattle.napi_types.specs.parts.Frames.{Frame, duty_of, is_hub_duty}
use Rattle.napi_types.specs.environment.Changes.{issued_number}
use Rattle.napi_types.specs.environment.Ends.{end_change}
use Rattle.napi_types.specs.environment.Environment.{Environment}
use Rattle.napi_types.specs.environment.SharedCalls.{shared_entry}
use Rattle.napi_types.specs.hub.Hub.{Hub}
use Rattle.napi_types.specs.hub.HubEvents.{begin_step, close_step, finish_step, frame_end_step, delivery_entry}
use Rattle.napi_types.specs.hub.StandingDuties.{hub_duties, standing_duties}
use Rattle.napi_types.specs.hub.HubMoves.{HubMove, Delivers, Closes, Finishes, hub_move}
use Rattle.napi_types.specs.hub.HubStep.{HubStep}
use Rattle.napi_types.specs.hub.HubSteps.{hub_step}
use Rattle.napi_types.specs.runs.Choice.{choice}
use Rattle.napi_types.specs.runs.Loop.{Event, Tickets, Moves}
use Rattle.napi_types.specs.runs.Machine.{Machine}
use Rattle.napi_types.specs.runs.Run.{IsRunBy, after, IsNext}
use Rattle.napi_types.specs.runs.Setting.{Setting, opening_of, final_of}
use Rattle.napi_types.specs.runs.Step.{Step, ticket_step, event_step, shared_call_step, end_step_on, step}
use Rattle.napi_types.proofs.plain.Conditions.{and-right}
use Rattle.napi_types.proofs.environment.FrameChanges.{ended-keeps}
use Rattle.napi_types.proofs.environment.FrameEnds.{ended-ends}
use Rattle.napi_types.proofs.environment.StandingFrames.{counted-duties, duties-asked, duty-alone}
use Rattle.napi_types.proofs.hub.HubDuties.{delivery-of_hub}
use Rattle.napi_types.proofs.hub.HubKeeps.{given-keeps, other-keeps}
use Rattle.napi_types.proofs.runs.SharedSteps.{hub_step-end, after_shared-alone}
use Rattle.napi_types.proofs.runs.Chosen.{chosen-move}
use Rattle.napi_types.proofs.runs.Runs.{along-run}
use Rattle.napi_types.proofs.runs.Forms as form
use Rattle.napi_types.proofs.runs.Forms.{Form, form-of}
use Rattle.napi_types.proofs.runs.Nested.{IsNested, opens-nested, form-nested}

-- the hub's duties of the frames are those that stand in it
abbrev StandsAlike : Environment → Hub → Type 0
StandsAlike e h = hub_duties e.frames ≡ standing_duties h

-- FRAMES
-- a frame that no duty of the hub began has none
pub plain-head : (o : Option Duty) (ds : List Duty) → is_hub_duty o ≡ false → filter (λ d. is_hub_duty (Some d)) (cons_option o ds) ≡ filter (λ d. is_hub_duty (Some d)) ds
plain-head None ds plain = refl
plain-head (Some d) ds plain = ap (λ b. cond b (d ∷ filter (λ e. is_hub_duty (Some e)) ds) (filter (λ e. is_hub_duty (Some e)) ds)) plain

pub hub-head : (d : Duty) (ds : List Duty) → is_hub_duty (Some d) ≡ true → filter (λ e. is_hub_duty (Some e)) (d ∷ ds) ≡ d ∷ filter (λ e. is_hub_duty (Some e)) ds
hub-head d ds ours = ap (λ b. cond b (d ∷ filter (λ e. is_hub_duty (Some e)) ds) (filter (λ e. is_hub_duty (Some e)) ds)) ours

plain-tail : (fs : List Frame) → is_hub_duty (duty_of fs) ≡ false → hub_duties (tail fs) ≡ hub_duties fs
plain-tail [] plain = refl
plain-tail (f ∷ fs) plain = sym (plain-head f.duty (duties_of fs) plain)

-- the frame of a duty of the hub is the only one
hub-tail : (fs : List Frame) → AreNested fs → is_hub_duty (duty_of fs) ≡ true → tail fs ≡ []
hub-tail fs nested ours = by (duty_of fs) refl ours
  where
    by : (o : Option Duty) → duty_of fs ≡ o → is_hub_duty o ≡ true → tail fs ≡ []
    by None is theirs = cc
    by (Some d) is theirs = duty-alone fs d nested is

-- a frame less
ended-plain : (e : Environment) (h : Hub) (v : Option HandleId) (cut : Option Why) → is_hub_duty (duty_of e.frames) ≡ false → StandsAlike e h
    → StandsAlike (end_change v cut e).after h
ended-plain e h v cut plain alike = ap hub_duties (ended-keeps v cut e).frames ∙ plain-tail e.frames plain ∙ alike

none-left : (e : Environment) (v : Option HandleId) (cut : Option Why) → AreNested e.frames → is_hub_duty (duty_of e.frames) ≡ true → hub_duties (end_change v cut e).after.frames ≡ []
none-left e v cut nested ours = ap hub_duties ((ended-keeps v cut e).frames ∙ hub-tail e.frames nested ours)

none-stands : (h : Hub) (x : Entry) (d : Option DueInfo) → IsTrue (frame_end_step h x d).may → standing_duties (frame_end_step h x d).after ≡ []
none-stands h x None may = cc
none-stands h x (Some d) may = refl

ended-hub : (m : Machine) (v : Option HandleId) (cut : Option Why) → AreNested m.env.frames → is_hub_duty (duty_of m.env.frames) ≡ true
    → IsTrue (hub_step m.hub (end_change v cut m.env).entry).may → StandsAlike (end_change v cut m.env).after (hub_step m.hub (end_change v cut m.env).entry).after
ended-hub m v cut nested ours may =
    let x : Entry = (end_change v cut m.env).entry in
    let same : hub_step m.hub x ≡ frame_end_step m.hub x m.hub.standing = hub_step-end m.hub x (ended-ends v cut m.env).who (ended-ends v cut m.env).is in
    none-left m.env v cut nested ours
    ∙ sym (ap (λ (t : HubStep). standing_duties t.after) same ∙ none-stands m.hub x m.hub.standing (subst (λ (t : HubStep). IsTrue t.may) same may))

ended-alike : (m : Machine) (v : Option HandleId) (cut : Option Why) (may ours : Bool) → AreNested m.env.frames → is_hub_duty (duty_of m.env.frames) ≡ ours
    → (let t : Step = end_step_on ours m (end_change v cut m.env) may in IsTrue t.may → StandsAlike m.env m.hub → StandsAlike t.after.env t.after.hub)
ended-alike m v cut may false nested is comes alike = ended-plain m.env m.hub v cut is alike
ended-alike m v cut may true nested is comes alike = ended-hub m v cut nested is (and-right may (hub_step m.hub (end_change v cut m.env).entry).may comes)

-- CALLS
shared-alike : (m : Machine) (c : Call) (o : Out) → StandsAlike m.env m.hub → (let t : Step = shared_call_step m c o in StandsAlike t.after.env t.after.hub)
shared-alike m c o alike =
    let x : Entry = shared_entry m.env c o in
    ap (λ (e : Environment). hub_duties e.frames) (after_shared-alone c (hub_step m.hub x).entry.reply m.env)
    ∙ ap (λ ds. filter (λ d. is_hub_duty (Some d)) ds) (counted-duties m.env.frames)
    ∙ alike
    ∙ sym (ap (λ d. option_to_list (option_map (λ (i : DueInfo). i.duty) d)) (given-keeps m.hub x c x.given).standing)

-- EVENTS
abbrev StepsAlike : Step → Type 0
StepsAlike t = StandsAlike t.after.env t.after.hub

ticket-alike : (m : Machine) (n : ℕ) (r : Option Registration) → StandsAlike m.env m.hub → StepsAlike (ticket_step m n r)
ticket-alike m n None alike = alike
ticket-alike m n (Some r) alike = alike

move-alike : (m : Machine) (move : HubMove) → hub_move m.hub ≡ Some move → m.env.frames ≡ [] → StandsAlike m.env m.hub → StepsAlike (event_step m (Moves move))
move-alike m (Delivers d) next alone alike =
    hub-head d.duty (duties_of m.env.frames) (delivery-of_hub m.hub d next).ours
    ∙ ap (λ fs. d.duty ∷ hub_duties fs) alone
    ∙ sym (ap (λ o. standing_duties (begin_step m.hub (delivery_entry d) o).after) next)
move-alike m (Closes n) next alone alike =
    alike ∙ sym (ap (λ o. standing_duties (close_step m.hub (host_entry host.CloseTsfn (out.Function (record { 0 = n }))) o).after) next)
move-alike m (Finishes n) next alone alike =
    alike ∙ sym (ap (λ o. standing_duties (finish_step m.hub (host_entry host.FinishTsfn (out.Function (record { 0 = n }))) o).after) next)

event-alike : (m : Machine) (v : Event) → choice m ≡ Some v → m.env.frames ≡ [] → StandsAlike m.env m.hub → StepsAlike (event_step m v)
event-alike m (Tickets n) next alone alike = ticket-alike m n (registration_at m.env.book n) alike
event-alike m (Moves move) next alone alike = move-alike m move (chosen-move m move next) alone alike
event-alike m _ next alone alike = alike

form-alike : (m : Machine) (t : Step) → Form m t → IsTrue t.may → AreNested m.env.frames → StandsAlike m.env m.hub → StepsAlike t
form-alike m _ (form.calls f fs stands c o alone) may nested alike =
    ap (λ ds. filter (λ d. is_hub_duty (Some d)) ds) (duties-asked m.env c (issued_number o)) ∙ alike
form-alike m _ (form.shares f fs stands c o shared answers) may nested alike = shared-alike m c o alike
form-alike m _ (form.ends f fs stands v cut b ours is) may nested alike = ended-alike m v cut b ours nested is may alike
form-alike m _ (form.happens alone event next) may nested alike = event-alike m event next alone alike
form-alike m _ (form.others x other same) may nested alike =
    alike ∙ sym (ap (λ d. option_to_list (option_map (λ (i : DueInfo). i.duty) d)) (other-keeps m.hub x other).standing)

-- RUNS
pub record StandsInBoth (m : Machine) : Type 0 where
  pub nested : IsNested m.env
  pub alike : StandsAlike m.env m.hub

step-stands : (m : Machine) (a : Ask) (x : Entry) → IsNext m a x → StandsInBoth m → StandsInBoth (after m a x)
step-stands m a x next here =
    let f : Form m (step m a x) = form-of m a x next in
    record { nested = form-nested m (step m a x) f here.nested; alike = form-alike m (step m a x) f next.1 here.nested.frames here.alike }

pub stands-run : (s : Setting) (bs : List Ask) (xs : List Entry) → IsRunBy (opening_of s) bs xs → StandsInBoth (final_of s bs xs)
stands-run s bs xs run = along-run StandsInBoth step-stands (opening_of s) bs xs run (record { nested = opens-nested s; alike = refl })

-- where no frame stands, none of the hub's duties stands in it
pub none-standing : (s : Setting) (bs : List Ask) (xs : List Entry) → IsRunBy (opening_of s) bs xs → (final_of s bs xs).env.frames ≡ [] → (final_of s bs xs).hub.standing ≡ None
none-standing s bs xs run alone = by (final_of s bs xs).hub.standing (sym (ap hub_duties alone) ∙ (stands-run s bs xs run).alike)
  where
    by : (o : Option DueInfo) → [] ≡ option_to_list (option_map (λ (i : DueInfo). i.duty) o) → o ≡ None
    by None same = refl
    by (Some d) same = cc
