-- What a run tells of buffers and views may be told where it is.
use Rattle.std.proofs.Common.{◌≡◌, ◌≢◌, ◌∙◌, ◌≤◌, ℕ, ◌+◌, Bool, true, false, IsTrue, List, [], ◌∷◌, ◌++◌, Option, Some, None, refl, ap, sym, subst, arith}
use Rattle.std.specs.List.{All}
use Rattle.std.proofs.lemmas.List.{append-nil, append_assoc}
use Rattle.std.proofs.lemmas.List.Elements.{All-nil}
use Rattle.napi_types.specs.declared.call.Args.{Args}
use Rattle.napi_types.specs.declared.call.Ask.{Ask}
use Rattle.napi_types.specs.declared.call.Call.{Call}
use Rattle.napi_types.specs.declared.call.Call.TheVariants as call
use Rattle.napi_types.specs.declared.entry.Entry.{Entry}
use Rattle.napi_types.specs.declared.entry.HostStep.TheVariants as host
use Rattle.napi_types.specs.declared.entry.Out.TheVariants as out
use Rattle.napi_types.specs.declared.entry.What.{What}
use Rattle.napi_types.specs.declared.entry.What.TheVariants as what
use Rattle.napi_types.specs.declared.entry.Why.{Why}
use Rattle.napi_types.specs.declared.ids.HandleId.{HandleId}
use Rattle.napi_types.specs.plain.Entries.{host_entry}
use Rattle.napi_types.specs.plain.Guards.{is_shared}
use Rattle.napi_types.specs.environment.Ends.{end_change}
use Rattle.napi_types.specs.environment.Entering.{enter_change, asked_change}
use Rattle.napi_types.specs.environment.Environment.{Environment, OpenedWith, new_environment}
use Rattle.napi_types.specs.environment.SharedCalls.{shared_entry}
use Rattle.napi_types.specs.hub.HubEvents.{begin_step, delivery_entry}
use Rattle.napi_types.specs.hub.HubMoves.{HubMove, Delivers, Closes, Finishes, hub_move}
use Rattle.napi_types.specs.hub.HubSteps.{hub_step}
use Rattle.napi_types.specs.runs.Choice.{waiting_hooks}
use Rattle.napi_types.specs.runs.Machine.{Machine}
use Rattle.napi_types.specs.runs.Run.{IsRunBy, after, final}
use Rattle.napi_types.specs.runs.Setting.{Setting, opens_with, opening_of, final_of}
use Rattle.napi_types.specs.runs.Step.{Step, move_step, has_room, step}
use Rattle.napi_types.specs.all_runs.SharedBytes.{BufferFact, bytes_told_by, bytes_told_along, FollowsBytes, ViewsShareBytes}
use Rattle.napi_types.proofs.plain.Conditions.{and-right}
use Rattle.napi_types.proofs.environment.Cases.{asked-by}
use Rattle.napi_types.proofs.environment.FrameChanges.{KeepsButFrame, ended-keeps, left-parts}
use Rattle.napi_types.proofs.environment.FrameEnds.{ended-ends}
use Rattle.napi_types.proofs.hub.HubKeeps.{hub_step-what}
use Rattle.napi_types.proofs.runs.Forms.{form-of, event-what}
use Rattle.napi_types.proofs.runs.SharedSteps.{after_shared-alone, is_of_others, others-told}
use Rattle.napi_types.proofs.runs.StepCases.{StepCase, calls, ends, opens, inits, begins, vanishes, shares, leaves, passes, moves, others, abandons, event_before}
use Rattle.napi_types.proofs.all_runs.BytesHistory.{bytes_history}
use Rattle.napi_types.proofs.all_runs.BytesKept.{StoredBytes, stored, IsHeldBuffer, IsHeldView, LiesIn, IsBytesOf}
use Rattle.napi_types.proofs.all_runs.BytesTells.{KeepsBytes, bytes_none, bytes_one, no-bytes-told, call-keeps-bytes}
use Rattle.napi_types.proofs.all_runs.HeldHandles.{HandlesFit, opening-fits, fits-step, scopes-stand}
use Rattle.napi_types.proofs.all_runs.Orderly.{Orderly, along-orderly, orderly-opens}
use Rattle.napi_types.proofs.all_runs.PromiseSteps.{is_entry_of_call, StandsAtCall, stands-at-call}
use Rattle.napi_types.proofs.all_runs.PromiseTells.{if-none}

-- WHAT HOLDS
-- what was told, and the environment
record SoundBytes (ts : List BufferFact) (e : Environment) : Type 0 where
  pub kept : IsBytesOf (bytes_history ts) (stored e)
  pub fits : HandlesFit e

abbrev bytes_told_of : Machine → Entry → Machine → List BufferFact
bytes_told_of m x n = bytes_told_by m x n x.what

-- NOTHING IS TOLD
abbrev TellsNoBytes : What → Type 0
TellsNoBytes w = (m n : Machine) (x : Entry) → bytes_told_by m x n w ≡ []

no-bytes : (m n : Machine) (x : Entry) (w : What) → x.what ≡ w → TellsNoBytes w → bytes_told_of m x n ≡ []
no-bytes m n x w is none = ap (bytes_told_by m x n) is ∙ none m n x

shared-no-bytes : (c : Call) → is_shared c ≡ true → TellsNoBytes (what.Call c)
shared-no-bytes (call.CreateArraybuffer size) shared m n x = cc
shared-no-bytes (call.CreateExternalArraybuffer size payload entry hint) shared m n x = cc
shared-no-bytes (call.CreateTypedarray kind h offset count) shared m n x = cc
shared-no-bytes (call.SetView h at number) shared m n x = cc
shared-no-bytes (call.GetView h at) shared m n x = cc
shared-no-bytes (call.DetachArraybuffer h) shared m n x = cc
shared-no-bytes (call.GetArraybufferInfo h) shared m n x = cc
shared-no-bytes c shared m n x = if-none x.reply.status

others-no-bytes : (w : What) → is_of_others w ≡ true → TellsNoBytes w
others-no-bytes (what.Call (call.CreateArraybuffer size)) its m n x = cc
others-no-bytes (what.Call (call.CreateExternalArraybuffer size payload entry hint)) its m n x = cc
others-no-bytes (what.Call (call.CreateTypedarray kind h offset count)) its m n x = cc
others-no-bytes (what.Call (call.SetView h at number)) its m n x = cc
others-no-bytes (what.Call (call.GetView h at)) its m n x = cc
others-no-bytes (what.Call (call.DetachArraybuffer h)) its m n x = cc
others-no-bytes (what.Call (call.GetArraybufferInfo h)) its m n x = cc
others-no-bytes (what.Call c) its m n x = if-none x.reply.status
others-no-bytes (what.Host event) its m n x = refl

-- EACH STEP
ended-bytes : (ts : List BufferFact) (m n : Machine) (v : Option HandleId) (cut : Option Why) (x : Entry) → SoundBytes ts m.env → x.what ≡ what.Host host.End
    → KeepsBytes ts (bytes_told_of m x n) (stored (end_change v cut m.env).after)
ended-bytes ts m n v cut x sound is =
    let new : Environment = (end_change v cut m.env).after in
    let k : KeepsButFrame m.env new = ended-keeps v cut m.env in
    let r = left-parts m.env new k in
    no-bytes-told ts _ (stored m.env) (stored new) (no-bytes m n x (what.Host host.End) is (λ m n x. refl)) (rw (k.made, r.buffers) refl) sound.kept

asked-bytes : (ts : List BufferFact) (m : Machine) (c : Call) (n : ℕ) → Orderly m → SoundBytes ts m.env
    → (is_entry_of_call (asked_change m.env c n).entry.what ≡ true → m.env.frames ≢ [])
    → KeepsBytes ts (bytes_told_of m (asked_change m.env c n).entry (record m { env = (asked_change m.env c n).after; journal_length = m.journal_length + 1 }))
    (stored (asked_change m.env c n).after)
asked-bytes ts m c n h sound =
    asked-by m.env c n (λ d. (is_entry_of_call d.entry.what ≡ true → m.env.frames ≢ [])
    → KeepsBytes ts (bytes_told_of m d.entry (record m { env = d.after; journal_length = m.journal_length + 1 })) (stored d.after))
    (λ stands. call-keeps-bytes ts m sound.kept h.hooked sound.fits.heap (scopes-stand m.env sound.fits (stands refl)) c n)
    (λ receiver f args none stands. no-bytes-told ts _ (stored m.env) _ refl (entered receiver f args m.env) sound.kept)
  where
    entered : (receiver : Option HandleId) (f : HandleId) (args : Args) (e : Environment) → stored (enter_change receiver f args e).after ≡ stored e
    entered None f args e = refl
    entered (Some r) f args e = refl

move-no-bytes : (m n : Machine) (move : HubMove) → hub_move m.hub ≡ Some move → bytes_told_of m (move_step m move).entry n ≡ []
move-no-bytes m n (Delivers d) next = ap (λ o. bytes_told_of m (begin_step m.hub (delivery_entry d) o).entry n) next
move-no-bytes m n (Closes k) next =
    no-bytes m n (move_step m (Closes k)).entry (what.Host host.CloseTsfn) (hub_step-what m.hub (host_entry host.CloseTsfn (out.Function (record { 0 = k })))) (λ m n x. refl)
move-no-bytes m n (Finishes k) next =
    no-bytes m n (move_step m (Finishes k)).entry (what.Host host.FinishTsfn) (hub_step-what m.hub (host_entry host.FinishTsfn (out.Function (record { 0 = k })))) (λ m n x. refl)

move-stored : (m : Machine) (move : HubMove) → stored (move_step m move).after.env ≡ stored m.env
move-stored m (Delivers d) = refl
move-stored m (Closes n) = refl
move-stored m (Finishes n) = refl

bytes-step : (ts : List BufferFact) (m : Machine) (s : Step) → Orderly m → StepCase m s → IsTrue s.may → StandsAtCall m s → SoundBytes ts m.env
    → KeepsBytes ts (bytes_told_of m s.entry s.after) (stored s.after.env)
bytes-step ts m _ h (calls c n may alone) ok stands sound = asked-bytes ts m c n h sound (stands refl)
bytes-step ts m s h (ends v cut may alone) ok stands sound = ended-bytes ts m s.after v cut s.entry sound (ended-ends v cut m.env).is
bytes-step ts m _ h opens ok stands sound = no-bytes-told ts _ (stored m.env) _ refl refl sound.kept
bytes-step ts m _ h (inits n) ok stands sound = no-bytes-told ts _ (stored m.env) _ refl refl sound.kept
bytes-step ts m _ h (begins n r there next may) ok stands sound = no-bytes-told ts _ (stored m.env) _ refl refl sound.kept
bytes-step ts m _ h (vanishes last) ok stands sound = no-bytes-told ts _ (stored m.env) _ refl refl sound.kept
bytes-step ts m s h (shares c o shared answers) ok stands sound =
    no-bytes-told ts _ (stored m.env) _ (no-bytes m s.after s.entry (what.Call c) (hub_step-what m.hub (shared_entry m.env c o)) (shared-no-bytes c shared))
    (ap stored (after_shared-alone c s.entry.reply m.env)) sound.kept
bytes-step ts m s h (leaves v cut may ours) ok stands sound =
    ended-bytes ts m s.after v cut s.entry sound (hub_step-what m.hub (end_change v cut m.env).entry ∙ (ended-ends v cut m.env).is)
bytes-step ts m s h (passes p o q) ok stands sound =
    no-bytes-told ts _ (stored m.env) _ (no-bytes m s.after s.entry (what.Host (event_before p)) (ap (λ (x : Entry). x.what) q.entry) (λ m n x. refl)) refl sound.kept
bytes-step ts m s h (abandons here far none alone) ok stands sound =
    no-bytes-told ts _ (stored m.env) _
    (no-bytes m s.after s.entry (what.Host host.Abandon) (hub_step-what m.hub (host_entry host.Abandon (out.Unsigned (waiting_hooks m.env)))) (λ m n x. refl)) refl sound.kept
bytes-step ts m s h (moves move next moving alone) ok stands sound =
    no-bytes-told ts _ (stored m.env) _ (move-no-bytes m s.after move next) (move-stored m move) sound.kept
bytes-step ts m s h (others x other) ok stands sound =
    no-bytes-told ts _ (stored m.env) _
    (no-bytes m s.after s.entry x.what (hub_step-what m.hub x)
    (others-no-bytes x.what (others-told m.hub x other (and-right (has_room m x.what) (hub_step m.hub x).may ok)))) refl sound.kept

-- ALONG A RUN
-- each of these may be told after those and after the ones before it
abbrev AllFollow : List BufferFact → List BufferFact → Type 0
AllFollow ts [] = Unit {0}
AllFollow ts (x ∷ xs) = FollowsBytes ts x × AllFollow (ts ++ x ∷ []) xs

follows-at : (ts before later : List BufferFact) (e : BufferFact) → AllFollow ts (before ++ e ∷ later) → FollowsBytes (ts ++ before) e
follows-at ts [] later e may = subst (λ us. FollowsBytes us e) (sym (append-nil ts)) may.0
follows-at ts (x ∷ before) later e may = subst (λ us. FollowsBytes us e) (append_assoc ts (x ∷ []) before) (follows-at (ts ++ x ∷ []) before later e may.1)

opening-bytes : (given : OpenedWith) → IsBytesOf (bytes_history []) (stored (new_environment given))
opening-bytes given = record {
  below = All-nil _;
  viewed = All-nil _;
  detached = All-nil _;
  lies = All-nil _;
  through = All-nil _;
  buffers = All-nil (IsHeldBuffer (bytes_history []));
  views = All-nil (IsHeldView (bytes_history []));
}

run-follows : (m : Machine) (bs : List Ask) (xs : List Entry) → Orderly m → IsRunBy m bs xs → (ts : List BufferFact) → SoundBytes ts m.env
    → AllFollow ts (bytes_told_along m bs xs)
run-follows = along-orderly (λ m bs xs. (ts : List BufferFact) → SoundBytes ts m.env → AllFollow ts (bytes_told_along m bs xs))
    (λ m ts sound. tt)
    (λ m a bs x xs h next s k rest ts sound.
    let here : KeepsBytes ts (bytes_told_of m x (after m a x)) (stored (after m a x).env) =
    subst (λ y. KeepsBytes ts (bytes_told_of m y (after m a x)) (stored (after m a x).env)) (sym next.0)
    (bytes-step ts m (step m a x) h s next.1 (stands-at-call m (step m a x) (form-of m a x next) next.1) sound) in
    more ts (bytes_told_of m x (after m a x)) (stored (after m a x).env) here (bytes_told_along (after m a x) bs xs) (after m a x).env refl
    (fits-step m (step m a x) s sound.fits) (λ us. rest us))
  where
    more : (ts news : List BufferFact) (v : StoredBytes) → KeepsBytes ts news v → (later : List BufferFact) (e : Environment) → stored e ≡ v
        → HandlesFit e → ((us : List BufferFact) → SoundBytes us e → AllFollow us later) → AllFollow ts (news ++ later)
    more ts _ _ (bytes_none v kept) later e same fits rest = rest ts (record { kept = subst (IsBytesOf (bytes_history ts)) (sym same) kept; fits = fits })
    more ts _ _ (bytes_one x v may kept) later e same fits rest =
        (may, rest (ts ++ x ∷ []) (record { kept = subst (IsBytesOf (bytes_history (ts ++ x ∷ []))) (sym same) kept; fits = fits }))

-- THE LAW
pub bytes-shared : ViewsShareBytes
bytes-shared s bs xs run before later e parts =
    follows-at [] before later e (subst (AllFollow []) parts
    (run-follows (opening_of s) bs xs (orderly-opens s) run.steps [] (record { kept = opening-bytes (opens_with s); fits = opening-fits (opens_with s) })))
