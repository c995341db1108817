-- Hooks begin in the reverse of the order in which they were added, and what was left to the end in the order of registration.
use Rattle.std.proofs.Common.{◌≡◌, ◌≢◌, ◌∙◌, ◌<◌, ◌≤◌, ℕ, ◌==◌, Bool, true, false, cond, not, List, [], ◌∷◌, ◌++◌, map, IsTrue, refl, ap, sym, subst, Option, Some, None, is_some, option_map, arith}
use Rattle.std.specs.List.{All}
use Rattle.std.specs.Option.{unwrap_or}
use Rattle.std.proofs.lemmas.Bool.{eq-eqb, or_left, or_right}
use Rattle.std.proofs.lemmas.List.Elements.{All-nil, All-cons, All-head, All-weaker}
use Rattle.std.proofs.lemmas.Option.{same_Some}
use Rattle.napi_types.specs.declared.call.Ask.{Ask}
use Rattle.napi_types.specs.declared.call.Call.{Call}
use Rattle.napi_types.specs.declared.entry.Cause.{Cause}
use Rattle.napi_types.specs.declared.entry.Cause.TheVariants as cause
use Rattle.napi_types.specs.declared.duties.DueInfo.{DueInfo}
use Rattle.napi_types.specs.declared.entry.Duty.{Duty}
use Rattle.napi_types.specs.declared.entry.Duty.TheVariants as duty
use Rattle.napi_types.specs.declared.entry.Entry.{Entry}
use Rattle.napi_types.specs.declared.entry.HostStep.TheVariants as host
use Rattle.napi_types.specs.declared.entry.Out.{Out}
use Rattle.napi_types.specs.declared.entry.Out.TheVariants as out
use Rattle.napi_types.specs.declared.entry.Phase.{Phase}
use Rattle.napi_types.specs.declared.entry.Phase.TheVariants as phase
use Rattle.napi_types.specs.declared.entry.What.{What}
use Rattle.napi_types.specs.declared.entry.What.TheVariants as what
use Rattle.napi_types.specs.declared.entry.Why.{Why}
use Rattle.napi_types.specs.declared.ids.HandleId.{HandleId}
use Rattle.napi_types.specs.plain.Entries.{host_entry, is_environment, is_begin, is_finals}
use Rattle.napi_types.specs.plain.Lists.{found, has}
use Rattle.napi_types.specs.plain.Phases.{next_phase}
use Rattle.napi_types.specs.parts.Book.{Book, Registration, TicketState, Due, is_registered, is_due, is_owed, is_at, made_begun, moved_at, registration_at, TicketsRise, TicketsFall, begun_in, may_begin_in, cause_at}
use Rattle.napi_types.specs.parts.Frames.{cause_of, duty_of, is_hub_duty}
use Rattle.napi_types.specs.parts.Hooks.{Hook, last_hook, without_hook}
use Rattle.napi_types.specs.environment.Ends.{end_change}
use Rattle.napi_types.specs.environment.Entering.{asked_change}
use Rattle.napi_types.specs.environment.Environment.{Environment}
use Rattle.napi_types.specs.environment.Hooked.{is_from_finals_on, StandsIn, IsHooked}
use Rattle.napi_types.specs.environment.Moments.{is_tearing}
use Rattle.napi_types.specs.environment.Registry.{registry_of}
use Rattle.napi_types.specs.environment.SharedCalls.{shared_entry}
use Rattle.napi_types.specs.environment.Tickets.{hooks_left, ticket_in}
use Rattle.napi_types.specs.hub.Hub.{Hub}
use Rattle.napi_types.specs.hub.HubMoves.{HubMove, Delivers, Closes, Finishes, hub_move}
use Rattle.napi_types.specs.hub.HubEvents.{begin_step, delivery_entry}
use Rattle.napi_types.specs.hub.HubSteps.{hub_step}
use Rattle.napi_types.specs.runs.Machine.{Machine}
use Rattle.napi_types.specs.runs.Run.{IsRunBy, after}
use Rattle.napi_types.specs.runs.Setting.{Setting, opening_of}
use Rattle.napi_types.specs.runs.Step.{Step, move_step, has_room, other_step, step}
use Rattle.napi_types.specs.all_runs.Order.{is_hook_cause, told_ticket, told_hook, tickets_begun, hooks_begun, finals_begun, HooksFall, FinalsRise}
use Rattle.napi_types.proofs.plain.Conditions.{and-right}
use Rattle.napi_types.proofs.plain.Found.{has-found, found-filter}
use Rattle.napi_types.proofs.parts.Books.{NoneRegistered, withdrawn-leaves, leaves-in}
use Rattle.napi_types.proofs.parts.Moved.{at-state, at-cause}
use Rattle.napi_types.proofs.environment.AnswersKeep.{course-parts}
use Rattle.napi_types.proofs.environment.FrameChanges.{HasRegistry, registry-parts, KeepsButFrame, ended-keeps, left-parts, asked_change-fits}
use Rattle.napi_types.proofs.environment.FrameEnds.{ended-ends}
use Rattle.napi_types.proofs.environment.HookedSteps.{standing-holds}
use Rattle.napi_types.proofs.environment.Registrations.{registered-holds}
use Rattle.napi_types.proofs.environment.TornBooks.{NoneMore, asked-more, left-more, begun-more, left-above}
use Rattle.napi_types.proofs.environment.Cases.{asked-by}
use Rattle.napi_types.proofs.hub.HubDuties.{IsDutyOfHub, delivery-of_hub}
use Rattle.napi_types.proofs.hub.HubKeeps.{hub_step-what}
use Rattle.napi_types.proofs.runs.SharedSteps.{StandsStill, shares-still, moves-still, others-still, IsNoEvent, others-told, others-none}
use Rattle.napi_types.proofs.runs.StepCases.{StepCase, calls, ends, opens, inits, begins, vanishes, shares, leaves, passes, moves, others, event_before, abandons}
use Rattle.napi_types.proofs.all_runs.Orderly.{IsSpent, Orderly, late-tears, is_drained, orderly-opens, along-orderly}

-- LISTS OF TICKETS
-- a list of one ticket of which this holds, or of none
data AtMostOne (P : ℕ → Type 0) : List ℕ → Type 0 where
  no_ticket : AtMostOne P []
  one_ticket : (n : ℕ) → P n → AtMostOne P (n ∷ [])

none-told : (P : ℕ → Type 0) (ts : List ℕ) → ts ≡ [] → AtMostOne P ts
none-told P ts is = subst (λ ns. AtMostOne P ns) (sym is) no_ticket

-- what begins is above what may begin later, or below it
fall-more : (A B : ℕ → Type 0) (ts ns : List ℕ) → ((k : ℕ) → B k → A k) → AtMostOne (λ n. A n × ((k : ℕ) → B k → k < n)) ts
    → TicketsFall ns × All B ns → TicketsFall (ts ++ ns) × All A (ts ++ ns)
fall-more A B _ ns wider no_ticket rest = (rest.0, All-weaker B A wider ns rest.1)
fall-more A B _ ns wider (one_ticket n here) rest =
    ((All-weaker B (λ k. k < n) here.1 ns rest.1, rest.0), All-cons A n ns here.0 (All-weaker B A wider ns rest.1))

rise-more : (A B : ℕ → Type 0) (ts ns : List ℕ) → ((k : ℕ) → B k → A k) → AtMostOne (λ n. A n × ((k : ℕ) → B k → n < k)) ts
    → TicketsRise ns × All B ns → TicketsRise (ts ++ ns) × All A (ts ++ ns)
rise-more A B _ ns wider no_ticket rest = (rest.0, All-weaker B A wider ns rest.1)
rise-more A B _ ns wider (one_ticket n here) rest =
    ((All-weaker B (λ k. n < k) here.1 ns rest.1, rest.0), All-cons A n ns here.0 (All-weaker B A wider ns rest.1))

-- THE HOOKS
-- a hook of the list has the ticket
abbrev pub IsHookIn : List Hook → ℕ → Type 0
IsHookIn hooks n = has (λ h. h.ticket) n hooks ≡ true

-- the hook that was added last is one of them, and has the highest ticket
pub last-among : (hooks : List Hook) (n : ℕ) → option_map (λ (h : Hook). h.ticket) (last_hook hooks) ≡ Some n → IsHookIn hooks n
last-among [] n last = cc
last-among (h ∷ []) n last = or_left (h.ticket == n) false (eq-eqb h.ticket n (same_Some h.ticket n last))
last-among (h ∷ g ∷ hooks) n last = or_right (h.ticket == n) (has (λ k. k.ticket) n (g ∷ hooks)) (last-among (g ∷ hooks) n last)

last-highest : (hooks : List Hook) (n : ℕ) → TicketsRise (map (λ h. h.ticket) hooks) → option_map (λ (h : Hook). h.ticket) (last_hook hooks) ≡ Some n
    → All (λ h. h.ticket ≤ n) hooks
last-highest [] n rise last = cc
last-highest (h ∷ []) n rise last =
    let same : h.ticket ≡ n = cc in All-cons (λ (k : Hook). k.ticket ≤ n) h [] (omega (arith, same)) (All-nil (λ (k : Hook). k.ticket ≤ n))
last-highest (h ∷ g ∷ hooks) n rise last =
    let rest : All (λ k. k.ticket ≤ n) (g ∷ hooks) = last-highest (g ∷ hooks) n rise.1 last in
    let next : g.ticket ≤ n = All-head (λ (k : Hook). k.ticket ≤ n) g hooks rest in
    let below : h.ticket < g.ticket = All-head (λ t. h.ticket < t) g.ticket (map (λ (k : Hook). k.ticket) hooks) rise.0 in
    All-cons (λ (k : Hook). k.ticket ≤ n) h (g ∷ hooks) (omega (arith, next, below)) rest

-- so those that are left without it are below it
left-among : (n k : ℕ) (hooks : List Hook) → IsHookIn (without_hook n hooks) k → IsHookIn hooks k × ((k == n) ≡ false)
left-among n k hooks is =
    by (k == n) (sym (ap is_some (found-filter (λ (h : Hook). h.ticket) (λ t. not (t == n)) k hooks)) ∙ sym (has-found (λ (h : Hook). h.ticket) k (without_hook n hooks)) ∙ is)
  where
    by : (b : Bool) → is_some (cond (not b) (found (λ h. h.ticket) k hooks) None) ≡ true → IsHookIn hooks k × (b ≡ false)
    by true is = cc
    by false is = (has-found (λ (h : Hook). h.ticket) k hooks ∙ is, refl)

below-last : (n k : ℕ) → k ≤ n → (k == n) ≡ false → k < n
below-last n k most apart = grind arith

left-below : (hooks : List Hook) (n : ℕ) → TicketsRise (map (λ h. h.ticket) hooks) → option_map (λ (h : Hook). h.ticket) (last_hook hooks) ≡ Some n
    → (k : ℕ) → IsHookIn (without_hook n hooks) k → k < n
left-below hooks n rise last k is =
    let left : IsHookIn hooks k × ((k == n) ≡ false) = left-among n k hooks is in
    below-last n k (standing-holds (λ t. t ≤ n) k hooks (last-highest hooks n rise last) left.0) left.1

-- WHAT AN ENTRY TELLS
-- the ticket whose frame begins at the entry, where it is one; the same where it is a hook's
abbrev pub tickets_told : Entry → List ℕ
tickets_told x = cond (is_begin x.what) (told_ticket x.reply.out) []

abbrev hooks_told : Entry → List ℕ
hooks_told x = cond (is_begin x.what) (told_hook x.reply.out) []

-- no frame of a ticket begins at the entry, and it is not `finals`
pub record IsPlain (x : Entry) : Type 0 where
  pub tickets : tickets_told x ≡ []
  pub hooks : hooks_told x ≡ []
  pub finals : is_finals x.what ≡ false

asked-plain : (e : Environment) (c : Call) (n : ℕ) → IsPlain (asked_change e c n).entry
asked-plain e c n =
    asked-by e c n (λ d. IsPlain d.entry) (record { tickets = refl; hooks = refl; finals = refl })
    (λ receiver f args none. record { tickets = refl; hooks = refl; finals = refl })

-- an entry that is no begin, and not `finals`
plain-by : (x : Entry) (w : What) → x.what ≡ w → IsNoEvent w → IsPlain x
plain-by x w is none = record {
  tickets = ap (λ v. cond (is_begin v) (told_ticket x.reply.out) []) is ∙ ap (λ b. cond b (told_ticket x.reply.out) []) none.begins;
  hooks = ap (λ v. cond (is_begin v) (told_hook x.reply.out) []) is ∙ ap (λ b. cond b (told_hook x.reply.out) []) none.begins;
  finals = ap is_finals is ∙ none.finals;
}

ended-plain : (v : Option HandleId) (cut : Option Why) (e : Environment) → IsPlain (end_change v cut e).entry
ended-plain v cut e = plain-by (end_change v cut e).entry (what.Host host.End) (ended-ends v cut e).is (record { begins = refl; finals = refl })

-- one of the hub, of what the environment hands to it
hub-plain : (h : Hub) (x : Entry) (w : What) → x.what ≡ w → IsNoEvent w → IsPlain (hub_step h x).entry
hub-plain h x w is none = plain-by (hub_step h x).entry w (hub_step-what h x ∙ is) none

pub shares-plain : (m : Machine) (c : Call) (o : Out) → IsPlain (hub_step m.hub (shared_entry m.env c o)).entry
shares-plain m c o = hub-plain m.hub (shared_entry m.env c o) (what.Call c) refl (record { begins = refl; finals = refl })

leaves-plain : (m : Machine) (v : Option HandleId) (cut : Option Why) → IsPlain (hub_step m.hub (end_change v cut m.env).entry).entry
leaves-plain m v cut = hub-plain m.hub (end_change v cut m.env).entry (what.Host host.End) (ended-ends v cut m.env).is (record { begins = refl; finals = refl })

-- a duty of the hub has no ticket
delivered-ticket : (why : Cause) (addon entry : ℕ) (d : Duty) → is_hub_duty (Some d) ≡ true → told_ticket (out.Begin why addon entry (Some d)) ≡ []
delivered-ticket why addon entry (duty.Ticket t) ours = cc
delivered-ticket why addon entry _ ours = refl

delivered-hook : (why : Cause) (addon entry : ℕ) (d : Duty) → is_hub_duty (Some d) ≡ true → told_hook (out.Begin why addon entry (Some d)) ≡ []
delivered-hook why addon entry (duty.Ticket t) ours = cc
delivered-hook why addon entry _ ours = refl

delivered-plain : (d : DueInfo) → IsDutyOfHub d → IsPlain (delivery_entry d)
delivered-plain d of =
    record { tickets = delivered-ticket d.cause d.addon d.entry d.duty of.ours; hooks = delivered-hook d.cause d.addon d.entry d.duty of.ours; finals = refl }

pub moves-plain : (m : Machine) (move : HubMove) → hub_move m.hub ≡ Some move → IsPlain (move_step m move).entry
moves-plain m (Delivers d) next =
    let same : (move_step m (Delivers d)).entry ≡ delivery_entry d = ap (λ o. (begin_step m.hub (delivery_entry d) o).entry) next in
    subst IsPlain (sym same) (delivered-plain d (delivery-of_hub m.hub d next))
moves-plain m (Closes n) next =
    hub-plain m.hub (host_entry host.CloseTsfn (out.Function (record { 0 = n }))) (what.Host host.CloseTsfn) refl (record { begins = refl; finals = refl })
moves-plain m (Finishes n) next =
    hub-plain m.hub (host_entry host.FinishTsfn (out.Function (record { 0 = n }))) (what.Host host.FinishTsfn) refl (record { begins = refl; finals = refl })

pub others-plain : (m : Machine) (x : Entry) → is_environment x.actor ≡ false → IsTrue (other_step m x).may → IsPlain (other_step m x).entry
others-plain m x other may = hub-plain m.hub x x.what refl (others-none x.what (others-told m.hub x other (and-right (has_room m x.what) (hub_step m.hub x).may may)))

pub passed-begins : (p : Phase) → is_begin (what.Host (event_before p)) ≡ false
passed-begins phase.Init = refl
passed-begins _ = refl

passed-finals : (p : Phase) → is_finals (what.Host (event_before p)) ≡ true → is_from_finals_on p ≡ true
passed-finals phase.Finals is = refl
passed-finals _ is = cc

-- WHICH HOOKS MAY BEGIN
-- up to the end of the loop each may, then those of the list, and from the drain on none
abbrev pub MayBegin : Phase → List Hook → ℕ → Type 0
MayBegin phase.Init hooks n = Unit {0}
MayBegin phase.Live hooks n = Unit {0}
MayBegin phase.Hooks hooks n = IsHookIn hooks n
MayBegin _ hooks n = ⊥

abbrev pub MayBeginAt : Environment → ℕ → Type 0
MayBeginAt e n = MayBegin e.phase e.hooks n

-- they are no more where the phase stays and the list has no hook more, and where the next phase starts
phase-stays : (p q : Phase) (old new : List Hook) (n : ℕ) → q ≡ p → (p ≡ phase.Hooks → IsHookIn new n → IsHookIn old n) → MayBegin q new n → MayBegin p old n
phase-stays p q old new n same fewer may = by p fewer (subst (λ r. MayBegin r new n) same may)
  where
    by : (p : Phase) → (p ≡ phase.Hooks → IsHookIn new n → IsHookIn old n) → MayBegin p new n → MayBegin p old n
    by phase.Init fewer may = tt
    by phase.Live fewer may = tt
    by phase.Hooks fewer may = fewer refl may
    by _ fewer may = may

phase-passed : (q p : Phase) (hooks : List Hook) (n : ℕ) → next_phase q ≡ Some p → MayBegin p hooks n → MayBegin q hooks n
phase-passed phase.Init p hooks n next may = tt
phase-passed phase.Live p hooks n next may = tt
phase-passed phase.Hooks p hooks n next may = let same : phase.Drain ≡ p = cc in absurd (subst (λ r. MayBegin r hooks n) (sym same) may)
phase-passed phase.Drain p hooks n next may = let same : phase.Finals ≡ p = cc in subst (λ r. MayBegin r hooks n) (sym same) may
phase-passed phase.Finals p hooks n next may = let same : phase.Gone ≡ p = cc in subst (λ r. MayBegin r hooks n) (sym same) may
phase-passed phase.Gone p hooks n next may = cc

registered-owed : (book : Book) (n : ℕ) → is_at is_registered book n ≡ true → is_at is_owed book n ≡ true
registered-owed book n is = by (registration_at book n) is
  where
    by : (o : Option Registration) → unwrap_or (option_map (λ (r : Registration). is_registered r.state) o) false ≡ true
        → unwrap_or (option_map (λ (r : Registration). is_owed r.state) o) false ≡ true
    by None is = cc
    by (Some r) is = withdrawn-leaves.before r.state is

-- a registered ticket of a hook: that of each hook of the list is one up to `finals`
abbrev IsHookAt : Book → ℕ → Type 0
IsHookAt book n = (cause_at book n ≡ Some cause.Hook) × (is_at is_registered book n ≡ true)

hook-stands : (e : Environment) (n : ℕ) → IsHooked e → is_from_finals_on e.phase ≡ false → IsHookIn e.hooks n → IsHookAt e.book n
hook-stands e n hooked early is =
    standing-holds (IsHookAt e.book) n e.hooks (All-weaker (StandsIn e.phase e.book) (λ h. IsHookAt e.book h.ticket) (λ h stands. (stands.cause, stands.registered early)) e.hooks hooked.hooks) is

-- a hook after a call in Hooks was one before: no call adds one then
hooks-called : (e d : Environment) (n : ℕ) → IsHooked e → IsHooked d → NoneMore e.book d.book → is_from_finals_on e.phase ≡ false
    → is_from_finals_on d.phase ≡ false
    → IsHookIn d.hooks n → IsHookIn e.hooks n
hooks-called e d n before now more early still is =
    let stands : IsHookAt d.book n = hook-stands d n now still is in
    before.others early n (sym (more.causes n) ∙ stands.0) (registered-owed e.book n (more.registered n stands.1))

-- none may begin after the end of a frame that might not before
ended-fewer : (e : Environment) (v : Option HandleId) (cut : Option Why) (n : ℕ) → MayBeginAt (end_change v cut e).after n → MayBeginAt e n
ended-fewer e v cut n may =
    let d : Environment = (end_change v cut e).after in
    let keeps : KeepsButFrame e d = ended-keeps v cut e in
    phase-stays e.phase d.phase e.hooks d.hooks n (course-parts e d keeps.course).phase
    (λ p is. ap (λ hooks. has (λ (h : Hook). h.ticket) n hooks) (sym (left-parts e d keeps).hooks) ∙ is) may

-- nor where all of it stays
still-fewer : (m n : Machine) → StandsStill m n → (t : ℕ) → MayBeginAt n.env t → MayBeginAt m.env t
still-fewer m n still t may =
    let same : HasRegistry (registry_of m.env) n.env = registry-parts (registry_of m.env) n.env still.registry in
    phase-stays m.env.phase n.env.phase m.env.hooks n.env.hooks t still.phase (λ p is. ap (λ hooks. has (λ (h : Hook). h.ticket) t hooks) (sym same.hooks) ∙ is) may

-- after a step no hook may begin that might not before
pub hooks-fewer : (m : Machine) (s : Step) → Orderly m → Orderly s.after → StepCase m s → (n : ℕ) → MayBeginAt s.after.env n → MayBeginAt m.env n
hooks-fewer m _ h k (calls c n may alone) t may_then =
    let d : Environment = (asked_change m.env c n).after in
    let same : d.phase ≡ m.env.phase = (course-parts m.env d (asked_change-fits m.env c n).course).phase in
    phase-stays m.env.phase d.phase m.env.hooks d.hooks t same
    (λ p. hooks-called m.env d t h.hooked k.hooked (asked-more m.env c n (ap is_tearing p)) (ap is_from_finals_on p) (ap is_from_finals_on (same ∙ p))) may_then
hooks-fewer m s h k (ends v cut may alone) t may_then = ended-fewer m.env v cut t may_then
hooks-fewer m _ h k opens t may_then = may_then
hooks-fewer m _ h k (inits n) t may_then = may_then
hooks-fewer m _ h k (begins n r there next may) t may_then =
    phase-stays m.env.phase m.env.phase m.env.hooks (hooks_left m.env.phase n m.env.hooks) t refl
    (λ p is. (left-among n t m.env.hooks (ap (λ q. has (λ (h : Hook). h.ticket) t (hooks_left q n m.env.hooks)) (sym p) ∙ is)).0) may_then
hooks-fewer m _ h k (vanishes last) t may_then = absurd may_then
hooks-fewer m s h k (shares c o shared answers) t may_then = still-fewer m s.after (shares-still m c o) t may_then
hooks-fewer m s h k (leaves v cut may ours) t may_then = ended-fewer m.env v cut t may_then
hooks-fewer m _ h k (passes p o q) t may_then = phase-passed m.env.phase p m.env.hooks t q.next may_then
hooks-fewer m _ h k (abandons here far none alone) t may_then = may_then
hooks-fewer m s h k (moves move next moving alone) t may_then = still-fewer m s.after (moves-still m move) t may_then
hooks-fewer m s h k (others x other) t may_then = still-fewer m s.after (others-still m x other) t may_then

-- a hook that may begin, and above all that may begin after it
abbrev IsNextHook : Environment → Environment → ℕ → Type 0
IsNextHook e d n = MayBeginAt e n × ((k : ℕ) → MayBeginAt d k → k < n)

is-hook : (c : Cause) → is_hook_cause c ≡ true → c ≡ cause.Hook
is-hook cause.Hook is = refl
is-hook _ is = cc

due-apart : (s : TicketState) → is_due s ≡ true → is_registered s ≡ true → ⊥
due-apart Due is also = cc
due-apart _ is also = cc

-- up to `finals` no hook is due
pub none-due : (e : Environment) (n : ℕ) (r : Registration) → IsHooked e → is_from_finals_on e.phase ≡ false → registration_at e.book n ≡ Some r
    → r.cause ≡ cause.Hook → is_due r.state ≡ true → ⊥
none-due e n r hooked early there why due =
    let owed : is_at is_owed e.book n ≡ true = at-state is_owed e.book n r there ∙ (leaves-in phase.Live).before r.state due in
    let left : IsHookIn e.hooks n = hooked.others early n (at-cause e.book n r there ∙ ap Some why) owed in
    due-apart r.state due (sym (at-state is_registered e.book n r there) ∙ (hook-stands e n hooked early left).1)

next-hook : (m : Machine) (n : ℕ) (r : Registration) (p : Phase) → m.env.phase ≡ p → Orderly m → registration_at m.env.book n ≡ Some r → ticket_in m.env p ≡ Some n
    → may_begin_in p r.state ≡ true → r.cause ≡ cause.Hook → MayBegin p m.env.hooks n × ((k : ℕ) → MayBegin p (hooks_left p n m.env.hooks) k → k < n)
next-hook m n r phase.Live here h there next may why = absurd (none-due m.env n r h.hooked (ap is_from_finals_on here) there why may)
next-hook m n r phase.Hooks here h there next may why = (last-among m.env.hooks n next, left-below m.env.hooks n h.hooked.rise next)
next-hook m n r phase.Finals here h there next may why =
    let over : is_owed r.state ≡ false = registered-holds IsSpent n m.env.book r there (h.spent (ap is_drained here)) why in
    let no : true ≡ false = sym ((leaves-in phase.Finals).before r.state may) ∙ over in
    cc
next-hook m n r _ here h there next may why = cc

hooks-next : (m : Machine) (s : Step) → Orderly m → StepCase m s → IsTrue s.may → AtMostOne (IsNextHook m.env s.after.env) (hooks_told s.entry)
hooks-next m _ h (calls c n may alone) comes = none-told _ _ (asked-plain m.env c n).hooks
hooks-next m _ h (ends v cut may alone) comes = none-told _ _ (ended-plain v cut m.env).hooks
hooks-next m _ h opens comes = no_ticket
hooks-next m _ h (inits n) comes = no_ticket
hooks-next m _ h (begins n r there next may) comes = by (is_hook_cause r.cause) (is-hook r.cause)
  where
    by : (b : Bool) → (b ≡ true → r.cause ≡ cause.Hook) → AtMostOne (λ t. MayBeginAt m.env t × ((k : ℕ) → MayBegin m.env.phase (hooks_left m.env.phase n m.env.hooks) k → k < t)) (cond b (n ∷ []) [])
    by true why = one_ticket n (next-hook m n r m.env.phase refl h there next may (why refl))
    by false why = no_ticket
hooks-next m _ h (vanishes last) comes = no_ticket
hooks-next m _ h (shares c o shared answers) comes = none-told _ _ (shares-plain m c o).hooks
hooks-next m _ h (leaves v cut may ours) comes = none-told _ _ (leaves-plain m v cut).hooks
hooks-next m _ h (passes p o q) comes = none-told _ _ (ap hooks_told q.entry ∙ ap (λ b. cond b (told_hook o) []) (passed-begins p))
hooks-next m _ h (abandons here far none alone) comes = no_ticket
hooks-next m _ h (moves move next moving alone) comes = none-told _ _ (moves-plain m move next).hooks
hooks-next m _ h (others x other) comes = none-told _ _ (others-plain m x other comes).hooks

-- WHAT IS LEFT TO THE END
-- the hub starts no phase after that of `finals`
late-next : (q p : Phase) → next_phase q ≡ Some p → p ≢ phase.Gone → is_from_finals_on q ≡ true → ⊥
late-next phase.Finals p next never late = let same : phase.Gone ≡ p = cc in never (sym same)
late-next _ p next never late = cc

-- what is late stays late, and what is due then was due before
late-stays : (m : Machine) (s : Step) → StepCase m s → is_from_finals_on m.env.phase ≡ true → is_from_finals_on s.after.env.phase ≡ true
late-stays m _ (calls c n may alone) late =
    ap is_from_finals_on (course-parts m.env (asked_change m.env c n).after (asked_change-fits m.env c n).course).phase ∙ late
late-stays m _ (ends v cut may alone) late =
    ap is_from_finals_on (course-parts m.env (end_change v cut m.env).after (ended-keeps v cut m.env).course).phase ∙ late
late-stays m _ (vanishes last) late = refl
late-stays m _ (shares c o shared answers) late = ap is_from_finals_on (shares-still m c o).phase ∙ late
late-stays m _ (leaves v cut may ours) late =
    ap is_from_finals_on (course-parts m.env (end_change v cut m.env).after (ended-keeps v cut m.env).course).phase ∙ late
late-stays m _ (passes p o q) late = absurd (late-next m.env.phase p q.next q.never late)
late-stays m _ (moves move next moving alone) late = ap is_from_finals_on (moves-still m move).phase ∙ late
late-stays m _ _ late = late

begun-late : (p : Phase) → is_from_finals_on p ≡ true → begun_in p ≡ made_begun
begun-late phase.Finals late = refl
begun-late phase.Gone late = refl
begun-late _ late = cc

ended-due : (e : Environment) (v : Option HandleId) (cut : Option Why) → NoneRegistered e.book → (n : ℕ) → is_at is_due (end_change v cut e).after.book n ≡ true → is_at is_due e.book n ≡ true
ended-due e v cut none n due =
    let c : Cause = cause_of e.frames in
    let d : Option Duty = duty_of e.frames in
    (left-more c d e.book).due none n (ap (λ b. is_at is_due b n) (sym (left-parts e (end_change v cut e).after (ended-keeps v cut e)).book) ∙ due)

still-due : (m n : Machine) → StandsStill m n → (t : ℕ) → is_at is_due n.env.book t ≡ true → is_at is_due m.env.book t ≡ true
still-due m n still t due = ap (λ book. is_at is_due book t) (sym (registry-parts (registry_of m.env) n.env still.registry).book) ∙ due

due-fewer : (m : Machine) (s : Step) → Orderly m → StepCase m s → is_from_finals_on m.env.phase ≡ true → (n : ℕ) → is_at is_due s.after.env.book n ≡ true
    → is_at is_due m.env.book n ≡ true
due-fewer m _ h (calls c n may alone) late = (asked-more m.env c n (late-tears m.env.phase late)).due (h.settled late)
due-fewer m _ h (ends v cut may alone) late = ended-due m.env v cut (h.settled late)
due-fewer m _ h (begins n r there next may) late =
    λ t due. (begun-more n m.env.book).due (h.settled late) t (ap (λ move. is_at is_due (moved_at move n m.env.book) t) (sym (begun-late m.env.phase late)) ∙ due)
due-fewer m s h (shares c o shared answers) late = still-due m s.after (shares-still m c o)
due-fewer m _ h (leaves v cut may ours) late = ended-due m.env v cut (h.settled late)
due-fewer m _ h (passes p o q) late = absurd (late-next m.env.phase p q.next q.never late)
due-fewer m s h (moves move next moving alone) late = still-due m s.after (moves-still m move)
due-fewer m _ h _ late = λ t due. due

-- a ticket that is due, and below all that are due after it began
abbrev IsNextDue : Environment → Environment → ℕ → Type 0
IsNextDue e d n = (is_at is_due e.book n ≡ true) × ((k : ℕ) → is_at is_due d.book k ≡ true → n < k)

next-due : (m : Machine) (n : ℕ) (r : Registration) (p : Phase) → is_from_finals_on p ≡ true → NoneRegistered m.env.book
    → registration_at m.env.book n ≡ Some r → ticket_in m.env p ≡ Some n
    → may_begin_in p r.state ≡ true → (is_at is_due m.env.book n ≡ true) × ((k : ℕ) → is_at is_due (moved_at (begun_in p) n m.env.book) k ≡ true → n < k)
next-due m n r phase.Finals late none there next may = (
  at-state is_due m.env.book n r there ∙ may,
  λ k due. left-above m.env.book n k next none due,
)
next-due m n r phase.Gone late none there next may = cc
next-due m n r phase.Init late none there next may = cc
next-due m n r phase.Live late none there next may = cc
next-due m n r phase.Hooks late none there next may = cc
next-due m n r phase.Drain late none there next may = cc

due-next : (m : Machine) (s : Step) → Orderly m → StepCase m s → IsTrue s.may → is_from_finals_on m.env.phase ≡ true
    → AtMostOne (IsNextDue m.env s.after.env) (tickets_told s.entry)
due-next m _ h (calls c n may alone) comes late = none-told _ _ (asked-plain m.env c n).tickets
due-next m _ h (ends v cut may alone) comes late = none-told _ _ (ended-plain v cut m.env).tickets
due-next m _ h (begins n r there next may) comes late = one_ticket n (next-due m n r m.env.phase late (h.settled late) there next may)
due-next m _ h (shares c o shared answers) comes late = none-told _ _ (shares-plain m c o).tickets
due-next m _ h (leaves v cut may ours) comes late = none-told _ _ (leaves-plain m v cut).tickets
due-next m _ h (passes p o q) comes late = none-told _ _ (ap tickets_told q.entry ∙ ap (λ b. cond b (told_ticket o) []) (passed-begins p))
due-next m _ h (moves move next moving alone) comes late = none-told _ _ (moves-plain m move next).tickets
due-next m _ h (others x other) comes late = none-told _ _ (others-plain m x other comes).tickets
due-next m _ h _ comes late = no_ticket

-- it is late once `finals` has come
finals-start : (m : Machine) (s : Step) → StepCase m s → IsTrue s.may → is_finals s.entry.what ≡ true → is_from_finals_on s.after.env.phase ≡ true
finals-start m _ (calls c n may alone) comes is = let no : true ≡ false = sym is ∙ (asked-plain m.env c n).finals in cc
finals-start m _ (ends v cut may alone) comes is = let no : true ≡ false = sym is ∙ (ended-plain v cut m.env).finals in cc
finals-start m _ (shares c o shared answers) comes is = let no : true ≡ false = sym is ∙ (shares-plain m c o).finals in cc
finals-start m _ (leaves v cut may ours) comes is = let no : true ≡ false = sym is ∙ (leaves-plain m v cut).finals in cc
finals-start m _ (passes p o q) comes is = passed-finals p (sym (ap (λ (x : Entry). is_finals x.what) q.entry) ∙ is)
finals-start m _ (moves move next moving alone) comes is = let no : true ≡ false = sym is ∙ (moves-plain m move next).finals in cc
finals-start m _ (others x other) comes is = let no : true ≡ false = sym is ∙ (others-plain m x other comes).finals in cc
finals-start m _ _ comes is = cc

-- RUNS
run-hooks : (m : Machine) (bs : List Ask) (xs : List Entry) → Orderly m → IsRunBy m bs xs → TicketsFall (hooks_begun xs) × All (MayBeginAt m.env) (hooks_begun xs)
run-hooks = along-orderly (λ m bs xs. TicketsFall (hooks_begun xs) × All (MayBeginAt m.env) (hooks_begun xs)) (λ m. (tt, All-nil (MayBeginAt m.env)))
    (λ m a bs x xs h next s k rest.
    let told : AtMostOne (IsNextHook m.env (after m a x).env) (hooks_told x) =
    subst (λ (y : Entry). AtMostOne (IsNextHook m.env (after m a x).env) (hooks_told y)) (sym next.0) (hooks-next m (step m a x) h s next.1) in
    fall-more (MayBeginAt m.env) (MayBeginAt (after m a x).env) (hooks_told x) (hooks_begun xs) (hooks-fewer m (step m a x) h k s) told rest)

run-late : (m : Machine) (bs : List Ask) (xs : List Entry) → Orderly m → IsRunBy m bs xs → is_from_finals_on m.env.phase ≡ true
    → TicketsRise (tickets_begun xs) × All (λ n. is_at is_due m.env.book n ≡ true) (tickets_begun xs)
run-late =
    along-orderly (λ m bs xs. is_from_finals_on m.env.phase ≡ true → TicketsRise (tickets_begun xs) × All (λ n. is_at is_due m.env.book n ≡ true)
    (tickets_begun xs))
    (λ m late. (tt, All-nil (λ n. is_at is_due m.env.book n ≡ true)))
    (λ m a bs x xs h next s k rest late.
    let told : AtMostOne (IsNextDue m.env (after m a x).env) (tickets_told x) =
    subst (λ (y : Entry). AtMostOne (IsNextDue m.env (after m a x).env) (tickets_told y)) (sym next.0) (due-next m (step m a x) h s next.1 late) in
    rise-more (λ n. is_at is_due m.env.book n ≡ true) (λ n. is_at is_due (after m a x).env.book n ≡ true) (tickets_told x) (tickets_begun xs)
    (due-fewer m (step m a x) h s late) told (rest (late-stays m (step m a x) s late)))

run-finals : (m : Machine) (bs : List Ask) (xs : List Entry) → Orderly m → IsRunBy m bs xs → IsRunBy m bs xs × FinalsRise xs
run-finals = along-orderly (λ m bs xs. IsRunBy m bs xs × FinalsRise xs) (λ m. (tt, tt)) (λ m a bs x xs h next s k rest. (
  (next, rest.0),
  by xs rest.1 (is_finals x.what) (λ is.
      (run-late (after m a x) bs xs k rest.0 (finals-start m (step m a x) s next.1 (sym (ap (λ (y : Entry). is_finals y.what) next.0) ∙ is))).0),
))
  where
    by : (xs : List Entry) → FinalsRise xs → (b : Bool) → (b ≡ true → TicketsRise (tickets_begun xs))
        → TicketsRise (cond b (tickets_begun xs) (finals_begun xs))
    by xs rest true late = late refl
    by xs rest false late = rest

-- THE LAW
pub order-holds : (s : Setting) (bs : List Ask) (xs : List Entry) → IsRunBy (opening_of s) bs xs → HooksFall xs × FinalsRise xs
order-holds s bs xs run = ((run-hooks (opening_of s) bs xs (orderly-opens s) run).0, (run-finals (opening_of s) bs xs (orderly-opens s) run).1)
