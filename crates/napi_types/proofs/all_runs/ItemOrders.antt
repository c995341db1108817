-- The items of a function are numbered as they are accepted, and begin as they were numbered.
use Rattle.std.proofs.Common.{◌≡◌, ◌∙◌, ℕ, zero, suc, ◌+◌, ◌-◌, ◌==◌, Bool, true, false, cond, List, [], ◌∷◌, ◌++◌, length, length-append, refl, ap, sym, subst, arith, Option, Some, None, option_map, is_some}
use Rattle.std.proofs.lemmas.Bool.Decides.{nat_tests}
use Rattle.std.specs.List.{range_with_len}
use Rattle.std.specs.Option.{option_or}
use Rattle.napi_types.specs.declared.call.Ask.{Ask}
use Rattle.napi_types.specs.declared.call.Release.{Release}
use Rattle.napi_types.specs.declared.call.Release.TheVariants as release
use Rattle.napi_types.specs.declared.entry.Duty.{Duty}
use Rattle.napi_types.specs.declared.entry.Duty.TheVariants as duty
use Rattle.napi_types.specs.declared.entry.Entry.{Entry}
use Rattle.napi_types.specs.declared.entry.Limits.{Limits}
use Rattle.napi_types.specs.declared.status.Status.{Status}
use Rattle.napi_types.specs.declared.status.Status.TheVariants as status
use Rattle.napi_types.specs.plain.Entries.{begun_duty}
use Rattle.napi_types.specs.plain.Lists.{head, tail, singleton}
use Rattle.napi_types.specs.parts.Functions.{FunctionState, new_function, accepted_items, called, acquired, released, with_referenced, closed, first_taken, with_item_taken, finished, done}
use Rattle.napi_types.specs.hub.Hub.{Hub, is_past_drain}
use Rattle.napi_types.specs.hub.HubCalls.{tsfn_at, item_made, finalizer_duty, new_function_number}
use Rattle.napi_types.specs.runs.Machine.{Machine}
use Rattle.napi_types.specs.runs.Run.{IsRunBy, after, final}
use Rattle.napi_types.specs.runs.Setting.{opening_of, final_of}
use Rattle.napi_types.specs.all_runs.ItemOrder.{named_item, items_made, items_begun}
use Rattle.napi_types.specs.all_runs.OnceLaws.{ItemsBeginInOrder}
use Rattle.napi_types.proofs.plain.Found.{found-append, same-self, same-tells}
use Rattle.napi_types.proofs.hub.HubDutySteps.{ChangesFunction, calls, acquires, releases, refers, closes, finishes, delivers, owes, HubDutyStep, keeps, queues, cancels, starts, works, drains, creates, changes, completes}
use Rattle.napi_types.proofs.hub.HubFunctions.{AreSoundFrom}
use Rattle.napi_types.proofs.all_runs.DutySides.{OfBook, HubSide, in_journal, in_history}
use Rattle.napi_types.proofs.all_runs.FunctionAccounts.{numbered_function, found-mapped, found-changed, found-other, none-above, keeps-id}
use Rattle.napi_types.proofs.all_runs.HubAccounts.{Accountable, sound-of, along-accountable, opens-accountable}

-- HOW FAR A FUNCTION IS
-- how many of its items were taken out, and how many were accepted; none of one that is not there
abbrev taken_of : Option FunctionState → ℕ
taken_of None = 0
taken_of (Some f) = f.taken

abbrev accepted_of : Option FunctionState → ℕ
accepted_of None = 0
accepted_of (Some f) = accepted_items f

-- these numbers are the next ones after a count, which they raise
record CountsOn (ns : List ℕ) (old new : ℕ) : Type 0 where
  pub told : ns ≡ range_with_len (old + 1) (length ns)
  pub raised : new ≡ old + length ns

none-told : (ns : List ℕ) (old new : ℕ) → ns ≡ [] → new ≡ old → CountsOn ns old new
none-told ns old new none same = subst (λ l. CountsOn l old new) (sym none) (record { told = refl; raised = same ∙ plus old })
  where
    plus : (n : ℕ) → n ≡ n + 0
    plus n = omega arith

one-told : (ns : List ℕ) (old new : ℕ) → ns ≡ (old + 1) ∷ [] → new ≡ old + 1 → CountsOn ns old new
one-told ns old new is more = subst (λ l. CountsOn l old new) (sym is) (record { told = refl; raised = more })

-- a step of one function, and of the one of a number
record OrdersItems (f : ℕ) (made begun : Option Duty) (o p : Option FunctionState) : Type 0 where
  pub accepted : CountsOn (named_item f made) (accepted_of o) (accepted_of p)
  pub taken : CountsOn (named_item f begun) (taken_of o) (taken_of p)

silent : (f : ℕ) (made begun : Option Duty) (o p : Option FunctionState) → named_item f made ≡ [] → named_item f begun ≡ [] → accepted_of p ≡ accepted_of o
    → taken_of p ≡ taken_of o
    → OrdersItems f made begun o p
silent f made begun o p unmade unbegun accepted taken =
    record { accepted = none-told (named_item f made) (accepted_of o) (accepted_of p) unmade accepted; taken = none-told (named_item f begun) (taken_of o) (taken_of p) unbegun taken }

still : (f : FunctionState) (g : FunctionState) → g.taken ≡ f.taken → g.items ≡ f.items → OrdersItems f.id None None (Some f) (Some g)
still f g taken items = silent f.id None None (Some f) (Some g) refl refl (rw (taken, items) refl) taken

its-own : (f : FunctionState) (n : ℕ) → named_item f.id (Some (duty.Item (record { 0 = f.id }) n)) ≡ n ∷ []
its-own f n = ap (λ b. cond b (n ∷ []) []) (same-self f.id)

called-orders : (f : FunctionState) (payload : ℕ) (s : Status) → OrdersItems f.id (item_made s f) None (Some f) (Some (called (Some s) payload f))
called-orders f payload status.Ok = record {
  accepted =
      one-told (named_item f.id (item_made status.Ok f)) (accepted_items f) (f.taken + length (f.items ++ singleton payload)) (its-own f (accepted_items f + 1))
      (let more = length-append f.items (singleton payload) in omega (arith, more));
  taken = none-told [] f.taken f.taken refl refl;
}
called-orders f payload status.Closing = still f (record f { count = f.count - 1 }) refl refl
called-orders f payload _ = still f f refl refl

change-orders : (f : FunctionState) (change : FunctionState → FunctionState) (made begun : Option Duty) → ChangesFunction f change made begun
    → OrdersItems f.id made begun (Some f) (Some (change f))
change-orders f _ _ _ (calls payload s) = called-orders f payload s
change-orders f _ _ _ (acquires s) = by s
  where
    by : (s : Status) → OrdersItems f.id None None (Some f) (Some (acquired s f))
    by status.Ok = still f (record f { count = f.count + 1 }) refl refl
    by _ = still f f refl refl
change-orders f _ _ _ (releases s m) = by s m
  where
    by : (s : Status) (m : Release) → OrdersItems f.id None None (Some f) (Some (released s m f))
    by status.Ok release.Release = still f (released status.Ok release.Release f) refl refl
    by status.Ok release.Abort = still f (released status.Ok release.Abort f) refl refl
    by _ m = still f f refl refl
change-orders f _ _ _ (refers b) = still f (with_referenced b f) refl refl
change-orders f _ _ _ closes = still f (closed f) refl refl
change-orders f _ _ _ (finishes is) = still f (finished f) refl refl
change-orders f _ _ _ (delivers payload later items) =
    let is : first_taken f ≡ with_item_taken f = ap (λ o. cond (is_some (head o)) (with_item_taken f) f) items in
    let left : length (tail f.items) ≡ length later = ap (λ l. length (tail l)) items in
    let all : length f.items ≡ suc (length later) = ap length items in
    subst (λ g. OrdersItems f.id None (Some (duty.Item (record { 0 = f.id }) (f.taken + 1))) (Some f) (Some g)) (sym is) (record {
      accepted = none-told [] (accepted_items f) (f.taken + 1 + length (tail f.items)) refl (omega (arith, left, all));
      taken = one-told _ f.taken (f.taken + 1) (its-own f (f.taken + 1)) refl;
    })
change-orders f _ _ _ (owes is) = silent f.id None _ (Some f) (Some (done f)) refl refl refl refl

-- those of other functions
record IsSilent (f : ℕ) (made begun : Option Duty) : Type 0 where
  pub made_none : named_item f made ≡ []
  pub begun_none : named_item f begun ≡ []

other-made : (k : ℕ) (f : FunctionState) (s : Status) → (f.id == k) ≡ false → named_item k (item_made s f) ≡ []
other-made k f status.Ok apart = ap (λ b. cond b ((accepted_items f + 1) ∷ []) []) apart
other-made k f _ apart = refl

change-silent : (k : ℕ) (f : FunctionState) (change : FunctionState → FunctionState) (made begun : Option Duty) → (f.id == k) ≡ false
    → ChangesFunction f change made begun → IsSilent k made begun
change-silent k f _ _ _ apart (calls payload s) = record { made_none = other-made k f s apart; begun_none = refl }
change-silent k f _ _ _ apart (delivers payload later is) = record { made_none = refl; begun_none = ap (λ b. cond b ((f.taken + 1) ∷ []) []) apart }
change-silent k f _ _ _ apart (acquires s) = record { made_none = refl; begun_none = refl }
change-silent k f _ _ _ apart (releases s m) = record { made_none = refl; begun_none = refl }
change-silent k f _ _ _ apart (refers b) = record { made_none = refl; begun_none = refl }
change-silent k f _ _ _ apart closes = record { made_none = refl; begun_none = refl }
change-silent k f _ _ _ apart (finishes is) = record { made_none = refl; begun_none = refl }
change-silent k f _ _ _ apart (owes is) = record { made_none = refl; begun_none = refl }

same-orders : (k : ℕ) (h n : Hub) (made begun : Option Duty) → named_item k made ≡ [] → named_item k begun ≡ [] → tsfn_at n k ≡ tsfn_at h k
    → OrdersItems k made begun (tsfn_at h k) (tsfn_at n k)
same-orders k h n made begun unmade unbegun same =
    silent k made begun (tsfn_at h k) (tsfn_at n k) unmade unbegun (ap accepted_of same) (ap taken_of same)

finalizer-silent : (k n : ℕ) (o : Option ℕ) → named_item k (finalizer_duty n o) ≡ []
finalizer-silent k n None = refl
finalizer-silent k n (Some entry) = refl

duty-orders : (late : Bool) (k : ℕ) (h : Hub) (made begun started : Option Duty) (s : Status) (n : Hub) → AreSoundFrom late 1 h.functions
    → HubDutyStep h made begun started s n
    → OrdersItems k made begun (tsfn_at h k) (tsfn_at n k)
duty-orders late k h _ _ _ _ _ sound (keeps s n e) = same-orders k h n None None refl refl (ap (numbered_function k) e.functions)
duty-orders late k h _ _ _ _ _ sound (queues s id) = same-orders k h h _ None refl refl refl
duty-orders late k h _ _ _ _ _ sound (cancels s m n waits is) = same-orders k h n None None refl refl (ap (λ (g : Hub). numbered_function k g.functions) is)
duty-orders late k h _ _ _ _ _ sound (starts s w m later waits free) = same-orders k h h None None refl refl refl
duty-orders late k h _ _ _ _ _ sound (works s w m runs) = same-orders k h h None None refl refl refl
duty-orders late k h _ _ _ _ _ sound (completes o os n first pool functions) = same-orders k h n None _ refl refl (ap (numbered_function k) functions)
duty-orders late k h _ _ _ _ _ sound (drains s n pool functions) =
    let now : tsfn_at n k ≡ option_map closed (tsfn_at h k) = ap (numbered_function k) functions ∙ found-mapped k closed (λ y. refl) h.functions in
    silent k None None (tsfn_at h k) (tsfn_at n k) refl refl (ap accepted_of now ∙ accepted (tsfn_at h k)) (ap taken_of now ∙ taken (tsfn_at h k))
  where
    accepted : (o : Option FunctionState) → accepted_of (option_map closed o) ≡ accepted_of o
    accepted None = refl
    accepted (Some f) = refl

    taken : (o : Option FunctionState) → taken_of (option_map closed o) ≡ taken_of o
    taken None = refl
    taken (Some f) = refl
duty-orders late k h _ _ _ _ _ sound (creates s addon target maximum count finalizer context) = by (new_function_number h == k) refl
  where
    new : FunctionState
    new = new_function (new_function_number h) addon target maximum count finalizer context

    now : numbered_function k (h.functions ++ singleton new) ≡ option_or (tsfn_at h k) (cond (new_function_number h == k) (Some new) None)
    now = found-append (λ (f : FunctionState). f.id) k h.functions (singleton new)

    left : (o : Option FunctionState) → option_or o None ≡ o
    left None = refl
    left (Some f) = refl

    by : (b : Bool) → (new_function_number h == k) ≡ b
        → OrdersItems k (finalizer_duty (new_function_number h) finalizer) None (tsfn_at h k) (numbered_function k (h.functions ++ singleton new))
    by true is =
        let of : new_function_number h ≡ k = same-tells (new_function_number h) k is in
        let before : tsfn_at h k ≡ None = none-above late 1 k h.functions sound (omega (arith, of)) in
        let there : numbered_function k (h.functions ++ singleton new) ≡ Some new = now ∙ ap
        (λ o. option_or o (cond (new_function_number h == k) (Some new) None)) before ∙ ap (λ b. cond b (Some new) None) is in
        silent k _ None (tsfn_at h k) (numbered_function k (h.functions ++ singleton new)) (finalizer-silent k (new_function_number h) finalizer) refl
        (ap accepted_of there ∙ sym (ap accepted_of before)) (ap taken_of there ∙ sym (ap taken_of before))
    by false is =
        let there : numbered_function k (h.functions ++ singleton new) ≡ tsfn_at h k = now ∙ ap (λ b. option_or (tsfn_at h k) (cond b (Some new) None)) is
        ∙ left
        (tsfn_at h k) in
        silent k _ None (tsfn_at h k) (numbered_function k (h.functions ++ singleton new)) (finalizer-silent k (new_function_number h) finalizer) refl
        (ap accepted_of there) (ap taken_of there)
duty-orders late k h _ _ _ _ _ sound (changes s f change made begun n there how pool functions) = by (f.id == k) refl
  where
    turned : (a b : ℕ) (c : Bool) → (a == b) ≡ c → (b == a) ≡ c
    turned a b c is = grind (arith, nat_tests)

    by : (b : Bool) → (f.id == k) ≡ b → OrdersItems k made begun (tsfn_at h k) (tsfn_at n k)
    by true is =
        let now : numbered_function f.id n.functions ≡ Some (change f) = ap (numbered_function f.id) functions ∙ found-changed f change (keeps-id f change made begun how) h.functions there in
        subst (λ j. OrdersItems j made begun (tsfn_at h j) (tsfn_at n j)) (same-tells f.id k is)
        (subst (λ o. OrdersItems f.id made begun o (tsfn_at n f.id)) (sym there)
        (subst (λ o. OrdersItems f.id made begun (Some f) o) (sym now) (change-orders f change made begun how)))
    by false is =
        let none : IsSilent k made begun = change-silent k f change made begun is how in
        same-orders k h n made begun none.made_none none.begun_none
        (ap (numbered_function k) functions ∙ found-other k f.id change (keeps-id f change made begun how) h.functions (turned f.id k false is))

-- OVER A RUN
book-silent : (k : ℕ) (o : Option Duty) → OfBook o → named_item k o ≡ []
book-silent k None book = refl
book-silent k (Some (duty.Ticket t)) book = refl
book-silent k (Some (duty.Work n)) book = refl
book-silent k (Some (duty.Item g n)) book = cc
book-silent k (Some (duty.Function g)) book = refl

side-orders : (late : Bool) (k : ℕ) (h : Hub) (x : Entry) (n : Hub) → AreSoundFrom late 1 h.functions → HubSide h x n
    → OrdersItems k x.reply.made (begun_duty x.what x.reply.out) (tsfn_at h k) (tsfn_at n k)
side-orders late k h x _ sound (in_journal n same spares) =
    same-orders k h n _ _ (book-silent k x.reply.made spares.made) (book-silent k (begun_duty x.what x.reply.out) spares.begun)
    (ap (λ (g : Hub). tsfn_at g k) same)
side-orders late k h x _ sound (in_history n undropped step) = duty-orders late k h _ _ _ _ n sound step

-- from a count on
counts-cons : (ns ms : List ℕ) (old mid new : ℕ) → CountsOn ns old mid → CountsOn ms mid new → CountsOn (ns ++ ms) old new
counts-cons ns ms old mid new first later = record {
  told = ap (λ l. l ++ ms) first.told ∙ ap (λ l. range_with_len (old + 1) (length ns) ++ l) later.told
      ∙ ap (λ k. range_with_len (old + 1) (length ns) ++ range_with_len k (length ms)) (next first.raised)
      ∙ sym (range-append (old + 1) (length ns) (length ms)) ∙ ap (range_with_len (old + 1)) (sym (length-append ns ms));
  raised = let sum = length-append ns ms in let a = first.raised in let b = later.raised in omega (arith, sum, a, b);
}
  where
    next : mid ≡ old + length ns → mid + 1 ≡ old + 1 + length ns
    next h = omega (arith, h)

    range-append : (a n m : ℕ) → range_with_len a (n + m) ≡ range_with_len a n ++ range_with_len (a + n) m
    range-append a zero m = ap (λ k. range_with_len a k) (zero-plus m) ∙ ap (λ k. range_with_len k m) (plus a)
      where
        zero-plus : (k : ℕ) → 0 + k ≡ k
        zero-plus k = omega arith

        plus : (k : ℕ) → k ≡ k + 0
        plus k = omega arith
    range-append a (suc n) m =
        ap (range_with_len a) (over n m) ∙ ap (λ l. a ∷ l) (range-append (a + 1) n m ∙ ap (λ k. range_with_len (a + 1) n ++ range_with_len k m) (shift a n))
      where
        over : (n m : ℕ) → suc n + m ≡ suc (n + m)
        over n m = omega arith

        shift : (a n : ℕ) → a + 1 + n ≡ a + suc n
        shift a n = omega arith

record RunOrders (k : ℕ) (h : Hub) (xs : List Entry) (n : Hub) : Type 0 where
  pub accepted : CountsOn (items_made k xs) (accepted_of (tsfn_at h k)) (accepted_of (tsfn_at n k))
  pub taken : CountsOn (items_begun k xs) (taken_of (tsfn_at h k)) (taken_of (tsfn_at n k))

run-orders : (k : ℕ) (l : Limits) (m : Machine) (bs : List Ask) (xs : List Entry) → Accountable l m → IsRunBy m bs xs → RunOrders k m.hub xs (final m bs xs).hub
run-orders k l =
    along-accountable l (λ m bs xs. RunOrders k m.hub xs (final m bs xs).hub)
    (λ m. record { accepted = none-told [] _ _ refl refl; taken = none-told [] _ _ refl refl })
    (λ m b bs x xs a next side later.
    let first : OrdersItems k x.reply.made (begun_duty x.what x.reply.out) (tsfn_at m.hub k) (tsfn_at (after m b x).hub k) =
    side-orders (is_past_drain m.hub.stage) k m.hub x (after m b x).hub (sound-of l m a) side in
    record {
      accepted = counts-cons (named_item k x.reply.made) (items_made k xs) _ _ _ first.accepted later.accepted;
      taken = counts-cons (named_item k (begun_duty x.what x.reply.out)) (items_begun k xs) _ _ _ first.taken later.taken;
    })

pub items-in-order : ItemsBeginInOrder
items-in-order s bs xs f run =
    let k : RunOrders f (opening_of s).hub xs (final_of s bs xs).hub = run-orders f s.limits (opening_of s) bs xs (opens-accountable s) run.steps in
    record { made = k.accepted.told; begun = k.taken.told }
