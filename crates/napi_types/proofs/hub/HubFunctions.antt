-- The thread-safe functions by their numbers, as the hub changes them: their places, and what holds of them.
use Rattle.std.proofs.Common.{◌≡◌, ◌∙◌, ℕ, suc, ◌+◌, ◌*◌, ◌<◌, ◌≤◌, ◌==◌, Bool, true, false, not, cond, List, [], ◌∷◌, ◌++◌, length, map, refl, ap, sym, subst, arith, length-append, Option, Some, None, is_some, IfSome}
use Rattle.std.specs.List.{sum_by}
use Rattle.std.specs.Option.{option_or}
use Rattle.std.proofs.lemmas.List.Sums.{sum_by-cons}
use Rattle.napi_types.specs.declared.call.Call.{Call}
use Rattle.napi_types.specs.declared.call.Mode.{Mode}
use Rattle.napi_types.specs.declared.call.Release.{Release}
use Rattle.napi_types.specs.declared.call.Release.TheVariants as release
use Rattle.napi_types.specs.declared.entry.Actor.{Actor}
use Rattle.napi_types.specs.declared.entry.Duty.{Duty}
use Rattle.napi_types.specs.declared.entry.Duty.TheVariants as duty
use Rattle.napi_types.specs.declared.entry.TsfnState.{TsfnState}
use Rattle.napi_types.specs.declared.entry.TsfnState.TheVariants.{Open, Closing, Finished, Done}
use Rattle.napi_types.specs.declared.status.Status.{Status}
use Rattle.napi_types.specs.declared.status.Status.TheVariants as status
use Rattle.napi_types.specs.plain.CallFacts.{finalizer_places}
use Rattle.napi_types.specs.plain.Lists.{found, head, tail, singleton}
use Rattle.napi_types.specs.plain.Room.{need}
use Rattle.napi_types.specs.parts.Functions.{FunctionState, with_item_taken, is_open, is_full_queue, full_status, call_status, called, acquire_status, acquired, release_status, closed_state, closed, released, first_taken, finished, done}
use Rattle.napi_types.specs.hub.HistoryRoom.{state_places, function_places}
use Rattle.napi_types.specs.hub.HubMoves.{HubMove, Delivers, Closes, Finishes, tsfn_move_in, tsfn_move, first_move}
use Rattle.napi_types.proofs.plain.Found.{apart-above, apart-below, same-self}
use Rattle.napi_types.proofs.hub.HubCases.{Alters, calls, acquires, releases}

-- WHAT HOLDS
-- a function that is finished
abbrev pub is_over : TsfnState → Bool
is_over Finished = true
is_over Done = true
is_over _ = false

-- no item waits for one that is finished, and once the drain has come none is open
pub record IsSound (drained : Bool) (f : FunctionState) : Type 0 where
  pub settled : is_over f.state ≡ true → f.items ≡ []
  pub shut : drained ≡ true → is_open f.state ≡ false

-- so it is of all, whose numbers count up from this one
abbrev pub AreSoundFrom : Bool → ℕ → List FunctionState → Type 0
AreSoundFrom drained k [] = Unit {0}
AreSoundFrom drained k (f ∷ fs) = (f.id ≡ k) × IsSound drained f × AreSoundFrom drained (suc k) fs

pub fewer-sound : (drained early : Bool) (k : ℕ) (fs : List FunctionState) → (early ≡ true → drained ≡ true) → AreSoundFrom drained k fs → AreSoundFrom early k fs
fewer-sound drained early k [] implies sound = tt
fewer-sound drained early k (f ∷ fs) implies sound =
    (sound.0, record { settled = sound.1.settled; shut = λ is. sound.1.shut (implies is) }, fewer-sound drained early (suc k) fs implies sound.2)

-- one more, which has the next number
pub more-sound : (drained : Bool) (k : ℕ) (fs : List FunctionState) (f : FunctionState) → f.id ≡ k + length fs → IsSound drained f → AreSoundFrom drained k fs
    → AreSoundFrom drained k (fs ++ singleton f)
more-sound drained k [] f id here sound = (first k id, here, tt)
  where
    first : (k : ℕ) → f.id ≡ k + 0 → f.id ≡ k
    first k id = omega (arith, id)
more-sound drained k (g ∷ fs) f id here sound = (sound.0, sound.1, more-sound drained (suc k) fs f (next k (length fs) id) here sound.2)
  where
    next : (k n : ℕ) → f.id ≡ k + suc n → f.id ≡ suc k + n
    next k n id = omega (arith, id)

-- CHANGES
-- the functions, where that of a number is changed
abbrev pub function_changed_at : ℕ → (FunctionState → FunctionState) → List FunctionState → List FunctionState
function_changed_at n change fs = map (λ (f : FunctionState). cond (f.id == n) (change f) f) fs

unchanged-from : (drained : Bool) (k n : ℕ) (change : FunctionState → FunctionState) (fs : List FunctionState) → AreSoundFrom drained k fs → n < k → function_changed_at n change fs ≡ fs
unchanged-from drained k n change [] sound below = refl
unchanged-from drained k n change (f ∷ fs) sound below =
    ap (λ b. cond b (change f) f ∷ function_changed_at n change fs) (apart-above n f.id (omega (arith, below, sound.0)))
    ∙ ap (λ gs. f ∷ gs) (unchanged-from drained (suc k) n change fs sound.2 (omega (arith, below)))

-- a function is among them, and a change of it changes no other
pub record IsAmong (drained : Bool) (k : ℕ) (fs : List FunctionState) (f : FunctionState) : Type 0 where
  pub above : k ≤ f.id
  pub sound : IsSound drained f
  pub places : (change : FunctionState → FunctionState) → sum_by function_places (function_changed_at f.id change fs) + function_places f ≡ sum_by function_places fs + function_places (change f)
  pub kept : (change : FunctionState → FunctionState) → (change f).id ≡ f.id → IsSound drained (change f) → AreSoundFrom drained k (function_changed_at f.id change fs)

among-first : (drained : Bool) (k : ℕ) (f : FunctionState) (fs : List FunctionState) → AreSoundFrom drained k (f ∷ fs) → IsAmong drained k (f ∷ fs) f
among-first drained k f fs sound = record {
  above = omega (arith, sound.0);
  sound = sound.1;
  places = λ change. rw (same change) (sum function_places (change f));
  kept = λ change id here. subst (AreSoundFrom drained k) (sym (same change)) (id ∙ sound.0, here, sound.2);
}
  where
    same : (change : FunctionState → FunctionState) → function_changed_at f.id change (f ∷ fs) ≡ change f ∷ fs
    same change =
        ap (λ b. cond b (change f) f ∷ function_changed_at f.id change fs) (same-self f.id)
        ∙ ap (λ gs. change f ∷ gs) (unchanged-from drained (suc k) f.id change fs sound.2 (omega (arith, sound.0)))

    sum : (places : FunctionState → ℕ) (g : FunctionState) → sum_by places (g ∷ fs) + places f ≡ sum_by places (f ∷ fs) + places g
    sum places g = omega (arith, sum_by-cons places g fs, sum_by-cons places f fs)

among-later : (drained : Bool) (k : ℕ) (g f : FunctionState) (fs : List FunctionState) → AreSoundFrom drained k (g ∷ fs) → IsAmong drained (suc k) fs f → IsAmong drained k (g ∷ fs) f
among-later drained k g f fs sound later = record {
  above = omega (arith, later.above);
  sound = later.sound;
  places = λ change. rw (same change) (sum function_places (change f) (function_changed_at f.id change fs) (later.places change));
  kept = λ change id here. subst (AreSoundFrom drained k) (sym (same change)) (sound.0, sound.1, later.kept change id here);
}
  where
    same : (change : FunctionState → FunctionState) → function_changed_at f.id change (g ∷ fs) ≡ g ∷ function_changed_at f.id change fs
    same change = ap (λ b. cond b (change g) g ∷ function_changed_at f.id change fs) (apart-below g.id f.id (omega (arith, sound.0, later.above)))

    sum : (places : FunctionState → ℕ) (h : FunctionState) (gs : List FunctionState) → sum_by places gs + places f ≡ sum_by places fs + places h
        → sum_by places (g ∷ gs) + places f ≡ sum_by places (g ∷ fs) + places h
    sum places h gs rest = omega (arith, rest, sum_by-cons places g gs, sum_by-cons places g fs)

-- that of a number is
pub found-among : (drained : Bool) (k n : ℕ) (fs : List FunctionState) (f : FunctionState) → AreSoundFrom drained k fs → found (λ (g : FunctionState). g.id) n fs ≡ Some f
    → IsAmong drained k fs f
found-among drained k n [] f sound is = let no : ⊥ = cc in absurd no
found-among drained k n (g ∷ fs) f sound is = by (g.id == n) is (found-among drained (suc k) n fs f sound.2)
  where
    by : (b : Bool) → cond b (Some g) (found (λ (g : FunctionState). g.id) n fs) ≡ Some f → (found (λ (g : FunctionState). g.id) n fs ≡ Some f → IsAmong drained (suc k) fs f)
        → IsAmong drained k (g ∷ fs) f
    by true here rest = let it : g ≡ f = cc in subst (λ y. IsAmong drained k (g ∷ fs) y) it (among-first drained k g fs sound)
    by false later rest = among-later drained k g f fs sound (rest later)

-- WHAT A CALL DOES
-- a function that comes from another has its number, is sound where that is, and takes no more places than these
pub record FunctionGrows (drained : Bool) (places : ℕ) (f g : FunctionState) : Type 0 where
  pub id : g.id ≡ f.id
  pub sound : IsSound drained f → IsSound drained g
  pub room : function_places g + 1 ≤ function_places f + places

same-grows : (drained : Bool) (f : FunctionState) → FunctionGrows drained 1 f f
same-grows drained f = record { id = refl; sound = λ s. s; room = omega arith }

-- of an open one
pub called-open : (who : Actor) (m : Mode) (f : FunctionState) → call_status who m f ≡ Some status.Ok → is_open f.state ≡ true
called-open who m f is = by (f.count == 0) (is_open f.state) is
  where
    by : (none opened : Bool) → cond none (Some status.InvalidArg) (cond (not opened) (Some status.Closing) (cond (is_full_queue f) (full_status who m) (Some status.Ok))) ≡ Some status.Ok → opened ≡ true
    by true opened is = cc
    by false true is = refl
    by false false is = cc

over-open : (s : TsfnState) → is_open s ≡ true → is_over s ≡ true → ⊥
over-open Open opened over = cc
over-open _ opened over = cc

item-more : (p n m : ℕ) → m ≡ n + 1 → p + 2 * m + 1 ≤ p + 2 * n + 3
item-more p n m e = omega (arith, e)

called-grows : (drained : Bool) (f : FunctionState) (payload : ℕ) (s : Status) → (s ≡ status.Ok → is_open f.state ≡ true) → FunctionGrows drained 3 f (called (Some s) payload f)
called-grows drained f payload status.Ok opened = record {
  id = refl;
  sound = λ s. record { settled = λ over. absurd (over-open f.state (opened refl) over); shut = s.shut };
  room = item-more (state_places f.finalizer f.state) (length f.items) (length (f.items ++ singleton payload)) (length-append f.items (singleton payload));
}
called-grows drained f payload status.Closing opened = record { id = refl; sound = λ s. record { settled = s.settled; shut = s.shut }; room = omega arith }
called-grows drained f payload _ opened = record { id = refl; sound = λ s. s; room = omega arith }

acquired-grows : (drained : Bool) (f : FunctionState) (s : Status) → FunctionGrows drained 1 f (acquired s f)
acquired-grows drained f status.Ok = record { id = refl; sound = λ s. record { settled = s.settled; shut = s.shut }; room = omega arith }
acquired-grows drained f _ = record { id = refl; sound = λ s. s; room = omega arith }

-- a function that is closed
closed-over : (s : TsfnState) → is_over (closed_state s) ≡ is_over s
closed-over Open = refl
closed-over _ = refl

closed-shut : (s : TsfnState) → is_open (closed_state s) ≡ false
closed-shut Open = refl
closed-shut _ = refl

closed-sound : (drained late : Bool) (f : FunctionState) → IsSound drained f → IsSound late (closed f)
closed-sound drained late f s = record { settled = λ over. s.settled (sym (closed-over f.state) ∙ over); shut = λ is. closed-shut f.state }

closed-places : (finalizer : Option ℕ) (s : TsfnState) → state_places finalizer (closed_state s) ≤ state_places finalizer s
closed-places finalizer Open = omega arith
closed-places finalizer _ = omega arith

pub closed-le : (f : FunctionState) → function_places (closed f) ≤ function_places f
closed-le f = omega (arith, closed-places f.finalizer f.state)

pub all_closed-sound : (drained late : Bool) (k : ℕ) (fs : List FunctionState) → AreSoundFrom drained k fs → AreSoundFrom late k (map closed fs)
all_closed-sound drained late k [] sound = tt
all_closed-sound drained late k (f ∷ fs) sound = (sound.0, closed-sound drained late f sound.1, all_closed-sound drained late (suc k) fs sound.2)

pub all_closed-le : (fs : List FunctionState) → sum_by function_places (map closed fs) ≤ sum_by function_places fs
all_closed-le [] = omega arith
all_closed-le (f ∷ fs) =
    omega (arith, closed-le f, all_closed-le fs, sum_by-cons function_places (closed f) (map closed fs), sum_by-cons function_places f fs)

released-grows : (drained : Bool) (f : FunctionState) (s : Status) (m : Release) → FunctionGrows drained 1 f (released s m f)
released-grows drained f status.Ok release.Release = record { id = refl; sound = λ s. record { settled = s.settled; shut = s.shut }; room = omega arith }
released-grows drained f status.Ok release.Abort = record {
  id = refl;
  sound = λ s. let k : IsSound drained (closed f) = closed-sound drained drained f s in record { settled = k.settled; shut = k.shut };
  room = omega (arith, closed-places f.finalizer f.state);
}
released-grows drained f _ m = record { id = refl; sound = λ s. s; room = omega arith }

pub alters-grows : (drained : Bool) (f : FunctionState) (c : Call) (change : FunctionState → FunctionState) → Alters f c change → FunctionGrows drained (need c) f (change f)
alters-grows drained f _ _ (calls n payload m who s tells) = called-grows drained f payload s (λ is. called-open who m f (tells ∙ ap Some is))
alters-grows drained f _ _ (acquires n) = acquired-grows drained f (acquire_status f)
alters-grows drained f _ _ (releases n m) = released-grows drained f (release_status f) m
alters-grows drained f _ _ _ = record { id = refl; sound = λ s. record { settled = s.settled; shut = s.shut }; room = omega arith }

-- WHAT A MOVE DOES
-- one that takes so many places less
pub record Falls (drained : Bool) (places : ℕ) (f g : FunctionState) : Type 0 where
  pub id : g.id ≡ f.id
  pub sound : IsSound drained f → IsSound drained g
  pub room : function_places g + places ≤ function_places f

abbrev pub DutyFalls : Bool → FunctionState → Duty → Type 0
DutyFalls drained f (duty.Item g n) = (g.0 ≡ f.id) × Falls drained 2 f (first_taken f)
DutyFalls drained f (duty.Function g) = (g.0 ≡ f.id) × Falls drained 2 f (done f)
DutyFalls drained f (duty.Work n) = ⊥
DutyFalls drained f (duty.Ticket t) = ⊥

abbrev pub MoveFalls : Bool → FunctionState → HubMove → Type 0
MoveFalls drained f (Delivers d) = DutyFalls drained f d.duty
MoveFalls drained f (Closes n) = (n ≡ f.id) × Falls drained 1 f (closed f)
MoveFalls drained f (Finishes n) = (n ≡ f.id) × Falls drained 1 f (finished f)

taken-falls : (drained : Bool) (f : FunctionState) (payload : ℕ) (later : List ℕ) → is_over f.state ≡ false → f.items ≡ payload ∷ later → Falls drained 2 f (first_taken f)
taken-falls drained f payload later over items =
    let is : first_taken f ≡ with_item_taken f = ap (λ o. cond (is_some (head o)) (with_item_taken f) f) items in
    subst (λ g. Falls drained 2 f g) (sym is) (record {
      id = refl;
      sound = λ s. record { settled = λ yes. let no : false ≡ true = sym over ∙ yes in cc; shut = s.shut };
      room = fewer (state_places f.finalizer f.state) (length (tail f.items)) (length later) (length f.items) (ap (λ o. length (tail o)) items) (ap length items);
    })
  where
    fewer : (p m n k : ℕ) → m ≡ n → k ≡ suc n → p + 2 * m + 2 ≤ p + 2 * k
    fewer p m n k e h = omega (arith, e, h)

finished-places : (o : Option ℕ) → state_places o (cond (is_some o) Finished Done) + 1 ≤ 1 + finalizer_places o
finished-places None = omega arith
finished-places (Some entry) = omega arith

finished-shut : (b : Bool) → is_open (cond b Finished Done) ≡ false
finished-shut true = refl
finished-shut false = refl

finished-falls : (drained : Bool) (f : FunctionState) → f.state ≡ Closing → f.items ≡ [] → Falls drained 1 f (finished f)
finished-falls drained f is items = record {
  id = refl;
  sound = λ s. record { settled = λ over. items; shut = λ d. finished-shut (is_some f.finalizer) };
  room = rw is (omega (arith, finished-places f.finalizer));
}

move_in-falls : (drained : Bool) (f : FunctionState) (s : TsfnState) (items : List ℕ) → f.state ≡ s → f.items ≡ items
    → IfSome (tsfn_move_in f s items) (MoveFalls drained f)
move_in-falls drained f Open [] is items = by (f.count == 0)
  where
    by : (b : Bool) → IfSome (cond b (Some (Closes f.id)) None) (MoveFalls drained f)
    by true = (refl, record { id = refl; sound = closed-sound drained drained f; room = rw is (omega arith) })
    by false = tt
move_in-falls drained f Open (payload ∷ later) is items = (refl, taken-falls drained f payload later (ap is_over is) items)
move_in-falls drained f Closing [] is items = (refl, finished-falls drained f is items)
move_in-falls drained f Closing (payload ∷ later) is items = (refl, taken-falls drained f payload later (ap is_over is) items)
move_in-falls drained f Finished items is same =
    (refl, record { id = refl; sound = λ s. record { settled = λ over. s.settled (ap is_over is); shut = λ d. refl }; room = rw is (omega arith) })
move_in-falls drained f Done items is same = tt

-- the move is that of a function among them
pub record Moves (drained : Bool) (k : ℕ) (fs : List FunctionState) (move : HubMove) : Type 0 where
  pub function : FunctionState
  pub among : IsAmong drained k fs function
  pub falls : MoveFalls drained function move

pub first-moves : (drained : Bool) (k : ℕ) (fs : List FunctionState) (move : HubMove) → AreSoundFrom drained k fs → first_move fs ≡ Some move → Moves drained k fs move
first-moves drained k [] move sound next = let no : ⊥ = cc in absurd no
first-moves drained k (f ∷ fs) move sound next =
    by (tsfn_move f) (move_in-falls drained f f.state f.items refl refl) next (first-moves drained (suc k) fs move sound.2)
  where
    by : (o : Option HubMove) → IfSome o (MoveFalls drained f) → option_or o (first_move fs) ≡ Some move → (first_move fs ≡ Some move → Moves drained (suc k) fs move)
        → Moves drained k (f ∷ fs) move
    by (Some this) falls next rest =
        let same : this ≡ move = cc in
        record { function = f; among = among-first drained k f fs sound; falls = subst (MoveFalls drained f) same falls }
    by None falls next rest =
        let later : Moves drained (suc k) fs move = rest next in
        record { function = later.function; among = among-later drained k f later.function fs sound later.among; falls = later.falls }
