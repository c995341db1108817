-- How many items functions have accepted, as calls and moves change them.
use Rattle.std.proofs.Common.{◌≡◌, ℕ, ◌+◌, ◌≤◌, ◌==◌, Bool, true, false, cond, List, [], ◌∷◌, length-append, map, get_or, refl, arith, Option, Some, None}
use Rattle.std.specs.List.{All}
use Rattle.std.proofs.lemmas.List.Elements.{All-map}
use Rattle.napi_types.specs.declared.call.Release.{Release}
use Rattle.napi_types.specs.declared.call.Release.TheVariants as release
use Rattle.napi_types.specs.declared.entry.Duty.{Duty}
use Rattle.napi_types.specs.declared.entry.Duty.TheVariants as duty
use Rattle.napi_types.specs.declared.status.Status.{Status}
use Rattle.napi_types.specs.declared.status.Status.TheVariants as status
use Rattle.napi_types.specs.plain.Lists.{singleton}
use Rattle.napi_types.specs.parts.Functions.{FunctionState, accepted_items, called, acquired, released, closed, first_taken, finished, done}
use Rattle.napi_types.specs.hub.HubMoves.{HubMove, Delivers, Closes, Finishes}
use Rattle.tsfn.specs.FunctionList.{with_function_changed, changed_there, functions_after_duty, functions_after_move}

-- no function accepted more items than so many
abbrev pub AcceptedFew : ℕ → List FunctionState → Type 0
AcceptedFew n fs = All (λ f. accepted_items f ≤ n) fs

pub more-few : (n m : ℕ) → n ≤ m → (fs : List FunctionState) → AcceptedFew n fs → AcceptedFew m fs
more-few n m le fs few = λ i f within. let is : accepted_items (get_or fs i f) ≤ n = few i f within in omega (arith, is, le)

-- ONE IS CHANGED
changed-few : (n m k : ℕ) (change : FunctionState → FunctionState) → n ≤ m → ((f : FunctionState) → accepted_items (change f) + n ≤ accepted_items f + m) → (fs : List FunctionState)
    → AcceptedFew n fs → AcceptedFew m (with_function_changed k change fs)
changed-few n m k change le adds fs few =
    All-map (λ (f : FunctionState). accepted_items f ≤ m) (λ (f : FunctionState). cond (f.id == k) (change f) f) fs
    (λ i f within. by (get_or fs i f) ((get_or fs i f).id == k) (few i f within))
  where
    by : (g : FunctionState) (b : Bool) → accepted_items g ≤ n → accepted_items (cond b (change g) g) ≤ m
    by g true is = let more = adds g in omega (arith, more, is)
    by g false is = omega (arith, le, is)

there-few : (n m : ℕ) (change : FunctionState → FunctionState → FunctionState) → n ≤ m → ((f g : FunctionState) → accepted_items (change f g) + n ≤ accepted_items g + m)
    → (o : Option FunctionState) (fs : List FunctionState) → AcceptedFew n fs → AcceptedFew m (changed_there change o fs)
there-few n m change le adds None fs few = more-few n m le fs few
there-few n m change le adds (Some f) fs few = changed-few n m f.id (change f) le (adds f) fs few

-- CALLS
called-few : (s : Option Status) (payload : ℕ) (f : FunctionState) → accepted_items (called s payload f) ≤ accepted_items f + 1
called-few None payload f = omega arith
called-few (Some status.Ok) payload f = omega (arith, length-append f.items (singleton payload))
called-few (Some status.Closing) payload f = omega arith
called-few (Some _) payload f = omega arith

pub call-few : (n payload : ℕ) (answer : FunctionState → Option Status) (o : Option FunctionState) (fs : List FunctionState) → AcceptedFew n fs
    → AcceptedFew (n + 1) (changed_there (λ f. called (answer f) payload) o fs)
call-few n payload answer o fs few = there-few n (n + 1) (λ f. called (answer f) payload) (omega arith) (λ f g. omega (arith, called-few (answer f) payload g)) o fs few

acquired-same : (s : Status) (f : FunctionState) → accepted_items (acquired s f) ≡ accepted_items f
acquired-same status.Ok f = refl
acquired-same _ f = refl

released-same : (s : Status) (m : Release) (f : FunctionState) → accepted_items (released s m f) ≡ accepted_items f
released-same status.Ok release.Release f = refl
released-same status.Ok release.Abort f = refl
released-same _ m f = refl

-- a change that accepts none
pub kept-few : (n : ℕ) (change : FunctionState → FunctionState → FunctionState) → ((f g : FunctionState) → accepted_items (change f g) ≡ accepted_items g)
    → (o : Option FunctionState) (fs : List FunctionState) → AcceptedFew n fs → AcceptedFew n (changed_there change o fs)
kept-few n change same o fs few = there-few n n change (omega arith) (λ f g. omega (arith, same f g)) o fs few

pub acquire-few : (n : ℕ) (answer : FunctionState → Status) (o : Option FunctionState) (fs : List FunctionState) → AcceptedFew n fs
    → AcceptedFew n (changed_there (λ f. acquired (answer f)) o fs)
acquire-few n answer = kept-few n (λ f. acquired (answer f)) (λ f. acquired-same (answer f))

pub release-few : (n : ℕ) (answer : FunctionState → Status) (m : Release) (o : Option FunctionState) (fs : List FunctionState) → AcceptedFew n fs
    → AcceptedFew n (changed_there (λ f. released (answer f) m) o fs)
release-few n answer m = kept-few n (λ f. released (answer f) m) (λ f. released-same (answer f) m)

-- MOVES
taken-few : (f : FunctionState) → accepted_items (first_taken f) ≤ accepted_items f
taken-few f = by f.items refl
  where
    by : (items : List ℕ) → f.items ≡ items → accepted_items (first_taken f) ≤ accepted_items f
    by [] is = rw is (omega arith)
    by (payload ∷ later) is = rw is (omega arith)

pub move-few : (n : ℕ) (m : Option HubMove) (fs : List FunctionState) → AcceptedFew n fs → AcceptedFew n (functions_after_move m fs)
move-few n None fs few = few
move-few n (Some (Closes id)) fs few = changed-few n n id closed (omega arith) (λ f. omega arith) fs few
move-few n (Some (Finishes id)) fs few = changed-few n n id finished (omega arith) (λ f. omega arith) fs few
move-few n (Some (Delivers d)) fs few = by d.duty
  where
    by : (d : Duty) → AcceptedFew n (functions_after_duty d fs)
    by (duty.Item id k) = changed-few n n id.0 first_taken (omega arith) (λ f. omega (arith, taken-few f)) fs few
    by (duty.Function id) = changed-few n n id.0 done (omega arith) (λ f. omega arith) fs few
    by _ = few

pub close-few : (n : ℕ) (fs : List FunctionState) → AcceptedFew n fs → AcceptedFew n (map closed fs)
close-few n fs few = All-map (λ (f : FunctionState). accepted_items f ≤ n) closed fs few
