-- Small tales that the law on shared bytes refuses: what no run tells. Beside them stand some that it admits.
use Rattle.std.proofs.Common.{◌≡◌, ◌∙◌, ◌<◌, ◌≤◌, ℕ, zero, suc, ◌+◌, ◌^◌, true, false, List, [], ◌∷◌, ◌++◌, Some, inl, inr, refl, ap, sym, subst, arith}
use Rattle.std.specs.Int.{byte_at}
use Rattle.std.proofs.lemmas.Option.{same_Some}
use Rattle.napi_types.specs.plain.Lists.{found}
use Rattle.napi_types.specs.all_runs.SharedBytes as told
use Rattle.napi_types.specs.all_runs.SharedBytes.{BufferFact, MadeView, all_views, told_byte, told_length, was_detached, element_place, HasElement, HasTheBytes, LiesWithin, FollowsBytes}

-- a buffer 6 of 8 bytes, and two views of it: 7 of two numbers of 32 bits, and 8 of eight bytes
abbrev wide : MadeView
wide = record { view = 7; buffer = 6; size = 4; offset = 0; length = 2 }

abbrev narrow : MadeView
narrow = record { view = 8; buffer = 6; size = 1; offset = 0; length = 8 }

abbrev viewed : List BufferFact
viewed = told.MakesBuffer 6 8 ∷ told.MakesView wide ∷ told.MakesView narrow ∷ []

-- 258 is written through the one: its bytes are 2, 1, 0 and 0
abbrev with_258 : List BufferFact
with_258 = viewed ++ told.Writes 7 0 258 ∷ []

-- a number that is read through a view is told by the last bytes at its places
read-byte : (ts : List BufferFact) (v at n k : ℕ) (w : MadeView) → Some w ≡ found (λ (y : MadeView). y.view) v (all_views ts) → k < w.size → FollowsBytes ts (told.Reads v at n)
    → byte_at k n ≡ told_byte ts w.buffer (element_place w at + k)
read-byte ts v at n k w seen below (told.reads_element _ _ _ x has bytes) =
    let same : w ≡ x = same_Some w x (seen ∙ has.made) in
    subst (λ y. byte_at k n ≡ told_byte ts y.buffer (element_place y at + k)) (sym same) (bytes.bytes k (subst (λ y. k < y.size) same below))

-- a view that has bytes of its own: the second byte reads 0 through the other view
pub never-own : FollowsBytes with_258 (told.Reads 8 1 0) → ⊥
never-own may = let no : 0 ≡ 1 = read-byte with_258 8 1 0 0 narrow refl (omega arith) may in absurd (omega (arith, no))

-- the greatest byte first
pub never-greatest : FollowsBytes with_258 (told.Reads 8 0 0) → ⊥
never-greatest may = let no : 0 ≡ 2 = read-byte with_258 8 0 0 0 narrow refl (omega arith) may in absurd (omega (arith, no))

-- what is read is 2 and 1
pub reads-rightly : FollowsBytes with_258 (told.Reads 8 1 1)
reads-rightly = told.reads_element 8 1 1 narrow (record { made = refl; below = omega arith; live = refl }) (record { small = omega arith; bytes = by })
  where
    by : (k : ℕ) → k < 1 → byte_at k 1 ≡ told_byte with_258 6 (1 + k)
    by zero below = refl
    by (suc k) below = absurd (omega (arith, below))

-- a byte that was written over: the least one is 5 then, and not 2 any more
abbrev overwrites : List BufferFact
overwrites = with_258 ++ told.Writes 8 0 5 ∷ []

pub never-stale : FollowsBytes overwrites (told.Reads 7 0 258) → ⊥
never-stale may = let no : 2 ≡ 5 = read-byte overwrites 7 0 258 0 wide refl (omega arith) may in absurd (omega (arith, no))

-- the bytes of another buffer, to whose view 9 nothing was written
abbrev other : MadeView
other = record { view = 10; buffer = 9; size = 1; offset = 0; length = 8 }

abbrev apart : List BufferFact
apart = with_258 ++ told.MakesBuffer 9 8 ∷ told.MakesView other ∷ []

pub never-shared : FollowsBytes apart (told.Reads 10 0 2) → ⊥
never-shared may = let no : 2 ≡ 0 = read-byte apart 10 0 2 0 other refl (omega arith) may in absurd (omega (arith, no))

-- more than the element's bytes
pub never-wider : FollowsBytes with_258 (told.Reads 8 0 258) → ⊥
never-wider (told.reads_element _ _ _ w has bytes) =
    let same : narrow ≡ w = same_Some narrow w has.made in
    let no : 258 < 256 = subst (λ y. 258 < 256 ^ y.size) (sym same) bytes.small in
    absurd (omega (arith, no))

-- an element that the view has not
pub never-past : FollowsBytes with_258 (told.Reads 8 8 0) → ⊥
never-past (told.reads_element _ _ _ w has bytes) =
    let same : narrow ≡ w = same_Some narrow w has.made in
    let no : 8 < 8 = subst (λ y. 8 < y.length) (sym same) has.below in
    absurd (omega (arith, no))

-- once the buffer is detached its views give and take nothing, and it has no bytes
abbrev gone : List BufferFact
gone = with_258 ++ told.Detaches 6 ∷ []

live-view : (w : MadeView) → Some narrow ≡ Some w → was_detached gone w.buffer ≡ false → ⊥
live-view w made live = let no : true ≡ false = ap (λ (y : MadeView). was_detached gone y.buffer) (same_Some narrow w made) ∙ live in cc

pub never-read : FollowsBytes gone (told.Reads 8 0 2) → ⊥
never-read (told.reads_element _ _ _ w has bytes) = live-view w has.made has.live

pub never-zero : FollowsBytes gone (told.Reads 8 0 0) → ⊥
never-zero (told.reads_element _ _ _ w has bytes) = live-view w has.made has.live

pub never-written : FollowsBytes gone (told.Writes 8 0 2) → ⊥
never-written (told.writes_element _ _ _ w has) = live-view w has.made has.live

pub never-again-detached : FollowsBytes gone (told.Detaches 6) → ⊥
never-again-detached (told.detaches_bytes b made live) = let no : true ≡ false = live in cc

pub never-long : FollowsBytes gone (told.Measures 6 8) → ⊥
never-long (told.measures_bytes b n long) = let no : 0 ≡ 8 = same_Some 0 8 long in absurd (omega (arith, no))

-- a view that ends past its buffer's end, or that begins at no multiple of its elements' size
abbrev wider : ℕ → ℕ → MadeView
wider offset count = record { view = 9; buffer = 6; size = 4; offset = offset; length = count }

lies-in : (w : MadeView) → FollowsBytes with_258 (told.MakesView w) → LiesWithin with_258 w
lies-in w (told.makes_window _ first second lies) = lies

pub never-outside : FollowsBytes with_258 (told.MakesView (wider 4 2)) → ⊥
never-outside may =
    let lies : LiesWithin with_258 (wider 4 2) = lies-in (wider 4 2) may in
    let eight : 8 ≡ lies.length = same_Some 8 lies.length lies.has in
    let within : 12 ≤ lies.length = lies.within in
    absurd (omega (arith, eight, within))

pub never-askew : FollowsBytes with_258 (told.MakesView (wider 2 1)) → ⊥
never-askew may = let no : 2 ≡ 0 = (lies-in (wider 2 1) may).aligned in absurd (omega (arith, no))

-- a view whose number a buffer has
pub never-reused : FollowsBytes with_258 (told.MakesBuffer 7 8) → ⊥
never-reused (told.makes_bytes b n first second) = let no : true ≡ false = second in cc
