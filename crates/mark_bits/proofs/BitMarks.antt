-- Marks, as the bits of words tell them.
use Rattle.std.proofs.Common.{◌≡◌, ◌≢◌, ℕ, ◌+◌, ◌-◌, ◌*◌, ◌/◌, ◌%◌, ◌^◌, ◌<◌, ◌≤◌, ◌==◌, ◌⊎◌, inl, inr, ◌++◌, Bool, true, false, List, length, get_or, set, take, replicate, bit_and, bit_or, w64, refl, ap, sym, ◌∙◌, arith}
use Rattle.std.specs.Int.{bit_at, bit_not}
use Rattle.std.proofs.lemmas.Bool.{cases_eq, cases_lt}
use Rattle.std.proofs.lemmas.Grind.{get_or_default_zero}
use Rattle.std.proofs.lemmas.List.{same_lists, get_or-replicate, get_or-take, get_or_append_left, get_or-append_right, get_or-set_same, get_or-set_other, append-nil, length-append, length-replicate, length-set, length-take-le}
use Rattle.std.proofs.lemmas.List.FromFn.{length-map-range_with_len, get_or-map-range_with_len}
use Rattle.std.proofs.lemmas.Nat.Bits.{bit_at_ones, bit_at_set_same, bit_at_set_other, bit_at_clear_same, bit_at_clear_other, shr_and_one}
use Rattle.mark_bits.specs.PlaceMarks.{is_marked}
use Rattle.mark_bits.specs.WordBits.{is_bit_set, marks_of}

pub length-marks_of : (words : List ℕ) (many : ℕ) → length (marks_of words many) ≡ many
length-marks_of words many = length-map-range_with_len (is_bit_set words) 0 many

-- so many marks there are, and each has a word
pub size-of : (words : List ℕ) (many : ℕ) (marks : List Bool) → marks_of words many ≡ marks → length marks ≡ many
size-of words many marks is = ap length (sym is) ∙ length-marks_of words many

-- the mark of a place is its bit
pub get_or-marks_of : (words : List ℕ) (many place : ℕ) (d : Bool) → place < many → get_or (marks_of words many) place d ≡ is_bit_set words place
get_or-marks_of words many place d less = get_or-map-range_with_len (is_bit_set words) 0 many place place d less (omega arith)

pub bit-is : (words : List ℕ) (many place : ℕ) (marks : List Bool) → marks_of words many ≡ marks → place < many → is_marked marks place ≡ is_bit_set words place
bit-is words many place marks is less = ap (λ l. is_marked l place) (sym is) ∙ get_or-marks_of words many place false less

-- where one bit of a word is written, its mark is written, and no other changes
pub bit-marked : (words : List ℕ) (many place word : ℕ) (b : Bool) → place < many → place / 64 < length words → (bit_at word (place % 64) == 1) ≡ b
    → ((i : ℕ) → i < 64 → i ≢ place % 64 → bit_at word i ≡ bit_at (get_or words (place / 64) 0) i) → marks_of (set words (place / 64) word) many ≡ set (marks_of words many) place b
bit-marked words many place word b less there one others =
    same_lists (marks_of (set words (place / 64) word) many) (set (marks_of words many) place b)
    (length-marks_of (set words (place / 64) word) many ∙ sym (length-marks_of words many) ∙ sym (length-set (marks_of words many) place b))
    (λ k d below. by k d (within k below) (cases_eq k place))
  where
    within : (k : ℕ) → k < length (marks_of (set words (place / 64) word) many) → k < many
    within k below = let size : length (marks_of (set words (place / 64) word) many) ≡ many = length-marks_of (set words (place / 64) word) many in omega arith

    inside : place < length (marks_of words many)
    inside = let size : length (marks_of words many) ≡ many = length-marks_of words many in omega arith

    here : is_bit_set (set words (place / 64) word) place ≡ b
    here = ap (λ w. bit_at w (place % 64) == 1) (get_or-set_same words (place / 64) word 0 there) ∙ one

    other : (k : ℕ) → (k ≡ place → ⊥) → (k / 64 ≡ place / 64) ⊎ (k / 64 ≡ place / 64 → ⊥) → is_bit_set (set words (place / 64) word) k ≡ is_bit_set words k
    other k apart (inl same) =
        let bit : bit_at word (k % 64) ≡ bit_at (get_or words (place / 64) 0) (k % 64) = others (k % 64) (omega arith) (λ e. apart (omega arith)) in
        ap (λ j. bit_at (get_or (set words (place / 64) word) j 0) (k % 64) == 1) same
        ∙ ap (λ w. bit_at w (k % 64) == 1) (get_or-set_same words (place / 64) word 0 there)
        ∙ ap (λ b. b == 1) bit
        ∙ ap (λ j. bit_at (get_or words j 0) (k % 64) == 1) (sym same)
    other k apart (inr apart-words) = ap (λ w. bit_at w (k % 64) == 1) (get_or-set_other words (place / 64) (k / 64) word 0 apart-words)

    by : (k : ℕ) (d : Bool) → k < many → (k ≡ place) ⊎ (k ≡ place → ⊥) → get_or (marks_of (set words (place / 64) word) many) k d ≡ get_or (set (marks_of words many) place b) k d
    by k d below (inl same) =
        get_or-marks_of (set words (place / 64) word) many k d below ∙ ap (is_bit_set (set words (place / 64) word)) same ∙ here
        ∙ sym (ap (λ j. get_or (set (marks_of words many) place b) j d) same ∙ get_or-set_same (marks_of words many) place b d inside)
    by k d below (inr apart) =
        get_or-marks_of (set words (place / 64) word) many k d below ∙ other k apart (cases_eq (k / 64) (place / 64))
        ∙ sym (get_or-set_other (marks_of words many) place k b d apart ∙ get_or-marks_of words many k d below)

-- what is read, and what is written, where the word of a place is w
module _ (words : List ℕ) (many place w : ℕ) (marks : List Bool) (is : marks_of words many ≡ marks) (less : place < length marks) (there : place / 64 < length words) (word : w ≡ get_or words (place / 64) w) where
  below : place < many
  below = let size : length marks ≡ many = size-of words many marks is in omega arith

  old : w ≡ get_or words (place / 64) 0
  old = word ∙ get_or_default_zero words (place / 64) w there

  pub bit-read : (bit_and (w / 2 ^ (place % 64)) 1 == 1) ≡ is_marked marks place
  bit-read = ap (λ b. b == 1) (shr_and_one w (place % 64)) ∙ ap (λ v. bit_at v (place % 64) == 1) old ∙ sym (bit-is words many place marks is below)

  pub bit-written : marks_of (set words (place / 64) (bit_or w (1 * 2 ^ (place % 64) % 18446744073709551616))) many ≡ set marks place true
  bit-written =
      bit-marked words many place (bit_or w (1 * 2 ^ (place % 64) % 18446744073709551616)) true below there (ap (λ b. b == 1) (bit_at_set_same w64 w (place % 64) (omega arith)))
      (λ i less apart. bit_at_set_other w64 w (place % 64) (omega arith) i apart ∙ ap (λ v. bit_at v i) old)
      ∙ ap (λ l. set l place true) is

  pub bit-cleared : marks_of (set words (place / 64) (bit_and w (bit_not w64 (1 * 2 ^ (place % 64) % 18446744073709551616)))) many ≡ set marks place false
  bit-cleared =
      bit-marked words many place (bit_and w (bit_not w64 (1 * 2 ^ (place % 64) % 18446744073709551616))) false below there
      (ap (λ b. b == 1) (bit_at_clear_same w64 w (place % 64) (omega arith)))
      (λ i less apart. bit_at_clear_other w64 w (place % 64) (omega arith) i less apart ∙ ap (λ v. bit_at v i) old)
      ∙ ap (λ l. set l place false) is

-- where each bit of a word is set, the marks from one of them on are set up to the word's end
pub word-marked : (words : List ℕ) (many place w : ℕ) (marks : List Bool) → marks_of words many ≡ marks → place / 64 < length words → w ≡ get_or words (place / 64) w → w ≡ 18446744073709551615
    → (at : ℕ) → place ≤ at → at < place + (64 - place % 64) → at < length marks → is_marked marks at ≡ true
word-marked words many place w marks is there word full at low high less =
    let size : length marks ≡ many = size-of words many marks is in
    let same : at / 64 ≡ place / 64 = omega arith in
    let ones : get_or words (place / 64) 0 ≡ 18446744073709551615 = sym (get_or_default_zero words (place / 64) w there) ∙ sym word ∙ full in
    bit-is words many at marks is (omega arith)
    ∙ ap (λ j. bit_at (get_or words j 0) (at % 64) == 1) same ∙ ap (λ v. bit_at v (at % 64) == 1) ones ∙ ap (λ b. b == 1) (bit_at_ones 64 (at % 64) (omega arith))

-- words of which each bit is set bring marks that are set
pub filled : (words : List ℕ) (many whole : ℕ) → length words ≡ (many + 63) / 64 → many % 64 ≡ 0 → length words ≤ whole
    → marks_of (words ++ replicate (whole - length words) 18446744073709551615) (whole * 64) ≡ marks_of words many ++ replicate (64 * whole - many) true
filled words many whole size even more =
    same_lists (marks_of longer (whole * 64)) (marks_of words many ++ replicate (64 * whole - many) true) lengths (λ place d less. by place d (inside place less) (cases_lt place many))
  where
    ones : List ℕ
    ones = replicate (whole - length words) 18446744073709551615

    longer : List ℕ
    longer = words ++ ones

    ends : length words * 64 ≡ many
    ends = omega (arith, size, even)

    lengths : length (marks_of longer (whole * 64)) ≡ length (marks_of words many ++ replicate (64 * whole - many) true)
    lengths = length-marks_of longer (whole * 64) ∙ sums ∙ sym (length-append (marks_of words many) (replicate (64 * whole - many) true))
      where
        sums : whole * 64 ≡ length (marks_of words many) + length (replicate (64 * whole - many) true)
        sums = omega (arith, ends, more, length-marks_of words many, length-replicate (64 * whole - many) true)

    inside : (place : ℕ) → place < length (marks_of longer (whole * 64)) → place < whole * 64
    inside place less = omega (arith, less, length-marks_of longer (whole * 64))

    by : (place : ℕ) (d : Bool) → place < whole * 64 → (place < many) ⊎ (many ≤ place)
        → get_or (marks_of longer (whole * 64)) place d ≡ get_or (marks_of words many ++ replicate (64 * whole - many) true) place d
    by place d less (inl before) =
        get_or-marks_of longer (whole * 64) place d less
        ∙ ap (λ w. bit_at w (place % 64) == 1) (get_or_append_left words ones 0 (place / 64) (omega (arith, ends)))
        ∙ sym (get_or-marks_of words many place d before)
        ∙ sym (get_or_append_left (marks_of words many) (replicate (64 * whole - many) true) d place (omega (arith, before, length-marks_of words many)))
    by place d less (inr behind) =
        get_or-marks_of longer (whole * 64) place d less
        ∙ ap (λ w. bit_at w (place % 64) == 1) (get_or-append_right words ones (length words) (place / 64) 0 refl (omega (arith, ends, behind)) ∙ get_or-replicate (whole - length words) (place / 64 - length words) 18446744073709551615 0 (omega (arith, ends, behind, less)))
        ∙ ap (λ b. b == 1) (bit_at_ones 64 (place % 64) (omega arith))
        ∙ sym (get_or-append_right (marks_of words many) (replicate (64 * whole - many) true) (length (marks_of words many)) place d refl (omega (arith, behind, length-marks_of words many))
        ∙ get_or-replicate (64 * whole - many) (place - length (marks_of words many)) true d (omega (arith, behind, less, length-marks_of words many)))

-- where there are words for so many marks, none is added
pub none-filled : (marks : List Bool) (many : ℕ) → length marks % 64 ≡ 0 → (many + 63) / 64 ≤ (length marks + 63) / 64 → marks ≡ marks ++ replicate (64 * ((many + 63) / 64) - length marks) true
none-filled marks many even enough =
    let none : 64 * ((many + 63) / 64) - length marks ≡ 0 = omega (arith, even, enough) in
    sym (ap (λ more. marks ++ replicate more true) none ∙ append-nil marks)

-- the first words have the first marks
pub first-marks : (words : List ℕ) (many few : ℕ) → few ≤ many → (many + 63) / 64 ≤ length words → marks_of (take ((few + 63) / 64) words) few ≡ take few (marks_of words many)
first-marks words many few less size =
    same_lists (marks_of (take ((few + 63) / 64) words) few) (take few (marks_of words many)) lengths (λ place d below. by place d (omega (arith, below, length-marks_of (take ((few + 63) / 64) words) few)))
  where
    lengths : length (marks_of (take ((few + 63) / 64) words) few) ≡ length (take few (marks_of words many))
    lengths = length-marks_of (take ((few + 63) / 64) words) few ∙ sym (length-take-le few (marks_of words many) (omega (arith, less, length-marks_of words many)))

    by : (place : ℕ) (d : Bool) → place < few → get_or (marks_of (take ((few + 63) / 64) words) few) place d ≡ get_or (take few (marks_of words many)) place d
    by place d below =
        get_or-marks_of (take ((few + 63) / 64) words) few place d below
        ∙ ap (λ w. bit_at w (place % 64) == 1) (get_or-take ((few + 63) / 64) words (place / 64) 0 (omega (arith, below)))
        ∙ sym (get_or-marks_of words many place d (omega (arith, below, less)))
        ∙ sym (get_or-take few (marks_of words many) place d below)
