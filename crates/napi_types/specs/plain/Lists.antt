-- Words on lists and options that the other definitions are told by. A finite map is a list of records, each found by its number. One that grows has its
-- records by rising number, so that maps with the same records are equal, whatever was added first.
use Rattle.std.specs.Prelude.{◌≡◌, ℕ, ◌==◌, nat_lt, Bool, true, false, List, [], ◌∷◌, ◌++◌, filter, Option, Some, None, find}
use Rattle.std.specs.List.{list_any, range_with_len}
use Rattle.napi_types.specs.declared.status.Status.{Status}

-- the record with the number
abbrev pub found : {A : Type 0} → (A → ℕ) → ℕ → List A → Option A
found number n xs = find (λ x. number x == n) xs

-- a record has the number
abbrev pub has : {A : Type 0} → (A → ℕ) → ℕ → List A → Bool
has number n xs = list_any (λ x. number x == n) xs

-- the number is in the list
abbrev pub has_number : ℕ → List ℕ → Bool
has_number n xs = has (λ m. m) n xs

-- a finite map with one record more: those of lower numbers, then it, then those of higher numbers. It takes the place of one that had its number
abbrev pub with_record : {A : Type 0} → (A → ℕ) → A → List A → List A
with_record number x xs = filter (λ y. nat_lt (number y) (number x)) xs ++ x ∷ filter (λ y. nat_lt (number x) (number y)) xs

-- the finite map of these records, which lie in any order; where several have one number, it has the first of them
abbrev pub as_map : {A : Type 0} → (A → ℕ) → List A → List A
as_map number [] = []
as_map number (x ∷ xs) = with_record number x (as_map number xs)

-- a set of numbers with one more is a finite map in which each number is its own record
abbrev pub with_number : ℕ → List ℕ → List ℕ
with_number n ns = with_record (λ m. m) n ns

-- the same numbers are in two lists
abbrev pub HaveSameNumbers : List ℕ → List ℕ → Type 0
HaveSameNumbers ms ns = (n : ℕ) → has_number n ms ≡ has_number n ns

-- the numbers from 1 up to n
abbrev pub up_to : ℕ → List ℕ
up_to n = range_with_len 1 n

-- the list of one element
abbrev pub singleton : {A : Type 0} → A → List A
singleton x = x ∷ []

-- the first element, none of an empty list
abbrev pub head : {A : Type 0} → List A → Option A
head [] = None
head (x ∷ xs) = Some x

-- the first of these that is there
abbrev pub first_some : {A : Type 0} → List (Option A) → Option A
first_some [] = None
first_some (None ∷ xs) = first_some xs
first_some (Some x ∷ xs) = Some x

-- nothing is in the list
abbrev pub is_empty : {A : Type 0} → List A → Bool
is_empty [] = true
is_empty (x ∷ xs) = false

-- the list without its first element
abbrev pub tail : {A : Type 0} → List A → List A
tail [] = []
tail (x ∷ xs) = xs

-- the list with its first element changed
abbrev pub first_changed : {A : Type 0} → (A → A) → List A → List A
first_changed f [] = []
first_changed f (x ∷ xs) = f x ∷ xs

-- a status where a test holds
abbrev pub when : Bool → Status → Option Status
when true s = Some s
when false s = None

-- a status where a test fails
abbrev pub unless : Bool → Status → Option Status
unless true s = None
unless false s = Some s
