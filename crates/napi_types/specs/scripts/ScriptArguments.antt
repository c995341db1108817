-- The forms of an operation's arguments: what each is in a JSON value, none where the value has another form.
use Rattle.std.specs.Prelude.{ℕ, zero, ◌^◌, ℤ, negsuc, nat_lt, if◌then◌else◌, Bool, true, false, List, [], ◌∷◌, Option, Some, None, option_map, option_and_then, codes, bytes_eq}
use Rattle.serde_json.specs.Data.{Data, number, negative, Items, no_items, item}
use Rattle.serde_json.specs.Find.{as_number, as_str, as_u64, as_i64, as_bool, as_array}
use Rattle.napi_types.specs.declared.call.JobSpec.{JobSpec}
use Rattle.napi_types.specs.declared.call.JobSpec.TheVariants as job
use Rattle.napi_types.specs.declared.call.Mode.{Mode}
use Rattle.napi_types.specs.declared.call.Mode.TheVariants as mode
use Rattle.napi_types.specs.declared.call.Release.{Release}
use Rattle.napi_types.specs.declared.call.Release.TheVariants as release
use Rattle.napi_types.specs.declared.op.Regs.{Regs}

-- in a `do` block: none where this is none, else what follows
infixl 10 ◌>>=◌
abbrev pub ◌>>=◌ : {A B : Type 0} → Option A → (A → Option B) → Option B
o >>= f = option_and_then f o

-- a whole number from 0 to 2^64-1
unfoldable pub whole : Data → Option ℕ
whole d = as_number d >>= as_u64

-- a whole number below a bound
unfoldable pub whole_below : ℕ → Data → Option ℕ
whole_below bound d = whole d >>= λ n. if nat_lt n bound then Some n else None

-- a signed whole number of 64 bits
unfoldable pub signed : Data → Option ℤ
signed d = as_number d >>= as_i64

-- true or false
unfoldable pub flag : Data → Option Bool
flag d = as_bool d

-- a text
unfoldable pub text_argument : Data → Option (List ℕ)
text_argument d = as_str d

-- the number -1, which stands for none
unfoldable pub is_none : Data → Bool
is_none (number (negative (negsuc zero))) = true
is_none _ = false

-- an argument of a form, or -1 for none
unfoldable pub or_none : {A : Type 0} → Option A → Data → Option (Option A)
or_none o d = if is_none d then Some None else option_map Some o

-- a register: 0 to 31
unfoldable pub register : Data → Option ℕ
register d = whole_below 32 d

-- a register, or -1 for none
unfoldable pub register_or_none : Data → Option (Option ℕ)
register_or_none d = or_none (register d) d

-- a whole number from 0 to 2^32-1
unfoldable pub short : Data → Option ℕ
short d = whole_below (2 ^ 32) d

-- an entry of an addon with so many entries
unfoldable pub entry_number : ℕ → Data → Option ℕ
entry_number entries d = whole_below entries d

-- an entry, or -1 for none
unfoldable pub entry_or_none : ℕ → Data → Option (Option ℕ)
entry_or_none entries d = or_none (entry_number entries d) d

-- a text, or -1 for none
unfoldable pub text_or_none : Data → Option (Option (List ℕ))
text_or_none d = or_none (text_argument d) d

-- how a thread-safe function is called: 0 does not wait, 1 does
abbrev pub mode_of : ℕ → Mode
mode_of zero = mode.Nonblocking
mode_of _ = mode.Blocking

-- 0 or 1, as how a thread-safe function is called
unfoldable pub mode_number : Data → Option Mode
mode_number d = option_map mode_of (whole_below 2 d)

-- how a thread-safe function is released: 0 by one, 1 with all that hold it
abbrev pub release_of : ℕ → Release
release_of zero = release.Release
release_of _ = release.Abort

-- 0 or 1, as how a thread-safe function is released
unfoldable pub release_number : Data → Option Release
release_number d = option_map release_of (whole_below 2 d)

-- the last number of a job: at most 1,000,000
unfoldable pub job_size : Data → Option ℕ
job_size d = whole_below 1000001 d

-- the word `sum` and a number: the sum of the numbers up to it
unfoldable pub sum_job : Data → Data → Option JobSpec
sum_job word n = text_argument word >>= λ t. if bytes_eq t (codes "sum") then option_map job.Sum (job_size n) else None

-- the word `mix` and two numbers: the first, mixed so many times
unfoldable pub mix_job : Data → Data → Data → Option JobSpec
mix_job word n times = text_argument word >>= λ t. if bytes_eq t (codes "mix") then (whole n >>= λ m. option_map (job.Mix m) (job_size times)) else None

-- the parts of a job
unfoldable pub job_of : Items → Option JobSpec
job_of (item word (item n no_items)) = sum_job word n
job_of (item word (item n (item times no_items))) = mix_job word n times
job_of _ = None

-- an array of the parts of a job
unfoldable pub job_in : Data → Option JobSpec
job_in d = as_array d >>= job_of

-- a list of so many registers, of which the places from the count on are 0
abbrev pub register_list : ℕ → ℕ → ℕ → ℕ → ℕ → Regs
register_list count a b c d = record { count = count; regs = a ∷ b ∷ c ∷ d ∷ [] }

-- zero to four registers
unfoldable pub registers_among : Items → Option Regs
registers_among no_items = Some (register_list 0 0 0 0 0)
registers_among (item a no_items) = do
  p ← register a
  Some (register_list 1 p 0 0 0)
registers_among (item a (item b no_items)) = do
  p ← register a
  q ← register b
  Some (register_list 2 p q 0 0)
registers_among (item a (item b (item c no_items))) = do
  p ← register a
  q ← register b
  r ← register c
  Some (register_list 3 p q r 0)
registers_among (item a (item b (item c (item d no_items)))) = do
  p ← register a
  q ← register b
  r ← register c
  s ← register d
  Some (register_list 4 p q r s)
registers_among _ = None

-- an array of zero to four registers
unfoldable pub registers_in : Data → Option Regs
registers_in d = as_array d >>= registers_among
