-- The words of a script's schedule: `env`, and `t` or `w` with the number of a thread or of a worker.
use Rattle.std.specs.Prelude.{ℕ, ◌+◌, ◌-◌, ◌==◌, ◌&&◌, nat_le, nat_lt, if◌then◌else◌, List, [], ◌∷◌, Option, Some, None, option_map, codes, bytes_eq}
use Rattle.serde_json.specs.Data.{Data}
use Rattle.napi_types.specs.declared.entry.Actor.{Actor}
use Rattle.napi_types.specs.declared.entry.Actor.TheVariants as actor
use Rattle.napi_types.specs.scripts.ScriptArguments.{◌>>=◌, text_argument}

-- the value of a digit
unfoldable pub digit : ℕ → Option ℕ
digit d = if nat_le 48 d && nat_le d 57 then Some (d - 48) else None

-- a number from 0 to 19, as it is written
unfoldable pub small_number : List ℕ → Option ℕ
small_number (d ∷ []) = digit d
small_number (tens ∷ d ∷ []) = if tens == 49 then option_map (λ n. n + 10) (digit d) else None
small_number _ = None

-- a number that is written, below a bound
unfoldable pub number_below : ℕ → List ℕ → Option ℕ
number_below bound written = small_number written >>= λ n. if nat_lt n bound then Some n else None

-- a thread or a worker of the script, by its letter and its number
unfoldable pub lettered : ℕ → ℕ → List ℕ → Option Actor
lettered threads workers [] = None
lettered threads workers (letter ∷ written) =
    if letter == 116 then option_map actor.Thread (number_below threads written)
    else (if letter == 119 then option_map actor.Worker (number_below workers written) else None)

-- the actor that a word names, in a script with so many threads and workers
unfoldable pub actor_named : ℕ → ℕ → List ℕ → Option Actor
actor_named threads workers word = if bytes_eq word (codes "env") then Some actor.Env else lettered threads workers word

-- the actor that a value names
unfoldable pub actor_in : ℕ → ℕ → Data → Option Actor
actor_in threads workers d = text_argument d >>= actor_named threads workers
