-- Each frame that stands runs an addon of the script, and so does the frame of each duty; each function belongs to one.
use Rattle.std.specs.Prelude.{◌≡◌, ◌<◌, ℕ, true}
use Rattle.std.specs.List.{All}
use Rattle.napi_types.specs.declared.body.Body.{Body}
use Rattle.napi_types.specs.parts.Bodies.{is_function, function_addon}
use Rattle.napi_types.specs.environment.Environment.{Environment}

-- a value that is a function belongs to one of so many addons
abbrev pub BelongsTo : ℕ → Body → Type 0
BelongsTo addons b = is_function b ≡ true → function_addon b < addons

-- the addons are among so many
pub record IsOwned (addons : ℕ) (e : Environment) : Type 0 where
  pub frames : All (λ f. f.addon < addons) e.frames
  pub functions : All (λ v. BelongsTo addons v.body) e.heap.values
  pub tickets : All (λ r. r.addon < addons) e.book
