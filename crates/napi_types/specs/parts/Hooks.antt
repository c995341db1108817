-- The cleanup hooks that have not begun and were not removed, in the order of adding.
use Rattle.std.specs.Prelude.{ℕ, ◌==◌, Bool, not, ◌&&◌, List, [], ◌∷◌, filter, find, Option, Some, None, option_map, is_none}

-- a hook: the addon that added it, the entry that its frame will run, the argument that it will be given, its ticket, and the number of an asynchronous one
pub record Hook : Type 0 where
  pub addon : ℕ
  pub entry : ℕ
  pub argument : ℕ
  pub ticket : ℕ
  pub number : Option ℕ

-- a plain hook is known by its addon, its entry and its argument; an asynchronous one is not, since it is known by its number
abbrev pub is_hook : ℕ → ℕ → ℕ → Hook → Bool
is_hook addon entry argument h = (h.addon == addon) && (h.entry == entry) && (h.argument == argument) && is_none h.number

-- the ticket of the plain hook that is known so, where it stands in the list
abbrev pub hook_ticket : ℕ → ℕ → ℕ → List Hook → Option ℕ
hook_ticket addon entry argument hooks = option_map (λ h. h.ticket) (find (is_hook addon entry argument) hooks)

-- the hook that was added last
abbrev pub last_hook : List Hook → Option Hook
last_hook [] = None
last_hook (h ∷ []) = Some h
last_hook (h ∷ hs) = last_hook hs

-- the hooks without the one of this ticket
abbrev pub without_hook : ℕ → List Hook → List Hook
without_hook ticket hooks = filter (λ h. not (h.ticket == ticket)) hooks
