-- The text of a trace: a line for each entry.
use Rattle.std.specs.Prelude.{ℕ, ◌/◌, ◌%◌, ◌==◌, ◌||◌, Bool, true, false, if◌then◌else◌, nat_lt, List, [], ◌∷◌, ◌++◌, codes, decimal, slice_get, unwrap_or}
use Rattle.std.specs.List.{flat_map, enumerate_from}
use Rattle.std.specs.Option.{option_map_or}
use Rattle.std.specs.Fmt.{signed_decimal}
use Rattle.std.specs.Char.{digit_char}
use Rattle.std.specs.declared.option.Option.{Option}
use Rattle.napi_types.specs.declared.entry.Actor.{Actor}
use Rattle.napi_types.specs.declared.entry.Actor.TheVariants as actor
use Rattle.napi_types.specs.declared.entry.Duty.{Duty}
use Rattle.napi_types.specs.declared.entry.Duty.TheVariants as duty
use Rattle.napi_types.specs.declared.entry.Entry.{Entry}
use Rattle.napi_types.specs.declared.entry.Out.{Out}
use Rattle.napi_types.specs.declared.entry.Out.TheVariants as out
use Rattle.napi_types.specs.plain.Numbers.{status_number}
use Rattle.napi_types.specs.scripts.Names.{what_name, kind_name, cause_name, loop_end_name, why_name}

-- `env`, or a thread or a worker with its number
abbrev pub actor_text : Actor → List ℕ
actor_text actor.Env = codes "env"
actor_text (actor.Thread n) = codes "t" ++ decimal n
actor_text (actor.Worker n) = codes "w" ++ decimal n

-- `#4` is ticket 4, `j4` the work queued fourth, `f2.7` item 7 of function 2, `f2` the finalizer of function 2
abbrev pub duty_text : Duty → List ℕ
duty_text (duty.Ticket ticket) = codes "#" ++ decimal ticket.0
duty_text (duty.Work n) = codes "j" ++ decimal n
duty_text (duty.Item function n) = codes "f" ++ decimal function.0 ++ codes "." ++ decimal n
duty_text (duty.Function function) = codes "f" ++ decimal function.0

-- a duty behind a sign, and nothing where there is none
abbrev pub marked : List ℕ → Option Duty → List ℕ
marked sign duty = option_map_or (λ d. sign ++ duty_text d) duty []

-- a flag in words
abbrev pub flag_text : Bool → List ℕ
flag_text true = codes "true"
flag_text false = codes "false"

-- a byte of a text: `"` and `\` stand behind a `\`, bytes below 32 are `\u00` and two hexadecimal digits
abbrev pub escaped : ℕ → List ℕ
escaped byte =
    if byte == 34 || byte == 92 then 92 ∷ byte ∷ []
    else (if nat_lt byte 32 then codes "\\u00" ++ digit_char (byte / 16) ∷ digit_char (byte % 16) ∷ [] else byte ∷ [])

-- a text in quotation marks
abbrev pub quoted : List ℕ → List ℕ
quoted text = codes "\"" ++ flat_map escaped text ++ codes "\""

-- the text of a number, empty past the end of the table
abbrev pub text_at : List (List ℕ) → ℕ → List ℕ
text_at texts n = unwrap_or (slice_get texts n) []

-- the result of an entry
abbrev pub out_text : List (List ℕ) → Out → List ℕ
out_text texts out.Nothing = codes "-"
out_text texts (out.Handle h) = codes "handle"
out_text texts out.NoHandle = codes "none"
out_text texts (out.Scope s) = codes "scope"
out_text texts (out.Ref r) = codes "ref"
out_text texts (out.AsyncHook h) = codes "hook"
out_text texts (out.Promise d h) = codes "promise"
out_text texts (out.Work w) = codes "work"
out_text texts (out.Function function) = codes "f" ++ decimal function.0
out_text texts (out.Signed z) = signed_decimal z
out_text texts (out.Unsigned n) = decimal n
out_text texts (out.Flag flag) = flag_text flag
out_text texts (out.Text n) = quoted (text_at texts n.0)
out_text texts (out.Kind kind) = kind_name kind
out_text texts (out.Duty d) = duty_text d
out_text texts (out.Begin cause addon entry d) =
    cause_name cause ++ codes ":" ++ decimal addon ++ codes "." ++ decimal entry ++ marked (codes ":") d
out_text texts (out.Ended end) = loop_end_name end
out_text texts out.Uncaught = codes "uncaught"
out_text texts (out.Cut why) = codes "cut:" ++ why_name why

-- number, actor, name, status and result, then the duty withdrawn and the duty made
abbrev pub line : List (List ℕ) → ℕ → Entry → List ℕ
line texts number entry =
    decimal number ++ codes " " ++ actor_text entry.actor ++ codes " " ++ what_name entry.what ++ codes " " ++
    decimal (status_number entry.reply.status) ++ codes " " ++ out_text texts entry.reply.out ++
    marked (codes " -") entry.reply.dropped ++ marked (codes " +") entry.reply.made ++ codes "\n"

-- the lines of entries, numbered from the first number
abbrev pub lines_from : List (List ℕ) → ℕ → List Entry → List ℕ
lines_from texts first entries = flat_map (λ numbered. line texts numbered.0 numbered.1) (enumerate_from first entries)

-- the text of a trace, with the texts of its script
abbrev pub text : List (List ℕ) → List Entry → List ℕ
text texts entries = lines_from texts 1 entries
