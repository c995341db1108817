-- The command lines, and the lines that stand in place of a text.
use Rattle.std.specs.Prelude.{ℕ, ◌&&◌, nat_le, Bool, true, false, cond, List, [], ◌∷◌, ◌++◌, length, codes, bytes_eq, Option, Some, None, option_map}
use Rattle.std.specs.Char.{is_ascii_digit}
use Rattle.std.specs.List.{list_all}
use Rattle.std.specs.Str.Parse.{digits_value}
use Rattle.napi_types.specs.declared.script.LimitName.{LimitName}
use Rattle.napi_types.specs.declared.script.LimitName.TheVariants as limit
use Rattle.outside.specs.declared.commands.Command.{Command}
use Rattle.outside.specs.declared.commands.Command.TheVariants as command
use Rattle.outside.specs.declared.message.Message.{Message}
use Rattle.outside.specs.declared.message.Message.TheVariants as line

-- THE COMMAND LINES
-- a word of one to seven digits
abbrev pub is_numeral : List ℕ → Bool
is_numeral word = nat_le 1 (length word) && nat_le (length word) 7 && list_all is_ascii_digit word

-- the number that a word of one to seven digits writes, where it is at most 1,000,000
abbrev pub load_number : List ℕ → Option ℕ
load_number word = cond (is_numeral word && nat_le (digits_value 10 word) 1000000) (Some (digits_value 10 word)) None

-- what the words after the program's name ask for: `run`, `summary`, or `load` and a number; all other words ask for nothing
abbrev pub command_of : List (List ℕ) → Option Command
command_of (word ∷ []) =
    cond (bytes_eq word (codes "run")) (Some command.Run) (cond (bytes_eq word (codes "summary")) (Some command.Summary) None)
command_of (word ∷ number ∷ []) = cond (bytes_eq word (codes "load")) (option_map command.Load (load_number number)) None
command_of _ = None

-- whether the words ask for what the source gives
abbrev pub reads : Option Command → Bool
reads (Some command.Run) = true
reads (Some command.Summary) = true
reads _ = false

-- THE LINES
-- tells the command lines
abbrev pub usage_line : List ℕ
usage_line = codes "usage: napi_host run | summary | load NUMBER\n"

-- the bytes are no JSON text
abbrev pub not_json_line : List ℕ
not_json_line = codes "refused json\n"

-- the part at this path has the wrong form
abbrev pub shape_line : List ℕ → List ℕ
shape_line path = codes "refused shape " ++ path ++ codes "\n"

-- there are more than a script may have
abbrev pub limit_line : LimitName → List ℕ
limit_line limit.Workers = codes "refused limit workers\n"
limit_line limit.Addons = codes "refused limit addons\n"
limit_line limit.Entries = codes "refused limit entries\n"
limit_line limit.Operations = codes "refused limit operations\n"
limit_line limit.Threads = codes "refused limit threads\n"
limit_line limit.Schedule = codes "refused limit schedule\n"

-- the bytes are a script without the schedule that is demanded
abbrev pub schedule_line : List ℕ
schedule_line = codes "refused schedule\n"

-- want of memory before the text began
abbrev pub no_memory_line : List ℕ
no_memory_line = codes "out of memory\n"

-- the source failed
abbrev pub read_fault_line : List ℕ
read_fault_line = codes "read fault\n"

-- the source gave more bytes than it may
abbrev pub too_long_line : List ℕ
too_long_line = codes "refused length\n"

-- the text of a line, with its newline
abbrev pub line_text : Message → List ℕ
line_text line.Usage = usage_line
line_text line.NotJson = not_json_line
line_text (line.Shape path) = shape_line path
line_text (line.Limit which) = limit_line which
line_text line.TooManyAddons = limit_line limit.Addons
line_text line.Schedule = schedule_line
line_text line.NoMemory = no_memory_line
line_text line.ReadFault = read_fault_line
line_text line.TooLong = too_long_line

-- the status with which the program ends that writes a line
abbrev pub line_status : Message → ℕ
line_status line.Usage = 2
line_status line.NotJson = 3
line_status (line.Shape _) = 3
line_status (line.Limit _) = 3
line_status line.TooManyAddons = 3
line_status line.Schedule = 3
line_status line.ReadFault = 4
line_status line.NoMemory = 6
line_status line.TooLong = 7
