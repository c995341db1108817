-- The summary of a trace: twelve lines, each a name, a space and a number. Each number is a count or a sum over the entries, whatever their order.
use Rattle.std.specs.Prelude.{ℕ, ◌%◌, ◌^◌, ◌==◌, ◌&&◌, Bool, true, false, not, if◌then◌else◌, List, ◌++◌, length, count_by, sum_by, Option, Some, is_some, codes, decimal}
use Rattle.napi_types.specs.declared.call.Call.TheVariants as call
use Rattle.napi_types.specs.declared.entry.Cause.{Cause}
use Rattle.napi_types.specs.declared.entry.Cause.TheVariants as cause
use Rattle.napi_types.specs.declared.entry.Duty.{Duty}
use Rattle.napi_types.specs.declared.entry.Duty.TheVariants as duty
use Rattle.napi_types.specs.declared.entry.Entry.{Entry}
use Rattle.napi_types.specs.declared.entry.HostStep.TheVariants as host
use Rattle.napi_types.specs.declared.entry.Out.{Out}
use Rattle.napi_types.specs.declared.entry.Out.TheVariants as out
use Rattle.napi_types.specs.declared.entry.What.{What}
use Rattle.napi_types.specs.declared.entry.What.TheVariants as what
use Rattle.napi_types.specs.plain.Numbers.{status_number}

-- THE ENTRIES
-- whether an entry is a call. An accepted `call_function` is none: the trace has the begin and the end of its frame in its place
abbrev pub is_call : What → Bool
is_call (what.Call _) = true
is_call _ = false

-- whether it is the start of a work
abbrev pub is_start : What → Bool
is_start (what.Host host.Start) = true
is_start _ = false

-- whether it is the begin of a frame with such a cause
abbrev pub is_begin_with : (Cause → Bool) → What → Out → Bool
is_begin_with is_such (what.Host host.Begin) (out.Begin c _ _ _) = is_such c
is_begin_with _ _ _ = false

-- the causes of an item's frame, of a completion, of a finalizer and of a hook
abbrev pub is_of_item : Cause → Bool
is_of_item cause.Item = true
is_of_item cause.Torn = true
is_of_item _ = false

abbrev pub is_of_completion : Cause → Bool
is_of_completion cause.Complete = true
is_of_completion _ = false

abbrev pub is_of_finalizer : Cause → Bool
is_of_finalizer cause.Finalize = true
is_of_finalizer _ = false

abbrev pub is_of_hook : Cause → Bool
is_of_hook cause.Hook = true
is_of_hook _ = false

-- whether a duty is an item of a thread-safe function, and whether it is a work
abbrev pub is_item : Option Duty → Bool
is_item (Some (duty.Item _ _)) = true
is_item _ = false

abbrev pub is_work : Option Duty → Bool
is_work (Some (duty.Work _)) = true
is_work _ = false

-- the payload that a call hands to a thread-safe function
abbrev pub payload_of : What → ℕ
payload_of (what.Call (call.CallThreadsafeFunction _ payload _)) = payload
payload_of _ = 0

-- the payload of the item that an entry accepts
abbrev pub accepted_payload : Entry → ℕ
accepted_payload x = if is_item x.reply.made then payload_of x.what else 0

-- THE NUMBERS
-- the calls, and those of them that were refused: with a status other than 0
abbrev pub calls_in : List Entry → ℕ
calls_in xs = count_by (λ x. is_call x.what) xs

abbrev pub refused_in : List Entry → ℕ
refused_in xs = count_by (λ x. is_call x.what && not (status_number x.reply.status == 0)) xs

-- the items that were accepted, and the frames that began with one
abbrev pub accepted_in : List Entry → ℕ
accepted_in xs = count_by (λ x. is_item x.reply.made) xs

abbrev pub items_in : List Entry → ℕ
items_in xs = count_by (λ x. is_begin_with is_of_item x.what x.reply.out) xs

-- the works that were queued, those that started, and their completions
abbrev pub works_in : List Entry → ℕ
works_in xs = count_by (λ x. is_work x.reply.made) xs

abbrev pub started_in : List Entry → ℕ
started_in xs = count_by (λ x. is_start x.what) xs

abbrev pub completions_in : List Entry → ℕ
completions_in xs = count_by (λ x. is_begin_with is_of_completion x.what x.reply.out) xs

-- the finalizers and the hooks that began, and the duties that were withdrawn
abbrev pub finalizers_in : List Entry → ℕ
finalizers_in xs = count_by (λ x. is_begin_with is_of_finalizer x.what x.reply.out) xs

abbrev pub hooks_in : List Entry → ℕ
hooks_in xs = count_by (λ x. is_begin_with is_of_hook x.what x.reply.out) xs

abbrev pub withdrawn_in : List Entry → ℕ
withdrawn_in xs = count_by (λ x. is_some x.reply.dropped) xs

-- the sum of the payloads of the accepted items, in 64 bits
abbrev pub payloads_in : List Entry → ℕ
payloads_in xs = sum_by accepted_payload xs % 2 ^ 64

-- THE TEXT
-- a name and its number
abbrev pub number_line : List ℕ → ℕ → List ℕ
number_line name n = name ++ codes " " ++ decimal n ++ codes "\n"

-- the summary of these entries
abbrev pub summary : List Entry → List ℕ
summary xs =
    number_line (codes "entries") (length xs)
    ++ number_line (codes "calls") (calls_in xs)
    ++ number_line (codes "accepted") (accepted_in xs)
    ++ number_line (codes "items") (items_in xs)
    ++ number_line (codes "works") (works_in xs)
    ++ number_line (codes "started") (started_in xs)
    ++ number_line (codes "completions") (completions_in xs)
    ++ number_line (codes "finalizers") (finalizers_in xs)
    ++ number_line (codes "hooks") (hooks_in xs)
    ++ number_line (codes "withdrawn") (withdrawn_in xs)
    ++ number_line (codes "refused") (refused_in xs)
    ++ number_line (codes "payload") (payloads_in xs)
