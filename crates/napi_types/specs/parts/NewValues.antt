-- Values that one call makes together: an error with its strings, and an array of strings.
use Rattle.std.specs.Prelude.{ℕ, ◌+◌, true, false, List, [], ◌∷◌, ◌++◌, length, map, Option, Some, None, option_map}
use Rattle.std.specs.List.{range_with_len}
use Rattle.napi_types.specs.declared.body.Body.{Body}
use Rattle.napi_types.specs.declared.ids.TextNo.{TextNo}
use Rattle.napi_types.specs.declared.body.Body.TheVariants as body
use Rattle.napi_types.specs.plain.Texts.{message_text, code_text}
use Rattle.napi_types.specs.parts.Properties.{Property}
use Rattle.napi_types.specs.parts.Values.{Value, fresh_value}

-- the property of an error's code, where there is one
abbrev pub code_property : Option ℕ → List Property
code_property None = []
code_property (Some code) = record { name = code_text; value = code } ∷ []

-- an error: an object with the properties `message` and, where a code is given, `code`, in this order
abbrev pub error_of : ℕ → Option ℕ → ℕ → Value
error_of n code message = record (fresh_value n (body.Object false true)) { properties = record { name = message_text; value = message } ∷ code_property code }

-- new values of these bodies, where so many were made before
abbrev pub made_after : ℕ → List Body → List Value
made_after n [] = []
made_after n (b ∷ bs) = fresh_value (n + 1) b ∷ made_after (n + 1) bs

-- an array of the values of these numbers
abbrev pub array_of : ℕ → List ℕ → Value
array_of n numbers = record (fresh_value n (body.Object true false)) { elements = map Some numbers }

-- new values of these bodies, and then an array of them
abbrev pub list_of : ℕ → List Body → List Value
list_of n bs = made_after n bs ++ array_of (n + length bs + 1) (range_with_len (n + 1) (length bs)) ∷ []

-- the strings of an error's texts, in the order of the properties that name them: its message, and its code where one is given
abbrev pub thrown_strings : Option TextNo → TextNo → List Body
thrown_strings None message = body.Str message ∷ []
thrown_strings (Some code) message = body.Str message ∷ body.Str code ∷ []

-- new strings of an error's texts, and then the error of them
abbrev pub thrown_of : ℕ → Option TextNo → TextNo → List Value
thrown_of n code message =
    made_after n (thrown_strings code message) ++ error_of (n + length (thrown_strings code message) + 1) (option_map (λ c. n + 2) code) (n + 1) ∷ []
