-- What the definitions of a script say of a list of values of which the length is known.
use Rattle.std.proofs.Common.{◌≡◌, ◌<◌, ◌≤◌, ℕ, List, [], ◌∷◌, length, refl, arith, None}
use Rattle.serde_json.specs.View.{items_view}
use Rattle.serde_json.specs.declared.value.Value.{Value}
use Rattle.napi_types.specs.declared.op.Op.{Op}
use Rattle.napi_types.specs.scripts.ScriptArguments.{registers_among, job_of}
use Rattle.napi_types.specs.scripts.ScriptOperations.{with_more_arguments, text_operation, thread_operation_named}
use Rattle.serde_json.specs.Data.{Data}

pub job-few : (vs : List Value) → length vs < 2 → job_of (items_view vs) ≡ None
unfolding job_of
job-few [] few = refl
job-few (a ∷ []) few = refl
job-few (a ∷ b ∷ vs) few = absurd (omega arith)

pub job-many : (vs : List Value) → 4 ≤ length vs → job_of (items_view vs) ≡ None
unfolding job_of
job-many [] many = absurd (omega arith)
job-many (a ∷ []) many = absurd (omega arith)
job-many (a ∷ b ∷ []) many = absurd (omega arith)
job-many (a ∷ b ∷ c ∷ []) many = absurd (omega arith)
job-many (a ∷ b ∷ c ∷ d ∷ vs) many = refl

pub registers-many : (vs : List Value) → 5 ≤ length vs → registers_among (items_view vs) ≡ None
unfolding registers_among
registers-many [] many = absurd (omega arith)
registers-many (a ∷ []) many = absurd (omega arith)
registers-many (a ∷ b ∷ []) many = absurd (omega arith)
registers-many (a ∷ b ∷ c ∷ []) many = absurd (omega arith)
registers-many (a ∷ b ∷ c ∷ d ∷ []) many = absurd (omega arith)
registers-many (a ∷ b ∷ c ∷ d ∷ e ∷ vs) many = refl

pub more-one : (k : ℕ) (kind : Op) (a b c d e : Data) (vs : List Value) → 1 ≤ length vs → length vs < 2 → with_more_arguments k kind a b c d e (items_view vs) ≡ None
unfolding with_more_arguments
more-one k kind a b c d e [] some few = absurd (omega arith)
more-one k kind a b c d e (f ∷ []) some few = refl
more-one k kind a b c d e (f ∷ g ∷ vs) some few = absurd (omega arith)

pub more-many : (k : ℕ) (kind : Op) (a b c d e : Data) (vs : List Value) → 3 ≤ length vs → with_more_arguments k kind a b c d e (items_view vs) ≡ None
unfolding with_more_arguments
more-many k kind a b c d e [] many = absurd (omega arith)
more-many k kind a b c d e (f ∷ []) many = absurd (omega arith)
more-many k kind a b c d e (f ∷ g ∷ []) many = absurd (omega arith)
more-many k kind a b c d e (f ∷ g ∷ h ∷ vs) many = refl

pub text-few : (table : List (List ℕ)) (kind : Op) (vs : List Value) → length vs < 2 → text_operation table kind (items_view vs) ≡ None
unfolding text_operation
text-few table kind [] few = refl
text-few table kind (a ∷ []) few = refl
text-few table kind (a ∷ b ∷ vs) few = absurd (omega arith)

pub text-many : (table : List (List ℕ)) (kind : Op) (vs : List Value) → 4 ≤ length vs → text_operation table kind (items_view vs) ≡ None
unfolding text_operation
text-many table kind [] many = absurd (omega arith)
text-many table kind (a ∷ []) many = absurd (omega arith)
text-many table kind (a ∷ b ∷ []) many = absurd (omega arith)
text-many table kind (a ∷ b ∷ c ∷ []) many = absurd (omega arith)
text-many table kind (a ∷ b ∷ c ∷ d ∷ vs) many = refl

pub thread-none : (name : List ℕ) (vs : List Value) → length vs < 1 → thread_operation_named name (items_view vs) ≡ None
unfolding thread_operation_named
thread-none name [] few = refl
thread-none name (a ∷ vs) few = absurd (omega arith)

pub thread-many : (name : List ℕ) (vs : List Value) → 4 ≤ length vs → thread_operation_named name (items_view vs) ≡ None
unfolding thread_operation_named
thread-many name [] many = absurd (omega arith)
thread-many name (a ∷ []) many = absurd (omega arith)
thread-many name (a ∷ b ∷ []) many = absurd (omega arith)
thread-many name (a ∷ b ∷ c ∷ []) many = absurd (omega arith)
thread-many name (a ∷ b ∷ c ∷ d ∷ vs) many = refl
