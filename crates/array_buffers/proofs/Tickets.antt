-- A ticket that falls due, where there is one.
use Rattle.std.proofs.Common.{◌≡◌, ℕ, suc, false, List, [], ◌∷◌, None, refl, ap}
use Rattle.napi_types.specs.parts.Book.{Registration, Book, made_due, changed_from, moved, due_where}
use Rattle.napi_types.specs.parts.Buffers.{is_this_ticket}

from-none : (n : ℕ) (rs : List Registration) → changed_from n (moved made_due) (λ m. false) rs ≡ rs
from-none n [] = refl
from-none n (r ∷ rs) = ap (λ xs. r ∷ xs) (from-none (suc n) rs)

pub due-no_ticket : (book : Book) → due_where (is_this_ticket None) book ≡ book
due-no_ticket book = from-none 1 book
