-- What tests of buffers need: that no buffer has a ticket.
use Rattle.std.proofs.Common.{◌≡◌, ℕ, ◌==◌, Bool, true, false, not, cond, replicate, Option, Some, None, Result, Ok, Err, OnOk, refl, sym, subst}
use Rattle.std.specs.List.{All}
use Rattle.std.specs.Option.{option_and_then}
use Rattle.std.proofs.lemmas.List.Elements.{All-map, All-weaker, All-filter}
use Rattle.napi_types.specs.parts.Book.{Book}
use Rattle.napi_types.proofs.plain.Found.{found-All}
use Rattle.napi_types.proofs.plain.Maps.{All-with_record}
use Rattle.napi_types.specs.parts.Buffers.{ArrayBuffer, Buffers, buffer_at, buffer_ticket, with_buffer, with_detached, without_buffer, IsGivenTicket}

abbrev pub IsBare : ArrayBuffer → Type 0
IsBare r = r.ticket ≡ None

-- what holds where memory was found
pub when-ok : {A E : Type 0} (r : Result A E) (x : A) (P : Type 0) → r ≡ Ok x → OnOk r P → P
when-ok (Ok y) x P is holds = holds
when-ok (Err e) x P is holds = let no : ⊥ = cc in absurd no

pub no-ticket : (b : Buffers) (v : ℕ) (book : Book) → All IsBare b.buffers → IsGivenTicket (buffer_ticket b v) book
no-ticket b v book all = by (buffer_at b v) refl
  where
    given : (o : Option ℕ) → o ≡ None → IsGivenTicket o book
    given None is = tt
    given (Some n) is = let no : ⊥ = cc in absurd no

    by : (p : Option ArrayBuffer) → buffer_at b v ≡ p → IsGivenTicket (option_and_then (λ r. r.ticket) (buffer_at b v)) book
    by None is = subst (λ q. IsGivenTicket (option_and_then (λ (r : ArrayBuffer). r.ticket) q) book) (sym is) tt
    by (Some r) is = subst (λ q. IsGivenTicket (option_and_then (λ (r : ArrayBuffer). r.ticket) q) book) (sym is) (given r.ticket (found-All (λ q. q.value) IsBare v b.buffers r all is))

pub bare-made : (b : Buffers) (v size : ℕ) → All IsBare b.buffers → All IsBare (with_buffer v size None b).buffers
bare-made b v size all = All-with_record (λ (r : ArrayBuffer). r.value) (record { value = v; bytes = Some (replicate size 0); ticket = None }) IsBare b.buffers refl all

pub bare-detached : (b : Buffers) (v : ℕ) → All IsBare b.buffers → All IsBare (with_detached v b).buffers
bare-detached b v all =
    All-map IsBare (λ (r : ArrayBuffer). cond (r.value == v) (record r { bytes = None }) r) b.buffers
    (All-weaker IsBare (λ (r : ArrayBuffer). IsBare (cond (r.value == v) (record r { bytes = None }) r)) (λ r bare. by r (r.value == v) bare) b.buffers all)
  where
    by : (r : ArrayBuffer) (c : Bool) → IsBare r → IsBare (cond c (record r { bytes = None }) r)
    by r true bare = bare
    by r false bare = bare

pub bare-gone : (b : Buffers) (v : ℕ) → All IsBare b.buffers → All IsBare (without_buffer v b).buffers
bare-gone b v all = All-filter (λ r. not (r.value == v)) IsBare b.buffers all
