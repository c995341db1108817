-- Values are freed, and with each what it was as a buffer or as a view.
use Rattle.std.proofs.Common.{◌≡◌, ◌∙◌, ◌<◌, ℕ, zero, suc, ◌==◌, Bool, true, false, not, cond, List, [], ◌∷◌, ◌++◌, filter, length, get_or, Option, Some, None, refl, ap, sym, arith}
use Rattle.std.specs.Option.{option_and_then}
use Rattle.std.proofs.lemmas.Bool.{or_left, or_right}
use Rattle.napi_types.specs.declared.ids.ValueId.{ValueId}
use Rattle.napi_types.specs.parts.Book.{Book, due_where}
use Rattle.napi_types.specs.parts.Buffers.{ArrayBuffer, BufferView, Buffers, IsGivenTicket, is_this_ticket, buffer_at, buffer_ticket, without_buffer, buffers_left}
use Rattle.napi_types.proofs.plain.Found.{found-filter, same-self}
use Rattle.array_buffers.proofs.BufferMaps.{same-buffers}
use Rattle.wrap_tag.specs.Wraps.{is_one_of}
use Rattle.wrap_tag.proofs.Dues.{due_where-none}
use Rattle.env_registry.specs.KeptRegistry.{IsDueAlready}
use Rattle.env_registry.proofs.FreedPromises.{filter-none, filter-more}

pub left-no-buffers : (b : Buffers) → buffers_left (is_one_of []) b ≡ b
left-no-buffers b = same-buffers _ b.buffers _ b.views (filter-none b.buffers) (filter-none b.views)

pub left-more-buffers : (vs : List ValueId) (x : ValueId) (b now new : Buffers) → now ≡ buffers_left (is_one_of vs) b → new ≡ without_buffer x.0 now
    → new ≡ buffers_left (is_one_of (vs ++ x ∷ [])) b
left-more-buffers vs x b now new was is =
    is ∙ ap (without_buffer x.0) was
    ∙ same-buffers _ _ _ _ (filter-more (λ (r : ArrayBuffer). r.value) vs x b.buffers) (filter-more (λ (w : BufferView). w.value) vs x b.views)

-- a buffer that is left has the ticket that it had
ticket-left : (gone : ℕ → Bool) (b : Buffers) (v t : ℕ) → buffer_ticket (buffers_left gone b) v ≡ Some t → buffer_ticket b v ≡ Some t
ticket-left gone b v t is =
    by (not (gone v)) (sym (ap (option_and_then (λ (r : ArrayBuffer). r.ticket)) (found-filter (λ (r : ArrayBuffer). r.value) (λ n. not (gone n)) v b.buffers)) ∙ is)
  where
    by : (c : Bool) → option_and_then (λ (r : ArrayBuffer). r.ticket) (cond c (buffer_at b v) None) ≡ Some t → buffer_ticket b v ≡ Some t
    by true some = some
    by false some = let no : ⊥ = cc in absurd no

module _ (gone : ℕ → Bool) (b now : Buffers) (v : ℕ) (book : Book) (is : now ≡ buffers_left gone b) (due : (t : ℕ) → buffer_ticket b v ≡ Some t → IsDueAlready book t) where
  -- the book gave its ticket
  pub gone-given : IsGivenTicket (buffer_ticket now v) book
  gone-given = by (buffer_ticket now v) refl
    where
      by : (o : Option ℕ) → buffer_ticket now v ≡ o → IsGivenTicket o book
      by None at = tt
      by (Some t) at = (due t (ticket-left gone b v t (ap (λ x. buffer_ticket x v) (sym is) ∙ at))).given

  -- and stays as it is
  pub gone-same : due_where (is_this_ticket (buffer_ticket now v)) book ≡ book
  gone-same = by (buffer_ticket now v) refl
    where
      by : (o : Option ℕ) → buffer_ticket now v ≡ o → due_where (is_this_ticket o) book ≡ book
      by None at = due_where-none (is_this_ticket None) book (λ m. refl)
      by (Some t) at = (due t (ticket-left gone b v t (ap (λ x. buffer_ticket x v) (sym is) ∙ at))).same

-- one of the values
pub among : (vs : List ValueId) (d : ValueId) (i : ℕ) → i < length vs → is_one_of vs (get_or vs i d).0 ≡ true
among [] d i less = absurd (omega arith)
among (v ∷ vs) d zero less = or_left (v.0 == v.0) (is_one_of vs v.0) (same-self v.0)
among (v ∷ vs) d (suc i) less = or_right (v.0 == (get_or vs i d).0) (is_one_of vs (get_or vs i d).0) (among vs d i (omega (arith, less)))
