-- What holds of the tickets of all that is attached to values.
use Rattle.std.proofs.Common.{◌≡◌, ◌∙◌, ℕ, ◌==◌, Bool, true, not, List, [], ◌∷◌, map, filter_map, Option, Some, None, IfSome, refl, sym, subst}
use Rattle.std.specs.List.{All, cons_option}
use Rattle.std.specs.Option.{option_and_then}
use Rattle.std.proofs.lemmas.Bool.{or_left, or_right}
use Rattle.std.proofs.lemmas.List.Elements.{All-nil, All-cons, All-head, All-tail, All-map, All-append, All-filter, All-weaker}
use Rattle.std.proofs.lemmas.List.Folds.{list_any-append}
use Rattle.std.proofs.lemmas.Option.{IfSome_then}
use Rattle.napi_types.specs.plain.Lists.{has_number}
use Rattle.napi_types.specs.parts.Attachments.{Attachments, Wrapped, Attached, attached_where, tickets_in, tickets_where, left_on, wrap_of, wrap_ticket, with_wrap, without_wrap, with_attached}
use Rattle.napi_types.proofs.plain.Found.{found-All}
use Rattle.napi_types.proofs.plain.Maps.{All-with_record, among-holds, all-among}

-- P holds of the ticket of each wrap that has one, and of each that is attached
pub record HoldsAttached (P : ℕ → Type 0) (a : Attachments) : Type 0 where
  pub wraps : All (λ w. IfSome w.ticket P) a.wraps
  pub tickets : All (λ t. P t.ticket) a.tickets

abbrev WrapHolds : (ℕ → Type 0) → Wrapped → Type 0
WrapHolds P w = IfSome w.ticket P

abbrev TicketHolds : (ℕ → Type 0) → Attached → Type 0
TicketHolds P t = P t.ticket

module _ (P : ℕ → Type 0) where
  -- OF ALL TICKETS
  wraps-from : (ws : List Wrapped) → All P (filter_map (λ w. w.ticket) ws) → All (WrapHolds P) ws
  wraps-from [] all = All-nil (WrapHolds P)
  wraps-from (w ∷ ws) all = by w.ticket refl all (wraps-from ws)
    where
      rest : List ℕ
      rest = filter_map (λ x. x.ticket) ws

      with_ticket : (o : Option ℕ) → w.ticket ≡ o → IfSome o P → All (WrapHolds P) ws → All (WrapHolds P) (w ∷ ws)
      with_ticket o is here later = All-cons (WrapHolds P) w ws (subst (λ x. IfSome x P) (sym is) here) later

      by : (o : Option ℕ) → w.ticket ≡ o → All P (cons_option o rest) → (All P rest → All (WrapHolds P) ws) → All (WrapHolds P) (w ∷ ws)
      by None is here later = with_ticket None is tt (later here)
      by (Some n) is here later = with_ticket (Some n) is (All-head P n rest here) (later (All-tail P n rest here))

  tickets-from : (ts : List Attached) → All P (map (λ t. t.ticket) ts) → All (TicketHolds P) ts
  tickets-from [] all = All-nil (TicketHolds P)
  tickets-from (t ∷ ts) all = All-cons (TicketHolds P) t ts (All-head P t.ticket _ all) (tickets-from ts (All-tail P t.ticket _ all))

  pub HoldsAttached-from : (a : Attachments) → ((n : ℕ) → has_number n (tickets_in a) ≡ true → P n) → HoldsAttached P a
  HoldsAttached-from a holds =
      let ws : List ℕ = filter_map (λ w. w.ticket) a.wraps in
      let ts : List ℕ = map (λ t. t.ticket) a.tickets in
      record {
        wraps = wraps-from a.wraps (all-among P ws (λ n here. holds n (list_any-append (λ m. m == n) ws ts ∙ or_left (has_number n ws) (has_number n ts) here)));
        tickets = tickets-from a.tickets (all-among P ts (λ n here. holds n (list_any-append (λ m. m == n) ws ts ∙ or_right (has_number n ws) (has_number n ts) here)));
      }

  wraps-tickets : (ws : List Wrapped) → All (WrapHolds P) ws → All P (filter_map (λ w. w.ticket) ws)
  wraps-tickets [] all = All-nil P
  wraps-tickets (w ∷ ws) all = by w.ticket (All-head (WrapHolds P) w ws all) (wraps-tickets ws (All-tail (WrapHolds P) w ws all))
    where
      rest : List ℕ
      rest = filter_map (λ x. x.ticket) ws

      by : (o : Option ℕ) → IfSome o P → All P rest → All P (cons_option o rest)
      by (Some n) here later = All-cons P n rest here later
      by None here later = later

  pub All-tickets_in : (a : Attachments) → HoldsAttached P a → All P (tickets_in a)
  All-tickets_in a h = All-append P _ _ (wraps-tickets a.wraps h.wraps) (All-map P (λ (t : Attached). t.ticket) a.tickets h.tickets)

  pub tickets_in-holds : (a : Attachments) → HoldsAttached P a → (n : ℕ) → has_number n (tickets_in a) ≡ true → P n
  tickets_in-holds a h n here = among-holds P (tickets_in a) n (All-tickets_in a h) here

  -- OF SOME TICKETS
  -- what is attached to the values that pass a test
  pub HoldsAttached-where : (test : ℕ → Bool) (a : Attachments) → HoldsAttached P a → HoldsAttached P (attached_where test a)
  HoldsAttached-where test a h = record {
    wraps = All-filter (λ w. test w.value) (WrapHolds P) a.wraps h.wraps;
    tickets = All-filter (λ t. test t.value) (TicketHolds P) a.tickets h.tickets;
  }

  -- their tickets
  pub tickets_where-holds : (a : Attachments) → HoldsAttached P a → (test : ℕ → Bool) (n : ℕ) → has_number n (tickets_where test a) ≡ true → P n
  tickets_where-holds a h test n here = tickets_in-holds (attached_where test a) (HoldsAttached-where test a h) n here

  -- that of a value's wrap
  pub wrap_ticket-holds : (a : Attachments) (v : ℕ) → HoldsAttached P a → IfSome (wrap_ticket a v) P
  wrap_ticket-holds a v h = by (wrap_of a v) refl
    where
      by : (o : Option Wrapped) → wrap_of a v ≡ o → IfSome (option_and_then (λ (w : Wrapped). w.ticket) o) P
      by None is = tt
      by (Some w) is = found-All (λ (x : Wrapped). x.value) (WrapHolds P) v a.wraps w h.wraps is

  -- AS MORE OR LESS IS ATTACHED
  pub HoldsAttached-with_wrap : (v payload : ℕ) (t : Option ℕ) (a : Attachments) → IfSome t P → HoldsAttached P a → HoldsAttached P (with_wrap v payload t a)
  HoldsAttached-with_wrap v payload t a here h = record {
    wraps = All-with_record (λ (w : Wrapped). w.value) (record { value = v; payload = payload; ticket = t }) (WrapHolds P) a.wraps here h.wraps;
    tickets = h.tickets;
  }

  pub HoldsAttached-without_wrap : (v : ℕ) (a : Attachments) → HoldsAttached P a → HoldsAttached P (without_wrap v a)
  HoldsAttached-without_wrap v a h = record { wraps = All-filter (λ w. not (w.value == v)) (WrapHolds P) a.wraps h.wraps; tickets = h.tickets }

  pub HoldsAttached-with_attached : (v t : ℕ) (a : Attachments) → P t → HoldsAttached P a → HoldsAttached P (with_attached v t a)
  HoldsAttached-with_attached v t a here h = record {
    wraps = h.wraps;
    tickets = All-with_record (λ (x : Attached). x.ticket) (record { value = v; ticket = t }) (TicketHolds P) a.tickets here h.tickets;
  }

  pub HoldsAttached-left_on : (freed : ℕ → Bool) (a : Attachments) → HoldsAttached P a → HoldsAttached P (left_on freed a)
  HoldsAttached-left_on freed a h = HoldsAttached-where (λ v. not (freed v)) a h

pub HoldsAttached-weaker : (P Q : ℕ → Type 0) → ((n : ℕ) → P n → Q n) → (a : Attachments) → HoldsAttached P a → HoldsAttached Q a
HoldsAttached-weaker P Q weaker a h = record {
  wraps = All-weaker (WrapHolds P) (WrapHolds Q) (λ w is. IfSome_then w.ticket is weaker) a.wraps h.wraps;
  tickets = All-weaker (TicketHolds P) (TicketHolds Q) (λ t is. weaker t.ticket is) a.tickets h.tickets;
}
