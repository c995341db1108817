-- What a change of one row changes of the maps that the rows stand for.
use Rattle.std.proofs.Common.{◌≡◌, ◌∙◌, ℕ, ◌==◌, nat_eq, ◌||◌, ◌&&◌, Bool, true, false, cond, List, [], ◌∷◌, Option, Some, None, option_map, is_some, refl, ap, sym, arith}
use Rattle.std.specs.List.{IsDistinct}
use Rattle.std.specs.Map.{keys_of}
use Rattle.std.specs.Option.{option_and_then, unwrap_or}
use Rattle.std.proofs.lemmas.Bool.Decides.{nat_tests}
use Rattle.napi_types.specs.declared.ids.Ticket.{Ticket}
use Rattle.napi_types.specs.plain.Lists.{found, has, has_number}
use Rattle.napi_types.specs.parts.Attachments.{Attachments, Wrapped, Tagged, Attached, no_attachments, wrap_of, tag_of, with_wrap, without_wrap, with_tag, with_attached, left_on}
use Rattle.napi_types.proofs.plain.Found.{has-found, same-tells, same-from, equal-tests}
use Rattle.wrap_tag.specs.declared.row.ValueRow.{ValueRow}
use Rattle.wrap_tag.specs.declared.row.Wrap.{Wrap}
use Rattle.wrap_tag.specs.declared.row.Tag.{Tag}
use Rattle.wrap_tag.specs.ValueRows.{tickets_of_chain, tickets_beside, blank_row, unwrapped_row, wrapped_as, tagged_as, wrap_in, tag_in, value_row, is_attached, attachments_of, AreRows, PutsRow, PutsTicket}
use Rattle.wrap_tag.specs.Wraps.{WrapState}
use Rattle.wrap_tag.proofs.ByValue.{IsByValue, found-mapped, mapped-with, mapped-same, mapped-without}
use Rattle.wrap_tag.proofs.ByTicket.{attached_ticket, absent-attached, attached-same, attached-with, attached-without}

-- THE MAPS

by_wrap : IsByValue (λ w. w.value) wrap_in
by_wrap v row r is = case row.wrap is
  where
    case : (o : Option Wrap) → option_map (wrapped_as v) o ≡ Some r → r.value ≡ v
    case None bare = let wrong : ⊥ = cc in absurd wrong
    case (Some w) here = let it : wrapped_as v w ≡ r = cc in sym (ap (λ (x : Wrapped). x.value) it)

by_tag : IsByValue (λ t. t.value) tag_in
by_tag v row r is = case row.tag is
  where
    case : (o : Option Tag) → option_map (tagged_as v) o ≡ Some r → r.value ≡ v
    case None bare = let wrong : ⊥ = cc in absurd wrong
    case (Some t) here = let it : tagged_as v t ≡ r = cc in sym (ap (λ (x : Tagged). x.value) it)

same-maps : (ws vs : List Wrapped) (ts us : List Tagged) (ks js : List Attached) → ws ≡ vs → ts ≡ us → ks ≡ js
    → let a : Attachments = record { wraps = ws; tags = ts; tickets = ks } in a ≡ record { wraps = vs; tags = us; tickets = js }
same-maps ws vs ts us ks js e f g = cc

pub attachments_of-none : attachments_of [] ≡ no_attachments
unfolding attachments_of
attachments_of-none = refl

pub wrap_of-rows : (v : ℕ) (rows : List (ℕ × ValueRow)) → AreRows rows → wrap_of (attachments_of rows) v ≡ option_and_then (wrap_in v) (value_row v rows)
unfolding attachments_of
wrap_of-rows v rows are = found-mapped (λ w. w.value) wrap_in by_wrap v rows are.values

pub tag_of-rows : (v : ℕ) (rows : List (ℕ × ValueRow)) → AreRows rows → tag_of (attachments_of rows) v ≡ option_and_then (tag_in v) (value_row v rows)
unfolding attachments_of
tag_of-rows v rows are = found-mapped (λ t. t.value) tag_in by_tag v rows are.values

-- A VALUE GETS ANOTHER ROW
module _ (v : ℕ) (row : Option ValueRow) (old new : List (ℕ × ValueRow)) (are : AreRows old) (puts : PutsRow v row old new) where
  -- which tickets are then attached
  now : (n w : ℕ) → is_attached n w new ≡ cond (nat_eq v w) (has_number n (tickets_beside row)) (is_attached n w old)
  now n w = ap (λ o. has_number n (tickets_beside o)) (puts.rows w) ∙ each (nat_eq v w) (value_row w old)
    where
      each : (b : Bool) (o : Option ValueRow) → has_number n (tickets_beside (cond b row o)) ≡ cond b (has_number n (tickets_beside row)) (has_number n (tickets_beside o))
      each true o = refl
      each false o = refl

  -- the same ones
  now-same : tickets_beside row ≡ tickets_beside (value_row v old) → (n w : ℕ) → is_attached n w new ≡ is_attached n w old
  now-same same n w = now n w ∙ each (nat_eq v w) refl
    where
      each : (b : Bool) → nat_eq v w ≡ b → cond b (has_number n (tickets_beside row)) (is_attached n w old) ≡ is_attached n w old
      each true here = ap (has_number n) same ∙ ap (λ u. is_attached n u old) (same-from v w here)
      each false apart = refl

  pub are-same : tickets_beside row ≡ tickets_beside (value_row v old) → AreRows new
  are-same same = record {
    values = puts.values;
    tickets = λ n w u here there. are.tickets n w u (sym (now-same same n w) ∙ here) (sym (now-same same n u) ∙ there);
  }

  -- one more
  now-with : (t : ℕ) → tickets_beside row ≡ t ∷ tickets_beside (value_row v old) → (n w : ℕ) → is_attached n w new ≡ (((v == w) && (t == n)) || is_attached n w old)
  now-with t more n w = now n w ∙ each (nat_eq v w) refl (ap (λ b. (b && (t == n)) || is_attached n w old) (equal-tests v w ∙ flipped w v))
    where
      flipped : (m k : ℕ) → nat_eq m k ≡ nat_eq k m
      flipped m k = sym (equal-tests k m) ∙ grind (arith, nat_tests)

      each : (b : Bool) → nat_eq v w ≡ b → (((v == w) && (t == n)) || is_attached n w old) ≡ ((nat_eq v w && (t == n)) || is_attached n w old)
          → cond b (has_number n (tickets_beside row)) (is_attached n w old) ≡ (((v == w) && (t == n)) || is_attached n w old)
      each true here tests = ap (has_number n) more ∙ ap (λ u. (t == n) || is_attached n u old) (same-from v w here) ∙ sym (tests ∙ ap (λ b. (b && (t == n)) || is_attached n w old) here)
      each false apart tests = sym (tests ∙ ap (λ b. (b && (t == n)) || is_attached n w old) apart)

  pub are-with : (t : ℕ) → tickets_beside row ≡ t ∷ tickets_beside (value_row v old) → ((w : ℕ) → is_attached t w old ≡ false) → AreRows new
  are-with t more fresh = record { values = puts.values; tickets = λ n w u here there. by n w u (t == n) refl (sym (now-with t more n w) ∙ here) (sym (now-with t more n u) ∙ there) }
    where
      only : (n w : ℕ) → t ≡ n → (b c d : Bool) → (v == w) ≡ b → is_attached n w old ≡ d → ((b && c) || d) ≡ true → v ≡ w
      only n w same true c d is old_is tells = same-tells v w is
      only n w same false c d is old_is tells =
          let no : ⊥ = let none : is_attached n w old ≡ false = ap (λ m. is_attached m w old) (sym same) ∙ fresh w in cc in absurd no

      left : (a b : Bool) → ((a && false) || b) ≡ true → b ≡ true
      left true b is = is
      left false b is = is

      by : (n w u : ℕ) (b : Bool) → (t == n) ≡ b → (((v == w) && (t == n)) || is_attached n w old) ≡ true → (((v == u) && (t == n)) || is_attached n u old) ≡ true → w ≡ u
      by n w u true is here there =
          sym (only n w (same-tells t n is) (v == w) (t == n) (is_attached n w old) refl refl here) ∙ only n u (same-tells t n is) (v == u) (t == n) (is_attached n u old) refl refl there
      by n w u false is here there =
          are.tickets n w u (left (v == w) (is_attached n w old) (sym (ap (λ b. ((v == w) && b) || is_attached n w old) is) ∙ here))
          (left (v == u) (is_attached n u old) (sym (ap (λ b. ((v == u) && b) || is_attached n u old) is) ∙ there))

  -- none
  now-without : row ≡ None → (n w : ℕ) → is_attached n w new ≡ cond (w == v) false (is_attached n w old)
  now-without none n w =
      now n w ∙ ap (λ o. cond (nat_eq v w) (has_number n (tickets_beside o)) (is_attached n w old)) none ∙ sym (ap (λ b. cond b false (is_attached n w old)) (equal-tests w v))

  pub are-without : row ≡ None → AreRows new
  are-without none = record { values = puts.values; tickets = λ n w u here there. are.tickets n w u (left (w == v) (is_attached n w old) (sym (now-without none n w) ∙ here)) (left (u == v) (is_attached n u old) (sym (now-without none n u) ∙ there)) }
    where
      left : (a b : Bool) → cond a false b ≡ true → b ≡ true
      left true b is = let no : ⊥ = cc in absurd no
      left false b is = is

  -- AND SO THE MAPS
  -- nothing that is attached changes
  pub maps-same : option_and_then (wrap_in v) row ≡ option_and_then (wrap_in v) (value_row v old) → option_and_then (tag_in v) row ≡ option_and_then (tag_in v) (value_row v old)
      → tickets_beside row ≡ tickets_beside (value_row v old) → attachments_of new ≡ attachments_of old
  unfolding attachments_of
  maps-same wraps tags tickets =
      same-maps _ _ _ _ _ _
      (mapped-same (λ w. w.value) wrap_in by_wrap v row old new are.values puts wraps)
      (mapped-same (λ t. t.value) tag_in by_tag v row old new are.values puts tags)
      (attached-same old new are puts.values (are-same tickets).tickets (now-same tickets))

  -- the value is wrapped
  pub maps-wrapped : (payload : ℕ) (t : Option ℕ) → option_and_then (wrap_in v) row ≡ Some (record { value = v; payload = payload; ticket = t }) → option_and_then (tag_in v) row ≡ option_and_then (tag_in v) (value_row v old)
      → tickets_beside row ≡ tickets_beside (value_row v old) → attachments_of new ≡ with_wrap v payload t (attachments_of old)
  unfolding attachments_of
  maps-wrapped payload t wraps tags tickets =
      same-maps _ _ _ _ _ _
      (mapped-with (λ w. w.value) wrap_in by_wrap v row old new are.values puts (record { value = v; payload = payload; ticket = t }) wraps)
      (mapped-same (λ t. t.value) tag_in by_tag v row old new are.values puts tags)
      (attached-same old new are puts.values (are-same tickets).tickets (now-same tickets))

  -- it is wrapped no more
  pub maps-unwrapped : option_and_then (wrap_in v) row ≡ None → option_and_then (tag_in v) row ≡ option_and_then (tag_in v) (value_row v old)
      → tickets_beside row ≡ tickets_beside (value_row v old) → attachments_of new ≡ without_wrap v (attachments_of old)
  unfolding attachments_of
  maps-unwrapped wraps tags tickets =
      same-maps _ _ _ _ _ _
      (mapped-without (λ w. w.value) wrap_in by_wrap v row old new are.values puts wraps)
      (mapped-same (λ t. t.value) tag_in by_tag v row old new are.values puts tags)
      (attached-same old new are puts.values (are-same tickets).tickets (now-same tickets))

  -- it is tagged
  pub maps-tagged : (lower upper : ℕ) → option_and_then (wrap_in v) row ≡ option_and_then (wrap_in v) (value_row v old) → option_and_then (tag_in v) row ≡ Some (record { value = v; lower = lower; upper = upper })
      → tickets_beside row ≡ tickets_beside (value_row v old) → attachments_of new ≡ with_tag v lower upper (attachments_of old)
  unfolding attachments_of
  maps-tagged lower upper wraps tags tickets =
      same-maps _ _ _ _ _ _
      (mapped-same (λ w. w.value) wrap_in by_wrap v row old new are.values puts wraps)
      (mapped-with (λ t. t.value) tag_in by_tag v row old new are.values puts (record { value = v; lower = lower; upper = upper }) tags)
      (attached-same old new are puts.values (are-same tickets).tickets (now-same tickets))

  -- it gets a finalizer more
  pub maps-attached : (t : ℕ) → option_and_then (wrap_in v) row ≡ option_and_then (wrap_in v) (value_row v old) → option_and_then (tag_in v) row ≡ option_and_then (tag_in v) (value_row v old)
      → tickets_beside row ≡ t ∷ tickets_beside (value_row v old) → ((w : ℕ) → is_attached t w old ≡ false) → attachments_of new ≡ with_attached v t (attachments_of old)
  unfolding attachments_of
  maps-attached t wraps tags tickets fresh =
      same-maps _ _ _ _ _ _
      (mapped-same (λ w. w.value) wrap_in by_wrap v row old new are.values puts wraps)
      (mapped-same (λ t. t.value) tag_in by_tag v row old new are.values puts tags)
      (attached-with old new are puts.values (are-with t tickets fresh).tickets v t (now-with t tickets))

  -- it is freed
  pub maps-left : row ≡ None → attachments_of new ≡ left_on (λ w. w == v) (attachments_of old)
  unfolding attachments_of
  maps-left none =
      same-maps _ _ _ _ _ _
      (mapped-without (λ w. w.value) wrap_in by_wrap v row old new are.values puts (ap (option_and_then (wrap_in v)) none))
      (mapped-without (λ t. t.value) tag_in by_tag v row old new are.values puts (ap (option_and_then (tag_in v)) none))
      (attached-without old new are puts.values (are-without none).tickets v (now-without none))

-- a ticket of the map of finalizers is attached to a value
pub fresh-attached : (t : ℕ) (rows : List (ℕ × ValueRow)) → AreRows rows → has (λ k. k.ticket) t (attachments_of rows).tickets ≡ false → (w : ℕ) → is_attached t w rows ≡ false
unfolding attachments_of
fresh-attached t rows are absent w = absent-attached t w rows are.values (none (found attached_ticket t (attachments_of rows).tickets) (sym (has-found attached_ticket t (attachments_of rows).tickets) ∙ absent))
  where
    none : (o : Option Attached) → is_some o ≡ false → o ≡ None
    none None is = refl
    none (Some k) is = let no : ⊥ = cc in absurd no

-- the rows in another order
pub reordered : (old new : List (ℕ × ValueRow)) → AreRows old → ((w : ℕ) → value_row w new ≡ value_row w old) → IsDistinct nat_eq (keys_of new) → PutsRow 0 (value_row 0 old) old new
reordered old new are same values = record { rows = λ w. same w ∙ each w (nat_eq 0 w) refl; values = values }
  where
    each : (w : ℕ) (b : Bool) → nat_eq 0 w ≡ b → value_row w old ≡ cond b (value_row 0 old) (value_row w old)
    each w true here = ap (λ u. value_row u old) (sym (same-from 0 w here))
    each w false apart = refl

pub reordered-maps : (old new : List (ℕ × ValueRow)) → AreRows old → ((w : ℕ) → value_row w new ≡ value_row w old) → IsDistinct nat_eq (keys_of new) → attachments_of new ≡ attachments_of old
reordered-maps old new are same values = maps-same 0 (value_row 0 old) old new are (reordered old new are same values) refl refl refl

-- what a value has, by the parts of its row
pub wrap_of-part : (v : ℕ) (rows : List (ℕ × ValueRow)) (a : Attachments) → AreRows rows → attachments_of rows ≡ a → (o : Option Wrap) → option_and_then (λ row. row.wrap) (value_row v rows) ≡ o → wrap_of a v ≡ option_map (wrapped_as v) o
wrap_of-part v rows a are view o is = ap (λ b. wrap_of b v) (sym view) ∙ wrap_of-rows v rows are ∙ by (value_row v rows) ∙ ap (option_map (wrapped_as v)) is
  where
    by : (p : Option ValueRow) → option_and_then (wrap_in v) p ≡ option_map (wrapped_as v) (option_and_then (λ row. row.wrap) p)
    by None = refl
    by (Some row) = refl

pub tag_of-part : (v : ℕ) (rows : List (ℕ × ValueRow)) (a : Attachments) → AreRows rows → attachments_of rows ≡ a → (o : Option Tag) → option_and_then (λ row. row.tag) (value_row v rows) ≡ o → tag_of a v ≡ option_map (tagged_as v) o
tag_of-part v rows a are view o is = ap (λ b. tag_of b v) (sym view) ∙ tag_of-rows v rows are ∙ by (value_row v rows) ∙ ap (option_map (tagged_as v)) is
  where
    by : (p : Option ValueRow) → option_and_then (tag_in v) p ≡ option_map (tagged_as v) (option_and_then (λ row. row.tag) p)
    by None = refl
    by (Some row) = refl

-- A ROW IS CHANGED WHERE IT STANDS, OR ELSE A FIRST ONE IS PUT
module _ (v : ℕ) (old new : List (ℕ × ValueRow)) (are : AreRows old) where
  abbrev stood : ValueRow
  stood = unwrap_or (value_row v old) blank_row

  kept-wrap : wrap_in v stood ≡ option_and_then (wrap_in v) (value_row v old)
  kept-wrap = by (value_row v old)
    where
      by : (o : Option ValueRow) → wrap_in v (unwrap_or o blank_row) ≡ option_and_then (wrap_in v) o
      by None = refl
      by (Some row) = refl

  kept-tag : tag_in v stood ≡ option_and_then (tag_in v) (value_row v old)
  kept-tag = by (value_row v old)
    where
      by : (o : Option ValueRow) → tag_in v (unwrap_or o blank_row) ≡ option_and_then (tag_in v) o
      by None = refl
      by (Some row) = refl

  kept-tickets : tickets_of_chain stood.tickets ≡ tickets_beside (value_row v old)
  kept-tickets = by (value_row v old)
    where
      by : (o : Option ValueRow) → tickets_of_chain (unwrap_or o blank_row).tickets ≡ tickets_beside o
      by None = refl
      by (Some row) = refl

  pub wrapped-rows : (payload : ℕ) (t : Option Ticket) → PutsRow v (Some (record stood { wrap = Some (record { payload = payload; ticket = t }) })) old new
      → (attachments_of new ≡ with_wrap v payload (option_map (λ k. k.0) t) (attachments_of old)) × AreRows new
  wrapped-rows payload t puts =
      let row : Option ValueRow = Some (record stood { wrap = Some (record { payload = payload; ticket = t }) }) in
      (maps-wrapped v row old new are puts payload (option_map (λ k. k.0) t) refl kept-tag kept-tickets, are-same v row old new are puts kept-tickets)

  pub tagged-rows : (lower upper : ℕ) → PutsRow v (Some (record stood { tag = Some (record { lower = lower; upper = upper }) })) old new
      → (attachments_of new ≡ with_tag v lower upper (attachments_of old)) × AreRows new
  tagged-rows lower upper puts =
      let row : Option ValueRow = Some (record stood { tag = Some (record { lower = lower; upper = upper }) }) in
      (maps-tagged v row old new are puts lower upper kept-wrap refl kept-tickets, are-same v row old new are puts kept-tickets)

  pub attached-rows : (t : ℕ) → PutsTicket v t old new → has (λ k. k.ticket) t (attachments_of old).tickets ≡ false
      → (attachments_of new ≡ with_attached v t (attachments_of old)) × AreRows new
  attached-rows t puts absent =
      let row : Option ValueRow = Some (record stood { tickets = puts.chain }) in
      let fresh = fresh-attached t old are absent in
      (maps-attached v row old new are puts.row t kept-wrap kept-tag puts.pushed fresh, are-with v row old new are puts.row t puts.pushed fresh)

-- A WRAP IS TAKEN OUT
module _ (v : ℕ) (old new : List (ℕ × ValueRow)) (are : AreRows old) (puts : PutsRow v (option_map unwrapped_row (value_row v old)) old new) where
  abbrev row : Option ValueRow
  row = option_map unwrapped_row (value_row v old)

  left-tag : option_and_then (tag_in v) row ≡ option_and_then (tag_in v) (value_row v old)
  left-tag = by (value_row v old)
    where
      by : (o : Option ValueRow) → option_and_then (tag_in v) (option_map unwrapped_row o) ≡ option_and_then (tag_in v) o
      by None = refl
      by (Some r) = refl

  left-tickets : tickets_beside row ≡ tickets_beside (value_row v old)
  left-tickets = by (value_row v old)
    where
      by : (o : Option ValueRow) → tickets_beside (option_map unwrapped_row o) ≡ tickets_beside o
      by None = refl
      by (Some r) = refl

  pub unwrapped-are : AreRows new
  unwrapped-are = are-same v row old new are puts left-tickets

  pub unwrapped-maps : attachments_of new ≡ without_wrap v (attachments_of old)
  unwrapped-maps = maps-unwrapped v row old new are puts (by (value_row v old)) left-tag left-tickets
    where
      by : (o : Option ValueRow) → option_and_then (wrap_in v) (option_map unwrapped_row o) ≡ None
      by None = refl
      by (Some r) = refl

  -- where there was none
  pub unwrapped-none : option_and_then (λ r. r.wrap) (value_row v old) ≡ None → attachments_of new ≡ attachments_of old
  unwrapped-none none = maps-same v row old new are puts (by (value_row v old) none) left-tag left-tickets
    where
      by : (o : Option ValueRow) → option_and_then (λ r. r.wrap) o ≡ None → option_and_then (wrap_in v) (option_map unwrapped_row o) ≡ option_and_then (wrap_in v) o
      by None bare = refl
      by (Some r) bare = sym (ap (option_map (wrapped_as v)) bare)

pub same-state : (a b : Attachments) (m n : ℕ) → a ≡ b → m ≡ n → let s : WrapState = record { attachments = a; spare = m } in s ≡ record { attachments = b; spare = n }
same-state a b m n maps spares = cc
