-- The buffers that a caller sees, read from the tables, and what each call makes of both.
use Rattle.std.proofs.Common.{◌≡◌, ◌∙◌, ℕ, ◌+◌, ◌-◌, ◌*◌, ◌^◌, ◌%◌, ◌≤◌, ◌<◌, nat_eq, Bool, true, false, not, cond, List, [], length, replicate, Option, Some, None, IfSome, IsSomeAnd, OnErr, Result, Ok, Err, is_some, is_none, option_map, refl, ap, sym, subst, arith}
use Rattle.std.specs.Map.{lookup}
use Rattle.std.specs.Option.{option_and_then, option_map_or}
use Rattle.array_buffers.specs.declared.row.BufferRow.{BufferRow}
use Rattle.napi_types.proofs.plain.Found.{rising-map}
use Rattle.napi_types.specs.declared.view.ViewInfo.{ViewInfo}
use Rattle.napi_types.specs.parts.Buffers.{ArrayBuffer, Buffers, no_buffers, most_buffer_bytes, most_bytes_together, IsElementSize, buffer_at, view_at, is_viewed, buffer_bytes, buffer_length, total_bytes, is_detached_buffer, live_bytes, view_end, element_in, element_read, with_element_in, with_buffer, with_view, buffer_changed_at, with_detached, with_element_written, without_buffer, LiesInBuffer, AreWithinLimits}
use Rattle.array_buffers.specs.BufferTables.{row_bytes, row_length, buffer_row, buffer_row_at, bytes_of_row, row_changed, EndsWithin, buffers_of, StandsForBuffers}
use Rattle.array_buffers.specs.KeptBuffers.{KeptBuffers, AreBufferMaps}
use Rattle.array_buffers.proofs.BufferMaps.{Stands, stands-for, is-these, view-in-table, stands-same, stands-made, stands-changed, stands-viewed, stands-gone}
use Rattle.array_buffers.proofs.Bytes.{length-written, read-written}
use Rattle.array_buffers.proofs.Limits.{limits-shrunk, total-made, limits-made, limits-viewed, total-changed, live-changed, shrinks-changed, total-gone, shrinks-gone}

-- what a caller sees is what the tables stand for
pub seen : {a b : KeptBuffers} → a ≡ b → a.buffers ≡ b.buffers
seen is = ap (λ (k : KeptBuffers). k.buffers) is

-- before the first
pub none-kept : StandsForBuffers 0 no_buffers
none-kept = record {
  total = refl;
  limits = record {
    each = λ v n is. let no : ⊥ = cc in absurd no;
    together = omega arith;
    views = λ v about is. let no : ⊥ = cc in absurd no;
  };
}

pub none-told : {X : Type 0} (o : Option X) (b : Bool) → is_some o ≡ not b → b ≡ is_none o
none-told None true is = refl
none-told None false is = let no : ⊥ = cc in absurd no
none-told (Some x) true is = let no : ⊥ = cc in absurd no
none-told (Some x) false is = refl

pub on-err : {A E : Type 0} (r : Result A E) (P : Type 0) → P → OnErr r P
on-err (Ok x) P holds = tt
on-err (Err e) P holds = holds

-- what is kept and what a caller sees
both : (rows : List (ℕ × BufferRow)) (views : List (ℕ × ViewInfo)) (t : ℕ) (b : Buffers) → Stands rows views b → StandsForBuffers t b → StandsForBuffers t (buffers_of rows views) × (buffers_of rows views ≡ b)
both rows views t b s k = let is = is-these rows views b s in (subst (StandsForBuffers t) (sym is) k, is)

module _ (rows : List (ℕ × BufferRow)) (views : List (ℕ × ViewInfo)) (t : ℕ) (b : Buffers) (is : buffers_of rows views ≡ b) (kept : StandsForBuffers t (buffers_of rows views)) where
  s : Stands rows views b
  s = stands-for rows views b is

  k : StandsForBuffers t b
  k = subst (StandsForBuffers t) is kept

  -- READ
  pub limits-now : AreWithinLimits b
  limits-now = k.limits

  pub maps-now : AreBufferMaps b
  maps-now = record { buffers = rising-map (λ r. r.value) b.buffers s.buffers; views = rising-map (λ w. w.value) b.views s.views }

  pub total-now : t ≡ total_bytes b
  total-now = k.total

  pub buffer-now : (v : ℕ) (o : Option BufferRow) → o ≡ lookup (nat_eq v) rows → option_map (buffer_row v) o ≡ buffer_at b v
  buffer-now v o here = ap (option_map (buffer_row v)) here ∙ sym (s.each v)

  pub row-now : (v : ℕ) → buffer_row_at v rows ≡ buffer_at b v
  row-now v = sym (s.each v)

  pub view-now : (v : ℕ) (o : Option ViewInfo) → o ≡ lookup (nat_eq v) views → o ≡ view_at b v
  view-now v o here = here ∙ sym (view-in-table rows views b s v)

  pub detached-now : (v : ℕ) (o : Option BufferRow) → o ≡ lookup (nat_eq v) rows → option_map_or (λ r. is_none r.bytes) o false ≡ is_detached_buffer b v
  detached-now v o here = at o ∙ ap (λ p. option_map_or (λ r. is_none r.bytes) p false) (buffer-now v o here)
    where
      mapped : {X Y : Type 0} (f : X → Y) (p : Option X) → is_none p ≡ is_none (option_map f p)
      mapped f None = refl
      mapped f (Some x) = refl

      at : (p : Option BufferRow) → option_map_or (λ r. is_none r.bytes) p false ≡ option_map_or (λ r. is_none r.bytes) (option_map (buffer_row v) p) false
      at None = refl
      at (Some row) = mapped _ row.bytes

  pub length-now : (v : ℕ) (row : BufferRow) → Some row ≡ lookup (nat_eq v) rows → Some (row_length row) ≡ buffer_length b v
  length-now v row here = ap (option_map buffer_bytes) (buffer-now v (Some row) here)

  pub length-small : (v : ℕ) (row : BufferRow) → Some row ≡ lookup (nat_eq v) rows → row_length row ≤ most_buffer_bytes
  length-small v row here = k.limits.each v (row_length row) (sym (length-now v row here))

  -- a view lies in the bytes of its buffer
  module _ (v : ℕ) (about : ViewInfo) (here : Some about ≡ lookup (nat_eq v) views) where
    lies : LiesInBuffer about b
    lies = k.limits.views v about (sym (view-now v (Some about) here))

    pub size-now : IsElementSize about.size
    size-now = lies.size

    pub within-now : EndsWithin about (bytes_of_row (buffer_row_at about.buffer.0 rows))
    within-now = subst (λ o. EndsWithin about (bytes_of_row o)) (sym (row-now about.buffer.0)) (at (live_bytes b about.buffer.0) refl)
      where
        at : (o : Option (List ℕ)) → live_bytes b about.buffer.0 ≡ o → EndsWithin about o
        at None none = tt
        at (Some bs) some = lies.within bs some

    pub read-now : (at : ℕ) → option_and_then (element_in about at) (bytes_of_row (buffer_row_at about.buffer.0 rows)) ≡ element_read b v at
    read-now at =
        ap (λ o. option_and_then (element_in about at) (bytes_of_row o)) (row-now about.buffer.0)
        ∙ ap (option_and_then (λ x. option_and_then (element_in x at) (live_bytes b x.buffer.0))) (view-now v (Some about) here)

  pub none-read : (v at : ℕ) → None ≡ lookup (nat_eq v) views → None ≡ element_read b v at
  none-read v at here = ap (option_and_then (λ x. option_and_then (element_in x at) (live_bytes b x.buffer.0))) (view-now v None here)

  pub none-written : (v at n : ℕ) → None ≡ lookup (nat_eq v) views → b ≡ with_element_written v at n b
  none-written v at n here = ap (λ o. option_map_or (λ about. buffer_changed_at (option_map (with_element_in about at n)) about.buffer.0 b) o b) (view-now v None here)

  pub none-kept-there : (v at n : ℕ) (c : Buffers) → None ≡ lookup (nat_eq v) views
      → IfSome (view_at b v) (λ about. element_read c v at ≡ option_map (λ _. n % 2 ^ (8 * about.size)) (element_read b v at))
  none-kept-there v at n c here = subst (λ o. IfSome o (λ about. element_read c v at ≡ option_map (λ _. n % 2 ^ (8 * about.size)) (element_read b v at))) (view-now v None here) tt

  -- CHANGED
  pub same-after : (rows' : List (ℕ × BufferRow)) (views' : List (ℕ × ViewInfo)) → ((w : ℕ) → lookup (nat_eq w) rows' ≡ lookup (nat_eq w) rows)
      → ((w : ℕ) → lookup (nat_eq w) views' ≡ lookup (nat_eq w) views) → StandsForBuffers t (buffers_of rows' views') × (buffers_of rows' views' ≡ b)
  same-after rows' views' same those =
      both rows' views' t b (stands-same rows rows' views views' b s 0 (λ w. ap (option_map (buffer_row w)) (same w)) those) k

  pub made-after : (v size : ℕ) (ticket : Option ℕ) (row : BufferRow) (rows' : List (ℕ × BufferRow)) → row_bytes row ≡ Some (replicate size 0) → option_map (λ t. t.0) row.ticket ≡ ticket
      → ((w : ℕ) → buffer_row_at w rows' ≡ cond (nat_eq v w) (Some (buffer_row w row)) (buffer_row_at w rows))
      → size ≤ most_buffer_bytes → total_bytes b + size ≤ most_bytes_together → buffer_at b v ≡ None → is_viewed b v ≡ false
      → StandsForBuffers (t + size) (buffers_of rows' views) × (buffers_of rows' views ≡ with_buffer v size ticket b)
  made-after v size ticket row rows' zeros told put few together none unseen =
      both rows' views (t + size) (with_buffer v size ticket b) (stands-made rows rows' views [] b s v size ticket row zeros told put) (record {
        total = ap (λ n. n + size) k.total ∙ sym (total-made b s.buffers v size ticket none);
        limits = limits-made b s.buffers v size ticket none k.limits few together unseen;
      })

  pub viewed-after : (v : ℕ) (about : ViewInfo) (views' : List (ℕ × ViewInfo)) → ((w : ℕ) → lookup (nat_eq w) views' ≡ cond (nat_eq v w) (Some about) (lookup (nat_eq w) views))
      → IsElementSize about.size → IsSomeAnd (buffer_length b about.buffer.0) (λ end. view_end about ≤ end) → StandsForBuffers t (buffers_of rows views') × (buffers_of rows views' ≡ with_view v about b)
  viewed-after v about views' put size lies =
      both rows views' t (with_view v about b) (stands-viewed rows [] views views' b s v about put) (record { total = k.total; limits = limits-viewed b v about k.limits size lies })

  -- detached
  module _ (v n : ℕ) (rows' : List (ℕ × BufferRow)) (given : n ≡ option_map_or buffer_bytes (buffer_row_at v rows) 0)
      (changed : (w : ℕ) → buffer_row_at w rows' ≡ cond (nat_eq v w) (option_map (row_changed (λ bytes. None)) (buffer_row_at v rows)) (buffer_row_at w rows)) where
    here : n ≡ option_map_or buffer_bytes (buffer_at b v) 0
    here = given ∙ ap (λ o. option_map_or buffer_bytes o 0) (row-now v)

    none-left : (o : Option ArrayBuffer) → option_map_or {U = ℕ} (λ r. 0) o 0 ≡ 0
    none-left None = refl
    none-left (Some r) = refl

    sums : total_bytes (with_detached v b) + n ≡ total_bytes b
    sums = omega (arith, here, total-changed b s.buffers v (λ bytes. None), none-left (buffer_at b v))

    pub detached-sum : n ≤ t
    detached-sum = omega (arith, sums, k.total)

    pub detached-after : StandsForBuffers (t - n) (buffers_of rows' views) × (buffers_of rows' views ≡ with_detached v b)
    detached-after =
        both rows' views (t - n) (with_detached v b) (stands-changed rows rows' views [] b s v (λ bytes. None) changed) (record {
          total = omega (arith, sums, k.total);
          limits = limits-shrunk b (with_detached v b) (shrinks-changed b s.buffers v (λ bytes. None) (λ r bs there none. let no : ⊥ = cc in absurd no) (omega (arith, none-left (buffer_at b v)))) k.limits;
        })

  -- gone
  module _ (v n : ℕ) (rows' : List (ℕ × BufferRow)) (views' : List (ℕ × ViewInfo)) (given : n ≡ option_map_or buffer_bytes (buffer_row_at v rows) 0)
      (taken : (w : ℕ) → buffer_row_at w rows' ≡ cond (nat_eq v w) None (buffer_row_at w rows)) (removed : (w : ℕ) → lookup (nat_eq w) views' ≡ cond (nat_eq v w) None (lookup (nat_eq w) views)) where
    left : total_bytes (without_buffer v b) + n ≡ total_bytes b
    left = omega (arith, given, ap (λ o. option_map_or buffer_bytes o 0) (row-now v), total-gone b s.buffers v)

    pub gone-sum : n ≤ t
    gone-sum = omega (arith, left, k.total)

    pub gone-after : StandsForBuffers (t - n) (buffers_of rows' views') × (buffers_of rows' views' ≡ without_buffer v b)
    gone-after =
        both rows' views' (t - n) (without_buffer v b) (stands-gone rows rows' views views' b s v taken removed) (record {
          total = omega (arith, left, k.total);
          limits = limits-shrunk b (without_buffer v b) (shrinks-gone b s.buffers v) k.limits;
        })

  -- written
  module _ (v at n : ℕ) (about : ViewInfo) (here : Some about ≡ lookup (nat_eq v) views) (rows' : List (ℕ × BufferRow))
      (written : (w : ℕ) → buffer_row_at w rows'
      ≡ cond (nat_eq about.buffer.0 w) (option_map (row_changed (option_map (with_element_in about at n))) (buffer_row_at about.buffer.0 rows)) (buffer_row_at w rows)) where
    abbrev change : Option (List ℕ) → Option (List ℕ)
    change = option_map (with_element_in about at n)

    abbrev after : Buffers
    after = buffer_changed_at change about.buffer.0 b

    about-here : LiesInBuffer about b
    about-here = k.limits.views v about (sym (view-now v (Some about) here))

    same-length : (r : ArrayBuffer) (bs : List ℕ) → buffer_at b about.buffer.0 ≡ Some r → r.bytes ≡ Some bs → length (with_element_in about at n bs) ≡ length bs
    same-length r bs there told = length-written about at n bs (about-here.within bs (ap (option_and_then (λ q. q.bytes)) there ∙ told))

    was-there : (r : ArrayBuffer) (bs : List ℕ) → buffer_at b about.buffer.0 ≡ Some r → change r.bytes ≡ Some bs → (ds : List ℕ) × (r.bytes ≡ Some ds) × (length ds ≡ length bs)
    was-there r bs there told = by r.bytes refl told
      where
        by : (o : Option (List ℕ)) → r.bytes ≡ o → option_map (with_element_in about at n) o ≡ Some bs → (ds : List ℕ) × (r.bytes ≡ Some ds) × (length ds ≡ length bs)
        by None is made = let no : ⊥ = cc in absurd no
        by (Some ds) is made = let same : with_element_in about at n ds ≡ bs = cc in (ds, is, sym (same-length r ds there is) ∙ ap length same)

    as-many : (o : Option ArrayBuffer) → buffer_at b about.buffer.0 ≡ o → option_map_or (λ r. option_map_or length (change r.bytes) 0) o 0 ≡ option_map_or buffer_bytes o 0
    as-many None is = refl
    as-many (Some r) is = by r.bytes refl
      where
        by : (o : Option (List ℕ)) → r.bytes ≡ o → option_map_or length (option_map (with_element_in about at n) o) 0 ≡ option_map_or length o 0
        by None told = refl
        by (Some bs) told = same-length r bs is told

    kept-sum : total_bytes after ≡ total_bytes b
    kept-sum = omega (arith, as-many (buffer_at b about.buffer.0) refl, total-changed b s.buffers about.buffer.0 change)

    stays : StandsForBuffers t (buffers_of rows' views) × (buffers_of rows' views ≡ after)
    stays =
        both rows' views t after (stands-changed rows rows' views [] b s about.buffer.0 change written) (record {
          total = k.total ∙ sym kept-sum;
          limits = limits-shrunk b after (shrinks-changed b s.buffers about.buffer.0 change was-there (omega (arith, as-many (buffer_at b about.buffer.0) refl))) k.limits;
        })

    pub written-kept : StandsForBuffers t (buffers_of rows' views)
    written-kept = stays.0

    written-is : after ≡ with_element_written v at n b
    written-is = ap (λ o. option_map_or (λ x. buffer_changed_at (option_map (with_element_in x at n)) x.buffer.0 b) o b) (view-now v (Some about) here)

    pub written-after : buffers_of rows' views ≡ with_element_written v at n b
    written-after = stays.1 ∙ written-is

    live-after : live_bytes after about.buffer.0 ≡ option_map (with_element_in about at n) (live_bytes b about.buffer.0)
    live-after = live-changed b s.buffers about.buffer.0 change ∙ by (buffer_at b about.buffer.0)
      where
        by : (o : Option ArrayBuffer) → option_and_then (λ r. change r.bytes) o ≡ option_map (with_element_in about at n) (option_and_then (λ r. r.bytes) o)
        by None = refl
        by (Some r) = refl

    read-after : n < 2 ^ 64 → element_read after v at ≡ option_map (λ _. n % 2 ^ (8 * about.size)) (element_read b v at)
    read-after small =
        ap (option_and_then (λ x. option_and_then (element_in x at) (live_bytes after x.buffer.0))) (sym (view-now v (Some about) here))
        ∙ ap (option_and_then (element_in about at)) live-after ∙ by (live_bytes b about.buffer.0) refl
        ∙ ap (λ o. option_map (λ _. n % 2 ^ (8 * about.size)) (option_and_then (λ x. option_and_then (element_in x at) (live_bytes b x.buffer.0)) o)) (view-now v (Some about) here)
      where
        by : (o : Option (List ℕ)) → live_bytes b about.buffer.0 ≡ o
            → option_and_then (element_in about at) (option_map (with_element_in about at n) o) ≡ option_map (λ _. n % 2 ^ (8 * about.size)) (option_and_then (element_in about at) o)
        by None is = refl
        by (Some bs) is = read-written about at n bs about-here.size small (about-here.within bs is)

    pub written-there : (c : Buffers) → c ≡ buffers_of rows' views → n < 2 ^ 64
        → IfSome (view_at b v) (λ x. element_read c v at ≡ option_map (λ _. n % 2 ^ (8 * x.size)) (element_read b v at))
    written-there c now small =
        subst (λ o. IfSome o (λ x. element_read c v at ≡ option_map (λ _. n % 2 ^ (8 * x.size)) (element_read b v at))) (view-now v (Some about) here)
        (ap (λ d. element_read d v at) (now ∙ stays.1) ∙ read-after small)
