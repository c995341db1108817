-- Buffers and views stay sound as they are made, changed and collected: each view lies in a buffer, and all buffers are within their limits.
use Rattle.std.proofs.Common.{◌≡◌, ◌∙◌, ◌<◌, ◌≤◌, arith, ℕ, ◌+◌, ◌*◌, ◌==◌, ◌&&◌, ◌||◌, nat_lt, Bool, true, false, not, cond, List, [], ◌∷◌, ◌++◌, filter, length, map, replicate, refl, ap, sym, subst, Option, Some, None, IsSome, is_some, option_map, slice_index_or}
use Rattle.std.specs.Int.{bytes_low_first}
use Rattle.std.specs.List.{All, list_any}
use Rattle.std.specs.Option.{IfSome, option_and_then, option_map_or}
use Rattle.std.proofs.lemmas.Bool.{and_parts, le-ltb, lt-ltb, ltb-true, or_left, or_right}
use Rattle.std.proofs.lemmas.List.{length-replicate}
use Rattle.std.proofs.lemmas.List.Elements.{All-nil, All-filter, All-head, All-map, All-tail, All-weaker, filter_passes}
use Rattle.std.proofs.lemmas.List.Folds.{list_any-append}
use Rattle.std.proofs.lemmas.List.Sums.{sum_by-cons}
use Rattle.std.proofs.lemmas.Nat.{mul-le}
use Rattle.napi_types.specs.declared.view.ViewInfo.{ViewInfo}
use Rattle.napi_types.specs.plain.Lists.{found, with_record}
use Rattle.napi_types.specs.parts.Attachments.{Attachments, with_attached, left_on}
use Rattle.napi_types.specs.parts.Buffers.{ArrayBuffer, BufferView, Buffers, LiesInBuffer, no_buffers, buffer_at, view_at, buffer_bytes, live_bytes, total_bytes, most_buffer_bytes, most_bytes_together, element_start, view_end, with_buffer, with_view, with_detached, buffer_changed_at, overwritten, with_element_in, with_element_written, buffers_left}
use Rattle.napi_types.proofs.parts.PlacedBytes.{how-many, length-over}
use Rattle.napi_types.proofs.plain.Found.{IsRising, found-All, found-changed, found-filter, found-with_record, same-self, same-tells}
use Rattle.napi_types.proofs.plain.Maps.{All-with_record}
use Rattle.machine_laws.specs.Consistency.{AreSoundBuffers, has_attached}
use Rattle.machine_laws.proofs.BuffersFit.{buffer_value, view_value, each-buffer}

-- ATTACHED FINALIZERS
-- a test finds something among those that pass another one, where all that it finds do
any-kept : {A : Type 0} (p q : A → Bool) → ((x : A) → p x ≡ true → q x ≡ true) → (xs : List A) → list_any p xs ≡ true → list_any p (filter q xs) ≡ true
any-kept p q keeps [] some = cc
any-kept p q keeps (x ∷ xs) some = by (p x) (q x) refl refl some (any-kept p q keeps xs)
  where
    by : (c d : Bool) → p x ≡ c → q x ≡ d → (c || list_any p xs) ≡ true → (list_any p xs ≡ true → list_any p (filter q xs) ≡ true)
        → list_any p (cond d (x ∷ filter q xs) (filter q xs)) ≡ true
    by true true here stays found later = or_left (p x) (list_any p (filter q xs)) here
    by true false here goes found later = let no : true ≡ false = sym (keeps x here) ∙ goes in cc
    by false true other stays found later = or_right (p x) (list_any p (filter q xs)) (later found)
    by false false other goes found later = later found

-- a finalizer more is attached: so is the new one, and what was attached below it is
module _ (v n : ℕ) (a : Attachments) where
  pub attached-new : has_attached (with_attached v n a) n v ≡ true
  attached-new =
      list_any-append (λ t. (t.ticket == n) && (t.value == v)) (filter (λ t. nat_lt t.ticket n) a.tickets) _
      ∙ or_right (list_any (λ t. (t.ticket == n) && (t.value == v)) (filter (λ t. nat_lt t.ticket n) a.tickets)) _
      (rw (same-self n, same-self v) refl)

  pub attached-below : (ticket w : ℕ) → ticket < n → has_attached a ticket w ≡ true → has_attached (with_attached v n a) ticket w ≡ true
  attached-below ticket w below some =
      list_any-append (λ t. (t.ticket == ticket) && (t.value == w)) (filter (λ t. nat_lt t.ticket n) a.tickets) _
      ∙ or_left (list_any (λ t. (t.ticket == ticket) && (t.value == w)) (filter (λ t. nat_lt t.ticket n) a.tickets)) _
      (any-kept (λ t. (t.ticket == ticket) && (t.value == w)) (λ t. nat_lt t.ticket n)
      (λ t is. lt-ltb t.ticket n (subst (λ m. m < n) (sym (same-tells t.ticket ticket (and_parts (t.ticket == ticket) (t.value == w) is).0)) below))
      a.tickets some)

-- what is attached to a value that stays does
attached-left : (gone : ℕ → Bool) (ticket v : ℕ) (a : Attachments) → not (gone v) ≡ true → has_attached a ticket v ≡ true
    → has_attached (left_on gone a) ticket v ≡ true
attached-left gone ticket v a stays some =
    any-kept (λ t. (t.ticket == ticket) && (t.value == v)) (λ t. not (gone t.value))
    (λ t is. subst (λ m. not (gone m) ≡ true) (sym (same-tells t.value v (and_parts (t.ticket == ticket) (t.value == v) is).1)) stays) a.tickets some

-- HOW MANY BYTES
-- those of a list of buffers
abbrev bytes_of : List ArrayBuffer → ℕ
bytes_of rs = total_bytes (record { buffers = rs; views = [] })

bytes-cons : (r : ArrayBuffer) (rs : List ArrayBuffer) → bytes_of (r ∷ rs) ≡ buffer_bytes r + bytes_of rs
bytes-cons r rs = omega (arith, sum_by-cons (λ n. n) (buffer_bytes r) (map buffer_bytes rs), sum_by-cons buffer_bytes r rs)

bytes-append : (rs ss : List ArrayBuffer) → bytes_of (rs ++ ss) ≡ bytes_of rs + bytes_of ss
bytes-append [] ss = omega arith
bytes-append (r ∷ rs) ss = omega (arith, bytes-cons r (rs ++ ss), bytes-cons r rs, bytes-append rs ss)

bytes-filter : (p : ArrayBuffer → Bool) (rs : List ArrayBuffer) → bytes_of (filter p rs) ≤ bytes_of rs
bytes-filter p [] = omega arith
bytes-filter p (r ∷ rs) = by (p r) (bytes-filter p rs)
  where
    by : (b : Bool) → bytes_of (filter p rs) ≤ bytes_of rs → bytes_of (cond b (r ∷ filter p rs) (filter p rs)) ≤ bytes_of (r ∷ rs)
    by true less = omega (arith, less, bytes-cons r rs, bytes-cons r (filter p rs))
    by false less = omega (arith, less, bytes-cons r rs)

module _ (x : ArrayBuffer) where
  abbrev lower_buffers : List ArrayBuffer → List ArrayBuffer
  lower_buffers rs = filter (λ r. nat_lt r.value x.value) rs

  abbrev higher_buffers : List ArrayBuffer → List ArrayBuffer
  higher_buffers rs = filter (λ r. nat_lt x.value r.value) rs

  parts-bytes : (rs : List ArrayBuffer) → bytes_of (lower_buffers rs) + bytes_of (higher_buffers rs) ≤ bytes_of rs
  parts-bytes [] = omega arith
  parts-bytes (r ∷ rs) =
      by (nat_lt r.value x.value) (nat_lt x.value r.value)
      (λ below. le-ltb x.value r.value (omega (arith, ltb-true r.value x.value below))) (parts-bytes rs)
    where
      by : (b c : Bool) → (b ≡ true → c ≡ false) → bytes_of (lower_buffers rs) + bytes_of (higher_buffers rs) ≤ bytes_of rs
          → bytes_of (cond b (r ∷ lower_buffers rs) (lower_buffers rs)) + bytes_of (cond c (r ∷ higher_buffers rs) (higher_buffers rs)) ≤ bytes_of (r ∷ rs)
      by true true apart rest = let no = apart refl in cc
      by true false apart rest = omega (arith, rest, bytes-cons r (lower_buffers rs), bytes-cons r rs)
      by false true apart rest = omega (arith, rest, bytes-cons r (higher_buffers rs), bytes-cons r rs)
      by false false apart rest = omega (arith, rest, bytes-cons r rs)

  bytes-more : (rs : List ArrayBuffer) → bytes_of (with_record buffer_value x rs) ≤ bytes_of rs + buffer_bytes x
  bytes-more rs =
      omega (arith, bytes-append (lower_buffers rs) (x ∷ higher_buffers rs), bytes-cons x (higher_buffers rs), parts-bytes rs)

bytes-changed : (f : ArrayBuffer → ArrayBuffer) (rs : List ArrayBuffer) → All (λ r. buffer_bytes (f r) ≤ buffer_bytes r) rs
    → bytes_of (map f rs) ≤ bytes_of rs
bytes-changed f [] less = omega arith
bytes-changed f (r ∷ rs) less =
    let P : ArrayBuffer → Type 0 = λ s. buffer_bytes (f s) ≤ buffer_bytes s in
    omega (arith, bytes-cons (f r) (map f rs), bytes-cons r rs, All-head P r rs less, bytes-changed f rs (All-tail P r rs less))

-- WHERE VIEWS LIE
-- what holds of each view holds of the one that is found
pub view-found : (P : ViewInfo → Type 0) (v : ℕ) (about : ViewInfo) (b : Buffers) → All (λ w. P w.about) b.views → view_at b v ≡ Some about → P about
view-found P v about b all is = by (found view_value v b.views) refl is
  where
    by : (o : Option BufferView) → found view_value v b.views ≡ o → option_map (λ (w : BufferView). w.about) o ≡ Some about → P about
    by None here told = cc
    by (Some w) here told = let it : w.about ≡ about = cc in subst P it (found-All view_value (λ (x : BufferView). P x.about) v b.views w all here)

-- a buffer has as many bytes, none of which is detached
record HasAsMany (b : Buffers) (v n : ℕ) : Type 0 where
  pub bytes : List ℕ
  pub there : live_bytes b v ≡ Some bytes
  pub many : length bytes ≡ n

-- where the buffer of a view had as many bytes before, the view lies in it still
still-lies : (about : ViewInfo) (old new : Buffers) → ((ys : List ℕ) → live_bytes new about.buffer.0 ≡ Some ys → HasAsMany old about.buffer.0 (length ys))
    → LiesInBuffer about old → LiesInBuffer about new
still-lies about old new before h = record {
  size = h.size;
  within = λ ys is. let k : HasAsMany old about.buffer.0 (length ys) = before ys is in omega (arith, h.within k.bytes k.there, k.many);
}

-- SOUND
-- what is said of a buffer's finalizer, and of a view's buffer
abbrev IsAttachedOf : Attachments → ArrayBuffer → Type 0
IsAttachedOf a r = IfSome r.ticket (λ ticket. has_attached a ticket r.value ≡ true)

abbrev IsOfOne : Buffers → BufferView → Type 0
IsOfOne b w = IsSome (buffer_at b w.about.buffer.0)

pub none-sound : (a : Attachments) → AreSoundBuffers a no_buffers
none-sound a = record {
  whose = All-nil (IsOfOne no_buffers);
  limits = record { each = λ v n is. cc; together = omega arith; views = λ v about is. cc };
  attached = All-nil (IsAttachedOf a);
}

-- other things are attached, and each that was is
pub sound-attached : (a c : Attachments) (b : Buffers) → ((ticket v : ℕ) → has_attached a ticket v ≡ true → has_attached c ticket v ≡ true)
    → AreSoundBuffers a b → AreSoundBuffers c b
sound-attached a c b still h = record {
  whose = h.whose;
  limits = h.limits;
  attached = All-weaker (IsAttachedOf a) (IsAttachedOf c) (λ r. by r.ticket r.value) b.buffers h.attached;
}
  where
    by : (o : Option ℕ) (v : ℕ) → IfSome o (λ ticket. has_attached a ticket v ≡ true) → IfSome o (λ ticket. has_attached c ticket v ≡ true)
    by None v some = tt
    by (Some ticket) v some = still ticket v some

-- a value that is no buffer becomes one, within the limits
pub sound-buffer : (v size : ℕ) (t : Option ℕ) (a : Attachments) (b : Buffers) → buffer_at b v ≡ None → size ≤ most_buffer_bytes
    → total_bytes b + size ≤ most_bytes_together → IfSome t (λ ticket. has_attached a ticket v ≡ true) → AreSoundBuffers a b
    → AreSoundBuffers a (with_buffer v size t b)
sound-buffer v size t a b none small few here h = record {
  whose = All-weaker (IsOfOne b) (IsOfOne new)
      (λ w some. subst IsSome (sym (same-at w.about.buffer.0)) (either (v == w.about.buffer.0) _ some)) b.views h.whose;
  limits = record {
    each = λ w n is. each-small w n (v == w) (sym (ap (option_map buffer_bytes) (same-at w)) ∙ is);
    together = omega (arith, bytes-more x b.buffers, few, length-replicate {A = ℕ} size 0);
    views = λ w about is.
        still-lies about b new (λ ys told.
        before about.buffer.0 ys (v == about.buffer.0) refl (view-found (λ i. IsSome (buffer_at b i.buffer.0)) w about b h.whose is)
        (sym (ap (option_and_then (λ (r : ArrayBuffer). r.bytes)) (same-at about.buffer.0)) ∙ told)) (h.limits.views w about is);
  };
  attached = All-with_record buffer_value x (IsAttachedOf a) b.buffers here h.attached;
}
  where
    zeros : List ℕ
    zeros = replicate size 0

    x : ArrayBuffer
    x = record { value = v; bytes = Some zeros; ticket = t }

    new : Buffers
    new = with_buffer v size t b

    same-at : (m : ℕ) → buffer_at new m ≡ cond (v == m) (Some x) (buffer_at b m)
    same-at m = found-with_record buffer_value m x b.buffers

    either : (c : Bool) (o : Option ArrayBuffer) → IsSome o → IsSome (cond c (Some x) o)
    either true o some = refl
    either false o some = some

    each-small : (w n : ℕ) (c : Bool) → option_map buffer_bytes (cond c (Some x) (buffer_at b w)) ≡ Some n → n ≤ most_buffer_bytes
    each-small w n true told = let it : length zeros ≡ n = cc in omega (arith, it, length-replicate {A = ℕ} size 0, small)
    each-small w n false told = h.limits.each w n told

    before : (m : ℕ) (ys : List ℕ) (c : Bool) → (v == m) ≡ c → IsSome (buffer_at b m)
        → option_and_then (λ (r : ArrayBuffer). r.bytes) (cond c (Some x) (buffer_at b m)) ≡ Some ys → HasAsMany b m (length ys)
    before m ys true same some told =
        let no : true ≡ false = sym some ∙ ap is_some (ap (buffer_at b) (sym (same-tells v m same)) ∙ none) in cc
    before m ys false other some told = record { bytes = ys; there = told; many = refl }

-- a value becomes a view that lies in a buffer
pub sound-view : (v : ℕ) (about : ViewInfo) (a : Attachments) (b : Buffers) → IsSome (buffer_at b about.buffer.0) → LiesInBuffer about b → AreSoundBuffers a b
    → AreSoundBuffers a (with_view v about b)
sound-view v about a b some lies h = record {
  whose = All-with_record view_value x (IsOfOne b) b.views some h.whose;
  limits = record {
    each = h.limits.each;
    together = h.limits.together;
    views = λ w other is.
        by w other (v == w) (sym (ap (option_map (λ (y : BufferView). y.about)) (found-with_record view_value w x b.views)) ∙ is);
  };
  attached = h.attached;
}
  where
    x : BufferView
    x = record { value = v; about = about }

    again : (i : ViewInfo) → LiesInBuffer i b → LiesInBuffer i (with_view v about b)
    again i k = record { size = k.size; within = k.within }

    by : (w : ℕ) (other : ViewInfo) (c : Bool) → option_map (λ (y : BufferView). y.about) (cond c (Some x) (found view_value w b.views)) ≡ Some other
        → LiesInBuffer other (with_view v about b)
    by w other true told = let it : about ≡ other = cc in again other (subst (λ i. LiesInBuffer i b) it lies)
    by w other false told = again other (h.limits.views w other told)

-- BYTES THAT CHANGE
-- a buffer is changed and keeps its value and its ticket. It keeps as many bytes, or has none
record HadAsMany (r : ArrayBuffer) (n : ℕ) : Type 0 where
  pub bytes : List ℕ
  pub there : r.bytes ≡ Some bytes
  pub many : length bytes ≡ n

record KeepsOrDrops (r s : ArrayBuffer) : Type 0 where
  pub value : s.value ≡ r.value
  pub ticket : s.ticket ≡ r.ticket
  pub bytes : (ys : List ℕ) → s.bytes ≡ Some ys → HadAsMany r (length ys)

shrinks-less : (r s : ArrayBuffer) → KeepsOrDrops r s → buffer_bytes s ≤ buffer_bytes r
shrinks-less r s k = by s.bytes refl
  where
    by : (o : Option (List ℕ)) → s.bytes ≡ o → option_map_or length o 0 ≤ buffer_bytes r
    by None is = omega arith
    by (Some ys) is =
        let old : HadAsMany r (length ys) = k.bytes ys is in
        let same : buffer_bytes r ≡ length old.bytes = ap (λ o. option_map_or length o 0) old.there in
        omega (arith, same, old.many)

sound-changed : (f : ArrayBuffer → ArrayBuffer) (a : Attachments) (b : Buffers) → ((r : ArrayBuffer) → (f r).value ≡ r.value)
    → All (λ r. KeepsOrDrops r (f r)) b.buffers → AreSoundBuffers a b → AreSoundBuffers a (record b { buffers = map f b.buffers })
sound-changed f a b value shrinks h = record {
  whose = All-weaker (IsOfOne b) (IsOfOne new) (λ w some. subst IsSome (sym (same-at w.about.buffer.0)) (mapped _ some)) b.views h.whose;
  limits = record {
    each = λ w n is. each-less w n (buffer_at b w) refl (sym (ap (option_map buffer_bytes) (same-at w)) ∙ is);
    together =
        omega (
          arith,
          bytes-changed f b.buffers less,
          h.limits.together,
        );
    views = λ w about is.
        still-lies about b new (λ ys told.
        before about.buffer.0 ys (buffer_at b about.buffer.0) refl (sym (ap (option_and_then (λ (r : ArrayBuffer). r.bytes)) (same-at about.buffer.0)) ∙ told))
        (h.limits.views w about is);
  };
  attached = All-map (IsAttachedOf a) f b.buffers
      (λ k d below. rw ((shrinks k d below).ticket, (shrinks k d below).value) (h.attached k d below));
}
  where
    new : Buffers
    new = record b { buffers = map f b.buffers }

    same-at : (m : ℕ) → buffer_at new m ≡ option_map f (buffer_at b m)
    same-at m = found-changed buffer_value f value m b.buffers

    mapped : (o : Option ArrayBuffer) → IsSome o → IsSome (option_map f o)
    mapped None some = cc
    mapped (Some r) some = refl

    less : All (λ r. buffer_bytes (f r) ≤ buffer_bytes r) b.buffers
    less = All-weaker (λ r. KeepsOrDrops r (f r)) (λ r. buffer_bytes (f r) ≤ buffer_bytes r) (λ r. shrinks-less r (f r)) b.buffers shrinks

    shrinks-at : (m : ℕ) (r : ArrayBuffer) → buffer_at b m ≡ Some r → KeepsOrDrops r (f r)
    shrinks-at m r here = found-All buffer_value (λ (s : ArrayBuffer). KeepsOrDrops s (f s)) m b.buffers r shrinks here

    each-less : (w n : ℕ) (o : Option ArrayBuffer) → buffer_at b w ≡ o → option_map buffer_bytes (option_map f o) ≡ Some n → n ≤ most_buffer_bytes
    each-less w n None here told = cc
    each-less w n (Some r) here told =
        let it : buffer_bytes (f r) ≡ n = cc in
        omega (arith, it, shrinks-less r (f r) (shrinks-at w r here), h.limits.each w (buffer_bytes r) (ap (option_map buffer_bytes) here))

    before : (m : ℕ) (ys : List ℕ) (o : Option ArrayBuffer) → buffer_at b m ≡ o → option_and_then (λ (r : ArrayBuffer). r.bytes) (option_map f o) ≡ Some ys
        → HasAsMany b m (length ys)
    before m ys None here told = cc
    before m ys (Some r) here told =
        let old : HadAsMany r (length ys) = (shrinks-at m r here).bytes ys told in
        record { bytes = old.bytes; there = ap (option_and_then (λ (s : ArrayBuffer). s.bytes)) here ∙ old.there; many = old.many }

-- a buffer is detached
pub sound-detached : (v : ℕ) (a : Attachments) (b : Buffers) → AreSoundBuffers a b → AreSoundBuffers a (with_detached v b)
sound-detached v a b h =
    sound-changed (λ r. cond (r.value == v) (record r { bytes = None }) r) a b (λ r. (shrinks r (r.value == v)).value)
    (λ k d below. shrinks (slice_index_or b.buffers k d) (_ == v)) h
  where
    shrinks : (r : ArrayBuffer) (c : Bool) → KeepsOrDrops r (cond c (record r { bytes = None }) r)
    shrinks r true = record { value = refl; ticket = refl; bytes = λ ys is. cc }
    shrinks r false = record { value = refl; ticket = refl; bytes = λ ys is. record { bytes = ys; there = is; many = refl } }

-- an element of a view lies within the view
products-rise : (m n size : ℕ) → m < n → m * size + size ≤ n * size
products-rise m n size below =
    let more : (m + 1) * size ≤ n * size = mul-le (m + 1) size n size (omega (arith, below)) (omega arith) in
    let same : (m + 1) * size ≡ m * size + size = grind arith in
    omega (arith, more, same)

-- as many bytes were there before an element was written
written-over : (about : ViewInfo) (at number : ℕ) (xs ys : List ℕ) → view_end about ≤ length xs → with_element_in about at number xs ≡ ys
    → length xs ≡ length ys
written-over about at number xs ys within is = by (nat_lt at about.length) refl ∙ ap length is
  where
    new : List ℕ
    new = bytes_low_first 0 about.size number

    start : ℕ
    start = element_start about at

    by : (c : Bool) → nat_lt at about.length ≡ c → length xs ≡ length (cond c (overwritten start new xs) xs)
    by false past = refl
    by true below =
        let fits : at * about.size + about.size ≤ about.length * about.size = products-rise at about.length about.size (ltb-true at about.length below) in
        sym (length-over start new xs (omega (arith, fits, within, how-many 0 about.size number)))

-- an element is written
module _ (v at number : ℕ) (a : Attachments) (b : Buffers) (h : AreSoundBuffers a b) (about : ViewInfo) (is : view_at b v ≡ Some about) where
  abbrev write : Option (List ℕ) → Option (List ℕ)
  write bytes = option_map (with_element_in about at number) bytes

  -- the bytes of its buffer
  had : (r : ArrayBuffer) (ys : List ℕ) (o : Option (List ℕ)) → r.bytes ≡ o → buffer_at b about.buffer.0 ≡ Some r → write o ≡ Some ys
      → HadAsMany r (length ys)
  had r ys None has here told = cc
  had r ys (Some xs) has here told =
      let it : with_element_in about at number xs ≡ ys = cc in
      let within : view_end about ≤ length xs =
      (h.limits.views v about is).within xs (ap (option_and_then (λ (s : ArrayBuffer). s.bytes)) here ∙ has) in
      record { bytes = xs; there = has; many = written-over about at number xs ys within it }

  row-written : (r : ArrayBuffer) (c : Bool) → (r.value == about.buffer.0) ≡ c → buffer_at b r.value ≡ Some r
      → KeepsOrDrops r (cond c (record r { bytes = write r.bytes }) r)
  row-written r true same here =
      let there : buffer_at b about.buffer.0 ≡ Some r = subst (λ m. buffer_at b m ≡ Some r) (same-tells r.value about.buffer.0 same) here in
      record { value = refl; ticket = refl; bytes = λ ys told. had r ys r.bytes refl there told }
  row-written r false other here = record { value = refl; ticket = refl; bytes = λ ys told. record { bytes = ys; there = told; many = refl } }

  named-written : (r : ArrayBuffer) (c : Bool) → (cond c (record r { bytes = write r.bytes }) r).value ≡ r.value
  named-written r true = refl
  named-written r false = refl

  sound-write : IsRising buffer_value b.buffers → AreSoundBuffers a (buffer_changed_at write about.buffer.0 b)
  sound-write rises =
      sound-changed (λ r. cond (r.value == about.buffer.0) (record r { bytes = write r.bytes }) r) a b (λ r. named-written r (r.value == about.buffer.0))
      (λ k d below. row-written (slice_index_or b.buffers k d) _ refl (each-buffer b.buffers rises k d below)) h

pub sound-written : (v at number : ℕ) (a : Attachments) (b : Buffers) → IsRising buffer_value b.buffers → AreSoundBuffers a b
    → AreSoundBuffers a (with_element_written v at number b)
sound-written v at number a b rises h = by (view_at b v) refl
  where
    by : (o : Option ViewInfo) → view_at b v ≡ o
        → AreSoundBuffers a (option_map_or (λ about. buffer_changed_at (option_map (with_element_in about at number)) about.buffer.0 b) o b)
    by None is = h
    by (Some about) is = sound-write v at number a b h about is rises

-- values are gone, and no buffer of a view that stays is
pub sound-left : (gone : ℕ → Bool) (a : Attachments) (b : Buffers) → All (λ w. not (gone w.about.buffer.0) ≡ true) (buffers_left gone b).views
    → AreSoundBuffers a b → AreSoundBuffers (left_on gone a) (buffers_left gone b)
sound-left gone a b stay h = record {
  whose = λ k d below. whose-left _ (stay k d below) (All-filter (λ (w : BufferView). not (gone w.value)) (IsOfOne b) b.views h.whose k d below);
  limits = record {
    each = λ w n is. each-left w n (not (gone w)) (sym (ap (option_map buffer_bytes) (same-at w)) ∙ is);
    together = omega (arith, bytes-filter (λ r. not (gone r.value)) b.buffers, h.limits.together);
    views = λ w about is.
        view-left w about (not (gone w))
        (sym (ap (option_map (λ (y : BufferView). y.about)) (found-filter view_value (λ m. not (gone m)) w b.views)) ∙ is);
  };
  attached = λ k d below.
      row (slice_index_or (buffers_left gone b).buffers k d) _ refl (filter_passes (λ (r : ArrayBuffer). not (gone r.value)) b.buffers k d below)
      (All-filter (λ (r : ArrayBuffer). not (gone r.value)) (IsAttachedOf a) b.buffers h.attached k d below);
}
  where
    new : Buffers
    new = buffers_left gone b

    same-at : (m : ℕ) → buffer_at new m ≡ cond (not (gone m)) (buffer_at b m) None
    same-at m = found-filter buffer_value (λ n. not (gone n)) m b.buffers

    whose-left : (m : ℕ) → not (gone m) ≡ true → IsSome (buffer_at b m) → IsSome (buffer_at new m)
    whose-left m stays some = subst IsSome (sym (same-at m ∙ ap (λ c. cond c (buffer_at b m) None) stays)) some

    each-left : (w n : ℕ) (c : Bool) → option_map buffer_bytes (cond c (buffer_at b w) None) ≡ Some n → n ≤ most_buffer_bytes
    each-left w n true told = h.limits.each w n told
    each-left w n false told = cc

    before : (m : ℕ) (ys : List ℕ) (c : Bool) → option_and_then (λ (r : ArrayBuffer). r.bytes) (cond c (buffer_at b m) None) ≡ Some ys
        → HasAsMany b m (length ys)
    before m ys true told = record { bytes = ys; there = told; many = refl }
    before m ys false told = cc

    view-left : (w : ℕ) (about : ViewInfo) (c : Bool) → option_map (λ (y : BufferView). y.about) (cond c (found view_value w b.views) None) ≡ Some about
        → LiesInBuffer about new
    view-left w about true told =
        still-lies about b new (λ ys is.
        before about.buffer.0 ys (not (gone about.buffer.0)) (sym (ap (option_and_then (λ (r : ArrayBuffer). r.bytes)) (same-at about.buffer.0)) ∙ is))
        (h.limits.views w about told)
    view-left w about false told = cc

    row : (r : ArrayBuffer) (o : Option ℕ) → r.ticket ≡ o → not (gone r.value) ≡ true → IfSome o (λ ticket. has_attached a ticket r.value ≡ true)
        → IfSome o (λ ticket. has_attached (left_on gone a) ticket r.value ≡ true)
    row r None is stays some = tt
    row r (Some ticket) is stays some = attached-left gone ticket r.value a stays some
