-- Asynchronous hooks are no more than tickets.
use Rattle.std.proofs.Common.{ℕ, zero, suc, ◌+◌, ◌<◌, ◌≤◌, List, [], ◌∷◌, length, map, arith}
use Rattle.std.specs.List.{All}
use Rattle.std.proofs.lemmas.List.Elements.{All-head, All-tail, All-weaker, All-map}
use Rattle.std.proofs.lemmas.List.{length-map}
use Rattle.napi_types.specs.parts.AsyncHooks.{AsyncHook}
use Rattle.napi_types.specs.parts.Book.{Book, TicketsRise}
use Rattle.napi_types.specs.environment.Environment.{Environment}
use Rattle.napi_types.specs.environment.Hooked.{IsHooked, IsForHook}
use Rattle.napi_types.proofs.environment.HookedSteps.{asyncs-within}

-- numbers that rise above one, up to another, are no more than lie between
rising-few : (low high : ℕ) (ns : List ℕ) → low ≤ high → TicketsRise ns → All (λ n. low < n) ns → All (λ n. n ≤ high) ns → length ns + low ≤ high
rising-few low high [] fits rise above below = omega (arith, fits)
rising-few low high (n ∷ ns) fits rise above below =
    let first : low < n = All-head (λ m. low < m) n ns above in
    let last : n ≤ high = All-head (λ m. m ≤ high) n ns below in
    let later : length ns + n ≤ high = rising-few n high ns last rise.1 rise.0 (All-tail (λ m. m ≤ high) n ns below) in
    omega (arith, first, later)

-- a ticket that was given for a hook is above 0
above-none : (book : Book) (h : AsyncHook) → IsForHook book h → 0 < h.ticket
above-none book h is = by h.ticket is
  where
    by : (n : ℕ) → IsForHook book (record h { ticket = n }) → 0 < n
    by zero is = let no : ⊥ = cc in absurd no
    by (suc n) is = omega arith

pub asyncs-few : (e : Environment) → IsHooked e → length e.async_hooks ≤ length e.book
asyncs-few e hooked =
    let above : All (λ (h : AsyncHook). 0 < h.ticket) e.async_hooks =
    All-weaker (IsForHook e.book) (λ h. 0 < h.ticket) (above-none e.book) e.async_hooks hooked.async.given in
    let below : All (λ (h : AsyncHook). h.ticket ≤ length e.book) e.async_hooks = λ k h inside. omega (arith, asyncs-within e hooked k h inside) in
    let few : length (map (λ (h : AsyncHook). h.ticket) e.async_hooks) + 0 ≤ length e.book =
    rising-few 0 (length e.book) (map (λ (h : AsyncHook). h.ticket) e.async_hooks) (omega arith) hooked.async.rise
    (All-map (λ n. 0 < n) (λ (h : AsyncHook). h.ticket) e.async_hooks above) (All-map (λ n. n ≤ length e.book) (λ (h : AsyncHook). h.ticket) e.async_hooks below) in
    omega (arith, few, length-map e.async_hooks (λ (h : AsyncHook). h.ticket))
