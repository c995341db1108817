-- What a sink took that was given a line piece by piece.
use Rattle.std.proofs.Common.{◌≡◌, ℕ, List, ◌++◌, Option, Some, None, refl, ap, sym, ◌∙◌, append_assoc}
use Rattle.std.specs.Io.KnownBytes.{append_known}
use Rattle.napi_types.specs.plain.Edge.{TookPrefix}

-- two pieces in turn are their text
pub both-known : (had : Option (List ℕ)) (xs ys : List ℕ) → append_known (append_known had xs) ys ≡ append_known had (xs ++ ys)
both-known None xs ys = refl
both-known (Some had) xs ys = ap Some (append_assoc had xs ys)

-- a prefix of a text is a prefix of a longer one
pub prefix-longer : (had has : Option (List ℕ)) (xs ys : List ℕ) → TookPrefix had xs has → TookPrefix had (xs ++ ys) has
prefix-longer had has xs ys t = record {
  prefix = t.prefix;
  rest = t.rest ++ ys;
  whole_is = sym (append_assoc t.prefix t.rest ys) ∙ ap (λ l. l ++ ys) t.whole_is;
  took = t.took;
}

-- a prefix of the second piece, after the whole first one
pub prefix-later : (had now has : Option (List ℕ)) (xs ys : List ℕ) → now ≡ append_known had xs → TookPrefix now ys has → TookPrefix had (xs ++ ys) has
prefix-later had now has xs ys first t = record {
  prefix = xs ++ t.prefix;
  rest = t.rest;
  whole_is = append_assoc xs t.prefix t.rest ∙ ap (λ l. xs ++ l) t.whole_is;
  took = t.took ∙ (ap (λ o. append_known o t.prefix) first ∙ both-known had xs t.prefix);
}

-- both pieces whole
pub pieces-known : (had now has : Option (List ℕ)) (xs ys : List ℕ) → now ≡ append_known had xs → has ≡ append_known now ys → has ≡ append_known had (xs ++ ys)
pieces-known had now has xs ys first second = second ∙ (ap (λ o. append_known o ys) first ∙ both-known had xs ys)

-- a line of three pieces that was cut off in the first, the second or the third, or written whole
pub cut-first : (had has : Option (List ℕ)) (xs ys zs : List ℕ) → TookPrefix had xs has → TookPrefix had (xs ++ ys ++ zs) has
cut-first had has xs ys zs t = prefix-longer had has (xs ++ ys) zs (prefix-longer had has xs ys t)

pub cut-second : (had one has : Option (List ℕ)) (xs ys zs : List ℕ) → one ≡ append_known had xs → TookPrefix one ys has → TookPrefix had (xs ++ ys ++ zs) has
cut-second had one has xs ys zs first t = prefix-longer had has (xs ++ ys) zs (prefix-later had one has xs ys first t)

pub cut-third : (had one two has : Option (List ℕ)) (xs ys zs : List ℕ) → one ≡ append_known had xs → two ≡ append_known one ys → TookPrefix two zs has
    → TookPrefix had (xs ++ ys ++ zs) has
cut-third had one two has xs ys zs first second t = prefix-later had two has (xs ++ ys) zs (pieces-known had one two xs ys first second) t

pub three-known : (had one two has : Option (List ℕ)) (xs ys zs : List ℕ) → one ≡ append_known had xs → two ≡ append_known one ys → has ≡ append_known two zs
    → has ≡ append_known had (xs ++ ys ++ zs)
three-known had one two has xs ys zs first second third = pieces-known had two has (xs ++ ys) zs (pieces-known had one two xs ys first second) third
