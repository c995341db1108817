-- Values with a hidden child, and bodies that name none.
use Rattle.std.proofs.Common.{◌≡◌, ◌∙◌, ℕ, ◌+◌, ◌==◌, ◌||◌, Bool, true, false, List, [], ◌∷◌, ◌++◌, map, length, Option, Some, None, IsSome, IsSomeAnd, IsTrue, IfSome, option_map, option_to_list, refl, ap, sym, arith, length-append}
use Rattle.std.specs.List.{All, filter_map}
use Rattle.std.proofs.lemmas.List.Elements.{All-nil, All-cons}
use Rattle.std.proofs.lemmas.List.Folds.{list_any-append}
use Rattle.napi_types.specs.declared.body.Body.{Body}
use Rattle.napi_types.specs.declared.body.Body.TheVariants as body
use Rattle.napi_types.specs.declared.ids.ValueId.{ValueId}
use Rattle.napi_types.specs.plain.Lists.{has_number, HaveSameNumbers}
use Rattle.napi_types.specs.parts.Bodies.{NamesNoChild, is_linked, child_of, without_child}
use Rattle.napi_types.specs.parts.Graph.{StoreState, IsLive, value_of, number_in, renamed}
use Rattle.napi_types.specs.parts.Values.{Value, children, fresh_value, linked_value, with_link}
use Rattle.napi_types.proofs.parts.ChildParts.{children-of, properties-of, elements-of}
use Rattle.value_store.specs.declared.contents.Contents.{Contents}
use Rattle.value_store.specs.declared.contents.Contents.TheVariants.{Plain, One, Full}
use Rattle.value_store.specs.Contents.{value_here, body_here}
use Rattle.value_store.specs.StoreChanges.{IsLinked}

-- what names no child is kept as it is
pub plain-here : (n : ℕ) (b : Body) → NamesNoChild b → value_here n (Plain b) ≡ fresh_value n b
plain-here n body.Undefined alone = refl
plain-here n body.Null alone = refl
plain-here n (body.Boolean b) alone = refl
plain-here n (body.Number i) alone = refl
plain-here n (body.Bigint i) alone = refl
plain-here n (body.Str t) alone = refl
plain-here n (body.Symbol t) alone = refl
plain-here n (body.Object array error) alone = refl
plain-here n (body.Function addon entry payload) alone = refl
plain-here n (body.External payload) alone = refl
plain-here n (body.Linked tag None) alone = refl
plain-here n (body.Linked tag (Some to)) alone = let no : ⊥ = cc in absurd no

-- a linked value is named by creation numbers
pub linked-named : (s : StoreState) (n tag : ℕ) (to : Option ValueId) → renamed s (linked_value n tag (option_map (λ c. c.0) to)) ≡ linked_value n tag (option_map (λ c. number_in s c.0) to)
linked-named s n tag None = refl
linked-named s n tag (Some c) = refl

pub link-named-so : (s : StoreState) (to : ℕ) (v : Value) → renamed s (with_link to v) ≡ with_link (number_in s to) (renamed s v)
link-named-so s to v = refl

-- its children
module _ (P : ℕ → Type 0) where
  pub linked-children : (n tag : ℕ) (to : Option ValueId) → IfSome to (λ c. P c.0) → All P (children (linked_value n tag (option_map (λ c. c.0) to)))
  linked-children n tag None h = All-nil P
  linked-children n tag (Some c) h = All-cons P c.0 [] h (All-nil P)

  pub children-with_link : (to : ℕ) (v : Value) → P to → All P (children v) → All P (children (with_link to v))
  children-with_link to v new h = children-of P (with_link to v) (properties-of P v h) (elements-of P v h) (All-cons P to [] new (All-nil P))

-- a walk gives it before the values that properties and elements name
pub beside-same : (ls vs ms es : List ℕ) → HaveSameNumbers ms es → HaveSameNumbers (ls ++ (vs ++ ms)) (vs ++ es ++ ls)
beside-same ls vs ms es same n =
    list_any-append (λ m. m == n) ls (vs ++ ms)
    ∙ ap (λ b. has_number n ls || b) (list_any-append (λ m. m == n) vs ms ∙ ap (λ b. has_number n vs || b) (same n))
    ∙ either (has_number n ls) (has_number n vs || has_number n es)
    ∙ ap (λ b. b || has_number n ls) (sym (list_any-append (λ m. m == n) vs es))
    ∙ sym (list_any-append (λ m. m == n) (vs ++ es) ls)
  where
    either : (a b : Bool) → (a || b) ≡ (b || a)
    either true true = refl
    either true false = refl
    either false true = refl
    either false false = refl

pub beside-many : (ls vs ms es : List ℕ) → length ms ≡ length es → length (ls ++ (vs ++ ms)) ≡ length (vs ++ es ++ ls)
beside-many ls vs ms es many =
    length-append ls (vs ++ ms) ∙ ap (λ n. length ls + n) (length-append vs ms ∙ ap (λ n. length vs + n) many) ∙ turned (length ls) (length vs + length es)
    ∙ ap (λ n. n + length ls) (sym (length-append vs es)) ∙ sym (length-append (vs ++ es) ls)
  where
    turned : (m n : ℕ) → m + n ≡ n + m
    turned m n = omega arith

-- the body of a linked value is one of a linked value as it is kept
pub linked-body : (b : Body) → IsTrue (is_linked (without_child b)) → IsTrue (is_linked b)
linked-body (body.Linked tag to) h = h
linked-body body.Undefined h = h
linked-body body.Null h = h
linked-body (body.Boolean b) h = h
linked-body (body.Number i) h = h
linked-body (body.Bigint i) h = h
linked-body (body.Str t) h = h
linked-body (body.Symbol t) h = h
linked-body (body.Object array error) h = h
linked-body (body.Function addon entry payload) h = h
linked-body (body.External payload) h = h

pub linked-here : (n : ℕ) (p : Contents) → (let v : Value = value_here n p in IsTrue (is_linked v.body)) → IsTrue (is_linked (body_here p))
linked-here n (Plain b) h = linked-body b h
linked-here n (One name to b) h = linked-body b h
linked-here n (Full b parts) h = linked-body b h

pub linked-live : (s : StoreState) (n : ℕ) → IsLinked s n → IsLive s n
linked-live s n h = some-and (value_of s n) h
  where
    some-and : (o : Option Value) → IsSomeAnd o (λ v. IsTrue (is_linked v.body)) → IsSome o
    some-and None h = absurd h
    some-and (Some v) h = refl
