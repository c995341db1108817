-- Laws of runs: they grow at their end.
use Rattle.std.proofs.Common.{◌≡◌, ◌∙◌, ◌==◌, ℕ, List, [], ◌∷◌, ◌++◌, refl, sym, ap, append_assoc}
use Rattle.std.proofs.lemmas.List.{append-nil}
use Rattle.std.proofs.lemmas.List.Elements.{filter-append}
use Rattle.std.specs.Option.{option_to_list}
use Rattle.napi_types.specs.declared.duties.DueInfo.{DueInfo}
use Rattle.napi_types.specs.declared.entry.Entry.{Entry}
use Rattle.napi_types.specs.declared.call.Ask.{Ask}
use Rattle.napi_types.specs.scripts.Plans.{Plan, Registers}
use Rattle.napi_types.specs.runs.Begins.{begun_info, begun_along, of_addon}
use Rattle.napi_types.specs.runs.Machine.{Machine}
use Rattle.napi_types.specs.runs.Parting.{sides_along}
use Rattle.napi_types.specs.runs.Plan.{asked, asked_along, registers_along, registers_after}
use Rattle.napi_types.specs.runs.Run.{after, IsNext, IsRunBy, final}
use Rattle.napi_types.specs.runs.Step.{step}

-- ALONG A RUN
-- what the empty run has, and each run that is longer by an entry at its start, every run has
pub along-entries : (Q : Machine → List Ask → List Entry → Type 0) → ((m : Machine) → Q m [] [])
    → ((m : Machine) (a : Ask) (bs : List Ask) (x : Entry) (xs : List Entry) → IsNext m a x → Q (after m a x) bs xs → Q m (a ∷ bs) (x ∷ xs))
    → (m : Machine) (bs : List Ask) (xs : List Entry) → IsRunBy m bs xs → Q m bs xs
along-entries Q none more m [] [] run = none m
along-entries Q none more m (a ∷ bs) (x ∷ xs) run = more m a bs x xs run.0 (along-entries Q none more (after m a x) bs xs run.1)
along-entries Q none more m [] (x ∷ xs) run = absurd run
along-entries Q none more m (a ∷ bs) [] run = absurd run

-- what each step keeps, every run keeps
pub along-run : (P : Machine → Type 0) → ((m : Machine) (a : Ask) (x : Entry) → IsNext m a x → P m → P (after m a x))
    → (m : Machine) (bs : List Ask) (xs : List Entry) → IsRunBy m bs xs → P m → P (final m bs xs)
along-run P keeps = along-entries (λ m bs xs. P m → P (final m bs xs)) (λ m p. p) (λ m a bs x xs next rest p. rest (keeps m a x next p))

-- AT ITS END
-- a run has one entry more at its end
pub run-more : (m : Machine) (bs : List Ask) (xs : List Entry) (a : Ask) (x : Entry)
    → IsRunBy m bs xs → IsNext (final m bs xs) a x → IsRunBy m (bs ++ a ∷ []) (xs ++ x ∷ [])
run-more m bs xs a x r n =
    along-entries (λ m bs xs. IsNext (final m bs xs) a x → IsRunBy m (bs ++ a ∷ []) (xs ++ x ∷ []))
    (λ m n. (n, tt)) (λ m b bs y ys here rest n. (here, rest n)) m bs xs r n

pub final-more : (m : Machine) (bs : List Ask) (xs : List Entry) (a : Ask) (x : Entry)
    → IsRunBy m bs xs → final m (bs ++ a ∷ []) (xs ++ x ∷ []) ≡ after (final m bs xs) a x
final-more m bs xs a x r =
    along-entries (λ m bs xs. final m (bs ++ a ∷ []) (xs ++ x ∷ []) ≡ after (final m bs xs) a x) (λ m. refl) (λ m b bs y ys here rest. rest) m bs xs r

-- and so have its asks and its registers
pub asked-more : (ps : List Plan) (rss : Registers) (m : Machine) (bs : List Ask) (xs : List Entry) (a : Ask) (x : Entry)
    → IsRunBy m bs xs
    → asked_along ps rss m (bs ++ a ∷ []) (xs ++ x ∷ []) ≡ asked_along ps rss m bs xs ++ asked ps (registers_along ps rss m bs xs) (final m bs xs) a x.actor ∷ []
asked-more ps rss m bs xs a x r =
    along-entries (λ m bs xs. (rss : Registers) → asked_along ps rss m (bs ++ a ∷ []) (xs ++ x ∷ [])
    ≡ asked_along ps rss m bs xs ++ asked ps (registers_along ps rss m bs xs) (final m bs xs) a x.actor ∷ [])
    (λ m rss. refl) (λ m b bs y ys here rest rss. ap (λ l. asked ps rss m b y.actor ∷ l) (rest (registers_after ps rss m b y))) m bs xs r rss

pub registers-more : (ps : List Plan) (rss : Registers) (m : Machine) (bs : List Ask) (xs : List Entry) (a : Ask) (x : Entry)
    → IsRunBy m bs xs
    → registers_along ps rss m (bs ++ a ∷ []) (xs ++ x ∷ []) ≡ registers_after ps (registers_along ps rss m bs xs) (final m bs xs) a x
registers-more ps rss m bs xs a x r =
    along-entries (λ m bs xs. (rss : Registers)
    → registers_along ps rss m (bs ++ a ∷ []) (xs ++ x ∷ []) ≡ registers_after ps (registers_along ps rss m bs xs) (final m bs xs) a x)
    (λ m rss. refl) (λ m b bs y ys here rest rss. rest (registers_after ps rss m b y)) m bs xs r rss

-- and so have the lists on which its entries stand
pub sides-more : (m : Machine) (bs : List Ask) (xs : List Entry) (a : Ask) (x : Entry)
    → IsRunBy m bs xs → sides_along m (bs ++ a ∷ []) (xs ++ x ∷ []) ≡ sides_along m bs xs ++ (step (final m bs xs) a x).side ∷ []
sides-more m bs xs a x r =
    along-entries (λ m bs xs. sides_along m (bs ++ a ∷ []) (xs ++ x ∷ []) ≡ sides_along m bs xs ++ (step (final m bs xs) a x).side ∷ [])
    (λ m. refl) (λ m b bs y ys here rest. ap (λ l. (step m b y).side ∷ l) rest) m bs xs r

-- and so have the duties whose frames begin along it
pub begun-more : (m : Machine) (bs : List Ask) (xs : List Entry) (a : Ask) (x : Entry)
    → IsRunBy m bs xs → begun_along m (bs ++ a ∷ []) (xs ++ x ∷ []) ≡ begun_along m bs xs ++ option_to_list (begun_info (final m bs xs) x)
begun-more m bs xs a x r =
    along-entries (λ m bs xs. begun_along m (bs ++ a ∷ []) (xs ++ x ∷ []) ≡ begun_along m bs xs ++ option_to_list (begun_info (final m bs xs) x))
    (λ m. append-nil (option_to_list (begun_info m x))) (λ m b bs y ys here rest.
    ap (λ l. option_to_list (begun_info m y) ++ l) rest
    ∙ sym (append_assoc (option_to_list (begun_info m y)) (begun_along (after m b y) bs ys)
    (option_to_list (begun_info (final (after m b y) bs ys) x)))) m bs xs r

pub of_addon-append : (addon : ℕ) (xs ys : List DueInfo) → of_addon addon (xs ++ ys) ≡ of_addon addon xs ++ of_addon addon ys
of_addon-append addon xs ys = filter-append (λ (d : DueInfo). d.addon == addon) xs ys
