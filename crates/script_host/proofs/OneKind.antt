-- A command with the bytes of the source is too long, refused or runnable, whatever it is and they are.
use Rattle.std.proofs.Common.{◌≡◌, ◌<◌, ◌≤◌, ◌∙◌, ℕ, Bool, true, false, nat_le, List, length, refl, sym, arith}
use Rattle.std.proofs.Common.{Option, Some, None, Ok, Err, ◌⊎◌, inl, inr}
use Rattle.std.proofs.lemmas.Bool.{false≢true}
use Rattle.std.proofs.lemmas.Str.{IsUtf8-from_is_utf8, is_utf8-from_IsUtf8}
use Rattle.std.specs.Str.{IsUtf8, is_utf8}
use Rattle.serde_json.specs.Data.{Data}
use Rattle.serde_json.specs.Read.{read}
use Rattle.napi_types.specs.declared.script.Script.{Script}
use Rattle.napi_types.specs.scripts.Script.{IsScript, script}
use Rattle.napi_types.specs.scripts.ScriptReading.{IsJson, Reading}
use Rattle.outside.specs.Given.{is_met}
use Rattle.outside.specs.Reading.{longest_source}
use Rattle.outside.specs.declared.commands.Command.{Command}
use Rattle.outside.specs.declared.commands.Command.TheVariants as command
use Rattle.outside.specs.declared.scripts.Demand.{Demand}
use Rattle.script_run.specs.Load.{load_script}
use Rattle.script_host.specs.Host.{AreTooLong, AreRefused, AreRunnable, IsTooLong, IsRefused, IsRunnable}
use Rattle.script_host.proofs.Complete.{no-refused}

module _ (d : Demand) (bytes : List ℕ) (handed : ℕ) (short : length bytes ≤ longest_source) where
  by-demand : (s : Script) → IsScript bytes s → length s.addons ≤ handed → (b : Bool) → is_met d s ≡ b → AreRefused d bytes handed ⊎ AreRunnable d bytes handed
  by-demand s is enough true met = inr (record { short = short; script = s; is_script = is; enough = enough; met = met })
  by-demand s is enough false unmet = inl (record { short = short; why = inr (inr (inr (record { script = s; is_script = is; enough = enough; unmet = unmet }))) })

  by-count : (s : Script) → IsScript bytes s → (b : Bool) → nat_le (length s.addons) handed ≡ b → AreRefused d bytes handed ⊎ AreRunnable d bytes handed
  by-count s is true few = let enough : length s.addons ≤ handed = grind arith in by-demand s is enough (is_met d s) refl
  by-count s is false many =
      let more : handed < length s.addons = grind arith in
      inl (record { short = short; why = inr (inr (inl (record { script = s; is_script = is; more = more }))) })

  by-script : (v : Data) → IsJson bytes v → (r : Reading Script) → script v ≡ r → AreRefused d bytes handed ⊎ AreRunnable d bytes handed
  by-script v json (Ok s) e = by-count s (v, json, e) (nat_le (length s.addons) handed) refl
  by-script v json (Err w) e = inl (record { short = short; why = inr (inl (w, (v, json, e))) })

  by-value : IsUtf8 bytes → (value : Option Data) → read bytes ≡ value → AreRefused d bytes handed ⊎ AreRunnable d bytes handed
  by-value text None e = inl (record { short = short; why = inl (λ _. e) })
  by-value text (Some v) e = by-script v (text, e) (script v) refl

  by-text : (b : Bool) → is_utf8 bytes ≡ b → AreRefused d bytes handed ⊎ AreRunnable d bytes handed
  by-text true e = by-value (IsUtf8-from_is_utf8 bytes e) (read bytes) refl
  by-text false e = inl (record { short = short; why = inl (λ text. absurd (false≢true (sym e ∙ is_utf8-from_IsUtf8 bytes text))) })

-- bytes are of one of three kinds
some-bytes : (d : Demand) (bytes : List ℕ) (handed : ℕ) → AreTooLong bytes ⊎ (AreRefused d bytes handed ⊎ AreRunnable d bytes handed)
some-bytes d bytes handed = by (nat_le (length bytes) longest_source) refl
  where
    by : (b : Bool) → nat_le (length bytes) longest_source ≡ b → AreTooLong bytes ⊎ (AreRefused d bytes handed ⊎ AreRunnable d bytes handed)
    by true e = let short : length bytes ≤ longest_source = grind arith in inr (by-text d bytes handed short (is_utf8 bytes) refl)
    by false e = let long : longest_source < length bytes = grind arith in inl long

-- a load is refused or can be run
by-load : (d : Demand) (n handed : ℕ) (met few : Bool) → is_met d (load_script n) ≡ met → nat_le (length (load_script n).addons) handed ≡ few
    → ((is_met d (load_script n) ≡ false) ⊎ (handed < length (load_script n).addons))
    ⊎ ((is_met d (load_script n) ≡ true) × (length (load_script n).addons ≤ handed))
by-load d n handed false few unmet e = inl (inl unmet)
by-load d n handed true false met e = let more : handed < length (load_script n).addons = grind arith in inl (inr more)
by-load d n handed true true met e = let fewer : length (load_script n).addons ≤ handed = grind arith in inr (met, fewer)

read-kind : (d : Demand) (c : Command) (bytes : List ℕ) (handed : ℕ) → AreTooLong bytes ⊎ (AreRefused d bytes handed ⊎ AreRunnable d bytes handed)
    → (AreTooLong bytes → IsTooLong c bytes) → (AreRefused d bytes handed → IsRefused d c bytes handed) → (AreRunnable d bytes handed → IsRunnable d c bytes handed)
    → IsTooLong c bytes ⊎ (IsRefused d c bytes handed ⊎ IsRunnable d c bytes handed)
read-kind d c bytes handed (inl long) f g h = inl (f long)
read-kind d c bytes handed (inr (inl bad)) f g h = inr (inl (g bad))
read-kind d c bytes handed (inr (inr fit)) f g h = inr (inr (h fit))

-- a command with the bytes of the source is of one of three kinds
pub some-kind : (d : Demand) (c : Command) (bytes : List ℕ) (handed : ℕ) → IsTooLong c bytes ⊎ (IsRefused d c bytes handed ⊎ IsRunnable d c bytes handed)
some-kind d command.Run bytes handed = read-kind d command.Run bytes handed (some-bytes d bytes handed) (λ long. (refl, long)) (λ bad. bad) (λ fit. fit)
some-kind d command.Summary bytes handed = read-kind d command.Summary bytes handed (some-bytes d bytes handed) (λ long. (refl, long)) (λ bad. bad) (λ fit. fit)
some-kind d (command.Load n) bytes handed = inr (by-load d n handed (is_met d (load_script n)) (nat_le (length (load_script n).addons) handed) refl refl)

-- and of one alone
pub one-kind : (d : Demand) (c : Command) (bytes : List ℕ) (handed : ℕ) → IsRefused d c bytes handed → IsRunnable d c bytes handed → ⊥
one-kind d command.Run bytes handed bad fit = no-refused d bytes handed bad fit.script fit.is_script fit.enough fit.met
one-kind d command.Summary bytes handed bad fit = no-refused d bytes handed bad fit.script fit.is_script fit.enough fit.met
one-kind d (command.Load n) bytes handed (inl unmet) fit = let no : true ≡ false = sym fit.0 ∙ unmet in cc
one-kind d (command.Load n) bytes handed (inr many) fit = absurd (omega (arith, many, fit.1))
