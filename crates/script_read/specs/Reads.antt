-- What is answered of a reading: what was read, or the first thing that is wrong. Want of memory may come in place of each.
use Rattle.std.specs.Prelude.{◌≡◌, ⊤}
use Rattle.std.specs.declared.result.Result.{Result}
use Rattle.std.specs.declared.result.Result.TheVariants.{Ok, Err}
use Rattle.napi_types.specs.scripts.ScriptReading.{Reading}
use Rattle.script_read.specs.declared.json.ReadingStop.{ReadingStop}
use Rattle.script_read.specs.declared.json.ReadingStop.TheVariants as stop

-- a reading stops so: this is wrong, or there was no memory
abbrev pub Stops : {A : Type 0} → ReadingStop → Reading A → Type 0
Stops (stop.Mistake w) reading = reading ≡ Err w
Stops stop.NoMemory reading = ⊤
Stops stop.NotJson reading = ⊥

-- a reading is answered by what the definitions see in what was found
abbrev pub ReadsAs : {A B : Type 0} → (A → B) → Result A ReadingStop → Reading B → Type 0
ReadsAs seen (Ok found) reading = reading ≡ Ok (seen found)
ReadsAs seen (Err s) reading = Stops s reading

-- a reading is answered by what was found
abbrev pub Reads : {A : Type 0} → Result A ReadingStop → Reading A → Type 0
Reads (Ok found) reading = reading ≡ Ok found
Reads (Err s) reading = Stops s reading
