use Rattle.std.proofs.Common.{◌≡◌, map, string_bytes}
use Rattle.napi_host.proofs.texts.Given as goal

abbrev pub invariant-loop-word : goal.invariant-loop-word
invariant-loop-word l = l.words.items ≡ map string_bytes l.yielded
