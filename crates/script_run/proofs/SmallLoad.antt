-- The load script is one that the host can run.
use Rattle.std.proofs.Common.{ℕ, zero, suc, ◌+◌, List, [], ◌∷◌, length-append, refl, arith}
use Rattle.std.proofs.lemmas.List.FromFn.{length-map-range_with_len}
use Rattle.std.proofs.lemmas.List.Elements.{All-append, All-map}
use Rattle.std.specs.List.{All, range_with_len}
use Rattle.napi_types.specs.declared.call.Mode.TheVariants as mode
use Rattle.napi_types.specs.declared.call.Release.TheVariants as release
use Rattle.napi_types.specs.declared.op.Op.{Op}
use Rattle.napi_types.specs.declared.op.Op.TheVariants as op
use Rattle.env_loop.specs.ActorRuns.{IsOperationOfThread}
use Rattle.script_run.specs.Runs.{IsSmall}
use Rattle.script_run.specs.Load.{calls_from, load_script, thread_operations}
use Rattle.script_run.specs.ScriptActors.{IsThreadScript}

-- a release is of the three kinds that threads make
is-release : All IsOperationOfThread (op.ThreadRelease 1 release.Release ∷ [])
is-release zero d within = tt
is-release (suc k) d within = absurd (omega arith)

-- the operations of a thread
is-thread : (n t : ℕ) → IsThreadScript (thread_operations n t)
unfolding thread_operations
is-thread n t =
    let call : ℕ → Op = λ k. op.ThreadCall 1 (n + t + k) mode.Blocking in
    let last : List Op = op.ThreadRelease 1 release.Release ∷ [] in
    record {
      few = omega (arith, length-append (calls_from (n + t) 6250) last, length-map-range_with_len call 0 6250);
      kinds = All-append IsOperationOfThread (calls_from (n + t) 6250) last
          (All-map IsOperationOfThread call (range_with_len 0 6250) (λ k d within. tt)) is-release;
    }

pub small-load : (n : ℕ) → IsSmall (load_script n)
small-load n = record {
  version = refl;
  few = omega arith;
  texts = omega arith;
  actors = record {
    threads_few = omega (arith, length-map-range_with_len (thread_operations n) 0 16);
    scripts = All-map IsThreadScript (thread_operations n) (range_with_len 0 16) (λ k d within. is-thread n _);
    workers_few = omega arith;
    words = tt;
  };
}
