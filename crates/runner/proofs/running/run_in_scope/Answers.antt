use denote.Exit.{no}
use denote.Param.Send.{sendable, param_send, arg_send}
use Rattle.runner.proofs.running.run_in_scope.Goals as goal

pub scoped-requires : goal.scoped-requires
scoped-requires g c = record {
  at = λ a. (
    c.requires.crew,
    (
      c.requires.words,
      (
        c.requires.room,
        (
          c.requires.enough,
          (
            param_send 0 _ (arg_send _ no _ c.type_bounds.send-J),
            param_send 1 _ (arg_send _ no _ c.type_bounds.send-N),
            search (sendable, c.type_bounds.sync-N),
            search (sendable, c.type_bounds.sync-R),
            search (sendable, c.type_bounds.sync-G),
          ),
        ),
      ),
    ),
  );
}
