use Rattle.env_core.proofs.AtOnce.{never-enters, stays-local, if-reply, refused-early, refused-deep}
use Rattle.env_core.proofs.env.EnvCore.step.Goals as goal

pub returns-in_default : goal.returns-in_default
returns-in_default c =
    let s = c.step_at_once.result in
    let once = c.step_at_once.ensures.at_once in
    record {
      reply = c.step_at_once.ensures.reply;
      enter = never-enters s _ once;
      refused = λ status is. if-reply s _ _ (refused-early c.args.self.now _ c.args.call.now status is) c.step_at_once.ensures.reply;
      depth_limit = λ status none is. if-reply s _ _ (refused-deep c.args.self.now _ c.args.call.now status none is) c.step_at_once.ensures.reply;
      stop = c.step_at_once.ensures.stop;
      cause = λ local. c.step_at_once.ensures.cause;
      full = λ local. c.step_at_once.ensures.full;
      local = λ local. stays-local s once;
      shared = λ is. let g = c.facts.ensures.group in let h = c.is_shared.ensures in let f = c.if-is_shared.false in cc;
    }
