use Rattle.std.proofs.Common.{refl}
use Rattle.parts_suite.proofs.HubsGoOn.{calls-on, actors-stay}
use Rattle.parts_suite.proofs.tests.hub.threaded.Goals as goal

pub returns-in-Reply-clause-there : goal.returns-in-Reply-clause-there
returns-in-Reply-clause-there g c = calls-on _ _ 0 0 c.args.call c.in-Reply.reply c.in-Reply.ensures.reply c.thread_call.ensures.keeps c.requires.there

pub returns-in-Reply-clause-actors : goal.returns-in-Reply-clause-actors
returns-in-Reply-clause-actors g c = actors-stay _ _ _ c.in-Reply.ensures.reply refl
