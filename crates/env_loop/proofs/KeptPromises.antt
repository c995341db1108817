-- Nobody is lost in a run that came to its end.
use Rattle.std.proofs.Common.{List}
use Rattle.napi_types.proofs.all_runs.BytesRuns.{bytes-shared}
use Rattle.napi_types.proofs.all_runs.LifeRuns.{buffers-outlive}
use Rattle.napi_types.proofs.all_runs.PromiseRuns.{promises-kept}
use Rattle.napi_types.proofs.all_runs.SettledHooks.{hooks-settled}
use Rattle.napi_types.specs.declared.call.Ask.{Ask}
use Rattle.napi_types.specs.declared.entry.Entry.{Entry}
use Rattle.napi_types.specs.runs.Setting.{Setting, EndsBy, opening_of}
use Rattle.napi_types.specs.all_runs.Order.{HooksFall, FinalsRise}
use Rattle.napi_types.proofs.all_runs.ItemOrders.{items-in-order}
use Rattle.napi_types.proofs.all_runs.Keeping.{kept-run}
use Rattle.napi_types.proofs.all_runs.NamedWorks.{cancels-told}
use Rattle.napi_types.proofs.all_runs.OncePlaces.{each-once, starts-told}
use Rattle.napi_types.proofs.all_runs.Onces.{tickets-counted}
use Rattle.napi_types.proofs.all_runs.Orders.{order-holds}
use Rattle.env_loop.specs.Recording.{KeepsPromises}

pub keeps-promises : (s : Setting) (asks : List Ask) (xs : List Entry) → EndsBy s asks xs → KeepsPromises s asks xs
keeps-promises s asks xs ended =
    let order : HooksFall xs × FinalsRise xs = order-holds s asks xs ended.run.steps in
    record {
      collected = kept-run (opening_of s) asks xs ended.run.steps;
      counted = tickets-counted s asks xs ended.run;
      hooks = order.0;
      finals = order.1;
      once = each-once s asks xs ended;
      items = λ f. items-in-order s asks xs f ended.run;
      completed = λ n. starts-told s asks xs n ended;
      cancels = cancels-told s asks xs ended;
      settled = hooks-settled s asks xs ended.run;
      promised = promises-kept s asks xs ended;
      bytes = bytes-shared s asks xs ended.run;
      lives = buffers-outlive s asks xs ended.run;
    }
