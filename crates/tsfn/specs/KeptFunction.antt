-- How the fields stand for a function.
use Rattle.std.specs.Prelude.{◌≡◌, ◌≤◌, ◌^◌, true, false, map, Option, is_some}
use Rattle.napi_types.specs.declared.entry.TsfnState.TheVariants.{Finished}
use Rattle.napi_types.specs.declared.duties.Slip.{Slip}
use Rattle.napi_types.specs.parts.Functions.{FunctionState, accepted_items, is_done}
use Rattle.tsfn.specs.declared.function.Tsfn.TheInside.{Inside}

-- the function that the fields stand for
abbrev pub function_of : Inside → FunctionState
function_of t = record {
  id = t.id.0;
  addon = t.about.addon;
  target = t.about.target;
  maximum = t.about.max;
  items = map (λ item. item.payload) t.items.items;
  taken = t.taken;
  count = t.count;
  state = t.state;
  referenced = t.is_referenced;
  finalizer = t.about.finalize;
  context = t.about.context;
}

-- the items are few enough to be counted, the finalizer has its slip until it begins, and only a function that has a finalizer is finished
pub record IsKept (f : FunctionState) (slip : Option Slip) : Type 0 where
  pub few : accepted_items f ≤ 2 ^ 62
  pub armed : is_done f.state ≡ false → is_some slip ≡ is_some f.finalizer
  pub finished : f.state ≡ Finished → is_some f.finalizer ≡ true
