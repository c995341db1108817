use Rattle.std.proofs.Common.{◌∙◌, List, ap, sym, subst}
use Rattle.std.proofs.lemmas.List.Elements.{All-filter}
use Rattle.napi_types.specs.environment.Environment.{TsfnRoot}
use Rattle.napi_types.specs.parts.Graph.{IsLive}
use Rattle.env_core.specs.TsfnRooting.{is_of_another, tsfn_roots_seen, RootsAreLive}
use Rattle.env_core.specs.contracts.state.State.{the_view}
use Rattle.env_core.proofs.TsfnRooting.{seen-dropped}
use Rattle.env_core.proofs.state.State.drop_root.Goals as goal

pub invariant_of-self : goal.invariant_of-self
invariant_of-self c =
    let s = c.self.inside in
    let i = c.self.invariant.0 in (
      record {
        live = i.live;
        frames = i.frames;
        calls = i.calls;
        pending = i.pending;
        referred = i.referred;
        rooted =
            subst (RootsAreLive s.store) (sym c.remove.ensures)
            (All-filter (is_of_another c.args.function.0) (λ (r : TsfnRoot). IsLive s.store r.value) s.tsfn_roots i.rooted);
      },
      c.self.invariant.1,
      c.self.invariant.2,
      c.self.invariant.3,
    )

pub returns : goal.returns
returns c =
    let s = c.self.inside in
    let seen = ap (tsfn_roots_seen s.store) c.remove.ensures ∙ seen-dropped s.store c.args.function.0 s.tsfn_roots in
    rw (← c.self.view_is) (ap (λ (l : List TsfnRoot). record (the_view s) { tsfn_roots = l }) seen)
