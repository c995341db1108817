use Rattle.std.proofs.Common.{◌∙◌, None, Some, option_map, min, sym, ap}
use Rattle.std.specs.Option.{option_and_then, option_len}
use Rattle.napi_types.specs.parts.Attachments.{without_wrap}
use Rattle.wrap_tag.proofs.AttachingRows.{wrap_of-part, unwrapped-are, unwrapped-maps, unwrapped-none, same-state}
use Rattle.wrap_tag.proofs.wraps.Wraps.unwrap_out.Goals as goal

pub invariant_of-self : goal.invariant_of-self
invariant_of-self c = unwrapped-are c.args.value.0 c.self.inside.rows.entries c.unwrap_out.new.rows.entries c.self.invariant c.unwrap_out.ensures.taken

pub invariant_of-self-2 : goal.invariant_of-self-2
invariant_of-self-2 c = unwrapped-are c.args.value.0 c.self.inside.rows.entries c.unwrap_out.new.rows.entries c.self.invariant c.unwrap_out.ensures.taken

pub returns-in_err-wrap-clause-payload : goal.returns-in_err-wrap-clause-payload
returns-in_err-wrap-clause-payload c =
    ap (option_map (λ r. r.0)) c.from_residual.ensures
    ∙ sym (ap (option_map (λ w. w.payload)) (wrap_of-part c.args.value.0 c.self.inside.rows.entries c.args.self.now.attachments c.self.invariant (ap (λ s. s.attachments) c.self.view_is) None (sym c.unwrap_out.ensures.wrap ∙ c.in_err-wrap.was)))

pub returns-in_err-wrap-clause-unwrapped : goal.returns-in_err-wrap-clause-unwrapped
returns-in_err-wrap-clause-unwrapped c =
    unwrapped-maps c.args.value.0 c.self.inside.rows.entries c.unwrap_out.new.rows.entries c.self.invariant c.unwrap_out.ensures.taken ∙ ap (λ s. without_wrap c.args.value.0 s.attachments) c.self.view_is

pub returns-in_err-wrap-clause-stays : goal.returns-in_err-wrap-clause-stays
returns-in_err-wrap-clause-stays c = λ _.
    same-state _ _ _ _
    (unwrapped-none c.args.value.0 c.self.inside.rows.entries c.unwrap_out.new.rows.entries c.self.invariant c.unwrap_out.ensures.taken (sym c.unwrap_out.ensures.wrap ∙ c.in_err-wrap.was))
    (ap (λ n. min n (option_len c.self.inside.link)) c.unwrap_out.ensures.spare)
    ∙ c.self.view_is

pub returns-clause-payload : goal.returns-clause-payload
returns-clause-payload c =
    sym (ap (option_map (λ w. w.payload)) (wrap_of-part c.args.value.0 c.self.inside.rows.entries c.args.self.now.attachments c.self.invariant (ap (λ s. s.attachments) c.self.view_is) (Some c.in_ok-wrap.wrap) (sym c.unwrap_out.ensures.wrap ∙ c.in_ok-wrap.was)))

pub returns-clause-ticket : goal.returns-clause-ticket
returns-clause-ticket c =
    sym (ap (option_and_then (λ w. w.ticket)) (wrap_of-part c.args.value.0 c.self.inside.rows.entries c.args.self.now.attachments c.self.invariant (ap (λ s. s.attachments) c.self.view_is) (Some c.in_ok-wrap.wrap) (sym c.unwrap_out.ensures.wrap ∙ c.in_ok-wrap.was)))

pub returns-clause-unwrapped : goal.returns-clause-unwrapped
returns-clause-unwrapped c =
    unwrapped-maps c.args.value.0 c.self.inside.rows.entries c.unwrap_out.new.rows.entries c.self.invariant c.unwrap_out.ensures.taken ∙ ap (λ s. without_wrap c.args.value.0 s.attachments) c.self.view_is
