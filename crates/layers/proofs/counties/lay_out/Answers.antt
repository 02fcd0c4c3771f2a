use Rattle.std.proofs.Common.{Some, ap, sym, ◌∙◌}
use Rattle.layers.proofs.CountiesLemmas.{layer_made}
use Rattle.layers.proofs.counties.lay_out.Goals as goal

pub returns-in-Ok : goal.returns-in-Ok
returns-in-Ok g c = layer_made _ _ _ _ _ c.into_inner.result.items c.in-Ok.ensures
    (ap (λ out. Some out.inner.items) c.new-out.ensures ∙ ap Some c.new.ensures.items) (ap (λ text. Some text.items) (sym c.into_inner.ensures))
