use Rattle.std.proofs.Common.{[], ap, refl}
use Rattle.layers.proofs.CountiesLemmas.{layer_written}
use Rattle.layers.proofs.LayerLemmas.{format_is, rows_are}
use Rattle.layers.specs.LayerParts.{parts_of}
use Rattle.tl_segments.specs.Shapes.{table_of}
use Rattle.layers.proofs.counties.write_layer_of.Goals as goal

pub returns-in-Some : goal.returns-in-Some
returns-in-Some g c =
    layer_written _ _ _ (table_of c.in-Some.features.shapes) c.write_counties.result _ _ _
    (format_is _ c.in-Some.features _ (c.in-Some.ensures.0, refl), λ tlid. ap (λ shapes. table_of shapes tlid) c.in-Some.ensures.1)
    c.in_ok-write_header.ensures c.write_counties.ensures

pub returns-in-None : goal.returns-in-None
returns-in-None g c =
    layer_written (parts_of c.args.layer.now) _ _ (λ tlid. []) c.write_counties-in-None.result _ _ _ (rows_are _ _ c.in-None.ensures, λ tlid. refl)
    c.in_ok-write_header.ensures c.write_counties-in-None.ensures
