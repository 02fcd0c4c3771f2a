-- The layer that a value of the code stands for.
use Rattle.layers.specs.Layout.{LayoutParts}
use Rattle.layers.specs.Layer.{LayerParts, Rows, Table, Features}
use Rattle.layers.specs.declared.layer.Layer.{Layer}
use Rattle.layers.specs.declared.layer.Layer.TheVariants as layer
use Rattle.layers.specs.declared.layer.TableOptions.{TableOptions}

abbrev pub layout_of : TableOptions → LayoutParts
layout_of options = record { columns = options.columns; geometry = options.geometry }

abbrev pub parts_of : Layer → LayerParts
parts_of layer.Rows = Rows
parts_of (layer.Table options) = Table (layout_of options)
parts_of (layer.Features options) = Features (layout_of options)
