-- Why the parameters of a request with a filter can't be used, and the line about it.
use Rattle.std.specs.Prelude.{ℕ, List, ◌++◌, codes, ⊤}
use Rattle.filters.specs.OptionsFault as options_fault
use Rattle.filters.specs.OptionsFault.{FilterOptionsFaultParts}
use Rattle.layers.specs.LayerFault as layer_fault
use Rattle.layers.specs.LayerFault.{LayerFaultParts}
use Rattle.reports.specs.Escape.{escaped}
use Rattle.wire.specs.declared.parameter_fault.ParameterFault.{ParameterFault}
use Rattle.wire.specs.declared.parameter_fault.ParameterFault.TheVariants as fault

-- no parameter has this name; a parameter of the filter has a wrong value; the parameters choose no layer; or there are no shapes
pub data ParameterFaultParts : Type 0 where
  Unknown : List ℕ → ParameterFaultParts
  Filter : FilterOptionsFaultParts → ParameterFaultParts
  Layer : LayerFaultParts → ParameterFaultParts
  NoShapes : ParameterFaultParts

abbrev pub parts_of : ParameterFault → ParameterFaultParts
parts_of (fault.Unknown name) = Unknown name.now
parts_of (fault.Filter of) = Filter (options_fault.parts_of of)
parts_of (fault.Layer of) = Layer (layer_fault.parts_of of)
parts_of fault.NoShapes = NoShapes

-- the column that is named as the nearest is near
abbrev pub NamesNearest : ParameterFault → Type 0
NamesNearest (fault.Layer of) = layer_fault.NamesNearest of
NamesNearest fault = ⊤

abbrev pub line : ParameterFault → List ℕ
line (fault.Unknown name) = codes "error: unexpected argument '--" ++ (escaped name.now ++ codes "' found\n")
line (fault.Filter of) = options_fault.line of
line (fault.Layer of) = layer_fault.line of
line fault.NoShapes = codes "error: --geometry shape needs the type 2 files, which a server doesn't load\n"
