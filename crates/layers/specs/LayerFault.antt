-- Why options choose no layer, and the line about it.
use Rattle.std.specs.Prelude.{ℕ, List, ◌++◌, codes, Option, Some, None, option_map, ⊤}
use Rattle.std.specs.Borrow.{Bor}
use Rattle.std.specs.Str.{trim}
use Rattle.cql2_tokens.specs.Nearest.{IsNear, LeadsText}
use Rattle.layers.specs.declared.layer_fault.LayerFault.{LayerFault}
use Rattle.layers.specs.declared.layer_fault.LayerFault.TheVariants as fault
use Rattle.reports.specs.Escape.{escaped}
use Rattle.reports.specs.Rule.{broken_rule}

-- This isn't the name of a format; rows don't take this option; the name of a column is empty; this isn't the name of a column; this is the name of one
-- that is listed already; this isn't the name of a geometry; or memory ran out.
pub data LayerFaultParts : Type 0 where
  Format : List ℕ → LayerFaultParts
  NotOfRows : List ℕ → LayerFaultParts
  EmptyColumn : LayerFaultParts
  Column : List ℕ → LayerFaultParts
  RepeatedColumn : List ℕ → LayerFaultParts
  Geometry : List ℕ → LayerFaultParts
  Memory : LayerFaultParts

abbrev pub parts_of : LayerFault → LayerFaultParts
parts_of (fault.Format name) = Format name.now
parts_of (fault.NotOfRows name) = NotOfRows name.now
parts_of fault.EmptyColumn = EmptyColumn
parts_of (fault.Column name nearest) = Column name.now
parts_of (fault.RepeatedColumn name) = RepeatedColumn name.now
parts_of (fault.Geometry name) = Geometry name.now
parts_of fault.Memory = Memory

-- the column that is named as the nearest is near the name, without the blanks around it
abbrev pub NamesNearest : LayerFault → Type 0
NamesNearest (fault.Column name nearest) =
    (leading : List ℕ) × LeadsText leading (trim name.now) × IsNear leading (option_map (λ near. near.now) nearest)
NamesNearest fault = ⊤

-- a name that isn't that of a column, and the name of one that is near
abbrev pub column_line : List ℕ → Option (Bor (List ℕ)) → List ℕ
column_line name None = codes "error: --columns has \"" ++ (escaped name ++ codes "\", which isn't a column\n")
column_line name (Some nearest) =
    codes "error: --columns has \"" ++ (escaped name ++ (codes "\", which isn't a column, and the nearest is " ++ (nearest.now ++ codes "\n")))

abbrev pub line : LayerFault → List ℕ
line (fault.Format name) = broken_rule (codes "format is rows, csv or geojsonseq") name.now
line (fault.NotOfRows name) = codes "error: --" ++ (name.now ++ codes " needs --format csv or geojsonseq\n")
line fault.EmptyColumn = codes "error: --columns has an empty name\n"
line (fault.Column name nearest) = column_line name.now nearest
line (fault.RepeatedColumn name) = codes "error: --columns has \"" ++ (escaped name.now ++ codes "\" twice\n")
line (fault.Geometry name) = broken_rule (codes "geometry is none, line or shape") name.now
line fault.Memory = codes "refused memory\n"
