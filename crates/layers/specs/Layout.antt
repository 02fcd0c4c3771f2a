-- What is written of selected segments.
use Rattle.std.specs.Prelude.{ℕ, List}
use Rattle.cql2.specs.declared.column.Column.{Column as AColumn}
use Rattle.layers.specs.declared.geometry.Geometry.{Geometry}
use Rattle.tl_segments.specs.Segment.{SegmentParts}
use Rattle.tl_segments.specs.Shape.{ShapePartParts}

-- the columns and the geometry that are written of each segment besides its score
pub record LayoutParts : Type 0 where
  pub columns : List AColumn
  pub geometry : Geometry

-- a selected segment: its score, its contents, and the parts of its shape
pub record SelectedParts : Type 0 where
  pub score : ℕ
  pub segment : SegmentParts
  pub shape : List ShapePartParts
