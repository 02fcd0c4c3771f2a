-- The shapes of a county, described by the lines of type 2 that they were read from.
use Rattle.std.specs.Prelude.{◌≡◌, ℕ, List, [], map, Option, Some, None, unwrap_or}
use Rattle.std.specs.BTreeMap.{is_at}
use Rattle.std.specs.Map.{lookup}
use Rattle.std.specs.Ordering.{nat_cmp}
use Rattle.counted_io.specs.ReaderWriter.{Reader}
use Rattle.tl_segments.specs.Loading.{IsFileFault, ReadsFile}
use Rattle.tl_segments.specs.Shape.{ShapePartParts, ShapeTable, shape_parts}
use Rattle.tl_segments.specs.declared.fault.CountyFile.TheVariants.{Rt2}
use Rattle.tl_segments.specs.declared.fault.LoadFault.{LoadFault}
use Rattle.tl_segments.specs.declared.multi_map.MultiMap.{MultiMap}

-- the TLIDs of type 2 lines in ascending order, each with the parts of its shape
pub record ShapesParts : Type 0 where
  pub entries : List (ℕ × List ShapePartParts)

-- the entries of a table of parts
abbrev pub entries_in : {A : Type 0} → MultiMap ShapePartParts A → List (ℕ × List ShapePartParts)
entries_in table = map (λ entry. (entry.0, entry.1.items)) table.lists.entries

-- the parts of a TLID's shape
abbrev pub parts_at : ShapesParts → ShapeTable
parts_at shapes tlid = unwrap_or (lookup (is_at (nat_cmp tlid)) shapes.entries) []

-- each TLID has the parts that these lines give its shape
abbrev pub IsShapesOf : ShapesParts → List (List ℕ) → Type 0
IsShapesOf shapes rt2 = (tlid : ℕ) → parts_at shapes tlid ≡ shape_parts rt2 tlid

-- the shapes that were read, or none
abbrev pub table_of : Option ShapesParts → ShapeTable
table_of (Some shapes) tlid = parts_at shapes tlid
table_of None tlid = []

-- the type 2 file was read to its end and has these lines, or there is no file and there are none
abbrev pub ReadsShapes : List (List ℕ) → Option Reader → Option Reader → Type 0
ReadsShapes rt2 (Some old) (Some new) = ReadsFile Rt2 rt2 old new
ReadsShapes rt2 None None = rt2 ≡ []
ReadsShapes rt2 old new = ⊥

-- the shapes are those of the lines that were read
pub record LoadsShapes (shapes : ShapeTable) (old new : Option Reader) : Type 0 where
  pub rt2 : List (List ℕ)
  pub holds : (tlid : ℕ) → shapes tlid ≡ shape_parts rt2 tlid
  pub reads : ReadsShapes rt2 old new

-- the type 2 file isn't good, or memory runs out for it
abbrev pub IsShapesFault : LoadFault → Option Reader → Option Reader → Type 0
IsShapesFault fault (Some old) (Some new) = IsFileFault Rt2 fault old new
IsShapesFault fault old new = ⊥
