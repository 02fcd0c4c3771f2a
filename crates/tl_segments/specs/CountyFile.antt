-- The files of a county (TIGER/Line 2006, record types 1, 2, 4, 5 and 6): the layout of their lines, and their record types.
use Rattle.std.specs.Prelude.{ℕ}
use Rattle.tl_records.specs.Layout.{type1, type2, type4, type5, type6}
use Rattle.tl_records.specs.declared.layout.Layout.{Layout}
use Rattle.tl_segments.specs.declared.fault.CountyFile.{CountyFile}
use Rattle.tl_segments.specs.declared.fault.CountyFile.TheVariants.{Rt1, Rt2, Rt4, Rt5, Rt6}

-- the layout of the file's lines
abbrev pub layout : CountyFile → Layout
layout Rt1 = type1
layout Rt2 = type2
layout Rt4 = type4
layout Rt5 = type5
layout Rt6 = type6

abbrev pub record_type : CountyFile → ℕ
record_type Rt1 = 1
record_type Rt2 = 2
record_type Rt4 = 4
record_type Rt5 = 5
record_type Rt6 = 6
