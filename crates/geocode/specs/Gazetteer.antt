-- Indexes of the street names of counties.
use Rattle.std.specs.Prelude.{⊤, List, [], ◌∷◌}
use Rattle.tl_segments.specs.County.{CountyParts}
use Rattle.geocode.specs.NameIndex.{IsIndexOf}
use Rattle.geocode.specs.declared.gazetteer.Gazetteer.{Gazetteer}
use Rattle.geocode.specs.declared.name_index.NameIndex.{NameIndex}

-- these are the indexes of these counties, in order
abbrev pub AreIndexesOf : {A : Type 0} → List (NameIndex A) → List CountyParts → Type 0
AreIndexesOf [] [] = ⊤
AreIndexesOf (index ∷ indexes) (county ∷ counties) = IsIndexOf index county.segments × AreIndexesOf indexes counties
AreIndexesOf indexes counties = ⊥

-- the gazetteer has an index of each of these counties, in order
abbrev pub IsGazetteerOf : {A : Type 0} → Gazetteer A → List CountyParts → Type 0
IsGazetteerOf gazetteer counties = AreIndexesOf gazetteer.indexes.items counties
