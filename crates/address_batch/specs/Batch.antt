-- Counties to look for addresses in, with their codes.
use Rattle.std.specs.Prelude.{ℕ, List}
use Rattle.address_batch.specs.declared.batch.GazetteerSource.{GazetteerSource}
use Rattle.address_batch.specs.declared.batch.GazetteerSource.TheVariants.{Own, Borrowed}
use Rattle.geocode.specs.declared.gazetteer.Gazetteer.{Gazetteer}
use Rattle.tl_segments.specs.County.{CountyParts}

-- counties, and the code of each
pub record BatchParts : Type 0 where
  pub counties : List CountyParts
  pub codes : List (List ℕ)

-- the index of a batch, which may be borrowed
abbrev pub gazetteer_in : {A : Type 0} → GazetteerSource A → Gazetteer A
gazetteer_in (Own gazetteer) = gazetteer
gazetteer_in (Borrowed gazetteer) = gazetteer.now
