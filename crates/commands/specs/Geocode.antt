-- What `geocode` writes, and why it is refused.
use Rattle.std.specs.Prelude.{◌≡◌, ℕ, false, List, map, Option, Result}
use Rattle.geocode.specs.HitLine.{hit_lines}
use Rattle.geocode.specs.Query.{hits_of, parts_of}
use Rattle.refusals.specs.Refusal.{RefusalParts}
use Rattle.counted_io.specs.ReaderWriter.{Writer}
use Rattle.counted_io.specs.Writing.{WritesText}
use Rattle.counted_io.specs.declared.writing.WriteFault.{WriteFault}
use Rattle.tl_segments.specs.County.{CountyParts}
use Rattle.commands.specs.Counties.{AreCountiesOf, HaveRefusedCounty}
use Rattle.commands.specs.declared.geocoder.Geocode.{Geocode}

-- the codes of the requested counties
abbrev pub codes_of : Geocode → List (List ℕ)
codes_of geocode = map (λ code. code.now) geocode.codes.items

-- The lines of the hits in the requested counties were written, completely or until the output failed.
pub record Writes (geocode : Geocode) (known : List ℕ → Option (List ℕ)) (result : Result (Unit {0}) WriteFault)
    (out out' : Writer) : Type 0 where
  pub counties : List CountyParts
  pub are_counties : AreCountiesOf false known geocode.«data».now (codes_of geocode) counties
  pub written : WritesText (hit_lines (hits_of (parts_of geocode.query) counties)) result out out'

-- One of the counties is refused, and nothing was written.
pub record IsRefused (geocode : Geocode) (known : List ℕ → Option (List ℕ)) (refusal : RefusalParts) (out out' : Writer) : Type 0 where
  pub refused : HaveRefusedCounty false known geocode.«data».now (codes_of geocode) refusal
  pub unwritten : out' ≡ out
