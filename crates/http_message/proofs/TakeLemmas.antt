-- The bytes taken from a reader by several reads.
use Rattle.std.proofs.Common.{ℕ, List, [], ◌++◌, ◌∙◌, refl}
use Rattle.counted_io.specs.ReaderWriter.{Reader}
use Rattle.counted_io.proofs.KnownBytesLemmas.{Consumes-append, Consumes-refl}
use Rattle.http_message.specs.Reading.{Takes}

-- if nothing was read, nothing was taken
pub Takes-refl : (input : Reader) → Takes [] input input
Takes-refl input = record { consumed = Consumes-refl input.left; failed = refl }

-- some bytes were taken, then others
pub Takes-append : (xs ys : List ℕ) (old now new : Reader) → Takes xs old now → Takes ys now new → Takes (xs ++ ys) old new
Takes-append xs ys old now new first second = record {
  consumed = Consumes-append old.left now.left new.left xs ys first.consumed second.consumed;
  failed = second.failed ∙ first.failed;
}
