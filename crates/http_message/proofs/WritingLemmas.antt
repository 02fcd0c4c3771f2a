-- Writing two texts, one after the other.
use Rattle.std.proofs.Common.{◌≡◌, ℕ, zero, suc, Ok, Err, List, [], ◌∷◌, ◌++◌, length, take, refl, sym, ap, subst, ◌∙◌}
use Rattle.std.specs.Io.KnownBytes.{Appends}
use Rattle.std.specs.Prelude.{Result}
use Rattle.counted_io.specs.Counting.{CountsFault}
use Rattle.counted_io.specs.ReaderWriter.{WriteCounts, Writer}
use Rattle.counted_io.specs.Writing.{WritesText}
use Rattle.counted_io.specs.declared.writing.WriteFault.{WriteFault}
use Rattle.counted_io.proofs.KnownBytesLemmas.{Appends-append, AppendsBeginning-further}

take-within : (count : ℕ) (text more : List ℕ) → take (length (take count text)) (text ++ more) ≡ take count text
take-within zero text more = refl
take-within (suc count) [] more = refl
take-within (suc count) (byte ∷ text) more = ap (λ (rest : List ℕ). byte ∷ rest) (take-within count text more)

-- the first text wasn't written completely, and the second wasn't tried
pub first_failed : (first second : List ℕ) (fault : WriteFault) (old new : Writer) → WritesText first (Err fault) old new
    → WritesText (first ++ second) (Err fault) old new
first_failed first second fault old new (beginning, counts) = (
  record {
    count = length (take beginning.count first);
    appends = subst (λ text. Appends old.held new.held text) (sym (take-within beginning.count first second)) beginning.appends;
  },
  counts,
)

-- the first text was written completely, and the second up to its end or to a fault
pub then_written : (first second : List ℕ) (result : Result (Unit {0}) WriteFault) (old now new : Writer) → WritesText first (Ok tt) old now
    → WritesText second result now new → WritesText (first ++ second) result old new
then_written first second (Ok done) old now new before next =
    (Appends-append old.held now.held new.held first second before.0 next.0, next.1 ∙ before.1)
then_written first second (Err fault) old now new before next = (
  AppendsBeginning-further old.held now.held new.held first second before.0 next.0,
  subst (λ (counts : WriteCounts). CountsFault fault counts new.counts) before.1 next.1,
)
