-- Texts written one after the other, up to the first fault.
use Rattle.std.proofs.Common.{◌≡◌, ℕ, zero, suc, ◌+◌, ◌<◌, Ok, Err, List, [], ◌∷◌, ◌++◌, length, get_or, take, drop, refl, sym, ap, subst, ◌∙◌}
use Rattle.std.specs.Prelude.{Result}
use Rattle.std.proofs.Math.Seq.{drop-cons}
use Rattle.std.proofs.lemmas.Grind.{flat_map-append, take_at_read}
use Rattle.std.proofs.lemmas.List.{flat_map_more, take-append-drop}
use Rattle.std.specs.Io.KnownBytes.{Appends}
use Rattle.std.specs.List.{flat_map}
use Rattle.counted_io.proofs.KnownBytesLemmas.{Appends-append, AppendsBeginning-further}
use Rattle.counted_io.specs.Counting.{CountsFault}
use Rattle.counted_io.specs.ReaderWriter.{WriteCounts, Writer}
use Rattle.counted_io.specs.Writing.{WritesText}
use Rattle.counted_io.specs.declared.writing.WriteFault.{WriteFault}

take-within : (count : ℕ) (text more : List ℕ) → take (length (take count text)) (text ++ more) ≡ take count text
take-within zero text more = refl
take-within (suc count) [] more = refl
take-within (suc count) (byte ∷ text) more = ap (λ (rest : List ℕ). byte ∷ rest) (take-within count text more)

-- the first text wasn't written completely, and the second wasn't tried
pub first_failed : (first second : List ℕ) (fault : WriteFault) (old new : Writer) → WritesText first (Err fault) old new
    → WritesText (first ++ second) (Err fault) old new
first_failed first second fault old new (beginning, counts) = (
  record {
    count = length (take beginning.count first);
    appends = subst (λ text. Appends old.held new.held text) (sym (take-within beginning.count first second)) beginning.appends;
  },
  counts,
)

-- the first text was written completely, and the second up to its end or to a fault
pub then_written : (first second : List ℕ) (result : Result (Unit {0}) WriteFault) (old now new : Writer) → WritesText first (Ok tt) old now
    → WritesText second result now new → WritesText (first ++ second) result old new
then_written first second (Ok done) old now new before next =
    (Appends-append old.held now.held new.held first second before.0 next.0, next.1 ∙ before.1)
then_written first second (Err fault) old now new before next = (
  AppendsBeginning-further old.held now.held new.held first second before.0 next.0,
  subst (λ (counts : WriteCounts). CountsFault fault counts new.counts) before.1 next.1,
)

-- a list's pieces, of which the first ones are written
module _ {A : Type 0} (f : A → List ℕ) (xs : List A) (i : ℕ) (d : A) (inside : i < length xs) (text : List ℕ) (is : text ≡ f (get_or xs i d)) where
  all_pieces : flat_map f (take i xs) ++ (f (get_or xs i d) ++ flat_map f (drop (suc i) xs)) ≡ flat_map f xs
  all_pieces =
      ap (λ (following : List A). flat_map f (take i xs) ++ flat_map f following) (sym (drop-cons xs i d inside))
      ∙ sym (flat_map-append f (take i xs) (drop i xs)) ∙ ap (flat_map f) (take-append-drop i xs)

  -- one more piece is written
  pub piece_written : (a b c : Writer) → WritesText (flat_map f (take i xs)) (Ok tt) a b → WritesText text (Ok tt) b c
      → WritesText (flat_map f (take (i + 1) xs)) (Ok tt) a c
  piece_written a b c so_far written =
      let more = flat_map_more f [] (take i xs) (get_or xs i d) ∙ ap (flat_map f) (sym (take_at_read xs i d inside).1) in
      subst (λ (text : List ℕ). WritesText text (Ok tt) a c) (ap (λ text. flat_map f (take i xs) ++ text) is ∙ more)
      (then_written (flat_map f (take i xs)) text (Ok tt) a b c so_far written)

  -- the next piece isn't written completely
  pub piece_stopped : (a b c : Writer) (fault : WriteFault) → WritesText (flat_map f (take i xs)) (Ok tt) a b → WritesText text (Err fault) b c
      → WritesText (flat_map f xs) (Err fault) a c
  piece_stopped a b c fault so_far stopped =
      let rest = flat_map f (drop (suc i) xs) in
      subst (λ (text : List ℕ). WritesText text (Err fault) a c) (ap (λ text. flat_map f (take i xs) ++ (text ++ rest)) is ∙ all_pieces)
      (then_written (flat_map f (take i xs)) (text ++ rest) (Err fault) a b c so_far (first_failed text rest fault b c stopped))
