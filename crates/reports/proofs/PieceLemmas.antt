-- Texts written piece by piece, up to the first fault.
use Rattle.std.proofs.Common.{◌≡◌, ℕ, suc, ◌+◌, ◌<◌, ◌≤◌, List, [], ◌++◌, length, get_or, take, drop, Option, Result, Ok, Err}
use Rattle.std.proofs.Common.{min, ap, sym, subst, ◌∙◌}
use Rattle.std.specs.List.{flat_map}
use Rattle.std.proofs.Math.Seq.{drop-cons}
use Rattle.std.proofs.Math.Nat.{min-le_right}
use Rattle.std.proofs.lemmas.Grind.{flat_map-append, take_at_read}
use Rattle.std.proofs.lemmas.List.{flat_map_more, take-append-drop, take-append-le, take_all, take_min}
use Rattle.std.specs.Io.KnownBytes.{Appends}
use Rattle.counted_io.specs.Counting.{CountsFault}
use Rattle.counted_io.specs.ReaderWriter.{WriteCounts, Writer}
use Rattle.counted_io.specs.Writing.{AppendsBeginning, WritesText}
use Rattle.counted_io.specs.declared.writing.WriteFault.{WriteFault}
use Rattle.counted_io.proofs.KnownBytesLemmas.{Appends-append, AppendsBeginning-further}

-- a prefix of a text is a prefix of a longer text
beginning_longer : (a b : Option (List ℕ)) (text more : List ℕ) → AppendsBeginning a b text → AppendsBeginning a b (text ++ more)
beginning_longer a b text more is = record {
  count = min is.count (length text);
  appends = subst (Appends a b) (sym (take_min is.count text)
      ∙ sym (take-append-le (min is.count (length text)) text more (min-le_right is.count (length text)))) is.appends;
}

-- a text is written after another
pub written_further : (first second : List ℕ) (a b c : Writer) → WritesText first (Ok tt) a b → WritesText second (Ok tt) b c
    → WritesText (first ++ second) (Ok tt) a c
written_further first second a b c before written =
    (Appends-append a.held b.held c.held first second before.0 written.0, written.1 ∙ before.1)

-- the second text isn't written completely
module _ (first second more : List ℕ) (fault : WriteFault) (a b c : Writer) where
  pub stopped_further : WritesText first (Ok tt) a b → WritesText second (Err fault) b c
      → WritesText (first ++ (second ++ more)) (Err fault) a c
  stopped_further before stopped = (
    AppendsBeginning-further a.held b.held c.held first (second ++ more) before.0 (beginning_longer b.held c.held second more stopped.0),
    subst (λ (counts : WriteCounts). CountsFault fault counts c.counts) before.1 stopped.1,
  )

module _ {A : Type 0} (f : A → List ℕ) (xs : List A) (i : ℕ) (d : A) (inside : i < length xs) where
  all_pieces : flat_map f (take i xs) ++ (f (get_or xs i d) ++ flat_map f (drop (suc i) xs)) ≡ flat_map f xs
  all_pieces =
      ap (λ (following : List A). flat_map f (take i xs) ++ flat_map f following) (sym (drop-cons xs i d inside))
      ∙ sym (flat_map-append f (take i xs) (drop i xs)) ∙ ap (flat_map f) (take-append-drop i xs)

  -- one more piece is written
  pub piece_written : (a b c : Writer) (text : List ℕ) → text ≡ f (get_or xs i d) → WritesText (flat_map f (take i xs)) (Ok tt) a b
      → WritesText text (Ok tt) b c → WritesText (flat_map f (take (i + 1) xs)) (Ok tt) a c
  piece_written a b c text is so_far written = (
    subst (Appends a.held c.held) (flat_map_more f [] (take i xs) (get_or xs i d) ∙ ap (flat_map f) (sym (take_at_read xs i d inside).1))
        (Appends-append a.held b.held c.held (flat_map f (take i xs)) (f (get_or xs i d)) so_far.0
        (subst (Appends b.held c.held) is written.0)),
    written.1 ∙ so_far.1,
  )

  -- the next piece isn't written completely
  pub piece_stopped : (a b c : Writer) (text : List ℕ) (fault : WriteFault) → text ≡ f (get_or xs i d)
      → WritesText (flat_map f (take i xs)) (Ok tt) a b → WritesText text (Err fault) b c → WritesText (flat_map f xs) (Err fault) a c
  piece_stopped a b c text fault is so_far written = (
    subst (AppendsBeginning a.held c.held) all_pieces
        (AppendsBeginning-further a.held b.held c.held (flat_map f (take i xs)) (f (get_or xs i d) ++ flat_map f (drop (suc i) xs)) so_far.0
        (beginning_longer b.held c.held (f (get_or xs i d)) (flat_map f (drop (suc i) xs))
        (subst (AppendsBeginning b.held c.held) is written.0))),
    subst (λ (counts : WriteCounts). CountsFault fault counts c.counts) so_far.1 written.1,
  )

-- all pieces are written
module _ {A : Type 0} (f : A → List ℕ) (xs : List A) where
  pub pieces_done : (i : ℕ) (result : Result (Unit {0}) WriteFault) (a b : Writer) → length xs ≤ i
      → WritesText (flat_map f (take i xs)) result a b → WritesText (flat_map f xs) result a b
  pieces_done i result a b past wrote = subst (λ (xs : List A). WritesText (flat_map f xs) result a b) (take_all i xs past) wrote
