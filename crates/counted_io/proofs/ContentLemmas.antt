-- Reading the content of a line, for readers with known and with unknown bytes.
use Rattle.std.proofs.Common.{◌≡◌, ◌≢◌, ℕ, ◌≤◌, List, [], ◌∷◌, ◌++◌, length, Option, refl, arith}
use Rattle.std.proofs.lemmas.List.{append-nil}
use Rattle.std.proofs.lemmas.List.Elements.{All-nil, All-push}
use Rattle.std.specs.Io.KnownBytes.{Consumes}
use Rattle.counted_io.specs.Content.{HasNoLineFeed}
use Rattle.counted_io.specs.ReaderWriter.{Reader}
use Rattle.counted_io.proofs.KnownBytesLemmas.{Consumes-refl, Consumes-append}

-- the bytes of a line read so far
pub record IsSoFar (content : List ℕ) (old new : Reader) : Type 0 where
  pub same : new.failed ≡ old.failed
  pub no_line_feed : HasNoLineFeed content
  pub short : length content ≤ 230
  pub taken : Consumes old.left new.left content

pub none_so_far : (content : List ℕ) (input : Reader) → content ≡ [] → IsSoFar content input input
none_so_far content input e = rw e (record {
  same = refl;
  no_line_feed = All-nil (λ b. b ≢ 10);
  short = omega arith;
  taken = Consumes-refl input.left;
})

-- one more byte that is not a line feed
pub one_more : (content : List ℕ) {byte : ℕ} (bytes now left : Option (List ℕ)) → HasNoLineFeed content → Consumes bytes now content
    → byte ≢ 10 → Consumes now left (byte ∷ []) → HasNoLineFeed (content ++ byte ∷ []) × Consumes bytes left (content ++ byte ∷ [])
one_more content bytes now left p taken q read =
    (All-push (λ b. b ≢ 10) content _ p q, Consumes-append bytes now left content _ taken read)

-- a read that returned no byte
pub no_more : (content : List ℕ) (bytes now left : Option (List ℕ)) → Consumes bytes now content → Consumes now left []
    → Consumes bytes left content
no_more content bytes now left taken read =
    rw append-nil at (Consumes-append bytes now left content [] taken read)
