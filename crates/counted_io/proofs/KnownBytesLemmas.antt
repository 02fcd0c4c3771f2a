-- The effect of several consecutive reads or writes on known bytes.
use Rattle.std.proofs.Common.{ℕ, ◌+◌, List, [], ◌++◌, length, take, drop, Option, None, Some, sym, ◌∙◌, ap, append_assoc, refl}
use Rattle.std.proofs.Math.Seq.{take-add, take-append-add}
use Rattle.std.proofs.lemmas.List.{append-nil}
use Rattle.std.specs.Io.KnownBytes.{Appends, Consumes, Keeps}
use Rattle.counted_io.specs.Writing.{AppendsBeginning}

-- with no write, no byte was appended
pub Appends-refl : (known : Option (List ℕ)) → Appends known known []
Appends-refl None = tt
Appends-refl (Some xs) = sym (append-nil xs)

-- a write followed by another
pub Appends-append : (a b c : Option (List ℕ)) (xs ys : List ℕ) → Appends a b xs → Appends b c ys → Appends a c (xs ++ ys)
Appends-append None b c xs ys first second = tt
Appends-append (Some us) None c xs ys first second = absurd first
Appends-append (Some us) (Some vs) None xs ys first second = absurd second
Appends-append (Some us) (Some vs) (Some ws) xs ys first second =
    second ∙ ap (λ front. front ++ ys) first ∙ append_assoc us xs ys

-- with no read, no byte was taken
pub Consumes-refl : (known : Option (List ℕ)) → Consumes known known []
Consumes-refl None = tt
Consumes-refl (Some xs) = refl

-- a read followed by another
pub Consumes-append : (a b c : Option (List ℕ)) (xs ys : List ℕ) → Consumes a b xs → Consumes b c ys → Consumes a c (xs ++ ys)
Consumes-append None b c xs ys first second = tt
Consumes-append (Some us) None c xs ys first second = absurd first
Consumes-append (Some us) (Some vs) None xs ys first second = absurd second
Consumes-append (Some us) (Some vs) (Some ws) xs ys first second =
    first ∙ ap (λ rest. xs ++ rest) second ∙ sym (append_assoc xs ys ws)

-- a failed read consumed no byte
pub Consumes-from_keeps : (a b : Option (List ℕ)) → Keeps a b → Consumes a b []
Consumes-from_keeps None b preserved = tt
Consumes-from_keeps (Some us) None preserved = absurd preserved
Consumes-from_keeps (Some us) (Some vs) preserved = sym preserved

module _ (old now new : Option (List ℕ)) where
  -- a further piece of a text was written
  pub Appends-further : (text : List ℕ) (count more : ℕ) → Appends old now (take count text)
      → Appends now new (take more (drop count text)) → Appends old new (take (count + more) text)
  Appends-further text count more so_far next =
      rw take-add (Appends-append old now new (take count text) (take more (drop count text)) so_far next)

  -- a beginning of the text that follows was written
  pub AppendsBeginning-further : (text more : List ℕ) → Appends old now text → AppendsBeginning now new more
      → AppendsBeginning old new (text ++ more)
  AppendsBeginning-further text more so_far next = record {
    count = length text + next.count;
    appends = rw take-append-add (Appends-append old now new text (take next.count more) so_far next.appends);
  }
