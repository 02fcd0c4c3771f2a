-- Edges that go to the east or to the north. A line that lies beside one has no range in common with it.
use Rattle.std.proofs.Common.{◌≡◌, zero, suc, ℤ, pos, negsuc, Bool, true, false, not, refl, sym, ap, ◌∙◌, arith}
use Rattle.std.specs.Prelude.{◌-ℤ◌, ◌*ℤ◌, ◌≤ℤ◌, ◌&&◌, ◌||◌, int_lt}
use Rattle.std.proofs.lemmas.Bool.{false≢true}
use Rattle.std.proofs.lemmas.Int.{ints}
use Rattle.std.proofs.Math.IntN.{zero-*ℤ}
use Rattle.cql2.specs.Geometry.{Edge, Point, are_greater, are_less, boxes_overlap, lies_beside, meets_edge, ranges_overlap, side}

abbrev pub going_east : ℤ → ℤ → ℤ → Edge
going_east west east latitude =
    record { start = record { longitude = west; latitude = latitude }; end = record { longitude = east; latitude = latitude } }

abbrev pub going_north : ℤ → ℤ → ℤ → Edge
going_north longitude south north =
    record { start = record { longitude = longitude; latitude = south }; end = record { longitude = longitude; latitude = north } }

-- sides

no_way : (a : ℤ) → a -ℤ a ≡ pos 0
no_way a = omega (arith, ints)

nothing_less : (a : ℤ) → a -ℤ pos 0 ≡ a
nothing_less a = omega (arith, ints)

side_north_of : (west east latitude : ℤ) (point : Point)
    → side (going_east west east latitude) point ≡ (east -ℤ west) *ℤ (point.latitude -ℤ latitude)
side_north_of west east latitude point =
    ap (λ (z : ℤ). (east -ℤ west) *ℤ (point.latitude -ℤ latitude) -ℤ z *ℤ (point.longitude -ℤ west)) (no_way latitude)
    ∙ ap (λ (z : ℤ). (east -ℤ west) *ℤ (point.latitude -ℤ latitude) -ℤ z) (zero-*ℤ (point.longitude -ℤ west))
    ∙ nothing_less ((east -ℤ west) *ℤ (point.latitude -ℤ latitude))

side_west_of : (longitude south north : ℤ) (point : Point)
    → side (going_north longitude south north) point ≡ pos 0 -ℤ (north -ℤ south) *ℤ (point.longitude -ℤ longitude)
side_west_of longitude south north point =
    ap (λ (z : ℤ). z *ℤ (point.latitude -ℤ south) -ℤ (north -ℤ south) *ℤ (point.longitude -ℤ longitude)) (no_way longitude)
    ∙ ap (λ (z : ℤ). z -ℤ (north -ℤ south) *ℤ (point.longitude -ℤ longitude)) (zero-*ℤ (point.latitude -ℤ south))

-- two numbers have the same sign, and neither is 0
abbrev are_beside : ℤ → ℤ → Bool
are_beside a b = are_greater a b (pos 0) || are_less a b (pos 0)

factor_positive : (a b : ℤ) → pos 0 ≤ℤ a → int_lt (pos 0) (a *ℤ b) ≡ true → int_lt (pos 0) b ≡ true
factor_positive (pos m) (pos zero) known less = let no : ⊥ = omega (arith, ints, less) in absurd no
factor_positive (pos m) (pos (suc n)) known less = grind (arith, ints)
factor_positive (pos m) (negsuc n) known less = let no : ⊥ = omega (arith, ints, less) in absurd no
factor_positive (negsuc m) b known less = let no : ⊥ = omega (arith, ints, known) in absurd no

factor_negative : (a b : ℤ) → pos 0 ≤ℤ a → int_lt (a *ℤ b) (pos 0) ≡ true → int_lt b (pos 0) ≡ true
factor_negative (pos m) (pos n) known less = let no : ⊥ = omega (arith, ints, less) in absurd no
factor_negative (pos m) (negsuc n) known less = refl
factor_negative (negsuc m) b known less = let no : ⊥ = omega (arith, ints, known) in absurd no

or_true : (a : Bool) → (a || true) ≡ true
or_true true = refl
or_true false = refl

factors_beside : (a b c : ℤ) → pos 0 ≤ℤ a → are_beside (a *ℤ b) (a *ℤ c) ≡ true → are_beside b c ≡ true
factors_beside a b c known =
    by_signs (int_lt (pos 0) (a *ℤ b)) (int_lt (pos 0) (a *ℤ c)) (int_lt (a *ℤ b) (pos 0)) (int_lt (a *ℤ c) (pos 0))
    (factor_positive a b known) (factor_positive a c known) (factor_negative a b known) (factor_negative a c known)
  where
    both_positive : int_lt (pos 0) b ≡ true → int_lt (pos 0) c ≡ true → are_beside b c ≡ true
    both_positive one two =
        ap (λ (t : Bool). (t && int_lt (pos 0) c) || are_less b c (pos 0)) one ∙ ap (λ (t : Bool). t || are_less b c (pos 0)) two

    both_negative : int_lt b (pos 0) ≡ true → int_lt c (pos 0) ≡ true → are_beside b c ≡ true
    both_negative one two =
        ap (λ (t : Bool). are_greater b c (pos 0) || (t && int_lt c (pos 0))) one ∙ ap (λ (t : Bool). are_greater b c (pos 0) || t) two
        ∙ or_true (are_greater b c (pos 0))

    by_signs : (w x y z : Bool) → (w ≡ true → int_lt (pos 0) b ≡ true) → (x ≡ true → int_lt (pos 0) c ≡ true)
        → (y ≡ true → int_lt b (pos 0) ≡ true) → (z ≡ true → int_lt c (pos 0) ≡ true) → ((w && x) || (y && z)) ≡ true
        → are_beside b c ≡ true
    by_signs true true y z one two three four either = both_positive (one refl) (two refl)
    by_signs true false true true one two three four either = both_negative (three refl) (four refl)
    by_signs true false true false one two three four either = absurd (false≢true either)
    by_signs true false false z one two three four either = absurd (false≢true either)
    by_signs false x true true one two three four either = both_negative (three refl) (four refl)
    by_signs false x true false one two three four either = absurd (false≢true either)
    by_signs false x false z one two three four either = absurd (false≢true either)

turned_beside : (a b : ℤ) → are_beside (pos 0 -ℤ a) (pos 0 -ℤ b) ≡ are_beside a b
turned_beside a b = grind (arith, ints)

apart : (a b number : ℤ) → ranges_overlap a b number number ≡ not (are_beside (a -ℤ number) (b -ℤ number))
apart a b number = grind (arith, ints)

-- lines that meet them

unless_overlap : (beside other overlap : Bool) → (beside ≡ true → overlap ≡ false) → (not beside && not other && overlap) ≡ (not other && overlap)
unless_overlap false other overlap apart = refl
unless_overlap true other true apart = absurd (false≢true (sym (apart refl)))
unless_overlap true true false apart = refl
unless_overlap true false false apart = refl

and_false : (a b : Bool) → b ≡ false → (a && b) ≡ false
and_false true b is = is
and_false false b is = refl

module _ (line : Edge) where
  pub meets_east : (west east latitude : ℤ) → west ≤ℤ east
      → meets_edge line (going_east west east latitude)
      ≡ (not (lies_beside line (going_east west east latitude)) && boxes_overlap line (going_east west east latitude))
  meets_east west east latitude ordered =
      unless_overlap (lies_beside edge line) (lies_beside line edge) (boxes_overlap line edge)
      (λ is. and_false _ _ (apart line.start.latitude line.end.latitude latitude
      ∙ ap not (factors_beside (east -ℤ west) (line.start.latitude -ℤ latitude) (line.end.latitude -ℤ latitude) (omega (arith, ints, ordered))
      (sym sides ∙ is))))
    where
      edge : Edge
      edge = going_east west east latitude

      sides : lies_beside (going_east west east latitude) line
          ≡ are_beside ((east -ℤ west) *ℤ (line.start.latitude -ℤ latitude)) ((east -ℤ west) *ℤ (line.end.latitude -ℤ latitude))
      sides =
          ap (λ (z : ℤ). are_beside z (side (going_east west east latitude) line.end)) (side_north_of west east latitude line.start)
          ∙ ap (are_beside ((east -ℤ west) *ℤ (line.start.latitude -ℤ latitude))) (side_north_of west east latitude line.end)

  pub meets_north : (longitude south north : ℤ) → south ≤ℤ north
      → meets_edge line (going_north longitude south north)
      ≡ (not (lies_beside line (going_north longitude south north)) && boxes_overlap line (going_north longitude south north))
  meets_north longitude south north ordered =
      unless_overlap (lies_beside edge line) (lies_beside line edge) (boxes_overlap line edge)
      (λ is. ap (λ (t : Bool). t && ranges_overlap line.start.latitude line.end.latitude south north)
      (apart line.start.longitude line.end.longitude longitude
      ∙ ap not (factors_beside (north -ℤ south) (line.start.longitude -ℤ longitude) (line.end.longitude -ℤ longitude) (omega (arith, ints, ordered))
      (sym (turned_beside ((north -ℤ south) *ℤ (line.start.longitude -ℤ longitude)) ((north -ℤ south) *ℤ (line.end.longitude -ℤ longitude)))
      ∙ sym sides ∙ is))))
    where
      edge : Edge
      edge = going_north longitude south north

      sides : lies_beside (going_north longitude south north) line
          ≡ are_beside (pos 0 -ℤ (north -ℤ south) *ℤ (line.start.longitude -ℤ longitude)) (pos 0 -ℤ (north -ℤ south) *ℤ (line.end.longitude -ℤ longitude))
      sides =
          ap (λ (z : ℤ). are_beside z (side (going_north longitude south north) line.end)) (side_west_of longitude south north line.start)
          ∙ ap (are_beside (pos 0 -ℤ (north -ℤ south) *ℤ (line.start.longitude -ℤ longitude))) (side_west_of longitude south north line.end)
