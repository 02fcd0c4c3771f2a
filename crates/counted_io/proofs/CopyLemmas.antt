-- Vectors without a line feed.
use Rattle.std.proofs.Common.{◌≡◌, ◌≢◌, ℕ, ◌==◌, ◌+◌, ◌≤◌, ◌<◌, List, length, take, get_or, map, refl, sym, ap, subst, ◌∙◌, arith, take-take}
use Rattle.std.proofs.lemmas.Bool.{eq-eqb, true≢false}
use Rattle.std.proofs.Math.Seq.{take-add}
use Rattle.std.proofs.lemmas.List.{take_all}
use Rattle.std.proofs.lemmas.List.Elements.{All-append, All-from_get_or, All-take}
use Rattle.std.proofs.lemmas.Simd.{get_or-chunk, length-chunk, length-put_chunk, none_from_empty_mask, take_more_put_chunk}
use Rattle.std.specs.Simd.Lanes.{chunk, mask_l, put_chunk}
use Rattle.counted_io.specs.Content.{HasNoLineFeed}

-- no bit of the mask of a vector's line feeds is set
pub no_line_feed_in : (bytes : List ℕ) (at n : ℕ) → at + n ≤ length bytes → mask_l (map (λ b. b == 10) (chunk at n bytes)) ≡ 0
    → HasNoLineFeed (chunk at n bytes)
no_line_feed_in bytes at n within none =
    All-from_get_or (λ b. b ≢ 10) (chunk at n bytes) 0 (λ i inside e.
    let low : i < n = (let long = length-chunk at n bytes within in omega arith) in
    let is = eq-eqb (get_or bytes (at + i) 0) 10 (sym (get_or-chunk at n bytes i 0 low) ∙ e) in
    true≢false (sym is ∙ none_from_empty_mask (λ b. b == 10) bytes at n 0 within none (at + i) (omega arith) (omega arith)))

-- the bytes of a vector after those before it
pub no_line_feed_up_to : (bytes : List ℕ) (at : ℕ) → at + 32 ≤ length bytes → HasNoLineFeed (take at bytes) → HasNoLineFeed (chunk at 32 bytes)
    → HasNoLineFeed (take (at + 32) bytes)
no_line_feed_up_to bytes at within before here =
    rw (take-add at 32 bytes) (All-append (λ b. b ≢ 10) (take at bytes) (chunk at 32 bytes) before here)

-- one vector more is copied
pub copied_more : (from to : List ℕ) (at : ℕ) → length to ≡ length from → at + 32 ≤ length from → take at to ≡ take at from
    → take (at + 32) (put_chunk at to (chunk at 32 from)) ≡ take (at + 32) from
copied_more from to at same within before =
    let long = length-chunk at 32 from within in
    take_more_put_chunk at to (chunk at 32 from) (at + 32) (omega arith) (omega arith)
    ∙ rw (before, take-add at 32 from) refl

-- what is so up to a place is so up to an earlier one
copied_less : (from to : List ℕ) (last at : ℕ) → last ≤ at → take at to ≡ take at from → take last to ≡ take last from
copied_less from to last at earlier same =
    sym (take-take last at to earlier) ∙ ap (take last) same ∙ take-take last at from earlier

-- the last vector is copied
pub all_copied : (from to : List ℕ) (last at : ℕ) → length to ≡ length from → last + 32 ≡ length from → last ≤ at → take at to ≡ take at from
    → put_chunk last to (chunk last 32 from) ≡ from
all_copied from to last at same ends earlier before =
    let all = put_chunk last to (chunk last 32 from) in
    let long = length-put_chunk last to (chunk last 32 from) in
    sym (take_all (last + 32) all (omega arith))
    ∙ copied_more from to last same (omega arith) (copied_less from to last at earlier before)
    ∙ take_all (last + 32) from (omega arith)

-- no line feed up to the last vector, nor in it
pub no_line_feed_at_all : (bytes : List ℕ) (last at : ℕ) → last + 32 ≡ length bytes → last ≤ at → HasNoLineFeed (take at bytes)
    → HasNoLineFeed (chunk last 32 bytes) → HasNoLineFeed bytes
no_line_feed_at_all bytes last at ends earlier before here =
    let front : HasNoLineFeed (take last bytes) =
    subst HasNoLineFeed (take-take last at bytes earlier) (All-take (λ b. b ≢ 10) last (take at bytes) before) in
    subst HasNoLineFeed (take_all (last + 32) bytes (omega arith)) (no_line_feed_up_to bytes last (omega arith) front here)
