use Rattle.std.proofs.Common.{◌<◌, ◌/◌, ◌+◌, List, arith, length, refl, subst, sym}
use Rattle.std.specs.List.{All, range_with_len}
use Rattle.listing_excerpt.specs.Excerpt.{AreWordsAt}
use Rattle.listing_excerpt.specs.declared.excerpt.PlacedWord.{PlacedWord}
use Rattle.listing_excerpt.proofs.ExcerptLemmas.{within-more, words-more}
use Rattle.listing_excerpt.proofs.excerpt.read_words.Goals as goal

pub loop-index-preserved : goal.loop-index-preserved
loop-index-preserved g c =
    let word : PlacedWord = record { place = c.args.first + c.loop-index.index; insn = c.in_ok-insn.insn } in
    record {
      are = subst (λ (words : List PlacedWord). AreWordsAt c.args.program.now (range_with_len c.args.first (c.loop-index.index + 1)) words)
          (sym c.in_ok-push.ensures.items)
          (words-more c.args.program.now c.args.first c.loop-index.index c.loop-index.words.items word refl c.loop-index.invariant.are
          c.in_ok-insn.ensures);
      within = subst (λ (words : List PlacedWord). All (λ w. w.place < length c.args.program.now / 8) words) (sym c.in_ok-push.ensures.items)
          (within-more (length c.args.program.now / 8) c.loop-index.words.items word c.loop-index.invariant.within
          (omega (arith, c.requires, c.loop-index-test.true)));
    }
