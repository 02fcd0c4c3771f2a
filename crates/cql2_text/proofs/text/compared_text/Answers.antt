use Rattle.std.proofs.Common.{◌≤◌, ap, ◌∙◌, length, arith}
use Rattle.std.proofs.lemmas.Bool.Decides.{nat_tests}
use Rattle.tl_segments.specs.declared.name.TheConstants.{NAME_LENGTH}
use Rattle.cql2.specs.Column.{trim_end}
use Rattle.cql2_text.proofs.TextLemmas.{text-items}
use Rattle.cql2_text.proofs.text.compared_text.Goals as goal

pub invariant_of-result : goal.invariant_of-result
invariant_of-result g c =
    let trimmed = c.without_trailing_blanks-trimmed in
    let some : 1 ≤ length trimmed.result.now = grind (arith, nat_tests) in
    let few : length trimmed.result.now ≤ NAME_LENGTH = omega arith in
    let same = c.in_ok-bytes-2.ensures.items in
    let is = trimmed.ensures ∙ ap trim_end c.deref.ensures.value in
    record {
      is_text = text-items c.in_ok-bytes-2.bytes.items c.in_ok-bytes.bytes.items trimmed.result.now same is
          c.in_ok-bytes.ensures.ok.characters some few;
    }
