use Rattle.std.proofs.Common.{◌≡◌, ◌<◌, ◌^◌, ℕ, List, Some, ap, sym, ◌∙◌, arith}
use Rattle.tl_fields.proofs.NumberLemmas.{number_of_lt}
use Rattle.tl_fields.specs.Number.{number_of}
use Rattle.tl_records.specs.Layout.{field_at, places}
use Rattle.tl_records.proofs.record.Record+Type2.sequence.Goals as goal

small : (line : List ℕ) (n : ℕ) → Some n ≡ number_of (field_at (places 16 18) line) → n < 1000
small line n is = let short : n < 10 ^ 3 = number_of_lt line 16 18 n (sym is) in omega (arith, short)

pub overflow_cast-result : goal.overflow_cast-result
overflow_cast-result c =
    let small = small c.self.inside.line.now c.in-Some.sequence (c.in-Some.ensures.value ∙ ap number_of c.of.ensures.value) in omega (arith, small)

pub returns-clause-small : goal.returns-clause-small
returns-clause-small c = small c.self.inside.line.now c.in-Some.sequence (c.in-Some.ensures.value ∙ ap number_of c.of.ensures.value)
