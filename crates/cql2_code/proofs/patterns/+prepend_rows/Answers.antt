use Rattle.std.proofs.Common.{◌+◌, ◌==◌, ℕ, Bool, not, length, refl, sym, ap, ◌∙◌, subst, arith, rules}
use Rattle.std.proofs.lemmas.Bool.{eqb-false}
use Rattle.cql2_code.specs.Grid.{IsLaid, Laid, lay_row}
use Rattle.cql2_code.specs.Lowering.{cell}
use Rattle.cql2_code.proofs.CutLemmas.{IsManyAndRest, first_and_rest, row_of, rows_following, rows_empty, rows_next, taken_following}
use Rattle.cql2_code.proofs.GridLemmas.{rows_length}
use Rattle.cql2_code.proofs.Laying.{laid_refused, rows_laid, rows_none, rows_refused, rows_words}
use Rattle.cql2_code.proofs.patterns.+prepend_rows.Goals as goal

pub returns-in_default : goal.returns-in_default
returns-in_default g t c =
    rw (rows_empty c.args.search.field c.args.from c.args.pattern.now c.in_default.ensures.cases) (rows_none _ _ _ _ _)

pub overflow_cast-piece : goal.overflow_cast-piece
overflow_cast-piece g t c =
    let split = first_and_rest c.in-Some.following.now c.split_at.result.0.now c.split_at.result.1.now c.first_length.result
    c.first_length.ensures.value c.split_at.ensures.front c.split_at.ensures.back in
    let cut : IsManyAndRest c.args.pattern.now c.in-Some.following.now c.split_at.result.0.now c.split_at.result.1.now = record {
      part = c.in-Some._many.now;
      is = c.in-Some.ensures.cases.0;
      begins = c.requires.begins;
      split = split;
    } in
    let takes = taken_following _ _ _ _ cut in
    let within = c.args.search.is_field.0 in
    omega arith

pub overflow_add-from : goal.overflow_add-from
overflow_add-from g t c =
    let split = first_and_rest c.in-Some.following.now c.split_at.result.0.now c.split_at.result.1.now c.first_length.result
    c.first_length.ensures.value c.split_at.ensures.front c.split_at.ensures.back in
    let cut : IsManyAndRest c.args.pattern.now c.in-Some.following.now c.split_at.result.0.now c.split_at.result.1.now = record {
      part = c.in-Some._many.now;
      is = c.in-Some.ensures.cases.0;
      begins = c.requires.begins;
      split = split;
    } in
    let takes = taken_following _ _ _ _ cut in
    let within = c.args.search.is_field.0 in
    omega arith

pub prepend_rows-requires-2 : goal.prepend_rows-requires-2
prepend_rows-requires-2 g t c κs within =
    let split = first_and_rest c.in-Some.following.now c.split_at.result.0.now c.split_at.result.1.now c.first_length.result
    c.first_length.ensures.value c.split_at.ensures.front c.split_at.ensures.back in
    let cut : IsManyAndRest c.args.pattern.now c.in-Some.following.now c.split_at.result.0.now c.split_at.result.1.now = record {
      part = c.in-Some._many.now;
      is = c.in-Some.ensures.cases.0;
      begins = c.requires.begins;
      split = split;
    } in
    let takes = taken_following _ _ _ _ cut in
    (search rules, (search rules, (split.first, (omega arith, (search rules, search rules)))))

pub returns-in_err-prepend_rows : goal.returns-in_err-prepend_rows
returns-in_err-prepend_rows g t c =
    let other = eqb-false (length c.split_at.result.0.now) 0 (sym c.is_empty.ensures ∙ c.if-is_empty.false) in
    let split = first_and_rest c.in-Some.following.now c.split_at.result.0.now c.split_at.result.1.now c.first_length.result
    c.first_length.ensures.value c.split_at.ensures.front c.split_at.ensures.back in
    let cut : IsManyAndRest c.args.pattern.now c.in-Some.following.now c.split_at.result.0.now c.split_at.result.1.now = record {
      part = c.in-Some._many.now;
      is = c.in-Some.ensures.cases.0;
      begins = c.requires.begins;
      split = split;
    } in
    let next = rows_next c.args.search.field c.args.from _ _ _ _ cut (omega arith) in
    laid_refused _ c.from_residual.result _ _ c.from_residual.ensures.1
    (rw next (rows_refused _ _ _ _ _ _ c.in_err-prepend_rows.ensures))

pub exits_before-past-requires-clause-written : goal.exits_before-past-requires-clause-written
exits_before-past-requires-clause-written g t c =
    let more = rows_words
    (rows_following c.args.search.field (c.args.from + length c.split_at.result.0.now) c.split_at.result.1.now) c.args.search.exits.falls
    c.args.search.exits.skip c.args.search.words (record { code = c.args.code.now; starts = c.args.starts.now }) in
    rw c.in_ok-prepend_rows.ensures.code (omega (arith, more))

pub prepend_cells-requires-clause-fits : goal.prepend_cells-requires-clause-fits
prepend_cells-requires-clause-fits g t c =
    let split = first_and_rest c.in-Some.following.now c.split_at.result.0.now c.split_at.result.1.now c.first_length.result
    c.first_length.ensures.value c.split_at.ensures.front c.split_at.ensures.back in
    let cut : IsManyAndRest c.args.pattern.now c.in-Some.following.now c.split_at.result.0.now c.split_at.result.1.now = record {
      part = c.in-Some._many.now;
      is = c.in-Some.ensures.cases.0;
      begins = c.requires.begins;
      split = split;
    } in
    let takes = taken_following _ _ _ _ cut in
    let below : Laid = record { code = c.args.code.now; starts = c.args.starts.now } in
    let count = rows_length
    (rows_following c.args.search.field (c.args.from + length c.split_at.result.0.now) c.split_at.result.1.now) c.args.search.exits.falls
    c.args.search.exits.skip c.args.search.words below in
    let fits = c.requires.fits in
    let same = ap length c.in_ok-prepend_rows.ensures.starts ∙ count in
    omega arith

pub returns : goal.returns
returns g t c =
    let other = eqb-false (length c.split_at.result.0.now) 0 (sym c.is_empty.ensures ∙ c.if-is_empty.false) in
    let split = first_and_rest c.in-Some.following.now c.split_at.result.0.now c.split_at.result.1.now c.first_length.result
    c.first_length.ensures.value c.split_at.ensures.front c.split_at.ensures.back in
    let cut : IsManyAndRest c.args.pattern.now c.in-Some.following.now c.split_at.result.0.now c.split_at.result.1.now = record {
      part = c.in-Some._many.now;
      is = c.in-Some.ensures.cases.0;
      begins = c.requires.begins;
      split = split;
    } in
    let next = rows_next c.args.search.field c.args.from _ _ _ _ cut (omega arith) in
    let row = λ (last more : Bool) (shift : ℕ). cell c.args.search.field c.split_at.result.0.now last more (c.args.from + shift) in
    let laid = subst (λ (last : Bool). IsLaid c.prepend_cells.result
    (lay_row (row last (not (length c.split_at.result.1.now == 0))) 0 c.prepend_rows-2.new.starts c.exits_before-past.result.skip c.prepend_rows-2.new.code)
    c.prepend_cells.new.code c.prepend_cells.new.starts) (ap (λ (n : ℕ). n == 0) c.least_length.ensures.value)
    (subst (λ (empty : Bool). IsLaid c.prepend_cells.result
    (lay_row (row (c.least_length.result == 0) (not empty)) 0 c.prepend_rows-2.new.starts c.exits_before-past.result.skip c.prepend_rows-2.new.code)
    c.prepend_cells.new.code c.prepend_cells.new.starts) c.is_empty-2.ensures c.prepend_cells.ensures) in
    rw next
    (rows_laid (row_of c.args.search.field c.args.from c.split_at.result.0.now c.split_at.result.1.now)
    (rows_following c.args.search.field (c.args.from + length c.split_at.result.0.now) c.split_at.result.1.now)
    c.args.search.exits.falls c.args.search.exits.skip c.args.search.words (record { code = c.args.code.now; starts = c.args.starts.now })
    c.prepend_rows-2.new.code c.prepend_rows-2.new.starts c.args.search.exits c.exits_before-past.result c.prepend_cells.result
    c.prepend_cells.new.code c.prepend_cells.new.starts c.in_ok-prepend_rows.ensures refl refl c.exits_before-past.ensures.before laid)
