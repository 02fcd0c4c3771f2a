use Rattle.cql2_text.specs.Pattern.{IsLikePattern}
use Rattle.cql2_text.proofs.predicate.column_pattern.Goals as goal
use Rattle.std.proofs.Common.{◌≡◌, ℕ, sym, subst}

pub returns-in-Ok-clause-reads : goal.returns-in-Ok-clause-reads
returns-in-Ok-clause-reads g c =
    λ rest pattern is.
    let same : is.spelling ≡ c.in_ok-spelling.spelling = cc (is.spelled, c.in_ok-spelling.ensures) in
    let like = subst (λ (w : ℕ). IsLikePattern w c.args.folding c.in_ok-spelling.spelling.now pattern) (sym c.width.ensures.value)
    (rw same at is.like) in
    let rest_same : c.in_ok-spelling.rest.now ≡ rest = cc (is.spelled, c.in_ok-spelling.ensures) in
    (rest_same, c.in-Ok.ensures.reads pattern like)

pub returns-in-Err-clause-reads : goal.returns-in-Err-clause-reads
returns-in-Err-clause-reads g c =
    λ rest pattern is.
    let same : is.spelling ≡ c.in_ok-spelling.spelling = cc (is.spelled, c.in_ok-spelling.ensures) in
    let like = subst (λ (w : ℕ). IsLikePattern w c.args.folding c.in_ok-spelling.spelling.now pattern) (sym c.width.ensures.value)
    (rw same at is.like) in
    c.in_text.ensures.memory (c.in-Err.ensures.reads pattern like)
