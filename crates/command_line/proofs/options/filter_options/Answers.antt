use Rattle.std.proofs.Common.{codes, ◌∙◌}
use Rattle.std.proofs.lemmas.Result.{err_from_is_err_and}
use Rattle.command_line.proofs.ValueLemmas.{either_fails, first_value_in}
use Rattle.command_line.proofs.options.filter_options.Goals as goal

pub returns-in_err-filter_options-clause-value : goal.returns-in_err-filter_options-clause-value
returns-in_err-filter_options-clause-value c =
    let matches = c.args.matches.now in
    let language = c.get_str-language.ensures ∙ first_value_in matches (codes "filter-lang") in
    let score = c.get_str-score.ensures ∙ first_value_in matches (codes "score") in
    let returned = err_from_is_err_and c.from_residual.result c.from_residual.ensures.1 in
    rw (returned.1, returned.2) (either_fails _ _ _ (rw (language, score) at c.in_err-filter_options.ensures), λ is. let bad = is in cc)
