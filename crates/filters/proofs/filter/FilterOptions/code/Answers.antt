use Rattle.filters.proofs.FilterLemmas.{of_compile_failure, of_json_program_failure}
use Rattle.filters.proofs.filter.FilterOptions.code.Goals as goal

pub returns-in-Text-clause-err : goal.returns-in-Text-clause-err
returns-in-Text-clause-err c =
    of_compile_failure c.args.text.now c.args.self c.in-Ok.filter c.in-Err-compile.fault c.of_compile.result c.in-Text.is c.in-Ok.ensures.ok
    c.in-Err-compile.ensures.err c.of_compile.ensures

pub returns-clause-err : goal.returns-clause-err
returns-clause-err c =
    of_json_program_failure c.args.text.now c.args.self c.in-Ok.filter c.in-Err-compile.fault c.of_json_program.result c.in-Json.is
    c.in-Ok.ensures.ok c.in-Err-compile.ensures.err c.of_json_program.ensures
