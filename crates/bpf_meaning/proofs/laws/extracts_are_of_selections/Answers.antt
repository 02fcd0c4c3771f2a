use Rattle.bpf_meaning.specs.Extract.{row_of}
use Rattle.bpf_meaning.proofs.ExtractLemmas.{extract_selection, one_selection_lem, same_count, selection_extract, some_selection}
use Rattle.bpf_meaning.proofs.laws.extracts_are_of_selections.Goals as goal

pub returns-clause-texts : goal.returns-clause-texts
returns-clause-texts c = extract_selection

pub returns-clause-extract : goal.returns-clause-extract
returns-clause-extract c = selection_extract

pub returns-clause-count : goal.returns-clause-count
returns-clause-count c = λ text_of code. same_count code text_of row_of

pub returns-clause-some : goal.returns-clause-some
returns-clause-some c = λ code segments safe. some_selection code safe segments

pub returns-clause-one : goal.returns-clause-one
returns-clause-one c = one_selection_lem
