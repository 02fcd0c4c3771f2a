use Rattle.bpf_verify.proofs.StateLaws as laws
use Rattle.bpf_verify.proofs.laws.states_form_a_lattice.Goals as goal

pub returns-clause-reflexive : goal.returns-clause-reflexive
returns-clause-reflexive c = laws.reflexive

pub returns-clause-transitive : goal.returns-clause-transitive
returns-clause-transitive c = laws.transitive

pub returns-clause-antisymmetric : goal.returns-clause-antisymmetric
returns-clause-antisymmetric c = laws.antisymmetric

pub returns-clause-join_is_proper : goal.returns-clause-join_is_proper
returns-clause-join_is_proper c = laws.join_is_proper

pub returns-clause-left_below_join : goal.returns-clause-left_below_join
returns-clause-left_below_join c = laws.left_is_within_join

pub returns-clause-right_below_join : goal.returns-clause-right_below_join
returns-clause-right_below_join c = laws.right_is_within_join

pub returns-clause-join_is_least : goal.returns-clause-join_is_least
returns-clause-join_is_least c = laws.join_is_least

pub returns-clause-admits_more : goal.returns-clause-admits_more
returns-clause-admits_more c = laws.admits_more
