use Rattle.std.proofs.Common.{◌≡◌, ◌+◌, ◌-◌}
use Rattle.bpf_insn.specs.Code.{word_count}
use Rattle.cql2_code.specs.Layout.{Writes}
use Rattle.cql2_code.specs.Function.{is_named_from}
use Rattle.cql2_code.proofs.names.prepend_named.Given as goal

abbrev pub invariant-loop-name : goal.invariant-loop-name
invariant-loop-name g l =
    (l.end ≡ word_count l.fn.code) × Writes (is_named_from l.required (l.name + 1) (l.most - l.name)) l.exits l.fn.code l.code
