use Rattle.std.proofs.Common.{◌≤◌, List}
use Rattle.bpf_insn.specs.Code.{word_count}
use Rattle.bpf_insn.specs.declared.instruction.Insn.{Insn}
use Rattle.cql2.specs.declared.filter.Filter.{size-Filter}
use Rattle.cql2_code.specs.Layout.{Writes}
use Rattle.cql2_code.specs.Lowering.{asks_whether}
use Rattle.cql2_code.proofs.compiler.+prepend_filter.Given as goal

-- once the current filter's question is written, so is that of the first filter
abbrev pub invariant-loop-filter : goal.invariant-loop-filter
invariant-loop-filter g l = record {
  smaller : size-Filter _ l.filter ≤ size-Filter _ l.fn.filter;
  inside : l.exits.skip ≤ word_count l.code;
  written : (all : List Insn) → Writes (asks_whether l.filter l.asked) l.exits l.code all
      → Writes (asks_whether l.fn.filter l.fn.asked) l.fn.exits l.fn.code all;
}
