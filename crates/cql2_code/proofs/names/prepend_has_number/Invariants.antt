use Rattle.std.proofs.Common.{◌≡◌, ◌+◌, ◌-◌}
use Rattle.bpf_insn.specs.Code.{word_count}
use Rattle.tl_segments.specs.declared.limits.TheConstants.{MAX_RANGES}
use Rattle.cql2_code.specs.Layout.{Writes}
use Rattle.cql2_code.specs.Function.{lies_from}
use Rattle.cql2_code.proofs.names.prepend_has_number.Given as goal

abbrev pub invariant-loop-range : goal.invariant-loop-range
invariant-loop-range g l =
    (l.end ≡ word_count l.fn.code) × Writes (lies_from l.house (l.range + 1) (MAX_RANGES - l.range)) l.exits l.fn.code l.code
