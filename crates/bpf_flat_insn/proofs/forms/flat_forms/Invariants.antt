use Rattle.bpf_flat_insn.specs.Flat.{AreFlatForms}
use Rattle.bpf_flat_insn.proofs.forms.flat_forms.Given as goal

-- the flat forms of the instructions so far
abbrev pub invariant-loop-index : goal.invariant-loop-index
invariant-loop-index g l = AreFlatForms l.flow.code l.areas l.index l.flats.items
