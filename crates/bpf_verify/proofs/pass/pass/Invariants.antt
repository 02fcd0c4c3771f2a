use Rattle.std.proofs.Common.{◌≡◌, ◌≤◌, length, take, List}
use Rattle.std.specs.Prelude.{vec_capacity}
use Rattle.bpf_verify.specs.Visit.{Visit, visited_all}
use Rattle.bpf_verify.proofs.AreaLemmas.{HaveImmediatesBefore}
use Rattle.bpf_verify.proofs.PassLemmas.{IsAnnotatedUpTo}
use Rattle.bpf_verify.proofs.pass.pass.Given as goal

-- an annotation is good up to the current place of the pass and equals the kept states from there on, with the areas found and the visits shown so
-- far; the instructions that were visited have immediates, and there is room for all areas
abbrev pub invariant-loop-insn : goal.invariant-loop-insn
invariant-loop-insn g l = record {
  visits : List Visit;
  progress : IsAnnotatedUpTo l.flow.code (take l.insn-index l.flow.code) l.worklist l.areas.items visits;
  shown : l.visitor ≡ visited_all g.V.Visitor.visited l.initial.visitor visits;
  immediates : HaveImmediatesBefore l.flow.code l.insn-index;
  room : length l.flow.code ≤ vec_capacity l.areas;
}
