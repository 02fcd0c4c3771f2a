use Rattle.std.proofs.Common.{rules, ◌≡◌, ap, subst, pos, FitsSigned, w32, arith, ◌∙◌, IsSome, List}
use Rattle.std.proofs.lemmas.Int.{ints, to_z-of_z}
use Rattle.bpf_insn.specs.Code.{instruction_at}
use Rattle.bpf_insn.specs.declared.instruction.Insn.{Insn}
use Rattle.bpf_flow.specs.Flow.{target_of}
use Rattle.bpf_flow.proofs.FlowLemmas.{jump_leads, is_forward, target_begins}
use Rattle.bpf_flow.proofs.flow.Flow.target.Goals as goal

pub target_of-requires-clause-forward : goal.target_of-requires-clause-forward
target_of-requires-clause-forward g c =
    let fits : FitsSigned w32 c.in_ok-distance.distance = search rules in
    let leads = jump_leads c.self.inside.code c.args.place c.in_ok-at.field-0 c.in_ok-distance.distance c.self.invariant
    c.in_ok-at.ensures.value c.in_ok-distance.ensures in
    let forward = is_forward c.self.inside.code c.args.place c.in_ok-distance.distance leads in
    omega (arith, ints)

pub returns-clause-later : goal.returns-clause-later
returns-clause-later g c =
    let fits : FitsSigned w32 c.in_ok-distance.distance = search rules in
    let leads = jump_leads c.self.inside.code c.args.place c.in_ok-at.field-0 c.in_ok-distance.distance c.self.invariant
    c.in_ok-at.ensures.value c.in_ok-distance.ensures in
    let forward = is_forward c.self.inside.code c.args.place c.in_ok-distance.distance leads in
    let at = c.target_of.ensures in
    omega (arith, ints)

pub returns-clause-begins : goal.returns-clause-begins
returns-clause-begins g c =
    let fits : FitsSigned w32 c.in_ok-distance.distance = search rules in
    let leads = jump_leads c.self.inside.code c.args.place c.in_ok-at.field-0 c.in_ok-distance.distance c.self.invariant
    c.in_ok-at.ensures.value c.in_ok-distance.ensures in
    let at : pos c.target_of.result ≡ target_of c.args.place c.in_ok-distance.distance =
    c.target_of.ensures ∙ ap (target_of c.args.place) (to_z-of_z w32 c.in_ok-distance.distance fits) in
    subst (λ (code : List Insn). IsSome (instruction_at code c.target_of.result)) (ap (λ flow. flow.code) c.self.view_is)
    (target_begins c.self.inside.code c.args.place c.target_of.result c.in_ok-distance.distance leads at)
