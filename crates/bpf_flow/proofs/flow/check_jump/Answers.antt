use Rattle.std.proofs.Common.{◌≡◌, ◌<◌, ◌∙◌, pos, sym, None, arith}
use Rattle.std.proofs.lemmas.Int.{ints}
use Rattle.bpf_insn.specs.Code.{instruction_at, word_count}
use Rattle.bpf_flow.specs.Flow.{target_of}
use Rattle.bpf_flow.proofs.FlowLemmas.{jump_within, leads_into_wide, is_nothing}
use Rattle.bpf_flow.proofs.flow.check_jump.Goals as goal

pub target_of-target-requires-clause-within : goal.target_of-target-requires-clause-within
target_of-target-requires-clause-within g c =
    let within = jump_within c.args.code.now c.args.place c.args.distance c.requires.jump in
    let sized = c.words-words.ensures.sized in omega arith

pub returns-then-is_none-clause-err : goal.returns-then-is_none-clause-err
returns-then-is_none-clause-err g c =
    let fits = c.ranges.distance in
    let leads = c.target_of-target.ensures in
    let at : target_of c.args.place c.args.distance ≡ pos c.target_of-target.result = omega (arith, ints) in
    let later : c.args.place < c.target_of-target.result = omega (arith, ints) in
    let within : c.target_of-target.result < word_count c.args.code.now =
    omega (arith, c.words-words.ensures.value, c.if-target-words.false) in
    let none : instruction_at c.args.code.now c.target_of-target.result ≡ None =
    sym c.at.ensures.value ∙ is_nothing c.at.result c.if-is_none.ensures in
    record {
      before = c.requires.before;
      distance = c.args.distance;
      jumps = c.requires.jump;
      flaw = leads_into_wide c.args.code.now c.args.place c.target_of-target.result c.args.distance at later within none;
    }
