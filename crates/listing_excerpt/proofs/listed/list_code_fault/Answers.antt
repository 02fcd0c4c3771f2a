use Rattle.std.proofs.Common.{subst}
use Rattle.bpf_insn.specs.Code.{IsFirstFault}
use Rattle.listing_excerpt.proofs.PlaceLemmas.{word-within}
use Rattle.listing_excerpt.proofs.listed.list_code_fault.Goals as goal

pub list_word_fault-requires : goal.list_word_fault-requires
list_word_fault-requires g c =
    word-within c.args.program.now c.in-InWord.place c.in-InWord.fault (subst (IsFirstFault c.args.program.now) c.in-InWord.is c.requires).2
