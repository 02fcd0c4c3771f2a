use Rattle.std.proofs.Common.{sym, ap, ◌∙◌}
use Rattle.cql2_code.proofs.PatternLemmas.{ends_filled-last_byte, is_last_byte_filled}
use Rattle.cql2_code.proofs.texts.is_filled.Goals as goal

pub returns-in-Some : goal.returns-in-Some
returns-in-Some c = sym (ends_filled-last_byte c.args.bytes.now ∙ ap is_last_byte_filled (sym c.in-Some.ensures.value))
