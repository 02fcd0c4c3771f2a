use Rattle.std.proofs.Common.{not, sym, ap, ◌∙◌}
use Rattle.cql2_code.specs.Lowering.{is_filled}
use Rattle.cql2_code.proofs.PatternLemmas.{ends_filled-last, is_last_filled}
use Rattle.cql2_code.proofs.pieces.ends_filled.Goals as goal

pub returns-in-Some-Exactly : goal.returns-in-Some-Exactly
returns-in-Some-Exactly c = sym
    (ends_filled-last c.args.piece.now ∙ ap is_last_filled (sym c.in-Some-Exactly.ensures.value)
    ∙ ap is_filled c.in-Some-Exactly.field-0-is)

pub returns-in-Some-Alike : goal.returns-in-Some-Alike
returns-in-Some-Alike c =
    ap not c.is_alike.ensures
    ∙ sym
    (ends_filled-last c.args.piece.now ∙ ap is_last_filled (sym c.in-Some-Alike.ensures.value)
    ∙ ap is_filled c.in-Some-Alike.field-0-is)

pub returns-in-Some-One : goal.returns-in-Some-One
returns-in-Some-One c = sym
    (ends_filled-last c.args.piece.now ∙ ap is_last_filled (sym c.in-Some-One.ensures.value) ∙ ap is_filled c.in-Some-One.field-0-is)

pub returns-in-Some-Many : goal.returns-in-Some-Many
returns-in-Some-Many c = sym
    (ends_filled-last c.args.piece.now ∙ ap is_last_filled (sym c.in-Some-Many.ensures.value) ∙ ap is_filled c.in-Some-Many.field-0-is)
