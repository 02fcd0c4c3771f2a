use Rattle.std.proofs.Common.{refl, arith}
use Rattle.std.proofs.lemmas.List.{length-take-le}
use Rattle.cql2_text.specs.declared.reader.TheConstants.{MAX_TEXT_LENGTH}
use Rattle.cql2_text.proofs.PlaceLemmas.{placed_after}
use Rattle.cql2_text.proofs.reader.read.Goals as goal

pub slice_bounds-fault_after-end : goal.slice_bounds-fault_after-end
slice_bounds-fault_after-end g c = omega (arith, length-take-le MAX_TEXT_LENGTH c.args.text.now (omega (arith, c.if-text-gt-MAX_TEXT_LENGTH.true)))

pub fault_after-requires : goal.fault_after-requires
fault_after-requires g c = omega (arith, length-take-le MAX_TEXT_LENGTH c.args.text.now (omega (arith, c.if-text-gt-MAX_TEXT_LENGTH.true)))

pub returns-then-text-gt-MAX_TEXT_LENGTH-clause-err : goal.returns-then-text-gt-MAX_TEXT_LENGTH-clause-err
returns-then-text-gt-MAX_TEXT_LENGTH-clause-err g c = placed_after c.args.text.now _ MAX_TEXT_LENGTH _ _ refl c.fault_after.ensures

pub returns-in-Err-clause-err : goal.returns-in-Err-clause-err
returns-in-Err-clause-err g c = placed_after c.args.text.now _ c.valid_up_to.result _ _ refl c.fault_after-in-Err.ensures
