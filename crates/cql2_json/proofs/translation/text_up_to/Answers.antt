use Rattle.std.proofs.Common.{refl, arith, rules}
use Rattle.std.specs.Str.{IsUtf8}
use Rattle.std.proofs.lemmas.List.{length-take-le}
use Rattle.cql2_json.specs.declared.fault.JsonFlaw.TheVariants.{TooLong, Utf8}
use Rattle.cql2_json.specs.declared.translation.TheConstants.{MAX_LENGTH}
use Rattle.cql2_json.proofs.FaultLemmas.{placed}
use Rattle.cql2_json.proofs.translation.text_up_to.Goals as goal

pub slice_bounds-fault_after-end : goal.slice_bounds-fault_after-end
slice_bounds-fault_after-end g c = omega (arith, length-take-le MAX_LENGTH c.args.json.now (omega (arith, c.if-json-gt-MAX_LENGTH.true)))

pub fault_after-requires : goal.fault_after-requires
fault_after-requires g c = omega (arith, length-take-le MAX_LENGTH c.args.json.now (omega (arith, c.if-json-gt-MAX_LENGTH.true)))

pub returns-then-json-gt-MAX_LENGTH-clause-value : goal.returns-then-json-gt-MAX_LENGTH-clause-value
returns-then-json-gt-MAX_LENGTH-clause-value g c =
    placed c.args.json.now c.args.json.now c.args.limit MAX_LENGTH TooLong _ c.if-json-gt-MAX_LENGTH.true refl c.fault_after.ensures

pub returns-in-Err-clause-value : goal.returns-in-Err-clause-value
returns-in-Err-clause-value g c =
    let bad : ¬ (IsUtf8 c.args.json.now) = search rules in
    placed c.args.json.now c.args.json.now c.args.limit c.valid_up_to.result Utf8 _ bad refl c.fault_after-in-Err.ensures
