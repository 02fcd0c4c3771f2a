use Rattle.std.proofs.Common.{◌≡◌, ℕ, ◌+◌, ◌-◌, ◌*◌, ℤ, pos, negsuc, ◌-ℤ◌, ◌*ℤ◌, take, drop, ap, ◌∙◌, arith, of_z, rules, to_z, w16, w32}
use Rattle.std.proofs.lemmas.Int.{ints, to_z-of_z}
use Rattle.std.specs.Prelude.{FitsSigned}
use Rattle.bpf_insn.specs.declared.instruction.Insn.TheVariants.{StoreImmediate}
use Rattle.bpf_insn.specs.declared.instruction.StoreSize.TheVariants as store
use Rattle.bpf_insn.specs.declared.register.Register.{Register}
use Rattle.cql2_code.specs.Layout.{from_frame}
use Rattle.cql2_code.specs.Question.{bytes_value}
use Rattle.cql2_code.proofs.instructions.store_word.Goals as goal

pub returns : goal.returns
returns c =
    let word = c.args.word in
    let name = c.args.name.now in
    let factor = to_z w16 (of_z w16 c.from.result) in
    let product = to_z w16 (of_z w16 (factor *ℤ pos 4)) in
    let difference = to_z w16 (of_z w16 (product -ℤ pos 32)) in
    let offset : difference ≡ negsuc (31 - 4 * word) = omega (arith, ints) in
    let stored = to_z w32 (of_z w32 c.signed_word.result) in
    let fits : FitsSigned w32 c.signed_word.result = search rules in
    let at : c.from-from.result * 4 ≡ 4 * word = omega arith in
    let count : c.from-from.result * 4 + 4 - c.from-from.result * 4 ≡ 4 = omega arith in
    let number =
    to_z-of_z w32 c.signed_word.result fits ∙ c.signed_word.ensures
    ∙ ap (λ (n : ℕ). to_z w32 (bytes_value (take n (drop (c.from-from.result * 4) name)))) count
    ∙ ap (λ (n : ℕ). to_z w32 (bytes_value (take 4 (drop n name)))) at in
    ap (λ (base : Register). StoreImmediate store.Word base difference stored) c.from_frame.ensures
    ∙ ap (λ (z : ℤ). StoreImmediate store.Word from_frame z stored) offset
    ∙ ap (λ (z : ℤ). StoreImmediate store.Word from_frame (negsuc (31 - 4 * word)) z) number
