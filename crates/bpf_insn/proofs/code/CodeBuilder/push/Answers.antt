use Rattle.std.proofs.Common.{◌≡◌, ◌≤◌, ◌+◌, ◌++◌, ◌∷◌, [], ℕ, arith, ◌∙◌, sym, ap, length}
use Rattle.bpf_insn.specs.Code.{word_count}
use Rattle.bpf_insn.specs.Form.{spelling}
use Rattle.bpf_insn.specs.Table.{indexes_in}
use Rattle.bpf_insn.specs.declared.code.TheConstants.{MAX_WORDS}
use Rattle.bpf_insn.proofs.PlaceLemmas.{all_grow, few_instructions, grown}
use Rattle.bpf_insn.proofs.code.CodeBuilder.push.Goals as goal

pub overflow_cast-len : goal.overflow_cast-len
overflow_cast-len g c = let few = few_instructions c.self.inside.instructions.items in let within = c.self.invariant.2 in
    omega (arith, c.len.ensures, ap length c.reserve.ensures.items)

pub invariant_of-self-2 : goal.invariant_of-self-2
invariant_of-self-2 g c =
    let at : c.words-place.result ≡ word_count c.self.inside.instructions.items =
    c.words-place.ensures ∙ sym (ap word_count c.self.view_is) in
    let seen = ap length c.reserve.ensures.items in
    let counted : c.len.result ≡ length c.self.inside.instructions.items = omega (arith, c.len.ensures) in
    let fits : word_count c.self.inside.instructions.items + length (spelling c.args.insn) ≤ MAX_WORDS =
    omega (arith, at, c.words.ensures, c.if-place-words.false, c.self.invariant.2) in
    all_grow c.args.insn c.self.invariant
    (record {
      code = grown _ (c.reserve.ensures.items, c.push_reserved-2.ensures.items);
      places = grown _ (c.reserve-2.ensures.items, c.push_reserved.ensures.items)
          ∙ ap (λ (place : ℕ). c.self.inside.places.items ++ place ∷ []) at;
      indexes = c.in_ok-push_indexes.ensures.ok
          ∙ ap (λ (index : ℕ). c.self.inside.indexes.items ++ indexes_in index (spelling c.args.insn)) counted;
    })
    fits
