-- Registers by their numbers.
use Rattle.std.proofs.Common.{◌≡◌, ℕ, suc, zero, ◌≤◌, ◌++◌, nat_le, Bool, true, false, Some, decimal, refl, sym, ◌∙◌, ap, arith}
use Rattle.std.specs.Fmt.{digits}
use Rattle.std.specs.Prelude.{codes}
use Rattle.std.proofs.lemmas.Bool.{le-leb, false≢true}
use Rattle.bpf_insn.proofs.SpellingLemmas.{same_register, same_writable}
use Rattle.bpf_insn.specs.declared.register.Register.{Register}
use Rattle.bpf_insn.specs.declared.register.WritableRegister.{WritableRegister}
use Rattle.bpf_assembler.specs.Operand.{register_at, register_if, register_name, writable_at, writable_if}

register_if-same : (r : Register) (test : Bool) (is : nat_le r.number 10 ≡ test) → register_if r.number test is ≡ Some r
register_if-same r true is = ap Some (same_register _ r refl)
register_if-same r false is = absurd (false≢true (sym is ∙ le-leb r.number 10 r.in_range))

-- a register is found by its number
pub register_at-same : (r : Register) → register_at r.number ≡ Some r
register_at-same r = register_if-same r _ refl

writable_if-same : (r : WritableRegister) (test : Bool) (is : nat_le r.number 9 ≡ test) → writable_if r.number test is ≡ Some r
writable_if-same r true is = ap Some (same_writable _ r refl)
writable_if-same r false is = absurd (false≢true (sym is ∙ le-leb r.number 9 r.in_range))

pub writable_at-same : (r : WritableRegister) → writable_at r.number ≡ Some r
writable_at-same r = writable_if-same r _ refl

-- a register's name is `r` and its number
pub register-named : (number : ℕ) → number ≤ 10 → register_name number ≡ codes "r" ++ decimal number
unfolding digits
register-named zero within = refl
register-named (suc zero) within = refl
register-named (suc (suc zero)) within = refl
register-named (suc (suc (suc zero))) within = refl
register-named (suc (suc (suc (suc zero)))) within = refl
register-named (suc (suc (suc (suc (suc zero))))) within = refl
register-named (suc (suc (suc (suc (suc (suc zero)))))) within = refl
register-named (suc (suc (suc (suc (suc (suc (suc zero))))))) within = refl
register-named (suc (suc (suc (suc (suc (suc (suc (suc zero)))))))) within = refl
register-named (suc (suc (suc (suc (suc (suc (suc (suc (suc zero))))))))) within = refl
register-named (suc (suc (suc (suc (suc (suc (suc (suc (suc (suc zero)))))))))) within = refl
register-named (suc (suc (suc (suc (suc (suc (suc (suc (suc (suc (suc n))))))))))) within = absurd (omega arith)
