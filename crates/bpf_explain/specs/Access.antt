-- Loads and stores, and what is known about their base registers.
use Rattle.std.specs.Prelude.{ℕ, true, false, List, [], ◌++◌, codes, Option, Some, None}
use Rattle.std.specs.Fmt.{signed_decimal}
use Rattle.bpf_insn.specs.Memory.{load_length, store_length}
use Rattle.bpf_insn.specs.declared.instruction.Insn.{Insn}
use Rattle.bpf_insn.specs.declared.instruction.Insn.TheVariants.{Load, StoreImmediate, Store}
use Rattle.bpf_verify.specs.declared.abstract_state.AbstractState.{AbstractState}
use Rattle.listing_notes.specs.Notation.{fact_text}
use Rattle.bpf_explain.specs.declared.access.Access.{Access}
use Rattle.listing_notes.specs.declared.notation.Part.TheVariants.{Register}

-- the access of a load or a store: its base, the offset added to it, the number of bytes, and whether it writes
unfoldable pub access_of : Insn → Option Access
access_of (Load format destination base offset) = Some (record { base = base; offset = offset; count = load_length format; writes = false })
access_of (StoreImmediate size base offset immediate) = Some (record { base = base; offset = offset; count = store_length size; writes = true })
access_of (Store size base offset source) = Some (record { base = base; offset = offset; count = store_length size; writes = true })
access_of insn = None

abbrev pub text_if : {A : Type 0} → (A → List ℕ) → Option A → List ℕ
text_if text None = []
text_if text (Some value) = text value

-- what is known about a register
unfoldable pub register_fact : AbstractState → ℕ → List ℕ
register_fact known register = fact_text known (Register register)

unfoldable pub offset_text : Access → List ℕ
offset_text access = codes ", offset " ++ signed_decimal access.offset

-- what is known about a base, and the offset that is added
unfoldable pub access_facts : AbstractState → Access → List ℕ
access_facts known access = register_fact known access.base.number ++ offset_text access

-- what is known about the base of a load or a store; nothing for other instructions
unfoldable pub base_text : AbstractState → Insn → List ℕ
base_text known insn = text_if (λ access. register_fact known access.base.number) (access_of insn)

unfoldable pub access_text : AbstractState → Insn → List ℕ
access_text known insn = text_if (access_facts known) (access_of insn)

unfoldable pub offset_if : Insn → List ℕ
offset_if insn = text_if offset_text (access_of insn)
