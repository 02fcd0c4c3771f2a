-- The conversions between program text and program bytes.
use Rattle.std.specs.Prelude.{◌≡◌, ℕ, List, IsUtf8}
use Rattle.bpf_insn.specs.Code.{IsCodeOf}
use Rattle.bpf_insn.specs.declared.instruction.Insn.{Insn}
use Rattle.bpf_text.specs.CodeText.{text_of}
use Rattle.bpf_assembler.specs.Text.{Means}

-- The source is UTF-8 and means a code, whose instruction words are `words`.
pub record IsAssembled (source words : List ℕ) : Type 0 where
  pub is_text : IsUtf8 source
  pub code : List Insn
  pub means : Means source code
  pub are_words : IsCodeOf words code

-- The program has a code, `text` is this code's text, and the text means the code.
pub record IsDisassembled (program text : List ℕ) : Type 0 where
  pub code : List Insn
  pub is_code : IsCodeOf program code
  pub is_text : text ≡ text_of code
  pub means : Means text code
