-- What a run of a filter's program does at loads: a chunk of the record is loaded as its number.
use Rattle.std.proofs.Common.{◌≡◌, ℕ, ◌+◌, ◌≤◌, pos, Bool, true, false, List, length, Some, Result, Ok, if◌then◌else◌, refl, ap, ◌∙◌, arith}
use Rattle.std.proofs.lemmas.Bool.{false≢true}
use Rattle.bpf_insn.specs.declared.value.Value.{Value}
use Rattle.bpf_insn.specs.declared.value.Value.TheVariants as value
use Rattle.bpf_meaning.specs.declared.effect.Change.TheVariants.{SetRegister}
use Rattle.cql2_code.specs.Layout.{into_result}
use Rattle.std.proofs.Common.{map, take, drop}
use Rattle.std.proofs.Common.{rules}
use Rattle.std.proofs.lemmas.List.{drop-map, length-map, take-map}
use Rattle.bpf_insn.specs.Frame.{Byte, number_of}
use Rattle.bpf_insn.specs.declared.instruction.LoadFormat.TheVariants as format
use Rattle.bpf_meaning.specs.Effect.{lie_within, load_bytes, load_number, set_register, ◌>>=◌}
use Rattle.bpf_meaning.specs.declared.cause.Cause.{Cause}
use Rattle.cql2_code.specs.Layout.{load, load_format}
use Rattle.cql2_code.specs.Question.{bytes_value, chunk_length}
use Rattle.cql2_code.specs.declared.question.Chunk.{Chunk}
use Rattle.cql2_code.specs.declared.question.Chunk.TheVariants.{Byte as OneByte, Word, DoubleWord}
use Rattle.cql2_code.proofs.Operands.{number_of-bytes}
use Rattle.cql2_code.proofs.Steps.{with_0, Does, Scratch, Setting, changes}

inside : (i count whole : ℕ) → i + count ≤ whole → lie_within (pos (0 + i)) count whole ≡ true
inside i count whole within = search rules

if_true : {A : Type 0} (test : Bool) (x y : A) → test ≡ true → (if test then x else y) ≡ x
if_true true x y is = refl
if_true false x y is = absurd (false≢true is)

-- the number formed by the bytes at an offset
part : (bytes : List ℕ) (i count : ℕ)
    → number_of (take count (drop (0 + i) (map Byte bytes))) ≡ Some (bytes_value (take count (drop i bytes)))
part bytes i count =
    let e : 0 + i ≡ i = omega arith in
    ap (λ (n : ℕ). number_of (take count (drop n (map Byte bytes)))) e
    ∙ ap (λ l. number_of (take count l)) (drop-map Byte i bytes) ∙ ap number_of (take-map Byte count (drop i bytes))
    ∙ number_of-bytes (take count (drop i bytes))

abbrev pub chunk_number : Chunk → List ℕ → ℕ → ℕ
chunk_number chunk bytes i = bytes_value (take (chunk_length chunk) (drop i bytes))

loaded : (chunk : Chunk) (bytes : List ℕ) (i : ℕ) → i + chunk_length chunk ≤ length bytes
    → load_bytes (load_format chunk) (map Byte bytes) (pos (0 + i)) ≡ Ok (value.Number (chunk_number chunk bytes i))
loaded OneByte bytes i within =
    let long = length-map bytes Byte in
    if_true (lie_within (pos (0 + i)) 1 (length (map Byte bytes))) _ _ (inside i 1 (length (map Byte bytes)) (omega arith))
    ∙ ap (load_number format.Byte) (part bytes i 1)
loaded Word bytes i within =
    let long = length-map bytes Byte in
    if_true (lie_within (pos (0 + i)) 4 (length (map Byte bytes))) _ _ (inside i 4 (length (map Byte bytes)) (omega arith))
    ∙ ap (load_number format.Word) (part bytes i 4)
loaded DoubleWord bytes i within =
    let long = length-map bytes Byte in
    if_true (lie_within (pos (0 + i)) 8 (length (map Byte bytes))) _ _ (inside i 8 (length (map Byte bytes)) (omega arith))
    ∙ ap (load_number format.DoubleWord) (part bytes i 8)

pub loads : (on : Setting) (from : Scratch) (chunk : Chunk) (i : ℕ) → i + chunk_length chunk ≤ length on.segment.bytes
    → Does on (load chunk i) from (with_0 from (chunk_number chunk on.segment.bytes i))
loads on from chunk i within =
    let number = chunk_number chunk on.segment.bytes i in
    changes on (load chunk i) (SetRegister into_result (value.Number number)) from (with_0 from number)
    (λ place. ap (λ (r : Result Value Cause). r >>= set_register on.code (place + 1) into_result) (loaded chunk on.segment.bytes i within))
    (λ place next. refl)
