use Rattle.std.proofs.Common.{ℕ, List, ◌∷◌, ◌++◌, [], ◌+◌, ◌-◌, length, ap, refl, ◌∙◌, arith}
use Rattle.extract.proofs.RowLemmas.{row_put}
use Rattle.extract.proofs.row_buffer.RowBuffer.set_digits.Goals as goal

pub returns : goal.returns
returns g c =
    let old = c.args.self.now.text.items in
    let digits = c.args.digits.now in
    let bytes = c.bytes-record.result.now in
    let start = length digits + 1 in
    let put = row_put old digits bytes start (start + length bytes - start) (start + length bytes) refl (omega arith) (omega arith)
    (omega (arith, c.len.ensures.value, c.if-len-end.false)) in
    rw (c.copy_from_slice.ensures.after, c.copy_from_slice-2.ensures.after, c.as_mut_slice-row.ensures.value)
    (put ∙ ap (λ (all : List ℕ). digits ++ 9 ∷ all ++ 10 ∷ []) c.bytes-record.ensures.value)
