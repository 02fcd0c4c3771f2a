use Rattle.std.proofs.Common.{arith, length, drop, take, ◌≤◌, ◌-◌}
use Rattle.std.proofs.lemmas.List.{length-take, length-drop}
use Rattle.bpf_meaning.proofs.MemoryLemmas.{low_fits}
use Rattle.bpf_meaning.proofs.bytes.+lowest_first.Goals as goal

pub overflow_mul-result : goal.overflow_mul-result
overflow_mul-result t c =
    let rest = take (length c.args.bytes.now - 1) (drop 1 c.args.bytes.now) in
    let short : length rest ≤ 7 = simp (length-take, length-drop) (omega arith) in
    let fits = low_fits c.lowest_first.result (length rest) c.lowest_first.ensures.fits short in
    omega (arith, fits)

pub overflow_add-result : goal.overflow_add-result
overflow_add-result t c =
    let rest = take (length c.args.bytes.now - 1) (drop 1 c.args.bytes.now) in
    let short : length rest ≤ 7 = simp (length-take, length-drop) (omega arith) in
    let fits = low_fits c.lowest_first.result (length rest) c.lowest_first.ensures.fits short in
    let byte = c.type_inv.bytes 0 in
    omega (arith, fits, byte, c.from.ensures)
