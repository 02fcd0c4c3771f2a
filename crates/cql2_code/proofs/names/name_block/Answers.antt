use Rattle.std.proofs.Common.{List, ℕ, ◌++◌, length, drop, replicate, ap, ◌∙◌}
use Rattle.std.proofs.lemmas.List.{drop-replicate}
use Rattle.cql2_code.proofs.names.name_block.Goals as goal

pub returns : goal.returns
returns c =
    ap (λ (front : List ℕ). front ++ drop (length c.args.text.now) (replicate 32 32)) c.copy_from_slice.ensures.after
    ∙ ap (λ (rest : List ℕ). c.args.text.now ++ rest) (drop-replicate (length c.args.text.now) 32 32)
