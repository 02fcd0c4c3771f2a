use Rattle.std.proofs.Common.{rules, ◌≡◌, ◌∙◌, Bor, Some, None, Option, List, ℕ, drop, true, false, sym, ap}
use Rattle.std.specs.Prelude.{unwrap_or}
use Rattle.std.specs.Option.{MatchOption}
use Rattle.csv.specs.Reading.{strip_bom}
use Rattle.addresses.proofs.MarkLemmas.{is_marked, marked, unmarked}
use Rattle.addresses.proofs.text.without_mark.Goals as goal

pub returns : goal.returns
returns c = ap (λ bytes. bytes.now) c.unwrap_or.ensures ∙ stripped c.args.file c.strip_prefix.result (search rules)
  where
    stripped : (file : Bor (List ℕ)) (rest : Option (Bor (List ℕ)))
        → MatchOption rest (is_marked file.now ≡ false) (λ left. (is_marked file.now ≡ true) × (left.now ≡ drop 3 file.now))
        → (unwrap_or rest file).now ≡ strip_bom file.now
    stripped file None is = sym (unmarked file.now is)
    stripped file (Some left) is = is.1 ∙ sym (marked file.now is.0)
