-- What it means for a numeric expression to be exact.
use Rattle.std.proofs.Common.{◌≡◌, ◌≤◌, true, nat_le}
use Rattle.std.specs.Prelude.{IsTrue}
use Rattle.std.proofs.lemmas.Bool.{and_parts, leb-true}
use Rattle.cql2.specs.Expression.{MAX_DEPTH, depth, is_bounded, is_exact}
use Rattle.cql2.specs.declared.expression.Expression.{Expression}

pub exact_bounded : {A : Type 0} (expression : Expression A) → IsTrue (is_exact expression) → is_bounded expression ≡ true
exact_bounded expression exact = (and_parts (is_bounded expression) (nat_le (depth expression) MAX_DEPTH) exact).0

pub exact_depth : {A : Type 0} (expression : Expression A) → IsTrue (is_exact expression) → depth expression ≤ MAX_DEPTH
exact_depth expression exact =
    leb-true (depth expression) MAX_DEPTH (and_parts (is_bounded expression) (nat_le (depth expression) MAX_DEPTH) exact).1
