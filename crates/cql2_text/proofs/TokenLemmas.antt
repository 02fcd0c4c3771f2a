-- Tokens of which the first is known.
use Rattle.std.proofs.Common.{◌≡◌, List, ◌∷◌, ap, ◌∙◌}
use Rattle.cql2.specs.declared.column.Column.{Column as AColumn}
use Rattle.cql2_tokens.specs.declared.token.Keyword.{Keyword as AKeyword}
use Rattle.cql2_tokens.specs.declared.token.Sign.{Sign as ASign}
use Rattle.cql2_tokens.specs.declared.token.Token.{Token}
use Rattle.cql2_tokens.specs.declared.token.Token.TheVariants.{Column, Keyword, Sign}

pub first-is : (words rest : List Token) (first known : Token) → words ≡ first ∷ rest → first ≡ known → words ≡ known ∷ rest
first-is words rest first known is same = is ∙ ap (λ (t : Token). t ∷ rest) same

pub word-is : (words rest : List Token) (first : Token) (found known : AKeyword) → words ≡ first ∷ rest → first ≡ Keyword found
    → found ≡ known → words ≡ Keyword known ∷ rest
word-is words rest first found known is keyword same =
    first-is words rest first (Keyword known) is (keyword ∙ ap (λ (k : AKeyword). Keyword k) same)

pub sign-is : (words rest : List Token) (first : Token) (found known : ASign) → words ≡ first ∷ rest → first ≡ Sign found
    → found ≡ known → words ≡ Sign known ∷ rest
sign-is words rest first found known is sign same =
    first-is words rest first (Sign known) is (sign ∙ ap (λ (s : ASign). Sign s) same)

pub column-is : (words rest : List Token) (first : Token) (found known : AColumn) → words ≡ first ∷ rest → first ≡ Column found
    → found ≡ known → words ≡ Column known ∷ rest
column-is words rest first found known is column same =
    first-is words rest first (Column known) is (column ∙ ap (λ (k : AColumn). Column k) same)
