-- The names of months and days have three letters.
use Rattle.std.proofs.Common.{◌≡◌, ℕ, zero, suc, ◌+◌, ◌%◌, ◌<◌, List, [], ◌∷◌, get_or, refl, arith}
use Rattle.std.specs.Int.{IsInRange}
use Rattle.httpdate.specs.Calendar.{weekday}
use Rattle.httpdate.specs.Text.{day_name, month_name}

abbrev three : List ℕ → List ℕ
three xs = get_or xs 0 0 ∷ get_or xs 1 0 ∷ get_or xs 2 0 ∷ []

pub month_letters : (mon : ℕ) → IsInRange 1 12 mon → month_name mon ≡ three (month_name mon)
month_letters (suc zero) within = refl
month_letters (suc (suc zero)) within = refl
month_letters (suc (suc (suc zero))) within = refl
month_letters (suc (suc (suc (suc zero)))) within = refl
month_letters (suc (suc (suc (suc (suc zero))))) within = refl
month_letters (suc (suc (suc (suc (suc (suc zero)))))) within = refl
month_letters (suc (suc (suc (suc (suc (suc (suc zero))))))) within = refl
month_letters (suc (suc (suc (suc (suc (suc (suc (suc zero)))))))) within = refl
month_letters (suc (suc (suc (suc (suc (suc (suc (suc (suc zero))))))))) within = refl
month_letters (suc (suc (suc (suc (suc (suc (suc (suc (suc (suc zero)))))))))) within = refl
month_letters (suc (suc (suc (suc (suc (suc (suc (suc (suc (suc (suc zero))))))))))) within = refl
month_letters (suc (suc (suc (suc (suc (suc (suc (suc (suc (suc (suc (suc zero)))))))))))) within = refl
month_letters zero within = absurd (omega arith)
month_letters (suc (suc (suc (suc (suc (suc (suc (suc (suc (suc (suc (suc (suc mon))))))))))))) within = absurd (omega arith)

letters : (n : ℕ) → n < 7 → day_name (n + 1) ≡ three (day_name (n + 1))
letters zero within = refl
letters (suc zero) within = refl
letters (suc (suc zero)) within = refl
letters (suc (suc (suc zero))) within = refl
letters (suc (suc (suc (suc zero)))) within = refl
letters (suc (suc (suc (suc (suc zero))))) within = refl
letters (suc (suc (suc (suc (suc (suc zero)))))) within = refl
letters (suc (suc (suc (suc (suc (suc (suc n))))))) within = absurd (omega arith)

pub day_letters : (wday days : ℕ) → wday ≡ weekday days → day_name wday ≡ three (day_name wday)
day_letters wday days is = rw is (letters ((days + 3) % 7) (omega arith))
