use Rattle.http_service.proofs.DateLemmas.{day_letters, month_letters}
use Rattle.http_service.proofs.line.date_and_time.Goals as goal

pub returns-clause-value : goal.returns-clause-value
returns-clause-value c =
    let date = c.args.date in
    rw (c.to_bytes-text.ensures, day_letters _ _ date.right_day, month_letters _ date.civil.1)
