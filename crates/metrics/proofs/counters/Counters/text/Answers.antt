use Rattle.std.proofs.Common.{ap, refl}
use Rattle.metrics.proofs.counters.Counters.text.Goals as goal

pub returns : goal.returns
returns g c =
    rw (
      c.in_ok-push_start.ensures,
      c.in_ok-push_single-2.ensures,
      c.in_ok-push_single.ensures,
      c.in_ok-push_jobs.ensures,
      c.in_ok-push_requests.ensures,
      c.new-text.ensures.items,
      c.judged.ensures,
      c.rows.ensures,
      ap (λ counters. counters.start) c.self.view_is,
    ) refl
