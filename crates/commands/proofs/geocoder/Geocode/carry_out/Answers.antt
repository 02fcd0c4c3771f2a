use Rattle.geocode.specs.HitLine.{hit_lines}
use Rattle.commands.proofs.CarriedLemmas.{written_carried}
use Rattle.commands.proofs.geocoder.Geocode.carry_out.Goals as goal

pub returns-clause-carried : goal.returns-clause-carried
returns-clause-carried g c =
    written_carried (hit_lines c.in_ok-hits.hits.items) c.write_lines.result (rw c.as_slice-3.ensures.value at c.write_lines.ensures)
    c.in-Ok.ensures.counts (λ outcome written. record {
      counties = c.in-Ok.counties.items;
      are_counties = rw c.as_slice.ensures.value at c.in-Ok.ensures.ok;
      written = rw (c.in_ok-hits.ensures, c.as_slice-2.ensures.value) at written;
    })
