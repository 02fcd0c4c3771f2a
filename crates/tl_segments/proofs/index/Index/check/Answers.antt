use Rattle.tl_segments.proofs.index.Index.check.Goals as goal

pub returns-clause-ok : goal.returns-clause-ok
returns-clause-ok g c =
    let rt4 = c.in_ok-read_file.ensures.ok in
    let rt5 = c.in_ok-read_file-2.ensures.ok in
    let rt6 = c.in_ok-read_file-3.ensures.ok in
    (record { rt4 = rt4.0; rt5 = rt5.0; rt6 = rt6.0 }, record { rt4 = rt4.2; rt5 = rt5.2; rt6 = rt6.2 })
