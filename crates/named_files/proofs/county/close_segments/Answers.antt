use Rattle.std.proofs.Common.{◌∙◌}
use Rattle.named_files.proofs.county.close_segments.Goals as goal

pub returns : goal.returns
returns g c = record {
  stays = λ name.
      c.close_file-4.ensures.stays name ∙ c.close_file-3.ensures.stays name ∙ c.close_file-2.ensures.stays name ∙ c.close_file.ensures.stays name;
  opens = c.close_file-4.ensures.opens ∙ c.close_file-3.ensures.opens ∙ c.close_file-2.ensures.opens ∙ c.close_file.ensures.opens;
  reads = record {
    after_rt1 = (g.F.Files.disk c.close_file.new.files).failed_reads;
    rt1 = c.close_file.ensures.reads;
    after_rt4 = (g.F.Files.disk c.close_file-2.new.files).failed_reads;
    rt4 = c.close_file-2.ensures.reads;
    after_rt5 = (g.F.Files.disk c.close_file-3.new.files).failed_reads;
    rt5 = c.close_file-3.ensures.reads;
    rt6 = c.close_file-4.ensures.reads;
  };
}
